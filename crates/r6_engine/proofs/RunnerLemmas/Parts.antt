-- Parts that stay where they are, one call after another, and none that is lost.
use Rattle.std.proofs.Common.{◌≡◌, ◌≤◌, ◌<◌, ℕ, ◌+◌, ◌++◌, ◌∷◌, [], List, Bool, true, false, Option, Some, None, length, ap, sym, subst, arith, append_assoc, ◌∙◌}
use Rattle.std.specs.Prelude.{IsPermutation, option_to_list}
use Rattle.std.proofs.lemmas.List.{append-nil, length_push, map-append}
use Rattle.r6_dev.specs.History.{Telling}
use Rattle.r6_dev.specs.Promises.{Promise}
use Rattle.r6_core.specs.Shards.{CoreView}
use Rattle.r6_shard.specs.declared.handing.PartRefusal.{PartRefusal}
use Rattle.r6_shard.specs.declared.handing.PartRefusal.TheVariants.{Looked, NoRoom}
use Rattle.r6_exchange.specs.declared.task.Part.{Part}
use Rattle.r6_shard.specs.declared.shard.Shard.{Shard}
use Rattle.r6_shard.specs.Handing.{IsRefusedFor}
use Rattle.r6_shard.specs.Performing.{Performer}
use Rattle.r6_shard.specs.Here.{HasUsed, StaysHere}
use Rattle.r6_shard.specs.Parts.{StandsIn, label_of, labels_of}
use Rattle.r6_shard.specs.declared.performs.Performs.{Ghosts}
use Rattle.r6_engine.specs.declared.runner.due.Due.{Due}
use Rattle.r6_engine.specs.declared.runner.runner.Handed.{Handed}
use Rattle.r6_engine.specs.declared.runner.runner.Runner.{Runner}
use Rattle.r6_engine.specs.runner.Parts.{KeepsOwn, KeepsParts, labels_in}
use Rattle.r6_engine.specs.runner.Runners.{IsHandedIn, IsPartTaken, IsPut}
use Rattle.r6_engine.proofs.RunnerLemmas.Done.{core-on}
use Rattle.r6_engine.proofs.RunnerLemmas.Lost.{one-behind, one-between}

pub parts-on : {P D : Type 0} {g : Ghosts P} (a b c : Runner P D g) → KeepsParts a b → KeepsParts b c → KeepsParts a c
parts-on a b c x y = record {
  labels = y.labels ∙ x.labels;
  room = y.room ∙ x.room;
  site = y.site ∙ x.site;
  handed = y.handed ∙ x.handed;
  others = y.others ∙ x.others;
  here = λ slot z. y.here slot (x.here slot z);
  window = y.window ∙ x.window;
}

pub own-on : {P D : Type 0} {g : Ghosts P} (a b c : Runner P D g) → KeepsOwn a b → KeepsOwn b c → KeepsOwn a c
own-on a b c x y = record {
  all = λ first z. y.all first (x.all first z);
  room = y.room ∙ x.room;
  site = y.site ∙ x.site;
  here = λ slot z. y.here slot (x.here slot z);
  window = y.window ∙ x.window;
}

pub own-same : {P D : Type 0} {g : Ghosts P} (old new : Runner P D g) → KeepsParts old new → KeepsOwn old new
own-same {g = g} old new k = record {
  all = λ first x.
      subst (λ (h : List Handed). IsPermutation (first ++ labels_in h) ((g.performer new.shard.parts).labels ++ labels_of new.others.items)) (sym k.handed)
      (subst (λ (l : List (ℕ × ℕ)). IsPermutation (first ++ labels_in old.handed.items) (l ++ labels_of new.others.items)) (sym k.labels)
      (subst (λ (o : List (Part _)). IsPermutation (first ++ labels_in old.handed.items) ((g.performer old.shard.parts).labels ++ labels_of o)) (sym k.others) x));
  room = k.room;
  site = k.site;
  here = k.here;
  window = k.window;
}

here-same : {P : Type 0} {g : Ghosts P} (old new : Shard P g) → new ≡ old → StaysHere old new
here-same {P = P} {g = g} old new same = λ slot x. subst (λ (s : Shard P g). HasUsed (g.performer s.parts).labels slot s.core) (sym same) x

pub put-own : {P D : Type 0} {g : Ghosts P} (old new : Runner P D g) (d : Due) → IsPut d old new → KeepsOwn old new
put-own {P = P} {g = g} old new d h = own-same old new (record {
  labels = ap (λ (s : Shard P g). (g.performer s.parts).labels) h.shard;
  room = ap (λ (s : Shard P g). (g.performer s.parts).part_room) h.shard;
  site = ap (λ (s : Shard P g). g.site s.parts) h.shard;
  handed = h.handed;
  others = h.others;
  here = here-same old.shard new.shard h.shard;
  window = ap (λ (s : Shard _ _). s.core.window) h.shard;
})

-- ---- a part came

stands-in : {D : Type 0} (part : Part D) (earlier : Option (Part D)) (back : List (Part D)) (all here here' there : List (ℕ × ℕ))
    → StandsIn part earlier here here' → back ≡ option_to_list earlier → IsPermutation all (here ++ there)
    → IsPermutation (all ++ label_of part ∷ []) (here' ++ (there ++ labels_of back))
stands-in part None back all here here' there stands is p =
    let l = label_of part in
    subst (λ (h : List (ℕ × ℕ)). IsPermutation (all ++ l ∷ []) (h ++ (there ++ labels_of back))) (sym stands)
    (subst (λ (b : List (Part _)). IsPermutation (all ++ l ∷ []) ((here ++ l ∷ []) ++ (there ++ labels_of b))) (sym is)
    (subst (λ (t : List (ℕ × ℕ)). IsPermutation (all ++ l ∷ []) ((here ++ l ∷ []) ++ t)) (sym (append-nil there))
    (one-between all here there l p)))
stands-in part (Some earlier) back all here here' there stands is p =
    let l = label_of part in
    subst (λ (h : List (ℕ × ℕ)). IsPermutation (all ++ l ∷ []) (h ++ (there ++ labels_of back))) (sym stands.1)
    (subst (λ (b : List (Part _)). IsPermutation (all ++ l ∷ []) (here ++ (there ++ labels_of b))) (sym is)
    (subst (λ (k : ℕ × ℕ). IsPermutation (all ++ l ∷ []) (here ++ (there ++ k ∷ []))) (sym stands.0)
    (one-behind all here there l p)))

taken-in : {P D : Type 0} {g : Ghosts P} (told : D → Telling) (promised : D → Promise) (taken : Bool) (part : Part D) (back : List (Part D)) (old new : Shard P g)
    (all there : List (ℕ × ℕ)) → IsPartTaken taken told promised part back old new → IsPermutation all ((g.performer old.parts).labels ++ there)
    → IsPermutation (all ++ label_of part ∷ []) ((g.performer new.parts).labels ++ (there ++ labels_of back))
taken-in {g = g} told promised true part back old new all there t p =
    stands-in part t.0 back all (g.performer old.parts).labels (g.performer new.parts).labels there t.1.taken.labels t.2 p
taken-in {P = P} {g = g} told promised false part back old new all there t p =
    let l = label_of part in
    subst (λ (s : Shard P g). IsPermutation (all ++ l ∷ []) ((g.performer s.parts).labels ++ (there ++ labels_of back))) (sym t.0)
    (subst (λ (b : List (Part _)). IsPermutation (all ++ l ∷ []) ((g.performer old.parts).labels ++ (there ++ labels_of b))) (sym t.2)
    (one-behind all (g.performer old.parts).labels there l p))

here-on : {P D : Type 0} {g : Ghosts P} (told : D → Telling) (promised : D → Promise) (taken : Bool) (part : Part D) (back : List (Part D)) (old new : Shard P g)
    → IsPartTaken taken told promised part back old new → StaysHere old new
here-on told promised true part back old new t = t.1.here
here-on told promised false part back old new t = here-same old new t.0

site-on : {P D : Type 0} {g : Ghosts P} (told : D → Telling) (promised : D → Promise) (taken : Bool) (part : Part D) (back : List (Part D)) (old new : Shard P g)
    → IsPartTaken taken told promised part back old new → g.site new.parts ≡ g.site old.parts
site-on told promised true part back old new t = t.1.site
site-on {P = P} {g = g} told promised false part back old new t = ap (λ (s : Shard P g). g.site s.parts) t.0

room-on : {P D : Type 0} {g : Ghosts P} (told : D → Telling) (promised : D → Promise) (taken : Bool) (part : Part D) (back : List (Part D)) (old new : Shard P g)
    → IsPartTaken taken told promised part back old new → (g.performer new.parts).part_room ≡ (g.performer old.parts).part_room
room-on told promised true part back old new t = t.1.taken.part_room
room-on {P = P} {g = g} told promised false part back old new t = ap (λ (s : Shard P g). (g.performer s.parts).part_room) t.0

pub handed-own : {P D : Type 0} {g : Ghosts P} (told : D → Telling) (promised : D → Promise) (old new : Runner P D g) (number : ℕ) (part : Part D) → IsHandedIn told promised number part old new
    → KeepsOwn old new
handed-own {g = g} told promised old new number part h = record {
  all = λ first x.
      let l = label_of part in
      let came : labels_in new.handed.items ≡ labels_in old.handed.items ++ l ∷ [] =
      ap labels_in h.handed ∙ map-append (λ (y : Handed). (y.slot, y.generation)) old.handed.items (_ ∷ []) in
      let others : labels_of new.others.items ≡ labels_of old.others.items ++ labels_of h.back =
      ap labels_of h.others ∙ map-append label_of old.others.items h.back in
      subst (λ (y : List (ℕ × ℕ)). IsPermutation (first ++ y) ((g.performer new.shard.parts).labels ++ labels_of new.others.items)) (sym came)
      (subst (λ (y : List (ℕ × ℕ)). IsPermutation y ((g.performer new.shard.parts).labels ++ labels_of new.others.items))
      (append_assoc first (labels_in old.handed.items) (l ∷ []))
      (subst (λ (y : List (ℕ × ℕ)). IsPermutation ((first ++ labels_in old.handed.items) ++ l ∷ []) ((g.performer new.shard.parts).labels ++ y)) (sym others)
      (taken-in told promised h.taken part h.back old.shard new.shard (first ++ labels_in old.handed.items) (labels_of old.others.items) h.shard x)));
  room = room-on told promised h.taken part h.back old.shard new.shard h.shard;
  site = site-on told promised h.taken part h.back old.shard new.shard h.shard;
  here = here-on told promised h.taken part h.back old.shard new.shard h.shard;
  window = ap (λ (y : CoreView). y.window) (core-on told promised h.taken part h.back old.shard new.shard h.shard);
}

-- ---- room for the parts that are still to come

pub still-room : (old new : Performer) (room handed : ℕ) → new.labels ≡ old.labels → new.part_room ≡ old.part_room
    → length old.labels + room ≤ old.part_room + handed → length new.labels + room ≤ new.part_room + handed
still-room old new room handed labels same x = let long = ap length labels in omega (arith, long, same, x)

-- where a part is taken in, they are at most one more
pub grown : {D : Type 0} (part : Part D) (earlier : Option (Part D)) (here here' : List (ℕ × ℕ)) → StandsIn part earlier here here'
    → length here' ≤ length here + 1
grown part None here here' stands = let more = ap length stands ∙ length_push here (label_of part) in omega (arith, more)
grown part (Some earlier) here here' stands = let same = ap length stands.1 in omega (arith, same)

-- where there is room, a part is refused only because its generation was looked at
pub only-looked : {P D : Type 0} {g : Ghosts P} (refusal : PartRefusal) (part : Part D) (shard : Shard P g) → IsRefusedFor refusal part shard
    → length (g.performer shard.parts).labels < (g.performer shard.parts).part_room → part.generation ≤ shard.last.attaches
only-looked Looked part shard reason room = reason
only-looked NoRoom part shard reason room = let full = reason.1 in absurd (omega (arith, full, room))
