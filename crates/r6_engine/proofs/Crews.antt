-- The io workers of an array's shards, as they are made and posted.
use Rattle.std.proofs.Common.{◌≡◌, ◌<◌, ◌≤◌, ◌+◌, ℕ, zero, suc, List, [], ◌∷◌, ◌++◌, All, length, map, take, drop, reverse, get_or, slice_index_or, refl, sym, ap, subst, ◌∙◌, append-nil, append_assoc, arith, inl, inr, Option, Some, None, IsPermutation}
use Rattle.std.specs.Prelude.{◌==◌, ◌&&◌, Bool, true, false, option_map, unwrap_or, slice_get, slice_set}
use Rattle.std.specs.List.{AllZip}
use Rattle.std.proofs.Math.Seq.{take-suc}
use Rattle.std.proofs.lemmas.Bool.{cases_Bool, eq-eqb}
use Rattle.std.proofs.lemmas.List.{at_drop_more, drop_more, length-append, reverse-append, take-append-drop}
use Rattle.std.proofs.lemmas.Slice.Zip.{AllZip-long}
use Rattle.std.proofs.lemmas.List.Sorted.{IsPermutation-refl, IsPermutation-sym, IsPermutation-trans, IsPermutation-cons, IsPermutation-middle}
use Rattle.r6_dev.specs.History.{Telling}
use Rattle.r6_dev.specs.Promises.{Promise, no_promise}
use Rattle.r6_exchange.specs.declared.exchange.Exchange.{Exchange}
use Rattle.r6_exchange.specs.declared.pass.ShardPass.{ShardPass}
use Rattle.r6_exchange.specs.declared.task.Part.{Part}
use Rattle.r6_exchange.specs.declared.worker.Worker.{Worker}
use Rattle.r6_exchange.specs.Exchanges.{IsShardPass, sent_by, received_by, limit_of}
use Rattle.r6_exchange.specs.Answering.{promise_if}
use Rattle.r6_exchange.specs.Workers.{IsWorker}
use Rattle.r6_shard.specs.Parts.{TakesIn, is_of, label_of, labels_of, part_in, promise_in}
use Rattle.r6_shard.specs.Performing.{HasPart, IsHere, Performer}
use Rattle.r6_shard.proofs.Handed.{of-first, of-behind}
use Rattle.r6_shard.proofs.Places.{first-of, behind, label-is, not-both}
use Rattle.r6_shard.proofs.Promises.{promise-of, same-or-not}
use Rattle.r6_engine.specs.declared.remote.remote.Remote.{Remote}
use Rattle.r6_engine.specs.remote.Remotes.{AreFresh, AreShardPasses, IsRemote, fresh_performer}
use Rattle.r6_engine.specs.joining.Crews.{AreWorkers, IsOver}
use Rattle.r6_layout.specs.Shape.{Shape}
use Rattle.r6_world.specs.ShardStates as world
use Rattle.r6_world.specs.declared.values.Command.{Command}
use Rattle.r6_shard.specs.Kept.{AreOut}
use Rattle.r6_engine.specs.declared.crew.Crew.{Crew}
use Rattle.r6_engine.specs.declared.crew.Site.{Site}
use Rattle.r6_engine.specs.declared.post.Post.{Post}
use Rattle.r6_engine.specs.Crews.{HasTakenUp, IsCrew, StandsAt, exchanges_at}
use Rattle.r6_engine.proofs.EachShard.{here_at, partner_at, zip-then}

-- ---- one worker more

module _ {D : Type 0} (told : D → Telling) (promised : D → Promise) where
  pub ends-more : (exchanges : List (Exchange D)) (passes : List (ShardPass D)) (e : Exchange D) (p : ShardPass D)
      → AreShardPasses told promised exchanges passes → IsShardPass told promised e p
      → AreShardPasses told promised (exchanges ++ e ∷ []) (passes ++ p ∷ [])
  ends-more [] [] e p x y = (y, tt)
  ends-more [] (q ∷ passes) e p x y = absurd x
  ends-more (f ∷ exchanges) [] e p x y = absurd x
  ends-more (f ∷ exchanges) (q ∷ passes) e p x y = (x.0, ends-more exchanges passes e p x.1 y)

  pub ends-long : (exchanges : List (Exchange D)) (passes : List (ShardPass D)) → AreShardPasses told promised exchanges passes
      → length passes ≡ length exchanges
  ends-long [] [] x = refl
  ends-long [] (q ∷ passes) x = absurd x
  ends-long (f ∷ exchanges) [] x = absurd x
  ends-long (f ∷ exchanges) (q ∷ passes) x = ap suc (ends-long exchanges passes x.1)

  -- the next exchange has this worker
  pub workers-more : (exchanges : List (Exchange D)) (workers : List (Worker D)) (e : Exchange D) (rest : List (Exchange D)) (w : Worker D)
      → AreWorkers told promised exchanges workers → drop (length workers) exchanges ≡ e ∷ rest → IsWorker told promised e w × IsOver w
      → AreWorkers told promised exchanges (workers ++ w ∷ [])
  workers-more exchanges [] e rest w x at y = subst (λ es. AreWorkers told promised es (w ∷ [])) (sym at) (y, tt)
  workers-more [] (v ∷ workers) e rest w x at y = absurd x
  workers-more (f ∷ exchanges) (v ∷ workers) e rest w x at y = (x.0, workers-more exchanges workers e rest w x.1 at y)

pub fresh-more : {D : Type 0} (room : ℕ) (passes : List (ShardPass D)) (p : ShardPass D) → AreFresh room passes
    → (sent_by p ≡ []) × (received_by p ≡ []) × (room ≤ limit_of p) → AreFresh room (passes ++ p ∷ [])
fresh-more room [] p x y = (y, tt)
fresh-more room (q ∷ passes) p x y = (x.0, fresh-more room passes p x.1 y)

pub some-workers : {D : Type 0} (told : D → Telling) (promised : D → Promise) (r : Remote D) (workers : List (Worker D)) → IsRemote told promised r
    → AllZip (IsWorker told promised) r.exchanges.now workers → 1 ≤ length workers
some-workers told promised r workers x all =
    let some = x.kept.some in
    let ends = ends-long told promised r.exchanges.now r.passes.items x.ends in
    let long = AllZip-long (IsWorker told promised) r.exchanges.now workers all in
    omega (arith, some, ends, long)

-- what stands at one place of both
pub zip-at : {A B : Type 0} (R : A → B → Type 0) (xs : List A) (ys : List B) (k : ℕ) (x : A) (y : B) → AllZip R xs ys → k < length xs
    → R (get_or xs k x) (get_or ys k y)
zip-at R [] ys k x y all below = absurd (omega (arith, below))
zip-at R (z ∷ xs) [] k x y all below = absurd all
zip-at R (z ∷ xs) (u ∷ ys) zero x y all below = all.0
zip-at R (z ∷ xs) (u ∷ ys) (suc k) x y all below = zip-at R xs ys k x y all.1 (omega (arith, below))

pub zip-put : {A B : Type 0} (R : A → B → Type 0) (xs : List A) (ys : List B) (k : ℕ) (x : A) (new : B) → AllZip R xs ys → k < length xs
    → R (get_or xs k x) new → AllZip R xs (slice_set ys k new)
zip-put R [] ys k x new all below r = absurd (omega (arith, below))
zip-put R (z ∷ xs) [] k x new all below r = absurd all
zip-put R (z ∷ xs) (u ∷ ys) zero x new all below r = (r, all.1)
zip-put R (z ∷ xs) (u ∷ ys) (suc k) x new all below r = (all.0, zip-put R xs ys k x new all.1 (omega (arith, below)) r)

-- ---- parts that are taken up

pub none-taken : {D : Type 0} (told : D → Telling) (promised : D → Promise) (room : ℕ) (steady : ℕ → Bool)
    → HasTakenUp told promised [] (fresh_performer room steady)
none-taken told promised room steady = record { tells = refl; promises = λ slot generation goes. refl; labels = IsPermutation-refl []; none_out = λ token. refl }

-- one part more, in front of the others
module _ {D : Type 0} (told : D → Telling) (promised : D → Promise) (part : Part D) (done : List (Part D)) (old new : Performer)
    (taken : TakesIn told promised part None old new) (x : HasTakenUp told promised done old) where
  own : (slot generation : ℕ) → slot ≡ part.slot → generation ≡ part.generation → is_of slot generation part ≡ true
  own slot generation same same' =
      ap (λ y. y && (part.generation == generation)) (eq-eqb part.slot slot (sym same)) ∙ eq-eqb part.generation generation (sym same')

  other : (slot generation : ℕ) → ((slot ≡ part.slot) × (generation ≡ part.generation) → ⊥) → is_of slot generation part ≡ false
  other slot generation ne = not-both part part.slot part.generation slot generation (own part.slot part.generation refl refl) ne

  tells : (slot generation : ℕ) → new.tells slot generation ≡ part_in told (part ∷ done) slot generation
  tells slot generation = same-or-not slot generation part.slot part.generation
      (λ same same'. ap (λ y. new.tells y generation) same ∙ ap (new.tells part.slot) same' ∙ taken.tells
      ∙ sym (first-of told part done slot generation (own slot generation same same')))
      (λ ne. taken.others slot generation ne ∙ (λ i. x.tells i slot generation)
      ∙ sym (behind told part done slot generation (other slot generation ne)))

  promises : (slot generation : ℕ) → new.steady slot ≡ true → new.promised slot generation ≡ promise_in promised (part ∷ done) slot generation
  promises slot generation goes = same-or-not slot generation part.slot part.generation
      (λ same same'. ap (λ y. new.promised y generation) same ∙ ap (new.promised part.slot) same' ∙ taken.promises
      ∙ ap (λ b. promise_if b (promised part.device)) (ap old.steady (sym same) ∙ (λ i. sym taken.steady i slot) ∙ goes)
      ∙ sym (promise-of promised (part ∷ done) slot generation part (of-first part done slot generation (own slot generation same same'))))
      (λ ne. taken.still slot generation ne ∙ x.promises slot generation ((λ i. sym taken.steady i slot) ∙ goes)
      ∙ sym (ap (λ o. unwrap_or (option_map (λ (y : Part D). promised y.device) o) no_promise)
      (of-behind part done slot generation (other slot generation ne))))

  labels : IsPermutation (labels_of (part ∷ done)) new.labels
  labels =
      subst (IsPermutation (label_of part ∷ labels_of done)) (sym taken.labels)
      (IsPermutation-trans (label_of part ∷ labels_of done) (label_of part ∷ old.labels) (old.labels ++ label_of part ∷ [])
      (IsPermutation-cons (label_of part) (labels_of done) old.labels x.labels)
      (subst (λ y. IsPermutation (label_of part ∷ y) (old.labels ++ label_of part ∷ [])) (append-nil old.labels)
      (IsPermutation-sym (old.labels ++ label_of part ∷ []) (label_of part ∷ (old.labels ++ []))
      (IsPermutation-middle old.labels (label_of part) []))))

  pub taken-more : HasTakenUp told promised (part ∷ done) new
  taken-more = record {
    tells = λ i slot generation. tells slot generation i;
    promises = promises;
    labels = labels;
    none_out = λ token. (λ i. taken.out i token) ∙ x.none_out token;
  }

-- ---- posts

pub at-both : {D : Type 0} (xs ys : List (Site D)) → exchanges_at (xs ++ ys) ≡ exchanges_at xs ++ exchanges_at ys
at-both [] ys = refl
at-both (x ∷ xs) ys =
    ap (λ y. x.exchanges.items ++ y) (at-both xs ys) ∙ sym (append_assoc x.exchanges.items (exchanges_at xs) (exchanges_at ys))

-- the sites of one shard more
pub at-more : {D : Type 0} (sites : List (Site D)) (k : ℕ) (site : Site D) → k < length sites → get_or sites k site ≡ site
    → exchanges_at (take (suc k) sites) ≡ exchanges_at (take k sites) ++ site.exchanges.items
at-more sites k site below is =
    ap exchanges_at (take-suc sites k site below) ∙ at-both (take k sites) (get_or sites k site ∷ [])
    ∙ ap (λ (y : Site _). exchanges_at (take k sites) ++ (y.exchanges.items ++ [])) is
    ∙ ap (λ y. exchanges_at (take k sites) ++ y) (append-nil site.exchanges.items)

pub fewer-at : {D : Type 0} (sites : List (Site D)) (k : ℕ) → length (exchanges_at (take k sites)) ≤ length (exchanges_at sites)
fewer-at sites k =
    let whole = ap (λ y. length (exchanges_at y)) (take-append-drop k sites) in
    let both = ap length (at-both (take k sites) (drop k sites)) ∙ length-append (exchanges_at (take k sites)) (exchanges_at (drop k sites)) in
    omega (arith, whole, both)

-- those of the next shard, and the rest
pub at-next : {D : Type 0} (sites : List (Site D)) (k : ℕ) (site : Site D) → k < length sites → get_or sites k site ≡ site
    → exchanges_at (drop k sites) ≡ site.exchanges.items ++ exchanges_at (drop (k + 1) sites)
at-next sites k site below is =
    at_drop_more exchanges_at sites k site below ∙ ap (λ (y : Site _). y.exchanges.items ++ exchanges_at (drop (k + 1) sites)) is

-- the post that was put last is the first from behind
pub first-behind : {D A : Type 0} (R : A → Post D → Type 0) (all front : List (Post D)) (post : Post D) (x : A) (xs : List A)
    → all ≡ front ++ post ∷ [] → AllZip R (x ∷ xs) (reverse all) → R x post × AllZip R xs (reverse front)
first-behind R all front post x xs is zip =
    subst (AllZip R (x ∷ xs)) (ap reverse is ∙ reverse-append front (post ∷ [])) zip

-- it stands at the next exchange
pub next-post : {D : Type 0} (told : D → Telling) (promised : D → Promise) (exchanges others : List (Exchange D)) (k : ℕ)
    (all front : List (Post D)) (post : Post D) → k < length exchanges → all ≡ front ++ post ∷ []
    → AllZip (StandsAt told promised) (drop k exchanges ++ others) (reverse all)
    → StandsAt told promised (get_or exchanges k post.exchange.now) post
    × AllZip (StandsAt told promised) (drop (k + 1) exchanges ++ others) (reverse front)
next-post told promised exchanges others k all front post below is zip =
    first-behind (StandsAt told promised) all front post (get_or exchanges k post.exchange.now) (drop (k + 1) exchanges ++ others) is
    (subst (λ es. AllZip (StandsAt told promised) (es ++ others) (reverse all)) (drop_more exchanges k post.exchange.now below) zip)

pub some-exchange : {D : Type 0} (exchanges : List (Exchange D)) (k : ℕ) → k < length exchanges → Exchange D
some-exchange [] k below = absurd (omega (arith, below))
some-exchange (e ∷ exchanges) k below = e

-- where an exchange is left there is a post
pub some-post : {D : Type 0} (told : D → Telling) (promised : D → Promise) (exchanges others : List (Exchange D)) (k : ℕ) (all : List (Post D))
    (e : Exchange D) → k < length exchanges → AllZip (StandsAt told promised) (drop k exchanges ++ others) (reverse all) → length all ≡ 0 → ⊥
some-post told promised exchanges others k [] e below zip none =
    subst (λ es. AllZip (StandsAt told promised) (es ++ others) []) (drop_more exchanges k e below) zip
some-post told promised exchanges others k (post ∷ all) e below zip none = absurd (omega (arith, none))

-- ---- crews

pub zip-of-map : {A B C : Type 0} (f : A → B) (R : B → C → Type 0) (xs : List A) (ys : List C) → AllZip (λ x y. R (f x) y) xs ys
    → AllZip R (map f xs) ys
zip-of-map f R [] [] all = tt
zip-of-map f R [] (y ∷ ys) all = absurd all
zip-of-map f R (x ∷ xs) [] all = absurd all
zip-of-map f R (x ∷ xs) (y ∷ ys) all = (all.0, zip-of-map f R xs ys all.1)

-- the crew of a shard has its site
pub crew-at : {D : Type 0} (told : D → Telling) (promised : D → Promise) (workers : ℕ) (sites : List (Site D)) (crews : List (Crew D)) (k : ℕ)
    (crew : Crew D) → AllZip (IsCrew told promised workers) sites crews → k < length crews → crew ≡ slice_index_or crews k crew
    → (site : Site D) × (slice_get sites k ≡ Some site) × IsCrew told promised workers site crew
crew-at told promised workers sites crews k crew all below is =
    partner_at (IsCrew told promised workers) sites crews k crew all (here_at crews k crew below ∙ ap Some (sym is))

pub sites-long : {D : Type 0} (told : D → Telling) (promised : D → Promise) (workers : ℕ) (sites : List (Site D)) (crews : List (Crew D))
    → AllZip (IsCrew told promised workers) sites crews → All (λ (site : Site D). length site.exchanges.items ≡ workers) sites
sites-long told promised workers [] [] all k d below = absurd (omega (arith, below))
sites-long told promised workers [] (crew ∷ crews) all k d below = absurd all
sites-long told promised workers (site ∷ sites) [] all k d below = absurd all
sites-long told promised workers (site ∷ sites) (crew ∷ crews) all zero d below = all.0.as_many
sites-long told promised workers (site ∷ sites) (crew ∷ crews) all (suc k) d below =
    sites-long told promised workers sites crews all.1 k d (omega (arith, below))

-- the posts are still at their exchanges
pub same-exchanges : {D : Type 0} (told : D → Telling) (promised : D → Promise) (exchanges : List (Exchange D)) (old new : List (Post D))
    → AllZip (StandsAt told promised) exchanges old
    → AllZip (λ (x : Post D) (y : Post D). (y.exchange.now ≡ x.exchange.now) × IsWorker told promised y.exchange.now y.worker) old new
    → AllZip (StandsAt told promised) exchanges new
same-exchanges told promised exchanges old new stands done =
    zip-then (StandsAt told promised)
    (λ (x : Post _) (y : Post _). (y.exchange.now ≡ x.exchange.now) × IsWorker told promised y.exchange.now y.worker)
    (StandsAt told promised)
    (λ e x y one other.
    let is = other.0 ∙ one.0 in (is, subst (λ (z : Exchange _). IsWorker told promised z y.worker) is other.1))
    exchanges old new stands done

-- ---- at rest

-- no command is out where the core has none
pub none-out : (shape : Shape) (number : ℕ) (command : ℕ → Option world.Command) (next : ℕ) (out : ℕ → Option Command)
    → AreOut shape number command next out → ((token : ℕ) → command token ≡ None) → (token : ℕ) → out token ≡ None
none-out shape number command next out are none token = one (out token) refl
  where
    one : (o : Option Command) → out token ≡ o → out token ≡ None
    one None e = e
    one (Some c) e = absurd ((are.each token c e).there (none token))

-- of a part that tells there is a label
pub told-here : {D : Type 0} (told : D → Telling) (parts : List (Part D)) (slot generation : ℕ)
    → HasPart (part_in told parts) slot generation → IsHere (labels_of parts) slot generation
told-here told [] slot generation some = absurd (some refl)
told-here told (part ∷ parts) slot generation some = elim (cases_Bool (is_of slot generation part)) [
  | inl yes' ↦ (0, omega arith, label-is part slot generation yes')
  | inr no' ↦
      let rest = told-here told parts slot generation (λ e. some (behind told part parts slot generation no' ∙ e)) in
      (suc rest.0, (let low = rest.1 in omega (arith, low)), rest.2)
]
