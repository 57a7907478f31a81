-- What is known of the parts of all workers, as one of them changes.
use Rattle.std.proofs.Common.{◌≡◌, ◌≢◌, ℕ, zero, suc, ◌<◌, false, List, [], ◌∷◌, length, inl, inr, refl, sym, ap, subst, ◌∙◌, arith, Option, Some, None, Result, Ok, Err}
use Rattle.std.specs.List.{Contains}
use Rattle.std.specs.Prelude.{◌%◌, ◌==◌, ◌&&◌}
use Rattle.std.proofs.lemmas.Bool.{cases_eq, cases_Bool, and_parts, eqb-true}
use Rattle.r6_dev.specs.History.{Telling, Block, Entry, Misses, Answers, put as put_block}
use Rattle.r6_dev.specs.Promises.{Covers}
use Rattle.r6_world.specs.Values.{given_transfer, buffer_in}
use Rattle.r6_world.specs.declared.values.Command.{Command}
use Rattle.r6_world.specs.declared.values.CommandKind.{CommandKind}
use Rattle.r6_world.specs.declared.values.CommandKind.TheVariants.{Read, Write}
use Rattle.r6_world.specs.declared.values.DeviceFault.{DeviceFault}
use Rattle.r6_world.specs.declared.values.FaultKind.TheVariants.{ReadFault}
use Rattle.r6_course.specs.Steps.{Does, OthersAreKept}
use Rattle.r6_exchange.specs.declared.completion.Completion.{Completion}
use Rattle.r6_exchange.specs.declared.task.ServedPart.{ServedPart}
use Rattle.r6_exchange.specs.Answering.{Known, State, put_at, done_by, failed_by, entry_by, entry_of, MayAnswer, IsPromised, telling_after, known_after, IsAnswer}
use Rattle.r6_exchange.specs.Next.{AreApart}
use Rattle.r6_exchange.proofs.Parts.{both-same, put-there, put-elsewhere}
use Rattle.r6_shard.specs.Performing.{Did}
use Rattle.r6_engine.specs.remote.Lines.{telling_in, promise_of}
use Rattle.r6_engine.proofs.RemoteLemmas.Commands.{AreBelow}

-- ---- of the parts of which worker

-- another part is known by another place
not-both-same : (slot generation other g : ℕ) → ((other ≡ slot) × (g ≡ generation) → ⊥) → ((other == slot) && (g == generation)) ≡ false
not-both-same slot generation other g ne = elim (cases_Bool ((other == slot) && (g == generation))) [
  | inl yes' ↦
      let p = and_parts (other == slot) (g == generation) yes' in
      absurd (ne (eqb-true other slot p.0, eqb-true g generation p.1))
  | inr no' ↦ no'
]

pub at-place : (state : State) (slot generation : ℕ) (known : Option Known) → put_at state slot generation known slot generation ≡ known
at-place state slot generation known = put-there state slot generation known slot generation (both-same slot generation)

pub at-another : (state : State) (slot generation : ℕ) (known : Option Known) (other g : ℕ) → ((other ≡ slot) × (g ≡ generation) → ⊥)
    → put_at state slot generation known other g ≡ state other g
at-another state slot generation known other g ne =
    put-elsewhere state slot generation known other g (not-both-same slot generation other g ne)

-- where what is known of one part changes at its worker, it changes, and of no other part
pub known-put : (workers k slot generation : ℕ) (known : Option Known) (old new : ℕ → State) → slot % workers ≡ k
    → new k ≡ put_at (old k) slot generation known → ((j : ℕ) → (j ≡ k → ⊥) → new j ≡ old j) → (other g : ℕ)
    → new (other % workers) other g ≡ put_at (λ s h. old (s % workers) s h) slot generation known other g
known-put workers k slot generation known old new own is same other g = elim (cases_Bool ((other == slot) && (g == generation))) [
  | inl yes' ↦
      let p = and_parts (other == slot) (g == generation) yes' in
      let at-k : other % workers ≡ k = ap (λ s. s % workers) (eqb-true other slot p.0) ∙ own in
      ap (λ j. new j other g) at-k ∙ ap (λ (y : State). y other g) is ∙ put-there (old k) slot generation known other g yes'
      ∙ sym (put-there (λ s h. old (s % workers) s h) slot generation known other g yes')
  | inr no' ↦ elim (cases_eq (other % workers) k) [
    | inl at-k ↦
        ap (λ j. new j other g) at-k ∙ ap (λ (y : State). y other g) is ∙ put-elsewhere (old k) slot generation known other g no'
        ∙ ap (λ j. old j other g) (sym at-k) ∙ sym (put-elsewhere (λ s h. old (s % workers) s h) slot generation known other g no')
    | inr ne ↦
        ap (λ (y : State). y other g) (same (other % workers) ne)
        ∙ sym (put-elsewhere (λ s h. old (s % workers) s h) slot generation known other g no')
  ]
]

-- where a part was or is put there is one
pub put-keeps : (state : State) (slot generation : ℕ) (known : Known) (s g : ℕ) → telling_in (state s g) ≢ None
    → telling_in (put_at state slot generation (Some known) s g) ≢ None
put-keeps state slot generation known s g there = elim (cases_Bool ((s == slot) && (g == generation))) [
  | inl yes' ↦
      subst (λ (y : Option Known). telling_in y ≢ None) (sym (put-there state slot generation (Some known) s g yes')) (λ e. none known.telling e)
  | inr no' ↦ subst (λ (y : Option Known). telling_in y ≢ None) (sym (put-elsewhere state slot generation (Some known) s g no')) there
]
  where
    none : (t : Telling) → Some t ≡ None → ⊥
    none t e = cc

pub only : {A : Type 0} {x y : A} → Contains (y ∷ []) x → x ≡ y
only {x = x} {y = y} (zero, below, e) = sym e
only {x = x} {y = y} (suc k, below, e) = absurd (omega (arith, below))

-- ---- what a completion makes of it

pub telling-after : (known : Option Known) (entry : Entry) → telling_in known ≢ None → telling_in (known_after known entry) ≢ None
telling-after None entry ne = ne
telling-after (Some known) entry ne = λ e. none (telling_after known.telling entry) e
  where
    none : (t : Telling) → Some t ≡ None → ⊥
    none t e = cc

pub promise-after : (known : Option Known) (entry : Entry) → promise_of (known_after known entry) ≡ promise_of known
promise-after None entry = refl
promise-after (Some known) entry = refl

-- a part stays there, and what it promises stays what it is
pub keeps-telling : (state : State) (slot generation : ℕ) (entry : Entry) (s g : ℕ) → telling_in (state s g) ≢ None
    → telling_in (put_at state slot generation (known_after (state slot generation) entry) s g) ≢ None
keeps-telling state slot generation entry s g there = elim (cases_Bool ((s == slot) && (g == generation))) [
  | inl yes' ↦
      let p = and_parts (s == slot) (g == generation) yes' in
      subst (λ (y : Option Known). telling_in y ≢ None) (sym (put-there state slot generation (known_after (state slot generation) entry) s g yes'))
      (telling-after (state slot generation) entry
      (subst (λ y. telling_in (state y generation) ≢ None) (eqb-true s slot p.0) (subst (λ y. telling_in (state s y) ≢ None) (eqb-true g generation p.1) there)))
  | inr no' ↦
      subst (λ (y : Option Known). telling_in y ≢ None) (sym (put-elsewhere state slot generation (known_after (state slot generation) entry) s g no')) there
]

pub keeps-promise : (state : State) (slot generation : ℕ) (entry : Entry) (s g : ℕ)
    → promise_of (put_at state slot generation (known_after (state slot generation) entry) s g) ≡ promise_of (state s g)
keeps-promise state slot generation entry s g = elim (cases_Bool ((s == slot) && (g == generation))) [
  | inl yes' ↦
      let p = and_parts (s == slot) (g == generation) yes' in
      ap promise_of (put-there state slot generation (known_after (state slot generation) entry) s g yes')
      ∙ promise-after (state slot generation) entry
      ∙ sym (ap (λ y. promise_of (state y g)) (eqb-true s slot p.0) ∙ ap (λ y. promise_of (state slot y)) (eqb-true g generation p.1))
  | inr no' ↦ ap promise_of (put-elsewhere state slot generation (known_after (state slot generation) entry) s g no')
]

pub covers-known : (known : Option Known) (c : Command) → Covers (promise_of known) c.row (length c.buffer) → IsPromised known c
covers-known None c x = let below : c.row < 0 = x.1 in omega (arith, below)
covers-known (Some known) c x = x

-- a good answer is what its part does
record Done (known : Option Known) (kind : CommandKind) (row : ℕ) (stored came : Block) : Type 0 where
  before : Telling
  behind : Telling
  was : telling_in known ≡ Some before
  is : telling_in (known_after known (done_by kind row stored came)) ≡ Some behind
  does : Does before (given_transfer kind stored) row came behind

done : (known : Option Known) (kind : CommandKind) (row : ℕ) (stored came : Block) → MayAnswer known (done_by kind row stored came)
    → Done known kind row stored came
done None Read row stored came m = absurd m
done None Write row stored came m = absurd m
done (Some known) Read row stored came m = by known.telling m
  where
    by : (telling : Telling) → MayAnswer (Some (record { telling = telling; promise = known.promise })) (done_by Read row stored came)
        → Done (Some (record { telling = telling; promise = known.promise })) Read row stored came
    by None m' = record { before = None; behind = None; was = refl; is = refl; does = tt }
    by (Some blocks) m' = record { before = Some blocks; behind = Some blocks; was = refl; is = refl; does = (m', refl) }
done (Some known) Write row stored came m = by known.telling
  where
    by : (telling : Telling) → Done (Some (record { telling = telling; promise = known.promise })) Write row stored came
    by None = record { before = None; behind = None; was = refl; is = refl; does = tt }
    by (Some blocks) = record { before = Some blocks; behind = Some (put_block blocks row stored); was = refl; is = refl; does = refl }

-- a read error leaves what a part tells as it was
missed : (known : Option Known) (row : ℕ) → MayAnswer known (Misses row)
    → (before : Telling) × (after : Telling) × (telling_in known ≡ Some before) × (telling_in (known_after known (Misses row)) ≡ Some after)
    × Answers before (Misses row) after
missed None row m = absurd m
missed (Some known) row m = (known.telling, telling_after known.telling (Misses row), refl, refl, same known.telling)
  where
    same : (telling : Telling) → Answers telling (Misses row) (telling_after telling (Misses row))
    same None = tt
    same (Some blocks) = refl

-- a completion is what its part did, or that it failed
pub did-it : (old new : State) (c : Command) (a : Completion) → IsAnswer old c a
    → ((s g : ℕ) → new s g ≡ put_at old c.slot c.generation (known_after (old c.slot c.generation) (entry_of c a)) s g)
    → Did (λ s g. telling_in (old s g)) (λ s g. telling_in (new s g)) c a.result
did-it old new c a x now = by a.result refl
  where
    others : OthersAreKept c.slot c.generation (λ s g. telling_in (old s g)) (λ s g. telling_in (new s g))
    others other g ne =
        ap telling_in (now other g ∙ at-another old c.slot c.generation (known_after (old c.slot c.generation) (entry_of c a)) other g ne)

    there : new c.slot c.generation ≡ known_after (old c.slot c.generation) (entry_of c a)
    there = now c.slot c.generation ∙ at-place old c.slot c.generation (known_after (old c.slot c.generation) (entry_of c a))

    by : (result : Result Block DeviceFault) → a.result ≡ result
        → Did (λ s g. telling_in (old s g)) (λ s g. telling_in (new s g)) c result
    by (Ok came) is =
        let may : MayAnswer (old c.slot c.generation) (done_by c.kind c.row c.buffer came) =
        subst (λ r. MayAnswer (old c.slot c.generation) (entry_by c.kind c.row c.buffer r)) is x.honest in
        let d = done (old c.slot c.generation) c.kind c.row c.buffer came may in
        record {
          before = d.before;
          behind = d.behind;
          was = d.was;
          is = ap telling_in (there ∙ ap (λ r. known_after (old c.slot c.generation) (entry_by c.kind c.row c.buffer r)) is) ∙ d.is;
          others = others;
          does = d.does;
          same_length = subst (λ r. length (buffer_in r) ≡ length c.buffer) is x.same_length;
        }
    by (Err fault) is = record {
      others = others;
      same_length = subst (λ r. length (buffer_in r) ≡ length c.buffer) is x.same_length;
      misses = λ fails reads.
          let entry : entry_of c a ≡ Misses c.row =
          ap (λ r. entry_by c.kind c.row c.buffer r) is ∙ ap (λ f. failed_by f c.kind c.row) fails ∙ ap (λ k. failed_by ReadFault k c.row) reads in
          let m = missed (old c.slot c.generation) c.row (subst (MayAnswer (old c.slot c.generation)) entry x.honest) in
          (m.0, m.1, m.2, ap telling_in (there ∙ ap (known_after (old c.slot c.generation)) entry) ∙ m.3, m.4);
    }

-- ---- commands to other parts

pub apart : {D : Type 0} (commands : List Command) (served : ServedPart D) → AreBelow served.part.generation commands → AreApart commands served
apart [] served x = tt
apart (c ∷ commands) served x = (
  not-both-same served.part.slot served.part.generation c.slot c.generation
      (λ e. let below : c.generation < served.part.generation = x.0 in let same : c.generation ≡ served.part.generation = e.1 in omega (arith, below, same)),
  apart commands served x.1,
)
