-- What has come back of the last workers.
use Rattle.std.proofs.Common.{◌≡◌, ℕ, zero, suc, true≢false, ◌+◌, ◌<◌, ◌≤◌, List, [], ◌++◌, length, inl, inr, refl, sym, ap, subst, ◌∙◌, arith, Option, Some, None}
use Rattle.std.specs.Prelude.{◌%◌, ◌≢◌, ◌↔◌}
use Rattle.std.specs.Option.{IsSome}
use Rattle.std.proofs.Math.Nat.{mod-lt}
use Rattle.std.proofs.lemmas.Bool.{cases_eq}
use Rattle.r6_dev.specs.History.{Telling}
use Rattle.r6_dev.specs.Promises.{Promise}
use Rattle.r6_exchange.specs.declared.task.Part.{Part}
use Rattle.r6_exchange.specs.declared.task.ServedPart.{ServedPart}
use Rattle.r6_exchange.specs.declared.pass.ShardPass.{ShardPass}
use Rattle.r6_exchange.specs.Answering.{Known, State, nothing, state_after}
use Rattle.r6_exchange.specs.Parts.{Holds, Keeps, Tells, part_in as served_in}
use Rattle.r6_shard.specs.Parts.{part_in}
use Rattle.r6_shard.specs.Performing.{Performer, HasPart, IsHere}
use Rattle.r6_exchange.specs.declared.task.WorkerTask.{WorkerTask}
use Rattle.r6_exchange.specs.declared.completion.Completion.{Completion}
use Rattle.r6_engine.specs.remote.Lines.{known_in, lines_of, received_from, sent_to, telling_in}
use Rattle.r6_engine.specs.joining.Crews.{AreTakenBack, own_parts}
use Rattle.r6_engine.proofs.JoiningLemmas.Backs.{in-the-first, in-the-other, own-there, own-only, some-not}

-- a part is found exactly where one is known to be, and tells what is known
abbrev pub KeepsTelling : (known found : Option Telling) → Type 0
KeepsTelling None found = found ≡ None
KeepsTelling (Some known) found = (there : Telling) × (found ≡ Some there) × Tells known there

from-keeps : (known found : Option Known) → Keeps known found → KeepsTelling (telling_in known) (telling_in found)
from-keeps None found x = ap telling_in x
from-keeps (Some known) found x = (x.0.telling, ap telling_in x.1, x.3)

-- all parts of the workers from n on, and none of the others
abbrev pub AreCollected : {D : Type 0} → (D → Telling) → (workers n : ℕ) → (tells : ℕ → ℕ → Option Telling) → List (Part D) → Type 0
AreCollected told workers n tells parts =
    (slot generation : ℕ) → (slot % workers < n → part_in told parts slot generation ≡ None)
    × (n ≤ slot % workers → KeepsTelling (tells slot generation) (part_in told parts slot generation))

module _ {D : Type 0} (told : D → Telling) where
  pub none-collected : (workers : ℕ) (tells : ℕ → ℕ → Option Telling) (parts : List (Part D)) → 1 ≤ workers → parts ≡ []
      → AreCollected told workers workers tells parts
  none-collected workers tells parts some empty slot generation =
      let low = mod-lt slot some in
      ((λ below. ap (λ y. part_in told y slot generation) empty), (λ above. absurd (omega (arith, low, above))))

  pub one-more : (promised : D → Promise) (workers n : ℕ) (tells : ℕ → ℕ → Option Telling) (parts : List (Part D))
      (served : List (ServedPart D)) (state : State) → AreCollected told workers (n + 1) tells parts
      → Holds state (served_in told promised served)
      → ((slot generation : ℕ) → slot % workers ≡ n → tells slot generation ≡ telling_in (state slot generation))
      → AreCollected told workers n tells (parts ++ own_parts workers n served)
  one-more promised workers n tells parts served state x holds is slot generation = (
    (λ below.
        in-the-first told parts (own_parts workers n served) slot generation
        (own-only told workers n served slot generation (λ e. omega (arith, below, e)))
        ∙ (x slot generation).0 (omega (arith, below))),
    (λ above. elim (cases_eq (slot % workers) n) [
      | inl own ↦
          let found =
          in-the-other told parts (own_parts workers n served) slot generation ((x slot generation).0 (omega (arith, own)))
          ∙ own-there told promised workers n served slot generation own in
          subst (λ y. KeepsTelling y (part_in told (parts ++ own_parts workers n served) slot generation))
          (sym (is slot generation own))
          (subst (KeepsTelling (telling_in (state slot generation))) (sym found)
          (from-keeps (state slot generation) (served_in told promised served slot generation) (holds slot generation)))
      | inr ne ↦
          subst (KeepsTelling (tells slot generation))
          (sym (in-the-first told parts (own_parts workers n served) slot generation
          (own-only told workers n served slot generation ne)))
          ((x slot generation).1 (later (slot % workers) n above ne))
    ]),
  )
    where
      later : (a b : ℕ) → b ≤ a → (a ≡ b → ⊥) → b + 1 ≤ a
      later a b low ne = omega (arith, low, ne)

  keeps-here : (known found : Option Telling) → KeepsTelling known found → known ≢ None → found ≢ None
  keeps-here None found x here = absurd (here refl)
  keeps-here (Some known) found x here = λ e. some-not x.0 (sym x.1 ∙ e)

  pub all-collected : (workers : ℕ) (performer : Performer) (parts : List (Part D)) → AreCollected told workers 0 performer.tells parts
      → ((slot generation : ℕ) → IsHere performer.labels slot generation → HasPart performer.tells slot generation)
      → AreTakenBack told performer parts
  all-collected workers performer parts x known = record {
    tells = λ slot generation blocks is.
        let k : KeepsTelling (Some (Some blocks)) (part_in told parts slot generation) =
        subst (λ y. KeepsTelling y (part_in told parts slot generation)) is (each slot generation) in
        k.1 ∙ ap Some k.2;
    here = λ slot generation. keeps-here (performer.tells slot generation) (part_in told parts slot generation) (each slot generation);
    labels = λ slot generation is.
        keeps-here (performer.tells slot generation) (part_in told parts slot generation) (each slot generation) (known slot generation is);
    none = λ slot generation is. subst (λ y. KeepsTelling y (part_in told parts slot generation)) is (each slot generation);
  }
    where
      each : (slot generation : ℕ) → KeepsTelling (performer.tells slot generation) (part_in told parts slot generation)
      each slot generation = (x slot generation).1 (omega arith)

-- ---- as the last worker's parts are taken

-- what the shard knows of a slot is what it knows of that slot's worker
pub known-there : {D : Type 0} (told : D → Telling) (promised : D → Promise) (passes now : List (ShardPass D)) (workers n at : ℕ)
    (slot generation : ℕ) → workers ≡ length passes → sent_to now ≡ sent_to passes → received_from now ≡ received_from passes → at ≡ n
    → slot % workers ≡ n
    → telling_in (known_in told promised (lines_of passes) slot generation)
    ≡ telling_in (state_after told promised nothing (sent_to now at) (received_from now at) slot generation)
known-there {D = D} told promised passes now workers n at slot generation count sent received is own =
    let there : slot % length passes ≡ at = ap (λ w. slot % w) (sym count) ∙ own ∙ sym is in
    ap (λ j. telling_in (state_after told promised nothing (sent_to passes j) (received_from passes j) slot generation)) there
    ∙ sym (ap (λ (f : ℕ → List (WorkerTask D)). telling_in (state_after told promised nothing (f at) (received_from now at) slot generation)) sent
    ∙ ap (λ (f : ℕ → List Completion). telling_in (state_after told promised nothing (sent_to passes at) (f at) slot generation)) received)

-- nothing was popped, so nothing is left
pub no-more : {A : Type 0} (last : Option A) (len : ℕ) → (IsSome last ↔ (0 < len)) → ((x : A) → last ≡ Some x → ⊥) → len ≡ 0
no-more None zero is none = refl
no-more None (suc len) is none = absurd (true≢false (sym (is.1 (omega arith))))
no-more (Some x) len is none = absurd (none x refl)
