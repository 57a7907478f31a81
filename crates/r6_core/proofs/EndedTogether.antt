-- Requests end together: they go from those of a frame to those that are finished.
use Rattle.std.proofs.Common.{◌≡◌, ◌≢◌, ℕ, Bool, true, false, cond, List, [], ◌∷◌, ◌++◌, map, refl, sym, ap, ◌∙◌, Option, Some, None}
use Rattle.std.specs.Prelude.{nat_eq}
use Rattle.std.specs.List.{IsDistinct, AllByRecursion}
use Rattle.std.specs.Map.{keys_of}
use Rattle.std.proofs.lemmas.Bool.{ne_eqb, eq-eqb}
use Rattle.r6_world.specs.PlainArray as world
use Rattle.r6_world.specs.Tasks.{Outcome}
use Rattle.r6_world.specs.ShardStates as shards
use Rattle.r6_world.specs.ShardStates.{Stage, Waiting, Erred, Held, Finished, Released, Reading}
use Rattle.r6_world.specs.Changes.{finished, outcome_reply}
use Rattle.r6_world.specs.declared.values.Request.{Request}
use Rattle.r6_world.specs.Values.{op_of}
use Rattle.r6_frames.specs.Calls.{entry_of, IsElsewhere}
use Rattle.r6_frames.proofs.Lists.{Entries, table, looked_up}
use Rattle.r6_core.specs.Shards.{answer_of, finished_request}
use Rattle.r6_core.proofs.ChangedTogether.{AreChanged, ChangeTogether, changed_together}

-- what the outcome answers the request stands in its buffer
abbrev pub IsAnsweredBy : Outcome → Request → Type 0
IsAnsweredBy outcome r = outcome_reply outcome (op_of r.op) ≡ answer_of r.op

-- who isn't in the frame stays as it is
unfinished_at : (frame : ℕ) (outcome : Outcome) (o : world.Op) (stage : Stage) → stage ≢ Held frame → finished frame outcome (Some (record { op = o; stage = stage })) ≡ Some (record { op = o; stage = stage })
unfinished_at frame outcome o Waiting ne = refl
unfinished_at frame outcome o Erred ne = refl
unfinished_at frame outcome o (Held other) ne =
    let apart = ne_eqb other frame (λ e. ne (ap (λ n. Held n) e)) in
    ap (λ (t : Bool). Some (record { op = o; stage = cond t (Finished (outcome_reply outcome o)) (Held other) })) apart
unfinished_at frame outcome o (Reading token) ne = refl
unfinished_at frame outcome o (Finished reply) ne = refl
unfinished_at frame outcome o (Released reply) ne = refl

unfinished_all : (frame : ℕ) (outcome : Outcome) (o : Option shards.Request) → ((r : shards.Request) → o ≡ Some r → r.stage ≢ Held frame) → finished frame outcome o ≡ o
unfinished_all frame outcome None h = refl
unfinished_all frame outcome (Some r) h = unfinished_at frame outcome r.op r.stage (h r refl)

-- what a look-up gives of each, and of all others
module _ (frame : ℕ) (outcome : Outcome) (rest : Entries shards.Request) (elsewhere : AllByRecursion (IsElsewhere frame) rest) where
  finished_at : (rs : List Request) (q : ℕ) → AllByRecursion (IsAnsweredBy outcome) rs
      → table (map (finished_request false) rs ++ rest) q ≡ finished frame outcome (table (map (entry_of frame) rs ++ rest) q)
  finished_at [] q all = sym (unfinished_all frame outcome (table rest q) (λ x there. looked_up (λ (y : shards.Request). y.stage ≢ Held frame) q rest x elsewhere there))
  finished_at (r ∷ rs) q all =
      elim (nat_eq q r.id) as (λ b. cond b (Some (finished_request false r).1) (table (map (finished_request false) rs ++ rest) q)
      ≡ finished frame outcome (cond b (Some (entry_of frame r).1) (table (map (entry_of frame) rs ++ rest) q))) [
        | true ↦
            ap (λ reply. Some (record { op = op_of r.op; stage = Finished reply })) (sym all.0)
            ∙ ap (λ (t : Bool). Some (record { op = op_of r.op; stage = cond t (Finished (outcome_reply outcome (op_of r.op))) (Held frame) })) (sym (eq-eqb frame frame refl))
        | false ↦ finished_at rs q all.1
      ]

-- ---- the requests when a hold ends

-- those of the frame are finished, and the others stay as they are
abbrev pub AreEnded : ℕ → Outcome → Entries shards.Request → Entries shards.Request → Type 1
AreEnded frame outcome old new = AreChanged (λ q. finished frame outcome) old new

pub ended_together : (frame : ℕ) (outcome : Outcome) (rs : List Request) (old new : Entries shards.Request)
    → (together : ChangeTogether (entry_of frame) (finished_request false) rs old new) → AllByRecursion (IsElsewhere frame) together.rest → AllByRecursion (IsAnsweredBy outcome) rs
    → IsDistinct nat_eq (keys_of old) → AreEnded frame outcome old new
ended_together frame outcome rs old new together elsewhere answered distinct =
    changed_together (entry_of frame) (finished_request false) (λ r. refl) (λ q. finished frame outcome) rs old new together
    (λ q. finished_at frame outcome together.rest elsewhere rs q answered) distinct
