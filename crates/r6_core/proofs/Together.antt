-- Several requests go together from those that wait to those that a row is held for.
use Rattle.std.proofs.Common.{◌≡◌, ℕ, ◌||◌, Bool, true, false, cond, List, [], ◌∷◌, ◌++◌, map, refl, ap, ◌∙◌, Option, Some}
use Rattle.std.specs.Prelude.{nat_eq, if◌then◌else◌}
use Rattle.std.specs.Cmp.{nat_eq_equiv}
use Rattle.std.specs.List.{IsDistinct, AllByRecursion}
use Rattle.std.specs.Map.{keys_of}
use Rattle.std.proofs.lemmas.Bool.{eq-eqb}
use Rattle.std.proofs.lemmas.Map.Keys.{IsDistinct-head, IsDistinct-tail}
use Rattle.r6_world.specs.Tasks.{serves_one}
use Rattle.r6_world.specs.ShardStates as shards
use Rattle.r6_world.specs.ShardStates.{Held}
use Rattle.r6_world.specs.Changes.{staged}
use Rattle.r6_core.specs.declared.queued.Queued.{Queued}
use Rattle.r6_frames.specs.Calls.{entry_of}
use Rattle.r6_frames.proofs.Lists.{Entries, table}
use Rattle.r6_core.specs.Queued.{request_in, waiting_request}
use Rattle.r6_core.specs.Turns.{write_for}
use Rattle.r6_core.proofs.ChangedTogether.{AreChanged, ChangeTogether, changed_together}
use Rattle.r6_core.proofs.Lined.{all_then_too}

abbrev pub served_by : List Queued → ℕ → Bool
served_by rs id = serves_one (map write_for rs) id

-- what the frame's hold makes of a request
abbrev pub held_of : ℕ → List Queued → ℕ → Option shards.Request → Option shards.Request
held_of frame rs q request = if served_by rs q then staged request (Held frame) else request

-- the request as the frame has it
abbrev pub held_in : ℕ → Queued → ℕ × shards.Request
held_in frame q = entry_of frame (request_in q)

-- what a look-up gives of each, and of all others
staged_at : (frame : ℕ) (rest : Entries shards.Request) (rs : List Queued) (q : ℕ)
    → table (map (held_in frame) rs ++ rest) q ≡ held_of frame rs q (table (map waiting_request rs ++ rest) q)
staged_at frame rest [] q = refl
staged_at frame rest (r ∷ rs) q = elim (nat_eq q r.id) as (λ b. cond b (Some (held_in frame r).1) (table (map (held_in frame) rs ++ rest) q)
    ≡ (if b || served_by rs q then staged (cond b (Some (waiting_request r).1) (table (map waiting_request rs ++ rest) q)) (Held frame) else cond b (Some (waiting_request r).1) (table (map waiting_request rs ++ rest) q))) [
      | true ↦ refl
      | false ↦ staged_at frame rest rs q
    ]

-- ---- the requests when a hold begins

-- those of the frame waited, and the others stay as they are
abbrev pub AreHeld : ℕ → List Queued → Entries shards.Request → Entries shards.Request → Type 1
AreHeld frame rs old new = AreChanged (held_of frame rs) old new

pub held_together : (frame : ℕ) (rs : List Queued) (old new : Entries shards.Request) → ChangeTogether waiting_request (held_in frame) rs old new
    → IsDistinct nat_eq (keys_of old) → AreHeld frame rs old new
held_together frame rs old new together distinct =
    changed_together waiting_request (held_in frame) (λ r. refl) (held_of frame rs) rs old new together (staged_at frame together.rest rs) distinct

-- ---- the requests that wait

apart_from : (id : ℕ) (rs : List Queued) (rest : Entries shards.Request) → AllByRecursion (λ k. nat_eq id k ≡ false) (keys_of (map waiting_request rs ++ rest)) → AllByRecursion (λ (r : Queued). nat_eq id r.id ≡ false) rs
apart_from id [] rest all = tt
apart_from id (r ∷ rs) rest all = (all.0, apart_from id rs rest all.1)

-- each waits in the table
pub each_waits : (rs : List Queued) (rest : Entries shards.Request) → IsDistinct nat_eq (keys_of (map waiting_request rs ++ rest))
    → AllByRecursion (λ r. table (map waiting_request rs ++ rest) r.id ≡ Some (waiting_request r).1) rs
each_waits [] rest distinct = tt
each_waits (r ∷ rs) rest distinct =
    let later = each_waits rs rest (IsDistinct-tail nat_eq r.id (keys_of (map waiting_request rs ++ rest)) distinct) in
    let apart = apart_from r.id rs rest (IsDistinct-head nat_eq r.id (keys_of (map waiting_request rs ++ rest)) distinct) in (
      ap (λ (b : Bool). cond b (Some (waiting_request r).1) (table (map waiting_request rs ++ rest) r.id)) (eq-eqb r.id r.id refl),
      all_then_too (λ (x : Queued). table (map waiting_request rs ++ rest) x.id ≡ Some (waiting_request x).1) (λ (x : Queued). nat_eq r.id x.id ≡ false)
          (λ x. cond (nat_eq x.id r.id) (Some (waiting_request r).1) (table (map waiting_request rs ++ rest) x.id) ≡ Some (waiting_request x).1) rs
          (λ x is ne. ap (λ (b : Bool). cond b (Some (waiting_request r).1) (table (map waiting_request rs ++ rest) x.id)) (nat_eq_equiv.symm x.id r.id ∙ ne) ∙ is) later apart,
    )
