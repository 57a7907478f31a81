-- A run of one core goes on, call by call.
use Rattle.std.proofs.Common.{◌≡◌, ℕ, ◌<◌, List, [], ◌∷◌, ◌++◌, refl, sym, ◌∙◌, subst, arith, Ok}
use Rattle.r6_layout.specs.Shape.{IsShape}
use Rattle.r6_health.specs.Registers.{starting}
use Rattle.r6_layout.specs.PlainArray.{Block}
use Rattle.r6_world.specs.PlainArray.{Array, Reply}
use Rattle.r6_world.specs.Registers.{Snapshot, RegisterCall, RegisterAnswer, Told, answer_to, register_after}
use Rattle.r6_world.specs.ShardStates as shards
use Rattle.r6_world.specs.ShardStates.{Fetch, Store}
use Rattle.r6_world.specs.Steps as steps
use Rattle.r6_world.specs.Steps.{Event, Completion, Deliver, Good, Error, Taken, Look, Take_call, Take_reply}
use Rattle.r6_world.specs.Worlds.{World, Devices, MayCome, as_made}
use Rattle.r6_world.specs.Claims.{IsLawfulStart}
use Rattle.r6_world.specs.Laws.{IsOfOutside}
use Rattle.r6_world.specs.Witness.{smallest, small}
use Rattle.r6_core.specs.Shards.{CoreView, Step}
use Rattle.r6_core.specs.Effects.{IsMade}
use Rattle.r6_core.specs.Runs.{IsShard}
use Rattle.r6_core_runs.specs.Losses.{of_core, HasRun, AnswersRead, Reads, Writes, IsTold, Tells}
use Rattle.r6_core_runs.specs.Fixes.{CommandTo, answered, told}
use Rattle.r6_core_runs.specs.Replacements.{FailsWrite}
use Rattle.r6_core_runs.proofs.LossRuns.{with_block, alone, errs, faults, ends}
use Rattle.r6_core_runs.proofs.RebuildRuns as runs
use Rattle.r6_core_runs.proofs.RebuildRuns.{Goes, begun, called, confirmed}

-- ---- commands

abbrev pub read_of : {slot generation : ℕ} {completion : Completion} {old new : CoreView} → AnswersRead slot generation 0 completion old new → CommandTo slot generation Fetch
read_of r =
    record {
      token = r.token;
      command = r.took.command;
      of_slot = r.took.of_slot;
      of_generation = r.took.of_generation;
      of_row = r.took.of_row;
      transfer_is = r.took.is_read;
    }

abbrev pub write_of : {slot generation : ℕ} {block : Block} {old new : CoreView} → Writes slot generation 0 block old new → CommandTo slot generation (Store block)
write_of r = record { token = r.token; command = r.command; of_slot = r.of_slot; of_generation = r.of_generation; of_row = r.of_row; transfer_is = r.is_write }

abbrev pub failed_of : {slot generation : ℕ} {block : Block} {old new : CoreView} → FailsWrite slot generation 0 block old new → CommandTo slot generation (Store block)
failed_of r = record { token = r.token; command = r.command; of_slot = r.of_slot; of_generation = r.of_generation; of_row = r.of_row; transfer_is = r.is_write }

-- a look at the register that was seen
pub looked_at : {r shown : Snapshot} → r ≡ shown → (old new : CoreView) → Step old (Look r) new → Step old (Look shown) new
looked_at is old new step = subst (λ (r : Snapshot). Step old (Look r) new) is step

-- ---- one core goes on

pub below : (n : ℕ) → n < 1 → n < smallest.shards
below n own = own

zeroth : 0 < 1
zeroth = omega arith

only : (n : ℕ) → n < 1 → 0 ≡ n
only n own = omega (arith, own)

module _ (limits : IsShape smallest) (device : Devices) (array : Array) (lawful : IsLawfulStart small (starting 0) device array) where
  -- where the calls of a run have led
  pub record Comes (register : Snapshot) (now : Devices) (events : List (ℕ × Event)) (core : CoreView) : Type 0 where
    pub goes : Goes smallest limits (IsShard smallest) IsOfOutside below device array lawful register now events (λ m. core)

  pub begins : (core : CoreView) → IsMade smallest (starting 0) 0 core → Comes (starting 0) device [] core
  begins core made = record {
    goes = begun smallest limits (IsShard smallest) IsOfOutside below device array lawful (λ m. core) (λ n own. subst (λ k. IsMade smallest (starting 0) k core) (only n own) made);
  }

  pub does : {register : Snapshot} {now : Devices} {events : List (ℕ × Event)} {old new : CoreView} → (event : Event) → ((w : World) → w.register ≡ register → MayCome w 0 event) → Step old event new
      → Comes register now events old → Comes register now (events ++ (0, event) ∷ []) new
  does {register} {now} {events} {old} {new} event may step x = record {
    goes = called smallest limits (IsShard smallest) IsOfOutside below device array lawful register now events (λ m. old) x.goes 0 zeroth old refl event new (λ m. new) (alone old new) may step;
  }

  pub looks : {register : Snapshot} {now : Devices} {events : List (ℕ × Event)} {old new : CoreView} → Step old (Look register) new
      → Comes register now events old → Comes register now (events ++ (0, Look register) ∷ []) new
  looks {register} step x = does (Look register) (λ w seen. sym seen) step x

  pub replies : {register : Snapshot} {now : Devices} {events : List (ℕ × Event)} {new : CoreView} → (old : CoreView) (reply : Reply) → Step old (Take_reply 0 reply) new
      → Comes register now events old → Comes register now (events ++ (0, Take_reply 0 reply) ∷ []) new
  replies old reply step x = does (Take_reply 0 reply) (λ w seen. record {}) step x

  pub meets : {register : Snapshot} {now : Devices} {events : List (ℕ × Event)} {old new : CoreView} {slot generation : ℕ} → (completion : Completion)
      → ((w : World) (token : ℕ) → MayCome w 0 (Deliver token completion Taken)) → (r : AnswersRead slot generation 0 completion old new)
      → Comes register now events old → Comes register now (events ++ of_core 0 (answered (read_of r) completion)) new
  meets {register} {now} {events} {old} {new} {slot} {generation} completion may r x =
      let y = errs smallest limits (IsShard smallest) IsOfOutside below device array lawful now events (λ m. old) x.goes.0 x.goes.2 0 zeroth old refl completion may slot generation 0 new (λ m. new) (alone old new) r in
      record { goes = (y.0, y.1 ∙ x.goes.1, y.2) }

  pub reads : {register : Snapshot} {now : Devices} {events : List (ℕ × Event)} {old new : CoreView} {slot generation : ℕ} → (block : Block) → now slot generation 0 ≡ block → (r : Reads slot generation 0 block old new)
      → Comes register now events old → Comes register now (events ++ of_core 0 (answered (read_of r) (Good block))) new
  reads {register} {now} {events} {old} {new} {slot} {generation} block stands r x = record {
    goes = runs.answered smallest limits (IsShard smallest) IsOfOutside below device array lawful register now events (λ m. old) x.goes 0 zeroth old refl slot generation 0 block new (λ m. new) (alone old new) stands r;
  }

  pub writes : {register : Snapshot} {now : Devices} {events : List (ℕ × Event)} {old new : CoreView} {slot generation : ℕ} → (block : Block) → (r : Writes slot generation 0 block old new)
      → Comes register now events old → Comes register (with_block now slot generation 0 block) (events ++ of_core 0 (answered (write_of r) (Good block))) new
  writes {register} {now} {events} {old} {new} {slot} {generation} block r x = record {
    goes = confirmed smallest limits (IsShard smallest) IsOfOutside below device array lawful register now events (λ m. old) x.goes 0 zeroth old refl slot generation 0 block new (λ m. new) (alone old new) r;
  }

  -- a call is made at the register, and told what this says
  pub hears : {register : Snapshot} {now : Devices} {events : List (ℕ × Event)} {old new : CoreView} → (next : Snapshot) (call : shards.Call) (answer : Told)
      → answer_to small register (as_made 0 call) ≡ answer → register_after small register (as_made 0 call) answer ≡ next → IsTold call answer old new
      → Comes register now events old → Comes next now (events ++ of_core 0 (Take_call call ∷ steps.Told call answer ∷ [])) new
  hears {register} {now} {events} {old} {new} next call answer answers leads step x = record {
    goes = runs.told smallest limits (IsShard smallest) IsOfOutside below device array lawful register next now events (λ m. old) x.goes 0 zeroth old refl call answer answers leads new (λ m. new) (alone old new) step;
  }

  pub tells : {register : Snapshot} {now : Devices} {events : List (ℕ × Event)} {old new : CoreView} → (next : Snapshot) (call : shards.Call) (answer : RegisterAnswer)
      → answer_to small register (as_made 0 call) ≡ Ok answer → register_after small register (as_made 0 call) (Ok answer) ≡ next → Tells call answer old new
      → Comes register now events old → Comes next now (events ++ of_core 0 (told call answer)) new
  tells next call answer answers leads step x = hears next call (Ok answer) answers leads step x

  -- a write is answered by an error
  pub fails : {register : Snapshot} {now : Devices} {events : List (ℕ × Event)} {old new : CoreView} {slot generation : ℕ} {block : Block} → (r : FailsWrite slot generation 0 block old new)
      → Comes register now events old → Comes register now (events ++ of_core 0 (answered (failed_of r) Error)) new
  fails {register} {now} {events} {old} {new} r x =
      let y = faults smallest limits (IsShard smallest) IsOfOutside below device array lawful now events (λ m. old) x.goes.0 x.goes.2 0 zeroth old refl Error (λ w token. record {})
      r.token r.command r.middle new (λ m. new) (alone old new) r.taken r.delivered in
      record { goes = (y.0, y.1 ∙ x.goes.1, y.2) }

  -- a call comes at the register from outside
  pub calls_in : {register : Snapshot} {now : Devices} {events : List (ℕ × Event)} {core : CoreView} → (next : Snapshot) (call : RegisterCall) → IsOfOutside call
      → register_after small register call (answer_to small register call) ≡ next → Comes register now events core → Comes next now (events ++ []) core
  calls_in {register} {now} {events} {core} next call may leads x = record {
    goes = runs.came smallest limits (IsShard smallest) IsOfOutside below device array lawful register next now events (λ m. core) x.goes call may leads;
  }

  pub finishes : {register : Snapshot} {now : Devices} {events : List (ℕ × Event)} {core : CoreView} → Comes register now events core
      → HasRun smallest (IsShard smallest) IsOfOutside (starting 0) device array events (λ n. core) register
  finishes {register} {now} {events} {core} x =
      ends smallest limits (IsShard smallest) IsOfOutside below device array lawful now events (λ m. core) x.goes.0 x.goes.2 register x.goes.1
