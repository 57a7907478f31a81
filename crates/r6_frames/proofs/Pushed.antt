-- A command is put out: the table of commands has it, under the next number.
use Rattle.std.proofs.Common.{◌≡◌, ℕ, ◌+◌, refl, Some, None}
use Rattle.std.specs.Ordering.{nat_cmp}
use Rattle.std.specs.FinMap as map
use Rattle.std.specs.FinMap.{FinMap}
use Rattle.r6_frames.specs.declared.command.Outstanding.{Outstanding}
use Rattle.r6_frames.specs.FramesState.{Commands}

abbrev pub pushed : Commands → Outstanding → Commands
pushed table c = record { next = table.next + 1; entries = map.insert table.entries table.next c }

pub no_number : (m : FinMap nat_cmp Outstanding) (k : ℕ) → ((c : Outstanding) → map.get m k ≡ Some c → ⊥) → map.get m k ≡ None
no_number m k h =
    elim (map.get m k) as (λ o. map.get m k ≡ o → o ≡ None) [
      | None ↦ λ e. refl
      | Some c ↦ λ e. absurd (h c e)
    ] refl
