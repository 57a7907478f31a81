use Rattle.std.proofs.Common.{◌≡◌, ◌≤◌, ℕ, zero, suc, ◌+◌, Bool, true, false, List, length, take, get_or, refl, ◌∙◌, rules, arith, add-one}
use Rattle.std.specs.Prelude.{count_by, if◌then◌else◌}
use Rattle.std.proofs.lemmas.Bool.{leb-true, le-leb}
use Rattle.std.proofs.lemmas.List.Sums.{count_by_more_no, count_by_more_yes}
use Rattle.r6_world.specs.ShardStates.{is_away}
use Rattle.r6_frames.specs.Slots.{state_of, no_slot, count_out}
use Rattle.r6_frames.specs.declared.slots.Slot.{Slot}
use Rattle.r6_frames.proofs.slots.goes_on.Goals as goal

abbrev is_slot_out : Slot → Bool
is_slot_out slot = is_away (state_of slot.device)

-- the slots that the code counts are those that are out
counted_out : (slots : List Slot) (count : ℕ) → count ≤ length slots → count_by is_slot_out (take count slots) ≡ count_out slots count
counted_out slots zero all = refl
counted_out slots (suc n) all =
    let rest = counted_out slots n (omega arith) in
    elim (is_slot_out (get_or slots n no_slot)) as (λ out. is_slot_out (get_or slots n no_slot) ≡ out → count_by is_slot_out (take (suc n) slots) ≡ (if out then 1 else 0) + count_out slots n) [
      | true ↦ λ out. let more = count_by_more_yes is_slot_out slots n no_slot (omega arith) out in rw (← add-one n) (omega arith)
      | false ↦ λ out. let more = count_by_more_no is_slot_out slots n no_slot (omega arith) out in rw (← add-one n) (omega arith)
    ] refl

pub returns-then-not-saw_failed : goal.returns-then-not-saw_failed
returns-then-not-saw_failed c =
    let slots = c.args.slots.now in
    let all : length slots ≡ 32 = omega arith in
    let counted : c.count.result ≡ count_by is_slot_out (take c.args.count slots) = search rules in
    let out : c.count.result ≡ count_out slots c.args.count = counted ∙ counted_out slots c.args.count (let most = c.requires in omega arith) in
    (λ yes. let few = leb-true c.count.result 2 yes in (omega arith, c.if-not-saw_failed.true), λ live. let few = live.0 in le-leb c.count.result 2 (omega arith))
