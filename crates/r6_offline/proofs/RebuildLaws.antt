-- A slot that is rebuilt, row by row.
use Rattle.std.proofs.Common.{◌≡◌, ◌≢◌, inl, inr, ◌⊎◌, get_or, ℕ, ◌+◌, ◌-◌, ◌<◌, ◌≤◌, Bool, true, false, cond, List, [], length, is_some, Some, None, refl, sym, ap, subst, ◌∙◌, arith, ⊎_elim}
use Rattle.std.specs.Prelude.{nat_eq, IfSome}
use Rattle.std.proofs.lemmas.Bool.{cases_eq, cases_lt, false≢true}
use Rattle.std.proofs.lemmas.Bool.Decides.{nat_tests}
use Rattle.std.proofs.lemmas.List.{get_or_past}
use Rattle.r6_dev.specs.History.{Block, Blocks, put}
use Rattle.r6_dev.specs.declared.fault.Fault.{Fault}
use Rattle.r6_dev.specs.declared.fault.Fault.TheVariants.{ReadFault}
use Rattle.r6_layout.specs.Shape.{Shape, IsShape, data_slots}
use Rattle.r6_layout.specs.Layout.{OwnsRow, shard_of, slot_at, position_at}
use Rattle.r6_layout.proofs.Roles.{position_at-slot_at, slot_at-lt}
use Rattle.r6_layout.proofs.Shards.{OwnsRow-shard_of, OwnsRow-same}
use Rattle.r6_recover.specs.Restores.{BecomesFullRow}
use Rattle.r6_recover.specs.Rows.{block_at, block_length, IsFullRow}
use Rattle.r6_dev.specs.Promises.{Covers, MayAnswer}
use Rattle.r6_recover.specs.Known.{AreTooMany}
use Rattle.r6_offline.specs.Lent.{FailsAlone, FailsNoRow, KeepPromises, Promises}
use Rattle.r6_offline.specs.Parts.{Parts, AllTell, IsAbsent, OnlyRead, part_number}
use Rattle.r6_offline.specs.Rows.{ReadFails, RowRead}
use Rattle.r6_offline.specs.declared.long_row.LongRow.{LongRow}
use Rattle.r6_offline.specs.declared.row.SlotFault.{SlotFault}
use Rattle.r6_offline.specs.Rebuilds.{AreFullRows, devices_of, AreTelling, HasCause, HasRestored, HoldsBelow, IsRestoredBlock, IsRestoredRow, IsOfTarget, IsSoundRebuild, MissesTwoAtMost, IsSpared, PartWritten, RebuildFails, RowRebuilt, IsRebuilt}
use Rattle.r6_offline.proofs.LentLaws.{but_none, but_since, clash, unpromised_row}
use Rattle.r6_offline.proofs.RowLaws.{only_read_none, only_read_both, all_tell_still}

pub restored_row : (shape : Shape) (old now : Parts) (row : ℕ) (known : List Bool) (before after : List Block)
    → IsShape shape → length before ≡ shape.slots → block_length before ≡ shape.block
    → RowRead shape old now row known before → BecomesFullRow known before after → IsRestoredRow shape old row after
restored_row shape old now row known before after is count long read becomes =
    λ device full tell is_full agree.
    let least : 4 ≤ shape.slots = is.slots_allowed.0 in
    let full_count : length full ≡ shape.slots - 2 + 2 = is_full.count in
    let full' : IsFullRow (length before - 2) (block_length before) full =
    subst (λ (n : ℕ). IsFullRow (n - 2) (block_length before) full) (sym count) (subst (λ (b : ℕ). IsFullRow (data_slots shape) b full) (sym long) is_full) in
    becomes full full' (λ position is_known.
    ⊎_elim
    (λ (within : position < shape.slots). read.gives device tell position within is_known ∙ agree position within)
    (λ (past : shape.slots ≤ position).
    get_or_past before position [] (omega (arith, count, past)) ∙ sym (get_or_past full position [] (omega (arith, full_count, least, past))))
    (cases_lt position shape.slots))

put_same : (blocks : Blocks) (row : ℕ) (block : Block) → put blocks row block row ≡ block
put_same blocks row block =
    let here : nat_eq row row ≡ true = grind (arith, nat_tests) in
    ap (λ (b : Bool). cond b block (blocks row)) here

put_other : (blocks : Blocks) (row : ℕ) (block : Block) (at : ℕ) → at ≢ row → put blocks row block at ≡ blocks at
put_other blocks row block at apart =
    let there : nat_eq at row ≡ false = grind (arith, nat_tests, apart) in
    ap (λ (b : Bool). cond b block (blocks at)) there

-- a row that is restored alone
pub restored_alone : (shape : Shape) (target : ℕ) (old now : Parts) (row : ℕ) (before : LongRow) (blocks : List Block) (block : Block) → row < shape.rows
    → OnlyRead old now → block ≡ block_at blocks (position_at shape row target) → IsRestoredRow shape now row blocks
    → IsRestoredBlock shape old target row before block
restored_alone shape target old now row before blocks block within read is restored full are tell held =
    is ∙ ap (λ (whole : List Block). block_at whole (position_at shape row target))
    (restored (devices_of shape full) (full row) (all_tell_still shape old now (devices_of shape full) read tell) (are row within)
    (λ position in_slots. ap (block_at (full row)) (position_at-slot_at shape row position in_slots)))

-- the rows below this one were rebuilt, and rows from it on may be restored
pub record Rebuilding (shape : Shape) (target : ℕ) (begin' now targets targets' : Parts) (long : LongRow) (row : ℕ) : Type 0 where
  pub only_read : OnlyRead begin' now
  pub holds :
      (full : ℕ → List Block) → AreFullRows shape full → AllTell shape begin' (devices_of shape full) → AreTelling shape targets
      → (shard : ℕ) → shard < shape.shards → HoldsBelow shape targets' shard row (devices_of shape full target)
  pub ahead :
      (full : ℕ → List Block) → AreFullRows shape full → AllTell shape begin' (devices_of shape full) → HasRestored shape target full long

pub rebuilding_none : (shape : Shape) (target : ℕ) (parts targets : Parts) (long : LongRow) → long.end ≡ 0
    → Rebuilding shape target parts parts targets targets long 0
rebuilding_none shape target parts targets long none = record {
  only_read = only_read_none parts;
  holds = λ full are tell telling shard in_shards.
      let tells = telling shard in_shards in
      (tells.0, tells.1, λ row owns below. absurd (omega (arith, below)));
  ahead = λ full are tell row from below. absurd (omega (arith, below, none));
}

-- the part of the row's shard, with one row more
holds_here : (shape : Shape) (row shard : ℕ) (before after : Parts) (block : Block) (column : ℕ → Block)
    → shard ≡ shard_of shape row → PartWritten before after (shard_of shape row) row block → block ≡ column row
    → ((blocks : Blocks) × (before shard ≡ Some (Some blocks)) × ((at : ℕ) → OwnsRow shape shard at → at < row → blocks at ≡ column at))
    → (blocks : Blocks) × (after shard ≡ Some (Some blocks)) × ((at : ℕ) → OwnsRow shape shard at → at < row + 1 → blocks at ≡ column at)
holds_here shape row shard before after block column same written is held = (
  put held.0 row block,
  ap after same ∙ written.written held.0 (sym (ap before same) ∙ held.1),
  λ at owns below.
      ⊎_elim
      (λ (here : at ≡ row). ap (put held.0 row block) here ∙ put_same held.0 row block ∙ is ∙ ap column (sym here))
      (λ (apart : at ≢ row). put_other held.0 row block at apart ∙ held.2 at owns (omega (arith, below, apart)))
      (cases_eq at row),
)

-- the part of another shard
holds_there : (shape : Shape) (row shard : ℕ) (before after : Parts) (block : Block) (column : ℕ → Block)
    → IsShape shape → row < shape.rows → shard ≢ shard_of shape row → PartWritten before after (shard_of shape row) row block
    → ((blocks : Blocks) × (before shard ≡ Some (Some blocks)) × ((at : ℕ) → OwnsRow shape shard at → at < row → blocks at ≡ column at))
    → (blocks : Blocks) × (after shard ≡ Some (Some blocks)) × ((at : ℕ) → OwnsRow shape shard at → at < row + 1 → blocks at ≡ column at)
holds_there shape row shard before after block column is within apart written held = (
  held.0,
  written.others shard apart ∙ held.1,
  λ at owns below.
      ⊎_elim
      (λ (here : at ≡ row). absurd (apart (OwnsRow-same shape shard (shard_of shape row) row is (subst (OwnsRow shape shard) here owns) (OwnsRow-shard_of shape row is within))))
      (λ (other : at ≢ row). held.2 at owns (omega (arith, below, other)))
      (cases_eq at row),
)

pub rebuilding_next : (shape : Shape) (target : ℕ) (begin' now next targets before after : Parts) (long long' : LongRow) (row : ℕ)
    → IsShape shape → row < shape.rows → Rebuilding shape target begin' now targets before long row
    → RowRebuilt shape target row now next before after long long'
    → Rebuilding shape target begin' next targets after long' (row + 1)
rebuilding_next shape target begin' now next targets before after long long' row is within so_far one =
    let still : (full : ℕ → List Block) → AllTell shape begin' (devices_of shape full) → AllTell shape now (devices_of shape full) =
    λ full. all_tell_still shape begin' now (devices_of shape full) so_far.only_read in
    record {
      only_read = only_read_both begin' now next so_far.only_read one.only_read;
      holds = λ full are tell telling shard in_shards.
          let column : ℕ → Block = devices_of shape full target in
          let held = so_far.holds full are tell telling shard in_shards in
          let given = one.restored full are (still full tell) (so_far.ahead full are tell) in
          ⊎_elim
          (λ (same : shard ≡ shard_of shape row). holds_here shape row shard before after one.block column same one.written given held)
          (λ (apart : shard ≢ shard_of shape row). holds_there shape row shard before after one.block column is within apart one.written held)
          (cases_eq shard (shard_of shape row));
      ahead = λ full are tell. one.ahead full are (still full tell) (so_far.ahead full are tell);
    }

pub rebuilt_at_end : (shape : Shape) (target : ℕ) (begin' now targets targets' : Parts) (long : LongRow)
    → Rebuilding shape target begin' now targets targets' long shape.rows
    → IsRebuilt shape target begin' targets targets' (record { rows = shape.rows; fault = None })
rebuilt_at_end shape target begin' now targets targets' long all = record {
  rows = refl;
  fault = tt;
  holds = λ full are tell telling shard in_shards spared. all.holds full are tell telling shard in_shards;
}

pub rebuilt_at_fault : (shape : Shape) (target : ℕ) (begin' now next targets before after : Parts) (long : LongRow) (row : ℕ) (fault : SlotFault)
    → Rebuilding shape target begin' now targets before long row → row < shape.rows → RebuildFails shape target row now next fault
    → ((shard : ℕ) → IsSpared shape target shard row fault.slot → after shard ≡ before shard)
    → IsRebuilt shape target begin' targets after (record { rows = row; fault = Some (record { row = row; slot = fault.slot; fault = fault.fault }) })
rebuilt_at_fault shape target begin' now next targets before after long row fault so_far within fails unwritten = record {
  rows = refl;
  fault = record { of_row = (within, fails.within); of_source = fails.of_source; of_target = fails.of_target };
  holds = λ full are tell telling shard in_shards spared.
      let held = so_far.holds full are tell telling shard in_shards in
      (held.0, unwritten shard spared ∙ held.1, held.2);
}

-- ---- the target's own part isn't there

-- a part that failed is of another slot
of_another : (shape : Shape) (target row : ℕ) (old : Parts) (fault : SlotFault) → IsShape shape → row < shape.rows
    → IsAbsent shape target old → ReadFails shape old row fault → fault.slot ≢ target
of_another shape target row old fault is within away fails same =
    let in_shards = (OwnsRow-shard_of shape row is within).is_shard in
    false≢true (sym (away (shard_of shape row) in_shards) ∙ ap (λ slot. is_some (old (part_number shape (shard_of shape row) slot))) (sym same) ∙ fails.is_there)

pub source_fails : (shape : Shape) (target row : ℕ) (promises : Promises) (old new : Parts) (fault : SlotFault) → IsShape shape → row < shape.rows
    → IsAbsent shape target old → ReadFails shape old row fault → FailsAlone shape promises old new row fault
    → RebuildFails shape target row old new fault
source_fails shape target row promises old new fault is within away fails alone = record {
  within = fails.within;
  of_source = λ _. fails.of_read;
  of_target = λ same. absurd (of_another shape target row old fault is within away fails same);
  kept = alone.kept;
}

pub source_cause : (shape : Shape) (target row : ℕ) (promises : Promises) (old new : Parts) (fault : SlotFault) → IsShape shape → row < shape.rows
    → IsAbsent shape target old → ((n : ℕ) → is_some (promises n) ≡ is_some (old n)) → ReadFails shape old row fault
    → FailsAlone shape promises old new row fault
    → (targets : Promises) → HasCause shape target old promises targets row fault
source_cause shape target row promises old new fault is within away there fails alone targets = record {
  there = λ _. there (part_number shape (shard_of shape row) fault.slot) ∙ fails.is_there;
  of_source = λ _. alone.unpromised;
  of_target = λ same. absurd (of_another shape target row old fault is within away fails same);
  source_kind = λ _. alone.kind;
  target_kind = λ same. absurd (of_another shape target row old fault is within away fails same);
}

-- the target itself failed
pub target_fails : (shape : Shape) (target row : ℕ) (old new : Parts) (fault : Fault) → target < shape.slots → OnlyRead old new → fault ≢ ReadFault
    → RebuildFails shape target row old new (record { slot = target; fault = fault })
target_fails shape target row old new fault within read other = record {
  within = within;
  of_source = λ apart. absurd (apart refl);
  of_target = λ _. other;
  kept = but_none (λ number. number ≡ part_number shape (shard_of shape row) target) old new read;
}

pub target_cause : (shape : Shape) (target row : ℕ) (parts : Parts) (promises targets : Promises) (fault : Fault)
    → (MissesTwoAtMost shape parts (shard_of shape row) → IfSome (targets (shard_of shape row)) (λ promise. ¬ Covers promise row shape.block))
    → IsOfTarget shape parts targets row fault → HasCause shape target parts promises targets row (record { slot = target; fault = fault })
target_cause shape target row parts promises targets fault none kind = record {
  there = λ apart. absurd (apart refl);
  of_source = λ apart. absurd (apart refl);
  of_target = λ _. none;
  source_kind = λ apart. absurd (apart refl);
  target_kind = λ _. kind;
}

-- of three slots without a part one is neither of two
three_of_two : (first second third a b : ℕ) → first < second → second < third → (first ≡ a) ⊎ (first ≡ b) → (second ≡ a) ⊎ (second ≡ b)
    → (third ≡ a) ⊎ (third ≡ b) → ⊥
three_of_two first second third a b below above one two three = omega (arith, below, above, one, two, three)

pub too_few : (shape : Shape) (old now : Parts) (row : ℕ) (known : List Bool) (blocks : List Block) → length blocks ≡ shape.slots
    → RowRead shape old now row known blocks → AreTooMany known (length blocks) → MissesTwoAtMost shape old (shard_of shape row) → ⊥
too_few shape old now row known blocks count read many two =
    let within : (position : ℕ) → position < length blocks → position < shape.slots = λ position below. omega (arith, count, below) in
    let absent : (position : ℕ) → position < length blocks → get_or known position false ≡ false
    → (slot_at shape row position ≡ two.first) ⊎ (slot_at shape row position ≡ two.second) =
    λ position below missing.
    two.others (slot_at shape row position) (slot_at-lt shape row position (omega (arith, within position below)))
    (sym (read.is_there position (within position below)) ∙ missing) in
    let back : (position : ℕ) (slot : ℕ) → position < length blocks → slot_at shape row position ≡ slot → position ≡ position_at shape row slot =
    λ position slot below is. sym (position_at-slot_at shape row position (within position below)) ∙ ap (position_at shape row) is in
    let third_in : many.third < length blocks = many.within in
    let second_in : many.second < length blocks = omega (arith, many.second_before, third_in) in
    let first_in : many.first < length blocks = omega (arith, many.first_before, second_in) in
    let place : (position : ℕ) → position < length blocks → get_or known position false ≡ false
    → (position ≡ position_at shape row two.first) ⊎ (position ≡ position_at shape row two.second) =
    λ position below missing. elim (absent position below missing) [
      | inl is ↦ inl (back position two.first below is)
      | inr is ↦ inr (back position two.second below is)
    ] in
    three_of_two many.first many.second many.third (position_at shape row two.first) (position_at shape row two.second) many.first_before many.second_before
    (place many.first first_in many.first_missing) (place many.second second_in many.second_missing) (place many.third third_in many.third_missing)

-- the same parts are there still
misses_since : (shape : Shape) (old now : Parts) (shard : ℕ) → OnlyRead old now → MissesTwoAtMost shape old shard → MissesTwoAtMost shape now shard
misses_since shape old now shard read two = record {
  first = two.first;
  second = two.second;
  others = λ slot within away. two.others slot within (sym (read.there (part_number shape shard slot)) ∙ away);
}

-- the cause is one of the parts as they were at first
pub cause_since : (shape : Shape) (target : ℕ) (old now : Parts) (promises now_promises targets now_targets : Promises) (row : ℕ) (fault : SlotFault)
    → OnlyRead old now → KeepPromises promises now_promises → KeepPromises targets now_targets
    → HasCause shape target now now_promises now_targets row fault → HasCause shape target old promises targets row fault
cause_since shape target old now promises now_promises targets now_targets row fault read keep keep_targets cause =
    let number = part_number shape (shard_of shape row) fault.slot in
    record {
      there = λ apart. sym (ap is_some (keep number)) ∙ cause.there apart;
      of_source = λ apart. subst (λ it. IfSome it (λ promise. ¬ Covers promise row shape.block)) (keep number) (cause.of_source apart);
      of_target = λ same two.
          subst (λ it. IfSome it (λ promise. ¬ Covers promise row shape.block)) (keep_targets (shard_of shape row))
          (cause.of_target same (misses_since shape old now (shard_of shape row) read two));
      source_kind = λ apart. subst (λ it. IfSome it (λ promise. MayAnswer promise row fault.fault)) (keep number) (cause.source_kind apart);
      target_kind = λ same. elim (cause.target_kind same) [
        | inl may ↦ inl (subst (λ it. IfSome it (λ promise. MayAnswer promise row fault.fault)) (keep_targets (shard_of shape row)) may)
        | inr few ↦ inr (few.0, λ two. few.1 (misses_since shape old now (shard_of shape row) read two))
      ];
    }

-- and so is the fault
pub fails_since : (shape : Shape) (target row : ℕ) (old now new : Parts) (fault : SlotFault) → OnlyRead old now
    → RebuildFails shape target row now new fault → RebuildFails shape target row old new fault
fails_since shape target row old now new fault read fails = record {
  within = fails.within;
  of_source = fails.of_source;
  of_target = fails.of_target;
  kept = but_since (λ number. number ≡ part_number shape (shard_of shape row) fault.slot) old now new read fails.kept;
}

pub sound_at_end : (shape : Shape) (target : ℕ) (parts : Parts) (promises targets : Promises) → IsSoundRebuild shape target parts promises targets None
sound_at_end shape target parts promises targets = record { of_source = tt; of_target = tt; source_kind = tt; target_kind = tt; all = λ _ _ _. refl }

pub sound_at_fault : (shape : Shape) (target : ℕ) (parts : Parts) (promises targets : Promises) (row : ℕ) (fault : SlotFault) → IsShape shape
    → row < shape.rows → fault.slot < shape.slots → ((shard : ℕ) → shard < shape.shards → is_some (targets shard) ≡ true)
    → HasCause shape target parts promises targets row fault
    → IsSoundRebuild shape target parts promises targets (Some (record { row = row; slot = fault.slot; fault = fault.fault }))
sound_at_fault shape target parts promises targets row fault is within in_slots there cause =
    let shard = shard_of shape row in
    let number = part_number shape shard fault.slot in
    let in_shards = (OwnsRow-shard_of shape row is within).is_shard in
    let source : fault.slot ≢ target → IfSome (promises number) (λ it. ¬ FailsNoRow shape shard it) =
    λ apart. unpromised_row shape row (promises number) is within (cause.of_source apart) in
    let own : fault.slot ≡ target → MissesTwoAtMost shape parts shard → IfSome (targets shard) (λ it. ¬ FailsNoRow shape shard it) =
    λ same two. unpromised_row shape row (targets shard) is within (cause.of_target same two) in
    record {
      of_source = source;
      of_target = own;
      source_kind = cause.source_kind;
      target_kind = cause.target_kind;
      all = λ all_promise all_targets enough.
          absurd (⊎_elim
          (λ (same : fault.slot ≡ target).
          clash (FailsNoRow shape shard) (targets shard) (there shard in_shards) (all_targets shard in_shards) (own same (enough shard in_shards)))
          (λ (apart : fault.slot ≢ target).
          clash (FailsNoRow shape shard) (promises number) (cause.there apart) (all_promise shard fault.slot in_shards in_slots) (source apart))
          (cases_eq fault.slot target));
    }
