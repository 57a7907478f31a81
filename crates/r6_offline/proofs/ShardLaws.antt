-- The rows of a shard, checked as rows of an array of one shard.
use Rattle.std.proofs.Common.{◌≡◌, ◌≢◌, inl, inr, true, ℕ, ◌+◌, ◌-◌, ◌*◌, ◌<◌, ◌≤◌, List, [], ◌∷◌, ◌++◌, length, get_or, is_some, Option, Some, None, refl, sym, ap, subst, ◌∙◌, arith, ⊎_elim, add-one, add-zero, zero-add, map, drop, take, lit≤}
use Rattle.std.proofs.Math.Nat.{suc-mul, zero-mul}
use Rattle.std.proofs.lemmas.Bool.{cases_eq, cases_lt}
use Rattle.std.proofs.lemmas.List.{drop_more, get_or_append_left, get_or-append_right, length-append, length-map}
use Rattle.std.proofs.lemmas.Slice.Zip.{AllZip-long}
use Rattle.std.proofs.lemmas.List.Elements.{All-cons, All-head, All-nil, All-tail}
use Rattle.std.specs.List.{AllZip, flat_map}
use Rattle.std.specs.Prelude.{All, IfSome, option_map, ⊤}
use Rattle.r6_dev.specs.History.{Block, Telling}
use Rattle.r6_dev.specs.Promises.{Covers, MayAnswer, Promise}
use Rattle.r6_layout.specs.Shape.{Shape, IsShape}
use Rattle.r6_layout.specs.Layout.{OwnsRow, first_row, shard_of, slot_at}
use Rattle.r6_layout.proofs.Roles.{slot_at-lt}
use Rattle.r6_layout.proofs.Shards.{OwnsRow-lt, OwnsRow-same, OwnsRow-shard_of, first_row-lt, first_row_grows, first_row_last, first_row_zero, shard_of-lt}
use Rattle.r6_offline.specs.Parts.{Parts, Devices, TellsRows, AllTell, OnlyRead, part_number, parts_of}
use Rattle.r6_offline.specs.Lent.{AreLeft, FailsAlone, FailsNoRow, IsOfPart, IsSound, IsUnpromised, KeepPromises, MetNoFault, OnlyReadBut, Promises, TellsStill, failed_part, promises_of}
use Rattle.r6_offline.specs.Rows.{Fits, IsRow, ReadFails}
use Rattle.r6_offline.specs.Stretches.{FitsRows}
use Rattle.r6_offline.specs.Reports.{Finding, IsFinding, IsReport, joined, no_report}
use Rattle.r6_offline.specs.PartReports.{AreFound, IsPartReport, end_at, joined_all}
use Rattle.r6_offline.specs.ShardChecks.{AreShardChecks, Begins, HasChecked, HasOtherParts, IsShardCheck, one_shard, own_parts, report_of}
use Rattle.r6_offline.specs.declared.report.Report.{Report}
use Rattle.r6_offline.specs.declared.report.RowFault.{RowFault}
use Rattle.r6_offline.specs.declared.row.SlotFault.{SlotFault}
use Rattle.r6_offline.specs.declared.shard_check.ShardCheck.{ShardCheck}
use Rattle.r6_offline.proofs.CheckLaws.{written}
use Rattle.r6_offline.proofs.LentLaws.{clash, keep_none, same_there, sound_none, unpromised_row}
use Rattle.r6_offline.proofs.PartLaws.{AreReports, are_joined, joined_met, joined_on}
use Rattle.r6_offline.proofs.ReportLaws.{Checked, none_checked}

pub one_is_shape : (shape : Shape) → IsShape shape → IsShape (one_shard shape)
one_is_shape shape is =
    let some = is.shards_allowed.0 in
    let enough = is.shards_allowed.2 in
    record {
      slots_allowed = is.slots_allowed;
      chunk_allowed = is.chunk_allowed;
      block_allowed = is.block_allowed;
      rows_allowed = is.rows_allowed;
      shards_allowed = (lit≤ tt, lit≤ tt, omega (arith, some, enough));
    }

one_owner : (shape : Shape) (row : ℕ) → IsShape shape → row < shape.rows → shard_of (one_shard shape) row ≡ 0
one_owner shape row is within =
    let below : shard_of (one_shard shape) row < 1 = shard_of-lt (one_shard shape) row (one_is_shape shape is) within in
    omega (arith, below)

pub one_number : (slots slot : ℕ) → 0 * slots + slot ≡ slot
one_number slots slot = ap (λ n. n + slot) (zero-mul slots) ∙ zero-add slot

-- these are the parts of a shard
abbrev pub AreOwn : Shape → Parts → (shard : ℕ) → (own : Parts) → Type 0
AreOwn shape parts shard own = (slot : ℕ) → slot < shape.slots → own slot ≡ parts (part_number shape shard slot)

own_at : (shape : Shape) (parts : Parts) (shard row : ℕ) (own : Parts) → IsShape shape → OwnsRow shape shard row → AreOwn shape parts shard own
    → (slot : ℕ) → slot < shape.slots
    → own (part_number (one_shard shape) (shard_of (one_shard shape) row) slot) ≡ parts (part_number shape (shard_of shape row) slot)
own_at shape parts shard row own is owns are slot within =
    let below = OwnsRow-lt shape shard row is owns in
    let same : shard ≡ shard_of shape row = OwnsRow-same shape shard (shard_of shape row) row is owns (OwnsRow-shard_of shape row is below) in
    ap (λ s. own (part_number (one_shard shape) s slot)) (one_owner shape row is below) ∙ ap own (one_number shape.slots slot)
    ∙ are slot within ∙ ap (λ s. parts (part_number shape s slot)) same

-- what a part tells, or else what one likes
abbrev told_or : Option Telling → (ℕ → Block) → ℕ → Block
told_or None other row = other row
told_or (Some None) other row = other row
told_or (Some (Some told)) other row = told row

tells_itself : (part : Option Telling) (blocks : ℕ → Block) (first end first' end' : ℕ)
    → TellsRows first end blocks part → TellsRows first' end' (told_or part blocks) part
tells_itself None blocks first end first' end' tells = tt
tells_itself (Some None) blocks first end first' end' tells = absurd tells
tells_itself (Some (Some told)) blocks first end first' end' tells = λ row from below. refl

tells_same : (part : Option Telling) (blocks : ℕ → Block) (first end row : ℕ) → TellsRows first end blocks part
    → first ≤ row → row < end → told_or part blocks row ≡ blocks row
tells_same None blocks first end row tells from below = refl
tells_same (Some None) blocks first end row tells from below = refl
tells_same (Some (Some told)) blocks first end row tells from below = tells row from below

own_finding : (shape : Shape) (parts : Parts) (shard row : ℕ) (own : Parts) (finding : Finding) → IsShape shape → OwnsRow shape shard row
    → AreOwn shape parts shard own → IsFinding (one_shard shape) own row finding → IsFinding shape parts row finding
own_finding shape parts shard row own None is owns are found =
    (found.0, found.1, ap is_some (sym (own_at shape parts shard row own is owns are found.0 found.1)) ∙ found.2)
own_finding shape parts shard row own (Some class) is owns are found = (
  λ slot within. ap is_some (sym (own_at shape parts shard row own is owns are slot within)) ∙ found.0 slot within,
  λ device tell.
      let first = first_row shape shard in
      let end = first_row shape (shard + 1) in
      let own_device : Devices = λ slot. told_or (own slot) (device slot) in
      let tells : (slot : ℕ) → slot < shape.slots → TellsRows first end (device slot) (own slot) =
      λ slot within. subst (TellsRows first end (device slot)) (sym (are slot within)) (tell shard slot owns.is_shard within) in
      let number : (shard' slot : ℕ) → shard' < 1 → part_number (one_shard shape) shard' slot ≡ slot =
      λ shard' slot below. let none : shard' ≡ 0 = omega (arith, below) in ap (λ s. part_number (one_shard shape) s slot) none ∙ one_number shape.slots slot in
      let own_tell : AllTell (one_shard shape) own own_device =
      λ shard' slot below within.
      subst (TellsRows (first_row (one_shard shape) shard') (first_row (one_shard shape) (shard' + 1)) (own_device slot)) (ap own (sym (number shard' slot below)))
      (tells_itself (own slot) (device slot) first end (first_row (one_shard shape) shard') (first_row (one_shard shape) (shard' + 1)) (tells slot within)) in
      let of_class = found.1 own_device own_tell in
      let row_is : IsRow shape device row of_class.0 = record {
        count = of_class.1.count;
        each = λ position within.
            let slot = slot_at shape row position in
            let in_slots : slot < shape.slots = slot_at-lt shape row position (omega (arith, within)) in
            of_class.1.each position within
            ∙ tells_same (own slot) (device slot) first end row (tells slot in_slots) owns.from_first owns.below_next;
      } in
      (of_class.0, row_is, of_class.2),
)

found_own : (shape : Shape) (parts : Parts) (shard row : ℕ) (own : Parts) (findings : List Finding) → IsShape shape → shard < shape.shards
    → first_row shape shard ≤ row → row + length findings ≤ first_row shape (shard + 1) → AreOwn shape parts shard own
    → AreFound (one_shard shape) own row findings → AreFound shape parts row findings
found_own shape parts shard row own [] is in_shards from to are found = tt
found_own shape parts shard row own (finding ∷ findings) is in_shards from to are found = (
  own_finding shape parts shard row own finding is (record { is_shard = in_shards; from_first = from; below_next = omega (arith, to) }) are found.0,
  found_own shape parts shard (row + 1) own findings is in_shards (omega (arith, from)) (omega (arith, to)) are found.1,
)

own_fault : (shape : Shape) (parts : Parts) (shard row : ℕ) (own : Parts) (fault : SlotFault) → IsShape shape → OwnsRow shape shard row
    → AreOwn shape parts shard own → ReadFails (one_shard shape) own row fault → ReadFails shape parts row fault
own_fault shape parts shard row own fault is owns are fails = record {
  within = fails.within;
  is_there = ap is_some (sym (own_at shape parts shard row own is owns are fault.slot fails.within)) ∙ fails.is_there;
  of_read = fails.of_read;
}

-- where a part's report ends, and why
own_end : (shape : Shape) (own : Parts) (end : ℕ) (fault : Option RowFault)
    → IfSome fault (λ it. (it.row < end) × ReadFails shape own it.row (record { slot = it.slot; fault = it.fault })) → end_at end fault ≤ end
own_end shape own end None met = omega arith
own_end shape own end (Some fault) met =
    let below : fault.row < end = met.0 in
    omega (arith, below)

own_met : (shape : Shape) (parts : Parts) (shard : ℕ) (own : Parts) (fault : Option RowFault) → IsShape shape → shard < shape.shards
    → first_row shape shard ≤ end_at (first_row shape (shard + 1)) fault → AreOwn shape parts shard own
    → IfSome fault (λ it. (it.row < first_row shape (shard + 1)) × ReadFails (one_shard shape) own it.row (record { slot = it.slot; fault = it.fault }))
    → IfSome fault (λ it. (it.row < first_row shape (shard + 1)) × ReadFails shape parts it.row (record { slot = it.slot; fault = it.fault }))
own_met shape parts shard own None is in_shards from are met = met
own_met shape parts shard own (Some fault) is in_shards from are met = (
  met.0,
  own_fault shape parts shard fault.row own (record { slot = fault.slot; fault = fault.fault }) is
      (record { is_shard = in_shards; from_first = from; below_next = met.0 }) are met.1,
)

-- the report of a shard's rows
pub own_report : (shape : Shape) (parts : Parts) (shard : ℕ) (own : Parts) (report : Report) → IsShape shape → shard < shape.shards
    → AreOwn shape parts shard own → IsPartReport (one_shard shape) own (first_row shape shard) (first_row shape (shard + 1)) report
    → IsPartReport shape parts (first_row shape shard) (first_row shape (shard + 1)) report
own_report shape parts shard own report is in_shards are part =
    let first = first_row shape shard in
    let end = first_row shape (shard + 1) in
    let count : first + length part.findings ≡ end_at end report.fault = part.count in
    let ends = own_end (one_shard shape) own end report.fault part.fault in
    record {
      findings = part.findings;
      are_found = found_own shape parts shard first own part.findings is in_shards (omega arith) (omega (arith, count, ends)) are part.are_found;
      count = count;
      is = part.is;
      fault = own_met shape parts shard own report.fault is in_shards (omega (arith, count)) are part.fault;
    }

-- ---- the checks of all shards

-- each has places for a shard's parts
abbrev pub HasPlaces : {D : Type 0} → (slots : ℕ) → ShardCheck D → Type 0
HasPlaces slots check = length check.parts.items ≡ slots

-- each check has its shard's parts, from this shard on, the first of which has this number
abbrev pub HaveOwn : {D X : Type 0} → (D → X) → (slots : ℕ) → (ℕ → Option X) → (number : ℕ) → List (ShardCheck D) → Type 0
HaveOwn told slots parts number [] = ⊤
HaveOwn told slots parts number (check ∷ checks) =
    ((slot : ℕ) → slot < slots → option_map told (get_or (own_parts check) slot None) ≡ parts (number + slot)) × HaveOwn told slots parts (number + slots) checks

pub have_own : {D X : Type 0} (told : D → X) (slots : ℕ) (parts : ℕ → Option X) (number : ℕ) (checks : List (ShardCheck D))
    → All (HasPlaces slots) checks
    → ((at : ℕ) → option_map told (get_or (flat_map own_parts checks) at None) ≡ parts (number + at))
    → HaveOwn told slots parts number checks
have_own told slots parts number [] long is = tt
have_own told slots parts number (check ∷ checks) long is =
    let own = own_parts check in
    let rest = flat_map own_parts checks in
    let count : length own ≡ slots = All-head (HasPlaces slots) check checks long in (
      λ slot within.
          ap (option_map told) (sym (get_or_append_left own rest None slot (omega (arith, within, count)))) ∙ is slot,
      have_own told slots parts (number + slots) checks (All-tail (HasPlaces slots) check checks long)
          (λ at.
          let past : length own ≤ slots + at = omega (arith, count) in
          let back : slots + at - slots ≡ at = omega arith in
          let place : number + (slots + at) ≡ number + slots + at = omega arith in
          ap (option_map told) (sym (get_or-append_right own rest slots (slots + at) None count (omega arith) ∙ ap (λ n. get_or rest n None) back))
          ∙ is (slots + at) ∙ ap parts place),
    )

pub reports_of : {D : Type 0} (told : D → Telling) (promised : D → Promise) (shape : Shape) (parts : Parts) (shard : ℕ) (empty begun ended : List (ShardCheck D))
    → IsShape shape → shard + length empty ≡ shape.shards → AreShardChecks shape shard empty → AllZip HasOtherParts empty begun
    → HaveOwn told shape.slots parts (shard * shape.slots) begun → AllZip (HasChecked told promised (one_shard shape)) begun ended
    → AreReports shape parts shard (map report_of ended)
reports_of told promised shape parts shard [] [] [] is count are other own checked = tt
reports_of told promised shape parts shard [] (b ∷ begun) ended is count are other own checked = absurd other
reports_of told promised shape parts shard (e ∷ empty) [] ended is count are other own checked = absurd other
reports_of told promised shape parts shard [] [] (d ∷ ended) is count are other own checked = absurd checked
reports_of told promised shape parts shard (e ∷ empty) (b ∷ begun) [] is count are other own checked = absurd checked
reports_of told promised shape parts shard (e ∷ empty) (b ∷ begun) (d ∷ ended) is count are other own checked =
    let in_shards : shard < shape.shards = omega (arith, count) in
    let one = checked.0.report in
    let first = other.0.first ∙ are.0.first in
    let end = other.0.end ∙ are.0.end in
    let next : shard * shape.slots + shape.slots ≡ (shard + 1) * shape.slots = sym (ap (λ n. n * shape.slots) (add-one shard) ∙ suc-mul shard shape.slots) in (
      own_report shape parts shard (parts_of told b.parts.items) d.report is in_shards own.0
          (subst (λ (n : ℕ). IsPartReport (one_shard shape) (parts_of told b.parts.items) (first_row shape shard) n d.report) end
          (subst (λ (n : ℕ). IsPartReport (one_shard shape) (parts_of told b.parts.items) n b.end d.report) first one)),
      reports_of told promised shape parts (shard + 1) empty begun ended is (omega (arith, count)) are.1 other.1
          (subst (λ (n : ℕ). HaveOwn told shape.slots parts n begun) next own.1) checked.1,
    )

-- they may begin
pub all_begin : {D : Type 0} (shape : Shape) (shard : ℕ) (empty begun : List (ShardCheck D)) → IsShape shape
    → shard + length empty ≡ shape.shards → AreShardChecks shape shard empty → AllZip HasOtherParts empty begun → All (Begins (one_shard shape)) begun
all_begin shape shard [] [] is count are other = All-nil (Begins (one_shard shape))
all_begin shape shard [] (b ∷ begun) is count are other = absurd other
all_begin shape shard (e ∷ empty) [] is count are other = absurd other
all_begin shape shard (e ∷ empty) (b ∷ begun) is count are other =
    let first : b.first_row ≡ first_row shape shard = other.0.first ∙ are.0.first in
    let end : b.end ≡ first_row shape (shard + 1) = other.0.end ∙ are.0.end in
    let some = first_row-lt shape shard is in
    let grows = first_row_grows shape (shard + 1) shape.shards is (omega (arith, count)) in
    let last = first_row_last shape is in
    let one : 1 * shape.slots ≡ shape.slots = omega arith in
    All-cons (Begins (one_shard shape)) b begun
    (record {
      parts = other.0.places ∙ are.0.places ∙ sym one;
      room = subst (λ check. Fits (one_shard shape) check.reader) (sym other.0.check) are.0.room;
      stretch = subst (FitsRows (one_shard shape)) (sym other.0.stretch) are.0.stretch;
      rows = (omega (arith, first, end, some), omega (arith, end, grows, last));
    })
    (all_begin shape (shard + 1) empty begun is (omega (arith, count)) are.1 other.1)

pub all_have_places : {D : Type 0} (shape : Shape) (shard : ℕ) (checks : List (ShardCheck D)) → AreShardChecks shape shard checks
    → All (HasPlaces shape.slots) checks
all_have_places shape shard [] are = All-nil (HasPlaces shape.slots)
all_have_places shape shard (check ∷ checks) are =
    All-cons (HasPlaces shape.slots) check checks are.0.places (all_have_places shape (shard + 1) checks are.1)

pub places_still : {D : Type 0} (R : ShardCheck D → ShardCheck D → Type 0)
    → ((old new : ShardCheck D) → R old new → length new.parts.items ≡ length old.parts.items)
    → (slots : ℕ) (old new : List (ShardCheck D)) → AllZip R old new → All (HasPlaces slots) old → All (HasPlaces slots) new
places_still R same slots [] [] each long = All-nil (HasPlaces slots)
places_still R same slots [] (n ∷ new) each long = absurd each
places_still R same slots (o ∷ old) [] each long = absurd each
places_still R same slots (o ∷ old) (n ∷ new) each long =
    let here : length o.parts.items ≡ slots = All-head (HasPlaces slots) o old long in
    All-cons (HasPlaces slots) n new (same o n each.0 ∙ here)
    (places_still R same slots old new each.1 (All-tail (HasPlaces slots) o old long))

pub length_of_all : {D : Type 0} (slots : ℕ) (checks : List (ShardCheck D)) → All (HasPlaces slots) checks
    → length (flat_map own_parts checks) ≡ length checks * slots
length_of_all slots [] long = sym (zero-mul slots)
length_of_all slots (check ∷ checks) long =
    let here : length check.parts.items ≡ slots = All-head (HasPlaces slots) check checks long in
    let others = length_of_all slots checks (All-tail (HasPlaces slots) check checks long) in
    let both = length-append check.parts.items (flat_map own_parts checks) in
    let more : length (check ∷ checks) * slots ≡ length checks * slots + slots = suc-mul (length checks) slots in
    omega (arith, here, others, both, more)

-- all checks have as many places as before
pub length_still : {D : Type 0} (R : ShardCheck D → ShardCheck D → Type 0)
    → ((old new : ShardCheck D) → R old new → length new.parts.items ≡ length old.parts.items)
    → (old new : List (ShardCheck D)) → AllZip R old new → length (flat_map own_parts new) ≡ length (flat_map own_parts old)
length_still R same [] [] each = refl
length_still R same [] (n ∷ new) each = absurd each
length_still R same (o ∷ old) [] each = absurd each
length_still R same (o ∷ old) (n ∷ new) each =
    let here = same o n each.0 in
    let others = length_still R same old new each.1 in
    let before = length-append o.parts.items (flat_map own_parts old) in
    let after = length-append n.parts.items (flat_map own_parts new) in
    omega (arith, here, others, before, after)

-- the places of the checks behind the first
pub rest_left : {D : Type 0} (parts others : List (Option D)) (checks rest : List (ShardCheck D)) (first : ShardCheck D) (count : ℕ)
    → length parts ≡ length (flat_map own_parts checks) → checks ≡ first ∷ rest → count ≡ length first.parts.items
    → length others + count ≡ length parts → length others ≡ length (flat_map own_parts rest)
rest_left parts others checks rest first count all is own cut =
    let both = ap (λ l. length (flat_map own_parts l)) is in
    let long = length-append first.parts.items (flat_map own_parts rest) in
    omega (arith, all, both, long, own, cut)

pub first_fits : {D : Type 0} (parts : List (Option D)) (checks rest : List (ShardCheck D)) (first : ShardCheck D) (count : ℕ)
    → length parts ≡ length (flat_map own_parts checks) → checks ≡ first ∷ rest → count ≡ length first.parts.items
    → count ≤ length parts
first_fits parts checks rest first count all is own =
    let both = ap (λ l. length (flat_map own_parts l)) is in
    let long = length-append first.parts.items (flat_map own_parts rest) in
    omega (arith, all, both, long, own)

-- the parts of the first check and those of the others, exchanged
pub exchanged_lent : {D : Type 0} (parts own others given : List (Option D)) (items : List (Option D)) (count : ℕ) (rest : List (ShardCheck D))
    → parts ≡ own ++ others → given ≡ own → count ≡ length given → flat_map own_parts rest ≡ others
    → take count (given ++ drop (length given) items) ++ flat_map own_parts rest ≡ parts
exchanged_lent parts own others given items count rest cut lent all behind =
    ap (λ l. l ++ flat_map own_parts rest) (written given (drop (length given) items) count all)
    ∙ ap (λ l. l ++ flat_map own_parts rest) lent ∙ ap (λ l. own ++ l) behind ∙ sym cut

pub no_checks : {D : Type 0} (checks : List (ShardCheck D)) → length checks ≡ 0 → checks ≡ []
no_checks [] none = refl
no_checks (check ∷ checks) none = absurd (omega (arith, none))

pub no_parts_left : {D : Type 0} (parts : List (Option D)) → length parts ≡ 0 → parts ≡ []
no_parts_left [] none = refl
no_parts_left (part ∷ parts) none = absurd (omega (arith, none))

-- the reports stay while parts are handed back
pub same_reports : {D : Type 0} (old new : List (ShardCheck D)) → AllZip HasOtherParts old new → map report_of new ≡ map report_of old
same_reports [] [] same = refl
same_reports [] (n ∷ new) same = absurd same
same_reports (o ∷ old) [] same = absurd same
same_reports (o ∷ old) (n ∷ new) same =
    ap (λ (r : Report). r ∷ map report_of new) same.0.report ∙ ap (λ (rs : List Report). o.report ∷ rs) (same_reports old new same.1)

-- one check more
pub checks_push : {D : Type 0} (shape : Shape) (shard : ℕ) (checks : List (ShardCheck D)) (check : ShardCheck D)
    → AreShardChecks shape shard checks → IsShardCheck shape (shard + length checks) check → AreShardChecks shape shard (checks ++ check ∷ [])
checks_push shape shard [] check are is = (subst (λ (s : ℕ). IsShardCheck shape s check) (add-zero shard) is, tt)
checks_push shape shard (first ∷ checks) check are is = (
  are.0,
  checks_push shape (shard + 1) checks check are.1 (subst (λ (s : ℕ). IsShardCheck shape s check) (omega arith) is),
)

-- the reports that are left to join
pub left_to_join : {D : Type 0} (checks : List (ShardCheck D)) (index : ℕ) (check : ShardCheck D) → index < length checks
    → check ≡ get_or checks index check
    → map report_of (drop index checks) ≡ check.report ∷ map report_of (drop (index + 1) checks)
left_to_join checks index check within is =
    ap (map report_of) (drop_more checks index check within)
    ∙ ap (λ (it : ShardCheck _). it.report ∷ map report_of (drop (index + 1) checks)) (sym is)

-- ---- the whole check

pub all_checked : {D : Type 0} (told : D → Telling) (promised : D → Promise) (shape : Shape) (lent : List (Option D)) (empty begun ended : List (ShardCheck D))
    → IsShape shape → length empty ≡ shape.shards → AreShardChecks shape 0 empty → AllZip HasOtherParts empty begun
    → flat_map own_parts begun ≡ lent → AllZip (HasChecked told promised (one_shard shape)) begun ended
    → IsReport shape (parts_of told lent) (joined_all no_report (map report_of ended))
all_checked told promised shape lent empty begun ended is count are other own checked =
    let parts = parts_of told lent in
    let places = places_still HasOtherParts (λ o n same. same.places) shape.slots empty begun other (all_have_places shape 0 empty are) in
    let have = have_own told shape.slots parts (0 * shape.slots) begun places
    (λ at. ap (λ l. parts_of told l at) own ∙ ap parts (sym (one_number shape.slots at))) in
    let begun_count = AllZip-long HasOtherParts empty begun other in
    let ended_count = AllZip-long (HasChecked told promised (one_shard shape)) begun ended checked in
    let reports = length-map ended report_of in
    are_joined shape parts 0 no_report (map report_of ended) is (omega (arith, reports, ended_count, begun_count, count))
    (subst (λ (r : ℕ). Checked shape parts r no_report) (sym (first_row_zero shape)) (none_checked shape parts))
    (reports_of told promised shape parts 0 empty begun ended is (zero-add (length empty) ∙ count) are other have checked)

-- ---- what is left of the parts

-- what the check of a shard left of its parts
pub record ShardLeft (shape : Shape) (promises : Promises) (old new : Parts) (shard : ℕ) (fault : Option RowFault) : Type 0 where
  pub promising : (slot : ℕ) → slot < shape.slots → IfSome (promises (part_number shape shard slot)) (FailsNoRow shape shard)
      → TellsStill old new (part_number shape shard slot)
  pub unfailed : (slot : ℕ) → slot < shape.slots → IfSome fault (λ it. slot ≢ it.slot) → TellsStill old new (part_number shape shard slot)
  pub named : IfSome fault (λ it. (shard ≡ shard_of shape it.row) × (it.slot < shape.slots) × IsUnpromised shape promises it
      × (is_some (promises (failed_part shape it)) ≡ true))
  pub kind : IfSome fault (IsOfPart shape promises)

-- the row of a shard's fault is one of the shard
fault_here : (shape : Shape) (parts : Parts) (shard : ℕ) (report : Report) (fault : Option RowFault) → IsShape shape → shard < shape.shards
    → report.fault ≡ fault → IsPartReport shape parts (first_row shape shard) (first_row shape (shard + 1)) report
    → IfSome fault (λ it. OwnsRow shape shard it.row × ReadFails shape parts it.row (record { slot = it.slot; fault = it.fault }))
fault_here shape parts shard report None is in_shards same part = tt
fault_here shape parts shard report (Some fault) is in_shards same part =
    let met = subst (λ it. IfSome it (λ met. (met.row < first_row shape (shard + 1)) × ReadFails shape parts met.row (record { slot = met.slot; fault = met.fault }))) same part.fault in
    let count : first_row shape shard + length part.findings ≡ fault.row =
    subst (λ it. first_row shape shard + length part.findings ≡ end_at (first_row shape (shard + 1)) it) same part.count in
    (record { is_shard = in_shards; from_first = omega (arith, count); below_next = met.0 }, met.1)

covers_row : (shape : Shape) (shard row : ℕ) (promise : Option Promise) → OwnsRow shape shard row
    → IfSome promise (FailsNoRow shape shard) → IfSome promise (λ it. Covers it row shape.block)
covers_row shape shard row None owns all = tt
covers_row shape shard row (Some promise) owns all = all row owns

shard_left : (shape : Shape) (promises : Promises) (old new : Parts) (shard : ℕ) (own_promises : Promises) (own own' : Parts)
    (fault : Option RowFault) → IsShape shape → shard < shape.shards → AreOwn shape old shard own → AreOwn shape new shard own'
    → ((slot : ℕ) → slot < shape.slots → own_promises slot ≡ promises (part_number shape shard slot))
    → ((n : ℕ) → is_some (promises n) ≡ is_some (old n))
    → IfSome fault (λ it. OwnsRow shape shard it.row × ReadFails shape old it.row (record { slot = it.slot; fault = it.fault }))
    → (fault ≡ None → OnlyRead own own')
    → IfSome fault (λ it. FailsAlone (one_shard shape) own_promises own own' it.row (record { slot = it.slot; fault = it.fault }))
    → ShardLeft shape promises old new shard fault
shard_left shape promises old new shard own_promises own own' None is in_shards are are' promise there here kept alone =
    let still : (slot : ℕ) → slot < shape.slots → TellsStill old new (part_number shape shard slot) =
    λ slot within first end blocks tell.
    subst (TellsRows first end blocks) (are' slot within)
    ((kept refl).tells slot first end blocks (subst (TellsRows first end blocks) (sym (are slot within)) tell)) in
    record { promising = λ slot within _. still slot within; unfailed = λ slot within _. still slot within; named = tt; kind = tt }
shard_left shape promises old new shard own_promises own own' (Some fault) is in_shards are are' promise there here kept alone =
    let row = fault.row in
    let owns = here.0 in
    let fails = here.1 in
    let within_row = OwnsRow-lt shape shard row is owns in
    let same : shard ≡ shard_of shape row = OwnsRow-same shape shard (shard_of shape row) row is owns (OwnsRow-shard_of shape row is within_row) in
    let number : part_number (one_shard shape) (shard_of (one_shard shape) row) fault.slot ≡ fault.slot =
    ap (λ s. part_number (one_shard shape) s fault.slot) (one_owner shape row is within_row) ∙ one_number shape.slots fault.slot in
    let at : part_number shape shard fault.slot ≡ failed_part shape fault = ap (λ s. part_number shape s fault.slot) same in
    let but : OnlyReadBut (λ n. n ≡ fault.slot) own own' =
    subst (λ (k : ℕ). OnlyReadBut (λ n. n ≡ k) own own') number alone.kept in
    let no' : IfSome (promises (failed_part shape fault)) (λ it. ¬ Covers it row shape.block) =
    subst (λ it. IfSome it (λ promise. ¬ Covers promise row shape.block)) (promise fault.slot fails.within ∙ ap promises at)
    (subst (λ (k : ℕ). IfSome (own_promises k) (λ it. ¬ Covers it row shape.block)) number alone.unpromised) in
    let kind : IsOfPart shape promises fault =
    subst (λ it. IfSome it (λ promise. MayAnswer promise row fault.fault)) (promise fault.slot fails.within ∙ ap promises at)
    (subst (λ (k : ℕ). IfSome (own_promises k) (λ it. MayAnswer it row fault.fault)) number alone.kind) in
    let is_there : is_some (promises (failed_part shape fault)) ≡ true = there (failed_part shape fault) ∙ fails.is_there in
    let still : (slot : ℕ) → slot < shape.slots → slot ≢ fault.slot → TellsStill old new (part_number shape shard slot) =
    λ slot within apart first end blocks tell.
    subst (TellsRows first end blocks) (are' slot within)
    (but.tells slot apart first end blocks (subst (TellsRows first end blocks) (sym (are slot within)) tell)) in
    record {
      promising = λ slot within all.
          ⊎_elim
          (λ (here' : slot ≡ fault.slot).
          absurd (clash (λ it. Covers it row shape.block) (promises (failed_part shape fault)) is_there
          (covers_row shape shard row (promises (failed_part shape fault)) owns
          (subst (λ (n : ℕ). IfSome (promises n) (FailsNoRow shape shard)) (ap (λ (s : ℕ). part_number shape shard s) here' ∙ at) all)) no'))
          (λ (apart : slot ≢ fault.slot). still slot within apart)
          (cases_eq slot fault.slot);
      unfailed = still;
      named = (same, fails.within, unpromised_row shape row (promises (failed_part shape fault)) is within_row no', is_there);
      kind = kind;
    }

abbrev ShardsLeft : Shape → Promises → (old new : Parts) → (shard : ℕ) → List Report → Type 0
ShardsLeft shape promises old new shard [] = ⊤
ShardsLeft shape promises old new shard (report ∷ reports) =
    ShardLeft shape promises old new shard report.fault × ShardsLeft shape promises old new (shard + 1) reports

shards_left : {D : Type 0} (told : D → Telling) (promised : D → Promise) (shape : Shape) (promises : Promises) (old new : Parts) (shard : ℕ)
    (begun ended : List (ShardCheck D)) → IsShape shape → shard + length ended ≡ shape.shards
    → ((n : ℕ) → is_some (promises n) ≡ is_some (old n)) → AreReports shape old shard (map report_of ended)
    → HaveOwn told shape.slots old (shard * shape.slots) begun → HaveOwn told shape.slots new (shard * shape.slots) ended
    → HaveOwn promised shape.slots promises (shard * shape.slots) begun → AllZip (HasChecked told promised (one_shard shape)) begun ended
    → ShardsLeft shape promises old new shard (map report_of ended)
shards_left told promised shape promises old new shard [] [] is count there are own own' promise checked = tt
shards_left told promised shape promises old new shard [] (d ∷ ended) is count there are own own' promise checked = absurd checked
shards_left told promised shape promises old new shard (b ∷ begun) [] is count there are own own' promise checked = absurd checked
shards_left told promised shape promises old new shard (b ∷ begun) (d ∷ ended) is count there are own own' promise checked =
    let in_shards : shard < shape.shards = omega (arith, count) in
    let next : shard * shape.slots + shape.slots ≡ (shard + 1) * shape.slots = sym (ap (λ n. n * shape.slots) (add-one shard) ∙ suc-mul shard shape.slots) in (
      shard_left shape promises old new shard (promises_of promised b.parts.items) (parts_of told b.parts.items) (parts_of told d.parts.items)
          d.report.fault is in_shards own.0 own'.0 promise.0 there (fault_here shape old shard d.report d.report.fault is in_shards refl are.0)
          checked.0.kept checked.0.alone,
      shards_left told promised shape promises old new (shard + 1) begun ended is (omega (arith, count)) there are.1
          (subst (λ (n : ℕ). HaveOwn told shape.slots old n begun) next own.1)
          (subst (λ (n : ℕ). HaveOwn told shape.slots new n ended) next own'.1)
          (subst (λ (n : ℕ). HaveOwn promised shape.slots promises n begun) next promise.1) checked.1,
    )

promising_from : (shape : Shape) (promises : Promises) (old new : Parts) (first shard slot : ℕ) (reports : List Report)
    → ShardsLeft shape promises old new first reports → first ≤ shard → shard < first + length reports → slot < shape.slots
    → IfSome (promises (part_number shape shard slot)) (FailsNoRow shape shard) → TellsStill old new (part_number shape shard slot)
promising_from shape promises old new first shard slot [] left from below within all = absurd (omega (arith, from, below))
promising_from shape promises old new first shard slot (report ∷ reports) left from below within all =
    ⊎_elim
    (λ (here : shard ≡ first).
    subst (λ (s : ℕ). TellsStill old new (part_number shape s slot)) (sym here)
    (left.0.promising slot within (subst (λ (s : ℕ). IfSome (promises (part_number shape s slot)) (FailsNoRow shape s)) here all)))
    (λ (apart : shard ≢ first).
    promising_from shape promises old new (first + 1) shard slot reports left.1 (omega (arith, from, apart)) (omega (arith, below)) within all)
    (cases_eq shard first)

-- what the checks of the shards from the first on left, where their reports together end with this fault
record LeftFrom (shape : Shape) (promises : Promises) (old new : Parts) (first : ℕ) (fault : Option RowFault) : Type 0 where
  unfailed : (shard slot : ℕ) → first ≤ shard → shard < shape.shards → slot < shape.slots → MetNoFault shape fault shard slot
      → TellsStill old new (part_number shape shard slot)
  named : IfSome fault (λ it. (shard_of shape it.row < shape.shards) × (it.slot < shape.slots) × IsUnpromised shape promises it
      × (is_some (promises (failed_part shape it)) ≡ true))
  kind : IfSome fault (IsOfPart shape promises)

left_met : (shape : Shape) (promises : Promises) (old new : Parts) (first : ℕ) (fault : RowFault) → first < shape.shards
    → ShardLeft shape promises old new first (Some fault) → LeftFrom shape promises old new first (Some fault)
left_met shape promises old new first fault in_shards left =
    let same : first ≡ shard_of shape fault.row = left.named.0 in
    record {
      unfailed = λ shard slot from below within met. elim met [
        | inl before ↦ absurd (omega (arith, before, from, same))
        | inr beside ↦
            let here : shard ≡ first = beside.0 ∙ sym same in
            subst (λ (s : ℕ). TellsStill old new (part_number shape s slot)) (sym here) (left.unfailed slot within beside.1)
      ];
      named = (omega (arith, same, in_shards), left.named.1, left.named.2, left.named.3);
      kind = left.kind;
    }

left_on : (shape : Shape) (promises : Promises) (old new : Parts) (first : ℕ) (fault : Option RowFault)
    → ShardLeft shape promises old new first None → LeftFrom shape promises old new (first + 1) fault
    → LeftFrom shape promises old new first fault
left_on shape promises old new first fault left rest = record {
  unfailed = λ shard slot from below within met.
      ⊎_elim
      (λ (here : shard ≡ first).
      subst (λ (s : ℕ). TellsStill old new (part_number shape s slot)) (sym here) (left.unfailed slot within tt))
      (λ (apart : shard ≢ first). rest.unfailed shard slot (omega (arith, from, apart)) below within met)
      (cases_eq shard first);
  named = rest.named;
  kind = rest.kind;
}

left_case : (shape : Shape) (promises : Promises) (old new : Parts) (first : ℕ) (report next : Report) (rest : List Report)
    (fault : Option RowFault) → next.fault ≡ fault → first < shape.shards → ShardLeft shape promises old new first fault
    → (fault ≡ None → LeftFrom shape promises old new (first + 1) (joined_all (joined report next) rest).fault)
    → LeftFrom shape promises old new first (joined_all report (next ∷ rest)).fault
left_case shape promises old new first report next rest None is in_shards left after =
    subst (λ (r : Report). LeftFrom shape promises old new first r.fault) (sym (joined_on report next rest (ap is_some is)))
    (left_on shape promises old new first _ left (after refl))
left_case shape promises old new first report next rest (Some fault) is in_shards left after =
    subst (LeftFrom shape promises old new first) (sym (ap (λ (r : Report). r.fault) (joined_met report next rest (ap is_some is)) ∙ is))
    (left_met shape promises old new first fault in_shards left)

left_joined : (shape : Shape) (promises : Promises) (old new : Parts) (first : ℕ) (report : Report) (reports : List Report)
    → report.fault ≡ None → first + length reports ≡ shape.shards → ShardsLeft shape promises old new first reports
    → LeftFrom shape promises old new first (joined_all report reports).fault
left_joined shape promises old new first report [] none count left =
    subst (LeftFrom shape promises old new first) (sym none) (record {
      unfailed = λ shard slot from below within met. absurd (omega (arith, from, below, count));
      named = tt;
      kind = tt;
    })
left_joined shape promises old new first report (next ∷ rest) none count left =
    left_case shape promises old new first report next rest next.fault refl (omega (arith, count)) left.0
    (λ clear. left_joined shape promises old new (first + 1) (joined report next) rest clear (omega (arith, count)) left.1)

sound_of : (shape : Shape) (promises : Promises) (fault : Option RowFault)
    → IfSome fault (λ it. (shard_of shape it.row < shape.shards) × (it.slot < shape.slots) × IsUnpromised shape promises it
    × (is_some (promises (failed_part shape it)) ≡ true))
    → IfSome fault (IsOfPart shape promises) → IsSound shape promises fault
sound_of shape promises None named kind = sound_none shape promises None refl
sound_of shape promises (Some fault) named kind = record {
  named = named.2;
  kind = kind;
  all = λ all.
      absurd (clash (FailsNoRow shape (shard_of shape fault.row)) (promises (failed_part shape fault)) named.3
      (all (shard_of shape fault.row) fault.slot named.0 named.1) named.2);
}

-- ---- promises, of all shards

keep_append : {D : Type 0} (promised : D → Promise) (xs ys xs' ys' : List (Option D)) → length xs' ≡ length xs
    → KeepPromises (promises_of promised xs) (promises_of promised xs') → KeepPromises (promises_of promised ys) (promises_of promised ys')
    → KeepPromises (promises_of promised (xs ++ ys)) (promises_of promised (xs' ++ ys'))
keep_append promised xs ys xs' ys' long front back n =
    ⊎_elim
    (λ (within : n < length xs).
    ap (option_map promised) (get_or_append_left xs' ys' None n (omega (arith, within, long))) ∙ front n
    ∙ sym (ap (option_map promised) (get_or_append_left xs ys None n within)))
    (λ (past : length xs ≤ n).
    ap (option_map promised) (get_or-append_right xs' ys' (length xs) n None long past) ∙ back (n - length xs)
    ∙ sym (ap (option_map promised) (get_or-append_right xs ys (length xs) n None refl past)))
    (cases_lt n (length xs))

each_keeps : {D : Type 0} (told : D → Telling) (promised : D → Promise) (shape : Shape) (begun ended : List (ShardCheck D))
    → AllZip (HasChecked told promised shape) begun ended
    → KeepPromises (promises_of promised (flat_map own_parts begun)) (promises_of promised (flat_map own_parts ended))
each_keeps told promised shape [] [] checked = keep_none (promises_of promised [])
each_keeps told promised shape [] (d ∷ ended) checked = absurd checked
each_keeps told promised shape (b ∷ begun) [] checked = absurd checked
each_keeps told promised shape (b ∷ begun) (d ∷ ended) checked =
    keep_append promised b.parts.items (flat_map own_parts begun) d.parts.items (flat_map own_parts ended) checked.0.places
    checked.0.promises (each_keeps told promised shape begun ended checked.1)

pub all_keep : {D : Type 0} (told : D → Telling) (promised : D → Promise) (shape : Shape) (lent : List (Option D)) (begun ended : List (ShardCheck D))
    → flat_map own_parts begun ≡ lent → AllZip (HasChecked told promised shape) begun ended
    → KeepPromises (promises_of promised lent) (promises_of promised (flat_map own_parts ended))
all_keep told promised shape lent begun ended own checked =
    subst (λ l. KeepPromises (promises_of promised l) (promises_of promised (flat_map own_parts ended))) own
    (each_keeps told promised shape begun ended checked)

-- ---- all together

pub record LeftSound (shape : Shape) (promises : Promises) (old new : Parts) (fault : Option RowFault) : Type 0 where
  pub sound : IsSound shape promises fault
  pub left : AreLeft shape promises fault old new

pub all_left : {D : Type 0} (told : D → Telling) (promised : D → Promise) (shape : Shape) (lent : List (Option D)) (empty begun ended : List (ShardCheck D))
    → IsShape shape → length empty ≡ shape.shards → AreShardChecks shape 0 empty → AllZip HasOtherParts empty begun
    → flat_map own_parts begun ≡ lent → AllZip (HasChecked told promised (one_shard shape)) begun ended
    → LeftSound shape (promises_of promised lent) (parts_of told lent) (parts_of told (flat_map own_parts ended))
    (joined_all no_report (map report_of ended)).fault
all_left told promised shape lent empty begun ended is count are other own checked =
    let old = parts_of told lent in
    let new = parts_of told (flat_map own_parts ended) in
    let promises = promises_of promised lent in
    let reports = map report_of ended in
    let zero : (n : ℕ) → n ≡ 0 * shape.slots + n = λ n. sym (one_number shape.slots n) in
    let places = places_still HasOtherParts (λ o n same. same.places) shape.slots empty begun other (all_have_places shape 0 empty are) in
    let places' = places_still (HasChecked told promised (one_shard shape)) (λ o n is. is.places) shape.slots begun ended checked places in
    let have = have_own told shape.slots old (0 * shape.slots) begun places (λ at. ap (λ l. parts_of told l at) own ∙ ap old (zero at)) in
    let have' = have_own told shape.slots new (0 * shape.slots) ended places' (λ at. ap new (zero at)) in
    let promise = have_own promised shape.slots promises (0 * shape.slots) begun places
    (λ at. ap (λ l. promises_of promised l at) own ∙ ap promises (zero at)) in
    let there : (n : ℕ) → is_some (promises n) ≡ is_some (old n) = λ n. same_there told promised (get_or lent n None) in
    let begun_count = AllZip-long HasOtherParts empty begun other in
    let ended_count = AllZip-long (HasChecked told promised (one_shard shape)) begun ended checked in
    let long = length-map ended report_of in
    let left = shards_left told promised shape promises old new 0 begun ended is (omega (arith, ended_count, begun_count, count)) there
    (reports_of told promised shape old 0 empty begun ended is (zero-add (length empty) ∙ count) are other have checked) have have' promise checked in
    let joined = left_joined shape promises old new 0 no_report reports refl (omega (arith, long, ended_count, begun_count, count)) left in
    let keeps = all_keep told promised (one_shard shape) lent begun ended own checked in
    record {
      sound = sound_of shape promises (joined_all no_report reports).fault joined.named joined.kind;
      left = record {
        promising = λ shard slot in_shards within all.
            promising_from shape promises old new 0 shard slot reports left (omega arith) (omega (arith, long, ended_count, begun_count, count, in_shards)) within all;
        unfailed = λ shard slot in_shards within met. joined.unfailed shard slot (omega arith) in_shards within met;
        there = λ n.
            sym (same_there told promised (get_or (flat_map own_parts ended) n None)) ∙ ap is_some (keeps n)
            ∙ same_there told promised (get_or lent n None);
      };
    }
