-- The row that is rebuilt next: the rows that a new device's record names are the first of the shard that are not built.
use Rattle.std.proofs.Common.{◌≡◌, ◌≢◌, ◌⊎◌, ℕ, zero, suc, ◌+◌, ◌-◌, ◌<◌, ◌≤◌, Bool, true, false, cond, Some, None, refl, sym, ap, subst, ◌∙◌, inl, inr, arith}
use Rattle.std.specs.Prelude.{◌&&◌, nat_le, not}
use Rattle.std.proofs.lemmas.Bool.{cases_eq, cases_lt, le-leb, lt-leb, false≢true}
use Rattle.r6_layout.specs.Layout.{first_row}
use Rattle.r6_world.specs.Tables.{count_below}
use Rattle.r6_world.specs.Geometries.{layout_of}
use Rattle.r6_world.specs.ShardStates.{IsBuiltOn}
use Rattle.r6_world.proofs.Geometries.{layouts}
use Rattle.r6_frames.specs.declared.rebuilt.RebuiltRows.{RebuiltRows}
use Rattle.r6_frames.specs.declared.slots.Device.{Device}
use Rattle.r6_frames.specs.declared.slots.Device.TheVariants as device
use Rattle.r6_frames.specs.Rebuilt.{IsRebuilt, is_rebuilt, next_row}
use Rattle.r6_frames.specs.Calls.{IsNextOn, NotHeldBy}
use Rattle.r6_frames.specs.Slots.{IsRebuiltOn, rows_of, slot_in, state_of}
use Rattle.r6_frames.specs.Sound as held
use Rattle.r6_frames.specs.Views.{AreLive}
use Rattle.r6_frames.proofs.Marking.{built, is_built, at_most}
use Rattle.r6_core.specs.declared.state.State.{State}
use Rattle.r6_core.specs.Shards.{core_with, rest_of}
use Rattle.r6_core.specs.declared.refusal.Refusal.TheVariants.{NothingToDo}
use Rattle.r6_core.specs.Refusals.{HasRebuildFault}
use Rattle.r6_core.specs.Progress.{IsFirstUnbuilt}
use Rattle.r6_core.specs.Rebuilds.{MayRebuild, IsNextRebuild, unbuilt_before}
use Rattle.r6_core.specs.Inside.{IsBuiltIn, IsFirstUnheld, IsUnheldRow, NoneUnheld}
use Rattle.r6_core.proofs.AtRest.{not_held_by}
use Rattle.r6_core.proofs.Starting.{not_held}

-- ---- counts

-- where none passes between two numbers, as many do below both
none_between : (p : ℕ → Bool) (from more : ℕ) → ((d : ℕ) → from ≤ d → d < from + more → p d ≡ false) → count_below p (from + more) ≡ count_below p from
none_between p from zero none = ap (count_below p) (omega arith)
none_between p from (suc more) none =
    let rest = none_between p from more (λ d le lt. none d le (omega arith)) in
    let last : cond {A = ℕ} (p (from + more)) 1 0 ≡ 0 = ap (λ (b : Bool). cond {A = ℕ} b 1 0) (none (from + more) (omega arith) (omega arith)) in
    let next : from + suc more ≡ suc (from + more) = omega arith in
    let step : count_below p (suc (from + more)) ≡ count_below p from = omega (arith, rest, last) in
    ap (count_below p) next ∙ step

-- and below a higher number no fewer
at_least : (p : ℕ → Bool) (from more : ℕ) → count_below p from ≤ count_below p (from + more)
at_least p from zero = let same : count_below p (from + 0) ≡ count_below p from = ap (count_below p) (omega arith) in omega arith
at_least p from (suc more) =
    let rest = at_least p from more in
    let next : from + suc more ≡ suc (from + more) = omega arith in
    let same : count_below p (from + suc more) ≡ count_below p (suc (from + more)) = ap (count_below p) next in
    let step : count_below p (suc (from + more)) ≡ cond {A = ℕ} (p (from + more)) 1 0 + count_below p (from + more) = refl in
    omega (arith, rest, same, step)

count_same : (p : ℕ → Bool) (from upto : ℕ) → from ≤ upto → ((d : ℕ) → from ≤ d → d < upto → p d ≡ false) → count_below p upto ≡ count_below p from
count_same p from upto le none =
    let same : from + (upto - from) ≡ upto = omega arith in
    ap (count_below p) (sym same) ∙ none_between p from (upto - from) (λ d from_le lt. none d from_le (omega arith))

count_more : (p : ℕ → Bool) (from upto : ℕ) → from ≤ upto → count_below p from ≤ count_below p upto
count_more p from upto le =
    let same : count_below p (from + (upto - from)) ≡ count_below p upto = ap (count_below p) (omega arith) in
    let more = at_least p from (upto - from) in omega (arith, same, more)

-- a number that passes counts
one_more : (p : ℕ → Bool) (n : ℕ) → p n ≡ true → count_below p (n + 1) ≡ count_below p n + 1
one_more p n is =
    let next : n + 1 ≡ suc n = omega arith in
    let same : count_below p (n + 1) ≡ count_below p (suc n) = ap (count_below p) next in
    let one : cond {A = ℕ} (p n) 1 0 ≡ 1 = ap (λ (b : Bool). cond {A = ℕ} b 1 0) is in
    let step : count_below p (suc n) ≡ cond {A = ℕ} (p n) 1 0 + count_below p n = refl in
    omega (arith, same, one, step)

-- ---- the rows that are not built

abbrev is_unbuilt : (first : ℕ) → (ℕ → Bool) → ℕ → Bool
is_unbuilt first made row = nat_le first row && not (made row)

passes : (first : ℕ) (made : ℕ → Bool) (row : ℕ) → first ≤ row → made row ≡ false → is_unbuilt first made row ≡ true
passes first made row le not_made = ap (λ (b : Bool). b && not (made row)) (le-leb first row le) ∙ ap not not_made

fails : (first : ℕ) (made : ℕ → Bool) (row : ℕ) → made row ≡ true → is_unbuilt first made row ≡ false
fails first made row is_made = ap (λ (b : Bool). nat_le first row && not b) is_made ∙ and_false (nat_le first row)
  where
    and_false : (b : Bool) → (b && false) ≡ false
    and_false true = refl
    and_false false = refl

fails_before : (first : ℕ) (made : ℕ → Bool) (row : ℕ) → row < first → is_unbuilt first made row ≡ false
fails_before first made row lt = ap (λ (b : Bool). b && not (made row)) (lt-leb first row lt)

-- which number the row has among those that are rebuilt next, if it is one of them
number_of : (r : RebuiltRows) (row n : ℕ) → ((number : ℕ) × (number < n) × (next_row r number ≡ row)) ⊎ ((number : ℕ) → number < n → next_row r number ≢ row)
number_of r row zero = inr (λ number below. absurd (omega arith))
number_of r row (suc n) =
    elim (cases_eq (next_row r n) row) [
      | inl here ↦ inl (n, omega arith, here)
      | inr other ↦ elim (number_of r row n) [
        | inl there ↦ inl (there.0, omega (arith, there.1), there.2)
        | inr none ↦ inr (λ number below same.
            elim (cases_lt number n) [
              | inl inside ↦ none number inside same
              | inr last ↦ let is : number ≡ n = omega arith in other (ap (next_row r) (sym is) ∙ same)
            ])
      ]
    ]

module _ (first end : ℕ) (r : RebuiltRows) (is : IsRebuilt first end r) where
  abbrev unbuilt : ℕ → Bool
  unbuilt = is_unbuilt first (is_rebuilt r)

  -- a row between two neighbours is rebuilt
  between : (number row : ℕ) → number < 7 → next_row r number < row → row < next_row r (number + 1) → is_rebuilt r row ≡ true
  between number row below above under =
      built r row is.next.count (record {
        from = let from = at_most end r is.next 0 number (omega arith) (omega arith) in omega (arith, from, is.next.from);
        before = let last = at_most end r is.next (number + 1) 7 (omega arith) (omega arith) in omega (arith, last);
        not_next = λ there.
            elim (cases_lt number there.0) [
              | inl behind ↦ let at = at_most end r is.next (number + 1) there.0 (omega arith) there.1 in absurd (omega (arith, at, there.2))
              | inr ahead ↦ let at = at_most end r is.next there.0 number ahead (omega arith) in absurd (omega (arith, at, there.2))
            ];
      })

  -- and so is one of the shard before all of them
  pub before_all : (row : ℕ) → first ≤ row → row < next_row r 0 → is_rebuilt r row ≡ true
  before_all row from under =
      built r row is.next.count (record {
        from = omega (arith, is.start);
        before = let last = at_most end r is.next 0 7 (omega arith) (omega arith) in omega (arith, last);
        not_next = λ there. let at = at_most end r is.next 0 there.0 (omega arith) there.1 in absurd (omega (arith, at, there.2));
      })

  -- those that are rebuilt next are not built
  pub not_built : (number : ℕ) → number < 8 → is_rebuilt r (next_row r number) ≡ false
  not_built number below =
      by_test (is_rebuilt r (next_row r number)) refl
    where
      by_test : (b : Bool) → is_rebuilt r (next_row r number) ≡ b → is_rebuilt r (next_row r number) ≡ false
      by_test false same = same
      by_test true same = absurd ((is_built r (next_row r number) is.next.count same).not_next (number, below, refl))

  from_first : (number : ℕ) → number < 8 → first ≤ next_row r number
  from_first number below = let from = at_most end r is.next 0 number (omega arith) below in omega (arith, from, is.next.from, is.start)

  -- before the one of a number as many rows of the shard are not built
  pub number_is : (number : ℕ) → number < 8 → count_below unbuilt (next_row r number) ≡ number
  number_is zero below =
      count_same unbuilt 0 (next_row r 0) (omega arith)
      (λ row from under.
      elim (cases_lt row first) [
        | inl outside ↦ fails_before first (is_rebuilt r) row outside
        | inr inside ↦ fails first (is_rebuilt r) row (before_all row inside under)
      ])
  number_is (suc number) below =
      let here : next_row r (suc number) ≡ next_row r (number + 1) = ap (next_row r) (omega arith) in
      let rest = number_is number (omega arith) in
      let passing = passes first (is_rebuilt r) (next_row r number) (from_first number (omega arith)) (not_built number (omega arith)) in
      let one = one_more unbuilt (next_row r number) passing in
      let same =
      count_same unbuilt (next_row r number + 1) (next_row r (number + 1)) (let lt = is.next.ordered number (omega arith) in omega (arith, lt))
      (λ row above under. fails first (is_rebuilt r) row (between number row (omega arith) (omega (arith, above)) under)) in
      ap (count_below unbuilt) here ∙ same ∙ omega (arith, one, rest)

  -- and a row of the shard that is not built, with fewer than eight such before it, is the one of their number
  pub at_number : (row : ℕ) → first ≤ row → is_rebuilt r row ≡ false → count_below unbuilt row < 8 → next_row r (count_below unbuilt row) ≡ row
  at_number row from not_made few =
      elim (number_of r row 8) [
        | inl there ↦
            let count : count_below unbuilt row ≡ there.0 = ap (count_below unbuilt) (sym there.2) ∙ number_is there.0 there.1 in
            ap (next_row r) count ∙ there.2
        | inr none ↦ elim (cases_lt row (next_row r 7)) [
          | inl under ↦
              let made = built r row is.next.count (record { from = omega (arith, is.start, from); before = under; not_next = λ there. none there.0 there.1 there.2 }) in
              absurd (false≢true (sym not_made ∙ made))
          | inr past ↦
              let above : next_row r 7 + 1 ≤ row = elim (cases_eq (next_row r 7) row) [ inl same ↦ absurd (none 7 (omega arith) same) | inr ne ↦ omega (arith, past, ne) ] in
              let eighth = number_is 7 (omega arith) in
              let passing = passes first (is_rebuilt r) (next_row r 7) (from_first 7 (omega arith)) (not_built 7 (omega arith)) in
              let one = one_more unbuilt (next_row r 7) passing in
              let more = count_more unbuilt (next_row r 7 + 1) row above in
              absurd (omega (arith, eighth, one, more, few))
        ]
      ]

-- ---- the rows of one device

-- the rows that are rebuilt on a device of the slot, in the world
pub on_world : (d : Device) (generation : ℕ) (r : RebuiltRows) → IsRebuiltOn d generation r → IsBuiltOn (state_of d) generation (is_rebuilt r)
on_world (device.Synced current) generation r on = on
on_world device.Missing generation r on = on
on_world (device.Building current rows) generation r on = (on.0, ap is_rebuilt on.1)
on_world (device.Doubled old new rows) generation r on = (on.0, ap is_rebuilt on.1)
on_world (device.Paired old new) generation r on = on

-- are those of one device
same_rows : (d : Device) (generation another : ℕ) (r : RebuiltRows) (made : ℕ → Bool) → IsRebuiltOn d generation r → IsBuiltOn (state_of d) another made
    → (another ≡ generation) × (made ≡ is_rebuilt r)
same_rows (device.Synced current) generation another r made on is = absurd on
same_rows device.Missing generation another r made on is = absurd on
same_rows (device.Building current rows) generation another r made on is = (is.0 ∙ sym on.0, is.1 ∙ ap is_rebuilt (sym on.1))
same_rows (device.Doubled old new rows) generation another r made on is = (is.0 ∙ sym on.0, is.1 ∙ ap is_rebuilt (sym on.1))
same_rows (device.Paired old new) generation another r made on is = absurd on

module _ (s : State) (window slot generation : ℕ) (r : RebuiltRows) (sound : held.IsSound s.frames) (few : window ≤ 8)
    (there : IsRebuiltOn (slot_in s.frames.slots slot).device generation r) (is : IsBuiltIn s.frames r) where
  abbrev end_of : ℕ
  end_of = first_row s.frames.geometry (s.frames.shard + 1)

  -- a row that may be rebuilt stands at its number, and isn't held
  pub unheld_at : (another row : ℕ) → (may : MayRebuild (core_with window s) window slot another row)
      → (number : ℕ) × (number < window) × (next_row r number ≡ row) × IsUnheldRow s.frames r number
  unheld_at another row may =
      let same = same_rows (slot_in s.frames.slots slot).device generation another r may.built there may.device in
      let shared = (layouts s.frames.geometry sound.shape).shared row may.own.0 in
      let from : first_row s.frames.geometry s.frames.shard ≤ row = subst (λ n. first_row s.frames.geometry n ≤ row) may.own.1 shared.1 in
      let under : row < end_of = subst (λ n. row < first_row s.frames.geometry (n + 1)) may.own.1 shared.2 in
      let near = subst (λ (made : ℕ → Bool). unbuilt_before (layout_of s.frames.geometry) s.frames.shard made row < window) same.1 may.near in
      let not_made : is_rebuilt r row ≡ false = subst (λ (made : ℕ → Bool). made row ≡ false) same.1 may.unbuilt in
      let number = unbuilt_before (layout_of s.frames.geometry) s.frames.shard (is_rebuilt r) row in
      let here = at_number (first_row s.frames.geometry s.frames.shard) end_of r is row from not_made (omega (arith, near, few)) in
      (number, near, here, (subst (λ n. n < end_of) (sym here) under, subst (λ n. NotHeldBy s.frames n) (sym here) (not_held_by s row may.unheld)))

  -- and one at a number may be rebuilt
  pub may_at : slot < s.frames.geometry.slots → (number : ℕ) → number < window → IsUnheldRow s.frames r number
      → MayRebuild (core_with window s) window slot generation (next_row r number)
  may_at below number near free =
      let first_one = first_row s.frames.geometry s.frames.shard in
      let from = from_first first_one end_of r is number (omega (arith, near, few)) in
      let count = number_is first_one end_of r is number (omega (arith, near, few)) in
      record {
        there = below;
        built = is_rebuilt r;
        device = on_world (slot_in s.frames.slots slot).device generation r there;
        own = (layouts s.frames.geometry sound.shape).owned s.frames.shard (next_row r number) sound.shard from free.0;
        unbuilt = not_built first_one end_of r is number (omega (arith, near, few));
        near = omega (arith, count, near);
        unheld = not_held (rest_of s) s.frames (next_row r number) free.1;
      }

  -- where none in the window is free, none may be rebuilt
  pub none_may : NoneUnheld s.frames r window → (another row : ℕ) → MayRebuild (core_with window s) window slot another row → ⊥
  none_may none another row may = let at = unheld_at another row may in none at.0 at.1 at.3

  -- the first that is free is the next, if no lower slot has one
  pub next_is : slot < s.frames.geometry.slots → (row : ℕ) → IsFirstUnheld s.frames r window row
      → ((other another earlier : ℕ) → other < slot → MayRebuild (core_with window s) window other another earlier → ⊥)
      → IsNextRebuild (core_with window s) window slot generation row
  next_is below row found none =
      record {
        may = subst (MayRebuild (core_with window s) window slot generation) (sym found.row_is) (may_at below found.number found.near found.unheld);
        lowest = none;
        first = λ another earlier lt may.
            let at = unheld_at another earlier may in
            let ahead : at.0 < found.number = lower_number at.0 (omega (arith, at.1, few)) (omega (arith, at.2, found.row_is, lt)) in
            found.first at.0 ahead at.3;
      }
    where
      lower_number : (number : ℕ) → number < 8 → next_row r number < next_row r found.number → number < found.number
      lower_number number inside lt =
          elim (cases_lt number found.number) [
            | inl is_lower ↦ is_lower
            | inr back ↦ let at = at_most end_of r is.next found.number number back inside in absurd (omega arith)
          ]

-- ---- the other slots

no_new : (d : Device) → rows_of d ≡ None → (another : ℕ) (made : ℕ → Bool) → IsBuiltOn (state_of d) another made → ⊥
no_new (device.Synced current) none another made is = is
no_new device.Missing none another made is = is
no_new (device.Building generation r) none another made is = absurd (cc)
no_new (device.Doubled old new r) none another made is = absurd (cc)
no_new (device.Paired old new) none another made is = is

-- one with no new device has no such row
pub other_none : (s : State) (window slot : ℕ) → rows_of (slot_in s.frames.slots slot).device ≡ None → (another row : ℕ) → MayRebuild (core_with window s) window slot another row → ⊥
other_none s window slot none another row may = no_new (slot_in s.frames.slots slot).device none another may.built may.device

-- a new device is in sync for some of the shard's rows
pub built_in : (s : State) (slot generation : ℕ) (r : RebuiltRows) → held.IsSound s.frames → IsRebuiltOn (slot_in s.frames.slots slot).device generation r → IsBuiltIn s.frames r
built_in s slot generation r sound there = of_device (slot_in s.frames.slots slot).device (sound.devices.each slot) there
  where
    of_device : (d : Device) → held.IsDeviceOf (layout_of s.frames.geometry) s.frames.shard d → IsRebuiltOn d generation r → IsBuiltIn s.frames r
    of_device (device.Synced current) is on = absurd on
    of_device device.Missing is on = absurd on
    of_device (device.Building current rows) is on = subst (IsBuiltIn s.frames) (sym on.1) is
    of_device (device.Doubled old new rows) is on = subst (IsBuiltIn s.frames) (sym on.1) is.1
    of_device (device.Paired old new) is on = absurd on

-- while holds go on there is something to do where a row may be rebuilt
pub something_to_rebuild : (s : State) (window slot generation row : ℕ) → AreLive s.frames → IsNextRebuild (core_with window s) window slot generation row
    → HasRebuildFault (core_with window s) window NothingToDo → ⊥
something_to_rebuild s window slot generation row live next (inl stopped) = stopped live
something_to_rebuild s window slot generation row live next (inr none) = none slot generation row next.may

-- ---- the row is one of those that the device's record names

device_of : (d : Device) (generation : ℕ) (made : ℕ → Bool) → IsBuiltOn (state_of d) generation made → (r : RebuiltRows) × IsRebuiltOn d generation r
device_of (device.Synced current) generation made is = absurd is
device_of device.Missing generation made is = absurd is
device_of (device.Building current r) generation made is = (r, (is.0, refl))
device_of (device.Doubled old new r) generation made is = (r, (is.0, refl))
device_of (device.Paired old new) generation made is = absurd is

pub next_on : (s : State) (window slot generation row : ℕ) → held.IsSound s.frames → window ≤ 8 → MayRebuild (core_with window s) window slot generation row
    → IsNextOn s.frames (record { slot = slot; generation = generation }) row
next_on s window slot generation row sound few may =
    let there = device_of (slot_in s.frames.slots slot).device generation may.built may.device in
    let at = unheld_at s window slot generation there.0 sound few there.1 (built_in s slot generation there.0 sound there.1) generation row may in
    record { rebuilt = there.0; device = there.1; next = (at.0, omega (arith, at.1, few), at.2) }

-- the first of the rows that are rebuilt next is the first of the shard that isn't built
pub first_unbuilt : (s : State) (window slot generation : ℕ) (r : RebuiltRows) → held.IsSound s.frames → IsRebuiltOn (slot_in s.frames.slots slot).device generation r
    → IsFirstUnbuilt (core_with window s) slot (next_row r 0)
first_unbuilt s window slot generation r sound there =
    let is = built_in s slot generation r sound there in
    let first = first_row s.frames.geometry s.frames.shard in
    let end = first_row s.frames.geometry (s.frames.shard + 1) in
    let l = layouts s.frames.geometry sound.shape in
    record {
      generation = generation;
      built = is_rebuilt r;
      device = on_world (slot_in s.frames.slots slot).device generation r there;
      own = l.owned s.frames.shard (next_row r 0) sound.shard (from_first first end r is 0 (omega arith)) is.some_left;
      unbuilt = not_built first end r is 0 (omega arith);
      before = λ earlier own below.
          let from = subst (λ n. first_row s.frames.geometry n ≤ earlier) own.1 (l.shared earlier own.0).1 in
          before_all first end r is earlier from below;
    }

-- the rows of a slot are those of a new device
pub rows_on : (d : Device) (r : RebuiltRows) → rows_of d ≡ Some r → (generation : ℕ) × IsRebuiltOn d generation r
rows_on (device.Synced current) r is = absurd (cc)
rows_on device.Missing r is = absurd (cc)
rows_on (device.Building current rows) r is = (current, (refl, let same : rows ≡ r = cc in sym same))
rows_on (device.Doubled old new rows) r is = (new, (refl, let same : rows ≡ r = cc in sym same))
rows_on (device.Paired old new) r is = absurd (cc)
