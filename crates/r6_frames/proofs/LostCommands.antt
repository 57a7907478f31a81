-- The commands of a held row whose slot has other devices, and the buffers with which they left.
use Rattle.std.proofs.Common.{◌≡◌, ◌≢◌, ℕ, ◌<◌, ◌≤◌, Bool, true, false, List, length, None, inl, inr, refl, sym, ap, subst, ◌∙◌, arith, cond}
use Rattle.std.specs.Prelude.{◌||◌, ◌&&◌, ◌==◌, not}
use Rattle.std.proofs.lemmas.Bool.{cases_eq, eq-eqb, false≢true, ne_eqb, or_left}
use Rattle.std.proofs.Math.Bool.{or-false}
use Rattle.std.proofs.lemmas.List.{length-set, get_or-set_same, get_or-set_other}
use Rattle.r6_layout.specs.Shape.{Shape, IsShape}
use Rattle.r6_layout.specs.Layout.{position_at, slot_at}
use Rattle.r6_stripe.specs.Holds.{Cell, cell_at}
use Rattle.r6_stripe.specs.Holds.Standing.{Out}
use Rattle.r6_stripe.specs.Holds.Event.{Moves, Drops}
use Rattle.r6_stripe.specs.Plans.{is_out}
use Rattle.r6_world.proofs.Geometries.{layouts}
use Rattle.r6_frames.specs.declared.frames.HeldRow.{HeldRow}
use Rattle.r6_frames.specs.declared.losses.Heard.{Heard}
use Rattle.r6_frames.specs.declared.losses.Heard.TheVariants.{Nothing, Lost, Moved, Dropped}
use Rattle.r6_frames.specs.declared.slots.Device.{Device}
use Rattle.r6_frames.specs.declared.slots.Slot.{Slot}
use Rattle.r6_frames.specs.declared.successor.Successor.{Successor}
use Rattle.r6_frames.specs.Slots.{IsNewFrom, first_of, slot_in, state_of, states_of}
use Rattle.r6_frames.specs.Successors as successors
use Rattle.r6_frames.specs.Successors.{is_own}
use Rattle.r6_frames.specs.Told.{told_row}
use Rattle.r6_frames.specs.Owed.{owed_by}
use Rattle.r6_frames.specs.Sound.{IsHeld, buffers_away, count_home, device_in, is_buffer_away, is_write_out, standing_for}
use Rattle.r6_stripe.proofs.Bound.{lost_to_come}
use Rattle.r6_frames.proofs.HeldRows.{owes_no_more}
use Rattle.r6_frames.proofs.Devices.{AreApart, keeps, keeps_first, keeps_second, kept_first, kept_second, moved_first}
use Rattle.r6_frames.proofs.UnderWay.{under_way_fine}
use Rattle.r6_frames.proofs.HeardRows.{Says, told_cell}
use Rattle.r6_frames.proofs.LeftDevices.{moved_writes, own_dropped, buffer_own, buffer_apart, home_swapped}
use Rattle.r6_frames.proofs.LostRows.{at_below, at_slot, two, first_home, first_there, cell_here, cell_elsewhere, beside_here, own_other}
use Rattle.r6_stripe.proofs.Steps.{out_is, not_out_is}

module _ (shape : Shape) (lawful : IsShape shape) (shard : ℕ) (slots later : List Slot) (slot start : ℕ) (below : slot < shape.slots) (e : Device)
    (here : (slot_in later slot).device ≡ e) (elsewhere : (other : ℕ) → other ≢ slot → (slot_in later other).device ≡ (slot_in slots other).device)
    (new : IsNewFrom start (slot_in slots slot).device e) (apart : AreApart (slot_in slots slot).device) where
  abbrev d : Device
  d = (slot_in slots slot).device

  abbrev k1 : Bool
  k1 = keeps_first d e

  abbrev k2 : Bool
  k2 = keeps_second d e

  module _ (h : HeldRow) (held : IsHeld shape shard slots h) where
    abbrev at : ℕ
    at = position_at shape h.row slot

    abbrev cell : Cell
    cell = cell_at h.hold.planned.hold.cells at

    abbrev told_with : Heard → HeldRow
    told_with x = told_row shape slot x h

    -- what becomes of the two devices exchanges their buffers, where the second has the first one's place
    abbrev pub swap : Heard → ℕ → ℕ
    swap Nothing b = b
    swap Lost b = b
    swap Moved b = cond (b == shape.slots) at (cond (b == at) shape.slots b)
    swap Dropped b = b

    abbrev pub buffer_in : Successor → (other g : ℕ) → ℕ
    buffer_in s other g = cond (is_own s other g) (position_at shape h.row other) shape.slots

    at_not_last : (at == shape.slots) ≡ false
    at_not_last = let b = at_below shape lawful shard slots later slot start below e here elsewhere new apart h held in ne_eqb at shape.slots (λ same. absurd (omega arith))

    swap_last : swap Moved shape.slots ≡ at
    swap_last = ap (λ (b : Bool). cond b at (cond (shape.slots == at) shape.slots shape.slots)) (eq-eqb shape.slots shape.slots refl)

    swap_at : swap Moved at ≡ shape.slots
    swap_at = ap (λ (b : Bool). cond b at (cond (at == at) shape.slots at)) at_not_last ∙ ap (λ (b : Bool). cond b shape.slots at) (eq-eqb at at refl)

    swap_other : (q : ℕ) → q ≢ at → q ≢ shape.slots → swap Moved q ≡ q
    swap_other q ne last = ap (λ (b : Bool). cond b at (cond (q == at) shape.slots q)) (ne_eqb q shape.slots last) ∙ ap (λ (b : Bool). cond b shape.slots q) (ne_eqb q at ne)

    pub swap_below : (x : Heard) (b : ℕ) → b ≤ shape.slots → swap x b ≤ shape.slots
    swap_below Nothing b most = most
    swap_below Lost b most = most
    swap_below Moved b most =
        elim (cases_eq b shape.slots) [
          | inl last ↦ let is = ap (swap Moved) last ∙ swap_last in let lower = at_below shape lawful shard slots later slot start below e here elsewhere new apart h held in omega arith
          | inr other ↦ elim (cases_eq b at) [
            | inl same ↦ let is = ap (swap Moved) same ∙ swap_at in omega arith
            | inr ne ↦ let is = swap_other b ne other in omega arith
          ]
        ]
    swap_below Dropped b most = most

    -- in the slot itself the buffers are exchanged
    own_moved : Says cell k1 k2 Moved → (g : ℕ) → is_own (told_with Moved).successor slot g ≡ not (is_own h.successor slot g)
    own_moved says g =
        let b = beside_here shape lawful shard slots later slot start below e here elsewhere new apart h held says.1 in
        let there = eq-eqb b.0.slot slot b.2 in
        ap (λ (s : Successor). is_own (successors.moved s) slot g) b.1 ∙ ap (λ (c : Bool). not (c && not (b.0.generation == g))) there
        ∙ sym (ap not (ap (λ (s : Successor). is_own s slot g) b.1 ∙ ap (λ (c : Bool). not (c && (b.0.generation == g))) there))

    place_elsewhere : (other : ℕ) → other < shape.slots → other ≢ slot → position_at shape h.row other ≢ at
    place_elsewhere other other_below ne same = ne (sym ((layouts shape lawful).there h.row other held.own.0 other_below).1 ∙ ap (slot_at shape h.row) same ∙ at_slot shape lawful shard slots later slot start below e here elsewhere new apart h held)

    moved_buffer : Says cell k1 k2 Moved → (other g : ℕ) → other < shape.slots → buffer_in (told_with Moved).successor other g ≡ swap Moved (buffer_in h.successor other g)
    moved_buffer says other g other_below =
        elim (cases_eq other slot) [
          | inl same ↦ subst (λ (s : ℕ). buffer_in (told_with Moved).successor s g ≡ swap Moved (buffer_in h.successor s g)) (sym same) (by_own (is_own h.successor slot g) refl)
          | inr ne ↦
              let own = own_other shape lawful shard slots later slot start below e here elsewhere new apart h held Moved says other g ne in
              let there = ((layouts shape lawful).there h.row other held.own.0 other_below).0 in
              ap (λ (b : Bool). cond b (position_at shape h.row other) shape.slots) own
              ∙ by_elsewhere (is_own h.successor other g) refl ne
        ]
      where
        by_own : (b : Bool) → is_own h.successor slot g ≡ b → buffer_in (told_with Moved).successor slot g ≡ swap Moved (buffer_in h.successor slot g)
        by_own true is =
            ap (λ (c : Bool). cond c at shape.slots) (own_moved says g ∙ ap not is)
            ∙ sym (ap (λ (c : Bool). swap Moved (cond c at shape.slots)) is ∙ swap_at)
        by_own false is =
            ap (λ (c : Bool). cond c at shape.slots) (own_moved says g ∙ ap not is)
            ∙ sym (ap (λ (c : Bool). swap Moved (cond c at shape.slots)) is ∙ swap_last)

        -- a command that isn't its position's own went to the second device
        by_elsewhere : (b : Bool) → is_own h.successor other g ≡ b → other ≢ slot
            → cond (is_own h.successor other g) (position_at shape h.row other) shape.slots ≡ swap Moved (cond (is_own h.successor other g) (position_at shape h.row other) shape.slots)
        by_elsewhere true is ne =
            let there = ((layouts shape lawful).there h.row other held.own.0 other_below).0 in
            let same = ap (λ (c : Bool). cond c (position_at shape h.row other) shape.slots) is in
            same ∙ sym (ap (swap Moved) same ∙ swap_other (position_at shape h.row other) (place_elsewhere other other_below ne) (λ last. absurd (omega arith)))
        by_elsewhere false is ne =
            let b = beside_here shape lawful shard slots later slot start below e here elsewhere new apart h held says.1 in
            let own : is_own h.successor other g ≡ true =
            ap (λ (s : Successor). is_own s other g) b.1 ∙ ap (λ (c : Bool). not (c && (b.0.generation == g))) (ne_eqb b.0.slot other (λ same. ne (sym same ∙ b.2))) in
            absurd (false≢true (sym is ∙ own))

    pub told_buffer : (x : Heard) → Says cell k1 k2 x → (other g : ℕ) → other < shape.slots → buffer_in (told_with x).successor other g ≡ swap x (buffer_in h.successor other g)
    told_buffer Nothing says other g other_below = refl
    told_buffer Lost says other g other_below = ap (λ (b : Bool). cond b (position_at shape h.row other) shape.slots) (own_dropped h.successor slot other g)
    told_buffer Moved says other g other_below = moved_buffer says other g other_below
    told_buffer Dropped says other g other_below = ap (λ (b : Bool). cond b (position_at shape h.row other) shape.slots) (own_dropped h.successor slot other g)

    pub swap_twice : (x : Heard) (b : ℕ) → swap x (swap x b) ≡ b
    swap_twice Nothing b = refl
    swap_twice Lost b = refl
    swap_twice Moved b =
        elim (cases_eq b shape.slots) [
          | inl last ↦ ap (λ (k : ℕ). swap Moved (swap Moved k)) last ∙ ap (swap Moved) swap_last ∙ swap_at ∙ sym last
          | inr other ↦ elim (cases_eq b at) [
            | inl same ↦ ap (λ (k : ℕ). swap Moved (swap Moved k)) same ∙ ap (swap Moved) swap_at ∙ swap_last ∙ sym same
            | inr ne ↦ ap (swap Moved) (swap_other b ne other) ∙ swap_other b ne other
          ]
        ]
    swap_twice Dropped b = refl

    moved_away : (b : ℕ) → b ≤ shape.slots → is_buffer_away (told_with Moved).hold b ≡ is_buffer_away h.hold (swap Moved b)
    moved_away b most =
        elim (cases_eq b shape.slots) [
          | inl last ↦
              ap (is_buffer_away (told_with Moved).hold) (last ∙ sym wide_then) ∙ buffer_apart (told_with Moved).hold
              ∙ sym (ap (λ (k : ℕ). is_buffer_away h.hold (swap Moved k)) last ∙ ap (is_buffer_away h.hold) swap_last ∙ buffer_own h.hold at at_within)
          | inr other ↦ elim (cases_eq b at) [
            | inl same ↦
                ap (is_buffer_away (told_with Moved).hold) same ∙ buffer_own (told_with Moved).hold at (subst (λ (n : ℕ). at < n) (sym wide_then) (at_below shape lawful shard slots later slot start below e here elsewhere new apart h held))
                ∙ get_or-set_same h.hold.away at h.hold.second_away false at_within
                ∙ sym (ap (λ (k : ℕ). is_buffer_away h.hold (swap Moved k)) same ∙ ap (is_buffer_away h.hold) (swap_at ∙ sym held.wide_away) ∙ buffer_apart h.hold)
            | inr ne ↦
                let lower : b < shape.slots = omega arith in
                buffer_own (told_with Moved).hold b (subst (λ (n : ℕ). b < n) (sym wide_then) lower) ∙ get_or-set_other h.hold.away at b h.hold.second_away false ne
                ∙ sym (ap (is_buffer_away h.hold) (swap_other b ne other) ∙ buffer_own h.hold b (subst (λ (n : ℕ). b < n) (sym held.wide_away) lower))
          ]
        ]
      where
        wide_then : length (told_with Moved).hold.away ≡ shape.slots
        wide_then = length-set h.hold.away at h.hold.second_away ∙ held.wide_away

        at_within : at < length h.hold.away
        at_within = subst (λ (n : ℕ). at < n) (sym held.wide_away) (at_below shape lawful shard slots later slot start below e here elsewhere new apart h held)

    pub told_away : (x : Heard) (b : ℕ) → b ≤ shape.slots → is_buffer_away (told_with x).hold b ≡ is_buffer_away h.hold (swap x b)
    told_away Nothing b most = refl
    told_away Lost b most = refl
    told_away Moved b most = moved_away b most
    told_away Dropped b most = refl

    -- as many buffers are home
    pub told_home : (x : Heard) → count_home (buffers_away (told_with x).hold) ≡ count_home (buffers_away h.hold)
    told_home Nothing = refl
    told_home Lost = refl
    told_home Moved = home_swapped h.hold.away at h.hold.second_away (subst (λ (n : ℕ). at < n) (sym held.wide_away) (at_below shape lawful shard slots later slot start below e here elsewhere new apart h held))
    told_home Dropped = refl

    -- and no more is owed
    pub told_owed : (x : Heard) → Says cell k1 k2 x → owed_by (told_with x) ≤ owed_by h
    told_owed Nothing says = omega arith
    told_owed Lost says = lost_to_come h.hold.planned.hold at
    told_owed Moved says = owes_no_more h.hold.planned (Moves at) (under_way_fine shape h.hold.planned lawful held.under_way) (says.0, says.1)
    told_owed Dropped says = owes_no_more h.hold.planned (Drops at) (under_way_fine shape h.hold.planned lawful held.under_way) says.1

    -- ---- a command of the row

    abbrev IsCommand : HeldRow → List Slot → (other g : ℕ) → (abandoned writes : Bool) → Type 0
    IsCommand r ss other g abandoned writes =
        let own = is_own r.successor other g in
        let c = cell_at r.hold.planned.hold.cells (position_at shape h.row other) in
        (abandoned ≡ is_out (standing_for own c)) × (abandoned ≡ false → g ≡ device_in own (states_of ss other)) × (abandoned ≡ false → writes ≡ is_write_out own c)

    command_elsewhere : (x : Heard) → Says cell k1 k2 x → (other g : ℕ) (abandoned writes : Bool) → other < shape.slots → other ≢ slot → IsCommand h slots other g abandoned writes → IsCommand (told_with x) later other g abandoned writes
    command_elsewhere x says other g abandoned writes other_below ne is =
        let own = own_other shape lawful shard slots later slot start below e here elsewhere new apart h held x says other g ne in
        let same = cell_elsewhere shape lawful shard slots later slot start below e here elsewhere new apart h held x (position_at shape h.row other) (place_elsewhere other other_below ne) in (
          is.0 ∙ (λ i. is_out (standing_for (sym own i) (sym same i))),
          λ wanted. is.1 wanted ∙ (λ i. device_in (sym own i) (state_of (sym (elsewhere other ne) i))),
          λ wanted. is.2 wanted ∙ (λ i. is_write_out (sym own i) (sym same i)),
        )

    abbrev IsCommandHere : (own : Bool) → Cell → Device → (g : ℕ) → (abandoned writes : Bool) → Type 0
    IsCommandHere own c device g abandoned writes =
        (abandoned ≡ is_out (standing_for own c)) × (abandoned ≡ false → g ≡ device_in own (state_of device)) × (abandoned ≡ false → writes ≡ is_write_out own c)

    gone_if : (abandoned k : Bool) (g : ℕ) → keeps e g ≡ k → (abandoned || not (keeps e g)) ≡ (abandoned || not k)
    gone_if abandoned k g is = ap (λ (b : Bool). abandoned || not b) is

    some_first : cell.standing ≢ Out → first_of d ≢ None
    some_first there none = let both = sym none ∙ first_there shape lawful shard slots later slot start below e here elsewhere new apart h held there in cc

    no_way : (abandoned : Bool) {A : Type 0} → (abandoned || not false) ≡ false → A
    no_way true is = absurd (false≢true (sym is))
    no_way false is = absurd (false≢true (sym is))

    always : (abandoned : Bool) → (abandoned || not false) ≡ true
    always true = refl
    always false = refl

    -- what is known of one that isn't abandoned
    wanted_of : (own : Bool) (g : ℕ) (abandoned writes : Bool) → IsCommandHere own cell d g abandoned writes → (standing_for own cell ≢ Out) → abandoned ≡ false
    wanted_of own g abandoned writes is there = by_bool abandoned refl
      where
        by_bool : (b : Bool) → abandoned ≡ b → abandoned ≡ false
        by_bool true e = absurd (there (out_is (standing_for own cell) (sym is.0 ∙ e)))
        by_bool false e = e

    abbrev own_then : Heard → Bool → Bool
    own_then Nothing own = own
    own_then Lost own = own
    own_then Moved own = not own
    own_then Dropped own = own

    own_here : (x : Heard) → Says cell k1 k2 x → (g : ℕ) → is_own (told_with x).successor slot g ≡ own_then x (is_own h.successor slot g)
    own_here Nothing says g = refl
    own_here Lost says g = own_dropped h.successor slot slot g
    own_here Moved says g = own_moved says g
    own_here Dropped says g = own_dropped h.successor slot slot g

    command_here : (x : Heard) → Says cell k1 k2 x → (own : Bool) (g : ℕ) (abandoned writes : Bool) → (own ≡ false → writes ≡ true → h.hold.second_away ≡ true) → IsCommandHere own cell d g abandoned writes
        → IsCommandHere (own_then x own) (told_cell x cell) e g (abandoned || not (keeps e g)) writes
    command_here Nothing says own g abandoned writes away is = by_bool abandoned refl
      where
        by_own : (b : Bool) → own ≡ b → standing_for own cell ≢ Out → g ≡ device_in own (state_of d) → (keeps e g ≡ true) × (g ≡ device_in own (state_of e))
        by_own true o there device =
            let home = subst (λ (c : Bool). standing_for c cell ≢ Out) o there in
            let g_is = device ∙ ap (λ (c : Bool). device_in c (state_of d)) o in
            let first = says.0 home in (
              ap (keeps e) g_is ∙ first,
              g_is ∙ sym (kept_first start d e new apart (some_first home) first) ∙ ap (λ (c : Bool). device_in c (state_of e)) (sym o),
            )
        by_own false o there device =
            let home = subst (λ (c : Bool). standing_for c cell ≢ Out) o there in
            let g_is = device ∙ ap (λ (c : Bool). device_in c (state_of d)) o in
            let second = says.1 home in
            let first = says.0 (first_home shape lawful shard slots later slot start below e here elsewhere new apart h held home) in (
              ap (keeps e) g_is ∙ second,
              g_is ∙ sym (kept_second start d e new apart (some_first (first_home shape lawful shard slots later slot start below e here elsewhere new apart h held home)) (two shape lawful shard slots later slot start below e here elsewhere new apart h held home) first second) ∙ ap (λ (c : Bool). device_in c (state_of e)) (sym o),
            )

        by_bool : (b : Bool) → abandoned ≡ b → IsCommandHere own cell e g (abandoned || not (keeps e g)) writes
        by_bool true a = (
          or_left abandoned (not (keeps e g)) a ∙ sym a ∙ is.0,
          λ wanted. absurd (false≢true (sym wanted ∙ or_left abandoned (not (keeps e g)) a)),
          λ wanted. absurd (false≢true (sym wanted ∙ or_left abandoned (not (keeps e g)) a)),
        )
        by_bool false a =
            let there = not_out_is (standing_for own cell) (sym is.0 ∙ a) in
            let kept = by_own own refl there (is.1 a) in (
              gone_if abandoned true g kept.0 ∙ or-false abandoned ∙ is.0,
              λ wanted. kept.1,
              λ wanted. is.2 a,
            )
    command_here Lost says own g abandoned writes away is = (gone ∙ sym (all_out own), λ wanted. absurd (false≢true (sym wanted ∙ gone)), λ wanted. absurd (false≢true (sym wanted ∙ gone)))
      where
        all_out : (b : Bool) → is_out (standing_for b (told_cell Lost cell)) ≡ true
        all_out true = refl
        all_out false = refl

        by_own : (b : Bool) → own ≡ b → abandoned ≡ false → keeps e g ≡ false
        by_own true o a = ap (keeps e) (is.1 a ∙ ap (λ (c : Bool). device_in c (state_of d)) o) ∙ says.1
        by_own false o a =
            ap (keeps e) (is.1 a ∙ ap (λ (c : Bool). device_in c (state_of d)) o) ∙ says.2 (subst (λ (c : Bool). standing_for c cell ≢ Out) o (not_out_is (standing_for own cell) (sym is.0 ∙ a)))

        by_bool : (b : Bool) → abandoned ≡ b → (abandoned || not (keeps e g)) ≡ true
        by_bool true a = or_left abandoned (not (keeps e g)) a
        by_bool false a = gone_if abandoned false g (by_own own refl a) ∙ always abandoned

        gone : (abandoned || not (keeps e g)) ≡ true
        gone = by_bool abandoned refl
    command_here Moved says true g abandoned writes away is =
        let wanted = wanted_of true g abandoned writes is says.0 in
        let gone = gone_if abandoned false g (ap (keeps e) (is.1 wanted) ∙ says.2) ∙ always abandoned in
        (gone, λ not_gone. absurd (false≢true (sym not_gone ∙ gone)), λ not_gone. absurd (false≢true (sym not_gone ∙ gone)))
    command_here Moved says false g abandoned writes away is =
        let wanted = wanted_of false g abandoned writes is says.1 in
        let stays = gone_if abandoned true g (ap (keeps e) (is.1 wanted) ∙ says.3) ∙ or-false abandoned in (
          stays ∙ is.0,
          λ still. is.1 wanted ∙ sym (moved_first start d e new apart (two shape lawful shard slots later slot start below e here elsewhere new apart h held says.1) says.2 says.3),
          λ still. is.2 wanted ∙ sym (moved_writes cell ∙ sym (held.second_away at (at_below shape lawful shard slots later slot start below e here elsewhere new apart h held) says.1) ∙ away refl (is.2 wanted)),
        )
    command_here Dropped says true g abandoned writes away is =
        let wanted = wanted_of true g abandoned writes is says.0 in
        let stays = gone_if abandoned true g (ap (keeps e) (is.1 wanted) ∙ says.2) ∙ or-false abandoned in
        (stays ∙ is.0, λ still. is.1 wanted ∙ sym (kept_first start d e new apart (some_first says.0) says.2), λ still. is.2 wanted)
    command_here Dropped says false g abandoned writes away is =
        let wanted = wanted_of false g abandoned writes is says.1 in
        let gone = gone_if abandoned false g (ap (keeps e) (is.1 wanted) ∙ says.3) ∙ always abandoned in
        (gone, λ not_gone. absurd (false≢true (sym not_gone ∙ gone)), λ not_gone. absurd (false≢true (sym not_gone ∙ gone)))

    pub command_then : (x : Heard) → Says cell k1 k2 x → (other g : ℕ) (abandoned writes : Bool) → other < shape.slots
        → (is_own h.successor other g ≡ false → writes ≡ true → h.hold.second_away ≡ true) → IsCommand h slots other g abandoned writes
        → IsCommand (told_with x) later other g (abandoned || ((other == slot) && not (keeps e g))) writes
    command_then x says other g abandoned writes other_below away is =
        elim (cases_eq other slot) [
          | inl same ↦
              subst (λ (s : ℕ). IsCommand (told_with x) later s g (abandoned || ((s == slot) && not (keeps e g))) writes) (sym same)
              (subst (λ (b : Bool). IsCommand (told_with x) later slot g (abandoned || (b && not (keeps e g))) writes) (sym (eq-eqb slot slot refl))
              (here_again (command_here x says (is_own h.successor slot g) g abandoned writes (subst (λ (s : ℕ). is_own h.successor s g ≡ false → writes ≡ true → h.hold.second_away ≡ true) same away)
              (subst (λ (s : ℕ). IsCommand h slots s g abandoned writes) same is))))
          | inr ne ↦
              subst (λ (b : Bool). IsCommand (told_with x) later other g (abandoned || (b && not (keeps e g))) writes) (sym (ne_eqb other slot ne))
              (subst (λ (b : Bool). IsCommand (told_with x) later other g b writes) (sym (or-false abandoned)) (command_elsewhere x says other g abandoned writes other_below ne is))
        ]
      where
        here_again : IsCommandHere (own_then x (is_own h.successor slot g)) (told_cell x cell) e g (abandoned || not (keeps e g)) writes → IsCommand (told_with x) later slot g (abandoned || not (keeps e g)) writes
        here_again then_is =
            let own = own_here x says g in
            let same = cell_here shape lawful shard slots later slot start below e here elsewhere new apart h held x in (
              then_is.0 ∙ (λ i. is_out (standing_for (sym own i) (sym same i))),
              λ wanted. then_is.1 wanted ∙ (λ i. device_in (sym own i) (state_of (sym here i))),
              λ wanted. then_is.2 wanted ∙ (λ i. is_write_out (sym own i) (sym same i)),
            )
