-- That an event by the plan keeps each part of what is true along its course.
use Rattle.std.proofs.Common.{◌≡◌, ◌≢◌, ◌⊎◌, inl, inr, ℕ, ◌+◌, ◌≤◌, Bool, true, false, List, [], ◌∷◌, set, refl, sym, ◌∙◌, ap, subst}
use Rattle.std.specs.Prelude.{◌||◌, not, if◌then◌else◌, ◌==◌}
use Rattle.std.proofs.lemmas.Bool.{and_parts, eqb-true, eq-eqb}
use Rattle.std.proofs.lemmas.List.{get_or-set_same}
use Rattle.r6_stripe.specs.Holds.{Standing, Reading, Cell, Kind, Hold, Event, cell_at, no_cell, is_known, replaced, read_again, read_no_more, reading_after, moved, ready_for, own_writing, writing_for, IsAsked, IsReadOver, after_event, IsIndexOf, IsToWrite, AreNew}
use Rattle.r6_stripe.specs.Holds.Standing.{InSync, Target, Out}
use Rattle.r6_stripe.specs.Holds.Reading.{Unread, Recalled, Asked, Unreadable, Fixing, Fixed, AskedAgain, Known, Replaced}
use Rattle.r6_stripe.specs.Holds.Writing.{Unwritten, Ready, Sent}
use Rattle.r6_stripe.specs.Holds.Kind.{Idle, Read, Write, Rebuild, Check, Repair}
use Rattle.r6_stripe.specs.Holds.Event.{Asks, Fixes, AsksAgain, Restores, Computes, Writes, Copies, Gives, Fails, Confirms, Mends, Settles, Loses, Moves, Drops}
use Rattle.r6_stripe.specs.Plans.{Plan, Planned, is_in_sync, is_in_error, is_its_block, is_met, is_parity, is_served, can_fix, wants, names, data_count, if_possible, fewest, first_of_fewest, write_plan, first_plan, after_error, after_loss, after_move, plan_after, planned_after, planned_at, planned_first, parities_in_sync, each_below, is_readable, MayFollow, IsPlanned}
use Rattle.r6_stripe.specs.Plans.Plan.{One, Reconstruct, Modify, Overwrite, Recover, All}
use Rattle.r6_stripe.proofs.Bound.{within}
use Rattle.r6_stripe.specs.Plans.Next.{ReadAt, FixAt, ReadAgainAt, RestoreAt, ComputeNew}
use Rattle.r6_stripe.proofs.Steps.{comes, read_parts, error_parts, again_parts, enough_parts, read_over_all, unwritten_all}
use Rattle.r6_stripe.proofs.CellsAfter.{Became, cell_after, width_after, kind_after, ready_standing, ready_second, out_after, target_before, second_after}
use Rattle.r6_stripe.proofs.KindPlans.{Suits, one_was, IsMendingPlan, mending_stays, IsTried, IsComputed, IsReplaced, IsPaired}
use Rattle.r6_stripe.proofs.OnCourse.{OnCourse, at_place, not_computed, computed_before}

-- ---- what gave way to a new block

pub own_ready : (t : Standing) (c : Cell) (block : List ℕ) → c.second ≡ t → own_writing (ready_for t c block) ≢ Unwritten
own_ready InSync c block is u = let e : Ready block ≡ Unwritten = subst (λ (t : Standing). writing_for t (ready_for InSync c block) ≡ Unwritten) is u in cc
own_ready Target c block is u = let e : Ready block ≡ Unwritten = subst (λ (t : Standing). writing_for t (ready_for Target c block) ≡ Unwritten) is u in cc
own_ready Out c block is u = let e : Ready block ≡ Unwritten = subst (λ (t : Standing). writing_for t (ready_for Out c block) ≡ Unwritten) is u in cc

ready_replaced : (kind : Kind) (j : ℕ) (t : Standing) (c : Cell) (block : List ℕ) → c.second ≡ t → IsReplaced kind j (ready_for t c block)
ready_replaced kind j t c block is = record { own = inl (own_ready t c block is); both = both t is }
  where
    both : (t : Standing) → c.second ≡ t → (ready_for t c block).second ≡ InSync → ((ready_for t c block).writing ≢ Unwritten) × ((ready_for t c block).copying ≢ Unwritten)
    both InSync is two = (λ u. cc, λ u. cc)
    both Target is two = absurd (let e = sym is ∙ two in cc)
    both Out is two = absurd (let e = sym is ∙ two in cc)

was_replaced : (t : Standing) (r : Reading) → reading_after t r ≡ Replaced → r ≡ Replaced
was_replaced InSync Unread e = absurd cc
was_replaced InSync Recalled e = absurd cc
was_replaced InSync Asked e = absurd cc
was_replaced InSync Unreadable e = absurd cc
was_replaced InSync Fixing e = absurd cc
was_replaced InSync Fixed e = absurd cc
was_replaced InSync AskedAgain e = absurd cc
was_replaced InSync (Known block) e = absurd cc
was_replaced InSync Replaced e = refl
was_replaced Target Unread e = absurd cc
was_replaced Target Recalled e = absurd cc
was_replaced Target Asked e = absurd cc
was_replaced Target Unreadable e = absurd cc
was_replaced Target Fixing e = absurd cc
was_replaced Target Fixed e = absurd cc
was_replaced Target AskedAgain e = absurd cc
was_replaced Target (Known block) e = absurd cc
was_replaced Target Replaced e = refl
was_replaced Out Unread e = absurd cc
was_replaced Out Recalled e = absurd cc
was_replaced Out Asked e = absurd cc
was_replaced Out Unreadable e = absurd cc
was_replaced Out Fixing e = absurd cc
was_replaced Out Fixed e = absurd cc
was_replaced Out AskedAgain e = absurd cc
was_replaced Out (Known block) e = absurd cc
was_replaced Out Replaced e = refl

same_replaced : (kind : Kind) (j : ℕ) (c later : Cell) → later.standing ≡ c.standing → later.second ≡ c.second → (c.writing ≢ Unwritten → later.writing ≢ Unwritten) → (c.copying ≢ Unwritten → later.copying ≢ Unwritten) →
    IsReplaced kind j c → IsReplaced kind j later
same_replaced kind j c later stands s w k h = record {
  own = elim h.own [
    | inl n ↦ inl (own c.second refl n)
    | inr gone ↦ inr (gone.0, (λ t. gone.1 (sym stands ∙ t)), λ t. gone.2 (sym s ∙ t))
  ];
  both = λ t. let two = h.both (sym s ∙ t) in (w two.0, k two.1);
}
  where
    own : (t : Standing) → c.second ≡ t → writing_for t c ≢ Unwritten → own_writing later ≢ Unwritten
    own InSync is n u = w n (sym (ap (λ (t : Standing). writing_for t later) (s ∙ is)) ∙ u)
    own Target is n u = k n (sym (ap (λ (t : Standing). writing_for t later) (s ∙ is)) ∙ u)
    own Out is n u = w n (sym (ap (λ (t : Standing). writing_for t later) (s ∙ is)) ∙ u)

-- the second device is out
left_replaced : (kind : Kind) (j : ℕ) (c later : Cell) → later.second ≡ Out → (c.second ≢ Out → later.standing ≢ Target) → (c.standing ≢ Target → later.standing ≢ Target) → later.writing ≡ c.writing →
    (c.second ≡ Target → kind ≡ Rebuild j) → IsReplaced kind j c → IsReplaced kind j later
left_replaced kind j c later out apart still same of h = record { own = by_second c.second refl; both = λ t. absurd (two InSync t (λ e. cc)) }
  where
    two : (t : Standing) → later.second ≡ t → t ≢ Out → ⊥
    two t e other = other (sym e ∙ out)

    own : own_writing later ≡ c.writing
    own = ap (λ (t : Standing). writing_for t later) out ∙ same

    by_second : (t : Standing) → c.second ≡ t → (own_writing later ≢ Unwritten) ⊎ ((kind ≡ Rebuild j) × (later.standing ≢ Target) × (later.second ≢ Target))
    by_second InSync is = inl (λ u. (h.both is).0 (sym own ∙ u))
    by_second Target is = inr (of is, apart (λ e. let f = sym is ∙ e in cc), λ t. two Target t (λ e. cc))
    by_second Out is =
        elim h.own [
          | inl n ↦ inl (λ u. n (ap (λ (t : Standing). writing_for t c) is ∙ sym own ∙ u))
          | inr gone ↦ inr (gone.0, still gone.1, λ t. two Target t (λ e. cc))
        ]

moved_replaced : (kind : Kind) (j : ℕ) (t : Standing) (c : Cell) → c.second ≡ t → c.second ≢ Out → IsReplaced kind j c → IsReplaced kind j (moved c)
moved_replaced kind j InSync c is there h = record { own = inl (h.both is).1; both = λ t. absurd cc }
moved_replaced kind j Target c is there h = record {
  own = elim h.own [ inl n ↦ inl (λ u. n (ap (λ (t : Standing). writing_for t c) is ∙ u)) | inr gone ↦ absurd (gone.2 is) ];
  both = λ t. absurd cc;
}
moved_replaced kind j Out c is there h = absurd (there is)

kept_became : (planned : Planned) (event : Event) (j : ℕ) (later : Cell) → OnCourse planned → MayFollow planned event →
    Became event j (cell_at planned.hold.cells j) later → later.reading ≡ Replaced → IsReplaced planned.hold.kind j later
kept_became planned (Asks i) j later on may b e = absurd (let r = ap (λ (c : Cell). c.reading) b.1 in cc)
kept_became planned (Fixes i block) j later on may b e = absurd (let r = ap (λ (c : Cell). c.reading) b.1 in cc)
kept_became planned (AsksAgain i) j later on may b e = absurd (let r = ap (λ (c : Cell). c.reading) b.1 in cc)
kept_became planned (Restores i block) j later on may b e = absurd (let r = ap (λ (c : Cell). c.reading) b.1 in cc)
kept_became planned (Gives i block) j later on may b e = absurd (let r = ap (λ (c : Cell). c.reading) b.1 in cc)
kept_became planned (Fails i) j later on may b e = absurd (let r = ap (λ (c : Cell). c.reading) b.1 in cc)
kept_became planned (Mends i) j later on may b e = absurd (let r = ap (λ (c : Cell). c.reading) b.1 in cc)
kept_became planned (Computes new) j later on may b e =
    let c = cell_at planned.hold.cells j in
    subst (IsReplaced planned.hold.kind j) (sym b.1.1) (ready_replaced planned.hold.kind j c.second c b.1.0 refl)
kept_became planned (Writes i block) j later on may b e =
    same_replaced planned.hold.kind j (cell_at planned.hold.cells j) later (ap (λ (c : Cell). c.standing) b.1) (ap (λ (c : Cell). c.second) b.1) (λ h u. let w = ap (λ (c : Cell). c.writing) b.1 in cc) (λ h u. h (sym (ap (λ (c : Cell). c.copying) b.1) ∙ u)) (on.kept j (sym (ap (λ (c : Cell). c.reading) b.1) ∙ e))
kept_became planned (Copies i block) j later on may b e =
    same_replaced planned.hold.kind j (cell_at planned.hold.cells j) later (ap (λ (c : Cell). c.standing) b.1) (ap (λ (c : Cell). c.second) b.1) (λ h u. h (sym (ap (λ (c : Cell). c.writing) b.1) ∙ u)) (λ h u. let w = ap (λ (c : Cell). c.copying) b.1 in cc) (on.kept j (sym (ap (λ (c : Cell). c.reading) b.1) ∙ e))
kept_became planned (Confirms i) j later on may b e =
    same_replaced planned.hold.kind j (cell_at planned.hold.cells j) later (ap (λ (c : Cell). c.standing) b.1) (ap (λ (c : Cell). c.second) b.1) (λ h u. let w = ap (λ (c : Cell). c.writing) b.1 in cc) (λ h u. h (sym (ap (λ (c : Cell). c.copying) b.1) ∙ u)) (on.kept j (sym (ap (λ (c : Cell). c.reading) b.1) ∙ e))
kept_became planned (Settles i) j later on may b e =
    same_replaced planned.hold.kind j (cell_at planned.hold.cells j) later (ap (λ (c : Cell). c.standing) b.1) (ap (λ (c : Cell). c.second) b.1) (λ h u. h (sym (ap (λ (c : Cell). c.writing) b.1) ∙ u)) (λ h u. let w = ap (λ (c : Cell). c.copying) b.1 in cc) (on.kept j (sym (ap (λ (c : Cell). c.reading) b.1) ∙ e))
kept_became planned (Loses i) j later on may b e =
    let stands : later.standing ≢ Target = λ t. let s = ap (λ (c : Cell). c.standing) b.1 in cc in
    left_replaced planned.hold.kind j (cell_at planned.hold.cells j) later (ap (λ (c : Cell). c.second) b.1) (λ two. stands) (λ other. stands) (ap (λ (c : Cell). c.writing) b.1) (on.second_targets j)
    (on.kept j (sym (ap (λ (c : Cell). c.reading) b.1) ∙ e))
kept_became planned (Drops i) j later on may b e =
    let same : later.standing ≡ (cell_at planned.hold.cells j).standing = ap (λ (c : Cell). c.standing) b.1 in
    left_replaced planned.hold.kind j (cell_at planned.hold.cells j) later (ap (λ (c : Cell). c.second) b.1) (λ two t. let s = on.beside j two in cc) (λ other t. other (sym same ∙ t)) (ap (λ (c : Cell). c.writing) b.1) (on.second_targets j)
    (on.kept j (sym (ap (λ (c : Cell). c.reading) b.1) ∙ e))
kept_became planned (Moves i) j later on may b e =
    let c = cell_at planned.hold.cells j in
    subst (IsReplaced planned.hold.kind j) (sym b.1)
    (moved_replaced planned.hold.kind j c.second c refl (at_place planned (λ x. x.second ≢ Out) i j b.0 may.1) (on.kept j (was_replaced c.second c.reading (sym (ap (λ (x : Cell). x.reading) b.1) ∙ e))))

pub kept_after : (planned : Planned) (event : Event) → OnCourse planned → MayFollow planned event →
    (j : ℕ) → (cell_at (after_event planned.hold event).cells j).reading ≡ Replaced → IsReplaced planned.hold.kind j (cell_at (after_event planned.hold event).cells j)
kept_after planned event on may j =
    elim (cell_after planned.hold event j) [
      | inl same ↦ λ e. subst (IsReplaced planned.hold.kind j) (sym same) (on.kept j (sym (ap (λ (c : Cell). c.reading) same) ∙ e))
      | inr became ↦ kept_became planned event j (cell_at (after_event planned.hold event).cells j) on may became
    ]

-- ---- second devices

beside_became : (event : Event) (j : ℕ) (before later : Cell) → (before.second ≢ Out → before.standing ≡ InSync) → Became event j before later → later.second ≢ Out → later.standing ≡ InSync
beside_became (Asks i) j before later beside b h = ap (λ (c : Cell). c.standing) b.1 ∙ beside (λ o. h (ap (λ (c : Cell). c.second) b.1 ∙ o))
beside_became (Fixes i block) j before later beside b h = ap (λ (c : Cell). c.standing) b.1 ∙ beside (λ o. h (ap (λ (c : Cell). c.second) b.1 ∙ o))
beside_became (AsksAgain i) j before later beside b h = ap (λ (c : Cell). c.standing) b.1 ∙ beside (λ o. h (ap (λ (c : Cell). c.second) b.1 ∙ o))
beside_became (Restores i block) j before later beside b h = ap (λ (c : Cell). c.standing) b.1 ∙ beside (λ o. h (ap (λ (c : Cell). c.second) b.1 ∙ o))
beside_became (Gives i block) j before later beside b h = ap (λ (c : Cell). c.standing) b.1 ∙ beside (λ o. h (ap (λ (c : Cell). c.second) b.1 ∙ o))
beside_became (Fails i) j before later beside b h = ap (λ (c : Cell). c.standing) b.1 ∙ beside (λ o. h (ap (λ (c : Cell). c.second) b.1 ∙ o))
beside_became (Mends i) j before later beside b h = ap (λ (c : Cell). c.standing) b.1 ∙ beside (λ o. h (ap (λ (c : Cell). c.second) b.1 ∙ o))
beside_became (Writes i block) j before later beside b h = ap (λ (c : Cell). c.standing) b.1 ∙ beside (λ o. h (ap (λ (c : Cell). c.second) b.1 ∙ o))
beside_became (Copies i block) j before later beside b h = ap (λ (c : Cell). c.standing) b.1 ∙ beside (λ o. h (ap (λ (c : Cell). c.second) b.1 ∙ o))
beside_became (Confirms i) j before later beside b h = ap (λ (c : Cell). c.standing) b.1 ∙ beside (λ o. h (ap (λ (c : Cell). c.second) b.1 ∙ o))
beside_became (Settles i) j before later beside b h = ap (λ (c : Cell). c.standing) b.1 ∙ beside (λ o. h (ap (λ (c : Cell). c.second) b.1 ∙ o))
beside_became (Computes new) j before later beside b h =
    ap (λ (c : Cell). c.standing) b.1.1 ∙ ready_standing before.second before b.1.0 ∙ beside (λ o. h (ap (λ (c : Cell). c.second) b.1.1 ∙ ready_second before.second before b.1.0 ∙ o))
beside_became (Loses i) j before later beside b h = absurd (h (ap (λ (c : Cell). c.second) b.1))
beside_became (Moves i) j before later beside b h = absurd (h (ap (λ (c : Cell). c.second) b.1))
beside_became (Drops i) j before later beside b h = absurd (h (ap (λ (c : Cell). c.second) b.1))

pub beside_after : (planned : Planned) (event : Event) → OnCourse planned → (j : ℕ) → (cell_at (after_event planned.hold event).cells j).second ≢ Out → (cell_at (after_event planned.hold event).cells j).standing ≡ InSync
beside_after planned event on j =
    elim (cell_after planned.hold event j) [
      | inl same ↦ λ h. ap (λ (c : Cell). c.standing) same ∙ on.beside j (λ o. h (ap (λ (c : Cell). c.second) same ∙ o))
      | inr became ↦ beside_became event j (cell_at planned.hold.cells j) (cell_at (after_event planned.hold event).cells j) (on.beside j) became
    ]

same_paired : (c later : Cell) → later.writing ≡ c.writing → later.copying ≡ c.copying → IsPaired c → IsPaired later
same_paired c later w k p = record {
  first = λ h u. p.first (λ v. h (w ∙ v)) (sym k ∙ u);
  second = λ h u. p.second (λ v. h (k ∙ v)) (sym w ∙ u);
}

both_paired : (c : Cell) → c.writing ≢ Unwritten → c.copying ≢ Unwritten → IsPaired c
both_paired c w k = record { first = λ _. k; second = λ _. w }

ready_paired : (t : Standing) (c : Cell) (block : List ℕ) → c.second ≡ t → c.second ≡ InSync → IsPaired (ready_for t c block)
ready_paired InSync c block is in_sync = both_paired (ready_for InSync c block) (λ u. cc) (λ u. cc)
ready_paired Target c block is in_sync = absurd cc
ready_paired Out c block is in_sync = absurd cc

paired_became : (planned : Planned) (event : Event) (j : ℕ) (later : Cell) → MayFollow planned event → ((cell_at planned.hold.cells j).second ≡ InSync → IsPaired (cell_at planned.hold.cells j)) →
    Became event j (cell_at planned.hold.cells j) later → later.second ≡ InSync → IsPaired later
paired_became planned (Asks i) j later may paired b s = same_paired (cell_at planned.hold.cells j) later (ap (λ (c : Cell). c.writing) b.1) (ap (λ (c : Cell). c.copying) b.1) (paired (sym (ap (λ (c : Cell). c.second) b.1) ∙ s))
paired_became planned (Fixes i block) j later may paired b s = same_paired (cell_at planned.hold.cells j) later (ap (λ (c : Cell). c.writing) b.1) (ap (λ (c : Cell). c.copying) b.1) (paired (sym (ap (λ (c : Cell). c.second) b.1) ∙ s))
paired_became planned (AsksAgain i) j later may paired b s = same_paired (cell_at planned.hold.cells j) later (ap (λ (c : Cell). c.writing) b.1) (ap (λ (c : Cell). c.copying) b.1) (paired (sym (ap (λ (c : Cell). c.second) b.1) ∙ s))
paired_became planned (Restores i block) j later may paired b s = same_paired (cell_at planned.hold.cells j) later (ap (λ (c : Cell). c.writing) b.1) (ap (λ (c : Cell). c.copying) b.1) (paired (sym (ap (λ (c : Cell). c.second) b.1) ∙ s))
paired_became planned (Gives i block) j later may paired b s = same_paired (cell_at planned.hold.cells j) later (ap (λ (c : Cell). c.writing) b.1) (ap (λ (c : Cell). c.copying) b.1) (paired (sym (ap (λ (c : Cell). c.second) b.1) ∙ s))
paired_became planned (Fails i) j later may paired b s = same_paired (cell_at planned.hold.cells j) later (ap (λ (c : Cell). c.writing) b.1) (ap (λ (c : Cell). c.copying) b.1) (paired (sym (ap (λ (c : Cell). c.second) b.1) ∙ s))
paired_became planned (Mends i) j later may paired b s = same_paired (cell_at planned.hold.cells j) later (ap (λ (c : Cell). c.writing) b.1) (ap (λ (c : Cell). c.copying) b.1) (paired (sym (ap (λ (c : Cell). c.second) b.1) ∙ s))
paired_became planned (Computes new) j later may paired b s =
    let c = cell_at planned.hold.cells j in
    subst IsPaired (sym b.1.1) (ready_paired c.second c b.1.0 refl (sym (ap (λ (x : Cell). x.second) b.1.1 ∙ ready_second c.second c b.1.0) ∙ s))
paired_became planned (Writes i block) j later may paired b s =
    both_paired later (λ u. let w = ap (λ (c : Cell). c.writing) b.1 in cc)
    (λ u. (paired (sym (ap (λ (c : Cell). c.second) b.1) ∙ s)).first (λ v. let r = subst (λ (k : ℕ). (cell_at planned.hold.cells k).writing ≡ Ready block) (sym b.0) may.1 in cc) (sym (ap (λ (c : Cell). c.copying) b.1) ∙ u))
paired_became planned (Copies i block) j later may paired b s =
    both_paired later (λ u. (paired (sym (ap (λ (c : Cell). c.second) b.1) ∙ s)).second (λ v. let r = subst (λ (k : ℕ). (cell_at planned.hold.cells k).copying ≡ Ready block) (sym b.0) may.1 in cc) (sym (ap (λ (c : Cell). c.writing) b.1) ∙ u))
    (λ u. let w = ap (λ (c : Cell). c.copying) b.1 in cc)
paired_became planned (Confirms i) j later may paired b s =
    both_paired later (λ u. let w = ap (λ (c : Cell). c.writing) b.1 in cc)
    (λ u. (paired (sym (ap (λ (c : Cell). c.second) b.1) ∙ s)).first (λ v. let r = subst (λ (k : ℕ). (cell_at planned.hold.cells k).writing ≡ Sent) (sym b.0) may.1 in cc) (sym (ap (λ (c : Cell). c.copying) b.1) ∙ u))
paired_became planned (Settles i) j later may paired b s =
    both_paired later (λ u. (paired (sym (ap (λ (c : Cell). c.second) b.1) ∙ s)).second (λ v. let r = subst (λ (k : ℕ). (cell_at planned.hold.cells k).copying ≡ Sent) (sym b.0) may.1 in cc) (sym (ap (λ (c : Cell). c.writing) b.1) ∙ u))
    (λ u. let w = ap (λ (c : Cell). c.copying) b.1 in cc)
paired_became planned (Loses i) j later may paired b s = absurd (let o = ap (λ (c : Cell). c.second) b.1 in cc)
paired_became planned (Moves i) j later may paired b s = absurd (let o = ap (λ (c : Cell). c.second) b.1 in cc)
paired_became planned (Drops i) j later may paired b s = absurd (let o = ap (λ (c : Cell). c.second) b.1 in cc)

pub paired_after : (planned : Planned) (event : Event) → OnCourse planned → MayFollow planned event → (j : ℕ) → (cell_at (after_event planned.hold event).cells j).second ≡ InSync → IsPaired (cell_at (after_event planned.hold event).cells j)
paired_after planned event on may j =
    elim (cell_after planned.hold event j) [
      | inl same ↦ λ s. subst IsPaired (sym same) (on.paired j (sym (ap (λ (c : Cell). c.second) same) ∙ s))
      | inr became ↦ paired_became planned event j (cell_at (after_event planned.hold event).cells j) may (on.paired j) became
    ]

pub second_targets_after : (planned : Planned) (event : Event) → OnCourse planned → (j : ℕ) → (cell_at (after_event planned.hold event).cells j).second ≡ Target → planned.hold.kind ≡ Rebuild j
second_targets_after planned event on j t =
    elim (second_after planned.hold event j) [ inl same ↦ on.second_targets j (sym same ∙ t) | inr out ↦ absurd cc ]

pub targets_after : (planned : Planned) (event : Event) → OnCourse planned → (j : ℕ) → (cell_at (after_event planned.hold event).cells j).standing ≡ Target → planned.hold.kind ≡ Rebuild j
targets_after planned event on j t =
    elim (target_before planned.hold event j t) [ inl was ↦ on.targets j was | inr gone ↦ on.second_targets j gone.2 ]

-- ---- what is owed

owed_new : (hold : Hold) (new : List (ℕ × List ℕ)) (j : ℕ) → AreNew hold new → IsIndexOf j new → IsToWrite hold hold.kind j
owed_new hold [] j are there = absurd there
owed_new hold (entry ∷ rest) j are (inl same) = subst (λ (k : ℕ). IsToWrite hold hold.kind k) same are.2
owed_new hold (entry ∷ rest) j are (inr there) = owed_new hold rest j are.3 there

to_write_after : (hold : Hold) (event : Event) (kind : Kind) (j : ℕ) → IsToWrite hold kind j → IsToWrite (after_event hold event) kind j
to_write_after hold event Idle j h = h
to_write_after hold event (Read index) j h = h
to_write_after hold event (Write batch) j (inl named) = inl named
to_write_after hold event (Write batch) j (inr parity) = inr (subst (λ (n : ℕ). n ≤ j + 2) (sym (width_after hold event)) parity)
to_write_after hold event (Rebuild target) j h = h
to_write_after hold event Check j h = h
to_write_after hold event Repair j parity = subst (λ (n : ℕ). n ≤ j + 2) (sym (width_after hold event)) parity

pub owed_after : (planned : Planned) (event : Event) → MayFollow planned event → ((j : ℕ) → IsComputed (cell_at planned.hold.cells j) → IsToWrite planned.hold planned.hold.kind j) →
    (j : ℕ) → IsComputed (cell_at (after_event planned.hold event).cells j) → IsToWrite (after_event planned.hold event) (after_event planned.hold event).kind j
owed_after planned event may owed j w =
    subst (λ (kind : Kind). IsToWrite (after_event planned.hold event) kind j) (sym (kind_after planned.hold event))
    (to_write_after planned.hold event planned.hold.kind j
    (elim (computed_before planned event may j w) [
      | inl was ↦ owed j was
      | inr now ↦ owed_new planned.hold now.0 j (subst (MayFollow planned) now.1 may).1 now.2
    ]))

-- a plan that becomes recover lost the block of its read
lost_first : (plan : Plan) (hold : Hold) (i index : ℕ) → hold.kind ≡ Read index → Suits plan hold.kind → after_loss plan hold i ≡ Recover → (plan ≡ Recover) ⊎ (i ≡ index)
lost_first One hold i index is suits e = by_test (index == i) refl (subst (λ (kind : Kind). (if (not (Rattle.r6_stripe.specs.Plans.is_its_block kind i) || is_known (cell_at hold.cells i).reading) then One else Recover) ≡ Recover) is e)
  where
    by_test : (b : Bool) → (index == i) ≡ b → (if (not b || is_known (cell_at hold.cells i).reading) then One else Recover) ≡ Recover → (One ≡ Recover) ⊎ (i ≡ index)
    by_test true h e = inr (sym (eqb-true index i h))
    by_test false h e = inl e
lost_first Recover hold i index is suits e = inl refl
lost_first Reconstruct hold i index is suits e = absurd (subst (Suits Reconstruct) is suits)
lost_first Modify hold i index is suits e = absurd (subst (Suits Modify) is suits)
lost_first Overwrite hold i index is suits e = absurd (subst (Suits Overwrite) is suits)
lost_first All hold i index is suits e = absurd (subst (Suits All) is suits)

tried_replaced : (r : Reading) → IsTried r → IsTried (replaced r)
tried_replaced Unread h = h
tried_replaced Recalled h = h
tried_replaced Asked h = h
tried_replaced Unreadable h = h
tried_replaced Fixing h = h
tried_replaced Fixed h = h
tried_replaced AskedAgain h = h
tried_replaced (Known block) h = h
tried_replaced Replaced h = h

tried_again : (r : Reading) → IsTried r → IsTried (read_again r)
tried_again Unread h = h
tried_again Recalled h = h
tried_again Asked h = tt
tried_again Unreadable h = tt
tried_again Fixing h = tt
tried_again Fixed h = h
tried_again AskedAgain h = tt
tried_again (Known block) h = h
tried_again Replaced h = h

ready_tried : (t : Standing) (c : Cell) (block : List ℕ) → IsTried c.reading → IsTried (ready_for t c block).reading
ready_tried InSync c block h = tried_replaced c.reading h
ready_tried Target c block h = tried_replaced c.reading h
ready_tried Out c block h = tried_replaced c.reading h

-- no second device is a rebuild's target, where the hold is none
NoSecondTarget : Planned → Type 0
NoSecondTarget planned = (i : ℕ) → (cell_at planned.hold.cells i).second ≢ Target

moved_tried : (t : Standing) (r : Reading) → t ≢ Target → t ≢ Out → IsTried r → IsTried (reading_after t r)
moved_tried InSync r target out h = tried_again r h
moved_tried Target r target out h = absurd (target refl)
moved_tried Out r target out h = absurd (out refl)

tried_became : (planned : Planned) (event : Event) (j : ℕ) (later : Cell) → NoSecondTarget planned → MayFollow planned event → Became event j (cell_at planned.hold.cells j) later → IsTried (cell_at planned.hold.cells j).reading → IsTried later.reading
unfolding NoSecondTarget
tried_became planned (Asks i) j later none may b h = subst IsTried (sym (ap (λ (c : Cell). c.reading) b.1)) tt
tried_became planned (Fixes i block) j later none may b h = subst IsTried (sym (ap (λ (c : Cell). c.reading) b.1)) tt
tried_became planned (AsksAgain i) j later none may b h = subst IsTried (sym (ap (λ (c : Cell). c.reading) b.1)) tt
tried_became planned (Restores i block) j later none may b h = subst IsTried (sym (ap (λ (c : Cell). c.reading) b.1)) tt
tried_became planned (Gives i block) j later none may b h = subst IsTried (sym (ap (λ (c : Cell). c.reading) b.1)) tt
tried_became planned (Fails i) j later none may b h = subst IsTried (sym (ap (λ (c : Cell). c.reading) b.1)) tt
tried_became planned (Mends i) j later none may b h = subst IsTried (sym (ap (λ (c : Cell). c.reading) b.1)) tt
tried_became planned (Computes new) j later none may b h =
    let c = cell_at planned.hold.cells j in
    subst IsTried (sym (ap (λ (x : Cell). x.reading) b.1.1)) (ready_tried c.second c b.1.0 h)
tried_became planned (Writes i block) j later none may b h = subst IsTried (sym (ap (λ (c : Cell). c.reading) b.1)) h
tried_became planned (Copies i block) j later none may b h = subst IsTried (sym (ap (λ (c : Cell). c.reading) b.1)) h
tried_became planned (Confirms i) j later none may b h = subst IsTried (sym (ap (λ (c : Cell). c.reading) b.1)) h
tried_became planned (Settles i) j later none may b h = subst IsTried (sym (ap (λ (c : Cell). c.reading) b.1)) h
tried_became planned (Loses i) j later none may b h = subst IsTried (sym (ap (λ (c : Cell). c.reading) b.1)) h
tried_became planned (Drops i) j later none may b h = subst IsTried (sym (ap (λ (c : Cell). c.reading) b.1)) h
tried_became planned (Moves i) j later none may b h =
    let c = cell_at planned.hold.cells j in
    subst IsTried (sym (ap (λ (x : Cell). x.reading) b.1)) (moved_tried c.second c.reading (none j) (at_place planned (λ x. x.second ≢ Out) i j b.0 may.1) h)

tried_after : (planned : Planned) (event : Event) → NoSecondTarget planned → MayFollow planned event → (j : ℕ) → IsTried (cell_at planned.hold.cells j).reading → IsTried (cell_at (after_event planned.hold event).cells j).reading
tried_after planned event none may j h =
    elim (cell_after planned.hold event j) [
      | inl same ↦ subst IsTried (sym (ap (λ (c : Cell). c.reading) same)) h
      | inr became ↦ tried_became planned event j (cell_at (after_event planned.hold event).cells j) none may became h
    ]

lost_still : (planned : Planned) (event : Event) → NoSecondTarget planned → MayFollow planned event → (j : ℕ) → ((cell_at planned.hold.cells j).standing ≡ Out) ⊎ IsTried (cell_at planned.hold.cells j).reading →
    ((cell_at (after_event planned.hold event).cells j).standing ≡ Out) ⊎ IsTried (cell_at (after_event planned.hold event).cells j).reading
lost_still planned event none may j (inl out) = inl (out_after planned event may j out)
lost_still planned event none may j (inr h) = inr (tried_after planned event none may j h)

module _ (planned : Planned) (on : OnCourse planned) (index : ℕ) (is : planned.hold.kind ≡ Read index) where
  none_target : NoSecondTarget planned
  unfolding NoSecondTarget
  none_target i t = let k = on.second_targets i t in cc

  pub lost_after : (event : Event) → plan_after planned.plan planned.hold event ≡ Recover → MayFollow planned event →
      ((cell_at (after_event planned.hold event).cells index).standing ≡ Out) ⊎ IsTried (cell_at (after_event planned.hold event).cells index).reading
  lost_after (Asks i) e may = lost_still planned (Asks i) none_target may index (on.is_lost e index is)
  lost_after (Fixes i block) e may = lost_still planned (Fixes i block) none_target may index (on.is_lost e index is)
  lost_after (AsksAgain i) e may = lost_still planned (AsksAgain i) none_target may index (on.is_lost e index is)
  lost_after (Restores i block) e may = lost_still planned (Restores i block) none_target may index (on.is_lost e index is)
  lost_after (Computes new) e may = lost_still planned (Computes new) none_target may index (on.is_lost e index is)
  lost_after (Writes i block) e may = lost_still planned (Writes i block) none_target may index (on.is_lost e index is)
  lost_after (Copies i block) e may = lost_still planned (Copies i block) none_target may index (on.is_lost e index is)
  lost_after (Gives i block) e may = lost_still planned (Gives i block) none_target may index (on.is_lost e index is)
  lost_after (Confirms i) e may = lost_still planned (Confirms i) none_target may index (on.is_lost e index is)
  lost_after (Mends i) e may = lost_still planned (Mends i) none_target may index (on.is_lost e index is)
  lost_after (Settles i) e may = lost_still planned (Settles i) none_target may index (on.is_lost e index is)
  lost_after (Drops i) e may = lost_still planned (Drops i) none_target may index (on.is_lost e index is)
  lost_after (Moves i) e may = by_second (cell_at planned.hold.cells i).second refl e
    where
      by_second : (t : Standing) → (cell_at planned.hold.cells i).second ≡ t → after_move t planned.plan planned.hold i ≡ Recover →
          ((cell_at (after_event planned.hold (Moves i)).cells index).standing ≡ Out) ⊎ IsTried (cell_at (after_event planned.hold (Moves i)).cells index).reading
      by_second InSync t e = lost_still planned (Moves i) none_target may index (on.is_lost e index is)
      by_second Target t e = absurd (let k = on.second_targets i t in cc)
      by_second Out t e = lost_still planned (Moves i) none_target may index (on.is_lost e index is)
  lost_after (Fails i) e may = by_plan planned.plan refl (subst (Suits planned.plan) is on.suits)
    where
      by_plan : (plan : Plan) → planned.plan ≡ plan → Suits plan (Read index) → ((cell_at (after_event planned.hold (Fails i)).cells index).standing ≡ Out) ⊎ IsTried (cell_at (after_event planned.hold (Fails i)).cells index).reading
      by_plan One e suits =
          let its : is_its_block (Read index) i ≡ true = subst (λ (k : Kind). is_its_block k i ≡ true) is (on.own e i (λ u. let a = may.1 in cc)) in
          let same : i ≡ index = sym (eqb-true index i its) in
          inr (subst (λ (k : ℕ). IsTried (cell_at (set planned.hold.cells i (record (cell_at planned.hold.cells i) { reading = Unreadable })) k).reading) same
          (subst IsTried (sym (ap (λ (c : Cell). c.reading) (get_or-set_same planned.hold.cells i (record (cell_at planned.hold.cells i) { reading = Unreadable }) no_cell (within planned.hold.cells i may.0)))) tt))
      by_plan Recover e suits = lost_still planned (Fails i) none_target may index (on.is_lost e index is)
      by_plan Reconstruct e suits = absurd suits
      by_plan Modify e suits = absurd suits
      by_plan Overwrite e suits = absurd suits
      by_plan All e suits = absurd suits
  lost_after (Loses i) e may =
      elim (lost_first planned.plan planned.hold i index is on.suits e) [
        | inl was ↦ lost_still planned (Loses i) none_target may index (on.is_lost was index is)
        | inr same ↦ inl (subst (λ (k : ℕ). (cell_at (set planned.hold.cells i (record (cell_at planned.hold.cells i) { standing = Out; second = Out })) k).standing ≡ Out) same
            (ap (λ (c : Cell). c.standing) (get_or-set_same planned.hold.cells i (record (cell_at planned.hold.cells i) { standing = Out; second = Out }) no_cell (within planned.hold.cells i may))))
      ]

-- ---- what one block alone is read, and what met an error

replaced_unread : (r : Reading) → r ≡ Unread → replaced r ≡ Unread
replaced_unread r e = ap replaced e

ready_unread : (t : Standing) (c : Cell) (block : List ℕ) → c.reading ≡ Unread → (ready_for t c block).reading ≡ Unread
ready_unread InSync c block e = replaced_unread c.reading e
ready_unread Target c block e = replaced_unread c.reading e
ready_unread Out c block e = replaced_unread c.reading e

moved_unread : (t : Standing) (r : Reading) → r ≡ Unread → reading_after t r ≡ Unread
moved_unread InSync r e = ap read_again e
moved_unread Target r e = ap read_no_more e
moved_unread Out r e = ap read_no_more e

met_replaced : (r : Reading) → is_met (replaced r) ≡ is_met r
met_replaced Unread = refl
met_replaced Recalled = refl
met_replaced Asked = refl
met_replaced Unreadable = refl
met_replaced Fixing = refl
met_replaced Fixed = refl
met_replaced AskedAgain = refl
met_replaced (Known block) = refl
met_replaced Replaced = refl

ready_met : (t : Standing) (c : Cell) (block : List ℕ) → is_met (ready_for t c block).reading ≡ is_met c.reading
ready_met InSync c block = met_replaced c.reading
ready_met Target c block = met_replaced c.reading
ready_met Out c block = met_replaced c.reading

moved_met : (t : Standing) (r : Reading) → is_met (reading_after t r) ≡ true → is_met r ≡ true
moved_met InSync Unread e = absurd cc
moved_met InSync Recalled e = absurd cc
moved_met InSync Asked e = absurd cc
moved_met InSync Unreadable e = absurd cc
moved_met InSync Fixing e = refl
moved_met InSync Fixed e = refl
moved_met InSync AskedAgain e = refl
moved_met InSync (Known block) e = absurd cc
moved_met InSync Replaced e = absurd cc
moved_met Target Unread e = absurd cc
moved_met Target Recalled e = absurd cc
moved_met Target Asked e = absurd cc
moved_met Target Unreadable e = absurd cc
moved_met Target Fixing e = absurd cc
moved_met Target Fixed e = absurd cc
moved_met Target AskedAgain e = absurd cc
moved_met Target (Known block) e = absurd cc
moved_met Target Replaced e = absurd cc
moved_met Out Unread e = absurd cc
moved_met Out Recalled e = absurd cc
moved_met Out Asked e = absurd cc
moved_met Out Unreadable e = absurd cc
moved_met Out Fixing e = absurd cc
moved_met Out Fixed e = absurd cc
moved_met Out AskedAgain e = absurd cc
moved_met Out (Known block) e = absurd cc
moved_met Out Replaced e = absurd cc

own_became : (planned : Planned) (event : Event) (j : ℕ) (later : Cell) → planned.plan ≡ One → MayFollow planned event → ((cell_at planned.hold.cells j).reading ≢ Unread → is_its_block planned.hold.kind j ≡ true) →
    Became event j (cell_at planned.hold.cells j) later → later.reading ≢ Unread → is_its_block planned.hold.kind j ≡ true
own_became planned (Asks i) j later e may own b r =
    elim (read_parts planned.plan planned.hold i (comes planned (ReadAt i) may).2).1 [
      | inl recalled ↦ own (λ u. let f = at_place planned (λ c. c.reading ≡ Recalled) i j b.0 recalled in cc)
      | inr unread ↦ subst (λ (k : ℕ). is_its_block planned.hold.kind k ≡ true) (sym b.0) (subst (λ (p : Plan). wants p planned.hold i ≡ true) e unread.1)
    ]
own_became planned (Fixes i block) j later e may own b r =
    own (λ u. let f = at_place planned (λ c. c.reading ≡ Unreadable) i j b.0 (error_parts (cell_at planned.hold.cells i) (and_parts (can_fix planned.hold) (is_in_error (cell_at planned.hold.cells i)) (comes planned (FixAt i) may.0).3).1).1 in cc)
own_became planned (AsksAgain i) j later e may own b r =
    own (λ u. let f = at_place planned (λ c. c.reading ≡ Fixed) i j b.0 (again_parts planned.hold i (comes planned (ReadAgainAt i) may).3).1 in cc)
own_became planned (Restores i block) j later e may own b r =
    subst (λ (k : Kind). is_its_block k j ≡ true) (sym (comes planned (RestoreAt i) may.0).3) (itself i j b.0)
  where
    itself : (x y : ℕ) → y ≡ x → (x == y) ≡ true
    itself x y e = eq-eqb x y (sym e)
own_became planned (Computes new) j later e may own b r =
    let c = cell_at planned.hold.cells j in
    own (λ u. r (ap (λ (x : Cell). x.reading) b.1.1 ∙ ready_unread c.second c b.1.0 u))
own_became planned (Gives i block) j later e may own b r = own (λ u. subst IsAsked u (at_place planned (λ c. IsAsked c.reading) i j b.0 may.1))
own_became planned (Fails i) j later e may own b r = own (λ u. let a = at_place planned (λ c. c.reading ≡ Asked) i j b.0 may.1 in cc)
own_became planned (Mends i) j later e may own b r = own (λ u. let a = at_place planned (λ c. c.reading ≡ Fixing) i j b.0 may.1 in cc)
own_became planned (Moves i) j later e may own b r =
    let c = cell_at planned.hold.cells j in
    own (λ u. r (ap (λ (x : Cell). x.reading) b.1 ∙ moved_unread c.second c.reading u))
own_became planned (Writes i block) j later e may own b r = own (λ u. r (ap (λ (c : Cell). c.reading) b.1 ∙ u))
own_became planned (Copies i block) j later e may own b r = own (λ u. r (ap (λ (c : Cell). c.reading) b.1 ∙ u))
own_became planned (Confirms i) j later e may own b r = own (λ u. r (ap (λ (c : Cell). c.reading) b.1 ∙ u))
own_became planned (Settles i) j later e may own b r = own (λ u. r (ap (λ (c : Cell). c.reading) b.1 ∙ u))
own_became planned (Loses i) j later e may own b r = own (λ u. r (ap (λ (c : Cell). c.reading) b.1 ∙ u))
own_became planned (Drops i) j later e may own b r = own (λ u. r (ap (λ (c : Cell). c.reading) b.1 ∙ u))

pub own_after : (planned : Planned) (event : Event) → OnCourse planned → MayFollow planned event → plan_after planned.plan planned.hold event ≡ One →
    (j : ℕ) → (cell_at (after_event planned.hold event).cells j).reading ≢ Unread → is_its_block planned.hold.kind j ≡ true
own_after planned event on may e j r =
    let was = one_was planned.plan planned.hold event e in
    elim (cell_after planned.hold event j) [
      | inl same ↦ on.own was j (λ u. r (ap (λ (c : Cell). c.reading) same ∙ u))
      | inr became ↦ own_became planned event j (cell_at (after_event planned.hold event).cells j) was may (on.own was j) became r
    ]

-- where a read has met an error, it had before, or does now
met_became : (planned : Planned) (event : Event) (j : ℕ) (later : Cell) → MayFollow planned event → Became event j (cell_at planned.hold.cells j) later → is_met later.reading ≡ true →
    (is_met (cell_at planned.hold.cells j).reading ≡ true) ⊎ (event ≡ Fails j)
met_became planned (Asks i) j later may b m = absurd (let f = ap (λ (c : Cell). is_met c.reading) b.1 in cc)
met_became planned (Fixes i block) j later may b m =
    inl (ap is_met (at_place planned (λ c. c.reading ≡ Unreadable) i j b.0 (error_parts (cell_at planned.hold.cells i) (and_parts (can_fix planned.hold) (is_in_error (cell_at planned.hold.cells i)) (comes planned (FixAt i) may.0).3).1).1))
met_became planned (AsksAgain i) j later may b m = inl (ap is_met (at_place planned (λ c. c.reading ≡ Fixed) i j b.0 (again_parts planned.hold i (comes planned (ReadAgainAt i) may).3).1))
met_became planned (Restores i block) j later may b m = absurd (let f = ap (λ (c : Cell). is_met c.reading) b.1 in cc)
met_became planned (Computes new) j later may b m = inl (sym (ap (λ (c : Cell). is_met c.reading) b.1.1 ∙ ready_met (cell_at planned.hold.cells j).second (cell_at planned.hold.cells j) b.1.0) ∙ m)
met_became planned (Writes i block) j later may b m = inl (sym (ap (λ (c : Cell). is_met c.reading) b.1) ∙ m)
met_became planned (Copies i block) j later may b m = inl (sym (ap (λ (c : Cell). is_met c.reading) b.1) ∙ m)
met_became planned (Settles i) j later may b m = inl (sym (ap (λ (c : Cell). is_met c.reading) b.1) ∙ m)
met_became planned (Drops i) j later may b m = inl (sym (ap (λ (c : Cell). is_met c.reading) b.1) ∙ m)
met_became planned (Gives i block) j later may b m = absurd (let f = ap (λ (c : Cell). is_met c.reading) b.1 in cc)
met_became planned (Fails i) j later may b m = inr (ap Fails (sym b.0))
met_became planned (Confirms i) j later may b m = inl (sym (ap (λ (c : Cell). is_met c.reading) b.1) ∙ m)
met_became planned (Mends i) j later may b m = inl (ap is_met (at_place planned (λ c. c.reading ≡ Fixing) i j b.0 may.1))
met_became planned (Loses i) j later may b m = inl (sym (ap (λ (c : Cell). is_met c.reading) b.1) ∙ m)
met_became planned (Moves i) j later may b m = inl (moved_met (cell_at planned.hold.cells j).second (cell_at planned.hold.cells j).reading (sym (ap (λ (c : Cell). is_met c.reading) b.1) ∙ m))

pub met_before : (planned : Planned) (event : Event) → MayFollow planned event → (j : ℕ) → is_met (cell_at (after_event planned.hold event).cells j).reading ≡ true →
    (is_met (cell_at planned.hold.cells j).reading ≡ true) ⊎ (event ≡ Fails j)
met_before planned event may j m =
    elim (cell_after planned.hold event j) [
      | inl same ↦ inl (sym (ap (λ (c : Cell). is_met c.reading) same) ∙ m)
      | inr became ↦ met_became planned event j (cell_at (after_event planned.hold event).cells j) may became m
    ]

pub mending_after : (planned : Planned) (event : Event) → OnCourse planned → MayFollow planned event → (j : ℕ) → is_met (cell_at (after_event planned.hold event).cells j).reading ≡ true →
    IsMendingPlan (plan_after planned.plan planned.hold event)
mending_after planned event on may j m =
    elim (met_before planned event may j m) [
      | inl before ↦ mending_stays planned.plan planned.hold event (on.mending j before)
      | inr now ↦ subst (λ (e : Event). IsMendingPlan (plan_after planned.plan planned.hold e)) (sym now) (error planned.plan)
    ]
  where
    error : (plan : Plan) → IsMendingPlan (after_error plan)
    error One = tt
    error Reconstruct = tt
    error Modify = tt
    error Overwrite = tt
    error Recover = tt
    error All = tt

-- ---- once new blocks were computed

over_replaced : (r : Reading) → IsReadOver r → IsReadOver (replaced r)
over_replaced Unread h = h
over_replaced Recalled h = h
over_replaced Asked h = h
over_replaced Unreadable h = h
over_replaced Fixing h = h
over_replaced Fixed h = h
over_replaced AskedAgain h = h
over_replaced (Known block) h = h
over_replaced Replaced h = h

ready_over : (t : Standing) (c : Cell) (block : List ℕ) → IsReadOver c.reading → IsReadOver (ready_for t c block).reading
ready_over InSync c block h = over_replaced c.reading h
ready_over Target c block h = over_replaced c.reading h
ready_over Out c block h = over_replaced c.reading h

moved_over : (t : Standing) (r : Reading) → IsReadOver r → IsReadOver (reading_after t r)
moved_over InSync Unread h = tt
moved_over InSync Recalled h = tt
moved_over InSync Asked h = absurd h
moved_over InSync Unreadable h = absurd h
moved_over InSync Fixing h = absurd h
moved_over InSync Fixed h = absurd h
moved_over InSync AskedAgain h = absurd h
moved_over InSync (Known block) h = tt
moved_over InSync Replaced h = tt
moved_over Target Unread h = tt
moved_over Target Recalled h = tt
moved_over Target Asked h = absurd h
moved_over Target Unreadable h = absurd h
moved_over Target Fixing h = absurd h
moved_over Target Fixed h = absurd h
moved_over Target AskedAgain h = absurd h
moved_over Target (Known block) h = tt
moved_over Target Replaced h = tt
moved_over Out Unread h = tt
moved_over Out Recalled h = tt
moved_over Out Asked h = absurd h
moved_over Out Unreadable h = absurd h
moved_over Out Fixing h = absurd h
moved_over Out Fixed h = absurd h
moved_over Out AskedAgain h = absurd h
moved_over Out (Known block) h = tt
moved_over Out Replaced h = tt

-- a read that is over stays so, once new blocks were computed
over_became : (planned : Planned) (event : Event) (i : ℕ) (later : Cell) → (k : ℕ) → IsComputed (cell_at planned.hold.cells k) → MayFollow planned event → IsReadOver (cell_at planned.hold.cells i).reading →
    Became event i (cell_at planned.hold.cells i) later → IsReadOver later.reading
over_became planned (Asks x) i later k w may h b = absurd (not_computed (cell_at planned.hold.cells k) (unwritten_all planned.hold (comes planned (ReadAt x) may).1 k) w)
over_became planned (Fixes x block) i later k w may h b = absurd (not_computed (cell_at planned.hold.cells k) (unwritten_all planned.hold (comes planned (FixAt x) may.0).2 k) w)
over_became planned (AsksAgain x) i later k w may h b = absurd (not_computed (cell_at planned.hold.cells k) (unwritten_all planned.hold (comes planned (ReadAgainAt x) may).1 k) w)
over_became planned (Restores x block) i later k w may h b = subst IsReadOver (sym (ap (λ (c : Cell). c.reading) b.1)) tt
over_became planned (Computes new) i later k w may h b =
    let c = cell_at planned.hold.cells i in
    subst IsReadOver (sym (ap (λ (x : Cell). x.reading) b.1.1)) (ready_over c.second c b.1.0 h)
over_became planned (Gives x block) i later k w may h b = subst IsReadOver (sym (ap (λ (c : Cell). c.reading) b.1)) tt
over_became planned (Fails x) i later k w may h b = absurd (subst IsReadOver (at_place planned (λ c. c.reading ≡ Asked) x i b.0 may.1) h)
over_became planned (Mends x) i later k w may h b = absurd (subst IsReadOver (at_place planned (λ c. c.reading ≡ Fixing) x i b.0 may.1) h)
over_became planned (Moves x) i later k w may h b =
    let c = cell_at planned.hold.cells i in
    subst IsReadOver (sym (ap (λ (y : Cell). y.reading) b.1)) (moved_over c.second c.reading h)
over_became planned (Writes x block) i later k w may h b = subst IsReadOver (sym (ap (λ (c : Cell). c.reading) b.1)) h
over_became planned (Copies x block) i later k w may h b = subst IsReadOver (sym (ap (λ (c : Cell). c.reading) b.1)) h
over_became planned (Confirms x) i later k w may h b = subst IsReadOver (sym (ap (λ (c : Cell). c.reading) b.1)) h
over_became planned (Settles x) i later k w may h b = subst IsReadOver (sym (ap (λ (c : Cell). c.reading) b.1)) h
over_became planned (Loses x) i later k w may h b = subst IsReadOver (sym (ap (λ (c : Cell). c.reading) b.1)) h
over_became planned (Drops x) i later k w may h b = subst IsReadOver (sym (ap (λ (c : Cell). c.reading) b.1)) h

pub not_out_before : (planned : Planned) (event : Event) → MayFollow planned event → (i : ℕ) → (cell_at (after_event planned.hold event).cells i).standing ≢ Out → (cell_at planned.hold.cells i).standing ≢ Out
not_out_before planned event may i h out = h (out_after planned event may i out)

pub rests_after : (planned : Planned) (event : Event) → OnCourse planned → MayFollow planned event → (j : ℕ) → IsComputed (cell_at (after_event planned.hold event).cells j) →
    (i : ℕ) → (cell_at (after_event planned.hold event).cells i).standing ≢ Out → IsReadOver (cell_at (after_event planned.hold event).cells i).reading
rests_after planned event on may j w i stands =
    elim (computed_before planned event may j w) [
      | inl was ↦ elim (cell_after planned.hold event i) [
        | inl same ↦ subst IsReadOver (sym (ap (λ (c : Cell). c.reading) same)) (on.rests j was i (not_out_before planned event may i stands))
        | inr became ↦ over_became planned event i (cell_at (after_event planned.hold event).cells i) j was may (on.rests j was i (not_out_before planned event may i stands)) became
      ]
      | inr now ↦ computed now.0 now.1
    ]
  where
    computed : (new : List (ℕ × List ℕ)) → event ≡ Computes new → IsReadOver (cell_at (after_event planned.hold event).cells i).reading
    computed new e =
        let follows : MayFollow planned (Computes new) = subst (MayFollow planned) e may in
        let c = comes planned ComputeNew follows.0 in
        let before = read_over_all planned.hold c.1 (enough_parts planned.plan planned.hold c.2).1 i (not_out_before planned event may i stands) in
        subst (λ (ev : Event). IsReadOver (cell_at (after_event planned.hold ev).cells i).reading) (sym e)
        (elim (cell_after planned.hold (Computes new) i) [
          | inl same ↦ subst IsReadOver (sym (ap (λ (c : Cell). c.reading) same)) before
          | inr became ↦ subst IsReadOver (sym (ap (λ (c : Cell). c.reading) became.1.1)) (ready_over (cell_at planned.hold.cells i).second (cell_at planned.hold.cells i) became.1.0 before)
        ])
