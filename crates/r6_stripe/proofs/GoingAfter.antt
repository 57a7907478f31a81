-- What a plan wants and doesn't know is in sync after each event too, a loss and a move among them.
use Rattle.std.proofs.Common.{◌≡◌, ◌≢◌, ◌⊎◌, inl, inr, ℕ, ◌<◌, Bool, true, false, List, [], ◌∷◌, length, refl, sym, ◌∙◌, ap, subst, arith}
use Rattle.std.specs.Prelude.{◌&&◌, ◌||◌, not, if◌then◌else◌}
use Rattle.std.proofs.lemmas.Bool.{and_parts, or_parts, or_cases, or_right, leb-true, eqb-true}
use Rattle.r6_stripe.specs.Holds.{Standing, Cell, Kind, Hold, Event, cell_at, is_known, all_known, wants_all, IsReadOver, after_event}
use Rattle.r6_stripe.specs.Holds.Standing.{InSync, Target, Out}
use Rattle.r6_stripe.specs.Holds.Kind.{Idle, Read, Write, Rebuild, Check, Repair}
use Rattle.r6_stripe.specs.Holds.Event.{Asks, Fixes, AsksAgain, Restores, Computes, Writes, Copies, Gives, Fails, Confirms, Mends, Settles, Loses, Moves, Drops}
use Rattle.r6_stripe.specs.Plans.{Plan, Planned, is_out, after_move, after_error, is_parity, is_served, is_served_or_dropped, puts_data, is_its_block, wants, data_count, each_below, is_enough, after_loss, planned_after, planned_at, MayFollow, IsPlanned}
use Rattle.r6_stripe.specs.Plans.Plan.{One, Reconstruct, Modify, Overwrite, Recover, All}
use Rattle.r6_stripe.proofs.Blocks.{all_known_at}
use Rattle.r6_stripe.proofs.Bound.{within}
use Rattle.r6_stripe.proofs.CellsAfter.{standing_after, width_after, kind_after}
use Rattle.r6_stripe.proofs.KindPlans.{Suits, IsComputed}
use Rattle.r6_stripe.proofs.OnCourse.{OnCourse, computed_before}
use Rattle.r6_stripe.proofs.Course.{on_course_after}
use Rattle.r6_stripe.proofs.Over.{each_below_at}
use Rattle.r6_stripe.proofs.Going.{same_wants, Strict, Going, known_after, out_still, enough_after, enough_before_it}

-- ---- an event that loses nothing

IsNoLoss : Event → Type 0
IsNoLoss event = ((i : ℕ) → event ≢ Loses i) × ((i : ℕ) → event ≢ Moves i)

cut_after : (hold : Hold) (event : Event) → IsNoLoss event → (after_event hold event).cut_short ≡ hold.cut_short
unfolding IsNoLoss
cut_after hold (Asks i) no_loss = refl
cut_after hold (Fixes i block) no_loss = refl
cut_after hold (AsksAgain i) no_loss = refl
cut_after hold (Restores i block) no_loss = refl
cut_after hold (Fails i) no_loss = refl
cut_after hold (Mends i) no_loss = refl
cut_after hold (Computes new) no_loss = refl
cut_after hold (Writes i put) no_loss = refl
cut_after hold (Gives i block) no_loss = refl
cut_after hold (Confirms i) no_loss = refl
cut_after hold (Copies i put) no_loss = refl
cut_after hold (Settles i) no_loss = refl
cut_after hold (Moves i) no_loss = refl
cut_after hold (Drops i) no_loss = refl
cut_after hold (Loses i) no_loss = absurd (no_loss.0 i refl)

going_same : (planned : Planned) (event : Event) → MayFollow planned event → IsNoLoss event → Going planned → Going (record { hold = after_event planned.hold event; plan = planned.plan })
unfolding IsNoLoss
going_same planned event may no_loss going = record {
  wanted = λ j strict. elim (going.wanted j (strict_was planned.plan j strict)) [
    | inl s ↦ inl (standing j ∙ s)
    | inr k ↦ inr (known_after planned event may j k)
  ];
  enough = λ j w. enough_after planned event may (enough_before_it planned event may going j w);
}
  where
    later : Hold
    later = after_event planned.hold event

    standing : (j : ℕ) → (cell_at (after_event planned.hold event).cells j).standing ≡ (cell_at planned.hold.cells j).standing
    standing j = elim (standing_after planned.hold event j) [ inl same ↦ same | inr (inl lost) ↦ absurd (no_loss.0 j lost.0) | inr (inr gone) ↦ absurd (no_loss.1 j gone.0) ]

    wants_was : (plan : Plan) (j : ℕ) → wants plan planned.hold j ≡ wants plan (after_event planned.hold event) j
    wants_was plan j = same_wants planned.hold (after_event planned.hold event) (sym (kind_after planned.hold event)) (width_after planned.hold event) (known_after planned event may) (out_still planned event may) plan j

    strict_was : (plan : Plan) (j : ℕ) → Strict plan (after_event planned.hold event) j → Strict plan planned.hold j
    strict_was One j h = wants_was One j ∙ h
    strict_was Reconstruct j h = wants_was Reconstruct j ∙ h
    strict_was Modify j h = subst (λ (kind : Kind). puts_data kind j ≡ true) (kind_after planned.hold event) h
    strict_was Overwrite j h = h
    strict_was Recover j h = h
    strict_was All j h = (sym (cut_after planned.hold event no_loss) ∙ h.0, subst (λ (n : ℕ). j < n) (width_after planned.hold event) h.1)

-- ---- a loss

module _ (planned : Planned) (i : ℕ) (may : MayFollow planned (Loses i)) (on : OnCourse planned) (going : Going planned) where
  abbrev hold : Hold
  hold = planned.hold

  abbrev lost : Hold
  lost = after_event planned.hold (Loses i)

  below : i < length hold.cells
  below = within hold.cells i may

  -- what was wanted is in sync or known, if the lost position is known or not wanted
  wanted_still : (j : ℕ) → ((cell_at hold.cells j).standing ≡ InSync) ⊎ (is_known (cell_at hold.cells j).reading ≡ true) → (j ≡ i → is_known (cell_at hold.cells i).reading ≡ true) →
      ((cell_at lost.cells j).standing ≡ InSync) ⊎ (is_known (cell_at lost.cells j).reading ≡ true)
  wanted_still j (inr k) h = inr (known_after planned (Loses i) may j k)
  wanted_still j (inl s) h = elim (standing_after hold (Loses i) j) [
    | inl same ↦ inl (same ∙ s)
    | inr (inl gone) ↦ inr (known_after planned (Loses i) may j (same_place (number i j gone.0)))
    | inr (inr gone) ↦ absurd (let e = gone.0 in cc)
  ]
    where
      number : (x y : ℕ) → Loses x ≡ Loses y → x ≡ y
      number x y e = cc

      same_place : i ≡ j → is_known (cell_at hold.cells j).reading ≡ true
      same_place e = subst (λ (k : ℕ). is_known (cell_at hold.cells k).reading ≡ true) e (h (sym e))

  served_known : (p : Plan) (j : ℕ) → is_served p hold i ≡ true → wants p hold j ≡ true → j ≡ i → is_known (cell_at hold.cells i).reading ≡ true
  served_known p j served want same =
      elim (or_cases (not (wants p hold i)) (is_known (cell_at hold.cells i).reading) served) [
        | inl n ↦ absurd (let f : not true ≡ true = subst (λ (w : Bool). not w ≡ true) (subst (λ (k : ℕ). wants p hold k ≡ true) same want) n in cc)
        | inr k ↦ k
      ]

  stays : (p : Plan) → planned.plan ≡ p → ((j : ℕ) → Strict p lost j → ((cell_at lost.cells j).standing ≡ InSync) ⊎ (is_known (cell_at lost.cells j).reading ≡ true)) → Going (record { hold = lost; plan = p })
  stays p e wanted = record {
    wanted = wanted;
    enough = λ j w. subst (λ (q : Plan). is_enough q lost ≡ true) e (enough_after planned (Loses i) may (enough_before_it planned (Loses i) may going j w));
  }

  recovers : (is_enough planned.plan hold ≡ true → ⊥) → Going (record { hold = lost; plan = Recover })
  recovers lacks_it = record {
    wanted = λ j h. absurd h;
    enough = λ j w. absurd (lacks_it (enough_before_it planned (Loses i) may going j w));
  }

  not_served : (p : Plan) → is_served p hold i ≡ false → each_below (is_served p hold) (length hold.cells) ≡ true → ⊥
  not_served p unserved h = let y = each_below_at (is_served p hold) (length hold.cells) i h below in cc

  wants_was : (p : Plan) (j : ℕ) → wants p lost j ≡ true → wants p hold j ≡ true
  wants_was p j w = same_wants hold lost refl (width_after hold (Loses i)) (known_after planned (Loses i) may) (out_still planned (Loses i) may) p j ∙ w

  going_lost : (p : Plan) → planned.plan ≡ p → Suits p hold.kind → ((j : ℕ) → Strict p hold j → ((cell_at hold.cells j).standing ≡ InSync) ⊎ (is_known (cell_at hold.cells j).reading ≡ true)) → Going (record { hold = lost; plan = after_loss p hold i })
  going_lost One e suits was = by_test (is_served One hold i) refl
    where
      by_test : (b : Bool) → is_served One hold i ≡ b → Going (record { hold = lost; plan = if b then One else Recover })
      by_test true s = stays One e (λ j w. wanted_still j (was j (wants_was One j w)) (served_known One j s (wants_was One j w)))
      by_test false s = recovers (λ h. not_served One s (subst (λ (q : Plan). is_enough q hold ≡ true) e h))
  going_lost Reconstruct e suits was = by_test (is_served Reconstruct hold i) refl
    where
      by_test : (b : Bool) → is_served Reconstruct hold i ≡ b → Going (record { hold = lost; plan = if b then Reconstruct else Recover })
      by_test true s = stays Reconstruct e (λ j w. wanted_still j (was j (wants_was Reconstruct j w)) (served_known Reconstruct j s (wants_was Reconstruct j w)))
      by_test false s = recovers (λ h. not_served Reconstruct s (subst (λ (q : Plan). is_enough q hold ≡ true) e h))
  going_lost Modify e suits was = by_test (is_served Modify hold i || is_parity hold i) refl
    where
      named_data : (kind : Kind) → hold.kind ≡ kind → Suits Modify kind → puts_data kind i ≡ true → is_parity hold i ≡ true → ⊥
      named_data (Write batch) is suits named parity = let b = on.in_range batch is i named in let a = leb-true (data_count hold) i parity in omega arith
      named_data Idle is suits named parity = absurd suits
      named_data (Read index) is suits named parity = absurd suits
      named_data (Rebuild target) is suits named parity = absurd suits
      named_data Check is suits named parity = absurd suits
      named_data Repair is suits named parity = absurd suits

      by_test : (b : Bool) → (is_served Modify hold i || is_parity hold i) ≡ b → Going (record { hold = lost; plan = if b then Modify else Recover })
      by_test true s = stays Modify e (λ j w. wanted_still j (was j w) (λ same. elim (or_cases (is_served Modify hold i) (is_parity hold i) s) [
        | inl r ↦ served_known Modify j r (or_right (is_parity hold j) (puts_data hold.kind j) w) same
        | inr p ↦ absurd (named_data hold.kind refl suits (subst (λ (k : ℕ). puts_data hold.kind k ≡ true) same w) p)
      ]))
      by_test false s = recovers (λ h.
          let neither = or_parts (is_served Modify hold i) (is_parity hold i) s in
          elim (or_cases (is_served Modify hold i) (is_parity hold i && is_out (cell_at hold.cells i).standing) (each_below_at (is_served_or_dropped hold) (length hold.cells) i (subst (λ (q : Plan). is_enough q hold ≡ true) e h) below)) [
            | inl r ↦ (let n = neither.0 in cc)
            | inr p ↦ (let n = neither.1 in let y = (and_parts (is_parity hold i) (is_out (cell_at hold.cells i).standing) p).0 in cc)
          ])
  going_lost Overwrite e suits was = stays Overwrite e (λ j h. absurd h)
  going_lost Recover e suits was = stays Recover e (λ j h. absurd h)
  going_lost All e suits was = stays All e (λ j strict. inr (known_after planned (Loses i) may j (all_known_at hold.cells j (knows strict.0) (subst (λ (n : ℕ). j < n) (width_after hold (Loses i)) strict.1))))
    where
      reads_all : (kind : Kind) → Suits All kind → wants_all kind ≡ true
      reads_all Check suits = refl
      reads_all Repair suits = refl
      reads_all _ suits = absurd suits

      knows_if : (w k : Bool) → w ≡ true → (w && not k) ≡ false → k ≡ true
      knows_if w true e h = refl
      knows_if true false e h = absurd cc
      knows_if false false e h = absurd cc

      knows : (hold.cut_short || (wants_all hold.kind && not (all_known hold.cells))) ≡ false → all_known hold.cells ≡ true
      knows e = knows_if (wants_all hold.kind) (all_known hold.cells) (reads_all hold.kind suits) (or_parts hold.cut_short (wants_all hold.kind && not (all_known hold.cells)) e).1

-- ---- the second device has the first one's place

module _ (planned : Planned) (i : ℕ) (may : MayFollow planned (Moves i)) (on : OnCourse planned) (going : Going planned) where
  abbrev moving : Hold
  moving = planned.hold

  abbrev later_hold : Hold
  later_hold = after_event planned.hold (Moves i)

  move_wants : (p : Plan) (j : ℕ) → wants p later_hold j ≡ true → wants p moving j ≡ true
  move_wants p j w = same_wants moving later_hold refl (width_after moving (Moves i)) (known_after planned (Moves i) may) (out_still planned (Moves i) may) p j ∙ w

  move_stays : (p : Plan) → planned.plan ≡ p → ((j : ℕ) → Strict p later_hold j → ((cell_at later_hold.cells j).standing ≡ InSync) ⊎ (is_known (cell_at later_hold.cells j).reading ≡ true)) →
      Going (record { hold = later_hold; plan = p })
  move_stays p e wanted = record {
    wanted = wanted;
    enough = λ j w. subst (λ (q : Plan). is_enough q later_hold ≡ true) e (enough_after planned (Moves i) may (enough_before_it planned (Moves i) may going j w));
  }

  -- the position is in sync on
  move_in_sync : (cell_at moving.cells i).second ≡ InSync → Going (record { hold = later_hold; plan = planned.plan })
  move_in_sync second = move_stays planned.plan refl (λ j strict. still j (going.wanted j (strict_was planned.plan j strict)))
    where
      still : (j : ℕ) → ((cell_at moving.cells j).standing ≡ InSync) ⊎ (is_known (cell_at moving.cells j).reading ≡ true) →
          ((cell_at later_hold.cells j).standing ≡ InSync) ⊎ (is_known (cell_at later_hold.cells j).reading ≡ true)
      still j (inr k) = inr (known_after planned (Moves i) may j k)
      still j (inl s) = elim (standing_after moving (Moves i) j) [
        | inl same ↦ inl (same ∙ s)
        | inr (inl lost) ↦ absurd (let e = lost.0 in cc)
        | inr (inr gone) ↦ inl (ap (λ (c : Cell). c.standing) gone.1 ∙ subst (λ (k : ℕ). (cell_at moving.cells k).second ≡ InSync) (number i j gone.0) second)
      ]
        where
          number : (x y : ℕ) → Moves x ≡ Moves y → x ≡ y
          number x y e = cc

      strict_was : (p : Plan) (j : ℕ) → Strict p later_hold j → Strict p moving j
      strict_was One j h = move_wants One j h
      strict_was Reconstruct j h = move_wants Reconstruct j h
      strict_was Modify j h = h
      strict_was Overwrite j h = h
      strict_was Recover j h = h
      strict_was All j h = (h.0, subst (λ (n : ℕ). j < n) (width_after moving (Moves i)) h.1)

  -- the position is the target alone
  move_target : (p : Plan) → planned.plan ≡ p → Suits p moving.kind → moving.kind ≡ Rebuild i → Going (record { hold = later_hold; plan = after_loss p moving i })
  move_target One e suits is = by_test (is_served One moving i) refl
    where
      inside : i < length moving.cells
      inside = within moving.cells i may.0

      by_test : (b : Bool) → is_served One moving i ≡ b → Going (record { hold = later_hold; plan = if b then One else Recover })
      by_test true s = move_stays One e (λ j w.
          let want = move_wants One j w in
          let place : i ≡ j = eqb-true i j (subst (λ (k : Kind). is_its_block k j ≡ true) is want) in
          let here : is_served One moving j ≡ true = subst (λ (k : ℕ). is_served One moving k ≡ true) place s in
          inr (known_after planned (Moves i) may j (elim (or_cases (not (wants One moving j)) (is_known (cell_at moving.cells j).reading) here) [
            | inl n ↦ absurd (let f : not true ≡ true = subst (λ (b : Bool). not b ≡ true) want n in cc)
            | inr k ↦ k
          ])))
      by_test false s = record {
        wanted = λ j h. absurd h;
        enough = λ j w. absurd (
            let enough : is_enough One moving ≡ true = subst (λ (q : Plan). is_enough q moving ≡ true) e (enough_before_it planned (Moves i) may going j w) in
            let y = each_below_at (is_served One moving) (length moving.cells) i enough inside in cc);
      }
  move_target Recover e suits is = move_stays Recover e (λ j h. absurd h)
  move_target Reconstruct e suits is = absurd (subst (Suits Reconstruct) is suits)
  move_target Modify e suits is = absurd (subst (Suits Modify) is suits)
  move_target Overwrite e suits is = absurd (subst (Suits Overwrite) is suits)
  move_target All e suits is = absurd (subst (Suits All) is suits)

  pub going_moved : (t : Standing) → (cell_at moving.cells i).second ≡ t → Going (record { hold = later_hold; plan = after_move t planned.plan moving i })
  going_moved InSync second = move_in_sync second
  going_moved Target second = move_target planned.plan refl on.suits (on.second_targets i second)
  going_moved Out second = absurd (may.1 second)

going_after : (planned : Planned) (event : Event) → OnCourse planned → MayFollow planned event → Going planned → Going (planned_after planned event)
unfolding IsNoLoss
going_after planned (Asks i) on may going = going_same planned (Asks i) may ((λ j e. cc), (λ j e. cc)) going
going_after planned (Fixes i block) on may going = going_same planned (Fixes i block) may ((λ j e. cc), (λ j e. cc)) going
going_after planned (AsksAgain i) on may going = going_same planned (AsksAgain i) may ((λ j e. cc), (λ j e. cc)) going
going_after planned (Fails i) on may going = by_plan planned.plan refl
  where
    recovering : Going (record { hold = after_event planned.hold (Fails i); plan = Recover })
    recovering = record {
      wanted = λ j h. absurd h;
      enough = λ j w. absurd (by_event j (computed_before planned (Fails i) may j w));
    }
      where
        by_event : (j : ℕ) → IsComputed (cell_at planned.hold.cells j) ⊎ ((new : List (ℕ × List ℕ)) × (Fails i ≡ Computes new) × Rattle.r6_stripe.specs.Holds.IsIndexOf j new) → ⊥
        by_event j (inl was) = let rest = on.rests j was i may.0 in subst IsReadOver may.1 rest
        by_event j (inr now) = let e = now.1 in cc

    by_plan : (p : Plan) → planned.plan ≡ p → Going (record { hold = after_event planned.hold (Fails i); plan = after_error p })
    by_plan One e = recovering
    by_plan Reconstruct e = recovering
    by_plan Modify e = recovering
    by_plan Overwrite e = recovering
    by_plan Recover e = recovering
    by_plan All e = subst (λ (p : Plan). Going (record { hold = after_event planned.hold (Fails i); plan = p })) e (going_same planned (Fails i) may ((λ j e. cc), (λ j e. cc)) going)
going_after planned (Mends i) on may going = going_same planned (Mends i) may ((λ j e. cc), (λ j e. cc)) going
going_after planned (Restores i block) on may going = going_same planned (Restores i block) may ((λ j e. cc), (λ j e. cc)) going
going_after planned (Computes new) on may going = going_same planned (Computes new) may ((λ j e. cc), (λ j e. cc)) going
going_after planned (Writes i put) on may going = going_same planned (Writes i put) may ((λ j e. cc), (λ j e. cc)) going
going_after planned (Gives i block) on may going = going_same planned (Gives i block) may ((λ j e. cc), (λ j e. cc)) going
going_after planned (Confirms i) on may going = going_same planned (Confirms i) may ((λ j e. cc), (λ j e. cc)) going
going_after planned (Loses i) on may going = going_lost planned i may on going planned.plan refl on.suits going.wanted
going_after planned (Copies i put) on may going = going_same planned (Copies i put) may ((λ j e. cc), (λ j e. cc)) going
going_after planned (Settles i) on may going = going_same planned (Settles i) may ((λ j e. cc), (λ j e. cc)) going
going_after planned (Drops i) on may going = going_same planned (Drops i) may ((λ j e. cc), (λ j e. cc)) going
going_after planned (Moves i) on may going = going_moved planned i may on going (cell_at planned.hold.cells i).second refl

pub going_at : (planned : Planned) (events : List Event) → OnCourse planned → IsPlanned planned events → Going planned → OnCourse (planned_at planned events) × Going (planned_at planned events)
going_at planned [] on all going = (on, going)
going_at planned (event ∷ events) on all going =
    going_at (planned_after planned event) events (on_course_after planned event all.0 on) all.1 (going_after planned event on all.0 going)
