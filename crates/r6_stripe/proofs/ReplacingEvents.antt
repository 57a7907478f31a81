-- What an event makes of a hold with the target of a rebuild beside one position, by what it makes of the hold without
-- it; and that the hold that reads stays one.
use Rattle.std.proofs.Common.{◌≡◌, ◌≢◌, ◌⊎◌, inl, inr, Bool, true, false, ℕ, ◌<◌, List, length, get_or, set, refl, sym, ◌∙◌, ap, subst, arith}
use Rattle.std.proofs.lemmas.Bool.{cases_eq}
use Rattle.std.proofs.lemmas.List.{get_or-set_other, get_or-set_same, length-set, set_comm}
use Rattle.r6_stripe.specs.Holds.{Reading, Cell, cell_at, no_cell, is_known, IsReadOver}
use Rattle.r6_stripe.specs.Holds.Standing.{InSync, Out}
use Rattle.r6_stripe.specs.Holds.Reading.{Unread, Recalled, Asked, Unreadable, Fixing, Fixed, AskedAgain, Known, Replaced}
use Rattle.r6_stripe.specs.Holds.Event.{Asks, Fixes, AsksAgain, Gives, Fails, Mends}
use Rattle.r6_stripe.specs.Plans as plans
use Rattle.r6_stripe.specs.Plans.{Plan, Planned, is_recalled, planned_after}
use Rattle.r6_stripe.specs.Plans.Plan.{One, Recover}
use Rattle.r6_stripe.specs.Replacements.{AreSources, IsReplacing, IsSource, away_beside, apart_beside, given, held_beside, planned_beside, replacing}
use Rattle.r6_stripe.specs.Steps.{Held, is_away}
use Rattle.r6_stripe.specs.declared.replacement.Stage.{Stage}
use Rattle.r6_stripe.specs.declared.replacement.Stage.TheVariants as stage
use Rattle.r6_stripe.specs.declared.replacement.Written.TheVariants as written
use Rattle.r6_stripe.specs.declared.replacement.Replacement.{Replacement}
use Rattle.r6_stripe.proofs.Counts.{count_same_at}
use Rattle.r6_stripe.proofs.Replacing.{put_at, read_put}

-- ---- buffers

pub away_put : (s : Stage) (p i : ℕ) (away : List Bool) (apart b : Bool) → (s ≡ stage.Moved → i ≢ p) → away_beside s p (set away i b) apart ≡ set (away_beside s p away apart) i b
away_put stage.Beside p i away apart b other = refl
away_put stage.Moved p i away apart b other = set_comm away i p b apart (other refl)
away_put stage.Dropped p i away apart b other = refl

pub apart_put : (s : Stage) (p i : ℕ) (away : List Bool) (apart b : Bool) → (s ≡ stage.Moved → i ≢ p) → apart_beside s p (set away i b) apart ≡ apart_beside s p away apart
apart_put stage.Beside p i away apart b other = refl
apart_put stage.Moved p i away apart b other = get_or-set_other away i p b false (λ e. other refl (sym e))
apart_put stage.Dropped p i away apart b other = refl

pub away_other : (s : Stage) (p i : ℕ) (away : List Bool) (apart : Bool) → (s ≡ stage.Moved → i ≢ p) → get_or (away_beside s p away apart) i false ≡ get_or away i false
away_other stage.Beside p i away apart other = refl
away_other stage.Moved p i away apart other = get_or-set_other away p i apart false (other refl)
away_other stage.Dropped p i away apart other = refl

pub moved_apart : (held : Held) (r : Replacement) → IsReplacing held r → r.stage ≡ stage.Moved → is_away (held_beside r held) r.position ≡ true → held.second_away ≡ true
moved_apart held r is at gone =
    sym (get_or-set_same held.away r.position held.second_away false (omega (arith, is.within, is.wide))) ∙ sym (ap (λ (s : Stage). get_or (away_beside s r.position held.away held.second_away) r.position false) at) ∙ gone

-- ---- events

module _ (r : Replacement) (planned : Planned) (below : r.position < length planned.hold.cells) where
  abbrev cells : List Cell
  cells = planned.hold.cells

  put : (f : Cell → Cell) (i : ℕ) → (i ≡ r.position → replacing r.stage r.written (f (cell_at cells r.position)) ≡ f (replacing r.stage r.written (cell_at cells r.position))) →
      planned_beside r (record planned { hold = record planned.hold { cells = set cells i (f (cell_at cells i)) } })
      ≡ record (planned_beside r planned) { hold = record (planned_beside r planned).hold { cells = set (planned_beside r planned).hold.cells i (f (cell_at (planned_beside r planned).hold.cells i)) } }
  put f i changes = ap (λ (cs : List Cell). record (planned_beside r planned) { hold = record (planned_beside r planned).hold { cells = cs } }) (put_at r.stage r.written r.position cells below f i changes)

  pub asks_beside : (i : ℕ) → (i ≡ r.position → given r.written Asked ≡ Asked) → planned_beside r (planned_after planned (Asks i)) ≡ planned_after (planned_beside r planned) (Asks i)
  asks_beside i same = put (λ c. record c { reading = Asked }) i (λ at. read_put r.stage r.written (cell_at cells r.position) Asked (same at))

  pub fixes_beside : (i : ℕ) (block : List ℕ) → (i ≡ r.position → given r.written Fixing ≡ Fixing) → planned_beside r (planned_after planned (Fixes i block)) ≡ planned_after (planned_beside r planned) (Fixes i block)
  fixes_beside i block same = put (λ c. record c { reading = Fixing }) i (λ at. read_put r.stage r.written (cell_at cells r.position) Fixing (same at))

  pub asks_again_beside : (i : ℕ) → (i ≡ r.position → given r.written AskedAgain ≡ AskedAgain) → planned_beside r (planned_after planned (AsksAgain i)) ≡ planned_after (planned_beside r planned) (AsksAgain i)
  asks_again_beside i same = put (λ c. record c { reading = AskedAgain }) i (λ at. read_put r.stage r.written (cell_at cells r.position) AskedAgain (same at))

  pub gives_beside : (i : ℕ) (block : List ℕ) → (i ≡ r.position → given r.written (Known block) ≡ Known block) → planned_beside r (planned_after planned (Gives i block)) ≡ planned_after (planned_beside r planned) (Gives i block)
  gives_beside i block same = put (λ c. record c { reading = Known block }) i (λ at. read_put r.stage r.written (cell_at cells r.position) (Known block) (same at))

  pub mends_beside : (i : ℕ) → (i ≡ r.position → given r.written Fixed ≡ Fixed) → planned_beside r (planned_after planned (Mends i)) ≡ planned_after (planned_beside r planned) (Mends i)
  mends_beside i same = put (λ c. record c { reading = Fixed }) i (λ at. read_put r.stage r.written (cell_at cells r.position) Fixed (same at))

  pub fails_beside : (i : ℕ) → (i ≡ r.position → given r.written Unreadable ≡ Unreadable) → planned_beside r (planned_after planned (Fails i)) ≡ planned_after (planned_beside r planned) (Fails i)
  fails_beside i same =
      ap (λ (cs : List Cell). record { hold = record (planned_beside r planned).hold { cells = cs; met_error = true }; plan = plans.after_error planned.plan })
      (put_at r.stage r.written r.position cells below (λ c. record c { reading = Unreadable }) i (λ at. read_put r.stage r.written (cell_at cells r.position) Unreadable (same at)))

-- ---- the hold that reads

-- a position's read has come to this
pub source_read : (cell : Cell) (x : Reading) → x ≢ Replaced → is_recalled x ≡ false → IsSource cell → IsSource (record cell { reading = x })
source_read cell x kept unrecalled s = record {
  standing = s.standing;
  kept = kept;
  unrecalled = unrecalled;
  writing = s.writing;
  second = s.second;
  copying = s.copying;
  doubling = s.doubling;
}

pub source_lost : (cell : Cell) → IsSource cell → IsSource (record cell { standing = Out; second = Out })
source_lost cell s = record {
  standing = λ e. cc;
  kept = s.kept;
  unrecalled = s.unrecalled;
  writing = s.writing;
  second = refl;
  copying = s.copying;
  doubling = s.doubling;
}

-- a property of each position where one is another
pub each_put : (P : ℕ → Cell → Type 0) (cells : List Cell) (i : ℕ) (cell : Cell) → i < length cells → P i cell → ((j : ℕ) → P j (cell_at cells j)) → (j : ℕ) → P j (cell_at (set cells i cell) j)
each_put P cells i cell below here others j =
    elim (cases_eq j i) [
      | inl same ↦ subst (λ (k : ℕ). P k (cell_at (set cells i cell) k)) (sym same) (subst (P i) (sym (get_or-set_same cells i cell no_cell below)) here)
      | inr apart ↦ subst (P j) (sym (get_or-set_other cells i j cell no_cell apart)) (others j)
    ]

pub sources_put : (cells : List Cell) (i : ℕ) (cell : Cell) → i < length cells → AreSources cells → IsSource cell → AreSources (set cells i cell)
sources_put cells i cell below sources here = each_put (λ j c. IsSource c) cells i cell below here sources

-- what is changed where a read comes to something: no block left yet
pub record IsRead (held : Held) (r : Replacement) (i : ℕ) (x : Reading) (away : Bool) (plan : Plan) : Type 0 where
  pub inside : i < length held.planned.hold.cells
  pub here : r.written ≡ written.Unwritten
  pub kept : x ≢ Replaced
  pub unrecalled : is_recalled x ≡ false
  pub busy : away ≡ true → IsReadOver x → ⊥
  pub moved : r.stage ≡ stage.Moved → i ≢ r.position
  pub tried : x ≢ Unread
  -- the plan stays, or becomes recover with a read error of the position that it reads
  pub one : plan ≡ One → (held.planned.plan ≡ One) × (i ≡ r.position)
  pub recovers : plan ≡ Recover → (held.planned.plan ≡ Recover) ⊎ (i ≡ r.position)
  pub either : (plan ≡ One) ⊎ (plan ≡ Recover)

abbrev pub after_read : Held → ℕ → Reading → Bool → Bool → Plan → Held
after_read held i x away met plan =
    record held {
      planned = record {
        hold = record held.planned.hold {
          cells = set held.planned.hold.cells i (record (cell_at held.planned.hold.cells i) { reading = x });
          met_error = met;
        };
        plan = plan;
      };
      away = set held.away i away;
    }

unknown_busy : (x : Reading) → (IsReadOver x → ⊥) → is_known x ≡ false
unknown_busy Unread h = refl
unknown_busy Recalled h = refl
unknown_busy Asked h = refl
unknown_busy Unreadable h = refl
unknown_busy Fixing h = refl
unknown_busy Fixed h = refl
unknown_busy AskedAgain h = refl
unknown_busy (Known block) h = absurd (h tt)
unknown_busy Replaced h = absurd (h tt)

pub read_kept : (held : Held) (r : Replacement) (i : ℕ) (x : Reading) (away met : Bool) (plan : Plan) → IsReplacing held r → IsRead held r i x away plan → IsReplacing (after_read held i x away met plan) r
read_kept held r i x away met plan is put =
    let cells : List Cell = held.planned.hold.cells in
    let cell : Cell = record (cell_at cells i) { reading = x } in
    let wide : length (set cells i cell) ≡ length cells = length-set cells i cell in
    let unsent : r.written ≢ written.Unwritten → ⊥ = (λ left. left put.here) in
    record {
      within = omega (arith, is.within, wide);
      wide = length-set held.away i away ∙ is.wide ∙ sym wide;
      enough_positions = omega (arith, is.enough_positions, wide);
      untasked = is.untasked;
      unclassed = is.unclassed;
      uncut = is.uncut;
      sources = sources_put cells i cell put.inside is.sources (source_read (cell_at cells i) x put.kept put.unrecalled (is.sources i));
      unlent = λ j. elim (cases_eq j i) [
        | inl same ↦
            subst (λ (k : ℕ). get_or (set held.away i away) k false ≡ true → is_known (cell_at (set cells i cell) k).reading ≡ false) (sym same)
            (λ gone. ap (λ (c : Cell). is_known c.reading) (get_or-set_same cells i cell no_cell put.inside) ∙ unknown_busy x (put.busy (sym (get_or-set_same held.away i away false (omega (arith, put.inside, is.wide))) ∙ gone)))
        | inr apart ↦ λ gone. ap (λ (c : Cell). is_known c.reading) (get_or-set_other cells i j cell no_cell apart) ∙ is.unlent j (sym (get_or-set_other held.away i j away false apart) ∙ gone)
      ];
      busy = λ j. elim (cases_eq j i) [
        | inl same ↦
            subst (λ (k : ℕ). get_or (set held.away i away) k false ≡ true → (cell_at (set cells i cell) k).standing ≢ Out → IsReadOver (cell_at (set cells i cell) k).reading → ⊥) (sym same)
            (λ gone stands done. put.busy (sym (get_or-set_same held.away i away false (omega (arith, put.inside, is.wide))) ∙ gone) (subst (λ (c : Cell). IsReadOver c.reading) (get_or-set_same cells i cell no_cell put.inside) done))
        | inr apart ↦
            let at : cell_at (set cells i cell) j ≡ cell_at cells j = get_or-set_other cells i j cell no_cell apart in
            λ gone stands done. is.busy j (sym (get_or-set_other held.away i j away false apart) ∙ gone) (λ out. stands (ap (λ (c : Cell). c.standing) at ∙ out)) (subst (λ (c : Cell). IsReadOver c.reading) at done)
      ];
      plan = put.either;
      own = λ one j apart.
          let o = put.one one in
          ap (λ (c : Cell). c.reading) (get_or-set_other cells i j cell no_cell (λ e. apart (e ∙ o.1))) ∙ is.own o.0 j apart;
      tried = λ recovers in_sync. elim (cases_eq r.position i) [
        | inl same ↦ λ e. put.tried (sym (ap (λ (c : Cell). c.reading) (subst (λ (k : ℕ). cell_at (set cells i cell) k ≡ cell) (sym same) (get_or-set_same cells i cell no_cell put.inside))) ∙ e)
        | inr apart ↦
            let at : cell_at (set cells i cell) r.position ≡ cell_at cells r.position = get_or-set_other cells i r.position cell no_cell apart in
            elim (put.recovers recovers) [
              | inl was ↦ λ e. is.tried was (sym (ap (λ (c : Cell). c.standing) at) ∙ in_sync) (sym (ap (λ (c : Cell). c.reading) at) ∙ e)
              | inr same ↦ absurd (apart (sym same))
            ]
      ];
      moved = λ m. ap (λ (c : Cell). is_known c.reading) (get_or-set_other cells i r.position cell no_cell (λ e. put.moved m (sym e))) ∙ is.moved m;
      home = is.home;
      known = λ left. absurd (unsent left);
      over = λ left. absurd (unsent left);
      enough = λ left. absurd (unsent left);
    }

-- a position is lost
abbrev pub after_loss_of : Held → ℕ → Plan → Held
after_loss_of held i plan =
    record held {
      planned = record {
        hold = record held.planned.hold {
          cells = set held.planned.hold.cells i (record (cell_at held.planned.hold.cells i) { standing = Out; second = Out });
        };
        plan = plan;
      };
    }

pub lost_kept : (held : Held) (r : Replacement) (i : ℕ) → i < length held.planned.hold.cells → IsReplacing held r → (plan : Plan) → (plan ≡ One) ⊎ (plan ≡ Recover) → (plan ≡ One → held.planned.plan ≡ One) →
    (plan ≡ Recover → (held.planned.plan ≡ Recover) ⊎ ((i ≡ r.position) × (r.written ≡ written.Unwritten))) → IsReplacing (after_loss_of held i plan) r
lost_kept held r i inside is plan either one recovers =
    let cells : List Cell = held.planned.hold.cells in
    let cell : Cell = record (cell_at cells i) { standing = Out; second = Out } in
    let wide : length (set cells i cell) ≡ length cells = length-set cells i cell in
    let reading : (j : ℕ) → (cell_at (set cells i cell) j).reading ≡ (cell_at cells j).reading = each_put (λ j c. c.reading ≡ (cell_at cells j).reading) cells i cell inside refl (λ j. refl) in
    record {
      within = omega (arith, is.within, wide);
      wide = is.wide ∙ sym wide;
      enough_positions = omega (arith, is.enough_positions, wide);
      untasked = is.untasked;
      unclassed = is.unclassed;
      uncut = is.uncut;
      sources = sources_put cells i cell inside is.sources (source_lost (cell_at cells i) (is.sources i));
      unlent = λ j gone. ap is_known (reading j) ∙ is.unlent j gone;
      busy = λ j gone stands done. is.busy j gone (λ out. stands (stays_out j out)) (subst IsReadOver (reading j) done);
      plan = either;
      own = λ o j apart. reading j ∙ is.own (one o) j apart;
      tried = λ q in_sync. elim (recovers q) [
        | inl was ↦ λ e. is.tried was (stood r.position in_sync) (sym (reading r.position) ∙ e)
        | inr here ↦ absurd (lost here.0 in_sync)
      ];
      moved = λ m. ap is_known (reading r.position) ∙ is.moved m;
      home = is.home;
      known = λ left. ap is_known (reading r.position) ∙ is.known left;
      over = λ left j stands. subst IsReadOver (sym (reading j)) (is.over left j (λ out. stands (stays_out j out)));
      enough = λ left q. elim (recovers q) [
        | inl was ↦ omega (arith, is.enough left was, wide, count_same_at (λ c. is_known c.reading) cells (set cells i cell) wide (λ j. ap is_known (reading j)))
        | inr here ↦ absurd (left here.1)
      ];
    }
  where
    lost : i ≡ r.position → (cell_at (set held.planned.hold.cells i (record (cell_at held.planned.hold.cells i) { standing = Out; second = Out })) r.position).standing ≡ InSync → ⊥
    lost same e =
        let cells = held.planned.hold.cells in
        let out : (cell_at (set cells i (record (cell_at cells i) { standing = Out; second = Out })) i).standing ≡ Out = ap (λ (c : Cell). c.standing) (get_or-set_same cells i (record (cell_at cells i) { standing = Out; second = Out }) no_cell inside) in
        let f = sym out ∙ subst (λ (k : ℕ). (cell_at (set cells i (record (cell_at cells i) { standing = Out; second = Out })) k).standing ≡ InSync) (sym same) e in
        cc

    stood : (j : ℕ) → (cell_at (set held.planned.hold.cells i (record (cell_at held.planned.hold.cells i) { standing = Out; second = Out })) j).standing ≡ InSync → (cell_at held.planned.hold.cells j).standing ≡ InSync
    stood j e =
        let cells = held.planned.hold.cells in
        let cell : Cell = record (cell_at cells i) { standing = Out; second = Out } in
        elim (cases_eq j i) [
          | inl same ↦
              absurd (let out : (cell_at (set cells i cell) j).standing ≡ Out = subst (λ (k : ℕ). (cell_at (set cells i cell) k).standing ≡ Out) (sym same) (ap (λ (c : Cell). c.standing) (get_or-set_same cells i cell no_cell inside)) in let f = sym out ∙ e in cc)
          | inr apart ↦ sym (ap (λ (c : Cell). c.standing) (get_or-set_other cells i j cell no_cell apart)) ∙ e
        ]

    stays_out : (j : ℕ) → (cell_at held.planned.hold.cells j).standing ≡ Out → (cell_at (set held.planned.hold.cells i (record (cell_at held.planned.hold.cells i) { standing = Out; second = Out })) j).standing ≡ Out
    stays_out j e =
        let cells = held.planned.hold.cells in
        let cell : Cell = record (cell_at cells i) { standing = Out; second = Out } in
        each_put (λ k c. (cell_at cells k).standing ≡ Out → c.standing ≡ Out) cells i cell inside (λ was. refl) (λ k was. was) j e
