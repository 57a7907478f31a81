-- The target of a rebuild is out, or has the place of the position's own device.
use Rattle.std.proofs.Common.{◌≡◌, ◌≢◌, ◌⊎◌, inl, inr, Bool, true, false, ℕ, ◌<◌, List, length, get_or, set, refl, sym, ◌∙◌, ap, subst}
use Rattle.std.specs.Prelude.{not, ◌||◌, if◌then◌else◌}
use Rattle.std.proofs.lemmas.Bool.{cases_eq, eq-eqb}
use Rattle.std.proofs.lemmas.List.{set-set}
use Rattle.r6_stripe.specs.Holds.{Standing, Reading, Writing, Cell, Kind, Hold, cell_at, no_cell, is_known, moved, read_no_more, reading_after}
use Rattle.r6_stripe.specs.Holds.Standing.{InSync, Target, Out}
use Rattle.r6_stripe.specs.Holds.Reading.{Unread, Recalled, Asked, Unreadable, Fixing, Fixed, AskedAgain, Known, Replaced}
use Rattle.r6_stripe.specs.Holds.Kind.{Idle, Rebuild}
use Rattle.r6_stripe.specs.Plans as plans
use Rattle.r6_stripe.specs.Plans.{Plan, Planned, after_loss, after_move, planned_after}
use Rattle.r6_stripe.specs.Plans.Plan.{One, Recover}
use Rattle.r6_stripe.specs.Replacements.{AreSources, IsReplacing, IsSource, given, held_beside, planned_beside, rebuilding, replacing, replacing_at, target_at, turned, written_as}
use Rattle.r6_stripe.specs.Steps.{Held, dropped, is_away, taken_over}
use Rattle.r6_stripe.specs.declared.replacement.Stage.{Stage}
use Rattle.r6_stripe.specs.declared.replacement.Stage.TheVariants as stage
use Rattle.r6_stripe.specs.declared.replacement.Written.{Written}
use Rattle.r6_stripe.specs.declared.replacement.Written.TheVariants as written
use Rattle.r6_stripe.specs.declared.replacement.Replacement.{Replacement}
use Rattle.r6_stripe.proofs.Replacing.{at_other, at_position, become, known_is}

-- a position with a second device is the one that is rebuilt, with its target beside it
pub record HasTwo (held : Held) (r : Replacement) (i : ℕ) : Type 0 where
  pub here : i ≡ r.position
  pub stage : r.stage ≡ stage.Beside
  pub in_sync : (cell_at held.planned.hold.cells r.position).standing ≡ InSync

pub has_two : (held : Held) (r : Replacement) → IsReplacing held r → (i : ℕ) → plans.is_out (cell_at (held_beside r held).planned.hold.cells i).second ≡ false → HasTwo held r i
has_two held r is i there =
    elim (cases_eq i r.position) [
      | inl same ↦
          let two = sym (ap (λ (c : Cell). plans.is_out c.second) (at_position r.stage r.written r.position held.planned.hold.cells is.within)) ∙ subst (λ (k : ℕ). plans.is_out (cell_at (held_beside r held).planned.hold.cells k).second ≡ false) same there in
          let parts = by_stage r.stage two in
          record { here = same; stage = parts.0; in_sync = parts.1 }
      | inr apart ↦ absurd (let out = ap (λ (c : Cell). plans.is_out c.second) (at_other r.stage r.written r.position held.planned.hold.cells i apart) ∙ ap plans.is_out (is.sources i).second in let e = sym out ∙ there in cc)
    ]
  where
    live : (t : Standing) → t ≢ Target → plans.is_out (target_at t) ≡ false → t ≡ InSync
    live InSync h e = refl
    live Target h e = absurd (h refl)
    live Out h e = absurd cc

    by_stage : (s : Stage) → plans.is_out (replacing s r.written (cell_at held.planned.hold.cells r.position)).second ≡ false → (s ≡ stage.Beside) × ((cell_at held.planned.hold.cells r.position).standing ≡ InSync)
    by_stage stage.Beside e = (refl, live (cell_at held.planned.hold.cells r.position).standing (is.sources r.position).standing e)
    by_stage stage.Moved e = absurd cc
    by_stage stage.Dropped e = absurd cc

-- ---- the target is out

pub drops : (held : Held) (r : Replacement) → r.position < length held.planned.hold.cells → r.stage ≡ stage.Beside → held_beside (record r { stage = stage.Dropped }) held ≡ dropped (held_beside r held) r.position
drops held r below e = subst (λ (s : Stage). held_beside (record r { stage = stage.Dropped }) held ≡ dropped (held_beside (record r { stage = s }) held) r.position) (sym e)
    (ap (λ (cs : List Cell). record (held_beside (record r { stage = stage.Beside }) held) { planned = record (planned_beside (record r { stage = stage.Beside }) held.planned) { hold = record (planned_beside (record r { stage = stage.Beside }) held.planned).hold { cells = cs } } })
    (become stage.Beside stage.Dropped r.written r.written r.position held.planned.hold.cells below (λ c. record c { second = Out; copying = Rattle.r6_stripe.specs.Holds.Writing.Unwritten }) refl))

-- the same of the hold that reads
pub drops_kept : (held : Held) (r : Replacement) → IsReplacing held r → IsReplacing held (record r { stage = stage.Dropped })
drops_kept held r is = record {
  within = is.within;
  wide = is.wide;
  enough_positions = is.enough_positions;
  untasked = is.untasked;
  unclassed = is.unclassed;
  uncut = is.uncut;
  sources = is.sources;
  unlent = is.unlent;
  busy = is.busy;
  plan = is.plan;
  own = is.own;
  tried = is.tried;
  moved = λ e. absurd cc;
  home = is.home;
  known = is.known;
  over = is.over;
  enough = is.enough;
}

-- ---- it has the other one's place, whose block was read

known_stays : (w : Written) (x : Reading) → is_known x ≡ true → read_no_more (given w x) ≡ given w x
known_stays w Unread e = absurd cc
known_stays w Recalled e = absurd cc
known_stays w Asked e = absurd cc
known_stays w Unreadable e = absurd cc
known_stays w Fixing e = absurd cc
known_stays w Fixed e = absurd cc
known_stays w AskedAgain e = absurd cc
known_stays written.Unwritten (Known block) e = refl
known_stays written.Sent (Known block) e = refl
known_stays written.Confirmed (Known block) e = refl
known_stays written.Unwritten Replaced e = refl
known_stays written.Sent Replaced e = refl
known_stays written.Confirmed Replaced e = refl

moves_cell : (w : Written) (c : Cell) → c.standing ≡ InSync → is_known c.reading ≡ true → replacing stage.Moved w c ≡ moved (replacing stage.Beside w c)
moves_cell w c in_sync known =
    (λ k. record no_cell { standing = target_at c.standing; reading = (sym (known_stays w c.reading known) ∙ ap (λ (t : Standing). reading_after (target_at t) (given w c.reading)) (sym in_sync)) k; writing = written_as w })

-- the plan stays where the block is known
plan_stays : (hold : Hold) (plan : Plan) (p : ℕ) → (plan ≡ One) ⊎ (plan ≡ Recover) → is_known (cell_at hold.cells p).reading ≡ true → plan ≡ after_loss plan hold p
plan_stays hold plan p (inl e) known =
    subst (λ (q : Plan). q ≡ after_loss q hold p) (sym e) (by_test (plans.is_served One hold p) (ap (λ (b : Bool). not (plans.wants One hold p) || b) known ∙ or_true (not (plans.wants One hold p))))
  where
    or_true : (b : Bool) → (b || true) ≡ true
    or_true true = refl
    or_true false = refl

    by_test : (b : Bool) → b ≡ true → One ≡ (if b then One else Recover)
    by_test true f = refl
    by_test false f = absurd cc
plan_stays hold plan p (inr e) known = subst (λ (q : Plan). q ≡ after_loss q hold p) (sym e) refl

second_target : (held : Held) (r : Replacement) → IsReplacing held r → r.stage ≡ stage.Beside → (cell_at held.planned.hold.cells r.position).standing ≡ InSync → (cell_at (held_beside r held).planned.hold.cells r.position).second ≡ Target
second_target held r is at in_sync =
    ap (λ (c : Cell). c.second) (at_position r.stage r.written r.position held.planned.hold.cells is.within)
    ∙ ap (λ (s : Stage). (replacing s r.written (cell_at held.planned.hold.cells r.position)).second) at
    ∙ ap target_at in_sync

pub moves : (held : Held) (r : Replacement) → IsReplacing held r → r.stage ≡ stage.Beside → (cell_at held.planned.hold.cells r.position).standing ≡ InSync → is_known (cell_at held.planned.hold.cells r.position).reading ≡ true →
    held_beside (record r { stage = stage.Moved }) held ≡ taken_over (held_beside r held) r.position
moves held r is at in_sync known =
    let seen : Planned = planned_beside r held.planned in
    let known_there : is_known (cell_at seen.hold.cells r.position).reading ≡ true = ap (λ (c : Cell). is_known c.reading) (at_position r.stage r.written r.position held.planned.hold.cells is.within) ∙ known_is r.stage r.written (cell_at held.planned.hold.cells r.position) ∙ known in
    let plan : held.planned.plan ≡ after_move (cell_at seen.hold.cells r.position).second held.planned.plan seen.hold r.position =
    plan_stays seen.hold held.planned.plan r.position is.plan known_there ∙ ap (λ (t : Standing). after_move t held.planned.plan seen.hold r.position) (sym (second_target held r is at in_sync)) in
    let cells : replacing_at stage.Moved r.written r.position held.planned.hold.cells ≡ set seen.hold.cells r.position (moved (cell_at seen.hold.cells r.position)) =
    become r.stage stage.Moved r.written r.written r.position held.planned.hold.cells is.within moved
    (moves_cell r.written (cell_at held.planned.hold.cells r.position) in_sync known ∙ ap (λ (s : Stage). moved (replacing s r.written (cell_at held.planned.hold.cells r.position))) (sym at)) in
    (λ k. record held {
      planned = record { hold = record seen.hold { cells = cells k }; plan = plan k };
      away = set (ap (λ (s : Stage). Rattle.r6_stripe.specs.Replacements.away_beside s r.position held.away held.second_away) (sym at) k) r.position (ap (λ (s : Stage). Rattle.r6_stripe.specs.Replacements.apart_beside s r.position held.away held.second_away) (sym at) k);
      second_away = get_or (ap (λ (s : Stage). Rattle.r6_stripe.specs.Replacements.away_beside s r.position held.away held.second_away) (sym at) k) r.position false;
    })

pub moves_kept : (held : Held) (r : Replacement) → IsReplacing held r → is_known (cell_at held.planned.hold.cells r.position).reading ≡ true → IsReplacing held (record r { stage = stage.Moved })
moves_kept held r is known = record {
  within = is.within;
  wide = is.wide;
  enough_positions = is.enough_positions;
  untasked = is.untasked;
  unclassed = is.unclassed;
  uncut = is.uncut;
  sources = is.sources;
  unlent = is.unlent;
  busy = is.busy;
  plan = is.plan;
  own = is.own;
  tried = is.tried;
  moved = λ e. known;
  home = is.home;
  known = is.known;
  over = is.over;
  enough = is.enough;
}

-- ---- the block wasn't read

unread_more : (x : Reading) → is_known x ≡ false → read_no_more x ≡ Unread
unread_more Unread e = refl
unread_more Recalled e = refl
unread_more Asked e = refl
unread_more Unreadable e = refl
unread_more Fixing e = refl
unread_more Fixed e = refl
unread_more AskedAgain e = refl
unread_more (Known block) e = absurd cc
unread_more Replaced e = absurd cc

turns_cell : (c : Cell) → c.standing ≡ InSync → is_known c.reading ≡ false → record no_cell { standing = Target } ≡ moved (replacing stage.Beside written.Unwritten c)
turns_cell c in_sync unknown =
    (λ k. record no_cell { standing = ap target_at (sym in_sync) k; reading = (sym (unread_more c.reading unknown) ∙ ap (λ (t : Standing). reading_after (target_at t) c.reading) (sym in_sync)) k })

plan_turns : (hold : Hold) (plan : Plan) (p : ℕ) → (plan ≡ One) ⊎ (plan ≡ Recover) → hold.kind ≡ Rebuild p → is_known (cell_at hold.cells p).reading ≡ false → Recover ≡ after_loss plan hold p
plan_turns hold plan p (inl e) kind unknown =
    subst (λ (q : Plan). Recover ≡ after_loss q hold p) (sym e)
    (sym ((λ k. if not (plans.is_its_block (kind k) p) || unknown k then One else Recover) ∙ ap (λ (b : Bool). if not b || false then One else Recover) (eq-eqb p p refl)))
plan_turns hold plan p (inr e) kind unknown = subst (λ (q : Plan). Recover ≡ after_loss q hold p) (sym e) refl

plan_closed : (hold : Hold) (plan : Plan) (p : ℕ) → (plan ≡ One) ⊎ (plan ≡ Recover) → hold.kind ≡ Idle → plan ≡ after_loss plan hold p
plan_closed hold plan p (inl e) kind = subst (λ (q : Plan). q ≡ after_loss q hold p) (sym e) (sym (λ k. if not (plans.is_its_block (kind k) p) || is_known (cell_at hold.cells p).reading then One else Recover))
plan_closed hold plan p (inr e) kind = subst (λ (q : Plan). q ≡ after_loss q hold p) (sym e) refl

-- what becomes of the hold's plan and kind then
abbrev pub turned_plan : Bool → Plan → Plan
turned_plan true plan = plan
turned_plan false plan = Recover

abbrev pub turned_held : Replacement → Held → Held
turned_held r held =
    record (turned held r.position) {
      planned = record {
        hold = record (turned held r.position).planned.hold { kind = if r.closed then Idle else Rebuild r.position };
        plan = turned_plan r.closed held.planned.plan;
      };
      second_away = is_away held r.position;
    }

pub turns : (held : Held) (r : Replacement) → IsReplacing held r → r.stage ≡ stage.Beside → (cell_at held.planned.hold.cells r.position).standing ≡ InSync → is_known (cell_at held.planned.hold.cells r.position).reading ≡ false →
    r.written ≡ written.Unwritten → turned_held r held ≡ taken_over (held_beside r held) r.position
turns held r is at in_sync unknown still =
    let seen : Planned = planned_beside r held.planned in
    let cell : Cell = cell_at held.planned.hold.cells r.position in
    let unknown_there : is_known (cell_at seen.hold.cells r.position).reading ≡ false = ap (λ (c : Cell). is_known c.reading) (at_position r.stage r.written r.position held.planned.hold.cells is.within) ∙ known_is r.stage r.written cell ∙ unknown in
    let plan : turned_plan r.closed held.planned.plan ≡ after_move (cell_at seen.hold.cells r.position).second held.planned.plan seen.hold r.position =
    by_closed r.closed refl seen.hold refl unknown_there ∙ ap (λ (t : Standing). after_move t held.planned.plan seen.hold r.position) (sym (second_target held r is at in_sync)) in
    let changes : record no_cell { standing = Target } ≡ moved (cell_at seen.hold.cells r.position) =
    turns_cell cell in_sync unknown ∙ (λ k. moved (replacing (sym at k) (sym still k) cell)) ∙ ap moved (sym (at_position r.stage r.written r.position held.planned.hold.cells is.within)) in
    let cells : set held.planned.hold.cells r.position (record no_cell { standing = Target }) ≡ set seen.hold.cells r.position (moved (cell_at seen.hold.cells r.position)) =
    ap (λ (c : Cell). set held.planned.hold.cells r.position c) changes ∙ sym (set-set held.planned.hold.cells r.position (replacing r.stage r.written cell) (moved (cell_at seen.hold.cells r.position))) in
    let home : held.second_away ≡ false = is.home (λ e. let f = sym still ∙ e in cc) in
    (λ k. record held {
      planned = record { hold = record seen.hold { cells = cells k }; plan = plan k };
      away = set (ap (λ (s : Stage). Rattle.r6_stripe.specs.Replacements.away_beside s r.position held.away held.second_away) (sym at) k) r.position ((sym home ∙ ap (λ (s : Stage). Rattle.r6_stripe.specs.Replacements.apart_beside s r.position held.away held.second_away) (sym at)) k);
      second_away = get_or (ap (λ (s : Stage). Rattle.r6_stripe.specs.Replacements.away_beside s r.position held.away held.second_away) (sym at) k) r.position false;
    })
  where
    by_closed : (b : Bool) → r.closed ≡ b → (hold : Hold) → hold ≡ (planned_beside r held.planned).hold → is_known (cell_at hold.cells r.position).reading ≡ false → turned_plan r.closed held.planned.plan ≡ after_loss held.planned.plan hold r.position
    by_closed true e hold same unknown =
        ap (λ (b : Bool). turned_plan b held.planned.plan) e
        ∙ plan_closed hold held.planned.plan r.position is.plan (ap (λ (h : Hold). h.kind) same ∙ ap (λ (b : Bool). if b then Idle else Rebuild r.position) e)
    by_closed false e hold same unknown =
        ap (λ (b : Bool). turned_plan b held.planned.plan) e
        ∙ plan_turns hold held.planned.plan r.position is.plan (ap (λ (h : Hold). h.kind) same ∙ ap (λ (b : Bool). if b then Idle else Rebuild r.position) e) unknown
