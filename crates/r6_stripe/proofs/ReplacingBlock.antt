-- The block that was read leaves to the target of a rebuild.
use Rattle.std.proofs.Common.{◌≡◌, ◌≢◌, ◌⊎◌, inl, inr, Bool, true, false, ℕ, ◌-◌, ◌<◌, List, [], ◌∷◌, length, set, refl, sym, ◌∙◌, ap, subst, arith, Some, None}
use Rattle.std.specs.Prelude.{not, nat_le, ◌==◌, ◌&&◌, ◌||◌, if◌then◌else◌, option_map}
use Rattle.std.specs.List.{list_any}
use Rattle.std.proofs.lemmas.Bool.{and_parts, and_right, cases_eq, eqb-true, false_from_ne_true, leb-true}
use Rattle.std.proofs.lemmas.List.{get_or-set_other, get_or-set_same, length-set, set-set}
use Rattle.r6_recover.specs.Rows.{block_at}
use Rattle.r6_stripe.specs.Holds.{Standing, Reading, Writing, Cell, Kind, Hold, Event, cell_at, no_cell, own_writing, is_known, known_count, made_ready, after, after_kind, with_new, IsBefore, IsIndexOf, IsToWrite, AreNew, Carries}
use Rattle.r6_stripe.specs.Holds.Standing.{InSync, Target, Out}
use Rattle.r6_stripe.specs.Holds.Reading.{Known, Replaced}
use Rattle.r6_stripe.specs.Holds.Writing.{Unwritten, Ready, Sent}
use Rattle.r6_stripe.specs.Holds.Kind.{Rebuild}
use Rattle.r6_stripe.specs.Holds.Event.{Computes}
use Rattle.r6_stripe.specs.Plans as plans
use Rattle.r6_stripe.specs.Plans.{Next, Plan, Planned, first_from, planned_after, MayFollow, Prepares, write_at}
use Rattle.r6_stripe.specs.Plans.Next.{ComputeNew, WriteAt, CopyAt}
use Rattle.r6_stripe.specs.Plans.Plan.{One, Reconstruct, Modify, Overwrite, Recover, All}
use Rattle.r6_stripe.proofs.Counts.{count_same_at}
use Rattle.r6_stripe.proofs.Nexts.{next_is}
use Rattle.r6_stripe.proofs.Places.{any_each, any_false, any_true}
use Rattle.r6_stripe.proofs.ReplacingEvents.{each_put, source_read, sources_put}
use Rattle.r6_stripe.proofs.ReplacingNext.{any_same_at, asked_is, enough_recover, kind_is, mending_is}
use Rattle.r6_stripe.proofs.Searches.{each_at, each_true, first_is}
use Rattle.r6_stripe.specs.Holds.{IsReadOver, doubled}
use Rattle.r6_stripe.specs.Replacements.{IsReplacing, away_beside, apart_beside, held_beside, is_gone, is_left, planned_beside, replacing, replacing_at, with_block}
use Rattle.r6_stripe.specs.Steps.{Held, PutsCopyOut, PutsNewOut, is_away}
use Rattle.r6_stripe.specs.declared.replacement.Stage.{Stage}
use Rattle.r6_stripe.specs.declared.replacement.Stage.TheVariants as stage
use Rattle.r6_stripe.specs.declared.replacement.Written.TheVariants as written
use Rattle.r6_stripe.specs.declared.replacement.Replacement.{Replacement}
use Rattle.r6_stripe.proofs.Replacing.{at_other, at_position, is_source, target_is, unwritten, width}
use Rattle.r6_stripe.proofs.ReplacingSteps.{lacks_here}
use Rattle.r6_stripe.proofs.ReplacingWhole.{known_home}
use Rattle.r6_stripe.proofs.Steps.{comes, enough_parts, lacking_parts, read_over_all}

-- A hold of which one position lacks its new block, and knows its old one, which is the same
pub record IsToLeave (old : Planned) (p : ℕ) (was new : Cell) (block : List ℕ) : Type 0 where
  pub below : p < length old.hold.cells
  pub kind : old.hold.kind ≡ Rebuild p
  pub plan : (old.plan ≡ One) ⊎ (old.plan ≡ Recover)
  pub here : cell_at old.hold.cells p ≡ was
  pub others : (i : ℕ) → i ≢ p → ((cell_at old.hold.cells i).writing ≡ Unwritten) × ((cell_at old.hold.cells i).copying ≡ Unwritten)
  pub comes : plans.next old ≡ Some ComputeNew
  pub lacks : plans.lacks_new old.hold p ≡ true
  pub ready : new ≡ made_ready was block
  pub known : was.reading ≡ Known block
  pub gone : new.reading ≡ Replaced
  pub standing : new.standing ≡ was.standing
  pub second : new.second ≡ was.second
  pub owed : plans.is_unwritten (own_writing new) ≡ false
  pub computed : (not (plans.is_unwritten new.writing) || not (plans.is_unwritten new.copying)) ≡ true

module _ (old : Planned) (p : ℕ) (was new : Cell) (block : List ℕ) (is : IsToLeave old p was new block) where
  abbrev cells : List Cell
  cells = old.hold.cells

  abbrev row : List Cell
  row = set old.hold.cells p new

  abbrev pub left : Planned
  left = record old { hold = record old.hold { cells = set old.hold.cells p new } }

  wide : length row ≡ length cells
  wide = length-set cells p new

  steps : (plans.gives_up old.hold ≡ false) × (plans.has_asked old.hold ≡ false) × (plans.has_enough old.plan old.hold ≡ true) × (plans.each_below (λ position. not (plans.lacks_new old.hold position)) (length old.hold.cells) ≡ false)
  steps = comes old ComputeNew is.comes

  enough : (plans.is_enough old.plan old.hold ≡ true) × (plans.is_mending old.hold ≡ false)
  enough = (let parts = and_parts (plans.is_enough old.plan old.hold) (not (plans.is_mending old.hold)) steps.2 in parts.0, Rattle.r6_stripe.proofs.Steps.not_false (plans.is_mending old.hold) (and_parts (plans.is_enough old.plan old.hold) (not (plans.is_mending old.hold)) steps.2).1)

  at_new : cell_at row p ≡ new
  at_new = get_or-set_same cells p new no_cell is.below

  -- the same of each position, if it is of this one
  same : (test : Cell → Bool) → test new ≡ test was → (i : ℕ) → test (cell_at row i) ≡ test (cell_at cells i)
  same test e = each_put (λ i c. test c ≡ test (cell_at cells i)) cells p new is.below (e ∙ sym (ap test is.here)) (λ i. refl)

  read_same : (test : Reading → Bool) → test Replaced ≡ test (Known block) → (not (plans.is_out new.standing) && test new.reading) ≡ (not (plans.is_out was.standing) && test was.reading)
  read_same test e = (λ k. not (plans.is_out (is.standing k)) && (ap test is.gone ∙ e ∙ sym (ap test is.known)) k)

  any_row : (test : Reading → Bool) → test Replaced ≡ test (Known block) → list_any (λ cell. not (plans.is_out cell.standing) && test cell.reading) row ≡ list_any (λ cell. not (plans.is_out cell.standing) && test cell.reading) cells
  any_row test e = any_same_at _ cells row wide (same (λ cell. not (plans.is_out cell.standing) && test cell.reading) (read_same test e))

  goes_on : plans.gives_up left.hold ≡ false
  goes_on =
      ap (plans.has_lost left.hold) is.kind
      ∙ (λ k. not (plans.has_target (at_new k)))
      ∙ (λ k. not (plans.is_target (is.standing k) || plans.is_target (is.second k)))
      ∙ sym (λ k. not (plans.has_target (is.here k)))
      ∙ sym (ap (plans.has_lost old.hold) is.kind) ∙ steps.0

  again_none : plans.has_asked_again old.hold ≡ false
  again_none = any_false (λ cell. not (plans.is_out cell.standing) && plans.is_asked_again cell.reading) cells (λ i below. by_met (plans.is_out (cell_at cells i).standing) (cell_at cells i).reading (any_each (λ cell. not (plans.is_out cell.standing) && plans.is_met cell.reading) cells enough.1 i below))
    where
      by_met : (b : Bool) (x : Reading) → (not b && plans.is_met x) ≡ false → (not b && plans.is_asked_again x) ≡ false
      by_met true x e = refl
      by_met false Rattle.r6_stripe.specs.Holds.Reading.Unread e = refl
      by_met false Rattle.r6_stripe.specs.Holds.Reading.Recalled e = refl
      by_met false Rattle.r6_stripe.specs.Holds.Reading.Asked e = refl
      by_met false Rattle.r6_stripe.specs.Holds.Reading.Unreadable e = absurd cc
      by_met false Rattle.r6_stripe.specs.Holds.Reading.Fixing e = absurd cc
      by_met false Rattle.r6_stripe.specs.Holds.Reading.Fixed e = absurd cc
      by_met false Rattle.r6_stripe.specs.Holds.Reading.AskedAgain e = absurd cc
      by_met false (Known b) e = refl
      by_met false Replaced e = refl

  read_out : plans.has_read_out left.hold ≡ false
  read_out = (λ k. any_row plans.is_asked refl k || any_row plans.is_asked_again refl k) ∙ (λ k. steps.1 k || again_none k)

  known_row : known_count row ≡ known_count cells
  known_row = count_same_at (λ cell. is_known cell.reading) cells row wide (same (λ cell. is_known cell.reading) (ap is_known is.gone ∙ sym (ap is_known is.known)))

  still_enough : plans.is_enough old.plan left.hold ≡ true
  still_enough = elim is.plan [
    | inl one ↦
        subst (λ (q : Plan). plans.is_enough q left.hold ≡ true) (sym one)
        (each_true (plans.is_served One left.hold) (length row) (λ i below.
        ap (λ (b : Bool). not (plans.wants One old.hold i) || b) (same (λ cell. is_known cell.reading) (ap is_known is.gone ∙ sym (ap is_known is.known)) i)
        ∙ each_at (plans.is_served One old.hold) (length cells) (subst (λ (q : Plan). plans.is_enough q old.hold ≡ true) one enough.0) i (omega (arith, below, wide))))
    | inr recover ↦
        subst (λ (q : Plan). plans.is_enough q left.hold ≡ true) (sym recover)
        ((λ k. nat_le (wide k - 2) (known_row k)) ∙ subst (λ (q : Plan). plans.is_enough q old.hold ≡ true) recover enough.0)
  ]

  computed : plans.has_computed left.hold ≡ true
  computed = any_true (λ cell. not (plans.is_unwritten cell.writing) || not (plans.is_unwritten cell.copying)) row p (omega (arith, is.below, wide)) (ap (λ (c : Cell). not (plans.is_unwritten c.writing) || not (plans.is_unwritten c.copying)) at_new ∙ is.computed)

  none_lacks : (i : ℕ) → plans.lacks_new left.hold i ≡ false
  none_lacks i =
      elim (cases_eq i p) [
        | inl at ↦
            subst (λ (j : ℕ). plans.lacks_new left.hold j ≡ false) (sym at)
            ((λ k. not (plans.is_out (cell_at row p).standing) && plans.is_unwritten (own_writing (at_new k)) && plans.puts left.hold old.hold.kind p)
            ∙ ap (λ (b : Bool). not (plans.is_out (cell_at row p).standing) && b && plans.puts left.hold old.hold.kind p) is.owed
            ∙ none (not (plans.is_out (cell_at row p).standing)) (plans.puts left.hold old.hold.kind p))
        | inr apart ↦
            (λ k. not (plans.is_out (cell_at row i).standing) && plans.is_unwritten (own_writing (cell_at row i)) && plans.puts left.hold (is.kind k) i)
            ∙ ap (λ (b : Bool). not (plans.is_out (cell_at row i).standing) && plans.is_unwritten (own_writing (cell_at row i)) && b) (false_from_ne_true (p == i) (λ e. apart (sym (eqb-true p i e))))
            ∙ and_right (not (plans.is_out (cell_at row i).standing) && plans.is_unwritten (own_writing (cell_at row i))) false refl
      ]
    where
      none : (a b : Bool) → (a && false && b) ≡ false
      none true b = refl
      none false b = refl

  then_writes : plans.next left ≡ plans.next_write left.hold
  then_writes =
      next_is left (any_row plans.is_met refl ∙ enough.1) goes_on
      (ap (λ (b : Bool). if b then None else option_map Next.ReadAt (first_from (plans.is_next_read old.plan left.hold) 0 (length row))) computed)
      read_out still_enough (ap (plans.next_restore left.hold) is.kind)
      (each_true (λ position. not (plans.lacks_new left.hold position)) (length row) (λ i below. ap not (none_lacks i)))

  -- the write that comes next is that of this position
  writes_here : (plans.is_next_write left.hold p || plans.is_next_copy left.hold p) ≡ true → plans.next left ≡ Some (write_at left.hold p)
  writes_here e =
      then_writes
      ∙ ap (option_map (write_at left.hold)) (first_is (λ position. plans.is_next_write left.hold position || plans.is_next_copy left.hold position) 0 (length row) p (omega arith) (omega (arith, is.below, wide)) e (λ i from before. not_before i (λ f. omega (arith, before, f))))
    where
      not_before : (i : ℕ) → i ≢ p → (plans.is_next_write left.hold i || plans.is_next_copy left.hold i) ≡ false
      not_before i apart =
          let at : cell_at row i ≡ cell_at cells i = get_or-set_other cells p i new no_cell apart in
          (λ k. (not (plans.is_out (cell_at row i).standing) && plans.is_ready ((ap (λ (c : Cell). c.writing) at ∙ (is.others i apart).0) k))
          || (not (plans.is_out (cell_at row i).standing) && plans.is_first_sent (cell_at row i).second (cell_at row i).writing && plans.is_ready ((ap (λ (c : Cell). c.copying) at ∙ (is.others i apart).1) k)))
          ∙ (λ k. and_right (not (plans.is_out (cell_at row i).standing)) false refl k || and_right (not (plans.is_out (cell_at row i).standing) && plans.is_first_sent (cell_at row i).second (cell_at row i).writing) false refl k)

  pub then_copies : plans.is_out new.standing ≡ false → new.second ≡ Target → new.writing ≡ Unwritten → new.copying ≡ Ready block → plans.next left ≡ Some (CopyAt p)
  then_copies out two unwritten ready =
      let writes : plans.is_next_write left.hold p ≡ false =
      (λ k. not (plans.is_out (at_new k).standing) && plans.is_ready (at_new k).writing) ∙ ap (λ (w : Writing). not (plans.is_out new.standing) && plans.is_ready w) unwritten ∙ and_right (not (plans.is_out new.standing)) false refl in
      let copies : plans.is_next_copy left.hold p ≡ true =
      (λ k. not (plans.is_out (at_new k).standing) && plans.is_first_sent (at_new k).second (at_new k).writing && plans.is_ready (at_new k).copying) ∙ (λ k. not (out k) && plans.is_first_sent (two k) new.writing && plans.is_ready (ready k)) in
      writes_here (λ k. writes k || copies k) ∙ ap (λ (b : Bool). Some (if b then WriteAt p else CopyAt p)) writes

  pub then_writes_it : plans.is_out new.standing ≡ false → new.writing ≡ Ready block → plans.next left ≡ Some (WriteAt p)
  then_writes_it out ready =
      let writes : plans.is_next_write left.hold p ≡ true =
      (λ k. not (plans.is_out (at_new k).standing) && plans.is_ready (at_new k).writing) ∙ (λ k. not (out k) && plans.is_ready (ready k)) in
      writes_here (ap (λ (b : Bool). b || plans.is_next_copy left.hold p) writes) ∙ ap (λ (b : Bool). Some (if b then WriteAt p else CopyAt p)) writes

  -- it is computed by the plan
  pub prepares : Prepares old left
  prepares = (Computes ((p, block) ∷ []) ∷ [], (tt, tt), ((is.comes, (own, carries, to_write, tt), all_lacking, none_else), tt), ap (λ (cs : List Cell). record old { hold = record old.hold { cells = cs } }) changes)
    where
      own : own_writing (cell_at cells p) ≡ Unwritten
      own = (lacking_parts old.hold p is.lacks).1

      carries : Carries old.hold p block
      carries other before =
          ap (λ (k : Kind). block_at (after_kind old.hold k other) p) is.kind ∙ before.same p block (ap (λ (c : Cell). c.reading) is.here ∙ is.known)

      to_write : IsToWrite old.hold old.hold.kind p
      to_write = subst (λ (k : Kind). IsToWrite old.hold k p) (sym is.kind) refl

      all_lacking : (i : ℕ) → plans.lacks_new old.hold i ≡ true → IsIndexOf i ((p, block) ∷ [])
      all_lacking i lacking = inl (eqb-true p i (subst (λ (k : Kind). plans.puts old.hold k i ≡ true) is.kind (lacking_parts old.hold i lacking).2))

      none_else : (i : ℕ) → IsIndexOf i ((p, block) ∷ []) → (plans.lacks_new old.hold i ≡ true) ⊎ ((cell_at cells i).standing ≡ Out)
      none_else i (inl at) = inl (subst (λ (j : ℕ). plans.lacks_new old.hold j ≡ true) at is.lacks)
      none_else i (inr past) = absurd past

      changes : with_new cells ((p, block) ∷ []) ≡ row
      changes = ap (λ (c : Cell). set cells p c) (ap (λ (c : Cell). made_ready c block) is.here ∙ sym is.ready)

-- ---- beside the hold that reads

module _ (held : Held) (r : Replacement) (is : IsReplacing held r) (going : r.closed ≡ false) (there : plans.has_target (cell_at (planned_beside r held.planned).hold.cells r.position) ≡ true) (still : is_left r.written ≡ false)
    (next_is_it : plans.next (planned_beside r held.planned) ≡ Some ComputeNew) (block spare : List ℕ) (known : (cell_at held.planned.hold.cells r.position).reading ≡ Known block) where
  abbrev source : List Cell
  source = held.planned.hold.cells

  abbrev at_p : Cell
  at_p = cell_at held.planned.hold.cells r.position

  abbrev seen : Planned
  seen = planned_beside r held.planned

  -- the row once the block left, and the buffer apart is away
  abbrev pub given_held : Held
  given_held = record (with_block held r.position spare) { second_away = true }

  abbrev pub sent_one : Replacement
  sent_one = record r { written = written.Sent }

  in_sync : at_p.standing ≡ InSync
  in_sync = by_standing at_p.standing (is.sources r.position).standing (sym (target_is r.stage r.written at_p (is.sources r.position).standing) ∙ sym (ap plans.has_target (at_position r.stage r.written r.position source is.within)) ∙ there)
    where
      by_standing : (t : Standing) → t ≢ Target → (not (is_gone r.stage) && not (plans.is_out t)) ≡ true → t ≡ InSync
      by_standing InSync h e = refl
      by_standing Target h e = absurd (h refl)
      by_standing Out h e = absurd (let f = sym (and_right (not (is_gone r.stage)) false refl) ∙ e in cc)

  cell_is : at_p ≡ record no_cell { standing = InSync; reading = Known block }
  cell_is = is_source at_p (is.sources r.position) ∙ (λ k. record no_cell { standing = in_sync k; reading = known k })

  others : (i : ℕ) → i ≢ r.position → ((cell_at seen.hold.cells i).writing ≡ Unwritten) × ((cell_at seen.hold.cells i).copying ≡ Unwritten)
  others i apart =
      let at = at_other r.stage r.written r.position source i apart in
      (ap (λ (c : Cell). c.writing) at ∙ (is.sources i).writing, ap (λ (c : Cell). c.copying) at ∙ (is.sources i).copying)

  -- the cells of the row then
  after_cells : (s : Stage) → (new last : Cell) → (f : Cell → Cell) → last ≡ f new → replacing s written.Sent (record (record no_cell { standing = InSync; reading = Known block }) { reading = Known spare }) ≡ last →
      replacing_at s written.Sent r.position (set source r.position (record at_p { reading = Known spare })) ≡ set (set seen.hold.cells r.position new) r.position (f (cell_at (set seen.hold.cells r.position new) r.position))
  after_cells s new last f e g =
      let X : Cell = record at_p { reading = Known spare } in
      ap (λ (c : Cell). set (set source r.position X) r.position (replacing s written.Sent c)) (get_or-set_same source r.position X no_cell is.within)
      ∙ set-set source r.position X (replacing s written.Sent X)
      ∙ ap (λ (c : Cell). set source r.position (replacing s written.Sent (record c { reading = Known spare }))) cell_is
      ∙ ap (λ (c : Cell). set source r.position c) (g ∙ e ∙ ap f (sym (get_or-set_same seen.hold.cells r.position new no_cell (omega (arith, is.within, width r.stage r.written r.position source)))))
      ∙ sym (set-set seen.hold.cells r.position new (f (cell_at (set seen.hold.cells r.position new) r.position))
      ∙ set-set source r.position (replacing r.stage r.written at_p) (f (cell_at (set seen.hold.cells r.position new) r.position)))

  to_leave : (was new : Cell) → replacing r.stage r.written at_p ≡ was → new ≡ made_ready was block → was.reading ≡ Known block → new.reading ≡ Replaced → new.standing ≡ was.standing → new.second ≡ was.second → plans.is_unwritten (own_writing new) ≡ false →
      (not (plans.is_unwritten new.writing) || not (plans.is_unwritten new.copying)) ≡ true → IsToLeave seen r.position was new block
  to_leave was new at ready k g s t o c = record {
    below = omega (arith, is.within, width r.stage r.written r.position source);
    kind = kind_is held r is going;
    plan = is.plan;
    here = at_position r.stage r.written r.position source is.within ∙ at;
    others = others;
    comes = next_is_it;
    lacks = lacks_here held r is going there still;
    ready = ready;
    known = k;
    gone = g;
    standing = s;
    second = t;
    owed = o;
    computed = c;
  }

  abbrev was_beside : Cell
  was_beside = record no_cell { standing = InSync; reading = Known block; second = Target }

  abbrev new_beside : Cell
  new_beside = record no_cell { standing = InSync; reading = Replaced; second = Target; copying = Ready block }

  abbrev was_moved : Cell
  was_moved = record no_cell { standing = Target; reading = Known block }

  abbrev new_moved : Cell
  new_moved = record no_cell { standing = Target; reading = Replaced; writing = Ready block }

  still_is : r.written ≡ written.Unwritten
  still_is = unwritten r.written still

  pub copies : r.stage ≡ stage.Beside → PutsCopyOut (held_beside r held) r.position block (held_beside sent_one given_held)
  copies at =
      let leave : IsToLeave seen r.position was_beside new_beside block = to_leave was_beside new_beside (λ k. replacing (at k) (still_is k) (cell_is k)) refl refl refl refl refl refl refl in (
        left seen r.position was_beside new_beside block leave,
        prepares seen r.position was_beside new_beside block leave,
        then_copies seen r.position was_beside new_beside block leave refl refl refl refl,
        ap (λ (c : Cell). c.copying) (get_or-set_same seen.hold.cells r.position new_beside no_cell leave.below),
        (λ k. record held {
          planned = record seen {
            hold = record seen.hold {
              cells = (ap (λ (s : Stage). replacing_at s written.Sent r.position (set source r.position (record at_p { reading = Known spare }))) at
                  ∙ after_cells stage.Beside new_beside (record new_beside { copying = Sent }) (λ c. record c { copying = Sent }) refl refl) k;
            };
          };
          away = (ap (λ (s : Stage). away_beside s r.position held.away true) at ∙ sym (ap (λ (s : Stage). away_beside s r.position held.away held.second_away) at)) k;
          second_away = ap (λ (s : Stage). apart_beside s r.position held.away true) at k;
        }),
      )

  pub sends_new : r.stage ≡ stage.Moved → PutsNewOut (held_beside r held) r.position block (held_beside sent_one given_held)
  sends_new at =
      let leave : IsToLeave seen r.position was_moved new_moved block = to_leave was_moved new_moved (λ k. replacing (at k) (still_is k) (cell_is k)) refl refl refl refl refl refl refl in (
        left seen r.position was_moved new_moved block leave,
        prepares seen r.position was_moved new_moved block leave,
        then_writes_it seen r.position was_moved new_moved block leave refl refl,
        ap (λ (c : Cell). c.writing) (get_or-set_same seen.hold.cells r.position new_moved no_cell leave.below),
        (λ k. record held {
          planned = record seen {
            hold = record seen.hold {
              cells = (ap (λ (s : Stage). replacing_at s written.Sent r.position (set source r.position (record at_p { reading = Known spare }))) at
                  ∙ after_cells stage.Moved new_moved (record new_moved { writing = Sent }) (λ c. record c { writing = Sent; doubling = doubled c.second c.doubling }) refl refl) k;
            };
          };
          away = (ap (λ (s : Stage). away_beside s r.position held.away true) at ∙ sym (set-set held.away r.position held.second_away true) ∙ sym (ap (λ (s : Stage). set (away_beside s r.position held.away held.second_away) r.position true) at)) k;
          second_away = (ap (λ (s : Stage). apart_beside s r.position held.away true) at ∙ sym (ap (λ (s : Stage). apart_beside s r.position held.away held.second_away) at)) k;
        }),
      )

  pub given_kept : IsReplacing given_held sent_one
  given_kept =
      let cell : Cell = record at_p { reading = Known spare } in
      let wide : length (set source r.position cell) ≡ length source = length-set source r.position cell in
      let home : is_away held r.position ≡ false = known_home held r is (ap is_known known) in
      let c = comes seen ComputeNew next_is_it in
      let enough = enough_parts seen.plan seen.hold c.2 in
      let over : (i : ℕ) → (cell_at source i).standing ≢ Out → IsReadOver (cell_at source i).reading = read_over_all held.planned.hold (sym (asked_is held r is) ∙ c.1) (sym (mending_is held r is) ∙ enough.1) in
      let here : (cell_at (set source r.position cell) r.position) ≡ cell = get_or-set_same source r.position cell no_cell is.within in
      let stands : (i : ℕ) → (cell_at (set source r.position cell) i).standing ≡ (cell_at source i).standing = each_put (λ i c. c.standing ≡ (cell_at source i).standing) source r.position cell is.within refl (λ i. refl) in
      let reads : (i : ℕ) → is_known (cell_at (set source r.position cell) i).reading ≡ is_known (cell_at source i).reading = each_put (λ i c. is_known c.reading ≡ is_known (cell_at source i).reading) source r.position cell is.within (sym (ap is_known known)) (λ i. refl) in
      let rests : (i : ℕ) → IsReadOver (cell_at source i).reading → IsReadOver (cell_at (set source r.position cell) i).reading = each_put (λ i c. IsReadOver (cell_at source i).reading → IsReadOver c.reading) source r.position cell is.within (λ h. tt) (λ i h. h) in
      record {
        within = omega (arith, is.within, wide);
        wide = is.wide ∙ sym wide;
        enough_positions = omega (arith, is.enough_positions, wide);
        untasked = is.untasked;
        unclassed = is.unclassed;
        uncut = is.uncut;
        sources = sources_put source r.position cell is.within is.sources (source_read at_p (Known spare) (λ e. cc) refl (is.sources r.position));
        unlent = λ i gone. reads i ∙ is.unlent i gone;
        busy = λ i gone lives done. is.busy i gone (λ out. lives (stands i ∙ out)) (over i (λ out. lives (stands i ∙ out)));
        plan = is.plan;
        own = λ one i apart. ap (λ (c : Cell). c.reading) (get_or-set_other source r.position i cell no_cell apart) ∙ is.own one i apart;
        tried = λ recover lives e. let f = sym (ap (λ (c : Cell). c.reading) here) ∙ e in cc;
        moved = λ e. ap (λ (c : Cell). is_known c.reading) here;
        home = λ e. absurd (e refl);
        known = λ e. ap (λ (c : Cell). is_known c.reading) here;
        over = λ e i lives. rests i (over i (λ out. lives (stands i ∙ out)));
        enough = λ e recover.
            let enough_plain = leb-true (length source - 2) (known_count source) (sym (enough_recover held r is) ∙ subst (λ (q : Plan). plans.is_enough q seen.hold ≡ true) recover enough.0) in
            omega (arith, enough_plain, wide, count_same_at (λ c. is_known c.reading) source (set source r.position cell) wide reads);
      }
