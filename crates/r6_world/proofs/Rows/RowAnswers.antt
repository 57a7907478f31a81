-- A command of a held row is answered, and the row is seen as before.
use Rattle.std.proofs.Common.{◌≡◌, ◌≢◌, ℕ, length, Bool, true, false, inl, inr, refl, sym, ap, ◌∙◌, subst, arith, Option, Some, None}
use Rattle.std.proofs.lemmas.List.{length-set}
use Rattle.std.proofs.lemmas.Bool.{cases_eq}
use Rattle.r6_stripe.specs.Holds.{Hold as Course, Cell, Reading, Writing, Event, cell_at, after_event}
use Rattle.r6_stripe.specs.Plans.{Plan}
use Rattle.r6_stripe.proofs.CellsAfter.{Became, cell_after}
use Rattle.r6_stripe.proofs.Kept.{answered_same}
use Rattle.r6_stripe.specs.Holds.Event.{Gives, Fails, Confirms, Mends, Settles}
use Rattle.r6_stripe.specs.Holds.Standing.{Out}
use Rattle.r6_stripe.specs.Holds.Reading.{Unread, Recalled, Asked, Unreadable, Fixing, Fixed, AskedAgain, Known, Replaced}
use Rattle.r6_stripe.specs.Holds.Writing.{Sent, Confirmed}
use Rattle.r6_stripe.specs.RowWorld.{Command as RowCommand, IsPerformed, IsRead}
use Rattle.r6_stripe.specs.RowWorld as RowWorld
use Rattle.r6_stripe.specs.RowWorld.Command.{NoCommand, ReadOut, ReadPerformed, WriteOut, WritePerformed}
use Rattle.r6_world.proofs.Rows.Twice.{SeenTwice, put_on}
use Rattle.r6_world.proofs.Rows.Twice as Laws
use Rattle.r6_world.proofs.Rows.Doubles.{Doubles, CopiesTo, Needs, IsNoMove, doubles-after, doubles-at, copies-after}
use Rattle.r6_world.specs.Tables.{put}
use Rattle.r6_layout.specs.PlainArray.{Block}
use Rattle.r6_world.specs.PlainArray.{Array}
use Rattle.r6_world.specs.Layouts.{Layout, IsLayout, full_row}
use Rattle.r6_world.specs.Tasks.{Hold}
use Rattle.r6_world.specs.ShardStates.{SlotState, Command, Transfer, Fetch, Store, Storing}
use Rattle.r6_world.specs.Refusals.{standing_on}
use Rattle.r6_world.proofs.Tables.{put-cases, not_both}
use Rattle.r6_world.proofs.Cells.{cell-other, standing-set, answered-cells, answered_on, answered_on-length}
use Rattle.r6_world.proofs.Uses.{device_on}
use Rattle.r6_world.proofs.Rows.SeenRows.{Devices, block_seen, command_seen, Stands, Moves, Going, Rows, put_on-other, same-slot, replaces}

module _ (l : Layout) (is : IsLayout l) (n : ℕ) where
  -- a command is answered, and the hold knows something more of its position
  leaves : (device : Devices) (gave : ℕ → Option Block) (frame : ℕ → Option Hold) (command : ℕ → Option Command) (slots : ℕ → SlotState) (tokens : ℕ) (array : Array)
      → (r : Rows l n device gave frame command slots tokens array) → (f : ℕ) (h : Hold) → (here : frame f ≡ Some h) → (course : Course) (plan : Plan) → (token : ℕ) (c : Command) → command token ≡ Some c → (on : c.abandoned ≡ false) → (at : c.frame ≡ f)
      → (mine : Going l (gave token) slots h (r.held f h here).out c)
      → course.kind ≡ h.course.kind → course.size ≡ h.course.size → length course.cells ≡ length h.course.cells
      → ((side : Bool) (k : ℕ) → standing_on side (cell_at course.cells k) ≡ standing_on side (cell_at h.course.cells k))
      → ((k : ℕ) → (k ≡ l.position h.row c.slot → ⊥) → cell_at course.cells k ≡ cell_at h.course.cells k)
      → ((side : Bool) (x : Transfer) → (side ≡ mine.side → ⊥) → Moves side x (cell_at h.course.cells (l.position h.row c.slot)) → Moves side x (cell_at course.cells (l.position h.row c.slot)))
      → ((side copy : Bool) (k : ℕ) → CopiesTo side copy (cell_at h.course.cells k) → CopiesTo side copy (cell_at course.cells k))
      → ((k : ℕ) → Doubles (cell_at course.cells k))
      → ((out : Bool → ℕ → RowCommand) → SeenTwice h.course (block_seen l device slots h.row) out (full_row l array h.row) → out mine.side (l.position h.row c.slot) ≡ command_seen (gave token) c.transfer
      → SeenTwice course (block_seen l device slots h.row) (put_on out mine.side (l.position h.row c.slot) NoCommand) (full_row l array h.row))
      → Rows l n device gave (put frame f (Some (record h { course = course; plan = plan }))) (put command token None) slots tokens array
  leaves device gave frame command slots tokens array r f h here course plan token c is-out on in-frame mine kind size long standing cells stay copied doubles goes =
      let at : ℕ = l.position h.row c.slot in
      let old = r.held f h here in
      let command' : ℕ → Option Command = put command token None in
      let was : (t : ℕ) (k : Command) → command' t ≡ Some k → (t ≡ token → ⊥) × (command t ≡ Some k) =
      (λ t k e. elim (put-cases command token None t (Some k) e) [
        | inl p ↦ absurd (not_both None k refl p.1)
        | inr p ↦ p
      ]) in
      -- another command goes elsewhere, or to the other device
      let elsewhere : (t : ℕ) (k : Command) → command' t ≡ Some k → (on' : k.abandoned ≡ false) → k.frame ≡ f → (o : Going l (gave t) slots h old.out k) → o.side ≡ mine.side → l.position h.row k.slot ≡ at → ⊥ =
      (λ t k e on' at' o same same'.
      let p = was t k e in
      let slot-is : k.slot ≡ c.slot = same-slot l is n h.row k.slot c.slot old.in_shard.0 o.in_range mine.in_range same' in
      let generation : k.generation ≡ c.generation =
      o.uses.1 ∙ ap (λ y. device_on y (slots k.slot)) same ∙ ap (λ y. device_on mine.side (slots y)) slot-is ∙ sym mine.uses.1 in
      p.0 (old.single t token k c p.1 is-out on' on at' in-frame slot-is generation)) in
      replaces l is n device gave frame command command' slots tokens tokens array r f h (record h { course = course; plan = plan }) here refl
      (λ t k e ne. (was t k e).1) (λ t k e off. (was t k e).1) (λ t k e. r.given_token t k (was t k e).1) (omega arith)
      (record {
        in_shard = old.in_shard;
        is_kind = kind ∙ old.is_kind;
        size_is = size ∙ old.size_is;
        wide = long ∙ old.wide;
        rebuilds = old.rebuilds;
        low = old.low;
        stands = λ side slot below. subst (Stands h.task slot h.row side (slots slot)) (sym (standing side (l.position h.row slot))) (old.stands side slot below);
        doubles = doubles;
        out = put_on old.out mine.side at NoCommand;
        seen = goes old.out old.seen mine.seen_as;
        commands = λ t k e on' at'.
            let o = old.commands t k (was t k e).1 on' at' in
            let ne = elsewhere t k e on' at' o in
            record {
              side = o.side;
              in_row = o.in_row;
              in_range = o.in_range;
              uses = o.uses;
              not_out = λ e'. o.not_out (sym (standing o.side (l.position h.row k.slot)) ∙ e');
              seen_as = put_on-other old.out mine.side at NoCommand o.side (l.position h.row k.slot) ne ∙ o.seen_as;
              moves = elim (cases_eq (l.position h.row k.slot) at) [
                | inl same ↦ subst (λ y. Moves o.side k.transfer (cell_at course.cells y)) (sym same)
                    (stay o.side k.transfer (λ e'. ne e' same) (subst (λ y. Moves o.side k.transfer (cell_at h.course.cells y)) same o.moves))
                | inr other ↦ subst (Moves o.side k.transfer) (sym (cells (l.position h.row k.slot) other)) o.moves
              ];
              copies = copied o.side k.copy (l.position h.row k.slot) o.copies;
            };
        single = λ t t' k k' e e' on1 on2 at1 at2 same same'. old.single t t' k k' (was t k e).1 (was t' k' e').1 on1 on2 at1 at2 same same';
      })

  -- the event by which a hold hears of the answer to a write
  abbrev AnswerOf : Course → ℕ → Reading → Type 0
  AnswerOf course at reading = (event : Event) × IsNoMove event × Needs event (cell_at course.cells at) × (after_event course (RowWorld.confirming reading at) ≡ after_event course event)
      × ((k : ℕ) → (k ≡ at → ⊥) → cell_at (after_event course event).cells k ≡ cell_at course.cells k)
      × ((side' : Bool) (y : Transfer) (later : Cell) → (side' ≡ false → ⊥) → Became event at (cell_at course.cells at) later → Moves side' y (cell_at course.cells at) → Moves side' y later)

  -- and to any command
  pub by_answer : (side : Bool) (course : Course) (at : ℕ) (x : Transfer) (b : Block) → Moves side x (cell_at course.cells at)
      → (event : Event) × IsNoMove event × Needs event (cell_at course.cells at) × (answered_on side course at (command_seen (Some b) x) ≡ after_event course event)
      × ((k : ℕ) → (k ≡ at → ⊥) → cell_at (after_event course event).cells k ≡ cell_at course.cells k)
      × ((side' : Bool) (y : Transfer) (later : Cell) → (side' ≡ side → ⊥) → Became event at (cell_at course.cells at) later → Moves side' y (cell_at course.cells at) → Moves side' y later)
  by_answer false course at Fetch b m = (Gives at b, tt, tt, refl, (λ k ne. cell-other course.cells at k _ ne), λ side' y later ne became m'. subst (Moves side' y) (sym became.1) (second-stays side' y (Known b) ne m'))
    where
      second-stays : (side' : Bool) (y : Transfer) (reading : Reading) → (side' ≡ false → ⊥) → Moves side' y (cell_at course.cells at) → Moves side' y (record (cell_at course.cells at) { reading = reading })
      second-stays false y reading ne m = absurd (ne refl)
      second-stays true Fetch reading ne m = m
      second-stays true (Store b') reading ne m = m
      second-stays true Storing reading ne m = m
  by_answer false course at (Store b') b m = by (cell_at course.cells at).reading refl
    where
      second-stays : (side' : Bool) (y : Transfer) (reading : Reading) (writing : Writing) → (side' ≡ false → ⊥) → Moves side' y (cell_at course.cells at) → Moves side' y (record (cell_at course.cells at) { reading = reading; writing = writing })
      second-stays false y reading writing ne m = absurd (ne refl)
      second-stays true Fetch reading writing ne m = m
      second-stays true (Store b') reading writing ne m = m
      second-stays true Storing reading writing ne m = m

      mends : AnswerOf course at Fixing
      mends = (Mends at, tt, tt, refl, (λ k ne. cell-other course.cells at k _ ne), λ side' y later ne became m'. subst (Moves side' y) (sym became.1) (second-stays side' y Fixed (cell_at course.cells at).writing ne m'))

      sent : (reading : Reading) → (cell_at course.cells at).reading ≡ reading → (reading ≡ Fixing → ⊥) → (cell_at course.cells at).writing ≡ Sent
      sent reading is ne = elim m [ inl e ↦ e | inr e ↦ absurd (ne (sym is ∙ e)) ]

      confirms : (reading : Reading) → (cell_at course.cells at).reading ≡ reading → (reading ≡ Fixing → ⊥) → RowWorld.confirming reading at ≡ Confirms at → AnswerOf course at reading
      confirms reading is ne same = (
        Confirms at,
        tt,
        sent reading is ne,
        ap (after_event course) same,
        (λ k ne'. cell-other course.cells at k _ ne'),
        λ side' y later ne' became m'. subst (Moves side' y) (sym became.1) (second-stays side' y (cell_at course.cells at).reading Confirmed ne' m'),
      )

      by : (reading : Reading) → (cell_at course.cells at).reading ≡ reading → AnswerOf course at (cell_at course.cells at).reading
      by Fixing is = subst (AnswerOf course at) (sym is) mends
      by Unread is = subst (AnswerOf course at) (sym is) (confirms Unread is (λ e. absurd (cc)) refl)
      by Recalled is = subst (AnswerOf course at) (sym is) (confirms Recalled is (λ e. absurd (cc)) refl)
      by Asked is = subst (AnswerOf course at) (sym is) (confirms Asked is (λ e. absurd (cc)) refl)
      by Unreadable is = subst (AnswerOf course at) (sym is) (confirms Unreadable is (λ e. absurd (cc)) refl)
      by Fixed is = subst (AnswerOf course at) (sym is) (confirms Fixed is (λ e. absurd (cc)) refl)
      by AskedAgain is = subst (AnswerOf course at) (sym is) (confirms AskedAgain is (λ e. absurd (cc)) refl)
      by (Known block) is = subst (AnswerOf course at) (sym is) (confirms (Known block) is (λ e. absurd (cc)) refl)
      by Replaced is = subst (AnswerOf course at) (sym is) (confirms Replaced is (λ e. absurd (cc)) refl)
  by_answer false course at Storing b m = absurd m
  by_answer true course at Fetch b m = absurd m
  by_answer true course at (Store b') b m = (Settles at, tt, tt, refl, (λ k ne. cell-other course.cells at k _ ne), λ side' y later ne became m'. subst (Moves side' y) (sym became.1) (first-stays side' y ne m'))
    where
      first-stays : (side' : Bool) (y : Transfer) → (side' ≡ true → ⊥) → Moves side' y (cell_at course.cells at) → Moves side' y (record (cell_at course.cells at) { copying = Confirmed })
      first-stays true y ne m = absurd (ne refl)
      first-stays false Fetch ne m = m
      first-stays false (Store b'') ne m = m
      first-stays false Storing ne m = m
  by_answer true course at Storing b m = absurd m

  -- with what its device gave
  pub answers : (device : Devices) (gave : ℕ → Option Block) (frame : ℕ → Option Hold) (command : ℕ → Option Command) (slots : ℕ → SlotState) (tokens : ℕ) (array : Array)
      → (r : Rows l n device gave frame command slots tokens array) → (f : ℕ) (h : Hold) → (here : frame f ≡ Some h) → (token : ℕ) (c : Command) → (is-out : command token ≡ Some c) → (on : c.abandoned ≡ false) → (in-frame : c.frame ≡ f)
      → (b : Block) → gave token ≡ Some b
      → Rows l n device gave (put frame f (Some (record h { course = answered_on ((r.held f h here).commands token c is-out on in-frame).side h.course (l.position h.row c.slot) (command_seen (Some b) c.transfer) }))) (put command token None) slots tokens array
  answers device gave frame command slots tokens array r f h here token c is-out on in-frame b given =
      let at : ℕ = l.position h.row c.slot in
      let x : RowCommand = command_seen (Some b) c.transfer in
      let mine = (r.held f h here).commands token c is-out on in-frame in
      let side = mine.side in
      let y = by_answer side h.course at c.transfer b mine.moves in
      let d = (r.held f h here).doubles in
      let same : answered_on side h.course at x ≡ after_event h.course y.0 = y.3 in
      leaves device gave frame command slots tokens array r f h here (answered_on side h.course at x) h.plan token c is-out on in-frame mine
      (kind-same side h.course at x) (size-same side h.course at x)
      (answered_on-length side h.course at x) (λ side' k. answered-cells side side' h.course at k x)
      (λ k ne. ap (λ (z : Course). cell_at z.cells k) same ∙ y.4 k ne)
      (λ side' z ne m. elim (cell_after h.course y.0 at) [
        | inl e ↦ subst (Moves side' z) (sym (ap (λ (w : Course). cell_at w.cells at) same ∙ e)) m
        | inr became ↦ subst (λ (w : Course). Moves side' z (cell_at w.cells at)) (sym same) (y.5 side' z _ ne became m)
      ])
      (λ side' copy k q. subst (λ (w : Course). CopiesTo side' copy (cell_at w.cells k)) (sym same) (copies-after h.course y.0 k y.1 (d k) side' copy q))
      (λ k. subst (λ (w : Course). Doubles (cell_at w.cells k)) (sym same) (doubles-at h.course y.0 d at y.2 y.4 k))
      (λ out seen seen-as'.
      let seen-as : out side at ≡ x = seen-as' ∙ ap (λ z. command_seen z c.transfer) given in
      subst (λ z. SeenTwice (answered_on side h.course at z) (block_seen l device slots h.row) (put_on out side at NoCommand) (full_row l array h.row)) seen-as
      (Laws.answers h.course (block_seen l device slots h.row) out (full_row l array h.row) side at seen mine.not_out (subst IsPerformed (sym seen-as) (performed-command side c.transfer (cell_at h.course.cells at) mine.moves))))
    where
      performed-command : (side : Bool) (x : Transfer) (cell : Cell) → Moves side x cell → IsPerformed (command_seen (Some b) x)
      performed-command false Fetch cell m = tt
      performed-command false (Store b') cell m = tt
      performed-command false Storing cell m = absurd m
      performed-command true Fetch cell m = absurd m
      performed-command true (Store b') cell m = tt
      performed-command true Storing cell m = absurd m

      settled-same : (hold : Course) (position : ℕ) (y : RowCommand) → ((RowWorld.settled hold position y).kind ≡ hold.kind) × ((RowWorld.settled hold position y).size ≡ hold.size)
      settled-same hold position NoCommand = (refl, refl)
      settled-same hold position ReadOut = (refl, refl)
      settled-same hold position (ReadPerformed block) = (refl, refl)
      settled-same hold position (WriteOut block) = (refl, refl)
      settled-same hold position (WritePerformed block) = (refl, refl)

      kind-same : (side : Bool) (hold : Course) (position : ℕ) (y : RowCommand) → (answered_on side hold position y).kind ≡ hold.kind
      kind-same false hold position y = (answered_same hold position y).0
      kind-same true hold position y = (settled-same hold position y).0

      size-same : (side : Bool) (hold : Course) (position : ℕ) (y : RowCommand) → (answered_on side hold position y).size ≡ hold.size
      size-same false hold position y = (answered_same hold position y).1
      size-same true hold position y = (settled-same hold position y).1

  -- by a read error that loses nothing
  pub fails : (device : Devices) (gave : ℕ → Option Block) (frame : ℕ → Option Hold) (command : ℕ → Option Command) (slots : ℕ → SlotState) (tokens : ℕ) (array : Array)
      → Rows l n device gave frame command slots tokens array → (f : ℕ) (h : Hold) → frame f ≡ Some h → (token : ℕ) (c : Command) → command token ≡ Some c → c.abandoned ≡ false → c.frame ≡ f
      → c.transfer ≡ Fetch → (cell_at h.course.cells (l.position h.row c.slot)).reading ≡ Asked → (plan : Plan)
      → Rows l n device gave (put frame f (Some (record h { course = after_event h.course (Fails (l.position h.row c.slot)); plan = plan }))) (put command token None) slots tokens array
  fails device gave frame command slots tokens array r f h here token c is-out on in-frame fetch asked plan =
      let at : ℕ = l.position h.row c.slot in
      let cells = h.course.cells in
      let cell : Cell = record (cell_at cells at) { reading = Unreadable } in
      let mine = (r.held f h here).commands token c is-out on in-frame in
      let d = (r.held f h here).doubles in
      let first : mine.side ≡ false = read-first mine.side (cell_at cells at) (subst (λ y. Moves mine.side y (cell_at cells at)) fetch mine.moves) in
      leaves device gave frame command slots tokens array r f h here (after_event h.course (Fails at)) plan token c is-out on in-frame mine refl refl
      (length-set cells at cell) (λ side k. stood side k) (λ k ne. cell-other cells at k cell ne)
      (λ side y ne m. elim (cell_after h.course (Fails at) at) [
        | inl same ↦ subst (Moves side y) (sym same) m
        | inr became ↦ subst (Moves side y) (sym became.1) (second-stays side y (λ e. ne (e ∙ sym first)) m)
      ])
      (λ side copy k. copies-after h.course (Fails at) k tt (d k) side copy) (λ k. doubles-after h.course (Fails at) k tt (d k))
      (λ out seen seen-as.
      let seen-first : out false at ≡ command_seen (gave token) Fetch = ap (λ y. out y at) (sym first) ∙ seen-as ∙ ap (command_seen (gave token)) fetch in
      subst (λ y. SeenTwice (after_event h.course (Fails at)) (block_seen l device slots h.row) (put_on out y at NoCommand) (full_row l array h.row)) (sym first)
      (Laws.fails h.course (block_seen l device slots h.row) out (full_row l array h.row) at seen
      (subst (λ y. standing_on y (cell_at cells at) ≢ Out) first mine.not_out) (subst IsRead (sym seen-first) (reads (gave token))) asked))
    where
      reads : (gave : Option Block) → IsRead (command_seen gave Fetch)
      reads None = tt
      reads (Some b) = tt

      read-first : (side : Bool) (cell : Cell) → Moves side Fetch cell → side ≡ false
      read-first false cell m = refl
      read-first true cell m = absurd m

      second-stays : (side : Bool) (y : Transfer) → (side ≡ false → ⊥) → Moves side y (cell_at h.course.cells (l.position h.row c.slot)) → Moves side y (record (cell_at h.course.cells (l.position h.row c.slot)) { reading = Unreadable })
      second-stays false y ne m = absurd (ne refl)
      second-stays true Fetch ne m = m
      second-stays true (Store b') ne m = m
      second-stays true Storing ne m = m

      stood : (side : Bool) (k : ℕ) → standing_on side (cell_at (after_event h.course (Fails (l.position h.row c.slot))).cells k) ≡ standing_on side (cell_at h.course.cells k)
      stood false k = standing-set false h.course.cells (l.position h.row c.slot) k _ refl
      stood true k = standing-set true h.course.cells (l.position h.row c.slot) k _ refl
