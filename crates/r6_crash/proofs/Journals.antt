-- A replay of the journal leaves every row as one list has it.
use Rattle.std.proofs.Common.{◌≡◌, ℕ, ◌<◌, ◌≤◌, ◌⊎◌, List, [], length, Bool, true, false, inl, inr, refl, sym, ap, ◌∙◌, subst, arith, Option, Some, None}
use Rattle.std.proofs.lemmas.Bool.{cases_lt, cases_Bool, false≢true}
use Rattle.r6_kernels.specs.Blocks.{IsBlock}
use Rattle.r6_recover.specs.Rows.{IsFull, block_at}
use Rattle.r6_stripe.specs.Holds.{Hold as Course, Cell, Standing, Reading, Writing, cell_at, after}
use Rattle.r6_stripe.specs.Holds.Standing.{InSync}
use Rattle.r6_stripe.specs.Holds.Writing.{Sent, Confirmed}
use Rattle.r6_stripe.specs.RowWorld.{Command as RowCommand, Device, device_at, run, current}
use Rattle.r6_stripe.specs.RowWorld.Command.{NoCommand, ReadOut, ReadPerformed, WriteOut, WritePerformed}
use Rattle.r6_stripe.proofs.Kept.{Kept as RowKept}
use Rattle.r6_stripe.proofs.Law.{start_kept, run_kept}
use Rattle.r6_stripe.proofs.Sound.{Live}
use Rattle.r6_layout.specs.PlainArray.{Block}
use Rattle.r6_world.specs.PlainArray.{Plain, Array}
use Rattle.r6_world.specs.Layouts.{Layout, IsLayout, IsRowOf, content, full_row}
use Rattle.r6_world.specs.Registers.{Snapshot}
use Rattle.r6_world.specs.Tasks.{Task, ReadFor, WriteFor, Rebuild, Check, Repair, Hold, Write as RowWrite, is_written}
use Rattle.r6_world.specs.ShardStates.{Shard, IsLive, Command, Transfer, Fetch, Store, Storing, Held, generation_in, frames, found}
use Rattle.r6_world.specs.Worlds.{World, started}
use Rattle.r6_world.specs.Laws.{at_start}
use Rattle.r6_world.specs.Witness.{after_all}
use Rattle.r6_world.proofs.Tables.{Some-inj, not_both}
use Rattle.r6_world.proofs.Uses.{stands_on, on-has, one-side-of}
use Rattle.r6_world.proofs.Cells.{found-stands, not-out-within}
use Rattle.r6_world.proofs.FullRows.{IsBatch, written, written-other, row-at, row-wide, first-same}
use Rattle.r6_world.proofs.Rows.Twice as Laws
use Rattle.r6_world.proofs.Rows.Twice.{SeenTwice}
use Rattle.r6_world.proofs.Rows.SeenRows.{Rows, HeldRow, Going, Moves, block_seen, command_seen, in_sync_is_not_out, stands-in}
use Rattle.r6_world.proofs.Rows.Flights.{restored, with_block, restored-is, is-fetch}
use Rattle.r6_world.proofs.Rows.Endings.{same-after, written-after}
use Rattle.r6_world.proofs.Rows.Shards.{Sound}
use Rattle.r6_world.proofs.Acts.Aheads.{In, written-in, written-own}
use Rattle.r6_world.proofs.Acts.Acting.{other-hold, settled-row, unwritten-same, held-batch}
use Rattle.r6_world.proofs.Acts.Requests.{Serves}
use Rattle.r6_world.proofs.Laws.Kept.{Kept, sight}
use Rattle.r6_crash.specs.Crashes.{IsServed, IsRegisterOf, Remains, as_first, plain_after_all}
use Rattle.r6_crash.specs.Caches.{IsOpenWrite}
use Rattle.r6_crash.specs.Replays.{IsPutOut}
use Rattle.r6_crash.specs.Journals.{IsPut, IsOut, SentIsPut, BatchesAreWhole, IsJournaled, IsReplayed, StartsAgain, JournalLaw}
use Rattle.r6_crash.proofs.Starts.{starts}
use Rattle.r6_crash.proofs.Stands.{IsShardOf, kept-run, first-sync, after-kept, find-hold}
use Rattle.r6_crash.proofs.Replays.{replays, settle, stays}

-- ---- one position of a row

-- what is true of a position in sync
live-of : (hold : Course) (block : Bool → ℕ → Block) (out : Bool → ℕ → RowCommand) (row : List Block) (x : SeenTwice hold block out row) (at : ℕ) → (cell_at hold.cells at).standing ≡ InSync
    → Live (block_at row at) (block_at (after hold row) at) InSync (cell_at hold.cells at).reading (cell_at hold.cells at).writing (out false at) (block false at)
live-of hold block out row x at sync =
    let here = run x.start x.steps in
    let kept : RowKept (current x.start x.steps x.first) here =
    (run_kept x.steps x.start x.first x.full (start_kept x.start x.first x.at_rest x.full) x.may).1 in
    let Is : Course → List Block → List Block → Device → Standing → Type 0 =
    (λ h r n d s. Live (block_at r at) (block_at n at) s (cell_at h.cells at).reading (cell_at h.cells at).writing
    d.command d.block) in
    let there : (cell_at here.hold.cells at).standing ≡ InSync =
    ap (λ (h : Course). (cell_at h.cells at).standing) x.hold_is ∙ sync in
    let own : Is here.hold (current x.start x.steps x.first) (after here.hold (current x.start x.steps x.first)) (device_at here.devices at) InSync =
    subst (λ s. Is here.hold (current x.start x.steps x.first) (after here.hold (current x.start x.steps x.first))
    (device_at here.devices at) s) there
    (subst (λ n. Is here.hold (current x.start x.steps x.first) n (device_at here.devices at)
    (cell_at here.hold.cells at).standing) (sym kept.next_is)
    ((kept.here at).sound.live (in_sync_is_not_out _ there))) in
    subst (λ d. Is hold row (after hold row) d InSync) (x.firsts at (in_sync_is_not_out _ sync))
    (subst (λ h. Is h row (after h row) (device_at here.devices at) InSync) x.hold_is
    (subst (λ r. Is here.hold r (after here.hold r) (device_at here.devices at) InSync) x.row_is own))

-- a write that is out is seen so
seen-put : (gave : Option Block) (b put : Block) → WriteOut put ≡ command_seen gave (Store b) → put ≡ b
seen-put None b put e = cc
seen-put (Some g) b put e = absurd (cc)

seen-done : (gave : Option Block) (b put : Block) → WritePerformed put ≡ command_seen gave (Store b) → put ≡ b
seen-done None b put e = absurd (cc)
seen-done (Some g) b put e = cc

seen-none : (gave : Option Block) (b : Block) → NoCommand ≡ command_seen gave (Store b) → ⊥
seen-none None b e = cc
seen-none (Some g) b e = cc

seen-read : (gave : Option Block) (b : Block) → ReadOut ≡ command_seen gave (Store b) → ⊥
seen-read None b e = cc
seen-read (Some g) b e = cc

seen-given : (gave : Option Block) (b given : Block) → ReadPerformed given ≡ command_seen gave (Store b) → ⊥
seen-given None b given e = cc
seen-given (Some g) b given e = cc

performed-not-out : (put b : Block) → WritePerformed put ≡ WriteOut b → ⊥
performed-not-out put b e = cc

-- what is left on the device: what stood there, or the block of a write that is out
abbrev Stayed : (command : RowCommand) (block left : Block) → Type 0
Stayed command block left =
    (left ≡ block) ⊎ ((b : Block) × (gave : Option Block) × (command ≡ command_seen gave (Store b)) × (left ≡ b))

abbrev Put : (command : RowCommand) (left : Block) → Type 0
Put command left = (b : Block) × (gave : Option Block) × (command ≡ command_seen gave (Store b)) × (left ≡ b)

module _ (old new : Block) (reading : Reading) (writing : Writing) (block left : Block) where
  -- after the replay it is the new block
  gets-new : (command : RowCommand) → Live old new InSync reading writing command block → IsPutOut writing ⊎ (old ≡ new)
      → Stayed command block left → (writing ≡ Sent → Put command left) → left ≡ new
  gets-new NoCommand live or (inl same) sent = same ∙ replays old new reading writing block NoCommand or live
  gets-new NoCommand live or (inr p) sent = absurd (seen-none p.1 p.0 p.2)
  gets-new ReadOut live or (inl same) sent = same ∙ replays old new reading writing block ReadOut or live
  gets-new ReadOut live or (inr p) sent = absurd (seen-read p.1 p.0 p.2)
  gets-new (ReadPerformed given) live or (inl same) sent =
      same ∙ replays old new reading writing block (ReadPerformed given) or live
  gets-new (ReadPerformed given) live or (inr p) sent = absurd (seen-given p.1 p.0 given p.2)
  gets-new (WriteOut put) (inl h) or stayed sent = let p = sent h.0 in p.3 ∙ sym (seen-put p.1 p.0 put p.2) ∙ h.1
  gets-new (WriteOut put) (inr h) or (inl same) sent = settle old new reading writing block or h.2 left (same ∙ h.4)
  gets-new (WriteOut put) (inr h) or (inr p) sent =
      settle old new reading writing block or h.2 left (p.3 ∙ sym (seen-put p.1 p.0 put p.2) ∙ h.3)
  gets-new (WritePerformed put) (inl h) or stayed sent = let p = sent h.0 in p.3 ∙ sym (seen-done p.1 p.0 put p.2) ∙ h.1
  gets-new (WritePerformed put) (inr h) or (inl same) sent =
      settle old new reading writing block or h.2 left (same ∙ h.4)
  gets-new (WritePerformed put) (inr h) or (inr p) sent =
      settle old new reading writing block or h.2 left (p.3 ∙ sym (seen-done p.1 p.0 put p.2) ∙ h.3)

  -- where no write was performed it is the old one
  keeps-old : (command : RowCommand) → Live old new InSync reading writing command block → (writing ≡ Confirmed → ⊥)
      → (writing ≡ Sent → (b : Block) × (command ≡ WriteOut b)) → block ≡ old
  keeps-old NoCommand (inl h) none sent = h.1
  keeps-old NoCommand (inr (inl h)) none sent = h.3
  keeps-old NoCommand (inr (inr h)) none sent = absurd (none h.0)
  keeps-old ReadOut h none sent = h.3
  keeps-old (ReadPerformed given) h none sent = h.3
  keeps-old (WriteOut put) (inl h) none sent = h.2
  keeps-old (WriteOut put) (inr h) none sent = h.4
  keeps-old (WritePerformed put) (inl h) none sent = let p = sent h.0 in absurd (performed-not-out put p.0 p.1)
  keeps-old (WritePerformed put) (inr h) none sent = h.4

  -- and so is a fix that is out
  fixes-old : (command : RowCommand) → Live old new InSync reading writing command block → (writing ≡ Sent → ⊥)
      → (b : Block) (gave : Option Block) → command ≡ command_seen gave (Store b) → b ≡ old
  fixes-old NoCommand h unsent b gave e = absurd (seen-none gave b e)
  fixes-old ReadOut h unsent b gave e = absurd (seen-read gave b e)
  fixes-old (ReadPerformed given) h unsent b gave e = absurd (seen-given gave b given e)
  fixes-old (WriteOut put) (inl h) unsent b gave e = absurd (unsent h.0)
  fixes-old (WriteOut put) (inr h) unsent b gave e = sym (seen-put gave b put e) ∙ h.3
  fixes-old (WritePerformed put) (inl h) unsent b gave e = absurd (unsent h.0)
  fixes-old (WritePerformed put) (inr h) unsent b gave e = sym (seen-done gave b put e) ∙ h.3

-- a hold writes, or doesn't
task-writes : (task : Task)
    → ((writes : List RowWrite) × (task ≡ WriteFor writes)) ⊎ ((writes : List RowWrite) → task ≡ WriteFor writes → ⊥)
task-writes (ReadFor id block) = inr (λ writes e. cc)
task-writes (WriteFor writes) = inl (writes, refl)
task-writes (Rebuild slot g) = inr (λ writes e. cc)
task-writes Check = inr (λ writes e. cc)
task-writes Repair = inr (λ writes e. cc)

-- ---- one row

module _ (l : Layout) (is : IsLayout l) (w : World) (plain : Plain) (x : Kept l (IsShardOf l) w plain) (lost : ℕ → Bool) (device_of : ℕ → ℕ) (served : IsServed l lost device_of w)
    (sent-put : SentIsPut l lost device_of w) (whole-batches : BatchesAreWhole l w) (logged : ℕ → Bool)
    (journal : IsJournaled l lost device_of w plain logged) (left : Remains)
    (replay : IsReplayed l lost device_of w logged left) where
  -- a list that has this row
  record RowLeft (row : ℕ) : Type 0 where
    list : Array
    full : IsFull l.size (full_row l list row)
    stands : (slot : ℕ) → slot < l.slots → lost slot ≡ false → left slot row ≡ content l list row slot
    blocks : (block : ℕ) → block < l.blocks → l.row_of block ≡ row
        → (list block ≡ plain.array block) ⊎ IsOpenWrite w block (list block)

  module _ (row : ℕ) (below : row < l.rows) where
    abbrev n : ℕ
    n = l.shard_of row

    abbrev s : Shard
    s = w.shard (l.shard_of row)

    judged : l.shard_of row < l.shards
    judged = (is.shared row below).0

    live : IsLive l (w.shard (l.shard_of row))
    live = served.live (l.shard_of row) judged

    abbrev snd : Sound l (l.shard_of row) w.device (sight w (l.shard_of row)) (w.shard (l.shard_of row)) plain.array (plain.answers (l.shard_of row))
    snd = x.sounds (l.shard_of row) judged

    abbrev rows : Rows l (l.shard_of row) w.device (w.performed (l.shard_of row)) s.frame (restored s.command (w.flight (l.shard_of row))) s.slot s.tokens snd.settled
    rows = snd.rows live

    -- the command of a write that is put out, where it carries this
    abbrev put-command : (slot : ℕ) → IsPut w n slot (device_of slot) row → Transfer → Command
    put-command slot o carried = record {
      frame = o.frame;
      slot = slot;
      generation = device_of slot;
      row = row;
      transfer = carried;
      taken = o.taken;
      abandoned = false;
      copy = o.copy;
    }

    -- as the row's hold sees it
    put-in : (f : ℕ) (h : Hold) (here : s.frame f ≡ Some h) → h.row ≡ row → (slot : ℕ) → slot < l.slots
        → lost slot ≡ false → (o : IsPut w n slot (device_of slot) row) → (tr : Transfer)
        → restored s.command (w.flight n) o.token ≡ Some (put-command slot o tr)
        → (rows.held f h here).out false (l.position h.row slot) ≡ command_seen (w.performed n o.token) tr
    put-in f h here at slot inside kept o tr e =
        let k : Command = put-command slot o tr in
        let fr = rows.framed o.token k e refl o.of_hold in
        let in-frame = (rows.held o.frame fr.0 fr.1).commands o.token k e refl refl in
        let same : o.frame ≡ f = rows.alone f o.frame h fr.0 here fr.1 (sym in-frame.in_row ∙ sym at) in
        let going : Going l (w.performed n o.token) s.slot h (rows.held f h here).out k =
        (rows.held f h here).commands o.token k e refl same in
        let first = (served.read_from row slot below inside kept).0 in
        let sync = first-sync (s.slot slot) row (device_of slot) first.0 in
        let side : going.side ≡ false =
        one-side-of (s.slot slot) (device_of slot) going.side false (rows.ordered slot) going.uses
        (on-has false (s.slot slot) row sync, first.1) in
        ap (λ d. (rows.held f h here).out d (l.position h.row slot)) (sym side) ∙ going.seen_as

    -- the block that it carries, in the core or outside
    carried : (slot : ℕ) → (o : IsPut w n slot (device_of slot) row)
        → (b : Block) × (restored s.command (w.flight n) o.token ≡ Some (put-command slot o (Store b)))
    carried slot o =
        let c : Command = put-command slot o o.kept in
        let x' = restored-is s.command (w.flight n) s.tokens snd.flies o.token c o.here in
        let k : Command = record c { transfer = x'.transfer } in
        let fr = rows.framed o.token k x'.there refl o.of_hold in
        let going = (rows.held o.frame fr.0 fr.1).commands o.token k x'.there refl refl in
        let st =
        stored going.side x'.transfer _ (λ fetch. o.is_write (is-fetch x'.transfer o.kept x'.moves fetch))
        going.moves in
        (st.0, x'.there ∙ ap (λ y. Some (record c { transfer = y })) st.1)
      where
        stored : (side : Bool) (y : Transfer) (cell : Cell) → (y ≡ Fetch → ⊥) → Moves side y cell
            → (b : Block) × (y ≡ Store b)
        stored side Fetch cell ne m = absurd (ne refl)
        stored side (Store b) cell ne m = (b, refl)
        stored false Storing cell ne m = absurd m
        stored true Storing cell ne m = absurd m

    -- and where it was taken that of the command that left
    taken-is : (slot : ℕ) (b : Block) → (o : IsOut w n slot (device_of slot) row b)
        → restored s.command (w.flight n) o.put.token ≡ Some (put-command slot o.put (Store b))
    taken-is slot b o =
        let c : Command = put-command slot o.put o.put.kept in
        ap (λ y. with_block y (w.flight n o.put.token)) o.put.here ∙ ap (with_block (Some c)) o.flies
        ∙ ap (λ y. Some (record c { transfer = y })) o.carries

    seen-out : (f : ℕ) (h : Hold) (here : s.frame f ≡ Some h) → h.row ≡ row → (slot : ℕ) → slot < l.slots
        → lost slot ≡ false → (b : Block) → (o : IsOut w n slot (device_of slot) row b)
        → (rows.held f h here).out false (l.position h.row slot) ≡ command_seen (w.performed n o.put.token) (Store b)
    seen-out f h here at slot inside kept b o = put-in f h here at slot inside kept o.put (Store b) (taken-is slot b o)

    row-idle : ((f : ℕ) (h : Hold) → f < frames → s.frame f ≡ Some h → h.row ≡ row → ⊥) → RowLeft row
    row-idle none =
        let unheld : (f : ℕ) (h : Hold) → s.frame f ≡ Some h → h.row ≡ row → ⊥ =
        (λ f h e same. none f h (rows.held f h e).low e same) in
        let y = rows.idle row (below, refl) unheld in
        record {
          list = snd.settled;
          full = Laws.full (found l s.slot row) (block_seen l w.device s.slot row) y.0 (full_row l snd.settled row) y.1;
          stands = λ slot inside kept.
              let p = is.there row slot below inside in
              let first = (served.read_from row slot below inside kept).0 in
              let sync = first-sync (s.slot slot) row (device_of slot) first.0 in
              elim (replay.nothing_else row slot below inside kept) [
                | inl same ↦
                    same ∙ ap (λ g. w.device slot g row) first.1
                    ∙ ap (λ d. w.device d (generation_in (s.slot d)) row) (sym p.1)
                    ∙ Laws.idle (found l s.slot row) (block_seen l w.device s.slot row) y.0 (full_row l snd.settled row)
                    false y.1 refl (l.position row slot)
                    (found-stands false l s.slot row (l.position row slot) p.0
                    ∙ ap (λ d. stands_on false (s.slot d) row) p.1 ∙ sync)
                | inr put ↦
                    let o = put.1 in
                    let fr = rows.framed o.put.token _ (taken-is slot put.0 o) refl o.put.of_hold in
                    absurd (unheld o.put.frame fr.0 fr.1
                    (sym ((rows.held o.put.frame fr.0 fr.1).commands o.put.token _ (taken-is slot put.0 o) refl
                    refl).in_row))
              ];
          blocks = λ block inside at. elim (snd.ahead.agrees live block (subst (IsRowOf l n) (sym at) (below, refl))) [
            | inl same ↦ inl (sym same)
            | inr o ↦ absurd (unheld o.frame_of o.hold o.here (o.row ∙ at))
          ];
        }

    module _ (f : ℕ) (h : Hold) (here : s.frame f ≡ Some h) (at : h.row ≡ row) where
      abbrev y : HeldRow l (l.shard_of row) w.device (w.performed (l.shard_of row)) (restored s.command (w.flight (l.shard_of row))) s.slot snd.settled f h
      y = rows.held f h here

      abbrev old : List Block
      old = full_row l snd.settled h.row

      abbrev seen : Bool → ℕ → Block
      seen = block_seen l w.device s.slot h.row

      position-in : (slot : ℕ) → slot < l.slots → lost slot ≡ false
          → (cell_at h.course.cells (l.position h.row slot)).standing ≡ InSync
      position-in slot inside kept =
          let first = (served.read_from row slot below inside kept).0 in
          stands-in h.task slot h.row false (s.slot slot) _ (y.stands false slot inside)
          (ap (stands_on false (s.slot slot)) at ∙ first-sync (s.slot slot) row (device_of slot) first.0)

      -- what the row's hold sees of the device
      seen-is : (slot : ℕ) → slot < l.slots → lost slot ≡ false
          → seen false (l.position h.row slot) ≡ w.device slot (device_of slot) row
      seen-is slot inside kept =
          let first = (served.read_from row slot below inside kept).0 in
          let p = is.there h.row slot y.in_shard.0 inside in
          ap (λ d. w.device d (generation_in (s.slot d)) h.row) p.1 ∙ ap (λ g. w.device slot g h.row) (sym first.1)
          ∙ ap (w.device slot (device_of slot)) at

      lives : (slot : ℕ) → (inside : slot < l.slots) → (kept : lost slot ≡ false)
          → Live (block_at old (l.position h.row slot)) (block_at (after h.course old) (l.position h.row slot)) InSync (cell_at h.course.cells (l.position h.row slot)).reading
          (cell_at h.course.cells (l.position h.row slot)).writing (y.out false (l.position h.row slot))
          (seen false (l.position h.row slot))
      lives slot inside kept =
          live-of h.course seen y.out old y.seen (l.position h.row slot) (position-in slot inside kept)

      -- the write that the hold has sent there is put out
      sent-out : (slot : ℕ) → slot < l.slots → lost slot ≡ false
          → (cell_at h.course.cells (l.position h.row slot)).writing ≡ Sent → IsPut w n slot (device_of slot) row
      sent-out slot inside kept sent =
          subst (λ r. IsPut w n slot (device_of slot) r) at (sent-put n f h slot judged here inside kept sent)

      -- in the journal it was taken
      logged-out : logged row ≡ true → (slot : ℕ) → slot < l.slots → lost slot ≡ false
          → (o : IsPut w n slot (device_of slot) row)
          → (b : Block) × (out : IsOut w n slot (device_of slot) row b) × (out.put ≡ o)
      logged-out lg slot inside kept o =
          let d = journal.drained row slot below inside kept lg o in
          let c : Command = put-command slot o o.kept in
          let t = carried slot o in
          let alike : record c { transfer = d.0.transfer } ≡ record c { transfer = Store t.0 } =
          Some-inj _ _ (sym (ap (λ y. with_block y (w.flight n o.token)) o.here ∙ ap (with_block (Some c)) d.1) ∙ t.1) in
          (t.0, record { put = o; flying = d.0; flies = d.1; carries = ap (λ (y : Command). y.transfer) alike }, refl)

      stayed : (slot : ℕ) → (inside : slot < l.slots) → (kept : lost slot ≡ false)
          → Stayed (y.out false (l.position h.row slot)) (seen false (l.position h.row slot)) (left slot row)
      stayed slot inside kept = elim (replay.nothing_else row slot below inside kept) [
        | inl same ↦ inl (same ∙ sym (seen-is slot inside kept))
        | inr p ↦ inr (p.0, w.performed n p.1.put.token, seen-out f h here at slot inside kept p.0 p.1, p.2)
      ]

      four : 4 ≤ length old
      four = subst (λ k. 4 ≤ k) (sym (row-wide l is snd.settled h.row)) is.four_or_more

      -- in the journal
      replayed-new : logged row ≡ true → (slot : ℕ) → slot < l.slots → lost slot ≡ false
          → left slot row ≡ block_at (after h.course old) (l.position h.row slot)
      replayed-new lg slot inside kept =
          let pos : ℕ = l.position h.row slot in
          let sync = position-in slot inside kept in
          let k = after-kept h.course seen y.out old y.seen in
          let within : pos < length old =
          subst (λ m. pos < m) (sym k.2) (not-out-within h.course.cells pos (in_sync_is_not_out _ sync)) in
          gets-new (block_at old pos) (block_at (after h.course old) pos) (cell_at h.course.cells pos).reading
          (cell_at h.course.cells pos).writing (seen false pos) (left slot row) (y.out false pos)
          (lives slot inside kept)
          (stays h.course old (Laws.full h.course seen y.out old y.seen) four h.course.kind pos within
          (IsPutOut (cell_at h.course.cells pos).writing)
          (λ batch is wanted. (whole-batches n f h judged here
          (journal.computed n f h judged here (ap logged at ∙ lg) batch is)).firsts batch is pos wanted sync) k.2)
          (stayed slot inside kept)
          (λ sent. let o = logged-out lg slot inside kept (sent-out slot inside kept sent) in (
            o.0,
            w.performed n o.1.put.token,
            seen-out f h here at slot inside kept o.0 o.1,
            replay.puts row slot o.0
                below inside kept lg o.1,
          ))

      -- not in the journal
      stands-old : logged row ≡ false → (slot : ℕ) → slot < l.slots → lost slot ≡ false
          → w.device slot (device_of slot) row ≡ block_at old (l.position h.row slot)
      stands-old off slot inside kept =
          let pos : ℕ = l.position h.row slot in
          sym (seen-is slot inside kept)
          ∙ keeps-old (block_at old pos) (block_at (after h.course old) pos) (cell_at h.course.cells pos).reading
          (cell_at h.course.cells pos).writing (seen false pos) (left slot row) (y.out false pos)
          (lives slot inside kept)
          (λ confirmed. journal.none_confirmed n f h slot judged here inside kept (ap logged at ∙ off) confirmed)
          (λ sent.
          let o = sent-out slot inside kept sent in
          let t = carried slot o in (
            t.0,
            put-in f h here at slot inside kept o (Store t.0) t.1 ∙ ap (λ gave. command_seen gave (Store t.0))
                (subst (λ r. (put : IsPut w n slot (device_of slot) r) → w.performed n put.token ≡ None) at
                (λ put. journal.none_performed n f h slot judged here inside kept (ap logged at ∙ off) sent put) o),
          ))

      -- nor is anything else there than that block after the replay, with a fix or without
      left-old : logged row ≡ false → (slot : ℕ) → slot < l.slots → lost slot ≡ false
          → left slot row ≡ block_at old (l.position h.row slot)
      left-old off slot inside kept = elim (replay.nothing_else row slot below inside kept) [
        | inl same ↦ same ∙ stands-old off slot inside kept
        | inr p ↦ elim p.3 [
          | inl on ↦ absurd (false≢true (sym off ∙ on))
          | inr fix ↦
              let pos : ℕ = l.position h.row slot in
              p.2
              ∙ fixes-old (block_at old pos) (block_at (after h.course old) pos) (cell_at h.course.cells pos).reading
              (cell_at h.course.cells pos).writing (seen false pos) (left slot row) (y.out false pos)
              (lives slot inside kept) (fix f h here at) p.0 (w.performed n p.1.put.token)
              (seen-out f h here at slot inside kept p.0 p.1)
        ]
      ]

      -- the row, as a list has it
      row-as : (list : Array) (new : List Block) → full_row l list h.row ≡ new → IsFull h.course.size new
          → ((slot : ℕ) → slot < l.slots → lost slot ≡ false → left slot row ≡ block_at new (l.position h.row slot))
          → ((block : ℕ) → block < l.blocks → l.row_of block ≡ row → (list block ≡ plain.array block) ⊎ IsOpenWrite w block (list block))
          → RowLeft row
      row-as list new is-new full stands blocks = record {
        list = list;
        full =
            subst (λ r. IsFull l.size (full_row l list r)) at
            (subst (λ m. IsFull m (full_row l list h.row)) y.size_is (subst (IsFull h.course.size) (sym is-new) full));
        stands =
            λ slot inside kept. stands slot inside kept ∙ ap (λ r. block_at r (l.position h.row slot)) (sym is-new)
            ∙ ap (λ r. block_at (full_row l list r) (l.position r slot)) at;
        blocks = blocks;
      }

      is-open : (writes : List RowWrite) → h.task ≡ WriteFor writes → (v : RowWrite) → In v writes
          → IsOpenWrite w v.block v.new_data
      is-open writes task v among =
          let o = other-hold l is w n w.device (sight w n) s plain snd live f h writes v here task among in
          record { shard = n; id = v.id; stage = Held f; accepted = o.0; open_yet = record {} }

      batch : (writes : List RowWrite) → h.task ≡ WriteFor writes → IsBatch l h.row writes
      batch writes task =
          held-batch l is w n w.device (sight w n) s plain snd f h.row writes
          (subst (λ t. Serves l s.request f h.row t) task (snd.requests.serves_held live.1 f h here))

      same-block : (writes : List RowWrite) → h.task ≡ WriteFor writes → (block : ℕ) → l.row_of block ≡ row
          → is_written writes block ≡ false → snd.settled block ≡ plain.array block
      same-block writes task block in-row off =
          sym (unwritten-same l is w n w.device (sight w n) s plain snd live f h here writes task block
          (in-row ∙ sym at) off)

      row-held : RowLeft row
      row-held = elim (task-writes h.task) [
        | inr unwritten ↦
            let rest =
            same-after l is n w.device (w.performed n) (restored s.command (w.flight n)) s.slot snd.settled f h y
            unwritten in
            row-as snd.settled old refl (Laws.full h.course seen y.out old y.seen)
            (λ slot inside kept. elim (cases_Bool (logged row)) [
              | inl lg ↦ replayed-new lg slot inside kept ∙ ap (λ r. block_at r (l.position h.row slot)) (sym rest)
              | inr off ↦ left-old off slot inside kept
            ])
            (λ block inside in-row. inl
            (sym (settled-row l is w n w.device (sight w n) s plain snd live f h here unwritten block
            (in-row ∙ sym at))))
        | inl wr ↦ elim (cases_Bool (logged row)) [
          | inl lg ↦
              row-as (written wr.0 snd.settled) (after h.course old)
              (written-after l is n w.device (w.performed n) (restored s.command (w.flight n)) s.slot snd.settled f h y
              wr.0 wr.1 (batch wr.0 wr.1))
              (after-kept h.course seen y.out old y.seen).0 (λ slot inside kept. replayed-new lg slot inside kept)
              (λ block inside in-row. elim (cases_Bool (is_written wr.0 block)) [
                | inl mine ↦
                    let q = written-in wr.0 block mine in
                    let is-new : written wr.0 snd.settled block ≡ q.0.new_data =
                    ap (written wr.0 snd.settled) (sym q.2)
                    ∙ written-own l h.row wr.0 (batch wr.0 wr.1) snd.settled q.0 q.1 in
                    inr (subst (IsOpenWrite w block) (sym is-new)
                    (subst (λ k. IsOpenWrite w k q.0.new_data) q.2 (is-open wr.0 wr.1 q.0 q.1)))
                | inr off ↦ inl (written-other wr.0 snd.settled block off ∙ same-block wr.0 wr.1 block in-row off)
              ])
          | inr unlogged ↦
              row-as snd.settled old refl (Laws.full h.course seen y.out old y.seen)
              (λ slot inside kept. left-old unlogged slot inside kept)
              (λ block inside in-row. elim (snd.ahead.agrees live block
              (subst (λ r. IsRowOf l n r) (sym in-row) (below, refl))) [
                | inl same ↦ inl (sym same)
                | inr o ↦
                    let unacted =
                    journal.none_acted n o.frame_of o.write.id o.write.block o.write.new_data o.hold judged o.here
                    (ap logged (o.row ∙ in-row) ∙ unlogged)
                    (other-hold l is w n w.device (sight w n) s plain snd live o.frame_of o.hold o.writes o.write o.here
                    o.task o.among).0 in
                    absurd (not_both (plain.answers n o.write.id) _ unacted o.acted)
              ])
        ]
      ]

    row-left : RowLeft row
    row-left = elim (find-hold s.frame row frames) [
      | inl q ↦ row-held q.0 q.1 q.2 q.3
      | inr none ↦ row-idle none
    ]

  -- ---- every row

  pick : (row : ℕ) → (row < l.rows) ⊎ (l.rows ≤ row) → Array
  pick row (inl below) = (row-left row below).list
  pick row (inr past) = plain.array

  abbrev list : Array
  list block = pick (l.row_of block) (cases_lt (l.row_of block) l.rows) block

  -- the rows that a list of its own for each row makes
  of-row : (row : ℕ) → row < l.rows → (c : (row < l.rows) ⊎ (l.rows ≤ row))
      → (below : row < l.rows) × ((block : ℕ) → pick row c block ≡ (row-left row below).list block)
  unfolding pick
  of-row row low (inl below) = (below, λ block. refl)
  of-row row low (inr past) = absurd (omega arith)

  list-at : (row : ℕ) → row < l.rows
      → (below : row < l.rows) × ((block : ℕ) → l.row_of block ≡ row → list block ≡ (row-left row below).list block)
  list-at row low =
      let p = of-row row low (cases_lt row l.rows) in
      (p.0, λ block at. ap (λ r. pick r (cases_lt r l.rows) block) at ∙ p.1 block)

  row-is : (row : ℕ) → (low : row < l.rows)
      → full_row l (row-left row (list-at row low).0).list row ≡ full_row l list row
  row-is row low =
      ap (Rattle.r6_recover.specs.Rows.row_of l.size)
      (first-same l.data_slots (λ i. (row-left row (list-at row low).0).list (l.block_at row i))
      (λ i. list (l.block_at row i))
      (λ i inside. sym ((list-at row low).1 (l.block_at row i) (is.named row i low inside).1)))

  pub starts-again : (r : Snapshot) → IsRegisterOf l lost r → StartsAgain l r w plain left
  starts-again r reg = record {
    list = list;
    lawful =
        starts l lost r reg (as_first left) list
        (λ block inside.
        let p = is.placed block inside in
        let q = list-at (l.row_of block) p.0 in
        let made = row-left (l.row_of block) q.0 in
        subst (IsBlock l.size) (row-at l is made.list (l.row_of block) block inside refl ∙ sym (q.1 block refl))
        (made.full.sized (l.index_of block) []
        (subst (λ m. l.index_of block < m) (sym (row-wide l is made.list (l.row_of block))) (index-below block p.1))))
        (λ row slot low inside kept.
        let q = list-at row low in
        (row-left row q.0).stands slot inside kept ∙ ap (λ r. block_at r (l.position row slot)) (row-is row low));
    blocks = λ block inside.
        let p = is.placed block inside in
        let q = list-at (l.row_of block) p.0 in
        subst (λ b. (b ≡ plain.array block) ⊎ IsOpenWrite w block b) (sym (q.1 block refl))
        ((row-left (l.row_of block) q.0).blocks block inside refl);
  }
    where
      index-below : (block : ℕ) → l.index_of block < l.data_slots → l.index_of block < l.slots
      index-below block low = let wide = is.wide in omega arith

pub journal_law : JournalLaw
journal_law l is r device array start moments may lost device_of served sent whole logged journal left replay r' reg =
    let w = after_all l (started l r device) moments in
    let plain = plain_after_all l (started l r device) (at_start array) moments in
    starts-again l is w plain (kept-run l is r device array start moments may) lost device_of served sent
    whole logged journal left replay r' reg
