-- A row whose writes are all put out, and those that are performed again.
use Rattle.std.proofs.Common.{◌≡◌, ℕ, ◌+◌, ◌<◌, ◌≤◌, ◌⊎◌, List, length, Bool, true, false, if◌then◌else◌, inl, inr, refl, sym, ap, ◌∙◌, subst, arith}
use Rattle.std.proofs.lemmas.Bool.{cases_lt, false≢true}
use Rattle.r6_recover.specs.Rows.{IsFull, block_at, row_of, data_of}
use Rattle.r6_stripe.specs.Holds.{Cell, Hold, Kind, Reading, Writing, cell_at, after, after_kind, passes_over, IsToWrite}
use Rattle.r6_stripe.specs.Holds.Standing.{InSync}
use Rattle.r6_stripe.specs.Holds.Writing.{Unwritten, Ready}
use Rattle.r6_stripe.specs.Holds.Kind.{Idle, Read, Write, Rebuild, Check, Repair}
use Rattle.r6_stripe.specs.RowWorld.{Command, Device, device_at, run, current, is_rewritten}
use Rattle.r6_stripe.specs.RowWorld.Command.{NoCommand, ReadOut, ReadPerformed, WriteOut, WritePerformed}
use Rattle.r6_stripe.proofs.Blocks.{is_index, kept_by_write}
use Rattle.r6_stripe.proofs.Kept.{Kept}
use Rattle.r6_stripe.proofs.Law.{start_kept, run_kept, kept_follows}
use Rattle.r6_stripe.proofs.Sound.{Live, second_view}
use Rattle.r6_world.proofs.Rows.SeenRows.{in_sync_is_not_out}
use Rattle.r6_world.proofs.Cells.{not-out-within, not-out-there}
use Rattle.r6_crash.specs.Replays.{replayed, IsPutOut, RowReplayLaw}

unwritten_out : IsPutOut Unwritten → ⊥
unwritten_out (inl e) = absurd (cc)
unwritten_out (inr e) = absurd (cc)

ready_out : (put : List ℕ) → IsPutOut (Ready put) → ⊥
ready_out put (inl e) = absurd (cc)
ready_out put (inr e) = absurd (cc)

-- a position in sync gets its new block by the replay, or it was that before
module _ (old new : List ℕ) (reading : Reading) (writing : Writing) (block : List ℕ) where
  pub settle : IsPutOut writing ⊎ (old ≡ new) → writing ≡ Unwritten → (b : List ℕ) → b ≡ old → b ≡ new
  settle (inl out) e b is = absurd (unwritten_out (subst IsPutOut e out))
  settle (inr same) e b is = is ∙ same

  pub replays : (command : Command) → IsPutOut writing ⊎ (old ≡ new)
      → Live old new InSync reading writing command block → replayed block command ≡ new
  replays NoCommand or (inl h) = settle or h.0 block h.1
  replays NoCommand (inl out) (inr (inl h)) = absurd (ready_out h.0 (subst IsPutOut h.1 out))
  replays NoCommand (inr same) (inr (inl h)) = h.3 ∙ same
  replays NoCommand or (inr (inr h)) = h.1
  replays ReadOut or h = settle or h.2 block h.3
  replays (ReadPerformed given) or h = settle or h.2 block h.3
  replays (WriteOut put) or (inl h) = h.1
  replays (WriteOut put) or (inr h) = settle or h.2 put h.3
  replays (WritePerformed put) or (inl h) = h.1
  replays (WritePerformed put) or (inr h) = settle or h.2 put h.3

-- what the hold doesn't write stays
pub stays : (hold : Hold) (row : List (List ℕ)) → IsFull hold.size row → 4 ≤ length row → (kind : Kind) (position : ℕ)
    → position < length row → (Put : Type 0)
    → ((batch : List (ℕ × List ℕ)) → kind ≡ Write batch → IsToWrite hold (Write batch) position → Put)
    → length row ≡ length hold.cells → Put ⊎ (block_at row position ≡ block_at (after_kind hold kind row) position)
stays hold row full four Idle position inside Put out wide = inr refl
stays hold row full four (Read index) position inside Put out wide = inr refl
stays hold row full four (Rebuild target) position inside Put out wide = inr refl
stays hold row full four Check position inside Put out wide = inr refl
stays hold row full four Repair position inside Put out wide =
    inr (ap (λ r. block_at r position) (repaired (passes_over hold)))
  where
    repaired : (over : Bool) → row ≡ (if over then row else row_of hold.size (data_of row))
    repaired true = refl
    repaired false = sym full.parities
stays hold row full four (Write batch) position inside Put out wide = elim (is_index position batch) [
  | inl named ↦ inl (out batch refl (inl named))
  | inr absent ↦ elim (cases_lt (position + 2) (length row)) [
    | inl low ↦ inr (sym (kept_by_write hold.size position batch row (omega arith) absent low))
    | inr parity ↦ inl (out batch refl (inr (subst (λ n. n ≤ position + 2) wide parity)))
  ]
]

pub row_replay_law : RowReplayLaw
row_replay_law start row steps at_rest full may =
    let here = run start steps in
    let now = current start steps row in
    let both = run_kept steps start row full (start_kept start row at_rest full) may in
    let kept : Kept now here = both.1 in
    let follows = kept_follows here now both.0 kept in
    let within : (position : ℕ) → (cell_at here.hold.cells position).standing ≡ InSync → position < length now =
    (λ position sync.
    subst (λ n. position < n) (sym kept.wide) (not-out-within here.hold.cells position (in_sync_is_not_out _ sync))) in
    let within-second : (position : ℕ) → (cell_at here.hold.cells position).second ≡ InSync → position < length now =
    (λ position sync.
    subst (λ n. position < n) (sym kept.wide) (not-out-there true here.hold.cells position (in_sync_is_not_out _ sync))) in (
      (λ none. record {
        full = both.0;
        on_first = λ position sync.
            follows.in_hold position sync
            ∙ unless (is_rewritten (cell_at here.hold.cells position).writing (device_at here.devices position).command)
            (block_at (after here.hold now) position) (block_at now position) (none.firsts position);
        on_second = λ position sync.
            follows.second_in_hold position sync
            ∙ unless (is_rewritten (cell_at here.hold.cells position).copying (device_at here.seconds position).command)
            (block_at (after here.hold now) position) (block_at now position) (none.seconds position);
      }),
      (λ out.
          let new-or-kept : (position : ℕ) → position < length now → (Put : Type 0)
          → ((batch : List (ℕ × List ℕ)) → here.hold.kind ≡ Write batch → IsToWrite here.hold (Write batch) position → Put)
          → Put ⊎ (block_at now position ≡ block_at kept.next position) =
          (λ position inside Put puts.
          subst (λ r. Put ⊎ (block_at now position ≡ block_at r position)) kept.next_is
          (stays here.hold now both.0 kept.four_or_more here.hold.kind position inside Put puts kept.wide)) in
          record {
            full = subst (IsFull here.hold.size) (sym kept.next_is) kept.next_full;
            on_first = λ position sync.
                let cell : Cell = cell_at here.hold.cells position in
                let device : Device = device_at here.devices position in
                let old : List ℕ = block_at now position in
                let new : List ℕ = block_at kept.next position in
                replays old new cell.reading cell.writing device.block device.command
                (new-or-kept position (within position sync) (IsPutOut cell.writing)
                (λ batch is wanted. out.firsts batch is position wanted sync))
                (subst (λ t. Live old new t cell.reading cell.writing device.command device.block) sync
                ((kept.here position).sound.live (in_sync_is_not_out _ sync)))
                ∙ ap (λ r. block_at r position) (sym kept.next_is);
            on_second = λ position sync.
                let cell : Cell = cell_at here.hold.cells position in
                let view : Cell = second_view cell in
                let device : Device = device_at here.seconds position in
                let old : List ℕ = block_at now position in
                let new : List ℕ = block_at kept.next position in
                replays old new view.reading cell.copying device.block device.command
                (new-or-kept position (within-second position sync) (IsPutOut cell.copying)
                (λ batch is wanted. out.seconds batch is position wanted sync))
                (subst (λ t. Live old new t view.reading cell.copying device.command device.block) sync
                ((kept.here position).sound_second.live (in_sync_is_not_out _ sync)))
                ∙ ap (λ r. block_at r position) (sym kept.next_is);
          }),
    )
  where
    unless : (b : Bool) (new old : List ℕ) → b ≡ false → (if b then new else old) ≡ old
    unless true new old e = absurd (false≢true (sym e))
    unless false new old e = refl
