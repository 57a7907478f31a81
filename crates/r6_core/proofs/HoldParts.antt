-- What the parts of a hold's beginning say, as its contract has it.
use Rattle.std.proofs.Common.{◌≡◌, ◌≢◌, ℕ, ◌+◌, true, false, List, [], length, refl, sym, ap, subst, ◌∙◌, Option, Some, None, All}
use Rattle.std.specs.List.{AllByRecursion}
use Rattle.std.proofs.lemmas.List.Elements.{All-cons, All-nil}
use Rattle.r6_layout.specs.Layout as layout
use Rattle.r6_stripe.specs.BatchLists.{AreDistinct}
use Rattle.r6_world.specs.Tasks.{Hold, Task}
use Rattle.r6_world.specs.declared.values.Op.TheVariants as op
use Rattle.r6_world.specs.declared.values.Request.{Request}
use Rattle.r6_frames.specs.declared.frames.Frames.{Frames}
use Rattle.r6_frames.specs.Views.{hold_at, hold_of}
use Rattle.r6_frames.specs.declared.frames.HeldRow.{HeldRow}
use Rattle.r6_frames.specs.Calls.{Begins, IsFreeFrame, IsRequestOf, KeepsOthers}
use Rattle.r6_frames.specs.Sound as held
use Rattle.r6_frames.specs.Writes.{Entry, IsWriteIn, blocks_in}
use Rattle.r6_waiters.specs.Line.{Line}
use Rattle.r6_core.specs.declared.queued.Queued.{Queued}
use Rattle.r6_core.specs.declared.state.State.{State}
use Rattle.r6_core.specs.Inside.{HaveRooms, JoinedBy, alone, row_of_request}
use Rattle.r6_core.proofs.HeldStarts.{first_hold, held_first}
use Rattle.r6_core.proofs.Rooms.{is_write, rooms_unwritten, rooms_written}
use Rattle.r6_core.proofs.Starting.{no_row}

-- ---- the rooms when a hold begins

module _ (old : Frames) (frame row : ℕ) (task : Task) (served : List Request) (new : Frames) (before : held.IsSound old) (free : IsFreeFrame old frame)
    (begins : Begins old frame row task served new) (sound : held.IsSound new) (others : KeepsOthers old frame new) where
  first : (h : HeldRow) × (hold_at new.uses frame ≡ Some h) × (hold_of h ≡ first_hold old frame row task served new begins)
  first = held_first old frame row task served new begins

  task_is : is_write (hold_of first.0).task ≡ is_write task
  task_is = ap (λ (x : Hold). is_write x.task) first.2

  pub read_rooms : (rooms : List (List Entry)) → is_write task ≡ false → HaveRooms rooms old → HaveRooms rooms new
  read_rooms rooms not = rooms_unwritten old new frame before sound others first.0 (no_row old frame free) first.1 rooms (task_is ∙ not)

  pub writes_rooms : (rooms left : List (List Entry)) → is_write task ≡ true → HaveRooms rooms old → length left + 1 ≡ length rooms → AllByRecursion (λ writes. writes ≡ []) left → HaveRooms left new
  writes_rooms rooms left are = rooms_written old new frame before sound others first.0 (no_row old frame free) first.1 rooms left (task_is ∙ are)

-- ---- the writes that join, and those of one alone

module _ (s : State) (own : ℕ) (buffer : List ℕ) (id : ℕ) (fits : IsRequestOf s.frames (record { id = id; op = op.Write own buffer })) where
  abbrev r : Request
  r = record { id = id; op = op.Write own buffer }

  one_in : IsWriteIn s.frames.geometry (row_of_request s.frames r) (alone r (layout.index_of s.frames.geometry own))
  one_in = record { there = fits.there; in_row = refl; index = refl; sized = fits.sized }

  -- what the frames ask of them
  pub may_begin : (near : Option (List ℕ)) (writes : List Entry) (now : Line Queued) → JoinedBy near s r writes now
      → (writes ≢ []) × All (IsWriteIn s.frames.geometry (row_of_request s.frames r)) writes × AreDistinct (blocks_in writes)
  may_begin None writes now is =
      subst (λ (ws : List Entry). (ws ≢ []) × All (IsWriteIn s.frames.geometry (row_of_request s.frames r)) ws × AreDistinct (blocks_in ws)) (sym is.0)
      ((λ none. (cc none)), All-cons (IsWriteIn s.frames.geometry (row_of_request s.frames r)) (alone r (layout.index_of s.frames.geometry own)) [] one_in (All-nil (IsWriteIn s.frames.geometry (row_of_request s.frames r))), (refl, tt))
  may_begin (Some near) writes now is = (is.0.some, is.0.in_row, is.0.distinct)
