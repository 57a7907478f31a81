-- The world of cores has out what its holds have sent.
use Rattle.std.proofs.Common.{◌≡◌, ◌≢◌, ℕ, ◌<◌, ◌≤◌, Bool, true, false, refl, sym, ap, ◌∙◌, subst, Option, Some, None}
use Rattle.std.specs.Prelude.{option_map, nat_lt}
use Rattle.r6_layout.specs.Shape.{Shape}
use Rattle.r6_layout.specs.Layout.{position_at}
use Rattle.r6_layout.specs.PlainArray.{Block}
use Rattle.r6_stripe.specs.Holds.{Cell, cell_at}
use Rattle.r6_stripe.specs.Holds.Standing.{InSync}
use Rattle.r6_stripe.specs.Holds.Writing.{Sent}
use Rattle.r6_stripe.specs.Plans.{next}
use Rattle.r6_world.specs.PlainArray.{Plain}
use Rattle.r6_world.specs.Layouts.{Layout}
use Rattle.r6_world.specs.Geometries.{layout_of}
use Rattle.r6_world.specs.Tasks.{Hold, planned}
use Rattle.r6_world.specs.ShardStates.{Shard, IsFirstFor, Command, Fetch, frames, generation_in, away}
use Rattle.r6_world.specs.Worlds.{World, started}
use Rattle.r6_world.specs.Laws.{at_start}
use Rattle.r6_world.specs.Witness.{after_all}
use Rattle.r6_world.proofs.Tables.{Some-inj, not_both}
use Rattle.r6_world.proofs.Rows.SeenRows.{stands-in, in_sync_is_not_out}
use Rattle.r6_world.proofs.Laws.Kept.{Kept}
use Rattle.r6_frames.specs.declared.command.Action.{Action}
use Rattle.r6_frames.specs.declared.command.Action.TheVariants as action
use Rattle.r6_frames.specs.declared.command.Outstanding.{Outstanding}
use Rattle.r6_frames.specs.declared.frames.HeldRow.{HeldRow}
use Rattle.r6_frames.specs.FramesState.{FramesState}
use Rattle.r6_frames.specs.Actions.{is_write}
use Rattle.r6_frames.specs.Slots.{count_out}
use Rattle.r6_frames.specs.Views.{Rest, hold_of, hold_at, transfer_of, command_of, shard_with, AreLive}
use Rattle.r6_frames.specs.Sound.{IsSound}
use Rattle.r6_crash.specs.Crashes.{IsServed, plain_after_all}
use Rattle.r6_crash.specs.Journals.{IsPut, SentIsPut, BatchesAreWhole}
use Rattle.r6_crash.specs.Replays.{HasNew, ArePutOut}
use Rattle.r6_crash.specs.Cores.{IsOutTo, CoresJournalLaw}
use Rattle.r6_crash.proofs.Stands.{IsShardOf, kept-run, first-sync}
use Rattle.r6_crash.proofs.Cores.{core_law, frame-low}
use Rattle.r6_crash.proofs.Journals.{journal_law}
use Rattle.r6_crash.proofs.Driven.{AllDriven, driven-run}

-- what a held row is in the world
held-from : (o : Option HeldRow) (h : Hold) → option_map hold_of o ≡ Some h
    → (k : HeldRow) × (o ≡ Some k) × (hold_of k ≡ h)
held-from None h e = absurd (not_both None h refl e)
held-from (Some k) h e = (k, refl, Some-inj (hold_of k) h e)

a-write : (a : Action) (buffer : Option Block) → is_write a ≡ true → transfer_of a buffer ≢ Fetch
a-write action.Read buffer e f = absurd (cc)
a-write action.Write (Some b) e f = absurd (cc)
a-write action.Write None e f = absurd (cc)
a-write action.Copy (Some b) e f = absurd (cc)
a-write action.Copy None e f = absurd (cc)

module _ (shape : Shape) (w : World) (plain : Plain) (frames_of : ℕ → FramesState) (rest_of : ℕ → Rest)
    (sound : (n : ℕ) → n < shape.shards → IsSound (frames_of n))
    (geometry : (n : ℕ) → n < shape.shards → (frames_of n).geometry ≡ shape)
    (shard_is : (n : ℕ) → n < shape.shards → w.shard n ≡ shard_with (rest_of n) (frames_of n))
    (x : Kept (layout_of shape) (IsShardOf (layout_of shape)) w plain) (lost : ℕ → Bool) (device_of : ℕ → ℕ)
    (served : IsServed (layout_of shape) lost device_of w) where
  -- the core of each shard is live
  core-live : (n : ℕ) → n < shape.shards → AreLive (frames_of n)
  core-live n judged =
      let live = served.live n judged in (
        subst (λ g. count_out (frames_of n).slots g ≤ 2) (ap (λ (y : Shape). y.slots) (sym (geometry n judged)))
            (subst (λ (s : Shard). away (layout_of shape) s ≤ 2) (shard_is n judged) live.0),
        sym (ap (λ (s : Shard). s.saw_failed) (shard_is n judged)) ∙ live.1,
      )

  -- the row that its frame holds
  core-held : (n : ℕ) → n < shape.shards → (f : ℕ) (h : Hold) → (w.shard n).frame f ≡ Some h
      → (k : HeldRow) × (hold_at (frames_of n).uses f ≡ Some k) × (hold_of k ≡ h)
  core-held n judged f h here =
      held-from (hold_at (frames_of n).uses f) h (sym (ap (λ (z : Shard). z.frame f) (shard_is n judged)) ∙ here)

  -- what a hold of one shard has sent
  put-of : (n : ℕ) (judged : n < shape.shards) (f : ℕ) (k : HeldRow) → hold_at (frames_of n).uses f ≡ Some k
      → (slot : ℕ) → slot < shape.slots
      → (cell_at k.hold.planned.hold.cells (position_at shape k.row slot)).standing ≡ InSync
      → (cell_at k.hold.planned.hold.cells (position_at shape k.row slot)).writing ≡ Sent
      → device_of slot ≡ generation_in ((w.shard n).slot slot) → IsPut w n slot (device_of slot) k.row
  put-of n judged f k here slot inside sync sent first =
      let fs : FramesState = frames_of n in
      let cell_in : Shape → Cell = (λ g. cell_at k.hold.planned.hold.cells (position_at g k.row slot)) in
      let is = shard_is n judged in
      let same = sym (geometry n judged) in
      let out : IsOutTo fs f k.row slot =
      (core_law fs (sound n judged) (core-live n judged)).sent f slot k here
      (subst (λ (g : Shape). slot < g.slots) same inside)
      (in_sync_is_not_out _ (subst (λ (g : Shape). (cell_in g).standing ≡ InSync) same sync))
      (subst (λ (g : Shape). (cell_in g).writing ≡ Sent) same sent) in
      let c : Outstanding = out.command in
      let t : ℕ = out.token in
      let made : Command = command_of fs.slots fs.next_taken t c in
      record {
        token = t;
        frame = c.frame;
        kept = transfer_of c.action c.buffer;
        taken = nat_lt t fs.next_taken;
        copy = made.copy;
        here =
            ap (λ (s : Shard). s.command t) is ∙ ap (option_map (command_of fs.slots fs.next_taken t)) out.here
            ∙ ap (λ y. Some (record made { slot = y })) out.slot_is
            ∙ ap (λ y. Some (record made { slot = slot; generation = y }))
            (out.generation_is ∙ ap (λ (s : Shard). generation_in (s.slot slot)) (sym is) ∙ sym first)
            ∙ ap (λ y. Some (record made { slot = slot; generation = device_of slot; row = y })) out.row_is
            ∙ ap (λ y. Some (record made { slot = slot; generation = device_of slot; row = k.row; abandoned = y }))
            out.going;
        of_hold = subst (λ y. y < frames) (sym out.frame_is) (frame-low fs (sound n judged) f k here);
        is_write = a-write c.action c.buffer out.writes;
      }

  sent-is-put : SentIsPut (layout_of shape) lost device_of w
  sent-is-put n f h slot judged here inside kept sent =
      let l : Layout = layout_of shape in
      let s : Shard = w.shard n in
      let y = ((x.sounds n judged).rows (served.live n judged)).held f h here in
      let first : IsFirstFor (s.slot slot) h.row (device_of slot) =
      subst (λ m. IsFirstFor ((w.shard m).slot slot) h.row (device_of slot)) y.in_shard.1
      (served.read_from h.row slot y.in_shard.0 inside kept).0 in
      let sync : (cell_at h.course.cells (l.position h.row slot)).standing ≡ InSync =
      stands-in h.task slot h.row false (s.slot slot) _ (y.stands false slot inside)
      (first-sync (s.slot slot) h.row (device_of slot) first.0) in
      let from = core-held n judged f h here in
      subst (λ (z : Hold). IsPut w n slot (device_of slot) z.row) from.2
      (put-of n judged f from.0 from.1 slot inside
      (subst (λ (z : Hold). (cell_at z.course.cells (l.position z.row slot)).standing ≡ InSync) (sym from.2) sync)
      (subst (λ (z : Hold). (cell_at z.course.cells (l.position z.row slot)).writing ≡ Sent) (sym from.2) sent) first.1)

  batches-whole : AllDriven (layout_of shape) w → BatchesAreWhole (layout_of shape) w
  batches-whole driven n f h judged here new =
      let from = core-held n judged f h here in
      let nothing : next (planned h) ≡ None = driven n judged (served.live n judged) f h here in
      subst (λ (z : Hold). ArePutOut z.course) from.2
      ((core_law (frames_of n) (sound n judged) (core-live n judged)).whole f from.0 from.1
      (λ k e.
      let same : k ≡ from.0 = Some-inj k from.0 (sym e ∙ from.1) in
      subst (λ (z : HeldRow). next z.hold.planned ≡ None) (sym same)
      (subst (λ (z : Hold). next (planned z) ≡ None) (sym from.2) nothing))
      (subst (λ (z : Hold). HasNew z.course) (sym from.2) new))

pub cores_journal_law : CoresJournalLaw
cores_journal_law l is r device array start moments may cores lost device_of served =
    let w = after_all l (started l r device) moments in
    let plain = plain_after_all l (started l r device) (at_start array) moments in
    let facts : SentIsPut l lost device_of w × BatchesAreWhole l w =
    subst (λ l'. Kept l' (IsShardOf l') w plain → IsServed l' lost device_of w → AllDriven l' w
    → SentIsPut l' lost device_of w × BatchesAreWhole l' w) cores.layout_is
    (λ x there driven. (
      sent-is-put cores.shape w plain cores.frames_of cores.rest_of cores.sound cores.geometry cores.shard_is x lost
          device_of there,
      batches-whole cores.shape w plain cores.frames_of cores.rest_of cores.sound cores.geometry cores.shard_is x lost
          device_of there driven,
    )) (kept-run l is r device array start moments may) served (driven-run l r device moments may) in
    journal_law l is r device array start moments may lost device_of served facts.0 facts.1
