-- A shard whose core and parts are as they were is the shard that it was.
use Rattle.std.proofs.Common.{◌≡◌, ◌+◌, ◌≤◌, [], ◌∷◌, length, subst, vec_capacity}
use Rattle.std.proofs.Props.{props}
use Rattle.r6_health.specs.Histories.{calls_by}
use Rattle.r6_health.specs.Passes.{view_of}
use Rattle.r6_core.specs.Shards.{CoreView, world_shard}
use Rattle.r6_shard.specs.declared.performs.Performs.{Ghosts}
use Rattle.r6_shard.specs.declared.shard.Shard.{Shard}
use Rattle.r6_shard.specs.Kept.{IsKept}
use Rattle.r6_shard.specs.Own.{AreOwn, SeesFailure}
use Rattle.r6_shard.specs.Whole.{SkipsNone, SawWithPass}
use Rattle.r6_shard.specs.Courses.{AreOf}
use Rattle.r6_shard.specs.Answering.{AreOnce}
use Rattle.r6_shard.specs.Replying.{AreOfKind}
use Rattle.r6_shard.specs.Looked.{KnowsLast, seen_by}

module _ {P : Type 0} {g : Ghosts P} (old : Shard P g) where
  abbrev Kept : CoreView → P → Type 0
  Kept core parts = IsKept core (g.performer parts).out old.number old.named (length old.asked.items)

  abbrev Fails : CoreView → Type 0
  Fails core = SeesFailure core (view_of old.pass) old.entries.items

  abbrev Whole : CoreView → Type 0
  Whole core = SkipsNone core old.named old.saw_out

  abbrev Saw : Type 0
  Saw = SawWithPass old.saw_out (view_of old.pass)

  abbrev Knows : CoreView → Type 0
  Knows core = KnowsLast core old.last

  abbrev Seen : Type 0
  Seen = old.last.attaches ≤ (seen_by (view_of old.pass)).attaches

  abbrev Linked : Type 0
  Linked = AreOf old.asked.items old.entries.items

  abbrev Once : CoreView → Type 0
  Once core = AreOnce (world_shard core) old.entries.items

  abbrev Kinds : CoreView → Type 0
  Kinds core = AreOfKind core old.asked.items old.entries.items

  abbrev Counted : CoreView → Type 0
  Counted core = core.unanswered + length old.entries.items ≡ length old.asked.items

  abbrev Own : Type 0
  Own = AreOwn old.number old.named (view_of old.pass).mine

  abbrev PassName : Type 0
  PassName = (view_of old.pass).name ≡ old.number ∷ []

  abbrev NoNames : Type 0
  NoNames = (view_of old.pass).next ≡ 0

  abbrev Calls : Type 0
  Calls = calls_by (view_of old.pass).name (view_of old.pass).seen ≡ (view_of old.pass).mine

  abbrev Within : Type 0
  Within = length old.asked.items ≤ old.room

  abbrev AskedRoom : Type 0
  AskedRoom = old.room ≤ vec_capacity old.asked

  abbrev EntriesRoom : Type 0
  EntriesRoom = old.room ≤ vec_capacity old.entries

  abbrev Again : CoreView → P → Type 0
  Again core parts =
      (kept : Kept core parts) (held : g.holds parts) (own : Own) (pass_name : PassName) (no_names : NoNames) (calls : Calls) (failure : Fails core) (whole : Whole core) (saw : Saw) (knows : Knows core) (seen : Seen)
      (linked : Linked) (once : Once core) (kinds : Kinds core) (counted : Counted core) (within : Within) (asked_room : AskedRoom)
      (entries_room : EntriesRoom) → record old {
        core = core;
        parts = parts;
        kept = kept;
        held = held;
        own = own;
        pass_name = pass_name;
        no_names = no_names;
        calls = calls;
        failure = failure;
        whole = whole;
        saw = saw;
        knows = knows;
        seen = seen;
        linked = linked;
        once = once;
        kinds = kinds;
        counted = counted;
        within = within;
        asked_room = asked_room;
        entries_room = entries_room;
      } ≡ old

  pub shard-again : (core : CoreView) (parts : P) → old.core ≡ core → old.parts ≡ parts → Again core parts
  shard-again core parts e e' = subst (Again core) e' (subst (λ (y : CoreView). Again y old.parts) e (λ kept held own pass_name no_names calls failure whole saw knows seen linked once kinds counted within asked_room entries_room.
      let k : IsProp (Kept old.core old.parts) = Prim.hlevel props in
      let h : IsProp (g.holds old.parts) = g.holds_is_prop old.parts in
      let o : IsProp Own = Prim.hlevel props in
      let z : IsProp PassName = Prim.hlevel props in
      let y : IsProp NoNames = Prim.hlevel props in
      let c : IsProp Calls = Prim.hlevel props in
      let f : IsProp (Fails old.core) = Prim.hlevel props in
      let w : IsProp (Whole old.core) = Prim.hlevel props in
      let s : IsProp Saw = Prim.hlevel props in
      let m : IsProp (Knows old.core) = Prim.hlevel props in
      let u : IsProp Seen = Prim.hlevel props in
      let d : IsProp Linked = Prim.hlevel props in
      let e : IsProp (Once old.core) = Prim.hlevel props in
      let q : IsProp (Kinds old.core) = Prim.hlevel props in
      let n : IsProp (Counted old.core) = Prim.hlevel props in
      let l : IsProp Within = Prim.hlevel props in
      let a : IsProp AskedRoom = Prim.hlevel props in
      let r : IsProp EntriesRoom = Prim.hlevel props in
      λ i. record old {
        kept = k kept old.kept i;
        held = h held old.held i;
        own = o own old.own i;
        pass_name = z pass_name old.pass_name i;
        no_names = y no_names old.no_names i;
        calls = c calls old.calls i;
        failure = f failure old.failure i;
        whole = w whole old.whole i;
        saw = s saw old.saw i;
        knows = m knows old.knows i;
        seen = u seen old.seen i;
        linked = d linked old.linked i;
        once = e once old.once i;
        kinds = q kinds old.kinds i;
        counted = n counted old.counted i;
        within = l within old.within i;
        asked_room = a asked_room old.asked_room i;
        entries_room = r entries_room old.entries_room i;
      }))
