-- Direct reads that go on: which direct buffers are free, and where their requests stand.
use Rattle.std.proofs.Common.{◌≡◌, ◌≢◌, ℕ, zero, suc, ◌+◌, ◌-◌, Bool, true, false, cond, List, [], ◌∷◌, ◌++◌, map, refl, sym, ap, subst, ◌∙◌, Option, Some, None, inl, arith, append_assoc}
use Rattle.std.specs.Prelude.{◌&&◌, nat_eq, option_map, is_none, is_some}
use Rattle.std.specs.List.{AllByRecursion, IsDistinct}
use Rattle.std.specs.Map.{keys_of}
use Rattle.std.proofs.lemmas.Bool.{false≢true}
use mathlib.Core.Path.{fun_ext}
use Rattle.r6_stripe.specs.Plans.{is_in_sync}
use Rattle.r6_world.specs.PlainArray as world
use Rattle.r6_world.specs.Geometries.{layout_of}
use Rattle.r6_world.specs.ShardStates as shards
use Rattle.r6_world.specs.ShardStates.{SlotState, Synced, Missing, Building, Doubled, Paired, InSyncFor, IsFreeBuffer, Waiting, Reading, standing_of}
use Rattle.r6_world.specs.Changes.{read_on}
use Rattle.r6_world.specs.declared.values.Op.{Op}
use Rattle.r6_world.specs.declared.values.Op.TheVariants as op
use Rattle.r6_world.specs.declared.values.Request.{Request as Entered}
use Rattle.r6_frames.specs.declared.command.Outstanding.{Outstanding}
use Rattle.r6_frames.specs.declared.directs.Direct.{Direct}
use Rattle.r6_frames.specs.declared.directs.DirectRead.{DirectRead}
use Rattle.r6_frames.specs.declared.slots.Slot.{Slot}
use Rattle.r6_frames.specs.declared.frames.Frames.{Frames}
use Rattle.r6_frames.specs.Slots.{is_abandoned}
use Rattle.r6_frames.specs.Directs.{IsCommandFor, direct_at, is_stopped, read_by, read_entry, read_requests, reads_from, stage_of}
use Rattle.r6_frames.specs.Reads.{IsFreeDirect}
use Rattle.r6_world.specs.Values.{op_of}
use Rattle.r6_frames.specs.Views.{Rest, command_of, held_requests, outstanding, shard_with, world_commands, AreLive}
use Rattle.r6_frames.specs.Calls.{ReadsOn, entry_on}
use Rattle.r6_frames.specs.Sound as held
use Rattle.r6_frames.proofs.Lists.{Entries, table, own, apart}
use Rattle.r6_core.specs.declared.state.State.{State}
use Rattle.r6_core.specs.Shards.{finished_request, replied_requests, requests_of, waiting_request, waiting_of, requests_in}
use Rattle.r6_core.specs.Inside.{AreReadOn, IsReadOn, IsSyncedRead}
use Rattle.r6_world.specs.Changes.{read_stage}
use Rattle.r6_core.specs.declared.queued.Queued.{Queued}
use Rattle.r6_core.proofs.PassedOn.{passed_in, passed_of}
use Rattle.r6_core.proofs.Unerred.{waits_so}
use Rattle.r6_core.proofs.HeldRequests.{all_held}
use Rattle.r6_core.proofs.Replied.{all_replied}
use Rattle.r6_core.proofs.Passed.{all_last}

-- ---- a read of a position in sync

in_sync : (state : SlotState) (row generation : ℕ) → InSyncFor state row generation → is_in_sync (standing_of state row) ≡ true
in_sync (Synced current) row generation is = refl
in_sync Missing row generation is = absurd is
in_sync (Building current built) row generation is =
    ap (λ (b : Bool). is_in_sync (cond b Rattle.r6_stripe.specs.Holds.Standing.InSync Rattle.r6_stripe.specs.Holds.Standing.Out)) is.1
in_sync (Doubled old new built) row generation is = refl
in_sync (Paired old new) row generation is = refl

in_sync_for : (state : SlotState) (row : ℕ) → is_in_sync (standing_of state row) ≡ true → (generation : ℕ) × InSyncFor state row generation
in_sync_for (Synced current) row is = (current, refl)
in_sync_for Missing row is = absurd (cc)
in_sync_for (Building current built) row is = (
  current,
  (
    refl,
    elim (built row) as (λ b. is_in_sync (cond b Rattle.r6_stripe.specs.Holds.Standing.InSync Rattle.r6_stripe.specs.Holds.Standing.Out) ≡ true → b ≡ true) [
      | true ↦ λ e. refl
      | false ↦ λ e. absurd (cc)
    ] is,
  ),
)
in_sync_for (Doubled old new built) row is = (old, inl refl)
in_sync_for (Paired old new) row is = (old, inl refl)

-- a read of a position in sync is one of the shard
pub synced_read : (rest : Rest) (fs : Frames) (o : Op) → shards.IsSyncedRead (layout_of fs.geometry) (shard_with rest fs) (op_of o) → IsSyncedRead fs o
synced_read rest fs (op.Read block buffer) synced = (in_sync _ _ synced.0.0 synced.0.1, λ passed. synced.1 (passed_in rest fs _ _ passed))
synced_read rest fs (op.Write block buffer) synced = synced

pub read_synced : (rest : Rest) (fs : Frames) (o : Op) → IsSyncedRead fs o → shards.IsSyncedRead (layout_of fs.geometry) (shard_with rest fs) (op_of o)
read_synced rest fs (op.Read block buffer) synced = (in_sync_for _ _ synced.0, λ passed. synced.1 (passed_of rest fs _ _ passed))
read_synced rest fs (op.Write block buffer) synced = synced

-- ---- none waits to be handed back

not_stopped : (stopped : Bool) (token : ℕ) → stage_of stopped token ≢ Waiting → stopped ≡ false
not_stopped true token ne = absurd (ne refl)
not_stopped false token ne = refl

on_at : (slots : List Slot) (directs : List Direct) (number : ℕ) (r : DirectRead) → AllByRecursion IsReadOn (reads_from slots directs) → (direct_at directs number).read ≡ Some r
    → is_stopped slots r ≡ false
on_at slots [] number r on is = absurd (cc)
on_at slots (d ∷ directs) zero r on is =
    let here = subst (λ (o : Option DirectRead). AllByRecursion IsReadOn (read_by slots o ++ reads_from slots directs)) is on in
    not_stopped (is_stopped slots r) r.token here.0
on_at slots (d ∷ directs) (suc number) r on is =
    on_at slots directs number r (all_last IsReadOn (read_by slots d.read) (reads_from slots directs) on) is

-- so each has its command
pub goes_at : (fs : Frames) (number : ℕ) (r : DirectRead) → held.IsSound fs → AreReadOn fs → (direct_at fs.directs number).read ≡ Some r
    → (is_stopped fs.slots r ≡ false) × ((c : Outstanding) × IsCommandFor fs.commands number r c)
goes_at fs number r sound on is =
    let goes = on_at fs.slots fs.directs number r on is in
    (goes, sound.directs.going number r is goes)

-- ---- free direct buffers

home_if : (o : Option (List ℕ)) → (o ≡ None → ⊥) → is_some o ≡ true
home_if None some = absurd (some refl)
home_if (Some b) some = refl

unread_if : (o : Option DirectRead) → ((r : DirectRead) → o ≡ Some r → ⊥) → is_none o ≡ true
unread_if None none = refl
unread_if (Some r) none = absurd (none r refl)

both_true : (a b : Bool) → a ≡ true → b ≡ true → (a && b) ≡ true
both_true a b is is' = λ i. sym (λ j. sym is j && sym is' j) i

pub free_direct_is : (rest : Rest) (fs : Frames) → held.IsSound fs → AreReadOn fs → (number : ℕ) → IsFreeBuffer (shard_with rest fs) number → IsFreeDirect fs (number - 64)
free_direct_is rest fs sound on number free =
    let above = free.0 in
    let below = free.1 in
    let k = number - 64 in
    let no_command : (token : ℕ) (c : Outstanding) → outstanding fs token ≡ Some c → c.frame ≡ 64 + k → ⊥ = λ token c is at.
    free.2 token (command_of fs.slots fs.next_taken token c) (ap (option_map (command_of fs.slots fs.next_taken token)) is) (omega (arith, at)) in
    let d = direct_at fs.directs k in (
      omega arith,
      both_true (is_none d.read) (is_some d.buffer)
          (unread_if d.read (λ r is. let goes = goes_at fs k r sound on is in no_command r.token goes.1.0 goes.1.1.there goes.1.1.frame))
          (home_if d.buffer (λ none. let away = sound.directs.there k (omega arith) none in no_command away.0 away.1 away.2 away.3)),
    )

-- in a shard that has stopped none is read directly
no_reads : (slots : List Slot) (directs : List Direct) → ((number : ℕ) (r : DirectRead) → (direct_at directs number).read ≡ Some r → ⊥) → reads_from slots directs ≡ []
no_reads slots [] none = refl
no_reads slots (d ∷ directs) none = by_read d.read refl (no_reads slots directs (λ number r is. none (suc number) r is))
  where
    by_read : (o : Option DirectRead) → d.read ≡ o → reads_from slots directs ≡ [] → read_by slots o ++ reads_from slots directs ≡ []
    by_read None is rest = rest
    by_read (Some r) is rest = absurd (none zero r is)

pub none_reading : (fs : Frames) → held.IsSound fs → (AreLive fs → ⊥) → AreReadOn fs → read_requests fs ≡ []
none_reading fs sound stopped on = no_reads fs.slots fs.directs (λ number r is.
    let goes = goes_at fs number r sound on is in
    let c = goes.1.0 in
    let abandoned : is_abandoned fs.slots r.token c ≡ true = sound.commands.stopped stopped r.token c goes.1.1.there in
    let slot = goes.1.1.slot in
    let generation = goes.1.1.generation in
    absurd (false≢true (sym goes.0 ∙ (λ i. is_stopped fs.slots (record r { slot = sym slot i; generation = sym generation i })) ∙ abandoned)))

-- ---- a direct read among the requests

record IsAt (more : Entries shards.Request) (entry : ℕ × shards.Request) : Type 0 where
  pub before : Entries shards.Request
  pub behind : Entries shards.Request
  pub with : more ≡ before ++ entry ∷ behind

read_at : (slots : List Slot) (directs : List Direct) (number : ℕ) (r : DirectRead) → (direct_at directs number).read ≡ Some r
    → IsAt (reads_from slots directs) (read_entry r (stage_of (is_stopped slots r) r.token))
read_at slots [] number r is = absurd (cc)
read_at slots (d ∷ directs) zero r is =
    record { before = []; behind = reads_from slots directs; with = ap (λ (o : Option DirectRead). read_by slots o ++ reads_from slots directs) is }
read_at slots (d ∷ directs) (suc number) r is =
    let at = read_at slots directs number r is in
    record {
      before = read_by slots d.read ++ at.before;
      behind = at.behind;
      with = ap (λ es. read_by slots d.read ++ es) at.with ∙ (simp append_assoc);
    }

pub read_there : (s : State) (number : ℕ) (r : DirectRead) → AreReadOn s.frames → IsDistinct nat_eq (keys_of (requests_of s)) → (direct_at s.frames.directs number).read ≡ Some r
    → table (requests_of s) r.served.id ≡ Some (record { op = world.Op.Read r.served.block; stage = Reading r.token })
read_there s number r on distinct is =
    let fs = s.frames in
    let goes = on_at fs.slots fs.directs number r on is in
    let at = read_at fs.slots fs.directs number r is in
    let entry = read_entry r (Reading r.token) in
    let before = map waiting_request (waiting_of s) ++ (held_requests fs ++ at.before) in
    let behind = at.behind ++ replied_requests fs.saw_failed s.released s.replies.items in
    let parts : requests_of s ≡ before ++ entry ∷ behind =
    (λ i. map waiting_request (waiting_of s) ++ ((held_requests fs ++ at.with i) ++ replied_requests fs.saw_failed s.released s.replies.items))
    ∙ (λ i. map waiting_request (waiting_of s) ++ ((held_requests fs ++ (at.before ++ read_entry r (stage_of (goes i) r.token) ∷ at.behind)) ++ replied_requests fs.saw_failed s.released s.replies.items))
    ∙ (simp append_assoc) in
    ap (λ es. table es r.served.id) parts ∙ own before entry.0 entry.1 behind (apart before entry.0 entry.1 behind (subst (λ es. IsDistinct nat_eq (keys_of es)) parts distinct))

-- ---- direct reads whose commands are gone or abandoned

pub keys_on : (fs : Frames) (es : Entries shards.Request) → keys_of (map (entry_on fs) es) ≡ keys_of es
keys_on fs [] = refl
keys_on fs (e ∷ es) = ap (λ ks. e.0 ∷ ks) (keys_on fs es)

table_on : (fs : Frames) (es : Entries shards.Request) (q : ℕ) → table (map (entry_on fs) es) q ≡ read_on (world_commands fs) (table es q)
table_on fs [] q = refl
table_on fs (e ∷ es) q =
    elim (nat_eq q e.0) as (λ b. cond b (Some (entry_on fs e).1) (table (map (entry_on fs) es) q) ≡ read_on (world_commands fs) (cond b (Some e.1) (table es q))) [
      | true ↦ refl
      | false ↦ table_on fs es q
    ]

map_same : {X : Type 0} (f : X → X) (xs : List X) → AllByRecursion (λ x. f x ≡ x) xs → map f xs ≡ xs
map_same f [] all = refl
map_same f (x ∷ xs) all = λ i. all.0 i ∷ map_same f xs all.1 i

map_parts : {X Y : Type 0} (f : X → Y) (xs ys : List X) → map f (xs ++ ys) ≡ map f xs ++ map f ys
map_parts f [] ys = refl
map_parts f (x ∷ xs) ys = ap (λ rest. f x ∷ rest) (map_parts f xs ys)

waiting_on : (fs : Frames) (rs : List Queued) → AllByRecursion (λ e. entry_on fs e ≡ e) (map waiting_request rs)
waiting_on fs [] = tt
waiting_on fs (r ∷ rs) =
    let stage = waits_so (λ x. read_stage (world_commands fs) x ≡ x) refl refl r.erred in
    ((λ i. (r.id, record { op = op_of r.op; stage = stage i })), waiting_on fs rs)

ended_on : (fs : Frames) (seen : Bool) (r : Entered) → entry_on fs (finished_request seen r) ≡ finished_request seen r
ended_on fs true r = refl
ended_on fs false r = refl

pub requests_on : (s new : State) → new.waiting ≡ s.waiting → new.replies ≡ s.replies → new.released ≡ s.released
    → held_requests new.frames ≡ held_requests s.frames → ReadsOn s.frames new.frames → new.frames.saw_failed ≡ s.frames.saw_failed
    → requests_of new ≡ map (entry_on new.frames) (requests_of s)
requests_on s new waiting replies released holds reads seen =
    let fs = new.frames in
    let on = entry_on fs in
    let Stays : ℕ × shards.Request → Type 0 = λ e. on e ≡ e in
    let w = map waiting_request (waiting_of s) in
    let h = held_requests s.frames in
    let d = read_requests s.frames in
    let p = replied_requests s.frames.saw_failed s.released s.replies.items in
    (λ i. map waiting_request (requests_in (waiting i)) ++ ((holds i ++ reads i) ++ replied_requests (seen i) (released i) (replies i).items))
    ∙ (λ i. sym (map_same on w (waiting_on fs (waiting_of s))) i
    ++ ((sym (map_same on h (all_held Stays (λ frame r. refl) 0 s.frames.uses)) i ++ map on d)
    ++ sym (map_same on p (all_replied Stays s.frames.saw_failed (λ r. refl) (ended_on fs s.frames.saw_failed) s.released s.replies.items)) i))
    ∙ sym (map_parts on w ((h ++ d) ++ p) ∙ ap (λ es. map on w ++ es) (map_parts on (h ++ d) p ∙ ap (λ es. es ++ map on p) (map_parts on h d)))

pub tables_on : (s : State) (fs : Frames) (new : Entries shards.Request) → new ≡ map (entry_on fs) (requests_of s)
    → table new ≡ (λ q. read_on (world_commands fs) (table (requests_of s) q))
tables_on s fs new is = fun_ext (λ q. ap (λ es. table es q) is ∙ table_on fs (requests_of s) q)
