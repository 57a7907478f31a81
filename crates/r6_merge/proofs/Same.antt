-- A shard finds the same in two worlds, from step to step.
use Rattle.std.proofs.Common.{◌≡◌, ◌≢◌, ℕ, ◌≤◌, Bool, true, false, cond, refl, sym, ap, ◌∙◌, subst, Option, Some, None, Ok, Err}
use Rattle.r6_layout.specs.PlainArray.{Block}
use Rattle.r6_world.specs.Tables.{put}
use Rattle.r6_world.specs.Layouts.{Layout, IsLayout, IsRowOf}
use Rattle.r6_world.specs.Registers.{RegisterCall, Fail, DeclareLost, Attach, ReportRebuilt, Replace, Complete, Told as Answer, Refusal, NoSuchSlot, RegisterAnswer, answer_to, register_after}
use Rattle.r6_world.specs.ShardStates.{Shard, Command, Transfer, Fetch, Store, Storing, Call}
use Rattle.r6_world.specs.Steps.{Event, Deliver, Good, Look, Take_call, Step}
use Rattle.r6_world.specs.Worlds.{World, Devices, Core, Perform, Tell, Outside, happened, decayed, called, completed_by, unseen_by, settled_by, given, broken_by, lapsed_at, flown, unseen_at, settles, as_made, MayCome, IsBrought, IsAnswer, Possible}
use Rattle.r6_world.proofs.Tables.{put-same, put-other}
use Rattle.r6_world.proofs.Rows.RowPerformings.{stored-other}
use Rattle.r6_course.proofs.Handing.{performed-alike}
use Rattle.r6_course.proofs.Working.{refused-beyond}
use Rattle.r6_merge.specs.Weaving.{IsSameFor}

-- ---- parts that are broken decay

pub decays-alike : (l : Layout) (n : ℕ) (w v : World) (noise noise' : Devices) → IsSameFor l n w v
    → ((d g row : ℕ) → IsRowOf l n row → noise d g row ≡ noise' d g row)
    → IsSameFor l n (decayed l noise w) (decayed l noise' v)
decays-alike l n w v noise noise' x same = record {
  shard = x.shard;
  register = x.register;
  device = λ d g row there.
      let e : w.broken (l.shard_of row) d g ≡ v.broken (l.shard_of row) d g =
      ap (λ y. w.broken y d g) there.1 ∙ ap (λ (y : ℕ → ℕ → Bool). y d g) x.broken
      ∙ ap (λ y. v.broken y d g) (sym there.1) in
      ap (λ b. cond b (noise d g row) (w.device d g row)) e
      ∙ ap (λ y. cond (v.broken (l.shard_of row) d g) y (w.device d g row)) (same d g row there)
      ∙ ap (λ y. cond (v.broken (l.shard_of row) d g) (noise' d g row) y) (x.device d g row there);
  flight = x.flight;
  performed = x.performed;
  broken = x.broken;
  completed = x.completed;
  lapsed = x.lapsed;
  unseen = x.unseen;
  settled = x.settled;
}

-- where nothing is changed
pub decays-none : (l : Layout) (n : ℕ) (w v : World) (noise : Devices) → IsSameFor l n w v
    → ((d g row : ℕ) → IsRowOf l n row → noise d g row ≡ w.device d g row) → IsSameFor l n (decayed l noise w) v
decays-none l n w v noise x same = record {
  shard = x.shard;
  register = x.register;
  device = λ d g row there. both (w.broken (l.shard_of row) d g) (noise d g row) (w.device d g row)
      (same d g row there) ∙ x.device d g row there;
  flight = x.flight;
  performed = x.performed;
  broken = x.broken;
  completed = x.completed;
  lapsed = x.lapsed;
  unseen = x.unseen;
  settled = x.settled;
}
  where
    both : (b : Bool) (noise stands : Block) → noise ≡ stands → cond b noise stands ≡ stands
    both true noise stands e = e
    both false noise stands e = refl

-- ---- a call of the shard's core

pub core-alike : (l : Layout) (n : ℕ) (event : Event) (new : Shard) (w v : World) → IsSameFor l n w v
    → IsSameFor l n (happened l w (Core n event new)) (happened l v (Core n event new))
core-alike l n event new w v x = record {
  shard = put-same w.shard n new n refl ∙ sym (put-same v.shard n new n refl);
  register = x.register;
  device = x.device;
  flight = put-same w.flight n _ n refl ∙ ap (flown event) x.flight ∙ sym (put-same v.flight n _ n refl);
  performed = x.performed;
  broken =
      put-same w.broken n _ n refl ∙ ap (λ y. broken_by y event (w.broken n)) x.shard
      ∙ ap (broken_by (v.shard n) event) x.broken
      ∙ sym (put-same v.broken n _ n refl);
  completed = x.completed;
  lapsed =
      put-same w.lapsed n _ n refl ∙ ap (λ y. lapsed_at l y event (w.lapsed n)) x.shard
      ∙ ap (lapsed_at l (v.shard n) event) x.lapsed
      ∙ sym (put-same v.lapsed n _ n refl);
  unseen = put-same w.unseen n _ n refl ∙ ap (unseen_at event) x.unseen ∙ sym (put-same v.unseen n _ n refl);
  settled = put-same w.settled n _ n refl ∙ ap (settles event) x.settled ∙ sym (put-same v.settled n _ n refl);
}

pub core-apart : (l : Layout) (n k : ℕ) (event : Event) (new : Shard) (w v : World) → (k ≡ n → ⊥) → IsSameFor l k w v
    → IsSameFor l k (happened l w (Core n event new)) v
core-apart l n k event new w v ne x = record {
  shard = put-other w.shard n new k ne ∙ x.shard;
  register = x.register;
  device = x.device;
  flight = put-other w.flight n _ k ne ∙ x.flight;
  performed = x.performed;
  broken = put-other w.broken n _ k ne ∙ x.broken;
  completed = x.completed;
  lapsed = put-other w.lapsed n _ k ne ∙ x.lapsed;
  unseen = put-other w.unseen n _ k ne ∙ x.unseen;
  settled = put-other w.settled n _ k ne ∙ x.settled;
}

-- ---- a device performs a command of the shard

given-alike : (device device' : Devices) (c : Command) (transfer : Transfer)
    → device c.slot c.generation c.row ≡ device' c.slot c.generation c.row
    → given device c transfer ≡ given device' c transfer
given-alike device device' c Fetch e = e
given-alike device device' c (Store b) e = refl
given-alike device device' c Storing e = refl

pub perform-alike : (l : Layout) (n token : ℕ) (c : Command) (w v : World) → IsRowOf l n c.row → IsSameFor l n w v
    → IsSameFor l n (happened l w (Perform n token c)) (happened l v (Perform n token c))
perform-alike l n token c w v there x = record {
  shard = x.shard;
  register = x.register;
  device = λ d g row in'. performed-alike w.device v.device c c.transfer d g row (x.device d g row in');
  flight = x.flight;
  performed =
      put-same w.performed n _ n refl
      ∙ ap (λ y. put (w.performed n) token (Some y))
      (given-alike w.device v.device c c.transfer (x.device c.slot c.generation c.row there))
      ∙ ap (λ y. put y token (Some (given v.device c c.transfer))) x.performed ∙ sym (put-same v.performed n _ n refl);
  broken = x.broken;
  completed = x.completed;
  lapsed = x.lapsed;
  unseen = x.unseen;
  settled = x.settled;
}

pub perform-apart : (l : Layout) → IsLayout l → (n k token : ℕ) (c : Command) (w v : World) → IsRowOf l n c.row
    → (k ≡ n → ⊥) → IsSameFor l k w v
    → IsSameFor l k (happened l w (Perform n token c)) v
perform-apart l is n k token c w v there ne x = record {
  shard = x.shard;
  register = x.register;
  device = λ d g row in'.
      stored-other l is n w.device c c.transfer d g row (λ e. ne (sym in'.1 ∙ ap l.shard_of e ∙ there.1))
      ∙ x.device d g row in';
  flight = x.flight;
  performed = put-other w.performed n _ k ne ∙ x.performed;
  broken = x.broken;
  completed = x.completed;
  lapsed = x.lapsed;
  unseen = x.unseen;
  settled = x.settled;
}

-- ---- a call at the register

unseen-alike : (call : RegisterCall) (answer : Answer) (f g : ℕ → ℕ → Bool) (n : ℕ) → f n ≡ g n
    → unseen_by call answer f n ≡ unseen_by call answer g n
unseen-alike (ReportRebuilt shard slot generation) (Ok Complete) f g n e = ap (λ y. put y slot true) e
unseen-alike call answer f g n e = e

settled-alike : (answer : Answer) (f g : ℕ → Bool) (n : ℕ) → f n ≡ g n → settled_by answer f n ≡ settled_by answer g n
settled-alike (Ok answer) f g n e = refl
settled-alike (Err refusal) f g n e = e

pub called-alike : (l : Layout) (n : ℕ) (call : RegisterCall) (answer : Answer) (w v : World) → IsSameFor l n w v
    → IsSameFor l n (called l w call answer) (called l v call answer)
called-alike l n call answer w v x = record {
  shard = x.shard;
  register = ap (λ y. register_after l y call answer) x.register;
  device = x.device;
  flight = x.flight;
  performed = x.performed;
  broken = x.broken;
  completed = ap (completed_by call answer) x.completed;
  lapsed = x.lapsed;
  unseen = unseen-alike call answer w.unseen v.unseen n x.unseen;
  settled = settled-alike answer w.settled v.settled n x.settled;
}

completed-none : (call : RegisterCall) (refusal : Refusal) (f : ℕ → Option ℕ) → completed_by call (Err refusal) f ≡ f
completed-none (Fail slot) refusal f = refl
completed-none (DeclareLost slot generation) refusal f = refl
completed-none (Attach slot) refusal f = refl
completed-none (ReportRebuilt shard slot generation) refusal f = refl
completed-none (Replace slot) refusal f = refl

unseen-none : (call : RegisterCall) (refusal : Refusal) (f : ℕ → ℕ → Bool) → unseen_by call (Err refusal) f ≡ f
unseen-none (Fail slot) refusal f = refl
unseen-none (DeclareLost slot generation) refusal f = refl
unseen-none (Attach slot) refusal f = refl
unseen-none (ReportRebuilt shard slot generation) refusal f = refl
unseen-none (Replace slot) refusal f = refl

-- one that is refused changes nothing
pub refused-none : (l : Layout) (n : ℕ) (call : RegisterCall) (refusal : Refusal) (w v : World) → IsSameFor l n w v
    → IsSameFor l n (called l w call (Err refusal)) v
refused-none l n call refusal w v x = record {
  shard = x.shard;
  register = x.register;
  device = x.device;
  flight = x.flight;
  performed = x.performed;
  broken = x.broken;
  completed = completed-none call refusal w.completed ∙ x.completed;
  lapsed = x.lapsed;
  unseen = ap (λ (y : ℕ → ℕ → Bool). y n) (unseen-none call refusal w.unseen) ∙ x.unseen;
  settled = x.settled;
}

-- the shard that makes it
abbrev pub after_telling : World → (n : ℕ) → Shard → World
after_telling w n new = record w { shard = put w.shard n new; settled = put w.settled n false }

pub told-alike : (l : Layout) (n : ℕ) (new : Shard) (w v : World) → IsSameFor l n w v
    → IsSameFor l n (after_telling w n new) (after_telling v n new)
told-alike l n new w v x = record {
  shard = put-same w.shard n new n refl ∙ sym (put-same v.shard n new n refl);
  register = x.register;
  device = x.device;
  flight = x.flight;
  performed = x.performed;
  broken = x.broken;
  completed = x.completed;
  lapsed = x.lapsed;
  unseen = x.unseen;
  settled = put-same w.settled n false n refl ∙ sym (put-same v.settled n false n refl);
}

pub told-apart : (l : Layout) (n k : ℕ) (new : Shard) (w v : World) → (k ≡ n → ⊥) → IsSameFor l k w v
    → IsSameFor l k (after_telling w n new) v
told-apart l n k new w v ne x = record {
  shard = put-other w.shard n new k ne ∙ x.shard;
  register = x.register;
  device = x.device;
  flight = x.flight;
  performed = x.performed;
  broken = x.broken;
  completed = x.completed;
  lapsed = x.lapsed;
  unseen = x.unseen;
  settled = put-other w.settled n false k ne ∙ x.settled;
}

-- as the shard that makes it has it
pub tell-alike : (l : Layout) (n : ℕ) (call : Call) (answer : Answer) (middle new : Shard) (w v : World)
    → IsSameFor l n w v
    → IsSameFor l n (happened l w (Tell n call answer middle new)) (happened l v (Tell n call answer middle new))
tell-alike l n call answer middle new w v x =
    called-alike l n (as_made n call) answer (after_telling w n new) (after_telling v n new) (told-alike l n new w v x)

-- as others have it, where it is refused
pub refused-apart : (l : Layout) (n k : ℕ) (call : Call) (refusal : Refusal) (middle new : Shard) (w v : World)
    → (k ≡ n → ⊥)
    → IsSameFor l k w v → IsSameFor l k (happened l w (Tell n call (Err refusal) middle new)) v
refused-apart l n k call refusal middle new w v ne x =
    refused-none l k (as_made n call) refusal (after_telling w n new) v (told-apart l n k new w v ne x)

-- and where it is taken: as a call of somebody else
pub taken-apart : (l : Layout) (n k : ℕ) (call : Call) (answer : RegisterAnswer) (middle new : Shard) (w v : World)
    → (k ≡ n → ⊥)
    → answer_to l v.register (as_made n call) ≡ Ok answer → IsSameFor l k w v
    → IsSameFor l k (happened l w (Tell n call (Ok answer) middle new)) (happened l v (Outside (as_made n call)))
taken-apart l n k call answer middle new w v ne is x =
    subst (λ y. IsSameFor l k (happened l w (Tell n call (Ok answer) middle new)) (called l v (as_made n call) y))
    (sym is)
    (called-alike l k (as_made n call) (Ok answer) (after_telling w n new) v (told-apart l n k new w v ne x))

-- a call of somebody outside
pub outside-alike : (l : Layout) (k : ℕ) (call : RegisterCall) (w v : World) → IsSameFor l k w v
    → IsSameFor l k (happened l w (Outside call)) (happened l v (Outside call))
outside-alike l k call w v x =
    subst (λ y. IsSameFor l k (called l w call (answer_to l w.register call))
    (called l v call (answer_to l y call))) x.register
    (called-alike l k call (answer_to l w.register call) w v x)

-- ---- what may happen

may-alike : (l : Layout) (n : ℕ) (w v : World) → IsSameFor l n w v → (event : Event) → MayCome v n event
    → MayCome w n event
may-alike l n w v x (Deliver token (Good b) receipt) p =
    subst (λ y. IsBrought (y token) (w.performed n token) b) (sym x.flight)
    (subst (λ (y : ℕ → Option Block). IsBrought (v.flight n token) (y token) b) (sym x.performed) p)
may-alike l n w v x (Look seen) p = p ∙ sym x.register
may-alike l n w v x event p = p

pub core-may : (l : Layout) (n : ℕ) (Comes Comes' : RegisterCall → Type 0) (event : Event) (new : Shard) (w v : World)
    → IsSameFor l n w v
    → Possible l Comes v (Core n event new) → Possible l Comes' w (Core n event new)
core-may l n Comes Comes' event new w v x p =
    (p.0, may-alike l n w v x event p.1, subst (λ y. Step l n y event new) (sym x.shard) p.2)

pub perform-may : (l : Layout) (n token : ℕ) (c : Command) (Comes Comes' : RegisterCall → Type 0) (w v : World)
    → IsSameFor l n w v
    → Possible l Comes v (Perform n token c) → Possible l Comes' w (Perform n token c)
perform-may l n token c Comes Comes' w v x p = (
  p.0,
  ap (λ (y : ℕ → Option Command). y token) x.flight ∙ p.1,
  subst (λ (y : Shard). y.command token ≢ None) (sym x.shard) p.2,
  ap (λ (y : ℕ → Option Block). y token) x.performed ∙ p.3,
)

pub tell-may : (l : Layout) (n : ℕ) (call : Call) (answer : Answer) (middle new : Shard)
    (Comes Comes' : RegisterCall → Type 0) (w v : World) → IsSameFor l n w v
    → Possible l Comes v (Tell n call answer middle new) → Possible l Comes' w (Tell n call answer middle new)
tell-may l n call answer middle new Comes Comes' w v x p = (
  p.0,
  subst (λ y. IsAnswer l y (as_made n call) answer) (sym x.register) p.1,
  subst (λ y. Step l n y (Take_call call) middle) (sym x.shard) p.2,
  p.3,
)

-- a call that fails no slot of the array changes nothing
pub none-failed : (l : Layout) (k slot : ℕ) (w v : World) → l.slots ≤ slot → IsSameFor l k w v
    → IsSameFor l k (happened l w (Outside (Fail slot))) v
none-failed l k slot w v beyond x =
    subst (λ y. IsSameFor l k (called l w (Fail slot) y) v) (sym (refused-beyond l w.register slot beyond))
    (refused-none l k (Fail slot) NoSuchSlot w v x)
