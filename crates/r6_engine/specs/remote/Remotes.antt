-- A shard's ends of the exchanges with its workers (this project's own).
use Rattle.std.specs.Prelude.{◌≡◌, ℕ, ◌≤◌, ◌<◌, ◌%◌, ◌-◌, ◌==◌, if◌then◌else◌, Bool, true, false, not, List, [], ◌∷◌, ◌++◌, length, vec_capacity, Option, Some, None}
use Rattle.std.specs.List.{Contains}
use Rattle.r6_dev.specs.History.{Telling}
use Rattle.r6_dev.specs.Promises.{Promise, no_promise}
use Rattle.r6_world.specs.declared.values.Command.{Command}
use Rattle.r6_exchange.specs.declared.task.WorkerTask.TheVariants.{End}
use Rattle.r6_exchange.specs.declared.pass.ShardPass.{ShardPass}
use Rattle.r6_exchange.specs.declared.exchange.Exchange.{Exchange}
use Rattle.r6_exchange.specs.Answering.{labels_in}
use Rattle.r6_exchange.specs.Exchanges.{IsShardPass, sent_by, received_by, limit_of}
use Rattle.r6_exchange.specs.Joins.{HasNoEnd}
use Rattle.r6_exchange.specs.Next.{NoneRenewed}
use Rattle.r6_shard.specs.Performing.{Performer, HasPart}
use Rattle.r6_engine.specs.declared.remote.remote.Remote.{Remote}
use Rattle.r6_engine.specs.remote.Lines.{Lines, lines_of, waiting, all_out, under, labels_at, known_in, telling_in, promise_of}

-- each is the shard's end of its exchange
abbrev pub AreShardPasses : {D : Type 0} → (D → Telling) → (D → Promise) → List (Exchange D) → List (ShardPass D) → Type 0
AreShardPasses told promised [] [] = Unit {0}
AreShardPasses told promised [] (p ∷ passes) = ⊥
AreShardPasses told promised (exchange ∷ exchanges) [] = ⊥
AreShardPasses told promised (exchange ∷ exchanges) (p ∷ passes) =
    IsShardPass told promised exchange p × AreShardPasses told promised exchanges passes

-- nothing was sent yet, nothing came, and each worker may be sent so many parts
abbrev pub AreFresh : {D : Type 0} → (room : ℕ) → List (ShardPass D) → Type 0
AreFresh room [] = Unit {0}
AreFresh room (p ∷ passes) =
    ((sent_by p ≡ []) × (received_by p ≡ []) × (room ≤ limit_of p)) × AreFresh room passes

-- they are of slots that this worker serves
abbrev pub AreOf : (workers worker : ℕ) → List Command → Type 0
AreOf workers worker [] = Unit {0}
AreOf workers worker (c ∷ commands) = (c.slot % workers ≡ worker) × AreOf workers worker commands

-- no two have one token
abbrev pub AreDistinct : List Command → Type 0
AreDistinct [] = Unit {0}
AreDistinct (c ∷ commands) = (under c.token commands ≡ None) × AreDistinct commands

-- a worker performs commands to the last, unless it is the one that may stop
abbrev pub goes_on : (stop : Option ℕ) → (worker : ℕ) → Bool
goes_on None worker = true
goes_on (Some stopping) worker = not (stopping == worker)

-- what is known of the parts, and which commands are out
abbrev pub performer_in : {D : Type 0} → (D → Telling) → (D → Promise) → Lines D → (labels : List (ℕ × ℕ)) → (part_room : ℕ)
    → (stop : Option ℕ) → (held : Option Command) → Performer
performer_in told promised lines labels part_room stop held =
    record {
      tells = λ slot generation. telling_in (known_in told promised lines slot generation);
      promised = λ slot generation. promise_of (known_in told promised lines slot generation);
      steady = λ slot. goes_on stop (slot % lines.workers);
      labels = labels;
      part_room = part_room;
      out = λ token. under token (all_out lines held);
    }

-- What a shard has sent and received is in order: no part was sent while a command to its device was unanswered; each
-- worker has commands of its own slots, and no token is out twice; they are counted, as far as the count goes; there is a
-- part of each label, and each worker was sent just the parts of the labels of its slots, in their order; it has room for
-- as many as there may be labels; and no worker was told that nothing more comes
pub record IsKept {D : Type 0} (told : D → Telling) (promised : D → Promise) (lines : Lines D) (labels : List (ℕ × ℕ))
    (part_room : ℕ) (held : Option Command) (under_way bound : ℕ) : Type 0 where
  pub some : 1 ≤ lines.workers
  pub renewed : (worker : ℕ) → NoneRenewed (lines.sent worker) (lines.received worker)
  pub own : (worker : ℕ) → AreOf lines.workers worker (waiting lines worker)
  pub distinct : AreDistinct (all_out lines held)
  pub counted : under_way < bound → under_way ≡ length (all_out lines held)
  pub here : (slot generation : ℕ) → Contains labels (slot, generation)
      → HasPart (λ s g. telling_in (known_in told promised lines s g)) slot generation
  pub labelled : (worker : ℕ) → labels_in (lines.sent worker) ≡ labels_at lines.workers worker labels
  pub limits : (worker : ℕ) → worker < lines.workers → part_room ≤ lines.limit worker
  pub «open» : (worker : ℕ) → HasNoEnd (lines.sent worker)

-- no command is out whose token is this or a later one
abbrev pub AreUnused : Performer → (token : ℕ) → Type 0
AreUnused performer token = (later : ℕ) → token ≤ later → performer.out later ≡ None

-- each worker was told that nothing more comes, and nothing else was sent or received
pub record HasEnded {D : Type 0} (old new : Lines D) : Type 0 where
  pub workers : new.workers ≡ old.workers
  pub sent : (worker : ℕ) → worker < old.workers → new.sent worker ≡ old.sent worker ++ End ∷ []
  pub received : new.received ≡ old.received
  pub limit : new.limit ≡ old.limit

-- nothing was sent yet, and nothing is out
abbrev pub fresh_performer : (part_room : ℕ) → (steady : ℕ → Bool) → Performer
fresh_performer part_room steady =
    record {
      tells = λ slot generation. None;
      promised = λ slot generation. no_promise;
      steady = steady;
      labels = [];
      part_room = part_room;
      out = λ token. None;
    }

-- the greatest number that a `usize` can be
abbrev pub usize_max : ℕ
usize_max = 18446744073709551615

-- one less; a count that reached the end of its range stays there
abbrev pub less_one : ℕ → ℕ
less_one count = if count == usize_max then count else count - 1

abbrev pub is_none : {A : Type 0} → Option A → Bool
is_none None = true
is_none (Some x) = false

module _ {D : Type 0} (told : D → Telling) (promised : D → Promise) where
  -- with one command held back, or none
  abbrev pub performer_with : Remote D → (held : Option Command) → Performer
  performer_with r held =
      performer_in told promised (lines_of r.passes.items) r.labels.items (vec_capacity r.labels) r.stop held

  pub record IsRemoteWith (r : Remote D) (held : Option Command) : Type 0 where
    pub ends : AreShardPasses told promised r.exchanges.now r.passes.items
    pub kept : IsKept told promised (lines_of r.passes.items) r.labels.items (vec_capacity r.labels) held r.under_way usize_max

  abbrev pub performer_of : Remote D → Performer
  performer_of r = performer_with r r.held

  abbrev pub IsRemote : Remote D → Type 0
  IsRemote r = IsRemoteWith r r.held
