-- A worker: its parts of the devices, and what it has done (this project's own).
use Rattle.std.specs.Prelude.{◌≡◌, ◌≤◌, ◌++◌, [], vec_capacity, IsPermutation}
use Rattle.r6_dev.specs.History.{Telling}
use Rattle.r6_dev.specs.Promises.{Promise}
use Rattle.r6_exchange.specs.declared.exchange.Exchange.{Exchange}
use Rattle.r6_exchange.specs.declared.worker.Worker.{Worker}
use Rattle.r6_exchange.specs.Answering.{nothing, state_after, unanswered, labels_in, labels_of}
use Rattle.r6_exchange.specs.Exchanges.{IsWorkerPass, taken_by, given_by, room_of}
use Rattle.r6_exchange.specs.Parts.{Holds, part_in}

-- A worker has answered each command that it took, and its parts tell what follows from that. It has a part of each label
-- as often as it took one up, and none of another; and there is room for each part that may come
pub record IsWorker {D : Type 0} (told : D → Telling) (promised : D → Promise) (exchange : Exchange D) (w : Worker D)
    : Type 0 where
  pub pass : IsWorkerPass told promised exchange w.pass
  pub none_owed : unanswered (taken_by w.pass) (given_by w.pass) ≡ []
  pub holds : Holds (state_after told promised nothing (taken_by w.pass) (given_by w.pass))
      (part_in told promised w.parts.items)
  pub labels : IsPermutation (labels_in (taken_by w.pass)) (labels_of w.parts.items ++ labels_of w.replaced.items)
  pub parts_room : room_of w.pass ≤ vec_capacity w.parts
  pub replaced_room : room_of w.pass ≤ vec_capacity w.replaced
