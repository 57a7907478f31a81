use Rattle.std.proofs.Common.{refl}
use Rattle.r6_dev.specs.History.{Telling}
use Rattle.r6_dev.specs.Promises.{Promise}
use Rattle.r6_exchange.specs.declared.exchange.Exchange.{Exchange}
use Rattle.r6_exchange.specs.declared.worker.Worker.{Worker}
use Rattle.r6_exchange.specs.Workers.{IsWorker}
use Rattle.r6_idle.specs.declared.idle.Idle.{Idle}
use Rattle.r6_engine.proofs.post.work_on.Goals as goal

-- how its thread sleeps is no matter of the worker
however-idle : {D : Type 0} (told : D → Telling) (promised : D → Promise) (exchange : Exchange D) (w : Worker D) (idle : Idle)
    → IsWorker told promised exchange w → IsWorker told promised exchange (record w { idle = idle })
however-idle told promised exchange w idle is = record {
  pass = is.pass;
  none_owed = is.none_owed;
  holds = is.holds;
  labels = is.labels;
  parts_room = is.parts_room;
  replaced_room = is.replaced_room;
}

pub loop-init : goal.loop-init
loop-init g c = (tt, tt, record { exchange = refl; worker = c.requires })

pub step-requires : goal.step-requires
step-requires g c = c.loop.invariant.2.worker

pub loop-preserved-in-Done-1 : goal.loop-preserved-in-Done-1
loop-preserved-in-Done-1 g c = (
  tt,
  tt,
  record {
    exchange = c.loop.invariant.2.exchange;
    worker = however-idle g.D.BlockDevice.told g.D.BlockDevice.promised c.loop.post.exchange.now c.step.new.self c.found.new.self
        c.step.ensures.worker;
  },
)

pub loop-preserved : goal.loop-preserved
loop-preserved g c = (
  tt,
  tt,
  record {
    exchange = c.loop.invariant.2.exchange;
    worker = however-idle g.D.BlockDevice.told g.D.BlockDevice.promised c.loop.post.exchange.now c.step.new.self c.wait.new.self
        c.step.ensures.worker;
  },
)

pub returns-in-Idle-2-clause-exchange : goal.returns-in-Idle-2-clause-exchange
returns-in-Idle-2-clause-exchange g c = c.loop.invariant.2.exchange
