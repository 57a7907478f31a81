use Rattle.std.proofs.Common.{subst, arith}
use Rattle.r6_frames.specs.declared.frames.ServedRequest.{ServedRequest}
use Rattle.r6_frames.specs.Reads.{ReadsDirectly}
use Rattle.r6_core.specs.Inside.{IsSyncedRead}
use Rattle.r6_core.proofs.ReadStarts.{place_for, readable, served_is, synced_for}
use Rattle.r6_core.proofs.state.State.read.Goals as goal

pub read-requires-clause-live : goal.read-requires-clause-live
read-requires-clause-live c = c.requires.can.0

pub read-requires-clause-free : goal.read-requires-clause-free
read-requires-clause-free c = c.requires.can.2.1

pub read-requires-clause-request : goal.read-requires-clause-request
read-requires-clause-request c = readable c.args.self.now.frames c.args.request c.in-Read.block c.in-Read.buffer c.in-Read.is c.requires.request

pub read-requires-clause-place : goal.read-requires-clause-place
read-requires-clause-place c = place_for c.args.self.now.frames c.args.request c.in-Read.block c.in-Read.buffer c.in-Read.is c.args.place c.requires.place

pub read-requires-clause-synced : goal.read-requires-clause-synced
read-requires-clause-synced c = (synced_for c.args.self.now.frames c.args.request c.in-Read.block c.in-Read.buffer c.in-Read.is c.args.place c.requires.place c.requires.can.1).0

pub read-requires-clause-passed : goal.read-requires-clause-passed
read-requires-clause-passed c = (synced_for c.args.self.now.frames c.args.request c.in-Read.block c.in-Read.buffer c.in-Read.is c.args.place c.requires.place c.requires.can.1).1

pub read-requires-clause-numbers : goal.read-requires-clause-numbers
read-requires-clause-numbers c = let few = c.requires.can.2.0 in omega arith

pub unreachable-requires : goal.unreachable-requires
unreachable-requires c = subst (IsSyncedRead c.args.self.now.frames) c.in-Write.is c.requires.can.1

pub returns-clause-reads : goal.returns-clause-reads
returns-clause-reads c =
    subst (λ (served : ServedRequest). ReadsDirectly c.args.self.now.frames c.args.number served c.read.new.self) (served_is c.args.self.now.frames c.args.request c.in-Read.block c.in-Read.buffer c.in-Read.is)
    c.read.ensures.reads
