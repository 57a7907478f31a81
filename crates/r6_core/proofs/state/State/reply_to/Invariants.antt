use Rattle.std.proofs.Common.{◌≡◌, ◌++◌, List, length, map}
use Rattle.circular_buffer.specs.Buffer.{buffer}
use Rattle.r6_world.specs.declared.values.Request.{Request}
use Rattle.r6_frames.specs.Calls.{requests_of as requests_ended}
use Rattle.r6_frames.specs.Writes.{request_of}
use Rattle.r6_core.proofs.state.State.reply_to.Given as goal

-- those that were taken out are finished
abbrev pub invariant-loop-request : goal.invariant-loop-request
invariant-loop-request l =
    record {
      done : List Request;
      same : l.self ≡ record l.fn.self { replies = buffer (l.fn.self.replies.items ++ done) l.fn.self.replies.capacity };
      all : done ++ map request_of l.writes ≡ requests_ended l.fn.ended;
    }

abbrev pub decreases-loop-request : goal.decreases-loop-request
decreases-loop-request l = length l.writes
