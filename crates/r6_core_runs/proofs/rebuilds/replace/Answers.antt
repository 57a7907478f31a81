use Rattle.r6_core_runs.proofs.rebuilds.replace.Goals as goal

pub returns : goal.returns
returns c =
    record {
      lost = c.in_ok-lost.lost;
      lost_is = c.in_ok-lost.ensures;
      here = c.look_both.new.first;
      there = c.look_both.new.second;
      looked = c.in_ok-look_both.ensures;
      attached_is = c.in_ok-attached.ensures;
      looked_again = c.in_ok-look_both-2.ensures;
    }
