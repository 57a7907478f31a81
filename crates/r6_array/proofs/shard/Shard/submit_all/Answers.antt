use Rattle.r6_array.proofs.Together.{takes_all_in}
use Rattle.r6_array.proofs.shard.Shard.submit_all.Goals as goal

pub returns : goal.returns
returns c =
    let was = c.self.inside in
    let s = c.submit_all-submitted in
    rw (← c.self.view_is) (takes_all_in was.geometry was.number was.member s.new.self was.at_work c.args.requests.now s.new.requests s.result c.self.invariant s.ensures.taken)
