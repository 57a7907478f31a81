use Rattle.std.proofs.Common.{◌<◌, false, List, length, sym, ap, subst}
use Rattle.r6_frames.specs.declared.directs.Direct.{Direct}
use Rattle.r6_frames.specs.Directs.{is_free_direct}
use Rattle.r6_frames.proofs.Pooled.{put_in}
use Rattle.r6_frames.proofs.pool.Pool.lend.Goals as goal

pub invariant_of-self : goal.invariant_of-self
invariant_of-self c =
    let buffers = c.self.inside.buffers.items in
    let number = c.args.number in
    let below : number < length buffers = subst (λ (v : List Direct). number < length v) (sym c.self.view_is) c.requires in
    put_in c.self.inside.free c.with_bit-self-inside.result buffers number c.replace.new.dest false c.self.invariant below (sym (ap is_free_direct c.replace.ensures.after)) c.with_bit-self-inside.ensures
