use Rattle.std.proofs.Common.{◌≡◌, ◌<◌, ◌∙◌, List, length, Some, sym, ap, subst}
use Rattle.std.specs.Prelude.{◌&&◌, is_none, is_some}
use Rattle.r6_frames.specs.declared.directs.Direct.{Direct}
use Rattle.r6_frames.specs.declared.directs.DirectRead.{DirectRead}
use Rattle.r6_frames.specs.Directs.{direct_at}
use Rattle.r6_frames.proofs.FirstStopped.{direct_found, read_within}
use Rattle.r6_frames.proofs.Pooled.{put_in}
use Rattle.r6_frames.proofs.pool.Pool.take_read.Goals as goal

pub invariant_of-self : goal.invariant_of-self
invariant_of-self c =
    let buffers = c.self.inside.buffers.items in
    let number = c.args.number in
    let has = subst (λ (v : List Direct). (read : DirectRead) × ((direct_at v number).read ≡ Some read)) (sym c.self.view_is) c.requires in
    let below : number < length buffers = read_within buffers number has.0 has.1 in
    let one = direct_found buffers number c.index.result.now below c.index.ensures in
    let two = direct_found buffers number c.index_mut.result.now below c.index_mut.ensures.value in
    let same = c.is_some-is_free.ensures ∙ ap (λ (d : Direct). is_some d.buffer) (one ∙ sym two)
    ∙ sym (ap (λ r. is_none r && is_some c.index_mut.result.now.buffer) c.take.ensures.after) in
    put_in c.self.inside.free c.with_bit-self-inside.result buffers number _ c.is_some-is_free.result c.self.invariant below same c.with_bit-self-inside.ensures
