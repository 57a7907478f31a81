use Rattle.std.proofs.Common.{◌<◌, ◌∙◌, List, length, sym, ap, subst}
use Rattle.std.specs.Prelude.{is_some}
use Rattle.r6_frames.specs.declared.directs.Direct.{Direct}
use Rattle.r6_frames.proofs.FirstStopped.{direct_found}
use Rattle.r6_frames.proofs.Pooled.{free_if, put_in}
use Rattle.r6_frames.proofs.pool.Pool.bring_back.Goals as goal

pub invariant_of-self : goal.invariant_of-self
invariant_of-self c =
    let buffers = c.self.inside.buffers.items in
    let number = c.args.number in
    let below : number < length buffers = subst (λ (v : List Direct). number < length v) (sym c.self.view_is) c.requires in
    let one = direct_found buffers number c.index.result.now below c.index.ensures in
    let two = direct_found buffers number c.index_mut.result.now below c.index_mut.ensures.value in
    let same = free_if c.is_none-is_free.result c.index_mut.result.now.read (ap (λ (d : Direct). is_some d.read) (two ∙ sym one) ∙ c.is_none-is_free.ensures) in
    put_in c.self.inside.free c.with_bit-self-inside.result buffers number _ c.is_none-is_free.result c.self.invariant below same c.with_bit-self-inside.ensures
