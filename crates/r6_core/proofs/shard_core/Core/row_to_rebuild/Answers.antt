use Rattle.std.proofs.Common.{sym, ap, ◌∙◌, subst}
use Rattle.r6_frames.specs.Slots.{rows_of}
use Rattle.r6_core.specs.Progress.{IsFirstUnbuilt}
use Rattle.r6_core.specs.Shards.{CoreView, core_with}
use Rattle.r6_core.proofs.Rebuilding.{first_unbuilt, rows_on}
use Rattle.r6_core.proofs.shard_core.Core.row_to_rebuild.Goals as goal

pub returns : goal.returns
returns c =
    let s = c.self.inside.state in
    let window = c.self.inside.window in
    let on = rows_on _ c.in_ok-rebuilt.rebuilt (ap rows_of (sym c.device.ensures) ∙ sym c.rows.ensures ∙ c.in_ok-rebuilt.was) in
    subst (λ (core : CoreView). IsFirstUnbuilt core c.args.slot c.next_row.result) c.self.view_is
    (subst (IsFirstUnbuilt (core_with window s) c.args.slot) (sym c.next_row.ensures)
    (first_unbuilt s window c.args.slot on.0 c.in_ok-rebuilt.rebuilt c.self.invariant.0.settled.sound.frames on.1))
