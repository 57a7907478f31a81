use Rattle.std.proofs.Common.{◌≡◌, length, drop, sym, ap, subst, ◌∙◌}
use Rattle.r6_offline.specs.Parts.{parts_of}
use Rattle.r6_offline.specs.Stretches.{PositionRead}
use Rattle.r6_offline.proofs.CheckLaws.{written}
use Rattle.r6_offline.proofs.StretchLaws.{position_read}
use Rattle.r6_offline.proofs.stretch.read_position.Goals as goal

pub returns-clause-room : goal.returns-clause-room
returns-clause-room g c =
    let bytes = c.read_rows_of.new.bytes in
    let items = c.args.bytes.now.items in
    let whole : c.args.bytes.now.len ≡ length bytes = c.args.bytes.now.ok.0 ∙ sym (ap length c.as_mut_slice.ensures.value) ∙ sym c.read_rows_of.auto.bytes in
    ap length (written bytes (drop (length bytes) items) c.args.bytes.now.len whole) ∙ c.read_rows_of.auto.bytes ∙ ap length c.as_mut_slice.ensures.value

pub returns-clause-read : goal.returns-clause-read
returns-clause-read g c is =
    let shape = c.args.geometry.now in
    let started = parts_of g.D.BlockDevice.told c.args.parts.now in
    let bytes = c.read_rows_of.new.bytes in
    let items = c.args.bytes.now.items in
    let whole : c.args.bytes.now.len ≡ length bytes = c.args.bytes.now.ok.0 ∙ sym (ap length c.as_mut_slice.ensures.value) ∙ sym c.read_rows_of.auto.bytes in
    subst (PositionRead shape started c.args.row c.args.rows c.args.position) (sym (written bytes (drop (length bytes) items) c.args.bytes.now.len whole))
    (position_read shape started c.args.row c.args.rows c.args.position c.number_at-number.result bytes c.number_at-number.ensures.limits c.requires.chunk c.requires.rows.0 c.requires.rows.1
    c.number_at-number.ensures.value (c.read_rows_of.ensures.read is))
