use Rattle.std.proofs.Common.{◌≡◌, ◌<◌, List, Bool, true, false, length, get_or, sym, ◌∙◌, ap, subst, arith, Some}
use Rattle.std.specs.Prelude.{◌&&◌}
use Rattle.std.proofs.lemmas.Bool.{lt-ltb}
use Rattle.r6_stripe.specs.Holds.{cell_at}
use Rattle.r6_stripe.specs.Masks.{flags_of}
use Rattle.r6_stripe.specs.Seconds.{with_second}
use Rattle.r6_stripe.specs.Steps.{Held, begun_held}
use Rattle.r6_stripe.specs.Views.{held_of, kind_of_task}
use Rattle.r6_stripe.proofs.Alone.{AreAlone, cells_alone}
use Rattle.r6_stripe.proofs.BesideBegins.{begun_both, begun_cell, begun_second, begun_sound, begun_wide}
use Rattle.r6_stripe.proofs.BegunMasks.{flags_of_at, length-flags_of}
use Rattle.r6_stripe.proofs.row.RowState.begin_beside.Goals as goal

pub begin-requires : goal.begin-requires
begin-requires c = record { home = c.requires.home.home; task = c.requires.task }

pub returns-clause-held : goal.returns-clause-held
returns-clause-held c =
    let row = c.args.self.now in
    let n = length row.hold.places in
    let p = c.args.position in
    let flags : List Bool = flags_of n c.args.in_sync in
    let kind = kind_of_task c.args.task in
    let below : p < length flags = omega (arith, c.requires.place, length-flags_of n c.args.in_sync) in
    let on : get_or flags p false ≡ true = flags_of_at n c.args.in_sync p ∙ (λ k. lt-ltb p n c.requires.place k && c.requires.in_sync k) in
    let alone : AreAlone (begun_held row.hold.len flags kind).planned.hold.cells = subst AreAlone (ap (λ (h : Held). h.planned.hold.cells) c.begin.ensures.held) (cells_alone c.begin.new.self.places c.begin.new.self.blocks.items) in
    (λ k. with_second (Some (begun_second p)) row.spare (c.requires.home.spare_home k) (c.begin.ensures.held k))
    ∙ begun_both row.hold.len flags kind p row.spare below on c.requires.apart alone

pub returns-clause-sound : goal.returns-clause-sound
returns-clause-sound c =
    let row = c.args.self.now in
    let new = c.begin.new.self in
    let n = length row.hold.places in
    let p = c.args.position in
    let flags : List Bool = flags_of n c.args.in_sync in
    let kind = kind_of_task c.args.task in
    let below : p < length flags = omega (arith, c.requires.place, length-flags_of n c.args.in_sync) in
    let on : get_or flags p false ≡ true = flags_of_at n c.args.in_sync p ∙ (λ k. lt-ltb p n c.requires.place k && c.requires.in_sync k) in
    let wide : length (begun_held row.hold.len flags kind).planned.hold.cells ≡ length flags = begun_wide row.hold.len flags kind in
    let is = ap (λ (h : Held). cell_at h.planned.hold.cells p) c.begin.ensures.held ∙ begun_cell row.hold.len flags kind p below on c.requires.apart in
    record {
      sound = c.begin.ensures.sound;
      classed = c.begin.ensures.classed;
      prepared = λ e. absurd (let f = sym c.begin.ensures.prepared ∙ e in cc);
      spare = λ e. c.requires.home.spare ∙ sym (ap (λ (h : Held). h.planned.hold.size) c.begin.ensures.held);
      second = begun_sound (held_of new) row.spare_away p (omega (arith, below, wide, ap (λ (h : Held). length h.planned.hold.cells) c.begin.ensures.held)) is c.requires.home.spare_home;
    }
