use Rattle.std.proofs.Common.{◌≡◌, true, false, Bool, ◌<◌, List, length, get_or, sym, ap, subst, ◌∙◌, refl, arith, None}
use Rattle.std.specs.Prelude.{◌&&◌}
use Rattle.std.proofs.lemmas.Bool.{lt-ltb}
use Rattle.r6_stripe.specs.Holds.{wants_all}
use Rattle.r6_stripe.specs.Masks.{flags_of}
use Rattle.r6_stripe.specs.Replacements.{IsReplacing, held_beside, source_held}
use Rattle.r6_stripe.specs.Steps.{Held}
use Rattle.r6_stripe.specs.Views.{held_of}
use Rattle.r6_stripe.proofs.BegunMasks.{flags_of_at, length-flags_of}
use Rattle.r6_stripe.proofs.ReplacingBegins.{begins, begun_kept, first_replacement}
use Rattle.r6_stripe.proofs.ReplacingWhole.{rests_sound}
use Rattle.r6_stripe.proofs.whole.WholeState.begin_replacement.Goals as goal

pub returns-clause-held : goal.returns-clause-held
returns-clause-held c =
    let row = c.args.self.now.row in
    let n = length row.hold.places in
    let p = c.args.position in
    let flags : List Bool = flags_of n c.args.in_sync in
    let below : p < length flags = omega (arith, c.requires.place, length-flags_of n c.args.in_sync) in
    let on : get_or flags p false ≡ true = flags_of_at n c.args.in_sync p ∙ (λ k. lt-ltb p n c.requires.place k && c.requires.in_sync k) in
    (λ k. held_beside (first_replacement p) (record (c.begin_source.ensures.held k) { second_away = c.requires.home.spare_home k }))
    ∙ begins row.hold.len flags p below on

pub returns-clause-sound : goal.returns-clause-sound
returns-clause-sound c =
    let row = c.args.self.now.row in
    let n = length row.hold.places in
    let p = c.args.position in
    let flags : List Bool = flags_of n c.args.in_sync in
    let below : p < length flags = omega (arith, c.requires.place, length-flags_of n c.args.in_sync) in
    let on : get_or flags p false ≡ true = flags_of_at n c.args.in_sync p ∙ (λ k. lt-ltb p n c.requires.place k && c.requires.in_sync k) in
    let is = c.begin_source.ensures.held in
    let then : ◌≡◌ {A = Held} (record (held_of c.begin_source.new.self) { second_away = row.spare_away }) (source_held row.hold.len flags) = (λ k. record (is k) { second_away = c.requires.home.spare_home k }) in
    record {
      row = rests_sound c.begin_source.new.self None row.spare row.spare_away c.begin_source.ensures.sound (ap (λ (h : Held). wants_all h.planned.hold.kind) is) (ap (λ (h : Held). h.class) is) c.begin_source.ensures.prepared refl
          (λ home. c.requires.home.spare ∙ sym (ap (λ (h : Held). h.planned.hold.size) is));
      replacement = (refl, subst (λ (h : Held). IsReplacing h (first_replacement p)) (sym then) (begun_kept row.hold.len flags p below (omega (arith, c.requires.home.home.four_or_more, length-flags_of n c.args.in_sync)) on));
    }
