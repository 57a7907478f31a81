use Rattle.std.proofs.Common.{◌<◌, ◌∙◌, length, sym, ap, subst}
use Rattle.std.specs.Prelude.{option_copied}
use Rattle.r6_waiters.specs.Line.{causes_of, entries_of, oldest_of}
use Rattle.r6_waiters.specs.Sets.{place_at, cause_at}
use Rattle.r6_waiters.proofs.Lines.{oldest-found, oldest-none}
use Rattle.r6_waiters.proofs.Marks.{there-within}
use Rattle.r6_waiters.proofs.Stepped.{oldest-in, none-in}
use Rattle.r6_waiters.proofs.waiters.Waiters.oldest.Goals as goal

pub returns-in_err-position : goal.returns-in_err-position
returns-in_err-position g c =
    let sets = c.self.inside.sets.items in
    let places = c.self.inside.places.items in
    let within : c.args.cause < length sets = subst (λ v. c.args.cause < causes_of v) (sym c.self.view_is) c.requires in
    let none = none-in sets places c.args.cause c.index.result.now c.self.invariant.marked within c.index.ensures c.in_err-position.ensures in
    ap option_copied c.from_residual.ensures
    ∙ sym (oldest-none (cause_at sets) places c.args.cause none)
    ∙ ap (λ v. oldest_of c.args.cause (entries_of v)) c.self.view_is

pub value-requires : goal.value-requires
value-requires g c =
    let sets = c.self.inside.sets.items in
    let places = c.self.inside.places.items in
    let within : c.args.cause < length sets = subst (λ v. c.args.cause < causes_of v) (sym c.self.view_is) c.requires in
    let oldest = oldest-in sets places c.args.cause c.in_ok-position.position c.index.result.now c.self.invariant.marked within c.index.ensures c.in_ok-position.ensures in
    subst (λ ps. c.in_ok-position.position < length ps) (sym c.deref.ensures.value) (there-within places c.in_ok-position.position oldest.there)

pub returns : goal.returns
returns g c =
    let sets = c.self.inside.sets.items in
    let places = c.self.inside.places.items in
    let position = c.in_ok-position.position in
    let within : c.args.cause < length sets = subst (λ v. c.args.cause < causes_of v) (sym c.self.view_is) c.requires in
    let oldest = oldest-in sets places c.args.cause position c.index.result.now c.self.invariant.marked within c.index.ensures c.in_ok-position.ensures in
    c.value.ensures
    ∙ ap (λ ps. (place_at ps position).1) c.deref.ensures.value
    ∙ sym (oldest-found (cause_at sets) places c.args.cause position oldest)
    ∙ ap (λ v. oldest_of c.args.cause (entries_of v)) c.self.view_is
