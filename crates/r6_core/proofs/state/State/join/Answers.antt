use Rattle.std.proofs.Common.{◌≡◌, ◌≢◌, [], ◌∷◌, ℕ, ◌<◌, refl, sym, ap, subst, ◌∙◌, arith}
use Rattle.r6_layout.specs.Layout as layout
use Rattle.r6_layout.specs.Shape.{data_slots}
use Rattle.r6_layout.specs.declared.place.Place.{Place}
use Rattle.r6_layout.proofs.Places.{row_of-lt}
use Rattle.r6_frames.specs.Writes.{Entry, request_of}
use Rattle.r6_waiters.specs.Line.{entries_of}
use Rattle.r6_core.specs.declared.state.State.{State}
use Rattle.r6_core.specs.Inside.{JoinsOne, ServeTogether}
use Rattle.r6_core.proofs.Joining.{IsAt, at_first, at_last, at_new, at_next, at_own}
use Rattle.r6_core.proofs.state.State.join.Goals as goal

pub loop-index-init : goal.loop-index-init
loop-index-init c =
    let s = c.args.self.now in
    let one = c.requires.first in
    (one.0, one.1, at_first s c.requires.shape c.args.place.now c.args.writes one.0 one.1 c.requires.waiting, refl, c.data_slots-index-end.ensures.value ∙ ap data_slots c.geometry.ensures, omega arith)

-- the first's own index is passed over
pub loop-index-preserved-then-index-place : goal.loop-index-preserved-then-index-place
loop-index-preserved-then-index-place c =
    let s = c.args.self.now in
    let inv = c.loop-index.invariant in
    let own : c.loop-index.index ≡ c.args.place.now.index = c.if-index-place.true ∙ ap (λ (p : Place). p.index) inv.3 in
    (inv.0, inv.1, at_own s c.requires.shape c.args.place.now c.args.writes inv.0 inv.1 c.loop-index.index c.loop-index.writes c.loop-index.self inv.2 own, inv.3, inv.4, (let test = c.loop-index-test.true in omega (arith, test)))

pub join_one-requires-clause-row : goal.join_one-requires-clause-row
join_one-requires-clause-row c =
    let s = c.args.self.now in
    let inv = c.loop-index.invariant in
    let below = row_of-lt s.frames.geometry inv.0.served.block c.requires.shape inv.1.2.there in
    let place = ap (λ (p : Place). p.row) inv.3 in
    let row = inv.1.3.row in
    let rows = ap (λ (x : State). x.frames.geometry.rows) inv.2.rest in
    omega (arith, below, place, row, rows)

pub join_one-requires-clause-new : goal.join_one-requires-clause-new
join_one-requires-clause-new c =
    let s = c.args.self.now in
    let inv = c.loop-index.invariant in
    let test = c.loop-index-test.true in
    let end = inv.4 in
    let below : c.loop-index.index < data_slots s.frames.geometry = omega (arith, test, end) in
    let other : c.loop-index.index ≢ c.args.place.now.index = λ same. c.if-index-place.false (same ∙ ap (λ (p : Place). p.index) (sym inv.3)) in
    at_new s c.requires.shape c.args.place.now c.args.writes inv.0 inv.1 c.loop-index.index c.loop-index.writes c.loop-index.self inv.2 below other

pub loop-index-preserved : goal.loop-index-preserved
loop-index-preserved c =
    let s = c.args.self.now in
    let inv = c.loop-index.invariant in
    let test = c.loop-index-test.true in
    let end = inv.4 in
    let below : c.loop-index.index < data_slots s.frames.geometry = omega (arith, test, end) in
    let other : c.loop-index.index ≢ c.args.place.now.index = λ same. c.if-index-place.false (same ∙ ap (λ (p : Place). p.index) (sym inv.3)) in
    let joins = subst (λ (block : ℕ). JoinsOne block c.loop-index.index c.loop-index.self c.loop-index.writes c.join_one.new.self c.join_one.new.writes)
    (λ i. layout.block_at ((ap (λ (x : State). x.frames.geometry) inv.2.rest) i) ((ap (λ (p : Place). p.row) inv.3) i) c.loop-index.index) c.join_one.ensures in
    (inv.0, inv.1, at_next s c.requires.shape c.args.place.now c.args.writes inv.0 inv.1 c.loop-index.index c.loop-index.writes c.loop-index.self inv.2 below other c.join_one.new.self c.join_one.new.writes joins, inv.3, inv.4, omega (arith, test))

pub returns-clause-together : goal.returns-clause-together
returns-clause-together c write is =
    let s = c.args.self.now in
    let inv = c.loop-index.invariant in
    let both : inv.0 ∷ [] ≡ write ∷ [] = sym inv.1.0 ∙ is in
    let same : inv.0 ≡ write = cc in
    let past = c.loop-index-test.false in
    let end = inv.4 in
    let within = inv.5 in
    let last : c.loop-index.index ≡ data_slots s.frames.geometry = omega (arith, past, end, within) in
    subst (λ (w : Entry). ServeTogether s.frames (request_of w) (entries_of s.waiting) c.loop-index.writes (entries_of c.loop-index.self.waiting)) same
    (at_last s c.requires.shape c.args.place.now c.args.writes inv.0 inv.1 c.loop-index.writes c.loop-index.self
    (subst (λ (n : ℕ). IsAt s c.args.place.now inv.0 n c.loop-index.writes c.loop-index.self) last inv.2))
