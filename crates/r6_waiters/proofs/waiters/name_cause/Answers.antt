use Rattle.std.proofs.Common.{◌≡◌, ◌<◌, ◌∙◌, ℕ, Bool, true, false, length, refl, sym, ap, subst, Option, None}
use Rattle.std.proofs.lemmas.List.{get_or_default}
use Rattle.r6_waiters.specs.Positions.{has}
use Rattle.r6_waiters.proofs.Named.{kept-removed, named-more}
use Rattle.std.specs.Prelude.{if◌then◌else◌}
use Rattle.r6_waiters.specs.Sets.{place_at}
use Rattle.r6_waiters.proofs.waiters.name_cause.Goals as goal

pub loop-position-preserved : goal.loop-position-preserved
loop-position-preserved g c =
    let places = c.loop-position.places in
    let set = c.loop-position.set in
    let position = c.in-Some.position in
    let there : has set position ≡ true = c.in-Some.ensures.0 in
    let first : has c.args.set.now position ≡ true = c.loop-position.invariant.left position there in
    let inside : position < length places = subst (λ n. position < n) (sym c.loop-position.auto.places) (c.requires position first) in
    let place = place_at places position in
    record {
      left = λ i here. c.loop-position.invariant.left i (kept-removed set c.remove.new.self position i (c.remove.ensures.has i) here);
      as_long = c.remove.ensures.room ∙ c.loop-position.invariant.as_long;
      named = λ i. ap (λ ps. place_at ps i) c.name_entry.ensures
          ∙ named-more c.args.places.now places c.args.set.now set c.remove.new.self place c.args.cause position inside there first
          (get_or_default places position (0, None) place inside) c.remove.ensures.has c.loop-position.invariant.named i;
    }

named-first : {X : Type 0} (held : Bool) (cause : ℕ) (place : ℕ × Option X) → place ≡ ((if held then place.0 else (if held then cause else place.0)), place.1)
named-first true cause (named, value) = refl
named-first false cause (named, value) = refl

pub loop-position-init : goal.loop-position-init
loop-position-init g c =
    record { left = λ i there. there; as_long = refl; named = λ i. named-first (has c.args.set.now i) c.args.cause (place_at c.args.places.now i) }

pub remove-requires : goal.remove-requires
remove-requires g c = c.in-Some.ensures.0

pub name_entry-requires : goal.name_entry-requires
name_entry-requires g c =
    let position = c.in-Some.position in
    subst (λ n. position < n) (sym c.loop-position.auto.places) (c.requires position (c.loop-position.invariant.left position c.in-Some.ensures.0))

pub loop-position-smaller : goal.loop-position-smaller
loop-position-smaller g c = c.remove.ensures.fewer

pub returns-clause-none : goal.returns-clause-none
returns-clause-none g c = c.in_default.ensures

pub returns-clause-room : goal.returns-clause-room
returns-clause-room g c = c.loop-position.invariant.as_long

pub returns-clause-named : goal.returns-clause-named
returns-clause-named g c i =
    let start = place_at c.args.places.now i in
    c.loop-position.invariant.named i ∙ ap (λ (b : Bool). ((if b then start.0 else (if has c.args.set.now i then c.args.cause else start.0)), start.1)) (c.in_default.ensures i)
