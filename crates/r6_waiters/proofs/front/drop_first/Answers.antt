use Rattle.std.proofs.Common.{◌≡◌, ◌-◌, ◌<◌, ◌≤◌, ◌∙◌, ℕ, None, drop, length, take, sym, ap, arith, rules}
use Rattle.std.proofs.lemmas.List.{ext_get_or, get_or-drop, get_or-take, length-drop, length-take-le}
use Rattle.r6_waiters.proofs.front.drop_first.Goals as goal

pub returns-clause-rest : goal.returns-clause-rest
returns-clause-rest g c =
    let old = c.args.places.now.items in
    let moved = c.loop-position.places.items in
    let left = length old - c.args.count in
    let all : c.loop-position.position ≡ left = search rules in
    let long : left ≤ length moved = omega (arith, c.loop-position.invariant.as_long) in
    let taken : c.truncate.new.self.items ≡ take left moved = c.truncate.ensures.items ∙ ap (λ (n : ℕ). take n moved) (search rules) in
    let many : length (take left moved) ≡ left = length-take-le left moved long in
    taken
    ∙ ext_get_or (0, None) (take left moved) (drop c.args.count old) (many ∙ sym (length-drop c.args.count old)) (λ k below.
    let within : k < left = omega (arith, below, many) in
    get_or-take left moved k (0, None) within
    ∙ c.loop-position.invariant.moved k (omega (arith, within, all))
    ∙ sym (get_or-drop c.args.count old k (0, None)))
