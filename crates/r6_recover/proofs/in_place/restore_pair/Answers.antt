use Rattle.std.proofs.Common.{◌≡◌, ℕ, ◌+◌, ◌-◌, List, length, sym, ap, subst, arith}
use Rattle.std.specs.List.{All}
use Rattle.r6_recover.specs.Restores.{RestoresBlock, Restores}
use Rattle.r6_recover.proofs.RestoreLaws.{Restores-then}
use Rattle.r6_recover.proofs.in_place.restore_pair.Goals as goal

-- Q after one other block
then_q : (m len m' len' x y : ℕ) (old mid new : List (List ℕ)) → RestoresBlock m len x (m + 1) old mid → RestoresBlock m' len' (m' + 1) m' mid new → m' ≡ m → len' ≡ len → y ≡ m + 1 → Restores m len x y old new
then_q m len m' len' x y old mid new one two same_m same_len last =
    let q : RestoresBlock m' len (m' + 1) m' mid new = subst (λ (l : ℕ). RestoresBlock m' l (m' + 1) m' mid new) same_len two in
    rw last (Restores-then m len x (m + 1) m old mid new one (subst (λ (n : ℕ). RestoresBlock n len (n + 1) n mid new) same_m q))

pub returns-then-x-m-clause-restores : goal.returns-then-x-m-clause-restores
returns-then-x-m-clause-restores c =
    let blocks : List (List ℕ) = c.args.blocks.now in
    let m : ℕ = length blocks - 2 in
    let len : ℕ = length c.args.sum.now in
    let first : c.args.x ≡ length blocks - 2 = omega (arith, c.if-x-m.true) in
    then_q m len (length c.restore_p.new.blocks - 2) (length c.restore_p.new.sum) c.args.x c.args.y blocks c.restore_p.new.blocks c.restore_q.new.blocks
    (subst (λ (n : ℕ). RestoresBlock m len n (m + 1) blocks c.restore_p.new.blocks) (sym first) c.restore_p.ensures.restores) c.restore_q.ensures.restores
    (ap (λ (n : ℕ). n - 2) c.restore_p.ensures.restores.count) c.restore_p.ensures.sum_length (omega (arith, first, c.requires.before, c.requires.within))

pub returns-then-y-m-2-clause-restores : goal.returns-then-y-m-2-clause-restores
returns-then-y-m-2-clause-restores c =
    let last : c.args.y ≡ length c.args.blocks.now - 2 = omega (arith, c.if-y-m-2.true) in
    subst (λ (y : ℕ). Restores (length c.args.blocks.now - 2) (length c.args.sum.now) c.args.x y c.args.blocks.now c.restore_with_p.new.blocks) (sym last) c.restore_with_p.ensures.restores

pub returns-else-y-m-2-clause-restores : goal.returns-else-y-m-2-clause-restores
returns-else-y-m-2-clause-restores c =
    let blocks : List (List ℕ) = c.args.blocks.now in
    let m : ℕ = length blocks - 2 in
    let last : c.args.y ≡ length blocks - 2 + 1 = omega (arith, c.if-y-m.false, c.if-y-m-2.false, c.requires.within) in
    then_q m (length c.args.sum.now) (length c.restore_from_p.new.blocks - 2) (length c.restore_from_p.new.sum) c.args.x c.args.y blocks c.restore_from_p.new.blocks c.restore_q-else-y-m-2.new.blocks
    c.restore_from_p.ensures.restores c.restore_q-else-y-m-2.ensures.restores
    (ap (λ (n : ℕ). n - 2) c.restore_from_p.ensures.restores.count) c.restore_from_p.ensures.sum_length last

pub restore_q-requires-clause-long : goal.restore_q-requires-clause-long
restore_q-requires-clause-long c =
    subst (λ (l : ℕ). All (λ block. length block ≡ l) c.restore_p.new.blocks) (sym c.restore_p.ensures.sum_length) c.restore_p.ensures.restores.long

pub restore_q-requires-else-y-m-2-clause-long : goal.restore_q-requires-else-y-m-2-clause-long
restore_q-requires-else-y-m-2-clause-long c =
    subst (λ (l : ℕ). All (λ block. length block ≡ l) c.restore_from_p.new.blocks) (sym c.restore_from_p.ensures.sum_length) c.restore_from_p.ensures.restores.long
