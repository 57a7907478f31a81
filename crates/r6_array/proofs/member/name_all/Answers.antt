use Rattle.std.proofs.Common.{◌≡◌, ◌<◌, ◌+◌, ◌-◌, ◌∙◌, ℕ, suc, take, length, refl, sym, ap, arith}
use Rattle.std.specs.Prelude.{drop}
use Rattle.std.proofs.lemmas.List.{length-take-le, length-drop}
use Rattle.std.specs.FinMap as map
use Rattle.r6_tables.specs.Table.{Numbered, capacity_of, next_of, entries_of}
use Rattle.r6_array.specs.Together.{with_named}
use Rattle.r6_array.proofs.Lists.{taken_next}
use Rattle.r6_array.proofs.Together.{len_named, none_named, one_named}
use Rattle.r6_array.proofs.member.name_all.Goals as goal

pub loop-init : goal.loop-init
loop-init c = record { so_far = sym (none_named c.args.table.now); left = refl; capacity = refl; within = omega arith }

pub unreachable-requires : goal.unreachable-requires
unreachable-requires c =
    let names = c.args.names.now.items in
    let at = c.loop.counter in
    let below : at < c.args.count = c.loop-test.true in
    let there = c.requires.there in
    let left : length c.loop.names.items ≡ length names - at = ap length c.loop.invariant.left ∙ length-drop at names in
    let counted = c.loop.names.ok.0 in
    let none = c.in_default.ensures.cases.0 in
    omega (arith, below, there, left, counted, none)

pub push-requires-clause-room : goal.push-requires-clause-room
push-requires-clause-room c =
    let names = c.args.names.now.items in
    let at = c.loop.counter in
    let below : at < c.args.count = c.loop-test.true in
    let there = c.requires.there in
    let n : length (take at names) ≡ at = length-take-le at names (omega (arith, below, there)) in
    let len = len_named c.args.table.now (take at names) c.requires.fresh in
    let same : map.len (entries_of c.loop.table) ≡ map.len (entries_of (with_named c.args.table.now (take at names))) =
    ap (λ (t : Numbered ℕ). map.len (entries_of t)) c.loop.invariant.so_far in
    let cap : capacity_of c.loop.table ≡ capacity_of c.args.table.now = ap (λ (t : Numbered ℕ). capacity_of t) c.loop.invariant.so_far in
    let room = c.requires.room in
    omega (arith, same, len, n, below, cap, room)

pub push-requires-clause-numbers : goal.push-requires-clause-numbers
push-requires-clause-numbers c =
    let names = c.args.names.now.items in
    let at = c.loop.counter in
    let below : at < c.args.count = c.loop-test.true in
    let there = c.requires.there in
    let n : length (take at names) ≡ at = length-take-le at names (omega (arith, below, there)) in
    let next : next_of c.loop.table ≡ next_of c.args.table.now + length (take at names) = ap (λ (t : Numbered ℕ). next_of t) c.loop.invariant.so_far in
    let numbers = c.requires.numbers in
    omega (arith, next, n, below, numbers)

pub loop-preserved : goal.loop-preserved
loop-preserved c =
    let names = c.args.names.now.items in
    let old = c.args.table.now in
    let at = c.loop.counter in
    let below : at < c.args.count = c.loop-test.true in
    let next = taken_next names at c.in-Some.name c.pop_front.new.self.items (sym c.loop.invariant.left ∙ c.in-Some.ensures.items) in
    let one : suc at ≡ at + 1 = omega arith in
    record {
      so_far = c.push.ensures.entry
          ∙ ap (λ (t : Numbered ℕ). (capacity_of t, (next_of t + 1, map.insert (entries_of t) (next_of t) c.in-Some.name))) c.loop.invariant.so_far
          ∙ one_named old (take at names) c.in-Some.name ∙ ap (with_named old) (sym next.0) ∙ ap (λ n. with_named old (take n names)) one;
      left = sym next.1 ∙ ap (λ n. drop n names) one;
      capacity = c.pop_front.ensures.capacity ∙ c.loop.invariant.capacity;
      within = omega (arith, below);
    }

pub returns : goal.returns
returns c =
    let at : c.loop.counter ≡ c.args.count = let low = c.loop-test.false in let high = c.loop.invariant.within in omega (arith, low, high) in
    record {
      named = c.loop.invariant.so_far ∙ ap (λ n. with_named c.args.table.now (take n c.args.names.now.items)) at;
      left = c.loop.invariant.left ∙ ap (λ n. drop n c.args.names.now.items) at;
      capacity = c.loop.invariant.capacity;
    }
