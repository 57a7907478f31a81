use Rattle.std.proofs.Common.{◌≡◌, ◌∙◌, ℕ, List, false, length, refl, sym, ap, subst, arith}
use Rattle.std.specs.Prelude.{take, drop}
use Rattle.std.specs.List.{zip}
use Rattle.std.proofs.lemmas.List.{length-take-le, nil_from_length}
use Rattle.r6_tables.specs.Table.{Numbered, entries_of}
use Rattle.r6_core.specs.Shards.{CoreView}
use Rattle.r6_array.specs.Arrays.{ShardView}
use Rattle.r6_array.specs.Inside.{IsMember}
use Rattle.r6_array.specs.Requests.{Named}
use Rattle.r6_array.specs.Together.{TakesAllIn, all_named}
use Rattle.r6_array.proofs.Together.{all_submitted, first_number, room_for, takes_all, within_list}
use Rattle.r6_array.proofs.member.Member.submit_all.Goals as goal

pub name_all-requires-clause-there : goal.name_all-requires-clause-there
name_all-requires-clause-there c =
    let s = c.submit_all-submitted in
    let list = c.requests.inside in
    let few = within_list s.ensures.submitted.taken s.new.ops.items list.ops.items s.ensures.submitted.split in
    let count = s.ensures.submitted.count in
    let names = c.requests.invariant.0 in
    omega (arith, few, count, names)

pub name_all-requires-clause-room : goal.name_all-requires-clause-room
name_all-requires-clause-room c =
    let was = c.self.inside in
    let s = c.submit_all-submitted in
    (room_for was.core s.new.self was.names was.settled was.change was.taken c.requests.inside.ops.items s.new.ops.items s.result c.self.invariant s.ensures.submitted
    c.if-submitted-gt0.true).0

pub name_all-requires-clause-numbers : goal.name_all-requires-clause-numbers
name_all-requires-clause-numbers c =
    let was = c.self.inside in
    let s = c.submit_all-submitted in
    (room_for was.core s.new.self was.names was.settled was.change was.taken c.requests.inside.ops.items s.new.ops.items s.result c.self.invariant s.ensures.submitted
    c.if-submitted-gt0.true).1

pub invariant_of-self : goal.invariant_of-self
invariant_of-self c =
    let was = c.self.inside in
    let s = c.submit_all-submitted in
    let list = c.requests.inside in
    let few = within_list s.ensures.submitted.taken s.new.ops.items list.ops.items s.ensures.submitted.split in
    let count = s.ensures.submitted.count in
    let names = c.requests.invariant.0 in
    let named : length (take s.result.count list.names.items) ≡ s.result.count = length-take-le s.result.count list.names.items (omega (arith, few, count, names)) in
    subst (λ table. IsMember s.new.self table false was.change was.taken) (sym c.name_all.ensures.named)
    (all_submitted was.core s.new.self was.names was.settled was.change was.taken list.ops.items s.new.ops.items s.result (take s.result.count list.names.items) c.self.invariant
    s.ensures.submitted named)

pub returns-then-submitted-gt0-clause-taken : goal.returns-then-submitted-gt0-clause-taken
returns-then-submitted-gt0-clause-taken c =
    let was = c.self.inside in
    let list = c.requests.inside in
    let s = c.submit_all-submitted in
    let some = c.if-submitted-gt0.true in
    let first = first_number was.core s.new.self was.names was.settled was.change was.taken list.ops.items s.new.ops.items s.result c.self.invariant s.ensures.submitted in
    let old : ShardView = record { core = was.core; names = entries_of was.names; settled = was.settled } in
    let new : ShardView = record { core = s.new.self; names = entries_of c.name_all.new.table; settled = false } in
    let left = zip s.new.ops.items c.name_all.new.names.items in
    subst (λ (v : ShardView). TakesAllIn v c.args.requests.now left s.result new) c.self.view_is
    (subst (λ (v : List Named). TakesAllIn old v left s.result new) c.requests.view_is
    (takes_all old new list.ops.items s.new.ops.items list.names.items c.name_all.new.names.items s.result s.ensures.submitted c.requests.invariant.0 c.name_all.ensures.left
    (ap (λ (t : Numbered ℕ). entries_of t) c.name_all.ensures.named ∙ ap (λ k. all_named (entries_of was.names) k (take s.result.count list.names.items)) (sym first)) (λ more. refl)
    (λ none. absurd (omega (arith, none, some)))))

pub returns-else-submitted-gt0-clause-taken : goal.returns-else-submitted-gt0-clause-taken
returns-else-submitted-gt0-clause-taken c =
    let was = c.self.inside in
    let list = c.requests.inside in
    let s = c.submit_all-submitted in
    let none : s.result.count ≡ 0 = let few = c.if-submitted-gt0.false in omega (arith, few) in
    let old : ShardView = record { core = was.core; names = entries_of was.names; settled = was.settled } in
    let new : ShardView = record { core = s.new.self; names = entries_of was.names; settled = was.settled } in
    let left = zip s.new.ops.items list.names.items in
    subst (λ (v : ShardView). TakesAllIn v c.args.requests.now left s.result new) c.self.view_is
    (subst (λ (v : List Named). TakesAllIn old v left s.result new) c.requests.view_is
    (takes_all old new list.ops.items s.new.ops.items list.names.items list.names.items s.result s.ensures.submitted c.requests.invariant.0 (ap (λ n. drop n list.names.items) (sym none))
    (ap (λ n. all_named (entries_of was.names) s.result.first.0 (take n list.names.items)) (sym none)) (λ some. absurd (omega (arith, none, some)))
    (λ empty. ap (λ (core : CoreView). record { core = core; names = entries_of was.names; settled = was.settled }) (s.ensures.submitted.none (nil_from_length s.ensures.submitted.taken (sym s.ensures.submitted.count ∙ none))))))
