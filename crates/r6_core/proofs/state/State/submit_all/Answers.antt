use Rattle.std.proofs.Common.{◌≡◌, ◌-◌, [], arith, deque_len, length, refl, rules, sym, subst, ap}
use Rattle.r6_core.specs.Inside.{IsCore}
use Rattle.r6_core.proofs.Entered.{entered_known, entered_settled, many_taken, none_started, none_taken, same_taken, submits_all}
use Rattle.r6_core.proofs.state.State.submit_all.Goals as goal

pub start_newest-requires-clause-known : goal.start_newest-requires-clause-known
start_newest-requires-clause-known c =
    let mid = c.enter_all-refusal.new in
    entered_known c.args.self.now c.args.ops.now.items mid.ops.items mid.self c.requires c.enter_all-refusal.ensures.entered

pub start_newest-requires-clause-settled : goal.start_newest-requires-clause-settled
start_newest-requires-clause-settled c =
    let mid = c.enter_all-refusal.new in
    entered_settled c.args.self.now c.args.ops.now.items mid.ops.items mid.self c.requires.settled c.enter_all-refusal.ensures.entered

pub returns-then-count-gt0-clause-submits : goal.returns-then-count-gt0-clause-submits
returns-then-count-gt0-clause-submits c = λ window.
    let s = c.args.self.now in
    let ops = c.args.ops.now.items in
    let mid = c.enter_all-refusal.new in
    let done = c.start_newest.ensures in
    let entered = c.enter_all-refusal.ensures.entered in
    let all : deque_len c.args.ops.now ≡ length ops = search rules in
    let rest : deque_len mid.ops ≡ length mid.ops.items = search rules in
    let many = many_taken s ops mid.ops.items mid.self entered in
    let count : c.len-before.result - c.len.result ≡ length entered.taken = omega (arith, all, rest, many, c.len-before.ensures, c.len.ensures) in
    submits_all window s mid.self c.start_newest.new.self ops mid.ops.items _ c.requires entered
    (record { refused = c.enter_all-refusal.ensures.refused; core = done.core; leads = done.leads; turns = done.turns; only = done.only })
    refl count
    (λ none. let nothing : length entered.taken ≡ 0 = ap length none in absurd (omega (arith, count, nothing, c.if-count-gt0.true)))

-- none was taken
none : (c : goal.Else-count-gt0) → c.enter_all-refusal.ensures.entered.taken ≡ []
none c =
    let mid = c.enter_all-refusal.new in
    let all : deque_len c.args.ops.now ≡ length c.args.ops.now.items = search rules in
    let rest : deque_len mid.ops ≡ length mid.ops.items = search rules in
    none_taken c.args.self.now c.args.ops.now.items mid.ops.items mid.self c.enter_all-refusal.ensures.entered
    (omega (arith, all, rest, c.len-before.ensures, c.len.ensures, c.if-count-gt0.false))

still : (c : goal.Else-count-gt0) → c.enter_all-refusal.new.self ≡ c.args.self.now
still c =
    let mid = c.enter_all-refusal.new in
    same_taken c.args.self.now c.args.ops.now.items mid.ops.items mid.self c.enter_all-refusal.ensures.entered (none c)

core : (c : goal.Else-count-gt0) → IsCore c.enter_all-refusal.new.self
core c = subst IsCore (sym (still c)) c.requires

pub returns-else-count-gt0-clause-core : goal.returns-else-count-gt0-clause-core
returns-else-count-gt0-clause-core c = core c

pub returns-else-count-gt0-clause-submits : goal.returns-else-count-gt0-clause-submits
returns-else-count-gt0-clause-submits c = λ window.
    let s = c.args.self.now in
    let ops = c.args.ops.now.items in
    let mid = c.enter_all-refusal.new in
    let entered = c.enter_all-refusal.ensures.entered in
    let all : deque_len c.args.ops.now ≡ length ops = search rules in
    let rest : deque_len mid.ops ≡ length mid.ops.items = search rules in
    let many = many_taken s ops mid.ops.items mid.self entered in
    let count : c.len-before.result - c.len.result ≡ length entered.taken = omega (arith, all, rest, many, c.len-before.ensures, c.len.ensures) in
    submits_all window s mid.self mid.self ops mid.ops.items _ c.requires entered
    (none_started mid.self mid.ops.items _ (core c) c.enter_all-refusal.ensures.refused)
    refl count (λ _. still c)
