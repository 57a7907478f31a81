use Rattle.std.proofs.Common.{sym, ap, ◌∙◌}
use Rattle.std.specs.Prelude.{is_some, not}
use Rattle.r6_core.proofs.Home.{copied_some, full_core, full_turns, none_core, none_turns, read_core, read_turns, reader_first}
use Rattle.r6_core.proofs.state.State.start_read.Goals as goal

pub returns-then-is_none-clause-core : goal.returns-then-is_none-clause-core
returns-then-is_none-clause-core c = none_core c.args.self.now c.requires.settled c.requires.live c.requires.freed (ap is_some (sym c.oldest.ensures) ∙ copied_some c.oldest.result ∙ c.is_none.ensures ∙ ap not c.if-is_none.true)

pub returns-then-is_none-clause-turns : goal.returns-then-is_none-clause-turns
returns-then-is_none-clause-turns c = none_turns c.args.self.now c.requires.settled c.requires.live c.requires.freed (ap is_some (sym c.oldest.ensures) ∙ copied_some c.oldest.result ∙ c.is_none.ensures ∙ ap not c.if-is_none.true)

pub returns-in_default-clause-core : goal.returns-in_default-clause-core
returns-in_default-clause-core c = full_core c.args.self.now c.requires.settled c.requires.live c.requires.freed c.in_default.ensures

pub returns-in_default-clause-turns : goal.returns-in_default-clause-turns
returns-in_default-clause-turns c = full_turns c.args.self.now c.requires.settled c.requires.live c.requires.freed c.in_default.ensures

pub start-requires-clause-first : goal.start-requires-clause-first
start-requires-clause-first c =
    reader_first c.args.self.now c.requires.settled c.requires.live c.requires.freed c.requires.few (ap is_some (sym c.oldest.ensures) ∙ copied_some c.oldest.result ∙ c.is_none.ensures ∙ ap not c.if-is_none.false)
    c.in-Some.number c.in-Some.ensures

pub returns-clause-core : goal.returns-clause-core
returns-clause-core c =
    read_core c.args.self.now c.requires.settled c.requires.live c.requires.freed c.requires.few (ap is_some (sym c.oldest.ensures) ∙ copied_some c.oldest.result ∙ c.is_none.ensures ∙ ap not c.if-is_none.false)
    c.in-Some.number c.in-Some.ensures c.start.new.self c.start.ensures.settled c.start.ensures.leads c.start.ensures.left c.start.ensures.starts c.start.ensures.only

pub returns-clause-turns : goal.returns-clause-turns
returns-clause-turns c =
    read_turns c.args.self.now c.requires.settled c.requires.live c.requires.freed c.requires.few (ap is_some (sym c.oldest.ensures) ∙ copied_some c.oldest.result ∙ c.is_none.ensures ∙ ap not c.if-is_none.false)
    c.in-Some.number c.in-Some.ensures c.start.new.self c.start.ensures.settled c.start.ensures.leads c.start.ensures.left c.start.ensures.starts c.start.ensures.only
