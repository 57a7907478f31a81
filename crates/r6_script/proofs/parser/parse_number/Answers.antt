use Rattle.std.proofs.Common.{codes, lit<}
use Rattle.r6_script.proofs.ScriptLemmas.{first_is, first_is_not, no_plus, leading_zero, reads_zero, reads_number, same_text, other_text}
use Rattle.r6_script.proofs.parser.parse_number.Goals as goal

pub returns-then-starts_with : goal.returns-then-starts_with
returns-then-starts_with c =
    no_plus c.args.word.now (first_is c.args.word.now 43 _ (c.starts_with.ensures.byte (lit< tt) (lit< tt) (λ w o h. h)) c.if-starts_with.true)

pub returns-then-eq : goal.returns-then-eq
returns-then-eq c = reads_zero c.args.word.now (same_text c.args.word.now (codes "0") c.if-eq.ensures)

pub returns-else-eq : goal.returns-else-eq
returns-else-eq c value fits e =
    other_text c.args.word.now (codes "0") c.if-eq.ensures (leading_zero c.args.word.now (first_is c.args.word.now 48 _ (c.starts_with-2.ensures.byte (lit< tt) (lit< tt) (λ w o h. h)) c.if-starts_with-2.true) value fits e)

pub returns : goal.returns
returns c =
    let plus = first_is_not c.args.word.now 43 _ (c.starts_with.ensures.byte (lit< tt) (lit< tt) (λ w o h. h)) c.if-starts_with.false in
    let zero = first_is_not c.args.word.now 48 _ (c.starts_with-2.ensures.byte (lit< tt) (lit< tt) (λ w o h. h)) c.if-starts_with-2.false in
    rw c.ok.ensures.value (reads_number c.args.word.now c.parse.result c.parse.ensures.value.0 plus zero)
