use Rattle.std.proofs.Common.{◌≡◌, length, vec_len, sym, ap, subst, ◌∙◌, rules, arith}
use Rattle.r6_core.specs.declared.turn.Task.TheVariants as task
use Rattle.r6_core.specs.Shards.{CoreView, world_shard}
use Rattle.r6_core.specs.Effects.{HasTaskFault, RefusesTurn}
use Rattle.r6_core.specs.Refusals.{IsFirstFault, turn_faults}
use Rattle.r6_shard.specs.Kept.{NoneIsOut, NoneIsToTell}
use Rattle.r6_shard.specs.Counted.{HasPassedRows, PassesMore, rows_of}
use Rattle.r6_shard.proofs.Advances.{advances-on}
use Rattle.r6_shard.proofs.Counting.{none-more, passes-same}
use Rattle.r6_shard.proofs.Going.{either_way, refused_of}
use Rattle.r6_shard.specs.Answering.{AnswersEach}
use Rattle.r6_shard.proofs.Answering.{answers-each}
use Rattle.r6_shard.proofs.shard.Shard.rests.Goals as goal

pub returns-clause-rests : goal.returns-clause-rests
returns-clause-rests g c = λ e.
    let old = c.args.self.now in
    let performed = c.is_still.new.self in
    let told = c.tell_next.new.self in
    let new = c.turn.new.self in
    let none = c.tell_next.ensures.none c.if-tell_next.false in
    let asked-same = c.turn.ensures.ledger.asked ∙ c.tell_next.ensures.ledger.asked ∙ c.is_still.ensures.ledger.asked in
    let entries-same = c.turn.ensures.ledger.entries ∙ c.tell_next.ensures.ledger.entries ∙ c.is_still.ensures.ledger.entries in
    let refused = refused_of c.turn.result (λ refusal. RefusesTurn told.core task.Rebuild refusal new.core) (sym c.is_err.ensures.value ∙ e) c.turn.ensures.refused in
    let entries : vec_len old.entries ≡ length old.entries.items = search rules in
    let asked : vec_len old.asked ≡ length old.asked.items = search rules in
    let here : length old.entries.items ≡ length old.asked.items = omega (arith, c.if-len.false, c.len.ensures, c.len-2.ensures, entries, asked) in
    record {
      answered = ap length entries-same ∙ here ∙ sym (ap length asked-same);
      each = subst (λ xs. AnswersEach xs new.entries.items) (sym asked-same)
          (subst (AnswersEach old.asked.items) (sym entries-same)
          (answers-each (world_shard old.core) old.asked.items old.entries.items old.linked old.once here));
      none_out = subst (λ (y : CoreView). NoneIsOut (world_shard y)) (sym refused.1.same)
          (subst NoneIsOut (sym none.0) (c.is_still.ensures.still c.if-not-is_still.false));
      none_to_tell = subst (λ (y : CoreView). NoneIsToTell (world_shard y)) (sym refused.1.same) none.2;
      refusal = refused.0;
      none_to_rebuild = subst (λ (y : CoreView). IsFirstFault (HasTaskFault y task.Rebuild) turn_faults refused.0) (sym refused.1.same) refused.1.fault;
    }

pub returns-then-tell_next-clause-passed : goal.returns-then-tell_next-clause-passed
returns-then-tell_next-clause-passed g c = λ stopped counted rows x. c.tell_next.ensures.passed stopped counted rows (c.is_still.ensures.passed stopped counted rows x)

pub returns-clause-passed : goal.returns-clause-passed
returns-clause-passed g c = λ stopped counted rows x.
    let told = c.tell_next.new.self.core in
    let new = c.turn.new.self.core in
    let before = c.tell_next.ensures.passed stopped counted rows (c.is_still.ensures.passed stopped counted rows x) in
    either_way c.turn.result (λ _. PassesMore (rows_of task.Rebuild) told new) (λ refusal. RefusesTurn told task.Rebuild refusal new)
    (HasPassedRows stopped counted rows new) c.turn.ensures.passed c.turn.ensures.refused
    (λ _ more. none-more told new more stopped counted rows before)
    (λ refusal refused. passes-same told new refused.same stopped counted rows before)

pub returns-then-tell_next-clause-advances : goal.returns-then-tell_next-clause-advances
returns-then-tell_next-clause-advances g c =
    advances-on c.args.self.now c.is_still.new.self c.tell_next.new.self
    c.is_still.ensures.advances c.tell_next.ensures.advances

pub returns-clause-advances : goal.returns-clause-advances
returns-clause-advances g c =
    let old = c.args.self.now in
    let told = c.tell_next.new.self in
    advances-on old told c.turn.new.self
    (advances-on old c.is_still.new.self told c.is_still.ensures.advances c.tell_next.ensures.advances)
    c.turn.ensures.advances

pub returns-clause-still : goal.returns-clause-still
returns-clause-still g c = λ e.
    let none = c.tell_next.ensures.none c.if-tell_next.false in
    c.turn.ensures.pass ∙ none.1 ∙ c.is_still.ensures.pass
