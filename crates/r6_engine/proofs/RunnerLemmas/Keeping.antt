-- What was done stays so where the shard's pass and another learn from each other.
use Rattle.std.proofs.Common.{◌≡◌, ℕ, Bool, List, length, sym, ap, subst, ◌∙◌}
use Rattle.r6_layout.specs.Shape.{Shape}
use Rattle.r6_shard.specs.Sound.{IsSoundIn}
use Rattle.r6_health.specs.declared.history.View.{View}
use Rattle.r6_health.specs.Passes.{view_of}
use Rattle.r6_world.specs.Registers.{Snapshot}
use Rattle.r6_core.specs.Shards.{CoreView, world_shard}
use Rattle.r6_core.specs.declared.turn.Task.TheVariants as task
use Rattle.r6_core.specs.Effects.{HasTaskFault}
use Rattle.r6_core.specs.Refusals.{IsFirstFault, turn_faults}
use Rattle.r6_shard.specs.declared.ledger.Asked.{Asked}
use Rattle.r6_shard.specs.declared.ledger.Entry.{Entry}
use Rattle.r6_shard.specs.declared.shard.Shard.{Shard}
use Rattle.r6_shard.specs.Answering.{AnswersEach}
use Rattle.r6_shard.specs.Courses.{HasCourse}
use Rattle.r6_shard.specs.Kept.{NoneIsOut, NoneIsToTell}
use Rattle.r6_shard.specs.Shards.{GoesOn, Rests}
use Rattle.r6_shard.specs.Learning.{KeepsAll, KeepsAllElse}
use Rattle.r6_shard.specs.declared.performs.Performs.{Ghosts}

pub shard-keeps : {P : Type 0} {g : Ghosts P} (old new : Shard P g) → KeepsAll old new → GoesOn old new
shard-keeps {g = g} old new k s ops x =
    subst (λ (y : CoreView). HasCourse s y (view_of new.pass) new.last.attaches new.named (g.performer new.parts).out (g.performer new.parts).tells new.asked.items new.entries.items ops)
    (sym k.rest.core)
    (subst (λ (y : View). HasCourse s old.core y new.last.attaches new.named (g.performer new.parts).out (g.performer new.parts).tells new.asked.items new.entries.items ops)
    (sym k.view)
    (subst (λ (y : ℕ). HasCourse s old.core (view_of old.pass) y new.named (g.performer new.parts).out (g.performer new.parts).tells new.asked.items new.entries.items ops)
    (sym (ap (λ (y : Snapshot). y.attaches) k.rest.last))
    (subst (λ (y : List Bool). HasCourse s old.core (view_of old.pass) old.last.attaches y (g.performer new.parts).out (g.performer new.parts).tells new.asked.items new.entries.items ops)
    (sym k.rest.named)
    (subst (λ y. HasCourse s old.core (view_of old.pass) old.last.attaches old.named (g.performer y).out (g.performer y).tells new.asked.items new.entries.items ops)
    (sym k.rest.parts)
    (subst (λ (y : List Asked). HasCourse s old.core (view_of old.pass) old.last.attaches old.named (g.performer old.parts).out (g.performer old.parts).tells y new.entries.items ops)
    (sym k.rest.asked)
    (subst (λ (y : List Entry). HasCourse s old.core (view_of old.pass) old.last.attaches old.named (g.performer old.parts).out (g.performer old.parts).tells old.asked.items y ops)
    (sym k.rest.entries) x))))))

pub rests-still : {P : Type 0} {g : Ghosts P} (old new : Shard P g) → KeepsAllElse old new → Rests old → Rests new
rests-still old new k x = record {
  answered = ap length k.entries ∙ x.answered ∙ sym (ap length k.asked);
  each = subst (λ xs. AnswersEach xs new.entries.items) (sym k.asked) (subst (AnswersEach old.asked.items) (sym k.entries) x.each);
  none_out = subst (λ (y : CoreView). NoneIsOut (world_shard y)) (sym k.core) x.none_out;
  none_to_tell = subst (λ (y : CoreView). NoneIsToTell (world_shard y)) (sym k.core) x.none_to_tell;
  refusal = x.refusal;
  none_to_rebuild = subst (λ (y : CoreView). IsFirstFault (HasTaskFault y task.Rebuild) turn_faults x.refusal) (sym k.core) x.none_to_rebuild;
}

pub still-sound : {P : Type 0} {g : Ghosts P} (shape : Shape) (number slot : ℕ) (old new : Shard P g) → new ≡ old
    → IsSoundIn shape number slot old → IsSoundIn shape number slot new
still-sound shape number slot old new same x = subst (IsSoundIn shape number slot) (sym same) x
