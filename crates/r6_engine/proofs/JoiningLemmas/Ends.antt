-- A shard at rest told its workers that nothing more comes.
use Rattle.std.proofs.Common.{◌≡◌, ℕ, ◌<◌, [], length, refl, sym, ap, subst, ◌∙◌, arith}
use Rattle.r6_dev.specs.History.{Telling}
use Rattle.r6_dev.specs.Promises.{Promise}
use Rattle.r6_exchange.specs.declared.task.WorkerTask.TheVariants.{End}
use Rattle.r6_exchange.specs.Answering.{unanswered, labels_in}
use Rattle.r6_exchange.specs.Joins.{HasNoEnd}
use Rattle.r6_exchange.proofs.Labels.{labels-same}
use Rattle.r6_shard.specs.Performing.{Performer, HasPart, IsHere}
use Rattle.r6_engine.specs.declared.remote.remote.Remote.{Remote}
use Rattle.r6_engine.specs.remote.Lines.{lines_of, sent_to, received_from, labels_at}
use Rattle.r6_engine.specs.remote.Remotes.{AreShardPasses, HasEnded, IsRemote, performer_of}
use Rattle.r6_engine.specs.joining.Crews.{IsEnded}

module _ {D : Type 0} (told : D → Telling) (promised : D → Promise) where
  pub is-ended : (old new : Remote D) → IsRemote told promised old
      → AreShardPasses told promised new.exchanges.now new.passes.items
      → HasEnded (lines_of old.passes.items) (lines_of new.passes.items)
      → ((worker : ℕ) → HasNoEnd (sent_to old.passes.items worker))
      → ((worker : ℕ) → worker < length old.passes.items
      → unanswered (sent_to new.passes.items worker) (received_from new.passes.items worker) ≡ [])
      → performer_of told promised new ≡ performer_of told promised old
      → IsEnded told promised new
  is-ended old new x ends ended first answered performer =
      let some = x.kept.some in
      let same = ended.workers in
      let labels : new.labels.items ≡ old.labels.items = ap (λ (p : Performer). p.labels) performer in
      record {
        some = omega (arith, some, same);
        ends = ends;
        ended = λ worker below. (sent_to old.passes.items worker, first worker, ended.sent worker (omega (arith, below, same)));
        answered = λ worker below. answered worker (omega (arith, below, same));
        labels = λ worker below.
            ap labels_in (ended.sent worker (omega (arith, below, same))) ∙ labels-same (sent_to old.passes.items worker) End refl
            ∙ x.kept.labelled worker ∙ sym (λ i. labels_at (same i) worker (labels i));
        here = subst (λ (p : Performer). (slot generation : ℕ) → IsHere p.labels slot generation → HasPart p.tells slot generation)
            (sym performer) x.kept.here;
      }
