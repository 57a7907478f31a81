use Rattle.std.proofs.Common.{◌≡◌, ℕ, suc, ◌+◌, ◌++◌, ◌∷◌, [], List, length, vec_capacity, sym, ap, subst, ◌∙◌, arith, refl, IsPermutation}
use Rattle.std.specs.Prelude.{not}
use Rattle.std.proofs.lemmas.List.{length-append}
use Rattle.r6_exchange.specs.declared.task.WorkerTask.{WorkerTask}
use Rattle.r6_exchange.specs.declared.completion.Completion.{Completion}
use Rattle.r6_exchange.specs.Answering.{nothing, labels_in, labels_of as served_labels, state_after, unanswered}
use Rattle.r6_exchange.proofs.Labels.{permuted-same}
use Rattle.r6_shard.specs.Parts.{labels_of}
use Rattle.r6_engine.specs.remote.Lines.{sent_to, received_from, joined, labels_at}
use Rattle.r6_engine.specs.remote.Remotes.{AreShardPasses, performer_of}
use Rattle.r6_engine.proofs.RemoteLemmas.Lines.{same-length}
use Rattle.r6_engine.specs.joining.Crews.{AreEnded, AreWorkers, IsWorkerAt, is_own, own_parts, stray_parts, all_parts, parts_with_all}
use Rattle.r6_engine.proofs.JoiningLemmas.Backs.{where-few}
use Rattle.r6_engine.proofs.JoiningLemmas.Collected.{AreCollected, none-collected, one-more, all-collected, known-there, no-more}
use Rattle.r6_engine.proofs.JoiningLemmas.Labels.{all-fit, all-sent, labels-back, all-labels}
use Rattle.r6_engine.proofs.JoiningLemmas.Meeting.{last-worker}
use Rattle.r6_engine.proofs.JoiningLemmas.Whole.{all-sorted, parts-of-last, put-back, none-back, all-back}
use Rattle.r6_engine.proofs.joining.joining.take_back.Goals as goal

pub join-parts-requires-clause-within : goal.join-parts-requires-clause-within
join-parts-requires-clause-within g c =
    let kept = c.loop-worker.invariant in
    let rest = c.pop.new.self.items in
    let at : length rest ≡ c.len-at.result = omega arith in
    let shorter = ap length c.in-Some.ensures.items ∙ length-append rest (c.in-Some.worker ∷ []) in
    let same = same-length g.D.BlockDevice.told g.D.BlockDevice.promised c.args.remote.exchanges.now c.args.remote.passes.items c.requires.ended.ends in
    let site = ap length kept.site in
    let fewer = kept.fewer in
    let many = c.requires.as_many in
    omega (arith, at, shorter, same, site, fewer, many)

pub join-parts-requires-clause-worker : goal.join-parts-requires-clause-worker
join-parts-requires-clause-worker g c =
    let told = g.D.BlockDevice.told in
    let promised = g.D.BlockDevice.promised in
    let kept = c.loop-worker.invariant in
    let rest = c.pop.new.self.items in
    let at : length rest ≡ c.len-at.result = omega arith in
    subst (λ k. IsWorkerAt told promised c.loop-worker.remote.exchanges.now k c.in-Some.worker) at
    (subst (λ y. IsWorkerAt told promised y (length rest) c.in-Some.worker) (sym kept.site)
    (last-worker told promised c.args.remote.exchanges.now rest c.in-Some.worker
    (subst (AreWorkers told promised c.args.remote.exchanges.now) c.in-Some.ensures.items kept.workers)).1)

pub join-parts-requires-clause-ended : goal.join-parts-requires-clause-ended
join-parts-requires-clause-ended g c =
    let kept = c.loop-worker.invariant in
    let rest = c.pop.new.self.items in
    let at : length rest ≡ c.len-at.result = omega arith in
    let shorter = ap length c.in-Some.ensures.items ∙ length-append rest (c.in-Some.worker ∷ []) in
    let fewer = kept.fewer in
    let many = c.requires.as_many in
    subst (λ (f : ℕ → List (WorkerTask g.row.D.Denot)). AreEnded (f c.len-at.result)) (sym kept.sent)
    (c.requires.ended.ended c.len-at.result (omega (arith, at, shorter, fewer, many)))

pub join-parts-requires-clause-answered : goal.join-parts-requires-clause-answered
join-parts-requires-clause-answered g c =
    let kept = c.loop-worker.invariant in
    let rest = c.pop.new.self.items in
    let at : length rest ≡ c.len-at.result = omega arith in
    let shorter = ap length c.in-Some.ensures.items ∙ length-append rest (c.in-Some.worker ∷ []) in
    let fewer = kept.fewer in
    let many = c.requires.as_many in
    subst (λ (f : ℕ → List (WorkerTask g.row.D.Denot)). unanswered (f c.len-at.result) (received_from c.loop-worker.remote.passes.items c.len-at.result) ≡ [])
    (sym kept.sent)
    (subst (λ (f : ℕ → List Completion). unanswered (sent_to c.args.remote.passes.items c.len-at.result) (f c.len-at.result) ≡ []) (sym kept.received)
    (c.requires.ended.answered c.len-at.result (omega (arith, at, shorter, fewer, many))))

pub sort_in-requires-clause-room : goal.sort_in-requires-clause-room
sort_in-requires-clause-room g c =
    let kept = c.loop-worker.invariant in
    let rest = c.pop.new.self.items in
    let at : length rest ≡ c.len-at.result = omega arith in
    let shorter = ap length c.in-Some.ensures.items ∙ length-append rest (c.in-Some.worker ∷ []) in
    let fits = all-fit c.args.remote.labels.items (λ j. labels_in (sent_to c.args.remote.passes.items j)) (length c.loop-worker.workers.items)
    (length rest) c.loop-worker.back.parts.items c.loop-worker.back.others.items c.join-parts.result.parts.items c.join-parts.result.replaced.items
    (omega (arith, shorter)) kept.labels (permuted-same (labels_in (sent_to c.loop-worker.remote.passes.items c.len-at.result))
    (labels_in (sent_to c.args.remote.passes.items (length rest)))
    (served_labels c.in-Some.worker.parts.items ++ served_labels c.in-Some.worker.replaced.items)
    (served_labels c.join-parts.result.parts.items ++ served_labels c.join-parts.result.replaced.items)
    (ap (λ j. labels_in (sent_to c.args.remote.passes.items j)) at
    ∙ sym (ap (λ (f : ℕ → List (WorkerTask g.row.D.Denot)). labels_in (f c.len-at.result)) kept.sent))
    (λ i. served_labels (c.join-parts.ensures.parts.0 i).items ++ served_labels (c.join-parts.ensures.parts.1 i).items)
    c.join-parts.ensures.labels) in
    let len = c.args.remote.labels.ok in
    let room = c.requires.room in
    (omega (arith, fits, len.0, len.1, room.0, kept.parts_room), omega (arith, fits, len.0, len.1, room.1, kept.others_room))

pub set_aside-requires : goal.set_aside-requires
set_aside-requires g c =
    let kept = c.loop-worker.invariant in
    let rest = c.pop.new.self.items in
    let at : length rest ≡ c.len-at.result = omega arith in
    let shorter = ap length c.in-Some.ensures.items ∙ length-append rest (c.in-Some.worker ∷ []) in
    let came = c.join-parts.result.parts.items in
    let fits = all-fit c.args.remote.labels.items (λ j. labels_in (sent_to c.args.remote.passes.items j)) (length c.loop-worker.workers.items)
    (length rest) c.loop-worker.back.parts.items c.loop-worker.back.others.items came c.join-parts.result.replaced.items
    (omega (arith, shorter)) kept.labels (permuted-same (labels_in (sent_to c.loop-worker.remote.passes.items c.len-at.result))
    (labels_in (sent_to c.args.remote.passes.items (length rest)))
    (served_labels c.in-Some.worker.parts.items ++ served_labels c.in-Some.worker.replaced.items)
    (served_labels c.join-parts.result.parts.items ++ served_labels c.join-parts.result.replaced.items)
    (ap (λ j. labels_in (sent_to c.args.remote.passes.items j)) at
    ∙ sym (ap (λ (f : ℕ → List (WorkerTask g.row.D.Denot)). labels_in (f c.len-at.result)) kept.sent))
    (λ i. served_labels (c.join-parts.ensures.parts.0 i).items ++ served_labels (c.join-parts.ensures.parts.1 i).items)
    c.join-parts.ensures.labels) in
    let len = c.args.remote.labels.ok in
    let room = c.requires.room in
    let strays = stray_parts c.len-count.result c.len-at.result came in
    let long = ap length c.sort_in.ensures.others ∙ length-append c.loop-worker.back.others.items strays in
    let few-strays = where-few (λ s. not (is_own c.len-count.result c.len-at.result s)) came in
    let same = c.sort_in.ensures.room.1 in
    omega (arith, fits, long, few-strays, same, len.0, len.1, room.1, kept.others_room)

pub loop-worker-init : goal.loop-worker-init
loop-worker-init g c =
    let told = g.D.BlockDevice.told in
    let promised = g.D.BlockDevice.promised in
    let some = c.requires.ended.some in
    let many = c.requires.as_many in
    let workers = c.args.workers.items in
    record {
      ends = c.requires.ended.ends;
      site = refl;
      sent = refl;
      received = refl;
      workers = c.requires.workers;
      fewer = omega arith;
      collected = none-collected told (length workers) (performer_of told promised c.args.remote).tells c.args.back.parts.items
          (omega (arith, some, many)) c.requires.empty.0;
      whole = none-back workers c.args.back.parts.items c.args.back.others.items c.requires.empty.0 c.requires.empty.1;
      labels = all-sent (length workers) c.args.remote.labels.items (λ j. labels_in (sent_to c.args.remote.passes.items j))
          c.args.back.parts.items c.args.back.others.items (omega (arith, some, many))
          (λ j below. c.requires.ended.labels j (omega (arith, below, many)) ∙ ap (λ n. labels_at n j c.args.remote.labels.items) (sym many))
          c.requires.empty.0 c.requires.empty.1;
      parts_room = refl;
      others_room = refl;
    }

pub loop-worker-preserved : goal.loop-worker-preserved
loop-worker-preserved g c =
    let told = g.D.BlockDevice.told in
    let promised = g.D.BlockDevice.promised in
    let kept = c.loop-worker.invariant in
    let rest = c.pop.new.self.items in
    let worker = c.in-Some.worker in
    let back = c.loop-worker.back in
    let first = c.args.remote.passes.items in
    let workers = length c.args.workers.items in
    let at : length rest ≡ c.len-at.result = omega arith in
    let count : c.len-count.result ≡ workers = omega arith in
    let shorter : length c.loop-worker.workers.items ≡ length rest + 1 = ap length c.in-Some.ensures.items ∙ length-append rest (worker ∷ []) in
    let fewer = kept.fewer in
    let many = c.requires.as_many in
    let came = c.join-parts.result.parts.items in
    let set-by = c.join-parts.result.replaced.items in
    let strays = stray_parts c.len-count.result c.len-at.result came in
    let own = own_parts c.len-count.result c.len-at.result came in
    let parts-room = ap vec_capacity c.set_aside.ensures.parts ∙ c.sort_in.ensures.room.0 in
    let others-room = c.set_aside.ensures.room ∙ c.sort_in.ensures.room.1 in
    let whole : c.set_aside.new.self.parts.items ≡ back.parts.items ++ own_parts workers (length rest) worker.parts.items =
    ap (λ v. v.items) c.set_aside.ensures.parts ∙ c.sort_in.ensures.parts
    ∙ ap (λ v. back.parts.items ++ own_parts c.len-count.result c.len-at.result v.items) c.join-parts.ensures.parts.0
    ∙ ap (λ n. back.parts.items ++ own_parts n c.len-at.result worker.parts.items) count
    ∙ ap (λ k. back.parts.items ++ own_parts workers k worker.parts.items) (sym at) in
    let whole-parts : c.set_aside.new.self.parts.items ≡ back.parts.items ++ own =
    ap (λ v. v.items) c.set_aside.ensures.parts ∙ c.sort_in.ensures.parts in
    let whole-others : c.set_aside.new.self.others.items ≡ (back.others.items ++ strays) ++ all_parts set-by =
    c.set_aside.ensures.others ∙ ap (λ y. y ++ all_parts set-by) c.sort_in.ensures.others in
    let had-all : parts_with_all c.loop-worker.workers.items ≡ parts_with_all rest ++ (all_parts came ++ all_parts set-by) =
    ap parts_with_all c.in-Some.ensures.items ∙ parts-of-last rest worker
    ∙ sym (λ i. parts_with_all rest ++ (all_parts (c.join-parts.ensures.parts.0 i).items ++ all_parts (c.join-parts.ensures.parts.1 i).items)) in
    let tells = (performer_of told promised c.args.remote).tells in
    let one-more' : length c.loop-worker.workers.items ≡ suc (length rest) = omega (arith, shorter) in
    let sent-labels : ℕ → List (ℕ × ℕ) = λ j. labels_in (sent_to first j) in
    let has : IsPermutation (sent-labels (length rest)) (served_labels came ++ served_labels set-by) =
    permuted-same (labels_in (sent_to c.loop-worker.remote.passes.items c.len-at.result)) (sent-labels (length rest))
    (served_labels worker.parts.items ++ served_labels worker.replaced.items) (served_labels came ++ served_labels set-by)
    (ap (λ j. labels_in (sent_to first j)) at ∙ sym (ap (λ (f : ℕ → List (WorkerTask g.row.D.Denot)). labels_in (f c.len-at.result)) kept.sent))
    (λ i. served_labels (c.join-parts.ensures.parts.0 i).items ++ served_labels (c.join-parts.ensures.parts.1 i).items)
    c.join-parts.ensures.labels in
    record {
      ends = subst (λ y. AreShardPasses told promised y c.join-parts.new.passes.items) kept.site c.join-parts.ensures.ends;
      site = kept.site;
      sent = c.join-parts.ensures.sent ∙ kept.sent;
      received = c.join-parts.ensures.received ∙ kept.received;
      workers = (last-worker told promised c.args.remote.exchanges.now rest worker
          (subst (AreWorkers told promised c.args.remote.exchanges.now) c.in-Some.ensures.items kept.workers)).0;
      fewer = omega (arith, shorter, fewer);
      collected = subst (AreCollected told workers (length rest) tells) (sym whole)
          (one-more told promised workers (length rest) tells back.parts.items worker.parts.items
          (state_after told promised nothing (sent_to c.loop-worker.remote.passes.items c.len-at.result)
          (received_from c.loop-worker.remote.passes.items c.len-at.result))
          (subst (λ n. AreCollected told workers n tells back.parts.items) shorter kept.collected)
          c.join-parts.ensures.holds
          (λ slot generation own'. known-there told promised first c.loop-worker.remote.passes.items workers (length rest) c.len-at.result slot generation
          many kept.sent kept.received (sym at) own'));
      whole = subst (λ y. IsPermutation (parts_with_all c.args.workers.items) (parts_with_all rest ++ y))
          (sym (λ i. whole-parts i ++ whole-others i))
          (put-back (parts_with_all rest) (all_parts came) (all_parts set-by) back.parts.items back.others.items own strays
          (all-sorted (is_own c.len-count.result c.len-at.result) came) (parts_with_all c.args.workers.items)
          (subst (λ y. IsPermutation (parts_with_all c.args.workers.items) (y ++ (back.parts.items ++ back.others.items))) had-all kept.whole));
      labels = subst (IsPermutation c.args.remote.labels.items)
          (sym (λ i. joined (length rest) sent-labels ++ (labels_of (whole-parts i) ++ labels_of (whole-others i))))
          (labels-back c.len-count.result c.len-at.result (length rest) sent-labels came set-by back.parts.items back.others.items
          c.args.remote.labels.items has
          (subst (λ n. IsPermutation c.args.remote.labels.items (joined n sent-labels ++ (labels_of back.parts.items ++ labels_of back.others.items)))
          one-more' kept.labels));
      parts_room = parts-room ∙ kept.parts_room;
      others_room = others-room ∙ kept.others_room;
    }

pub returns-clause-capacity : goal.returns-clause-capacity
returns-clause-capacity g c = c.loop-worker.invariant.others_room

pub returns-clause-known : goal.returns-clause-known
returns-clause-known g c =
    let told = g.D.BlockDevice.told in
    let performer = performer_of told g.D.BlockDevice.promised c.args.remote in
    let workers = c.loop-worker.workers in
    let none = no-more c.pop.result workers.len c.pop.ensures.variant c.in_default.not-Some in
    let len = workers.ok.0 in
    let empty : length workers.items ≡ 0 = omega (arith, none, len) in
    all-collected told (length c.args.workers.items) performer c.loop-worker.back.parts.items
    (subst (λ n. AreCollected told (length c.args.workers.items) n performer.tells c.loop-worker.back.parts.items) empty
    c.loop-worker.invariant.collected)
    c.requires.ended.here

pub returns-clause-all : goal.returns-clause-all
returns-clause-all g c =
    let workers = c.loop-worker.workers in
    let none = no-more c.pop.result workers.len c.pop.ensures.variant c.in_default.not-Some in
    let len = workers.ok.0 in
    let empty : length workers.items ≡ 0 = omega (arith, none, len) in
    all-back (parts_with_all c.args.workers.items) workers.items (c.loop-worker.back.parts.items ++ c.loop-worker.back.others.items) empty
    c.loop-worker.invariant.whole

pub returns-clause-labels : goal.returns-clause-labels
returns-clause-labels g c =
    let workers = c.loop-worker.workers in
    let back = c.loop-worker.back in
    let none = no-more c.pop.result workers.len c.pop.ensures.variant c.in_default.not-Some in
    let len = workers.ok.0 in
    let empty : length workers.items ≡ 0 = omega (arith, none, len) in
    all-labels (length workers.items) c.args.remote.labels.items (λ j. labels_in (sent_to c.args.remote.passes.items j)) back.parts.items back.others.items
    empty c.loop-worker.invariant.labels
