-- Passes at an exchange as calls go on.
use Rattle.std.proofs.Common.{◌≡◌, ℕ, List, [], ◌∷◌, ◌++◌, true, false, refl, sym, ap, subst, ◌∙◌, Option, Some, None, Result, Ok, Err, MatchResult, MatchOption, arith}
use Rattle.std.specs.Prelude.{IfSome, ◌≤◌, length}
use Rattle.std.proofs.lemmas.List.{length-map}
use Rattle.crossbeam_queue.specs.Passes.{view}
use Rattle.r6_dev.specs.History.{Telling}
use Rattle.r6_dev.specs.Promises.{Promise}
use Rattle.r6_queues.specs.declared.ends.Ends.{Ends}
use Rattle.r6_exchange.specs.declared.task.WorkerTask.{WorkerTask}
use Rattle.r6_exchange.specs.declared.completion.Completion.{Completion}
use Rattle.r6_exchange.specs.declared.completion.Delivery.{Delivery}
use Rattle.r6_exchange.specs.declared.pass.ShardPass.{ShardPass}
use Rattle.r6_exchange.specs.declared.pass.WorkerPass.{WorkerPass}
use Rattle.r6_exchange.specs.declared.exchange.Exchange.{Exchange}
use Rattle.r6_queues.specs.Relays.{IsEndOf}
use Rattle.r6_queues.specs.Queues.{ends, having_pushed, having_popped, having_heard, acknowledgement_of, HasPushed, StartsWith}
use Rattle.r6_exchange.specs.Answering.{Answered, nothing}
use Rattle.r6_exchange.specs.Deliveries.{TaskEnd, CompletionEnd, HasRoom, AreDeliveries, completions_of}
use Rattle.r6_exchange.specs.Exchanges.{sent_by, received_by, known_taken, taken_by, given_by, room_of, limit_of, completion_room, IsHome, IsShardPass, IsWorkerPass}
use Rattle.r6_queues.proofs.Queues.{longer}
use Rattle.r6_exchange.proofs.Answering.{more-tasks, fewer-answers}
use Rattle.r6_exchange.proofs.Deliveries.{room-none, deliveries-none, deliveries-more, last-delivery, answers-more, answers-append}

module _ {D : Type 0} (told : D → Telling) (promised : D → Promise) (ex : Exchange D) where
  pub worker-begins : (p : WorkerPass D) (room : ℕ) (home : TaskEnd D) → IsEndOf ex.tasks p.tasks → IsEndOf ex.completions p.completions
      → view p.tasks ≡ ends false true [] [] [] room → view p.completions ≡ ends true false [] [] [] (Some home)
      → IsEndOf ex.tasks home
      → IsWorkerPass told promised ex p × (taken_by p ≡ []) × (given_by p ≡ []) × (room_of p ≡ room)
  worker-begins p room home t a is is' at =
      let got : taken_by p ≡ [] = ap (λ (v : Ends (WorkerTask D) ℕ). v.popped) is in
      let sent : (view p.completions).pushed ≡ [] = ap (λ (v : Ends (Delivery D) (Option (TaskEnd D))). v.pushed) is' in (
        record {
          tasks = t;
          completions = a;
          takes = ap (λ (v : Ends (WorkerTask D) ℕ). v.pops) is;
          gives = ap (λ (v : Ends (Delivery D) (Option (TaskEnd D))). v.pushes) is';
          acknowledged = ap (λ (v : Ends (WorkerTask D) ℕ). v.acknowledged) is ∙ sym got;
          room = subst (HasRoom (room_of p)) (sym got) (room-none D (room_of p));
          home = subst (λ (v : Ends (Delivery D) (Option (TaskEnd D))). IsHome ex v.about) (sym is') at;
          deliveries = subst (λ (v : Ends (Delivery D) (Option (TaskEnd D))). AreDeliveries told promised v.about v.pushed) (sym is') (deliveries-none told promised (Some home));
          honest = subst (λ xs. Answered told promised nothing (completions_of xs) (taken_by p)) (sym sent) tt;
        },
        got,
        ap completions_of sent,
        ap (λ (v : Ends (WorkerTask D) ℕ). v.about) is,
      )

  pub shard-begins : (p : ShardPass D) (room : ℕ) (home : TaskEnd D) → IsEndOf ex.tasks p.tasks → IsEndOf ex.completions p.completions
      → view p.tasks ≡ ends true false [] [] [] room → view p.completions ≡ ends false true [] [] [] (Some home)
      → IsEndOf ex.tasks home
      → IsShardPass told promised ex p × (sent_by p ≡ []) × (received_by p ≡ []) × (limit_of p ≡ room)
  shard-begins p room home t a is is' at =
      let V : Type 0 = Ends (Delivery D) (Option (TaskEnd D)) in
      let sent : sent_by p ≡ [] = ap (λ (v : Ends (WorkerTask D) ℕ). v.pushed) is in
      let heard : known_taken p ≡ [] = ap (λ (v : Ends (WorkerTask D) ℕ). v.acknowledged) is in
      let got : (view p.completions).popped ≡ [] = ap (λ (v : V). v.popped) is' in
      let none : (ts : List (WorkerTask D)) → Answered told promised nothing (received_by p) ts =
      λ ts. subst (λ xs. Answered told promised nothing (completions_of xs) ts) (sym got) tt in (
        record {
          tasks = t;
          completions = a;
          sends = ap (λ (v : Ends (WorkerTask D) ℕ). v.pushes) is;
          receives = ap (λ (v : V). v.pops) is';
          acknowledged = ap (λ (v : V). v.acknowledged) is' ∙ sym got;
          room = subst (HasRoom (limit_of p)) (sym sent) (room-none D (limit_of p));
          home = subst (λ (v : V). IsHome ex v.about) (sym is') at;
          honest = none (sent_by p);
          known = none (known_taken p);
          begins = (sent_by p, ap (λ ts. ts ++ sent_by p) (sym heard));
        },
        sent,
        ap completions_of got,
        ap (λ (v : Ends (WorkerTask D) ℕ). v.about) is,
      )

  -- ---- receiving

  -- a pass at the queue of tasks as a task is sent, or isn't, or as an acknowledgement is heard
  pub shard-at : (p : ShardPass D) (t : TaskEnd D) (v : Ends (WorkerTask D) ℕ) → IsShardPass told promised ex p → IsEndOf ex.tasks t → view t ≡ v
      → v.pushes ≡ true → HasRoom v.about v.pushed → Answered told promised nothing (received_by p) v.pushed
      → Answered told promised nothing (received_by p) v.acknowledged → StartsWith v.pushed v.acknowledged
      → IsShardPass told promised ex (record { tasks = t; completions = p.completions })
  shard-at p t v x of is may room honest known begins =
      let back = sym is in
      record {
        tasks = of;
        completions = x.completions;
        sends = subst (λ (y : Ends (WorkerTask D) ℕ). y.pushes ≡ true) back may;
        receives = x.receives;
        acknowledged = x.acknowledged;
        room = subst (λ (y : Ends (WorkerTask D) ℕ). HasRoom y.about y.pushed) back room;
        home = x.home;
        honest = subst (λ (y : Ends (WorkerTask D) ℕ). Answered told promised nothing (received_by p) y.pushed) back honest;
        known = subst (λ (y : Ends (WorkerTask D) ℕ). Answered told promised nothing (received_by p) y.acknowledged) back known;
        begins = subst (λ (y : Ends (WorkerTask D) ℕ). StartsWith y.pushed y.acknowledged) back begins;
      }

  pub shard-sent : (p : ShardPass D) (t : TaskEnd D) (task : WorkerTask D) → IsShardPass told promised ex p → HasRoom (limit_of p) (sent_by p ++ task ∷ [])
      → IsEndOf ex.tasks t → view t ≡ having_pushed (view p.tasks) task → IsShardPass told promised ex (record { tasks = t; completions = p.completions })
  shard-sent p t task x room of is =
      shard-at p t (having_pushed (view p.tasks) task) x of is x.sends room
      (more-tasks told promised nothing (received_by p) (sent_by p) (task ∷ []) x.honest) x.known
      (longer (sent_by p) (known_taken p) (task ∷ []) x.begins)

  pub shard-same : (p : ShardPass D) (t : TaskEnd D) → IsShardPass told promised ex p → IsEndOf ex.tasks t → view t ≡ view p.tasks
      → IsShardPass told promised ex (record { tasks = t; completions = p.completions })
  shard-same p t x of is = shard-at p t (view p.tasks) x of is x.sends x.room x.honest x.known x.begins

  delivered : (about : Option (TaskEnd D)) (got : List (Delivery D)) (x : Delivery D)
      → IsHome ex about → AreDeliveries told promised about (got ++ x ∷ [])
      → Answered told promised nothing (completions_of (got ++ x ∷ [])) (view x.acknowledgement).acknowledged
  delivered None got x home r = absurd home
  delivered (Some home) got x at r = (last-delivery told promised home got x r).honest

  pub shard-received : (p : ShardPass D) (t : TaskEnd D) (a : CompletionEnd D) (x : Delivery D) → IsShardPass told promised ex p
      → IsEndOf ex.tasks t → IsEndOf ex.completions a → view t ≡ having_heard (view p.tasks) (view x.acknowledgement)
      → view a ≡ having_popped (view p.completions) x → AreDeliveries told promised (view a).about (view a).popped
      → StartsWith (view t).pushed (view t).acknowledged
      → IsShardPass told promised ex (record { tasks = t; completions = a })
  shard-received p t a x s of of' is is' deliveries starts =
      let V : Type 0 = Ends (Delivery D) (Option (TaskEnd D)) in
      let got = (view p.completions).popped in
      let heard = (view x.acknowledgement).acknowledged in
      let begins : StartsWith (sent_by p) heard = subst (λ (y : Ends (WorkerTask D) ℕ). StartsWith y.pushed y.acknowledged) is starts in
      let known : Answered told promised nothing (completions_of (got ++ x ∷ [])) heard =
      delivered (view p.completions).about got x s.home (subst (λ (y : V). AreDeliveries told promised y.about y.popped) is' deliveries) in
      let honest : Answered told promised nothing (completions_of (got ++ x ∷ [])) (sent_by p) =
      subst (Answered told promised nothing (completions_of (got ++ x ∷ []))) (sym begins.1)
      (more-tasks told promised nothing (completions_of (got ++ x ∷ [])) heard begins.0 known) in
      record {
        tasks = of;
        completions = of';
        sends = subst (λ (y : Ends (WorkerTask D) ℕ). y.pushes ≡ true) (sym is) s.sends;
        receives = subst (λ (y : V). y.pops ≡ true) (sym is') s.receives;
        acknowledged = subst (λ (y : V). y.acknowledged ≡ y.popped) (sym is') refl;
        room = subst (λ (y : Ends (WorkerTask D) ℕ). HasRoom y.about y.pushed) (sym is) s.room;
        home = subst (λ (y : V). IsHome ex y.about) (sym is') s.home;
        honest = subst (λ (y : V). Answered told promised nothing (completions_of y.popped) (view t).pushed) (sym is')
            (subst (λ (y : Ends (WorkerTask D) ℕ). Answered told promised nothing (completions_of (got ++ x ∷ [])) y.pushed) (sym is) honest);
        known = subst (λ (y : V). Answered told promised nothing (completions_of y.popped) (view t).acknowledged) (sym is')
            (subst (λ (y : Ends (WorkerTask D) ℕ). Answered told promised nothing (completions_of (got ++ x ∷ [])) y.acknowledged) (sym is) known);
        begins = starts;
      }

  -- an acknowledgement is one at the exchange's queue of tasks
  pub delivery-at : (about : Option (TaskEnd D)) (got : List (Delivery D)) (x : Delivery D) → IsHome ex about
      → AreDeliveries told promised about (got ++ x ∷ []) → IsEndOf ex.tasks x.acknowledgement
  delivery-at None got x home r = absurd home
  delivery-at (Some home) got x at r = let last = last-delivery told promised home got x r in (last.same_queue.0 ∙ at.0, last.same_queue.1)

  pub heard-at : (p : ShardPass D) (a : CompletionEnd D) (x : Delivery D) → IsShardPass told promised ex p
      → view a ≡ having_popped (view p.completions) x → AreDeliveries told promised (view a).about (view a).popped
      → IsEndOf ex.tasks x.acknowledgement
  heard-at p a x s is deliveries =
      delivery-at (view p.completions).about (view p.completions).popped x s.home
      (subst (λ (y : Ends (Delivery D) (Option (TaskEnd D))). AreDeliveries told promised y.about y.popped) is deliveries)

  -- ---- giving

  ready-from : (about : Option (TaskEnd D)) (sent : List (Delivery D)) (x : Delivery D) → IsHome ex about → AreDeliveries told promised about sent
      → IsEndOf ex.tasks x.acknowledgement → Answered told promised nothing (completions_of (sent ++ x ∷ [])) (view x.acknowledgement).acknowledged
      → AreDeliveries told promised about (sent ++ x ∷ [])
  ready-from None sent x home r of honest = absurd home
  ready-from (Some home) sent x at r of honest =
      deliveries-more told promised home sent x r (record { same_queue = (of.0 ∙ sym at.0, of.1); honest = honest })

  pub delivery-ready : (p : WorkerPass D) (r : TaskEnd D) (answer : Completion) → IsWorkerPass told promised ex p → IsEndOf ex.tasks r
      → view r ≡ acknowledgement_of (view p.tasks) → Answered told promised nothing (given_by p ++ answer ∷ []) (taken_by p)
      → AreDeliveries told promised (view p.completions).about ((view p.completions).pushed ++ record { completion = answer; acknowledgement = r } ∷ [])
  delivery-ready p r answer w of is honest =
      let x : Delivery D = record { completion = answer; acknowledgement = r } in
      let sent = (view p.completions).pushed in
      ready-from (view p.completions).about sent x w.home w.deliveries of
      (subst (Answered told promised nothing (completions_of (sent ++ x ∷ []))) (sym w.acknowledged ∙ sym (ap (λ (y : Ends (WorkerTask D) ℕ). y.acknowledged) is))
      (subst (λ ys. Answered told promised nothing ys (taken_by p)) (sym (answers-more sent x)) honest))

  -- the worker's pass as both its passes go on
  pub worker-at : (p : WorkerPass D) (t : TaskEnd D) (a : CompletionEnd D) (v : Ends (WorkerTask D) ℕ) (u : Ends (Delivery D) (Option (TaskEnd D)))
      → IsEndOf ex.tasks t → IsEndOf ex.completions a → view t ≡ v → view a ≡ u
      → v.pops ≡ true → u.pushes ≡ true → v.acknowledged ≡ v.popped → HasRoom v.about v.popped → IsHome ex u.about → AreDeliveries told promised u.about u.pushed
      → Answered told promised nothing (completions_of u.pushed) v.popped
      → IsWorkerPass told promised ex (record { tasks = t; completions = a })
  worker-at p t a v u of of' is is' takes gives heard room home receipts honest =
      let V : Type 0 = Ends (Delivery D) (Option (TaskEnd D)) in
      record {
        tasks = of;
        completions = of';
        takes = subst (λ (y : Ends (WorkerTask D) ℕ). y.pops ≡ true) (sym is) takes;
        gives = subst (λ (y : V). y.pushes ≡ true) (sym is') gives;
        acknowledged = subst (λ (y : Ends (WorkerTask D) ℕ). y.acknowledged ≡ y.popped) (sym is) heard;
        room = subst (λ (y : Ends (WorkerTask D) ℕ). HasRoom y.about y.popped) (sym is) room;
        home = subst (λ (y : V). IsHome ex y.about) (sym is') home;
        deliveries = subst (λ (y : V). AreDeliveries told promised y.about y.pushed) (sym is') receipts;
        honest = subst (λ (y : V). Answered told promised nothing (completions_of y.pushed) (view t).popped) (sym is')
            (subst (λ (y : Ends (WorkerTask D) ℕ). Answered told promised nothing (completions_of u.pushed) y.popped) (sym is) honest);
      }

  pub worker-took : (p : WorkerPass D) (t : TaskEnd D) (task : WorkerTask D) → IsWorkerPass told promised ex p → IsEndOf ex.tasks t
      → view t ≡ having_popped (view p.tasks) task → HasRoom (view t).about (view t).popped
      → IsWorkerPass told promised ex (record { tasks = t; completions = p.completions })
  worker-took p t task w of is room =
      worker-at p t p.completions (having_popped (view p.tasks) task) (view p.completions) of w.completions is refl w.takes w.gives refl
      (subst (λ (y : Ends (WorkerTask D) ℕ). HasRoom y.about y.popped) is room) w.home w.deliveries
      (more-tasks told promised nothing (given_by p) (taken_by p) (task ∷ []) w.honest)

  pub worker-gave : (p : WorkerPass D) (t : TaskEnd D) (a : CompletionEnd D) (x : Delivery D) → IsWorkerPass told promised ex p → IsEndOf ex.tasks t
      → IsEndOf ex.completions a → view t ≡ view p.tasks → view a ≡ having_pushed (view p.completions) x
      → AreDeliveries told promised (view p.completions).about ((view p.completions).pushed ++ x ∷ [])
      → Answered told promised nothing (given_by p ++ x.completion ∷ []) (taken_by p)
      → IsWorkerPass told promised ex (record { tasks = t; completions = a })
  worker-gave p t a x w of of' is is' receipts honest =
      worker-at p t a (view p.tasks) (having_pushed (view p.completions) x) of of' is is' w.takes w.gives w.acknowledged w.room w.home receipts
      (subst (λ ys. Answered told promised nothing ys (taken_by p)) (sym (answers-more (view p.completions).pushed x)) honest)

  -- ---- what calls of the queues leave

  pub shard-pushed : (p : ShardPass D) (t : TaskEnd D) (task : WorkerTask D) (result : Result Unit (WorkerTask D)) → IsShardPass told promised ex p
      → HasRoom (limit_of p) (sent_by p ++ task ∷ []) → IsEndOf ex.tasks t
      → MatchResult result (λ _. view t ≡ having_pushed (view p.tasks) task) (λ x. (x ≡ task) × (view t ≡ view p.tasks))
      → IsShardPass told promised ex (record { tasks = t; completions = p.completions })
  shard-pushed p t task (Ok ok) x room of is = shard-sent p t task x room of is
  shard-pushed p t task (Err back) x room of is = shard-same p t x of is.1

  pub worker-popped : (p : WorkerPass D) (t : TaskEnd D) (result : Option (WorkerTask D)) → IsWorkerPass told promised ex p → IsEndOf ex.tasks t
      → MatchOption result (view t ≡ view p.tasks) (λ task. view t ≡ having_popped (view p.tasks) task)
      → IfSome result (λ _. HasRoom (view t).about (view t).popped)
      → IsWorkerPass told promised ex (record { tasks = t; completions = p.completions })
  worker-popped p t None w of is room =
      worker-at p t p.completions (view p.tasks) (view p.completions) of w.completions is refl
      w.takes w.gives w.acknowledged w.room w.home w.deliveries w.honest
  worker-popped p t (Some task) w of is room = worker-took p t task w of is room

  -- what the worker heard that the shard popped
  pub received-starts : (p : ShardPass D) (q : WorkerPass D) (a note : CompletionEnd D) → IsShardPass told promised ex p
      → view note ≡ acknowledgement_of (view p.completions) → view a ≡ having_heard (view q.completions) (view note)
      → StartsWith (view a).pushed (view a).acknowledged → StartsWith (given_by q) (received_by p)
  received-starts p q a note x is is' starts =
      let V : Type 0 = Ends (Delivery D) (Option (TaskEnd D)) in
      let there : StartsWith (view q.completions).pushed (view note).acknowledged = subst (λ (y : V). StartsWith y.pushed y.acknowledged) is' starts in
      let heard : (view note).acknowledged ≡ (view p.completions).popped = ap (λ (y : V). y.acknowledged) is ∙ x.acknowledged in
      let begins : StartsWith (view q.completions).pushed (view p.completions).popped = subst (StartsWith (view q.completions).pushed) heard there in
      (completions_of begins.0, ap completions_of begins.1 ∙ answers-append (view p.completions).popped begins.0)

  -- both ends once they have heard of each other
  pub shard-settled : (p : ShardPass D) (q : WorkerPass D) (t note : TaskEnd D) (a : CompletionEnd D) → IsShardPass told promised ex p
      → IsWorkerPass told promised ex q → IsEndOf ex.tasks t → IsEndOf ex.completions a → view note ≡ acknowledgement_of (view q.tasks)
      → view t ≡ having_heard (view p.tasks) (view note) → view a ≡ view p.completions
      → StartsWith (view t).pushed (view t).acknowledged → StartsWith (given_by q) (received_by p)
      → IsShardPass told promised ex (record { tasks = t; completions = a })
  shard-settled p q t note a x w of of' told-of is same starts received =
      let V : Type 0 = Ends (Delivery D) (Option (TaskEnd D)) in
      let taken : (view t).acknowledged ≡ taken_by q =
      ap (λ (y : Ends (WorkerTask D) ℕ). y.acknowledged) is ∙ ap (λ (y : Ends (WorkerTask D) ℕ). y.acknowledged) told-of ∙ w.acknowledged in
      let known : Answered told promised nothing (received_by p) (taken_by q) =
      fewer-answers told promised nothing (received_by p) received.0 (taken_by q)
      (subst (λ ys. Answered told promised nothing ys (taken_by q)) received.1 w.honest) in
      record {
        tasks = of;
        completions = of';
        sends = subst (λ (y : Ends (WorkerTask D) ℕ). y.pushes ≡ true) (sym is) x.sends;
        receives = subst (λ (y : V). y.pops ≡ true) (sym same) x.receives;
        acknowledged = subst (λ (y : V). y.acknowledged ≡ y.popped) (sym same) x.acknowledged;
        room = subst (λ (y : Ends (WorkerTask D) ℕ). HasRoom y.about y.pushed) (sym is) x.room;
        home = subst (λ (y : V). IsHome ex y.about) (sym same) x.home;
        honest = subst (λ (y : V). Answered told promised nothing (completions_of y.popped) (view t).pushed) (sym same)
            (subst (λ (y : Ends (WorkerTask D) ℕ). Answered told promised nothing (received_by p) y.pushed) (sym is) x.honest);
        known = subst (λ (y : V). Answered told promised nothing (completions_of y.popped) (view t).acknowledged) (sym same)
            (subst (Answered told promised nothing (received_by p)) (sym taken) known);
        begins = starts;
      }

  pub worker-settled : (q : WorkerPass D) (t : TaskEnd D) (a note : CompletionEnd D) → IsWorkerPass told promised ex q
      → IsEndOf ex.tasks t → IsEndOf ex.completions a → view t ≡ view q.tasks → view a ≡ having_heard (view q.completions) (view note)
      → IsWorkerPass told promised ex (record { tasks = t; completions = a })
  worker-settled q t a note w of of' same is =
      worker-at q t a (view q.tasks) (having_heard (view q.completions) (view note)) of of' same is w.takes w.gives w.acknowledged w.room
      w.home w.deliveries w.honest

  -- a full queue
  pub given-full : (p : WorkerPass D) → HasPushed (completion_room ex) (view p.completions) → completion_room ex ≤ length (given_by p)
  given-full p x = let many = length-map (view p.completions).pushed (λ (y : Delivery D). y.completion) in omega (arith, many, x)
