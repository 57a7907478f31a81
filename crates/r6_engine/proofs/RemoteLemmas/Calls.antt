-- What calls at the ends of several exchanges leave.
use Rattle.std.proofs.Common.{◌≡◌, ℕ, ◌-◌, ◌<◌, List, [], ◌∷◌, ◌++◌, length, inl, inr, refl, sym, ap, subst, ◌∙◌, arith, Bool, Option, Some, None}
use Rattle.std.specs.Prelude.{◌%◌}
use Rattle.std.proofs.lemmas.Bool.{cases_eq}
use Rattle.r6_dev.specs.History.{Telling}
use Rattle.r6_dev.specs.Promises.{Promise}
use Rattle.r6_world.proofs.Tables.{put-same, put-other}
use Rattle.r6_world.specs.declared.values.Command.{Command}
use Rattle.r6_exchange.specs.declared.task.Part.{Part}
use Rattle.r6_exchange.specs.declared.task.WorkerTask.TheVariants.{Perform, TakeUp, End}
use Rattle.r6_exchange.specs.declared.completion.Completion.{Completion}
use Rattle.r6_exchange.specs.declared.pass.ShardPass.{ShardPass}
use Rattle.r6_exchange.specs.declared.exchange.Exchange.{Exchange}
use Rattle.r6_exchange.specs.Answering.{Answered, nothing}
use Rattle.r6_exchange.specs.Deliveries.{HasRoom}
use Rattle.r6_exchange.proofs.Answering.{parts-more}
use Rattle.r6_shard.specs.Performing.{Receives}
use Rattle.r6_shard.specs.Parts.{TakesIn, label_of}
use Rattle.r6_engine.specs.remote.Lines.{under, Lines, sent_to, received_from, limit_at, lines_of, having_sent_to, having_received, all_out}
use Rattle.r6_engine.specs.remote.Remotes.{AreShardPasses, IsKept, goes_on, performer_in, less_one, usize_max}
use Rattle.r6_engine.proofs.RemoteLemmas.Lines.{answered-at, room-at}
use Rattle.r6_engine.proofs.RemoteLemmas.Labels.{few-parts}
use Rattle.r6_engine.proofs.RemoteLemmas.Handing.{handed-performer, handed-kept}
use Rattle.r6_engine.proofs.RemoteLemmas.Taking.{taken-kept, takes_in}
use Rattle.r6_engine.proofs.RemoteLemmas.Receiving.{one-out, received-kept, receives}

-- what was counted is one less, unless the count reached the end of its range
pub counted-down : (n m : ℕ) → m ≡ less_one n → m < usize_max → (n < usize_max) × (m ≡ n - 1)
counted-down n m e low = elim (cases_eq n usize_max) [
  | inl same ↦ let stays : less_one n ≡ n = put-same (λ c. c - 1) usize_max n n same in absurd (omega (arith, e, low, same, stays))
  | inr ne ↦ let less : less_one n ≡ n - 1 = put-other (λ c. c - 1) usize_max n n ne in (omega (arith, e, low, less, ne), omega (arith, e, less))
]

module _ {D : Type 0} (told : D → Telling) (promised : D → Promise) (exchanges : List (Exchange D)) (passes new : List (ShardPass D))
    (labels : List (ℕ × ℕ)) (room : ℕ) (stop : Option ℕ) (n bound : ℕ) where
  -- there is room for a command, which is no part
  pub command-room : (k : ℕ) (c : Command) → AreShardPasses told promised exchanges passes
      → HasRoom (limit_at passes k) (sent_to passes k ++ Perform c ∷ [])
  command-room k c x =
      let r = room-at told promised exchanges passes k x in omega (arith, r, parts-more (sent_to passes k) (Perform c ∷ []))

  -- and to say that nothing more comes
  pub end-room : (k : ℕ) → AreShardPasses told promised exchanges passes → HasRoom (limit_at passes k) (sent_to passes k ++ End ∷ [])
  end-room k x =
      let r = room-at told promised exchanges passes k x in omega (arith, r, parts-more (sent_to passes k) (End ∷ []))

  -- a command is handed over
  module _ (workers : ℕ) (c : Command) (held : Option Command) (x : AreShardPasses told promised exchanges passes)
      (old : IsKept told promised (lines_of passes) labels room (Some c) n bound) (count : workers ≡ length passes)
      (sent : lines_of new ≡ having_sent_to (lines_of passes) (c.slot % workers) (Perform c)) (empty : held ≡ None) where
    there : lines_of new ≡ having_sent_to (lines_of passes) (c.slot % length passes) (Perform c)
    there = sent ∙ ap (λ w. having_sent_to (lines_of passes) (c.slot % w) (Perform c)) count

    pub handed-over : IsKept told promised (lines_of new) labels room held n bound
    handed-over =
        subst (λ (h : Option Command). IsKept told promised (lines_of new) labels room h n bound) (sym empty)
        (subst (λ (y : Lines D). IsKept told promised y labels room None n bound) (sym there)
        (handed-kept told promised (lines_of passes) labels room c n bound (λ j. answered-at told promised exchanges passes j x) old))

    pub handed-same : performer_in told promised (lines_of new) labels room stop held ≡ performer_in told promised (lines_of passes) labels room stop (Some c)
    handed-same =
        ap (λ (h : Option Command). performer_in told promised (lines_of new) labels room stop h) empty
        ∙ ap (λ (y : Lines D). performer_in told promised y labels room stop None) there
        ∙ handed-performer told promised (lines_of passes) labels room c n bound (λ j. answered-at told promised exchanges passes j x) old stop

  -- a completion is received
  module _ (k : ℕ) (a : Completion) (held : Option Command) (x : AreShardPasses told promised exchanges new)
      (old : IsKept told promised (lines_of passes) labels room held n bound) (below : k < length passes)
      (came : lines_of new ≡ having_received (lines_of passes) k a) where
    answered : Answered told promised nothing (received_from passes k ++ a ∷ []) (sent_to passes k)
    answered =
        subst (λ y. Answered told promised nothing y (sent_to passes k)) (put-same (received_from passes) k (received_from passes k ++ a ∷ []) k refl)
        (subst (λ (y : Lines D). Answered told promised nothing (y.received k) (y.sent k)) came (answered-at told promised exchanges new k x))

    pub received-more : (m : ℕ) → (m < bound → (n < bound) × (m ≡ n - 1)) → IsKept told promised (lines_of new) labels room held m bound
    received-more m count =
        subst (λ (y : Lines D). IsKept told promised y labels room held m bound) (sym came)
        (received-kept told promised (lines_of passes) labels room held n bound k a below answered old m (λ low.
        let one = one-out told promised (lines_of passes) labels room held n bound k a below answered old in
        let many : n ≡ length (all_out (lines_of passes) held) = old.counted (count low).0 in
        let less : m ≡ n - 1 = (count low).1 in
        ((count low).0, omega (arith, one, many, less))))

    pub received-one : Receives (performer_in told promised (lines_of passes) labels room stop held) (performer_in told promised (lines_of new) labels room stop held) a
    received-one =
        subst (λ (y : Lines D). Receives (performer_in told promised (lines_of passes) labels room stop held) (performer_in told promised y labels room stop held) a) (sym came)
        (receives told promised (lines_of passes) labels room held n bound k a below answered old stop)

  -- a part is taken up, for which there is room
  pub part-room : (k : ℕ) (part : Part D) (steady : Bool) (held : Option Command) → IsKept told promised (lines_of passes) labels room held n bound
      → length labels < room → k < length passes
      → HasRoom (limit_at passes k) (sent_to passes k ++ TakeUp (record { part = part; steady = steady }) ∷ [])
  part-room k part steady held old free below =
      let few = few-parts (sent_to passes k) (length passes) k labels (old.labelled k) in
      let limit = old.limits k below in
      omega (arith, few, limit, free, parts-more (sent_to passes k) (TakeUp (record { part = part; steady = steady }) ∷ []))

  module _ (workers : ℕ) (part : Part D) (held : Option Command) (more : List (ℕ × ℕ)) (space : ℕ)
      (apart : (token : ℕ) (c : Command) → under token (all_out (lines_of passes) held) ≡ Some c → c.generation < part.generation)
      (old : IsKept told promised (lines_of passes) labels room held n bound) (count : workers ≡ length passes)
      (sent : lines_of new ≡ having_sent_to (lines_of passes) (part.slot % workers)
      (TakeUp (record { part = part; steady = goes_on stop (part.slot % workers) })))
      (labelled : more ≡ labels ++ label_of part ∷ []) (same : space ≡ room) where
    taken : lines_of new ≡ having_sent_to (lines_of passes) (part.slot % length passes)
        (TakeUp (record { part = part; steady = goes_on stop (part.slot % length passes) }))
    taken =
        sent ∙ ap (λ w. having_sent_to (lines_of passes) (part.slot % w)
        (TakeUp (record { part = part; steady = goes_on stop (part.slot % w) }))) count

    pub taken-up : IsKept told promised (lines_of new) more space held n bound
    taken-up =
        subst (λ y. IsKept told promised (lines_of new) more y held n bound) (sym same)
        (subst (λ (y : List (ℕ × ℕ)). IsKept told promised (lines_of new) y room held n bound) (sym labelled)
        (subst (λ (y : Lines D). IsKept told promised y (labels ++ label_of part ∷ []) room held n bound) (sym taken)
        (taken-kept told promised (lines_of passes) labels room stop held n bound part apart old)))

    pub taken-in : TakesIn told promised part None (performer_in told promised (lines_of passes) labels room stop held)
        (performer_in told promised (lines_of new) more space stop held)
    taken-in =
        let old-one = performer_in told promised (lines_of passes) labels room stop held in
        subst (λ y. TakesIn told promised part None old-one (performer_in told promised (lines_of new) more y stop held)) (sym same)
        (subst (λ (y : List (ℕ × ℕ)). TakesIn told promised part None old-one (performer_in told promised (lines_of new) y room stop held)) (sym labelled)
        (subst (λ (y : Lines D). TakesIn told promised part None old-one (performer_in told promised y (labels ++ label_of part ∷ []) room stop held)) (sym taken)
        (takes_in told promised (lines_of passes) labels room stop held n bound part apart old)))
