-- The second read of a block that was fixed meets an error again. Its slot is lost, and the block is restored from the others.
use Rattle.std.proofs.Common.{◌≡◌, List, [], ◌∷◌, ◌++◌, length, inr, refl, sym, ap, subst, ◌∙◌, Some}
use Rattle.std.proofs.lemmas.Bool.{ne_eqb}
use Rattle.r6_stripe.specs.Holds.{IsQuiet, MayRestore, MayEnd}
use Rattle.r6_stripe.specs.Holds.Standing.{Out}
use Rattle.r6_stripe.specs.Holds.Reading.{Unreadable}
use Rattle.r6_stripe.specs.Holds.Outcome.{Data as Gave}
use Rattle.r6_stripe.specs.Holds.Event.{Loses, Restores}
use Rattle.r6_layout.specs.PlainArray.{Block}
use Rattle.r6_world.specs.PlainArray.{Array, Read, Data}
use Rattle.r6_world.specs.Registers.{status_of}
use Rattle.r6_world.specs.Tasks.{Hold, Answered}
use Rattle.r6_world.specs.ShardStates.{Finished, Shard, Synced, Missing}
use Rattle.r6_world.specs.Changes.{Lose, Prepare, Finish, after}
use Rattle.r6_world.specs.Steps.{Deliver, Read_error, Taken, Step}
use Rattle.r6_world.specs.Worlds.{World, Moment, next}
use Rattle.r6_world.specs.Witness.{small, after_all, RunsInTurn, IsReadError, SecondErrorFrom}
use Rattle.r6_world.proofs.Witness.Pieces.{View, Stands, Reaches, leads, goes-append, after-append, handed_out, fetch, store, faults_at}
use Rattle.r6_world.proofs.Witness.SmallRows.{p, restored_is}
use Rattle.r6_world.proofs.Witness.SmallShards.{but_one-put, on, none_built, entry_is, none_is, one_waits_not, finished_not, free_rests, each, read_held, unwritten_not_sent, n1≤2}
use Rattle.r6_world.proofs.Witness.Written.{fetched, when_made}
use Rattle.r6_world.proofs.Witness.Degraded.{no_repair}
use Rattle.r6_world.proofs.Witness.Erred.{when_reading, reads_directly, loss_left, when_finished, when_declared, declares}
use Rattle.r6_world.proofs.Witness.Mended.{own_again, again_out, when_fixing, when_again, fixes, reads_fixed}

abbrev own_lost : (b other : Block) → Hold
own_lost b other = on (own_again b other) (Loses 0)

abbrev own_restored : (b other : Block) → Hold
own_restored b other = on (own_lost b other) (Restores 0 b)

may_restore : (b other : Block) → length b ≡ 16 → length other ≡ 16 → MayRestore (own_lost b other).course 0 b
may_restore b other b-wide other-wide = record {
  held = read_held 0;
  out = refl;
  was = λ row is. restored_is row b other is.wide (is.full no_repair) b-wide other-wide (is.same 1 other refl) (is.same 2 (p b other) refl);
}

may_end : (b other : Block) → MayEnd (own_restored b other).course (Gave b)
may_end b other = record {
  quiet =
      each IsQuiet (own_restored b other) ((λ in'. (record {}, unwritten_not_sent)), λ there. unwritten_not_sent) ((λ in'. (record {}, unwritten_not_sent)), λ there. unwritten_not_sent)
      ((λ in'. (record {}, unwritten_not_sent)), λ there. unwritten_not_sent) ((λ in'. (record {}, unwritten_not_sent)), λ there. unwritten_not_sent) ((λ in'. (record {}, unwritten_not_sent)), λ there. unwritten_not_sent);
  mended = inr (each (λ c. (c.standing ≡ Out → ⊥) → c.reading ≡ Unreadable → ⊥) (own_restored b other) (λ in' e. cc) (λ in' e. cc) (λ in' e. cc) (λ in' e. cc) (λ in' e. cc));
  owes_nothing = refl;
}

abbrev after_error : (b other : Block) → Shard
after_error b other =
    after small (after small (after small (handed_out (again_out b other) 5 (fetch 1 0)) (Lose 5 (fetched 1 0))) (Prepare 0 (own_lost b other) (Restores 0 b)))
    (Finish 0 (own_restored b other) (Answered b))

ended : (b other : Block) → loss_left 6 b ≡ after_error b other
ended b other = λ i. record (loss_left 6 b) {
  request = λ id. entry_is (after_error b other).request 0 (Some (record { op = Read 0; stage = Finished (Data b) })) refl (λ at ne. rw (ne_eqb at 0 ne) refl) id i;
  frame = λ f. none_is (after_error b other).frame 0 refl (λ at ne. rw (ne_eqb at 0 ne) refl) f i;
  command = λ t. none_is (after_error b other).command 5 refl (λ at ne. rw (ne_eqb at 5 ne) refl) t i;
  slot = λ d. but_one-put (Synced 0) Missing d i;
}

loses : (b other : Block) → length b ≡ 16 → length other ≡ 16 → Step small 0 (handed_out (again_out b other) 5 (fetch 1 0)) (Deliver 5 Read_error Taken) (loss_left 6 b)
loses b other b-wide other-wide = (
  Lose 5 (fetched 1 0),
  (refl, refl, refl),
  (refl, refl),
  loss_left 6 b,
  (
    _,
    ([], refl),
    (
      Prepare 0 (own_lost b other) (Restores 0 b) ∷ Finish 0 (own_restored b other) (Answered b) ∷ [],
      (
        record {},
        (refl, (n1≤2, refl), record {}, may_restore b other b-wide other-wide, (refl, (may_restore b other b-wide other-wide).was)),
        (record {}, (refl, may_end b other, (n1≤2, refl), record {}), ended b other),
      ),
    ),
  ),
  ([], refl),
  free_rests (loss_left 6 b) (λ f. refl) (one_waits_not 0 (Read 0) (Finished (Data b)) (finished_not (Data b))) (none_built Missing (λ x. x)),
)

-- ---- all together

module _ (array : Array) (wide : length (array 0) ≡ 16) (other-wide : length (array 1) ≡ 16) where
  abbrev when_lost : View
  when_lost = when_finished 6 (array 0) (when_again array).device (4 ∷ 2 ∷ 3 ∷ [])

  abbrev at_last : View
  at_last = when_declared 6 (array 0) (when_again array).device (4 ∷ 2 ∷ 3 ∷ [])

  parts : (w : World) (x1 x2 : List Moment) (m : Moment) (x3 : List Moment) (v : View) → v.shard.slot 1 ≡ Synced 0
      → RunsInTurn small w (x1 ++ x2 ++ m ∷ x3)
      → Stands (after_all small w x1) (when_fixing array) → Stands (after_all small w (x1 ++ x2)) v
      → IsReadError (after_all small w (x1 ++ x2)) 1 m
      → Stands (after_all small w (x1 ++ x2 ++ m ∷ [])) when_lost → Stands (after_all small w (x1 ++ x2 ++ m ∷ x3)) at_last → SecondErrorFrom w (array 0)
  parts w x1 x2 m x3 v synced run at1 at2 error at3 at4 = record {
    fix = x1;
    again = x2;
    error = m;
    read = x3;
    is_run = run;
    is_fixing = (4, store 1 0 (array 0), ap (λ s. s.command 4) at1.shard_is, refl, refl);
    in_sync = ap (λ s. s.slot 1) at2.shard_is ∙ synced;
    is_error = error;
    is_missing = ap (λ s. s.slot 1) at3.shard_is;
    is_lost = (ap (λ r. status_of r 1) at4.register_is, ap (λ s. s.slot 1) at4.shard_is);
    is_read = ap (λ s. s.request 0) at4.shard_is;
  }

  -- four runs, one behind another
  joined : (w : World) (x1 x2 x3 : List Moment) (m : Moment) (x4 : List Moment) (v : View) → v.shard.slot 1 ≡ Synced 0
      → RunsInTurn small w x1 → Stands (after_all small w x1) (when_fixing array)
      → RunsInTurn small (after_all small w x1) x2
      → RunsInTurn small (after_all small (after_all small w x1) x2) x3
      → Stands (after_all small (after_all small (after_all small w x1) x2) x3) v
      → RunsInTurn small (after_all small (after_all small (after_all small w x1) x2) x3) (m ∷ [])
      → IsReadError (after_all small (after_all small (after_all small w x1) x2) x3) 1 m
      → Stands (next small (after_all small (after_all small (after_all small w x1) x2) x3) m) when_lost
      → RunsInTurn small (next small (after_all small (after_all small (after_all small w x1) x2) x3) m) x4
      → Stands (after_all small (next small (after_all small (after_all small (after_all small w x1) x2) x3) m) x4) at_last
      → SecondErrorFrom w (array 0)
  joined w x1 x2 x3 m x4 v synced run1 at1 run2 run3 at3 run4 error at4 run5 at5 =
      let w1 : World = after_all small w x1 in
      let w3 : World = after_all small (after_all small w1 x2) x3 in
      let front : List Moment = x1 ++ (x2 ++ x3) in
      let there : after_all small w front ≡ w3 = after-append small w x1 (x2 ++ x3) ∙ after-append small w1 x2 x3 in
      let leads-to : (rest : List Moment) → after_all small w3 rest ≡ after_all small w (front ++ rest) = (λ rest.
      sym (after-append small w front rest ∙ ap (λ y. after_all small y rest) there)) in
      parts w x1 (x2 ++ x3) m x4 v synced
      (goes-append small w front (m ∷ x4) (goes-append small w x1 (x2 ++ x3) run1 (goes-append small w1 x2 x3 run2 run3))
      (subst (λ y. RunsInTurn small y (m ∷ x4)) (sym there) (goes-append small w3 (m ∷ []) x4 run4 run5)))
      at1
      (subst (λ y. Stands y v) (sym there) at3)
      (subst (λ y. IsReadError y 1 m) (sym there) error)
      (subst (λ y. Stands y when_lost) (leads-to (m ∷ [])) at4)
      (subst (λ y. Stands y at_last) (leads-to (m ∷ x4)) at5)

  pub second_error : (w : World) → Stands w (when_made array) → SecondErrorFrom w (array 0)
  second_error w at =
      let first : Reaches small w (λ later. Stands later (when_fixing array)) =
      leads w (when_reading array) (λ later. Stands later (when_fixing array)) (reads_directly array w at) (λ x1 at1. fixes array wide other-wide x1 at1) in
      let w1 : World = after_all small w first.0 in
      let second = reads_fixed array w1 first.2 in
      let w2 : World = after_all small w1 second.0 in
      let third = faults_at w2 (when_again array) second.2 0 5 1 0 (loss_left 6 (array 0)) refl n1≤2 (loses (array 0) (array 1) wide other-wide) in
      let fourth = declares 6 (array 0) (when_again array).device (4 ∷ 2 ∷ 3 ∷ []) (next small (after_all small w2 third.0) third.1) third.6 in
      joined w first.0 second.0 third.0 third.1 fourth.0
      (record (when_again array) { shard = handed_out (again_out (array 0) (array 1)) 5 (fetch 1 0) }) refl
      first.1 first.2 second.1 third.2 third.3 third.4 third.5 third.6 fourth.1 fourth.2
