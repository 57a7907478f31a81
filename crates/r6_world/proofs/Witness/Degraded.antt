-- A request reads a block of slot 1, which is out: its hold reads two other slots, by two tokens in a row, and restores it.
use Rattle.std.proofs.Common.{◌≡◌, ℕ, ◌+◌, ◌∷◌, [], List, length, refl, sym, Option, Some, None, arith, inl, inr}
use Rattle.std.proofs.lemmas.Bool.{eq-eqb, ne_eqb}
use Rattle.r6_stripe.specs.Holds.{IsQuiet, MayRestore, MayEnd, cell_at}
use Rattle.r6_stripe.specs.Holds.Outcome.{Data as Gave}
use Rattle.r6_stripe.specs.Holds.Kind.{Read as Reads, Repair}
use Rattle.r6_stripe.specs.Holds.Writing.{Unwritten}
use Rattle.r6_stripe.specs.Holds.Event.{Asks, Gives, Restores}
use Rattle.r6_world.specs.Tables.{put}
use Rattle.r6_layout.specs.PlainArray.{Block}
use Rattle.r6_world.specs.PlainArray.{Read, Data}
use Rattle.r6_world.specs.Tasks.{ReadFor, Hold, Answered}
use Rattle.r6_world.specs.Registers.{Lost}
use Rattle.r6_world.specs.ShardStates.{Waiting, Held, Finished, Released, Command, Shard, Missing, Call, begun}
use Rattle.r6_world.specs.Changes.{Start, Ask, Prepare, Learn, Finish, Release, after}
use Rattle.r6_world.specs.Steps.{Deliver, Good, Taken, Look, Step, Through, Scans, AtRest}
use Rattle.r6_world.specs.Witness.{small}
use Rattle.r6_world.proofs.Tables.{not_both, put-same, put-other}
use Rattle.r6_world.proofs.Witness.Pieces.{fetch, handed_out}
use Rattle.r6_world.proofs.Witness.SmallRows.{p, restored_is}
use Rattle.r6_world.proofs.Witness.SmallShards.{no_request, no_hold, no_command, but_one, asked, held, on, state, register_with, seen_slots, none_built, entry_is, none_is, put-gone, one_waits_not, held_not, finished_not, released_not, held_rests, free_rests, each, HasNoWrite, no_write, read_held, unwritten_not_sent, n0<1, n0<64, n1≤2, n2<4, n3<4}
use Rattle.r6_world.proofs.Witness.Written.{fetched}

-- ---- the hold

abbrev pub begun_hold : (id : ℕ) → Hold
begun_hold id = begun small (but_one Missing) 0 (ReadFor id 0)

abbrev pub other_asked : (id : ℕ) → Hold
other_asked id = on (begun_hold id) (Asks 1)

abbrev pub both_asked : (id : ℕ) → Hold
both_asked id = on (other_asked id) (Asks 2)

abbrev pub p_known : (id : ℕ) → (b other : Block) → Hold
p_known id b other = on (both_asked id) (Gives 2 (p b other))

abbrev both_known : (id : ℕ) → (b other : Block) → Hold
both_known id b other = on (p_known id b other) (Gives 1 other)

abbrev own_restored : (id : ℕ) → (b other : Block) → Hold
own_restored id b other = on (both_known id b other) (Restores 0 b)

-- ---- the states

abbrev pub other_left : (token : ℕ) → ℕ → Option Command
other_left token = put no_command token (Some (fetch 2 0))

abbrev pub both_left : (token : ℕ) → ℕ → Option Command
both_left token = put (other_left token) (token + 1) (Some (fetch 3 0))

abbrev pub read_waits : (id token : ℕ) → List Call → Shard
read_waits id token calls = state (id + 1) (asked id (Read 0) Waiting) no_hold token no_command (but_one Missing) calls 0

abbrev pub both_reads_out : (id token : ℕ) → List Call → Shard
both_reads_out id token calls =
    state (id + 1) (asked id (Read 0) (Held 0)) (held (both_asked id)) (token + 1 + 1) (both_left token) (but_one Missing) calls 0

abbrev pub one_read_out : (id token : ℕ) → List Call → (b other : Block) → Shard
one_read_out id token calls b other =
    state (id + 1) (asked id (Read 0) (Held 0)) (held (p_known id b other)) (token + 1 + 1) (other_left token) (but_one Missing) calls 0

abbrev pub read_finished : (id token : ℕ) → List Call → Block → Shard
read_finished id token calls b =
    state (id + 1) (asked id (Read 0) (Finished (Data b))) no_hold (token + 1 + 1) no_command (but_one Missing) calls 0

-- ---- the hold begins, and asks for the other blocks

abbrev after_begin : (id token : ℕ) → List Call → Shard
after_begin id token calls =
    after small (after small (after small (read_waits id token calls) (Start 0 0 (ReadFor id 0))) (Ask 0 (begun_hold id) 2 0))
    (Ask 0 (other_asked id) 3 0)

begun_anew : (id token : ℕ) (calls : List Call) → both_reads_out id token calls ≡ after_begin id token calls
begun_anew id token calls = λ i. record (both_reads_out id token calls) {
  request = λ at. entry_is (after_begin id token calls).request id (Some (record { op = Read 0; stage = Held 0 })) (rw (eq-eqb id id refl) refl)
      (λ at ne. rw (ne_eqb at id ne) refl) at i;
  frame = λ f. entry_is (after_begin id token calls).frame 0 (Some (both_asked id)) refl (λ at ne. rw (ne_eqb at 0 ne) refl) f i;
}

before_asked : (id : ℕ) (at : ℕ) → HasNoWrite (cell_at (begun_hold id).course.cells at)
before_asked id = each HasNoWrite (begun_hold id) no_write no_write no_write no_write no_write

after_asked : (id : ℕ) (at : ℕ) → HasNoWrite (cell_at (other_asked id).course.cells at)
after_asked id = each HasNoWrite (other_asked id) no_write no_write no_write no_write no_write

pub begins : (id token : ℕ) (calls : List Call) → Through small 0 Scans (read_waits id token calls) (both_reads_out id token calls)
begins id token calls = (
  Start 0 0 (ReadFor id 0) ∷ Ask 0 (begun_hold id) 2 0 ∷ Ask 0 (other_asked id) 3 0 ∷ [],
  (
    record {},
    (
      (n0<64, refl, (λ t c e own. not_both {A = Command} None c refl e)),
      (λ f h e own. not_both {A = Hold} None h refl e),
      (n0<1, refl),
      (n1≤2, refl),
      (inl (put-same no_request id (Some (record { op = Read 0; stage = Waiting })) id refl, λ direct. direct.1.0.1), refl),
      n2<4,
    ),
    (
      record {},
      (refl, n2<4, (refl, refl), (n1≤2, refl), record { held = read_held 0; in_sync = refl; unread = tt; before_writes = before_asked id }, refl),
      (
        record {},
        (refl, n3<4, (refl, refl), (n1≤2, refl), record { held = read_held 0; in_sync = refl; unread = tt; before_writes = after_asked id }, refl),
        begun_anew id token calls,
      ),
    ),
  ),
)

pub rests : (id token : ℕ) (calls : List Call) → AtRest small 0 (both_reads_out id token calls)
rests id token calls =
    held_rests (both_reads_out id token calls) (both_asked id) refl refl (token + 1) (fetch 3 0)
    (put-same (other_left token) (token + 1) (Some (fetch 3 0)) (token + 1) refl) refl refl
    (one_waits_not id (Read 0) (Held 0) (held_not 0)) (none_built Missing (λ x. x))

-- ---- P comes

abbrev after_p : (id token : ℕ) → List Call → (b other : Block) → Shard
after_p id token calls b other =
    after small (handed_out (both_reads_out id token calls) (token + 1) (fetch 3 0))
    (Learn (token + 1) (fetched 3 0) (both_asked id) (p b other))

p_learned :
    (id token : ℕ) (calls : List Call) (b other : Block)
    → one_read_out id token calls b other ≡ after_p id token calls b other
p_learned id token calls b other = λ i. record (one_read_out id token calls b other) {
  frame = λ f. entry_is (after_p id token calls b other).frame 0 (Some (p_known id b other)) refl (λ at ne. rw (ne_eqb at 0 ne) refl) f i;
  command = λ t. sym (put-gone (other_left token) (token + 1) (Some (fetch 3 0)) (Some (fetched 3 0)) free t) i;
}
  where
    free : other_left token (token + 1) ≡ None
    free = put-other no_command token (Some (fetch 2 0)) (token + 1) (λ e. omega (arith, e))

pub learns_p :
    (id token : ℕ) (calls : List Call) (b other : Block)
    → Step small 0 (handed_out (both_reads_out id token calls) (token + 1) (fetch 3 0)) (Deliver (token + 1) (Good (p b other)) Taken)
    (one_read_out id token calls b other)
learns_p id token calls b other = (
  Learn (token + 1) (fetched 3 0) (both_asked id) (p b other),
  (refl, refl, refl),
  (put-same (both_left token) (token + 1) (Some (fetched 3 0)) (token + 1) refl, refl, refl, refl),
  one_read_out id token calls b other,
  (_, ([], refl), ([], p_learned id token calls b other)),
  ([], refl),
  held_rests (one_read_out id token calls b other) (p_known id b other) refl refl token (fetch 2 0)
      (put-same no_command token (Some (fetch 2 0)) token refl) refl refl (one_waits_not id (Read 0) (Held 0) (held_not 0))
      (none_built Missing (λ x. x)),
)

-- ---- the other block comes, and the block is restored

pub no_repair : Reads 0 ≡ Repair → ⊥
no_repair e = cc

may_restore : (id : ℕ) (b other : Block) → length b ≡ 16 → length other ≡ 16 → MayRestore (both_known id b other).course 0 b
may_restore id b other b-wide other-wide = record {
  held = read_held 0;
  out = refl;
  was = λ row is. restored_is row b other is.wide (is.full no_repair) b-wide other-wide (is.same 1 other refl) (is.same 2 (p b other) refl);
}

may_end : (id : ℕ) (b other : Block) → MayEnd (own_restored id b other).course (Gave b)
may_end id b other = record {
  quiet =
      each IsQuiet (own_restored id b other) ((λ in'. (record {}, unwritten_not_sent)), λ there. unwritten_not_sent) ((λ in'. (record {}, unwritten_not_sent)), λ there. unwritten_not_sent)
      ((λ in'. (record {}, unwritten_not_sent)), λ there. unwritten_not_sent) ((λ in'. (record {}, unwritten_not_sent)), λ there. unwritten_not_sent)
      ((λ in'. (record {}, unwritten_not_sent)), λ there. unwritten_not_sent);
  mended = inr (each (λ c. (c.standing ≡ Rattle.r6_stripe.specs.Holds.Standing.Out → ⊥) → c.reading ≡ Rattle.r6_stripe.specs.Holds.Reading.Unreadable → ⊥) (own_restored id b other) (λ in' e. cc) (λ in' e. cc) (λ in' e. cc) (λ in' e. cc) (λ in' e. cc));
  owes_nothing = refl;
}

abbrev after_other : (id token : ℕ) → List Call → (b other : Block) → Shard
after_other id token calls b other =
    after small (after small (after small (handed_out (one_read_out id token calls b other) token (fetch 2 0))
    (Learn token (fetched 2 0) (p_known id b other) other)) (Prepare 0 (both_known id b other) (Restores 0 b))) (Finish 0 (own_restored id b other) (Answered b))

ended :
    (id token : ℕ) (calls : List Call) (b other : Block)
    → read_finished id token calls b ≡ after_other id token calls b other
ended id token calls b other = λ i. record (read_finished id token calls b) {
  request = λ at. entry_is (after_other id token calls b other).request id (Some (record { op = Read 0; stage = Finished (Data b) }))
      (rw (eq-eqb id id refl) refl) (λ at ne. rw (ne_eqb at id ne) refl) at i;
  frame = λ f. none_is (after_other id token calls b other).frame 0 refl (λ at ne. rw (ne_eqb at 0 ne) refl) f i;
  command = λ t. sym (put-gone no_command token (Some (fetch 2 0)) (Some (fetched 2 0)) refl t) i;
}

pub learns_other :
    (id token : ℕ) (calls : List Call) (b other : Block) → length b ≡ 16 → length other ≡ 16
    → Step small 0 (handed_out (one_read_out id token calls b other) token (fetch 2 0)) (Deliver token (Good other) Taken) (read_finished id token calls b)
learns_other id token calls b other b-wide other-wide = (
  Learn token (fetched 2 0) (p_known id b other) other,
  (refl, refl, refl),
  (put-same (other_left token) token (Some (fetched 2 0)) token refl, refl, refl, refl),
  read_finished id token calls b,
  (
    _,
    ([], refl),
    (
      Prepare 0 (both_known id b other) (Restores 0 b) ∷ Finish 0 (own_restored id b other) (Answered b) ∷ [],
      (
        record {},
        (refl, (n1≤2, refl), record {}, may_restore id b other b-wide other-wide, (refl, (may_restore id b other b-wide other-wide).was)),
        (record {}, (refl, may_end id b other, (n1≤2, refl), record {}), ended id token calls b other),
      ),
    ),
  ),
  ([], refl),
  free_rests (read_finished id token calls b) (λ f. refl) (one_waits_not id (Read 0) (Finished (Data b)) (finished_not (Data b))) (none_built Missing (λ x. x)),
)

-- ---- a look releases the reply

abbrev pub read_released : (id token : ℕ) → Block → Shard
read_released id token b =
    state (id + 1) (asked id (Read 0) (Released (Data b))) no_hold (token + 1 + 1) no_command (but_one Missing) [] 0

answered : (id token : ℕ) (b : Block) → read_released id token b ≡ after small (read_finished id token [] b) Release
answered id token b = λ i. record (read_released id token b) {
  request = λ at. entry_is (after small (read_finished id token [] b) Release).request id (Some (record { op = Read 0; stage = Released (Data b) }))
      (rw (eq-eqb id id refl) refl) (λ at ne. rw (ne_eqb at id ne) refl) at i;
}

pub looks : (id token attaches : ℕ) (b : Block) → Step small 0 (read_finished id token [] b) (Look (register_with Lost attaches)) (read_released id token b)
looks id token attaches b = (
  refl,
  refl,
  read_finished id token [] b,
  ([], refl),
  (λ slot inside. seen_slots Missing Missing Lost attaches refl slot),
  (read_finished id token [] b, (_, ([], refl), ([], refl)), ([], answered id token b)),
  free_rests (read_released id token b) (λ f. refl) (one_waits_not id (Read 0) (Released (Data b)) (released_not (Data b))) (none_built Missing (λ x. x)),
)
