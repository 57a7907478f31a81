-- A check reads the whole row, and finds it consistent.
use Rattle.std.proofs.Common.{◌≡◌, ◌∙◌, ℕ, zero, suc, ◌<◌, [], ◌∷◌, length, false, refl, sym, ap, subst, arith, Option, Some, None, inr}
use Rattle.std.proofs.lemmas.Bool.{ne_eqb}
use Rattle.r6_kernels.specs.Blocks.{IsBlock}
use Rattle.r6_recover.specs.Rows.{block_at}
use Rattle.r6_stripe.specs.Holds.{IsQuiet, IsUnasked, MayAsk, MayEnd, cell_at}
use Rattle.r6_stripe.specs.Holds.Standing.{InSync as InPlace}
use Rattle.r6_stripe.specs.Holds.Kind.{Idle}
use Rattle.r6_stripe.specs.Holds.Reading.{Unread, Known}
use Rattle.r6_stripe.specs.Holds.Writing.{Unwritten}
use Rattle.r6_stripe.specs.Holds.Event.{Asks, Gives}
use Rattle.r6_world.specs.Tables.{put}
use Rattle.r6_layout.specs.PlainArray.{Block}
use Rattle.r6_world.specs.PlainArray.{Array}
use Rattle.r6_world.specs.Tasks.{Hold}
use Rattle.r6_world.specs.ShardStates.{Command, Shard, Synced, begun}
use Rattle.r6_world.specs.Changes.{Start, Ask, Learn, Finish, after}
use Rattle.r6_world.specs.Steps.{Deliver, Good, Taken, Turn_started, Step}
use Rattle.r6_world.specs.Worlds.{World}
use Rattle.r6_world.specs.Witness.{small}
use Rattle.r6_world.proofs.Tables.{not_both}
use Rattle.r6_world.proofs.Witness.Pieces.{Reaches, View, Stands, leads, core, reads, fetch, handed_out}
use Rattle.r6_world.proofs.Witness.SmallRows.{p}
use Rattle.r6_world.proofs.Witness.SmallShards.{no_request, no_command, but_one, but_one-same, held, on, state, none_built, entry_is, none_is, put-gone, none_wait, held_rests, free_rests, cell, each, HasNoWrite, no_write, unwritten_not_sent, n0<1, n0<4, n1<4, n2<4, n3<4, n0<64, n0≤2}
use Rattle.std.specs.Prelude.{All}
use Rattle.r6_kernels.specs.Blocks.{block_sum, zeros, p_of, q_of}
use Rattle.r6_kernels.proofs.BlockLaws.{block_sum-self}
use Rattle.r6_kernels.proofs.ParityLaws.{IsBlock-p_of, IsBlock-q_of}
use Rattle.std.proofs.lemmas.List.Elements.{All-cons, All-nil}
use Rattle.r6_recover.specs.Classes.{HasClass, IsZero}
use Rattle.r6_recover.specs.declared.class.RowClass.TheVariants.{Consistent}
use Rattle.r6_stripe.specs.Holds.Kind.{Check as Checking}
use Rattle.r6_stripe.specs.Holds.Outcome.{Classed as Read_all}
use Rattle.r6_world.specs.Tasks.{Check, Classed, IsClassRead}
use Rattle.r6_world.specs.ShardStates.{InSyncFor}
use Rattle.r6_world.specs.Changes.{Classify}
use Rattle.r6_world.proofs.Witness.SmallRows.{q, full}
use Rattle.r6_world.proofs.Witness.Written.{fetched, made, when_made}

-- ---- the class

zero_bytes : (n : ℕ) → IsZero (zeros n)
zero_bytes zero = All-nil (λ byte. byte ≡ 0)
zero_bytes (suc n) = All-cons (λ byte. byte ≡ 0) 0 (zeros n) refl (zero_bytes n)

differs_not : (len : ℕ) (a b : Block) → length b ≡ len → a ≡ b → IsZero (block_sum a b)
differs_not len a b wide same = subst IsZero (sym (ap (λ x. block_sum x b) same ∙ block_sum-self len b wide)) (zero_bytes len)

consistent : (b other : Block) → IsBlock 16 b → IsBlock 16 other → HasClass (full b other) Consistent
consistent b other sized other-sized =
    let blocks : All (IsBlock 16) (b ∷ other ∷ []) = All-cons (IsBlock 16) b (other ∷ []) sized (All-cons (IsBlock 16) other [] other-sized (All-nil (IsBlock 16))) in (
      differs_not 16 (p_of (length b) (b ∷ other ∷ [])) (p b other) (IsBlock-p_of 16 (b ∷ other ∷ []) blocks).length_is (ap (λ n. p_of n (b ∷ other ∷ [])) sized.length_is),
      differs_not 16 (q_of (length b) (b ∷ other ∷ [])) (q b other) (IsBlock-q_of 16 (b ∷ other ∷ []) blocks).length_is (ap (λ n. q_of n (b ∷ other ∷ [])) sized.length_is),
    )

-- ---- the hold

abbrev begun_check : Hold
begun_check = begun small (but_one (Synced 0)) 0 Check

abbrev own_asked : Hold
own_asked = on begun_check (Asks 0)

abbrev other_asked : Hold
other_asked = on own_asked (Asks 1)

abbrev p_asked : Hold
p_asked = on other_asked (Asks 2)

abbrev all_asked : Hold
all_asked = on p_asked (Asks 3)

abbrev q_known : (b other : Block) → Hold
q_known b other = on all_asked (Gives 3 (q b other))

abbrev p_known : (b other : Block) → Hold
p_known b other = on (q_known b other) (Gives 2 (p b other))

abbrev pub other_known : (b other : Block) → Hold
other_known b other = on (p_known b other) (Gives 1 other)

abbrev pub all_known : (b other : Block) → Hold
all_known b other = on (other_known b other) (Gives 0 b)

abbrev pub classed : (b other : Block) → Hold
classed b other = record (all_known b other) { class = Some Consistent }

-- ---- the states

abbrev pub own_out : ℕ → Option Command
own_out = put no_command 0 (Some (fetch 1 0))

abbrev data_out : ℕ → Option Command
data_out = put own_out 1 (Some (fetch 2 0))

abbrev data_and_p_out : ℕ → Option Command
data_and_p_out = put data_out 2 (Some (fetch 3 0))

abbrev all_out : ℕ → Option Command
all_out = put data_and_p_out 3 (Some (fetch 0 0))

abbrev all_reads_out : Shard
all_reads_out = state 0 no_request (held all_asked) 4 all_out (but_one (Synced 0)) [] 0

abbrev three_reads_out : (b other : Block) → Shard
three_reads_out b other = state 0 no_request (held (q_known b other)) 4 data_and_p_out (but_one (Synced 0)) [] 0

abbrev two_reads_out : (b other : Block) → Shard
two_reads_out b other = state 0 no_request (held (p_known b other)) 4 data_out (but_one (Synced 0)) [] 0

abbrev pub one_read_out : (b other : Block) → Shard
one_read_out b other = state 0 no_request (held (other_known b other)) 4 own_out (but_one (Synced 0)) [] 0

abbrev pub after_own : (b other : Block) → Shard
after_own b other =
    after small (after small (after small (handed_out (one_read_out b other) 0 (fetch 1 0)) (Learn 0 (fetched 1 0) (other_known b other) b)) (Classify 0 (all_known b other) Consistent))
    (Finish 0 (classed b other) (Classed Consistent))

-- ---- a turn begins the check

check_held : Checking ≡ Idle → ⊥
check_held e = cc

all_in_sync_for : (slot : ℕ) → slot < 4 → (generation : ℕ) × InSyncFor (but_one (Synced 0) slot) 0 generation
all_in_sync_for slot below = (0, subst (λ s. InSyncFor s 0 0) (but_one-same slot) refl)

may_ask : (h : Hold) (at : ℕ) → (h.course.kind ≡ Idle → ⊥) → (cell h at).standing ≡ InPlace → (cell h at).reading ≡ Unread
    → ((other : ℕ) → HasNoWrite (cell_at h.course.cells other)) → MayAsk h.course at
may_ask h at kind in' unread before = record { held = kind; in_sync = in'; unread = subst IsUnasked (sym unread) tt; before_writes = before }

unwritten : (other : ℕ) → HasNoWrite (cell_at begun_check.course.cells other)
unwritten = each HasNoWrite begun_check no_write no_write no_write no_write no_write

own_unwritten : (other : ℕ) → HasNoWrite (cell_at own_asked.course.cells other)
own_unwritten = each HasNoWrite own_asked no_write no_write no_write no_write no_write

other_unwritten : (other : ℕ) → HasNoWrite (cell_at other_asked.course.cells other)
other_unwritten = each HasNoWrite other_asked no_write no_write no_write no_write no_write

p_unwritten : (other : ℕ) → HasNoWrite (cell_at p_asked.course.cells other)
p_unwritten = each HasNoWrite p_asked no_write no_write no_write no_write no_write

may_begin : (at : ℕ) → at < 4 → (cell_at begun_check.course.cells at).standing ≡ InPlace
may_begin zero below = refl
may_begin (suc zero) below = refl
may_begin (suc (suc zero)) below = refl
may_begin (suc (suc (suc zero))) below = refl
may_begin (suc (suc (suc (suc at)))) below = absurd (omega (arith, below))

abbrev after_turn : Shard
after_turn = after small (after small (after small (after small (after small made (Start 0 0 Check)) (Ask 0 begun_check 1 0)) (Ask 0 own_asked 2 0)) (Ask 0 other_asked 3 0)) (Ask 0 p_asked 0 0)

begins : all_reads_out ≡ after_turn
begins = λ i. record all_reads_out { frame = λ f. entry_is after_turn.frame 0 (Some all_asked) refl (λ at ne. rw (ne_eqb at 0 ne) refl) f i }

turns : Step small 0 made (Turn_started Check) all_reads_out
turns = (
  record {},
  0,
  0,
  (
    (n0<64, refl, (λ t c e own. not_both {A = Command} None c refl e)),
    (λ f h e own. not_both {A = Hold} None h refl e),
    (n0<1, refl),
    (n0≤2, refl),
    (refl, all_in_sync_for),
    may_begin,
  ),
  (
    Ask 0 begun_check 1 0 ∷ Ask 0 own_asked 2 0 ∷ Ask 0 other_asked 3 0 ∷ Ask 0 p_asked 0 0 ∷ [],
    (
      record {},
      (refl, n1<4, (refl, refl), (n0≤2, refl), may_ask begun_check 0 check_held refl refl unwritten, refl),
      (
        record {},
        (refl, n2<4, (refl, refl), (n0≤2, refl), may_ask own_asked 1 check_held refl refl own_unwritten, refl),
        (
          record {},
          (refl, n3<4, (refl, refl), (n0≤2, refl), may_ask other_asked 2 check_held refl refl other_unwritten, refl),
          (record {}, (refl, n0<4, (refl, refl), (n0≤2, refl), may_ask p_asked 3 check_held refl refl p_unwritten, refl), begins),
        ),
      ),
    ),
  ),
  held_rests all_reads_out all_asked refl refl 0 (fetch 1 0) refl refl refl none_wait (none_built (Synced 0) (λ x. x)),
)

-- ---- the row is read

abbrev after_q : (b other : Block) → Shard
after_q b other = after small (handed_out all_reads_out 3 (fetch 0 0)) (Learn 3 (fetched 0 0) all_asked (q b other))

reads_q : (b other : Block) → three_reads_out b other ≡ after_q b other
reads_q b other = λ i. record (three_reads_out b other) {
  frame = λ f. entry_is (after_q b other).frame 0 (Some (q_known b other)) refl (λ at ne. rw (ne_eqb at 0 ne) refl) f i;
  command = λ t. sym (put-gone data_and_p_out 3 (Some (fetch 0 0)) (Some (fetched 0 0)) refl t) i;
}

learns_q : (b other : Block) → Step small 0 (handed_out all_reads_out 3 (fetch 0 0)) (Deliver 3 (Good (q b other)) Taken) (three_reads_out b other)
learns_q b other = (
  Learn 3 (fetched 0 0) all_asked (q b other),
  (refl, refl, refl),
  (refl, refl, refl, refl),
  three_reads_out b other,
  (_, ([], refl), ([], reads_q b other)),
  ([], refl),
  held_rests (three_reads_out b other) (q_known b other) refl refl 0 (fetch 1 0) refl refl refl none_wait (none_built (Synced 0) (λ x. x)),
)

abbrev after_p : (b other : Block) → Shard
after_p b other = after small (handed_out (three_reads_out b other) 2 (fetch 3 0)) (Learn 2 (fetched 3 0) (q_known b other) (p b other))

reads_p : (b other : Block) → two_reads_out b other ≡ after_p b other
reads_p b other = λ i. record (two_reads_out b other) {
  frame = λ f. entry_is (after_p b other).frame 0 (Some (p_known b other)) refl (λ at ne. rw (ne_eqb at 0 ne) refl) f i;
  command = λ t. sym (put-gone data_out 2 (Some (fetch 3 0)) (Some (fetched 3 0)) refl t) i;
}

learns_p : (b other : Block) → Step small 0 (handed_out (three_reads_out b other) 2 (fetch 3 0)) (Deliver 2 (Good (p b other)) Taken) (two_reads_out b other)
learns_p b other = (
  Learn 2 (fetched 3 0) (q_known b other) (p b other),
  (refl, refl, refl),
  (refl, refl, refl, refl),
  two_reads_out b other,
  (_, ([], refl), ([], reads_p b other)),
  ([], refl),
  held_rests (two_reads_out b other) (p_known b other) refl refl 0 (fetch 1 0) refl refl refl none_wait (none_built (Synced 0) (λ x. x)),
)

abbrev after_other : (b other : Block) → Shard
after_other b other = after small (handed_out (two_reads_out b other) 1 (fetch 2 0)) (Learn 1 (fetched 2 0) (p_known b other) other)

reads_other : (b other : Block) → one_read_out b other ≡ after_other b other
reads_other b other = λ i. record (one_read_out b other) {
  frame = λ f. entry_is (after_other b other).frame 0 (Some (other_known b other)) refl (λ at ne. rw (ne_eqb at 0 ne) refl) f i;
  command = λ t. sym (put-gone own_out 1 (Some (fetch 2 0)) (Some (fetched 2 0)) refl t) i;
}

learns_other : (b other : Block) → Step small 0 (handed_out (two_reads_out b other) 1 (fetch 2 0)) (Deliver 1 (Good other) Taken) (one_read_out b other)
learns_other b other = (
  Learn 1 (fetched 2 0) (p_known b other) other,
  (refl, refl, refl),
  (refl, refl, refl, refl),
  one_read_out b other,
  (_, ([], refl), ([], reads_other b other)),
  ([], refl),
  held_rests (one_read_out b other) (other_known b other) refl refl 0 (fetch 1 0) refl refl refl none_wait (none_built (Synced 0) (λ x. x)),
)

-- ---- it is classified

known_of : (b other : Block) (at : ℕ) → at < 4 → (cell_at (all_known b other).course.cells at).reading ≡ Known (block_at (full b other) at)
known_of b other zero below = refl
known_of b other (suc zero) below = refl
known_of b other (suc (suc zero)) below = refl
known_of b other (suc (suc (suc zero))) below = refl
known_of b other (suc (suc (suc (suc at)))) below = absurd (omega (arith, below))

pub is_read : (b other : Block) → IsBlock 16 b → IsBlock 16 other → IsClassRead (all_known b other).course Consistent
is_read b other sized other-sized = (full b other, refl, known_of b other, consistent b other sized other-sized)

pub may_end : (b other : Block) → MayEnd (classed b other).course Read_all
may_end b other = record {
  quiet =
      each IsQuiet (classed b other) ((λ in'. (record {}, unwritten_not_sent)), λ there. unwritten_not_sent) ((λ in'. (record {}, unwritten_not_sent)), λ there. unwritten_not_sent)
      ((λ in'. (record {}, unwritten_not_sent)), λ there. unwritten_not_sent) ((λ in'. (record {}, unwritten_not_sent)), λ there. unwritten_not_sent) ((λ in'. (record {}, unwritten_not_sent)), λ there. unwritten_not_sent);
  mended = inr (each (λ c. (c.standing ≡ Rattle.r6_stripe.specs.Holds.Standing.Out → ⊥) → c.reading ≡ Rattle.r6_stripe.specs.Holds.Reading.Unreadable → ⊥) (classed b other) (λ in' e. cc) (λ in' e. cc) (λ in' e. cc) (λ in' e. cc) (λ in' e. cc));
  owes_nothing = (refl, refl);
}

classifies : (b other : Block) → IsBlock 16 b → IsBlock 16 other → Step small 0 (handed_out (one_read_out b other) 0 (fetch 1 0)) (Deliver 0 (Good b) Taken) (after_own b other)
classifies b other sized other-sized = (
  Learn 0 (fetched 1 0) (other_known b other) b,
  (refl, refl, refl),
  (refl, refl, refl, refl),
  after_own b other,
  (
    _,
    ([], refl),
    (
      Classify 0 (all_known b other) Consistent ∷ Finish 0 (classed b other) (Classed Consistent) ∷ [],
      (
        record {},
        (refl, (n0≤2, refl), record {}, refl, is_read b other sized other-sized),
        (record {}, (refl, may_end b other, (n0≤2, refl), refl), refl),
      ),
    ),
  ),
  ([], refl),
  free_rests (after_own b other) (λ f. sym (none_is (after_own b other).frame 0 refl (λ at ne. rw (ne_eqb at 0 ne) refl) f)) none_wait (none_built (Synced 0) (λ x. x)),
)

-- ---- all together

abbrev when_reading_all : Array → View
when_reading_all array = record (when_made array) { shard = all_reads_out; settled = false }

abbrev when_reading_three : Array → View
when_reading_three array = record (when_made array) { shard = three_reads_out (array 0) (array 1); used = 3 ∷ []; settled = false }

abbrev when_reading_two : Array → View
when_reading_two array = record (when_made array) { shard = two_reads_out (array 0) (array 1); used = 2 ∷ 3 ∷ []; settled = false }

abbrev pub when_reading_one : Array → View
when_reading_one array = record (when_made array) { shard = one_read_out (array 0) (array 1); used = 1 ∷ 2 ∷ 3 ∷ []; settled = false }

abbrev pub when_checked : Array → View
when_checked array = record (when_made array) { shard = after_own (array 0) (array 1); used = 0 ∷ 1 ∷ 2 ∷ 3 ∷ []; settled = false }

-- all but block 0 is read
pub reads_three : (array : Array) (w : World) → Stands w (when_made array) → Reaches small w (λ later. Stands later (when_reading_one array))
reads_three array w at =
    leads w (when_reading_all array) (λ later. Stands later (when_reading_one array)) (core w (when_made array) at (Turn_started Check) all_reads_out n0≤2 (record {}) (record {}) turns)
    (λ x1 at1. leads x1 (when_reading_three array) (λ later. Stands later (when_reading_one array)) (reads x1 (when_reading_all array) at1 3 0 0 (three_reads_out (array 0) (array 1)) refl refl n0≤2 (learns_q (array 0) (array 1)))
    (λ x2 at2. leads x2 (when_reading_two array) (λ later. Stands later (when_reading_one array)) (reads x2 (when_reading_three array) at2 2 3 0 (two_reads_out (array 0) (array 1)) refl refl n0≤2 (learns_p (array 0) (array 1)))
    (λ x3 at3. reads x3 (when_reading_two array) at3 1 2 0 (one_read_out (array 0) (array 1)) refl refl n0≤2 (learns_other (array 0) (array 1)))))

pub checks : (array : Array) → IsBlock 16 (array 0) → IsBlock 16 (array 1) → (w : World) → Stands w (when_made array) → Reaches small w (λ later. Stands later (when_checked array))
checks array sized other-sized w at =
    leads w (when_reading_one array) (λ later. Stands later (when_checked array)) (reads_three array w at)
    (λ x4 at4. reads x4 (when_reading_one array) at4 0 1 0 (after_own (array 0) (array 1)) refl refl n0≤2 (classifies (array 0) (array 1) sized other-sized))
