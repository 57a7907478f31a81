-- Each event has its reply.
use Rattle.std.proofs.Common.{◌≡◌, ◌≢◌, ◌∙◌, ℕ, ◌+◌, ◌-◌, ◌<◌, ◌≤◌, ◌==◌, ◌^◌, ◌⊎◌, nat_lt, List, [], ◌∷◌, All, count_by, length, map, zero, suc, cond, true, false, inl, inr, refl, sym, ap, subst, arith, Some, None, slice_get, sum_by, if◌then◌else◌, Result}
use Rattle.std.specs.List.{AllZip}
use Rattle.std.proofs.Math.Nat.{min-eq_left}
use Rattle.std.proofs.lemmas.Bool.{cases_eq, cases_lt}
use Rattle.std.proofs.lemmas.Bool.Decides.{nat_tests}
use Rattle.std.proofs.lemmas.List.Sums.{sum_by-cons}
use Rattle.std.proofs.lemmas.Option.{none-some, get_or_from_slice_get}
use Rattle.r6_layout.specs.Shape.{Shape, IsShape, blocks}
use Rattle.r6_layout.specs.Layout.{first_row, row_of}
use Rattle.r6_layout.proofs.Places.{row_of-lt}
use Rattle.r6_layout.proofs.Shards.{first_row_grows, first_row_last, first_row_zero, shard_of-lt}
use Rattle.r6_world.specs.ShardStates.{limit}
use Rattle.r6_world.specs.declared.values.Op.{Op}
use Rattle.r6_world.specs.Values.{buffer_back, buffer_of, op_of}
use Rattle.r6_core.specs.Shards.{CoreView}
use Rattle.r6_core.specs.declared.refusal.Refusal.{Refusal}
use Rattle.r6_health.specs.declared.refusal.Refusal.{Refusal as RegisterRefusal}
use Rattle.r6_core.specs.declared.refusal.Refusal.TheVariants.{NoSuchBlock, WrongLength, ArrayFailed, Exhausted}
use Rattle.r6_engine.specs.lists.Events.{Event, Request, Bring, Fail, Check, Repair, Wait, Serves, duty_of, is_block_of}
use Rattle.r6_engine.specs.declared.lists.bringing.Bringing.{Bringing}
use Rattle.r6_engine.specs.declared.lists.bringing.Bringing.TheVariants as bringing
use Rattle.r6_shard.specs.declared.ledger.Asked.{Asked}
use Rattle.r6_shard.specs.declared.ledger.Entry.{Entry}
use Rattle.r6_shard.specs.declared.performs.Performs.{Ghosts}
use Rattle.r6_engine.specs.declared.feed.answer.EventAnswer.{EventAnswer}
use Rattle.r6_engine.specs.declared.feed.answer.AnsweredHere as told
use Rattle.r6_engine.specs.declared.feed.answer.AnsweredHere.TheVariants.{OutOfRange, Failed, Brought}
use Rattle.r6_engine.specs.feed.Feeds.{asked_before, asked_in, asking_in, asking_of}
use Rattle.r6_engine.specs.feed.Feeds as feeds
use Rattle.r6_dev.specs.History.{Telling}
use Rattle.r6_shard.specs.Replying.{is_for, is_write, writes_at}
use Rattle.r6_engine.specs.declared.runner.scrub.ScrubDone.{ScrubDone}
use Rattle.r6_engine.specs.declared.runner.runner.Runner.{Runner}
use Rattle.r6_engine.specs.runner.Counted.{AreClassed, rows_of_shard}
use Rattle.r6_engine.specs.declared.found.Found.{Found}
use Rattle.r6_engine.specs.declared.ledger.Ledger.{Ledger}
use Rattle.r6_engine.specs.declared.ledger.LedgerEntry.{LedgerEntry}
use Rattle.r6_engine.specs.declared.reply.EventReply.{EventReply}
use Rattle.r6_engine.specs.declared.reply.EventReply.TheVariants.{Waited, Counted}
use Rattle.r6_engine.specs.declared.reply.EventReply.TheVariants as reply
use Rattle.r6_engine.specs.Answered.{AreReplies, IsReason, IsReplyTo, Says, block_in, entries_for, shard_with}
use Rattle.r6_engine.specs.Found.{found_by, found_in, rows_of, sum_of}
use Rattle.r6_engine.specs.Ledgers.{IsLedgerOf}
use Rattle.r6_engine.specs.Refusals as refusals
use Rattle.r6_engine.specs.Refusals.{HadReason, HadReasons, WasRight, WereRight}
use Rattle.r6_engine.specs.Replies.{known_with, ledger_entries, ledger_entry, replies_of, reply_of_answer, reply_of_device, said_by, said_by_all, said_of_entry}
use Rattle.r6_engine.proofs.EachShard.{all_at, mapped-there, partner_at, some_same}
use Rattle.r6_engine.proofs.Known.{is_of, known, known-both, times, times-cons}
use Rattle.r6_engine.proofs.Answered.{IsEntry, IsRefusal, at, counted-at, no-block, nobody-answers, often, one-pass, other-block, request-known, silent, table-long, thread-answers}
use Rattle.r6_engine.proofs.Rows.{between}
use Rattle.r6_engine.proofs.Says.{HasSaid, asks_of, scrubs_of}

-- ---- what checks and repairs found

-- counts that fit add up
pub fits : (one other : ℕ) → one + other < 2 ^ 64 → sum_of one other ≡ one + other
fits one other small = min-eq_left (omega (arith, small))

found-both : (one other : Found) → rows_of one + rows_of other < 2 ^ 64 → rows_of (found_by one other) ≡ rows_of one + rows_of other
found-both one other small =
    let a = fits one.consistent other.consistent (omega (arith, small)) in
    let b = fits one.wrong_p other.wrong_p (omega (arith, small)) in
    let c = fits one.wrong_q other.wrong_q (omega (arith, small)) in
    let d = fits one.wrong_data other.wrong_data (omega (arith, small)) in
    let e = fits one.many other.many (omega (arith, small)) in
    let f = fits one.skipped other.skipped (omega (arith, small)) in
    omega (arith, a, b, c, d, e, f)

-- the rows of the shard that this one is
abbrev own_rows : {P D : Type 0} {g : Ghosts P} → Shape → Runner P D g → ℕ
own_rows shape r = rows_of_shard shape r.shard.core.shard

-- ---- the ledgers

pub there-at : {A : Type 0} (xs : List A) (k : ℕ) → k < length xs → (x : A) × (slice_get xs k ≡ Some x)
there-at [] k below = absurd (omega (arith, below))
there-at (x ∷ xs) zero below = (x, refl)
there-at (x ∷ xs) (suc k) below = there-at xs k (omega (arith, below))

pub other-partner : {A B : Type 0} (R : A → B → Type 0) (xs : List A) (ys : List B) (k : ℕ) (x : A) → AllZip R xs ys
    → slice_get xs k ≡ Some x → (y : B) × (slice_get ys k ≡ Some y) × R x y
other-partner R [] [] k x all at = absurd (none-some x at)
other-partner R [] (z ∷ ys) k x all at = absurd all
other-partner R (z ∷ xs) [] k x all at = absurd all
other-partner R (z ∷ xs) (y ∷ ys) zero x all at = (y, refl, subst (λ w. R w y) (some_same z x at) all.0)
other-partner R (z ∷ xs) (y ∷ ys) (suc k) x all at = other-partner R xs ys k x all.1 at

entries-times : (event : ℕ) (entries : List Entry)
    → count_by (λ (e : LedgerEntry). e.event == event) (ledger_entries entries) ≡ times event (map said_of_entry entries)
entries-times event [] = refl
entries-times event (e ∷ entries) =
    sum_by-cons (λ (y : LedgerEntry). cond (y.event == event) 1 0) (ledger_entry e) (ledger_entries entries)
    ∙ ap (λ n. is_of event e.event + n) (entries-times event entries)
    ∙ sym (times-cons event (said_of_entry e) (map said_of_entry entries))

entries-same : {P D : Type 0} {g : Ghosts P} (event : ℕ) (r : Runner P D g) (ledger : Ledger) → IsLedgerOf r ledger
    → entries_for event ledger ≡ times event (map said_of_entry r.shard.entries.items)
entries-same event r ledger is =
    ap (λ (es : List LedgerEntry). count_by (λ (e : LedgerEntry). e.event == event) es) is.entries
    ∙ entries-times event r.shard.entries.items

-- an entry is of one of the requests
abbrev pub HasAsked : List Asked → Entry → Type 0
HasAsked asked e = (a : Asked) × (slice_get asked e.id.0 ≡ Some a) × (a.event ≡ e.event)

abbrev pub IsLinked : List Asked → List Entry → Type 0
IsLinked asked entries = All (HasAsked asked) entries

request_same : (one other : Op) → Request one ≡ Request other → one ≡ other
request_same one other is = ap (λ (e : Event). op-of one e) is
  where
    op-of : Op → Event → Op
    op-of d (Request o) = o
    op-of d (Bring how slot part) = d
    op-of d (Fail slot) = d
    op-of d Check = d
    op-of d Repair = d
    op-of d Wait = d

-- what the calling thread answered
is-out : (outcome : told.AnsweredHere) → asking_in outcome ≡ feeds.NoBlock → reply_of_answer outcome ≡ reply.Refused NoSuchBlock
is-out OutOfRange e = refl
is-out (Failed slot answer) e = cc
is-out (Brought how slot answer) e = cc

is-fail : (outcome : told.AnsweredHere) (slot : ℕ) → asking_in outcome ≡ feeds.Fails slot
    → (answer : _) × (reply_of_answer outcome ≡ reply.Failed answer)
is-fail OutOfRange slot e = cc
is-fail (Failed other answer) slot e = (answer, refl)
is-fail (Brought how other answer) slot e = cc

is-new : (outcome : told.AnsweredHere) (how : Bringing) (slot : ℕ) → asking_in outcome ≡ feeds.Brings how slot
    → (answer : _) × (reply_of_answer outcome ≡ reply_of_device how answer)
is-new OutOfRange how slot e = cc
is-new (Failed other answer) how slot e = cc
is-new (Brought other at answer) how slot e =
    let same : other ≡ how = cc in (answer, ap (λ (h : Bringing). reply_of_device h answer) same)

-- which is a reply to it
new-replied : (shape : Shape) (ledgers : List Ledger) (event : ℕ) (how : Bringing) (slot : ℕ) (part : ℕ → Telling)
    (answer : Result ℕ RegisterRefusal) → IsReplyTo shape ledgers event (Bring how slot part) (reply_of_device how answer)
new-replied shape ledgers event bringing.Attach slot part answer = tt
new-replied shape ledgers event bringing.Replace slot part answer = tt

-- what all shards found
pub record PassedOnce {P D : Type 0} {g : Ghosts P} (shape : Shape) (event : ℕ) (r : Runner P D g) : Type 0 where
  pub passed : ScrubDone
  pub adds : (answer : EventReply) → known event answer (said_by r) ≡ known_with answer (Counted (found_in passed))
  pub whole : rows_of (found_in passed) ≡ own_rows shape r

all-counted : {P D : Type 0} {g : Ghosts P} (shape : Shape) (event : ℕ) (acc : Found) (rs : List (Runner P D g))
    → ((k : ℕ) (r : Runner P D g) → slice_get rs k ≡ Some r → PassedOnce shape event r) → rows_of acc + sum_by (own_rows shape) rs < 2 ^ 64
    → (f : Found) × (known event (Counted acc) (said_by_all rs) ≡ Counted f) × (rows_of f ≡ rows_of acc + sum_by (own_rows shape) rs)
all-counted shape event acc [] each small = (acc, refl, omega arith)
all-counted shape event acc (r ∷ rs) each small =
    let one = each 0 r refl in
    let f = found_in one.passed in
    let sum = sum_by-cons (own_rows shape) r rs in
    let its = one.whole in
    let both = found-both acc f (omega (arith, its, sum, small)) in
    let rest = all-counted shape event (found_by acc f) rs (λ k other there. each (suc k) other there) (omega (arith, both, its, sum, small)) in
    let total = rest.2 in (
      rest.0,
      known-both event (Counted acc) (said_by r) (said_by_all rs)
          ∙ ap (λ y. known event y (said_by_all rs)) (one.adds (Counted acc)) ∙ rest.1,
      omega (arith, total, both, its, sum),
    )

first-counted : {P D : Type 0} {g : Ghosts P} (shape : Shape) (event : ℕ) (rs : List (Runner P D g)) → 0 < length rs
    → ((k : ℕ) (r : Runner P D g) → slice_get rs k ≡ Some r → PassedOnce shape event r) → sum_by (own_rows shape) rs < 2 ^ 64
    → (f : Found) × (known event Waited (said_by_all rs) ≡ Counted f) × (rows_of f ≡ sum_by (own_rows shape) rs)
first-counted shape event [] some each small = absurd (omega (arith, some))
first-counted shape event (r ∷ rs) some each small =
    let one = each 0 r refl in
    let f = found_in one.passed in
    let sum = sum_by-cons (own_rows shape) r rs in
    let its = one.whole in
    let rest = all-counted shape event f rs (λ k other there. each (suc k) other there) (omega (arith, its, sum, small)) in
    let total = rest.2 in (
      rest.0,
      known-both event Waited (said_by r) (said_by_all rs)
          ∙ ap (λ y. known event y (said_by_all rs)) (one.adds Waited) ∙ rest.1,
      omega (arith, total, its, sum),
    )

-- what the reply of an entry is for, and with how much
abbrev HasKind : CoreView → List Asked → Entry → Type 0
HasKind core asked e = (is_for (writes_at asked e.id.0) e.reply ≡ true) × (length (buffer_back e.reply) ≡ core.shape.block)

-- ---- each event

module _ {P D : Type 0} {g : Ghosts P} (shape : Shape) (lawful : IsShape shape) (events : List Event) (runners : List (Runner P D g))
    (answers : List EventAnswer) (ledgers : List Ledger)
    (said : (shard : ℕ) (r : Runner P D g) → slice_get runners shard ≡ Some r → HasSaid shape shard events r)
    (asked : map asked_in answers ≡ asked_before shape events (length events))
    (many : length runners ≡ shape.shards) (tied : AllZip IsLedgerOf runners ledgers)
    (reasons : (shard : ℕ) (r : Runner P D g) → slice_get runners shard ≡ Some r → HadReasons shape.block events r.shard.core r.refused.items)
    (right : (shard : ℕ) (r : Runner P D g) → slice_get runners shard ≡ Some r → WereRight shape.block events r.shard.asked.items)
    (linked : (shard : ℕ) (r : Runner P D g) → slice_get runners shard ≡ Some r → IsLinked r.shard.asked.items r.shard.entries.items)
    (place : (shard : ℕ) (r : Runner P D g) → slice_get runners shard ≡ Some r → r.shard.core.shard ≡ shard)
    (shaped : (shard : ℕ) (r : Runner P D g) → slice_get runners shard ≡ Some r → r.shard.core.shape ≡ shape)
    (classed : (shard : ℕ) (r : Runner P D g) → slice_get runners shard ≡ Some r → AreClassed (rows_of_shard shape shard) r.scrubs_done.items)
  where
    own-runner : (block : ℕ) → block < blocks shape → (r : Runner P D g) × (slice_get runners (shard_with shape block) ≡ Some r)
    own-runner block below =
        let shard = shard_of-lt shape (row_of shape block) lawful (row_of-lt shape block lawful below) in
        there-at runners (shard_with shape block) (omega (arith, shard, many))

    own-ledger : (k : ℕ) (ledger : Ledger) → slice_get ledgers k ≡ Some ledger
        → (r : Runner P D g) × (slice_get runners k ≡ Some r) × IsLedgerOf r ledger
    own-ledger k ledger there = partner_at IsLedgerOf runners ledgers k ledger tied there

    -- a shard that has no request of an event has no entry of it
    no-entries : (event : ℕ) (ev : Event) → slice_get events event ≡ Some ev → (k : ℕ) (ledger : Ledger) → slice_get ledgers k ≡ Some ledger
        → asks_of (duty_of shape k ev) ≡ 0 → entries_for event ledger ≡ 0
    no-entries event ev is k ledger there none =
        let own = own-ledger k ledger there in
        let sum = (often shape events runners answers said asked event k own.0 ev is own.1).requests in
        let same = entries-same event own.0 ledger own.2 in
        omega (arith, sum, same, none)

    -- ---- requests

    other-asks : (k : ℕ) (o : Op) → k ≢ shard_with shape (block_in o) → asks_of (duty_of shape k (Request o)) ≡ 0
    other-asks k o ne = ap (λ b. asks_of (if b then Some (Serves o) else None)) (other-block shape k (block_in o) ne)

    says-own : (o : Op) (Q : Ledger → Type 0) (r : Runner P D g) → slice_get runners (shard_with shape (block_in o)) ≡ Some r
        → ((ledger : Ledger) → IsLedgerOf r ledger → Q ledger) → Says shape ledgers o Q
    says-own o Q r there follows =
        let own = other-partner IsLedgerOf runners ledgers (shard_with shape (block_in o)) r tied there in
        (own.0, own.1, follows own.0 own.2)

    reason : (o : Op) (refusal : Refusal) (r : Runner P D g) → block_in o < blocks shape
        → slice_get runners (shard_with shape (block_in o)) ≡ Some r → refusals.IsReason shape.block r.shard.core o refusal
        → IsReason shape ledgers o refusal
    reason o WrongLength r below there x = (below, x)
    reason o ArrayFailed r below there x =
        ((below, x.0), says-own o (λ ledger. ledger.saw_failed ≡ true) r there (λ ledger is. is.saw_failed ∙ x.1))
    reason o Exhausted r below there x = (
      (below, x.0),
      says-own o (λ ledger. (limit ≤ ledger.tokens) ⊎ (limit ≤ length ledger.requests.items)) r there (λ ledger is. elim x.1 [
        | inl tokens ↦ inl (subst (λ n. limit ≤ n) (sym is.tokens) tokens)
        | inr accepted ↦ inr (subst (λ n. limit ≤ n) (r.shard.kept.2.0 ∙ sym (ap length is.requests)) accepted)
      ]),
    )
    reason o refusal r below there x = absurd x

    same-op : (event : ℕ) (o other : Op) → slice_get events event ≡ Some (Request o) → slice_get events event ≡ Some (Request other) → other ≡ o
    same-op event o other is is' = request_same other o (some_same (Request other) (Request o) (sym is' ∙ is))

    refused : (event : ℕ) (o : Op) → slice_get events event ≡ Some (Request o) → block_in o < blocks shape → (r : Runner P D g)
        → slice_get runners (shard_with shape (block_in o)) ≡ Some r → (answer : EventReply) → IsRefusal event r answer
        → IsReplyTo shape ledgers event (Request o) answer
    refused event o is below r there answer x =
        let had = all_at (HadReason shape.block events r.shard.core) r.refused.items x.k x.refused (reasons (shard_with shape (block_in o)) r there) x.stands in
        let at : slice_get events event ≡ Some (Request had.0) = ap (slice_get events) (sym x.event_is) ∙ had.1 in
        let mine = subst (λ y. refusals.IsReason shape.block r.shard.core y x.refused.1) (same-op event o had.0 is at) had.2 in
        subst (IsReplyTo shape ledgers event (Request o)) (sym x.reply) (
          reason o x.refused.1 r below there mine,
          λ k ledger stands. elim (cases_eq k (shard_with shape (block_in o))) [
            | inl same ↦
                let own = own-ledger k ledger stands in
                let is-r : own.0 ≡ r = some_same own.0 r (sym own.1 ∙ ap (slice_get runners) same ∙ there) in
                entries-same event own.0 ledger own.2 ∙ ap (λ (y : Runner P D g). times event (map said_of_entry y.shard.entries.items)) is-r ∙ x.none
            | inr ne ↦ no-entries event (Request o) is k ledger stands (other-asks k o ne)
          ],
        )

    answered : (event : ℕ) (o : Op) → slice_get events event ≡ Some (Request o) → block_in o < blocks shape → (r : Runner P D g)
        → slice_get runners (shard_with shape (block_in o)) ≡ Some r → (answer : EventReply) → IsEntry event r answer
        → IsReplyTo shape ledgers event (Request o) answer
    answered event o is below r there answer x =
        let asked-it = all_at (HasAsked r.shard.asked.items) r.shard.entries.items x.k x.entry (linked (shard_with shape (block_in o)) r there) x.stands in
        let was = all_at (WasRight shape.block events) r.shard.asked.items x.entry.id.0 asked-it.0 (right (shard_with shape (block_in o)) r there) asked-it.1 in
        let at : slice_get events event ≡ Some (Request was.0) = ap (slice_get events) (sym x.event_is ∙ sym asked-it.2) ∙ was.1 in
        let same = same-op event o was.0 is at in
        let long = subst (λ y. length (buffer_of y) ≡ shape.block) same was.2 in
        let writes : writes_at r.shard.asked.items x.entry.id.0 ≡ is_write (op_of o) =
        mapped-there (λ (a : Asked). a.writes) r.shard.asked.items x.entry.id.0 false asked-it.0 asked-it.1 ∙ was.3
        ∙ ap (λ (y : Op). is_write (op_of y)) same in
        let kind = all_at (HasKind r.shard.core r.shard.asked.items) r.shard.entries.items x.k x.entry r.shard.kinds.replied x.stands in
        subst (IsReplyTo shape ledgers event (Request o)) (sym x.reply) (
          (below, long),
          (let own = other-partner IsLedgerOf runners ledgers (shard_with shape (block_in o)) r tied there in record {
            ledger = own.0;
            own = own.1;
            one = entries-same event r own.0 own.2 ∙ x.one;
            others = λ k other ne stands. no-entries event (Request o) is k other stands (other-asks k o ne);
          }),
          (
            ap (λ b. is_for b x.entry.reply) (sym writes) ∙ kind.0,
            kind.1 ∙ ap (λ (s : Shape). s.block) (shaped (shard_with shape (block_in o)) r there),
          ),
        )

    pub request-replies : (event : ℕ) (o : Op) → slice_get events event ≡ Some (Request o)
        → IsReplyTo shape ledgers event (Request o) (at shape events runners answers said asked event)
    request-replies event o is = elim (cases_lt (block_in o) (blocks shape)) [
      | inl below ↦
          let own = own-runner (block_in o) below in
          elim (request-known shape events runners answers said asked event o is below own.0 own.1) [
            | inl x ↦ refused event o is below own.0 own.1 (at shape events runners answers said asked event) x
            | inr x ↦ answered event o is below own.0 own.1 (at shape events runners answers said asked event) x
          ]
      | inr past ↦
          let no : (k : ℕ) → is_block_of shape k (block_in o) ≡ false = λ k. no-block shape k (block_in o) past in
          let quiet = silent shape events runners answers said asked event (Request o) is
          (λ k. ap (λ b. asks_of (if b then Some (Serves o) else None) + scrubs_of (if b then Some (Serves o) else None)) (no k)) in
          let out : nat_lt (block_in o) (blocks shape) ≡ false = grind (arith, nat_tests) in
          let asks = ap (λ b. if b then None else Some feeds.NoBlock) out in
          let told = thread-answers shape events runners answers said asked event (Request o) feeds.NoBlock is asks quiet in
          subst (IsReplyTo shape ledgers event (Request o)) (sym (told.1 ∙ is-out told.0.outcome told.2)) (
            past,
            λ k ledger stands. no-entries event (Request o) is k ledger stands (ap (λ b. asks_of (if b then Some (Serves o) else None)) (no k)),
          )
    ]

    pub fail-replies : (event slot : ℕ) → slice_get events event ≡ Some (Fail slot)
        → IsReplyTo shape ledgers event (Fail slot) (at shape events runners answers said asked event)
    fail-replies event slot is =
        let quiet = silent shape events runners answers said asked event (Fail slot) is (λ k. refl) in
        let told = thread-answers shape events runners answers said asked event (Fail slot) (feeds.Fails slot) is refl quiet in
        let what = is-fail told.0.outcome slot told.2 in
        subst (IsReplyTo shape ledgers event (Fail slot)) (sym (told.1 ∙ what.1)) tt

    pub new-replies : (event : ℕ) (how : Bringing) (slot : ℕ) (part : ℕ → Telling)
        → slice_get events event ≡ Some (Bring how slot part)
        → IsReplyTo shape ledgers event (Bring how slot part) (at shape events runners answers said asked event)
    new-replies event how slot part is =
        let quiet = silent shape events runners answers said asked event (Bring how slot part) is (λ k. refl) in
        let told = thread-answers shape events runners answers said asked event (Bring how slot part) (feeds.Brings how slot) is refl quiet in
        let what = is-new told.0.outcome how slot told.2 in
        subst (IsReplyTo shape ledgers event (Bring how slot part)) (sym (told.1 ∙ what.1))
        (new-replied shape ledgers event how slot part what.0)

    pub wait-replies : (event : ℕ) → slice_get events event ≡ Some Wait
        → IsReplyTo shape ledgers event Wait (at shape events runners answers said asked event)
    wait-replies event is =
        let quiet = silent shape events runners answers said asked event Wait is (λ k. refl) in
        subst (IsReplyTo shape ledgers event Wait) (sym (nobody-answers shape events runners answers said asked event Wait is refl quiet)) tt

    all-rows : sum_by (own_rows {D = D} shape) runners ≡ shape.rows
    all-rows =
        let mark : ℕ → ℕ = first_row shape in
        let step : ℕ → ℕ = λ n. mark (n + 1) - mark n in
        let sum = (between (own_rows {D = D} shape) mark 0 runners
        (λ k. first_row_grows shape k (k + 1) lawful (omega arith))
        (λ k r there. let here : k ≡ 0 + k = omega arith in ap (rows_of_shard shape) (place k r there) ∙ ap step here)).0 in
        let first : mark 0 ≡ 0 = first_row_zero shape in
        let count : 0 + length runners ≡ shape.shards = omega (arith, many) in
        let last : mark (0 + length runners) ≡ shape.rows = ap mark count ∙ first_row_last shape lawful in
        omega (arith, first, last, sum)

    passes-replies : (event : ℕ) (ev : Event) → slice_get events event ≡ Some ev → asking_of shape ev ≡ None
        → ((k : ℕ) → (asks_of (duty_of shape k ev) ≡ 0) × (scrubs_of (duty_of shape k ev) ≡ 1))
        → (f : Found) × (at shape events runners answers said asked event ≡ Counted f) × (rows_of f ≡ shape.rows)
    passes-replies event ev is asks duties =
        let some = lawful.shards_allowed.0 in
        let found = first-counted shape event runners (omega (arith, many, some))
        (λ k r there.
        let one = one-pass shape events runners answers said asked event k r ev is there (duties k).0 (duties k).1 in
        record {
          passed = one.passed;
          adds = one.adds;
          whole =
              all_at (λ p. rows_of (found_in p) ≡ rows_of_shard shape k) r.scrubs_done.items one.k one.passed (classed k r there) one.stands
              ∙ ap (rows_of_shard shape) (sym (place k r there));
        })
        (let fit = lawful.rows_allowed.1 in omega (arith, all-rows, fit)) in
        (found.0, counted-at shape events runners answers said asked event ev is asks ∙ found.1, found.2 ∙ all-rows)

    pub check-replies : (event : ℕ) → slice_get events event ≡ Some Check
        → IsReplyTo shape ledgers event Check (at shape events runners answers said asked event)
    check-replies event is =
        let found = passes-replies event Check is refl (λ k. (refl, refl)) in
        subst (IsReplyTo shape ledgers event Check) (sym found.1) found.2

    pub repair-replies : (event : ℕ) → slice_get events event ≡ Some Repair
        → IsReplyTo shape ledgers event Repair (at shape events runners answers said asked event)
    repair-replies event is =
        let found = passes-replies event Repair is refl (λ k. (refl, refl)) in
        subst (IsReplyTo shape ledgers event Repair) (sym found.1) found.2

    by-event : (event : ℕ) (ev : Event) → slice_get events event ≡ Some ev
        → IsReplyTo shape ledgers event ev (at shape events runners answers said asked event)
    by-event event (Request o) is = request-replies event o is
    by-event event (Bring how slot part) is = new-replies event how slot part is
    by-event event (Fail slot) is = fail-replies event slot is
    by-event event Check is = check-replies event is
    by-event event Repair is = repair-replies event is
    by-event event Wait is = wait-replies event is

    -- Each event has its reply
    pub are-replies : AreReplies shape events ledgers (replies_of (length events) runners answers)
    are-replies = record {
      as_many = table-long shape events runners answers said asked;
      each = λ event ev answer is stands.
          subst (IsReplyTo shape ledgers event ev)
          (get_or_from_slice_get (replies_of (length events) runners answers) event answer Waited stands)
          (by-event event ev is);
    }
