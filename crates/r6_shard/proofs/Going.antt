-- The thread's lists and its course go on together.
use Rattle.std.proofs.Common.{◌≡◌, ℕ, ◌+◌, ◌<◌, ◌≤◌, inl, inr, Bool, true, false, List, [], ◌∷◌, ◌++◌, length, map, get_or, get_or-set_other, refl, sym, ap, subst, ◌∙◌, arith, append_assoc, append-nil, Option, Some, None, Result, Ok, Err, IfOk, IfErr}
use Rattle.std.specs.Prelude.{MatchResult, slice_index_or, slice_set, is_err}
use Rattle.std.proofs.lemmas.Bool.{cases_eq, false≢true, true≢false}
use Rattle.std.proofs.lemmas.List.{length-map, map-append, get_or-map, get_or_append_left, length-append}
use Rattle.std.proofs.lemmas.List.Elements.{All-push}
use Rattle.r6_dev.specs.History.{Telling}
use Rattle.r6_health.specs.declared.history.View.{View}
use Rattle.r6_health.specs.Histories.{held}
use Rattle.r6_health.specs.Views.{Looks, Answered}
use Rattle.r6_world.specs.PlainArray as world
use Rattle.r6_world.specs.PlainArray.{block_of}
use Rattle.r6_world.specs.Registers.{Told as Answer}
use Rattle.r6_world.specs.Steps as steps
use Rattle.r6_world.specs.Steps.{Event, Submit, Submit_all, Deliver, Take_command, Take_call, Told, Take_reply}
use Rattle.r6_world.specs.Worlds.{as_made}
use Rattle.r6_world.specs.Values.{op_of, world_command, completion_of, receipt_of, reply_of}
use Rattle.r6_world.specs.Tables.{put}
use Rattle.r6_world.specs.declared.values.Command.{Command}
use Rattle.r6_world.specs.declared.values.Op.{Op}
use Rattle.r6_core.specs.declared.call.Call.{Call}
use Rattle.r6_world.specs.declared.values.DeviceFault.{DeviceFault}
use Rattle.r6_world.specs.declared.values.Receipt.{Receipt}
use Rattle.r6_world.specs.declared.values.Receipt.TheVariants as core-receipt
use Rattle.r6_core.specs.Shards.{CoreView, Step, call_of}
use Rattle.r6_course.specs.Courses.{Start, Mark, Asked, Replied, asked_from, marked, looked_by}
use Rattle.r6_course.specs.Steps.{IsPlainCall, NamesIt}
use Rattle.r6_shard.specs.declared.ledger.Asked.{Asked as Accepted}
use Rattle.r6_shard.specs.declared.ledger.Entry.{Entry}
use Rattle.r6_shard.specs.Performing.{Did}
use Rattle.r6_shard.specs.Kept.{named_by}
use Rattle.r6_shard.specs.Histories.{replied_in, numbered}
use Rattle.r6_shard.specs.Courses.{Course, AreOf, IsOf, HasCourse, Tells, replied_of}
use Rattle.r6_shard.specs.Replying.{noted_of}
use Rattle.r6_shard.specs.Together.{all_asked}
use Rattle.r6_shard.proofs.Together.{none-asked}
use Rattle.r6_shard.proofs.Histories.{asked-more, replied-same, before-more, numbered-more, asked-same, replied-more, before-same}
use Rattle.r6_shard.proofs.Courses.{goes, taken, answered, seen, told}

pub has-gone : (s : Start) (old new : CoreView) (v : View) (looked : ℕ) (named : List Bool) (out : ℕ → Option Command) (part : ℕ → ℕ → Option Telling) (accepted : List Accepted) (entries : List Entry)
    (ops : List world.Op) (event : Event) → IsPlainCall (held v.start v.seen) event → ((history : List Mark) → marked event history ≡ history)
    → Step old event new → HasCourse s old v looked named out part accepted entries ops → HasCourse s new v (looked_by event looked) named out part accepted entries ops
has-gone s old new v looked named out part accepted entries ops event plain unmarked step x =
    record {
      history = x.history;
      tells = x.tells;
      course = subst (Course s new v (looked_by event looked) named out part) (unmarked x.history) (goes s old new v looked named out part x.history event plain step x.course);
    }

pub has-taken : (s : Start) (old new : CoreView) (v : View) (looked : ℕ) (named : List Bool) (out : ℕ → Option Command) (part : ℕ → ℕ → Option Telling) (accepted : List Accepted)
    (entries : List Entry) (ops : List world.Op) (c : Command) (frame : ℕ) (abandoned copy : Bool) → Step old (Take_command c.token (world_command frame abandoned copy c)) new
    → HasCourse s old v looked named out part accepted entries ops → HasCourse s new v looked named (put out c.token (Some c)) part accepted entries ops
has-taken s old new v looked named out part accepted entries ops c frame abandoned copy step x =
    record { history = x.history; tells = x.tells; course = taken s old new v looked named out part x.history c frame abandoned copy step x.course }

pub has-answered : (s : Start) (old new : CoreView) (v : View) (looked : ℕ) (named named' : List Bool) (out : ℕ → Option Command) (part part' : ℕ → ℕ → Option Telling)
    (accepted : List Accepted) (entries : List Entry) (ops : List world.Op) (token : ℕ) (c : Command) (receipt : steps.Receipt)
    (completion : Result (List ℕ) DeviceFault) → out token ≡ Some c → Step old (Deliver token (completion_of completion) receipt) new
    → Did part part' c completion → MatchResult completion (λ _. named' ≡ named) (λ _. NamesIt c.slot receipt named named')
    → HasCourse s old v looked named out part accepted entries ops → HasCourse s new v looked named' (put out token None) part' accepted entries ops
has-answered s old new v looked named named' out part part' accepted entries ops token c receipt completion was delivers did names x =
    record {
      history = x.history;
      tells = x.tells;
      course = answered s old new v looked named named' out part part' x.history token c receipt completion was delivers did names x.course;
    }

-- a slot is named where its command's error was taken, and no other is
names-it : (named : List Bool) (slot : ℕ) → NamesIt slot steps.Taken named (slice_set named slot true)
names-it named slot other e = elim (cases_eq other slot) [
  | inl same ↦ inr (same, refl)
  | inr ne ↦ inl (sym (get_or-set_other named slot other true false ne) ∙ e)
]

pub names-by : (named named' : List Bool) (failed : Bool) (receipt : Receipt) (slot : ℕ) (completion : Result (List ℕ) DeviceFault)
    → failed ≡ is_err completion → named' ≡ named_by failed receipt slot named
    → MatchResult completion (λ _. named' ≡ named) (λ _. NamesIt slot (receipt_of receipt) named named')
names-by named named' true receipt slot (Ok came) is same = absurd (true≢false is)
names-by named named' false receipt slot (Ok came) is same = same
names-by named named' true core-receipt.Taken slot (Err fault) is same = subst (NamesIt slot steps.Taken named) (sym same) (names-it named slot)
names-by named named' true core-receipt.Late slot (Err fault) is same = subst (NamesIt slot steps.Late named) (sym same) (λ other e. inl e)
names-by named named' false receipt slot (Err fault) is same = absurd (false≢true is)

pub has-seen : (s : Start) (core : CoreView) (v w : View) (looked : ℕ) (named : List Bool) (out : ℕ → Option Command) (part : ℕ → ℕ → Option Telling) (accepted : List Accepted) (entries : List Entry)
    (ops : List world.Op) → Looks v w → HasCourse s core v looked named out part accepted entries ops → HasCourse s core w looked named out part accepted entries ops
has-seen s core v w looked named out part accepted entries ops look x =
    record { history = x.history; tells = x.tells; course = seen s core v w looked named out part x.history look x.course }

pub has-told : (s : Start) (old mid new : CoreView) (v w : View) (looked : ℕ) (named : List Bool) (out : ℕ → Option Command) (part : ℕ → ℕ → Option Telling) (accepted : List Accepted)
    (entries : List Entry) (ops : List world.Op) (number : ℕ) (call : Call) (answer : Answer) → number ≡ old.shard
    → Step old (Take_call (call_of call)) mid → Step mid (Told (call_of call) answer) new
    → Answered v (as_made number (call_of call)) answer w
    → HasCourse s old v looked named out part accepted entries ops → HasCourse s new w looked named out part accepted entries ops
has-told s old mid new v w looked named out part accepted entries ops number call answer same takes tells answered x =
    record {
      history = x.history;
      tells = x.tells;
      course = told s old mid new v w looked named out part x.history number call answer same takes tells answered x.course;
    }

-- ---- requests and replies

as-many : (accepted : List Accepted) (ops : List world.Op) → map (λ (a : Accepted). a.block) accepted ≡ map block_of ops → length ops ≡ length accepted
as-many accepted ops e =
    sym (length-map ops block_of) ∙ ap length (sym e) ∙ length-map accepted (λ (a : Accepted). a.block)

longer : (f : Accepted → ℕ) (accepted : List Accepted) (a : Accepted) (at : ℕ) → at < length accepted
    → slice_index_or (map f (accepted ++ a ∷ [])) at 0 ≡ slice_index_or (map f accepted) at 0
longer f accepted a at below =
    ap (λ xs. slice_index_or xs at 0) (map-append f accepted (a ∷ []))
    ∙ get_or_append_left (map f accepted) (f a ∷ []) 0 at (subst (λ n. at < n) (sym (length-map accepted f)) below)

pub linked-longer : (accepted : List Accepted) (a : Accepted) (entries : List Entry) → AreOf accepted entries → AreOf (accepted ++ a ∷ []) entries
linked-longer accepted a entries x = λ k d low.
    let own = x k d low in (
      (let below = own.0 in let n = length-append accepted (a ∷ []) in omega arith),
      longer (λ (b : Accepted). b.event) accepted a (get_or entries k d).id.0 own.0 ∙ own.1,
      longer (λ (b : Accepted). b.block) accepted a (get_or entries k d).id.0 own.0 ∙ own.2,
    )

pub linked-all : (accepted more : List Accepted) (entries : List Entry) → AreOf accepted entries → AreOf (accepted ++ more) entries
linked-all accepted [] entries x = subst (λ xs. AreOf xs entries) (sym (append-nil accepted)) x
linked-all accepted (a ∷ more) entries x =
    subst (λ xs. AreOf xs entries) (append_assoc accepted (a ∷ []) more) (linked-all (accepted ++ a ∷ []) more entries (linked-longer accepted a entries x))

pub is-of : (accepted : List Accepted) (id : ℕ) → id < length accepted → (a : Accepted) → get_or accepted id a ≡ a
    → (e : Entry) → e.id.0 ≡ id → e.event ≡ a.event → e.block ≡ a.block → IsOf accepted e
is-of accepted id below a here e same event block = (
  subst (λ k. k < length accepted) (sym same) below,
  ap (λ k. slice_index_or (map (λ (b : Accepted). b.event) accepted) k 0) same ∙ get_or-map (λ (b : Accepted). b.event) accepted id a 0 below
      ∙ ap (λ (b : Accepted). b.event) here ∙ sym event,
  ap (λ k. slice_index_or (map (λ (b : Accepted). b.block) accepted) k 0) same ∙ get_or-map (λ (b : Accepted). b.block) accepted id a 0 below
      ∙ ap (λ (b : Accepted). b.block) here ∙ sym block,
)

pub linked-more : (accepted : List Accepted) (entries : List Entry) (e : Entry) → AreOf accepted entries → IsOf accepted e
    → AreOf accepted (entries ++ e ∷ [])
linked-more accepted entries e x own = All-push (IsOf accepted) entries e x own

-- a request more, of this event
tells-more : (accepted : List Accepted) (entries : List Entry) (ops : List world.Op) (history : List Mark) (event : ℕ) (op : world.Op) (id : ℕ) → id ≡ length accepted
    → Tells accepted entries ops history
    → Tells (accepted ++ noted_of event op (length entries) ∷ []) entries (ops ++ op ∷ []) (history ++ Asked id op ∷ [])
tells-more accepted entries ops h event op id same t =
    let a : Accepted = noted_of event op (length entries) in
    record {
      asked = asked-more h id op ∙ ap (λ xs. xs ++ (id, op) ∷ []) t.asked
          ∙ ap (λ (k : ℕ). numbered 0 ops ++ (k, op) ∷ []) (let n = as-many accepted ops t.blocks in omega arith) ∙ sym (numbered-more 0 ops op);
      replied = replied-same h id op ∙ t.replied;
      answered = before-more 0 h id op ∙ ap (λ xs. xs ++ (0 + length (replied_in h)) ∷ []) t.answered
          ∙ ap (λ (k : ℕ). map (λ (b : Accepted). b.answered) accepted ++ k ∷ [])
          (let n : length (replied_in h) ≡ length entries = ap length t.replied ∙ length-map entries replied_of in omega arith)
          ∙ sym (map-append (λ (b : Accepted). b.answered) accepted (a ∷ []));
      blocks = map-append (λ (b : Accepted). b.block) accepted (a ∷ []) ∙ ap (λ xs. xs ++ block_of op ∷ []) t.blocks
          ∙ sym (map-append block_of ops (op ∷ []));
      linked = linked-longer accepted a entries t.linked;
    }

pub has-submitted : (s : Start) (old new : CoreView) (v : View) (looked : ℕ) (named : List Bool) (out : ℕ → Option Command) (part : ℕ → ℕ → Option Telling) (accepted : List Accepted) (entries : List Entry)
    (ops : List world.Op) (event : ℕ) (op : world.Op) (id : ℕ) → id ≡ length accepted → Step old (Submit op id) new
    → HasCourse s old v looked named out part accepted entries ops
    → HasCourse s new v looked named out part (accepted ++ noted_of event op (length entries) ∷ []) entries (ops ++ op ∷ [])
has-submitted s old new v looked named out part accepted entries ops event op id same step x =
    record {
      history = x.history ++ Asked id op ∷ [];
      tells = tells-more accepted entries ops x.history event op id same x.tells;
      course = goes s old new v looked named out part x.history (Submit op id) (record {}) step x.course;
    }

-- requests more, each of its event
tells-all : (accepted : List Accepted) (entries : List Entry) (ops : List world.Op) (history : List Mark) (events : List ℕ) (taken : List Op) (first : ℕ) → first ≡ length accepted
    → length taken ≤ length events → Tells accepted entries ops history
    → Tells (accepted ++ all_asked (length entries) events taken) entries (ops ++ map op_of taken) (history ++ asked_from first (map op_of taken))
tells-all accepted entries ops h events [] first same many t =
    subst (λ xs. Tells (accepted ++ xs) entries (ops ++ []) (h ++ [])) (sym (none-asked (length entries) events))
    (subst (λ xs. Tells xs entries (ops ++ []) (h ++ [])) (sym (append-nil accepted))
    (subst (λ xs. Tells accepted entries xs (h ++ [])) (sym (append-nil ops)) (subst (Tells accepted entries ops) (sym (append-nil h)) t)))
tells-all accepted entries ops h [] (o ∷ taken) first same many t = absurd (omega (arith, many))
tells-all accepted entries ops h (event ∷ events) (o ∷ taken) first same many t =
    let op = op_of o in
    let a : Accepted = noted_of event op (length entries) in
    let longer = length-append accepted (a ∷ []) in
    subst (λ xs. Tells xs entries (ops ++ op ∷ map op_of taken) (h ++ Asked first op ∷ asked_from (first + 1) (map op_of taken))) (append_assoc accepted (a ∷ []) (all_asked (length entries) events taken))
    (subst (λ xs. Tells ((accepted ++ a ∷ []) ++ all_asked (length entries) events taken) entries xs (h ++ Asked first op ∷ asked_from (first + 1) (map op_of taken))) (append_assoc ops (op ∷ []) (map op_of taken))
    (subst (Tells ((accepted ++ a ∷ []) ++ all_asked (length entries) events taken) entries ((ops ++ op ∷ []) ++ map op_of taken)) (append_assoc h (Asked first op ∷ []) (asked_from (first + 1) (map op_of taken)))
    (tells-all (accepted ++ a ∷ []) entries (ops ++ op ∷ []) (h ++ Asked first op ∷ []) events taken (first + 1) (omega (arith, same, longer)) (omega (arith, many))
    (tells-more accepted entries ops h event op first same t))))

pub has-together : (s : Start) (old new : CoreView) (v : View) (looked : ℕ) (named : List Bool) (out : ℕ → Option Command) (part : ℕ → ℕ → Option Telling) (accepted : List Accepted) (entries : List Entry)
    (ops : List world.Op) (events : List ℕ) (taken : List Op) (first : ℕ) → first ≡ length accepted → length taken ≤ length events
    → Step old (Submit_all (map op_of taken) first) new
    → HasCourse s old v looked named out part accepted entries ops
    → HasCourse s new v looked named out part (accepted ++ all_asked (length entries) events taken) entries (ops ++ map op_of taken)
has-together s old new v looked named out part accepted entries ops events taken first same many step x =
    record {
      history = x.history ++ asked_from first (map op_of taken);
      tells = tells-all accepted entries ops x.history events taken first same many x.tells;
      course = goes s old new v looked named out part x.history (Submit_all (map op_of taken) first) (record {}) step x.course;
    }

pub has-collected : (s : Start) (old new : CoreView) (v : View) (looked : ℕ) (named : List Bool) (out : ℕ → Option Command) (part : ℕ → ℕ → Option Telling) (accepted : List Accepted) (entries : List Entry)
    (ops : List world.Op) (e : Entry) → Step old (Take_reply e.id.0 (reply_of e.reply)) new → IsOf accepted e
    → HasCourse s old v looked named out part accepted entries ops → HasCourse s new v looked named out part accepted (entries ++ e ∷ []) ops
has-collected s old new v looked named out part accepted entries ops e step own x =
    let h = x.history in
    let t = x.tells in
    record {
      history = h ++ Replied e.id.0 (reply_of e.reply) ∷ [];
      tells = record {
        asked = asked-same h e.id.0 (reply_of e.reply) ∙ t.asked;
        replied = replied-more h e.id.0 (reply_of e.reply) ∙ ap (λ xs. xs ++ replied_of e ∷ []) t.replied
            ∙ sym (map-append replied_of entries (e ∷ []));
        answered = before-same 0 h e.id.0 (reply_of e.reply) ∙ t.answered;
        blocks = t.blocks;
        linked = linked-more accepted entries e t.linked own;
      };
      course = goes s old new v looked named out part h (Take_reply e.id.0 (reply_of e.reply)) (record {}) step x.course;
    }

-- ---- of a result

pub either_way : {A E : Type 0} (r : Result A E) (P : A → Type 0) (Q : E → Type 0) (C : Type 0) → IfOk r P → IfErr r Q
    → ((a : A) → P a → C) → ((e : E) → Q e → C) → C
either_way (Ok a) P Q C p q on_ok on_err = on_ok a p
either_way (Err e) P Q C p q on_ok on_err = on_err e q

pub both_ok : {A E : Type 0} (r : Result A E) (P Q : A → Type 0) → IfOk r P → IfOk r Q → IfOk r (λ a. P a × Q a)
both_ok (Ok a) P Q p q = (p, q)
both_ok (Err e) P Q p q = p

pub both_err : {A E : Type 0} (r : Result A E) (P Q : E → Type 0) → IfErr r P → IfErr r Q → IfErr r (λ e. P e × Q e)
both_err (Ok a) P Q p q = p
both_err (Err e) P Q p q = (p, q)

pub at_err : {A E : Type 0} (r : Result A E) (e : E) (Q : E → Type 0) → r ≡ Err e → IfErr r Q → Q e
at_err r e Q is h = subst (λ y. IfErr y Q) is h

pub refused_of : {A E : Type 0} (r : Result A E) (Q : E → Type 0) → is_err r ≡ true → IfErr r Q → (e : E) × Q e
refused_of (Ok a) Q e h = absurd (false≢true e)
refused_of (Err e) Q is h = (e, h)
