-- Replies are for what was asked.
use Rattle.std.proofs.Common.{◌≡◌, ℕ, zero, suc, ◌+◌, ◌<◌, ◌≤◌, List, [], ◌∷◌, ◌++◌, length, map, get_or, All, Bool, not, true, refl, sym, ap, subst, ◌∙◌, arith, append_assoc, length-append, Some}
use Rattle.std.proofs.lemmas.List.Elements.{All-nil, All-push}
use Rattle.r6_world.specs.PlainArray.{Op, block_of}
use Rattle.r6_world.specs.ShardStates.{Shard, Request, Released}
use Rattle.r6_world.specs.Steps.{Event, Submit, Submit_all, Take_reply}
use Rattle.r6_world.specs.Values.{op_of, buffer_back, reply_of}
use Rattle.r6_world.specs.declared.values.Op.{Op as Handed}
use Rattle.r6_world.specs.declared.values.Reply.{Reply}
use Rattle.r6_world.specs.declared.values.Reply.TheVariants.{Data, Done, ArrayFailed}
use Rattle.r6_world.proofs.Changes.{IsSubmission}
use Rattle.r6_world.proofs.Tables.{None-not_Some}
use Rattle.r6_core.specs.declared.turn.Task.{Task}
use Rattle.r6_core.specs.declared.turn.Turn.{Turn}
use Rattle.r6_core.specs.Effects.{IsMade, HandsReply, TakesTurn}
use Rattle.r6_core.specs.Order.{BringsBack}
use Rattle.r6_core.specs.Shards.{CoreView, Step, core_layout, world_shard}
use Rattle.r6_shard.specs.declared.ledger.Asked.{Asked as Accepted}
use Rattle.r6_shard.specs.declared.ledger.Entry.{Entry}
use Rattle.r6_shard.specs.Courses.{AreOf}
use Rattle.r6_shard.specs.Kept.{AreNumbered}
use Rattle.r6_shard.specs.Replying.{is_write, is_for, noted_of, writes_at, AreOfKind}
use Rattle.r6_shard.specs.Together.{all_asked}
use Rattle.r6_shard.proofs.Keeping.{plain-submits, turned}
use Rattle.r6_shard.proofs.Steps.{Each, only-on, only-submitting, only-together}

-- ---- what is noted

pub noted : (event : ℕ) (op : Op) (block : ℕ) (writes : Bool) (answered answered' : ℕ) → block ≡ block_of op → writes ≡ is_write op → answered ≡ answered'
    → record { event = event; block = block; writes = writes; answered = answered } ≡ noted_of event op answered'
noted event op block writes answered answered' e f h = λ i. record { event = event; block = e i; writes = f i; answered = h i }

-- it stays noted of those that were there
writes-longer : (accepted more : List Accepted) (number : ℕ) → number < length accepted → writes_at (accepted ++ more) number ≡ writes_at accepted number
writes-longer [] more number below = absurd (omega (arith, below))
writes-longer (a ∷ accepted) more zero below = refl
writes-longer (a ∷ accepted) more (suc number) below = writes-longer accepted more number (omega (arith, below))

writes-next : (accepted : List Accepted) (a : Accepted) (more : List Accepted) → writes_at (accepted ++ a ∷ more) (length accepted) ≡ a.writes
writes-next [] a more = refl
writes-next (b ∷ accepted) a more = writes-next accepted a more

abbrev IsNoted : List Accepted → ℕ → Op → Type 0
IsNoted accepted number op = writes_at accepted number ≡ is_write op

-- the next ones are noted as what they are
each-noted : (accepted : List Accepted) (answered : ℕ) (events : List ℕ) (taken : List Handed) → length taken ≤ length events
    → Each (IsNoted (accepted ++ all_asked answered events taken)) (length accepted) (map op_of taken)
each-noted accepted answered events [] many = tt
each-noted accepted answered [] (o ∷ taken) many = absurd (omega (arith, many))
each-noted accepted answered (event ∷ events) (o ∷ taken) many =
    let a = noted_of event (op_of o) answered in
    let one = length-append accepted (a ∷ []) in (
      writes-next accepted a (all_asked answered events taken),
      subst (λ xs. Each (IsNoted xs) (length accepted + 1) (map op_of taken)) (append_assoc accepted (a ∷ []) (all_asked answered events taken))
          (subst (λ k. Each (IsNoted ((accepted ++ a ∷ []) ++ all_asked answered events taken)) k (map op_of taken))
          (let same : length (accepted ++ a ∷ []) ≡ length accepted + 1 = omega (arith, one) in same)
          (each-noted (accepted ++ a ∷ []) answered events taken (omega (arith, many)))),
    )

-- ---- the ghost field

pub kinds-at-first : (shape : _) (snapshot : _) (number : ℕ) (core : CoreView) (accepted : List Accepted) (entries : List Entry) → IsMade shape snapshot number core
    → entries ≡ [] → AreOfKind core accepted entries
kinds-at-first shape snapshot number core accepted entries made none = record {
  asked = λ id request e. absurd (None-not_Some request (ap (λ (s : Shard). s.request id) (sym made.start) ∙ e));
  replied = subst (All (λ (e : Entry). (is_for (writes_at accepted e.id.0) e.reply ≡ true) × (length (buffer_back e.reply) ≡ core.shape.block))) (sym none)
      (All-nil _);
}

-- what was replied stays so, with more noted
longer : (old new : CoreView) (accepted more : List Accepted) (entries : List Entry) → new.shape ≡ old.shape → AreOf accepted entries → AreOfKind old accepted entries
    → All (λ (e : Entry). (is_for (writes_at (accepted ++ more) e.id.0) e.reply ≡ true) × (length (buffer_back e.reply) ≡ new.shape.block)) entries
longer old new accepted more entries same linked x = λ k d below.
    let e : Entry = get_or entries k d in (
      ap (λ b. is_for b e.reply) (writes-longer accepted more e.id.0 (linked k d below).0) ∙ (x.replied k d below).0,
      (x.replied k d below).1 ∙ ap (λ (y : _). y.block) (sym same),
    )

was-noted : (old : CoreView) (accepted more : List Accepted) (entries : List Entry) → AreNumbered (world_shard old) (length accepted) → AreOfKind old accepted entries
    → (id : ℕ) (request : Request) → (world_shard old).request id ≡ Some request → IsNoted (accepted ++ more) id request.op
was-noted old accepted more entries numbered x id request e = writes-longer accepted more id (numbered.1 id request e) ∙ x.asked id request e

-- any call that hands no request in
pub kinds-on : (old : CoreView) (event : Event) (new : CoreView) (accepted : List Accepted) (entries : List Entry)
    → (IsSubmission event → ⊥) → Step old event new → AreOfKind old accepted entries → AreOfKind new accepted entries
kinds-on old event new accepted entries none step x = record {
  asked = only-on (core_layout old) old.shard (IsNoted accepted) event none (world_shard old) (world_shard new) step.1 x.asked;
  replied = λ k d below. ((x.replied k d below).0, (x.replied k d below).1 ∙ ap (λ (y : _). y.block) (sym step.0.0));
}

-- a request more
pub kinds-submitted : (old : CoreView) (op : Op) (id : ℕ) (new : CoreView) (accepted : List Accepted) (entries : List Entry) (event answered : ℕ)
    → Step old (Submit op id) new → AreNumbered (world_shard old) (length accepted) → AreOf accepted entries
    → AreOfKind old accepted entries → AreOfKind new (accepted ++ noted_of event op answered ∷ []) entries
kinds-submitted old op id new accepted entries event answered step numbered linked x =
    let a = noted_of event op answered in
    let Q = IsNoted (accepted ++ a ∷ []) in
    record {
      asked = only-submitting (core_layout old) old.shard Q (world_shard old) (world_shard new) op id step.1
          (was-noted old accepted (a ∷ []) entries numbered x)
          (subst (λ k. Q k op) (sym numbered.0) (writes-next accepted a []));
      replied = longer old new accepted (a ∷ []) entries step.0.0 linked x;
    }

-- requests more, that were handed in together
pub kinds-together : (old new : CoreView) (accepted : List Accepted) (entries : List Entry) (answered : ℕ) (events : List ℕ) (taken : List Handed) (first : ℕ)
    → length taken ≤ length events → Step old (Submit_all (map op_of taken) first) new → AreNumbered (world_shard old) (length accepted) → AreOf accepted entries
    → AreOfKind old accepted entries → AreOfKind new (accepted ++ all_asked answered events taken) entries
kinds-together old new accepted entries answered events taken first many step numbered linked x =
    let more = all_asked answered events taken in
    record {
      asked = only-together (core_layout old) old.shard (IsNoted (accepted ++ more)) (world_shard old) (world_shard new) (map op_of taken) first step.1
          (was-noted old accepted more entries numbered x)
          (subst (λ k. Each (IsNoted (accepted ++ more)) k (map op_of taken)) (sym numbered.0) (each-noted accepted answered events taken many));
      replied = longer old new accepted more entries step.0.0 linked x;
    }

-- a reply is taken: it is for what was asked
is-for-it : (writes : Bool) (request : Request) (reply : Reply) → writes ≡ is_write request.op → BringsBack (Some request) reply → is_for writes reply ≡ true
is-for-it writes request (Data buffer) same brings = ap not (same ∙ ap is_write brings.1)
is-for-it writes request (Done buffer) same brings = same ∙ ap is_write brings.1
is-for-it writes request (ArrayFailed buffer) same brings = refl

pub kinds-replied : (old new : CoreView) (accepted : List Accepted) (entries : List Entry) (e : Entry) → HandsReply old e.id.0 e.reply new
    → AreOfKind old accepted entries → AreOfKind new accepted (entries ++ e ∷ [])
kinds-replied old new accepted entries e hands x =
    let step = hands.step in
    let on = kinds-on old (Take_reply e.id.0 (reply_of e.reply)) new accepted entries (λ is. is) step x in
    let request : Request = record { op = step.1.0; stage = Released (reply_of e.reply) } in
    record {
      asked = on.asked;
      replied = All-push (λ (y : Entry). (is_for (writes_at accepted y.id.0) y.reply ≡ true) × (length (buffer_back y.reply) ≡ new.shape.block)) entries e on.replied (
        is-for-it (writes_at accepted e.id.0) request e.reply (x.asked e.id.0 request step.1.1) (subst (λ o. BringsBack o e.reply) step.1.1 hands.brings),
        hands.sized ∙ ap (λ (y : _). y.block) (sym step.0.0),
      );
    }

pub kinds-turned : (old : CoreView) (task : Task) (turn : Turn) (new : CoreView) (accepted : List Accepted) (entries : List Entry) → TakesTurn old task turn new
    → AreOfKind old accepted entries → AreOfKind new accepted entries
kinds-turned old task turn new accepted entries t x =
    let p = turned old task turn new t in
    kinds-on old p.0 new accepted entries (plain-submits p.0 p.1) p.5 x
