-- The shards of an array keep their shapes in each of its calls, and so the length of their blocks.
use Rattle.std.proofs.Common.{◌≡◌, ℕ, [], ◌∷◌, List, inl, inr, refl, sym, ap, ◌∙◌, subst, Bool, length, Option, Some, None, Result, Ok, Err, IfOk, IfErr}
use Rattle.std.specs.Prelude.{slice_get, slice_set}
use Rattle.r6_health.specs.declared.call.Answer.{Answer}
use Rattle.r6_layout.specs.Shape.{Shape}
use Rattle.r6_world.specs.Registers.{Snapshot, RegisterCall, Told}
use Rattle.r6_world.specs.ShardStates as shards
use Rattle.r6_world.specs.Values.{buffer_back}
use Rattle.r6_world.specs.declared.values.Op.{Op}
use Rattle.r6_world.specs.declared.values.Command.{Command}
use Rattle.r6_world.specs.declared.values.Receipt.{Receipt}
use Rattle.r6_world.specs.declared.values.Reply.{Reply}
use Rattle.r6_world.specs.declared.values.Reply.TheVariants as reply
use Rattle.r6_world.specs.declared.values.DeviceFault.{DeviceFault}
use Rattle.r6_core.specs.declared.call.Call.{Call}
use Rattle.r6_core.specs.declared.submitting.Submitted.{Submitted}
use Rattle.r6_core.specs.declared.turn.Task.{Task}
use Rattle.r6_core.specs.declared.turn.Task.TheVariants as task
use Rattle.r6_core.specs.declared.turn.Turn.{Turn}
use Rattle.r6_core.specs.Effects.{TakesTurn}
use Rattle.r6_core.specs.Shards.{CoreView}
use Rattle.r6_array.specs.declared.change.Change.{Change}
use Rattle.r6_array.specs.declared.handed_in.HandedIn.{HandedIn}
use Rattle.r6_array.specs.declared.ticket.Ticket.{Ticket}
use Rattle.r6_array.specs.Arrays.{ShardView, ArrayView, Has, with_shard}
use Rattle.r6_array.specs.Effects.{shard_of_block, block_asked, Submits, HandsOut, Delivers, LooksOf, HandsReplyOf, PassesOver, No_shard, One_more, HandsReply, HandsNoReply, all_unsettled, after_answer, AgreesTo, ComesFromOutside, TurnsIn}
use Rattle.r6_array.specs.Members.{TakesIn, PutsOut, IsSeen, Sees, TakesBack, LooksUp, HasLooked, HandsBack, TakesUp, Agrees, unsettled}
use Rattle.r6_array.specs.News.{IsNew}
use Rattle.r6_array.specs.Requests.{Named}
use Rattle.r6_array.specs.Together.{TakesAllIn, SubmitsList}
use Rattle.r6_array.proofs.Completions.{has_set}
use Rattle.r6_array.proofs.Going.{set-cases, mapped-cases}
use Rattle.r6_array_c.specs.Blocks.{HaveBlocksOf}
use Rattle.r6_array_c.specs.Numbers.{reply_block}

-- ---- a shard

abbrev pub SameShape : ShardView → ShardView → Type 0
SameShape s t = t.core.shape ≡ s.core.shape

pub takes_in : (s t : ShardView) (o : Op) (name : ℕ) → TakesIn s o name t → SameShape s t
takes_in s t o name x = x.accepts.step.0.0

pub takes_all_in : (s t : ShardView) (requests left : List Named) (submitted : Submitted) → TakesAllIn s requests left submitted t → SameShape s t
takes_all_in s t requests left submitted x = x.submits.step.0.0

pub puts_out : (s t : ShardView) (c : Command) → PutsOut s c t → SameShape s t
puts_out s t c x = x.step.0.0

pub sees : (core new : CoreView) → Sees core new → new.shape ≡ core.shape
sees core new x = of x.change x.middle x.seen
  where
    of : (change : Option shards.Call) (middle : CoreView) → IsSeen core change middle new → new.shape ≡ core.shape
    of None middle p = p.0.0
    of (Some call) middle p = p.1.0.0 ∙ p.0.0.0

pub takes_back : (s t : ShardView) (token : ℕ) (completion : Result (List ℕ) DeviceFault) (receipt : Receipt) → TakesBack s token completion receipt t → SameShape s t
takes_back s t token completion receipt x = sees x.core t.core x.sees ∙ x.receives.step.0.0

pub looks_up : (s t : ShardView) (register : Snapshot) → LooksUp s register t → SameShape s t
looks_up s t register x = sees x.core t.core x.sees ∙ x.looks.step.0.0

pub has_looked : (s t : ShardView) (register : Snapshot) → HasLooked register s t → SameShape s t
has_looked s t register x =
    elim x [ inl stays ↦ ap (λ (v : ShardView). v.core.shape) stays.same | inr looks ↦ looks_up s t register looks.1 ]

pub hands_back : (s t : ShardView) (name : ℕ) (r : Reply) → HandsBack s name r t → SameShape s t
hands_back s t name r x = x.hands.step.0.0

pub takes_up : (s t : ShardView) (which : Task) (turn : Turn) → TakesUp s which turn t → SameShape s t
takes_up s t which turn x = of which x.turns.taken
  where
    of : (which : Task) → TakesTurn s.core which turn t.core → SameShape s t
    of task.Rebuild p = p.1.4.0.0
    of task.Check p = p.0.0
    of task.Repair p = p.0.0

pub agrees : (shape : Shape) (n : ℕ) (s t : ShardView) (register register' : Snapshot) (call : Call) (answer : Told) → Agrees shape n s register call answer register' t → SameShape s t
agrees shape n s t register register' call answer x = sees x.core t.core x.sees ∙ x.told.0.0 ∙ x.taken.0.0

same_block : (r : Reply) → reply_block r ≡ buffer_back r
same_block (reply.Data block) = refl
same_block (reply.Done block) = refl
same_block (reply.ArrayFailed block) = refl

-- its reply has a block of its shape
pub fits : (s t : ShardView) (name : ℕ) (r : Reply) → HandsBack s name r t → length (reply_block r) ≡ s.core.shape.block
fits s t name r x = ap length (same_block r) ∙ x.hands.sized

-- ---- an array

-- each shard has the shape of one that was there
abbrev pub KeepsShapes : ArrayView → ArrayView → Type 0
KeepsShapes old new = (n : ℕ) (t : ShardView) → Has new n t → (s : ShardView) × Has old n s × SameShape s t

pub all_same : (old new : ArrayView) → new ≡ old → KeepsShapes old new
all_same old new e n t has = (t, subst (λ (a : ArrayView). Has a n t) e has, refl)

pub and_on : (a b c : ArrayView) → KeepsShapes a b → KeepsShapes b c → KeepsShapes a c
and_on a b c first second n t has =
    let m = second n t has in let s = first n m.0 m.1 in (s.0, s.1, m.2 ∙ s.2)

pub one : (a b : ArrayView) (n : ℕ) (s t : ShardView) → Has a n s → SameShape s t → b.shards ≡ slice_set a.shards n t → KeepsShapes a b
one a b n s t has shape is k y e =
    elim (set-cases a.shards n t k y (ap (λ xs. slice_get xs k) (sym is) ∙ e)) [
      | inl p ↦ (s, subst (λ i. Has a i s) (sym p.0) has, ap (λ (v : ShardView). v.core.shape) p.1 ∙ shape)
      | inr p ↦ (y, p.1, refl)
    ]

pub unsettles : (a b : ArrayView) → b ≡ all_unsettled a → KeepsShapes a b
unsettles a b is n t has =
    let m = mapped-cases unsettled a.shards n t (ap (λ (v : ArrayView). slice_get v.shards n) (sym is) ∙ has) in
    (m.0, m.1, ap (λ (v : ShardView). v.core.shape) m.2)

pub submits : (old new : ArrayView) (o : Op) (name : ℕ) → Submits old o name new → KeepsShapes old new
submits old new o name x =
    one old new (shard_of_block old.shape (block_asked o)) x.was x.now x.there (takes_in x.was x.now o name x.taken)
    (ap (λ (v : ArrayView). v.shards) x.new_is)

pub submits_list : (old new : ArrayView) (requests left : List Named) (told : HandedIn) → SubmitsList old requests left told new → KeepsShapes old new
submits_list old new [] left told x = all_same old new x.0.1
submits_list old new (first ∷ others) left told x =
    elim x [
      | inl none ↦ all_same old new none.1.1
      | inr some ↦
          let s = some.1 in
          one old new (shard_of_block old.shape (block_asked first.0)) s.was s.now s.there
          (takes_all_in s.was s.now (first ∷ others) left s.submitted s.taken) (ap (λ (v : ArrayView). v.shards) s.new_is)
    ]

pub hands_out : (old new : ArrayView) (ticket : Ticket) (c : Command) → HandsOut old ticket c new → KeepsShapes old new
hands_out old new ticket c x =
    let h = x.hands in
    one old new ticket.shard h.was h.now h.there (puts_out h.was h.now c h.taken) (ap (λ (v : ArrayView). v.shards) h.new_is)

pub delivers : (old new : ArrayView) (ticket : Ticket) (completion : Result (List ℕ) DeviceFault) (receipt : Receipt) → Delivers old ticket completion receipt new
    → KeepsShapes old new
delivers old new ticket completion receipt x =
    one old new ticket.shard x.was x.now x.there (takes_back x.was x.now ticket.token completion receipt x.taken)
    (ap (λ (v : ArrayView). v.shards) x.new_is)

pub looks : (old new : ArrayView) (n : ℕ) (settled : Bool) → LooksOf old n settled new → KeepsShapes old new
looks old new n settled x =
    one old new n x.was x.now x.there (has_looked x.was x.now old.register x.looked) (ap (λ (v : ArrayView). v.shards) x.new_is)

pub passes : (old new : ArrayView) (n : ℕ) → PassesOver old n new → KeepsShapes old new
passes old new n (No_shard a) = all_same a a refl
passes old new n (One_more a b c m before x) = and_on a b c (passes a b m before) (looks b c m x.settled x.looks)

pub hands_reply_of : (old new : ArrayView) (n name : ℕ) (r : Reply) → HandsReplyOf old n name r new → KeepsShapes old new
hands_reply_of old new n name r x =
    let l = x.looks in
    let there : Has x.mid n l.now = subst (λ (a : ArrayView). Has a n l.now) (sym l.new_is) (has_set old n l.was l.now l.there) in
    and_on old x.mid new (looks old x.mid n _ l)
    (one x.mid new n l.now x.now there (hands_back l.now x.now name r x.taken) (ap (λ (v : ArrayView). v.shards) x.new_is))

pub hands_reply : (old new : ArrayView) (name : ℕ) (r : Reply) → HandsReply old name r new → KeepsShapes old new
hands_reply old new name r x =
    and_on old x.mid new (passes old x.mid x.shard x.passes) (hands_reply_of x.mid new x.shard name r x.hands)

pub hands_no_reply : (old new : ArrayView) → HandsNoReply old new → KeepsShapes old new
hands_no_reply old new x = passes old new (length old.shards) x.passes

pub agrees_to : (old new : ArrayView) (change : Change) (answer : Told) → AgreesTo old change answer new → KeepsShapes old new
agrees_to old new change answer x =
    let a : ArrayView = record (with_shard old change.shard x.now) { register = x.register } in
    and_on old a new
    (one old a change.shard x.next.0 x.now x.next.1 (agrees old.shape change.shard x.next.0 x.now old.register x.register change.call answer x.agreed) refl)
    (of a answer x.new_is)
  where
    of : (a : ArrayView) (answer : Told) → new ≡ after_answer a answer → KeepsShapes a new
    of a (Ok told) e = unsettles a new e
    of a (Err refusal) e = all_same a new e

pub comes : (old new : ArrayView) (call : RegisterCall) (answer : Answer) → ComesFromOutside old call answer new → KeepsShapes old new
comes old new call answer x = unsettles _ new x.new_is

pub turns_in : (old new : ArrayView) (n : ℕ) (which : Task) (turn : Turn) → TurnsIn old n which turn new → KeepsShapes old new
turns_in old new n which turn x =
    one old new n x.was x.now x.there (takes_up x.was x.now which turn x.taken) (ap (λ (v : ArrayView). v.shards) x.new_is)

-- ---- the length of its blocks

pub still : (old new : ArrayView) (bytes : ℕ) → HaveBlocksOf old bytes → KeepsShapes old new → HaveBlocksOf new bytes
still old new bytes have keeps n t has =
    let s = keeps n t has in ap (λ (shape : Shape). shape.block) s.2 ∙ have n s.0 s.1

pub at_start : (shape : Shape) (register : Snapshot) (window : ℕ) (a : ArrayView) → IsNew shape register window a → HaveBlocksOf a shape.block
at_start shape register window a x n s has = ap (λ (shape : Shape). shape.block) (x.shards.made n s has).made.geometry

pub reply_fits : (old new : ArrayView) (name : ℕ) (r : Reply) (bytes : ℕ) → HandsReply old name r new → HaveBlocksOf old bytes → length (reply_block r) ≡ bytes
reply_fits old new name r bytes x have =
    let l = x.hands.looks in
    fits l.now x.hands.now name r x.hands.taken
    ∙ ap (λ (shape : Shape). shape.block) (has_looked l.was l.now x.mid.register l.looked)
    ∙ still old x.mid bytes have (passes old x.mid x.shard x.passes) x.shard l.was l.there

-- so it is after a call that is refused, or not
pub in_each : {A E : Type 0} (P : A → Type 0) (Q : E → Type 0) (r : Result A E) (old new : ArrayView) (bytes : ℕ) → IfOk r P → IfErr r Q
    → ((x : A) → P x → KeepsShapes old new) → ((e : E) → Q e → KeepsShapes old new) → HaveBlocksOf old bytes → HaveBlocksOf new bytes
in_each P Q (Ok x) old new bytes p q f g have = still old new bytes have (f x p)
in_each P Q (Err e) old new bytes p q f g have = still old new bytes have (g e q)
