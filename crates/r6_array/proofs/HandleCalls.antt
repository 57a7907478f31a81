-- What the calls of a handle do, from what they do to its shard.
use Rattle.std.proofs.Common.{◌≡◌, ℕ, ◌<◌, List, [], ◌∷◌, inl, inr, refl, sym, ap, ◌∙◌, subst, Result, Ok}
use Rattle.r6_layout.specs.Shape.{Shape}
use Rattle.r6_world.specs.Geometries.{layout_of}
use Rattle.r6_world.specs.Registers.{RegisterCall, RegisterAnswer, Told, answer_to, register_after}
use Rattle.r6_world.specs.Laws.{IsOfOutside}
use Rattle.r6_world.specs.Steps as steps
use Rattle.r6_world.specs.Worlds.{as_made}
use Rattle.r6_world.specs.Values.{op_of, world_command, completion_of, receipt_of, reply_of}
use Rattle.r6_world.specs.declared.values.Op.{Op}
use Rattle.r6_world.specs.declared.values.Command.{Command}
use Rattle.r6_world.specs.declared.values.Receipt.{Receipt}
use Rattle.r6_world.specs.declared.values.Reply.{Reply}
use Rattle.r6_world.specs.declared.values.DeviceFault.{DeviceFault}
use Rattle.r6_core.specs.declared.refusal.Refusal.{Refusal}
use Rattle.r6_core.specs.declared.turn.Task.{Task}
use Rattle.r6_core.specs.declared.turn.Turn.{Turn}
use Rattle.r6_core.specs.Shards.{world_shard, call_of}
use Rattle.r6_core.specs.Effects.{RefusesCompletion}
use Rattle.r6_array.specs.declared.ticket.Ticket.{Ticket}
use Rattle.r6_array.specs.declared.change.Change.{Change}
use Rattle.r6_array.specs.declared.register.SharedRegister.{SharedRegister}
use Rattle.r6_array.specs.Arrays.{ShardView}
use Rattle.r6_array.specs.Members.{TakesIn, PutsOut, TakesBack, LooksUp, HandsBack, TakesUp, Agrees}
use Rattle.r6_array.specs.Effects.{one_more, one_less}
use Rattle.r6_array.specs.Inside.{IsHandle}
use Rattle.r6_array.specs.Handles.{HandleView}
use Rattle.r6_array.specs.HandleEffects.{HandleTakesIn, HandleHandsOut, HandleTakesBack, HandleRefusesDelivery, AsksFor, HandleAgrees, HandleLooks, HandleHandsReply, HandleTurns, RegisterTakes}
use Rattle.r6_array.proofs.Completions.{turn_event, plain_turn}
use Rattle.r6_array.proofs.HandleGoing.{beside_call, beside_seen, beside_told, beside_outside}

-- the handle of a shard, with these commands at work
abbrev pub handle : ShardView → List ℕ → HandleView
handle s at_work = record { shard = s; at_work = at_work }

-- its number is one of the array's
pub there : (shape : Shape) (n : ℕ) (s : ShardView) → IsHandle shape n s → s.core.shard < s.core.shape.shards
there shape n s x = subst (λ (sh : Shape). s.core.shard < sh.shards) (sym x.shape_is) (subst (λ k. k < shape.shards) (sym x.number_is) x.there)

-- a shard that stays so
pub still : (shape : Shape) (n : ℕ) (s t : ShardView) → IsHandle shape n s → Rattle.r6_core.specs.Shards.SameShard s.core t.core → IsHandle shape n t
still shape n s t x same = record { limits = x.limits; there = x.there; shape_is = same.0 ∙ x.shape_is; number_is = same.1 ∙ x.number_is }

pub takes_in : (shape : Shape) (n : ℕ) (s t : ShardView) (at_work : List ℕ) (o : Op) (name : ℕ) → IsHandle shape n s → TakesIn s o name t
    → HandleTakesIn (handle s at_work) o name (handle t at_work)
takes_in shape n s t at_work o name x taken =
    record {
      taken = taken;
      at_work = refl;
      run = λ register. beside_call (handle s at_work) (handle t at_work) register (steps.Submit (op_of o) taken.id) (there shape n s x) (record {}) taken.accepts.step;
    }

pub hands_out : (shape : Shape) (n : ℕ) (s t : ShardView) (at_work at_work' : List ℕ) (ticket : Ticket) (c : Command) → IsHandle shape n s → PutsOut s c t
    → ticket ≡ record { shard = n; slot = c.slot; token = c.token } → at_work' ≡ one_more at_work c.slot
    → HandleHandsOut (handle s at_work) ticket c (handle t at_work')
hands_out shape n s t at_work at_work' ticket c x out is e =
    record {
      shard = ap (λ (k : Ticket). k.shard) is ∙ sym x.number_is;
      taken = out;
      slot = ap (λ (k : Ticket). k.slot) is;
      token = ap (λ (k : Ticket). k.token) is;
      at_work = e;
      run = λ register.
          beside_call (handle s at_work) (handle t at_work') register (steps.Take_command c.token (world_command out.frame out.abandoned out.copy c)) (there shape n s x) (record {}) out.step;
    }

pub takes_back : (shape : Shape) (n : ℕ) (s t : ShardView) (at_work : List ℕ) (new : HandleView) (ticket : Ticket) (completion : Result (List ℕ) DeviceFault) (receipt : Receipt) → IsHandle shape n s
    → ticket.shard ≡ s.core.shard → TakesBack s ticket.token completion receipt t → new ≡ handle t (one_less at_work ticket.slot)
    → HandleTakesBack (handle s at_work) ticket completion receipt new
takes_back shape n s t at_work new ticket completion receipt x own taken is =
    subst (HandleTakesBack (handle s at_work) ticket completion receipt) (sym is) (record {
      shard = own;
      taken = taken;
      at_work = refl;
      run = λ register.
          beside_seen (handle s at_work) (handle t (one_less at_work ticket.slot)) taken.core register
          (steps.Deliver ticket.token (completion_of completion) (receipt_of receipt)) (there shape n s x) (record {}) taken.receives.step taken.sees;
    })

pub refuses_delivery : (shape : Shape) (n : ℕ) (s t : ShardView) (at_work : List ℕ) (ticket : Ticket) (completion back : Result (List ℕ) DeviceFault) (refusal : Refusal) → IsHandle shape n s
    → ticket.shard ≡ s.core.shard → t ≡ s → RefusesCompletion s.core ticket.token completion refusal back s.core
    → HandleRefusesDelivery (handle s at_work) ticket completion refusal ticket back (handle t at_work)
refuses_delivery shape n s t at_work ticket completion back refusal x own same r =
    record {
      same = ap (λ v. handle v at_work) same;
      ticket_is = refl;
      back_is = r.back_is;
      fault = elim r.fault [
        | inl p ↦ inl (p.0, λ o. p.1 o.1)
        | inr p ↦ inr (λ h. p.0 (λ o. h (own, o)), p.1)
      ];
    }

pub agrees : (shape : Shape) (n : ℕ) (s t : ShardView) (at_work : List ℕ) (register register' : SharedRegister) (change : Change) (answer : Told) → IsHandle shape n s
    → register.geometry ≡ s.core.shape → register'.geometry ≡ register.geometry → AsksFor (handle s at_work) change
    → Agrees shape n s register.snapshot change.call answer register'.snapshot t
    → HandleAgrees (handle s at_work) register change answer (handle t at_work) register'
agrees shape n s t at_work register register' change answer x same kept asks agreed =
    let own : n ≡ s.core.shard = sym x.number_is in
    let g : Agrees register.geometry s.core.shard s register.snapshot change.call answer register'.snapshot t =
    subst (λ sh. Agrees sh s.core.shard s register.snapshot change.call answer register'.snapshot t) (sym (same ∙ x.shape_is))
    (subst (λ k. Agrees shape k s register.snapshot change.call answer register'.snapshot t) own agreed) in
    record {
      next = asks;
      shape = kept;
      agreed = g;
      at_work = refl;
      run = beside_told (handle s at_work) (handle t at_work) g.core register.snapshot register'.snapshot (call_of change.call) answer g.middle (there shape n s x)
          (subst (λ sh. answer ≡ answer_to (layout_of sh) register.snapshot (as_made s.core.shard (call_of change.call))) same g.answer_is)
          (subst (λ sh. register'.snapshot ≡ register_after (layout_of sh) register.snapshot (as_made s.core.shard (call_of change.call)) answer) same g.register_is)
          g.taken g.told g.sees;
    }

pub looks : (shape : Shape) (n : ℕ) (s t : ShardView) (at_work : List ℕ) (register : SharedRegister) → IsHandle shape n s → LooksUp s register.snapshot t
    → HandleLooks (handle s at_work) register (handle t at_work)
looks shape n s t at_work register x looked =
    record {
      looks = looked;
      at_work = refl;
      run = beside_seen (handle s at_work) (handle t at_work) looked.core register.snapshot (steps.Look register.snapshot) (there shape n s x) refl looked.looks.step looked.sees;
    }

pub hands_reply : (shape : Shape) (n : ℕ) (s t : ShardView) (at_work : List ℕ) (name : ℕ) (reply : Reply) → IsHandle shape n s → (world_shard s.core).calls ≡ [] → HandsBack s name reply t
    → HandleHandsReply (handle s at_work) name reply (handle t at_work)
hands_reply shape n s t at_work name reply x told back =
    record {
      told = told;
      taken = back;
      at_work = refl;
      run = λ register. beside_call (handle s at_work) (handle t at_work) register (steps.Take_reply back.id (reply_of reply)) (there shape n s x) (record {}) back.hands.step;
    }

pub turns : (shape : Shape) (n : ℕ) (s t : ShardView) (at_work : List ℕ) (k : Task) (turn : Turn) → IsHandle shape n s → TakesUp s k turn t → HandleTurns (handle s at_work) k turn (handle t at_work)
turns shape n s t at_work k turn x up =
    let e = turn_event s.core t.core k turn up.turns.taken in
    record {
      taken = up;
      at_work = refl;
      event = e.0;
      is_turn = e.1;
      run = λ register. beside_call (handle s at_work) (handle t at_work) register e.0 (there shape n s x) (plain_turn register k turn e.0 e.1) e.2;
    }

-- a call comes at the register from outside
pub register_takes : (old new : SharedRegister) (call : RegisterCall) (answer : RegisterAnswer) → IsOfOutside call → answer_to (layout_of old.geometry) old.snapshot call ≡ Ok answer
    → new.geometry ≡ old.geometry → new.snapshot ≡ register_after (layout_of old.geometry) old.snapshot call (Ok answer) → RegisterTakes old call answer new
register_takes old new call answer outside is shape e =
    record {
      answer_is = is;
      shape = shape;
      holds = e;
      run = λ h same.
          subst (Rattle.r6_array.specs.HandleRuns.GoesOnBeside h old.snapshot (Rattle.r6_core.specs.Runs.Outside call ∷ []) h)
          (ap (λ sh. register_after (layout_of sh) old.snapshot call (Ok answer)) same ∙ sym e)
          (beside_outside h old.snapshot call answer outside (subst (λ sh. answer_to (layout_of sh) old.snapshot call ≡ Ok answer) (sym same) is));
    }
