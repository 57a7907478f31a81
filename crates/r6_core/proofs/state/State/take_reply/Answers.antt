use Rattle.std.proofs.Common.{◌≡◌, [], ◌∷◌, ◌-◌, true, false, ℕ, drop, take, refl, sym, ap, subst, ◌∙◌, arith}
use Rattle.std.specs.Prelude.{nat_lt}
use Rattle.std.proofs.lemmas.Bool.{ltb-false}
use Rattle.std.proofs.lemmas.List.{drop_all, take_all}
use Rattle.circular_buffer.specs.Buffer.{Buffer}
use Rattle.r6_world.specs.declared.values.Request.{Request}
use Rattle.r6_world.specs.Steps.{No_reply}
use Rattle.r6_world.specs.Values.{reply_of}
use Rattle.r6_core.specs.Shards.{Step, core_of}
use Rattle.r6_core.specs.Inside.{IsCore, IsSettled}
use Rattle.r6_core.proofs.Known.{at_none, if_none}
use Rattle.r6_core.proofs.Replies.{some_popped, none_popped, unpopped, no_reply, marked_by, reply_brings, reply_core, reply_first, reply_step}
use Rattle.r6_core.specs.Order.{HasNoReply}
use Rattle.r6_core.proofs.state.State.take_reply.Goals as goal
use Rattle.r6_core.proofs.state.State.take_reply.Goals.{else-not-is_released-via-then-not-is_released+else-not-saw_failed, else-not-is_released-via-else-not-is_released}

pub returns-then-not-saw_failed-clause-step : goal.returns-then-not-saw_failed-clause-step
returns-then-not-saw_failed-clause-step c =
    let s = c.args.self.now in
    let none : s.released ≡ 0 = omega (arith, c.if-not-is_released.true) in
    let unfailed = sym c.saw_failed.ensures ∙ c.if-not-saw_failed.true in
    no_reply s (ap (λ n. take n s.replies.items) none, λ failed. absurd (cc))

pub returns-in_err-request-clause-step : goal.returns-in_err-request-clause-step
returns-in_err-request-clause-step c =
    let s = c.args.self.now in
    let none = sym c.pop_front.ensures.value ∙ c.in_err-request.was in
    let empty = (none_popped s.replies.items none).0 in
    at_none _ _ _ c.from_residual.ensures
    (subst (λ (rest : Buffer Request). Step (core_of s) No_reply (core_of (record s { replies = rest }))) (sym (unpopped s.replies c.pop_front.new.self none c.pop_front.ensures.items))
    (no_reply s (ap (take s.released) empty ∙ take_all s.released [] (omega arith), λ failed. ap (drop s.released) empty ∙ drop_all s.released [] (omega arith))))

is_first : (c : goal.After-reply) → c.args.self.now.replies.items ≡ c.in_ok-request.request ∷ c.pop_front.new.self.items
is_first c =
    some_popped c.args.self.now.replies.items c.in_ok-request.request (sym c.pop_front.ensures.value ∙ c.in_ok-request.was)
    ∙ ap (λ (b : Buffer Request). c.in_ok-request.request ∷ b.items) (sym c.pop_front.ensures.items)

-- one that isn't released has failed
has_failed : (c : goal.After-reply) → nat_lt 0 c.args.self.now.released ≡ false → c.args.self.now.frames.saw_failed ≡ true
has_failed c none =
    let le = ltb-false 0 c.args.self.now.released none in
    elim c.else-not-is_released.branch [
      | else-not-is_released-via-then-not-is_released+else-not-saw_failed w ↦ sym w.saw_failed.ensures ∙ w.if-not-saw_failed.false
      | else-not-is_released-via-else-not-is_released w ↦ absurd (omega (arith, le, w.if-not-is_released.false))
    ]

pub returns-clause-core : goal.returns-clause-core
returns-clause-core c =
    let s = c.args.self.now in
    let core = reply_core s (nat_lt 0 s.released) c.in_ok-request.request c.pop_front.new.self c.requires.settled (is_first c) (marked_by s.released) (has_failed c)
    (ap (λ (b : Buffer Request). b.capacity) c.pop_front.ensures.items) in
    record {
      settled = subst (λ (n : ℕ). IsSettled (record s { replies = c.pop_front.new.self; released = n; unanswered = s.unanswered - 1 })) (sym c.saturating_sub-self.ensures) core;
      waits = c.requires.waits;
    }

pub returns-clause-step : goal.returns-clause-step
returns-clause-step c =
    let s = c.args.self.now in
    let step = reply_step s (nat_lt 0 s.released) c.in_ok-request.request c.pop_front.new.self c.requires.settled (is_first c) (marked_by s.released) (has_failed c) in
    rw (c.saturating_sub-self.ensures, c.reply.ensures.0, ap reply_of c.reply.ensures.1) step

pub returns-clause-first : goal.returns-clause-first
returns-clause-first c =
    let s = c.args.self.now in
    let first = reply_first s (nat_lt 0 s.released) c.in_ok-request.request c.pop_front.new.self c.requires.settled (is_first c) (marked_by s.released) (has_failed c) in
    rw (c.saturating_sub-self.ensures, c.reply.ensures.0, c.reply.ensures.1) first

pub returns-clause-buffer : goal.returns-clause-buffer
returns-clause-buffer c =
    let s = c.args.self.now in
    let brings = reply_brings s (nat_lt 0 s.released) c.in_ok-request.request c.pop_front.new.self c.requires.settled (is_first c) (marked_by s.released) (has_failed c) in
    rw (c.reply.ensures.0, c.reply.ensures.1) brings

pub returns-then-not-saw_failed-clause-core : goal.returns-then-not-saw_failed-clause-core
returns-then-not-saw_failed-clause-core c = c.requires

pub returns-then-not-saw_failed-clause-waiting : goal.returns-then-not-saw_failed-clause-waiting
returns-then-not-saw_failed-clause-waiting c = refl

pub returns-then-not-saw_failed-clause-same : goal.returns-then-not-saw_failed-clause-same
returns-then-not-saw_failed-clause-same c = (refl, refl)

pub returns-then-not-saw_failed-clause-buffer : goal.returns-then-not-saw_failed-clause-buffer
returns-then-not-saw_failed-clause-buffer c = tt

pub returns-then-not-saw_failed-clause-sized : goal.returns-then-not-saw_failed-clause-sized
returns-then-not-saw_failed-clause-sized c = tt

pub returns-then-not-saw_failed-clause-unanswered : goal.returns-then-not-saw_failed-clause-unanswered
returns-then-not-saw_failed-clause-unanswered c = tt

pub returns-then-not-saw_failed-clause-first : goal.returns-then-not-saw_failed-clause-first
returns-then-not-saw_failed-clause-first c =
    let s = c.args.self.now in
    let none : s.released ≡ 0 = omega (arith, c.if-not-is_released.true) in
    let unfailed = sym c.saw_failed.ensures ∙ c.if-not-saw_failed.true in
    ((ap (λ n. take n s.replies.items) none, λ failed. absurd (cc)), refl)

pub returns-in_err-request-clause-core : goal.returns-in_err-request-clause-core
returns-in_err-request-clause-core c =
    let s = c.args.self.now in
    let none = sym c.pop_front.ensures.value ∙ c.in_err-request.was in
    subst (λ (rest : Buffer Request). IsCore (record s { replies = rest })) (sym (unpopped s.replies c.pop_front.new.self none c.pop_front.ensures.items)) c.requires

pub returns-in_err-request-clause-first : goal.returns-in_err-request-clause-first
returns-in_err-request-clause-first c =
    let s = c.args.self.now in
    let none = sym c.pop_front.ensures.value ∙ c.in_err-request.was in
    let empty = (none_popped s.replies.items none).0 in
    at_none _ _ _ c.from_residual.ensures
    (subst (λ (rest : Buffer Request). HasNoReply (core_of s) × (record s { replies = rest } ≡ s)) (sym (unpopped s.replies c.pop_front.new.self none c.pop_front.ensures.items))
    ((ap (take s.released) empty ∙ take_all s.released [] (omega arith), λ failed. ap (drop s.released) empty ∙ drop_all s.released [] (omega arith)), refl))

pub returns-in_err-request-clause-waiting : goal.returns-in_err-request-clause-waiting
returns-in_err-request-clause-waiting c = refl

pub returns-in_err-request-clause-same : goal.returns-in_err-request-clause-same
returns-in_err-request-clause-same c = (refl, refl)

pub returns-clause-waiting : goal.returns-clause-waiting
returns-clause-waiting c = refl

pub returns-clause-same : goal.returns-clause-same
returns-clause-same c = (refl, refl)

pub returns-in_err-request-clause-buffer : goal.returns-in_err-request-clause-buffer
returns-in_err-request-clause-buffer c = if_none _ _ c.from_residual.ensures

pub returns-in_err-request-clause-sized : goal.returns-in_err-request-clause-sized
returns-in_err-request-clause-sized c = if_none _ _ c.from_residual.ensures

pub returns-in_err-request-clause-unanswered : goal.returns-in_err-request-clause-unanswered
returns-in_err-request-clause-unanswered c = if_none _ _ c.from_residual.ensures
