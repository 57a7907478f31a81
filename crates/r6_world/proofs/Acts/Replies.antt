-- A request that has its reply keeps it.
use Rattle.std.proofs.Common.{◌≡◌, ℕ, List, [], ◌∷◌, true, inl, inr, refl, sym, ap, ◌∙◌, subst, Option, Some}
use Rattle.std.proofs.lemmas.Bool.{cases_eq, cases_Bool, false≢true}
use Rattle.r6_world.specs.PlainArray.{Op, Read, Write}
use Rattle.r6_world.specs.Layouts.{Layout}
use Rattle.r6_world.specs.Tasks.{serves, Outcome, Answered, Wrote, Rebuilt, GivenUp, Classed, Skipped}
use Rattle.r6_world.specs.ShardStates.{Shard, Request, Stage, Waiting, Erred, Held, Finished, Released, Reading}
use Rattle.r6_world.specs.Changes.{Change, Start, Ask, Prepare, Classify, Send, Finish, Bring_in, Allowed, after, outcome_reply, finished, finished_stage, released, released_stage, Read_direct, Fix, Ask_again, Copy}
use Rattle.r6_world.specs.Steps.{Scans, GoesOn, Leads}
use Rattle.r6_world.specs.ActingPoints.{is_served}
use Rattle.r6_world.proofs.Tables.{put-other}
use Rattle.r6_world.proofs.Acts.Requests.{IsBack, request_at, same_stage, finished-own, start-waits, held_now-other}

-- a request that has its reply keeps it while holds go on and requests start
abbrev pub HasReply : Option Request → Type 0
HasReply o = (op : Op) × (stage : Stage) × (o ≡ Some (request_at op stage)) × (is_served stage ≡ true)

ended-reply : (f : ℕ) (outcome : Outcome) (op : Op) (stage : Stage) → is_served stage ≡ true → finished_stage f outcome op stage ≡ stage
ended-reply f outcome op Waiting e = absurd (false≢true e)
ended-reply f outcome op Erred e = absurd (false≢true e)
ended-reply f outcome op (Held g) e = absurd (false≢true e)
ended-reply f outcome op (Reading t) e = refl
ended-reply f outcome op (Finished reply) e = refl
ended-reply f outcome op (Released reply) e = refl

released-reply : (stage : Stage) → is_served stage ≡ true → is_served (released_stage stage) ≡ true
released-reply Waiting e = e
released-reply Erred e = e
released-reply (Held g) e = e
released-reply (Reading t) e = e
released-reply (Finished reply) e = e
released-reply (Released reply) e = e

pub releases-reply : (o : Option Request) → HasReply o → HasReply (released o)
releases-reply o x = (x.0, released_stage x.1, ap released x.2, released-reply x.1 x.3)

pub waits-not-served : is_served Waiting ≡ true → ⊥
waits-not-served e = false≢true e

pub back-not-served : (stage : Stage) → IsBack stage → is_served stage ≡ true → ⊥
back-not-served stage (inl b) e = false≢true (ap is_served (sym b) ∙ e)
back-not-served stage (inr b) e = false≢true (ap is_served (sym b) ∙ e)

-- what a hold's end gives its requests
served-outcome : (outcome : Outcome) (op : Op) → is_served (Finished (outcome_reply outcome op)) ≡ true
served-outcome (Answered b) (Read block) = refl
served-outcome (Answered b) (Write block new_data) = refl
served-outcome Wrote op = refl
served-outcome Rebuilt op = refl
served-outcome GivenUp op = refl
served-outcome (Classed class) op = refl
served-outcome Skipped op = refl

pub ends-served : (f : ℕ) (outcome : Outcome) (request : ℕ → Option Request) (id : ℕ) (op : Op) → request id ≡ Some (request_at op (Held f)) → HasReply (finished f outcome (request id))
ends-served f outcome request id op e =
    (op, Finished (outcome_reply outcome op), ap (finished f outcome) e ∙ ap (λ y. Some (request_at op y)) (finished-own f f outcome op refl), served-outcome outcome op)

module _ (l : Layout) (n : ℕ) where
  pub reply-goes : (s : Shard) (change : Change) (id : ℕ) → GoesOn change → HasReply (s.request id) → HasReply ((after l s change).request id)
  reply-goes s (Ask f h slot g) id k x = x
  reply-goes s (Prepare f h event) id k x = x
  reply-goes s (Classify f h class) id k x = x
  reply-goes s (Send f h slot g b) id k x = x
  reply-goes s (Copy f h slot g b) id k x = x
  reply-goes s (Fix f h slot g b) id k x = x
  reply-goes s (Ask_again f h slot g) id k x = x
  reply-goes s (Finish f h outcome) id k x = (x.0, x.1, ap (finished f outcome) x.2 ∙ ap (λ y. Some (request_at x.0 y)) (ended-reply f outcome x.0 x.1 x.3), x.3)
  reply-goes s (Bring_in slot g) id k x = x
  reply-goes s change id k x = absurd k

  pub replies-go : (changes : List Change) (s new : Shard) (id : ℕ) → Leads l n GoesOn s changes new → HasReply (s.request id) → HasReply (new.request id)
  replies-go [] s new id e x = subst (λ (y : Shard). HasReply (y.request id)) (sym e) x
  replies-go (change ∷ changes) s new id e x = replies-go changes (after l s change) new id e.2 (reply-goes s change id e.0 x)

  pub reply-scans : (s : Shard) (change : Change) (id : ℕ) → Scans change → Allowed l n s change → HasReply (s.request id) → HasReply ((after l s change).request id)
  reply-scans s (Start f row task) id k a x =
      elim (cases_Bool (serves task id)) [
        | inl mine ↦
            let waits = start-waits l s row id task a.4 mine in
            absurd (back-not-served waits.1 waits.2 (ap is_served (sym (same_stage _ _ _ _ (sym x.2 ∙ waits.3)).1) ∙ x.3))
        | inr other ↦ (x.0, x.1, held_now-other s.request task f id other ∙ x.2, x.3)
      ]
  reply-scans s (Ask f h slot g) id k a x = x
  reply-scans s (Prepare f h event) id k a x = x
  reply-scans s (Send f h slot g b) id k a x = x
  reply-scans s (Copy f h slot g b) id k a x = x
  reply-scans s (Read_direct buffer own block g) id k a x =
      elim (cases_eq id own) [
        | inl same ↦ absurd (waits-not-served (ap is_served (sym (same_stage _ _ _ _ (sym (subst (λ y. s.request y ≡ Some (request_at x.0 x.1)) same x.2) ∙ a.1)).1) ∙ x.3))
        | inr ne ↦ (x.0, x.1, put-other s.request own _ id ne ∙ x.2, x.3)
      ]
  reply-scans s change id k a x = absurd k

  pub replies-scan : (changes : List Change) (s new : Shard) (id : ℕ) → Leads l n Scans s changes new → HasReply (s.request id) → HasReply (new.request id)
  replies-scan [] s new id e x = subst (λ (y : Shard). HasReply (y.request id)) (sym e) x
  replies-scan (change ∷ changes) s new id e x = replies-scan changes (after l s change) new id e.2 (reply-scans s change id e.0 e.1 x)
