-- What ties a call to its caller's values, each by one equation of `Step`.
use Rattle.std.proofs.Common.{◌≡◌, ℕ, ◌+◌, ◌<◌, List, [], ◌∷◌, length, true, refl, sym, ap, subst, ◌∙◌, arith, Some, None}
use Rattle.r6_world.specs.Layouts.{Layout}
use Rattle.r6_world.specs.PlainArray.{Op, Reply}
use Rattle.r6_world.specs.ShardStates.{Command, Shard, Waiting, handed}
use Rattle.r6_world.specs.Changes.{Change, Accept, Learn, Confirm, Fail, Set_back, Give_direct, Lose, Come_home, Allowed, after}
use Rattle.r6_world.specs.Steps.{Completion, Event, Good, Error, Read_error, Receipt, Taken, Late, Submit, Submit_all, MayEnter, entered, Take_reply, No_command, Scans, Step, Takes, Through}
use Rattle.r6_world.specs.Ties.{AreOpenFor, IsOpenFor, TiesLaw}
use Rattle.r6_world.proofs.Acts.Unfailed.{Stands, standing-kept, count-kept}
use Rattle.r6_world.proofs.Changes.{enter-kept, step-kept, through-scans}
use Rattle.r6_world.proofs.Tables.{put-same, put-other}

-- the command of a completion
of_command : (l : Layout) (n : ℕ) (s : Shard) (t : ℕ) (completion : Completion) (receipt : Receipt) (change : Change) → Takes l s t completion receipt change
    → Allowed l n s change → (c : Command) × (s.command t ≡ Some c) × (c.taken ≡ true)
of_command l n s t (Good b) Taken (Learn token c h learned) takes a = (c, subst (λ (u : ℕ). s.command u ≡ Some c) takes.0 a.0, takes.2)
of_command l n s t (Good b) Taken (Give_direct token c id block given) takes a = (c, subst (λ (u : ℕ). s.command u ≡ Some c) takes.0 a.0, takes.2)
of_command l n s t (Good b) Taken (Confirm token c h) takes a = (c, subst (λ (u : ℕ). s.command u ≡ Some c) takes.0 a.0, takes.1)
of_command l n s t Error Taken (Lose token c) takes a = (c, subst (λ (u : ℕ). s.command u ≡ Some c) takes.0 a.0, takes.1)
of_command l n s t Read_error Taken (Fail token c h) takes a = (c, subst (λ (u : ℕ). s.command u ≡ Some c) takes.0 a.0, takes.1)
of_command l n s t Read_error Taken (Set_back token c id block) takes a = (c, subst (λ (u : ℕ). s.command u ≡ Some c) takes.0 a.0, takes.1)
of_command l n s t Read_error Taken (Lose token c) takes a = (c, subst (λ (u : ℕ). s.command u ≡ Some c) takes.0 a.0, takes.1)
of_command l n s t (Good b) Late (Come_home token c) takes a = (c, subst (λ (u : ℕ). s.command u ≡ Some c) takes.0 a.0, takes.1)
of_command l n s t Error Late (Come_home token c) takes a = (c, subst (λ (u : ℕ). s.command u ≡ Some c) takes.0 a.0, takes.1)
of_command l n s t Read_error Late (Come_home token c) takes a = (c, subst (λ (u : ℕ). s.command u ≡ Some c) takes.0 a.0, takes.1)
of_command l n s t completion receipt change takes a = absurd takes

-- what waiting requests start with leaves each request what it is
scans_keep : (l : Layout) (n : ℕ) (id : ℕ) (op : Op) (mid new : Shard) → Through l n Scans mid new → IsOpenFor mid id op → IsOpenFor new id op
scans_keep l n id op mid new scans held = through-scans l n (Stands id op) No_command (standing-kept l n id op No_command (λ is. is) (λ reply e. cc)) mid new scans held

all_kept : (l : Layout) (n : ℕ) (id : ℕ) (ops : List Op) (mid new : Shard) → Through l n Scans mid new → AreOpenFor mid id ops → AreOpenFor new id ops
all_kept l n id [] mid new scans held = record {}
all_kept l n id (op ∷ ops) mid new scans held = (scans_keep l n id op mid new scans held.0, all_kept l n (id + 1) ops mid new scans held.1)

-- so does what is accepted behind it
entered_keeps : (l : Layout) (n : ℕ) (id : ℕ) (op : Op) (ops : List Op) (s : Shard) → MayEnter l n s ops → id < s.accepted → IsOpenFor s id op → IsOpenFor (entered l s ops) id op
entered_keeps l n id op ops s may below held =
    (enter-kept l n (λ (y : Shard). (id < y.accepted) × IsOpenFor y id op) (λ y asked a x.
    let under = x.0 in
    (omega (arith, under), (x.1.0, put-other y.request y.accepted (Some (record { op = asked; stage = Waiting })) id (λ e. absurd (omega (arith, under, e))) ∙ x.1.1))) ops s may (below, held)).1

all_open : (l : Layout) (n : ℕ) (ops : List Op) (s : Shard) → MayEnter l n s ops → AreOpenFor (entered l s ops) s.accepted ops
all_open l n [] s may = record {}
all_open l n (op ∷ ops) s may =
    let mid : Shard = after l s (Accept op) in (
      entered_keeps l n s.accepted op ops mid may.1 (omega arith) (Waiting, put-same s.request s.accepted (Some (record { op = op; stage = Waiting })) s.accepted refl),
      all_open l n ops mid may.1,
    )

all_counted : (l : Layout) (ops : List Op) (s : Shard) → (entered l s ops).accepted ≡ s.accepted + length ops
all_counted l [] s = omega arith
all_counted l (op ∷ ops) s = let rest = all_counted l ops (after l s (Accept op)) in omega (arith, rest)

kept_by : (l : Layout) (n : ℕ) (old new : Shard) (event : Event) (id : ℕ) (op : Op) → Step l n old event new → id < old.accepted → IsOpenFor old id op
    → ((reply : Reply) → event ≡ Take_reply id reply → ⊥) → IsOpenFor new id op
kept_by l n old new (Submit asked number) id op step below held untaken =
    let same = put-other old.request old.accepted (Some (record { op = asked; stage = Waiting })) id (λ e. absurd (omega (arith, below, e))) in
    scans_keep l n id op (after l old (Accept asked)) new step.2 (held.0, same ∙ held.1)
kept_by l n old new (Submit_all ops first) id op step below held untaken =
    scans_keep l n id op (entered l old ops) new step.2 (entered_keeps l n id op ops old step.1 below held)
kept_by l n old new event id op step below held untaken =
    step-kept l n (Stands id op) event (standing-kept l n id op event (λ is. is) untaken) old new step held

pub tied : TiesLaw
tied l n old new =
    record {
      submitted = λ op id step.
          let held : IsOpenFor (after l old (Accept op)) id op = (Waiting, put-same old.request old.accepted (Some (record { op = op; stage = Waiting })) id step.0) in
          let count = through-scans l n (λ s. s.accepted ≡ old.accepted + 1) No_command (count-kept l n (old.accepted + 1) No_command (λ is. is)) (after l old (Accept op)) new step.2 refl in
          (step.0, count, scans_keep l n id op (after l old (Accept op)) new step.2 held);
      together = λ ops first step.
          let count = through-scans l n (λ s. s.accepted ≡ old.accepted + length ops) No_command (count-kept l n (old.accepted + length ops) No_command (λ is. is)) (entered l old ops) new step.2 (all_counted l ops old) in
          let all = all_kept l n old.accepted ops (entered l old ops) new step.2 (all_open l n ops old step.1) in
          (step.0, count, subst (λ (id : ℕ). AreOpenFor new id ops) (sym step.0) all);
      kept = kept_by l n old new;
      taken = λ token c step.
          let out = record c { taken = true; transfer = handed c.transfer } in
          (step.0.0, step.0.1, (out, ap (λ (s : Shard). s.command token) step.1 ∙ put-same old.command token (Some out) token refl, refl));
      delivered = λ token completion receipt step. of_command l n old token completion receipt step.0 step.1 step.2;
      called = λ call step. (step.0, step.1.0, ap (λ (s : Shard). s.calls) step.2, ap (λ (s : Shard). s.untold) step.2);
      replied = λ id reply step. (step.0, step.1, ap (λ (s : Shard). s.request id) step.2 ∙ put-same old.request id None id refl);
    }
