-- What each event of a shard keeps.
use Rattle.std.proofs.Common.{◌≡◌, ◌≢◌, ℕ, ◌+◌, ◌<◌, ◌≤◌, ◌∷◌, Bool, true, false, inl, inr, refl, sym, ap, ◌∙◌, subst, arith, Some, None, Err}
use Rattle.std.proofs.lemmas.Bool.{cases_eq}
use Rattle.r6_world.specs.Tables.{put}
use Rattle.r6_world.specs.PlainArray.{Op, Reply}
use Rattle.r6_world.specs.Layouts.{Layout}
use Rattle.r6_world.specs.Registers.{Snapshot, Contended, Told as Answer}
use Rattle.r6_world.specs.ShardStates.{Shard, Command, Call}
use Rattle.r6_world.specs.Tasks.{Task}
use Rattle.r6_world.specs.Changes.{Change, Accept, Start, Give_direct, Learn, Confirm, Fail, Set_back, Come_home, Lose, See_failed, Release, Skip_turn, Allowed, after, without, read_on}
use Rattle.r6_world.specs.Steps.{Completion, Good, Error, Read_error, Receipt, Taken, Late, Takes, Looks, Step, Submit, Deliver, Look, Turn_started, Turn_skipped, Take_command, No_command, Take_call, No_call, Told, Take_reply, No_reply}
use Rattle.r6_world.proofs.Tables.{put-same, put-other, Some-inj, not_both}
use Rattle.r6_array.specs.Inside.{AreTakenBelow}
use Rattle.r6_array.proofs.Inner.{Keeps, same, then, goes, all_abandoned, inner, scans, goes_on, takes_over, calls_stay}

-- a request is accepted: no other comes
pub record Enters (old : Shard) (id : ℕ) (new : Shard) : Type 0 where
  pub number : id ≡ old.accepted
  pub accepted : new.accepted ≡ old.accepted + 1
  pub gone : (k : ℕ) → k ≢ id → old.request k ≡ None → new.request k ≡ None
  pub untold : new.untold ≡ old.untold
  pub calls : new.calls ≡ old.calls
  pub taken : (next : ℕ) → AreTakenBelow next old → AreTakenBelow next new

pub same_commands : (next : ℕ) (s new : Shard) → new.tokens ≡ s.tokens → new.command ≡ s.command → AreTakenBelow next s → AreTakenBelow next new
same_commands next s new tokens commands x =
    let at : (t : ℕ) → new.command t ≡ s.command t = λ t. ap (λ f. f t) commands in
    record {
      within = let w = x.within in omega (arith, tokens);
      untaken = λ t from below. let u = x.untaken t from (let b = below in omega (arith, tokens)) in (u.0, at t ∙ u.1, u.2);
      taken = λ t c e f. x.taken t c (sym (at t) ∙ e) f;
      there = λ t c e. let b = x.there t c (sym (at t) ∙ e) in omega (arith, tokens);
    }

pub submitted : (l : Layout) (n : ℕ) (old : Shard) (op : Op) (id : ℕ) (new : Shard) → Step l n old (Submit op id) new → Enters old id new
submitted l n old op id new st =
    let first = after l old (Accept op) in
    let k = scans l n first new st.2 in
    record {
      number = st.0;
      accepted = k.accepted;
      gone = λ i ne e. k.gone i (put-other old.request old.accepted _ i (λ same. ne (same ∙ sym st.0)) ∙ e);
      untold = k.untold;
      calls = calls_stay l n first new st.2;
      taken = λ next x. k.taken next (same_commands next old first refl refl x);
    }

-- ---- completions

removed : (l : Layout) (old new : Shard) (token : ℕ) (c : Command) → old.command token ≡ Some c → c.taken ≡ true → new.tokens ≡ old.tokens → new.command ≡ put old.command token None
    → new.accepted ≡ old.accepted → ((id : ℕ) → old.request id ≡ None → new.request id ≡ None) → new.untold ≡ old.untold → Keeps old new
removed l old new token c there taken tokens commands accepted gone untold =
    record { accepted = accepted; gone = gone; untold = untold; taken = λ next x. goes next token old new c there taken tokens commands x }

lost : (l : Layout) (old : Shard) (token : ℕ) (c : Command) → old.command token ≡ Some c → c.taken ≡ true → Keeps old (after l old (Lose token c))
lost l old token c there taken =
    record {
      accepted = refl;
      gone = λ id e. ap (read_on _) e;
      untold = refl;
      taken = λ next x.
          all_abandoned _ c.slot (without (old.slot c.slot) c.generation) next (record old { command = put old.command token None }) (after l old (Lose token c)) refl (λ t. refl)
          (goes next token old (record old { command = put old.command token None }) c there taken refl refl x);
    }

opens : (l : Layout) (n : ℕ) (old : Shard) (token : ℕ) (completion : Completion) (receipt : Receipt) (change : Change) → Takes l old token completion receipt change
    → Allowed l n old change → Keeps old (after l old change)
opens l n old token (Good b) Taken (Learn t c h b') k a =
    removed l old (after l old (Learn t c h b')) t c a.0 k.2 refl refl refl (λ id e. e) refl
opens l n old token (Good b) Taken (Confirm t c h) k a =
    removed l old (after l old (Confirm t c h)) t c a.0 k.1 refl refl refl (λ id e. e) refl
opens l n old token (Good b) Taken (Give_direct t c i block b') k a =
    removed l old (after l old (Give_direct t c i block b')) t c a.0 k.2 refl refl refl
    (λ id e. put-other old.request i _ id (λ same. not_both (old.request id) _ e (ap old.request same ∙ a.2)) ∙ e) refl
opens l n old token Error Taken (Lose t c) k a = lost l old t c a.0 k.1
opens l n old token Read_error Taken (Fail t c h) k a = removed l old (after l old (Fail t c h)) t c a.0 k.1 refl refl refl (λ id e. e) refl
opens l n old token Read_error Taken (Set_back t c i block) k a =
    removed l old (after l old (Set_back t c i block)) t c a.0 k.1 refl refl refl
    (λ id e. put-other old.request i _ id (λ same. not_both (old.request id) _ e (ap old.request same ∙ a.2)) ∙ e) refl
opens l n old token Read_error Taken (Lose t c) k a = lost l old t c a.0 k.1
opens l n old token (Good b) Late (Come_home t c) k a = removed l old (after l old (Come_home t c)) t c a.0 k.1 refl refl refl (λ id e. e) refl
opens l n old token Error Late (Come_home t c) k a = removed l old (after l old (Come_home t c)) t c a.0 k.1 refl refl refl (λ id e. e) refl
opens l n old token Read_error Late (Come_home t c) k a = removed l old (after l old (Come_home t c)) t c a.0 k.1 refl refl refl (λ id e. e) refl
opens l n old token completion receipt change k a = absurd k

pub delivered : (l : Layout) (n : ℕ) (old : Shard) (token : ℕ) (completion : Completion) (receipt : Receipt) (new : Shard) → Step l n old (Deliver token completion receipt) new → Keeps old new
delivered l n old token completion receipt new st =
    then old (after l old st.0) new (opens l n old token completion receipt st.0 st.1 st.2)
    (then (after l old st.0) st.3 new (goes_on l n (after l old st.0) st.3 st.4) (scans l n st.3 new st.5))

-- ---- looks and turns

sees : (l : Layout) (n : ℕ) (failed : Bool) (mid new : Shard) → Looks l n failed mid new → Keeps mid new
sees l n true mid new x = subst (Keeps mid) (sym x) (inner l n mid See_failed (record {}) (record {}))
sees l n false mid new x =
    then mid x.0 new (goes_on l n mid x.0 x.1)
    (then x.0 (after l x.0 Release) new (inner l n x.0 Release (record {}) (record {})) (scans l n (after l x.0 Release) new x.2))

pub looked : (l : Layout) (n : ℕ) (old : Shard) (seen : Snapshot) (new : Shard) → Step l n old (Look seen) new → Keeps old new
looked l n old seen new st = then old st.2 new (takes_over l n seen old st.2 st.3) (sees l n seen.failed st.2 new st.5)

-- and no call is made by a turn
pub started : (l : Layout) (n : ℕ) (old : Shard) (f row : ℕ) (task : Task) (new : Shard) → Allowed l n old (Start f row task)
    → Rattle.r6_world.specs.Steps.Through l n Rattle.r6_world.specs.Steps.Scans (after l old (Start f row task)) new → Keeps old new × (new.calls ≡ old.calls)
started l n old f row task new a t = (
  then old (after l old (Start f row task)) new (inner l n old (Start f row task) (record {}) a) (scans l n (after l old (Start f row task)) new t),
  calls_stay l n (after l old (Start f row task)) new t,
)

pub turned : (l : Layout) (n : ℕ) (old : Shard) (task : Task) (new : Shard) → Step l n old (Turn_started task) new → Keeps old new × (new.calls ≡ old.calls)
turned l n old task new st = started l n old st.1 st.2 task new st.3 st.4

pub skipped : (l : Layout) (n : ℕ) (old : Shard) (task : Task) (row : ℕ) (new : Shard) → Step l n old (Turn_skipped task row) new → Keeps old new × (new.calls ≡ old.calls)
skipped l n old task row new st = (
  then old (after l old (Skip_turn task row)) new (inner l n old (Skip_turn task row) (record {}) st.0) (scans l n (after l old (Skip_turn task row)) new st.1),
  calls_stay l n (after l old (Skip_turn task row)) new st.1,
)

-- ---- takings

-- the command that is taken is the one of this token
pub record Hands (old : Shard) (token : ℕ) (new : Shard) : Type 0 where
  pub accepted : new.accepted ≡ old.accepted
  pub request : new.request ≡ old.request
  pub untold : new.untold ≡ old.untold
  pub calls : new.calls ≡ old.calls
  pub number : (next : ℕ) → AreTakenBelow next old → token ≡ next
  pub taken : (next : ℕ) → AreTakenBelow next old → AreTakenBelow (next + 1) new

pub handed : (l : Layout) (n : ℕ) (old : Shard) (token : ℕ) (c : Command) (new : Shard) → Step l n old (Take_command token c) new
    → ((t : ℕ) (d : Command) → old.command t ≡ Some d → d.taken ≡ false → token ≤ t) → Hands old token new
handed l n old token c new st oldest =
    let at : (t : ℕ) → new.command t ≡ put old.command token _ t = λ t. ap (λ (s : Shard). s.command t) st.1 in
    let tokens : new.tokens ≡ old.tokens = ap (λ (s : Shard). s.tokens) st.1 in
    let number : (next : ℕ) → AreTakenBelow next old → token ≡ next = λ next x.
    let from : next ≤ token = x.taken token c st.0.0 st.0.1 in
    let below : token < old.tokens = x.there token c st.0.0 in
    let u = x.untaken next (omega arith) (omega arith) in
    let to : token ≤ next = oldest next u.0 u.1 u.2 in omega arith in
    record {
      accepted = ap (λ (s : Shard). s.accepted) st.1;
      request = ap (λ (s : Shard). s.request) st.1;
      untold = ap (λ (s : Shard). s.untold) st.1;
      calls = ap (λ (s : Shard). s.calls) st.1;
      number = number;
      taken = λ next x.
          let is : token ≡ next = number next x in
          let below : token < old.tokens = x.there token c st.0.0 in
          record {
            within = omega arith;
            untaken = λ t from under.
                let u = x.untaken t (omega arith) (omega arith) in
                (u.0, at t ∙ put-other old.command token _ t (λ same. absurd (omega arith)) ∙ u.1, u.2);
            taken = λ t d e f. elim (cases_eq t token) [
              | inl same ↦
                  let is_d = Some-inj _ d (sym (put-same old.command token _ t same) ∙ sym (at t) ∙ e) in
                  let clash : true ≡ false = ap (λ (b : Command). b.taken) is_d ∙ f in absurd (cc)
              | inr ne ↦
                  let from = x.taken t d (sym (put-other old.command token _ t ne) ∙ sym (at t) ∙ e) f in omega (arith, from)
            ];
            there = λ t d e. elim (cases_eq t token) [
              | inl same ↦ omega arith
              | inr ne ↦ let b = x.there t d (sym (put-other old.command token _ t ne) ∙ sym (at t) ∙ e) in omega arith
            ];
          };
    }

-- where every command was taken, so many tokens were given
pub all_taken : (l : Layout) (n : ℕ) (old new : Shard) (next : ℕ) → Step l n old No_command new → AreTakenBelow next old → next < old.tokens → ⊥
all_taken l n old new next st x below =
    let u = x.untaken next (omega arith) below in
    let clash : true ≡ false = sym (st.0 next u.0 u.1) ∙ u.2 in cc

pub none_untaken : (s : Shard) (next : ℕ) → AreTakenBelow next s → next ≡ s.tokens → (t : ℕ) (c : Command) → s.command t ≡ Some c → c.taken ≡ true
none_untaken s next x e t c is = taken_or c.taken refl
  where
    taken_or : (b : Bool) → c.taken ≡ b → c.taken ≡ true
    taken_or true h = h
    taken_or false h = absurd (let a = x.there t c is in let b = x.taken t c is h in omega arith)

pub record Answers (old : Shard) (id : ℕ) (new : Shard) : Type 0 where
  pub accepted : new.accepted ≡ old.accepted
  pub own : new.request id ≡ None
  pub others : (k : ℕ) → k ≢ id → new.request k ≡ old.request k
  pub untold : new.untold ≡ old.untold
  pub calls : new.calls ≡ old.calls
  pub taken : (next : ℕ) → AreTakenBelow next old → AreTakenBelow next new

pub replied : (l : Layout) (n : ℕ) (old : Shard) (id : ℕ) (reply : Reply) (new : Shard) → Step l n old (Take_reply id reply) new → Answers old id new
replied l n old id reply new st =
    let at : (k : ℕ) → new.request k ≡ put old.request id None k = λ k. ap (λ (s : Shard). s.request k) st.2 in
    record {
      accepted = ap (λ (s : Shard). s.accepted) st.2;
      own = at id ∙ put-same old.request id None id refl;
      others = λ k ne. at k ∙ put-other old.request id None k ne;
      untold = ap (λ (s : Shard). s.untold) st.2;
      calls = ap (λ (s : Shard). s.calls) st.2;
      taken = λ next x. same_commands next old new (ap (λ (s : Shard). s.tokens) st.2) (ap (λ (s : Shard). s.command) st.2) x;
    }

-- ---- calls

-- a call that is taken and put back leaves the shard as it was
pub put_back_same : (l : Layout) (n : ℕ) (old middle new : Shard) (call : Call) → Step l n old (Take_call call) middle → Step l n middle (Told call (Err Contended)) new
    → new ≡ old
put_back_same l n old middle new call st ts =
    let here : new ≡ record old { untold = None; calls = call ∷ st.0 } = ts.1 ∙ ap (λ (s : Shard). record s { untold = None; calls = call ∷ s.calls }) st.2 in
    here ∙ (λ i. record old { untold = sym st.1.1 i; calls = sym st.1.0 i })

-- told, the shard goes on with those behind
pub record Tells (old : Shard) (new : Shard) : Type 0 where
  pub accepted : new.accepted ≡ old.accepted
  pub request : new.request ≡ old.request
  pub untold : new.untold ≡ None
  pub taken : (next : ℕ) → AreTakenBelow next old → AreTakenBelow next new

pub told : (l : Layout) (n : ℕ) (old middle new : Shard) (call : Call) (answer : Answer) → Step l n old (Take_call call) middle → Step l n middle (Told call answer) new → Tells old new
told l n old middle new call answer st ts =
    record {
      accepted = ap (λ (s : Shard). s.accepted) ts.1 ∙ ap (λ (s : Shard). s.accepted) st.2;
      request = ap (λ (s : Shard). s.request) ts.1 ∙ ap (λ (s : Shard). s.request) st.2;
      untold = ap (λ (s : Shard). s.untold) ts.1;
      taken = λ next x.
          same_commands next old new (ap (λ (s : Shard). s.tokens) ts.1 ∙ ap (λ (s : Shard). s.tokens) st.2)
          (ap (λ (s : Shard). s.command) ts.1 ∙ ap (λ (s : Shard). s.command) st.2) x;
    }
