-- Requests are handed in behind waits.
use Rattle.std.proofs.Common.{◌≡◌, ◌⊎◌, ℕ, ◌+◌, ◌-◌, ◌<◌, ◌≤◌, zero, suc, List, [], ◌∷◌, ◌++◌, length, inl, inr, refl, sym, ap, subst, ◌∙◌, arith, append_assoc, append-nil, Option, Some, None, slice_get, slice_index_or, option_map, option_and_then, is_some, false}
use Rattle.std.specs.List.{AllByRecursion}
use Rattle.std.proofs.lemmas.Bool.{cases_lt, false≢true}
use Rattle.std.proofs.lemmas.List.{length-append}
use Rattle.std.proofs.lemmas.List.Elements.{All-push}
use Rattle.std.proofs.lemmas.Option.{slice_get_within, slice_get-get_or}
use Rattle.r6_world.proofs.Tables.{Some-inj}
use Rattle.r6_world.specs.declared.values.Op.{Op}
use Rattle.r6_dev.specs.History.{Telling}
use Rattle.r6_dev.specs.Promises.{Promise}
use Rattle.r6_layout.specs.Shape.{Shape}
use Rattle.r6_engine.specs.lists.Events.{Event, Duty, Task, task, task_at, duty_of, waits_before}
use Rattle.r6_shard.specs.declared.ledger.Asked.{Asked}
use Rattle.r6_exchange.specs.declared.task.Part.{Part}
use Rattle.r6_shard.specs.declared.shard.Shard.{Shard}
use Rattle.r6_shard.specs.Behind.{IsBehindAll}
use Rattle.r6_shard.specs.declared.performs.Performs.{Ghosts}
use Rattle.r6_engine.specs.declared.runner.due.Due.{Due}
use Rattle.r6_engine.specs.declared.runner.due.Duty.TheVariants as duties
use Rattle.r6_engine.specs.declared.runner.runner.Runner.{Runner}
use Rattle.r6_engine.specs.runner.Runners.{IsPut, IsHandedIn}
use Rattle.r6_engine.specs.runner.Waits.{IsBehindWait, IsLastBehind, KnowWaits, AreAwaited, HasAwaited}
use Rattle.r6_engine.specs.runner.Together.{AreAmong, all_due}
use Rattle.r6_engine.proofs.RunnerLemmas.Together.{known-among}
use Rattle.r6_engine.proofs.RunnerLemmas.Done.{asked-on}

-- ---- a list with one more at its end

at-front : {A : Type 0} (xs ys : List A) (i : ℕ) → i < length xs → slice_get (xs ++ ys) i ≡ slice_get xs i
at-front [] ys i below = absurd (omega (arith, below))
at-front (x ∷ xs) ys zero below = refl
at-front (x ∷ xs) ys (suc i) below = at-front xs ys i (omega (arith, below))

at-seam : {A : Type 0} (xs : List A) (x : A) → slice_get (xs ++ x ∷ []) (length xs) ≡ Some x
at-seam [] x = refl
at-seam (y ∷ xs) x = at-seam xs x

record IsLast {A : Type 0} (xs : List A) (x : A) (i : ℕ) (y : A) : Type 0 where
  place : i ≡ length xs
  same : y ≡ x

-- what stands there is one of the others or the last
either : {A : Type 0} (xs : List A) (x : A) (i : ℕ) (y : A) → slice_get (xs ++ x ∷ []) i ≡ Some y
    → ((i < length xs) × (slice_get xs i ≡ Some y)) ⊎ IsLast xs x i y
either xs x i y at = elim (cases_lt i (length xs)) [
  | inl front ↦ inl (front, sym (at-front xs (x ∷ []) i front) ∙ at)
  | inr behind ↦
      let within = slice_get_within (xs ++ x ∷ []) i y at in
      let long = length-append xs (x ∷ []) in
      let place : i ≡ length xs = omega (arith, behind, within, long) in
      inr (record {
        place = place;
        same = sym (Some-inj x y (sym (at-seam xs x) ∙ ap (slice_get (xs ++ x ∷ [])) (sym place) ∙ at));
      })
]

behind-more : (asked : List Asked) (a : Asked) (number : ℕ) → IsBehindAll asked number → IsBehindAll (asked ++ a ∷ []) number
behind-more asked a number (b, at, all) =
    (b, at-front asked (a ∷ []) number (slice_get_within asked number b at) ∙ at, all)

-- ---- what is due

pub pushed : (events : List Event) (waits : ℕ) (asked : List Asked) (due : List Due) (d : Due) → d.waits ≡ waits_before events d.event
    → AreAwaited events waits asked due → AreAwaited events waits asked (due ++ d ∷ [])
pushed events waits asked due d is x = record {
  behind = x.behind;
  last = x.last;
  known = All-push (λ e. e.waits ≡ waits_before events e.event) due d x.known is;
}

pub first-known : (events : List Event) (waits : ℕ) (asked : List Asked) (d : Due) (due : List Due) → AreAwaited events waits asked (d ∷ due)
    → d.waits ≡ waits_before events d.event
first-known events waits asked d due x = x.known 0 d (omega arith)

pub popped : (events : List Event) (waits : ℕ) (asked : List Asked) (d : Due) (due : List Due) → AreAwaited events waits asked (d ∷ due)
    → AreAwaited events waits asked due
popped events waits asked d due x = record {
  behind = x.behind;
  last = x.last;
  known = λ k e below. x.known (suc k) e (omega (arith, below));
}

-- ---- what may begin

-- what is due first stands at the front
pub at-first : (due : List Due) (d front : Due) → front ≡ slice_index_or due 0 front → slice_get due 0 ≡ Some d → d ≡ front
at-first due d front is at =
    Some-inj d (slice_index_or due 0 front) (sym at ∙ slice_get-get_or due 0 front (slice_get_within due 0 d at)) ∙ sym is

-- no check or repair is under way
pub none_of : {A : Type 0} (o : Option A) → is_some o ≡ false → o ≡ None
none_of None is = refl
none_of (Some x) is = absurd (false≢true (sym is))

-- as many requests are open as have no answer
pub open-is : (asked entries : ℕ) (all answered unanswered : ℕ) → asked ≡ all → entries ≡ answered → unanswered + answered ≡ all
    → asked - entries ≡ unanswered
open-is asked entries all answered unanswered e e' counted = omega (arith, e, e', counted)

-- ---- a request is accepted

from-last : (events : List Event) (waits waits' replies : ℕ) (asked : List Asked) (a : Asked) → a.answered ≡ replies
    → (replies ≡ length asked) ⊎ (waits' ≡ waits) → IsLastBehind events waits asked
    → ((earlier later : ℕ) → earlier < later → IsBehindWait events asked earlier later)
    → (earlier : ℕ) (b : Asked) → slice_get asked earlier ≡ Some b → waits_before events b.event < waits'
    → (number : ℕ) × (earlier < number) × (number ≤ length asked) × IsBehindAll (asked ++ a ∷ []) number
from-last events waits waits' replies asked a answered follows last behind earlier b at less = elim follows [
  | inl all ↦ (length asked, slice_get_within asked earlier b at, omega arith, (a, at-seam asked a, answered ∙ all))
  | inr same ↦
      let below = slice_get_within asked earlier b at in
      let m = length asked - 1 in
      let c = slice_index_or asked m b in
      let there : slice_get asked m ≡ Some c = slice_get-get_or asked m b (omega (arith, below)) in
      let its : waits ≡ waits_before events c.event = last m c there (omega (arith, below)) in
      elim (cases_lt earlier m) [
        | inl before ↦
            let p = behind earlier m before b c at there (omega (arith, less, same, its)) in
            (p.0, p.1, (let most = p.2 in omega (arith, most)), behind-more asked a p.0 p.3)
        | inr not ↦
            let here : earlier ≡ m = omega (arith, not, below) in
            let is : b ≡ c = Some-inj b c (sym at ∙ ap (slice_get asked) here ∙ there) in
            let equal : waits_before events b.event ≡ waits_before events c.event = ap (λ (y : Asked). waits_before events y.event) is in
            absurd (omega (arith, equal, less, same, its))
      ]
]

pub accepted : (events : List Event) (waits waits' replies : ℕ) (asked : List Asked) (a : Asked) (due : List Due)
    → waits' ≡ waits_before events a.event → a.answered ≡ replies → (replies ≡ length asked) ⊎ (waits' ≡ waits)
    → AreAwaited events waits asked due → AreAwaited events waits' (asked ++ a ∷ []) due
accepted events waits waits' replies asked a due known answered follows x = record {
  behind = λ earlier later before b c at at' less. elim (either asked a later c at') [
    | inl front ↦ elim (either asked a earlier b at) [
      | inl front' ↦
          let p = x.behind earlier later before b c front'.1 front.1 less in
          (p.0, p.1, p.2, behind-more asked a p.0 p.3)
      | inr end ↦ absurd (let there = end.place in omega (arith, there, before, front.0))
    ]
    | inr end ↦ elim (either asked a earlier b at) [
      | inr end' ↦ absurd (let there = end.place in let there' = end'.place in omega (arith, there, there', before))
      | inl front ↦
          let less' : waits_before events b.event < waits' =
          let same : waits_before events c.event ≡ waits_before events a.event = ap (λ (y : Asked). waits_before events y.event) end.same in
          omega (arith, same, less, known) in
          let p = from-last events waits waits' replies asked a answered follows x.last x.behind earlier b front.1 less' in
          let there = end.place in
          (p.0, p.1, omega (arith, p.2, there), p.3)
    ]
  ];
  last = λ number b at end. elim (either asked a number b at) [
    | inl front ↦ absurd (let long = length-append asked (a ∷ []) in omega (arith, front.0, long, end))
    | inr there ↦ known ∙ ap (λ (y : Asked). waits_before events y.event) (sym there.same)
  ];
  known = x.known;
}

-- ---- the same, of equal things

pub alike : (events : List Event) (waits waits' : ℕ) (asked asked' : List Asked) (due due' : List Due) → waits' ≡ waits → asked' ≡ asked
    → due' ≡ due → AreAwaited events waits asked due → AreAwaited events waits' asked' due'
alike events waits waits' asked asked' due due' e0 e1 e2 x =
    subst (λ w. AreAwaited events w asked' due') (sym e0)
    (subst (λ y. AreAwaited events waits y due') (sym e1) (subst (AreAwaited events waits asked) (sym e2) x))

-- ---- requests are accepted together

more-awaited : (events : List Event) (waits replies : ℕ) (asked more : List Asked) (due : List Due) → AllByRecursion (λ (a : Asked). waits ≡ waits_before events a.event) more
    → AllByRecursion (λ (a : Asked). a.answered ≡ replies) more → AreAwaited events waits asked due → AreAwaited events waits (asked ++ more) due
more-awaited events waits replies asked [] due known answered x = subst (λ y. AreAwaited events waits y due) (sym (append-nil asked)) x
more-awaited events waits replies asked (a ∷ more) due known answered x =
    subst (λ y. AreAwaited events waits y due) (append_assoc asked (a ∷ []) more)
    (more-awaited events waits replies (asked ++ a ∷ []) more due known.1 answered.1 (accepted events waits waits replies asked a due known.0 answered.0 (inr refl) x))

-- the first of them behind so many waits, and so the others
pub some-awaited : (events : List Event) (waits waits' replies : ℕ) (asked more : List Asked) (due : List Due) → 0 < length more
    → AllByRecursion (λ (a : Asked). waits' ≡ waits_before events a.event) more → AllByRecursion (λ (a : Asked). a.answered ≡ replies) more
    → (replies ≡ length asked) ⊎ (waits' ≡ waits) → AreAwaited events waits asked due → AreAwaited events waits' (asked ++ more) due
some-awaited events waits waits' replies asked [] due some known answered follows x = absurd (omega (arith, some))
some-awaited events waits waits' replies asked (a ∷ more) due some known answered follows x =
    subst (λ y. AreAwaited events waits' y due) (append_assoc asked (a ∷ []) more)
    (more-awaited events waits' replies (asked ++ a ∷ []) more due known.1 answered.1 (accepted events waits waits' replies asked a due known.0 answered.0 follows x))

-- they were due behind so many waits, and are so no more
known-due : (events : List Event) (own : ℕ) (numbers : List ℕ) (ops : List Op) (rest : List Due) → length ops ≡ length numbers → KnowWaits events (all_due own numbers ops ++ rest)
    → AllByRecursion (λ n. own ≡ waits_before events n) numbers × KnowWaits events rest
known-due events own [] [] rest same x = (tt, x)
known-due events own [] (o ∷ ops) rest same x = absurd (omega (arith, same))
known-due events own (number ∷ numbers) [] rest same x = absurd (omega (arith, same))
known-due events own (number ∷ numbers) (o ∷ ops) rest same x =
    let first : Due = record { event = number; waits = own; duty = duties.Serve o } in
    let others = known-due events own numbers ops rest (omega (arith, same)) (λ k e below. x (suc k) e (omega (arith, below))) in
    ((x 0 first (omega arith), others.0), others.1)

pub left-awaited : (events : List Event) (waits : ℕ) (asked : List Asked) (own : ℕ) (numbers : List ℕ) (ops : List Op) (rest due : List Due) → length ops ≡ length numbers
    → due ≡ all_due own numbers ops ++ rest → AreAwaited events waits asked due
    → AllByRecursion (λ n. own ≡ waits_before events n) numbers × AreAwaited events waits asked rest
left-awaited events waits asked own numbers ops rest due same split x =
    let known = known-due events own numbers ops rest same (subst (KnowWaits events) split x.known) in
    (known.0, record { behind = x.behind; last = x.last; known = known.1 })

-- requests that were due were handed in, of which these were accepted
pub served-awaited : (events : List Event) (waits own last replies : ℕ) (asked more : List Asked) (event : ℕ) (numbers : List ℕ) (ops : List Op) (rest due : List Due)
    → length ops ≡ length numbers → due ≡ all_due own numbers ops ++ rest → own ≡ waits_before events event
    → AreAmong more (event ∷ numbers) → AllByRecursion (λ (a : Asked). a.answered ≡ replies) more
    → (replies ≡ length asked) ⊎ (own ≡ waits) → (length asked < length asked + length more → last ≡ own) → (length asked + length more ≤ length asked → last ≡ waits)
    → AreAwaited events waits asked due → AreAwaited events last (asked ++ more) rest
served-awaited events waits own last replies asked [] event numbers ops rest due same split is among answered follows some none x =
    let left = left-awaited events waits asked own numbers ops rest due same split x in
    let empty : List Asked = [] in
    alike events waits last asked (asked ++ []) rest rest (none (let most : length asked + length empty ≤ length asked = omega arith in most)) (append-nil asked) refl left.1
served-awaited events waits own last replies asked (a ∷ more) event numbers ops rest due same split is among answered follows some none x =
    let left = left-awaited events waits asked own numbers ops rest due same split x in
    let all = a ∷ more in
    let known = known-among (λ n. own ≡ waits_before events n) all (event ∷ numbers) among (is, left.0) in
    alike events own last (asked ++ all) (asked ++ all) rest rest (some (let least : length asked < length asked + length all = omega arith in least)) refl refl
    (some-awaited events waits own replies asked all rest (omega arith) known answered follows left.1)

-- ---- at the start

nothing-at : {A : Type 0} (k : ℕ) (x : A) → slice_get [] k ≡ Some x → ⊥
nothing-at k x at = absurd (let within = slice_get_within [] k x at in omega (arith, within))

pub none : (events : List Event) (waits : ℕ) (asked : List Asked) (due : List Due) → asked ≡ [] → due ≡ [] → AreAwaited events waits asked due
none events waits asked due is is' =
    subst (λ y. AreAwaited events waits y due) (sym is) (subst (AreAwaited events waits []) (sym is') (record {
      behind = λ earlier later before a b at. absurd (nothing-at earlier a at);
      last = λ number a at. absurd (nothing-at number a at);
      known = λ k d below. absurd (omega (arith, below));
    }))

-- ---- as calls do it

of-task : (shape : Shape) (shard : ℕ) (events : List Event) (number waits : ℕ) (duty : Duty) (o : Option Duty)
    → option_map (task number (waits_before events number)) o ≡ Some (task number waits duty) → waits ≡ waits_before events number
of-task shape shard events number waits duty None is = cc
of-task shape shard events number waits duty (Some other) is =
    sym (ap (λ (t : Task). t.waits) (Some-inj (task number (waits_before events number) other) (task number waits duty) is))

pub put-awaited : {P D : Type 0} {g : Ghosts P} (shape : Shape) (shard : ℕ) (events : List Event) (old new : Runner P D g) (d : Due) (number waits : ℕ) (duty : Duty)
    → task_at shape shard events number ≡ Some (task number waits duty) → d.event ≡ number → d.waits ≡ waits → IsPut d old new
    → HasAwaited events old → HasAwaited events new
put-awaited shape shard events old new d number waits duty at is is' h x =
    alike events old.waits new.waits old.shard.asked.items new.shard.asked.items (old.due.items ++ d ∷ []) new.due.items h.waits
    (ap (λ (y : Shard _ _). y.asked.items) h.shard) h.due_is
    (pushed events old.waits old.shard.asked.items old.due.items d
    (is' ∙ of-task shape shard events number waits duty (option_and_then (duty_of shape shard) (slice_get events number)) at
    ∙ ap (waits_before events) (sym is)) x)

pub handed-awaited : {P D : Type 0} {g : Ghosts P} (told : D → Telling) (promised : D → Promise) (events : List Event) (old new : Runner P D g) (number : ℕ) (part : Part D)
    → IsHandedIn told promised number part old new → HasAwaited events old → HasAwaited events new
handed-awaited told promised events old new number part h x =
    alike events old.waits new.waits old.shard.asked.items new.shard.asked.items old.due.items new.due.items h.waits
    (asked-on told promised h.taken part h.back old.shard new.shard h.shard) h.due x
