-- Runs of a shard go on, one happening at a time.
use Rattle.std.proofs.Common.{◌≡◌, ℕ, Bool, List, [], ◌∷◌, ◌++◌, append_assoc, inl, inr, refl, sym, ap, subst, ◌∙◌, Option, Some, None}
use Rattle.std.proofs.lemmas.Bool.{cases_eq}
use Rattle.r6_layout.specs.PlainArray.{Block}
use Rattle.r6_world.specs.PlainArray.{Plain}
use Rattle.r6_world.specs.Layouts.{Layout}
use Rattle.r6_world.specs.ShardStates.{Command}
use Rattle.r6_world.specs.Steps.{Event, Take_command}
use Rattle.r6_world.specs.Worlds.{World, Happening, Core, Perform, Tell, Outside, Moment, Possible, Run, next, flown}
use Rattle.r6_world.specs.ActingPoints.{plain_next}
use Rattle.r6_world.specs.Laws.{IsByAnyone, IsOfShard, AreOfShard, at_start}
use Rattle.r6_world.specs.Witness.{after_all}
use Rattle.r6_world.proofs.Tables.{put-same, put-other, put-cases, not_both}
use Rattle.r6_world.proofs.Witness.Pieces.{after-append}
use Rattle.r6_world.proofs.Laws.Judged.{IsIn as IsOfJudged}
use Rattle.r6_world.proofs.Laws.Kept.{Kept}
use Rattle.r6_world.proofs.Laws.Stepping.{one_step}
use Rattle.r6_world.proofs.Laws.Starts.{kept-start}
use Rattle.r6_course.specs.Courses.{Start, first_world, IsLawful, Mark, history_after, history_of, looked_after, looked_of, HasFailed, AreFailed, Reached}
use Rattle.r6_health.specs.declared.history.HistoryEntry.{HistoryEntry}
use Rattle.r6_health.specs.Histories.{Name}
use Rattle.r6_course.specs.Seen.{LeavesRegister, MakesEntry, Sees}
use Rattle.r6_course.proofs.Lists.{none-behind}
use Rattle.r6_course.proofs.Sees.{sees-on, sees-entry}

pub run-append : (l : Layout) (w : World) (a b : List Moment) → Run l IsByAnyone w a
    → Run l IsByAnyone (after_all l w a) b → Run l IsByAnyone w (a ++ b)
run-append l w [] b r s = s
run-append l w (m ∷ a) b r s = (r.0, run-append l (next l w m) a b r.1 s)

own-append : (n : ℕ) (a b : List Moment) → AreOfShard n a → AreOfShard n b → AreOfShard n (a ++ b)
own-append n [] b r s = s
own-append n (m ∷ a) b r s = (r.0, own-append n a b r.1 s)

history-append : (history : List Mark) (a b : List Moment)
    → history_of history (a ++ b) ≡ history_of (history_of history a) b
history-append history [] b = refl
history-append history (m ∷ a) b = history-append (history_after m.happening history) a b

-- what the core looked at last, once one more thing has happened
pub looked-more : (looked : ℕ) (moments : List Moment) (m : Moment)
    → looked_of looked (moments ++ m ∷ []) ≡ looked_after m.happening (looked_of looked moments)
looked-more looked [] m = refl
looked-more looked (first ∷ moments) m = looked-more (looked_after first.happening looked) moments m

-- nothing has happened
pub begins : (s : Start) → Reached s (first_world s) []
begins s = record { moments = []; own = record {}; run = record {}; world = refl; marks = refl }

-- one more thing happens
pub reach : (s : Start) (w : World) (history : List Mark) → Reached s w history → (m : Moment)
    → Possible s.layout IsByAnyone w m.happening
    → IsOfShard s.number m.happening → Reached s (next s.layout w m) (history_after m.happening history)
reach s w history x m possible own =
    record {
      moments = x.moments ++ m ∷ [];
      own = own-append s.number x.moments (m ∷ []) x.own (own, record {});
      run = run-append s.layout (first_world s) x.moments (m ∷ []) x.run
          (subst (λ y. Possible s.layout IsByAnyone y m.happening) (sym x.world) possible, record {});
      world = after-append s.layout (first_world s) x.moments (m ∷ []) ∙ ap (λ y. next s.layout y m) x.world;
      marks = history-append [] x.moments (m ∷ []) ∙ ap (history_after m.happening) x.marks;
    }

-- what the core looked at last, where one more thing happens
pub reach-looked : (s : Start) (w : World) (history : List Mark) (x : Reached s w history) (m : Moment)
    (possible : Possible s.layout IsByAnyone w m.happening) (own : IsOfShard s.number m.happening) (looked : ℕ)
    → looked_of 0 x.moments ≡ looked → looked_of 0 (reach s w history x m possible own).moments ≡ looked_after m.happening looked
unfolding reach
reach-looked s w history x m possible own looked same = looked-more 0 x.moments m ∙ ap (looked_after m.happening) same

-- what has failed has failed for good
pub failed-on : (n slot : ℕ) (moments : List Moment) (m : Moment) → HasFailed n slot moments → HasFailed n slot (moments ++ m ∷ [])
failed-on n slot moments m x = record {
  token = x.token;
  command = x.command;
  slot_is = x.slot_is;
  before = x.before;
  taking = x.taking;
  between = x.between;
  failing = x.failing;
  behind = x.behind ++ m ∷ [];
  is = ap (λ y. y ++ m ∷ []) x.is ∙ append_assoc (x.before ++ x.taking ∷ x.between) (x.failing ∷ x.behind) (m ∷ []);
  middle = x.middle;
  taken = x.taken;
  new = x.new;
  error = x.error;
  is_error = x.is_error;
  failed = x.failed;
}

-- one more thing happens
pub reach-moments : (s : Start) (w : World) (history : List Mark) (x : Reached s w history) (m : Moment)
    (possible : Possible s.layout IsByAnyone w m.happening) (own : IsOfShard s.number m.happening)
    → (reach s w history x m possible own).moments ≡ x.moments ++ m ∷ []
unfolding reach
reach-moments s w history x m possible own = refl

pub reach-named : (s : Start) (w : World) (history : List Mark) (x : Reached s w history) (m : Moment)
    (possible : Possible s.layout IsByAnyone w m.happening) (own : IsOfShard s.number m.happening) (named : List Bool)
    → AreFailed s.number named x.moments → AreFailed s.number named (reach s w history x m possible own).moments
reach-named s w history x m possible own named y slot e =
    subst (HasFailed s.number slot) (sym (reach-moments s w history x m possible own))
    (failed-on s.number slot x.moments m (y slot e))

-- and the history that the run has of the register
pub reach-left : (s : Start) (w : World) (history : List Mark) (x : Reached s w history) (m : Moment)
    (possible : Possible s.layout IsByAnyone w m.happening) (own : IsOfShard s.number m.happening) (by : Name) (log : List HistoryEntry)
    → Sees s.layout s.number by log x.moments → LeavesRegister s.layout s.number m.happening
    → Sees s.layout s.number by log (reach s w history x m possible own).moments
reach-left s w history x m possible own by log sees quiet =
    subst (Sees s.layout s.number by log) (sym (reach-moments s w history x m possible own)) (sees-on s.layout s.number by log x.moments m sees quiet)

pub reach-entry : (s : Start) (w : World) (history : List Mark) (x : Reached s w history) (m : Moment)
    (possible : Possible s.layout IsByAnyone w m.happening) (own : IsOfShard s.number m.happening) (by : Name) (log : List HistoryEntry) (e : HistoryEntry)
    → Sees s.layout s.number by log x.moments → MakesEntry by s.number e m.happening
    → Sees s.layout s.number by (log ++ e ∷ []) (reach s w history x m possible own).moments
reach-entry s w history x m possible own by log e sees stands =
    subst (Sees s.layout s.number by (log ++ e ∷ [])) (sym (reach-moments s w history x m possible own)) (sees-entry s.layout s.number by log x.moments e m sees stands)

pub begins-sees : (s : Start) (by : Name) → Sees s.layout s.number by [] (begins s).moments
unfolding begins
begins-sees s by = refl

pub begins-looked : (s : Start) → looked_of 0 (begins s).moments ≡ 0
unfolding begins
begins-looked s = refl

-- ---- what each step keeps holds of every world that is reached

pub is-of : (n : ℕ) (h : Happening) → IsOfShard n h → IsOfJudged (λ m. m ≡ n) h
is-of n (Core m event new) e = e
is-of n (Perform m token c) e = e
is-of n (Tell m call answer middle new) e = e
is-of n (Outside call) e = e

-- what r6_world's laws keep, for one shard
abbrev pub IsKept : (s : Start) → World → Plain → Type 0
IsKept s w plain = Kept s.layout (λ m. m ≡ s.number) w plain

module _ (s : Start) (lawful : IsLawful s) (P : World → List Moment → Plain → Type 0) where
  -- one step keeps it
  abbrev pub MomentKeeps : Type 0
  MomentKeeps =
      (w : World) (before : List Moment) (plain : Plain) (m : Moment) → IsKept s w plain → P w before plain
      → Possible s.layout IsByAnyone w m.happening → IsOfShard s.number m.happening
      → let new = next s.layout w m in let plain' = plain_next s.layout w m plain in
      IsKept s new plain' → P new (before ++ m ∷ []) plain'

  along : MomentKeeps → (moments before : List Moment) (w : World) (plain : Plain) → IsKept s w plain → P w before plain
      → AreOfShard s.number moments → Run s.layout IsByAnyone w moments
      → (last : Plain) × IsKept s (after_all s.layout w moments) last × P (after_all s.layout w moments) (before ++ moments) last
  along keeps [] before w plain x p own run = (plain, x, subst (λ y. P w y plain) (sym (none-behind before)) p)
  along keeps (m ∷ moments) before w plain x p own run =
      let new = next s.layout w m in
      let step = one_step s.layout lawful.layout (λ k. k ≡ s.number) IsByAnyone m.happening m.noise w plain x (is-of s.number m.happening own.0) run.0 in
      let rest = along keeps moments (before ++ m ∷ []) new (plain_next s.layout w m plain) step.1
      (keeps w before plain m x p run.0 own.0 step.1) own.1 run.1 in
      (rest.0, rest.1, subst (λ y. P (after_all s.layout new moments) y rest.0) (append_assoc before (m ∷ []) moments) rest.2)

  pub holds-along : P (first_world s) [] (at_start s.array) → MomentKeeps → (w : World) (history : List Mark) (x : Reached s w history)
      → (plain : Plain) × IsKept s w plain × P w x.moments plain
  holds-along first keeps w history x =
      let start = kept-start s.layout lawful.layout (λ m. m ≡ s.number) s.register s.device s.array lawful.start in
      let last = along keeps x.moments [] (first_world s) (at_start s.array) start first x.own x.run in
      (last.0, subst (λ y. IsKept s y last.0) x.world last.1, subst (λ y. P y x.moments last.0) x.world last.2)

-- the same, of what the users saw
module _ (s : Start) (lawful : IsLawful s) (P : World → List Mark → Plain → Type 0) where
  abbrev pub StepKeeps : Type 0
  StepKeeps =
      (w : World) (history : List Mark) (plain : Plain) (m : Moment) → IsKept s w plain → P w history plain
      → Possible s.layout IsByAnyone w m.happening → IsOfShard s.number m.happening
      → let new = next s.layout w m in let plain' = plain_next s.layout w m plain in
      IsKept s new plain' → P new (history_after m.happening history) plain'

  pub holds-throughout : P (first_world s) [] (at_start s.array) → StepKeeps → (w : World) (history : List Mark) → Reached s w history
      → (plain : Plain) × IsKept s w plain × P w history plain
  holds-throughout first keeps w history x =
      let y = holds-along s lawful (λ w before plain. P w (history_of [] before) plain) first
      (λ w before plain m k p possible own k'.
      let new = next s.layout w m in
      subst (λ z. P new z (plain_next s.layout w m plain)) (sym (history-append [] before (m ∷ [])))
      (keeps w (history_of [] before) plain m k p possible own k')) w history x in
      (y.0, y.1, subst (λ z. P w z y.0) x.marks y.2)

-- the world is as the laws of r6_world keep it
pub kept : (s : Start) (lawful : IsLawful s) (w : World) (history : List Mark) → Reached s w history
    → (plain : Plain) × IsKept s w plain
kept s lawful w history x =
    let y = holds-throughout s lawful (λ w history plain. record {}) (record {}) (λ w history plain m k p possible own k'. record {}) w history x in
    (y.0, y.1)

-- ---- only what was taken is performed

pub record Unflown (n : ℕ) (w : World) : Type 0 where
  pub unperformed : (t : ℕ) → w.flight n t ≡ None → w.performed n t ≡ None

flown-was : (event : Event) (flight : ℕ → Option Command) (t : ℕ) → flown event flight t ≡ None → flight t ≡ None
flown-was (Take_command token c) flight t e =
    elim (put-cases flight token (Some c) t None e) [ inl p ↦ absurd (not_both (Some c) c p.1 refl) | inr p ↦ p.1 ]
flown-was event flight t e = e

unflown-next : (l : Layout) (n : ℕ) (w : World) (m : Moment) → Possible l IsByAnyone w m.happening → Unflown n w
    → Unflown n (next l w m)
unflown-next l n w m possible x = at m.happening possible
  where
    at : (h : Happening) → Possible l IsByAnyone w h → Unflown n (next l w (record { happening = h; noise = m.noise }))
    at (Core k event new) p =
        record {
          unperformed = λ t e. elim (cases_eq n k) [
            | inl same ↦
                x.unperformed t (ap (λ y. w.flight y t) same
                ∙ flown-was event (w.flight k) t (ap (λ (y : ℕ → Option Command). y t) (sym (put-same w.flight k (flown event (w.flight k)) n same)) ∙ e))
            | inr ne ↦ x.unperformed t (ap (λ (y : ℕ → Option Command). y t) (sym (put-other w.flight k (flown event (w.flight k)) n ne)) ∙ e)
          ];
        }
    at (Perform k token c) p =
        record {
          unperformed = λ t e. elim (cases_eq n k) [
            | inl same ↦ elim (cases_eq t token) [
              | inl here ↦ absurd (not_both (w.flight k token) c (ap (λ y. w.flight y token) (sym same) ∙ ap (w.flight n) (sym here) ∙ e) p.1)
              | inr ne ↦
                  ap (λ (y : ℕ → Option Block). y t) (put-same w.performed k _ n same) ∙ put-other (w.performed k) token _ t ne
                  ∙ ap (λ y. w.performed y t) (sym same) ∙ x.unperformed t e
            ]
            | inr ne ↦ ap (λ (y : ℕ → Option Block). y t) (put-other w.performed k _ n ne) ∙ x.unperformed t e
          ];
        }
    at (Tell k call answer middle new) p = record { unperformed = x.unperformed }
    at (Outside call) p = record { unperformed = x.unperformed }

pub unflown : (s : Start) (lawful : IsLawful s) (w : World) (history : List Mark) → Reached s w history
    → Unflown s.number w
unflown s lawful w history x =
    (holds-throughout s lawful (λ w history plain. Unflown s.number w) (record { unperformed = λ t e. refl })
    (λ w history plain m k p possible own k'. unflown-next s.layout s.number w m possible p) w history x).2
