-- Once a shard has answered that the array has failed, no request of it is handed in.
use Rattle.std.proofs.Common.{◌≡◌, ℕ, List, [], ◌∷◌, ◌++◌, true, inl, inr, Ok, Err, refl, sym, subst, ◌∙◌, None}
use Rattle.std.proofs.lemmas.Bool.{false≢true}
use Rattle.r6_health.specs.declared.call.Answer.TheVariants.{Degraded}
use Rattle.r6_health.specs.declared.history.HistoryEntry.{HistoryEntry}
use Rattle.r6_health.specs.Histories.{Name}
use Rattle.r6_world.specs.PlainArray.{Op, Reply, ArrayFailed}
use Rattle.r6_world.specs.Layouts.{Layout}
use Rattle.r6_world.specs.ShardStates.{Shard}
use Rattle.r6_world.specs.Steps.{Event, Submit, Submit_all, Take_reply, Step}
use Rattle.r6_world.specs.Worlds.{World, Happening, Core, Perform, Tell, Outside, Moment, Run, as_made, next}
use Rattle.r6_world.specs.Laws.{IsByAnyone, AreOfShard, IsOfShard}
use Rattle.r6_world.proofs.Tables.{not_both}
use Rattle.r6_course.specs.Courses.{Start, IsLawful, Mark, Asked, Replied, Reached, asked_from, first_world, history_after, history_of, looked_of, marked}
use Rattle.r6_course.specs.Ledgers.{IsIn, IsBefore}
use Rattle.r6_course.specs.Seen.{LeavesRegister, MakesEntry, Sees}
use Rattle.r6_course.proofs.Ends.{failure_law}
use Rattle.r6_course.proofs.Lists.{before-cases, before-first, none-behind}
use Rattle.r6_course.proofs.Reached.{begins, reach}
use Rattle.r6_course.proofs.Requests.{moment, replied-cases}

abbrev pub NoneAfter : List Mark → Type 0
NoneAfter history = (id later : ℕ) (op : Op) → IsBefore (Replied id ArrayFailed) (Asked later op) history → ⊥

-- ---- a run of the shard alone has some history of the register

abbrev by-itself : Name
by-itself = 0 ∷ []

abbrev IsSeenAs : Layout → ℕ → List Moment → Type 0
IsSeenAs l n moments = (log : List HistoryEntry) × Sees l n by-itself log moments

-- what happens next leaves the register as it is
leaves-it : (l : Layout) (n : ℕ) (m : Moment) (moments : List Moment) → LeavesRegister l n m.happening → IsSeenAs l n moments
    → IsSeenAs l n (m ∷ moments)
leaves-it l n m moments leaves ([], rest) = ([], (leaves, rest))
leaves-it l n m moments leaves (e ∷ log, rest) = (e ∷ log, inl (leaves, rest))

-- or it makes this entry
makes-it : (l : Layout) (n : ℕ) (e : HistoryEntry) (m : Moment) (moments : List Moment) → MakesEntry by-itself n e m.happening → IsSeenAs l n moments
    → IsSeenAs l n (m ∷ moments)
makes-it l n e m moments makes rest = (e ∷ rest.0, inr (makes, rest.1))

-- so it goes on by whatever happens in the shard or at the register
longer-history : (l : Layout) (n : ℕ) (m : Moment) (moments : List Moment) → IsOfShard n m.happening → IsSeenAs l n moments
    → IsSeenAs l n (m ∷ moments)
longer-history l n m moments own rest = at m.happening refl own
  where
    quiet : (h : Happening) → m.happening ≡ h → LeavesRegister l n h → IsSeenAs l n (m ∷ moments)
    quiet h e leaves = leaves-it l n m moments (subst (LeavesRegister l n) (sym e) leaves) rest

    makes : (entry : HistoryEntry) (h : Happening) → m.happening ≡ h → MakesEntry by-itself n entry h → IsSeenAs l n (m ∷ moments)
    makes entry h e made = makes-it l n entry m moments (subst (MakesEntry by-itself n entry) (sym e) made) rest

    at : (h : Happening) → m.happening ≡ h → IsOfShard n h → IsSeenAs l n (m ∷ moments)
    at (Core k event new) e o = quiet (Core k event new) e o
    at (Perform k token c) e o = quiet (Perform k token c) e o
    at (Tell k call (Ok answer) middle new) e o =
        makes (record { by = by-itself; call = as_made k call; answer = answer }) (Tell k call (Ok answer) middle new) e (refl, o, refl, refl)
    at (Tell k call (Err refusal) middle new) e o = quiet (Tell k call (Err refusal) middle new) e o
    at (Outside call) e o =
        makes (record { by = []; call = call; answer = Degraded }) (Outside call) e ((λ (same : [] ≡ by-itself). cc), refl)

some-history : (l : Layout) (n : ℕ) (moments : List Moment) → AreOfShard n moments → IsSeenAs l n moments
some-history l n [] own = ([], refl)
some-history l n (m ∷ moments) own = longer-history l n m moments own.0 (some-history l n moments own.1)

-- where it has answered so, it saw the failure
saw : (s : Start) → IsLawful s → (w : World) (history : List Mark) → Reached s w history
    → (id : ℕ) → IsIn (Replied id ArrayFailed) history → (w.shard s.number).saw_failed ≡ true
saw s lawful w history x id i =
    let seen = some-history s.layout s.number x.moments x.own in
    (failure_law s lawful
    (record {
      shard = w.shard s.number;
      by = by-itself;
      log = seen.0;
      register = w.register;
      looked = looked_of 0 x.moments;
      named = [];
      out = λ token. None;
      part = λ slot generation. None;
      history = history;
    })
    (record {
      world = w;
      reached = x;
      shard = refl;
      register = refl;
      looked = refl;
      sees = seen.1;
      named = λ slot e. absurd (false≢true e);
      in_flight = λ token c e. absurd (not_both None c refl e);
      parts = λ slot generation telling e. absurd (not_both None telling refl e);
    })).0 id i

-- and then its core takes none
taken-not : (l : Layout) (n : ℕ) (s : Shard) (event : Event) (new : Shard) (history : List Mark) → Step l n s event new
    → ((id : ℕ) → IsIn (Replied id ArrayFailed) history → s.saw_failed ≡ true) → NoneAfter history → NoneAfter (marked event history)
taken-not l n s (Submit o i) new history step seen none id later op b =
    elim (before-cases (Replied id ArrayFailed) (Asked later op) history (Asked i o) b) [
      | inl c ↦ none id later op c
      | inr c ↦ absurd (false≢true (sym step.1.3 ∙ seen id c.0))
    ]
taken-not l n s (Submit_all [] first) new history step seen none id later op b =
    none id later op (subst (IsBefore (Replied id ArrayFailed) (Asked later op)) (none-behind history) b)
taken-not l n s (Submit_all (o ∷ ops) first) new history step seen none id later op b =
    elim (replied-cases (Submit_all (o ∷ ops) first) history id ArrayFailed
    (before-first (Replied id ArrayFailed) (Asked later op) (history ++ asked_from first (o ∷ ops)) b)) [
      | inl i ↦ absurd (false≢true (sym step.1.0.3 ∙ seen id i))
      | inr e ↦ absurd (another (o ∷ ops) first id e)
    ]
  where
    another : (ops : List Op) (first id : ℕ) → Submit_all ops first ≡ Take_reply id ArrayFailed → ⊥
    another ops first id e = cc
taken-not l n s (Take_reply i r) new history step seen none id later op b =
    elim (before-cases (Replied id ArrayFailed) (Asked later op) history (Replied i r) b) [
      | inl c ↦ none id later op c
      | inr c ↦ absurd (another later i op r c.1)
    ]
  where
    another : (later i : ℕ) (op : Op) (r : Reply) → Asked later op ≡ Replied i r → ⊥
    another later i op r e = cc
taken-not l n s event new history step seen none id later op b = none id later op b

none-along : (s : Start) → IsLawful s → (moments : List Moment) (w : World) (history : List Mark) → Reached s w history
    → AreOfShard s.number moments → Run s.layout IsByAnyone w moments → NoneAfter history → NoneAfter (history_of history moments)
none-along s lawful [] w history x own run none = none
none-along s lawful (m ∷ moments) w history x own run none =
    none-along s lawful moments (next s.layout w m) (history_after m.happening history) (reach s w history x m run.0 own.0) own.1 run.1
    (elim (moment s.layout s.number w m history run.0 own.0) [
      | inl c ↦
          subst NoneAfter (sym c.4)
          (taken-not s.layout s.number (w.shard s.number) c.0 c.1 history c.2 (saw s lawful w history x) none)
      | inr b ↦ subst NoneAfter (sym b.3) none
    ])

pub none_after : (s : Start) → IsLawful s → (w : World) (history : List Mark) → Reached s w history → NoneAfter history
none_after s lawful w history x =
    subst NoneAfter x.marks (none-along s lawful x.moments (first_world s) [] (begins s) x.own x.run (λ id later op b. b))
