-- The run of a shard has the register's history, however it goes on.
use Rattle.std.proofs.Common.{◌≡◌, ◌≢◌, ℕ, List, [], ◌∷◌, ◌++◌, All, Bool, true, false, cond, inl, inr, refl, sym, ap, subst, ◌∙◌, Ok, Err}
use Rattle.std.proofs.lemmas.Bool.{false≢true}
use Rattle.std.proofs.lemmas.List.{append-nil, append_cancel_left}
use Rattle.std.proofs.lemmas.List.Elements.{All-nil, All-cons}
use lib.Pointwise.{bytes_decides}
use Rattle.r6_health.specs.declared.history.HistoryEntry.{HistoryEntry}
use Rattle.r6_health.specs.declared.history.OwnCall.{OwnCall}
use Rattle.r6_health.specs.Histories.{Name, is_name, made, entry, calls_by}
use Rattle.r6_world.specs.Layouts.{Layout}
use Rattle.r6_world.specs.Registers.{RegisterAnswer}
use Rattle.r6_world.specs.Worlds.{Happening, Core, Perform, Tell, Outside, Moment, as_made}
use Rattle.r6_world.specs.Laws.{IsOfShard, AreOfShard}
use Rattle.r6_course.specs.Seen.{LeavesRegister, HasChanges, MakesEntry, Sees}

pub changes-append : {C : Type 0} (IsChange : C → Happening → Type 0) (l : Layout) (n : ℕ) (a b : List C)
    (x y : List Moment)
    → HasChanges IsChange l n a x → HasChanges IsChange l n b y → HasChanges IsChange l n (a ++ b) (x ++ y)
changes-append IsChange l n [] b [] y s t = t
changes-append IsChange l n (c ∷ a) b [] y s t = absurd (let none : (c ∷ a) ≡ [] = s in cc)
changes-append IsChange l n [] [] (m ∷ x) y s t = (s.0, changes-append IsChange l n [] [] x y s.1 t)
changes-append IsChange l n [] (c ∷ b) (m ∷ x) y s t = inl (s.0, changes-append IsChange l n [] (c ∷ b) x y s.1 t)
changes-append IsChange l n (c ∷ a) b (m ∷ x) y s t = elim s [
  | inl q ↦ inl (q.0, changes-append IsChange l n (c ∷ a) b x y q.1 t)
  | inr q ↦ inr (q.0, changes-append IsChange l n a b x y q.1 t)
]

module _ (l : Layout) (n : ℕ) (by : Name) where
  -- the run goes on by what leaves the register as it is
  pub sees-on : (log : List HistoryEntry) (moments : List Moment) (m : Moment) → Sees l n by log moments
      → LeavesRegister l n m.happening → Sees l n by log (moments ++ m ∷ [])
  sees-on log moments m s leaves =
      subst (λ y. Sees l n by y (moments ++ m ∷ [])) (append-nil log)
      (changes-append (MakesEntry by n) l n log [] moments (m ∷ []) s (leaves, refl))

  -- or by one entry more
  pub sees-entry : (log : List HistoryEntry) (moments : List Moment) (e : HistoryEntry) (m : Moment)
      → Sees l n by log moments
      → MakesEntry by n e m.happening → Sees l n by (log ++ e ∷ []) (moments ++ m ∷ [])
  sees-entry log moments e m s makes =
      changes-append (MakesEntry by n) l n log (e ∷ []) moments (m ∷ []) s (inr (makes, refl))

-- ---- a history that a run has

module _ (by other : Name) (unknown : RegisterAnswer) where
  -- what a run says of it: calls of its own pass, and those of another, of which it doesn't say what they were answered
  abbrev pub entries_of : Happening → List HistoryEntry
  entries_of (Core n event new) = []
  entries_of (Perform n token c) = []
  entries_of (Tell n call (Ok answer) middle new) = entry by (as_made n call) answer ∷ []
  entries_of (Tell n call (Err refusal) middle new) = []
  entries_of (Outside call) = entry other call unknown ∷ []

  abbrev pub log_of : List Moment → List HistoryEntry
  log_of [] = []
  log_of (m ∷ moments) = entries_of m.happening ++ log_of moments

  one-sees : (l : Layout) (n : ℕ) → other ≢ by → (h : Happening) (m : Moment) → m.happening ≡ h → IsOfShard n h
      → Sees l n by (entries_of h) (m ∷ [])
  one-sees l n apart (Core k event new) m is own = (subst (LeavesRegister l n) (sym is) own, refl)
  one-sees l n apart (Perform k token c) m is own = (subst (LeavesRegister l n) (sym is) own, refl)
  one-sees l n apart (Tell k call (Ok answer) middle new) m is own =
      inr (subst (MakesEntry by n (entry by (as_made k call) answer)) (sym is) (refl, own, refl, refl), refl)
  one-sees l n apart (Tell k call (Err refusal) middle new) m is own = (subst (LeavesRegister l n) (sym is) own, refl)
  one-sees l n apart (Outside call) m is own = inr
      (subst (MakesEntry by n (entry other call unknown)) (sym is) (apart, refl), refl)

  pub log-sees : (l : Layout) (n : ℕ) → other ≢ by → (moments : List Moment) → AreOfShard n moments
      → Sees l n by (log_of moments) moments
  log-sees l n apart [] own = refl
  log-sees l n apart (m ∷ moments) own =
      changes-append (MakesEntry by n) l n (entries_of m.happening) (log_of moments) (m ∷ []) moments
      (one-sees l n apart m.happening m refl own.0) (log-sees l n apart moments own.1)

-- ---- whose the entries are

pub calls_by-append : (by : Name) (a b : List HistoryEntry) → calls_by by (a ++ b) ≡ calls_by by a ++ calls_by by b
calls_by-append by [] b = refl
calls_by-append by (e ∷ a) b = at (is_name e.by by) (calls_by-append by a b)
  where
    at : (own : Bool) → calls_by by (a ++ b) ≡ calls_by by a ++ calls_by by b
        → cond own (made e.call e.answer ∷ calls_by by (a ++ b)) (calls_by by (a ++ b))
        ≡ cond own (made e.call e.answer ∷ calls_by by a) (calls_by by a) ++ calls_by by b
    at true same = ap (λ ys. made e.call e.answer ∷ ys) same
    at false same = same

-- another pass made it
abbrev pub IsOfAnother : (by : Name) → HistoryEntry → Type 0
IsOfAnother by e = e.by ≢ by

abbrev pub AreOfOthers : (by : Name) → List HistoryEntry → Type 0
AreOfOthers by log = All (IsOfAnother by) log

pub of-others : (by : Name) (log : List HistoryEntry) → calls_by by log ≡ [] → AreOfOthers by log
of-others by [] none = All-nil (IsOfAnother by)
of-others by (e ∷ log) none = at (is_name e.by by) refl none (λ rest. of-others by log rest)
  where
    at : (own : Bool) → is_name e.by by ≡ own → cond own (made e.call e.answer ∷ calls_by by log) (calls_by by log) ≡ []
        → (calls_by by log ≡ [] → AreOfOthers by log) → AreOfOthers by (e ∷ log)
    at true same none others = absurd (let found : (made e.call e.answer ∷ calls_by by log) ≡ [] = none in cc)
    at false other none others =
        All-cons (IsOfAnother by) e log (λ same. false≢true (sym other ∙ (bytes_decides e.by by).1 same)) (others none)

-- where a pass has made no call since, none that came between is its own
pub none-between : (by : Name) (front rest : List HistoryEntry) (mine : List OwnCall) → calls_by by front ≡ mine
    → calls_by by (front ++ rest) ≡ mine
    → AreOfOthers by rest
none-between by front rest mine before after =
    of-others by rest
    (append_cancel_left (calls_by by front) (calls_by by rest) []
    (sym (calls_by-append by front rest) ∙ after ∙ sym before ∙ sym (append-nil (calls_by by front))))
