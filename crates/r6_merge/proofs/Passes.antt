-- What the passes know is enough for one run.
use Rattle.std.proofs.Common.{◌≡◌, ℕ, ◌<◌, List, [], ◌∷◌, ◌++◌, append_assoc, All, Bool, true, false, cond, arith, inl, inr, refl, sym, ap, ◌∙◌, subst}
use Rattle.std.proofs.lemmas.Bool.{cases_lt}
use Rattle.std.proofs.lemmas.List.{append-nil, append_cancel_left}
use Rattle.std.proofs.lemmas.List.Elements.{All-nil, All-cons, All-head, All-tail}
use lib.Pointwise.{bytes_decides}
use Rattle.r6_health.specs.declared.history.HistoryEntry.{HistoryEntry}
use Rattle.r6_health.specs.declared.history.OwnCall.{OwnCall}
use Rattle.r6_health.specs.Histories.{Name, is_name, made, calls_by}
use Rattle.r6_health.specs.Views.{NoneUngiven}
use Rattle.r6_world.specs.Laws.{IsOfOutside}
use Rattle.r6_course.specs.Courses.{Stand}
use Rattle.r6_course.proofs.Sees.{calls_by-append}
use Rattle.r6_merge.specs.Courses.{IsAccountedFor}
use Rattle.r6_merge.specs.Passes.{PassesLaw, NoneSinceLaw}
use Rattle.r6_merge.proofs.Below.{for-all}
use Rattle.r6_merge.proofs.Courses.{courses_law}

-- ---- whose the calls are

abbrev pub IsOutside : OwnCall → Type 0
IsOutside c = IsOfOutside c.call

-- the history has a call of this name
is-there : (e : HistoryEntry) (log : List HistoryEntry) (by : Name) → e.by ≡ by → calls_by by (e ∷ log) ≡ [] → ⊥
is-there e log by is none =
    let found : (made e.call e.answer ∷ calls_by by log) ≡ [] =
    sym (ap (λ b. cond b (made e.call e.answer ∷ calls_by by log) (calls_by by log)) ((bytes_decides e.by by).1 is))
    ∙ none in absurd (cc)

none-later : (e : HistoryEntry) (log : List HistoryEntry) (by : Name) → calls_by by (e ∷ log) ≡ []
    → calls_by by log ≡ []
none-later e log by = later (is_name e.by by)
  where
    later : (b : Bool) → cond b (made e.call e.answer ∷ calls_by by log) (calls_by by log) ≡ [] → calls_by by log ≡ []
    later true x = absurd (let found : (made e.call e.answer ∷ calls_by by log) ≡ [] = x in cc)
    later false x = x

outside-later : (e : HistoryEntry) (log : List HistoryEntry) → All IsOutside (calls_by [] (e ∷ log))
    → All IsOutside (calls_by [] log)
outside-later e log = later (is_name e.by [])
  where
    later : (b : Bool) → All IsOutside (cond b (made e.call e.answer ∷ calls_by [] log) (calls_by [] log))
        → All IsOutside (calls_by [] log)
    later true x = All-tail IsOutside (made e.call e.answer) (calls_by [] log) x
    later false x = x

-- what is known of a history of as many shards: the calling thread's calls are from outside, it has none by a name that
-- was not given, and none by a name below a shard's
record AreKnown (shards : ℕ) (log : List HistoryEntry) : Type 0 where
  outside : All IsOutside (calls_by [] log)
  ungiven : NoneUngiven [] shards log
  below : (n : ℕ) → n < shards → NoneUngiven (n ∷ []) 0 log

known-later : (shards : ℕ) (e : HistoryEntry) (log : List HistoryEntry) → AreKnown shards (e ∷ log)
    → AreKnown shards log
known-later shards e log known = record {
  outside = outside-later e log known.outside;
  ungiven = λ k rest up. none-later e log (k ∷ rest) (known.ungiven k rest up);
  below = λ n lt k rest up. none-later e log (n ∷ k ∷ rest) (known.below n lt k rest up);
}

module _ (shards : ℕ) (at : ℕ → Stand) (names : (n : ℕ) → n < shards → (at n).by ≡ n ∷ []) where
  accounted : (e : HistoryEntry) (log : List HistoryEntry) → AreKnown shards (e ∷ log) → (by : Name) → e.by ≡ by
      → IsAccountedFor shards at e
  accounted e log known [] is apart =
      All-head IsOutside (made e.call e.answer) (calls_by [] log)
      (subst (All IsOutside)
      (ap (λ b. cond b (made e.call e.answer ∷ calls_by [] log) (calls_by [] log))
      ((bytes_decides e.by []).1 is)) known.outside)
  accounted e log known (n ∷ []) is apart = elim (cases_lt n shards) [
    | inl below ↦ absurd (apart n below (is ∙ sym (names n below)))
    | inr above ↦ absurd (is-there e log (n ∷ []) is (known.ungiven n [] above))
  ]
  accounted e log known (n ∷ k ∷ rest) is apart = elim (cases_lt n shards) [
    | inl below ↦ absurd (is-there e log (n ∷ k ∷ rest) is (known.below n below k rest (omega arith)))
    | inr above ↦ absurd (is-there e log (n ∷ k ∷ rest) is (known.ungiven n (k ∷ rest) above))
  ]

  all-accounted : (log : List HistoryEntry) → AreKnown shards log → All (IsAccountedFor shards at) log
  all-accounted [] known = All-nil (IsAccountedFor shards at)
  all-accounted (e ∷ log) known =
      All-cons (IsAccountedFor shards at) e log (accounted e log known e.by refl)
      (all-accounted log (known-later shards e log known))

first-same : (n m : ℕ) → n ∷ [] ≡ m ∷ [] → n ≡ m
first-same n m e = cc

pub passes_law : PassesLaw
passes_law l is r device array start last caller v at all =
    let names : (n : ℕ) → n < l.shards → (at n).by ≡ n ∷ [] = (λ n below. sym (all n below).knows.name ∙ (all n below).name) in
    let found = for-all (λ n rest. last.seen ≡ (v n).seen ++ rest) l.shards [] (λ n below. (all n below).seen) in
    courses_law l is r device array start last.seen found.0 at
    (λ n below.
    let x = all n below in
    record {
      follows = x.follows;
      seen = found.1 n below ∙ ap (λ y. y ++ found.0 n) x.knows.seen;
      own =
          ap (λ y. calls_by y last.seen) (sym x.knows.name) ∙ x.none_since ∙ sym x.knows.own
          ∙ ap (calls_by (at n).by) x.knows.seen;
    })
    (λ n m below below' same. first-same n m (sym (names n below) ∙ same ∙ names m below'))
    (all-accounted l.shards at names last.seen
    (record {
      outside = subst (All IsOutside)
          (sym (ap (λ y. calls_by y last.seen) (sym caller.name) ∙ caller.own)) caller.outside;
      ungiven = subst (λ y. NoneUngiven y l.shards last.seen) caller.name
          (subst (λ k. NoneUngiven last.name k last.seen) caller.next caller.ungiven);
      below = λ n below. subst (λ y. NoneUngiven y 0 last.seen) (all n below).name (all n below).none_below;
    }))

-- ---- a pass that made no call since

none-first : {A : Type 0} (xs ys : List A) → xs ++ ys ≡ [] → xs ≡ []
none-first [] ys e = refl
none-first (x ∷ xs) ys e = absurd (let found : (x ∷ (xs ++ ys)) ≡ [] = e in cc)

-- where there are no more at last there are none between
as-before : (by : Name) (a b c : List HistoryEntry) (mine : List OwnCall) → calls_by by a ≡ mine
    → calls_by by ((a ++ b) ++ c) ≡ mine
    → calls_by by (a ++ b) ≡ mine
as-before by a b c mine first last =
    let parts : calls_by by ((a ++ b) ++ c) ≡ calls_by by a ++ (calls_by by b ++ calls_by by c) =
    ap (calls_by by) (append_assoc a b c) ∙ calls_by-append by a (b ++ c)
    ∙ ap (λ y. calls_by by a ++ y) (calls_by-append by b c) in
    let both : calls_by by b ++ calls_by by c ≡ [] =
    append_cancel_left (calls_by by a) (calls_by by b ++ calls_by by c) []
    (sym parts ∙ last ∙ sym first ∙ sym (append-nil (calls_by by a))) in
    calls_by-append by a b ∙ ap (λ y. calls_by by a ++ y) (none-first (calls_by by b) (calls_by by c) both)
    ∙ append-nil (calls_by by a) ∙ first

pub none_since_law : NoneSinceLaw
none_since_law last v w own seen look heard =
    let name = look.grows.name in
    let told = look.told last.seen heard in
    let at-last : calls_by v.name ((v.seen ++ seen.0) ++ told.0) ≡ v.mine =
    ap (λ y. calls_by v.name (y ++ told.0)) (sym seen.1) ∙ ap (calls_by v.name) (sym told.1)
    ∙ ap (λ y. calls_by y w.seen) (sym name)
    ∙ look.own ∙ look.grows.mine in
    let ungiven : NoneUngiven v.name v.next w.seen =
    subst (λ y. NoneUngiven y v.next w.seen) name
    (subst (λ k. NoneUngiven w.name k w.seen) look.grows.next look.ungiven) in (
      ap (calls_by v.name) seen.1 ∙ as-before v.name v.seen seen.0 told.0 v.mine own at-last,
      λ k rest up.
          let by = v.name ++ k ∷ rest in
          none-first (calls_by by last.seen) (calls_by by told.0)
          (sym (calls_by-append by last.seen told.0) ∙ ap (calls_by by) (sym told.1) ∙ ungiven k rest up),
    )
