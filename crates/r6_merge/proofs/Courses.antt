-- The courses of all shards are one run.
use Rattle.std.proofs.Common.{◌≡◌, ◌≢◌, ℕ, zero, suc, ◌<◌, List, [], ◌∷◌, map, All, Bool, true, false, cond, if◌then◌else◌, arith, eq-eqb, inl, inr, refl, sym, ap, ◌∙◌, subst, Option, Some, None, Ok, Err}
use Rattle.std.proofs.lemmas.Bool.{cases_eq, false≢true}
use Rattle.std.proofs.lemmas.List.{append_cancel_left, map-append}
use Rattle.std.proofs.lemmas.List.Elements.{All-map, All-weaker}
use lib.Pointwise.{bytes_decides}
use Rattle.r6_health.specs.declared.history.HistoryEntry.{HistoryEntry}
use Rattle.r6_health.specs.Histories.{Name, is_name, calls_by}
use Rattle.r6_world.specs.PlainArray.{Array}
use Rattle.r6_world.specs.Layouts.{Layout, IsLayout}
use Rattle.r6_world.specs.Registers.{Snapshot, answer_to, register_after}
use Rattle.r6_world.specs.Worlds.{World, Devices, Happening, Core, Perform, Tell, Outside, Moment, Run, started}
use Rattle.r6_world.specs.Claims.{IsLawfulStart}
use Rattle.r6_world.specs.Laws.{IsOfOutside, IsByAnyone, IsOfShard, AreOfShard}
use Rattle.r6_world.specs.Witness.{after_all}
use Rattle.r6_world.proofs.Tables.{Some-inj, None-not_Some}
use Rattle.r6_course.specs.Seen.{HasChanges, MakesEntry}
use Rattle.r6_course.specs.Courses.{Mark, marked, history_after, history_of, Stand, AreParts}
use Rattle.r6_course.proofs.Calls.{tells-alike}
use Rattle.r6_course.proofs.Sees.{IsOfAnother, none-between}
use Rattle.r6_merge.specs.Weaving.{Change, MakesChange, happenings_of}
use Rattle.r6_merge.specs.Scheduling.{IsMadeBy, HasMaker, is_own, own, SawFirst, register_after_all}
use Rattle.r6_merge.specs.Courses.{start_for, IsPartOf, IsAccountedFor, history_in, register_since, AreOneRun, CoursesLaw}
use Rattle.r6_merge.proofs.Below.{for-all}
use Rattle.r6_merge.proofs.Later.{IsOfOther, one_run_law}

-- ---- whose the calls are

-- the shard below a bound whose pass has this name
abbrev pub maker_of : (name : ℕ → Name) → (count : ℕ) → (by : Name) → Option ℕ
maker_of name zero by = None
maker_of name (suc n) by = if is_name (name n) by then Some n else maker_of name n by

abbrev pub change_of : (name : ℕ → Name) → (count : ℕ) → HistoryEntry → Change
change_of name count e = record { maker = maker_of name count e.by; call = e.call; answer = e.answer }

abbrev pub changes_of : (name : ℕ → Name) → (count : ℕ) → List HistoryEntry → List Change
changes_of name count log = map (change_of name count) log

maker-some : (name : ℕ → Name) (count : ℕ) (by : Name) (n : ℕ) → maker_of name count by ≡ Some n → (n < count) × (name n ≡ by)
maker-some name zero by n e = absurd (None-not_Some n e)
maker-some name (suc k) by n e = at (is_name (name k) by) refl e (λ below. maker-some name k by n below)
  where
    at : (is : Bool) → is_name (name k) by ≡ is → cond is (Some k) (maker_of name k by) ≡ Some n
        → (maker_of name k by ≡ Some n → (n < k) × (name n ≡ by)) → (n < suc k) × (name n ≡ by)
    at true same e rec =
        let here : k ≡ n = Some-inj k n e in (omega arith, ap name (sym here) ∙ (bytes_decides (name k) by).0 same)
    at false other e rec =
        let found = rec e in (let low = found.0 in omega arith, found.1)

maker-none : (name : ℕ → Name) (count : ℕ) (by : Name) → maker_of name count by ≡ None → (n : ℕ) → n < count → by ≢ name n
maker-none name zero by e n below same = absurd (omega arith)
maker-none name (suc k) by e n below same =
    at (is_name (name k) by) refl e (λ none lower. maker-none name k by none n lower same)
  where
    at : (is : Bool) → is_name (name k) by ≡ is → cond is (Some k) (maker_of name k by) ≡ None
        → (maker_of name k by ≡ None → n < k → ⊥) → ⊥
    at true same' e rec = None-not_Some k (sym e)
    at false other e rec = elim (cases_eq n k) [
      | inl here ↦ false≢true (sym other ∙ (bytes_decides (name k) by).1 (ap name (sym here) ∙ sym same))
      | inr ne ↦ rec e (omega arith)
    ]

-- where each of these changes of a run is one of those
changes-so : {C D : Type 0} (Is : C → Happening → Type 0) (Is' : D → Happening → Type 0) (f : C → D)
    → ((c : C) (h : Happening) → Is c h → Is' (f c) h) → (l : Layout) (n : ℕ) (cs : List C) (moments : List Moment)
    → HasChanges Is l n cs moments → HasChanges Is' l n (map f cs) moments
changes-so Is Is' f so l n [] [] x = refl
changes-so Is Is' f so l n (c ∷ cs) [] x = absurd (let none : (c ∷ cs) ≡ [] = x in cc)
changes-so Is Is' f so l n [] (m ∷ moments) x = (x.0, changes-so Is Is' f so l n [] moments x.1)
changes-so Is Is' f so l n (c ∷ cs) (m ∷ moments) x = elim x [
  | inl q ↦ inl (q.0, changes-so Is Is' f so l n (c ∷ cs) moments q.1)
  | inr q ↦ inr (so c m.happening q.0, changes-so Is Is' f so l n cs moments q.1)
]

-- a pass of another name isn't the shard's
not-made : (name : ℕ → Name) (count n : ℕ) (e : HistoryEntry) → e.by ≢ name n → IsOfOther n (change_of name count e)
not-made name count n e other made = other (sym (maker-some name count e.by n made).1)

has-maker : (l : Layout) (name : ℕ → Name) (e : HistoryEntry) → (((n : ℕ) → n < l.shards → e.by ≢ name n) → IsOfOutside e.call)
    → HasMaker l (change_of name l.shards e)
has-maker l name e comes = at (maker_of name l.shards e.by) refl
  where
    at : (o : Option ℕ) → maker_of name l.shards e.by ≡ o → HasMaker l (change_of name l.shards e)
    at None is = subst (λ y. IsMadeBy l y (change_of name l.shards e)) (sym is) (comes (maker-none name l.shards e.by is))
    at (Some n) is = subst (λ y. IsMadeBy l y (change_of name l.shards e)) (sym is) (maker-some name l.shards e.by n is).0

-- where the passes have names of their own
module _ (l : Layout) (name : ℕ → Name) (apart : (n m : ℕ) → n < l.shards → m < l.shards → name n ≡ name m → n ≡ m) where
  maker-own : (n : ℕ) (by : Name) → n < l.shards → by ≡ name n → maker_of name l.shards by ≡ Some n
  maker-own n by below same = at (maker_of name l.shards by) refl
    where
      at : (o : Option ℕ) → maker_of name l.shards by ≡ o → maker_of name l.shards by ≡ Some n
      at None e = absurd (maker-none name l.shards by e n below same)
      at (Some m) e =
          let q = maker-some name l.shards by m e in
          e ∙ ap Some (apart m n q.0 below (q.1 ∙ same))

  pub made-so : (n : ℕ) → n < l.shards → (e : HistoryEntry) (h : Happening) → MakesEntry (name n) n e h
      → MakesChange n (change_of name l.shards e) h
  made-so n below e (Core m event new) x = x
  made-so n below e (Perform m token c) x = x
  made-so n below e (Tell m call (Ok answer) middle new) x = (maker-own n e.by below x.0, x.1, x.2, x.3)
  made-so n below e (Tell m call (Err refusal) middle new) x = x
  made-so n below e (Outside call) x = (not-made name l.shards n e x.0, x.1)

-- ---- what users see

-- it shows in what happened in the shard
history-own : (n : ℕ) (history : List Mark) (hs : List Happening) → history_in n history (own n hs) ≡ history_in n history hs
history-own n history [] = refl
history-own n history (h ∷ hs) = at (is_own n h) refl (history-own n history hs) (history-own n (history_after h history) hs)
  where
    at : (b : Bool) → is_own n h ≡ b → history_in n history (own n hs) ≡ history_in n history hs
        → history_in n (history_after h history) (own n hs) ≡ history_in n (history_after h history) hs
        → history_in n history (cond (is_own n h) (h ∷ own n hs) (own n hs))
        ≡ history_in n (cond (is_own n h) (history_after h history) history) hs
    at true e rec rec' =
        ap (λ b. history_in n history (cond b (h ∷ own n hs) (own n hs))) e
        ∙ ap (λ b. history_in n (cond b (history_after h history) history) (own n hs)) e ∙ rec'
        ∙ ap (λ b. history_in n (cond b (history_after h history) history) hs) (sym e)
    at false e rec rec' =
        ap (λ b. history_in n history (cond b (h ∷ own n hs) (own n hs))) e ∙ rec
        ∙ ap (λ b. history_in n (cond b (history_after h history) history) hs) (sym e)

-- of a run of the shard it is all
history-same : (n : ℕ) (history : List Mark) (moments : List Moment) → AreOfShard n moments
    → history_in n history (happenings_of moments) ≡ history_of history moments
history-same n history [] all = refl
history-same n history (m ∷ moments) all =
    ap (λ y. history_in n y (happenings_of moments)) (step m.happening all.0) ∙ history-same n (history_after m.happening history) moments all.1
  where
    step : (h : Happening) → IsOfShard n h → cond (is_own n h) (history_after h history) history ≡ history_after h history
    step (Core k event new) e = ap (λ b. cond b (marked event history) history) (eq-eqb k n e)
    step (Perform k token c) e = ap (λ b. cond b history history) (eq-eqb k n e)
    step (Tell k call answer middle new) e = ap (λ b. cond b history history) (eq-eqb k n e)
    step (Outside call) e = refl

-- ---- the register

-- the changes leave the register as their calls do
since : (name : ℕ → Name) (count : ℕ) (l : Layout) (r : Snapshot) (log : List HistoryEntry)
    → register_after_all l r (changes_of name count log) ≡ register_since l r log
since name count l r [] = refl
since name count l r (e ∷ log) = since name count l (register_after l r e.call (answer_to l r e.call)) log

-- ---- all of it

-- a run of one shard that leads to where it stands
pub record IsRunTo (l : Layout) (r : Snapshot) (device : Devices) (array : Array) (changes seen later : List Change) (n : ℕ) (at : Stand)
    (moments : List Moment) : Type 0 where
  pub run : Run l IsByAnyone (started l r device) moments
  pub saw : SawFirst l n changes seen later moments
  pub history : history_in n [] (happenings_of moments) ≡ at.history
  pub shard : (after_all l (started l r device) moments).shard n ≡ at.shard
  pub register : (after_all l (started l r device) moments).register ≡ at.register
  pub parts : AreParts (start_for l r device array n) (after_all l (started l r device) moments).device
      ((after_all l (started l r device) moments).broken n) at.part

module _ (l : Layout) (r : Snapshot) (device : Devices) (array : Array) (log : List HistoryEntry) (rests : ℕ → List HistoryEntry) (at : ℕ → Stand)
    (all : (n : ℕ) → n < l.shards → IsPartOf log (rests n) (start_for l r device array n) (at n))
    (apart : (n m : ℕ) → n < l.shards → m < l.shards → (at n).by ≡ (at m).by → n ≡ m) where
  abbrev pub name : ℕ → Name
  name n = (at n).by

  abbrev pub changed : List HistoryEntry → List Change
  changed entries = changes_of name l.shards entries

  abbrev pub LeadsTo : ℕ → List Moment → Type 0
  LeadsTo n moments = IsRunTo l r device array (changed log) (changed (at n).log) (changed (rests n)) n (at n) moments

  leads : (n : ℕ) → n < l.shards → (moments : List Moment) × LeadsTo n moments
  leads n below =
      let p = all n below in
      let f = p.follows in
      let x = f.reached in
      let by = (at n).by in
      let others : All (IsOfAnother by) (rests n) =
      none-between by (at n).log (rests n) (calls_by by (at n).log) refl (ap (calls_by by) (sym p.seen) ∙ p.own) in (
        x.moments,
        record {
          run = x.run;
          saw = record {
            is = ap changed p.seen ∙ map-append (change_of name l.shards) (at n).log (rests n);
            sees = changes-so (MakesEntry by n) (MakesChange n) (change_of name l.shards) (made-so l name apart n below) l n (at n).log x.moments f.sees;
            of_others = All-map (IsOfOther n) (change_of name l.shards) (rests n)
                (All-weaker (IsOfAnother by) (λ e. IsOfOther n (change_of name l.shards e)) (not-made name l.shards n) (rests n) others);
          };
          history = history-same n [] x.moments x.own ∙ x.marks;
          shard = ap (λ (y : World). y.shard n) x.world ∙ f.shard;
          register = ap (λ (y : World). y.register) x.world ∙ f.register;
          parts = subst (λ (y : World). AreParts (start_for l r device array n) y.device (y.broken n) (at n).part) (sym x.world) f.parts;
        },
      )

  pub one-run : IsLayout l → IsLawfulStart l r device array → All (IsAccountedFor l.shards at) log → AreOneRun l r device array log at
  one-run is start accounted =
      let found = for-all LeadsTo l.shards [] leads in
      let runs : ℕ → List Moment = found.0 in
      let are : (n : ℕ) → n < l.shards → LeadsTo n (runs n) = found.1 in
      let made : All (HasMaker l) (changed log) =
      All-map (HasMaker l) (change_of name l.shards) log
      (All-weaker (IsAccountedFor l.shards at) (λ e. HasMaker l (change_of name l.shards e)) (has-maker l name) log accounted) in
      let have = one_run_law l is r device array start (changed log) made runs
      (λ n below. (are n below).run) (λ n. changed (at n).log) (λ n. changed (rests n)) (λ n below. (are n below).saw) in
      record {
        runs = have.longer;
        some = have.some;
        every = λ happenings woven.
            let one = have.every happenings woven in
            record {
              moments = one.moments;
              one = one.one;
              seen = λ n below.
                  sym (history-own n [] happenings) ∙ ap (history_in n []) (one.own_is n below)
                  ∙ history-own n [] (happenings_of (runs n)) ∙ (are n below).history;
              shard = λ n below. (one.ends n below).shard ∙ (are n below).shard;
              register = λ n below rest whole.
                  let same : rests n ≡ rest = append_cancel_left (at n).log (rests n) rest (sym (all n below).seen ∙ whole) in
                  (one.ends n below).register
                  ∙ ap (λ y. register_after_all l (after_all l (started l r device) (runs n)).register (changed y)) same
                  ∙ ap (λ y. register_after_all l y (changed rest)) (are n below).register ∙ since name l.shards l (at n).register rest;
              parts = λ n below slot g telling there ok.
                  let e = one.ends n below in
                  tells-alike (start_for l r device array n) ((after_all l (started l r device) (runs n)).device slot g)
                  ((after_all l (started l r device) one.moments).device slot g) telling (λ row in'. e.device slot g row in')
                  ((are n below).parts slot g telling there (ap (λ (y : ℕ → ℕ → Bool). y slot g) (sym e.broken) ∙ ok));
            };
      }

pub courses_law : CoursesLaw
courses_law l is r device array start log rests at all apart accounted = one-run l r device array log rests at all apart is start accounted
