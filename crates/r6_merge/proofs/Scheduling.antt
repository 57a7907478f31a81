-- Runs that have the same changes of the register can be woven.
use Rattle.std.proofs.Common.{◌≡◌, ◌≢◌, ℕ, zero, suc, ◌<◌, ◌≤◌, List, [], ◌∷◌, ◌++◌, All, false, cond, ◌==◌, inl, inr, refl, sym, ap, ◌∙◌, subst, arith, Option, Some, None, Ok, Err}
use Rattle.std.proofs.lemmas.Bool.{cases_eq, ne_eqb}
use Rattle.std.proofs.lemmas.List.Elements.{All-head, All-tail}
use Rattle.r6_world.specs.Tables.{put}
use Rattle.r6_world.specs.Layouts.{Layout}
use Rattle.r6_world.specs.Worlds.{Happening, Core, Perform, Tell, Outside, Moment}
use Rattle.r6_world.proofs.Tables.{put-same, put-other, Some-inj, None-not_Some}
use Rattle.r6_course.specs.Seen.{LeavesRegister, HasChanges}
use Rattle.r6_merge.specs.Weaving.{Change, MakesChange, IsOfMaker, IsWoven, happenings_of}
use Rattle.r6_merge.specs.Scheduling.{IsMadeBy, HasMaker, ScheduleLaw, is_own, own, OwnLaw}

-- ---- one shard, up to the next change

abbrev pub AllLeave : Layout → ℕ → List Moment → Type 0
AllLeave l n [] = record {}
AllLeave l n (m ∷ moments) = LeavesRegister l n m.happening × AllLeave l n moments

-- the next change comes now, or there is none
abbrev pub IsReady : Layout → ℕ → List Change → List Moment → Type 0
IsReady l n [] moments = moments ≡ []
IsReady l n (change ∷ changes) moments =
    (first : Moment) × (tail : List Moment) ×
    (moments ≡ first ∷ tail) × MakesChange n change first.happening × HasChanges (MakesChange n) l n changes tail

pub record Parted (l : Layout) (n : ℕ) (changes : List Change) (moments : List Moment) : Type 0 where
  pub front : List Moment
  pub back : List Moment
  pub is : moments ≡ front ++ back
  pub left : AllLeave l n front
  pub ready : IsReady l n changes back

with-left : (l : Layout) (n : ℕ) (changes : List Change) (m : Moment) (moments : List Moment)
    → LeavesRegister l n m.happening → Parted l n changes moments
    → Parted l n changes (m ∷ moments)
with-left l n changes m moments q p = record {
  front = m ∷ p.front;
  back = p.back;
  is = ap (λ ms. m ∷ ms) p.is;
  left = (q, p.left);
  ready = p.ready;
}

parts : (l : Layout) (n : ℕ) (changes : List Change) (moments : List Moment)
    → HasChanges (MakesChange n) l n changes moments → Parted l n changes moments
parts l n [] [] s = record { front = []; back = []; is = refl; left = record {}; ready = refl }
parts l n (change ∷ changes) [] s = absurd (let none : (change ∷ changes) ≡ [] = s in cc)
parts l n [] (m ∷ moments) s = with-left l n [] m moments s.0 (parts l n [] moments s.1)
parts l n (change ∷ changes) (m ∷ moments) s = elim s [
  | inl q ↦ with-left l n (change ∷ changes) m moments q.0 (parts l n (change ∷ changes) moments q.1)
  | inr q ↦ record { front = []; back = m ∷ moments; is = refl; left = record {}; ready = (m, moments, refl, q.0, q.1) }
]

abbrev pub first_of : Moment → List Moment → Moment
first_of default [] = default
first_of default (m ∷ moments) = m

abbrev pub tail_of : List Moment → List Moment
tail_of [] = []
tail_of (m ∷ moments) = moments

module _ (l : Layout) where
  abbrev pub CanBeWoven : (ℕ → List Moment) → Type 0
  CanBeWoven rest = (happenings : List Happening) × IsWoven l rest happenings

  -- one shard goes on
  advance : (n : ℕ) → n < l.shards → (front back : List Moment) (rest : ℕ → List Moment) → rest n ≡ front ++ back
      → AllLeave l n front
      → ((rest' : ℕ → List Moment) → rest' n ≡ back → ((k : ℕ) → (k ≡ n → ⊥) → rest' k ≡ rest k) → CanBeWoven rest')
      → CanBeWoven rest
  advance n below [] back rest e q f = f rest e (λ k ne. refl)
  advance n below (m ∷ front) back rest e q f =
      let r = advance n below front back (put rest n (front ++ back)) (put-same rest n (front ++ back) n refl) q.1
      (λ rest' e' others. f rest' e' (λ k ne. others k ne ∙ put-other rest n (front ++ back) k ne)) in (
        m.happening ∷ r.0,
        inl (record { shard = n; below = below; first = m; tail = front ++ back; is = e; leaves = q.0; same = refl }, r.1),
      )

  -- all shards from this number on are at the next change, those below it not yet
  abbrev pub AreUpTo : List Change → (count : ℕ) → (ℕ → List Moment) → Type 0
  AreUpTo changes count rest =
      (n : ℕ) → n < l.shards
      → (n < count → HasChanges (MakesChange n) l n changes (rest n)) ×
      ((n < count → ⊥) → IsReady l n changes (rest n))

  flush : (changes : List Change) (count : ℕ) → count ≤ l.shards → (rest : ℕ → List Moment) → AreUpTo changes count rest
      → ((rest' : ℕ → List Moment) → ((n : ℕ) → n < l.shards → IsReady l n changes (rest' n)) → CanBeWoven rest')
      → CanBeWoven rest
  flush changes zero small rest up f = f rest (λ n below. (up n below).1 (λ none. absurd (omega arith)))
  flush changes (suc count) small rest up f =
      let here : count < l.shards = omega arith in
      let p = parts l count changes (rest count) ((up count here).0 (omega arith)) in
      advance count here p.front p.back rest p.is p.left
      (λ rest' e others.
      flush changes count (omega arith) rest'
      (λ n below. (
        (λ lower. subst (HasChanges (MakesChange n) l n changes) (sym (others n (λ same. absurd (omega arith))))
            ((up n below).0 (omega arith))),
        (λ upper. elim (cases_eq n count) [
          | inl same ↦ subst (λ y. IsReady l y changes (rest' y)) (sym same) (subst (IsReady l count changes) (sym e) p.ready)
          | inr ne ↦ subst (IsReady l n changes) (sym (others n ne)) ((up n below).1 (λ less. upper (omega arith)))
        ]),
      )) f)

  ready-first : (n : ℕ) (default : Moment) (change : Change) (changes : List Change) (moments : List Moment)
      → IsReady l n (change ∷ changes) moments
      → (moments ≡ first_of default moments ∷ tail_of moments) × MakesChange n change
      (first_of default moments).happening × HasChanges (MakesChange n) l n changes (tail_of moments)
  ready-first n default change changes moments r =
      subst (λ y. (y ≡ first_of default y ∷ tail_of y) × MakesChange n change
      (first_of default y).happening × HasChanges (MakesChange n) l n changes (tail_of y)) (sym r.2)
      (refl, r.3, r.4)

  weave : (changes : List Change) → All (HasMaker l) changes → (rest : ℕ → List Moment)
      → ((n : ℕ) → n < l.shards → HasChanges (MakesChange n) l n changes (rest n)) → CanBeWoven rest
  weave [] made rest sees =
      flush [] l.shards (omega arith) rest (λ n below. ((λ lower. sees n below), (λ upper. absurd (upper below))))
      (λ rest' ready. ([], ready))
  weave (change ∷ changes) made rest sees =
      flush (change ∷ changes) l.shards (omega arith) rest
      (λ n below. ((λ lower. sees n below), (λ upper. absurd (upper below))))
      (λ rest' ready.
      let default : Moment = record { happening = Outside change.call; noise = λ d g row. [] } in
      let firsts : ℕ → Moment = λ n. first_of default (rest' n) in
      let tails : ℕ → List Moment = λ n. tail_of (rest' n) in
      let heads : (n : ℕ) → n < l.shards → (rest' n ≡ firsts n ∷ tails n) × MakesChange n change (firsts n).happening × HasChanges (MakesChange n) l n changes (tails n) =
      (λ n below. ready-first n default change changes (rest' n) (ready n below)) in
      let h = stand change change.maker (λ n. (firsts n).happening) (All-head (HasMaker l) change changes made) in
      let r = weave changes (All-tail (HasMaker l) change changes made) tails (λ n below. (heads n below).2) in (
        h.0 ∷ r.0,
        inr (
          record {
            change = change;
            firsts = firsts;
            tails = tails;
            is = λ n below. (heads n below).0;
            makes = λ n below. (heads n below).1;
            here = h.1;
          },
          r.1,
        ),
      ))
    where
      stand : (change : Change) (maker : Option ℕ) (firsts : ℕ → Happening) → IsMadeBy l maker change
          → (h : Happening) × IsOfMaker l maker change firsts h
      stand change None firsts comes = (Outside change.call, (refl, comes))
      stand change (Some n) firsts below = (firsts n, (below, refl))

pub schedule_law : ScheduleLaw
schedule_law l changes made runs sees = weave l changes made runs sees

-- ---- what is a shard's own

-- what another shard does is not its own
left-other : (l : Layout) (n k : ℕ) (h : Happening) → LeavesRegister l k h → (k ≡ n → ⊥) → is_own n h ≡ false
left-other l n k (Core m event new) e ne = ap (λ y. y == n) e ∙ ne_eqb k n ne
left-other l n k (Perform m token c) e ne = ap (λ y. y == n) e ∙ ne_eqb k n ne
left-other l n k (Tell m call (Ok answer) middle new) e ne = absurd e
left-other l n k (Tell m call (Err refusal) middle new) e ne = ap (λ y. y == n) e ∙ ne_eqb k n ne
left-other l n k (Outside call) e ne = refl

made-by-other : (n : ℕ) (change : Change) (h : Happening) → MakesChange n change h → change.maker ≢ Some n
    → is_own n h ≡ false
made-by-other n change (Core m event new) s ne = absurd s
made-by-other n change (Perform m token c) s ne = absurd s
made-by-other n change (Tell m call (Ok answer) middle new) s ne = absurd (ne s.0)
made-by-other n change (Tell m call (Err refusal) middle new) s ne = absurd s
made-by-other n change (Outside call) s ne = refl

made-by-own : (n k : ℕ) (change : Change) (h : Happening) → MakesChange k change h → change.maker ≡ Some k
    → is_own n h ≡ (k == n)
made-by-own n k change (Core m event new) s e = absurd s
made-by-own n k change (Perform m token c) s e = absurd s
made-by-own n k change (Tell m call (Ok answer) middle new) s e = ap (λ y. y == n) s.1
made-by-own n k change (Tell m call (Err refusal) middle new) s e = absurd s
made-by-own n k change (Outside call) s e = absurd (s.0 e)

pub own_law : OwnLaw
own_law l runs [] woven n below = ap (λ y. own n (happenings_of y)) (sym (woven n below))
own_law l runs (h ∷ happenings) woven n below = elim woven [
  | inl q ↦
      let g = q.0 in
      let k = g.shard in
      let f = g.first.happening in
      let rec = own_law l (put runs k g.tail) happenings q.1 n below in
      elim (cases_eq k n) [
        | inl same ↦
            ap (λ y. cond (is_own n y) (y ∷ own n happenings) (own n happenings)) g.same
            ∙ ap (λ y. cond (is_own n f) (f ∷ y) y)
            (rec ∙ ap (λ y. own n (happenings_of y)) (put-same runs k g.tail n (sym same)))
            ∙ ap (λ y. own n (happenings_of y)) (sym (sym (ap runs same) ∙ g.is))
        | inr ne ↦
            ap (λ y. cond (is_own n y) (y ∷ own n happenings) (own n happenings)) g.same
            ∙ ap (λ y. cond y (f ∷ own n happenings) (own n happenings)) (left-other l n k f g.leaves ne)
            ∙ rec ∙ ap (λ y. own n (happenings_of y)) (put-other runs k g.tail n (λ same. ne (sym same)))
      ]
  | inr q ↦
      let c = q.0 in
      let rec = own_law l c.tails happenings q.1 n below in
      let f = (c.firsts n).happening in
      changed c.change c.change.maker refl (λ k. (c.firsts k).happening) h (c.makes n below) c.here c.makes
      (own n happenings) (own n (happenings_of (c.tails n))) rec
      ∙ ap (λ y. own n (happenings_of y)) (sym (c.is n below))
]
  where
    changed : (change : Change) (maker : Option ℕ) → change.maker ≡ maker → (firsts : ℕ → Happening) (h : Happening)
        → MakesChange n change (firsts n)
        → IsOfMaker l maker change firsts h → ((k : ℕ) → k < l.shards → MakesChange k change (firsts k))
        → (a b : List Happening) → a ≡ b
        → cond (is_own n h) (h ∷ a) a ≡ cond (is_own n (firsts n)) (firsts n ∷ b) b
    changed change None made firsts h s here all a b e =
        ap (λ y. cond (is_own n y) (y ∷ a) a) here.0 ∙ e
        ∙ sym (ap (λ y. cond y (firsts n ∷ b) b)
        (made-by-other n change (firsts n) s (λ e'. None-not_Some n (sym made ∙ e'))))
    changed change (Some k) made firsts h s here all a b e = elim (cases_eq k n) [
      | inl same ↦
          ap (λ y. cond (is_own n y) (y ∷ a) a) (here.1 ∙ ap firsts same)
          ∙ ap (λ y. cond (is_own n (firsts n)) (firsts n ∷ y) y) e
      | inr ne ↦
          ap (λ y. cond (is_own n y) (y ∷ a) a) here.1
          ∙ ap (λ y. cond y (firsts k ∷ a) a) (made-by-own n k change (firsts k) (all k here.0) made ∙ ne_eqb k n ne)
          ∙ e
          ∙ sym (ap (λ y. cond y (firsts n ∷ b) b)
          (made-by-other n change (firsts n) s (λ e'. ne (Some-inj k n (sym made ∙ e')))))
    ]
