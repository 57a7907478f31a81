-- Runs of shards, woven together, are one run.
use Rattle.std.proofs.Common.{◌≡◌, ◌≢◌, ℕ, ◌<◌, List, [], ◌∷◌, cond, if◌then◌else◌, ◌==◌, inl, inr, refl, sym, ap, ◌∙◌, subst, Option, Some, None, Ok, Err}
use Rattle.std.proofs.lemmas.Bool.{cases_eq, eq-eqb, ne_eqb}
use Rattle.r6_world.specs.Tables.{put}
use Rattle.r6_world.specs.PlainArray.{Plain}
use Rattle.r6_world.specs.Layouts.{Layout, IsLayout, IsRowOf}
use Rattle.r6_world.specs.Registers.{Fail, DeclareLost, Attach, ReportRebuilt, Replace, RegisterAnswer, Refusal, Contended, answer_to}
use Rattle.r6_world.specs.ShardStates.{Command, Call}
use Rattle.r6_world.specs.Worlds.{World, Devices, Happening, Core, Perform, Tell, Outside, Moment, Possible, Run, next, started, happened, as_made, IsAnswer}
use Rattle.r6_world.specs.ActingPoints.{plain_next}
use Rattle.r6_world.specs.Laws.{IsOfOutside, IsByAnyone, at_start}
use Rattle.r6_world.specs.Witness.{after_all}
use Rattle.r6_world.proofs.Tables.{put-same, put-other, some-of, Some-inj, None-not_Some}
use Rattle.r6_world.proofs.Laws.Judged.{IsIn as IsOfJudged}
use Rattle.r6_world.proofs.Laws.Kept.{Kept}
use Rattle.r6_world.proofs.Laws.Stepping.{one_step}
use Rattle.r6_world.proofs.Laws.Starts.{kept-start}
use Rattle.r6_world.proofs.Laws.ArrayLaws.{array_law_by}
use Rattle.r6_world.proofs.Register.Everywhere as everywhere
use Rattle.r6_course.specs.Seen.{LeavesRegister}
use Rattle.r6_merge.specs.Weaving.{Change, MakesChange, IsOfMaker, IsWoven, happenings_of, IsSameFor, WeaveLaw}
use Rattle.r6_merge.proofs.Same.{decays-alike, decays-none, core-alike, core-apart, perform-alike, perform-apart, tell-alike, refused-apart, taken-apart, outside-alike, none-failed, core-may, perform-may, tell-may}

-- three tables of which one entry each was changed
three-at : {A B C : Type 0} (P : ℕ → A → B → C → Type 0) (f : ℕ → A) (g : ℕ → B) (h : ℕ → C) (n : ℕ) (a : A) (b : B)
    (c : C)
    → (k : ℕ) → (k ≡ n → P k a b c) → ((k ≡ n → ⊥) → P k (f k) (g k) (h k))
    → P k (put f n a k) (put g n b k) (put h n c k)
three-at P f g h n a b c k here there = elim (cases_eq k n) [
  | inl same ↦
      subst (λ x. P k x (put g n b k) (put h n c k)) (sym (put-same f n a k same))
      (subst (λ x. P k a x (put h n c k)) (sym (put-same g n b k same))
      (subst (λ x. P k a b x) (sym (put-same h n c k same)) (here same)))
  | inr ne ↦
      subst (λ x. P k x (put g n b k) (put h n c k)) (sym (put-other f n a k ne))
      (subst (λ x. P k (f k) x (put h n c k)) (sym (put-other g n b k ne))
      (subst (λ x. P k (f k) (g k) x) (sym (put-other h n c k ne)) (there ne)))
]

-- what stands on broken parts of one shard's rows is as its own run has it, and of other rows as it was
abbrev pub patched : Layout → (n : ℕ) → (own : Devices) → (device : Devices) → Devices
patched l n own device = λ d g row. if l.shard_of row == n then own d g row else device d g row

patched-own : (l : Layout) (n : ℕ) (own device : Devices) (d g row : ℕ) → IsRowOf l n row
    → patched l n own device d g row ≡ own d g row
patched-own l n own device d g row there = ap (λ b. cond b (own d g row) (device d g row))
    (eq-eqb (l.shard_of row) n there.1)

patched-other : (l : Layout) (n k : ℕ) (own device : Devices) → (k ≡ n → ⊥) → (d g row : ℕ) → IsRowOf l k row
    → patched l n own device d g row ≡ device d g row
patched-other l n k own device ne d g row there =
    ap (λ b. cond b (own d g row) (device d g row)) (ne_eqb (l.shard_of row) n (λ e. ne (sym there.1 ∙ e)))

module _ (l : Layout) (is : IsLayout l) where
  -- ---- one shard goes on

  -- a command that a device performs is of a row of the shard
  in-rows : (n token : ℕ) (c : Command) (v : World) (plain : Plain) → Kept l (λ m. m ≡ n) v plain
      → v.flight n token ≡ Some c
      → (v.shard n).command token ≢ None → IsRowOf l n c.row
  in-rows n token c v plain kept flying there =
      let found = some-of ((v.shard n).command token) there in
      let same = (kept.sounds n refl).flies.same token c found.0 flying found.1 in
      subst (IsRowOf l n) (sym same.row) ((kept.in_shard n refl).commands token found.0 found.1)

  -- what one shard's step is in the run of the array
  pub record Steps (n : ℕ) (h : Happening) (w v : World) : Type 0 where
    pub possible : Possible l IsOfOutside w h
    pub alike : IsSameFor l n (happened l w h) (happened l v h)
    pub apart : (k : ℕ) (u : World) → (k ≡ n → ⊥) → IsSameFor l k w u → IsSameFor l k (happened l w h) u

  one-steps : (n : ℕ) (h : Happening) (w v : World) (plain : Plain) → Kept l (λ m. m ≡ n) v plain
      → LeavesRegister l n h → IsSameFor l n w v
      → Possible l IsByAnyone v h → Steps n h w v
  one-steps n (Core m event new) w v plain kept e x p =
      let y = subst (λ k. IsSameFor l k w v) (sym e) x in
      record {
        possible = core-may l m IsByAnyone IsOfOutside event new w v y p;
        alike = subst (λ k. IsSameFor l k (happened l w (Core m event new)) (happened l v (Core m event new))) e
            (core-alike l m event new w v y);
        apart = λ k u ne z. core-apart l m k event new w u (λ same. ne (same ∙ e)) z;
      }
  one-steps n (Perform m token c) w v plain kept e x p =
      let y = subst (λ k. IsSameFor l k w v) (sym e) x in
      let kept' = subst (λ k. Kept l (λ m. m ≡ k) v plain) (sym e) kept in
      let there = in-rows m token c v plain kept' p.1 p.2 in
      record {
        possible = perform-may l m token c IsByAnyone IsOfOutside w v y p;
        alike = subst (λ k. IsSameFor l k (happened l w (Perform m token c)) (happened l v (Perform m token c))) e
            (perform-alike l m token c w v there y);
        apart = λ k u ne z. perform-apart l is m k token c w u there (λ same. ne (same ∙ e)) z;
      }
  one-steps n (Tell m call (Ok answer) middle new) w v plain kept e x p = absurd e
  one-steps n (Tell m call (Err refusal) middle new) w v plain kept e x p =
      let y = subst (λ k. IsSameFor l k w v) (sym e) x in
      let h = Tell m call (Err refusal) middle new in
      record {
        possible = tell-may l m call (Err refusal) middle new IsByAnyone IsOfOutside w v y p;
        alike = subst (λ k. IsSameFor l k (happened l w h) (happened l v h)) e
            (tell-alike l m call (Err refusal) middle new w v y);
        apart = λ k u ne z. refused-apart l m k call refusal middle new w u (λ same. ne (same ∙ e)) z;
      }
  one-steps n (Outside (Fail slot)) w v plain kept e x p = record {
    possible = record {};
    alike = outside-alike l n (Fail slot) w v x;
    apart = λ k u ne z. none-failed l k slot w u e z;
  }
  one-steps n (Outside (DeclareLost slot generation)) w v plain kept e x p = absurd e
  one-steps n (Outside (Attach slot)) w v plain kept e x p = absurd e
  one-steps n (Outside (ReportRebuilt shard slot generation)) w v plain kept e x p = absurd e
  one-steps n (Outside (Replace slot)) w v plain kept e x p = absurd e

  -- ---- the register changes

  -- as one shard has it that didn't make the call
  others-have : (k : ℕ) (change : Change) (h : Happening) (w u : World) → MakesChange k change h → change.maker ≢ Some k
      → (stands : World) → ((IsSameFor l k w u) → IsSameFor l k stands (happened l u (Outside change.call)))
      → IsSameFor l k w u
      → IsSameFor l k stands (happened l u h)
  others-have k change (Core m event new) w u s ne stands alike x = absurd s
  others-have k change (Perform m token c) w u s ne stands alike x = absurd s
  others-have k change (Tell m call (Ok answer) middle new) w u s ne stands alike x = absurd (ne s.0)
  others-have k change (Tell m call (Err refusal) middle new) w u s ne stands alike x = absurd s
  others-have k change (Outside call) w u s ne stands alike x =
      subst (λ y. IsSameFor l k stands (happened l u (Outside y))) (sym s.1) (alike x)

  pub record ChangeSteps (w : World) (v : ℕ → World) (hs : ℕ → Happening) (h : Happening) : Type 0 where
    pub possible : Possible l IsOfOutside w h
    pub alike : (k : ℕ) → k < l.shards → IsSameFor l k (happened l w h) (happened l (v k) (hs k))

  outside-step : (change : Change) (w : World) (v : ℕ → World) (hs : ℕ → Happening)
      → ((k : ℕ) → k < l.shards → IsSameFor l k w (v k)) → ((k : ℕ) → k < l.shards → MakesChange k change (hs k))
      → change.maker ≡ None → IsOfOutside change.call → ChangeSteps w v hs (Outside change.call)
  outside-step change w v hs x stands none comes = record {
    possible = comes;
    alike = λ k below.
        others-have k change (hs k) w (v k) (stands k below) (λ e. None-not_Some k (sym none ∙ e))
        (happened l w (Outside change.call))
        (outside-alike l k change.call w (v k)) (x k below);
  }

  answered-so : (n : ℕ) (call : Call) (answer : RegisterAnswer) (v : World)
      → IsAnswer l v.register (as_made n call) (Ok answer)
      → answer_to l v.register (as_made n call) ≡ Ok answer
  answered-so n call answer v p = elim p [ inl e ↦ sym e | inr e ↦ absurd (ok-not_err answer Contended e) ]
    where
      ok-not_err : (a : RegisterAnswer) (r : Refusal) → Ok a ≡ Err r → ⊥
      ok-not_err a r e = cc

  taken-step : (change : Change) (w : World) (v : ℕ → World) (hs : ℕ → Happening) (n : ℕ) → n < l.shards
      → ((k : ℕ) → k < l.shards → IsSameFor l k w (v k)) → ((k : ℕ) → k < l.shards → MakesChange k change (hs k))
      → change.maker ≡ Some n → (h : Happening) → hs n ≡ h → MakesChange n change h → Possible l IsByAnyone (v n) h
      → ChangeSteps w v hs h
  taken-step change w v hs n below x stands made (Core m event new) at s p = absurd s
  taken-step change w v hs n below x stands made (Perform m token c) at s p = absurd s
  taken-step change w v hs n below x stands made (Tell m call (Err refusal) middle new) at s p = absurd s
  taken-step change w v hs n below x stands made (Outside call) at s p = absurd (s.0 made)
  taken-step change w v hs n below x stands made (Tell m call (Ok answer) middle new) at s p =
      let h = Tell m call (Ok answer) middle new in
      let own = subst (λ k. IsSameFor l k w (v n)) (sym s.1) (x n below) in
      let is-answer = answered-so m call answer (v n) p.1 in
      record {
        possible = tell-may l m call (Ok answer) middle new IsByAnyone IsOfOutside w (v n) own p;
        alike = λ k below'. elim (cases_eq k n) [
          | inl same ↦
              subst (λ y. IsSameFor l y (happened l w h) (happened l (v y) (hs y))) (sym same)
              (subst (λ y. IsSameFor l n (happened l w h) (happened l (v n) y)) (sym at)
              (subst (λ y. IsSameFor l y (happened l w h) (happened l (v n) h)) s.1
              (tell-alike l m call (Ok answer) middle new w (v n) own)))
          | inr ne ↦
              others-have k change (hs k) w (v k) (stands k below') (λ e. ne (Some-inj k n (sym e ∙ made)))
              (happened l w h)
              (λ z.
              let here : answer_to l (v k).register (as_made m call) ≡ Ok answer =
              ap (λ y. answer_to l y (as_made m call)) (sym z.register ∙ (x n below).register) ∙ is-answer in
              subst (λ y. IsSameFor l k (happened l w h) (happened l (v k) (Outside y))) s.2
              (taken-apart l m k call answer middle new w (v k) (λ same. ne (same ∙ s.1)) here z)) (x k below')
        ];
      }

  -- ---- all of it

  -- where a shard's own run stands, of which this is left, and which ends in this world
  pub record Lane (n : ℕ) (w last : World) (v : World) (plain : Plain) (rest : List Moment) : Type 0 where
    pub same : IsSameFor l n w v
    pub kept : Kept l (λ m. m ≡ n) v plain
    pub run : Run l IsByAnyone v rest
    pub ends : after_all l v rest ≡ last

  pub record Runs (w : World) (last : ℕ → World) (happenings : List Happening) : Type 0 where
    pub moments : List Moment
    pub are : happenings_of moments ≡ happenings
    pub run : Run l IsOfOutside w moments
    pub ends : (n : ℕ) → n < l.shards → IsSameFor l n (after_all l w moments) (last n)

  of-judged : (n : ℕ) (h : Happening) → LeavesRegister l n h → IsOfJudged (λ m. m ≡ n) h
  of-judged n (Core m event new) e = e
  of-judged n (Perform m token c) e = e
  of-judged n (Tell m call (Ok answer) middle new) e = absurd e
  of-judged n (Tell m call (Err refusal) middle new) e = e
  of-judged n (Outside call) e = record {}

  of-judged-too : (n : ℕ) (change : Change) (h : Happening) → MakesChange n change h → IsOfJudged (λ m. m ≡ n) h
  of-judged-too n change (Core m event new) e = absurd e
  of-judged-too n change (Perform m token c) e = absurd e
  of-judged-too n change (Tell m call (Ok answer) middle new) e = e.1
  of-judged-too n change (Tell m call (Err refusal) middle new) e = absurd e
  of-judged-too n change (Outside call) e = record {}

  -- one moment more in front
  more : (w : World) (last : ℕ → World) (m : Moment) (happenings : List Happening)
      → Possible l IsOfOutside w m.happening
      → Runs (next l w m) last happenings → Runs w last (m.happening ∷ happenings)
  more w last m happenings p r = record {
    moments = m ∷ r.moments;
    are = ap (λ hs. m.happening ∷ hs) r.are;
    run = (p, r.run);
    ends = r.ends;
  }

  weaves : (last : ℕ → World) (happenings : List Happening) (w : World) (v : ℕ → World) (plain : ℕ → Plain)
      (rest : ℕ → List Moment)
      → ((n : ℕ) → n < l.shards → Lane n w (last n) (v n) (plain n) (rest n)) → IsWoven l rest happenings
      → Runs w last happenings
  weaves last [] w v plain rest lanes woven = record {
    moments = [];
    are = refl;
    run = record {};
    ends = λ n below.
        let lane = lanes n below in
        subst (λ y. IsSameFor l n w y) (ap (after_all l (v n)) (sym (woven n below)) ∙ lane.ends) lane.same;
  }
  weaves last (h ∷ happenings) w v plain rest lanes woven = elim woven [
    | inl q ↦
        let g = q.0 in
        let n = g.shard in
        let lane = lanes n g.below in
        let first = g.first in
        let run : Run l IsByAnyone (v n) (first ∷ g.tail) = subst (Run l IsByAnyone (v n)) g.is lane.run in
        let step = one-steps n first.happening w (v n) (plain n) lane.kept g.leaves lane.same run.0 in
        let noise : Devices = patched l n first.noise (happened l w first.happening).device in
        let m : Moment = record { happening = first.happening; noise = noise } in
        let v' = next l (v n) first in
        let plain' = plain_next l (v n) first (plain n) in
        let kept' = one_step l is (λ k. k ≡ n) IsByAnyone first.happening first.noise (v n) (plain n) lane.kept (of-judged n first.happening g.leaves) run.0 in
        let w' = next l w m in
        let here : Lane n w' (last n) v' plain' g.tail =
        record {
          same = decays-alike l n (happened l w first.happening)
              (happened l (v n) first.happening) noise first.noise step.alike
              (patched-own l n first.noise (happened l w first.happening).device);
          kept = kept'.1;
          run = run.1;
          ends = ap (after_all l (v n)) (sym g.is) ∙ lane.ends;
        } in
        let there : (k : ℕ) → k < l.shards → (k ≡ n → ⊥) → Lane k w' (last k) (v k) (plain k) (rest k) =
        (λ k below ne.
        let other = lanes k below in
        record {
          same = decays-none l k (happened l w first.happening) (v k) noise (step.apart k (v k) ne other.same)
              (patched-other l n k first.noise (happened l w first.happening).device ne);
          kept = other.kept;
          run = other.run;
          ends = other.ends;
        }) in
        let lanes' : (k : ℕ) → k < l.shards → Lane k w' (last k) (put v n v' k) (put plain n plain' k) (put rest n g.tail k) =
        (λ k below.
        three-at (λ k a b c. Lane k w' (last k) a b c) v plain rest n v' plain' g.tail k
        (λ same. subst (λ y. Lane y w' (last y) v' plain' g.tail) (sym same) here) (there k below)) in
        subst (λ y. Runs w last (y ∷ happenings)) (sym g.same)
        (more w last m happenings step.possible
        (weaves last happenings w' (put v n v') (put plain n plain') (put rest n g.tail) lanes' q.1))
    | inr q ↦
        let c = q.0 in
        let hs : ℕ → Happening = λ n. (c.firsts n).happening in
        let noise : Devices = λ d g row. (c.firsts (l.shard_of row)).noise d g row in
        let run : (n : ℕ) → n < l.shards → Run l IsByAnyone (v n) (c.firsts n ∷ c.tails n) =
        (λ n below. subst (Run l IsByAnyone (v n)) (c.is n below) (lanes n below).run) in
        let same : (n : ℕ) → n < l.shards → IsSameFor l n w (v n) = (λ n below. (lanes n below).same) in
        let steps : ChangeSteps w v hs h = changed c.change c.change.maker refl w v c.firsts h same (λ n below. (run n below).0) c.makes c.here in
        let m : Moment = record { happening = h; noise = noise } in
        let w' = next l w m in
        more w last m happenings steps.possible
        (weaves last happenings w' (λ n. next l (v n) (c.firsts n))
        (λ n. plain_next l (v n) (c.firsts n) (plain n)) c.tails
        (λ n below. record {
          same = decays-alike l n (happened l w h) (happened l (v n) (hs n)) noise (c.firsts n).noise
              (steps.alike n below)
              (λ d g row there. ap (λ y. (c.firsts y).noise d g row) there.1);
          kept = (one_step l is (λ k. k ≡ n) IsByAnyone (hs n) (c.firsts n).noise (v n) (plain n) (lanes n below).kept
              (of-judged-too n c.change (hs n) (c.makes n below)) (run n below).0).1;
          run = (run n below).1;
          ends = ap (after_all l (v n)) (sym (c.is n below)) ∙ (lanes n below).ends;
        }) q.1)
  ]
    where
      changed : (change : Change) (maker : Option ℕ) → change.maker ≡ maker
          → (w : World) (v : ℕ → World) (firsts : ℕ → Moment) (h : Happening)
          → ((k : ℕ) → k < l.shards → IsSameFor l k w (v k))
          → ((k : ℕ) → k < l.shards → Possible l IsByAnyone (v k) (firsts k).happening)
          → ((k : ℕ) → k < l.shards → MakesChange k change (firsts k).happening)
          → IsOfMaker l maker change (λ n. (firsts n).happening) h
          → ChangeSteps w v (λ n. (firsts n).happening) h
      changed change None made w v firsts h same p stands here =
          subst (ChangeSteps w v (λ n. (firsts n).happening)) (sym here.0)
          (outside-step change w v (λ n. (firsts n).happening) same stands made here.1)
      changed change (Some n) made w v firsts h same p stands here =
          subst (ChangeSteps w v (λ n. (firsts n).happening)) (sym here.1)
          (taken-step change w v (λ n. (firsts n).happening) n here.0 same stands made (firsts n).happening refl
          (stands n here.0) (p n here.0))

pub same-self : (l : Layout) (n : ℕ) (w : World) → IsSameFor l n w w
same-self l n w = record {
  shard = refl;
  register = refl;
  device = λ d g row there. refl;
  flight = refl;
  performed = refl;
  broken = refl;
  completed = refl;
  lapsed = refl;
  unseen = refl;
  settled = refl;
}

pub weave_law : WeaveLaw
weave_law l is r device array start runs each happenings woven =
    let w = started l r device in
    let all = weaves l is (λ n. after_all l w (runs n)) happenings w (λ n. w) (λ n. at_start array) runs
    (λ n below. record {
      same = same-self l n w;
      kept = kept-start l is (λ m. m ≡ n) r device array start;
      run = each n below;
      ends = refl;
    }) woven in
    let law = array_law_by everywhere.rebuilt_law l is r device array start all.moments all.run in
    record {
      moments = all.moments;
      one = record { are = all.are; run = all.run; first = law.0; explained = law.1 };
      ends = all.ends;
    }
