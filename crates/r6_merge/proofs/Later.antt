-- Shards that have seen beginnings of one list of changes have one run.
use Rattle.std.proofs.Common.{◌≡◌, ◌≢◌, ℕ, ◌<◌, List, [], ◌∷◌, ◌++◌, All, Bool, true, false, cond, inr, refl, sym, ap, ◌∙◌, subst, Some}
use Rattle.std.proofs.lemmas.List.{append-nil, map-append}
use Rattle.std.proofs.lemmas.List.Elements.{All-head, All-tail}
use Rattle.r6_layout.specs.PlainArray.{Block}
use Rattle.r6_world.specs.Layouts.{Layout}
use Rattle.r6_world.specs.Worlds.{World, Happening, Outside, Moment, Run, next, started}
use Rattle.r6_world.specs.Laws.{IsByAnyone}
use Rattle.r6_world.specs.Witness.{after_all}
use Rattle.r6_world.proofs.Witness.Pieces.{after-append}
use Rattle.r6_course.proofs.Reached.{run-append}
use Rattle.r6_course.specs.Seen.{HasChanges}
use Rattle.r6_course.proofs.Sees.{changes-append}
use Rattle.r6_merge.specs.Weaving.{Change, MakesChange, happenings_of}
use Rattle.r6_merge.specs.Scheduling.{is_own, own, SawFirst, EndsAs, OneRunLaw, register_after_all}
use Rattle.r6_merge.proofs.Below.{for-all}
use Rattle.r6_merge.proofs.Weaving.{weave_law}
use Rattle.r6_merge.proofs.Scheduling.{schedule_law, own_law}

-- changes by others, as a run has them that goes on by nothing else; what stands on broken parts stays
abbrev pub outsides : World → Layout → List Change → List Moment
outsides w l [] = []
outsides w l (change ∷ changes) =
    let m : Moment = record { happening = Outside change.call; noise = w.device } in
    m ∷ outsides (next l w m) l changes

outsides-run : (l : Layout) (w : World) (changes : List Change) → Run l IsByAnyone w (outsides w l changes)
outsides-run l w [] = record {}
outsides-run l w (change ∷ changes) =
    (record {}, outsides-run l (next l w (record { happening = Outside change.call; noise = w.device })) changes)

outsides-shard : (l : Layout) (n : ℕ) (w : World) (changes : List Change)
    → (after_all l w (outsides w l changes)).shard n ≡ w.shard n
outsides-shard l n w [] = refl
outsides-shard l n w (change ∷ changes) =
    outsides-shard l n (next l w (record { happening = Outside change.call; noise = w.device })) changes

outsides-broken : (l : Layout) (n : ℕ) (w : World) (changes : List Change)
    → (after_all l w (outsides w l changes)).broken n ≡ w.broken n
outsides-broken l n w [] = refl
outsides-broken l n w (change ∷ changes) =
    outsides-broken l n (next l w (record { happening = Outside change.call; noise = w.device })) changes

outsides-register : (l : Layout) (w : World) (changes : List Change)
    → (after_all l w (outsides w l changes)).register ≡ register_after_all l w.register changes
outsides-register l w [] = refl
outsides-register l w (change ∷ changes) =
    outsides-register l (next l w (record { happening = Outside change.call; noise = w.device })) changes

both : (b : Bool) (x : Block) → cond b x x ≡ x
both true x = refl
both false x = refl

outsides-device : (l : Layout) (w : World) (changes : List Change) (d g row : ℕ)
    → (after_all l w (outsides w l changes)).device d g row ≡ w.device d g row
outsides-device l w [] d g row = refl
outsides-device l w (change ∷ changes) d g row =
    outsides-device l (next l w (record { happening = Outside change.call; noise = w.device })) changes d g row
    ∙ both (w.broken (l.shard_of row) d g) (w.device d g row)

outsides-own : (l : Layout) (n : ℕ) (w : World) (changes : List Change)
    → own n (happenings_of (outsides w l changes)) ≡ []
outsides-own l n w [] = refl
outsides-own l n w (change ∷ changes) = outsides-own l n
    (next l w (record { happening = Outside change.call; noise = w.device })) changes

abbrev pub IsOfOther : ℕ → Change → Type 0
IsOfOther n change = change.maker ≢ Some n

outsides-seen : (l : Layout) (n : ℕ) (w : World) (changes : List Change) → All (IsOfOther n) changes
    → HasChanges (MakesChange n) l n changes (outsides w l changes)
outsides-seen l n w [] others = refl
outsides-seen l n w (change ∷ changes) others =
    inr (
      (All-head (IsOfOther n) change changes others, refl),
      outsides-seen l n (next l w (record { happening = Outside change.call; noise = w.device })) changes
          (All-tail (IsOfOther n) change changes others),
    )

own-append : (n : ℕ) (a b : List Happening) → own n (a ++ b) ≡ own n a ++ own n b
own-append n [] b = refl
own-append n (h ∷ a) b = at (is_own n h) (own-append n a b)
  where
    at : (yes : Bool) → own n (a ++ b) ≡ own n a ++ own n b
        → cond yes (h ∷ own n (a ++ b)) (own n (a ++ b)) ≡ cond yes (h ∷ own n a) (own n a) ++ own n b
    at true e = ap (λ hs. h ∷ hs) e
    at false e = e

-- the run of a shard, and after it the changes that it hasn't seen
pub record IsWhole (l : Layout) (n : ℕ) (start : World) (changes later : List Change) (moments longer : List Moment)
    : Type 0 where
  pub run : Run l IsByAnyone start longer
  pub sees : HasChanges (MakesChange n) l n changes longer
  pub own_is : own n (happenings_of longer) ≡ own n (happenings_of moments)
  pub ends : EndsAs l n later (after_all l start longer) (after_all l start moments)

abbrev pub Whole : Layout → ℕ → World → (changes later : List Change) → List Moment → Type 0
Whole l n start changes later moments = (longer : List Moment) × IsWhole l n start changes later moments longer

whole : (l : Layout) (n : ℕ) (start : World) (changes seen later : List Change) (moments : List Moment)
    → Run l IsByAnyone start moments
    → SawFirst l n changes seen later moments → Whole l n start changes later moments
whole l n start changes seen later moments run s =
    let w = after_all l start moments in
    let behind = outsides w l later in
    let ends = after-append l start moments behind in (
      moments ++ behind,
      record {
        run = run-append l start moments behind run (outsides-run l w later);
        sees = subst (λ y. HasChanges (MakesChange n) l n y (moments ++ behind)) (sym s.is)
            (changes-append (MakesChange n) l n seen later moments behind s.sees
            (outsides-seen l n w later s.of_others));
        own_is =
            ap (own n) (map-append (λ (m : Moment). m.happening) moments behind)
            ∙ own-append n (happenings_of moments) (happenings_of behind)
            ∙ ap (λ y. own n (happenings_of moments) ++ y) (outsides-own l n w later)
            ∙ append-nil (own n (happenings_of moments));
        ends = record {
          shard = ap (λ (y : World). y.shard n) ends ∙ outsides-shard l n w later;
          register = ap (λ (y : World). y.register) ends ∙ outsides-register l w later;
          broken = ap (λ (y : World). y.broken n) ends ∙ outsides-broken l n w later;
          device = λ d g row there. ap (λ (y : World). y.device d g row) ends ∙ outsides-device l w later d g row;
        };
      },
    )

pub one_run_law : OneRunLaw
one_run_law l is r device array start changes made runs each seen later sees =
    let w = started l r device in
    let wholes : (n : ℕ) → n < l.shards → Whole l n w changes (later n) (runs n) =
    (λ n below. whole l n w changes (seen n) (later n) (runs n) (each n below) (sees n below)) in
    let found = for-all (λ n longer. IsWhole l n w changes (later n) (runs n) longer) l.shards [] wholes in
    let longer : ℕ → List Moment = found.0 in
    let are : (n : ℕ) → n < l.shards → IsWhole l n w changes (later n) (runs n) (longer n) = found.1 in
    record {
      longer = longer;
      some = schedule_law l changes made longer (λ n below. (are n below).sees);
      every = λ happenings woven.
          let one = weave_law l is r device array start longer (λ n below. (are n below).run) happenings woven in
          record {
            moments = one.moments;
            one = one.one;
            own_is = λ n below. own_law l longer happenings woven n below ∙ (are n below).own_is;
            ends = λ n below.
                let a = one.ends n below in
                let b = (are n below).ends in
                record {
                  shard = a.shard ∙ b.shard;
                  register = a.register ∙ b.register;
                  broken = a.broken ∙ b.broken;
                  device = λ d g row there. a.device d g row there ∙ b.device d g row there;
                };
          };
    }
