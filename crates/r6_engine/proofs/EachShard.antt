-- What the threads of an array's shards did, shard by shard (this project's own).
use Rattle.std.proofs.Common.{◌≡◌, ◌∙◌, ℕ, List, [], ◌∷◌, ◌++◌, ◌+◌, ◌<◌, ◌≤◌, length, map, All, Bool, inl, inr, Some, None, zero, suc, ap, arith, drop, set, sym, subst, take, slice_get, slice_index_or, option_map, refl}
use Rattle.std.specs.List.{AllByRecursion, AllZip}
use Rattle.std.proofs.lemmas.Bool.{cases_lt}
use Rattle.std.proofs.lemmas.List.{append-nil, drop_all, take_all, get_or-set_other, get_or-set_same}
use Rattle.std.proofs.lemmas.Option.{none-some, get_or_from_slice_get, slice_get-map, slice_get_within, slice_get-get_or}
use Rattle.r6_dev.specs.History.{Telling}
use Rattle.r6_layout.specs.Shape.{Shape, IsShape}
use Rattle.r6_world.specs.Registers.{Snapshot}
use Rattle.r6_engine.specs.lists.Events.{Event, tasks_of, numbers_of}
use Rattle.r6_shard.specs.declared.parts.Parts.{Parts}
use Rattle.r6_shard.specs.Here.{BeginsHere}
use Rattle.r6_shard.specs.declared.performs.Performs.{Ghosts}
use Rattle.r6_shard.specs.Parts.{labels_of, part_in}
use Rattle.r6_engine.specs.runner.Parts.{HasAll}
use Rattle.r6_engine.specs.declared.runner.runner.Runner.{Runner}
use Rattle.r6_engine.specs.runner.Tasks.{scrubs_in, done_scrub, under_way, due_scrubs, requests_in, due_requests}
use Rattle.r6_engine.specs.runner.Counted.{HasCounted, rows_of_shard}
use Rattle.r6_engine.specs.runner.Going.{TakesNoMore}
use Rattle.r6_engine.specs.runner.Runners.{HasDone, IsOver}
use Rattle.r6_engine.specs.runner.Waits.{AreBehindWaits, HasAwaited}
use Rattle.r6_health.specs.declared.history.View.{View}
use Rattle.r6_engine.specs.declared.feed.answer.EventAnswer.{EventAnswer}
use Rattle.r6_engine.specs.Passes.{TakesBack}
use Rattle.r6_engine.specs.Serves.{AreNumbered, Begins, HasAnswered, HasRun, HasServed, HaveServed}
use Rattle.r6_engine.specs.Refusals.{HadReasons, WereRight}
use Rattle.r6_engine.proofs.InOrder.{are-behind}
use Rattle.r6_engine.proofs.Reasons.{IsOf, each-of, reasons}
use Rattle.r6_engine.proofs.Rows.{count-each-row}
use Rattle.r6_engine.proofs.RunnerLemmas.Counting.{classed-at-end, counted-at-end}
use Rattle.r6_engine.proofs.RunnerLemmas.Parts.{own-same}

pub some_same : {A : Type 0} (x y : A) → Some x ≡ Some y → x ≡ y
some_same x y is = ap (λ o. elim o [ None ↦ x | Some z ↦ z ]) is

-- what each is made of
pub mapped_at : {A B : Type 0} (f : A → B) (xs : List A) (k : ℕ) (y : B) → slice_get (map f xs) k ≡ Some y
    → (x : A) × (slice_get xs k ≡ Some x) × (f x ≡ y)
mapped_at f [] k y at = absurd (none-some y at)
mapped_at f (x ∷ xs) zero y at = (x, refl, some_same (f x) y at)
mapped_at f (x ∷ xs) (suc k) y at = mapped_at f xs k y at

-- the partner of what stands at a place
pub mapped-there : {A B : Type 0} (f : A → B) (xs : List A) (k : ℕ) (d : B) (x : A) → slice_get xs k ≡ Some x → slice_index_or (map f xs) k d ≡ f x
mapped-there f xs k d x at = get_or_from_slice_get (map f xs) k (f x) d (slice_get-map f xs k ∙ ap (option_map f) at)

pub partner_at : {A B : Type 0} (R : A → B → Type 0) (xs : List A) (ys : List B) (k : ℕ) (y : B) → AllZip R xs ys
    → slice_get ys k ≡ Some y → (x : A) × (slice_get xs k ≡ Some x) × R x y
partner_at R [] [] k y all at = absurd (none-some y at)
partner_at R [] (z ∷ ys) k y all at = absurd all
partner_at R (x ∷ xs) [] k y all at = absurd all
partner_at R (x ∷ xs) (z ∷ ys) zero y all at = (x, refl, subst (R x) (some_same z y at) all.0)
partner_at R (x ∷ xs) (z ∷ ys) (suc k) y all at = partner_at R xs ys k y all.1 at

pub here_at : {A : Type 0} (xs : List A) (k : ℕ) (d : A) → k < length xs → slice_get xs k ≡ Some (slice_index_or xs k d)
here_at xs k d below = slice_get-get_or xs k d below

pub all_at : {A : Type 0} (P : A → Type 0) (xs : List A) (k : ℕ) (x : A) → All P xs → slice_get xs k ≡ Some x → P x
all_at P xs k x all at = subst P (get_or_from_slice_get xs k x x at) (all k x (slice_get_within xs k x at))

pub number_at : {T : Type 0} (number : T → ℕ) (threads : List T) (k : ℕ) (t : T) → slice_get threads k ≡ Some t
    → AreNumbered number threads → number t ≡ k
number_at number threads k t at numbered =
    ap number (sym (get_or_from_slice_get threads k t t at)) ∙ numbered k t (slice_get_within threads k t at)

-- what follows of each from what ties it to its partner
pub each_of : {A B : Type 0} (R : A → B → Type 0) (P : B → Type 0) → ((x : A) (y : B) → R x y → P y)
    → (xs : List A) (ys : List B) → AllZip R xs ys → All P ys
each_of R P follows xs ys all k d below =
    let at = here_at ys k d below in
    let partner = partner_at R xs ys k (slice_index_or ys k d) all at in follows partner.0 (slice_index_or ys k d) partner.2

-- those that keep their numbers are numbered as before
pub numbered_still : {T : Type 0} (R : T → T → Type 0) (number : T → ℕ) → ((x y : T) → R x y → number y ≡ number x)
    → (olds news : List T) → AllZip R olds news → AreNumbered number olds → AreNumbered number news
numbered_still R number same olds news all before k d below =
    let at = here_at news k d below in
    let partner = partner_at R olds news k (slice_index_or news k d) all at in
    same partner.0 (slice_index_or news k d) partner.2 ∙ number_at number olds k partner.0 partner.1 before

-- what it refused had a reason, what it accepted had none, and was handed in behind the waits
record IsRight {P D : Type 0} {g : Ghosts P} (shape : Shape) (events : List Event) (r : Runner P D g) : Type 0 where
  refused : HadReasons shape.block events r.shard.core r.refused.items
  right : WereRight shape.block events r.shard.asked.items
  behind : AreBehindWaits events r.shard.asked.items

is_right : {P D : Type 0} {g : Ghosts P} (told : D → Telling) (shape : Shape) (events : List Event) (start : Snapshot) (own : Parts D) (shard : ℕ) (r : Runner P D g)
    → HasDone shape events shape shard start (part_in told own.parts.items) (numbers_of (tasks_of shape shard events)) r → IsOver r
    → HasAwaited events r → IsRight shape events r
is_right told shape events start own shard r done over awaited =
    let numbers = numbers_of (tasks_of shape shard events) in
    let begun : done.begun ≡ requests_in shape shard events numbers =
    sym (done.requests ∙ ap (λ due. done.begun ++ due_requests due) over.none_due ∙ append-nil done.begun) in
    let why = reasons shape shard events r.shard.core done.begun r.shard.asked.items done.ops r.refused.items done.shape_is done.place
    (subst (AllByRecursion (IsOf shape shard events)) (sym begun) (each-of shape shard events numbers)) done.served in
    record {
      refused = why.0;
      right = why.1;
      behind = are-behind shape shard events r.shard.core done.begun r.shard.asked.items done.ops r.refused.items begun done.served awaited.behind;
    }

-- each shard's thread began with its parts, ran, and took all of the shard's tasks; then the shard went on to its end
each_served : {P D T : Type 0} {g : Ghosts P} (told : D → Telling) (shape : Shape) (events : List Event) (start : Snapshot) (window : ℕ)
    (number : T → ℕ) (numbers : T → List ℕ) (finished : T → Bool) (runner : T → Runner P D g)
    (parts : List (Parts D)) (olds news : List T) (runners : List (Runner P D g))
    → AllZip (λ p t. Begins told shape events start window p (number t) (numbers t) (runner t)) parts olds
    → AllZip (λ old new. HasRun shape events (number old) (numbers old) (runner old) (number new) (numbers new) (finished new) (runner new)) olds news
    → AreNumbered number olds
    → ((shard : ℕ) (t : T) → slice_get news shard ≡ Some t → numbers t ≡ numbers_of (tasks_of shape shard events))
    → AllZip (λ t r. TakesNoMore (runner t) r) news runners → All IsOver runners
    → (shard : ℕ) (own : Parts D) (r : Runner P D g) → slice_get parts shard ≡ Some own
    → slice_get runners shard ≡ Some r → HasServed told shape events start window own shard r
each_served {D = D} told shape events start window number numbers finished runner parts olds news runners begins run numbered taken goes overs shard own r part_at runner_at =
    let new = partner_at (λ t y. TakesNoMore (runner t) y) news runners shard r goes runner_at in
    let old = partner_at (λ a b. HasRun shape events (number a) (numbers a) (runner a) (number b) (numbers b) (finished b) (runner b)) olds news shard new.0 run new.1 in
    let first = partner_at (λ p t. Begins told shape events start window p (number t) (numbers t) (runner t)) parts olds shard old.0 begins old.1 in
    let part : first.0 ≡ own = some_same first.0 own (sym first.1 ∙ part_at) in
    let there : number old.0 ≡ shard = number_at number olds shard old.0 old.1 numbered in
    let begun = subst (λ p. HasDone shape events shape (number old.0) start (part_in told p.parts.items) [] (runner old.0)) part first.2.done in
    let ran = old.2.course shape start (part_in told own.parts.items)
    (subst (λ ns. HasDone shape events shape (number old.0) start (part_in told own.parts.items) ns (runner old.0)) (sym first.2.none_taken) begun) in
    let here = subst (λ n. HasDone shape events shape n start (part_in told own.parts.items) (numbers new.0) (runner new.0)) there ran in
    let all = subst (λ ns. HasDone shape events shape shard start (part_in told own.parts.items) ns (runner new.0)) (taken shard new.0 new.1) here in
    let done = new.2.course shape events shard (numbers_of (tasks_of shape shard events)) shape start (part_in told own.parts.items) all in
    let over = all_at IsOver runners shard r overs runner_at in
    let counted = subst (λ n. HasCounted (rows_of_shard shape n) r) there
    (new.2.counted (rows_of_shard shape (number old.0)) (old.2.counted (rows_of_shard shape (number old.0)) first.2.counted)) in
    let right = is_right told shape events start own shard r done over (new.2.awaited events (old.2.awaited first.2.awaited)) in
    record {
      done = done;
      refused = right.refused;
      right = right.right;
      behind = right.behind;
      all = subst (λ p. HasAll (labels_of p.parts.items) r) part
          ((own-same (runner new.0) r new.2.parts).all (labels_of first.0.parts.items) (old.2.own.all (labels_of first.0.parts.items) first.2.all));
      here = λ slot begun'. new.2.parts.here slot
          (old.2.own.here slot (first.2.here slot (subst (λ p. BeginsHere (labels_of p.parts.items) shape.slots start slot) (sym part) begun')));
      window_is = new.2.parts.window ∙ old.2.own.window ∙ first.2.window_is;
      counted = counted-at-end (rows_of_shard shape shard) r over.no_scrub counted;
      classed = classed-at-end (rows_of_shard shape shard) r counted;
      over = over;
    }

pub zip-length : {A B : Type 0} (R : A → B → Type 0) (xs : List A) (ys : List B) → AllZip R xs ys → length xs ≡ length ys
zip-length R [] [] all = refl
zip-length R [] (y ∷ ys) all = absurd all
zip-length R (x ∷ xs) [] all = absurd all
zip-length R (x ∷ xs) (y ∷ ys) all = ap suc (zip-length R xs ys all.1)

-- what stands where its partner's partner does
pub partner_of : {A B C : Type 0} (R : A → B → Type 0) (S : B → C → Type 0) (xs : List A) (ys : List B) (zs : List C) (k : ℕ) (z : C)
    → AllZip R xs ys → AllZip S ys zs → slice_get zs k ≡ Some z → (x : A) × (y : B) × (slice_get xs k ≡ Some x) × R x y × S y z
partner_of R S xs ys zs k z one other at =
    let mid = partner_at S ys zs k z other at in
    let first = partner_at R xs ys k mid.0 one mid.1 in (first.0, mid.0, first.1, first.2, mid.2)

-- its passes are its checks and repairs, all of them
pub all_passed : {P D : Type 0} {g : Ghosts P} (told : D → Telling) (shape : Shape) (events : List Event) (start : Snapshot) (window : ℕ) (own : Parts D) (shard : ℕ)
    (r : Runner P D g)
    → HasServed told shape events start window own shard r
    → scrubs_in shape shard events (numbers_of (tasks_of shape shard events)) ≡ map done_scrub r.scrubs_done.items
all_passed told shape events start window own shard r served =
    let passed = map done_scrub r.scrubs_done.items in
    served.done.passes
    ∙ ap (λ o. passed ++ (under_way o ++ due_scrubs r.due.items)) served.over.no_scrub
    ∙ ap (λ due. passed ++ due_scrubs due) served.over.none_due
    ∙ append-nil passed

-- and each shard has its thread
pub have_served : {P D T : Type 0} {g : Ghosts P} (told : D → Telling) (shape : Shape) (events : List Event) (start : Snapshot) (window : ℕ)
    (number : T → ℕ) (numbers : T → List ℕ) (finished : T → Bool) (runner : T → Runner P D g)
    (parts : List (Parts D)) (olds news : List T) (runners : List (Runner P D g))
    → IsShape shape → length parts ≡ shape.shards
    → AllZip (λ p t. Begins told shape events start window p (number t) (numbers t) (runner t)) parts olds
    → AllZip (λ old new. HasRun shape events (number old) (numbers old) (runner old) (number new) (numbers new) (finished new) (runner new)) olds news
    → AreNumbered number olds
    → ((shard : ℕ) (t : T) → slice_get news shard ≡ Some t → numbers t ≡ numbers_of (tasks_of shape shard events))
    → AllZip (λ t r. TakesNoMore (runner t) r) news runners → All IsOver runners
    → HaveServed told shape events start window parts runners
have_served told shape events start window number numbers finished runner parts olds news runners lawful whole begins run numbered taken goes over =
    let as_many = sym (zip-length _ news runners goes) ∙ sym (zip-length _ olds news run) ∙ sym (zip-length _ parts olds begins) in
    let each = each_served told shape events start window number numbers finished runner parts olds news runners begins run numbered taken
    goes over in
    record {
      as_many = as_many;
      each = each;
      counted = count-each-row shape events runners lawful (as_many ∙ whole) (λ shard r at.
          let mid = partner_of _ _ olds news runners shard r run goes at in
          let own = partner_at _ parts olds shard mid.0 begins mid.2 in
          let served = each shard own.0 r own.1 at in
          (all_passed told shape events start window own.0 shard r served, served.counted));
    }

-- what ties each to its partner, or less
pub less : {A B : Type 0} (R S : A → B → Type 0) → ((x : A) (y : B) → R x y → S x y) → (xs : List A) (ys : List B)
    → AllZip R xs ys → AllZip S xs ys
less R S follows [] [] all = tt
less R S follows [] (y ∷ ys) all = all
less R S follows (x ∷ xs) [] all = all
less R S follows (x ∷ xs) (y ∷ ys) all = (follows x y all.0, less R S follows xs ys all.1)

-- what was answered stands once other passes are taken back and the register is read again
pub read_again : (shape : Shape) (events : List Event) (first : View) (answers : List EventAnswer) (last now : View)
    → HasAnswered shape events first answers last → TakesBack last now → HasAnswered shape events first answers now
read_again shape events first answers last now answered back = record {
  asked = answered.asked;
  own = back.mine ∙ answered.own;
  settled = answered.settled;
  told = back.told first answers answered.told;
}

-- ---- lists whose items change one after another

pub zip-same : {A : Type 0} (R : A → A → Type 0) → ((x : A) → R x x) → (xs : List A) → AllZip R xs xs
zip-same R same [] = tt
zip-same R same (x ∷ xs) = (same x, zip-same R same xs)

pub zip-then : {A B C : Type 0} (R : A → B → Type 0) (S : B → C → Type 0) (T : A → C → Type 0)
    → ((x : A) (y : B) (z : C) → R x y → S y z → T x z) → (xs : List A) (ys : List B) (zs : List C)
    → AllZip R xs ys → AllZip S ys zs → AllZip T xs zs
zip-then R S T on [] [] [] one other = tt
zip-then R S T on [] [] (z ∷ zs) one other = absurd other
zip-then R S T on [] (y ∷ ys) zs one other = absurd one
zip-then R S T on (x ∷ xs) [] zs one other = absurd one
zip-then R S T on (x ∷ xs) (y ∷ ys) [] one other = absurd other
zip-then R S T on (x ∷ xs) (y ∷ ys) (z ∷ zs) one other = (on x y z one.0 other.0, zip-then R S T on xs ys zs one.1 other.1)

pub zip-set : {A B : Type 0} (R : A → B → Type 0) (xs : List A) (ys : List B) (k : ℕ) (y new : B) → AllZip R xs ys
    → k < length ys → y ≡ slice_index_or ys k y → ((x : A) → R x y → R x new) → AllZip R xs (set ys k new)
zip-set R [] [] k y new all below is on = absurd (omega (arith, below))
zip-set R [] (z ∷ ys) k y new all below is on = absurd all
zip-set R (x ∷ xs) [] k y new all below is on = absurd all
zip-set R (x ∷ xs) (z ∷ ys) zero y new all below is on = (on x (subst (R x) (sym is) all.0), all.1)
zip-set R (x ∷ xs) (z ∷ ys) (suc k) y new all below is on =
    (all.0, zip-set R xs ys k y new all.1 (omega (arith, below)) is on)

-- what stays so of each stays so of all
pub still-all : {A : Type 0} (R : A → A → Type 0) (P : A → Type 0) → ((x y : A) → R x y → P x → P y) → (xs ys : List A) → AllZip R xs ys
    → All P xs → All P ys
still-all R P on [] [] zip all k d below = absurd (omega (arith, below))
still-all R P on [] (y ∷ ys) zip all k d below = absurd zip
still-all R P on (x ∷ xs) [] zip all k d below = absurd zip
still-all R P on (x ∷ xs) (y ∷ ys) zip all zero d below = on x y zip.0 (all 0 x (omega arith))
still-all R P on (x ∷ xs) (y ∷ ys) zip all (suc k) d below =
    still-all R P on xs ys zip.1 (λ i e low. all (suc i) e (omega (arith, low))) k d (omega (arith, below))

-- of all items up to one
abbrev pub AllBelow : {A : Type 0} → (k : ℕ) → (A → Type 0) → List A → Type 0
AllBelow {A = A} k P xs = (i : ℕ) (d : A) → i < k → P (slice_index_or xs i d)

pub all-map : {A B : Type 0} (f : A → B) (P : B → Type 0) (xs : List A) → All (λ x. P (f x)) xs → All P (map f xs)
all-map f P [] all k d below = absurd (omega (arith, below))
all-map f P (x ∷ xs) all zero d below = all 0 x (omega arith)
all-map f P (x ∷ xs) all (suc k) d below =
    all-map f P xs (λ i y low. all (suc i) y (omega (arith, low))) k d (omega (arith, below))

pub zip-map : {A B C : Type 0} (f : A → B) (R : B → C → Type 0) (xs : List A) (ys : List C) → AllZip R (map f xs) ys
    → AllZip (λ x y. R (f x) y) xs ys
zip-map f R [] [] all = tt
zip-map f R [] (y ∷ ys) all = absurd all
zip-map f R (x ∷ xs) [] all = absurd all
zip-map f R (x ∷ xs) (y ∷ ys) all = (all.0, zip-map f R xs ys all.1)

pub map-all : {A B : Type 0} (f : A → B) (P : B → Type 0) (xs : List A) → All P (map f xs) → All (λ x. P (f x)) xs
map-all f P [] all k d below = absurd (omega (arith, below))
map-all f P (x ∷ xs) all zero d below = all 0 (f d) (omega arith)
map-all f P (x ∷ xs) all (suc k) d below =
    map-all f P xs (λ i y low. all (suc i) y (omega (arith, low))) k d (omega (arith, below))

-- one item more
pub below-more : {A : Type 0} (P : A → Type 0) (xs : List A) (k : ℕ) (x : A) → k < length xs → x ≡ slice_index_or xs k x → AllBelow k P xs
    → P x → AllBelow (k + 1) P xs
below-more P xs k x within is before here i d less = elim (cases_lt i k) [
  | inl low ↦ before i d low
  | inr not ↦
      let same : k ≡ i = omega (arith, less, not) in
      subst P
      (some_same x (slice_index_or xs i d)
      (ap Some is ∙ sym (here_at xs k x within) ∙ ap (slice_get xs) same ∙ here_at xs i d (omega (arith, within, same)))) here
]

pub below-next : {A : Type 0} (P : A → Type 0) (xs : List A) (k : ℕ) (e : A) → k < length xs → AllBelow k P xs
    → P (slice_index_or xs k e) → AllBelow (k + 1) P xs
below-next P xs k e within before here =
    below-more P xs k (slice_index_or xs k e) within (some_same (slice_index_or xs k e) (slice_index_or xs k (slice_index_or xs k e))
    (sym (here_at xs k e within) ∙ here_at xs k (slice_index_or xs k e) within)) before here

-- one item more, which has changed
pub below-set : {A : Type 0} (P : A → Type 0) (xs : List A) (k : ℕ) (new : A) → k < length xs → AllBelow k P xs → P new
    → AllBelow (k + 1) P (set xs k new)
below-set P xs k new within before here i d less = elim (cases_lt i k) [
  | inl low ↦ subst P (sym (get_or-set_other xs k i new d (λ same. omega (arith, same, low)))) (before i d low)
  | inr not ↦
      let same : k ≡ i = omega (arith, less, not) in
      subst (λ (n : ℕ). P (slice_index_or (set xs k new) n d)) same (subst P (sym (get_or-set_same xs k new d within)) here)
]

pub all-below : {A : Type 0} (P : A → Type 0) (xs : List A) (k : ℕ) → length xs ≤ k → AllBelow k P xs → All P xs
all-below P xs k most all i d below = all i d (omega (arith, most, below))

-- a vector whose items were changed as a slice has the items of the slice
pub all-again : {A : Type 0} (new old : List A) (len : ℕ) → length new ≡ length old → len ≡ length old
    → take len (new ++ drop (length new) old) ≡ new
all-again new old len same long =
    ap (λ (n : ℕ). take len (new ++ drop n old)) same
    ∙ ap (λ rest. take len (new ++ rest)) (drop_all (length old) old (omega arith))
    ∙ ap (take len) (append-nil new)
    ∙ take_all len new (omega (arith, same, long))
