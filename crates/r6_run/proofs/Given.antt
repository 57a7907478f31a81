-- Events as they are given, one after another.
use Rattle.std.proofs.Common.{◌≡◌, ℕ, ◌+◌, ◌<◌, List, [], ◌∷◌, ◌++◌, length, take, get_or, All, Option, Result, Ok, Err, OnOk, suc, zero, sym, subst, arith}
use Rattle.std.specs.List.{AllZip}
use Rattle.std.specs.Io.KnownBytes.{Appends}
use Rattle.std.proofs.KnownBytes.{Appends-trans}
use Rattle.std.proofs.lemmas.List.{take_more}
use Rattle.r6_dev.specs.FilePart.{FilePart}
use Rattle.r6_layout.specs.Shape.{Shape}
use Rattle.r6_engine.specs.feed.Events.{AreWhole, IsWhole}
use Rattle.r6_engine.specs.declared.feed.event.Event as feed
use Rattle.r6_engine.specs.declared.feed.event.Event.TheVariants as fed
use Rattle.r6_script.specs.declared.run_event.RunEvent.{RunEvent}
use Rattle.r6_script.specs.declared.run_event.RunEvent.TheVariants.{Read, Write, Wait, Fail, Attach, Replace, Check, Repair}
use Rattle.r6_run.specs.Runs.{IsAsked}

-- one pair more
pub one_more : {X Y : Type 0} (R : X → Y → Type 0) (xs : List X) (ys : List Y) (x : X) (y : Y) → AllZip R xs ys → R x y → AllZip R (xs ++ x ∷ []) (ys ++ y ∷ [])
one_more R [] [] x y all holds = (holds, tt)
one_more R [] (z ∷ ys) x y all holds = absurd all
one_more R (z ∷ xs) [] x y all holds = absurd all
one_more R (w ∷ xs) (z ∷ ys) x y all holds = (all.0, one_more R xs ys x y all.1 holds)

pub next_more : {X Y : Type 0} (R : X → Y → Type 0) (xs : List X) (ys more : List Y) (y : Y) (i : ℕ) (d : X) → i < length xs → AllZip R (take i xs) ys
    → R (get_or xs i d) y → more ≡ ys ++ y ∷ [] → AllZip R (take (i + 1) xs) more
next_more R xs ys more y i d within all holds is =
    subst (AllZip R (take (i + 1) xs)) (sym is)
    (subst (λ these. AllZip R these (ys ++ y ∷ [])) (sym (take_more xs i d within)) (one_more R (take i xs) ys (get_or xs i d) y all holds))

-- each has its parts
whole_one : (shape : Shape) (event : RunEvent) (given : feed.Event FilePart) → IsAsked shape event given → IsWhole shape.shards given
whole_one shape event (fed.Request op) is = tt
whole_one shape event fed.Wait is = tt
whole_one shape event (fed.Fail failed) is = tt
whole_one shape event fed.Check is = tt
whole_one shape event fed.Repair is = tt
whole_one shape (Read block) (fed.Attach named parts) is = absurd is
whole_one shape (Write block byte) (fed.Attach named parts) is = absurd is
whole_one shape Wait (fed.Attach named parts) is = absurd is
whole_one shape (Fail slot) (fed.Attach named parts) is = absurd is
whole_one shape (Attach slot path) (fed.Attach named parts) is = is.1
whole_one shape (Replace slot path) (fed.Attach named parts) is = absurd is
whole_one shape Check (fed.Attach named parts) is = absurd is
whole_one shape Repair (fed.Attach named parts) is = absurd is
whole_one shape (Read block) (fed.Replace named parts) is = absurd is
whole_one shape (Write block byte) (fed.Replace named parts) is = absurd is
whole_one shape Wait (fed.Replace named parts) is = absurd is
whole_one shape (Fail slot) (fed.Replace named parts) is = absurd is
whole_one shape (Attach slot path) (fed.Replace named parts) is = absurd is
whole_one shape (Replace slot path) (fed.Replace named parts) is = is.1
whole_one shape Check (fed.Replace named parts) is = absurd is
whole_one shape Repair (fed.Replace named parts) is = absurd is

all_cons : {X : Type 0} (P : X → Type 0) (x : X) (xs : List X) → P x → All P xs → All P (x ∷ xs)
all_cons P x xs holds rest zero d within = holds
all_cons P x xs holds rest (suc k) d within = rest k d (omega (arith, within))

pub are_whole : (shape : Shape) (script : List RunEvent) (events : List (feed.Event FilePart)) → AllZip (IsAsked shape) script events
    → AreWhole shape.shards events
are_whole shape [] [] all = λ k d within. absurd (omega (arith, within))
are_whole shape [] (given ∷ events) all = absurd all
are_whole shape (event ∷ script) [] all = absurd all
are_whole shape (event ∷ script) (given ∷ events) all =
    all_cons (IsWhole shape.shards) given events (whole_one shape event given all.0) (are_whole shape script events all.1)

-- lines, and then how the array is
pub both_written : {T E : Type 0} (r : Result T E) (old mid new : Option (List ℕ)) (lines state : List ℕ) → Appends old mid lines
    → OnOk r (Appends mid new state) → OnOk r (Appends old new (lines ++ state))
both_written (Ok done) old mid new lines state before after = Appends-trans old mid new lines state before after
both_written (Err error) old mid new lines state before after = tt
