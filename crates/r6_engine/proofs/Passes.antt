-- What the passes of an array's shards did and saw at the register.
use Rattle.std.proofs.Common.{◌≡◌, ◌∙◌, ℕ, zero, suc, List, [], ◌∷◌, ◌++◌, All, Ok, Err, Bool, true, refl, sym, ap, subst, arith, slice_index_or}
use Rattle.std.specs.List.{AllZip, Contains}
use Rattle.std.proofs.lemmas.List.Elements.{All-append, Contains-append_left, Contains-append_right}
use Rattle.r6_dev.specs.History.{Telling}
use Rattle.r6_layout.specs.Shape.{Shape}
use Rattle.r6_health.specs.declared.call.Call.TheVariants as call
use Rattle.r6_health.specs.declared.call.Answer.TheVariants.{Generation}
use Rattle.r6_health.specs.declared.history.HistoryEntry.{HistoryEntry}
use Rattle.r6_health.specs.declared.history.OwnCall.{OwnCall}
use Rattle.r6_health.specs.declared.history.Start.{Start}
use Rattle.r6_health.specs.declared.history.View.{View}
use Rattle.r6_health.specs.declared.register.Register.{Register}
use Rattle.r6_health.specs.Histories.{held, made}
use Rattle.r6_health.specs.Passes.{IsPassOf, start_of, view_of}
use Rattle.r6_health.specs.Views.{joined, Looks}
use Rattle.r6_world.specs.Laws.{IsOfOutside}
use Rattle.r6_world.specs.Registers.{Snapshot}
use Rattle.r6_merge.proofs.Passes.{none_since_law}
use Rattle.r6_merge.specs.Passes.{IsCaller}
use Rattle.r6_engine.specs.lists.Events.{Event}
use Rattle.r6_shard.specs.declared.parts.Parts.{Parts}
use Rattle.r6_shard.specs.Own.{AreOwn, HasFailed}
use Rattle.r6_shard.proofs.Own.{failed-later}
use Rattle.r6_shard.proofs.Whole.{saw-later}
use Rattle.r6_shard.specs.declared.performs.Performs.{Ghosts}
use Rattle.r6_engine.specs.declared.feed.answer.AnsweredHere.{AnsweredHere}
use Rattle.r6_engine.specs.declared.feed.answer.AnsweredHere.TheVariants.{OutOfRange, Failed, Brought}
use Rattle.r6_engine.specs.declared.feed.answer.EventAnswer.{EventAnswer}
use Rattle.r6_engine.specs.declared.lists.bringing.Bringing.TheVariants.{Attach, Replace}
use Rattle.r6_engine.specs.feed.Feeds.{Joins, Sees, WereTold, calls_in, calls_of}
use Rattle.r6_engine.specs.Openings.{caller_of}
use Rattle.r6_engine.specs.declared.runner.runner.Runner.{Runner}
use Rattle.r6_engine.specs.runner.Going.{TakesNoMore}
use Rattle.r6_engine.specs.Counted.{EachSawWithPass}
use Rattle.r6_engine.specs.Passes.{CallAsTheyMay, HasItsCalls, IsHeard, IsKnownTo, IsSeen, IsShown, TakesBack}
use Rattle.r6_engine.specs.Serves.{AreNumbered, Begins, HasRun}
use Rattle.r6_engine.proofs.EachShard.{number_at, partner_at, partner_of}
use Rattle.r6_engine.proofs.FeedLemmas.Told.{told_names}

-- each shard's calls are those of the shard that it is
pub call_as_they_may : {P D T : Type 0} {g : Ghosts P} (told : D → Telling) (shape : Shape) (events : List Event) (start : Snapshot)
    (window : ℕ) (number : T → ℕ) (numbers : T → List ℕ) (finished : T → Bool) (runner : T → Runner P D g)
    (parts : List (Parts D)) (olds news : List T) (runners : List (Runner P D g))
    → AllZip (λ p t. Begins told shape events start window p (number t) (numbers t) (runner t)) parts olds
    → AllZip (λ old new. HasRun shape events (number old) (numbers old) (runner old) (number new) (numbers new) (finished new) (runner new)) olds news
    → AreNumbered number olds → AllZip (λ t r. TakesNoMore (runner t) r) news runners → CallAsTheyMay runners
call_as_they_may told shape events start window number numbers finished runner parts olds news runners begins run numbered goes shard r at =
    let mid = partner_of _ _ olds news runners shard r run goes at in
    let first = partner_at _ parts olds shard mid.0 begins mid.2 in
    let place : r.shard.core.shard ≡ shard =
    mid.4.place ∙ mid.3.place ∙ first.2.place ∙ number_at number olds shard mid.0 mid.2 numbered in
    subst (λ (n : ℕ). AreOwn n r.shard.named (view_of r.shard.pass).mine) (r.shard.kept.0 ∙ place) r.shard.own

-- ---- what was seen shows

-- what the pass of a shard has seen is the beginning of what the one that reads last has
pub seen_before : {P D : Type 0} {g : Ghosts P} (register : Register) (by last : View) (runner : Runner P D g) → IsHeard register by runner
    → Looks by last → last.start ≡ start_of register → IsSeen last runner
seen_before register by last runner h looks same =
    let v = view_of runner.shard.pass in (
      (same ∙ sym h.0.same_start),
      looks.told v.seen (subst (λ (all : List (List HistoryEntry)). Contains all v.seen) (sym looks.grows.heard) h.1),
    )

pub each_saw_with_pass : {P D : Type 0} {g : Ghosts P} (last : View) (runners : List (Runner P D g)) → All (IsSeen last) runners → EachSawWithPass last runners
each_saw_with_pass last runners seen k d below =
    let runner = slice_index_or runners k d in
    let before = seen k d below in saw-later runner.shard.saw_out (view_of runner.shard.pass) last before.0 before.1 runner.shard.saw

pub is_shown : {P D : Type 0} {g : Ghosts P} (last : View) (snapshot : Snapshot) (runners : List (Runner P D g)) → All (IsSeen last) runners
    → snapshot ≡ held last.start last.seen → All (IsShown snapshot) runners
is_shown last snapshot runners seen is k d below =
    let runner = slice_index_or runners k d in
    let v = view_of runner.shard.pass in
    let before = seen k d below in
    let shows : HasFailed v → snapshot.failed ≡ true = λ x.
    ap (λ (y : Snapshot). y.failed) is ∙ failed-later v last before.0 before.1 x in
    record {
      seen = λ saw. shows (runner.shard.failure.there saw);
      answered = λ j e low so. shows (runner.shard.failure.there (runner.shard.failure.answered j e low so));
    }

-- ---- passes are taken back

pub none_back : (v : View) → TakesBack v v
none_back v = record { mine = refl; told = λ first answers x. x }

pub one_back : (u v other w : View) → TakesBack u v → w ≡ joined v other → TakesBack u w
one_back u v other w before is =
    subst (TakesBack u) (sym is)
    (record { mine = before.mine; told = λ first answers x. Joins answers v other (before.told first answers x) })

heard_still : (v other : View) (seen : List HistoryEntry) → Contains v.heard seen → Contains (joined v other).heard seen
heard_still v other seen h =
    Contains-append_left (v.heard ++ other.heard) (other.seen ∷ []) seen (Contains-append_left v.heard other.heard seen h)

heard_now : (v other : View) → Contains (joined v other).heard other.seen
heard_now v other = Contains-append_right (v.heard ++ other.heard) (other.seen ∷ []) other.seen (0, omega arith, refl)

pub back_on : (u v w : View) → TakesBack u v → TakesBack v w → TakesBack u w
back_on u v w before now = record {
  mine = now.mine ∙ before.mine;
  told = λ first answers x. now.told first answers (before.told first answers x);
}

pub look_back : (u v w : View) → TakesBack u v → Looks v w → TakesBack u w
look_back u v w before looks = record {
  mine = looks.grows.mine ∙ before.mine;
  told = λ first answers x. Sees answers v w (before.told first answers x) looks.grows;
}

-- what was heard stays so where one more pass is heard
pub heard_on : {P D : Type 0} {g : Ghosts P} (register : Register) (v other w : View) (runner : Runner P D g) → IsHeard register v runner → w ≡ joined v other
    → IsHeard register w runner
heard_on register v other w runner h is =
    (h.0, subst (λ (y : View). Contains y.heard (view_of runner.shard.pass).seen) (sym is) (heard_still v other _ h.1))

pub heard_of : {P D : Type 0} {g : Ghosts P} (register : Register) (v w : View) (runner : Runner P D g) → IsPassOf register runner.shard.pass
    → w ≡ joined v (view_of runner.shard.pass) → IsHeard register w runner
heard_of register v w runner its is =
    (its, subst (λ (y : View). Contains y.heard (view_of runner.shard.pass).seen) (sym is) (heard_now v (view_of runner.shard.pass)))

-- ---- one history of all passes

-- the shard's pass, once it has learned what the calling thread's had seen, looked at this
pub known_to : {P D : Type 0} {g : Ghosts P} (last : View) (old new : Runner P D g) → IsSeen last old
    → Looks (joined (view_of old.shard.pass) last) (view_of new.shard.pass) → IsKnownTo last old
known_to last old new seen looks =
    let v = view_of old.shard.pass in
    let w = view_of new.shard.pass in
    let known = none_since_law last (joined v last) w old.shard.calls seen.1 looks
    (subst (λ (all : List (List HistoryEntry)). Contains all last.seen) (sym looks.grows.heard) (heard_now v last)) in
    record { seen = seen; calls = known.0; ungiven = known.1 }

-- the calls that the calling thread's events make may come from outside
calls-outside : (answers : List EventAnswer) → All (λ (c : OwnCall). IsOfOutside c.call) (calls_of answers)
calls-outside [] = λ k d below. absurd (omega (arith, below))
calls-outside (a ∷ answers) = All-append (λ (c : OwnCall). IsOfOutside c.call) (calls_in a.outcome) (calls_of answers) (one a.outcome) (calls-outside answers)
  where
    outside : (own : OwnCall) → IsOfOutside own.call → All (λ (c : OwnCall). IsOfOutside c.call) (own ∷ [])
    outside own is zero d below = is
    outside own is (suc k) d below = absurd (omega (arith, below))

    none : All (λ (c : OwnCall). IsOfOutside c.call) []
    none k d below = absurd (omega (arith, below))

    one : (outcome : AnsweredHere) → All (λ (c : OwnCall). IsOfOutside c.call) (calls_in outcome)
    one OutOfRange = none
    one (Failed slot (Ok answer)) = outside (made (call.Fail slot) answer) (record {})
    one (Failed slot (Err refusal)) = none
    one (Brought Attach slot (Ok generation)) = outside (made (call.Attach slot) (Generation generation)) (record {})
    one (Brought Replace slot (Ok generation)) = outside (made (call.Replace slot) (Generation generation)) (record {})
    one (Brought how slot (Err refusal)) = none

-- so the calling thread's pass, which named those of the shards, is that of the outside
pub is_caller : (start : Start) (answers : List EventAnswer) (last : View) → WereTold (caller_of start) answers last
    → HasItsCalls last → last.mine ≡ calls_of answers → IsCaller start.shards last
is_caller start answers last told has mine =
    let names = told_names (caller_of start) answers last told in
    record {
      name = names.0;
      next = names.1;
      own = has.own;
      ungiven = has.ungiven;
      outside = subst (All (λ (c : OwnCall). IsOfOutside c.call)) (sym mine) (calls-outside answers);
    }
