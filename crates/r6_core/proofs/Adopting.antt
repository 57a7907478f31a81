-- A look takes over what the register has of each slot.
use Rattle.std.proofs.Common.{◌≡◌, ◌≢◌, ℕ, Bool, true, false, cond, ◌+◌, ◌*◌, ◌<◌, ◌≤◌, [], ◌++◌, map, refl, sym, ap, subst, ◌∙◌, Option, inl, inr, length, take, drop, arith, append-nil, Some, None, ◌⊎◌}
use Rattle.std.specs.Prelude.{nat_eq, not, ◌&&◌, ◌||◌}
use Rattle.std.specs.List.{IsDistinct, AllByRecursion}
use Rattle.std.specs.Map.{keys_of}
use Rattle.std.proofs.lemmas.Bool.{cases_eq, cases_lt, ne_eqb, eq-eqb}
use Rattle.r6_world.specs.Tables.{put}
use Rattle.r6_health.specs.Slots.{is_replacing}
use Rattle.r6_layout.specs.Shape.{Shape}
use Rattle.r6_world.specs.Registers.{ShardSet, Snapshot, Status, InSync, Lost, Rebuilding, Replacing, status_of}
use Rattle.r6_world.specs.ShardStates as shards
use Rattle.r6_world.specs.ShardStates.{Shard, SlotState, Synced, Missing, Building, Doubled, Paired, has_device}
use Rattle.r6_world.specs.Changes.{Adopt, Part, Nothing, Some_rows, Whole, adopted, alone, beside, differs, part_if, part_of, started, taken_out}
use Rattle.r6_world.specs.Steps.{GivesOver as GivesOverSteps, TakesOver, Through}
use Rattle.r6_frames.specs.declared.frames.Frames.{Frames}
use Rattle.r6_frames.specs.declared.slots.Device.{Device}
use Rattle.r6_frames.specs.Slots as slots
use Rattle.r6_frames.specs.declared.slots.Device.TheVariants as device
use Rattle.r6_frames.specs.Slots.{AreOthersSingle, states_of}
use Rattle.r6_frames.specs.Views.{held_requests, shard_with}
use Rattle.r6_frames.specs.Directs.{direct_at, read_requests}
use Rattle.r6_frames.specs.Calls.{KeepsDirects, KeepsRows, TakesOut, entry_on}
use Rattle.r6_frames.specs.Owed.{owed, most_owed}
use Rattle.r6_frames.specs.Sound as held
use Rattle.r6_core.specs.declared.state.State.{State}
use Rattle.r6_core.specs.Shards.{core_of, state_of, rest_of, layout_in, requests_of, waiting_of, requests_in}
use Rattle.r6_core.specs.Refusals.{ReplacesOneOf}
use Rattle.r6_core.specs.Order.{Agrees, SameReplies}
use Rattle.r6_core.specs.Parts.{Adopts, AdoptsAll, AdoptsIf}
use Rattle.r6_core.specs.Inside.{GivesOverUnless, HandsBack, IsSettled, KeepsShard, ReadAgain, TookOver, SameFrames, NoCalls, IsSound, Seen}
use Rattle.r6_core.specs.Limits.{count_unheld, count_untold}
use Rattle.r6_core.proofs.Rooms.{rooms_still}
use Rattle.r6_core.proofs.CountedRows.{counted_kept, same_or_fewer}
use Rattle.r6_core.proofs.Throughs.{through_both, through_in, through_one}
use Rattle.r6_core.proofs.Kept.{own_rows_kept, requests_kept, sizes_kept}
use Rattle.r6_core.proofs.HandedBack.{were_read}
use Rattle.r6_core.proofs.ReadOn.{keys_on, requests_on, tables_on}
use Rattle.r6_core.proofs.Replied.{as_many}

-- these slots are as the look has them, the others as they were
pub record IsAdopting (s new : State) (seen : Snapshot) (Done : ℕ → Type 0) : Type 0 where
  pub sound : IsSound new
  pub takes : Through (layout_in s) s.frames.shard (TakesOver seen) (state_of s) (state_of new)
  pub gone : (slot : ℕ) → Done slot → states_of new.frames.slots slot ≡ adopted (states_of s.frames.slots slot) (status_of seen slot)
  pub left : (slot : ℕ) → (Done slot → ⊥) → states_of new.frames.slots slot ≡ states_of s.frames.slots slot
  pub same : SameFrames s new
  pub directs : KeepsDirects s.frames new.frames
  pub rest : new ≡ record s { frames = new.frames }

-- none was looked at
pub adopting_none : (s : State) (seen : Snapshot) (Done : ℕ → Type 0) → IsSound s → ((slot : ℕ) → Done slot → ⊥) → IsAdopting s s seen Done
adopting_none s seen Done sound none =
    record {
      sound = sound;
      takes = ([], refl);
      gone = λ slot done. absurd (none slot done);
      left = λ slot not. refl;
      same = (refl, refl);
      directs = refl;
      rest = refl;
    }

put-here : {A : Type 0} (f : ℕ → A) (k : ℕ) (v : A) → put f k v k ≡ v
put-here f k v = ap (λ b. cond b v (f k)) (eq-eqb k k refl)

put-there : {A : Type 0} (f : ℕ → A) (k q : ℕ) (v : A) → q ≢ k → put f k v q ≡ f q
put-there f k q v ne = ap (λ b. cond b v (f q)) (ne_eqb q k ne)

abbrev with_frames : State → Frames → State
with_frames s fs = record s { frames = fs }

module _ (s : State) (slot : ℕ) (device : Device) (fs : Frames) (takes : TakesOut s.frames slot device fs) (requests : held_requests fs ≡ held_requests s.frames) where
  requests-taken : requests_of (with_frames s fs) ≡ map (entry_on fs) (requests_of s)
  requests-taken =
      let failed : fs.saw_failed ≡ s.frames.saw_failed = ap (λ (x : Shard). x.saw_failed) (takes.2 (rest_of s)) in
      requests_on s (with_frames s fs) refl refl refl requests takes.3 failed

  state-taken : state_of (with_frames s fs) ≡ taken_out (layout_in s) (state_of s) slot (slots.state_of device)
  state-taken =
      ap (λ (request : ℕ → Option shards.Request). shard_with (record (rest_of s) { request = request }) fs) (tables_on s fs _ requests-taken)
      ∙ takes.2 (rest_of s)

-- a slot went out, while no call is to be made
sound_taken : (s : State) (slot : ℕ) (device : Device) (fs : Frames) → IsSound s → NoCalls s → TakesOut s.frames slot device fs → held.IsSound fs
    → fs.commands.next ≡ s.frames.commands.next → owed fs ≤ owed s.frames → held_requests fs ≡ held_requests s.frames → KeepsRows s.frames fs → IsSound (with_frames s fs)
sound_taken s slot device fs sound told takes is next owes requests rows =
    let same : keys_of (requests_of (with_frames s fs)) ≡ keys_of (requests_of s) =
    ap keys_of (requests-taken s slot device fs takes requests) ∙ keys_on fs (requests_of s) in
    let reads = as_many (read_requests fs) (read_requests s.frames) (ap keys_of takes.3 ∙ keys_on fs (read_requests s.frames)) in
    let no_calls = ap length told.0 in
    let no_untold = ap count_untold told.1 in
    let unheld : most_owed fs.geometry.slots * count_unheld (with_frames s fs) ≡ most_owed s.frames.geometry.slots * count_unheld s =
    λ i. most_owed (takes.0 i).slots * (length (waiting_of s) + reads i) in
    record {
      frames = is;
      requests = record {
        distinct = subst (IsDistinct nat_eq) (sym same) sound.requests.distinct;
        numbered = subst (AllByRecursion (λ id. id < s.accepted)) (sym same) sound.requests.numbered;
        counted = as_many (requests_of (with_frames s fs)) (requests_of s) same ∙ sound.requests.counted;
        few = sound.requests.few;
        waiting = requests_kept s.frames fs (waiting_of s) takes.0 takes.1 sound.requests.waiting;
        sized = sizes_kept s.frames.geometry fs.geometry s.replies.items takes.0 sound.requests.sized;
        marked = sound.requests.marked;
      };
      room = record {
        waiting = sound.room.waiting;
        causes = sound.room.causes;
        replies = sound.room.replies;
        calls = sound.room.calls;
        few_calls = omega (arith, no_calls, no_untold);
        rooms = rooms_still s.rooms.items s.frames fs sound.frames is rows sound.room.rooms;
        space = sound.room.space;
      };
      tokens = omega (arith, next, owes, unheld, sound.tokens);
      accepted = sound.accepted;
      counted = counted_kept s.counts s.frames fs sound.counted (same_or_fewer s.frames fs sound.frames is rows) (omega (arith, next));
      next_rows = own_rows_kept s.frames fs s.check_row s.repair_row takes.0 takes.1 sound.next_rows;
    }

-- a slot has what the look makes of it
pub adopts_taken : (s : State) (slot : ℕ) (status : Status) (device : Device) (fs : Frames) → IsSound s → NoCalls s → slot < s.frames.geometry.slots
    → differs (states_of s.frames.slots slot) status ≡ true → slots.state_of device ≡ adopted (states_of s.frames.slots slot) status
    → TakesOut s.frames slot device fs → held.IsSound fs → fs.commands.next ≡ s.frames.commands.next → owed fs ≤ owed s.frames → held_requests fs ≡ held_requests s.frames
    → KeepsRows s.frames fs → KeepsDirects s.frames fs → Adopts s slot status (with_frames s fs)
adopts_taken s slot status device fs sound told below other becomes takes is next owes requests rows directs =
    record {
      sound = sound_taken s slot device fs sound told takes is next owes requests rows;
      other = other;
      is = state-taken s slot device fs takes requests ∙ ap (taken_out (layout_in s) (state_of s) slot) becomes;
      same = (takes.0, takes.1);
      directs = directs;
      rest = refl;
    }

-- the slots then
adopted_slots : (s : State) (slot : ℕ) (status : Status) (new : State) → Adopts s slot status new → states_of new.frames.slots ≡ put (states_of s.frames.slots) slot (adopted (states_of s.frames.slots slot) status)
adopted_slots s slot status new is = ap (λ (x : Shard). x.slot) is.is

-- one more slot was looked at, and others than these weren't
pub record IsNextDone (Done Later : ℕ → Type 0) (slot : ℕ) : Type 0 where
  pub not_done : Done slot → ⊥
  pub own : Later slot
  pub others : (q : ℕ) → Later q → q ≢ slot → Done q
  pub stay : (q : ℕ) → Done q → Later q

module _ (s mid new : State) (seen : Snapshot) (Done Later : ℕ → Type 0) (slot : ℕ) (is : IsAdopting s mid seen Done) (next : IsNextDone Done Later slot) (below : slot < s.frames.geometry.slots) where
  here : states_of mid.frames.slots slot ≡ states_of s.frames.slots slot
  here = is.left slot next.not_done

  -- it was other
  adopting_out : Adopts mid slot (status_of seen slot) new → IsAdopting s new seen Later
  adopting_out one =
      let status = status_of seen slot in
      let states = adopted_slots mid slot status new one in
      let own : states_of new.frames.slots slot ≡ adopted (states_of s.frames.slots slot) status =
      ap (λ f. f slot) states ∙ put-here (states_of mid.frames.slots) slot (adopted (states_of mid.frames.slots slot) status) ∙ ap (λ state. adopted state status) here in
      let other = λ (q : ℕ) (ne : q ≢ slot). ap (λ f. f q) states ∙ put-there (states_of mid.frames.slots) slot q (adopted (states_of mid.frames.slots slot) status) ne in
      let moved =
      through_one (layout_in mid) mid.frames.shard (TakesOver seen) (state_of mid) (state_of new) (Adopt slot status) refl
      (subst (λ (g : Shape). slot < g.slots) (sym is.same.0) below, one.other) one.is in
      record {
        sound = one.sound;
        takes =
            through_both (layout_in s) s.frames.shard (TakesOver seen) (state_of s) (state_of mid) (state_of new) is.takes
            (through_in s.frames.geometry mid.frames.geometry s.frames.shard mid.frames.shard (TakesOver seen) (state_of mid) (state_of new) is.same.0 is.same.1 moved);
        gone = λ q done. elim (cases_eq q slot) [
          | inl e ↦ subst (λ k. states_of new.frames.slots k ≡ adopted (states_of s.frames.slots k) (status_of seen k)) (sym e) own
          | inr ne ↦ other q ne ∙ is.gone q (next.others q done ne)
        ];
        left = λ q not. other q (λ e. not (subst Later (sym e) next.own)) ∙ is.left q (λ done. not (next.stay q done));
        same = (one.same.0 ∙ is.same.0, one.same.1 ∙ is.same.1);
        directs = one.directs ∙ is.directs;
        rest = one.rest ∙ ap (λ (x : State). record x { frames = new.frames }) is.rest;
      }

  -- and it wasn't
  adopting_stay : AdoptsIf false mid slot (status_of seen slot) new → IsAdopting s new seen Later
  adopting_stay none =
      let status = status_of seen slot in
      let stays : states_of mid.frames.slots slot ≡ adopted (states_of s.frames.slots slot) status = sym none.2 ∙ ap (λ state. adopted state status) here in
      subst (λ (x : State). IsAdopting s x seen Later) (sym none.0) (record {
        sound = is.sound;
        takes = is.takes;
        gone = λ q done. elim (cases_eq q slot) [
          | inl e ↦ subst (λ k. states_of mid.frames.slots k ≡ adopted (states_of s.frames.slots k) (status_of seen k)) (sym e) stays
          | inr ne ↦ is.gone q (next.others q done ne)
        ];
        left = λ q not. is.left q (λ done. not (next.stay q done));
        same = is.same;
        directs = is.directs;
        rest = is.rest;
      })

  pub adopting_next : (other : Bool) → AdoptsIf other mid slot (status_of seen slot) new → IsAdopting s new seen Later
  adopting_next true one = adopting_out one
  adopting_next false none = adopting_stay none

-- as many were looked at
pub adopting_same : (s mid : State) (seen : Snapshot) (Done Later : ℕ → Type 0) → IsAdopting s mid seen Done → ((q : ℕ) → Later q → Done q) → ((q : ℕ) → Done q → Later q) → IsAdopting s mid seen Later
adopting_same s mid seen Done Later is fewer more =
    record {
      sound = is.sound;
      takes = is.takes;
      gone = λ q done. is.gone q (fewer q done);
      left = λ q not. is.left q (λ done. not (more q done));
      same = is.same;
      directs = is.directs;
      rest = is.rest;
    }

-- ---- the slot that is replaced comes last

-- those of the first slots that aren't replaced
abbrev pub IsUnreplaced : Snapshot → (count : ℕ) → (slot : ℕ) → Type 0
IsUnreplaced seen count slot = (slot < count) × (is_replacing (status_of seen slot) ≡ false)

-- which of them is
abbrev pub IsReplacedIn : Snapshot → (count : ℕ) → Option ℕ → Type 0
IsReplacedIn seen count None = (slot : ℕ) → slot < count → is_replacing (status_of seen slot) ≡ false
IsReplacedIn seen count (Some slot) = (slot < count) × (is_replacing (status_of seen slot) ≡ true)

pub next_unreplaced : (seen : Snapshot) (slot : ℕ) → is_replacing (status_of seen slot) ≡ false → IsNextDone (IsUnreplaced seen slot) (IsUnreplaced seen (slot + 1)) slot
next_unreplaced seen slot plain =
    record {
      not_done = λ done. let below = done.0 in omega arith;
      own = (omega arith, plain);
      others = λ q later ne. (elim (cases_lt q slot) [ inl lower ↦ lower | inr higher ↦ absurd (ne (let below = later.0 in omega arith)) ], later.1);
      stay = λ q done. (let below = done.0 in omega arith, done.1);
    }

pub same_unreplaced : (seen : Snapshot) (slot : ℕ) → is_replacing (status_of seen slot) ≡ true → (q : ℕ) → IsUnreplaced seen (slot + 1) q → IsUnreplaced seen slot q
same_unreplaced seen slot replaced q done = (
  elim (cases_lt q slot) [
    | inl lower ↦ lower
    | inr higher ↦
        let same : q ≡ slot = let below = done.0 in omega arith in
        absurd (let both : true ≡ false = sym replaced ∙ ap (λ k. is_replacing (status_of seen k)) (sym same) ∙ done.1 in cc)
  ],
  done.1,
)

pub more_unreplaced : (seen : Snapshot) (slot q : ℕ) → IsUnreplaced seen slot q → IsUnreplaced seen (slot + 1) q
more_unreplaced seen slot q done = (let below = done.0 in omega arith, done.1)

pub still_replaced : (seen : Snapshot) (slot : ℕ) (o : Option ℕ) → is_replacing (status_of seen slot) ≡ false → IsReplacedIn seen slot o → IsReplacedIn seen (slot + 1) o
still_replaced seen slot None plain none = λ q below. elim (cases_lt q slot) [
  | inl lower ↦ none q lower
  | inr higher ↦ let same : slot ≡ q = omega arith in subst (λ k. is_replacing (status_of seen k) ≡ false) same plain
]
still_replaced seen slot (Some at) plain is = (let below = is.0 in omega arith, is.1)

-- it has no second device unless the register replaces it
abbrev IsSingle : SlotState → Type 0
IsSingle (Synced generation) = Unit {0}
IsSingle Missing = Unit {0}
IsSingle (Building generation built) = Unit {0}
IsSingle (Doubled old new built) = ⊥
IsSingle (Paired old new) = ⊥

single_part : (generation : ℕ) (part : Part) → IsSingle (alone generation part)
single_part generation Nothing = tt
single_part generation (Some_rows built) = tt
single_part generation Whole = tt

adopted_single : (now : SlotState) (status : Status) → is_replacing status ≡ false → IsSingle (adopted now status)
adopted_single now (InSync generation) plain = single_part generation (part_of now generation)
adopted_single now Lost plain = tt
adopted_single now (Rebuilding generation reported) plain = single_part generation (started (part_of now generation))
adopted_single now (Replacing old new reported) plain = absurd (cc)

second_none : (d : Device) → IsSingle (slots.state_of d) → slots.second_of d ≡ None
second_none (device.Synced generation) is = refl
second_none device.Missing is = refl
second_none (device.Building generation rebuilt) is = refl
second_none (device.Doubled old new rebuilt) is = absurd is
second_none (device.Paired old new) is = absurd is

pub others_single : (s mid : State) (seen : Snapshot) (count slot : ℕ) → ReplacesOneOf s.frames.geometry.slots seen → slot < s.frames.geometry.slots → IsAdopting s mid seen (IsUnreplaced seen count) → mid.frames.geometry.slots ≤ count
    → is_replacing (status_of seen slot) ≡ true → AreOthersSingle mid.frames.geometry.slots mid.frames.slots slot
others_single s mid seen count slot one there is all replaced other below apart = by_status (is_replacing (status_of seen other)) refl
  where
    by_status : (b : Bool) → is_replacing (status_of seen other) ≡ b → slots.second_of (slots.slot_in mid.frames.slots other).device ≡ None
    by_status true e = absurd (apart (one other slot (subst (λ (g : Shape). other < g.slots) is.same.0 below) there e replaced))
    by_status false e =
        second_none (slots.slot_in mid.frames.slots other).device
        (subst IsSingle (sym (is.gone other (omega (arith, below, all), e))) (adopted_single (states_of s.frames.slots other) (status_of seen other) e))

-- ---- all were looked at

abbrev pub IsLooked : Snapshot → (count at : ℕ) → (slot : ℕ) → Type 0
IsLooked seen count at slot = IsUnreplaced seen count slot ⊎ (slot ≡ at)

pub next_looked : (seen : Snapshot) (count at : ℕ) → is_replacing (status_of seen at) ≡ true → IsNextDone (IsUnreplaced seen count) (IsLooked seen count at) at
next_looked seen count at replaced =
    record {
      not_done = λ done. let both : true ≡ false = sym replaced ∙ done.1 in cc;
      own = inr refl;
      others = λ q later ne. elim later [ inl done ↦ done | inr e ↦ absurd (ne e) ];
      stay = λ q done. inl done;
    }

pub adopts_all : (s new : State) (seen : Snapshot) (Done : ℕ → Type 0) → IsAdopting s new seen Done → ((slot : ℕ) → slot < s.frames.geometry.slots → Done slot)
    → AdoptsAll s seen new
adopts_all s new seen Done is all =
    record {
      sound = is.sound;
      takes = is.takes;
      slots = λ slot below. is.gone slot (all slot below);
      same = is.same;
      directs = is.directs;
      rest = is.rest;
    }

pub none_replaced : (s : State) (seen : Snapshot) (count : ℕ) → s.frames.geometry.slots ≤ count → IsReplacedIn seen count None → (slot : ℕ) → slot < s.frames.geometry.slots → IsUnreplaced seen count slot
none_replaced s seen count all none slot below = (omega (arith, all, below), none slot (omega (arith, all, below)))

pub one_replaced : (s : State) (seen : Snapshot) (count at : ℕ) → s.frames.geometry.slots ≤ count → ReplacesOneOf s.frames.geometry.slots seen → at < s.frames.geometry.slots → is_replacing (status_of seen at) ≡ true → (slot : ℕ) → slot < s.frames.geometry.slots → IsLooked seen count at slot
one_replaced s seen count at all one there replaced slot below = by_status (is_replacing (status_of seen slot)) refl
  where
    by_status : (b : Bool) → is_replacing (status_of seen slot) ≡ b → IsLooked seen count at slot
    by_status true e = inr (one slot at below there e replaced)
    by_status false e = inl (omega (arith, all, below), e)

-- ---- direct reads from what was taken out wait again

module _ (s mid given new : State) (seen : Snapshot) (core : IsSettled s) (is : AdoptsAll s seen mid) (gave : GivesOverUnless seen.failed mid given) (back : HandsBack given new) where
  pub back_takes : TookOver s seen new
  back_takes = record {
    mid = state_of mid;
    takes = is.takes;
    slots = is.slots;
    gives =
        subst (λ x. Through (layout_in s) s.frames.shard GivesOverSteps (state_of mid) x) (sym back.state)
        (through_in s.frames.geometry mid.frames.geometry s.frames.shard mid.frames.shard GivesOverSteps (state_of mid) (state_of given) is.same.0 is.same.1 gave.leads);
    failed = λ failed. back.state ∙ ap state_of (gave.nothing failed);
  }

  pub back_keeps : KeepsShard s new
  back_keeps = (
    (back.geometry.0 ∙ gave.same.0 ∙ is.same.0, back.geometry.1 ∙ gave.same.1 ∙ is.same.1),
    ap (λ (x : State). x.unanswered) back.rest ∙ ap (λ (x : State). x.unanswered) gave.rest ∙ ap (λ (x : State). x.unanswered) is.rest,
  )

  pub back_order : Seen SameReplies s new
  back_order = (
    (λ i. drop (back.rest i).released (back.rest i).replies.items) ∙ (λ i. drop (gave.rest i).released (gave.rest i).replies.items) ∙ (λ i. drop (is.rest i).released (is.rest i).replies.items),
    (λ i. take (back.rest i).released (back.rest i).replies.items) ∙ (λ i. take (gave.rest i).released (gave.rest i).replies.items) ∙ (λ i. take (is.rest i).released (is.rest i).replies.items),
  )

  pub back_again : ReadAgain s new
  back_again = (
    back.again,
    were_read s given.frames 0 back.again core.sound core.reading (λ number r has. sym (gave.readers number ∙ ap (λ ds. (direct_at ds number).read) is.directs) ∙ has) back.were,
    back.waiting ∙ ap (λ (x : State). requests_in x.waiting ++ back.again) gave.rest ∙ ap (λ (x : State). requests_in x.waiting ++ back.again) is.rest,
  )

-- ---- a look that sees of each slot what the shard has leaves it as it was

same_number : (a b : ℕ) → not (nat_eq a b) ≡ false → a ≡ b
same_number a b is = elim (cases_eq a b) [
  | inl same ↦ same
  | inr apart ↦ absurd (let both : true ≡ false = sym (ap not (ne_eqb a b apart)) ∙ is in cc)
]

is_own : (a b : ℕ) → a ≡ b → nat_eq a b ≡ true
is_own a b same = eq-eqb a b same

-- what differs in none of two
none_of : (a b : Bool) → (a || not b) ≡ false → (a ≡ false) × (b ≡ true)
none_of false true is = (refl, refl)
none_of false false is = absurd (cc)
none_of true b is = absurd (cc)

both_of : (a b : Bool) → (a && b) ≡ true → (a ≡ true) × (b ≡ true)
both_of true true is = (refl, refl)
both_of true false is = absurd (cc)
both_of false b is = absurd (cc)

number_of : (a b : ℕ) → nat_eq a b ≡ true → a ≡ b
number_of a b is = same_number a b (ap not is)

apart_of : (a b : ℕ) → nat_eq a b ≡ false → a ≢ b
apart_of a b is same = let both : true ≡ false = sym (is_own a b same) ∙ is in cc

-- a slot with one device, the new one
kept_new : (now : SlotState) (old new : ℕ) (part : Part) → (part_of now new ≡ part) → (started part ≡ part) → alone new part ≡ now → (old ≢ new → part_of now old ≡ Nothing)
    → (reported : ShardSet) → adopted now (Replacing old new reported) ≡ now
kept_new now old new part here begun is other reported = elim (cases_eq old new) [
  | inl same ↦
      ap (λ b. cond b (alone old (part_of now old)) (beside now old (part_of now old) new (started (part_of now new)))) (is_own old new same)
      ∙ ap (λ k. alone k (part_of now k)) same ∙ ap (alone new) here ∙ is
  | inr apart ↦
      ap (λ b. cond b (alone old (part_of now old)) (beside now old (part_of now old) new (started (part_of now new)))) (ne_eqb old new apart)
      ∙ ap (λ p. beside now old p new (started (part_of now new))) (other apart)
      ∙ ap (alone new) (ap started here ∙ begun) ∙ is
]

pub kept_slot : (now : SlotState) (status : Status) → differs now status ≡ false → adopted now status ≡ now
kept_slot (Synced current) (InSync generation) is =
    let same = same_number current generation is in
    ap (λ b. alone generation (part_if b Whole)) (is_own current generation same) ∙ ap Synced (sym same)
kept_slot (Synced current) (Rebuilding generation reported) is =
    let same = same_number current generation is in
    ap (λ b. alone generation (started (part_if b Whole))) (is_own current generation same) ∙ ap Synced (sym same)
kept_slot (Synced current) (Replacing old new reported) is =
    let same = same_number current new is in
    kept_new (Synced current) old new Whole (ap (λ b. part_if b Whole) (is_own current new same)) refl (ap Synced (sym same))
    (λ apart. ap (λ b. part_if b Whole) (ne_eqb current old (λ e. apart (sym e ∙ same)))) reported
kept_slot (Synced current) Lost is = absurd (cc)
kept_slot Missing (InSync generation) is = refl
kept_slot Missing Lost is = refl
kept_slot Missing (Rebuilding generation reported) is = absurd (cc)
kept_slot Missing (Replacing old new reported) is =
    ap (λ b. cond b (alone old Nothing) (beside Missing old Nothing new (started Nothing))) (is_own old new (same_number old new is))
kept_slot (Building current built) (InSync generation) is =
    let same = same_number current generation is in
    ap (λ b. alone generation (part_if b (Some_rows built))) (is_own current generation same) ∙ ap (λ k. Building k built) (sym same)
kept_slot (Building current built) (Rebuilding generation reported) is =
    let same = same_number current generation is in
    ap (λ b. alone generation (started (part_if b (Some_rows built)))) (is_own current generation same) ∙ ap (λ k. Building k built) (sym same)
kept_slot (Building current built) (Replacing old new reported) is =
    let same = same_number current new is in
    kept_new (Building current built) old new (Some_rows built) (ap (λ b. part_if b (Some_rows built)) (is_own current new same)) refl (ap (λ k. Building k built) (sym same))
    (λ apart. ap (λ b. part_if b (Some_rows built)) (ne_eqb current old (λ e. apart (sym e ∙ same)))) reported
kept_slot (Building current built) Lost is = absurd (cc)
kept_slot (Doubled first second built) (Replacing old new reported) is =
    let two = none_of (nat_eq old new) (nat_eq first old && nat_eq second new) is in
    let each = both_of (nat_eq first old) (nat_eq second new) two.1 in
    let own = number_of first old each.0 in
    let other = number_of second new each.1 in
    let here : part_of (Doubled first second built) old ≡ Whole = ap (λ b. cond b Whole (part_if (nat_eq second old) (Some_rows built))) each.0 in
    let there : part_of (Doubled first second built) new ≡ Some_rows built =
    ap (λ b. cond b Whole (part_if (nat_eq second new) (Some_rows built))) (ne_eqb first new (λ e. apart_of old new two.0 (sym own ∙ e)))
    ∙ ap (λ b. part_if b (Some_rows built)) each.1 in
    let now = Doubled first second built in
    ap (λ b. cond b (alone old (part_of now old)) (beside now old (part_of now old) new (started (part_of now new)))) two.0
    ∙ ap (λ p. beside now old p new (started (part_of now new))) here
    ∙ ap (λ p. beside now old Whole new (started p)) there
    ∙ ap (λ k. Doubled k new built) (sym own) ∙ ap (λ k. Doubled first k built) (sym other)
kept_slot (Doubled first second built) (InSync generation) is = absurd (cc)
kept_slot (Doubled first second built) (Rebuilding generation reported) is = absurd (cc)
kept_slot (Doubled first second built) Lost is = absurd (cc)
kept_slot (Paired first second) (Replacing old new reported) is =
    let now = Paired first second in
    let two = none_of (nat_eq old new) (has_device now old && has_device now new) is in
    let each = both_of (has_device now old) (has_device now new) two.1 in
    ap (λ b. cond b (alone old (part_of now old)) (beside now old (part_of now old) new (started (part_of now new)))) two.0
    ∙ ap (λ b. beside now old (part_if b Whole) new (started (part_of now new))) each.0
    ∙ ap (λ b. beside now old Whole new (started (part_if b Whole))) each.1
kept_slot (Paired first second) (InSync generation) is = absurd (cc)
kept_slot (Paired first second) (Rebuilding generation reported) is = absurd (cc)
kept_slot (Paired first second) Lost is = absurd (cc)

pub none_takes : (s : State) (seen : Snapshot) → Agrees (core_of s) seen → TookOver s seen s
none_takes s seen agrees = record {
  mid = state_of s;
  takes = ([], refl);
  slots = λ slot below. sym (kept_slot (states_of s.frames.slots slot) (status_of seen slot) (agrees slot below));
  gives = ([], refl);
  failed = λ failed. refl;
}

pub none_back : (s : State) → ReadAgain s s
none_back s = ([], tt, sym (append-nil (waiting_of s)))
