-- What the small changes of an event keep, but for those that open it.
use Rattle.std.proofs.Common.{◌≡◌, ℕ, ◌+◌, List, [], ◌∷◌, Bool, true, false, inl, inr, refl, sym, ap, ◌∙◌, subst, arith, Option, Some, None}
use Rattle.std.proofs.lemmas.Bool.{cases_eq, cases_Bool}
use Rattle.r6_world.specs.Tables.{put}
use Rattle.r6_world.specs.Layouts.{Layout}
use Rattle.r6_world.specs.ShardStates.{Shard, SlotState, Missing, Command, Held}
use Rattle.r6_world.specs.Changes.{Change, Start, Ask, Prepare, Classify, Send, Copy, Read_direct, Fix, Ask_again, Move, Give_over, lost_slot, lost_slots, slots_in_error, Adopt, See_failed, Finish, Bring_in, Release, Skip_turn, Allowed, after, adopted, without, staged, finished, released, failed_request, read_on, abandoned_if, abandoned_to}
use Rattle.r6_world.specs.Steps.{Leads, Through, Scans, GivesOver, GoesOn, GoOn, TakesOver}
use Rattle.r6_world.specs.Tasks.{serves}
use Rattle.r6_world.specs.Registers.{Snapshot}
use Rattle.r6_world.proofs.Tables.{put-same, put-other, Some-inj, not_both, None-not_Some}
use Rattle.r6_world.proofs.Acts.Requests.{held_now-served, held_now-other}
use Rattle.r6_array.specs.Inside.{AreTakenBelow}

-- no request comes, none of the commands that weren't taken goes, and no call is taken or told
pub record Keeps (old new : Shard) : Type 0 where
  pub accepted : new.accepted ≡ old.accepted
  pub gone : (id : ℕ) → old.request id ≡ None → new.request id ≡ None
  pub untold : new.untold ≡ old.untold
  pub taken : (next : ℕ) → AreTakenBelow next old → AreTakenBelow next new

pub same : (s : Shard) → Keeps s s
same s = record { accepted = refl; gone = λ id e. e; untold = refl; taken = λ next x. x }

pub then : (a b c : Shard) → Keeps a b → Keeps b c → Keeps a c
then a b c x y =
    record {
      accepted = y.accepted ∙ x.accepted;
      gone = λ id e. y.gone id (x.gone id e);
      untold = y.untold ∙ x.untold;
      taken = λ next t. y.taken next (x.taken next t);
    }

-- ---- commands

-- each command stays, taken or not as it was
abbrev Marks : (ℕ → Option Command) → (ℕ → Option Command) → Type 0
Marks old new =
    (t : ℕ)
    → ((c : Command) → new t ≡ Some c → (b : Command) × (old t ≡ Some b) × (b.taken ≡ c.taken))
    × ((b : Command) → old t ≡ Some b → (c : Command) × (new t ≡ Some c) × (c.taken ≡ b.taken))

marked : (next : ℕ) (s new : Shard) → new.tokens ≡ s.tokens → Marks s.command new.command → AreTakenBelow next s → AreTakenBelow next new
marked next s new tokens marks x =
    record {
      within = let w = x.within in omega (arith, tokens);
      untaken = λ t from below.
          let u = x.untaken t from (let b = below in omega (arith, tokens)) in
          let m = (marks t).1 u.0 u.1 in
          (m.0, m.1, m.2 ∙ u.2);
      taken = λ t c e f. let m = (marks t).0 c e in x.taken t m.0 m.1 (m.2 ∙ f);
      there = λ t c e. let m = (marks t).0 c e in let b = x.there t m.0 m.1 in omega (arith, tokens);
    }

taken_of : (a b : Command) → Some a ≡ Some b → a.taken ≡ b.taken
taken_of a b e = ap (λ (c : Command). c.taken) (Some-inj a b e)

abandoned : (gone : Bool) (o : Option Command) → ((c : Command) → abandoned_if gone o ≡ Some c → (b : Command) × (o ≡ Some b) × (b.taken ≡ c.taken))
    × ((b : Command) → o ≡ Some b → (c : Command) × (abandoned_if gone o ≡ Some c) × (c.taken ≡ b.taken))
abandoned gone None = (λ c e. absurd (None-not_Some c e), λ b e. absurd (None-not_Some b e))
abandoned gone (Some d) = (λ c e. (d, refl, taken_of _ c e), λ b e. (_, refl, taken_of d b e))

abandoned_by : (stopped : Bool) (slot : ℕ) (now : SlotState) (o : Option Command) → ((c : Command) → abandoned_to stopped slot now o ≡ Some c → (b : Command) × (o ≡ Some b) × (b.taken ≡ c.taken))
    × ((b : Command) → o ≡ Some b → (c : Command) × (abandoned_to stopped slot now o ≡ Some c) × (c.taken ≡ b.taken))
abandoned_by stopped slot now None = (λ c e. absurd (None-not_Some c e), λ b e. absurd (None-not_Some b e))
abandoned_by stopped slot now (Some d) = (λ c e. (d, refl, taken_of _ c e), λ b e. (_, refl, taken_of d b e))

pub all_abandoned : (stopped : Bool) (slot : ℕ) (now : SlotState) (next : ℕ) (s new : Shard) → new.tokens ≡ s.tokens → ((t : ℕ) → new.command t ≡ abandoned_to stopped slot now (s.command t))
    → AreTakenBelow next s → AreTakenBelow next new
all_abandoned stopped slot now next s new tokens is x =
    marked next s new tokens
    (λ t. (λ c e. (abandoned_by stopped slot now (s.command t)).0 c (sym (is t) ∙ e), λ b e. let m = (abandoned_by stopped slot now (s.command t)).1 b e in (m.0, is t ∙ m.1, m.2))) x

-- a command comes, which isn't taken
comes : (next : ℕ) (s new : Shard) (c : Command) → c.taken ≡ false → new.tokens ≡ s.tokens + 1 → new.command ≡ put s.command s.tokens (Some c) → AreTakenBelow next s → AreTakenBelow next new
comes next s new c untaken tokens is x =
    let at : (t : ℕ) → new.command t ≡ put s.command s.tokens (Some c) t = λ t. ap (λ f. f t) is in
    record {
      within = let w = x.within in omega (arith, tokens);
      untaken = λ t from below. elim (cases_eq t s.tokens) [
        | inl e ↦ (c, at t ∙ put-same s.command s.tokens (Some c) t e, untaken)
        | inr ne ↦
            let u = x.untaken t from (let b = below in omega (arith, tokens)) in
            (u.0, at t ∙ put-other s.command s.tokens (Some c) t ne ∙ u.1, u.2)
      ];
      taken = λ t d e f. elim (cases_eq t s.tokens) [
        | inl same ↦ let w = x.within in omega (arith, same)
        | inr ne ↦ x.taken t d (sym (put-other s.command s.tokens (Some c) t ne) ∙ sym (at t) ∙ e) f
      ];
      there = λ t d e. elim (cases_eq t s.tokens) [
        | inl same ↦ omega (arith, tokens, same)
        | inr ne ↦ let b = x.there t d (sym (put-other s.command s.tokens (Some c) t ne) ∙ sym (at t) ∙ e) in omega (arith, tokens)
      ];
    }

-- one that was taken goes
pub goes : (next token : ℕ) (s new : Shard) (c : Command) → s.command token ≡ Some c → c.taken ≡ true → new.tokens ≡ s.tokens → new.command ≡ put s.command token None
    → AreTakenBelow next s → AreTakenBelow next new
goes next token s new c there taken tokens is x =
    let at : (t : ℕ) → new.command t ≡ put s.command token None t = λ t. ap (λ f. f t) is in
    record {
      within = let w = x.within in omega (arith, tokens);
      untaken = λ t from below.
          let u = x.untaken t from (let b = below in omega (arith, tokens)) in
          elim (cases_eq t token) [
            | inl e ↦
                let is_c : u.0 ≡ c = Some-inj u.0 c (sym u.1 ∙ ap s.command e ∙ there) in
                let clash : true ≡ false = sym taken ∙ ap (λ (d : Command). d.taken) (sym is_c) ∙ u.2 in
                absurd (cc)
            | inr ne ↦ (u.0, at t ∙ put-other s.command token None t ne ∙ u.1, u.2)
          ];
      taken = λ t d e f. elim (cases_eq t token) [
        | inl same ↦ absurd (None-not_Some d (sym (put-same s.command token None t same) ∙ sym (at t) ∙ e))
        | inr ne ↦ x.taken t d (sym (put-other s.command token None t ne) ∙ sym (at t) ∙ e) f
      ];
      there = λ t d e. elim (cases_eq t token) [
        | inl same ↦ absurd (None-not_Some d (sym (put-same s.command token None t same) ∙ sym (at t) ∙ e))
        | inr ne ↦ let b = x.there t d (sym (put-other s.command token None t ne) ∙ sym (at t) ∙ e) in omega (arith, tokens)
      ];
    }

-- ---- the changes

abbrev pub IsInner : Change → Type 0
IsInner (Start f row task) = record {}
IsInner (Ask f h slot generation) = record {}
IsInner (Prepare f h event) = record {}
IsInner (Classify f h class) = record {}
IsInner (Send f h slot generation b) = record {}
IsInner (Copy f h slot generation b) = record {}
IsInner (Fix f h slot generation b) = record {}
IsInner (Ask_again f h slot generation) = record {}
IsInner (Move f h slot generation) = record {}
IsInner (Give_over f h) = record {}
IsInner (Read_direct buffer id block generation) = record {}
IsInner (Adopt slot status) = record {}
IsInner See_failed = record {}
IsInner (Finish f h outcome) = record {}
IsInner (Bring_in slot generation) = record {}
IsInner Release = record {}
IsInner (Skip_turn task row) = record {}
IsInner change = ⊥

-- slots that are lost
lost_keeps : (l : Layout) (s : Shard) (slots : List ℕ) → Keeps s (lost_slots l s slots)
lost_keeps l s [] = same s
lost_keeps l s (slot ∷ slots) =
    then s (lost_slot l s slot) (lost_slots l (lost_slot l s slot) slots)
    (record {
      accepted = refl;
      gone = λ id e. ap (read_on _) e;
      untold = refl;
      taken = λ next x. all_abandoned _ slot Missing next s (lost_slot l s slot) refl (λ t. refl) x;
    })
    (lost_keeps l (lost_slot l s slot) slots)

pub inner : (l : Layout) (n : ℕ) (s : Shard) (change : Change) → IsInner change → Allowed l n s change → Keeps s (after l s change)
inner l n s (Start f row task) k a =
    record {
      accepted = refl;
      gone = λ id e. elim (cases_Bool (serves task id)) [
        | inl mine ↦ held_now-served s.request task f id mine ∙ ap (λ o. staged o (Held f)) e
        | inr other ↦ held_now-other s.request task f id other ∙ e
      ];
      untold = refl;
      taken = λ next x. marked next s (after l s (Start f row task)) refl (λ t. (λ c e. (c, e, refl), λ b e. (b, e, refl))) x;
    }
inner l n s (Ask f h slot generation) k a =
    record {
      accepted = refl;
      gone = λ id e. e;
      untold = refl;
      taken = λ next x. comes next s (after l s (Ask f h slot generation)) _ refl refl refl x;
    }
inner l n s (Send f h slot generation b) k a =
    record {
      accepted = refl;
      gone = λ id e. e;
      untold = refl;
      taken = λ next x. comes next s (after l s (Send f h slot generation b)) _ refl refl refl x;
    }
inner l n s (Copy f h slot generation b) k a =
    record {
      accepted = refl;
      gone = λ id e. e;
      untold = refl;
      taken = λ next x. comes next s (after l s (Copy f h slot generation b)) _ refl refl refl x;
    }
inner l n s (Fix f h slot generation b) k a =
    record {
      accepted = refl;
      gone = λ id e. e;
      untold = refl;
      taken = λ next x. comes next s (after l s (Fix f h slot generation b)) _ refl refl refl x;
    }
inner l n s (Ask_again f h slot generation) k a =
    record {
      accepted = refl;
      gone = λ id e. e;
      untold = refl;
      taken = λ next x. comes next s (after l s (Ask_again f h slot generation)) _ refl refl refl x;
    }
inner l n s (Move f h slot generation) k a =
    record {
      accepted = refl;
      gone = λ id e. ap (read_on _) e;
      untold = refl;
      taken = λ next x.
          all_abandoned _ slot (without (s.slot slot) generation) next s (after l s (Move f h slot generation)) refl (λ t. refl) x;
    }
inner l n s (Give_over f h) k a = lost_keeps l s (slots_in_error l h)
inner l n s (Read_direct buffer i block generation) k a =
    record {
      accepted = refl;
      gone = λ id e. put-other s.request i _ id (λ same. not_both (s.request id) _ e (ap s.request same ∙ a.1)) ∙ e;
      untold = refl;
      taken = λ next x. comes next s (after l s (Read_direct buffer i block generation)) _ refl refl refl x;
    }
inner l n s (Adopt slot status) k a =
    record {
      accepted = refl;
      gone = λ id e. ap (read_on _) e;
      untold = refl;
      taken = λ next x. all_abandoned _ slot (adopted (s.slot slot) status) next s (after l s (Adopt slot status)) refl (λ t. refl) x;
    }
inner l n s See_failed k a =
    record {
      accepted = refl;
      gone = λ id e. ap failed_request e;
      untold = refl;
      taken = λ next x. marked next s (after l s See_failed) refl (λ t. abandoned true (s.command t)) x;
    }
inner l n s (Finish f h outcome) k a =
    record {
      accepted = refl;
      gone = λ id e. ap (finished f outcome) e;
      untold = refl;
      taken = λ next x. marked next s (after l s (Finish f h outcome)) refl (λ t. (λ c e. (c, e, refl), λ b e. (b, e, refl))) x;
    }
inner l n s Release k a =
    record {
      accepted = refl;
      gone = λ id e. ap released e;
      untold = refl;
      taken = λ next x. marked next s (after l s Release) refl (λ t. (λ c e. (c, e, refl), λ b e. (b, e, refl))) x;
    }
inner l n s (Prepare f h event) k a =
    record {
      accepted = refl;
      gone = λ id e. e;
      untold = refl;
      taken = λ next x. marked next s (after l s (Prepare f h event)) refl (λ t. (λ c e. (c, e, refl), λ b e. (b, e, refl))) x;
    }
inner l n s (Classify f h class) k a =
    record {
      accepted = refl;
      gone = λ id e. e;
      untold = refl;
      taken = λ next x. marked next s (after l s (Classify f h class)) refl (λ t. (λ c e. (c, e, refl), λ b e. (b, e, refl))) x;
    }
inner l n s (Bring_in slot generation) k a =
    record {
      accepted = refl;
      gone = λ id e. e;
      untold = refl;
      taken = λ next x. marked next s (after l s (Bring_in slot generation)) refl (λ t. (λ c e. (c, e, refl), λ b e. (b, e, refl))) x;
    }
inner l n s (Skip_turn task row) k a =
    record {
      accepted = refl;
      gone = λ id e. e;
      untold = refl;
      taken = λ next x. marked next s (after l s (Skip_turn task row)) refl (λ t. (λ c e. (c, e, refl), λ b e. (b, e, refl))) x;
    }
inner l n s change k a = absurd k

-- ---- lists of them

leads : (l : Layout) (n : ℕ) (Kind : Change → Type 0) → ((change : Change) → Kind change → IsInner change) → (changes : List Change) (old new : Shard)
    → Leads l n Kind old changes new → Keeps old new
leads l n Kind is [] old new e = subst (Keeps old) (sym e) (same old)
leads l n Kind is (change ∷ changes) old new x =
    then old (after l old change) new (inner l n old change (is change x.0) x.1) (leads l n Kind is changes (after l old change) new x.2)

scans_are : (change : Change) → Scans change → IsInner change
scans_are (Start f row task) k = record {}
scans_are (Ask f h slot g) k = record {}
scans_are (Prepare f h e) k = record {}
scans_are (Send f h slot g b) k = record {}
scans_are (Copy f h slot g b) k = record {}
scans_are (Read_direct buffer id block g) k = record {}
scans_are change k = absurd k

goes_are : (change : Change) → GoesOn change → IsInner change
goes_are (Ask f h slot g) k = record {}
goes_are (Prepare f h e) k = record {}
goes_are (Classify f h class) k = record {}
goes_are (Send f h slot g b) k = record {}
goes_are (Copy f h slot g b) k = record {}
goes_are (Fix f h slot g b) k = record {}
goes_are (Ask_again f h slot g) k = record {}
goes_are (Finish f h outcome) k = record {}
goes_are (Bring_in slot g) k = record {}
goes_are change k = absurd k

gives_are : (change : Change) → GivesOver change → IsInner change
gives_are (Move f h slot g) k = record {}
gives_are (Give_over f h) k = record {}
gives_are change k = absurd k

takes_are : (seen : Snapshot) (change : Change) → TakesOver seen change → IsInner change
takes_are seen (Adopt slot status) k = record {}
takes_are seen change k = absurd k

pub scans : (l : Layout) (n : ℕ) (old new : Shard) → Through l n Scans old new → Keeps old new
scans l n old new t = leads l n Scans scans_are t.0 old new t.1

pub goes_on : (l : Layout) (n : ℕ) (old new : Shard) → GoOn l n old new → Keeps old new
goes_on l n old new t = then old t.0 new (leads l n GivesOver gives_are t.1.0 old t.0 t.1.1) (leads l n GoesOn goes_are t.2.0 t.0 new t.2.1)

pub takes_over : (l : Layout) (n : ℕ) (seen : Snapshot) (old new : Shard) → Through l n (TakesOver seen) old new → Keeps old new
takes_over l n seen old new t = leads l n (TakesOver seen) (takes_are seen) t.0 old new t.1

-- ---- what starts makes no call

scan_calls : (l : Layout) (s : Shard) (change : Change) → Scans change → (after l s change).calls ≡ s.calls
scan_calls l s (Start f row task) k = refl
scan_calls l s (Ask f h slot g) k = refl
scan_calls l s (Prepare f h e) k = refl
scan_calls l s (Send f h slot g b) k = refl
scan_calls l s (Copy f h slot g b) k = refl
scan_calls l s (Read_direct buffer id block g) k = refl
scan_calls l s change k = absurd k

calls_by : (l : Layout) (n : ℕ) (changes : List Change) (old new : Shard) → Leads l n Scans old changes new → new.calls ≡ old.calls
calls_by l n [] old new e = ap (λ (s : Shard). s.calls) e
calls_by l n (change ∷ changes) old new x = calls_by l n changes (after l old change) new x.2 ∙ scan_calls l old change x.0

pub calls_stay : (l : Layout) (n : ℕ) (old new : Shard) → Through l n Scans old new → new.calls ≡ old.calls
calls_stay l n old new t = calls_by l n t.0 old new t.1
