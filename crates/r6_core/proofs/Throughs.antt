-- Lists of changes, one behind the other.
use Rattle.std.proofs.Common.{◌≡◌, ℕ, ◌<◌, ◌≤◌, ◌⊎◌, inl, inr, List, [], ◌∷◌, ◌++◌, refl, ap, subst, ◌∙◌, arith}
use Rattle.r6_layout.specs.Shape.{Shape}
use Rattle.r6_world.specs.Layouts.{Layout}
use Rattle.r6_world.specs.Geometries.{layout_of}
use Rattle.r6_world.specs.ShardStates.{Shard}
use Rattle.r6_world.specs.Changes.{Change, Accept, Start, Ask, Prepare, Classify, Send, Copy, Learn, Confirm, Fix, Ask_again, Fail, Set_back, Move, Give_over, lost_slot, lost_slots, slots_in_error, Come_home, Lose, Adopt, See_failed, Finish, Bring_in, Release, Skip_turn, Hand_command, Hand_call, Hear, Hand_reply, after, Allowed, Read_direct, Give_direct}
use Rattle.r6_world.specs.Steps.{GoesOn, GoOn, Leads, Scans, Through}
use Rattle.r6_frames.specs.declared.frames.Frames.{Frames}
use Rattle.r6_frames.specs.Views.{shard_with}
use Rattle.r6_frames.specs.Calls.{Drives, PutsFirst, PutsFirstOut, PutsOut}

leads_append : (l : Layout) (n : ℕ) (Kind : Change → Type 0) (old mid new : Shard) (first second : List Change)
    → Leads l n Kind old first mid → Leads l n Kind mid second new → Leads l n Kind old (first ++ second) new
leads_append l n Kind old mid new [] second a b = subst (λ s. Leads l n Kind s second new) a b
leads_append l n Kind old mid new (change ∷ first) second a b = (a.0, a.1, leads_append l n Kind (after l old change) mid new first second a.2 b)

-- two in a row
pub through_both : (l : Layout) (n : ℕ) (Kind : Change → Type 0) (old mid new : Shard) → Through l n Kind old mid → Through l n Kind mid new → Through l n Kind old new
through_both l n Kind old mid new a b = (a.0 ++ b.0, leads_append l n Kind old mid new a.0 b.0 a.1 b.1)

-- no change
pub through_none : (l : Layout) (n : ℕ) (Kind : Change → Type 0) (old new : Shard) → new ≡ old → Through l n Kind old new
through_none l n Kind old new same = ([], same)

-- one change
pub through_one : (l : Layout) (n : ℕ) (Kind : Change → Type 0) (old new : Shard) (change : Change) → Kind change → Allowed l n old change → new ≡ after l old change → Through l n Kind old new
through_one l n Kind old new change kind allowed is = (change ∷ [], (kind, allowed, is))

-- of a narrower kind
leads_of : (l : Layout) (n : ℕ) (Narrow Wide : Change → Type 0) → ((change : Change) → Narrow change → Wide change) → (old new : Shard) (changes : List Change)
    → Leads l n Narrow old changes new → Leads l n Wide old changes new
leads_of l n Narrow Wide wider old new [] a = a
leads_of l n Narrow Wide wider old new (change ∷ changes) a = (wider change a.0, a.1, leads_of l n Narrow Wide wider (after l old change) new changes a.2)

pub through_of : (l : Layout) (n : ℕ) (Narrow Wide : Change → Type 0) → ((change : Change) → Narrow change → Wide change) → (old new : Shard)
    → Through l n Narrow old new → Through l n Wide old new
through_of l n Narrow Wide wider old new a = (a.0, leads_of l n Narrow Wide wider old new a.0 a.1)

-- what comes first of a hold is put out; so do turns
pub first_out : (change : Change) → PutsFirst change → PutsOut change
first_out (Ask frame h slot generation) p = record {}
first_out (Prepare frame h event) p = record {}
first_out (Send frame h slot generation block) p = record {}
first_out (Copy frame h slot generation block) p = record {}
first_out change p = absurd p

pub drives_first : (old new : Frames) → PutsFirstOut old new → Drives old new
drives_first old new drives = (
  drives.0,
  drives.1,
  λ rest. through_of (layout_of old.geometry) old.shard PutsFirst PutsOut first_out (shard_with rest old) (shard_with rest new) (drives.2 rest),
  drives.3,
)

pub scans : (change : Change) → PutsFirst change → Scans change
scans (Ask frame h slot generation) p = record {}
scans (Prepare frame h event) p = record {}
scans (Send frame h slot generation block) p = record {}
scans (Copy frame h slot generation block) p = record {}
scans change p = absurd p

-- holds go on, and none loses the slots of its read errors
pub goes_on_only : (l : Layout) (n : ℕ) (old new : Shard) → Through l n GoesOn old new → GoOn l n old new
goes_on_only l n old new t = (old, ([], refl), t)

-- over a layout and a shard that are known to be others
pub through_in : (g g' : Shape) (n n' : ℕ) (Kind : Change → Type 0) (old new : Shard) → g' ≡ g → n' ≡ n
    → Through (layout_of g') n' Kind old new → Through (layout_of g) n Kind old new
through_in g g' n n' Kind old new same_shape same_shard t =
    subst (λ m. Through (layout_of g) m Kind old new) same_shard (subst (λ x. Through (layout_of x) n' Kind old new) same_shape t)

-- ---- tokens

-- slots that are lost take no token
lost_tokens : (l : Layout) (s : Shard) (slots : List ℕ) → (lost_slots l s slots).tokens ≡ s.tokens
lost_tokens l s [] = refl
lost_tokens l s (slot ∷ slots) = lost_tokens l (lost_slot l s slot) slots

-- no change takes a token back
pub no_token_back : (l : Layout) (s : Shard) (change : Change) → s.tokens ≤ (after l s change).tokens
no_token_back l s (Accept op) = omega arith
no_token_back l s (Start f row task) = omega arith
no_token_back l s (Ask f h slot generation) = omega arith
no_token_back l s (Prepare f h event) = omega arith
no_token_back l s (Classify f h class) = omega arith
no_token_back l s (Send f h slot generation b) = omega arith
no_token_back l s (Copy f h slot generation b) = omega arith
no_token_back l s (Read_direct buffer id block generation) = omega arith
no_token_back l s (Give_direct token c id block b) = omega arith
no_token_back l s (Learn token c h b) = omega arith
no_token_back l s (Confirm token c h) = omega arith
no_token_back l s (Fix f h slot generation b) = omega arith
no_token_back l s (Ask_again f h slot generation) = omega arith
no_token_back l s (Fail token c h) = omega arith
no_token_back l s (Set_back token c id block) = omega arith
no_token_back l s (Move f h slot generation) = omega arith
no_token_back l s (Give_over f h) = let same = lost_tokens l s (slots_in_error l h) in omega (arith, same)
no_token_back l s (Come_home token c) = omega arith
no_token_back l s (Lose token c) = omega arith
no_token_back l s (Adopt slot status) = omega arith
no_token_back l s See_failed = omega arith
no_token_back l s (Finish f h outcome) = omega arith
no_token_back l s (Bring_in slot generation) = omega arith
no_token_back l s Release = omega arith
no_token_back l s (Skip_turn task row) = omega arith
no_token_back l s (Hand_command token c) = omega arith
no_token_back l s (Hand_call call rest) = omega arith
no_token_back l s (Hear call answer) = omega arith
no_token_back l s (Hand_reply id op reply) = omega arith

leads_tokens : (l : Layout) (n : ℕ) (Kind : Change → Type 0) (old new : Shard) (changes : List Change) → Leads l n Kind old changes new → old.tokens ≤ new.tokens
leads_tokens l n Kind old new [] same = let tokens = ap (λ (x : Shard). x.tokens) same in omega (arith, tokens)
leads_tokens l n Kind old new (change ∷ changes) leads =
    omega (arith, no_token_back l old change, leads_tokens l n Kind (after l old change) new changes leads.2)

pub tokens_grow : (l : Layout) (n : ℕ) (Kind : Change → Type 0) (old new : Shard) → Through l n Kind old new → old.tokens ≤ new.tokens
tokens_grow l n Kind old new through = leads_tokens l n Kind old new through.0 through.1

-- where commands are others than before, a token was given
abbrev KeepsOrGives : Shard → Shard → Type 0
KeepsOrGives old new = (new.command ≡ old.command) ⊎ (old.tokens < new.tokens)

one_put_out : (l : Layout) (s : Shard) (change : Change) → PutsOut change → KeepsOrGives s (after l s change)
one_put_out l s (Ask f h slot generation) puts = inr (omega arith)
one_put_out l s (Prepare f h event) puts = inl refl
one_put_out l s (Send f h slot generation b) puts = inr (omega arith)
one_put_out l s (Accept op) puts = absurd puts
one_put_out l s (Start f row task) puts = absurd puts
one_put_out l s (Classify f h class) puts = absurd puts
one_put_out l s (Copy f h slot generation b) puts = inr (omega arith)
one_put_out l s (Read_direct buffer id block generation) puts = absurd puts
one_put_out l s (Give_direct token c id block b) puts = absurd puts
one_put_out l s (Learn token c h b) puts = absurd puts
one_put_out l s (Confirm token c h) puts = absurd puts
one_put_out l s (Fix f h slot generation b) puts = inr (omega arith)
one_put_out l s (Ask_again f h slot generation) puts = inr (omega arith)
one_put_out l s (Fail token c h) puts = absurd puts
one_put_out l s (Set_back token c id block) puts = absurd puts
one_put_out l s (Move f h slot generation) puts = absurd puts
one_put_out l s (Give_over f h) puts = absurd puts
one_put_out l s (Come_home token c) puts = absurd puts
one_put_out l s (Lose token c) puts = absurd puts
one_put_out l s (Adopt slot status) puts = absurd puts
one_put_out l s See_failed puts = absurd puts
one_put_out l s (Finish f h outcome) puts = absurd puts
one_put_out l s (Bring_in slot generation) puts = absurd puts
one_put_out l s Release puts = absurd puts
one_put_out l s (Skip_turn task row) puts = absurd puts
one_put_out l s (Hand_command token c) puts = absurd puts
one_put_out l s (Hand_call call rest) puts = absurd puts
one_put_out l s (Hear call answer) puts = absurd puts
one_put_out l s (Hand_reply id op reply) puts = absurd puts

leads_put_out : (l : Layout) (n : ℕ) (old new : Shard) (changes : List Change) → Leads l n PutsOut old changes new → KeepsOrGives old new
leads_put_out l n old new [] same = inl (ap (λ (x : Shard). x.command) same)
leads_put_out l n old new (change ∷ changes) leads = elim (one_put_out l old change leads.0) [
  | inr more ↦ let behind = leads_tokens l n PutsOut (after l old change) new changes leads.2 in inr (omega (arith, more, behind))
  | inl same ↦ elim (leads_put_out l n (after l old change) new changes leads.2) [
    | inl rest ↦ inl (rest ∙ same)
    | inr more ↦ let first = no_token_back l old change in inr (omega (arith, more, first))
  ]
]

pub keeps_or_gives : (l : Layout) (n : ℕ) (old new : Shard) → Through l n PutsOut old new → (new.command ≡ old.command) ⊎ (old.tokens < new.tokens)
keeps_or_gives l n old new through = leads_put_out l n old new through.0 through.1
