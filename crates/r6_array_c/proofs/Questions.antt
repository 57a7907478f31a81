-- What is told of a shard's count, room and next row is so of the one shard that has the number.
use Rattle.std.specs.Ptr.{Ptr}
use Rattle.std.proofs.Common.{◌≡◌, ◌≤◌, ◌∙◌, ℕ, length, Option, Some, None, MatchOption, sym, subst, arith}
use Rattle.std.proofs.lemmas.Option.{same_Some, none-some, slice_get_past}
use Rattle.r6_layout.specs.Shape.{blocks}
use Rattle.r6_core.specs.Shards.{CoreView, world_shard}
use Rattle.r6_core.specs.declared.turn.Task.{Task}
use Rattle.r6_world.specs.ShardStates as shards
use Rattle.r6_array.specs.Arrays.{ShardView, ArrayView, Has}
use Rattle.r6_array.specs.Effects.{shard_of_block}
use Rattle.r6_array.specs.Handles.{HandleView, core_in}
use Rattle.r6_array_c.specs.Numbers.{no_such, count_told}
use Rattle.r6_array_c.specs.Questions.{Answers, TellsNumber, TellsCount, TellsCountOf, TellsRoom, TellsNextRow, HandleTellsNextRow, IsRoomOf, IsNextRow, HasNoNextRow}
use Rattle.r6_array_c.specs.declared.handle.Mail.{Mail}

-- past the last shard there is none
pub no_shard : (a : ArrayView) (n : ℕ) (s : ShardView) → length a.shards ≤ n → Has a n s → ⊥
no_shard a n s beyond has = none-some s (sym (slice_get_past a.shards n beyond) ∙ has)

-- ---- counts

pub tells_count : (core : CoreView) (which answer : ℕ) (mail : Mail) (number : Option ℕ) (counts : shards.Counts) → number ≡ count_told counts which → counts ≡ (world_shard core).counts → TellsNumber number answer mail → TellsCount core which answer mail
tells_count core which answer mail number counts is same told =
    subst (λ c. TellsNumber (count_told c which) answer mail) same (subst (λ n. TellsNumber n answer mail) is told)

pub tells_count_of : (a : ArrayView) (shard which answer : ℕ) (mail : Mail) (s : ShardView) → Has a shard s → TellsCount s.core which answer mail → TellsCountOf a shard which answer mail
tells_count_of a shard which answer mail s has told =
    record {
      count = λ t also. subst (λ u. TellsCount u.core which answer mail) (same_Some s t (sym has ∙ also)) told;
      none = λ beyond. absurd (no_shard a shard s beyond has);
    }

pub tells_no_count : (a : ArrayView) (shard which answer : ℕ) (mail : Mail) → length a.shards ≤ shard → answer ≡ no_such → TellsCountOf a shard which answer mail
tells_no_count a shard which answer mail beyond told =
    record { count = λ t has. absurd (no_shard a shard t beyond has); none = λ _. told }

-- ---- room

pub tells_room : (a : ArrayView) (block answer : ℕ) (mail : Mail) (room : ℕ) → (s : ShardView) × Has a (shard_of_block a.shape block) s × IsRoomOf s.core room → TellsNumber (Some room) answer mail → TellsRoom a block answer mail
tells_room a block answer mail room x told =
    record {
      room = λ _. (told.0, x.0, x.1, subst (λ n. IsRoomOf x.0.core n) (sym told.1) x.2);
      none = λ ne. absurd (ne told.0);
    }

pub tells_no_room : (a : ArrayView) (block answer : ℕ) (mail : Mail) → blocks a.shape ≤ block → answer ≡ no_such → TellsRoom a block answer mail
tells_no_room a block answer mail beyond told =
    record { room = λ below. absurd (omega (arith, below, beyond)); none = λ _. (told, beyond) }

-- ---- rows

-- the row that a task takes up next in a shard of an array, if there is one
abbrev pub RowOf : (a : ArrayView) (shard slot : ℕ) → Option Task → Option ℕ → Type 0
RowOf a shard slot task row =
    MatchOption row
    ((s : ShardView) → Has a shard s → HasNoNextRow s.core task slot)
    (λ r. (s : ShardView) × Has a shard s × IsNextRow s.core task slot r)

pub row_of_task : (a : ArrayView) (shard slot : ℕ) (task asked : Option Task) (row : Option ℕ) → asked ≡ task → RowOf a shard slot task row → RowOf a shard slot asked row
row_of_task a shard slot task asked row same x = subst (λ t. RowOf a shard slot t row) (sym same) x

pub row_of_shard : (a : ArrayView) (shard slot : ℕ) (task : Option Task) (row : Option ℕ) → MatchOption row (length a.shards ≤ shard) (λ r. (s : ShardView) × Has a shard s × IsNextRow s.core task slot r) → RowOf a shard slot task row
row_of_shard a shard slot task None beyond = λ s has. absurd (no_shard a shard s beyond has)
row_of_shard a shard slot task (Some r) x = x

pub tells_row : (a : ArrayView) (shard slot : ℕ) (task asked : Option Task) (answer : ℕ) (mail : Mail) (row : ℕ) → asked ≡ task → (s : ShardView) × Has a shard s × IsNextRow s.core asked slot row → TellsNumber (Some row) answer mail → TellsNextRow a shard slot task answer mail
tells_row a shard slot task asked answer mail row same x told =
    record {
      row = λ _. (x.0, x.1, subst (λ t. IsNextRow x.0.core t slot mail.number) same (subst (λ n. IsNextRow x.0.core asked slot n) (sym told.1) x.2));
      none = λ ne. absurd (ne told.0);
    }

pub tells_no_row : (a : ArrayView) (shard slot : ℕ) (task asked : Option Task) (answer : ℕ) (mail : Mail) → asked ≡ task → ((s : ShardView) → Has a shard s → HasNoNextRow s.core asked slot) → answer ≡ no_such → TellsNextRow a shard slot task answer mail
tells_no_row a shard slot task asked answer mail same x told =
    record {
      row = λ e. absurd (omega (arith, e, told));
      none = λ _. (told, λ s has. subst (λ t. HasNoNextRow s.core t slot) same (x s has));
    }

pub handle_tells_row : (h : HandleView) (slot : ℕ) (task asked : Option Task) (answer : ℕ) (mail : Mail) (row : ℕ) → asked ≡ task → IsNextRow (core_in h) asked slot row → TellsNumber (Some row) answer mail → HandleTellsNextRow h slot task answer mail
handle_tells_row h slot task asked answer mail row same x told =
    record {
      row = λ _. subst (λ t. IsNextRow (core_in h) t slot mail.number) same (subst (λ n. IsNextRow (core_in h) asked slot n) (sym told.1) x);
      none = λ ne. absurd (ne told.0);
    }

pub handle_tells_no_row : (h : HandleView) (slot : ℕ) (task asked : Option Task) (answer : ℕ) (mail : Mail) → asked ≡ task → HasNoNextRow (core_in h) asked slot → answer ≡ no_such → HandleTellsNextRow h slot task answer mail
handle_tells_no_row h slot task asked answer mail same x told =
    record {
      row = λ e. absurd (omega (arith, e, told));
      none = λ _. (told, subst (λ t. HasNoNextRow (core_in h) t slot) same x);
    }

-- ---- the mail

-- what a question tells stands there also once the mail tells where the stage is
pub answers_staged : (asked : Mail) (a : ArrayView) (answer : ℕ) (mail : Mail) (stage : Ptr) → Answers asked a answer mail → Answers asked a answer (record mail { stage = stage })
answers_staged asked a answer mail stage x =
    record {
      slot = λ e. let t = x.slot e in record { state = t.state; none = t.none };
      count = λ e. let t = x.count e in record { count = t.count; none = t.none };
      room = λ e. let t = x.room e in record { room = t.room; none = t.none };
      at_work = λ e. let t = x.at_work e in record { count = t.count; none = t.none };
      rows = λ e. let t = x.rows e in record { rows = t.rows; none = t.none };
      next_row = λ e. let t = x.next_row e in record { row = t.row; none = t.none };
      blocks = x.blocks;
      other = x.other;
    }
