-- How many parts of new devices a shard is handed.
use Rattle.std.proofs.Common.{◌≡◌, ℕ, zero, suc, ◌+◌, ◌≤◌, List, [], ◌∷◌, ◌++◌, take, count_by, length, Bool, true, false, Option, Some, None, option_map, slice_get, slice_index_or, if◌then◌else◌, refl, sym, ap, ◌∙◌, arith}
use Rattle.std.specs.List.{cons_option}
use Rattle.std.proofs.Math.Seq.{take-length}
use Rattle.std.proofs.lemmas.List.{append-nil, map-append}
use Rattle.std.proofs.lemmas.Option.{slice_get-get_or}
use Rattle.r6_layout.specs.Shape.{Shape}
use Rattle.r6_world.specs.PlainArray.{block_of}
use Rattle.r6_world.specs.declared.values.Op.{Op}
use Rattle.r6_world.specs.Values.{op_of}
use Rattle.r6_engine.specs.lists.Events.{Event, Request, Bring, Fail, Check, Repair, Wait, Duty, Serves, Takes_up, Checks, Repairs, Task, task, task_at, duty_of, is_block_of, waits_before, numbers_of}
use Rattle.r6_engine.specs.feed.Events.{brings_device}
use Rattle.r6_engine.specs.feed.Feeds.{tasks_before}
use Rattle.r6_engine.proofs.FeedLemmas.Counts.{device_counted}
use Rattle.r6_engine.proofs.FeedLemmas.Putting.{task_is, tasks_more}
use Rattle.r6_engine.specs.runner.Parts.{all_parts}
use Rattle.r6_engine.specs.runner.Tasks.{NewPart, parts_in}
use Rattle.r6_engine.proofs.RunnerLemmas.Coming.{none-more, one-more}

abbrev brings : Option Duty → Bool
brings None = false
brings (Some (Takes_up slot telling)) = true
brings (Some duty) = false

abbrev one-if : Bool → ℕ
one-if true = 1
one-if false = 0

brings-none : (here : Bool) (op : Op) → brings (if here then Some (Serves op) else None) ≡ false
brings-none true op = refl
brings-none false op = refl

brings-is : (shape : Shape) (shard : ℕ) (event : Event) → brings (duty_of shape shard event) ≡ brings_device event
brings-is shape shard (Request op) = brings-none (is_block_of shape shard (block_of (op_of op))) op
brings-is shape shard (Bring how slot part) = refl
brings-is shape shard (Fail slot) = refl
brings-is shape shard Check = refl
brings-is shape shard Repair = refl
brings-is shape shard Wait = refl

module _ (shape : Shape) (events : List Event) (shard : ℕ) where
  added : (numbers : List ℕ) (k waits : ℕ) (duty : Duty) → task_at shape shard events k ≡ Some (task k waits duty)
      → length (parts_in shape shard events (numbers ++ k ∷ []))
      ≡ length (parts_in shape shard events numbers) + one-if (brings (Some duty))
  added numbers k waits (Serves op) at = let same = none-more shape events shard numbers k waits (Serves op) at refl in omega (arith, same)
  added numbers k waits (Takes_up slot telling) at = one-more shape events shard numbers k waits (Takes_up slot telling) _ at refl
  added numbers k waits Checks at = let same = none-more shape events shard numbers k waits Checks at refl in omega (arith, same)
  added numbers k waits Repairs at = let same = none-more shape events shard numbers k waits Repairs at refl in omega (arith, same)

  -- those that the tasks of the events before this number bring
  abbrev parts-before : (number : ℕ) → List NewPart
  parts-before number = parts_in shape shard events (numbers_of (tasks_before shape shard events number))

  more-parts : (k waits : ℕ) (duty : Option Duty) → task_at shape shard events k ≡ option_map (task k waits) duty
      → length (parts-before (k + 1)) ≡ length (parts-before k) + one-if (brings duty)
  more-parts k waits None at =
      let before = tasks_before shape shard events k in
      let same = ap (λ ts. length (parts_in shape shard events (numbers_of ts)))
      (tasks_more shape shard events k ∙ ap (λ o. before ++ cons_option o []) at ∙ append-nil before) in
      omega (arith, same)
  more-parts k waits (Some duty) at =
      let before = tasks_before shape shard events k in
      ap (λ ns. length (parts_in shape shard events ns))
      (ap numbers_of (tasks_more shape shard events k ∙ ap (λ o. before ++ cons_option o []) at)
      ∙ map-append (λ (t : Task). t.number) before (task k waits duty ∷ []))
      ∙ added (numbers_of before) k waits duty at

  counted : (k : ℕ) → k ≤ length events → length (parts-before k) ≡ count_by brings_device (take k events)
  counted zero within = refl
  counted (suc k) within =
      let event = slice_index_or events k Wait in
      let at : slice_get events k ≡ Some event = slice_get-get_or events k Wait (omega (arith, within)) in
      let next : k + 1 ≡ suc k = omega arith in
      ap (λ n. length (parts-before n)) (sym next)
      ∙ more-parts k (waits_before events k) (duty_of shape shard event) (task_is shape shard events k event (duty_of shape shard event) at refl)
      ∙ ap (λ b. length (parts-before k) + one-if b) (brings-is shape shard event)
      ∙ device_counted events k event (brings_device event) at refl (length (parts-before k)) (one-if (brings_device event))
      (counted k (omega (arith, within))) (λ is. ap one-if is) (λ is. ap one-if is)
      ∙ ap (λ n. count_by brings_device (take n events)) next

  pub parts-counted : length (all_parts shape events shard) ≡ count_by brings_device events
  parts-counted = counted (length events) (omega arith) ∙ ap (count_by brings_device) (take-length events)
