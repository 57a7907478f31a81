-- What the shards of an array told once they had ended.
use Rattle.std.proofs.Common.{◌≡◌, ◌∙◌, ℕ, ◌+◌, ◌≤◌, ◌++◌, List, [], ◌∷◌, All, length, map, count_by, inl, inr, refl, sym, ap, arith, Option, Some, None, option_map, slice_get, slice_index_or, sum_by, append-nil}
use Rattle.std.specs.List.{AllZip, cons_option, filter_map}
use Rattle.std.specs.List.Sorted.{IsPermutation}
use Rattle.std.proofs.lemmas.List.{length-append, length-map}
use Rattle.std.proofs.lemmas.List.Sorted.{length_permutation, sum_by-IsPermutation}
use Rattle.std.proofs.lemmas.List.Sums.{sum_by-cons}
use Rattle.std.proofs.lemmas.Option.{get_or_from_slice_get, slice_get-map, slice_get_within}
use Rattle.r6_dev.specs.History.{Telling}
use Rattle.r6_layout.specs.Shape.{Shape, IsShape}
use Rattle.r6_world.specs.PlainArray as world
use Rattle.r6_world.specs.Registers.{Snapshot}
use Rattle.r6_core.specs.declared.refusal.Refusal.{Refusal}
use Rattle.r6_core.specs.Shards.{CoreView}
use Rattle.r6_engine.specs.lists.Events.{Event, Task, numbers_of, tasks_of, task_at}
use Rattle.r6_shard.specs.declared.ledger.Asked.{Asked}
use Rattle.r6_shard.specs.declared.ledger.Asking.{Asking}
use Rattle.r6_shard.specs.declared.ledger.Entry.{Entry}
use Rattle.r6_shard.specs.declared.parts.Parts.{Parts}
use Rattle.r6_shard.specs.Courses.{AreOf, IsOf}
use Rattle.r6_shard.specs.Runs.{AreServed}
use Rattle.r6_shard.specs.declared.performs.Performs.{Ghosts}
use Rattle.r6_engine.specs.declared.feed.answer.EventAnswer.{EventAnswer}
use Rattle.r6_engine.specs.feed.Events.{brings_device}
use Rattle.r6_engine.specs.feed.Feeds.{asked_before, asked_in}
use Rattle.r6_engine.specs.declared.runner.runner.Handed.{Handed}
use Rattle.r6_engine.specs.runner.Parts.{labels_in}
use Rattle.r6_engine.specs.runner.Runners.{IsOver}
use Rattle.r6_shard.specs.Parts.{label_of, labels_of}
use Rattle.r6_engine.specs.declared.runner.runner.Runner.{Runner}
use Rattle.r6_engine.specs.runner.Tasks.{due_requests, handed_of, parts_in, request_in, requests_in, slot_of}
use Rattle.r6_engine.specs.declared.handback.PageRoom.{PageRoom}
use Rattle.r6_engine.specs.declared.ledger.Ledger.{Ledger}
use Rattle.r6_engine.specs.Answered.{AreReplies}
use Rattle.r6_engine.specs.Ledgers.{FitsPage, IsLedgerOf}
use Rattle.r6_engine.specs.Replies.{replies_of}
use Rattle.r6_engine.specs.ServedArrays.{HasNoMore}
use Rattle.r6_engine.specs.Serves.{HasServed, HaveServed}
use Rattle.r6_engine.proofs.NewParts.{parts-counted}
use Rattle.r6_engine.proofs.EachShard.{all_passed, here_at}
use Rattle.r6_engine.proofs.Known.{is_of}
use Rattle.r6_engine.proofs.Replied.{HasAsked, IsLinked, are-replies, there-at}
use Rattle.r6_engine.proofs.Says.{HasSaid}

sum-of-map : {X Y : Type 0} (f : Y → ℕ) (g : X → Y) (xs : List X) → sum_by f (map g xs) ≡ sum_by (λ x. f (g x)) xs
sum-of-map f g [] = refl
sum-of-map f g (x ∷ xs) =
    sum_by-cons f (g x) (map g xs) ∙ ap (λ n. f (g x) + n) (sum-of-map f g xs) ∙ sym (sum_by-cons (λ y. f (g y)) x xs)

entered : (event : ℕ) (asked : List Asked) (entries : List Entry)
    → IsPermutation {X = ℕ × ℕ} (map (λ (a : Asked). (a.event, a.block)) asked) (map (λ (e : Entry). (e.event, e.block)) entries)
    → sum_by (λ (e : Entry). is_of event e.event) entries ≡ sum_by (λ (a : Asked). is_of event a.event) asked
entered event asked entries permuted =
    sym (sum-of-map (λ (p : ℕ × ℕ). is_of event p.0) (λ (e : Entry). (e.event, e.block)) entries)
    ∙ sum_by-IsPermutation (λ (p : ℕ × ℕ). is_of event p.0) (map (λ (a : Asked). (a.event, a.block)) asked)
    (map (λ (e : Entry). (e.event, e.block)) entries) permuted
    ∙ sum-of-map (λ (p : ℕ × ℕ). is_of event p.0) (λ (a : Asked). (a.event, a.block)) asked

has-asked : (asked : List Asked) (e : Entry) → IsOf asked e → HasAsked asked e
has-asked asked e is =
    let there = there-at asked e.id.0 is.0 in (
      there.0,
      there.1,
      sym (get_or_from_slice_get (map (λ (a : Asked). a.event) asked) e.id.0 there.0.event 0
          (slice_get-map (λ (a : Asked). a.event) asked e.id.0 ∙ ap (option_map (λ (a : Asked). a.event)) there.1))
          ∙ is.1,
    )

pub linked : (asked : List Asked) (entries : List Entry) → AreOf asked entries → IsLinked asked entries
linked asked entries all k d below = has-asked asked (slice_index_or entries k d) (all k d below)

-- ---- how much a shard tells

served-long : (core : CoreView) (begun : List Asking) (asked : List Asked) (ops : List world.Op) (refused : List (ℕ × Refusal))
    → AreServed core begun asked ops refused → length asked ≤ length begun
served-long core [] asked ops refused x = let none = ap length x.0 in omega (arith, none)
served-long core (g ∷ begun) asked ops refused x = elim x [
  | inl p ↦
      let rest = served-long core begun p.1 p.2 refused p.8 in
      let both = ap length p.3 in omega (arith, rest, both)
  | inr p ↦ let rest = served-long core begun asked ops p.1 p.5 in omega (arith, rest)
]

pub picked-long : {A : Type 0} (pick : ℕ → Option A) (numbers : List ℕ) → length (filter_map pick numbers) ≤ length numbers
picked-long pick [] = omega arith
picked-long {A = A} pick (n ∷ numbers) = by (pick n) (filter_map pick numbers) (picked-long pick numbers)
  where
    by : (o : Option A) (rest : List A) → length rest ≤ length numbers → length (cons_option o rest) ≤ length (n ∷ numbers)
    by None rest less = omega (arith, less)
    by (Some a) rest less = omega (arith, less)

-- ---- one shard

module _ {P D : Type 0} {g : Ghosts P} (told : D → Telling) (shape : Shape) (events : List Event) (start : Snapshot) (window : ℕ) (own : Parts D)
    (shard : ℕ) (r : Runner P D g) (x : HasServed told shape events start window own shard r) where
  pub begun-all : requests_in shape shard events (numbers_of (tasks_of shape shard events)) ≡ x.done.begun
  begun-all =
      x.done.requests ∙ ap (λ due. x.done.begun ++ due_requests due) x.over.none_due ∙ append-nil x.done.begun

  pub has-said : HasSaid shape shard events r
  has-said = record {
    begun = x.done.begun;
    ops = x.done.ops;
    requests = begun-all;
    served = x.done.served;
    passes = all_passed told shape events start window own shard r x;
    entered = λ event. entered event r.shard.asked.items r.shard.entries.items x.over.rests.each.requests;
  }

  pub fits-page : (room : PageRoom) → length (tasks_of shape shard events) ≤ room.entries → room.slots ≡ shape.slots
      → (g.performer r.shard.parts).part_room ≤ room.parts → length own.parts.items + count_by brings_device events ≤ room.parts → FitsPage room r
  fits-page room less slots parts-room fits =
      let numbers = numbers_of (tasks_of shape shard events) in
      let answered = x.over.rests.answered in
      let asked = served-long r.shard.core x.done.begun r.shard.asked.items x.done.ops r.refused.items x.done.served in
      let begun = ap length begun-all in
      let picked = picked-long (λ number. Rattle.std.proofs.Common.option_and_then (λ (t : Task). request_in number t.duty) (task_at shape shard events number)) numbers in
      let count = length-map (tasks_of shape shard events) (λ (t : Task). t.number) in
      let labels = (g.performer r.shard.parts).labels in
      let whole = length_permutation (labels_of own.parts.items ++ labels_in r.handed.items) (labels ++ labels_of r.others.items) x.all in
      let first = length-append (labels_of own.parts.items) (labels_in r.handed.items) in
      let last = length-append labels (labels_of r.others.items) in
      let own-long = length-map own.parts.items label_of in
      let others-long = length-map r.others.items label_of in
      let handed-long = length-map {B = ℕ × ℕ} r.handed.items (λ (h : Handed). (h.slot, h.generation)) in
      let came = ap length x.done.parts in
      let came-long = length-map (parts_in shape shard events numbers) slot_of in
      let handed-again = length-map r.handed.items handed_of in
      let counted = parts-counted shape events shard in
      record {
        told = omega (arith, answered, asked, begun, picked, count, less);
        shape = slots ∙ sym (ap (λ (s : Shape). s.slots) x.done.shape_is);
        parts = parts-room;
        all = omega (arith, whole, first, last, own-long, others-long, handed-long, came, came-long, handed-again, counted, fits);
      }

-- ---- all shards

module _ {P D : Type 0} {g : Ghosts P} (told : D → Telling) (shape : Shape) (lawful : IsShape shape) (events : List Event) (start : Snapshot) (window : ℕ)
    (parts : List (Parts D)) (runners : List (Runner P D g)) (whole : length parts ≡ shape.shards)
    (x : HaveServed told shape events start window parts runners) where
  has-parts : (shard : ℕ) (r : Runner P D g) → slice_get runners shard ≡ Some r → (own : Parts D) × (slice_get parts shard ≡ Some own)
  has-parts shard r there =
      let below = slice_get_within runners shard r there in
      let many = x.as_many in there-at parts shard (omega (arith, below, many))

  has-served : (shard : ℕ) (r : Runner P D g) (there : slice_get runners shard ≡ Some r)
      → HasServed told shape events start window (has-parts shard r there).0 shard r
  has-served shard r there = let own = has-parts shard r there in x.each shard own.0 r own.1 there

  pub all-reply : (answers : List EventAnswer) (ledgers : List Ledger) → map asked_in answers ≡ asked_before shape events (length events)
      → AllZip IsLedgerOf runners ledgers → AreReplies shape events ledgers (replies_of (length events) runners answers)
  all-reply answers ledgers asked tied =
      are-replies shape lawful events runners answers ledgers
      (λ shard r there. has-said told shape events start window (has-parts shard r there).0 shard r (has-served shard r there))
      asked (x.as_many ∙ whole) tied
      (λ shard r there. (has-served shard r there).refused)
      (λ shard r there. (has-served shard r there).right)
      (λ shard r there. linked r.shard.asked.items r.shard.entries.items (has-served shard r there).over.rests.each.linked)
      (λ shard r there. (has-served shard r there).done.place)
      (λ shard r there. (has-served shard r there).done.shape_is)
      (λ shard r there. (has-served shard r there).classed)

  pub all-over : All IsOver runners
  all-over k d below = let r = slice_index_or runners k d in (has-served k r (here_at runners k d below)).over

  pub all-fit : (room : PageRoom) → HasNoMore shape events room.entries → room.slots ≡ shape.slots
      → ((shard : ℕ) (own : Parts D) (r : Runner P D g) → slice_get parts shard ≡ Some own → slice_get runners shard ≡ Some r
      → ((g.performer r.shard.parts).part_room ≤ room.parts) × (length own.parts.items + count_by brings_device events ≤ room.parts))
      → All (FitsPage room) runners
  all-fit room none slots fits k d below =
      let r = slice_index_or runners k d in
      let there = here_at runners k d below in
      let own = has-parts k r there in
      let fit = fits k own.0 r own.1 there in
      let many = x.as_many in
      fits-page told shape events start window own.0 k r (has-served k r there) room (none k (omega (arith, below, many, whole))) slots fit.0 fit.1
