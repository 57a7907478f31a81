-- What was asked and waited for, one event on.
use Rattle.std.proofs.Common.{◌≡◌, ℕ, suc, ◌+◌, ◌<◌, ◌≤◌, List, [], ◌∷◌, ◌++◌, length, map, filter_map, Option, Some, None, true, false, option_map, option_and_then, slice_get, sym, ◌∙◌, ap, arith}
use Rattle.std.specs.List.{range_with_len, cons_option}
use Rattle.std.proofs.lemmas.Option.{slice_get_within, get_or_from_slice_get}
use Rattle.std.proofs.lemmas.List.Elements.{filter_map-append}
use Rattle.std.proofs.lemmas.List.{append-nil, length-map, map-append}
use Rattle.std.proofs.lemmas.List.FromFn.{length-range_with_len}
use Rattle.std.proofs.lemmas.Grind.{flat_map-append}
use Rattle.std.proofs.lemmas.List.Sums.{count_by_more_no, count_by_more_yes}
use Rattle.r6_layout.specs.Shape.{Shape}
use Rattle.r6_engine.specs.lists.Events.{Event, is_passing, waits_before}
use Rattle.r6_engine.specs.declared.feed.answer.EventAnswer.{EventAnswer}
use Rattle.r6_engine.proofs.FeedLemmas.Counts.{few_kept}
use Rattle.r6_engine.proofs.FeedLemmas.Putting.{range_more}
use Rattle.r6_engine.specs.feed.Feeds.{Asking, asking_of, asking_at, asked_before, asked_in, calls_in, calls_of}

asked_more : (shape : Shape) (events : List Event) (number : ℕ)
    → asked_before shape events (number + 1)
    ≡ asked_before shape events number ++ cons_option (asking_at shape events number) []
asked_more shape events number =
    let more : number + 1 ≡ suc number = search arith in
    let here : 0 + number ≡ number = search arith in
    ap (asked_before shape events) more
    ∙ ap (filter_map (asking_at shape events)) (range_more 0 number)
    ∙ filter_map-append (asking_at shape events) (range_with_len 0 number) ((0 + number) ∷ [])
    ∙ ap (λ n. asked_before shape events number ++ filter_map (asking_at shape events) (n ∷ [])) here

asking_is : (shape : Shape) (events : List Event) (number : ℕ) (event : Event) (asking : Option Asking)
    → slice_get events number ≡ Some event → asking_of shape event ≡ asking
    → asking_at shape events number ≡ option_map (λ a. (number, a)) asking
asking_is shape events number event asking at is =
    ap (λ e. option_map (λ a. (number, a)) (option_and_then (asking_of shape) e)) at
    ∙ ap (option_map (λ a. (number, a))) is

-- the event asks for nothing that no shard answers
pub none_asked : (shape : Shape) (events : List Event) (number : ℕ) (event : Event)
    → slice_get events number ≡ Some event → asking_of shape event ≡ None
    → asked_before shape events (number + 1) ≡ asked_before shape events number
none_asked shape events number event at is =
    asked_more shape events number
    ∙ ap (λ a. asked_before shape events number ++ cons_option a []) (asking_is shape events number event None at is)
    ∙ append-nil (asked_before shape events number)

-- it does
pub one_asked : (shape : Shape) (events : List Event) (number : ℕ) (event : Event) (asking : Asking)
    → slice_get events number ≡ Some event → asking_of shape event ≡ Some asking
    → asked_before shape events (number + 1) ≡ asked_before shape events number ++ (number, asking) ∷ []
one_asked shape events number event asking at is =
    asked_more shape events number
    ∙ ap (λ a. asked_before shape events number ++ cons_option a []) (asking_is shape events number event (Some asking) at is)

-- a wait came, or none
pub no_wait : (events : List Event) (number : ℕ) (event : Event)
    → slice_get events number ≡ Some event → is_passing event ≡ false
    → waits_before events (number + 1) ≡ waits_before events number
no_wait events number event at is =
    count_by_more_no is_passing events number event (slice_get_within events number event at)
    (ap is_passing (get_or_from_slice_get events number event event at) ∙ is)

pub one_wait : (events : List Event) (number : ℕ) (event : Event)
    → slice_get events number ≡ Some event → is_passing event ≡ true
    → waits_before events (number + 1) ≡ waits_before events number + 1
one_wait events number event at is =
    count_by_more_yes is_passing events number event (slice_get_within events number event at)
    (ap is_passing (get_or_from_slice_get events number event event at) ∙ is)

-- ---- the answers that were given

-- there is room for an answer to each event
pub has_room : (shape : Shape) (events : List Event) (number : ℕ) (event : Event) (answers : List EventAnswer) (len capacity : ℕ)
    → map asked_in answers ≡ asked_before shape events number → slice_get events number ≡ Some event
    → length events ≤ capacity → len ≡ length answers → len < capacity
has_room shape events number event answers len capacity same at room whole =
    let within = slice_get_within events number event at in
    let few = few_kept (asking_at shape events) (range_with_len 0 number) in
    let long = length-range_with_len 0 number in
    let as-many : length answers ≡ length (asked_before shape events number) = sym (length-map answers asked_in) ∙ ap length same in
    omega (arith, within, few, long, as-many, room, whole)

-- one answer more
pub answered_more : (shape : Shape) (events : List Event) (number : ℕ) (event : Event) (asking : Asking) (answers : List EventAnswer)
    (answer : EventAnswer) → map asked_in answers ≡ asked_before shape events number → slice_get events number ≡ Some event
    → asking_of shape event ≡ Some asking → asked_in answer ≡ (number, asking)
    → map asked_in (answers ++ answer ∷ []) ≡ asked_before shape events (number + 1)
answered_more shape events number event asking answers answer same at asks is =
    map-append asked_in answers (answer ∷ [])
    ∙ ap (λ xs. xs ++ asked_in answer ∷ []) same
    ∙ ap (λ x. asked_before shape events number ++ x ∷ []) is
    ∙ sym (one_asked shape events number event asking at asks)

pub called_more : (answers : List EventAnswer) (answer : EventAnswer) → calls_of (answers ++ answer ∷ []) ≡ calls_of answers ++ calls_in answer.outcome
called_more answers answer =
    flat_map-append (λ g. calls_in g.outcome) answers (answer ∷ [])
    ∙ ap (λ calls. calls_of answers ++ calls) (append-nil (calls_in answer.outcome))

pub next_within : (events : List Event) (number : ℕ) (event : Event) → slice_get events number ≡ Some event
    → number + 1 ≤ length events
next_within events number event at = let within = slice_get_within events number event at in omega (arith, within)
