-- Checks and repairs of every row, as events.
use Rattle.std.proofs.Common.{◌≡◌, ℕ, true, Some, None, refl}
use Rattle.r6_layout.specs.Shape.{Shape}
use Rattle.r6_engine.specs.lists.Events.{Duty, Checks, Repairs, duty_of, is_passing}
use Rattle.r6_engine.specs.declared.feed.handing.ScrubKind.{ScrubKind}
use Rattle.r6_engine.specs.declared.feed.handing.ScrubKind.TheVariants as scrub
use Rattle.r6_engine.specs.feed.Events.{event_of_scrub}
use Rattle.r6_engine.specs.feed.Feeds.{asking_of}

abbrev pub duty_of_scrub : ScrubKind → Duty
duty_of_scrub scrub.Check = Checks
duty_of_scrub scrub.Repair = Repairs

pub handed_to_all : (shape : Shape) (shard : ℕ) (p : ScrubKind) → duty_of shape shard (event_of_scrub p) ≡ Some (duty_of_scrub p)
handed_to_all shape shard scrub.Check = refl
handed_to_all shape shard scrub.Repair = refl

pub passes_over : (p : ScrubKind) → is_passing (event_of_scrub p) ≡ true
passes_over scrub.Check = refl
passes_over scrub.Repair = refl

pub answered_by_shards : (shape : Shape) (p : ScrubKind) → asking_of shape (event_of_scrub p) ≡ None
answered_by_shards shape scrub.Check = refl
answered_by_shards shape scrub.Repair = refl
