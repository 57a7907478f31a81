-- Workers that stop, as they are made.
use Rattle.std.proofs.Common.{◌≡◌, ◌∙◌, ℕ, ◌<◌, List, length, ap, slice_index_or, sym, Option}
use Rattle.std.specs.List.{AllZip}
use Rattle.std.specs.Prelude.{◌%◌}
use Rattle.std.proofs.lemmas.Option.{get_or_from_slice_get, slice_get_within}
use Rattle.r6_dev.specs.History.{Telling}
use Rattle.r6_dev.specs.Promises.{Promise}
use Rattle.r6_engine.specs.declared.crew.Crew.{Crew}
use Rattle.r6_engine.specs.declared.crew.Site.{Site}
use Rattle.r6_engine.specs.declared.serving.Stop.{Stop}
use Rattle.r6_engine.specs.remote.Remotes.{goes_on}
use Rattle.r6_engine.specs.Crews.{IsCrew}
use Rattle.r6_engine.specs.Stops.{AreSteady, is_steady, stopping_in}
use Rattle.r6_engine.proofs.Crews.{ends-long}
use Rattle.r6_engine.proofs.EachShard.{partner_at}

-- each crew has the worker of its shard that stops
abbrev pub HaveStops : {D : Type 0} → Option Stop → List (Crew D) → Type 0
HaveStops {D = D} stop crews = (k : ℕ) (d : Crew D) → k < length crews → (slice_index_or crews k d).stop ≡ stopping_in stop k

pub are-steady : {D : Type 0} (told : D → Telling) (promised : D → Promise) (stop : Option Stop) (workers : ℕ) (sites : List (Site D)) (crews : List (Crew D))
    → AllZip (IsCrew told promised workers) sites crews → HaveStops stop crews → AreSteady (is_steady stop workers) crews
are-steady told promised stop workers sites crews each stops shard slot crew at steady =
    let one = partner_at (IsCrew told promised workers) sites crews shard crew each at in
    let long = ends-long told promised one.0.exchanges.items crew.ends.items one.2.ends ∙ one.2.as_many in
    let own = ap (λ (c : Crew _). c.stop) (sym (get_or_from_slice_get crews shard crew crew at)) ∙ stops shard crew (slice_get_within crews shard crew at) in
    ap (λ n. goes_on crew.stop (slot % n)) long ∙ ap (λ s. goes_on s (slot % workers)) own ∙ steady
