use Rattle.std.proofs.Common.{◌∙◌, ap, length, subst, sym}
use Rattle.std.proofs.lemmas.List.{length-map}
use Rattle.r6_health.specs.Histories.{start_losing}
use Rattle.r6_health.specs.Registers.{starting}
use Rattle.r6_engine.specs.Openings.{caller_of}
use Rattle.r6_engine.specs.feed.Events.{events_of}
use Rattle.r6_engine.specs.Crews.{HaveCrews}
use Rattle.r6_engine.specs.ServedArrays.{HasServedArray}
use Rattle.r6_engine.specs.Stops.{is_steady}
use Rattle.r6_engine.proofs.served.serve.Goals as goal

pub serve_at-requires-clause-crews : goal.serve_at-requires-clause-crews
serve_at-requires-clause-crews g c κs within =
    let told = g.D.BlockDevice.told in
    subst (λ ss. HaveCrews told g.D.BlockDevice.promised c.args.config.workers (events_of told c.args.events.items) ss c.in_ok-made.made.crews.items)
    (sym c.deref-2.ensures.value)
    (subst (λ all. HaveCrews told g.D.BlockDevice.promised c.args.config.workers (events_of told all) c.in_ok-made.made.sites.items
    c.in_ok-made.made.crews.items) c.deref.ensures.value c.in_ok-made.ensures.crews)

pub serve_at-requires-clause-as_many : goal.serve_at-requires-clause-as_many
serve_at-requires-clause-as_many g c κs within =
    sym (length-map c.in_ok-made.made.crews.items (λ crew. crew.parts)) ∙ ap length c.in_ok-made.ensures.parts ∙ c.requires.parts

pub returns-clause-served : goal.returns-clause-served
returns-clause-served g c =
    let shape = c.args.config.geometry in
    subst (λ parts. HasServedArray g.D.BlockDevice.told g.D.BlockDevice.promised
    (is_steady c.args.config.stop c.args.config.workers) shape c.args.events.items (starting c.args.config.lost)
    (caller_of (start_losing shape.slots shape.shards c.args.config.lost)) parts c.in_ok-served.served) c.in_ok-made.ensures.parts
    c.in_ok-served.ensures.served
