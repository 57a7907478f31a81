use Rattle.std.proofs.Common.{List, [], ◌∷◌, ◌++◌, ◌<◌, ◌≤◌, length, get_or, refl, ap, subst, ◌∙◌}
use Rattle.std.proofs.KnownBytes.{Appends-nil, Appends-trans}
use Rattle.std.proofs.lemmas.List.{take_all}
use Rattle.r6_script.specs.declared.script.Event.{Event}
use Rattle.r6_script.specs.declared.script.Event.TheVariants.{Read}
use Rattle.r6_simulate.specs.Plays.{Course, ending_of}
use Rattle.r6_simulate.proofs.Courses.{one_more_taken}
use Rattle.r6_simulate.proofs.simulation.play_all.Goals as goal

pub loop-event-init : goal.loop-event-init
loop-event-init g c = ([], (refl, refl), Appends-nil _)

pub loop-event-preserved : goal.loop-event-preserved
loop-event-preserved g c =
    let i = c.loop-event.invariant in
    let p = c.in_ok-play_and_print.ensures in (
      i.0 ++ (p.line ++ 10 ∷ []),
      one_more_taken _ _ _ c.args.script.now.events.items c.loop-event.event-index _ (Read 0) i.0 p.line
          (subst (λ events. c.loop-event.event-index < length events) c.deref-event-items.ensures.value c.loop-event-test.true) i.1 p.plays
          (ap (λ (events : List Event). get_or events c.loop-event.event-index (Read 0)) c.deref-event-items.ensures.value),
      Appends-trans _ _ _ _ _ i.2 p.writes,
    )

pub returns : goal.returns
returns g c =
    let i = c.loop-event.invariant in
    record {
      first = c.args.simulation.now;
      begins = c.requires;
      last = c.loop-event.simulation;
      lines = i.0;
      course = subst (λ events. Course c.args.simulation.now events i.0 c.loop-event.simulation)
          (take_all c.loop-event.event-index c.args.script.now.events.items (subst (λ events. length events ≤ c.loop-event.event-index) c.deref-event-items.ensures.value c.loop-event-test.false)) i.1;
      ends = record {
        register = c.read.new.self;
        read = c.read.ensures.looks;
        ending_is = c.of.ensures ∙ ap ending_of c.read.ensures.held;
      };
      writes = Appends-trans _ _ _ _ _ c.in_ok-print.ensures.written i.2;
    }
