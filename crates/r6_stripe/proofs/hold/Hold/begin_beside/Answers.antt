use Rattle.std.proofs.Common.{◌≡◌, ◌<◌, length, sym, ap, subst, ◌∙◌, Some}
use Rattle.r6_stripe.specs.Frames.{Shape}
use Rattle.r6_stripe.specs.Masks.{flags_of}
use Rattle.r6_stripe.specs.RowViews.{IsRowHome}
use Rattle.r6_stripe.specs.Sound.{IsTask}
use Rattle.r6_stripe.specs.Steps.{begun_beside}
use Rattle.r6_stripe.specs.Views.{kind_of_task}
use Rattle.r6_stripe.specs.declared.whole.WholeState.{WholeState}
use Rattle.r6_stripe.proofs.hold.Hold.begin_beside.Goals.{After-deref_mut}
use Rattle.r6_stripe.proofs.hold.Hold.begin_beside.Goals as goal

-- the row of the frame
shape : (c : After-deref_mut) → ◌≡◌ {A = Shape} (record { count = length c.deref_mut.result.now.row.hold.places; size = c.deref_mut.result.now.row.hold.len }) c.args.frame
shape c = ap (λ (s : WholeState). record { count = length s.row.hold.places; size = s.row.hold.len }) c.deref_mut.ensures.value ∙ c.frame.view_is

pub begin_beside-requires : goal.begin_beside-requires
begin_beside-requires c =
    let is = sym (shape (goal.at.begin_beside-requires c).After-deref_mut) in
    record {
      home = subst (λ (w : WholeState). IsRowHome w.row) (sym c.deref_mut.ensures.value) c.frame.invariant;
      task = subst (λ (s : Shape). IsTask s.count s.size (Some c.args.task)) is c.requires.task;
      place = subst (λ (s : Shape). c.args.position < s.count) is c.requires.place;
      in_sync = c.requires.in_sync;
    }

pub invariant_of-result : goal.invariant_of-result
invariant_of-result c = c.begin_beside.ensures.sound

pub returns : goal.returns
returns c =
    c.begin_beside.ensures.held
    ∙ ap (λ (s : Shape). begun_beside s.size (flags_of s.count c.args.in_sync) (kind_of_task c.args.task) c.args.position) (shape (goal.at.returns c).After-deref_mut)
