use Rattle.std.proofs.Common.{◌≡◌, ℕ, List, Option, Some, refl, sym, subst, ◌∙◌}
use Rattle.std.specs.Prelude.{MatchOption}
use Rattle.r6_frames.specs.declared.directs.Direct.{Direct}
use Rattle.r6_frames.specs.declared.directs.DirectRead.{DirectRead}
use Rattle.r6_world.specs.declared.values.Request.{Request}
use Rattle.r6_frames.specs.Inside.{view_of}
use Rattle.r6_frames.specs.FramesState.{FramesState}
use Rattle.r6_frames.specs.Directs.{read_request}
use Rattle.r6_frames.specs.Reads.{HandsBack, IsFirstStopped, NoneStopped}
use Rattle.r6_frames.specs.Sound.{IsSound}
use Rattle.r6_frames.proofs.DirectCommands.{back_sound}
use Rattle.r6_frames.proofs.DirectSteps.{hands_back}
use Rattle.r6_frames.proofs.DirectUses.{fewer_readers}
use Rattle.r6_frames.proofs.FirstStopped.{read_within}
use Rattle.r6_frames.proofs.frames.Frames.hand_back.Goals.{After-request}
use Rattle.r6_frames.proofs.frames.Frames.hand_back.Goals as goal

found : (old fs : FramesState) (number : ℕ) (told : Option ℕ) → fs ≡ old → told ≡ Some number → MatchOption told (NoneStopped old) (λ number. (r : DirectRead) × IsFirstStopped old number r)
    → (r : DirectRead) × IsFirstStopped fs number r
found old fs number told same is stopped =
    let Tells : Option ℕ → Type 0 = λ told. MatchOption told (NoneStopped old) (λ number. (r : DirectRead) × IsFirstStopped old number r) in
    subst (λ (fs : FramesState). (r : DirectRead) × IsFirstStopped fs number r) (sym same) (subst Tells is stopped)

-- the read that is taken is the first that has stopped
taken : (c : After-request) → IsFirstStopped (view_of c.self.inside) c.in_ok-number.number c.take_read-read.result
taken c =
    let fs = view_of c.self.inside in
    let first = found c.args.self.now fs c.in_ok-number.number c.first_stopped.result c.self.view_is c.in_ok-number.was c.first_stopped.ensures in
    let both : Some first.0 ≡ Some c.take_read-read.result = sym first.1.0.0 ∙ c.take_read-read.ensures.read in
    let same : first.0 ≡ c.take_read-read.result = cc in
    subst (IsFirstStopped fs c.in_ok-number.number) same first.1

pub returns-clause-sound : goal.returns-clause-sound
returns-clause-sound c =
    let fs = view_of c.self.inside in
    let first = taken c in
    subst (λ (ds : List Direct). IsSound (record fs { directs = ds })) (sym c.take_read-read.ensures.left)
    (back_sound fs c.in_ok-number.number c.take_read-read.result c.self.invariant.0 first.0.0 first.0.1 (read_within fs.directs c.in_ok-number.number c.take_read-read.result first.0.0))

pub returns-clause-back : goal.returns-clause-back
returns-clause-back c =
    rw (← c.self.view_is) (let fs = view_of c.self.inside in
    let first = taken c in
    subst (λ (request : Request). HandsBack fs request (record fs { directs = c.take_read-read.new.self })) (sym c.request.ensures)
    (subst (λ (ds : List Direct). HandsBack fs (read_request c.take_read-read.result) (record fs { directs = ds })) (sym c.take_read-read.ensures.left)
    (hands_back fs c.in_ok-number.number c.take_read-read.result c.self.invariant.0 first (read_within fs.directs c.in_ok-number.number c.take_read-read.result first.0.0))))

pub returns-clause-readers : goal.returns-clause-readers
returns-clause-readers c =
    rw (← c.self.view_is) (let fs = view_of c.self.inside in
    fewer_readers fs (record fs { directs = c.take_read-read.new.self }) c.in_ok-number.number _ refl c.take_read-read.ensures.left)

pub take_read-read-requires : goal.take_read-read-requires
take_read-read-requires c =
    let first = found c.args.self.now (view_of c.self.inside) c.in_ok-number.number c.first_stopped.result c.self.view_is c.in_ok-number.was c.first_stopped.ensures in
    (first.0, first.1.0.0)

pub invariant_of-self : goal.invariant_of-self
invariant_of-self c = (
  let fs = view_of c.self.inside in
      let first = taken c in
      subst (λ (ds : List Direct). IsSound (record fs { directs = ds })) (sym c.take_read-read.ensures.left)
      (back_sound fs c.in_ok-number.number c.take_read-read.result c.self.invariant.0 first.0.0 first.0.1 (read_within fs.directs c.in_ok-number.number c.take_read-read.result first.0.0)),
  c.self.invariant.1,
)

pub returns-clause-holds : goal.returns-clause-holds
returns-clause-holds c = rw (← c.self.view_is) refl

pub returns-clause-same : goal.returns-clause-same
returns-clause-same c = rw (← c.self.view_is) (refl, refl)

pub returns-clause-commands : goal.returns-clause-commands
returns-clause-commands c = rw (← c.self.view_is) (refl, refl)
