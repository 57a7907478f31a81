-- A course begins, and goes on by calls of the core alone.
use Rattle.std.proofs.Common.{◌≡◌, ℕ, ◌<◌, Bool, true, false, if◌then◌else◌, refl, sym, ap, subst, ◌∙◌, Option, Some, None}
use Rattle.std.proofs.lemmas.Bool.{true≢false}
use Rattle.r6_dev.specs.History.{Telling}
use Rattle.r6_layout.specs.PlainArray.{Block}
use Rattle.r6_world.specs.Layouts.{Layout, IsRowOf}
use Rattle.r6_world.specs.Registers.{Snapshot}
use Rattle.r6_world.specs.Tables.{put}
use Rattle.r6_world.specs.ShardStates.{Shard, Command}
use Rattle.r6_world.specs.Steps.{Event, Submit, Submit_all, Look, Turn_started, Turn_skipped, No_command, No_call, Take_reply, No_reply, Step}
use Rattle.r6_world.specs.Worlds.{World, Happening, Core, Moment, MayCome, happened, next, broken_by, flown}
use Rattle.r6_world.proofs.Tables.{put-same, None-not_Some}
use Rattle.r6_course.specs.Courses.{Start, first_world, marked, looked_by, Stand, Tells, AreInFlight, Follows}
use Rattle.r6_course.specs.Steps.{CoursesBegin, IsPlainCall, CallsGoOn}
use Rattle.r6_course.proofs.Reached.{begins, reach, begins-looked, begins-sees, reach-looked, reach-named, reach-left}

pub courses_begin : CoursesBegin
courses_begin s by part named tells none = record {
  world = first_world s;
  reached = begins s;
  shard = refl;
  register = refl;
  looked = begins-looked s;
  sees = begins-sees s by;
  named = λ slot e. absurd (true≢false (sym e ∙ none slot));
  in_flight = λ token c e. absurd (None-not_Some c e);
  parts = tells;
}

pub both : {A : Type 0} (b : Bool) (x : A) → (if b then x else x) ≡ x
both true x = refl
both false x = refl

-- what stands on broken parts is shown as it is
abbrev pub shown : World → Happening → Layout → Moment
shown w h l = record { happening = h; noise = (happened l w h).device }

pub tells-alike : (s : Start) (rows rows' : ℕ → Block) (telling : Telling)
    → ((row : ℕ) → IsRowOf s.layout s.number row → rows' row ≡ rows row) → Tells s rows telling → Tells s rows' telling
tells-alike s rows rows' None same x = x
tells-alike s rows rows' (Some blocks) same x = λ row there. same row there ∙ x row there

-- where nothing is performed, parts tell as before
pub shown-tells : (s : Start) (w : World) (h : Happening) → ((slot g row : ℕ) → (happened s.layout w h).device slot g row ≡ w.device slot g row)
    → (slot g : ℕ) (telling : Telling) → Tells s (w.device slot g) telling
    → Tells s ((next s.layout w (shown w h s.layout)).device slot g) telling
shown-tells s w h same slot g telling x =
    tells-alike s (w.device slot g) ((next s.layout w (shown w h s.layout)).device slot g) telling
    (λ row in'. both _ _ ∙ same slot g row) x

-- ---- a call of the core alone

may-come : (w : World) (n : ℕ) (register : Snapshot) → w.register ≡ register → (event : Event)
    → IsPlainCall register event → MayCome w n event
may-come w n register same (Submit op id) k = record {}
may-come w n register same (Submit_all ops first) k = record {}
may-come w n register same (Look seen) k = k ∙ sym same
may-come w n register same (Turn_started task) k = record {}
may-come w n register same (Turn_skipped task row) k = record {}
may-come w n register same No_command k = record {}
may-come w n register same No_call k = record {}
may-come w n register same (Take_reply id reply) k = record {}
may-come w n register same No_reply k = record {}
may-come w n register same event k = absurd k

-- it takes no command
flies-none : (register : Snapshot) (event : Event) → IsPlainCall register event → (flight : ℕ → Option Command) → flown event flight ≡ flight
flies-none register (Submit op id) k flight = refl
flies-none register (Submit_all ops first) k flight = refl
flies-none register (Look seen) k flight = refl
flies-none register (Turn_started task) k flight = refl
flies-none register (Turn_skipped task row) k flight = refl
flies-none register No_command k flight = refl
flies-none register No_call k flight = refl
flies-none register (Take_reply id reply) k flight = refl
flies-none register No_reply k flight = refl
flies-none register event k flight = absurd k

breaks-none : (register : Snapshot) (event : Event) → IsPlainCall register event → (s : Shard) (parts : ℕ → ℕ → Bool)
    → broken_by s event parts ≡ parts
breaks-none register (Submit op id) k s parts = refl
breaks-none register (Submit_all ops first) k s parts = refl
breaks-none register (Look seen) k s parts = refl
breaks-none register (Turn_started task) k s parts = refl
breaks-none register (Turn_skipped task row) k s parts = refl
breaks-none register No_command k s parts = refl
breaks-none register No_call k s parts = refl
breaks-none register (Take_reply id reply) k s parts = refl
breaks-none register No_reply k s parts = refl
breaks-none register event k s parts = absurd k

-- the core goes on, and breaks no part
pub calls : (s : Start) (at : Stand) (x : Follows s at) (event : Event) (new : Shard) → s.number < s.layout.shards
    → MayCome x.world s.number event
    → Step s.layout s.number at.shard event new
    → broken_by (x.world.shard s.number) event (x.world.broken s.number) ≡ x.world.broken s.number
    → (out : ℕ → Option Command)
    → AreInFlight s.number (record x.world { flight = put x.world.flight s.number (flown event (x.world.flight s.number)) }) out
    → Follows s (record at { shard = new; looked = looked_by event at.looked; out = out; history = marked event at.history })
calls s at x event new below come step unbroken out in_flight =
    let n = s.number in
    let w = x.world in
    let l = s.layout in
    let m : Moment = shown w (Core n event new) l in
    record {
      world = next l w m;
      reached = reach s w at.history x.reached m (below, come, subst (λ (y : Shard). Step l n y event new) (sym x.shard) step) refl;
      shard = put-same w.shard n new n refl;
      register = x.register;
      looked = reach-looked s w at.history x.reached m _ _ at.looked x.looked;
      sees = reach-left s w at.history x.reached m _ _ at.by at.log x.sees refl;
      named = reach-named s w at.history x.reached m _ _ at.named x.named;
      in_flight = in_flight;
      parts = λ slot g telling there ok.
          shown-tells s w (Core n event new) (λ slot g row. refl) slot g telling
          (x.parts slot g telling there (ap (λ (y : ℕ → ℕ → Bool). y slot g) (sym (put-same w.broken n _ n refl ∙ unbroken)) ∙ ok));
    }

pub calls_go_on : CallsGoOn
calls_go_on s lawful at event new x plain step =
    calls s at x event new lawful.number (may-come x.world s.number at.register x.register event plain) step
    (breaks-none at.register event plain (x.world.shard s.number) (x.world.broken s.number)) at.out
    (λ token c e.
    let f = x.in_flight token c e in (
      ap (λ (y : ℕ → Option Command). y token)
          (put-same x.world.flight s.number (flown event (x.world.flight s.number)) s.number refl
          ∙ flies-none at.register event plain (x.world.flight s.number)) ∙ f.0,
      f.1,
    ))
