-- A shard's course begins.
use Rattle.std.proofs.Common.{◌≡◌, ℕ, ◌<◌, List, [], Bool, false, refl, sym, ap, subst, ◌∙◌, Option, None}
use Rattle.std.proofs.lemmas.List.Elements.{All-nil}
use Rattle.r6_dev.specs.History.{Telling}
use Rattle.r6_layout.specs.Shape.{Shape, IsShape}
use Rattle.r6_health.specs.declared.history.View.{View}
use Rattle.r6_health.specs.Histories.{held, calls_by}
use Rattle.r6_course.specs.Seen.{Sees}
use Rattle.r6_world.specs.PlainArray.{Array}
use Rattle.r6_world.specs.Geometries.{layout_of}
use Rattle.r6_world.specs.Registers.{Snapshot}
use Rattle.r6_world.specs.Worlds.{Devices}
use Rattle.r6_world.specs.Claims.{IsLawfulStart}
use Rattle.r6_world.proofs.Geometries.{layouts}
use Rattle.r6_world.proofs.Tables.{None-not_Some}
use Rattle.r6_world.specs.declared.values.Command.{Command}
use Rattle.r6_core.specs.Shards.{CoreView}
use Rattle.r6_core.specs.Effects.{IsMade}
use Rattle.r6_course.specs.Courses.{is_named}
use Rattle.r6_shard.specs.Courses.{IsOf}
use Rattle.r6_course.proofs.Calls.{courses_begin}
use Rattle.r6_shard.specs.Beginnings.{IsFirstPass, start_of, Hold}
use Rattle.r6_shard.specs.Courses.{HasCourse}

pub begun : (geometry : Shape) (number : ℕ) (snapshot : Snapshot) (device : Devices) (array : Array) (core : CoreView) (v : View)
    (named : List Bool) (out : ℕ → Option Command) (part : ℕ → ℕ → Option Telling) → ((token : ℕ) → out token ≡ None) → IsShape geometry → number < geometry.shards → IsLawfulStart (layout_of geometry) snapshot device array
    → Hold (start_of geometry number snapshot device array) part → IsMade geometry snapshot number core → IsFirstPass geometry number snapshot v
    → ((slot : ℕ) → is_named named slot ≡ false)
    → HasCourse (start_of geometry number snapshot device array) core v 0 named out part [] [] []
begun geometry number snapshot device array core v named out part idle limits below lawful hold made first none =
    let s = start_of geometry number snapshot device array in
    let now : held v.start v.seen ≡ snapshot = ap (held v.start) first.seen ∙ first.began in
    let y = courses_begin s v.name part named (λ slot generation telling there ok. hold slot generation telling there) none in
    record {
      history = [];
      tells = record { asked = refl; replied = refl; answered = refl; blocks = refl; linked = All-nil (IsOf []) };
      course = record {
        lawful = record { layout = layouts geometry limits; number = below; start = lawful };
        layout = ap layout_of (sym made.geometry);
        number = sym made.number;
        pass = record {
          slots = first.slots;
          shards = first.shards;
          name = refl;
          seen = refl;
          now = refl;
          own = ap (calls_by v.name) first.seen ∙ sym first.mine;
        };
        taken = λ token. None;
        among = λ token c e. absurd (None-not_Some c (sym (idle token) ∙ e));
        follows = record {
          world = y.world;
          reached = y.reached;
          shard = y.shard ∙ sym made.start;
          register = y.register ∙ sym now;
          looked = y.looked;
          sees = subst (λ log. Sees s.layout s.number v.name log y.reached.moments) (sym first.seen) y.sees;
          named = y.named;
          in_flight = y.in_flight;
          parts = y.parts;
        };
      };
    }
