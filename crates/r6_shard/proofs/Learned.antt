-- What a shard's pass learns, and what the shard keeps then.
use Rattle.std.proofs.Common.{◌≡◌, ℕ, List, Bool, sym, ap, subst, Option, Ok, Err}
use Rattle.r6_dev.specs.History.{Telling}
use Rattle.r6_health.specs.declared.history.View.{View}
use Rattle.r6_health.specs.Histories.{calls_by}
use Rattle.r6_health.specs.Views.{Answered, joined, Looks}
use Rattle.r6_world.specs.PlainArray as world
use Rattle.r6_world.specs.Registers.{RegisterCall, Contended, Told as Answer}
use Rattle.r6_world.specs.declared.values.Command.{Command}
use Rattle.r6_core.specs.Shards.{CoreView}
use Rattle.r6_course.specs.Courses.{Start}
use Rattle.r6_shard.specs.declared.ledger.Asked.{Asked as Accepted}
use Rattle.r6_shard.specs.declared.ledger.Entry.{Entry}
use Rattle.r6_shard.specs.declared.performs.Performs.{Ghosts}
use Rattle.r6_shard.specs.declared.shard.Shard.{Shard}
use Rattle.r6_shard.specs.Advances.{Advances}
use Rattle.r6_shard.specs.Courses.{HasCourse}
use Rattle.r6_shard.specs.Here.{HasUsed}
use Rattle.r6_shard.specs.Learning.{KeepsAllElse}
use Rattle.r6_shard.specs.Own.{SeesFailure}
use Rattle.r6_shard.specs.Shards.{GoesOn}
use Rattle.r6_shard.specs.Sound.{IsSound}
use Rattle.r6_shard.specs.Whole.{IsClean}
use Rattle.r6_health.specs.Passes.{view_of}
use Rattle.r6_shard.proofs.Lasting.{lasts_same}

-- ---- a call at the register

pub keeps-name : (v w : View) (call : RegisterCall) (answer : Answer) → Answered v call answer w → (w.name ≡ v.name) × (w.next ≡ v.next)
keeps-name v w call (Ok reply) e = (e.name, e.next)
keeps-name v w call (Err Contended) e = (e.looks.grows.name, e.looks.grows.next)
keeps-name v w call (Err refusal) e = (e.0.grows.name, e.0.grows.next)

-- of its name the history has the pass's own calls
pub calls-after : (v w : View) (call : RegisterCall) (answer : Answer) → Answered v call answer w → calls_by w.name w.seen ≡ w.mine
calls-after v w call (Ok reply) e = e.own
calls-after v w call (Err Contended) e = e.looks.own
calls-after v w call (Err refusal) e = e.0.own

-- ---- what another pass has seen

pub failure-learned : (core : CoreView) (v w : View) (entries : List Entry) → SeesFailure core v entries → SeesFailure core (joined v w) entries
failure-learned core v w entries x = record { there = x.there; waiting = x.waiting; answered = x.answered }

-- its course is the same, since its pass has seen no more
pub has-learned : (s : Start) (core : CoreView) (v w : View) (looked : ℕ) (named : List Bool) (out : ℕ → Option Command) (part : ℕ → ℕ → Option Telling)
    (accepted : List Accepted) (entries : List Entry) (ops : List world.Op)
    → HasCourse s core v looked named out part accepted entries ops → HasCourse s core (joined v w) looked named out part accepted entries ops
has-learned s core v w looked named out part accepted entries ops x =
    let c = x.course in
    record {
      history = x.history;
      tells = x.tells;
      course = record {
        lawful = c.lawful;
        layout = c.layout;
        number = c.number;
        pass = record {
          slots = c.pass.slots;
          shards = c.pass.shards;
          name = c.pass.name;
          seen = c.pass.seen;
          now = c.pass.now;
          own = c.pass.own;
        };
        taken = c.taken;
        among = c.among;
        follows = c.follows;
      };
    }

-- nothing changes but what the pass knows
pub else-kept : {P : Type 0} {g : Ghosts P} (old new : Shard P g) → KeepsAllElse old new → GoesOn old new → Advances old new
else-kept {g = g} old new kept goes =
    record {
      course = goes;
      lasts = lasts_same old.core new.core kept.core;
      remembers = λ clean. subst (λ y. IsClean y old.saw_out) kept.named (subst (IsClean new.named) kept.saw_out clean);
      sound = λ shape number slot x.
          subst (λ p. IsSound (g.performer p) shape number slot new.core new.named) (sym kept.parts)
          (subst (λ y. IsSound (g.performer old.parts) shape number slot y new.named) (sym kept.core)
          (subst (IsSound (g.performer old.parts) shape number slot old.core) (sym kept.named) x));
      labels_stay = ap (λ p. (g.performer p).labels) kept.parts;
      room_stays = ap (λ p. (g.performer p).part_room) kept.parts;
      site_stays = ap g.site kept.parts;
      here = λ slot x.
          subst (λ p. HasUsed (g.performer p).labels slot new.core) (sym kept.parts)
          (subst (HasUsed (g.performer old.parts).labels slot) (sym kept.core) x);
    }
