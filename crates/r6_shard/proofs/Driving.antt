-- What a shard's thread does of commands and calls, along several calls.
use Rattle.std.proofs.Common.{◌≡◌, Bool, true, false, inr, refl, sym, ap, subst, ◌∙◌}
use Rattle.r6_core.specs.Shards.{CoreView, world_shard}
use Rattle.r6_core.specs.Effects.{HandsCommand, IsOldestUntaken, KeepsRequests}
use Rattle.r6_shard.specs.declared.performs.Performs.{Ghosts}
use Rattle.r6_shard.specs.declared.shard.Shard.{Shard}
use Rattle.r6_shard.specs.Advances.{Advances}
use Rattle.r6_shard.specs.Driving.{DoesNothing, SendsNext, SendsAll, ReceivesNext, PerformsNext}
use Rattle.r6_shard.specs.Performing.{having_sent}
use Rattle.r6_shard.specs.Shards.{SameLedger}
use Rattle.r6_shard.proofs.Advances.{advances-on, same-on}

pub requests-on : (old mid new : CoreView) → KeepsRequests old mid → KeepsRequests mid new → KeepsRequests old new
requests-on old mid new x y = (((y.0.0.0 ∙ x.0.0.0, y.0.0.1 ∙ x.0.0.1), y.0.1 ∙ x.0.1), y.1 ∙ x.1)

-- where the core is as it was, and what its parts have and do, nothing was done
pub nothing-by : {P : Type 0} {g : Ghosts P} (old new : Shard P g) → new.core ≡ old.core
    → g.performer new.parts ≡ g.performer old.parts → new.pass ≡ old.pass → new.named ≡ old.named → new.last ≡ old.last
    → new.saw_out ≡ old.saw_out → SameLedger old new → DoesNothing old new
nothing-by old new core performer pass named last saw_out ledger =
    record {
      shard = ap world_shard core;
      requests = subst (KeepsRequests old.core) (sym core) (((refl, refl), refl), refl);
      performer = performer;
      pass = pass;
      named = named;
      last = last;
      saw_out = saw_out;
      ledger = ledger;
    }

pub nothing-on : {P : Type 0} {g : Ghosts P} (old mid new : Shard P g) → DoesNothing old mid → DoesNothing mid new → DoesNothing old new
nothing-on old mid new x y =
    record {
      shard = y.shard ∙ x.shard;
      requests = requests-on old.core mid.core new.core x.requests y.requests;
      performer = y.performer ∙ x.performer;
      pass = y.pass ∙ x.pass;
      named = y.named ∙ x.named;
      last = y.last ∙ x.last;
      saw_out = y.saw_out ∙ x.saw_out;
      ledger = same-on old mid new x.ledger y.ledger;
    }

-- what is sent once room was made, of which the core knows nothing
pub sends-behind : {P : Type 0} {g : Ghosts P} (sent : Bool) (old mid new : Shard P g) → mid.core ≡ old.core → DoesNothing old mid
    → SendsNext sent mid new → SendsNext sent old new
sends-behind true old mid new core still x =
    record {
      command = x.command;
      handed = subst (λ y. HandsCommand y x.command new.core) core x.handed;
      first = subst (λ y. IsOldestUntaken y x.command.token) core x.first;
      sent = x.sent ∙ ap (λ p. having_sent p x.command) still.performer;
      requests = requests-on old.core mid.core new.core still.requests x.requests;
      saw_out = x.saw_out ∙ still.saw_out;
    }
sends-behind false old mid new core still x = (nothing-on old mid new still x.0, x.1)

-- what is received where none was left to send
pub performs-by : {P : Type 0} {g : Ghosts P} (received : Bool) (old mid new : Shard P g) → Advances old mid → SendsNext false old mid
    → Advances mid new → ReceivesNext received mid new → PerformsNext received old new
performs-by true old mid new before none since x = inr (mid, none, x)
performs-by false old mid new before none since x = record { between = mid; before = before; none = none.1; since = since }

pub sends-later : {P : Type 0} {g : Ghosts P} (old mid new : Shard P g) → Advances old mid → SendsAll mid new → SendsAll old new
sends-later old mid new before x =
    record { between = x.between; before = advances-on old mid x.between before x.before; none = x.none; since = x.since }

pub sends-since : {P : Type 0} {g : Ghosts P} (old mid new : Shard P g) → SendsAll old mid → Advances mid new → SendsAll old new
sends-since old mid new x since =
    record { between = x.between; before = x.before; none = x.none; since = advances-on x.between mid new x.since since }
