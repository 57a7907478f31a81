use Rattle.std.proofs.Common.{sym, subst}
use Rattle.r6_health.specs.Passes.{IsPassOf}
use Rattle.r6_engine.proofs.FeedLemmas.Told.{tells_same}
use Rattle.r6_engine.proofs.feed.feed.Feed.step.Goals as goal

pub returns-in-Request-clause-number : goal.returns-in-Request-clause-number
returns-in-Request-clause-number g c = c.request.ensures.number

pub returns-in-Request-clause-pass : goal.returns-in-Request-clause-pass
returns-in-Request-clause-pass g c = subst (IsPassOf c.args.shards.now.register.now) (sym c.request.ensures.pass) c.requires.pass

pub returns-in-Request-clause-told : goal.returns-in-Request-clause-told
returns-in-Request-clause-told g c = c.request.ensures.told

pub returns-in-Wait-clause-number : goal.returns-in-Wait-clause-number
returns-in-Wait-clause-number g c = c.wait.ensures.number

pub returns-in-Wait-clause-pass : goal.returns-in-Wait-clause-pass
returns-in-Wait-clause-pass g c = subst (IsPassOf c.args.shards.now.register.now) (sym c.wait.ensures.same.0) c.requires.pass

pub returns-in-Wait-clause-told : goal.returns-in-Wait-clause-told
returns-in-Wait-clause-told g c =
    tells_same c.args.self.now.pass c.wait.new.self.pass c.args.self.now.answers.items c.wait.new.self.answers.items
    c.wait.ensures.same.0 c.wait.ensures.same.1

pub returns-in-Fail-clause-number : goal.returns-in-Fail-clause-number
returns-in-Fail-clause-number g c = c.fail.ensures.number

pub returns-in-Fail-clause-pass : goal.returns-in-Fail-clause-pass
returns-in-Fail-clause-pass g c = c.fail.ensures.pass

pub returns-in-Fail-clause-told : goal.returns-in-Fail-clause-told
returns-in-Fail-clause-told g c = c.fail.ensures.told

pub returns-in-Attach-clause-number : goal.returns-in-Attach-clause-number
returns-in-Attach-clause-number g c = c.bring.ensures.number

pub returns-in-Attach-clause-pass : goal.returns-in-Attach-clause-pass
returns-in-Attach-clause-pass g c = c.bring.ensures.pass

pub returns-in-Attach-clause-told : goal.returns-in-Attach-clause-told
returns-in-Attach-clause-told g c = c.bring.ensures.told

pub returns-in-Replace-clause-number : goal.returns-in-Replace-clause-number
returns-in-Replace-clause-number g c = c.bring-in-Replace.ensures.number

pub returns-in-Replace-clause-pass : goal.returns-in-Replace-clause-pass
returns-in-Replace-clause-pass g c = c.bring-in-Replace.ensures.pass

pub returns-in-Replace-clause-told : goal.returns-in-Replace-clause-told
returns-in-Replace-clause-told g c = c.bring-in-Replace.ensures.told

pub returns-in-Check-clause-number : goal.returns-in-Check-clause-number
returns-in-Check-clause-number g c = c.hand_scrub.ensures.number

pub returns-in-Check-clause-pass : goal.returns-in-Check-clause-pass
returns-in-Check-clause-pass g c = subst (IsPassOf c.args.shards.now.register.now) (sym c.hand_scrub.ensures.same.0) c.requires.pass

pub returns-in-Check-clause-told : goal.returns-in-Check-clause-told
returns-in-Check-clause-told g c =
    tells_same c.args.self.now.pass c.hand_scrub.new.self.pass c.args.self.now.answers.items c.hand_scrub.new.self.answers.items
    c.hand_scrub.ensures.same.0 c.hand_scrub.ensures.same.1

pub returns-in-Repair-clause-number : goal.returns-in-Repair-clause-number
returns-in-Repair-clause-number g c = c.hand_scrub-in-Repair.ensures.number

pub returns-in-Repair-clause-pass : goal.returns-in-Repair-clause-pass
returns-in-Repair-clause-pass g c = subst (IsPassOf c.args.shards.now.register.now) (sym c.hand_scrub-in-Repair.ensures.same.0) c.requires.pass

pub returns-in-Repair-clause-told : goal.returns-in-Repair-clause-told
returns-in-Repair-clause-told g c =
    tells_same c.args.self.now.pass c.hand_scrub-in-Repair.new.self.pass c.args.self.now.answers.items c.hand_scrub-in-Repair.new.self.answers.items
    c.hand_scrub-in-Repair.ensures.same.0 c.hand_scrub-in-Repair.ensures.same.1
