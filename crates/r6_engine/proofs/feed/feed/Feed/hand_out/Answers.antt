use Rattle.std.proofs.Common.{◌≡◌, ◌∙◌, length, sym, subst, ap}
use Rattle.std.proofs.lemmas.List.{length-map}
use Rattle.r6_health.specs.Passes.{view_of}
use Rattle.r6_engine.specs.feed.Feeds.{WereTold, Begins, asked_before, asked_in}
use Rattle.r6_engine.proofs.FeedLemmas.Told.{none_answered, later_told}
use Rattle.r6_engine.proofs.feed.feed.Feed.hand_out.Goals as goal

-- nothing was answered before
pub returns-clause-told : goal.returns-clause-told
returns-clause-told g c =
    let first = view_of c.args.self.pass in
    let none : length c.args.self.answers.items ≡ 0 =
    sym (length-map c.args.self.answers.items asked_in)
    ∙ ap length c.args.self.asked
    ∙ ap (λ n. length (asked_before g.L.Events.shape g.L.Events.events n)) c.requires.begins in
    let start : WereTold first c.args.self.answers.items first =
    subst (λ answers. WereTold first answers first) (sym (none_answered c.args.self.answers.items none)) Begins in
    c.hand_all.ensures.told first start

pub returns-clause-later : goal.returns-clause-later
returns-clause-later g c =
    later_told (view_of c.args.self.pass) c.hand_all.new.self.answers.items (view_of c.hand_all.new.self.pass) (returns-clause-told g c)
