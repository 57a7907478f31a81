use Rattle.std.proofs.Common.{◌≡◌, ◌≤◌, ◌+◌, ◌∙◌, ℕ, List, All, Some, ap, arith, count_by, length, map, replicate, slice_get, subst, sym, vec_capacity}
use Rattle.std.specs.List.{AllZip}
use Rattle.std.proofs.lemmas.List.{length-map}
use Rattle.r6_health.specs.Passes.{view_of}
use Rattle.r6_health.specs.Histories.{start_losing}
use Rattle.r6_health.specs.Registers.{starting}
use Rattle.r6_engine.specs.Openings.{caller_of}
use Rattle.r6_engine.specs.feed.Events.{event_of, events_of, brings_device}
use Rattle.r6_engine.specs.lists.Events.{Event}
use Rattle.r6_shard.specs.declared.parts.Parts.{Parts}
use Rattle.r6_shard.specs.declared.performs.Performs.{Ghosts}
use Rattle.r6_engine.specs.declared.crew.Crew.{Crew}
use Rattle.r6_engine.specs.declared.crew.Site.{Site}
use Rattle.r6_engine.specs.declared.handback.PageRoom.{PageRoom}
use Rattle.r6_engine.specs.Crews.{HasRoom, HasRoomOf, HaveCrews, exchanges_at}
use Rattle.r6_engine.specs.declared.feed.answer.EventAnswer.{EventAnswer}
use Rattle.r6_engine.specs.declared.runner.runner.Runner.{Runner}
use Rattle.r6_engine.specs.Answered.{AreReplies}
use Rattle.r6_engine.specs.Generations.{HasAgreed}
use Rattle.r6_engine.specs.Replies.{replies_of, said_by_all, said_of_answer, with_all}
use Rattle.r6_engine.specs.declared.reply.EventReply.{EventReply}
use Rattle.r6_engine.specs.declared.reply.EventReply.TheVariants.{Waited}
use Rattle.r6_engine.specs.Ledgers.{AreBack, IsLedgerOf}
use Rattle.r6_engine.specs.ServedArrays.{AreToldIn, HasNoMore, SkipNone}
use Rattle.r6_engine.specs.OneRuns.{RunAsOne}
use Rattle.r6_engine.specs.ServedShards.{IsServedShard}
use Rattle.r6_engine.specs.Stops.{is_steady}
use Rattle.r6_engine.proofs.Crews.{sites-long}
use Rattle.r6_engine.proofs.EachShard.{all_at, mapped_at, partner_at, some_same, zip-length}
use Rattle.r6_engine.proofs.ServedArray.{each-shard, one-run, rebuilt, skip-none, told-in}
use Rattle.r6_engine.proofs.Told.{all-fit, all-over, all-reply}
use Rattle.r6_engine.proofs.served.serve_at.Goals as goal

pub run_array-requires-clause-crews : goal.run_array-requires-clause-crews
run_array-requires-clause-crews g c κs within =
    let made = c.in_ok-posting.ensures in
    record {
      workers = c.args.config.now.workers;
      have = subst (λ ss. HaveCrews g.D.BlockDevice.told g.D.BlockDevice.promised c.args.config.now.workers
          (events_of g.D.BlockDevice.told c.args.events.items) ss c.args.crews.items) (sym made.sites) c.requires.crews;
      whole = c.requires.as_many;
      unposted = made.none;
      room = subst (λ (ss : List (Site _)). length (exchanges_at ss) ≤ vec_capacity c.in_ok-posting.posting.posts) (sym made.sites) made.room;
    }

pub hand_back-back-requires-clause-as_many : goal.hand_back-back-requires-clause-as_many
hand_back-back-requires-clause-as_many g c =
    let run = c.in_ok-ran.ensures.run (is_steady c.args.config.now.stop c.args.config.now.workers) c.requires.steady in
    let runners = run.done.as_many in
    let parts = length-map c.args.crews.items (λ crew. crew.parts) in
    let whole = c.requires.as_many in
    let pages = c.in_ok-papers.ensures.pages.1 in
    let shards = c.shards.ensures.value in
    omega (arith, runners, parts, whole, pages, shards)

pub hand_back-back-requires-clause-room : goal.hand_back-back-requires-clause-room
hand_back-back-requires-clause-room g c =
    let run = c.in_ok-ran.ensures.run (is_steady c.args.config.now.stop c.args.config.now.workers) c.requires.steady in
    let runners = run.done.as_many in
    let parts = length-map c.args.crews.items (λ crew. crew.parts) in
    let whole = c.requires.as_many in
    let shards = c.shards.ensures.value in
    let room = c.in_ok-papers.ensures.room in
    let ledgers = room.0 in
    let devices = room.1 in
    (omega (arith, runners, parts, whole, shards, ledgers), omega (arith, runners, parts, whole, shards, devices))

pub hand_back-back-requires-clause-over : goal.hand_back-back-requires-clause-over
hand_back-back-requires-clause-over g c =
    let told = g.D.BlockDevice.told in
    let shape = c.args.config.now.geometry in
    all-over told shape c.requires.limits (events_of told c.args.events.items) (starting c.args.config.now.lost) c.args.config.now.window
    (map (λ crew. crew.parts) c.args.crews.items) c.in_ok-ran.ran.runners.items (length-map c.args.crews.items (λ crew. crew.parts) ∙ c.requires.as_many)
    (c.in_ok-ran.ensures.run (is_steady c.args.config.now.stop c.args.config.now.workers) c.requires.steady).done

-- the room of each shard is within that of the pages
rooms-fit : {P D : Type 0} {g : Ghosts P} (events : List Event) (crews : List (Crew D)) (runners : List (Runner P D g)) (most : ℕ)
    → All (HasRoom events) crews → All (λ crew. crew.room ≤ most) crews → AllZip HasRoomOf crews runners
    → (shard : ℕ) (own : Parts D) (r : Runner P D g) → slice_get (map (λ crew. crew.parts) crews) shard ≡ Some own → slice_get runners shard ≡ Some r
    → ((g.performer r.shard.parts).part_room ≤ most) × (length own.parts.items + count_by brings_device events ≤ most)
rooms-fit {g = g} events crews runners most rooms fewer roomy shard own r own-at r-at =
    let crew = partner_at HasRoomOf crews runners shard r roomy r-at in
    let one = mapped_at (λ crew. crew.parts) crews shard own own-at in
    let same = some_same one.0 crew.0 (sym one.1 ∙ crew.1) in
    let room = all_at (HasRoom events) crews shard crew.0 rooms crew.1 in
    let few = all_at (λ crew. crew.room ≤ most) crews shard crew.0 fewer crew.1 in
    let has = crew.2 in
    let long = ap (λ (p : Parts _). length p.parts.items) (sym one.2 ∙ ap (λ (x : Crew _). x.parts) same) in
    (omega (arith, has, few), omega (arith, room, few, long))

pub hand_back-back-requires-clause-fits : goal.hand_back-back-requires-clause-fits
hand_back-back-requires-clause-fits g c =
    let told = g.D.BlockDevice.told in
    let shape = c.args.config.now.geometry in
    let events = events_of told c.args.events.items in
    let crews = c.args.crews.items in
    let runners = c.in_ok-ran.ran.runners.items in
    let room : PageRoom = record { entries = c.most_tasks.result; slots = c.slots.result; workers = c.args.config.now.workers; parts = c.most_parts.result } in
    let none = subst (λ all. HasNoMore shape (events_of told all) c.most_tasks.result) c.deref.ensures.value c.most_tasks.ensures in
    let few = subst (All (λ (crew : Crew _). crew.room ≤ c.most_parts.result)) c.deref-2.ensures.value c.most_parts.ensures in
    let sites : c.in_ok-ran.posting.sites.now ≡ c.args.sites.now = c.in_ok-ran.ensures.posts.1 ∙ c.in_ok-posting.ensures.sites in (
      c.in_ok-papers.ensures.pages.0,
      all-fit told shape c.requires.limits events (starting c.args.config.now.lost) c.args.config.now.window (map (λ crew. crew.parts) crews) runners
          (length-map crews (λ crew. crew.parts) ∙ c.requires.as_many) (c.in_ok-ran.ensures.run (is_steady c.args.config.now.stop c.args.config.now.workers) c.requires.steady).done room none c.slots.ensures.value
          (rooms-fit events crews runners c.most_parts.result c.requires.crews.room few c.in_ok-ran.ensures.roomy),
      subst (All (λ (site : Site _). length site.exchanges.items ≡ c.args.config.now.workers)) (sym sites)
          (sites-long told g.D.BlockDevice.promised c.args.config.now.workers c.args.sites.now crews c.requires.crews.each),
    )

pub returns-clause-served : goal.returns-clause-served
returns-clause-served g c =
    let told = g.D.BlockDevice.told in
    let promised = g.D.BlockDevice.promised in
    let shape = c.args.config.now.geometry in
    let given = c.args.events.items in
    let events = events_of told given in
    let start = starting c.args.config.now.lost in
    let window = c.args.config.now.window in
    let first = caller_of (start_losing shape.slots shape.shards c.args.config.now.lost) in
    let parts = (map (λ crew. crew.parts) c.args.crews.items) in
    let runners = c.in_ok-ran.ran.runners.items in
    let answers = c.in_ok-ran.ran.answers.items in
    let last = view_of c.in_ok-ran.ran.pass in
    let snapshot = c.in_ok-ran.ran.snapshot in
    let steady = is_steady c.args.config.now.stop c.args.config.now.workers in
    let run = c.in_ok-ran.ensures.run steady c.requires.steady in
    let ledgers = c.hand_back-back.result.ledgers.items in
    let devices = c.hand_back-back.result.devices.items in
    let tied = c.hand_back-back.ensures.ledgers in
    let backs = c.hand_back-back.ensures.devices in
    let agree = subst (λ (rs : List (Runner _ _ _)). All (λ (r : Runner _ _ _). HasAgreed answers r.handed.items) rs) c.as_slice-2.ensures.value
    (subst (λ (as' : List EventAnswer). All (λ (r : Runner _ _ _). HasAgreed as' r.handed.items) c.as_slice-2.result.now) c.as_slice.ensures.value
    c.await_agreement.ensures) in
    let many : c.len.result ≡ length events = c.len.ensures ∙ c.args.events.ok.0 ∙ sym (length-map given (event_of told)) in
    let waited : c.in_ok-papers.papers.replies.replies.items ≡ replicate (length events) Waited =
    c.in_ok-papers.ensures.replies ∙ ap (λ (n : ℕ). replicate n Waited) many in
    let said : c.hand_back-back.new.replies.replies.items ≡ with_all (replicate (length events) Waited) (said_by_all runners) =
    c.hand_back-back.ensures.said ∙ ap (λ (t : List EventReply). with_all t (said_by_all runners)) waited in
    let is : c.add_answers.new.self.replies.items ≡ replies_of (length events) runners answers =
    c.add_answers.ensures
    ∙ ap (λ all. with_all c.hand_back-back.new.replies.replies.items (map said_of_answer all)) c.as_slice-3.ensures.value
    ∙ ap (λ (t : List EventReply). with_all t (map said_of_answer answers)) said in
    record {
      answers = answers;
      last = last;
      answered = run.answered;
      told_in = subst (λ (t : List EventReply). AreToldIn t answers) (sym is)
          (told-in told promised steady shape c.requires.limits given start window first parts runners answers last snapshot (length-map c.args.crews.items (λ crew. crew.parts) ∙ c.requires.as_many) run ledgers tied
          devices backs agree);
      held = run.held;
      legal = run.legal;
      ledgers = sym (zip-length IsLedgerOf runners ledgers tied) ∙ run.done.as_many ∙ (length-map c.args.crews.items (λ crew. crew.parts) ∙ c.requires.as_many);
      devices = sym (zip-length (AreBack g.D.BlockDevice.told) runners devices backs) ∙ run.done.as_many ∙ (length-map c.args.crews.items (λ crew. crew.parts) ∙ c.requires.as_many);
      each = λ shard own ledger back part_at ledger_at back_at.
          subst (λ (t : List EventReply). IsServedShard told promised steady shape given start answers last t snapshot shard own ledger back) (sym is)
          (each-shard told promised steady shape c.requires.limits given start window first parts runners answers last snapshot (length-map c.args.crews.items (λ crew. crew.parts) ∙ c.requires.as_many) run ledgers
          tied devices backs agree shard own ledger back part_at ledger_at back_at);
      one_run = subst (λ (t : List EventReply). RunAsOne told shape events start parts answers t snapshot ledgers) (sym is)
          (one-run told promised steady shape c.requires.limits given start window first parts runners answers last snapshot (length-map c.args.crews.items (λ crew. crew.parts) ∙ c.requires.as_many) run ledgers
          tied devices backs agree);
      unskipped = subst (SkipNone shape (length given) ledgers) (sym is)
          (skip-none told promised steady shape c.requires.limits given start window first parts runners answers last snapshot (length-map c.args.crews.items (λ crew. crew.parts) ∙ c.requires.as_many) run ledgers
          tied devices backs agree);
      rebuilt = rebuilt told promised steady shape c.requires.limits given start window first parts runners answers last snapshot (length-map c.args.crews.items (λ crew. crew.parts) ∙ c.requires.as_many) run
          ledgers tied devices backs agree;
    }

pub returns-clause-replies : goal.returns-clause-replies
returns-clause-replies g c =
    let told = g.D.BlockDevice.told in
    let shape = c.args.config.now.geometry in
    let events = events_of told c.args.events.items in
    let runners = c.in_ok-ran.ran.runners.items in
    let answers = c.in_ok-ran.ran.answers.items in
    let many : c.len.result ≡ length events = c.len.ensures ∙ c.args.events.ok.0 ∙ sym (length-map c.args.events.items (event_of told)) in
    let waited : c.in_ok-papers.papers.replies.replies.items ≡ replicate (length events) Waited =
    c.in_ok-papers.ensures.replies ∙ ap (λ (n : ℕ). replicate n Waited) many in
    let said : c.hand_back-back.new.replies.replies.items ≡ with_all (replicate (length events) Waited) (said_by_all runners) =
    c.hand_back-back.ensures.said ∙ ap (λ (t : List EventReply). with_all t (said_by_all runners)) waited in
    let is : c.add_answers.new.self.replies.items ≡ replies_of (length events) runners answers =
    c.add_answers.ensures
    ∙ ap (λ all. with_all c.hand_back-back.new.replies.replies.items (map said_of_answer all)) c.as_slice-3.ensures.value
    ∙ ap (λ (t : List EventReply). with_all t (map said_of_answer answers)) said in
    subst (AreReplies shape events c.hand_back-back.result.ledgers.items) (sym is)
    (all-reply told shape c.requires.limits events (starting c.args.config.now.lost) c.args.config.now.window (map (λ crew. crew.parts) c.args.crews.items) runners (length-map c.args.crews.items (λ crew. crew.parts) ∙ c.requires.as_many)
    (c.in_ok-ran.ensures.run (is_steady c.args.config.now.stop c.args.config.now.workers) c.requires.steady).done answers c.hand_back-back.result.ledgers.items (c.in_ok-ran.ensures.run (is_steady c.args.config.now.stop c.args.config.now.workers) c.requires.steady).answered.asked c.hand_back-back.ensures.ledgers)
