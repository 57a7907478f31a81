use Rattle.std.proofs.Common.{◌≡◌, ◌+◌, ◌≤◌, ℕ, ◌++◌, length, map, vec_len, subst, sym, ap, refl, ◌∙◌, arith, rules}
use Rattle.std.proofs.lemmas.List.{length-append, length-map}
use Rattle.r6_health.specs.Passes.{view_of}
use Rattle.r6_world.specs.Values.{op_of}
use Rattle.r6_world.specs.Steps.{Event, Submit_all}
use Rattle.r6_core.specs.Shards.{core_layout, world_shard}
use Rattle.r6_shard.specs.Kept.{IsKept}
use Rattle.r6_shard.specs.Courses.{AreOf, HasCourse}
use Rattle.r6_shard.specs.Together.{all_asked}
use Rattle.r6_shard.proofs.Answering.{once-together}
use Rattle.r6_shard.proofs.Counting.{passes-none}
use Rattle.r6_shard.proofs.Going.{has-together, linked-all}
use Rattle.r6_shard.proofs.Here.{here-by}
use Rattle.r6_shard.proofs.Keeping.{kept-together}
use Rattle.r6_shard.specs.Replying.{AreOfKind}
use Rattle.r6_shard.proofs.Replying.{kinds-together}
use Rattle.r6_shard.proofs.Lasting.{lasts_by}
use Rattle.r6_shard.proofs.Looked.{knows-on}
use Rattle.r6_shard.proofs.Own.{failure-on}
use Rattle.r6_shard.proofs.Sound.{sound-by}
use Rattle.r6_shard.proofs.Steps.{all-more}
use Rattle.r6_shard.proofs.Together.{as-many-asked, noted}
use Rattle.r6_shard.proofs.Whole.{skips-by}
use Rattle.r6_shard.proofs.shard.Shard.submit_all.Goals as goal

pub invariant_of-self : goal.invariant_of-self
invariant_of-self g c =
    let old = c.args.self.now in
    let events = c.args.events.now.items in
    let ops = c.args.ops.now.items in
    let n = length old.entries.items in
    let out = (g.P.Performs.performer old.parts).out in
    let new = c.submit_all-submitted.new.self in
    let s = c.submit_all-submitted.ensures.submitted in
    let first = c.submit_all-submitted.result.first.0 in
    let taken = s.taken in
    let event : Event = Submit_all (map op_of taken) first in
    let all = ap length s.split ∙ length-append taken c.submit_all-submitted.new.ops.items in
    let numbered = c.requires.numbered in
    let as-many = as-many-asked n events taken (omega (arith, all, numbered)) in
    let before : vec_len old.asked ≡ length old.asked.items = search rules in
    let answered : vec_len old.entries ≡ length old.entries.items = search rules in
    let asked = noted old.asked.items c.ask_all.new.asked.items c.truncate.new.self.items _ c.submit_all-submitted.result.count _ (length old.entries.items) events c.args.ops.now.items taken
    c.submit_all-submitted.new.ops.items (c.len-before.ensures ∙ before) (c.len.ensures ∙ answered) c.ask_all.ensures.asked c.truncate.ensures.items s.count s.split in
    let longer = ap length asked ∙ length-append old.asked.items (all_asked n events taken) in
    let many : length (map op_of taken) ≡ length taken = length-map taken op_of in
    record {
      kept = subst (IsKept new out old.number old.named) (let same : length old.asked.items + length (map op_of taken) ≡ length c.truncate.new.self.items = omega (arith, many, longer, as-many) in same)
          (kept-together old.core (map op_of taken) first new out old.number old.named (length old.asked.items) s.step old.kept);
      held = old.held;
      own = old.own;
      pass_name = old.pass_name;
      no_names = old.no_names;
      calls = old.calls;
      failure = failure-on old.core event new (view_of old.pass) old.entries.items (record {}) s.step old.failure;
      whole = skips-by old.named old.saw_out old.core event new (λ y. record {}) s.step old.whole;
      saw = old.saw;
      knows = knows-on old.core event new old.last (record {}) s.step old.knows;
      seen = old.seen;
      linked = subst (λ y. AreOf y old.entries.items) (sym asked) (linked-all old.asked.items (all_asked n events taken) old.entries.items old.linked);
      once = once-together old.core (map op_of taken) first new old.asked.items old.entries.items s.step old.kept.2 old.linked old.once;
      kinds = subst (λ y. AreOfKind new y old.entries.items) (sym asked)
          (kinds-together old.core new old.asked.items old.entries.items n events taken first (omega (arith, all, numbered)) s.step old.kept.2 old.linked old.kinds);
      counted = (let unanswered = s.unanswered in let before = old.counted in omega (arith, unanswered, before, longer, as-many));
      within = (let room = c.requires.room in omega (arith, all, longer, as-many, room));
      asked_room = subst (λ (room : ℕ). old.room ≤ room) (sym (c.truncate.ensures.capacity ∙ c.ask_all.ensures.room)) old.asked_room;
      entries_room = old.entries_room;
    }

pub returns-clause-submitted : goal.returns-clause-submitted
returns-clause-submitted g c =
    let old = c.args.self.now in
    let events = c.args.events.now.items in
    let new = c.submit_all-submitted.new.self in
    let s = c.submit_all-submitted.ensures.submitted in
    let first = c.submit_all-submitted.result.first.0 in
    let taken = s.taken in
    let own = g.P.Performs.performer old.parts in
    let v = view_of old.pass in
    let all = ap length s.split ∙ length-append taken c.submit_all-submitted.new.ops.items in
    let numbered = c.requires.numbered in
    let before : vec_len old.asked ≡ length old.asked.items = search rules in
    let answered : vec_len old.entries ≡ length old.entries.items = search rules in
    let asked = noted old.asked.items c.ask_all.new.asked.items c.truncate.new.self.items _ c.submit_all-submitted.result.count _ (length old.entries.items) events c.args.ops.now.items taken
    c.submit_all-submitted.new.ops.items (c.len-before.ensures ∙ before) (c.len.ensures ∙ answered) c.ask_all.ensures.asked c.truncate.ensures.items s.count s.split in
    let number : first ≡ length old.asked.items =
    (all-more (core_layout old.core) old.core.shard (world_shard old.core) (world_shard new) (map op_of taken) first (length old.asked.items) s.step.1 old.kept.2).0 in
    record {
      submits = s;
      course = λ start before x.
          subst (λ z. HasCourse start new v old.last.attaches old.named own.out own.tells z old.entries.items (before ++ map op_of taken)) (sym asked)
          (has-together start old.core new v old.last.attaches old.named own.out own.tells old.asked.items old.entries.items before events taken first number
          (omega (arith, all, numbered)) s.step x);
      number = number;
      asked = asked;
      entries = refl;
      room = refl;
      named = refl;
      saw_out = refl;
      pass = refl;
      parts = refl;
      last = refl;
    }

pub returns-clause-lasts : goal.returns-clause-lasts
returns-clause-lasts g c =
    let s = c.submit_all-submitted.ensures.submitted in
    lasts_by c.args.self.now.core (Submit_all (map op_of s.taken) c.submit_all-submitted.result.first.0) c.submit_all-submitted.new.self c.submit_all-submitted.ensures.window s.step

pub returns-clause-sound : goal.returns-clause-sound
returns-clause-sound g c = λ shape number slot x.
    let old = c.args.self.now in
    let s = c.submit_all-submitted.ensures.submitted in
    sound-by (g.P.Performs.performer old.parts) shape number slot old.core (Submit_all (map op_of s.taken) c.submit_all-submitted.result.first.0)
    c.submit_all-submitted.new.self old.named (record {}) s.step x

pub returns-clause-here : goal.returns-clause-here
returns-clause-here g c = λ slot x.
    let old = c.args.self.now in
    let s = c.submit_all-submitted.ensures.submitted in
    here-by (g.P.Performs.performer old.parts).labels slot old.core (Submit_all (map op_of s.taken) c.submit_all-submitted.result.first.0) c.submit_all-submitted.new.self (record {}) s.step x

pub returns-clause-passed : goal.returns-clause-passed
returns-clause-passed g c =
    let s = c.submit_all-submitted.ensures.submitted in
    passes-none c.args.self.now.core (Submit_all (map op_of s.taken) c.submit_all-submitted.result.first.0) c.submit_all-submitted.new.self refl s.step
