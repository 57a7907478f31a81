use Rattle.std.proofs.Common.{◌≡◌, [], true, false, length, replicate, refl, sym, ap, subst, ◌∙◌, arith}
use Rattle.std.proofs.lemmas.List.Elements.{All-nil}
use Rattle.r6_health.specs.Histories.{calls_by}
use Rattle.r6_health.specs.Passes.{view_of}
use Rattle.r6_world.specs.Registers.{is_in_sync, status_of}
use Rattle.r6_shard.specs.Beginnings.{start_of}
use Rattle.r6_shard.specs.Courses.{HasCourse}
use Rattle.r6_shard.proofs.Beginnings.{begun}
use Rattle.r6_shard.proofs.Counting.{none-passed}
use Rattle.r6_shard.proofs.Keeping.{kept-at-first}
use Rattle.r6_shard.proofs.Own.{failure-at-first}
use Rattle.r6_shard.proofs.Sound.{sound-begun, none-named}
use Rattle.r6_shard.proofs.Whole.{skips-at-first}
use Rattle.r6_shard.specs.Courses.{AreOf, IsOf}
use Rattle.r6_shard.proofs.Answering.{once-at-first}
use Rattle.r6_shard.proofs.Replying.{kinds-at-first}
use Rattle.r6_shard.proofs.Here.{here-begun}
use Rattle.r6_shard.proofs.Looked.{knows-first}
use Rattle.r6_shard.proofs.shard.Shard.new.Goals as goal

pub invariant_of-result-clause-kept : goal.invariant_of-result-clause-kept
invariant_of-result-clause-kept g c =
    kept-at-first c.args.place.geometry c.args.snapshot.now c.args.place.number c.in-Ok.core (g.P.Performs.performer c.args.parts).out
    (replicate 32 false) _ c.requires.limits.slots_allowed.1 (ap length c.in_ok-asked.ensures.items) refl c.requires.idle c.in-Ok.ensures.made

pub invariant_of-result-clause-own : goal.invariant_of-result-clause-own
invariant_of-result-clause-own g c = rw c.requires.pass.mine (All-nil _)

pub invariant_of-result-clause-calls : goal.invariant_of-result-clause-calls
invariant_of-result-clause-calls g c =
    let first = c.requires.pass in
    ap (calls_by (view_of c.args.pass).name) first.seen ∙ sym first.mine

pub invariant_of-result-clause-pass_name : goal.invariant_of-result-clause-pass_name
invariant_of-result-clause-pass_name g c = c.requires.pass.name

pub invariant_of-result-clause-no_names : goal.invariant_of-result-clause-no_names
invariant_of-result-clause-no_names g c = c.requires.pass.next

pub invariant_of-result-clause-failure : goal.invariant_of-result-clause-failure
invariant_of-result-clause-failure g c =
    failure-at-first c.args.place.geometry c.args.snapshot.now c.args.place.number c.in-Ok.core (view_of c.args.pass) c.in_ok-entries.entries.items
    c.in-Ok.ensures.made c.in_ok-entries.ensures.items

pub returns-clause-begins : goal.returns-clause-begins
returns-clause-begins g c = λ device array lawful hold.
    let place = c.args.place in
    let snapshot = c.args.snapshot.now in
    let core = c.in-Ok.core in
    let v = view_of c.args.pass in
    let own = g.P.Performs.performer c.args.parts in
    let named = replicate 32 false in
    let s = start_of place.geometry place.number snapshot device array in
    subst (λ y. HasCourse s core v y named own.out own.tells c.in_ok-asked.asked.items c.in_ok-entries.entries.items []) (sym c.requires.no_attach)
    (subst (λ y. HasCourse s core v 0 named own.out own.tells y c.in_ok-entries.entries.items []) (sym c.in_ok-asked.ensures.items)
    (subst (λ y. HasCourse s core v 0 named own.out own.tells [] y []) (sym c.in_ok-entries.ensures.items)
    (begun place.geometry place.number snapshot device array core v named own.out own.tells c.requires.idle c.requires.limits c.requires.number lawful hold c.in-Ok.ensures.made c.requires.pass
    (none-named 32))))

pub returns-clause-passed : goal.returns-clause-passed
returns-clause-passed g c = none-passed c.args.place.geometry c.args.snapshot.now c.args.place.number c.in-Ok.core c.in-Ok.ensures.made

pub returns-clause-sound : goal.returns-clause-sound
returns-clause-sound g c = λ slot x.
    let place = c.args.place in
    sound-begun (g.P.Performs.performer c.args.parts) place.geometry c.args.snapshot.now place.number slot
    c.in-Ok.core _ c.in-Ok.ensures.made (none-named 32) x

pub invariant_of-result-clause-whole : goal.invariant_of-result-clause-whole
invariant_of-result-clause-whole g c =
    let place = c.args.place in
    skips-at-first place.geometry c.args.snapshot.now place.number c.in-Ok.core (replicate 32 false) c.has_out.result
    (λ none slot below. let few = c.requires.limits in c.has_out.ensures.none none slot (omega (arith, few.slots_allowed.1, below))) c.in-Ok.ensures.made

pub invariant_of-result-clause-saw : goal.invariant_of-result-clause-saw
invariant_of-result-clause-saw g c = λ were.
    let first = c.requires.pass in
    c.has_out.ensures.one (λ slot below. subst (λ s. is_in_sync (status_of s slot) ≡ true) first.began (were [] ((view_of c.args.pass).seen, refl) slot below))

pub invariant_of-result-clause-knows : goal.invariant_of-result-clause-knows
invariant_of-result-clause-knows g c =
    knows-first c.args.place.geometry c.args.snapshot.now c.args.place.number c.in-Ok.core c.requires.no_attach c.requires.unfailed c.in-Ok.ensures.made

pub invariant_of-result-clause-linked : goal.invariant_of-result-clause-linked
invariant_of-result-clause-linked g c =
    subst (AreOf c.in_ok-asked.asked.items) (sym c.in_ok-entries.ensures.items) (All-nil (IsOf c.in_ok-asked.asked.items))

pub invariant_of-result-clause-kinds : goal.invariant_of-result-clause-kinds
invariant_of-result-clause-kinds g c =
    kinds-at-first c.args.place.geometry c.args.snapshot.now c.args.place.number c.in-Ok.core c.in_ok-asked.asked.items c.in_ok-entries.entries.items
    c.in-Ok.ensures.made c.in_ok-entries.ensures.items

pub invariant_of-result-clause-once : goal.invariant_of-result-clause-once
invariant_of-result-clause-once g c =
    once-at-first c.args.place.geometry c.args.snapshot.now c.args.place.number c.in-Ok.core c.in_ok-entries.entries.items c.in-Ok.ensures.made
    c.in_ok-entries.ensures.items

pub returns-clause-here : goal.returns-clause-here
returns-clause-here g c = λ slot x.
    let place = c.args.place in
    here-begun (g.P.Performs.performer c.args.parts).labels slot place.geometry c.args.snapshot.now place.number c.in-Ok.core c.in-Ok.ensures.made x
