use Rattle.std.proofs.Common.{◌≡◌, ◌<◌, ◌∙◌, length, refl, sym, ap, subst, arith}
use Rattle.std.proofs.lemmas.List.{with_items_is}
use Rattle.std.specs.Vec.{with_items}
use Rattle.r6_waiters.specs.Keys.{AreClassed}
use Rattle.r6_waiters.specs.Sets.{cause_at, waiting, IsMarked, HaveRoom, AreAsWide}
use Rattle.r6_waiters.proofs.waiters.make_room.Goals as goal

pub free_places-requires-clause-marked : goal.free_places-requires-clause-marked
free_places-requires-clause-marked g c = subst (λ l. IsMarked l c.args.places.now.items (cause_at l)) (sym c.deref_mut.ensures.value) c.requires.marked

pub free_places-requires-clause-classed : goal.free_places-requires-clause-classed
free_places-requires-clause-classed g c = subst (λ l. AreClassed g.K.KeyOf.key_of l c.args.places.now.items) (sym c.deref_mut-then-len-limit.ensures.value) c.requires.classed

pub free_places-requires-clause-wide : goal.free_places-requires-clause-wide
free_places-requires-clause-wide g c = subst (λ l. HaveRoom l (length c.args.places.now.items)) (sym c.deref_mut.ensures.value) c.requires.wide

pub free_places-requires-clause-as_wide : goal.free_places-requires-clause-as_wide
free_places-requires-clause-as_wide g c = subst (λ l. HaveRoom l (length c.args.places.now.items)) (sym c.deref_mut-then-len-limit.ensures.value) c.requires.as_wide

pub free_places-requires-clause-few : goal.free_places-requires-clause-few
free_places-requires-clause-few g c = subst (λ l. length (waiting (cause_at l) c.args.places.now.items) < c.args.limit) (sym c.deref_mut.ensures.value) c.requires.few

pub free_places-requires-clause-full : goal.free_places-requires-clause-full
free_places-requires-clause-full g c = omega (arith, c.len.ensures, c.args.places.now.ok.0, c.if-len-limit.true, c.requires.within)

-- the sets come back whole
sets_whole : (g : _) (c : goal.After-keyed-1 g) → (with_items c.args.sets.now c.free_places.new.sets).items ≡ c.free_places.new.sets
sets_whole g c = with_items_is c.args.sets.now c.free_places.new.sets (c.free_places.ensures.sets.0 ∙ ap length c.deref_mut.ensures.value ∙ sym c.args.sets.now.ok.0)

keyed_whole : (g : _) (c : goal.After-keyed-1 g) → (with_items c.args.keyed.now c.free_places.new.keyed).items ≡ c.free_places.new.keyed
keyed_whole g c = with_items_is c.args.keyed.now c.free_places.new.keyed (c.free_places.ensures.keyed.0 ∙ ap length c.deref_mut-then-len-limit.ensures.value ∙ sym c.args.keyed.now.ok.0)

pub returns-then-len-limit-clause-marked : goal.returns-then-len-limit-clause-marked
returns-then-len-limit-clause-marked g c = subst (λ l. IsMarked l c.free_places.new.places.items (cause_at l)) (sym (sets_whole g c)) c.free_places.ensures.marked

pub returns-then-len-limit-clause-classed : goal.returns-then-len-limit-clause-classed
returns-then-len-limit-clause-classed g c = subst (λ l. AreClassed g.K.KeyOf.key_of l c.free_places.new.places.items) (sym (keyed_whole g c)) c.free_places.ensures.classed

pub returns-then-len-limit-clause-same : goal.returns-then-len-limit-clause-same
returns-then-len-limit-clause-same g c =
    ap (λ l. waiting (cause_at l) c.free_places.new.places.items) (sets_whole g c)
    ∙ c.free_places.ensures.same
    ∙ ap (λ l. waiting (cause_at l) c.args.places.now.items) c.deref_mut.ensures.value

pub returns-then-len-limit-clause-room : goal.returns-then-len-limit-clause-room
returns-then-len-limit-clause-room g c = c.free_places.ensures.room

pub returns-then-len-limit-clause-capacity : goal.returns-then-len-limit-clause-capacity
returns-then-len-limit-clause-capacity g c = c.free_places.ensures.capacity

pub returns-then-len-limit-clause-sets : goal.returns-then-len-limit-clause-sets
returns-then-len-limit-clause-sets g c =
    subst (λ l. AreAsWide c.args.sets.now.items l) (sym (sets_whole g c)) (subst (λ l. AreAsWide l c.free_places.new.sets) c.deref_mut.ensures.value c.free_places.ensures.sets)

pub returns-then-len-limit-clause-keyed : goal.returns-then-len-limit-clause-keyed
returns-then-len-limit-clause-keyed g c =
    subst (λ l. AreAsWide c.args.keyed.now.items l) (sym (keyed_whole g c)) (subst (λ l. AreAsWide l c.free_places.new.keyed) c.deref_mut-then-len-limit.ensures.value c.free_places.ensures.keyed)

pub returns-else-len-limit-clause-room : goal.returns-else-len-limit-clause-room
returns-else-len-limit-clause-room g c = omega (arith, c.len.ensures, c.args.places.now.ok.0, c.if-len-limit.false)

pub returns-else-len-limit-clause-sets : goal.returns-else-len-limit-clause-sets
returns-else-len-limit-clause-sets g c = (refl, λ cause. refl)

pub returns-else-len-limit-clause-keyed : goal.returns-else-len-limit-clause-keyed
returns-else-len-limit-clause-keyed g c = (refl, λ class. refl)

pub returns-else-len-limit-clause-marked : goal.returns-else-len-limit-clause-marked
returns-else-len-limit-clause-marked g c = c.requires.marked

pub returns-else-len-limit-clause-classed : goal.returns-else-len-limit-clause-classed
returns-else-len-limit-clause-classed g c = c.requires.classed

pub returns-else-len-limit-clause-same : goal.returns-else-len-limit-clause-same
returns-else-len-limit-clause-same g c = refl

pub returns-else-len-limit-clause-capacity : goal.returns-else-len-limit-clause-capacity
returns-else-len-limit-clause-capacity g c = refl
