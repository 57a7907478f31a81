use Rattle.std.proofs.Common.{arith, ◌∙◌, ◌≤◌, ◌*◌, length, sym, ap, subst}
use Rattle.r6_waiters.specs.Keys.{AreClassed}
use Rattle.r6_waiters.specs.Sets.{is_there}
use Rattle.r6_waiters.proofs.waiters.free_places.Goals as goal

pub mark_keys-requires-clause-wide : goal.mark_keys-requires-clause-wide
mark_keys-requires-clause-wide g c = λ class below.
    let enough = c.requires.as_wide class below in
    omega (arith, enough, c.sweep.ensures.few, c.requires.few, c.requires.full)

pub drop_front-requires-clause-empty : goal.drop_front-requires-clause-empty
drop_front-requires-clause-empty g c i below = ap (λ ps. is_there ps i) (sym c.deref.ensures.value) ∙ c.empty_words-words.ensures.empty i below

pub drop_front-requires-clause-within : goal.drop_front-requires-clause-within
drop_front-requires-clause-within g c = subst (λ ps. 64 * c.empty_words-words.result ≤ length ps) c.deref.ensures.value c.empty_words-words.ensures.within

pub sweep-requires-clause-marked : goal.sweep-requires-clause-marked
sweep-requires-clause-marked g c = c.requires.marked

pub sweep-requires-clause-wide : goal.sweep-requires-clause-wide
sweep-requires-clause-wide g c = c.requires.wide

pub mark_keys-requires-clause-many : goal.mark_keys-requires-clause-many
mark_keys-requires-clause-many g c = c.requires.classed.many

pub returns-then-words-limit-clause-marked : goal.returns-then-words-limit-clause-marked
returns-then-words-limit-clause-marked g c = c.drop_front.ensures.marked

pub returns-then-words-limit-clause-classed : goal.returns-then-words-limit-clause-classed
returns-then-words-limit-clause-classed g c = c.drop_front.ensures.classed

pub returns-then-words-limit-clause-same : goal.returns-then-words-limit-clause-same
returns-then-words-limit-clause-same g c = c.drop_front.ensures.same

pub returns-then-words-limit-clause-room : goal.returns-then-words-limit-clause-room
returns-then-words-limit-clause-room g c = omega (arith, c.drop_front.ensures.fewer, c.requires.full, c.if-words-limit.true)

pub returns-then-words-limit-clause-sets : goal.returns-then-words-limit-clause-sets
returns-then-words-limit-clause-sets g c = c.drop_front.ensures.sets

pub returns-then-words-limit-clause-keyed : goal.returns-then-words-limit-clause-keyed
returns-then-words-limit-clause-keyed g c = c.drop_front.ensures.keyed

pub returns-else-words-limit-clause-marked : goal.returns-else-words-limit-clause-marked
returns-else-words-limit-clause-marked g c = c.sweep.ensures.marked

pub returns-else-words-limit-clause-classed : goal.returns-else-words-limit-clause-classed
returns-else-words-limit-clause-classed g c = subst (λ ps. AreClassed g.K.KeyOf.key_of c.mark_keys.new.keyed ps) c.deref-else-words-limit.ensures.value c.mark_keys.ensures.classed

pub returns-else-words-limit-clause-same : goal.returns-else-words-limit-clause-same
returns-else-words-limit-clause-same g c = c.sweep.ensures.same

pub returns-else-words-limit-clause-room : goal.returns-else-words-limit-clause-room
returns-else-words-limit-clause-room g c = omega (arith, c.sweep.ensures.few, c.requires.few)

pub returns-else-words-limit-clause-sets : goal.returns-else-words-limit-clause-sets
returns-else-words-limit-clause-sets g c = c.sweep.ensures.sets

pub returns-else-words-limit-clause-keyed : goal.returns-else-words-limit-clause-keyed
returns-else-words-limit-clause-keyed g c = c.mark_keys.ensures.sets

pub drop_front-requires-clause-marked : goal.drop_front-requires-clause-marked
drop_front-requires-clause-marked g c = c.requires.marked

pub drop_front-requires-clause-classed : goal.drop_front-requires-clause-classed
drop_front-requires-clause-classed g c = c.requires.classed

pub drop_front-requires-clause-wide : goal.drop_front-requires-clause-wide
drop_front-requires-clause-wide g c = c.requires.wide

pub drop_front-requires-clause-as_wide : goal.drop_front-requires-clause-as_wide
drop_front-requires-clause-as_wide g c = c.requires.as_wide
