use Rattle.std.proofs.Common.{◌≡◌, ◌∷◌, [], List, Option, false, length, arith, length-append, refl, sym, ap, subst, ◌∙◌}
use Rattle.std.specs.List.{AllByRecursion}
use Rattle.r6_world.specs.declared.values.Op.TheVariants as op
use Rattle.r6_frames.specs.Writes.{Entry}
use Rattle.r6_core.specs.Inside.{JoinedBy}
use Rattle.r6_frames.specs.Writes.{has_index}
use Rattle.std.specs.Global.{Vec}
use Rattle.r6_core.specs.declared.state.State.{State}
use Rattle.r6_core.proofs.Lined.{all_first}
use Rattle.r6_core.proofs.state.State.writes_with.Goals as goal
use Rattle.r6_core.proofs.Passed.{all_last}

-- the room that was taken is empty: the writes are the one that was put in, and those that join it
pub returns-in-Some-near-clause-writes : goal.returns-in-Some-near-clause-writes
returns-in-Some-near-clause-writes c =
    let empty = (all_last (λ (writes : List Entry). writes ≡ []) c.pop.new.self.items (c.in-Some.writes ∷ [])
    (subst (AllByRecursion (λ (writes : List Entry). writes ≡ [])) c.in-Some.ensures.items c.requires.rooms)).0 in
    let one : Entry = record { served = c.args.served; index = c.args.place.now.index; new_data = c.args.buffer } in
    subst (λ (near : Option (List _)). JoinedBy near c.args.self.now (record { id = c.args.served.id; op = op.Write c.args.served.block c.args.buffer }) c.join.result c.join.new.self.waiting) (sym c.in-Some-near.is)
    (c.join.ensures.together one (c.put.ensures ∙ ap (λ (ws : List Entry). one ∷ ws) empty), c.join.ensures.line)

pub returns-in-None-clause-writes : goal.returns-in-None-clause-writes
returns-in-None-clause-writes c =
    let empty = (all_last (λ (writes : List Entry). writes ≡ []) c.pop.new.self.items (c.in-Some.writes ∷ [])
    (subst (AllByRecursion (λ (writes : List Entry). writes ≡ [])) c.in-Some.ensures.items c.requires.rooms)).0 in
    subst (λ (near : Option (List _)). JoinedBy near c.args.self.now (record { id = c.args.served.id; op = op.Write c.args.served.block c.args.buffer }) c.put.new.self c.args.self.now.waiting) (sym c.in-None.is)
    (c.put.ensures ∙ (λ i. (record { served = c.args.served; index = c.requires.place.index i; new_data = c.args.buffer }) ∷ empty i), refl)

pub put-requires-clause-new : goal.put-requires-clause-new
put-requires-clause-new c =
    let empty = (all_last (λ (writes : List Entry). writes ≡ []) c.pop.new.self.items (c.in-Some.writes ∷ [])
    (subst (AllByRecursion (λ (writes : List Entry). writes ≡ [])) c.in-Some.ensures.items c.requires.rooms)).0 in
    subst (λ (writes : List Entry). has_index writes c.args.place.now.index ≡ false) (sym empty) refl

pub join-requires-clause-shape : goal.join-requires-clause-shape
join-requires-clause-shape c = c.requires.shape

pub join-requires-clause-waiting : goal.join-requires-clause-waiting
join-requires-clause-waiting c = c.requires.waiting

pub join-requires-clause-first : goal.join-requires-clause-first
join-requires-clause-first c =
    let empty = (all_last (λ (writes : List Entry). writes ≡ []) c.pop.new.self.items (c.in-Some.writes ∷ [])
    (subst (AllByRecursion (λ (writes : List Entry). writes ≡ [])) c.in-Some.ensures.items c.requires.rooms)).0 in
    let one : Entry = record { served = c.args.served; index = c.args.place.now.index; new_data = c.args.buffer } in
    (one, (c.put.ensures ∙ ap (λ (ws : List Entry). one ∷ ws) empty, refl, c.requires.request, c.requires.place))

pub returns-in-Some-near-clause-fewer : goal.returns-in-Some-near-clause-fewer
returns-in-Some-near-clause-fewer c =
    let rest = ap (λ (x : State). length x.rooms.items) c.join.ensures.rest in
    let all = ap length c.in-Some.ensures.items in
    omega (arith, rest, all, length-append c.pop.new.self.items (c.in-Some.writes ∷ []))

pub returns-in-None-clause-fewer : goal.returns-in-None-clause-fewer
returns-in-None-clause-fewer c = let all = ap length c.in-Some.ensures.items in omega (arith, all, length-append c.pop.new.self.items (c.in-Some.writes ∷ []))

pub returns-in-Some-near-clause-rooms : goal.returns-in-Some-near-clause-rooms
returns-in-Some-near-clause-rooms c =
    subst (λ (x : State). AllByRecursion (λ (writes : List Entry). writes ≡ []) x.rooms.items) (sym c.join.ensures.rest)
    (all_first (λ (writes : List Entry). writes ≡ []) c.pop.new.self.items (c.in-Some.writes ∷ [])
    (subst (AllByRecursion (λ (writes : List Entry). writes ≡ [])) c.in-Some.ensures.items c.requires.rooms))

pub returns-in-None-clause-rooms : goal.returns-in-None-clause-rooms
returns-in-None-clause-rooms c =
    all_first (λ (writes : List Entry). writes ≡ []) c.pop.new.self.items (c.in-Some.writes ∷ [])
    (subst (AllByRecursion (λ (writes : List Entry). writes ≡ [])) c.in-Some.ensures.items c.requires.rooms)

pub returns-in-Some-near-clause-rest : goal.returns-in-Some-near-clause-rest
returns-in-Some-near-clause-rest c =
    let rest = c.join.ensures.rest in
    rest ∙ ap (λ (rooms : Vec (List Entry)). record c.args.self.now { waiting = c.join.new.self.waiting; rooms = rooms }) (sym (ap (λ (x : State). x.rooms) rest))

pub returns-in-None-clause-rest : goal.returns-in-None-clause-rest
returns-in-None-clause-rest c = refl
