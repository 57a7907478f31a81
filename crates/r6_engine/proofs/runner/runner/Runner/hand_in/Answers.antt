use Rattle.std.proofs.Common.{◌≡◌, ◌<◌, ◌≤◌, ◌+◌, ◌∙◌, ◌++◌, ◌∷◌, [], ℕ, List, ap, arith, length, refl, subst, sym, vec_capacity}
use Rattle.std.specs.Prelude.{option_to_list}
use Rattle.std.proofs.lemmas.List.{append-nil, length_push}
use Rattle.r6_exchange.specs.declared.task.Part.{Part}
use Rattle.r6_shard.specs.Handing.{HandsIn, RefusesPart}
use Rattle.r6_shard.specs.Performing.{Performer}
use Rattle.r6_shard.specs.Sound.{IsSoundIn, TakesSound}
use Rattle.r6_shard.proofs.Going.{either_way}
use Rattle.r6_engine.specs.runner.Runners.{IsPartTaken}
use Rattle.r6_engine.proofs.RunnerLemmas.Parts.{grown, only-looked}
use Rattle.r6_engine.proofs.RunnerLemmas.Keeping.{still-sound}
use Rattle.r6_engine.proofs.RunnerLemmas.Taken.{KeepsRest, keeps-rest, keeps-same, was-clean}
use Rattle.r6_engine.proofs.runner.runner.Runner.hand_in.Goals as goal
use Rattle.r6_engine.proofs.runner.runner.Runner.hand_in.Goals.{in-Ok-Some, in-Ok-None, in-Err}

pub returns-clause-sound : goal.returns-clause-sound
returns-clause-sound g c = λ shape number slot fails x.
    let promised = g.D.BlockDevice.promised in
    let old = c.args.self.now.shard in
    let new = c.hand_in.new.self in
    either_way c.hand_in.result (λ _. TakesSound promised c.args.part old new) (λ r. RefusesPart c.args.part old r new)
    (IsSoundIn shape number slot new) c.hand_in.ensures.sound c.hand_in.ensures.refused
    (λ _ takes. takes shape number slot fails x)
    (λ r refused. still-sound shape number slot old new refused.same x)

pub push_reserved-requires : goal.push_reserved-requires
push_reserved-requires g c =
    let old = c.args.self.now in
    let long = old.others.ok.0 in
    omega (arith, long, old.others_within, old.others_room, c.requires.part_room)

pub push_reserved-requires-in-Err : goal.push_reserved-requires-in-Err
push_reserved-requires-in-Err g c =
    let old = c.args.self.now in
    let long = old.others.ok.0 in
    omega (arith, long, old.others_within, old.others_room, c.requires.part_room)

pub push_reserved-requires-2 : goal.push_reserved-requires-2
push_reserved-requires-2 g c =
    let old = c.args.self.now in
    let long = old.handed.ok.0 in
    omega (arith, long, old.handed_room, c.requires.part_room)

pub returns-clause-handed : goal.returns-clause-handed
returns-clause-handed g c =
    let told = g.D.BlockDevice.told in
    let promised = g.D.BlockDevice.promised in
    let part = c.args.part in
    let self = c.args.self.now in
    let old = self.shard in
    let new = c.hand_in.new.self in
    let others = c.match-hand_in.self.1.1.1.1.1.1.1.1.0 in
    let few : length (g.P.Performs.performer old.parts).labels < (g.P.Performs.performer old.parts).part_room = omega (arith, self.parts_room, c.requires.part_room) in
    let came : (back : List (Part g.row.D.Denot)) × IsPartTaken c.match-hand_in.taken told promised part back old new
    × (others.items ≡ self.others.items ++ back) =
    elim c.match-hand_in.branch [
      | in-Ok-Some w ↦ (
        w.in-Ok-Some.earlier ∷ [],
        subst (λ is. IsPartTaken is told promised part (w.in-Ok-Some.earlier ∷ []) old new) (sym w.taken-is)
            (_, w.in-Ok-Some.ensures.handed, sym (ap option_to_list w.in-Ok-Some.field-0-is)),
        subst (λ s. s.1.1.1.1.1.1.1.1.0.items ≡ self.others.items ++ w.in-Ok-Some.earlier ∷ []) (sym w.self-is) w.push_reserved.ensures.items,
      )
      | in-Ok-None w ↦ (
        [],
        subst (λ is. IsPartTaken is told promised part [] old new) (sym w.taken-is)
            (_, w.in-Ok-None.ensures.handed, sym (ap option_to_list w.in-Ok-None.field-0-is)),
        subst (λ s. s.1.1.1.1.1.1.1.1.0.items ≡ self.others.items ++ []) (sym w.self-is) (sym (append-nil self.others.items)),
      )
      | in-Err w ↦ (
        part ∷ [],
        subst (λ is. IsPartTaken is told promised part (part ∷ []) old new) (sym w.taken-is)
            (w.in-Err.ensures.refused.same, only-looked w.in-Err.refused.refusal part old w.in-Err.ensures.refused.reason few, refl),
        subst (λ s. s.1.1.1.1.1.1.1.1.0.items ≡ self.others.items ++ part ∷ []) (sym w.self-is)
            (w.push_reserved-in-Err.ensures.items ∙ ap (λ (p : Part _). self.others.items ++ p ∷ []) w.in-Err.ensures.refused.back),
      )
    ] in
    record {
      taken = c.match-hand_in.taken;
      back = came.0;
      handed = c.push_reserved-2.ensures.items;
      shard = came.1;
      others = came.2;
      due = refl;
      refused = refl;
      scrub = refl;
      scrubs_done = refl;
      room = refl;
      waits = refl;
      rows = refl;
    }

-- where one is put in, they are at most one more, and their room stays
at-most-one : {A : Type 0} (before after : List A) (x : A) (capacity capacity' : ℕ) → after ≡ before ++ x ∷ [] → capacity' ≡ capacity
    → (length after ≤ length before + 1) × (capacity' ≡ capacity)
at-most-one before after x capacity capacity' more same =
    let long = ap length more ∙ length_push before x in (omega (arith, long), same)

pub invariant_of-self : goal.invariant_of-self
invariant_of-self g c =
    let old = c.args.self.now in
    let new = c.hand_in.new.self in
    let part = c.args.part in
    let others = c.match-hand_in.self.1.1.1.1.1.1.1.1.0 in
    let kept = either_way c.hand_in.result (λ e. HandsIn g.D.BlockDevice.told g.D.BlockDevice.promised part e old.shard new) (λ r. RefusesPart part old.shard r new)
    (KeepsRest old.shard new) c.hand_in.ensures.handed c.hand_in.ensures.refused
    (λ e. keeps-rest g.D.BlockDevice.told g.D.BlockDevice.promised part e old.shard new) (λ r refused. keeps-same old.shard new refused.same) in
    let few : (length others.items ≤ length old.others.items + 1) × (vec_capacity others ≡ vec_capacity old.others) =
    elim c.match-hand_in.branch [
      | in-Ok-Some w ↦
          subst (λ s. (length s.1.1.1.1.1.1.1.1.0.items ≤ length old.others.items + 1) × (vec_capacity s.1.1.1.1.1.1.1.1.0 ≡ vec_capacity old.others))
          (sym w.self-is) (at-most-one old.others.items _ _ _ _ w.push_reserved.ensures.items w.push_reserved.ensures.capacity)
      | in-Ok-None w ↦
          subst (λ s. (length s.1.1.1.1.1.1.1.1.0.items ≤ length old.others.items + 1) × (vec_capacity s.1.1.1.1.1.1.1.1.0 ≡ vec_capacity old.others))
          (sym w.self-is) (omega arith, refl)
      | in-Err w ↦
          subst (λ s. (length s.1.1.1.1.1.1.1.1.0.items ≤ length old.others.items + 1) × (vec_capacity s.1.1.1.1.1.1.1.1.0 ≡ vec_capacity old.others))
          (sym w.self-is) (at-most-one old.others.items _ _ _ _ w.push_reserved-in-Err.ensures.items w.push_reserved-in-Err.ensures.capacity)
    ] in
    let before = g.P.Performs.performer old.shard.parts in
    let now = g.P.Performs.performer new.parts in
    let room = either_way c.hand_in.result (λ e. HandsIn g.D.BlockDevice.told g.D.BlockDevice.promised part e old.shard new) (λ r. RefusesPart part old.shard r new)
    ((length now.labels ≤ length before.labels + 1) × (now.part_room ≡ before.part_room))
    c.hand_in.ensures.handed c.hand_in.ensures.refused
    (λ e h. (grown part e before.labels now.labels h.taken.labels, h.taken.part_room))
    (λ r refused.
    let same : now ≡ before = ap (λ s. g.P.Performs.performer s.parts) refused.same in
    let long = ap (λ (p : Performer). length p.labels) same in
    (omega (arith, long), ap (λ (p : Performer). p.part_room) same)) in
    let asked = ap length kept.asked in
    let handed = ap length c.push_reserved-2.ensures.items ∙ length_push old.handed.items _ in
    let most = few.0 in
    record {
      unskipped = λ clean. old.unskipped (was-clean old.shard new kept clean);
      none_gathered = old.none_gathered;
      within = omega (arith, asked, handed, c.requires.room);
      others_within = omega (arith, most, handed, old.others_within);
      shard_room = subst (λ (room : ℕ). old.room ≤ room) (sym kept.room) old.shard_room;
      due_room = old.due_room;
      refused_room = old.refused_room;
      scrubs_room = old.scrubs_room;
      handed_room = subst (λ (room : ℕ). old.attaches ≤ room) (sym c.push_reserved-2.ensures.capacity) old.handed_room;
      others_room = subst (λ (room : ℕ). old.attaches ≤ room) (sym few.1) old.others_room;
      parts_room = let parts = room.0 in let more = room.1 in omega (arith, parts, more, handed, old.parts_room);
    }
