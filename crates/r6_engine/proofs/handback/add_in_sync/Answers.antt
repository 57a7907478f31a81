use Rattle.std.proofs.Common.{arith, ◌≡◌, ◌<◌, ◌+◌, ◌∙◌, ◌++◌, [], ◌∷◌, ℕ, List, Some, None, length, ap, sym, append-nil, vec_capacity}
use Rattle.std.proofs.lemmas.List.{length-append}
use Rattle.r6_engine.proofs.InSync.{more-in-sync}
use Rattle.r6_engine.proofs.handback.add_in_sync.Goals as goal
use Rattle.r6_engine.proofs.handback.add_in_sync.Goals.{in-Some, in_default}

pub loop-slot-preserved : goal.loop-slot-preserved
loop-slot-preserved c = elim c.match-in_sync.branch [
  | in-Some w ↦
      let slot = c.loop-slot.slot in
      let old = c.loop-slot.in_sync.items in
      let one : ℕ × ℕ = (slot, w.in-Some.generation) in
      let below : slot < c.args.core.now.shape.slots = omega (arith, c.loop-slot-test.true, c.requires.slots) in
      let now : c.match-in_sync.in_sync.items ≡ old ++ one ∷ [] = ap (λ v. v.items) w.in_sync-is ∙ w.push_reserved.ensures.items in
      let long : length c.match-in_sync.in_sync.items ≡ length old + 1 = ap length now ∙ length-append old (one ∷ []) in
      let room : vec_capacity c.match-in_sync.in_sync ≡ vec_capacity c.loop-slot.in_sync = ap vec_capacity w.in_sync-is ∙ w.push_reserved.ensures.capacity in (
        now ∙ ap (λ (xs : List (ℕ × ℕ)). xs ++ one ∷ []) c.loop-slot.invariant.0
            ∙ sym (more-in-sync c.args.core.now slot (Some w.in-Some.generation) below (sym w.in-Some.is ∙ c.in_sync.ensures)),
        omega (arith, long, c.loop-slot.invariant.1),
        omega (arith, room, c.loop-slot.invariant.2),
      )
  | in_default w ↦
      let slot = c.loop-slot.slot in
      let old = c.loop-slot.in_sync.items in
      let below : slot < c.args.core.now.shape.slots = omega (arith, c.loop-slot-test.true, c.requires.slots) in
      let now : c.match-in_sync.in_sync.items ≡ old = ap (λ v. v.items) w.in_sync-is in
      let long : length c.match-in_sync.in_sync.items ≡ length old = ap length now in
      let room : vec_capacity c.match-in_sync.in_sync ≡ vec_capacity c.loop-slot.in_sync = ap vec_capacity w.in_sync-is in (
        now ∙ sym (append-nil old) ∙ ap (λ (xs : List (ℕ × ℕ)). xs ++ []) c.loop-slot.invariant.0
            ∙ sym (more-in-sync c.args.core.now slot None below (sym w.in_default.is ∙ c.in_sync.ensures)),
        omega (arith, long, c.loop-slot.invariant.1),
        omega (arith, room, c.loop-slot.invariant.2),
      )
]
