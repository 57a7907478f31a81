use Rattle.std.proofs.Common.{◌≡◌, ◌≢◌, ◌≤◌, ◌<◌, true, inl, inr, refl, sym, ap, subst, ◌∙◌, arith, length}
use Rattle.r6_layout.specs.Layout.{index_of, row_of, shard_of, slot_at}
use Rattle.r6_layout.specs.Shape.{Shape, blocks}
use Rattle.r6_world.specs.PlainArray.{block_of}
use Rattle.r6_world.specs.Values.{buffer_of, op_of}
use Rattle.r6_core.specs.Refusals.{HasSubmitFault, most_unanswered}
use Rattle.r6_core.specs.Shards.{core_of}
use Rattle.r6_core.specs.declared.refusal.Refusal.TheVariants.{Exhausted}
use Rattle.r6_core.proofs.state.State.admit.Goals.{In-Some, Else-place-shard, Else-len-block, Else-saw_failed, Else-self-ge-LIMIT}
use Rattle.r6_core.proofs.state.State.admit.Goals.{then-tokens-ge-LIMIT-via-then-tokens-ge-LIMIT}
use Rattle.r6_core.proofs.state.State.admit.Goals.{then-tokens-ge-LIMIT-via-else-tokens-ge-LIMIT+then-self-ge-LIMIT}
use Rattle.r6_core.proofs.state.State.admit.Goals as goal

-- ---- none of these is the fault

there : (c : In-Some) → blocks c.args.self.now.frames.geometry ≤ block_of (op_of c.args.op.now) → ⊥
there c beyond =
    let within = subst (λ (shape : Shape). c.block.result < blocks shape) c.geometry.ensures c.in-Some.ensures.within in
    omega (arith, within, c.block.ensures, beyond)

row_is : (c : In-Some) → c.in-Some.place.row ≡ row_of c.args.self.now.frames.geometry (block_of (op_of c.args.op.now))
row_is c = c.in-Some.ensures.row ∙ (λ i. row_of (c.geometry.ensures i) (c.block.ensures i))

shard_is : (c : In-Some) → (let shape = c.args.self.now.frames.geometry in
    c.in-Some.place.shard ≡ shard_of shape (row_of shape (block_of (op_of c.args.op.now))))
shard_is c = c.in-Some.ensures.shard ∙ (λ i. shard_of (c.geometry.ensures i) (row_is c i))

own : (c : Else-place-shard) → c.in-Some.place.shard ≡ c.args.self.now.frames.shard
own c = c.if-place-shard.false ∙ c.shard.ensures

long : (c : Else-len-block) → length (buffer_of c.args.op.now) ≡ c.args.self.now.frames.geometry.block
long c =
    sym (c.len.ensures ∙ ap length c.buffer.ensures) ∙ c.if-len-block.false
    ∙ c.block-2.ensures.value ∙ ap (λ (shape : Shape). shape.block) c.geometry-2.ensures

alive : (c : Else-saw_failed) → c.args.self.now.frames.saw_failed ≢ true
alive c failed = let e = sym c.if-saw_failed.false ∙ c.saw_failed.ensures ∙ failed in cc

-- ---- no block, or that of another shard, or of another length

pub returns-in_default-clause-refused : goal.returns-in_default-clause-refused
returns-in_default-clause-refused c =
    let beyond = subst (λ (shape : Shape). blocks shape ≤ c.block.result) c.geometry.ensures c.in_default.ensures.within in
    inl (refl, omega (arith, beyond, c.block.ensures))

pub returns-then-place-shard-clause-refused : goal.returns-then-place-shard-clause-refused
returns-then-place-shard-clause-refused c =
    let some = (goal.at.returns-then-place-shard-clause-refused c).In-Some in
    inr (there some, inl (refl, λ e. c.if-place-shard.true (shard_is some ∙ e ∙ sym c.shard.ensures)))

pub returns-then-len-block-clause-refused : goal.returns-then-len-block-clause-refused
returns-then-len-block-clause-refused c =
    let at = goal.at.returns-then-len-block-clause-refused c in
    let size = c.block-2.ensures.value ∙ ap (λ (shape : Shape). shape.block) c.geometry-2.ensures in
    inr (
      there at.In-Some,
      inr (
        λ ne. ne (sym (shard_is at.In-Some) ∙ own at.Else-place-shard),
        inl (refl, λ e. c.if-len-block.true (c.len.ensures ∙ ap length c.buffer.ensures ∙ e ∙ sym size)),
      ),
    )

-- ---- no more is taken

pub returns-then-saw_failed-clause-refused : goal.returns-then-saw_failed-clause-refused
returns-then-saw_failed-clause-refused c =
    let at = goal.at.returns-then-saw_failed-clause-refused c in
    inr (
      there at.In-Some,
      inr (
        λ ne. ne (sym (shard_is at.In-Some) ∙ own at.Else-place-shard),
        inr (λ ne. ne (long at.Else-len-block), inl (refl, sym c.saw_failed.ensures ∙ c.if-saw_failed.true)),
      ),
    )

pub returns-then-tokens-ge-LIMIT-clause-refused : goal.returns-then-tokens-ge-LIMIT-clause-refused
returns-then-tokens-ge-LIMIT-clause-refused c =
    let at = goal.at.returns-then-tokens-ge-LIMIT-clause-refused c in
    inr (
      there at.In-Some,
      inr (
        λ ne. ne (sym (shard_is at.In-Some) ∙ own at.Else-place-shard),
        inr (
          λ ne. ne (long at.Else-len-block),
          inr (
            alive at.Else-saw_failed,
            inl (
              refl,
              elim c.then-tokens-ge-LIMIT.branch [
                | then-tokens-ge-LIMIT-via-then-tokens-ge-LIMIT w ↦ inl (omega (arith, c.tokens.ensures, w.if-tokens-ge-LIMIT.true))
                | then-tokens-ge-LIMIT-via-else-tokens-ge-LIMIT+then-self-ge-LIMIT w ↦ inr w.if-self-ge-LIMIT.true
              ],
            ),
          ),
        ),
      ),
    )

room : (c : Else-self-ge-LIMIT)
    → HasSubmitFault (core_of c.args.self.now) c.args.op.now Exhausted → ⊥
room c (inl tokens) = omega (arith, c.tokens.ensures, c.if-tokens-ge-LIMIT.false, tokens)
room c (inr accepted) = omega (arith, c.if-self-ge-LIMIT.false, accepted)

pub returns-then-is_full-clause-refused : goal.returns-then-is_full-clause-refused
returns-then-is_full-clause-refused c =
    let at = goal.at.returns-then-is_full-clause-refused c in
    inr (
      there at.In-Some,
      inr (
        λ ne. ne (sym (shard_is at.In-Some) ∙ own at.Else-place-shard),
        inr (
          λ ne. ne (long at.Else-len-block),
          inr (
            alive at.Else-saw_failed,
            inr (room at.Else-self-ge-LIMIT, inl (refl, c.is_full.ensures.0 c.if-is_full.true)),
          ),
        ),
      ),
    )

-- ---- the request is admitted

pub returns-clause-right : goal.returns-clause-right
returns-clause-right c =
    let at = goal.at.returns-clause-right c in
    let busy : most_unanswered ≤ c.args.self.now.unanswered → ⊥ = λ full. let e = sym c.if-is_full.false ∙ c.is_full.ensures.1 full in cc in (
      there at.In-Some,
      (
        λ ne. ne (sym (shard_is at.In-Some) ∙ own at.Else-place-shard),
        (
          λ ne. ne (long at.Else-len-block),
          (alive at.Else-saw_failed, (room at.Else-self-ge-LIMIT, (busy, tt))),
        ),
      ),
    )

pub returns-clause-place : goal.returns-clause-place
returns-clause-place c =
    let place = c.in-Some.place in
    record {
      row = row_is (goal.at.returns-clause-place c).In-Some;
      index = c.in-Some.ensures.index ∙ (λ i. index_of (c.geometry.ensures i) (c.block.ensures i));
      slot = c.in-Some.ensures.slot ∙ ap (λ (shape : Shape). slot_at shape place.row place.index) c.geometry.ensures;
    }
