-- The commands that a core has yet to hand out: one less after each that it hands out.
use Rattle.std.proofs.Common.{◌≡◌, ℕ, zero, suc, ◌^◌, ◌<◌, ◌≤◌, Bool, true, false, cond, not, Option, Some, None, refl, sym, subst, ap, ◌∙◌, inl, inr, arith}
use Rattle.std.proofs.lemmas.Bool.{cases_eq}
use Rattle.r6_world.specs.ShardStates as shards
use Rattle.r6_world.specs.Tables.{count_below}
use Rattle.r6_world.proofs.Tables.{count-same, put-same, put-other}
use Rattle.r6_core.specs.Effects.{HandsCommand}
use Rattle.r6_core.specs.Shards.{CoreView, world_shard}
use Rattle.r6_core.specs.declared.Command.{Command}

abbrev pub is_untaken : Option shards.Command → Bool
is_untaken None = false
is_untaken (Some c) = not c.taken

-- a token has 64 bits
unfoldable pub untaken : CoreView → ℕ
untaken core = count_below (λ t. is_untaken ((world_shard core).command t)) (2 ^ 64)

one_fewer : (p q : ℕ → Bool) (at n : ℕ) → at < n → p at ≡ true → q at ≡ false → ((t : ℕ) → (t ≡ at → ⊥) → q t ≡ p t)
    → count_below q n < count_below p n
one_fewer p q at zero below was now others = absurd (omega (arith, below))
one_fewer p q at (suc n) below was now others =
    elim (cases_eq n at) [
      | inl last ↦
          let same : count_below q n ≡ count_below p n = count-same q p n (λ t under. others t (λ is. omega (arith, under, is, last))) in
          let one : 1 ≤ cond (p n) 1 0 = subst (λ b. 1 ≤ cond b 1 0) (sym (ap p last ∙ was)) (omega arith) in
          let none : cond (q n) 1 0 ≤ 0 = subst (λ b. cond b 1 0 ≤ 0) (sym (ap q last ∙ now)) (omega arith) in
          omega (arith, same, one, none)
      | inr other ↦
          let rest : count_below q n < count_below p n = one_fewer p q at n (omega (arith, below, other)) was now others in
          let same : cond (q n) 1 0 ≤ cond (p n) 1 0 = subst (λ b. cond b 1 0 ≤ cond (p n) 1 0) (sym (others n other)) (omega arith) in
          omega (arith, rest, same)
    ]

pub hands_one : (old new : CoreView) (c : Command) → HandsCommand old c new → c.token < 2 ^ 64 → untaken new < untaken old
unfolding untaken
hands_one old new c handed fits =
    let before = (world_shard old).command in
    let step = handed.3.1 in
    let at = λ (t : ℕ). ap (λ (s : shards.Shard). is_untaken (s.command t)) step.1 in
    one_fewer (λ t. is_untaken (before t)) (λ t. is_untaken ((world_shard new).command t)) c.token (2 ^ 64) fits
    (ap is_untaken step.0.0 ∙ ap not step.0.1)
    (at c.token ∙ ap is_untaken (put-same before c.token _ c.token refl))
    (λ t other. at t ∙ ap is_untaken (put-other before c.token _ t other))
