-- Tokens of no command that is out.
use Rattle.std.proofs.Common.{◌≡◌, ℕ, ◌+◌, inl, inr, ap, ◌∙◌, arith, Option, Some, None}
use Rattle.std.proofs.lemmas.Bool.{cases_eq}
use Rattle.r6_world.proofs.Tables.{put-same, put-other}
use Rattle.r6_world.specs.declared.values.Command.{Command}
use Rattle.r6_exchange.specs.declared.completion.Completion.{Completion}
use Rattle.r6_shard.specs.Performing.{Performer, Receives, having_sent}
use Rattle.r6_engine.specs.remote.Remotes.{AreUnused}

pub same-unused : (old new : Performer) (token : ℕ) → new.out ≡ old.out → AreUnused old token → AreUnused new token
same-unused old new token e x = λ later above. ap (λ (f : ℕ → Option Command). f later) e ∙ x later above

pub sent-unused : (old new : Performer) (c : Command) → new ≡ having_sent old c → AreUnused old c.token → AreUnused new (c.token + 1)
sent-unused old new c e x = λ later above.
    ap (λ (p : Performer). p.out later) e ∙ put-other old.out c.token (Some c) later (λ e'. omega (arith, above, e')) ∙ x later (omega (arith, above))

pub received-unused : (old new : Performer) (a : Completion) (token : ℕ) → Receives old new a → AreUnused old token → AreUnused new token
received-unused old new a token r x = λ later above. ap (λ (f : ℕ → Option Command). f later) r.out ∙ elim (cases_eq later a.token) [
  | inl e ↦ put-same old.out a.token None later e
  | inr ne ↦ put-other old.out a.token None later ne ∙ x later above
]
