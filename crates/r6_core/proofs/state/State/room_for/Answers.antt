use Rattle.std.proofs.Common.{◌≡◌, ◌≤◌, ◌<◌, ℕ, Bool, true, false, sym, subst, ◌∙◌, refl, inl, inr, arith}
use Rattle.r6_world.specs.ShardStates.{limit}
use Rattle.r6_frames.specs.Calls.{IsHolder, NotHeldBy}
use Rattle.r6_frames.specs.declared.frames.Frames.{Frames}
use Rattle.r6_core.specs.declared.queued.Queued.{Queued}
use Rattle.r6_core.specs.Inside.{IsReadDirectly, IsForBuffer}
use Rattle.r6_core.proofs.state.State.room_for.Goals as goal
use Rattle.r6_core.proofs.state.State.room_for.Goals.{then-is_for_buffer+in-Some+else-tokens-lt-LIMIT, else-is_for_buffer}

pub returns-then-not-is_live : goal.returns-then-not-is_live
returns-then-not-is_live c =
    (omega arith, λ live. let not = c.if-not-is_live.true in let is = c.is_live.ensures.1 live in absurd (cc))

pub is_for_buffer-requires-clause-place : goal.is_for_buffer-requires-clause-place
is_for_buffer-requires-clause-place c = c.requires.place

pub returns-in_default : goal.returns-in_default
returns-in_default c = (omega arith, λ live. inl (refl, c.is_for_buffer.ensures.0 c.if-is_for_buffer.true, c.in_default.ensures))

pub returns-then-tokens-lt-LIMIT : goal.returns-then-tokens-lt-LIMIT
returns-then-tokens-lt-LIMIT c = (
  (c.is_for_buffer.ensures.0 c.if-is_for_buffer.true).0,
  (
    c.is_live.ensures.0 c.if-not-is_live.false,
    (c.is_for_buffer.ensures.0 c.if-is_for_buffer.true).1,
    (subst (λ (n : ℕ). n < limit) c.tokens.ensures c.if-tokens-lt-LIMIT.true, c.in-Some.ensures),
  ),
)

-- what isn't read directly: no read of a position that is in sync, or one that comes at the limit
beyond : (fs : Frames) (q : Queued) → limit ≤ fs.commands.next → IsReadDirectly fs q → ⊥
beyond fs q full direct = omega (arith, full, direct.0)

unsynced : (fs : Frames) (q : Queued) → (IsForBuffer fs q → ⊥) → IsReadDirectly fs q → ⊥
unsynced fs q none direct = none direct.1

no_both : (b : Bool) → b ≡ true → b ≡ false → ⊥
no_both b is not = let e : true ≡ false = sym is ∙ not in absurd (cc)

pub returns-in-Some-holder : goal.returns-in-Some-holder
returns-in-Some-holder c = (
  omega (arith, c.in-Some-holder.ensures.0),
  λ live.
      inr (
        elim c.if-is_for_buffer.branch [
          | then-is_for_buffer+in-Some+else-tokens-lt-LIMIT w ↦ beyond c.args.self.now.frames c.args.queued.now (subst (λ (n : ℕ). limit ≤ n) w.tokens.ensures w.if-tokens-lt-LIMIT.false)
          | else-is_for_buffer w ↦ unsynced c.args.self.now.frames c.args.queued.now (λ synced. no_both _ (c.is_for_buffer.ensures.1 synced) w.if-is_for_buffer.false)
        ],
        inl (subst (λ (row : ℕ). IsHolder c.args.self.now.frames row c.in-Some-holder.holder) c.requires.place.row c.in-Some-holder.ensures),
      ),
)

pub returns-in-Some-free_frame : goal.returns-in-Some-free_frame
returns-in-Some-free_frame c = (
  elim c.if-is_for_buffer.branch [
    | then-is_for_buffer+in-Some+else-tokens-lt-LIMIT w ↦ beyond c.args.self.now.frames c.args.queued.now (subst (λ (n : ℕ). limit ≤ n) w.tokens.ensures w.if-tokens-lt-LIMIT.false)
    | else-is_for_buffer w ↦ unsynced c.args.self.now.frames c.args.queued.now (λ synced. no_both _ (c.is_for_buffer.ensures.1 synced) w.if-is_for_buffer.false)
  ],
  (c.is_live.ensures.0 c.if-not-is_live.false, c.in-Some-free_frame.ensures, subst (NotHeldBy c.args.self.now.frames) c.requires.place.row c.in_default-holder.ensures),
)

pub returns-in-None : goal.returns-in-None
returns-in-None c = (
  omega arith,
  λ live.
      inr (
        elim c.if-is_for_buffer.branch [
          | then-is_for_buffer+in-Some+else-tokens-lt-LIMIT w ↦ beyond c.args.self.now.frames c.args.queued.now (subst (λ (n : ℕ). limit ≤ n) w.tokens.ensures w.if-tokens-lt-LIMIT.false)
          | else-is_for_buffer w ↦ unsynced c.args.self.now.frames c.args.queued.now (λ synced. no_both _ (c.is_for_buffer.ensures.1 synced) w.if-is_for_buffer.false)
        ],
        inr (refl, c.in-None.ensures),
      ),
)

pub is_for_buffer-requires-clause-sound : goal.is_for_buffer-requires-clause-sound
is_for_buffer-requires-clause-sound c = c.requires.sound

pub is_for_buffer-requires-clause-request : goal.is_for_buffer-requires-clause-request
is_for_buffer-requires-clause-request c = c.requires.request
