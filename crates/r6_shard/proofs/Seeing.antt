-- In a round the core looks once every call was told.
use Rattle.std.proofs.Common.{◌≡◌, Bool, true, false, inl, inr, sym, ap, subst, ◌∙◌}
use Rattle.r6_health.specs.Passes.{view_of}
use Rattle.r6_world.specs.Registers.{Snapshot}
use Rattle.r6_core.specs.Refusals.{AllTold, HasLookFault, IsFirstFault, look_faults}
use Rattle.r6_core.specs.declared.refusal.Refusal.{Refusal}
use Rattle.r6_core.specs.Shards.{CoreView, world_shard}
use Rattle.r6_shard.specs.declared.performs.Performs.{Ghosts}
use Rattle.r6_shard.specs.declared.shard.Shard.{Shard}
use Rattle.r6_shard.specs.New.{MissesPart}
use Rattle.r6_shard.specs.Kept.{NoneIsToTell}
use Rattle.r6_shard.specs.Looked.{seen_by}
use Rattle.r6_shard.specs.Looking.{ReplacesOne, LooksInRound, LooksWhenHere, Sees}

-- a look is refused only where a call is untold
pub untold-first : (core : CoreView) (snapshot : Snapshot) (refusal : Refusal) → ReplacesOne snapshot → IsFirstFault (HasLookFault core snapshot) look_faults refusal
    → AllTold core → ⊥
untold-first core snapshot refusal one fault = elim fault [
  | inl untold ↦ untold.1
  | inr later ↦ elim later.1 [ inl two ↦ absurd (two.1 (one core.shape.slots)) | inr none ↦ absurd none.1 ]
]

pub in-round : {P : Type 0} {g : Ghosts P} (looked : Bool) (old performed told seen new : Shard P g)
    → (g.performer performed.parts).labels ≡ (g.performer old.parts).labels
    → (g.performer told.parts).labels ≡ (g.performer performed.parts).labels
    → told.last ≡ old.last → NoneIsToTell (world_shard told.core)
    → new.pass ≡ seen.pass → new.last ≡ seen.last → LooksWhenHere looked told seen → LooksInRound looked old new
in-round true old performed told seen new labels labels' last none pass last' x = last' ∙ x ∙ ap (λ p. seen_by (view_of p)) (sym pass)
in-round {g = g} false old performed told seen new labels labels' last none pass last' x = (
  last' ∙ x.0 ∙ last,
  elim x.1 [
    | inl untold ↦ absurd (untold none)
    | inr missing ↦
        subst (λ p. MissesPart (g.performer old.parts).labels (seen_by (view_of p))) (sym pass)
        (subst (λ labels. MissesPart labels (seen_by (view_of seen.pass))) (labels' ∙ labels) missing)
  ],
)

-- the pass reads the register, and the core looks at what it saw, unless a call was untold
pub saw-when-here : {P : Type 0} {g : Ghosts P} (looked : Bool) (snapshot : Snapshot) (old read new : Shard P g) → snapshot ≡ seen_by (view_of read.pass)
    → read.core ≡ old.core → read.last ≡ old.last → new.pass ≡ read.pass → Sees looked snapshot read new → LooksWhenHere looked old new
saw-when-here true snapshot old read new is core last pass x = x ∙ is ∙ ap (λ p. seen_by (view_of p)) (sym pass)
saw-when-here {P = P} {g = g} false snapshot old read new is core last pass x = (
  ap (λ (y : Shard P g). y.last) x.1 ∙ last,
  inl (λ told. x.0 (subst AllTold (sym core) told)),
)
