-- Passes that are split from the first pass of a register begin its shards.
use Rattle.std.proofs.Common.{arith, ◌≡◌, ◌∙◌, ◌++◌, ◌∷◌, ◌<◌, ℕ, List, [], ap, below_more, length, refl, slice_index_or, subst, sym}
use Rattle.std.proofs.Math.Seq.{get_or-append_seam}
use Rattle.std.proofs.lemmas.List.{get_or_append_left, length-append}
use Rattle.r6_layout.specs.Shape.{Shape}
use Rattle.r6_health.specs.declared.history.View.{View}
use Rattle.r6_health.specs.declared.pass.Pass.{Pass}
use Rattle.r6_health.specs.declared.register.Register.{Register}
use Rattle.r6_health.specs.Histories.{start_losing}
use Rattle.r6_health.specs.Registers.{starting}
use Rattle.r6_health.specs.Views.{first_of, newcomer}
use Rattle.r6_shard.specs.Beginnings.{IsFirstPass}
use Rattle.r6_engine.specs.Openings.{having_given}
use Rattle.r6_engine_tests.specs.Passes.{AreFirst, IsFirst}

-- the one that is split once as many names were given as there are shards before its own
pub next_first : (geometry : Shape) (number : ℕ) (v w : View)
    → v ≡ having_given number (first_of (start_losing geometry.slots geometry.shards 0)) → w ≡ newcomer v
    → IsFirstPass geometry number (starting 0) w
next_first geometry number v w is new =
    subst (IsFirstPass geometry number (starting 0)) (sym (new ∙ ap newcomer is))
    (record { name = refl; next = refl; slots = refl; shards = refl; began = refl; seen = refl; mine = refl })

pub one_more : (register : Register) (geometry : Shape) (passes : List Pass) (pass : Pass) → AreFirst register geometry passes
    → IsFirst register geometry (length passes) pass → AreFirst register geometry (passes ++ pass ∷ [])
one_more register geometry passes pass before is k d below =
    below_more (λ i. IsFirst register geometry i (slice_index_or (passes ++ pass ∷ []) i d)) (length passes)
    (λ i low. subst (IsFirst register geometry i) (sym (get_or_append_left passes (pass ∷ []) d i low)) (before i d low))
    (subst (IsFirst register geometry (length passes)) (sym (get_or-append_seam passes pass [] d)) is) k
    (let long = length-append passes (pass ∷ []) in omega (arith, below, long))

-- what stands at a place of these is the pass of that shard
pub first_at : (register : Register) (geometry : Shape) (passes : List Pass) (number k : ℕ) (pass : Pass)
    → AreFirst register geometry passes → number ≡ k → k < length passes → pass ≡ slice_index_or passes k pass
    → IsFirst register geometry number pass
first_at register geometry passes number k pass are at below is =
    subst (λ n. IsFirst register geometry n pass) (sym at) (subst (IsFirst register geometry k) (sym is) (are k pass below))
