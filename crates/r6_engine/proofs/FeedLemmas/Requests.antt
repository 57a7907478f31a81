-- Which shard a request goes to.
use Rattle.std.proofs.Common.{◌≡◌, ◌≢◌, ℕ, ◌<◌, ◌≤◌, ◌&&◌, ◌==◌, nat_lt, if◌then◌else◌, Bool, true, false, Some, None, refl, ◌∙◌, ap, arith}
use Rattle.std.proofs.lemmas.Bool.Decides.{nat_tests}
use Rattle.r6_layout.specs.Shape.{Shape, blocks}
use Rattle.r6_layout.specs.Layout.{shard_of, row_of}
use Rattle.r6_world.specs.PlainArray.{block_of}
use Rattle.r6_world.specs.declared.values.Op.{Op}
use Rattle.r6_world.specs.Values.{op_of}
use Rattle.r6_engine.specs.lists.Events.{Request, Serves, duty_of, is_block_of}
use Rattle.r6_engine.specs.feed.Feeds.{NoBlock, asking_of}

in_array : (shape : Shape) (block : ℕ) → block < blocks shape → nat_lt block (blocks shape) ≡ true
in_array shape block within = grind (arith, nat_tests)

outside_array : (shape : Shape) (block : ℕ) → blocks shape ≤ block → nat_lt block (blocks shape) ≡ false
outside_array shape block outside = grind (arith, nat_tests)

duty_by : (shape : Shape) (shard : ℕ) (op : Op) (b : Bool) → is_block_of shape shard (block_of (op_of op)) ≡ b
    → duty_of shape shard (Request op) ≡ if b then Some (Serves op) else None
duty_by shape shard op b is = ap (λ t. if t then Some (Serves op) else None) is

-- its own
pub of_shard : (shape : Shape) (shard : ℕ) (op : Op) → block_of (op_of op) < blocks shape
    → shard_of shape (row_of shape (block_of (op_of op))) ≡ shard → duty_of shape shard (Request op) ≡ Some (Serves op)
of_shard shape shard op within its =
    let same : (shard_of shape (row_of shape (block_of (op_of op))) == shard) ≡ true = grind (arith, nat_tests) in
    duty_by shape shard op true (ap (λ b. b && (shard_of shape (row_of shape (block_of (op_of op))) == shard)) (in_array shape (block_of (op_of op)) within) ∙ same)

both_false : (a b : Bool) → b ≡ false → (a && b) ≡ false
both_false true b is = is
both_false false b is = refl

-- no other
pub of_no_other : (shape : Shape) (shard : ℕ) (op : Op) → shard_of shape (row_of shape (block_of (op_of op))) ≡ shard
    → (other : ℕ) → other ≢ shard → duty_of shape other (Request op) ≡ None
of_no_other shape shard op its other not =
    let differs : (shard_of shape (row_of shape (block_of (op_of op))) == other) ≡ false = grind (arith, nat_tests, not, its) in
    duty_by shape other op false (both_false (nat_lt (block_of (op_of op)) (blocks shape)) _ differs)

-- none, if it is for no block of the array
pub of_no_shard : (shape : Shape) (shard : ℕ) (op : Op) → blocks shape ≤ block_of (op_of op) → duty_of shape shard (Request op) ≡ None
of_no_shard shape shard op outside =
    duty_by shape shard op false
    (ap (λ b. b && (shard_of shape (row_of shape (block_of (op_of op))) == shard)) (outside_array shape (block_of (op_of op)) outside))

pub answered_here : (shape : Shape) (op : Op) → blocks shape ≤ block_of (op_of op) → asking_of shape (Request op) ≡ Some NoBlock
answered_here shape op outside = ap (λ b. if b then None else Some NoBlock) (outside_array shape (block_of (op_of op)) outside)

pub not_answered_here : (shape : Shape) (op : Op) → block_of (op_of op) < blocks shape → asking_of shape (Request op) ≡ None
not_answered_here shape op within = ap (λ b. if b then None else Some NoBlock) (in_array shape (block_of (op_of op)) within)
