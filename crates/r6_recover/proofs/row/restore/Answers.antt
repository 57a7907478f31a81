use Rattle.std.proofs.Common.{◌≡◌, ◌↔◌, ◌≤◌, ◌++◌, ℕ, List, length, take, drop, sym, ap, subst, ◌∙◌, arith, OnOk, OnErr, IsErr}
use Rattle.std.specs.List.{All}
use Rattle.r6_recover.specs.Known.{AreTooMany}
use Rattle.r6_recover.specs.Restores.{AgreeAtKnown, BecomesFullRow, HaveSameLengths}
use Rattle.r6_recover.proofs.ParityWrites.{whole}
use Rattle.r6_recover.proofs.row.restore.Goals as goal

-- ---- the blocks that a slice of them becomes

carried : (P : List (List ℕ) → List (List ℕ) → Type 0) (n : ℕ) (old row new rest : List (List ℕ)) → old ≡ row → length new ≡ n → P old new → P row (take n (new ++ rest))
carried P n old row new rest same all h = subst (P row) (sym (whole n new rest all)) (subst (λ (blocks : List (List ℕ)). P blocks new) same h)

least : (n : ℕ) → 4 ≤ n → 2 ≤ n
least n four = omega (arith, four)

pub restore_unknown-requires-clause-count : goal.restore_unknown-requires-clause-count
restore_unknown-requires-clause-count c =
    subst (λ (blocks : List (List ℕ)). 2 ≤ length blocks) (sym c.as_mut_slice.ensures.value) (least (length c.row.inside.blocks.items) c.row.invariant.at_least)

pub restore_unknown-requires-clause-few : goal.restore_unknown-requires-clause-few
restore_unknown-requires-clause-few c = subst (λ (blocks : List (List ℕ)). length blocks ≤ 32) (sym c.as_mut_slice.ensures.value) c.row.invariant.at_most

pub restore_unknown-requires-clause-long : goal.restore_unknown-requires-clause-long
restore_unknown-requires-clause-long c =
    subst (λ (blocks : List (List ℕ)). All (λ block. length block ≡ length c.row.inside.sum) blocks) (sym c.as_mut_slice.ensures.value) c.row.invariant.long

pub invariant_of-row : goal.invariant_of-row
invariant_of-row c =
    let new : List (List ℕ) = c.restore_unknown.new.blocks in
    let all = whole c.row.inside.blocks.len new (drop (length new) c.row.inside.blocks.items) (c.restore_unknown.auto.blocks ∙ c.as_mut_slice.ensures.len) in
    let count = c.restore_unknown.ensures.lengths.count ∙ ap length c.as_mut_slice.ensures.value in
    record {
      at_least = subst (λ (blocks : List (List ℕ)). 4 ≤ length blocks) (sym all) (subst (λ (n : ℕ). 4 ≤ n) (sym count) c.row.invariant.at_least);
      at_most = subst (λ (blocks : List (List ℕ)). length blocks ≤ 32) (sym all) (subst (λ (n : ℕ). n ≤ 32) (sym count) c.row.invariant.at_most);
      long = subst (λ (blocks : List (List ℕ)). All (λ block. length block ≡ length c.restore_unknown.new.sum) blocks) (sym all)
          (subst (λ (len : ℕ). All (λ block. length block ≡ len) c.restore_unknown.new.blocks) (sym c.restore_unknown.ensures.sum_length) c.restore_unknown.ensures.long);
      weighted = c.restore_unknown.ensures.weighted_length ∙ c.row.invariant.weighted ∙ sym c.restore_unknown.ensures.sum_length;
    }

pub returns-clause-refused : goal.returns-clause-refused
returns-clause-refused c =
    subst (λ (blocks : List (List ℕ)). IsErr c.restore_unknown.result ↔ AreTooMany c.args.known (length blocks)) (c.as_mut_slice.ensures.value ∙ c.row.view_is) c.restore_unknown.ensures.refused

pub returns-clause-err : goal.returns-clause-err
returns-clause-err c =
    carried (λ old new. OnErr c.restore_unknown.result (new ≡ old)) c.row.inside.blocks.len c.as_mut_slice.result.now c.args.row.now c.restore_unknown.new.blocks
    (drop (length c.restore_unknown.new.blocks) c.row.inside.blocks.items) (c.as_mut_slice.ensures.value ∙ c.row.view_is) (c.restore_unknown.auto.blocks ∙ c.as_mut_slice.ensures.len) c.restore_unknown.ensures.err

pub returns-clause-restored : goal.returns-clause-restored
returns-clause-restored c =
    carried (λ old new. OnOk c.restore_unknown.result (BecomesFullRow c.args.known old new)) c.row.inside.blocks.len c.as_mut_slice.result.now c.args.row.now c.restore_unknown.new.blocks
    (drop (length c.restore_unknown.new.blocks) c.row.inside.blocks.items) (c.as_mut_slice.ensures.value ∙ c.row.view_is) (c.restore_unknown.auto.blocks ∙ c.as_mut_slice.ensures.len) c.restore_unknown.ensures.restored

pub returns-clause-kept : goal.returns-clause-kept
returns-clause-kept c =
    carried (λ old new. AgreeAtKnown c.args.known new old) c.row.inside.blocks.len c.as_mut_slice.result.now c.args.row.now c.restore_unknown.new.blocks
    (drop (length c.restore_unknown.new.blocks) c.row.inside.blocks.items) (c.as_mut_slice.ensures.value ∙ c.row.view_is) (c.restore_unknown.auto.blocks ∙ c.as_mut_slice.ensures.len) c.restore_unknown.ensures.kept

pub returns-clause-lengths : goal.returns-clause-lengths
returns-clause-lengths c =
    carried HaveSameLengths c.row.inside.blocks.len c.as_mut_slice.result.now c.args.row.now c.restore_unknown.new.blocks
    (drop (length c.restore_unknown.new.blocks) c.row.inside.blocks.items) (c.as_mut_slice.ensures.value ∙ c.row.view_is) (c.restore_unknown.auto.blocks ∙ c.as_mut_slice.ensures.len) c.restore_unknown.ensures.lengths
