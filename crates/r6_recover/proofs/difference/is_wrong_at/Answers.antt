use Rattle.std.proofs.Common.{◌≡◌, ◌≢◌, ◌≤◌, ℕ, List, [], length, get_or, ◌∙◌, ap, sym, arith, refl, below_more}
use Rattle.std.proofs.lemmas.Bool.{false≢true}
use Rattle.std.proofs.lemmas.List.{get_or_read}
use Rattle.r6_field.specs.Field.{product, power, generator}
use Rattle.r6_field.proofs.FieldLaws.{power-mod}
use Rattle.r6_recover.specs.Rows.{block_length}
use Rattle.r6_recover.specs.Classes.{p_difference, q_difference}
use Rattle.r6_recover.proofs.ClassLaws.{IsWrongAt-each, not_IsWrongAt}
use Rattle.r6_recover.proofs.difference.is_wrong_at.Goals as goal

pub returns-then-q-mul : goal.returns-then-q-mul
returns-then-q-mul c =
    let blocks : List (List ℕ) = c.args.blocks.now in
    let least : 2 ≤ length blocks = c.requires.count in
    let z : ℕ = c.args.z in
    let place : ℕ = c.loop-at.at in
    let len : c.len-len.result ≡ block_length blocks =
    c.len-len.ensures ∙ ap length (get_or_read blocks 0 c.index-blocks-0.result (omega arith) c.index-blocks-0.is []) in
    let multiple : c.mul.result.0 ≡ product (power generator z) (get_or (p_difference blocks) place 0) =
    c.mul.ensures ∙ (λ j. product ((c.exp-factor.ensures ∙ power-mod z) j) (c.p_difference_at-p.ensures j)) in
    let differs : get_or (q_difference blocks) place 0 ≢ product (power generator z) (get_or (p_difference blocks) place 0) =
    λ same. c.if-q-mul.true (c.q_difference_at-q.ensures ∙ same ∙ sym multiple) in
    (λ no. absurd (false≢true no), λ wrong. absurd (not_IsWrongAt blocks least c.requires.long z place (omega arith) differs wrong))

pub loop-at-preserved : goal.loop-at-preserved
loop-at-preserved c =
    let blocks : List (List ℕ) = c.args.blocks.now in
    let z : ℕ = c.args.z in
    let place : ℕ = c.loop-at.at in
    let multiple : c.mul.result.0 ≡ product (power generator z) (get_or (p_difference blocks) place 0) =
    c.mul.ensures ∙ (λ j. product ((c.exp-factor.ensures ∙ power-mod z) j) (c.p_difference_at-p.ensures j)) in
    below_more (λ k. get_or (q_difference blocks) k 0 ≡ product (power generator z) (get_or (p_difference blocks) k 0)) place
    c.loop-at.invariant
    (sym c.q_difference_at-q.ensures ∙ c.if-q-mul.false ∙ multiple)

pub returns : goal.returns
returns c =
    let blocks : List (List ℕ) = c.args.blocks.now in
    let least : 2 ≤ length blocks = c.requires.count in
    let len : c.len-len.result ≡ block_length blocks =
    c.len-len.ensures ∙ ap length (get_or_read blocks 0 c.index-blocks-0.result (omega arith) c.index-blocks-0.is []) in
    (λ _. IsWrongAt-each blocks least c.requires.long c.args.z (λ k h. c.loop-at.invariant k (omega arith)), λ _. refl)
