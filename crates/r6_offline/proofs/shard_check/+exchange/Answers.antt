use Rattle.std.proofs.Common.{◌++◌, length, drop, rules, refl, ap, sym, ◌∙◌}
use Rattle.std.specs.List.{flat_map}
use Rattle.r6_offline.specs.ShardChecks.{own_parts}
use Rattle.r6_offline.proofs.CheckLaws.{written}
use Rattle.r6_offline.proofs.ShardLaws.{exchanged_lent, first_fits, no_checks, no_parts_left, rest_left}
use Rattle.r6_offline.proofs.shard_check.+exchange.Goals as goal

pub split_at_mut-own-requires : goal.split_at_mut-own-requires
split_at_mut-own-requires g t c =
    first_fits c.args.parts.now c.args.checks.now c.in-Some.rest.now c.in-Some.first.now c.len.result c.requires c.in-Some.ensures.cases.0
    (c.len.ensures ∙ c.in-Some.first.now.parts.ok.0)

pub exchange-requires : goal.exchange-requires
exchange-requires g t c κs within = (
  search rules,
  (
    search rules,
    rest_left c.args.parts.now c.split_at_mut-own.result.1.now c.args.checks.now c.in-Some.rest.now c.in-Some.first.now c.len.result c.requires
        c.in-Some.ensures.cases.0 (c.len.ensures ∙ c.in-Some.first.now.parts.ok.0) c.split_at_mut-own.ensures.back_len,
  ),
)

pub returns-in_default : goal.returns-in_default
returns-in_default g t c =
    let none = no_checks c.args.checks.now c.in_default.ensures.cases in
    let left = no_parts_left c.args.parts.now (c.requires ∙ ap (λ l. length (flat_map own_parts l)) none) in
    let same = ap (flat_map own_parts) none ∙ sym left in
    record { count = refl {a = length c.args.parts.now}; lent = same; back = sym same; others = rw none tt }

pub returns-in-Some : goal.returns-in-Some
returns-in-Some g t c =
    let is = c.in-Some.ensures.cases.0 in
    let swapped = c.swap_with_slice.ensures in
    let slice = c.as_mut_slice.ensures in
    let cut = c.split_at_mut-own.ensures in
    let first = c.in-Some.first.now in
    let behind = c.exchange.ensures in
    let own = c.swap_with_slice.new.self in
    let all = sym (swapped.len ∙ slice.len) in
    let back = ap (λ l. l ++ c.exchange.new.parts) (swapped.other_after ∙ slice.value) ∙ ap (λ l. first.parts.items ++ l) behind.back ∙ sym (ap (flat_map own_parts) is) in
    record {
      count = ap length back ∙ sym c.requires;
      lent = exchanged_lent c.args.parts.now c.split_at_mut-own.result.0.now c.split_at_mut-own.result.1.now own first.parts.items first.parts.len
          c.exchange.new.checks cut.value swapped.after all behind.lent;
      back = back;
      others = rw is (
        record {
          first = refl;
          end = refl;
          check = refl;
          stretch = refl;
          report = refl;
          places = ap length (written own (drop (length own) first.parts.items) first.parts.len all) ∙ swapped.len ∙ ap length slice.value;
        },
        behind.others,
      );
    }
