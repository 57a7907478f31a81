use Rattle.std.proofs.Common.{not, rules, tests, string_bytes, ◌∙◌}
use Rattle.std.proofs.lemmas.Iterator.Consumers.{YieldsList-from_rest}
use Rattle.std.proofs.lemmas.Iterator.Search.{any_from_yields_List}
use Rattle.r6_settings.specs.Keys.{is_key}
use Rattle.r6_settings.proofs.DocumentLemmas.{list_any-unknown}
use Rattle.r6_settings.proofs.document.has_unknown_key.Goals as goal

pub returns : goal.returns
returns c =
    any_from_yields_List (λ key. not (is_key (string_bytes key))) _ _ c.any.result c.any.ensures.ran
    (YieldsList-from_rest _ c.keys.ensures.rest) (λ x b q k. search (rules, tests))
    ∙ list_any-unknown c.args.table.now.entries
