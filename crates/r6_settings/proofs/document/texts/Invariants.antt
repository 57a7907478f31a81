use Rattle.std.proofs.Common.{◌≡◌, ◌++◌, map, option_map, drop, string_bytes}
use Rattle.toml.specs.Data.{as_str}
use Rattle.toml.specs.View.{items_view}
use Rattle.r6_settings.specs.Settings.{each_of}
use Rattle.r6_settings.proofs.document.texts.Given as goal

abbrev pub invariant-loop-item : goal.invariant-loop-item
invariant-loop-item l =
    each_of as_str (items_view l.items) ≡ option_map (λ rest. map string_bytes l.texts.items ++ rest) (each_of as_str (items_view (drop l.item-index l.items)))
