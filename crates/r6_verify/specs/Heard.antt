-- Parts that an ear hears of (this project's own).
use Rattle.std.specs.Prelude.{Option, option_map}
use Rattle.r6_dev.specs.History.{Telling}
use Rattle.r6_dev.specs.Promises.{Promise}
use Rattle.r6_verify.specs.declared.heard.Heard.{Heard}

-- the part below, if there is one
abbrev pub below : {D W : Type 0} → Option (Heard D W) → Option D
below part = option_map (λ heard. heard.device) part

-- it tells and promises what the part below does
abbrev pub told_below : {D W : Type 0} → (D → Telling) → Heard D W → Telling
told_below told heard = told heard.device

abbrev pub promised_below : {D W : Type 0} → (D → Promise) → Heard D W → Promise
promised_below promised heard = promised heard.device
