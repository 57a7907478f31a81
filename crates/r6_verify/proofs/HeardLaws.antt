-- What the parts that an ear hears of tell and promise.
use Rattle.std.proofs.Common.{◌≡◌, ℕ, zero, suc, get_or, map, option_map, List, [], ◌∷◌, Option, Some, None, refl}
use Rattle.std.proofs.Math.Path.{fun_ext}
use Rattle.r6_dev.specs.History.{Telling}
use Rattle.r6_dev.specs.Promises.{Promise}
use Rattle.r6_offline.specs.Lent.{promises_of}
use Rattle.r6_offline.specs.Parts.{parts_of}
use Rattle.r6_verify.specs.Heard.{below, promised_below, told_below}
use Rattle.r6_verify.specs.declared.heard.Heard.{Heard}

of_part : {D W T : Type 0} (f : D → T) (part : Option (Heard D W)) → option_map (λ heard. f heard.device) part ≡ option_map f (below part)
of_part f None = refl
of_part f (Some heard) = refl

at : {D W T : Type 0} (f : D → T) (heard : List (Option (Heard D W))) (n : ℕ)
    → option_map (λ heard. f heard.device) (get_or heard n None) ≡ option_map f (get_or (map below heard) n None)
at f [] n = refl
at f (part ∷ heard) zero = of_part f part
at f (part ∷ heard) (suc n) = at f heard n

pub told-below : {D W : Type 0} (told : D → Telling) (heard : List (Option (Heard D W)))
    → parts_of (told_below told) heard ≡ parts_of told (map below heard)
told-below told heard = fun_ext (at told heard)

pub promised-below : {D W : Type 0} (promised : D → Promise) (heard : List (Option (Heard D W)))
    → promises_of (promised_below promised) heard ≡ promises_of promised (map below heard)
promised-below promised heard = fun_ext (at promised heard)
