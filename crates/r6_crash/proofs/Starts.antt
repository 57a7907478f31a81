-- A start with the register of these lost slots, on devices that hold a list.
use Rattle.std.proofs.Common.{◌≡◌, ℕ, ◌<◌, ◌≤◌, Bool, true, false, inl, inr, refl, sym, ap, ◌∙◌, subst}
use Rattle.std.proofs.lemmas.Bool.{cases_lt}
use Rattle.r6_world.specs.PlainArray.{Array}
use Rattle.r6_world.specs.Layouts.{Layout, IsArray, content}
use Rattle.r6_world.specs.Registers.{Snapshot, InSync, is_out, status_of}
use Rattle.r6_world.specs.Worlds.{Devices}
use Rattle.r6_world.specs.Claims.{IsFresh, IsLawfulStart}
use Rattle.r6_world.specs.Laws.{lost_if}
use Rattle.r6_world.proofs.Tables.{count-same}
use Rattle.r6_crash.specs.Crashes.{IsRegisterOf}

fresh-if : (chosen : Bool) → IsFresh (lost_if chosen)
fresh-if true = record {}
fresh-if false = refl

out-if : (chosen : Bool) → is_out (lost_if chosen) ≡ chosen
out-if true = refl
out-if false = refl

kept-if : (chosen : Bool) → lost_if chosen ≡ InSync 0 → chosen ≡ false
kept-if true e = absurd (cc)
kept-if false e = refl

pub starts : (l : Layout) (lost : ℕ → Bool) (r : Snapshot) → IsRegisterOf l lost r → (device : Devices) (array : Array)
    → IsArray l array
    → ((row slot : ℕ) → row < l.rows → slot < l.slots → lost slot ≡ false → device slot 0 row ≡ content l array row slot)
    → IsLawfulStart l r device array
starts l lost r reg device array sized rows = record {
  many_slots = reg.many_slots;
  fresh = λ slot. elim (cases_lt slot l.slots) [
    | inl inside ↦ subst IsFresh (sym (reg.status slot inside)) (fresh-if (lost slot))
    | inr past ↦ subst IsFresh (sym (reg.no_others slot past)) refl
  ];
  no_others = reg.no_others;
  few_lost =
      subst (λ m. m ≤ 2)
      (sym (count-same (λ d. is_out (status_of r d)) lost l.slots
      (λ slot inside. ap is_out (reg.status slot inside) ∙ out-if (lost slot)))) reg.few;
  no_attach = reg.no_attach;
  not_failed = reg.not_failed;
  sized = sized;
  full_rows = λ row slot low inside e.
      rows row slot low inside (kept-if (lost slot) (sym (reg.status slot inside) ∙ e));
}
