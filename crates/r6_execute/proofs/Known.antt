-- What was read of a file of which is known what it has.
use Rattle.std.proofs.Common.{◌≡◌, ◌⊎◌, Bool, true, ℕ, List, Option, None, Some, Ok, IfSome, inl, inr, refl, subst, sym}
use Rattle.std.specs.Prelude.{IsErr}
use Rattle.r6_settings.specs.Settings.{Values, settings_in}
use Rattle.r6_settings.specs.declared.fault.SettingsFault.{SettingsFault}
use Rattle.r6_execute.specs.Commands.{AreWrong, IsSettingsFault}
use Rattle.r6_execute.specs.declared.fault.Fault.{Fault}
use Rattle.r6_execute.specs.declared.fault.Fault.TheVariants.{Memory, Unreadable}
use Rattle.r6_execute.specs.declared.fault.Input.TheVariants as input

-- what holds of the text that was read holds of the bytes of the file
pub of_file : (P : List ℕ → Type 0) (known : Option (List ℕ)) (text : List ℕ) → IfSome known (λ held. text ≡ held) → P text → IfSome known P
of_file P None text read holds = tt
of_file P (Some held) text read holds = subst P read holds

-- the same text, as a slice
pub same_read : (known : Option (List ℕ)) (bytes text : List ℕ) → text ≡ bytes → IfSome known (λ held. bytes ≡ held) → IfSome known (λ held. text ≡ held)
same_read known bytes text same read = subst (λ (these : List ℕ). IfSome known (λ held. these ≡ held)) (sym same) read

-- settings that can't be read
pub unread_settings : (with_devices : Bool) (known : Option (List ℕ)) (fault : Fault) → (fault ≡ Memory) ⊎ (fault ≡ Unreadable input.Settings)
    → IsSettingsFault with_devices known fault
unread_settings with_devices known fault (inl memory) = subst (IsSettingsFault with_devices known) (sym memory) tt
unread_settings with_devices known fault (inr unread) = subst (IsSettingsFault with_devices known) (sym unread) refl

-- settings that are right are not wrong
pub never_wrong : (known : Option (List ℕ)) (values : Values) → IfSome known (λ held. settings_in true held ≡ Ok values) → AreWrong true known → ⊥
never_wrong None values right wrong = wrong
never_wrong (Some text) values right wrong = let none : IsErr {E = SettingsFault} (Ok values) = subst IsErr right wrong in cc
