-- The lines that say what is wrong with a settings file. They are this project's own.
use Rattle.std.specs.Prelude.{ℕ, List, ◌++◌, codes, decimal}
use Rattle.r6_layout.specs.Limits.{fault_number}
use Rattle.r6_settings.specs.declared.fault.SettingsFault.{SettingsFault}
use Rattle.r6_settings.specs.declared.fault.SettingsFault.TheVariants.{NotToml, UnknownKey, Value, Geometry, Memory}
use Rattle.r6_settings.specs.Keys.{name_of}

-- how a fault is printed
abbrev pub fault_text : SettingsFault → List ℕ
fault_text NotToml = codes "settings: toml"
fault_text UnknownKey = codes "settings: key"
fault_text (Value key) = codes "settings: " ++ name_of key
fault_text (Geometry limit) = codes "settings: geometry " ++ decimal (fault_number limit)
fault_text Memory = codes "memory"
