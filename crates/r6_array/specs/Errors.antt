-- Why there is no array, by number (this project's own).
use Rattle.std.specs.Prelude.{ℕ}
use Rattle.r6_array.specs.declared.error.ArrayError.{ArrayError}
use Rattle.r6_array.specs.declared.error.ArrayError.TheVariants.{Window, Lost, NoMemory, NoSuchShard, Begun}

abbrev pub error_number : ArrayError → ℕ
error_number Window = 6
error_number Lost = 7
error_number NoMemory = 8
error_number NoSuchShard = 9
error_number Begun = 10
