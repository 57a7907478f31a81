use Rattle.std.proofs.Common.{length, sym, refl}
use Rattle.r6_recover.proofs.RowLaws.{IsFullRow-row_of, data_of-row_of, MeetsEquations-full_row, IsFullRow-equations}
use Rattle.r6_recover.proofs.laws.full_row_law.Goals as goal

pub returns : goal.returns
returns c = record {
  by_equations = λ m len row. (MeetsEquations-full_row m len row, IsFullRow-equations m len row);
  row_of_data = λ len data' all. ((IsFullRow-row_of (length data') len data' refl all).full, data_of-row_of (length data') len data' refl);
  of_its_data = λ len row full. sym full.parities;
}
