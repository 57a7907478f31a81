-- What the commands `create` and `verify` print. The words are this project's own.
use Rattle.std.specs.Prelude.{ℕ, [], ◌∷◌, ◌++◌, codes, decimal, Option, None, Some}
use Rattle.r6_layout.specs.Shape.{Shape}
use Rattle.r6_recover.specs.declared.class.RowClass.{RowClass}
use Rattle.r6_recover.specs.declared.class.RowClass.TheVariants.{Consistent, WrongP, WrongQ, WrongData, Many}
use Rattle.r6_offline.specs.declared.report.ClassCounts.{ClassCounts}
use Rattle.r6_offline.specs.declared.report.Report.{Report}
use Rattle.r6_offline.specs.declared.report.WrongRow.{WrongRow}
use Rattle.r6_script.specs.Script.{Text}
use Rattle.r6_script.specs.Texts.{line}

-- as many files as slots
abbrev pub created_text : Shape → Text
created_text shape = line (codes "created" ∷ decimal shape.slots ∷ [])

abbrev pub class_text : RowClass → Text
class_text Consistent = codes "consistent"
class_text WrongP = codes "wrong_p"
class_text WrongQ = codes "wrong_q"
class_text (WrongData index) = codes "wrong_data " ++ decimal index
class_text Many = codes "many"

-- how many rows have each class, in two parts of one line
abbrev pub parities_text : (rows : ℕ) → ClassCounts → Text
parities_text rows counts = codes "rows " ++ decimal rows ++ codes " consistent " ++ decimal counts.consistent
    ++ codes " wrong_p " ++ decimal counts.wrong_p ++ codes " wrong_q " ++ decimal counts.wrong_q

abbrev pub others_text : ClassCounts → Text
others_text counts = codes " wrong_data " ++ decimal counts.wrong_data
    ++ codes " many " ++ decimal counts.many ++ codes " skipped " ++ decimal counts.skipped ++ 10 ∷ []

-- the first row that isn't consistent, if there is one
abbrev pub first_text : Option WrongRow → Text
first_text None = []
first_text (Some wrong) = codes "first " ++ decimal wrong.row ++ codes " " ++ class_text wrong.class ++ 10 ∷ []

abbrev pub report_text : Shape → Report → Text
report_text shape report =
    parities_text shape.rows report.counts ++ others_text report.counts ++ first_text report.first_wrong
