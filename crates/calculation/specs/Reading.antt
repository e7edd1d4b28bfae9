-- A penalty depends on what it reads, and on nothing else of a source.
use Rattle.std.specs.Prelude.{◌≡◌, Bool, List, [], ◌∷◌, Result}
use Rattle.reference.specs.Meaning.{Sheets}
use Rattle.sheets.specs.declared.fault.Fault.{Fault}
use Rattle.reports.specs.declared.report.Report.{Report}
use Rattle.calculation.specs.declared.charge.Charges.{Charges}
use Rattle.calculation.specs.Steps.{Read, of_security, of_currency}
use Rattle.calculation.specs.Charging.{charges_of, charges_reads}

-- two sources have the same sheet there, or both have none
abbrev pub SameAt : Sheets → Sheets → Read → Type 0
SameAt m n (of_security k d) = n.securities k d ≡ m.securities k d
SameAt m n (of_currency k d) = n.currencies k d ≡ m.currencies k d

-- they agree at each of the reads
abbrev pub AgreeOn : Sheets → Sheets → List Read → Type 0
AgreeOn m n [] = Unit {0}
AgreeOn m n (r ∷ rs) = SameAt m n r × AgreeOn m n rs

-- A charge depends on nothing of the source but the sheets at its reads: over any other sheets that agree there, the same is
-- read and the answer is r.
abbrev pub DependsOnReads : List Bool → List Bool → Sheets → Report → Result Charges Fault → Type 0
DependsOnReads marks opted m report r =
    (n : Sheets) → AgreeOn m n (charges_reads marks opted m report)
    → (charges_of marks opted n report ≡ r) × (charges_reads marks opted n report ≡ charges_reads marks opted m report)
