-- Steps come to the same over two sources that agree on what the steps read.
use Rattle.std.proofs.Common.{◌≡◌, Bool, List, [], ◌∷◌, Some, None, Err, Option, Result, sym, refl, ap, ◌∙◌}
use Rattle.sheets.specs.declared.fault.Fault.{Fault}
use Rattle.reference.specs.Meaning.{Sheets}
use Rattle.calculation.specs.Steps.{Steps, gives, too_large, reads_security, reads_currency, found, result_of, of_security, of_currency, reads_of}
use Rattle.calculation.specs.Charging.{unless, charges_of, steps_of}
use Rattle.reports.specs.Reports.{report_refusal}
use Rattle.reports.specs.declared.report.Report.{Report}
use Rattle.calculation.specs.declared.charge.Charges.{Charges}
use Rattle.calculation.specs.Reading.{AgreeOn, DependsOnReads}

module _ (m n : Sheets) where
  -- the same answer and the same reads
  abbrev Same : {A : Type 0} → Steps A → Type 0
  Same p = (result_of n p ≡ result_of m p) × (reads_of n p ≡ reads_of m p)

  -- after one read at which both tables have o
  after : {S A : Type 0} (o : Option S) (f : Fault) (rest : S → Steps A) → AgreeOn m n (found o [] (λ s. reads_of m (rest s))) → ((s : S) → AgreeOn m n (reads_of m (rest s)) → Same (rest s)) → (found o (Err f) (λ s. result_of n (rest s)) ≡ found o (Err f) (λ s. result_of m (rest s))) × (found o [] (λ s. reads_of n (rest s)) ≡ found o [] (λ s. reads_of m (rest s)))
  after None f rest agree each = (refl, refl)
  after (Some s) f rest agree each = each s agree

  same_steps : {A : Type 0} (p : Steps A) → AgreeOn m n (reads_of m p) → Same p
  same_steps (gives a) agree = (refl, refl)
  same_steps (too_large k d) agree = (refl, refl)
  same_steps (reads_security k d rest) agree =
      let both = after (m.securities k d) _ rest agree.1 (λ s. same_steps (rest s)) in
      rw agree.0 (both.0, ap (λ rs. of_security k d ∷ rs) both.1)
  same_steps (reads_currency k d rest) agree =
      let both = after (m.currencies k d) _ rest agree.1 (λ s. same_steps (rest s)) in
      rw agree.0 (both.0, ap (λ rs. of_currency k d ∷ rs) both.1)

  unrefused : {A : Type 0} (o : Option Fault) (p : Steps A) → AgreeOn m n (unless o (reads_of m p) (λ f. [])) → (unless o (result_of n p) Err ≡ unless o (result_of m p) Err) × (unless o (reads_of n p) (λ f. []) ≡ unless o (reads_of m p) (λ f. []))
  unrefused None p agree = same_steps p agree
  unrefused (Some f) p agree = (refl, refl)

pub depends : (marks opted : List Bool) (m : Sheets) (report : Report) (r : Result Charges Fault) → r ≡ charges_of marks opted m report → DependsOnReads marks opted m report r
depends marks opted m report r e n agree =
    let same = unrefused m n (report_refusal marks report) (steps_of marks opted report) agree in
    (same.0 ∙ sym e, same.1)
