-- What a report is charged, to whom and for whom. Assumes nothing.
use Rattle.std.specs.Prelude.{ℕ, Bool, List, [], Some, None, Err, Option, Result}
use Rattle.sheets.specs.declared.fault.Fault.{Fault}
use Rattle.reference.specs.Meaning.{Sheets}
use Rattle.reports.specs.declared.report.Report.{Report}
use Rattle.reports.specs.declared.report.Side.{Side}
use Rattle.reports.specs.declared.report.Side.TheVariants.{Deliverer, Receiver}
use Rattle.reports.specs.declared.report.Failing.{Failing}
use Rattle.reports.specs.declared.report.Failing.TheVariants.{OnlyDeliverer, OnlyReceiver, Both}
use Rattle.calculation.specs.declared.charge.Figure.{Figure}
use Rattle.calculation.specs.declared.charge.Charge.{Charge}
use Rattle.calculation.specs.declared.charge.Charges.{Charges}
use Rattle.calculation.specs.declared.charge.Charges.TheVariants.{One, Two}
use Rattle.calculation.specs.Steps.{Steps, gives, ◌>>=◌, result_of, reads_of, Read}
use Rattle.calculation.specs.Penalties.{penalty}
use Rattle.reports.specs.Terms.{Terms}
use Rattle.reports.specs.Reports.{report_refusal, report_terms, failing_of, used_days}

abbrev pub charge_of : Terms → Side → Figure → Charge
charge_of t Deliverer f = record { failing = t.deliverer; other = t.receiver; currency = f.currency; amount = f.amount }
charge_of t Receiver f = record { failing = t.receiver; other = t.deliverer; currency = f.currency; amount = f.amount }

-- the charge of one side
abbrev pub charging_side : List Bool → Terms → Side → List ℕ → Steps Charge
charging_side opted t side days = penalty opted t side days >>= (λ f. gives (charge_of t side f))

abbrev pub charging_one : List Bool → Terms → Side → List ℕ → Steps Charges
charging_one opted t side days = charging_side opted t side days >>= (λ c. gives (One c))

-- one charge for each side that fails, the deliverer's first
abbrev pub charging : List Bool → Terms → Failing → List ℕ → Steps Charges
charging opted t OnlyDeliverer days = charging_one opted t Deliverer days
charging opted t OnlyReceiver days = charging_one opted t Receiver days
charging opted t Both days =
    charging_side opted t Deliverer days >>= (λ c. charging_side opted t Receiver days >>= (λ e. gives (Two c e)))

-- a refusal, or else what follows
abbrev pub unless : {A : Type 0} → Option Fault → A → (Fault → A) → A
unless None a refuse = a
unless (Some f) a refuse = refuse f

-- the steps of a report that is not refused
abbrev pub steps_of : List Bool → List Bool → Report → Steps Charges
steps_of marks opted r = charging opted (report_terms r) (failing_of r.cause) (used_days marks r.cause)

-- the charges of a report, or the first fault
abbrev pub charges_of : List Bool → List Bool → Sheets → Report → Result Charges Fault
charges_of marks opted m r = unless (report_refusal marks r) (result_of m (steps_of marks opted r)) Err

-- what a report reads
abbrev pub charges_reads : List Bool → List Bool → Sheets → Report → List Read
charges_reads marks opted m r = unless (report_refusal marks r) (reads_of m (steps_of marks opted r)) (λ f. [])
