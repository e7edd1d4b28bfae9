-- The failing sides are the rule's, if the reasons are lawful.
use Rattle.std.proofs.Common.{◌≡◌, ℕ, ◌+◌, ◌%◌, Bool, true, false, cond, not, ◌&&◌, eqb, ltb, List, is_some, None, Option, refl, ap, arith}
use Rattle.std.proofs.lemmas.Bool.{and_parts, eqb-true, both_ways}
use Rattle.sheets.specs.declared.fault.Fault.{Fault}
use Rattle.sheets.specs.Refusals.{no_day, when, or_next}
use Rattle.reports.specs.declared.report.Failing.TheVariants.{OnlyDeliverer, OnlyReceiver, Both}
use Rattle.reports.specs.declared.report.Cause.{Cause}
use Rattle.reports.specs.declared.report.Cause.TheVariants.{Fail, Late}
use Rattle.reports.specs.Reports.{is_reason, is_odd, is_met, reasons_fit, failing_of, cause_refusal}
use Rattle.reports.specs.WhoFails.{deliverer_in, receiver_in, WhoFails}

-- of an even reason the other side's is odd
met_odd : (own other : ℕ) → is_met own other ≡ true → is_odd own ≡ false → is_odd other ≡ true
met_odd own other h e =
    let one : eqb (other + 1) own ≡ true = rw e at h in
    let same : other + 1 ≡ own = eqb-true (other + 1) own one in
    let even : own % 2 ≡ 1 → ⊥ = λ q. both_ways (eqb (own % 2) 1) e (rw q refl) in
    let odd : other % 2 ≡ 1 = omega arith in
    rw odd refl

lawful : (kind d r : ℕ) → reasons_fit kind d r ≡ true → is_met d r ≡ true
lawful kind d r h = (and_parts (is_met d r) _ (and_parts (is_met d r && is_met r d) _ (and_parts (is_reason d && is_reason r) _ h).1).0).0

by_reasons : (x y : Bool) → (x ≡ false → y ≡ true) → (deliverer_in (cond x (cond y Both OnlyDeliverer) OnlyReceiver) ≡ x) × (receiver_in (cond x (cond y Both OnlyDeliverer) OnlyReceiver) ≡ y)
by_reasons true true h = (refl, refl)
by_reasons true false h = (refl, refl)
by_reasons false true h = (refl, refl)
by_reasons false false h = absurd (both_ways false refl (h refl))

by_times : (x : Bool) → (deliverer_in (cond x OnlyReceiver OnlyDeliverer) ≡ not x) × (receiver_in (cond x OnlyReceiver OnlyDeliverer) ≡ x)
by_times true = (refl, refl)
by_times false = (refl, refl)

-- the second of two tests was passed
passed : (x y : Bool) (f g : Fault) (o : Option Fault) → or_next (when x f None) (when (not y) g o) ≡ None → y ≡ true
passed true y f g o h = absurd (both_ways true (ap is_some h) refl)
passed false true f g o h = refl
passed false false f g o h = absurd (both_ways true (ap is_some h) refl)

-- a report that passes the tests of days and reasons
pub sides : (marks : List Bool) (kind : ℕ) (cause : Cause) → cause_refusal marks kind cause ≡ None → WhoFails cause (failing_of cause)
sides marks kind (Late i m after d r) h = let p = by_times (ltb d r) in record { deliverer = p.0; receiver = p.1 }
sides marks kind (Fail day d r) h =
    let fit : reasons_fit kind d r ≡ true = passed (no_day day) (reasons_fit kind d r) _ _ _ h in
    let p = by_reasons (is_odd d) (is_odd r) (met_odd d r (lawful kind d r fit)) in
    record { deliverer = p.0; receiver = p.1 }
