-- Worked figures, all of the definitions that the calls' contracts cite. Assumes nothing.
use Rattle.std.specs.Prelude.{◌≡◌, ℕ, ◌≤◌, Bool, true, false, cond, List, [], ◌∷◌, replicate, Some, Ok, Err, Result, ◌==◌, slice_set}
use Rattle.std.proofs.Common.{lit≤}
use Rattle.sheets.specs.declared.class.Class.{Class}
use Rattle.sheets.specs.declared.class.Class.TheVariants.{LiquidShare, IlliquidShare, PublicBond}
use Rattle.sheets.specs.declared.fault.Fault.{Fault}
use Rattle.sheets.specs.declared.fault.Rule.TheVariants.{ReasonsUnlawful, NoUsedDay, ValueTooLarge}
use Rattle.sheets.specs.declared.fault.Layer.TheVariants.{Book, Calculation}
use Rattle.sheets.specs.declared.sheet.SecuritySheet.{SecuritySheet}
use Rattle.sheets.specs.declared.sheet.CurrencySheet.{CurrencySheet}
use Rattle.sheets.specs.declared.units.Currency.{Currency}
use Rattle.sheets.specs.declared.units.Rate.{Rate}
use Rattle.sheets.specs.Limits.{greatest_price, last_currency}
use Rattle.sheets.specs.Refusals.{fault}
use Rattle.reference.specs.Meaning.{Sheets}
use Rattle.reports.specs.declared.report.Report.{Report}
use Rattle.reports.specs.declared.report.Cause.{Cause}
use Rattle.reports.specs.declared.report.Cause.TheVariants.{Fail, Late}
use Rattle.reports.specs.Reports.{used_days}
use Rattle.calculation.specs.declared.charge.Charge.{Charge}
use Rattle.calculation.specs.declared.charge.Charges.{Charges}
use Rattle.calculation.specs.declared.charge.Charges.TheVariants.{One, Two}
use Rattle.calculation.specs.Charging.{charges_of}

abbrev pub currency : (number : ℕ) → number ≤ last_currency → Currency
currency number h = record { number = number; limit = h }

abbrev pub cash_rate : Rate
cash_rate = record { number = 6000; limit = lit≤ tt }

-- a price in its limits, in euro (0) or krone (1)
abbrev pub euro_sheet : (price : ℕ) → Class → (1 ≤ price) × (price ≤ greatest_price) → SecuritySheet
euro_sheet price class p = record { price = price; currency = currency 0 (lit≤ tt); class = class; priced = p }

abbrev pub krone_sheet : (price : ℕ) → Class → (1 ≤ price) × (price ≤ greatest_price) → SecuritySheet
krone_sheet price class p = record { price = price; currency = currency 1 (lit≤ tt); class = class; priced = p }

-- both currencies at a cash rate of 0.00006000, the krone worth 0.134000 euro
abbrev pub euro : CurrencySheet
euro = record { currency = currency 0 (lit≤ tt); rate = cash_rate; value = 1000000; valued = (lit≤ tt, lit≤ tt) }

abbrev pub krone : CurrencySheet
krone = record { currency = currency 1 (lit≤ tt); rate = cash_rate; value = 134000; valued = (lit≤ tt, lit≤ tt) }

-- one sheet for every security and day
abbrev pub sheets_with : SecuritySheet → Sheets
sheets_with s = record { securities = λ k d. Some s; currencies = λ k d. cond (k == 0) (Some euro) (Some krone) }

abbrev pub every_day : List Bool
every_day = replicate 372 true

abbrev pub none_opted : List Bool
none_opted = replicate 90 false

-- only that depository is opted
abbrev pub only_opted : ℕ → List Bool
only_opted place = slice_set none_opted place true

-- from party 1001 to party 2002: security 17, or none where only cash is paid
abbrev pub reported : ℕ → ℕ → ℕ → Cause → Report
reported kind quantity cash cause = record {
  instruction = 900001;
  kind = kind;
  deliverer = 1001;
  receiver = 2002;
  security = cond (kind == 4) 0 17;
  quantity = quantity;
  cash = cash;
  currency = 0;
  cause = cause;
}

abbrev pub charged : SecuritySheet → Report → Result Charges Fault
charged s r = charges_of every_day none_opted (sheets_with s) r

abbrev pub deliverer : ℕ → ℕ → Charge
deliverer currency amount = record { failing = 1001; other = 2002; currency = currency; amount = amount }

abbrev pub receiver : ℕ → ℕ → Charge
receiver currency amount = record { failing = 2002; other = 1001; currency = currency; amount = amount }

-- 25.0000 euro, liquid
abbrev pub share : SecuritySheet
share = euro_sheet 250000 LiquidShare (lit≤ tt, lit≤ tt)

-- 1.0000 euro, and one ten-thousandth more
abbrev pub cheap : SecuritySheet
cheap = euro_sheet 10000 LiquidShare (lit≤ tt, lit≤ tt)

abbrev pub dearer : SecuritySheet
dearer = euro_sheet 10001 LiquidShare (lit≤ tt, lit≤ tt)

-- 100.0000 krone, illiquid
abbrev pub danish : SecuritySheet
danish = krone_sheet 1000000 IlliquidShare (lit≤ tt, lit≤ tt)

-- 10.0000 euro, a government bond
abbrev pub bond : SecuritySheet
bond = euro_sheet 100000 PublicBond (lit≤ tt, lit≤ tt)

pub record Figures : Type 0 where
  pub deliverer_fails : charged share (reported 1 1000 2500000 (Fail 40 1 2)) ≡ Ok (One (deliverer 0 250))
  pub receiver_fails : charged share (reported 1 1000 2500000 (Fail 40 2 1)) ≡ Ok (One (receiver 0 150))
  pub free_in_euro : charged danish (reported 2 1000 0 (Fail 40 3 4)) ≡ Ok (One (deliverer 0 67))
  pub deliverer_opted : charges_of every_day (only_opted 0) (sheets_with danish) (reported 2 1000 0 (Fail 40 3 4)) ≡ Ok (One (deliverer 1 500))
  pub receiver_opted : charges_of every_day (only_opted 10) (sheets_with danish) (reported 2 1000 0 (Fail 40 3 4)) ≡ Ok (One (deliverer 1 500))
  pub with_payment : charged bond (reported 3 100 500000 (Fail 40 3 4)) ≡ Ok (One (deliverer 0 31))
  pub payment_only : charged bond (reported 4 0 500000 (Fail 40 3 4)) ≡ Ok (One (deliverer 0 30))
  pub rounded_up : charged cheap (reported 1 50 2500000 (Fail 40 1 2)) ≡ Ok (One (deliverer 0 1))
  pub rounded_down : charged cheap (reported 1 49 2500000 (Fail 40 1 2)) ≡ Ok (One (deliverer 0 0))
  pub both_fail : charged share (reported 1 1000 2500000 (Fail 40 3 3)) ≡ Ok (Two (deliverer 0 250) (receiver 0 150))
  pub neither_fails : charged share (reported 1 1000 2500000 (Fail 40 4 4)) ≡ Err (fault ReasonsUnlawful Book 4 4)
  pub before_cut_off : used_days every_day (Late 40 43 false 100 200) ≡ 40 ∷ 41 ∷ 42 ∷ []
  pub after_cut_off : used_days every_day (Late 40 43 true 100 200) ≡ 40 ∷ 41 ∷ 42 ∷ 43 ∷ []
  pub no_used_day : charged share (reported 1 1000 2500000 (Late 43 43 false 100 200)) ≡ Err (fault NoUsedDay Book 43 43)
  pub largest_worth : charged cheap (reported 1 1000000000 2500000 (Fail 40 1 2)) ≡ Ok (One (deliverer 0 10000000))
  pub worth_too_large : charged dearer (reported 1 1000000000 2500000 (Fail 40 1 2)) ≡ Err (fault ValueTooLarge Calculation 17 40)
