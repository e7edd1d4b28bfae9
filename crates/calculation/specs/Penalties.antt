-- One penalty's penalty.
use Rattle.std.specs.Prelude.{ℕ, ◌+◌, ◌-◌, ◌*◌, ◌/◌, Bool, true, false, cond, not, ◌&&◌, ◌||◌, List, [], ◌∷◌, Some, None, Ok, Option, Result, ◌==◌, nat_lt, slice_index_or}
use Rattle.sheets.specs.declared.sheet.SecuritySheet.{SecuritySheet}
use Rattle.sheets.specs.declared.sheet.CurrencySheet.{CurrencySheet}
use Rattle.reports.specs.declared.report.Kind.{Kind}
use Rattle.reports.specs.declared.report.Kind.TheVariants.{AgainstPayment, FreeOfPayment, WithPayment, PaymentOnly}
use Rattle.reports.specs.declared.report.Side.{Side}
use Rattle.reports.specs.declared.report.Side.TheVariants.{Deliverer, Receiver}
use Rattle.reports.specs.Terms.{Terms}
use Rattle.sheets.specs.declared.fault.Fault.{Fault}
use Rattle.sheets.specs.declared.fault.Rule.TheVariants.{ValueTooLarge}
use Rattle.sheets.specs.declared.fault.Layer.TheVariants.{Calculation}
use Rattle.sheets.specs.Classes.{class_rate}
use Rattle.sheets.specs.Refusals.{fault, when}
use Rattle.sheets.specs.Limits.{greatest_worth}
use Rattle.calculation.specs.declared.charge.Figure.{Figure}
use Rattle.reports.specs.Days.{last_or}
use Rattle.calculation.specs.Rounding.{part}
use Rattle.calculation.specs.Steps.{Steps, gives, too_large, reads_security, reads_currency, ◌>>=◌, and_then}

-- the security part goes by the cash rate where the receiver fails against payment
abbrev pub by_cash_rate : Kind → Side → Bool
by_cash_rate AgainstPayment Receiver = true
by_cash_rate AgainstPayment Deliverer = false
by_cash_rate FreeOfPayment side = false
by_cash_rate WithPayment side = false
by_cash_rate PaymentOnly side = false

abbrev pub has_security_part : Kind → Bool
has_security_part AgainstPayment = true
has_security_part FreeOfPayment = true
has_security_part WithPayment = true
has_security_part PaymentOnly = false

abbrev pub has_cash_part : Kind → Bool
has_cash_part AgainstPayment = false
has_cash_part FreeOfPayment = false
has_cash_part WithPayment = true
has_cash_part PaymentOnly = true

-- the penalty currency's sheet is read for a cash rate, or to turn another currency into a currency that is not the euro
abbrev pub needs_penalty_sheet : Kind → Side → ℕ → ℕ → Bool
needs_penalty_sheet kind side priced currency = (by_cash_rate kind side || has_cash_part kind) || (not (priced == currency) && not (currency == 0))

-- the price currency's sheet is read if it differs and is not the euro
abbrev pub needs_price_sheet : ℕ → ℕ → Bool
needs_price_sheet priced currency = not (priced == currency) && not (priced == 0)

-- a currency's sheet, if it is needed
abbrev pub sheet_if : Bool → ℕ → ℕ → Steps (Option CurrencySheet)
sheet_if needed c d = cond needed (reads_currency c d (λ s. gives (Some s))) (gives None)

-- what a currency is worth, the euro's without a sheet
abbrev pub euro_value : ℕ → Option CurrencySheet → ℕ
euro_value c None = 1000000
euro_value c (Some s) = cond (c == 0) 1000000 s.value

abbrev pub rate_of : Option CurrencySheet → ℕ
rate_of None = 0
rate_of (Some s) = s.rate.number

abbrev pub cash_part : Terms → ℕ → ℕ
cash_part t rate = cond (has_cash_part t.kind) (part (100 * t.cash) rate 1 1) 0

abbrev pub security_rate : Terms → Side → SecuritySheet → Option CurrencySheet → ℕ
security_rate t side s p = cond (by_cash_rate t.kind side) (rate_of p) (class_rate s.class)

-- the euro values of a price's currency and of the penalty currency, both 1 if these are the same
abbrev pub price_value : ℕ → ℕ → Option CurrencySheet → ℕ
price_value priced currency q = cond (priced == currency) 1 (euro_value priced q)

abbrev pub penalty_value : ℕ → ℕ → Option CurrencySheet → ℕ
penalty_value priced currency p = cond (priced == currency) 1 (euro_value currency p)

-- the security part of a worth, by the security's sheet s, the penalty currency's sheet p and the price currency's sheet q
abbrev pub security_part : Terms → Side → ℕ → ℕ → SecuritySheet → Option CurrencySheet → Option CurrencySheet → ℕ
security_part t side currency worth s p q =
    part worth (security_rate t side s p) (price_value s.currency.number currency q) (penalty_value s.currency.number currency p)

-- all parts of one day
abbrev pub parts_of : Terms → Side → ℕ → ℕ → SecuritySheet → Option CurrencySheet → Option CurrencySheet → ℕ
parts_of t side currency worth s p q = security_part t side currency worth s p q + cash_part t (rate_of p)

-- a worth above its limit is a fault
abbrev pub worth_refusal : ℕ → ℕ → ℕ → Option Fault
worth_refusal security day worth = when (nat_lt greatest_worth worth) (fault ValueTooLarge Calculation security day) None

-- the parts of one used day of so many of a security
unfoldable pub day_of_security : Terms → Side → ℕ → ℕ → ℕ → ℕ → Steps ℕ
day_of_security t side currency security quantity day =
    reads_security security day (λ s.
    sheet_if (needs_penalty_sheet t.kind side s.currency.number currency) currency day >>= (λ p.
    sheet_if (needs_price_sheet s.currency.number currency) s.currency.number day >>= (λ q.
    cond (nat_lt greatest_worth (quantity * s.price))
    (too_large security day)
    (gives (parts_of t side currency (quantity * s.price) s p q)))))

abbrev pub day_of_cash : Terms → ℕ → ℕ → Steps ℕ
day_of_cash t currency day = reads_currency currency day (λ p. gives (cash_part t p.rate.number))

abbrev pub day_of : Terms → Side → ℕ → ℕ → Steps ℕ
day_of t side currency day = cond (has_security_part t.kind) (day_of_security t side currency t.security t.quantity day) (day_of_cash t currency day)

-- a sum, with one more amount or its fault
abbrev pub plus : ℕ → Result ℕ Fault → Result ℕ Fault
plus sum r = and_then r (λ a. Ok (sum + a))

-- the sum over the used days
abbrev pub sum_of : (ℕ → Steps ℕ) → List ℕ → Steps ℕ
sum_of one [] = gives 0
sum_of one (d ∷ ds) = one d >>= (λ a. sum_of one ds >>= (λ b. gives (a + b)))

-- the party's depository is opted; its first two digits say which
abbrev pub is_opted : List Bool → ℕ → Bool
is_opted opted party = slice_index_or opted (party / 100 - 10) false

abbrev pub is_free : Kind → Bool
is_free AgainstPayment = false
is_free FreeOfPayment = true
is_free WithPayment = false
is_free PaymentOnly = false

-- the currency where no cash is paid: the krone for a security in krone if a party's depository is opted, else the euro
abbrev pub free_currency : List Bool → Terms → ℕ → ℕ
free_currency opted t priced = cond (priced == 1 && (is_opted opted t.deliverer || is_opted opted t.receiver)) 1 0

-- the penalty's currency
abbrev pub currency_of : List Bool → Terms → List ℕ → Steps ℕ
currency_of opted t days =
    cond (is_free t.kind)
    (reads_security t.security (last_or 0 days) (λ s. gives (free_currency opted t s.currency.number)))
    (gives t.currency)

-- the whole calculation of one side's penalty
unfoldable pub penalty : List Bool → Terms → Side → List ℕ → Steps Figure
penalty opted t side days =
    currency_of opted t days >>= (λ c.
    sum_of (day_of t side c) days >>= (λ a.
    gives (record { currency = c; amount = a })))
