-- Why the making of a unit or a sheet is refused: the first rule that is broken. Assumes nothing.
use Rattle.std.specs.Prelude.{◌≡◌, ℕ, Bool, cond, not, ◌||◌, is_some, Some, None, Option, Result, MatchResult, ◌==◌, nat_lt}
use Rattle.sheets.specs.declared.fault.Rule.{Rule}
use Rattle.sheets.specs.declared.fault.Rule.TheVariants.{ValueOutside, NoSuchClass, NoSuchCurrency, RateTooHigh, NoSuchSecurity, NoSuchDay}
use Rattle.sheets.specs.declared.fault.Layer.{Layer}
use Rattle.sheets.specs.declared.fault.Layer.TheVariants.{Sheet}
use Rattle.sheets.specs.declared.fault.Fault.{Fault}
use Rattle.sheets.specs.Classes.{class_of}
use Rattle.sheets.specs.Limits.{last_day, last_security, last_currency, greatest_price, greatest_rate, least_value, greatest_value}

abbrev pub fault : Rule → Layer → ℕ → ℕ → Fault
fault rule layer a b = record { rule = rule; layer = layer; place = (a, b) }

-- the fault if the test holds, else the next refusal
abbrev pub when : Bool → Fault → Option Fault → Option Fault
when b f next = cond b (Some f) next

-- the first refusal, or else the next
abbrev pub or_next : Option Fault → Option Fault → Option Fault
or_next None next = next
or_next (Some f) next = Some f

abbrev pub no_day : ℕ → Bool
no_day d = nat_lt last_day d

abbrev pub no_security : ℕ → Bool
no_security k = k == 0 || nat_lt last_security k

abbrev pub no_currency : ℕ → Bool
no_currency c = nat_lt last_currency c

abbrev pub day_refusal : Layer → ℕ → Option Fault
day_refusal layer d = when (no_day d) (fault NoSuchDay layer d 0) None

abbrev pub security_refusal : Layer → ℕ → Option Fault
security_refusal layer k = when (no_security k) (fault NoSuchSecurity layer k 0) None

abbrev pub security_sheet_refusal : ℕ → ℕ → ℕ → Option Fault
security_sheet_refusal price currency class =
    when (price == 0 || nat_lt greatest_price price) (fault ValueOutside Sheet price 0)
    (when (not (is_some (class_of class))) (fault NoSuchClass Sheet class 0)
    (when (no_currency currency) (fault NoSuchCurrency Sheet currency 0) None))

abbrev pub currency_sheet_refusal : ℕ → ℕ → ℕ → Option Fault
currency_sheet_refusal currency rate value =
    when (nat_lt value (least_value currency) || nat_lt (greatest_value currency) value) (fault ValueOutside Sheet value 0)
    (when (no_currency currency) (fault NoSuchCurrency Sheet currency 0)
    (when (nat_lt greatest_rate rate) (fault RateTooHigh Sheet rate 0) None))

-- A call is refused for the reason that stands first, and otherwise what it made is so.
abbrev pub Answers : {A : Type 0} → Option Fault → Result A Fault → (A → Type 0) → Type 0
Answers why r P = MatchResult r (λ a. (why ≡ None) × P a) (λ f. why ≡ Some f)
