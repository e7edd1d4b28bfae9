-- What a reference source means, and what an entry does to it. Assumes nothing.
use Rattle.std.specs.Prelude.{◌≡◌, ℕ, ◌<◌, ◌≤◌, Bool, true, false, cond, ◌||◌, Some, None, Err, Option, Result, MatchResult, ◌≢◌}
use Rattle.sheets.specs.declared.fault.Fault.{Fault}
use Rattle.sheets.specs.declared.fault.Rule.TheVariants.{NotTaken}
use Rattle.sheets.specs.declared.fault.Layer.TheVariants.{Source}
use Rattle.sheets.specs.declared.sheet.SecuritySheet.{SecuritySheet}
use Rattle.sheets.specs.declared.sheet.CurrencySheet.{CurrencySheet}
use Rattle.sheets.specs.declared.units.Day.{Day}
use Rattle.sheets.specs.Limits.{last_day}
use Rattle.sheets.specs.Refusals.{fault, no_day, no_security, no_currency, or_next, day_refusal, security_refusal, security_sheet_refusal, currency_sheet_refusal}
use Rattle.sheets.specs.Made.{SecurityOf, CurrencyOf}

-- One kind of sheet, by number and day: the sheet that is answered, whether an entry would be taken, and the last day that
-- a taken entry reaches.
pub record Table (T : Type 0) : Type 0 where
  pub sheet : ℕ → ℕ → Option T
  pub takes : ℕ → ℕ → T → Bool
  pub reach : ℕ → ℕ → T → ℕ

pub record Meaning : Type 0 where
  pub securities : Table SecuritySheet
  pub currencies : Table CurrencySheet

abbrev pub Each : {T : Type 0} → (T → Type 0) → Option T → Type 0
Each P None = Unit {0}
Each P (Some s) = P s

-- A currency sheet stands under its own currency.
abbrev pub Own : Table CurrencySheet → Type 0
Own t = (k d : ℕ) → Each (λ s. s.currency.number ≡ k) (t.sheet k d)

-- An entry that is taken: the table has the new sheet, and changes only under the entry's number and from its day to the day e.
pub record Taken {T : Type 0} (before after : Table T) (number day : ℕ) (s : T) (e : ℕ) : Type 0 where
  pub asked : before.takes number day s ≡ true
  pub reached : e ≡ before.reach number day s
  pub low : day ≤ e
  pub high : e ≤ last_day
  pub here : after.sheet number day ≡ Some s
  pub other_number : (k d : ℕ) → (k ≢ number) → after.sheet k d ≡ before.sheet k d
  pub earlier : (d : ℕ) → d < day → after.sheet number d ≡ before.sheet number d
  pub later : (d : ℕ) → e < d → d ≤ last_day → after.sheet number d ≡ before.sheet number d

-- An entry that is not taken: the source means what it meant.
pub record Refused (before after : Meaning) (taken : Bool) (number day : ℕ) (f : Fault) : Type 0 where
  pub asked : taken ≡ false
  pub says : f ≡ fault NotTaken Source number day
  pub same : after ≡ before

abbrev pub SecurityEntered : Meaning → Meaning → ℕ → ℕ → SecuritySheet → Result Day Fault → Type 0
SecurityEntered before after number day s r =
    MatchResult r
    (λ e. Taken before.securities after.securities number day s e.number × (after.currencies ≡ before.currencies))
    (Refused before after (before.securities.takes number day s) number day)

abbrev pub CurrencyEntered : Meaning → Meaning → ℕ → CurrencySheet → Result Day Fault → Type 0
CurrencyEntered before after day s r =
    MatchResult r
    (λ e. Taken before.currencies after.currencies s.currency.number day s e.number × (after.securities ≡ before.securities))
    (Refused before after (before.currencies.takes s.currency.number day s) s.currency.number day)

-- What is answered to any numbers: outside the units, none.
pub record Sheets : Type 0 where
  pub securities : ℕ → ℕ → Option SecuritySheet
  pub currencies : ℕ → ℕ → Option CurrencySheet

abbrev pub answers : Meaning → Sheets
answers m = record {
  securities = λ k d. cond (no_security k || no_day d) None (m.securities.sheet k d);
  currencies = λ k d. cond (no_currency k || no_day d) None (m.currencies.sheet k d);
}

-- why an entry with such numbers is refused, before the source is asked
abbrev pub security_entry_refusal : ℕ → ℕ → Option Fault
security_entry_refusal k d = or_next (security_refusal Source k) (day_refusal Source d)

abbrev pub currency_entry_refusal : ℕ → Option Fault
currency_entry_refusal d = day_refusal Source d

-- A call that is refused beforehand changes nothing; any other is as P says.
abbrev pub Unless : Option Fault → Meaning → Meaning → Result Day Fault → Type 0 → Type 0
Unless None before after r P = P
Unless (Some f) before after r P = (r ≡ Err f) × (after ≡ before)

-- An entry of raw numbers: the sheet is made first, then it is entered.
abbrev pub SecurityFiled : Meaning → Meaning → ℕ → ℕ → ℕ → ℕ → ℕ → Result Day Fault → Type 0
SecurityFiled before after number day price currency class r =
    Unless (security_sheet_refusal price currency class) before after r
    ((s : SecuritySheet) × SecurityOf price currency class s × Unless (security_entry_refusal number day) before after r (SecurityEntered before after number day s r))

abbrev pub CurrencyFiled : Meaning → Meaning → ℕ → ℕ → ℕ → ℕ → Result Day Fault → Type 0
CurrencyFiled before after currency day rate value r =
    Unless (currency_sheet_refusal currency rate value) before after r
    ((s : CurrencySheet) × CurrencyOf currency rate value s × Unless (currency_entry_refusal day) before after r (CurrencyEntered before after day s r))
