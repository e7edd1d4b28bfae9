-- What a penalty reads, in order, and what it gives: an answer or a fault.
use Rattle.std.specs.Prelude.{◌≡◌, ℕ, List, [], ◌∷◌, Some, None, Ok, Err, Option, Result, MatchResult}
use Rattle.sheets.specs.declared.fault.Fault.{Fault}
use Rattle.sheets.specs.declared.fault.Rule.TheVariants.{SecurityMissing, CurrencyMissing, ValueTooLarge}
use Rattle.sheets.specs.declared.fault.Layer.TheVariants.{Calculation}
use Rattle.sheets.specs.declared.sheet.SecuritySheet.{SecuritySheet}
use Rattle.sheets.specs.declared.sheet.CurrencySheet.{CurrencySheet}
use Rattle.sheets.specs.Refusals.{fault}
use Rattle.reference.specs.Meaning.{Sheets}

-- it gives an answer, finds a worth too large, or reads a sheet and goes on from it
pub data Steps (A : Type 0) : Type 0 where
  gives : A → Steps A
  too_large : ℕ → ℕ → Steps A
  reads_security : ℕ → ℕ → (SecuritySheet → Steps A) → Steps A
  reads_currency : ℕ → ℕ → (CurrencySheet → Steps A) → Steps A

infixl 20 ◌>>=◌
-- one after the other
abbrev pub ◌>>=◌ : {A B : Type 0} → Steps A → (A → Steps B) → Steps B
gives a >>= next = next a
too_large k d >>= next = too_large k d
reads_security k d rest >>= next = reads_security k d (λ s. rest s >>= next)
reads_currency k d rest >>= next = reads_currency k d (λ s. rest s >>= next)

-- a sheet that is found goes on, one that is missing is the fault
abbrev pub found : {S B : Type 0} → Option S → B → (S → B) → B
found None missing next = missing
found (Some s) missing next = next s

-- a result goes on, a fault stays
abbrev pub and_then : {A B : Type 0} → Result A Fault → (A → Result B Fault) → Result B Fault
and_then (Ok a) next = next a
and_then (Err f) next = Err f

-- what the steps come to
abbrev pub result_of : {A : Type 0} → Sheets → Steps A → Result A Fault
result_of t (gives a) = Ok a
result_of t (too_large k d) = Err (fault ValueTooLarge Calculation k d)
result_of t (reads_security k d rest) = found (t.securities k d) (Err (fault SecurityMissing Calculation k d)) (λ s. result_of t (rest s))
result_of t (reads_currency k d rest) = found (t.currencies k d) (Err (fault CurrencyMissing Calculation k d)) (λ s. result_of t (rest s))

-- the steps come to the number of what the code made, or to its fault
abbrev pub ComesTo : {A : Type 0} → (A → ℕ) → Sheets → Steps ℕ → Result A Fault → Type 0
ComesTo number t steps r = MatchResult r (λ a. result_of t steps ≡ Ok (number a)) (λ f. result_of t steps ≡ Err f)

-- a sheet that was asked for: which kind, its number and the day
pub data Read : Type 0 where
  of_security : ℕ → ℕ → Read
  of_currency : ℕ → ℕ → Read

-- what the steps read, up to the first sheet that is missing
abbrev pub reads_of : {A : Type 0} → Sheets → Steps A → List Read
reads_of t (gives a) = []
reads_of t (too_large k d) = []
reads_of t (reads_security k d rest) = of_security k d ∷ found (t.securities k d) [] (λ s. reads_of t (rest s))
reads_of t (reads_currency k d rest) = of_currency k d ∷ found (t.currencies k d) [] (λ s. reads_of t (rest s))
