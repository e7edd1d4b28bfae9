-- When a raw number is one of a unit. Assumes nothing.
use Rattle.std.specs.Prelude.{◌≡◌, ℕ, Bool, true, false, ◌||◌, Some, None, Ok, Err, Option, Result, MatchResult, nat_lt}
use Rattle.sheets.specs.declared.units.Outside.{Outside}
use Rattle.sheets.specs.Limits.{first_party, last_party, greatest_rate}

-- nothing, where the number is outside
abbrev pub or_outside : {A : Type 0} → Option A → Result A Outside
or_outside None = Err (record {})
or_outside (Some a) = Ok a

-- The number is refused where it is outside, and otherwise what it made is so.
abbrev pub Numbers : {A : Type 0} → Bool → Result A Outside → (A → Type 0) → Type 0
Numbers outside r P = MatchResult r (λ a. (outside ≡ false) × P a) (λ _. outside ≡ true)

abbrev pub no_party : ℕ → Bool
no_party p = nat_lt p first_party || nat_lt last_party p

abbrev pub no_rate : ℕ → Bool
no_rate n = nat_lt greatest_rate n
