-- What carrying comes to, in the words of the rule: the answer is the latest sheet, the reach the greatest. Assumes nothing.
use Rattle.std.specs.Prelude.{◌≡◌, ℕ, ◌+◌, ◌-◌, ◌<◌, ◌≤◌, Some, None, Option}
use Rattle.sheets.specs.Limits.{last_day}

-- r is the greatest day up to e + n, in the year, to which no day after e has a sheet
pub record Greatest {T : Type 0} (t : ℕ → Option T) (n e r : ℕ) : Type 0 where
  pub from : e ≤ r
  pub near : r ≤ e + n
  pub year : r ≤ last_day
  pub bare : (d : ℕ) → e < d → d ≤ r → t d ≡ None
  pub most : (q : ℕ) → q ≤ e + n → q ≤ last_day → ((d : ℕ) → e < d → d ≤ q → t d ≡ None) → q ≤ r

-- s stands at the day b, the latest from d - n to d that has a sheet
pub record LatestAt {T : Type 0} (t : ℕ → Option T) (n d : ℕ) (s : T) (b : ℕ) : Type 0 where
  pub from : d - n ≤ b
  pub by : b ≤ d
  pub there : t b ≡ Some s
  pub bare : (x : ℕ) → b < x → x ≤ d → t x ≡ None

-- the answer is the latest sheet from d - n to d, or none of those days has one
abbrev pub IsLatest : {T : Type 0} → (ℕ → Option T) → ℕ → ℕ → Option T → Type 0
IsLatest t n d None = (x : ℕ) → d - n ≤ x → x ≤ d → t x ≡ None
IsLatest t n d (Some s) = (b : ℕ) × LatestAt t n d s b
