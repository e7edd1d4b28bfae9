-- Which days a report uses, in the words of the rule. Assumes nothing.
use Rattle.std.specs.Prelude.{◌≡◌, ℕ, ◌<◌, Bool, false, ◌&&◌, ◌||◌, List, [], ◌∷◌, ◌==◌, nat_le, nat_lt}
use Rattle.reports.specs.declared.report.Cause.{Cause}
use Rattle.reports.specs.declared.report.Cause.TheVariants.{Fail, Late}
use Rattle.reports.specs.Days.{is_business}

-- A fail uses its day. A late match uses the business days from the intended day to the day before the matching day, and the
-- matching day too if it was matched after its cut-off.
abbrev pub is_used : List Bool → Cause → ℕ → Bool
is_used marks (Fail day d r) x = x == day
is_used marks (Late intended matched after d r) x = is_business marks x && (nat_le intended x && (nat_lt x matched || (after && x == matched)))

abbrev pub is_in : ℕ → List ℕ → Bool
is_in x [] = false
is_in x (d ∷ ds) = x == d || is_in x ds

-- every day of the list is after d
abbrev pub AllAfter : ℕ → List ℕ → Type 0
AllAfter d [] = Unit {0}
AllAfter d (e ∷ es) = (d < e) × AllAfter d es

abbrev pub Rising : List ℕ → Type 0
Rising [] = Unit {0}
Rising (d ∷ ds) = AllAfter d ds × Rising ds

-- the list is that of the used days, each once, from the first on
pub record UsedDays (marks : List Bool) (cause : Cause) (days : List ℕ) : Type 0 where
  pub each : (x : ℕ) → is_in x days ≡ is_used marks cause x
  pub rising : Rising days
