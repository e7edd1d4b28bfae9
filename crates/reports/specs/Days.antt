-- Business days. Assumes nothing.
use Rattle.std.specs.Prelude.{◌≡◌, ℕ, ◌+◌, ◌-◌, Bool, true, false, ◌&&◌, ◌||◌, List, [], ◌∷◌, Option, nat_le, nat_lt, slice_index_or}
use Rattle.std.specs.List.{filter, range_with_len}
use Rattle.reports.specs.declared.report.Span.{Span}
use Rattle.sheets.specs.declared.fault.Fault.{Fault}
use Rattle.sheets.specs.declared.fault.Layer.TheVariants.{Book}
use Rattle.sheets.specs.Refusals.{or_next, day_refusal}

-- a day is a business day by its mark
abbrev pub is_business : List Bool → ℕ → Bool
is_business marks d = slice_index_or marks d false

-- the day is one from the first to before the end
abbrev pub is_within : ℕ → ℕ → ℕ → Bool
is_within first end d = nat_le first d && nat_lt d end

-- why days cannot be opened
abbrev pub opening_refusal : ℕ → ℕ → Option Fault
opening_refusal first last = or_next (day_refusal Book first) (day_refusal Book last)

-- the days from the first to the last are business days now, and the others are as they were
abbrev pub Opened : List Bool → List Bool → ℕ → ℕ → Type 0
Opened before after first last = (d : ℕ) → is_business after d ≡ (is_business before d || is_within first (last + 1) d)

-- the business days among the n days from d on
abbrev pub business_days : List Bool → ℕ → ℕ → List ℕ
business_days marks d n = filter (is_business marks) (range_with_len d n)

-- the business days from d to before the day end
abbrev pub days_between : List Bool → ℕ → ℕ → List ℕ
days_between marks d end = business_days marks d (end - d)

-- the used days of a trade
abbrev pub days_of : List Bool → Span → List ℕ
days_of marks span = days_between marks span.from span.end

-- the last of some days, or else the day d
abbrev pub last_or : ℕ → List ℕ → ℕ
last_or d [] = d
last_or d (e ∷ es) = last_or e es

abbrev pub is_empty : List ℕ → Bool
is_empty [] = true
is_empty (d ∷ ds) = false
