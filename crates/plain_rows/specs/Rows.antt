-- What rows mean: the sheet in the first row of a number and day, and the rows after an entry. Assumes nothing.
use Rattle.std.specs.Prelude.{◌≡◌, ℕ, Bool, true, false, ◌&&◌, ◌||◌, List, is_none, Some, None, Option, Result, MatchResult, ◌==◌, slice_set, option_and_then, find, position}
use Rattle.std.specs.List.{list_any}
use Rattle.std.specs.Option.{option_or, option_map_or}
use Rattle.sheets.specs.declared.fault.Fault.{Fault}
use Rattle.sheets.specs.declared.fault.Rule.TheVariants.{NotTaken}
use Rattle.sheets.specs.declared.fault.Layer.TheVariants.{Source}
use Rattle.sheets.specs.declared.sheet.SecuritySheet.{SecuritySheet}
use Rattle.sheets.specs.declared.sheet.CurrencySheet.{CurrencySheet}
use Rattle.sheets.specs.declared.units.Day.{Day}
use Rattle.sheets.specs.Refusals.{fault}
use Rattle.reference.specs.Meaning.{Table}
use Rattle.plain_rows.specs.declared.rows.Row.{Row}

-- a security sheet may stand under any number
abbrev pub any_number : ℕ → SecuritySheet → Bool
any_number k s = true

-- a currency sheet stands under its own currency only
abbrev pub own_number : ℕ → CurrencySheet → Bool
own_number k s = s.currency.number == k

-- a row without a sheet
abbrev pub unused_row : {T : Type 0} → Row T
unused_row = record { number = 0; day = 0; sheet = None }

-- the row of an entry
abbrev pub entry_row : {T : Type 0} → ℕ → ℕ → T → Row T
entry_row k d s = record { number = k; day = d; sheet = Some s }

-- there is a sheet, and it may stand
abbrev pub holds : {T : Type 0} → (T → Bool) → Option T → Bool
holds p None = false
holds p (Some s) = p s

-- the row is an entry of the number k
abbrev pub filed : {T : Type 0} → (ℕ → T → Bool) → ℕ → Row T → Bool
filed stands k r = r.number == k && holds (stands k) r.sheet

-- the row is an entry of the number k and the day d
abbrev pub sits : {T : Type 0} → (ℕ → T → Bool) → ℕ → ℕ → Row T → Bool
sits stands k d r = r.day == d && filed stands k r

-- the row is unused
abbrev pub free : {T : Type 0} → Row T → Bool
free r = is_none r.sheet

-- the sheet of the first row that passes
abbrev pub found : {T : Type 0} → (Row T → Bool) → List (Row T) → Option T
found p rows = option_and_then (λ r. r.sheet) (find p rows)

-- an entry is taken if its number and day have a row, or a row is unused
abbrev pub takes_row : {T : Type 0} → (ℕ → T → Bool) → ℕ → ℕ → List (Row T) → Bool
takes_row stands k d rows = list_any (sits stands k d) rows || list_any free rows

-- an entry reaches its own day only
abbrev pub rows_table : {T : Type 0} → (ℕ → T → Bool) → List (Row T) → Table T
rows_table stands rows = record {
  sheet = λ k d. found (sits stands k d) rows;
  takes = λ k d s. takes_row stands k d rows;
  reach = λ k d s. d;
}

-- an entry goes to the row of its number and day, or else to the first unused row
abbrev pub entry_place : {T : Type 0} → (ℕ → T → Bool) → ℕ → ℕ → List (Row T) → Option ℕ
entry_place stands k d rows = option_or (position (sits stands k d) rows) (position free rows)

-- the rows after an entry
abbrev pub entered_rows : {T : Type 0} → (ℕ → T → Bool) → ℕ → ℕ → T → List (Row T) → List (Row T)
entered_rows stands k d s rows = option_map_or (λ i. slice_set rows i (entry_row k d s)) (entry_place stands k d rows) rows

-- the entry was taken, and reaches to the day e
pub record RowTaken {T : Type 0} (stands : ℕ → T → Bool) (before after : List (Row T)) (k d : ℕ) (s : T) (last e : ℕ) : Type 0 where
  pub asked : takes_row stands k d before ≡ true
  pub day_is : e ≡ last
  pub rows_are : after ≡ entered_rows stands k d s before

-- the entry was not taken, and left the rows as they were
pub record RowRefused {T : Type 0} (stands : ℕ → T → Bool) (before after : List (Row T)) (k d : ℕ) (f : Fault) : Type 0 where
  pub asked : takes_row stands k d before ≡ false
  pub says : f ≡ fault NotTaken Source k d
  pub rows_are : after ≡ before

-- what an entry does to rows, and the last day that it reaches if it is taken
abbrev pub RowEntered : {T : Type 0} → (ℕ → T → Bool) → List (Row T) → List (Row T) → ℕ → ℕ → T → ℕ → Result Day Fault → Type 0
RowEntered stands before after k d s last r = MatchResult r (λ e. RowTaken stands before after k d s last e.number) (RowRefused stands before after k d)

-- the rows after an entry, by what was answered to it
abbrev pub RowsAfter : {T : Type 0} → (ℕ → T → Bool) → List (Row T) → List (Row T) → ℕ → ℕ → T → Result Day Fault → Type 0
RowsAfter stands before after k d s r = MatchResult r (λ _. after ≡ entered_rows stands k d s before) (λ _. after ≡ before)
