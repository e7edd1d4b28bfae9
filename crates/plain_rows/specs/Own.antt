-- In rows a currency sheet stands under its own currency. Assumes nothing.
use Rattle.std.specs.Prelude.{◌≡◌, ℕ, true, List, [], ◌∷◌, Some, None, Option, ◌==◌}
use Rattle.std.proofs.Common.{⊎_elim}
use Rattle.std.proofs.lemmas.Bool.{cases_Bool, and_parts, eqb-true}
use Rattle.sheets.specs.declared.sheet.CurrencySheet.{CurrencySheet}
use Rattle.reference.specs.Meaning.{Each, Own}
use Rattle.plain_rows.specs.declared.rows.Row.{Row}
use Rattle.plain_rows.specs.Rows.{rows_table, found, sits, holds, own_number}

held_own : (k : ℕ) (o : Option CurrencySheet) → holds (own_number k) o ≡ true → Each (λ s. s.currency.number ≡ k) o
held_own k None h = tt
held_own k (Some s) h = eqb-true s.currency.number k h

row_own : (k d : ℕ) (r : Row CurrencySheet) → sits own_number k d r ≡ true → Each (λ s. s.currency.number ≡ k) r.sheet
row_own k d r h = held_own k r.sheet (and_parts (r.number == k) _ (and_parts (r.day == d) _ h).1).1

found_own : (k d : ℕ) (rows : List (Row CurrencySheet)) → Each (λ s. s.currency.number ≡ k) (found (sits own_number k d) rows)
found_own k d [] = tt
found_own k d (r ∷ rs) = ⊎_elim (λ t. rw t (row_own k d r t)) (λ t. rw t (found_own k d rs)) (cases_Bool (sits own_number k d r))

pub rows_own : (rows : List (Row CurrencySheet)) → Own (rows_table own_number rows)
rows_own rows k d = found_own k d rows
