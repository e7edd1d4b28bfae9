-- What an entry does to what the rows mean.
use Rattle.std.proofs.Common.{◌≡◌, ℕ, ◌≤◌, Bool, true, false, List, get_or, set, is_some, Some, None, Ok, Err, Option, Result, sym, refl, ap, ◌∙◌, subst, ⊎_elim, arith}
use Rattle.std.specs.Option.{option_and_then, option_map_or}
use Rattle.std.proofs.lemmas.Bool.{both_ways, and_from, eq-eqb}
use Rattle.std.proofs.lemmas.Bool.Decides.{nat_tests}
use Rattle.std.proofs.lemmas.List.Folds.{find_past}
use Rattle.sheets.specs.declared.fault.Fault.{Fault}
use Rattle.sheets.specs.declared.sheet.SecuritySheet.{SecuritySheet}
use Rattle.sheets.specs.declared.sheet.CurrencySheet.{CurrencySheet}
use Rattle.sheets.specs.declared.units.Day.{Day}
use Rattle.sheets.specs.Limits.{last_day}
use Rattle.reference.specs.Meaning.{Table, Meaning, Taken, SecurityEntered, CurrencyEntered}
use Rattle.plain_rows.specs.declared.rows.Row.{Row}
use Rattle.plain_rows.specs.Rows.{any_number, own_number, sits, free, takes_row, rows_table, entry_place, entry_row, unused_row, entered_rows, RowTaken, RowEntered}
use Rattle.plain_rows.proofs.Found.{Place, place, find_put, sits_once, free_sits, takes_is}

-- the rows once the entry stands at the place i
module _ {T : Type 0} (stands : ℕ → T → Bool) (rows : List (Row T)) (k d : ℕ) (s : T) (i : ℕ) (at : Place (sits stands k d) free rows i) where
  new_sits : stands k s ≡ true → sits stands k d (entry_row k d s) ≡ true
  new_sits may = and_from _ _ (eq-eqb d d refl) (and_from _ _ (eq-eqb k k refl) may)

  new_once : (j e : ℕ) → (j ≡ k → e ≡ d → ⊥) → sits stands j e (entry_row k d s) ≡ false
  new_once j e n = grind (arith, nat_tests)

  old_not : (j e : ℕ) → (j ≡ k → e ≡ d → ⊥) → sits stands j e (get_or rows i unused_row) ≡ false
  old_not j e n =
      ⊎_elim
      (λ h. sits_once stands k d j e (get_or rows i unused_row) h n)
      (λ h. free_sits stands j e (get_or rows i unused_row) h)
      (at.passes unused_row)

  put_elsewhere : (j e : ℕ) → (j ≡ k → e ≡ d → ⊥) → (rows_table stands (set rows i (entry_row k d s))).sheet j e ≡ (rows_table stands rows).sheet j e
  put_elsewhere j e n = ap (option_and_then (λ r. r.sheet)) (find_past (sits stands j e) rows i (entry_row k d s) unused_row (old_not j e n) (new_once j e n))

  put_here : stands k s ≡ true → (rows_table stands (set rows i (entry_row k d s))).sheet k d ≡ Some s
  put_here may = ap (option_and_then (λ r. r.sheet)) (find_put (sits stands k d) (entry_row k d s) (new_sits may) rows i at.first at.within)

module _ {T : Type 0} (stands : ℕ → T → Bool) (rows : List (Row T)) (k d : ℕ) (s : T) (taken : takes_row stands k d rows ≡ true) where
  -- what holds of the rows with the entry at its place holds of the rows after the entry
  at_place : (P : List (Row T) → Type 0) → ((i : ℕ) → Place (sits stands k d) free rows i → P (set rows i (entry_row k d s))) → P (entered_rows stands k d s rows)
  at_place P put = go (entry_place stands k d rows) refl (sym (takes_is stands k d rows) ∙ taken)
    where
      go : (o : Option ℕ) → entry_place stands k d rows ≡ o → is_some o ≡ true → P (option_map_or (λ i. set rows i (entry_row k d s)) o rows)
      go (Some i) e t = put i (place (sits stands k d) free rows i e)
      go None e t = absurd (both_ways false refl t)

  pub elsewhere : (j e : ℕ) → (j ≡ k → e ≡ d → ⊥) → (rows_table stands (entered_rows stands k d s rows)).sheet j e ≡ (rows_table stands rows).sheet j e
  elsewhere j e n = at_place (λ after. (rows_table stands after).sheet j e ≡ (rows_table stands rows).sheet j e) (λ i at. put_elsewhere stands rows k d s i at j e n)

  rows_taken : d ≤ last_day → stands k s ≡ true → Taken (rows_table stands rows) (rows_table stands (entered_rows stands k d s rows)) k d s d
  rows_taken year may = record {
    asked = taken;
    reached = refl;
    low = omega arith;
    high = year;
    here = at_place (λ after. (rows_table stands after).sheet k d ≡ Some s) (λ i at. put_here stands rows k d s i at may);
    other_number = λ j e n. elsewhere j e (λ p q. n p);
    earlier = λ e l. elsewhere k e (λ p q. omega arith);
    later = λ e l y. elsewhere k e (λ p q. omega arith);
  }

-- an entry that is taken, at any last day that is the entry's own
pub row_taken : {T : Type 0} (stands : ℕ → T → Bool) (before after : List (Row T)) (k d : ℕ) (s : T) (e : ℕ) → d ≤ last_day → stands k s ≡ true → RowTaken stands before after k d s d e → Taken (rows_table stands before) (rows_table stands after) k d s e
row_taken stands before after k d s e year may h =
    subst (λ rows. Taken (rows_table stands before) (rows_table stands rows) k d s e) (sym h.rows_are)
    (subst (Taken (rows_table stands before) (rows_table stands (entered_rows stands k d s before)) k d s) (sym h.day_is)
    (rows_taken stands before k d s h.asked year may))

-- the meaning of rows of both kinds
abbrev pub of_tables : Table SecuritySheet → Table CurrencySheet → Meaning
of_tables securities currencies = record { securities = securities; currencies = currencies }

pub plain_security : (before after : List (Row SecuritySheet)) (others : Table CurrencySheet) (k d : ℕ) (s : SecuritySheet) (r : Result Day Fault) → d ≤ last_day → RowEntered any_number before after k d s d r → SecurityEntered (of_tables (rows_table any_number before) others) (of_tables (rows_table any_number after) others) k d s r
plain_security before after others k d s (Ok e) year h = (row_taken any_number before after k d s e.number year refl h, refl)
plain_security before after others k d s (Err f) year h = record { asked = h.asked; says = h.says; same = ap (λ rows. of_tables (rows_table any_number rows) others) h.rows_are }

pub plain_currency : (others : Table SecuritySheet) (before after : List (Row CurrencySheet)) (d : ℕ) (s : CurrencySheet) (r : Result Day Fault) → d ≤ last_day → RowEntered own_number before after s.currency.number d s d r → CurrencyEntered (of_tables others (rows_table own_number before)) (of_tables others (rows_table own_number after)) d s r
plain_currency others before after d s (Ok e) year h = (row_taken own_number before after s.currency.number d s e.number year (eq-eqb s.currency.number s.currency.number refl) h, refl)
plain_currency others before after d s (Err f) year h = record { asked = h.asked; says = h.says; same = ap (λ rows. of_tables others (rows_table own_number rows)) h.rows_are }
