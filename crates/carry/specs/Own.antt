-- Carried forward, a currency sheet stands under its own currency. Assumes nothing.
use Rattle.std.specs.Prelude.{◌≡◌, ℕ, zero, suc, ◌-◌, Some, None, Option}
use Rattle.std.specs.Option.{option_or}
use Rattle.sheets.specs.declared.sheet.CurrencySheet.{CurrencySheet}
use Rattle.reference.specs.Meaning.{Table, Each, Own}
use Rattle.carry.specs.Carried.{carried, latest}

either_own : (k : ℕ) (o q : Option CurrencySheet) → Each (λ s. s.currency.number ≡ k) o → Each (λ s. s.currency.number ≡ k) q → Each (λ s. s.currency.number ≡ k) (option_or o q)
either_own k (Some s) q a b = a
either_own k None q a b = b

latest_own : (k : ℕ) (t : ℕ → Option CurrencySheet) → ((d : ℕ) → Each (λ s. s.currency.number ≡ k) (t d)) → (n d : ℕ) → Each (λ s. s.currency.number ≡ k) (latest t n d)
latest_own k t h zero d = h d
latest_own k t h (suc n) d = either_own k (t d) (latest t n (d - 1)) (h d) (latest_own k t h n (d - 1))

pub carried_own : (t : Table CurrencySheet) (n : ℕ) → Own t → Own (carried t n)
carried_own t n h k d = latest_own k (t.sheet k) (h k) n d
