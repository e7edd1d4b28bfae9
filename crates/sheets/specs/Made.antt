-- What a sheet holds that was made from raw numbers. Assumes nothing.
use Rattle.std.specs.Prelude.{◌≡◌, ℕ}
use Rattle.sheets.specs.declared.sheet.SecuritySheet.{SecuritySheet}
use Rattle.sheets.specs.declared.sheet.CurrencySheet.{CurrencySheet}
use Rattle.sheets.specs.Classes.{class_number}

pub record SecurityOf (price currency class : ℕ) (s : SecuritySheet) : Type 0 where
  pub price_is : s.price ≡ price
  pub currency_is : s.currency.number ≡ currency
  pub class_is : class_number s.class ≡ class

pub record CurrencyOf (currency rate value : ℕ) (s : CurrencySheet) : Type 0 where
  pub currency_is : s.currency.number ≡ currency
  pub rate_is : s.rate.number ≡ rate
  pub value_is : s.value ≡ value
