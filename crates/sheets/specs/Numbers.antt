-- The numbers of the refusals and of the layers. Assumes nothing.
use Rattle.std.specs.Prelude.{ℕ}
use Rattle.sheets.specs.declared.fault.Rule.{Rule}
use Rattle.sheets.specs.declared.fault.Rule.TheVariants.{ValueOutside, NoSuchClass, NoSuchCurrency, RateTooHigh, NoSuchSecurity, NoSuchDay, NotTaken, NoSuchParty, FieldsUnfit, ReasonsUnlawful, NoBusinessDay, NoUsedDay, SecurityMissing, CurrencyMissing, ValueTooLarge}
use Rattle.sheets.specs.declared.fault.Layer.{Layer}
use Rattle.sheets.specs.declared.fault.Layer.TheVariants.{Sheet, Source, Calculation, Book}

abbrev pub number_of : Rule → ℕ
number_of ValueOutside = 1
number_of NoSuchClass = 2
number_of NoSuchCurrency = 3
number_of RateTooHigh = 4
number_of NoSuchSecurity = 5
number_of NoSuchDay = 6
number_of NotTaken = 7
number_of NoSuchParty = 9
number_of FieldsUnfit = 10
number_of ReasonsUnlawful = 11
number_of NoBusinessDay = 12
number_of NoUsedDay = 13
number_of SecurityMissing = 15
number_of CurrencyMissing = 16
number_of ValueTooLarge = 17

abbrev pub layer_number : Layer → ℕ
layer_number Sheet = 1
layer_number Source = 2
layer_number Calculation = 3
layer_number Book = 4
