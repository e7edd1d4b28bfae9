-- The classes of securities: their numbers, and their daily rates in hundred-millionths. Assumes nothing.
use Rattle.std.specs.Prelude.{ℕ, cond, Some, None, Option, ◌==◌}
use Rattle.sheets.specs.declared.class.Class.{Class}
use Rattle.sheets.specs.declared.class.Class.TheVariants.{LiquidShare, IlliquidShare, GrowthMarket, CorporateBond, GrowthMarketBond, PublicBond}

abbrev pub class_number : Class → ℕ
class_number LiquidShare = 1
class_number IlliquidShare = 2
class_number GrowthMarket = 3
class_number CorporateBond = 4
class_number GrowthMarketBond = 5
class_number PublicBond = 6

abbrev pub class_rate : Class → ℕ
class_rate LiquidShare = 10000
class_rate IlliquidShare = 5000
class_rate GrowthMarket = 2500
class_rate CorporateBond = 2000
class_rate GrowthMarketBond = 1500
class_rate PublicBond = 1000

-- the class of a number, if it is one
abbrev pub class_of : ℕ → Option Class
class_of n =
    cond (n == 1) (Some LiquidShare)
    (cond (n == 2) (Some IlliquidShare)
    (cond (n == 3) (Some GrowthMarket)
    (cond (n == 4) (Some CorporateBond)
    (cond (n == 5) (Some GrowthMarketBond)
    (cond (n == 6) (Some PublicBond) None)))))
