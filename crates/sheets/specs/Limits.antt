-- The limits of the units, each in one place. Assumes nothing.
use Rattle.std.specs.Prelude.{ℕ, cond, ◌==◌}

-- a day is 31 × month + day of the month − 1, months from 0
abbrev pub last_day : ℕ
last_day = 371

-- securities are numbered from 1
abbrev pub last_security : ℕ
last_security = 9999

-- 0 is the euro, 1 the Danish krone
abbrev pub last_currency : ℕ
last_currency = 15

-- the settlement currencies are the euro and the krone
abbrev pub last_settlement_currency : ℕ
last_settlement_currency = 1

-- the first two digits of a party are its depository
abbrev pub first_party : ℕ
first_party = 1000

abbrev pub last_party : ℕ
last_party = 9999

-- in ten-thousandths of a currency unit; the least is 1
abbrev pub greatest_price : ℕ
greatest_price = 1000000000

abbrev pub greatest_quantity : ℕ
greatest_quantity = 1000000000

-- in hundredths of a currency unit
abbrev pub greatest_cash : ℕ
greatest_cash = 100000000000

-- a daily rate is in hundred-millionths
abbrev pub greatest_rate : ℕ
greatest_rate = 100000

-- quantity × price of one day's part
abbrev pub greatest_worth : ℕ
greatest_worth = 10000000000000

-- a euro value is in millionths of a euro: the euro's is exactly one, the krone's at least a hundredth
abbrev pub least_value : ℕ → ℕ
least_value c = cond (c == 0) 1000000 (cond (c == 1) 10000 1)

abbrev pub greatest_value : ℕ → ℕ
greatest_value c = cond (c == 0) 1000000 10000000
