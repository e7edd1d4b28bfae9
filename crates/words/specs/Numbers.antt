-- What a word writes. Assumes nothing.
use Rattle.std.specs.Prelude.{ℕ, ◌+◌, ◌-◌, ◌*◌, ◌^◌, Bool, true, cond, ◌&&◌, List, [], ◌∷◌, ◌++◌, length, take, drop, Some, None, codes, Option, ◌==◌, nat_le, nat_lt, slice_index}
use Rattle.std.specs.Char.{is_ascii_digit}
use Rattle.std.specs.Str.{bytes_eq}

abbrev pub digits_only : List ℕ → Bool
digits_only [] = true
digits_only (c ∷ cs) = is_ascii_digit c && digits_only cs

-- the number that the digits write, after those of n
abbrev pub value_after : ℕ → List ℕ → ℕ
value_after n [] = n
value_after n (c ∷ cs) = value_after (10 * n + (c - 48)) cs

abbrev pub value : List ℕ → ℕ
value cs = value_after 0 cs

-- the number that the digits write after those of n, where it fits 64 bits
abbrev pub fits : ℕ → List ℕ → Option ℕ
fits n cs = cond (digits_only cs && nat_lt (value_after n cs) (2 ^ 64)) (Some (value_after n cs)) None

-- n with the digit c after it, where c is one and the number fits 64 bits
abbrev pub one_more : ℕ → ℕ → Option ℕ
one_more n c = cond (is_ascii_digit c && nat_lt (10 * n + (c - 48)) (2 ^ 64)) (Some (10 * n + (c - 48))) None

-- digits alone, one or more, that write a number up to the limit
abbrev pub number_of : ℕ → List ℕ → Option ℕ
number_of limit cs = cond (nat_le 1 (length cs) && (digits_only cs && nat_le (value cs) limit)) (Some (value cs)) None

-- where the point of a decimal stands
abbrev pub point_at : ℕ → List ℕ → ℕ
point_at places cs = length cs - places - 1

-- a point before the last `places` bytes, and something before it
abbrev pub pointed : ℕ → List ℕ → Bool
pointed places cs = nat_le (places + 2) (length cs) && slice_index cs (point_at places cs) == 46

abbrev pub pointless : ℕ → List ℕ → List ℕ
pointless places cs = take (point_at places cs) cs ++ drop (point_at places cs + 1) cs

-- digits, a point and `places` digits: the number with the point left out
abbrev pub decimal_of : ℕ → List ℕ → Option ℕ
decimal_of places cs = cond (pointed places cs) (number_of (2 ^ 64 - 1) (pointless places cs)) None

-- the number of a day, of a month from 1 and a day of it from 1
abbrev pub day_in : Option ℕ → Option ℕ → Option ℕ
day_in None d = None
day_in (Some m) None = None
day_in (Some m) (Some d) = cond (nat_le 1 m && nat_le 1 d) (Some (31 * (m - 1) + d - 1)) None

-- MM-DD
abbrev pub day_of : List ℕ → Option ℕ
day_of cs =
    cond (length cs == 5 && slice_index cs 2 == 45)
    (day_in (number_of 99 (take 2 cs)) (number_of 31 (drop 3 cs)))
    None

-- the euro is 0 and the krone 1; the others go by their numbers
abbrev pub currency_of : List ℕ → Option ℕ
currency_of cs =
    cond (bytes_eq cs (codes "EUR")) (Some 0)
    (cond (bytes_eq cs (codes "DKK")) (Some 1) (number_of 255 cs))
