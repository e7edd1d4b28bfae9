-- What carrying sheets forward means: the latest sheet, and how far an entry then reaches. Assumes nothing.
use Rattle.std.specs.Prelude.{◌≡◌, ℕ, zero, suc, ◌+◌, ◌-◌, Bool, cond, not, ◌&&◌, is_some, Option, nat_lt, refl}
use Rattle.std.specs.Option.{option_or}
use Rattle.sheets.specs.Limits.{last_day}
use Rattle.reference.specs.Meaning.{Table}

-- the sheet of the latest day from d - n to d that has one
abbrev pub latest : {T : Type 0} → (ℕ → Option T) → ℕ → ℕ → Option T
latest t zero d = t d
latest t (suc n) d = option_or (t d) (latest t n (d - 1))

-- the day after e is in the year, and has no sheet
abbrev pub silent : {T : Type 0} → (ℕ → Option T) → ℕ → Bool
silent t e = nat_lt e last_day && not (is_some (t (e + 1)))

-- the last day of the silence after e, at most n days on
abbrev pub spread : {T : Type 0} → (ℕ → Option T) → ℕ → ℕ → ℕ
spread t zero e = e
spread t (suc n) e = cond (silent t e) (spread t n (e + 1)) e

-- no sheet is carried farther than ten days
abbrev pub greatest_reach : ℕ
greatest_reach = 10

-- a table whose sheets hold for so many days more, or until the next
abbrev pub carried : {T : Type 0} → Table T → ℕ → Table T
carried t n = record {
  sheet = λ k d. latest (t.sheet k) n d;
  takes = t.takes;
  reach = λ k d s. spread (t.sheet k) n (t.reach k d s);
}

-- the whole year, shut: a proof would count down from an open number
unfoldable pub whole_year : ℕ
whole_year = last_day

-- what it is, for proofs
pub whole_year_lem : whole_year ≡ last_day
unfolding whole_year
whole_year_lem = refl
