-- Lines of one word or more, each of one kind. Assumes nothing.
use Rattle.std.specs.Prelude.{ℕ, ◌-◌, Bool, cond, ◌&&◌, List, [], ◌∷◌, length, take, drop, Some, None, Ok, Err, codes, Option, Result, ◌==◌, nat_le}
use Rattle.std.specs.Str.{bytes_eq}
use Rattle.words.specs.Words.{words_of}
use Rattle.words.specs.Numbers.{number_of, day_of}
use Rattle.lines.specs.declared.expected.Expected.{Expected}
use Rattle.lines.specs.declared.expected.Expected.TheVariants as expected
use Rattle.lines.specs.declared.said.Span.{Span}

abbrev pub both : {A : Type 0} → Option A → Option (List A) → Option (List A)
both None o = None
both (Some a) None = None
both (Some a) (Some rest) = Some (a ∷ rest)

-- what f makes of each word, where it makes something of them all
abbrev pub each : {A : Type 0} → (List ℕ → Option A) → List (List ℕ) → Option (List A)
each f [] = Some []
each f (w ∷ ws) = both (f w) (each f ws)

abbrev pub one_or_more : {A : Type 0} → Option (List A) → Expected → Result (List A) Expected
one_or_more None e = Err e
one_or_more (Some []) e = Err e
one_or_more (Some (a ∷ rest)) e = Ok (a ∷ rest)

abbrev pub listed : {A : Type 0} → (List ℕ → Option A) → Expected → List ℕ → Result (List A) Expected
listed f e bs = one_or_more (each f (words_of bs)) e

-- the days from the first to the last
abbrev pub range_of : Option ℕ → Option ℕ → Option Span
range_of None last = None
range_of (Some first) None = None
range_of (Some first) (Some last) = cond (nat_le first last) (Some (record { first = first; last = last })) None

-- two points after a day
abbrev pub is_range : List ℕ → Bool
is_range w = length w == 12 && bytes_eq (take 2 (drop 5 w)) (codes "..")

-- MM-DD, or MM-DD..MM-DD
abbrev pub span_of : List ℕ → Option Span
span_of w =
    cond (is_range w)
    (range_of (day_of (take 5 w)) (day_of (drop 7 w)))
    (range_of (day_of w) (day_of w))

-- the place of a number, counted from the least
abbrev pub place_from : ℕ → Option ℕ → Option ℕ
place_from least None = None
place_from least (Some n) = cond (nat_le least n) (Some (n - least)) None

abbrev pub depository_of : List ℕ → Option ℕ
depository_of w = place_from 10 (number_of 99 w)

abbrev pub spans : List ℕ → Result (List Span) Expected
spans = listed span_of expected.Span

abbrev pub depositories : List ℕ → Result (List ℕ) Expected
depositories = listed depository_of expected.Depository
