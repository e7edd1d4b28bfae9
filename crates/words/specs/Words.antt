-- Which lines a text has, and which words a line. Assumes nothing.
use Rattle.std.specs.Prelude.{◌≡◌, ℕ, zero, suc, ◌+◌, Bool, cond, not, ◌||◌, List, [], ◌∷◌, length, drop, Some, None, Option, ◌==◌}
use Rattle.std.specs.Borrow.{Bor}
use Rattle.std.specs.Iterator.{YieldsFirstRef}
use Rattle.std.specs.List.{prefix_len, take_while}

-- what was answered at each byte is what p says of it
abbrev pub Answers : (ℕ → Bool → Type 0) → (ℕ → Bool) → Type 0
Answers answered p = (b : ℕ) (r : Bool) → answered b r → r ≡ p b

-- a space, a tab or a carriage return
abbrev pub blank : ℕ → Bool
blank b = b == 32 || (b == 9 || b == 13)

abbrev pub dark : ℕ → Bool
dark b = not (blank b)

-- a `#` starts a comment
abbrev pub plain : ℕ → Bool
plain b = not (b == 35)

abbrev pub before_comment : List ℕ → List ℕ
before_comment bs = take_while plain bs

-- without the blanks in front
abbrev pub from_word : List ℕ → List ℕ
from_word bs = drop (prefix_len blank bs) bs

abbrev pub first_word : List ℕ → List ℕ
first_word bs = take_while dark (from_word bs)

abbrev pub some_word : List ℕ → Option (List ℕ)
some_word [] = None
some_word (b ∷ bs) = Some (b ∷ bs)

-- the first word of a text, if it has one
abbrev pub next_word : List ℕ → Option (List ℕ)
next_word bs = some_word (first_word bs)

-- what follows the first word
abbrev pub after_word : List ℕ → List ℕ
after_word bs = drop (prefix_len dark (from_word bs)) (from_word bs)

abbrev pub words_from : Option (List ℕ) → List (List ℕ) → List (List ℕ)
words_from None ws = []
words_from (Some w) ws = w ∷ ws

-- the first words of a text, at most as many as the number says
abbrev pub words_in : ℕ → List ℕ → List (List ℕ)
words_in zero bs = []
words_in (suc n) bs = words_from (next_word bs) (words_in n (after_word bs))

-- all words of a text, of which there are no more than bytes
unfoldable pub words_of : List ℕ → List (List ℕ)
words_of bs = words_in (length bs) bs

-- the bytes that an item shows
abbrev pub seen : Option (Bor (List ℕ)) → Option (List ℕ)
seen None = None
seen (Some w) = Some w.now

-- a call at s gave r and left t: r is the item at s, and the first of all that come
pub record Takes (item : List ℕ → Option (List ℕ)) (rest : List ℕ → List ℕ) (all : List ℕ → List (List ℕ)) (s : List ℕ) (r : Option (Bor (List ℕ))) (t : List ℕ) : Type 0 where
  pub value : seen r ≡ item s
  pub after : t ≡ rest s
  pub first : YieldsFirstRef all s r t

-- a line feed ends a line
abbrev pub in_line : ℕ → Bool
in_line b = not (b == 10)

-- the first line of a text, if it has any byte
abbrev pub next_line : List ℕ → Option (List ℕ)
next_line [] = None
next_line (b ∷ bs) = Some (take_while in_line (b ∷ bs))

-- what follows the first line and its line feed
abbrev pub after_line : List ℕ → List ℕ
after_line bs = drop (prefix_len in_line bs + 1) bs

abbrev pub on_first : ℕ → List (List ℕ) → List (List ℕ)
on_first b [] = (b ∷ []) ∷ []
on_first b (l ∷ ls) = (b ∷ l) ∷ ls

-- the lines of a text, each ended by a line feed; the last may lack it
abbrev pub lines_of : List ℕ → List (List ℕ)
lines_of [] = []
lines_of (b ∷ bs) = cond (b == 10) ([] ∷ lines_of bs) (on_first b (lines_of bs))
