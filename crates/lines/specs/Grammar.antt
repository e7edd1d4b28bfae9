-- How a line is read: a grammar takes what is left of a line, and gives a value with what is then left, or what it expected. Assumes nothing.
use Rattle.std.specs.Prelude.{◌≡◌, ℕ, List, Some, None, Ok, Err, Option, Result}
use Rattle.std.specs.Borrow.{Bor, MutBor}
use Rattle.words.specs.Words.{next_word, after_word}
use Rattle.lines.specs.declared.expected.Expected.{Expected}

pub data Parsed (A : Type 0) : Type 0 where
  reads : A → List ℕ → Parsed A
  fails : Expected → Parsed A

abbrev pub onward : {A B : Type 0} → Parsed A → (A → List ℕ → Parsed B) → Parsed B
onward (reads a rest) next = next a rest
onward (fails e) next = fails e

-- one grammar, and after it the next
abbrev pub and_then : {A B : Type 0} → (List ℕ → Parsed A) → (A → List ℕ → Parsed B) → List ℕ → Parsed B
and_then p next bs = onward (p bs) next

abbrev pub valued : {A : Type 0} → Option (List ℕ) → (List ℕ → Option A) → Option A
valued None f = None
valued (Some w) f = f w

abbrev pub or_fails : {A : Type 0} → Option A → Expected → List ℕ → Parsed A
or_fails None e rest = fails e
or_fails (Some a) e rest = reads a rest

-- one word, of which f makes a value
unfoldable pub field : {A : Type 0} → (List ℕ → Option A) → Expected → List ℕ → Parsed A
field f e bs = or_fails (valued (next_word bs) f) e (after_word bs)

-- what was made of each word is what f makes of it
abbrev pub Makes : {A : Type 0} → (Bor (List ℕ) → Option A → Type 0) → (List ℕ → Option A) → Type 0
Makes {A} made f = (w : Bor (List ℕ)) (o : Option A) → made w o → o ≡ f w.now

-- the function returned r, and left `rest` of bs, as the grammar p says
abbrev pub Reads : {A : Type 0} → (List ℕ → Parsed A) → List ℕ → Result A Expected → List ℕ → Type 0
Reads p bs (Ok a) rest = p bs ≡ reads a rest
Reads p bs (Err e) rest = p bs ≡ fails e

-- what was read of each line, and left of it, is as the grammar p says
abbrev pub ReadsAs : {A : Type 0} → (MutBor (List ℕ) → Result A Expected → MutBor (List ℕ) → Type 0) → (List ℕ → Parsed A) → Type 0
ReadsAs {A} read p = (old : MutBor (List ℕ)) (r : Result A Expected) (new : MutBor (List ℕ)) → read old r new → Reads p old.now r new.now
