-- What a whole journal says: what each of its lines adds, and which line cannot be read. Assumes nothing.
use Rattle.std.specs.Prelude.{◌≡◌, ℕ, ◌+◌, ◌-◌, Bool, true, false, List, [], ◌∷◌, ◌++◌, map, replicate, Some, None, Ok, Err, vec_items, fold, Option, Result, slice_index_or, slice_set}
use Rattle.lines.specs.declared.expected.Expected.{Expected}
use Rattle.lines.specs.declared.expected.Expected.TheVariants as expected
use Rattle.lines.specs.declared.said.Span.{Span}
use Rattle.lines.specs.declared.said.Source.{Source}
use Rattle.lines.specs.declared.said.Call.{Call}
use Rattle.journal.specs.declared.said.Numbered.{Numbered}
use Rattle.journal.specs.declared.said.Journal.{Journal}
use Rattle.journal.specs.declared.read.NotRead.{NotRead}
use Rattle.journal.specs.declared.read.NotRead.TheVariants as reasons
use Rattle.lines.specs.declared.unread.Unread.{Unread}
use Rattle.lines.specs.declared.unread.Unread.TheVariants as unread
use Rattle.words.specs.Words.{lines_of}
use Rattle.lines.specs.Lines.{Said, business, opted, source, call, line_of}

-- a journal, with its lists in place of the vectors that hold them
pub record Kept : Type 0 where
  pub days : List (Numbered Span)
  pub marks : List Bool
  pub from : Option Source
  pub asked : List (Numbered Call)

-- nothing was said yet
abbrev pub empty : Kept
empty = record { days = []; marks = replicate 90 false; from = None; asked = [] }

abbrev pub kept_by : Journal → Kept
kept_by j = record { days = vec_items j.business; marks = j.opted; from = j.source; asked = vec_items j.calls }

abbrev pub numbered : {A : Type 0} → ℕ → A → Numbered A
numbered n a = record { line = n; said = a }

abbrev pub marked : List Bool → List ℕ → List Bool
marked ms places = fold (λ m p. slice_set m p true) ms places

-- a journal has one source line
abbrev pub sourced : Kept → Option Source → Source → Result Kept Expected
sourced k None s = Ok (record { days = k.days; marks = k.marks; from = Some s; asked = k.asked })
sourced k (Some t) s = Err expected.OneSource

-- what the line of a number adds
abbrev pub adding : Kept → ℕ → Said → Result Kept Expected
adding k n (business l) = Ok (record { days = k.days ++ map (numbered n) l; marks = k.marks; from = k.from; asked = k.asked })
adding k n (opted l) = Ok (record { days = k.days; marks = marked k.marks l; from = k.from; asked = k.asked })
adding k n (source s) = sourced k k.from s
adding k n (call c) = Ok (record { days = k.days; marks = k.marks; from = k.from; asked = k.asked ++ numbered n c ∷ [] })

abbrev pub adding_line : Kept → ℕ → Result (Option Said) Expected → Result Kept Expected
adding_line k n (Ok None) = Ok k
adding_line k n (Ok (Some s)) = adding k n s
adding_line k n (Err e) = Err e

-- the line that cannot be read: its number, its text, and what was expected on it
pub record Bad : Type 0 where
  pub number : ℕ
  pub text : List ℕ
  pub expected : Expected

abbrev pub bad : ℕ → List ℕ → Expected → Bad
bad n t e = record { number = n; text = t; expected = e }

abbrev pub and_on : Result Kept Expected → (Expected → Bad) → (Kept → Result Kept Bad) → Result Kept Bad
and_on (Ok k) at next = next k
and_on (Err e) at next = Err (at e)

-- the lines that follow the line n, after what was kept
abbrev pub read_from : Kept → ℕ → List (List ℕ) → Result Kept Bad
read_from k n [] = Ok k
read_from k n (t ∷ ts) = and_on (adding_line k (n + 1) (line_of t)) (bad (n + 1) t) (λ more. read_from more (n + 1) ts)

-- the line of the first call, where there is no source
abbrev pub unsourced : Option Source → List (Numbered Call) → Option ℕ
unsourced (Some s) cs = None
unsourced None [] = None
unsourced None (c ∷ cs) = Some c.line

-- a journal with a call has a source
abbrev pub wanting : Option ℕ → Kept → List (List ℕ) → Result Kept Bad
wanting None k ls = Ok k
wanting (Some n) k ls = Err (bad n (slice_index_or ls (n - 1) []) expected.SomeSource)

abbrev pub finished : Result Kept Bad → List (List ℕ) → Result Kept Bad
finished (Ok k) ls = wanting (unsourced k.from k.asked) k ls
finished (Err b) ls = Err b

unfoldable pub all_read : List ℕ → Result Kept Bad
all_read text = read_from empty 0 (lines_of text)

unfoldable pub journal_of : List ℕ → Result Kept Bad
journal_of text = finished (all_read text) (lines_of text)

-- what was added is as p says, where there was memory
abbrev pub Adds : Result (Unit {0}) Unread → Result Kept Expected → Kept → Type 0
Adds (Ok u) p k = p ≡ Ok k
Adds (Err (unread.Malformed e)) p k = p ≡ Err e
Adds (Err unread.Memory) p k = Unit {0}

-- why a journal was not read, from why a line was not
abbrev pub Stops : Unread → ℕ → List ℕ → NotRead → Type 0
Stops (unread.Malformed e) n t (reasons.Malformed m) = bad m.number m.text.now m.expected ≡ bad n t e
Stops (unread.Malformed e) n t reasons.Memory = ⊥
Stops unread.Memory n t r = r ≡ reasons.Memory

-- the journal is as p says, where there was memory
abbrev pub Holds : Result Journal NotRead → Result Kept Bad → Type 0
Holds (Ok j) p = p ≡ Ok (kept_by j)
Holds (Err (reasons.Malformed m)) p = p ≡ Err (bad m.number m.text.now m.expected)
Holds (Err reasons.Memory) p = Unit {0}
