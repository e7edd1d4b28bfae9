-- What a line of a journal says. Assumes nothing.
use Rattle.std.specs.Prelude.{ℕ, List, Some, None, Ok, Err, vec_items, Option, Result}
use Rattle.words.specs.Words.{next_word, after_word, before_comment}
use Rattle.lines.specs.declared.choice.Kind.{Kind}
use Rattle.lines.specs.declared.choice.Kind.TheVariants as kinds
use Rattle.lines.specs.declared.expected.Expected.{Expected}
use Rattle.lines.specs.declared.expected.Expected.TheVariants as expected
use Rattle.lines.specs.declared.said.Span.{Span}
use Rattle.lines.specs.declared.said.Source.{Source}
use Rattle.lines.specs.declared.said.Call.{Call}
use Rattle.lines.specs.declared.said.Line.{Line}
use Rattle.lines.specs.declared.said.Line.TheVariants as lines
use Rattle.lines.specs.Grammar.{Parsed, reads, fails, and_then}
use Rattle.lines.specs.Fields.{end, kind_of}
use Rattle.lines.specs.Calls as calls
use Rattle.lines.specs.Settings as settings
use Rattle.lines.specs.Lists.{spans, depositories}

-- a line, with its list in place of the vector that holds it
pub data Said : Type 0 where
  business : List Span → Said
  opted : List ℕ → Said
  source : Source → Said
  call : Call → Said

abbrev pub said_by : Line → Said
said_by (lines.Business v) = business (vec_items v)
said_by (lines.Opted v) = opted (vec_items v)
said_by (lines.Source s) = source s
said_by (lines.Call c) = call c

-- and nothing after it
abbrev pub ended : {A : Type 0} → (List ℕ → Parsed A) → List ℕ → Parsed A
ended p = and_then p (λ a. and_then end (λ _. reads a))

abbrev pub whole : {A B : Type 0} → Parsed A → (A → B) → Result B Expected
whole (reads a rest) f = Ok (f a)
whole (fails e) f = Err e

abbrev pub mapped : {A B : Type 0} → Result A Expected → (A → B) → Result B Expected
mapped (Ok a) f = Ok (f a)
mapped (Err e) f = Err e

-- what follows the first word of a line
abbrev pub line_for : Kind → List ℕ → Result Said Expected
line_for kinds.Business bs = mapped (spans bs) business
line_for kinds.Opted bs = mapped (depositories bs) opted
line_for kinds.Source bs = whole (ended settings.source bs) source
line_for (kinds.Call v) bs = whole (ended (calls.call v) bs) call

abbrev pub kindly : Option Kind → List ℕ → Result (Option Said) Expected
kindly None rest = Err expected.Line
kindly (Some k) rest = mapped (line_for k rest) Some

abbrev pub begun : Option (List ℕ) → List ℕ → Result (Option Said) Expected
begun None rest = Ok None
begun (Some w) rest = kindly (kind_of w) rest

-- nothing where the line has no word
unfoldable pub line_of : List ℕ → Result (Option Said) Expected
line_of bs = begun (next_word (before_comment bs)) (after_word (before_comment bs))
