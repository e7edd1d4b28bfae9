-- The fields of a line, each one word. Assumes nothing.
use Rattle.std.specs.Prelude.{ℕ, Bool, true, false, cond, List, Some, None, codes, Option}
use Rattle.std.specs.Str.{bytes_eq}
use Rattle.words.specs.Numbers.{number_of, decimal_of, day_of, currency_of}
use Rattle.lines.specs.declared.expected.Expected.{Expected}
use Rattle.lines.specs.declared.expected.Expected.TheVariants as expected
use Rattle.lines.specs.declared.expected.Keyword.{Keyword}
use Rattle.lines.specs.declared.expected.Keyword.TheVariants as key
use Rattle.lines.specs.declared.choice.Subject.{Subject}
use Rattle.lines.specs.declared.choice.Subject.TheVariants as subjects
use Rattle.lines.specs.declared.choice.Happened.{Happened}
use Rattle.lines.specs.declared.choice.Happened.TheVariants as happenings
use Rattle.lines.specs.declared.choice.Verb.{Verb}
use Rattle.lines.specs.declared.choice.Verb.TheVariants as verbs
use Rattle.lines.specs.declared.choice.Kind.{Kind}
use Rattle.lines.specs.declared.choice.Kind.TheVariants as kinds
use Rattle.lines.specs.declared.choice.BaseKind.{BaseKind}
use Rattle.lines.specs.declared.choice.BaseKind.TheVariants as base_kinds
use Rattle.lines.specs.declared.choice.Form.{Form}
use Rattle.lines.specs.declared.choice.Form.TheVariants as forms
use Rattle.words.specs.Words.{next_word, after_word}
use Rattle.lines.specs.Grammar.{Parsed, reads, fails, field}

abbrev pub text_of : Keyword → List ℕ
text_of key.Day = codes "day"
text_of key.Price = codes "price"
text_of key.Currency = codes "currency"
text_of key.Class = codes "class"
text_of key.Rate = codes "rate"
text_of key.Value = codes "value"
text_of key.Type = codes "type"
text_of key.From = codes "from"
text_of key.To = codes "to"
text_of key.Security = codes "security"
text_of key.Quantity = codes "quantity"
text_of key.Cash = codes "cash"
text_of key.Reasons = codes "reasons"
text_of key.Intended = codes "intended"
text_of key.Matched = codes "matched"
text_of key.Times = codes "times"

-- the value where the word is this text, and else the next
abbrev pub choice : {A : Type 0} → List ℕ → List ℕ → A → Option A → Option A
choice w text a next = cond (bytes_eq w text) (Some a) next

abbrev pub word_of : Keyword → List ℕ → Option (Unit {0})
word_of k w = choice w (text_of k) tt None

-- false before the cut-off, true after it
abbrev pub side_of : List ℕ → Option Bool
side_of w = choice w (codes "before") false (choice w (codes "after") true None)

abbrev pub subject_of : List ℕ → Option Subject
subject_of w = choice w (codes "security") subjects.Security (choice w (codes "currency") subjects.Currency None)

abbrev pub happened_of : List ℕ → Option Happened
happened_of w = choice w (codes "fail") happenings.Fail (choice w (codes "late") happenings.Late None)

abbrev pub verb_of : List ℕ → Option Verb
verb_of w =
    choice w (codes "security") verbs.Security
    (choice w (codes "currency") verbs.Currency
    (choice w (codes "sheet") verbs.Sheet
    (choice w (codes "quote") verbs.Quote None)))

abbrev pub called : Option Verb → Option Kind
called None = None
called (Some v) = Some (kinds.Call v)

abbrev pub kind_of : List ℕ → Option Kind
kind_of w =
    choice w (codes "business") kinds.Business
    (choice w (codes "opted") kinds.Opted
    (choice w (codes "source") kinds.Source (called (verb_of w))))

abbrev pub base_kind_of : List ℕ → Option BaseKind
base_kind_of w = choice w (codes "plain") base_kinds.Plain (choice w (codes "steps") base_kinds.Steps None)

-- a base alone
abbrev pub bare : Option BaseKind → Option Form
bare None = None
bare (Some b) = Some (forms.Base b)

abbrev pub form_of : List ℕ → Option Form
form_of w = choice w (codes "carry") forms.Carry (bare (base_kind_of w))

abbrev pub keyword : Keyword → List ℕ → Parsed (Unit {0})
keyword k = field (word_of k) (expected.Word k)

abbrev pub number : ℕ → Expected → List ℕ → Parsed ℕ
number limit e = field (number_of limit) e

abbrev pub decimal : ℕ → Expected → List ℕ → Parsed ℕ
decimal places e = field (decimal_of places) e

abbrev pub day : List ℕ → Parsed ℕ
day = field day_of expected.Day

abbrev pub currency : List ℕ → Parsed ℕ
currency = field currency_of expected.Currency

abbrev pub side : List ℕ → Parsed Bool
side = field side_of expected.Side

abbrev pub subject : List ℕ → Parsed Subject
subject = field subject_of expected.Subject

abbrev pub happened : List ℕ → Parsed Happened
happened = field happened_of expected.Event

abbrev pub form : List ℕ → Parsed Form
form = field form_of expected.Source

abbrev pub base_kind : List ℕ → Parsed BaseKind
base_kind = field base_kind_of expected.Base

abbrev pub end_at : Option (List ℕ) → List ℕ → Parsed (Unit {0})
end_at None rest = reads tt rest
end_at (Some w) rest = fails expected.End

-- no word is left
unfoldable pub end : List ℕ → Parsed (Unit {0})
end bs = end_at (next_word bs) (after_word bs)
