-- The calls of a journal, each with the words of its line in their order. Assumes nothing.
use Rattle.std.specs.Prelude.{ℕ, List}
use Rattle.lines.specs.declared.choice.Subject.{Subject}
use Rattle.lines.specs.declared.choice.Subject.TheVariants as subjects
use Rattle.lines.specs.declared.choice.Happened.{Happened}
use Rattle.lines.specs.declared.choice.Happened.TheVariants as happenings
use Rattle.lines.specs.declared.choice.Verb.{Verb}
use Rattle.lines.specs.declared.choice.Verb.TheVariants as verbs
use Rattle.lines.specs.declared.expected.Expected.{Expected}
use Rattle.lines.specs.declared.expected.Expected.TheVariants as expected
use Rattle.lines.specs.declared.expected.Keyword.{Keyword}
use Rattle.lines.specs.declared.expected.Keyword.TheVariants as key
use Rattle.lines.specs.declared.said.Trade.{Trade}
use Rattle.lines.specs.declared.said.Event.{Event}
use Rattle.lines.specs.declared.said.Event.TheVariants.{Fail, Late}
use Rattle.lines.specs.declared.said.Call.{Call}
use Rattle.lines.specs.declared.said.Call.TheVariants.{EnterSecurity, EnterCurrency, AskSecurity, AskCurrency, Quote}
use Rattle.lines.specs.Grammar.{Parsed, reads, and_then}
use Rattle.lines.specs.Fields as field

-- a field after the word that names it
abbrev pub keyed : {A : Type 0} → Keyword → (List ℕ → Parsed A) → List ℕ → Parsed A
keyed k p = and_then (field.keyword k) (λ _. p)

-- two fields of one kind
abbrev pub pair : {A : Type 0} → (List ℕ → Parsed A) → List ℕ → Parsed (A × A)
pair p = and_then p (λ a. and_then p (λ b. reads (a, b)))

abbrev pub day : Keyword → List ℕ → Parsed ℕ
day k = keyed k field.day

abbrev pub currency : List ℕ → Parsed ℕ
currency = keyed key.Currency field.currency

abbrev pub number : Keyword → ℕ → Expected → List ℕ → Parsed ℕ
number k limit e = keyed k (field.number limit e)

abbrev pub decimal : Keyword → ℕ → Expected → List ℕ → Parsed ℕ
decimal k places e = keyed k (field.decimal places e)

abbrev pub security : List ℕ → Parsed ℕ
security = field.number 65535 expected.Security

-- security 17 day 02-10 price 25.0000 currency EUR class 1
abbrev pub enter_security : List ℕ → Parsed Call
enter_security =
    and_then security (λ k.
    and_then (day key.Day) (λ d.
    and_then (decimal key.Price 4 expected.Price) (λ p.
    and_then currency (λ c.
    and_then (number key.Class 255 expected.Class) (λ l.
    reads (EnterSecurity k d p c l))))))

-- currency DKK day 02-10 rate 0.00006000 value 0.134000
abbrev pub enter_currency : List ℕ → Parsed Call
enter_currency =
    and_then field.currency (λ c.
    and_then (day key.Day) (λ d.
    and_then (decimal key.Rate 8 expected.Rate) (λ r.
    and_then (decimal key.Value 6 expected.Value) (λ v.
    reads (EnterCurrency c d r v)))))

-- sheet security 17 day 02-10
abbrev pub ask_security : List ℕ → Parsed Call
ask_security = and_then security (λ k. and_then (day key.Day) (λ d. reads (AskSecurity k d)))

-- sheet currency DKK day 02-10
abbrev pub ask_currency : List ℕ → Parsed Call
ask_currency = and_then field.currency (λ c. and_then (day key.Day) (λ d. reads (AskCurrency c d)))

abbrev pub ask : Subject → List ℕ → Parsed Call
ask subjects.Security = ask_security
ask subjects.Currency = ask_currency

abbrev pub sheet : List ℕ → Parsed Call
sheet = and_then field.subject ask

-- from 1001 to 2002
abbrev pub parties : List ℕ → Parsed (ℕ × ℕ)
parties =
    and_then (number key.From 65535 expected.Party) (λ d.
    and_then (number key.To 65535 expected.Party) (λ r.
    reads (d, r)))

-- security 17 quantity 1000
abbrev pub goods : List ℕ → Parsed (ℕ × ℕ)
goods =
    and_then (number key.Security 65535 expected.Security) (λ k.
    and_then (number key.Quantity 18446744073709551615 expected.Quantity) (λ q.
    reads (k, q)))

-- cash 25000.00 currency EUR
abbrev pub money : List ℕ → Parsed (ℕ × ℕ)
money = and_then (decimal key.Cash 2 expected.Cash) (λ m. and_then currency (λ c. reads (m, c)))

abbrev pub trade_of : ℕ → ℕ → ℕ × ℕ → ℕ × ℕ → ℕ × ℕ → Trade
trade_of i t p g m =
    record { instruction = i; kind = t; deliverer = p.0; receiver = p.1; security = g.0; quantity = g.1; cash = m.0; currency = m.1 }

-- 900001 type 1, the parties, the goods and the money
abbrev pub trade : List ℕ → Parsed Trade
trade =
    and_then (field.number 4294967295 expected.Instruction) (λ i.
    and_then (number key.Type 255 expected.Type) (λ t.
    and_then parties (λ p.
    and_then goods (λ g.
    and_then money (λ m.
    reads (trade_of i t p g m))))))

-- reasons 1 2
abbrev pub reasons : List ℕ → Parsed (ℕ × ℕ)
reasons = keyed key.Reasons (pair (field.number 255 expected.Reason))

-- times 100 200
abbrev pub times : List ℕ → Parsed (ℕ × ℕ)
times = keyed key.Times (pair (field.number 4294967295 expected.Time))

-- day 02-10 reasons 1 2
abbrev pub fail : List ℕ → Parsed Event
fail = and_then (day key.Day) (λ d. and_then reasons (λ r. reads (Fail d r)))

-- intended 02-10 matched 02-13 before times 100 200
abbrev pub late : List ℕ → Parsed Event
late =
    and_then (day key.Intended) (λ i.
    and_then (day key.Matched) (λ m.
    and_then field.side (λ a.
    and_then times (λ t.
    reads (Late i m a t)))))

abbrev pub event : Happened → List ℕ → Parsed Event
event happenings.Fail = fail
event happenings.Late = late

-- quote fail or late, a trade, and what happened
abbrev pub quote : List ℕ → Parsed Call
quote =
    and_then field.happened (λ h.
    and_then trade (λ t.
    and_then (event h) (λ e.
    reads (Quote (record { trade = t; event = e })))))

abbrev pub call : Verb → List ℕ → Parsed Call
call verbs.Security = enter_security
call verbs.Currency = enter_currency
call verbs.Sheet = sheet
call verbs.Quote = quote
