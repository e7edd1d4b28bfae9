-- What a report must be, which days it uses, and who fails. Assumes nothing.
use Rattle.std.specs.Prelude.{◌≡◌, ℕ, ◌+◌, ◌%◌, Bool, true, false, cond, not, ◌&&◌, ◌||◌, List, [], ◌∷◌, None, Option, MatchOption, ◌==◌, nat_le, nat_lt}
use Rattle.sheets.specs.declared.fault.Fault.{Fault}
use Rattle.sheets.specs.declared.fault.Rule.TheVariants.{NoSuchParty, FieldsUnfit, ReasonsUnlawful, NoBusinessDay, NoUsedDay}
use Rattle.sheets.specs.declared.fault.Layer.TheVariants.{Book}
use Rattle.sheets.specs.Limits.{first_party, last_party, greatest_quantity, greatest_cash, last_settlement_currency}
use Rattle.sheets.specs.Refusals.{fault, when, or_next, day_refusal, security_refusal}
use Rattle.reports.specs.declared.report.Report.{Report}
use Rattle.reports.specs.declared.report.Cause.{Cause}
use Rattle.reports.specs.declared.report.Cause.TheVariants.{Fail, Late}
use Rattle.reports.specs.declared.report.Kind.{Kind}
use Rattle.reports.specs.declared.report.Kind.TheVariants.{AgainstPayment, FreeOfPayment, WithPayment, PaymentOnly}
use Rattle.reports.specs.declared.report.Failing.{Failing}
use Rattle.reports.specs.declared.report.Failing.TheVariants.{OnlyDeliverer, OnlyReceiver, Both}
use Rattle.reports.specs.declared.report.Exchange.{Exchange}
use Rattle.reports.specs.declared.report.Span.{Span}
use Rattle.reports.specs.declared.report.Trade.{Trade}
use Rattle.reports.specs.Days.{is_business, days_between, days_of, is_empty}
use Rattle.reports.specs.Kinds.{is_kind, kind_number}
use Rattle.reports.specs.Terms.{Terms, exchange_kind, terms_between, terms_of}

-- Nothing is made, where the test fails, and otherwise what was made is so.
abbrev pub Fit : {A : Type 0} → Bool → Option A → (A → Type 0) → Type 0
Fit fits r P = MatchOption r (fits ≡ false) (λ a. (fits ≡ true) × P a)

-- a party is 1000 to 9999
abbrev pub is_party : ℕ → Bool
is_party p = nat_le first_party p && nat_le p last_party

-- an instruction has a number, and its parties exist
abbrev pub parties_fit : Report → Bool
parties_fit r = not (r.instruction == 0) && (is_party r.deliverer && is_party r.receiver)

-- the types 1 to 4
abbrev pub kind_of : ℕ → Kind
kind_of n = cond (n == 1) AgainstPayment (cond (n == 2) FreeOfPayment (cond (n == 3) WithPayment PaymentOnly))

-- a payment alone has no securities, each other trade has some
abbrev pub securities_fit : ℕ → ℕ → ℕ → Bool
securities_fit kind quantity security = cond (kind == 4) (quantity == 0 && security == 0) (nat_le 1 quantity)

-- a trade free of payment has no cash, each other has some in a settlement currency
abbrev pub cash_fits : ℕ → ℕ → ℕ → Bool
cash_fits kind cash currency = cond (kind == 2) (cash == 0 && currency == 0) (nat_le 1 cash && nat_le currency last_settlement_currency)

-- the fields fit the type; a security that a type uses is judged apart
abbrev pub fields_fit : Report → Bool
fields_fit r =
    is_kind r.kind
    && ((nat_le r.quantity greatest_quantity && nat_le r.cash greatest_cash) && (securities_fit r.kind r.quantity r.security && cash_fits r.kind r.cash r.currency))

-- 1 own lack, 3 own linked instruction missing, 5 own hold; 2, 4 and 6 say the same of the counterparty
abbrev pub is_reason : ℕ → Bool
is_reason n = nat_le 1 n && nat_le n 6

abbrev pub is_odd : ℕ → Bool
is_odd n = n % 2 == 1

-- an even reason needs the reason one lower on the other side
abbrev pub is_met : ℕ → ℕ → Bool
is_met own other = is_odd own || other + 1 == own

-- a receiver lacks something of its own only against payment
abbrev pub reasons_fit : ℕ → ℕ → ℕ → Bool
reasons_fit kind d r = (is_reason d && is_reason r) && ((is_met d r && is_met r d) && (kind == 1 || not (r == 1)))

-- each side with an odd reason fails
abbrev pub failing_by_reasons : ℕ → ℕ → Failing
failing_by_reasons d r = cond (is_odd d) (cond (is_odd r) Both OnlyDeliverer) OnlyReceiver

-- the side that accepted later fails, at equal times the deliverer
abbrev pub failing_by_times : ℕ → ℕ → Failing
failing_by_times d r = cond (nat_lt d r) OnlyReceiver OnlyDeliverer

abbrev pub failing_of : Cause → Failing
failing_of (Fail day d r) = failing_by_reasons d r
failing_of (Late intended matched after d r) = failing_by_times d r

-- the used days of a late match
abbrev pub late_days : List Bool → ℕ → ℕ → Bool → List ℕ
late_days marks intended matched after = days_between marks intended (cond after (matched + 1) matched)

-- the used days
abbrev pub used_days : List Bool → Cause → List ℕ
used_days marks (Fail day d r) = day ∷ []
used_days marks (Late intended matched after d r) = late_days marks intended matched after

-- the tests of days and reasons
abbrev pub fail_refusal : List Bool → ℕ → ℕ → ℕ → ℕ → Option Fault
fail_refusal marks kind day d r =
    or_next (day_refusal Book day)
    (when (not (reasons_fit kind d r)) (fault ReasonsUnlawful Book d r)
    (when (not (is_business marks day)) (fault NoBusinessDay Book 0 day) None))

abbrev pub late_refusal : List Bool → ℕ → ℕ → Bool → Option Fault
late_refusal marks intended matched after =
    or_next (day_refusal Book intended)
    (or_next (day_refusal Book matched)
    (when (not (is_business marks matched)) (fault NoBusinessDay Book 0 matched)
    (when (is_empty (late_days marks intended matched after)) (fault NoUsedDay Book intended matched) None)))

abbrev pub cause_refusal : List Bool → ℕ → Cause → Option Fault
cause_refusal marks kind (Fail day d r) = fail_refusal marks kind day d r
cause_refusal marks kind (Late intended matched after d r) = late_refusal marks intended matched after

-- the tests of the fields, and of a security that is used
abbrev pub exchange_refusal : Report → Option Fault
exchange_refusal r =
    when (not (fields_fit r)) (fault FieldsUnfit Book r.kind 0)
    (cond (r.kind == 4) None (security_refusal Book r.security))

-- why a report is refused before anything is read
abbrev pub report_refusal : List Bool → Report → Option Fault
report_refusal marks r =
    when (not (parties_fit r)) (fault NoSuchParty Book r.instruction 0)
    (or_next (exchange_refusal r)
    (cause_refusal marks r.kind r.cause))

-- the terms as reported
abbrev pub report_terms : Report → Terms
report_terms r = record {
  kind = kind_of r.kind;
  deliverer = r.deliverer;
  receiver = r.receiver;
  security = r.security;
  quantity = r.quantity;
  cash = r.cash;
  currency = r.currency;
}

-- what is exchanged is what was reported
pub record ExchangeOf (r : Report) (e : Exchange) : Type 0 where
  pub kind_is : kind_number (exchange_kind e) ≡ r.kind
  pub terms_are : terms_between r.deliverer r.receiver e ≡ report_terms r

-- the used days and who fails, as the code keeps them
pub record SpanOf (marks : List Bool) (cause : Cause) (s : Span) : Type 0 where
  pub days_are : days_of marks s ≡ used_days marks cause
  pub failing_is : s.failing ≡ failing_of cause

-- the trade is the one that was reported
pub record TradeOf (marks : List Bool) (r : Report) (t : Trade) : Type 0 where
  pub terms_are : terms_of t ≡ report_terms r
  pub span_is : SpanOf marks r.cause t.span
