-- The terms of a trade: what is exchanged between whom. Assumes nothing.
use Rattle.std.specs.Prelude.{ℕ}
use Rattle.reports.specs.declared.report.Kind.{Kind}
use Rattle.reports.specs.declared.report.Kind.TheVariants as kind
use Rattle.reports.specs.declared.report.Exchange.{Exchange}
use Rattle.reports.specs.declared.report.Exchange.TheVariants.{AgainstPayment, FreeOfPayment, WithPayment, PaymentOnly}
use Rattle.reports.specs.declared.report.Trade.{Trade}

pub record Terms : Type 0 where
  pub kind : Kind
  pub deliverer : ℕ
  pub receiver : ℕ
  pub security : ℕ
  pub quantity : ℕ
  pub cash : ℕ
  pub currency : ℕ

abbrev pub exchange_kind : Exchange → Kind
exchange_kind (AgainstPayment s c) = kind.AgainstPayment
exchange_kind (FreeOfPayment s) = kind.FreeOfPayment
exchange_kind (WithPayment s c) = kind.WithPayment
exchange_kind (PaymentOnly c) = kind.PaymentOnly

-- the numbers of what is not exchanged are 0
abbrev pub exchange_security : Exchange → ℕ
exchange_security (AgainstPayment s c) = s.security.number
exchange_security (FreeOfPayment s) = s.security.number
exchange_security (WithPayment s c) = s.security.number
exchange_security (PaymentOnly c) = 0

abbrev pub exchange_quantity : Exchange → ℕ
exchange_quantity (AgainstPayment s c) = s.quantity
exchange_quantity (FreeOfPayment s) = s.quantity
exchange_quantity (WithPayment s c) = s.quantity
exchange_quantity (PaymentOnly c) = 0

abbrev pub exchange_cash : Exchange → ℕ
exchange_cash (AgainstPayment s c) = c.amount
exchange_cash (FreeOfPayment s) = 0
exchange_cash (WithPayment s c) = c.amount
exchange_cash (PaymentOnly c) = c.amount

abbrev pub exchange_currency : Exchange → ℕ
exchange_currency (AgainstPayment s c) = c.currency.number
exchange_currency (FreeOfPayment s) = 0
exchange_currency (WithPayment s c) = c.currency.number
exchange_currency (PaymentOnly c) = c.currency.number

abbrev pub terms_between : ℕ → ℕ → Exchange → Terms
terms_between d r e = record {
  kind = exchange_kind e;
  deliverer = d;
  receiver = r;
  security = exchange_security e;
  quantity = exchange_quantity e;
  cash = exchange_cash e;
  currency = exchange_currency e;
}

abbrev pub terms_of : Trade → Terms
terms_of t = terms_between t.deliverer.number t.receiver.number t.exchange
