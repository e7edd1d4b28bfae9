-- The types of trades, 1 to 4. Assumes nothing.
use Rattle.std.specs.Prelude.{◌≡◌, ℕ, Bool, false, ◌&&◌, Result, MatchResult, nat_le}
use Rattle.reports.specs.declared.report.Kind.{Kind}
use Rattle.reports.specs.declared.report.Kind.TheVariants.{AgainstPayment, FreeOfPayment, WithPayment, PaymentOnly}
use Rattle.sheets.specs.declared.units.Outside.{Outside}

abbrev pub kind_number : Kind → ℕ
kind_number AgainstPayment = 1
kind_number FreeOfPayment = 2
kind_number WithPayment = 3
kind_number PaymentOnly = 4

abbrev pub is_kind : ℕ → Bool
is_kind n = nat_le 1 n && nat_le n 4

-- the number's kind, or none has it
abbrev pub IsKind : ℕ → Result Kind Outside → Type 0
IsKind n r = MatchResult r (λ k. kind_number k ≡ n) (λ _. is_kind n ≡ false)
