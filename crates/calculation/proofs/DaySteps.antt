-- One day's steps: what the security's sheet answers, and what follows from it.
use Rattle.std.proofs.Common.{◌≡◌, ℕ, ◌*◌, cond, ltb}
use Rattle.sheets.specs.declared.sheet.SecuritySheet.{SecuritySheet}
use Rattle.sheets.specs.Limits.{greatest_worth}
use Rattle.reference.specs.Meaning.{Sheets}
use Rattle.reports.specs.declared.report.Side.{Side}
use Rattle.calculation.specs.Steps.{Steps, gives, too_large, reads_security, ◌>>=◌, and_then, result_of}
use Rattle.reports.specs.Terms.{Terms}
use Rattle.calculation.specs.Penalties.{sheet_if, needs_penalty_sheet, needs_price_sheet, parts_of, day_of_security}
use Rattle.calculation.proofs.Binding.{result_bind}

abbrev pub after_sheet : Terms → Side → ℕ → ℕ → ℕ → ℕ → SecuritySheet → Steps ℕ
after_sheet t side currency security quantity day s =
    sheet_if (needs_penalty_sheet t.kind side s.currency.number currency) currency day >>= (λ p.
    sheet_if (needs_price_sheet s.currency.number currency) s.currency.number day >>= (λ q.
    cond (ltb greatest_worth (quantity * s.price))
    (too_large security day)
    (gives (parts_of t side currency (quantity * s.price) s p q))))

pub day_answers : (m : Sheets) (t : Terms) (side : Side) (currency security quantity day : ℕ) → result_of m (day_of_security t side currency security quantity day) ≡ and_then (result_of m (reads_security security day gives)) (λ s. result_of m (after_sheet t side currency security quantity day s))
unfolding day_of_security
day_answers m t side currency security quantity day = result_bind m (reads_security security day gives) (after_sheet t side currency security quantity day)
