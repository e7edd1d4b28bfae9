use Rattle.std.proofs.Common.{◌≡◌, ◌*◌, ◌^◌, ◌≤◌}
use Rattle.reference.specs.Meaning.{answers}
use Rattle.reports.specs.Terms.{terms_of}
use Rattle.calculation.specs.Penalties.{plus, day_of}
use Rattle.calculation.proofs.Sums.{rest}
use Rattle.calculation.proofs.basis.Basis.amount_of.Given as goal

abbrev pub invariant-loop-day : goal.invariant-loop-day
invariant-loop-day g l =
    let p = l.penalty in
    let all = rest (answers (g.S.Source.meaning l.self.source.now)) (day_of (terms_of p.trade) p.side p.currency.number) l.self.calendar.now.business in
    record {
      comes : all p.trade.span.from p.trade.span.end ≡ plus l.sum (all l.day p.trade.span.end);
      bound : l.sum ≤ 2 * 10 ^ 16 * l.day;
    }
