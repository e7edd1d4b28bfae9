use Rattle.std.proofs.Common.{rules, tests}
use Rattle.std.proofs.lemmas.Result.{err_from_is_err_and}
use Rattle.reference.specs.Meaning.{answers}
use Rattle.reports.specs.Terms.{terms_of}
use Rattle.calculation.specs.Penalties.{day_of}
use Rattle.calculation.proofs.Sums.{sum_stop}
use Rattle.calculation.proofs.basis.Basis.amount_of.Goals as goal

pub returns-in_err-sum : goal.returns-in_err-sum
returns-in_err-sum g c =
    let e = err_from_is_err_and c.from_residual.result c.from_residual.ensures.1 in
    let stop = sum_stop (answers (g.S.Source.meaning c.args.self.now.source.now)) (day_of (terms_of c.args.penalty.trade) c.args.penalty.side c.args.penalty.currency.number) c.args.self.now.calendar.now.business c.loop-day.sum c.loop-day.day c.args.penalty.trade.span.end _ c.loop-day-test.true (search (rules, tests)) c.in_err-sum.ensures.value in
    record { value = rw (e.1, e.2) (cc) }
