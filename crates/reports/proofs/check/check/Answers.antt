use Rattle.std.proofs.Common.{sym, subst}
use Rattle.reports.specs.UsedDays.{UsedDays}
use Rattle.reports.specs.WhoFails.{WhoFails}
use Rattle.reports.specs.Kinds.{kind_number}
use Rattle.reports.specs.Terms.{exchange_kind}
use Rattle.reports.proofs.Failing.{sides}
use Rattle.reports.proofs.Using.{used_days_lem}
use Rattle.reports.proofs.check.check.Goals as goal

pub returns-clause-sides : goal.returns-clause-sides
returns-clause-sides c =
    let span = c.in_ok-span.ensures.made in
    subst (WhoFails c.args.report.cause) (sym span.1.failing_is) (sides c.args.calendar.now.business (kind_number (exchange_kind c.in_ok-exchange.exchange)) c.args.report.cause span.0)

pub returns-clause-used : goal.returns-clause-used
returns-clause-used c =
    let marks = c.args.calendar.now.business in
    subst (UsedDays marks c.args.report.cause) (sym c.in_ok-span.ensures.made.1.days_are) (used_days_lem marks c.args.report.cause)
