use Rattle.std.proofs.Common.{◌∙◌, ap, rules, tests}
use Rattle.reports.specs.Days.{last_or, days_between}
use Rattle.reports.proofs.Backwards.{last_back}
use Rattle.reports.proofs.calendar.Calendar.last_day.Goals as goal

pub returns : goal.returns
returns c =
    let marks = c.args.self.now.business in
    let last = last_back marks _ (λ x b q k. search (rules, tests)) c.rev.result c.find.result _ c.find.ensures.ran in
    record { value = c.unwrap_or.ensures ∙ last ∙ ap (λ r. last_or 0 (days_between marks r.start r.end)) c.rev.ensures.source }
