use Rattle.std.proofs.Common.{◌∙◌, ◌-◌, refl, rules, tests}
use Rattle.std.proofs.lemmas.Iterator.{YieldsList-from_range}
use Rattle.std.proofs.lemmas.Iterator.Search.{any_from_yields_List}
use Rattle.reports.specs.Days.{is_business}
use Rattle.reports.proofs.Between.{any_day}
use Rattle.reports.proofs.calendar.Calendar.has_day.Goals as goal

pub returns : goal.returns
returns c =
    let a = c.args in
    let marks = a.self.now.business in
    record { value = any_from_yields_List (is_business marks) _ _ _ c.any.ensures.ran (YieldsList-from_range a.from a.end (a.end - a.from) refl refl) (λ x b q k. search (rules, tests)) ∙ any_day marks (a.end - a.from) a.from }
