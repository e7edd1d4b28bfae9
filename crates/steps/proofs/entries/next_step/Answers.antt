use Rattle.std.proofs.Common.{◌≡◌, ◌&&◌, ◌-◌, ltb, min, rules, tests, sym, ap, ◌∙◌}
use Rattle.std.specs.List.{reduce}
use Rattle.std.proofs.lemmas.Iterator.{YieldsList-from_slice, YieldsList-from_map}
use Rattle.std.proofs.lemmas.Iterator.Adapters.{option_map_id}
use Rattle.std.proofs.lemmas.Iterator.Consumers.{YieldsList-at, YieldsList-from_filter, min_from_yields_List}
use Rattle.std.specs.Option.{option_map_or}
use Rattle.sheets.specs.Limits.{last_day}
use Rattle.plain_rows.specs.Rows.{filed}
use Rattle.steps.proofs.Stepping.{entry_days, next_entry}
use Rattle.steps.proofs.entries.next_step.Goals as goal

pub returns : goal.returns
returns g c =
    let stands = g.T.Filed.stands in
    let k = c.args.number in
    let d = c.args.day.number in
    let earliest : c.min-next.result ≡ reduce min (entry_days stands k (λ x. ltb d x) c.args.rows.now) =
    sym (option_map_id c.min-next.result)
    ∙ min_from_yields_List c.map.result c.min-next.result c.min-next.ensures.ran
    (YieldsList-from_map _ (λ r. r.day)
    (YieldsList-at c.map.ensures.source
    (YieldsList-from_filter _ (λ r. filed stands k r && ltb d r.day) (YieldsList-from_slice c.args.rows.now cc) c.filter.ensures.closure (λ x b q k. search (rules, tests))))
    c.map.ensures.closure (λ x r q k. search rules))
    in
    let answer : c.map_or.result ≡ option_map_or (λ n. min last_day (n - 1)) c.min-next.result last_day = search (rules, tests) in
    record { value = answer ∙ ap (λ o. option_map_or (λ n. min last_day (n - 1)) o last_day) earliest ∙ next_entry stands c.args.rows.now k d c.args.day.limit }
