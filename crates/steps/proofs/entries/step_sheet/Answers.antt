use Rattle.std.proofs.Common.{◌≡◌, ◌&&◌, leb, max, rules, tests, arith, sym, ap, ◌∙◌, subst}
use Rattle.std.specs.List.{reduce}
use Rattle.std.specs.Option.{option_and_then}
use Rattle.std.proofs.lemmas.Iterator.{YieldsList-from_slice, YieldsList-from_map}
use Rattle.std.proofs.lemmas.Iterator.Adapters.{option_map_id}
use Rattle.std.proofs.lemmas.Iterator.Consumers.{YieldsList-at, YieldsList-from_filter, max_from_yields_List}
use Rattle.plain_rows.specs.Rows.{filed, rows_table}
use Rattle.carry.specs.Carried.{whole_year}
use Rattle.carry.specs.Laws.{IsLatest}
use Rattle.carry.proofs.Latest.{latest_latest}
use Rattle.steps.proofs.Stepping.{entry_days, latest_entry}
use Rattle.steps.proofs.entries.step_sheet.Goals as goal

pub returns : goal.returns
returns g c =
    let stands = g.T.Filed.stands in
    let k = c.args.number in
    let d = c.args.day.number in
    let sheet = (rows_table stands c.args.rows.now).sheet k in
    let latest : c.max.result ≡ reduce max (entry_days stands k (λ x. leb x d) c.args.rows.now) =
    sym (option_map_id c.max.result)
    ∙ max_from_yields_List c.map.result c.max.result c.max.ensures.ran
    (YieldsList-from_map _ (λ r. r.day)
    (YieldsList-at c.map.ensures.source
    (YieldsList-from_filter _ (λ r. filed stands k r && leb r.day d) (YieldsList-from_slice c.args.rows.now cc) c.filter.ensures.closure (λ x b q k. search (rules, tests))))
    c.map.ensures.closure (λ x r q k. search (rules, arith)))
    in
    let answer : c.and_then.result ≡ option_and_then sheet c.max.result = search (rules, tests) in
    let value = answer ∙ ap (option_and_then sheet) latest ∙ latest_entry stands c.args.rows.now k d c.args.day.limit in
    record { value = value; latest = subst (IsLatest sheet whole_year d) (sym value) (latest_latest sheet whole_year d) }
