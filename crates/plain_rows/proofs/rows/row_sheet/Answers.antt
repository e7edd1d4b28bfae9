use Rattle.std.proofs.Common.{◌≡◌, rules, tests, ap, ◌∙◌}
use Rattle.std.specs.Option.{option_map, option_and_then}
use Rattle.std.specs.List.{find}
use Rattle.std.proofs.lemmas.Iterator.{YieldsList-from_slice}
use Rattle.std.proofs.lemmas.Iterator.Search.{find_from_yields_List}
use Rattle.plain_rows.specs.Rows.{sits}
use Rattle.plain_rows.proofs.rows.row_sheet.Goals as goal

pub returns : goal.returns
returns g c =
    let p = sits g.T.Filed.stands c.args.number c.args.day in
    let first : option_map (λ y. y.now) c.find.result ≡ find p c.args.rows.now =
    find_from_yields_List p _ _ c.find.result c.find.ensures.ran (YieldsList-from_slice c.args.rows.now cc) (λ x b q k. search (rules, tests))
    in
    let answer : c.and_then.result ≡ option_and_then (λ r. r.sheet) (option_map (λ y. y.now) c.find.result) = search (rules, tests) in
    record { value = answer ∙ ap (option_and_then (λ r. r.sheet)) first }
