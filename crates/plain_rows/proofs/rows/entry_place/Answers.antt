use Rattle.std.proofs.Common.{◌≡◌, rules, tests}
use Rattle.std.specs.List.{position}
use Rattle.std.proofs.lemmas.Iterator.{YieldsList-from_slice}
use Rattle.std.proofs.lemmas.Iterator.Search.{position_from_yields_List}
use Rattle.plain_rows.specs.Rows.{sits}
use Rattle.plain_rows.proofs.rows.entry_place.Goals as goal

pub returns : goal.returns
returns g c =
    let p = sits g.T.Filed.stands c.args.number c.args.day in
    let first : c.position.result ≡ position p c.args.rows.now = position_from_yields_List p _ _ c.position.result c.position.ensures.ran (YieldsList-from_slice c.args.rows.now cc) (λ x b q k. search (rules, tests)) in
    record { value = rw (← first) (search (rules, tests)) }
