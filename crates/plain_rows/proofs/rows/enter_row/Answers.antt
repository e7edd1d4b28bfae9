use Rattle.std.proofs.Common.{◌≡◌, Some, set, is_some, sym, refl, ap, ◌∙◌}
use Rattle.std.specs.Option.{option_map_or}
use Rattle.plain_rows.specs.Rows.{entry_place, entry_row}
use Rattle.plain_rows.proofs.Found.{takes_is}
use Rattle.plain_rows.proofs.rows.enter_row.Goals as goal

pub returns-in_default : goal.returns-in_default
returns-in_default g c = record {
  entered = record {
    asked = takes_is g.T.Filed.stands c.args.number c.args.day.number c.args.rows.now ∙ ap is_some (sym c.in_default.ensures.value);
    says = cc;
    rows_are = refl;
  };
}

pub returns : goal.returns
returns g c =
    let at : entry_place g.T.Filed.stands c.args.number c.args.day.number c.args.rows.now ≡ Some c.in-Some.place = sym c.entry_place.ensures.value ∙ c.in-Some.is in
    record {
      entered = record {
        asked = takes_is g.T.Filed.stands c.args.number c.args.day.number c.args.rows.now ∙ ap is_some at;
        day_is = refl;
        rows_are = ap (set c.args.rows.now c.in-Some.place) c.entry.ensures.value ∙ sym (ap (λ o. option_map_or (λ i. set c.args.rows.now i (entry_row c.args.number c.args.day.number c.args.sheet)) o c.args.rows.now) at);
      };
    }
