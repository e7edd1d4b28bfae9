use Rattle.std.proofs.Common.{◌≡◌, sym, ◌∙◌, subst}
use Rattle.plain_rows.specs.Rows.{rows_table}
use Rattle.carry.specs.Carried.{spread, whole_year}
use Rattle.carry.specs.Laws.{Greatest}
use Rattle.carry.proofs.Carrying.{spread_greatest}
use Rattle.steps.proofs.Stepping.{step_reach}
use Rattle.steps.proofs.entries.enter_step.Goals as goal

pub returns : goal.returns
returns g c =
    let row = c.in_ok-enter_row.ensures.entered in
    let sheet = (rows_table g.T.Filed.stands c.args.rows.now).sheet c.args.number in
    let d = c.args.day.number in
    let reach : c.next_step.result.number ≡ spread sheet whole_year d = c.next_step.ensures.value ∙ step_reach g.T.Filed.stands c.args.rows.now c.enter_row.new.rows c.args.number d c.args.sheet c.in_ok-enter_row.field-0.number row in
    record {
      entered = record { asked = row.asked; day_is = reach; rows_are = row.rows_are };
      greatest = subst (Greatest sheet whole_year d) (sym reach) (spread_greatest sheet whole_year d c.args.day.limit);
    }
