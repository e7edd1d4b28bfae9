use Rattle.steps.proofs.Stepping.{steps_currency}
use Rattle.steps.proofs.entries.StepsSource.enter_currency.Goals as goal

pub returns-clause-entered : goal.returns-clause-entered
returns-clause-entered c = steps_currency c.args.self.now c.enter_step.new.rows c.args.day.number c.args.sheet c.enter_step.result c.args.day.limit (rw c.from.ensures at c.enter_step.ensures.entered)
