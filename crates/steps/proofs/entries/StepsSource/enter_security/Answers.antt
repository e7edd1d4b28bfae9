use Rattle.steps.proofs.Stepping.{steps_security}
use Rattle.steps.proofs.entries.StepsSource.enter_security.Goals as goal

pub returns-clause-entered : goal.returns-clause-entered
returns-clause-entered c = steps_security c.args.self.now c.enter_step.new.rows c.args.security.number c.args.day.number c.args.sheet c.enter_step.result c.args.day.limit c.enter_step.ensures.entered
