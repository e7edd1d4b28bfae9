use Rattle.plain_rows.specs.Plain.{plain_meaning}
use Rattle.plain_rows.proofs.Entering.{plain_security}
use Rattle.plain_rows.proofs.plain.PlainRowsSource.enter_security.Goals as goal

pub returns-clause-entered : goal.returns-clause-entered
returns-clause-entered c = plain_security c.args.self.now.securities.now c.enter_row.new.rows (plain_meaning c.args.self.now).currencies c.args.security.number c.args.day.number c.args.sheet c.enter_row.result c.args.day.limit c.enter_row.ensures.entered
