use Rattle.plain_rows.specs.Plain.{plain_meaning}
use Rattle.plain_rows.proofs.Entering.{plain_currency}
use Rattle.plain_rows.proofs.plain.PlainRowsSource.enter_currency.Goals as goal

pub returns-clause-entered : goal.returns-clause-entered
returns-clause-entered c = plain_currency (plain_meaning c.args.self.now).securities c.args.self.now.currencies.now c.enter_row.new.rows c.args.day.number c.args.sheet c.enter_row.result c.args.day.limit (rw c.from.ensures at c.enter_row.ensures.entered)
