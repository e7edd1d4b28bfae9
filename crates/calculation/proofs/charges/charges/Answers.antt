use Rattle.std.proofs.Common.{◌≡◌, rules}
use Rattle.reference.specs.Meaning.{answers}
use Rattle.calculation.specs.Charging.{charges_of}
use Rattle.calculation.proofs.Dependence.{depends}
use Rattle.calculation.proofs.charges.charges.Goals as goal

pub returns-clause-reads : goal.returns-clause-reads
returns-clause-reads g c =
    let m = answers (g.S.Source.meaning c.args.source.now) in
    let marks = c.args.calendar.now.business in
    let value : c.charges.result ≡ charges_of marks c.args.opted.now m c.args.report = search rules in
    depends marks c.args.opted.now m c.args.report c.charges.result value
