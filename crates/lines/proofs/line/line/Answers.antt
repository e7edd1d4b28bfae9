use Rattle.std.proofs.Common.{rules}
use Rattle.lines.specs.Settings.{source}
use Rattle.lines.proofs.line.line.Goals as goal

pub returns-in_err-whole-in-Source : goal.returns-in_err-whole-in-Source
returns-in_err-whole-in-Source c = search (rules, c.in_err-whole-in-Source.ensures.cases source)

pub returns-in_ok-whole-in-Source : goal.returns-in_ok-whole-in-Source
returns-in_ok-whole-in-Source c = search (rules, c.in_ok-whole-in-Source.ensures.cases source)
