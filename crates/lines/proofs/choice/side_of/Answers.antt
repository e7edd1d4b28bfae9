use Rattle.std.proofs.Common.{rules}
use Rattle.std.proofs.lemmas.Slice.Eq.{text_from_reads}
use Rattle.lines.proofs.choice.side_of.Goals as goal

pub returns-in-before : goal.returns-in-before
returns-in-before c = search (rules, text_from_reads)
