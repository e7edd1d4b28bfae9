use Rattle.std.proofs.Common.{rules}
use Rattle.std.proofs.lemmas.Slice.Eq.{text_from_reads}
use Rattle.lines.proofs.choice.subject_of.Goals as goal

pub returns-in-security : goal.returns-in-security
returns-in-security c = search (rules, text_from_reads)

pub returns-in-currency : goal.returns-in-currency
returns-in-currency c = search (rules, text_from_reads)
