use Rattle.std.proofs.Common.{rules}
use Rattle.std.proofs.lemmas.Slice.Eq.{text_from_reads}
use Rattle.lines.proofs.choice.kind_of.Goals as goal

pub returns-in-business : goal.returns-in-business
returns-in-business c = search (rules, text_from_reads)

pub returns-in-source : goal.returns-in-source
returns-in-source c = search (rules, text_from_reads)

pub returns-in-security : goal.returns-in-security
returns-in-security c = search (rules, text_from_reads)

pub returns-in-currency : goal.returns-in-currency
returns-in-currency c = search (rules, text_from_reads)
