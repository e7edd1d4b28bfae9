use Rattle.std.proofs.Common.{◌≡◌}
use Rattle.std.specs.Iterator.Adapters.{enumerate_source, enumerate_count}
use Rattle.words.specs.Words.{lines_of}
use Rattle.journal.specs.Whole.{kept_by, read_from, all_read}
use Rattle.journal.proofs.read.read_all.Given as goal

abbrev pub invariant-loop-before : goal.invariant-loop-before
invariant-loop-before l =
    (goal.iterator-loop-before).can_next l.before-iterator
    × (goal.iterator-loop-before).is_finite l.before-iterator
    × (read_from (kept_by l.journal) (enumerate_count l.before-iterator) (lines_of (enumerate_source l.before-iterator)) ≡ all_read l.text)
