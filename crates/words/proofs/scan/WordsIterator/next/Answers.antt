use Rattle.std.proofs.Common.{rules}
use Rattle.words.proofs.Words.{word_shorter, yields_word}
use Rattle.words.proofs.Steps.{nearer_end}
use Rattle.words.proofs.scan.WordsIterator.next.Goals as goal

pub returns-clause-steps : goal.returns-clause-steps
returns-clause-steps c =
    record { value = search rules; after = search rules; first = yields_word _ _ _ (search rules) (search rules) }

pub returns-clause-goes : goal.returns-clause-goes
returns-clause-goes c = nearer_end _ _ _ (word_shorter _ _ _ (search rules) (search rules))
