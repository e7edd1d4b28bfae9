use Rattle.std.proofs.Common.{◌≡◌, vec_items}
use Rattle.words.specs.Words.{words_of}
use Rattle.lines.specs.Grammar.{Makes}
use Rattle.lines.specs.Lists.{each}
use Rattle.lines.proofs.Lists.{after}
use Rattle.lines.proofs.list.items.Given as goal

abbrev pub invariant-loop-word : goal.invariant-loop-word
invariant-loop-word g l =
    (f : _) → Makes (goal.F-post g l.read) f → each f (words_of l.initial.word-iterator) ≡ after (vec_items l.all) (each f (words_of l.word-iterator))
