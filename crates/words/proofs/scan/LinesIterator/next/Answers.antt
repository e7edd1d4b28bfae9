use Rattle.std.proofs.Common.{Some, rules}
use Rattle.words.specs.Words.{in_line}
use Rattle.words.proofs.Lines.{some_line, line_feed_left_out, line_shorter, yields_line}
use Rattle.words.proofs.Steps.{nearer_end}
use Rattle.words.proofs.scan.LinesIterator.next.Goals as goal

pub returns : goal.returns
returns c =
    let text = c.self.inside.rest.now in
    let split = c.split_while.ensures.value in_line (λ b r k. search rules) in
    let value = some_line text _ (search rules) split.0 in
    let after = line_feed_left_out text _ _ split.1 c.behind_first-self-inside.ensures.value in
    let first = yields_line text (Some c.split_while.result.0) _ value after in
    rw (← c.self.view_is) (record { steps = record { value = value; after = after; first = first }; goes = nearer_end text _ _ (λ x e. rw after (line_shorter text (search rules))) })
