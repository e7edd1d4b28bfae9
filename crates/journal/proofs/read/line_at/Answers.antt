use Rattle.std.proofs.Common.{[], get_or, ◌∙◌, rules}
use Rattle.std.proofs.lemmas.Iterator.Consumers.{nth_from_yields_List}
use Rattle.words.specs.Words.{next_line, after_line, lines_of}
use Rattle.words.proofs.Steps.{all_come}
use Rattle.journal.proofs.Nth.{line_or_nothing}
use Rattle.journal.proofs.read.line_at.Goals as goal

pub returns : goal.returns
returns c =
    let at = nth_from_yields_List c.nth.result c.nth.new.self c.saturating_sub.result c.nth.ensures.ran (all_come next_line after_line lines_of c.new.result) in
    record {
      value =
          line_or_nothing (lines_of c.new.result) c.saturating_sub.result c.nth.result _ c.unwrap_or_default.result at (λ x p. search rules) c.unwrap_or_default.ensures
          ∙ (λ i. get_or (lines_of (c.new.ensures.value i)) (c.saturating_sub.ensures i) []);
    }
