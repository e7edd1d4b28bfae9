use Rattle.std.proofs.Common.{take, drop, ap, ◌∙◌, rules}
use Rattle.std.proofs.lemmas.List.Folds.{length-prefix_len}
use Rattle.std.proofs.lemmas.Iterator.{YieldsList-from_slice}
use Rattle.std.proofs.lemmas.Iterator.Consumers.{count_from_yields_List}
use Rattle.std.proofs.lemmas.Iterator.Search.{YieldsList-from_take_while}
use Rattle.words.proofs.scan.split_while.Goals as goal

pub returns : goal.returns
returns g c =
    record {
      value = λ p h.
          let bytes = c.args.bytes.now in
          let n = count_from_yields_List c.take_while.result _ c.count-length.ensures.ran (YieldsList-from_take_while _ p (YieldsList-from_slice bytes cc) c.take_while.ensures.closure c.take_while.ensures.done (λ x b q k. search (rules, h))) ∙ length-prefix_len p bytes in
          (c.split_at.ensures.front ∙ ap (λ k. take k bytes) n, c.split_at.ensures.back ∙ ap (λ k. drop k bytes) n);
    }
