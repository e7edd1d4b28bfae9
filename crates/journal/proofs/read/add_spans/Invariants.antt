use Rattle.std.proofs.Common.{◌≡◌, ◌++◌, map, take, vec_items}
use Rattle.journal.specs.Whole.{numbered}
use Rattle.journal.proofs.read.add_spans.Given as goal

abbrev pub invariant-loop-said : goal.invariant-loop-said
invariant-loop-said l =
    vec_items l.business ≡ vec_items l.initial.business ++ map (numbered l.line) (take l.said-index l.spans)
