use Rattle.std.proofs.Common.{◌≡◌, take}
use Rattle.journal.specs.Whole.{marked}
use Rattle.journal.proofs.read.mark.Given as goal

abbrev pub invariant-loop-place : goal.invariant-loop-place
invariant-loop-place l = l.opted ≡ marked l.initial.opted (take l.place-index l.places)
