use Rattle.std.proofs.Common.{None, ◌∙◌}
use Rattle.words.proofs.Digits.{digits_turn}
use Rattle.words.proofs.read.digits.Goals as goal

pub returns-in_err-n : goal.returns-in_err-n
returns-in_err-n c =
    record {
      value =
          c.from_residual.ensures
          ∙ digits_turn c.args.bytes.now c.loop-byte.byte-index c.loop-byte.n None _ c.loop-byte-test.true c.in_err-n.ensures.value c.loop-byte.invariant.0;
    }
