use Rattle.std.proofs.Common.{arith}
use Rattle.std.proofs.Math.Nat.{one-le-pow}
use Rattle.shows.proofs.DecimalDisplay.fmt.Goals as goal

pub nonzero_div-whole : goal.nonzero_div-whole
nonzero_div-whole g c = omega (arith, c.in-Some.ensures, one-le-pow g.row.PLACES 10 (omega arith))

pub nonzero_rem-whole : goal.nonzero_rem-whole
nonzero_rem-whole g c = omega (arith, c.in-Some.ensures, one-le-pow g.row.PLACES 10 (omega arith))
