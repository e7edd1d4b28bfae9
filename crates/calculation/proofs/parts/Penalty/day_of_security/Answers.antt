use Rattle.std.proofs.Common.{arith}
use Rattle.std.proofs.lemmas.Result.{err_from_is_err_and}
use Rattle.calculation.proofs.Binding.{result_bind}
use Rattle.calculation.proofs.DaySteps.{day_answers}
use Rattle.calculation.proofs.parts.Penalty.day_of_security.Goals as goal

pub returns-in_err-worth : goal.returns-in_err-worth
returns-in_err-worth g c =
    let e = err_from_is_err_and c.from_residual-in_err-worth.result c.from_residual-in_err-worth.ensures.1 in
    record { value = rw (e.1, e.2) (grind (arith, day_answers, result_bind, c.in_err-worth.ensures.value)) }
