-- The worked figures, by calculating each.
use Rattle.std.proofs.Common.{refl}
use Rattle.calculation.specs.Figures.{Figures}
use Rattle.calculation.specs.Penalties.{penalty, day_of_security}

pub worked : Figures
unfolding penalty day_of_security
worked = record {
  deliverer_fails = refl;
  receiver_fails = refl;
  free_in_euro = refl;
  deliverer_opted = refl;
  receiver_opted = refl;
  with_payment = refl;
  payment_only = refl;
  rounded_up = refl;
  rounded_down = refl;
  both_fail = refl;
  neither_fails = refl;
  before_cut_off = refl;
  after_cut_off = refl;
  no_used_day = refl;
  largest_worth = refl;
  worth_too_large = refl;
}
