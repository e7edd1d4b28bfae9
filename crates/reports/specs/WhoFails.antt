-- Who fails, in the words of the rule. Assumes nothing.
use Rattle.std.specs.Prelude.{◌≡◌, Bool, true, false, not, nat_lt}
use Rattle.reports.specs.declared.report.Cause.{Cause}
use Rattle.reports.specs.declared.report.Cause.TheVariants.{Fail, Late}
use Rattle.reports.specs.declared.report.Failing.{Failing}
use Rattle.reports.specs.declared.report.Failing.TheVariants.{OnlyDeliverer, OnlyReceiver, Both}
use Rattle.reports.specs.Reports.{is_odd}

abbrev pub deliverer_in : Failing → Bool
deliverer_in OnlyDeliverer = true
deliverer_in OnlyReceiver = false
deliverer_in Both = true

abbrev pub receiver_in : Failing → Bool
receiver_in OnlyDeliverer = false
receiver_in OnlyReceiver = true
receiver_in Both = true

-- In a settlement fail a side with an odd reason fails. In a late match the side with the later accepted time, at equal times
-- the deliverer.
abbrev pub deliverer_fails : Cause → Bool
deliverer_fails (Fail day d r) = is_odd d
deliverer_fails (Late intended matched after d r) = not (nat_lt d r)

abbrev pub receiver_fails : Cause → Bool
receiver_fails (Fail day d r) = is_odd r
receiver_fails (Late intended matched after d r) = nat_lt d r

pub record WhoFails (cause : Cause) (f : Failing) : Type 0 where
  pub deliverer : deliverer_in f ≡ deliverer_fails cause
  pub receiver : receiver_in f ≡ receiver_fails cause
