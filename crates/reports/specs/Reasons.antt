-- The reasons of a settlement fail: 1 own lack, 3 own linked instruction missing, 5 own hold; 2, 4 and 6 say the same of the
-- counterparty. Assumes nothing.
use Rattle.std.specs.Prelude.{◌≡◌, ℕ, false, Result, MatchResult}
use Rattle.reports.specs.declared.reason.Reason.{Reason}
use Rattle.reports.specs.declared.reason.Reason.TheVariants.{Own, Other}
use Rattle.reports.specs.declared.reason.Obstacle.TheVariants.{Lack, MissingLink, Hold}
use Rattle.sheets.specs.declared.units.Outside.{Outside}
use Rattle.reports.specs.Reports.{is_reason}

abbrev pub reason_number : Reason → ℕ
reason_number (Own Lack) = 1
reason_number (Other Lack) = 2
reason_number (Own MissingLink) = 3
reason_number (Other MissingLink) = 4
reason_number (Own Hold) = 5
reason_number (Other Hold) = 6

-- the number's reason, or none has it
abbrev pub IsReason : ℕ → Result Reason Outside → Type 0
IsReason n r = MatchResult r (λ q. reason_number q ≡ n) (λ _. is_reason n ≡ false)
