-- What a carry means. Assumes nothing.
use Rattle.std.specs.Prelude.{◌≡◌, ℕ, Result, MatchResult}
use Rattle.sheets.specs.declared.fault.Fault.{Fault}
use Rattle.sheets.specs.declared.sheet.SecuritySheet.{SecuritySheet}
use Rattle.sheets.specs.declared.units.Day.{Day}
use Rattle.reference.specs.Meaning.{Meaning, Taken}
use Rattle.carry.specs.Carried.{carried}
use Rattle.carry.specs.declared.layer.Carry.{Carry}

-- a carry over a source of that meaning: the securities below are carried forward, the currencies are those below
abbrev pub carry_meaning : {S : Type 0} → (S → Meaning) → Carry S → Meaning
carry_meaning meaning s = record { securities = carried (meaning s.below).securities s.reach; currencies = (meaning s.below).currencies }

-- what an entry of a security through a carry does below: the same entry there
abbrev pub EnteredBelow : Meaning → Meaning → ℕ → ℕ → SecuritySheet → Result Day Fault → Type 0
EnteredBelow before after k d s r =
    MatchResult r
    (λ _. Taken before.securities after.securities k d s (before.securities.reach k d s) × (after.currencies ≡ before.currencies))
    (λ _. after ≡ before)
