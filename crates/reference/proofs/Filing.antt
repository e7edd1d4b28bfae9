-- A call that is not refused beforehand.
use Rattle.std.proofs.Common.{◌≡◌, true, is_some, Some, None, Option, Result, refl, ap}
use Rattle.std.proofs.lemmas.Bool.{both_ways}
use Rattle.sheets.specs.declared.fault.Fault.{Fault}
use Rattle.sheets.specs.declared.units.Day.{Day}
use Rattle.reference.specs.Meaning.{Meaning, Unless}

pub unless_none : (why : Option Fault) (before after : Meaning) (r : Result Day Fault) (P : Type 0) → why ≡ None → P → Unless why before after r P
unless_none None before after r P e h = h
unless_none (Some f) before after r P e h = absurd (both_ways true (ap is_some e) refl)
