-- The settings of a journal, each with the words of its line in their order. Assumes nothing.
use Rattle.std.specs.Prelude.{ℕ, List, Some, None, Option}
use Rattle.lines.specs.declared.choice.BaseKind.{BaseKind}
use Rattle.lines.specs.declared.choice.BaseKind.TheVariants as base_kinds
use Rattle.lines.specs.declared.choice.Form.{Form}
use Rattle.lines.specs.declared.choice.Form.TheVariants as forms
use Rattle.lines.specs.declared.expected.Expected.TheVariants as expected
use Rattle.lines.specs.declared.said.Base.{Base}
use Rattle.lines.specs.declared.said.Base.TheVariants.{Plain, Steps}
use Rattle.lines.specs.declared.said.Source.{Source}
use Rattle.lines.specs.Grammar.{Parsed, reads, and_then}
use Rattle.lines.specs.Fields as field

abbrev pub over : Option ℕ → Base → Source
over reach base = record { reach = reach; base = base }

abbrev pub rows : List ℕ → Parsed ℕ
rows = field.number 1000000 expected.Rows

-- 400 100
abbrev pub plain : List ℕ → Parsed Base
plain = and_then rows (λ s. and_then rows (λ c. reads (Plain s c)))

-- what follows the word that names the base
abbrev pub based : BaseKind → List ℕ → Parsed Base
based base_kinds.Plain = plain
based base_kinds.Steps = reads Steps

-- plain 400 100, or steps
abbrev pub base : List ℕ → Parsed Base
base = and_then field.base_kind based

-- 3 plain 400 100, or 3 steps
abbrev pub carry : List ℕ → Parsed Source
carry = and_then (field.number 255 expected.Reach) (λ n. and_then base (λ b. reads (over (Some n) b)))

abbrev pub formed : Form → List ℕ → Parsed Source
formed (forms.Base k) = and_then (based k) (λ b. reads (over None b))
formed forms.Carry = carry

abbrev pub source : List ℕ → Parsed Source
source = and_then field.form formed
