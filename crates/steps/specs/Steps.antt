-- What steps mean. Assumes nothing.
use Rattle.std.specs.Prelude.{ℕ}
use Rattle.reference.specs.Meaning.{Meaning}
use Rattle.plain_rows.specs.Rows.{any_number, own_number, rows_table}
use Rattle.carry.specs.Carried.{carried, whole_year}
use Rattle.steps.specs.declared.entries.Steps.{Steps}

-- how many entries of each kind fit
abbrev pub entries : ℕ
entries = 64

-- steps: each entry holds until the next of its number
abbrev pub steps_meaning : Steps → Meaning
steps_meaning s = record {
  securities = carried (rows_table any_number s.securities) whole_year;
  currencies = carried (rows_table own_number s.currencies) whole_year;
}
