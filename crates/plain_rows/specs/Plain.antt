-- What plain rows mean. Assumes nothing.
use Rattle.reference.specs.Meaning.{Meaning}
use Rattle.plain_rows.specs.Rows.{any_number, own_number, rows_table}
use Rattle.plain_rows.specs.declared.plain.PlainRows.{PlainRows}

-- plain rows: each entry holds on its own day
abbrev pub plain_meaning : PlainRows → Meaning
plain_meaning s = record {
  securities = rows_table any_number s.securities.now;
  currencies = rows_table own_number s.currencies.now;
}
