-- What a function that can want memory has read. Assumes nothing.
use Rattle.std.specs.Prelude.{◌≡◌, List, Some, None, Ok, Err, vec_items, Option, Result, Vec}
use Rattle.std.specs.declared.alloc.Global.{Global}
use Rattle.lines.specs.declared.expected.Expected.{Expected}
use Rattle.lines.specs.declared.said.Line.{Line}
use Rattle.lines.specs.declared.unread.Unread.{Unread}
use Rattle.lines.specs.declared.unread.Unread.TheVariants.{Malformed, Memory}
use Rattle.lines.specs.Lines.{Said, said_by}

-- the list is as p says, where there was memory
abbrev pub Lists : {A : Type 0} → Result (Vec A Global) Unread → Result (List A) Expected → Type 0
Lists (Ok v) p = p ≡ Ok (vec_items v)
Lists (Err (Malformed e)) p = p ≡ Err e
Lists (Err Memory) p = Unit {0}

-- the line says what p says
abbrev pub Says : Result Line Unread → Result Said Expected → Type 0
Says (Ok l) p = p ≡ Ok (said_by l)
Says (Err (Malformed e)) p = p ≡ Err e
Says (Err Memory) p = Unit {0}

-- the same of a line that may have no word
abbrev pub Told : Result (Option Line) Unread → Result (Option Said) Expected → Type 0
Told (Ok None) p = p ≡ Ok None
Told (Ok (Some l)) p = p ≡ Ok (Some (said_by l))
Told (Err (Malformed e)) p = p ≡ Err e
Told (Err Memory) p = Unit {0}
