use Rattle.std.proofs.Common.{◌≡◌, ◌^◌, ◌<◌, drop}
use Rattle.words.specs.Numbers.{fits}
use Rattle.words.proofs.read.digits.Given as goal

abbrev pub invariant-loop-byte : goal.invariant-loop-byte
invariant-loop-byte l =
    (fits l.n (drop l.byte-index l.bytes) ≡ fits l.start l.bytes) × (l.n < 2 ^ 64)
