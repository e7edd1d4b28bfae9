-- The words of a line, taken into a list one after another. Assumes nothing.
use Rattle.std.proofs.Common.{List, ◌++◌, Some, None, Option}

-- what was taken before, and the rest
abbrev pub after : {A : Type 0} → List A → Option (List A) → Option (List A)
after xs None = None
after xs (Some ys) = Some (xs ++ ys)
