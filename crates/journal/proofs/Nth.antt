-- A line by its number. Assumes nothing.
use Rattle.std.proofs.Common.{◌≡◌, ℕ, List, [], get_or, Some, None, Option, Bor, ap, ◌∙◌}
use Rattle.std.specs.Option.{UnwrapsOrElse, option_map, unwrap_or}
use Rattle.std.specs.List.{slice_get}
use Rattle.std.proofs.lemmas.Option.{unwrap_or-slice_get}

-- the n-th of ls, or nothing
pub line_or_nothing : (ls : List (List ℕ)) (n : ℕ) (r : Option (Bor (List ℕ))) (Empty : Bor (List ℕ) → Type 0) (line : Bor (List ℕ)) → option_map (λ x. x.now) r ≡ slice_get ls n → ((x : Bor (List ℕ)) → Empty x → x.now ≡ []) → UnwrapsOrElse r Empty line → line.now ≡ get_or ls n []
line_or_nothing ls n None Empty line h d u = d line u ∙ (ap (λ o. unwrap_or o []) h ∙ unwrap_or-slice_get ls n [])
line_or_nothing ls n (Some x) Empty line h d u =
    ap (λ b. b.now) u ∙ (ap (λ o. unwrap_or o []) h ∙ unwrap_or-slice_get ls n [])
