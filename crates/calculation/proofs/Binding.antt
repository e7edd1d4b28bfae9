-- Steps that go on from the answer of other steps.
use Rattle.std.proofs.Common.{◌≡◌, Some, None, Ok, Err, Option, Result, refl, ap, ◌∙◌}
use Rattle.sheets.specs.declared.fault.Fault.{Fault}
use Rattle.reference.specs.Meaning.{Sheets}
use Rattle.calculation.specs.Steps.{Steps, gives, too_large, reads_security, reads_currency, ◌>>=◌, and_then, found, result_of}

found_then : {S A B : Type 0} (o : Option S) (f : Fault) (one : S → Result A Fault) (both : S → Result B Fault) (next : A → Result B Fault) → ((s : S) → both s ≡ and_then (one s) next) → found o (Err f) both ≡ and_then (found o (Err f) one) next
found_then None f one both next h = refl
found_then (Some s) f one both next h = h s

pub result_bind : {A B : Type 0} (t : Sheets) (p : Steps A) (next : A → Steps B) → result_of t (p >>= next) ≡ and_then (result_of t p) (λ a. result_of t (next a))
result_bind t (gives a) next = refl
result_bind t (too_large k d) next = refl
result_bind t (reads_security k d rest) next = found_then (t.securities k d) _ _ _ _ (λ s. result_bind t (rest s) next)
result_bind t (reads_currency k d rest) next = found_then (t.currencies k d) _ _ _ _ (λ s. result_bind t (rest s) next)

pub bind_ok : {A B : Type 0} (t : Sheets) (p : Steps A) (next : A → Steps B) (a : A) → result_of t p ≡ Ok a → result_of t (p >>= next) ≡ result_of t (next a)
bind_ok t p next a h = result_bind t p next ∙ ap (λ r. and_then r (λ b. result_of t (next b))) h

pub bind_err : {A B : Type 0} (t : Sheets) (p : Steps A) (next : A → Steps B) (f : Fault) → result_of t p ≡ Err f → result_of t (p >>= next) ≡ Err f
bind_err t p next f h = result_bind t p next ∙ ap (λ r. and_then r (λ b. result_of t (next b))) h
