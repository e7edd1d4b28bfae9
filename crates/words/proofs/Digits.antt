-- The digits of a number, taken one after another. Assumes nothing.
use Rattle.std.proofs.Common.{◌≡◌, ℕ, ◌+◌, ◌-◌, ◌*◌, ◌^◌, ◌<◌, ◌≤◌, true, false, cond, ◌&&◌, ltb, List, [], ◌∷◌, ◌++◌, length, get_or, drop, Some, None, Option, sym, refl, ap, ◌∙◌, inl, inr, arith}
use Rattle.std.specs.Char.{is_ascii_digit}
use Rattle.std.proofs.lemmas.Bool.{cases_Bool, lt-ltb, le-ltb, ltb-false}
use Rattle.std.proofs.lemmas.List.{at_drop_more, at_drop_all}
use Rattle.words.specs.Numbers.{digits_only, value_after, fits, one_more}

value_grows : (n : ℕ) (cs : List ℕ) → n ≤ value_after n cs
value_grows n [] = omega arith
value_grows n (c ∷ cs) = omega (arith, value_grows (10 * n + (c - 48)) cs)

-- the digits after a number that may have been too large
abbrev pub fits_after : Option ℕ → List ℕ → Option ℕ
fits_after None cs = None
fits_after (Some n) cs = fits n cs

pub fits_cons : (n c : ℕ) (cs : List ℕ) → fits n (c ∷ cs) ≡ fits_after (one_more n c) cs
fits_cons n c cs =
    elim (cases_Bool (is_ascii_digit c)) [
      | inl d ↦
          elim (cases_Bool (ltb (10 * n + (c - 48)) (2 ^ 64))) [
            | inl s ↦ rw (d, s) refl
            | inr s ↦
                let large : ltb (value_after (10 * n + (c - 48)) cs) (2 ^ 64) ≡ false = le-ltb _ _ (omega (arith, ltb-false _ _ s, value_grows (10 * n + (c - 48)) cs)) in
                rw (d, s) (grind (arith, large))
          ]
      | inr d ↦ rw d refl
    ]

fits_large : (n : ℕ) (cs : List ℕ) → 2 ^ 64 ≤ n → fits n cs ≡ None
fits_large n cs h =
    let large : ltb (value_after n cs) (2 ^ 64) ≡ false = le-ltb _ _ (omega (arith, value_grows n cs)) in
    rw large (elim (digits_only cs) as (λ b. cond (b && false) (Some (value_after n cs)) None ≡ None) [ true ↦ refl | false ↦ refl ])

pub fits_append : (n : ℕ) (cs ds : List ℕ) → fits n (cs ++ ds) ≡ fits_after (fits n cs) ds
fits_append n [] ds =
    elim (cases_Bool (ltb n (2 ^ 64))) [
      | inl s ↦ rw s refl
      | inr s ↦ rw s (fits_large n ds (ltb-false _ _ s))
    ]
fits_append n (c ∷ cs) ds =
    fits_cons n c (cs ++ ds)
    ∙ ((elim (one_more n c) as (λ o. fits_after o (cs ++ ds) ≡ fits_after (fits_after o cs) ds) [ None ↦ refl | Some m ↦ fits_append m cs ds ])
    ∙ ap (λ o. fits_after o ds) (sym (fits_cons n c cs)))

-- one turn over the digits, at a digit or where there is none
pub digits_turn : (bs : List ℕ) (i n : ℕ) (o r : Option ℕ) → i < length bs → o ≡ one_more n (get_or bs i 0) → fits n (drop i bs) ≡ r → fits_after o (drop (i + 1) bs) ≡ r
digits_turn bs i n o r h e inv =
    ap (λ p. fits_after p (drop (i + 1) bs)) e ∙ (sym (fits_cons n (get_or bs i 0) (drop (i + 1) bs)) ∙ (sym (at_drop_more (fits n) bs i 0 h) ∙ inv))

pub digits_done : (bs : List ℕ) (i n : ℕ) (r : Option ℕ) → length bs ≤ i → n < 2 ^ 64 → fits n (drop i bs) ≡ r → Some n ≡ r
digits_done bs i n r h l inv =
    let small : fits n [] ≡ Some n = rw (lt-ltb n (2 ^ 64) l) refl in
    sym small ∙ (sym (at_drop_all (fits n) bs i h) ∙ inv)
