-- The lines of a text. Assumes nothing.
use Rattle.std.proofs.Common.{◌≡◌, ℕ, suc, ◌+◌, ◌<◌, eqb, List, [], ◌∷◌, length, take, drop, Some, None, Option, Bor, sym, refl, ap, ◌∙◌, inl, inr, arith}
use Rattle.std.specs.List.{prefix_len}
use Rattle.std.specs.Iterator.{YieldsFirstRef}
use Rattle.std.proofs.lemmas.Bool.{cases_Bool}
use Rattle.std.proofs.lemmas.List.{drop-drop, length-drop}
use Rattle.words.specs.Words.{in_line, seen, next_line, after_line, on_first, lines_of}

pub some_line : (bs line : List ℕ) → 0 < length bs → line ≡ take (prefix_len in_line bs) bs → Some line ≡ next_line bs
some_line [] line h e = absurd (omega arith)
some_line (b ∷ bs) line h e = ap Some e

pub line_feed_left_out : (bs back rest : List ℕ) → back ≡ drop (prefix_len in_line bs) bs → rest ≡ drop 1 back → rest ≡ after_line bs
line_feed_left_out bs back rest e q = q ∙ (ap (drop 1) e ∙ drop-drop 1 (prefix_len in_line bs) bs)

longer : (b : ℕ) (bs : List ℕ) (n : ℕ) → on_first b (take n bs ∷ lines_of (drop (n + 1) bs)) ≡ take (1 + n) (b ∷ bs) ∷ lines_of (drop (1 + n + 1) (b ∷ bs))
longer b bs n =
    let p : suc n ≡ 1 + n = omega arith in
    let q : suc (n + 1) ≡ 1 + n + 1 = omega arith in
    λ i. take (p i) (b ∷ bs) ∷ lines_of (drop (q i) (b ∷ bs))

-- the first line and the others
lines_cons : (b : ℕ) (bs : List ℕ) → lines_of (b ∷ bs) ≡ take (prefix_len in_line (b ∷ bs)) (b ∷ bs) ∷ lines_of (after_line (b ∷ bs))
lines_cons b [] = elim (cases_Bool (eqb b 10)) [ inl e ↦ rw e refl | inr e ↦ rw e refl ]
lines_cons b (d ∷ bs) =
    elim (cases_Bool (eqb b 10)) [
      | inl e ↦ rw e refl
      | inr e ↦ rw e (ap (on_first b) (lines_cons d bs) ∙ longer b (d ∷ bs) (prefix_len in_line (d ∷ bs)))
    ]

-- a line takes bytes
pub line_shorter : (bs : List ℕ) → 0 < length bs → length (after_line bs) < length bs
line_shorter bs h = simp length-drop (omega arith)

-- the line that comes is the first of all
pub yields_line : (bs : List ℕ) (r : Option (Bor (List ℕ))) (rest : List ℕ) → seen r ≡ next_line bs → rest ≡ after_line bs → YieldsFirstRef lines_of bs r rest
yields_line [] None rest h q = (refl, ap lines_of q)
yields_line [] (Some line) rest h q = let z : ◌≡◌ {A = ℕ} 0 1 = cc in absurd (omega arith)
yields_line (b ∷ bs) None rest h q = let z : ◌≡◌ {A = ℕ} 0 1 = cc in absurd (omega arith)
yields_line (b ∷ bs) (Some line) rest h q =
    let same : take (prefix_len in_line (b ∷ bs)) (b ∷ bs) ≡ line.now = cc in
    lines_cons b bs ∙ (λ i. same i ∷ lines_of (sym q i))
