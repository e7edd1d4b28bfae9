-- The words of a line. Assumes nothing.
use Rattle.std.proofs.Common.{◌≡◌, ℕ, zero, suc, ◌+◌, ◌<◌, ◌≤◌, true, false, List, [], ◌∷◌, length, take, drop, Some, None, Option, Bor, sym, refl, ap, ◌∙◌, inl, inr, arith}
use Rattle.std.specs.List.{prefix_len}
use Rattle.std.specs.Iterator.{YieldsFirstRef}
use Rattle.std.proofs.lemmas.Bool.{cases_Bool}
use Rattle.std.proofs.lemmas.List.{length-take, length-drop}
use Rattle.words.specs.Words.{blank, dark, from_word, first_word, some_word, next_word, after_word, words_from, words_in, words_of, seen}

some_long : (ws w : List ℕ) → Some w ≡ some_word ws → 0 < length ws
some_long [] w h = let z : ◌≡◌ {A = ℕ} 0 1 = cc in omega arith
some_long (b ∷ ws) w h = omega arith

-- a word takes bytes
pub shorter : (bs w : List ℕ) → Some w ≡ next_word bs → length (after_word bs) < length bs
shorter bs w h =
    let long = some_long (first_word bs) w h in
    simp length-drop (omega (arith, simp (length-take, length-drop) at long))

-- more turns than bytes find no more words
words_enough : (n m : ℕ) (bs : List ℕ) → length bs ≤ n → length bs ≤ m → words_in n bs ≡ words_in m bs
words_enough zero zero bs h k = refl
words_enough zero (suc m) [] h k = refl
words_enough zero (suc m) (b ∷ bs) h k = absurd (omega arith)
words_enough (suc n) zero [] h k = refl
words_enough (suc n) zero (b ∷ bs) h k = absurd (omega arith)
words_enough (suc n) (suc m) bs h k =
    elim (next_word bs) as (λ o. o ≡ next_word bs → words_from o (words_in n (after_word bs)) ≡ words_from o (words_in m (after_word bs))) [
      | None ↦ λ _. refl
      | Some w ↦ λ e. ap (λ l. w ∷ l) (words_enough n m (after_word bs) (omega (arith, shorter bs w e)) (omega (arith, shorter bs w e)))
    ] refl

words_some : (bs w : List ℕ) → Some w ≡ next_word bs → words_of bs ≡ w ∷ words_of (after_word bs)
unfolding words_of
words_some bs w h =
    words_enough (length bs) (suc (length bs)) bs (omega arith) (omega arith)
    ∙ (ap (λ o. words_from o (words_in (length bs) (after_word bs))) (sym h)
    ∙ ap (λ l. w ∷ l) (words_enough (length bs) (length (after_word bs)) (after_word bs) (omega (arith, shorter bs w h)) (omega arith)))

words_none : (bs : List ℕ) → None ≡ next_word bs → words_of bs ≡ []
unfolding words_of
words_none bs h =
    words_enough (length bs) (suc (length bs)) bs (omega arith) (omega arith)
    ∙ ap (λ o. words_from o (words_in (length bs) (after_word bs))) (sym h)

blank_more : (b : ℕ) (bs : List ℕ) → blank b ≡ true → from_word (b ∷ bs) ≡ from_word bs
blank_more b bs e =
    let p : 1 + prefix_len blank bs ≡ suc (prefix_len blank bs) = omega arith in
    rw e (ap (λ n. drop n (b ∷ bs)) p)

dark_first : (b : ℕ) (bs : List ℕ) → blank b ≡ false → first_word (b ∷ bs) ≡ b ∷ take (prefix_len dark bs) bs
dark_first b bs e =
    let p : 1 + prefix_len dark bs ≡ suc (prefix_len dark bs) = omega arith in
    rw e (rw e (ap (λ n. take n (b ∷ bs)) p))

-- where no word is left, nothing is
none_after : (bs : List ℕ) → None ≡ next_word bs → after_word bs ≡ []
none_after [] h = refl
none_after (b ∷ bs) h =
    elim (cases_Bool (blank b)) [
      | inl e ↦
          let f = blank_more b bs e in
          ap (λ t. drop (prefix_len dark t) t) f ∙ none_after bs (h ∙ ap (λ t. some_word (take (prefix_len dark t) t)) f)
      | inr e ↦ let z : ◌≡◌ {A = ℕ} 0 1 = let g = h ∙ ap some_word (dark_first b bs e) in cc in absurd (omega arith)
    ]

-- the word that comes is the first of all
pub yields_word : (bs : List ℕ) (r : Option (Bor (List ℕ))) (rest : List ℕ) → seen r ≡ next_word bs → rest ≡ after_word bs → YieldsFirstRef words_of bs r rest
yields_word bs None rest h q = (words_none bs h, ap words_of q ∙ (ap words_of (none_after bs h) ∙ words_none [] refl))
yields_word bs (Some word) rest h q = words_some bs word.now h ∙ ap (λ l. word.now ∷ words_of l) (sym q)

pub word_shorter : (bs rest : List ℕ) (r : Option (Bor (List ℕ))) → seen r ≡ next_word bs → rest ≡ after_word bs → (x : Bor (List ℕ)) → r ≡ Some x → length rest < length bs
word_shorter bs rest r h q x e = rw q (shorter bs x.now (sym (ap seen e) ∙ h))
