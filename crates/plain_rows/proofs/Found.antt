-- Of the first row that passes a test, and of the place of an entry.
use Rattle.std.proofs.Common.{◌≡◌, ℕ, zero, suc, ◌+◌, ◌<◌, ◌≤◌, Bool, true, false, cond, ◌||◌, eqb, ltb, ◌⊎◌, List, [], ◌∷◌, length, get_or, set, is_some, Some, None, Option, sym, refl, ◌∙◌, inl, inr, ⊎_elim, le_of_suc-le-suc, not-suc-le-zero, arith}
use Rattle.std.specs.List.{find, list_any, position, position_or_len}
use Rattle.std.specs.Option.{option_or}
use Rattle.std.proofs.lemmas.Bool.{cond-true, cases_Bool, cases_lt, both_ways, and_right, not-true, lt-ltb, ltb-true}
use Rattle.std.proofs.lemmas.Bool.Decides.{nat_tests}
use Rattle.std.proofs.lemmas.List.Quantifiers.{position-Some}
use Rattle.std.proofs.lemmas.Option.{cond_some, none-some}
use Rattle.plain_rows.specs.declared.rows.Row.{Row}
use Rattle.plain_rows.specs.Rows.{sits, holds, free, entry_place, takes_row}

ltb-suc : (a b : ℕ) → ltb a b ≡ ltb (1 + a) (suc b)
ltb-suc a b = grind (arith, nat_tests)

some_if : (b : Bool) (i : ℕ) → b ≡ is_some (cond b (Some i) None)
some_if true i = refl
some_if false i = refl

module _ {X : Type 0} (p : X → Bool) where
  -- an element that passes, written not after the first that did
  pub find_put : (new : X) → p new ≡ true → (xs : List X) (i : ℕ) → i ≤ position_or_len p xs → i < length xs → find p (set xs i new) ≡ Some new
  find_put new e [] i h l = absurd (not-suc-le-zero l)
  find_put new e (x ∷ xs) zero h l = cond-true (p new) _ _ e
  find_put new e (x ∷ xs) (suc i) h l =
      ⊎_elim
      (λ t. absurd (not-suc-le-zero (rw t at h)))
      (λ t. let next = rw t at h in rw t (find_put new e xs i (omega arith) (le_of_suc-le-suc l)))
      (cases_Bool (p x))

  any_within : (xs : List X) → list_any p xs ≡ ltb (position_or_len p xs) (length xs)
  any_within [] = refl
  any_within (x ∷ xs) =
      ⊎_elim
      (λ t. rw t (sym (lt-ltb 0 (suc (length xs)) (omega arith))))
      (λ t. rw t (any_within xs ∙ ltb-suc (position_or_len p xs) (length xs)))
      (cases_Bool (p x))

  -- some element passes if one is the first
  pub any_is : (xs : List X) → list_any p xs ≡ is_some (position p xs)
  any_is xs = any_within xs ∙ some_if (ltb (position_or_len p xs) (length xs)) (position_or_len p xs)

  is_place : (xs : List X) (i : ℕ) → position p xs ≡ Some i → (i < length xs) × (position_or_len p xs ≡ i)
  is_place xs i h = let parts = cond_some _ _ _ h in (rw (← parts.1) (ltb-true _ _ parts.0), parts.1)

  no_place : (xs : List X) → position p xs ≡ None → length xs ≤ position_or_len p xs
  no_place xs h =
      ⊎_elim
      (λ l. absurd (none-some _ (sym h ∙ cond-true (ltb (position_or_len p xs) (length xs)) _ _ (lt-ltb _ _ l))))
      (λ l. l)
      (cases_lt (position_or_len p xs) (length xs))

-- where an element stands that is found
pub record Place {X : Type 0} (p q : X → Bool) (xs : List X) (i : ℕ) : Type 0 where
  pub within : i < length xs
  pub first : i ≤ position_or_len p xs
  pub passes : (d : X) → (p (get_or xs i d) ≡ true) ⊎ (q (get_or xs i d) ≡ true)

module _ {X : Type 0} (p q : X → Bool) (xs : List X) (i : ℕ) where
  placed : (o : Option ℕ) → position p xs ≡ o → option_or o (position q xs) ≡ Some i → Place p q xs i
  placed (Some j) e h = let at = is_place p xs i (e ∙ h) in record {
    within = at.0;
    first = omega arith;
    passes = λ d. inl (position-Some p xs i d (e ∙ h)).1;
  }
  placed None e h = let all = no_place p xs e in let at = is_place q xs i h in record {
    within = at.0;
    first = omega arith;
    passes = λ d. inr (position-Some q xs i d h).1;
  }

  pub place : option_or (position p xs) (position q xs) ≡ Some i → Place p q xs i
  place h = placed (position p xs) refl h

module _ {T : Type 0} (stands : ℕ → T → Bool) where
  -- a row sits at one number and day at most
  pub sits_once : (k d j e : ℕ) (r : Row T) → sits stands k d r ≡ true → (j ≡ k → e ≡ d → ⊥) → sits stands j e r ≡ false
  sits_once k d j e r h n = grind (arith, nat_tests)

  held_not : (k : ℕ) (o : Option T) → is_some o ≡ false → holds (stands k) o ≡ false
  held_not k None h = refl
  held_not k (Some s) h = absurd (both_ways true h refl)

  pub free_sits : (k d : ℕ) (r : Row T) → free r ≡ true → sits stands k d r ≡ false
  free_sits k d r h = and_right (eqb r.day d) _ (and_right (eqb r.number k) _ (held_not k r.sheet (not-true _ h)))

  -- the entry is taken if it has a place
  pub takes_is : (k d : ℕ) (rows : List (Row T)) → takes_row stands k d rows ≡ is_some (entry_place stands k d rows)
  takes_is k d rows = rw (any_is (sits stands k d) rows, any_is free rows) (either (position (sits stands k d) rows) (position free rows))
    where
      either : (o q : Option ℕ) → (is_some o || is_some q) ≡ is_some (option_or o q)
      either None q = refl
      either (Some i) q = refl
