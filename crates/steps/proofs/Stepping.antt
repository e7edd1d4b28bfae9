-- Of the entries of a number before and after a day.
use Rattle.std.proofs.Common.{◌≡◌, ℕ, ◌-◌, ◌<◌, ◌≤◌, min, max, Bool, true, false, ◌&&◌, ◌⊎◌, eqb, ltb, leb, List, [], ◌∷◌, map, filter, is_some, Some, None, Ok, Err, Option, Result, sym, refl, ap, ◌∙◌, subst, inl, inr, ⊎_elim, arith}
use Rattle.std.specs.List.{fold, reduce}
use Rattle.std.specs.Option.{option_and_then, option_map_or}
use Rattle.std.proofs.lemmas.Bool.{both_ways, cases_Bool, cond-true, cond-false, cases_lt, and_parts, and_from, leb-true, ltb-true, le-leb, lt-ltb, eqb-true, eq-eqb}
use Rattle.sheets.specs.declared.fault.Fault.{Fault}
use Rattle.sheets.specs.declared.sheet.SecuritySheet.{SecuritySheet}
use Rattle.sheets.specs.declared.sheet.CurrencySheet.{CurrencySheet}
use Rattle.sheets.specs.declared.units.Day.{Day}
use Rattle.sheets.specs.Limits.{last_day}
use Rattle.reference.specs.Meaning.{Taken, SecurityEntered, CurrencyEntered}
use Rattle.plain_rows.specs.declared.rows.Row.{Row}
use Rattle.plain_rows.specs.Rows.{found, sits, filed, holds, rows_table, any_number, own_number, RowTaken, RowEntered}
use Rattle.carry.specs.Carried.{latest, spread, carried, whole_year, whole_year_lem}
use Rattle.steps.specs.declared.entries.Steps.{Steps}
use Rattle.steps.specs.Steps.{steps_meaning}
use Rattle.carry.proofs.Carrying.{spread_agree, carry_taken}
use Rattle.carry.proofs.Searches.{latest_bare, latest_at, spread_is}
use Rattle.plain_rows.proofs.Entering.{elsewhere, row_taken}

module _ {T : Type 0} (stands : ℕ → T → Bool) (k : ℕ) where
  -- a row sits at its own day only
  sits_day : (x : ℕ) (r : Row T) → sits stands k x r ≡ true → (filed stands k r ≡ true) × (x ≡ r.day)
  sits_day x r h = let both = and_parts (eqb r.day x) (filed stands k r) h in (both.1, sym (eqb-true r.day x both.0))

  day_sits : (r : Row T) → filed stands k r ≡ true → sits stands k r.day r ≡ true
  day_sits r h = and_from (eqb r.day r.day) (filed stands k r) (eq-eqb r.day r.day refl) h

  sits_not : (x : ℕ) (r : Row T) → (filed stands k r ≡ true → x ≡ r.day → ⊥) → sits stands k x r ≡ false
  sits_not x r n = ⊎_elim (λ h. absurd (n (sits_day x r h).0 (sits_day x r h).1)) (λ h. h) (cases_Bool (sits stands k x r))

  held_some : (o : Option T) → holds (stands k) o ≡ true → is_some o ≡ true
  held_some None h = absurd (both_ways false refl h)
  held_some (Some s) h = refl

  -- the first row more
  found_first : (x : ℕ) (r : Row T) (rows : List (Row T)) → sits stands k x r ≡ true → is_some (found (sits stands k x) (r ∷ rows)) ≡ true
  found_first x r rows h =
      ap (λ o. is_some (option_and_then (λ q. q.sheet) o)) (cond-true (sits stands k x r) _ _ h)
      ∙ held_some r.sheet (and_parts (eqb r.number k) _ (sits_day x r h).0).1

  found_past : (x : ℕ) (r : Row T) (rows : List (Row T)) → sits stands k x r ≡ false → found (sits stands k x) (r ∷ rows) ≡ found (sits stands k x) rows
  found_past x r rows h = ap (option_and_then (λ q. q.sheet)) (cond-false (sits stands k x r) _ _ h)

  found_more : (x : ℕ) (r : Row T) (rows : List (Row T)) → is_some (found (sits stands k x) rows) ≡ true → is_some (found (sits stands k x) (r ∷ rows)) ≡ true
  found_more x r rows h =
      ⊎_elim
      (λ t. found_first x r rows t)
      (λ t. ap is_some (found_past x r rows t) ∙ h)
      (cases_Bool (sits stands k x r))

-- The day b has an entry of the number k and passes the test q, and no day that passes and lies beyond b has one.
record Best {T : Type 0} (stands : ℕ → T → Bool) (k : ℕ) (q : ℕ → Bool) (Beyond : ℕ → ℕ → Type 0) (rows : List (Row T)) (b : ℕ) : Type 0 where
  passes : q b ≡ true
  there : is_some (found (sits stands k b) rows) ≡ true
  bare : (x : ℕ) → q x ≡ true → Beyond b x → found (sits stands k x) rows ≡ None

-- there is such a day, or no day that passes has an entry
abbrev IsBest : {T : Type 0} → (ℕ → T → Bool) → ℕ → (ℕ → Bool) → (ℕ → ℕ → Type 0) → List (Row T) → Option ℕ → Type 0
IsBest stands k q Beyond rows (Some b) = Best stands k q Beyond rows b
IsBest stands k q Beyond rows None = (x : ℕ) → q x ≡ true → found (sits stands k x) rows ≡ None

-- the days of the number's entries that pass the test
abbrev pub entry_days : {T : Type 0} → (ℕ → T → Bool) → ℕ → (ℕ → Bool) → List (Row T) → List ℕ
entry_days stands k q rows = map (λ r. r.day) (filter (λ r. filed stands k r && q r.day) rows)

-- `pick` takes the one of two days that lies beyond the other
record Picks (pick : ℕ → ℕ → ℕ) (Beyond : ℕ → ℕ → Type 0) : Type 0 where
  one : (a b : ℕ) → (pick a b ≡ a) ⊎ (pick a b ≡ b)
  past : (a b x : ℕ) → Beyond (pick a b) x → Beyond a x × Beyond b x
  other : (a x : ℕ) → Beyond a x → x ≡ a → ⊥
  groups : (a b c : ℕ) → pick (pick a b) c ≡ pick a (pick b c)

module _ (pick : ℕ → ℕ → ℕ) (Beyond : ℕ → ℕ → Type 0) (laws : Picks pick Beyond) where
  fold_front : (a b : ℕ) (xs : List ℕ) → fold pick (pick a b) xs ≡ pick a (fold pick b xs)
  fold_front a b [] = refl
  fold_front a b (x ∷ xs) = ap (λ c. fold pick c xs) (laws.groups a b x) ∙ fold_front a (pick b x) xs

  reduce_front : (a : ℕ) (xs : List ℕ) → reduce pick (a ∷ xs) ≡ Some (option_map_or (pick a) (reduce pick xs) a)
  reduce_front a [] = refl
  reduce_front a (x ∷ xs) = ap Some (fold_front a x xs)

  module _ {T : Type 0} (stands : ℕ → T → Bool) (k : ℕ) (q : ℕ → Bool) where
    keeps : (r : Row T) (rows : List (Row T)) (o : Option ℕ) → (filed stands k r && q r.day) ≡ false → IsBest stands k q Beyond rows o → IsBest stands k q Beyond (r ∷ rows) o
    keeps r rows o n h = go o h
      where
        past : (x : ℕ) → q x ≡ true → found (sits stands k x) (r ∷ rows) ≡ found (sits stands k x) rows
        past x a = found_past stands k x r rows (sits_not stands k x r (λ f e. both_ways (filed stands k r && q r.day) n (and_from _ _ f (ap q (sym e) ∙ a))))

        go : (o : Option ℕ) → IsBest stands k q Beyond rows o → IsBest stands k q Beyond (r ∷ rows) o
        go (Some b) h = record {
          passes = h.passes;
          there = ap is_some (past b h.passes) ∙ h.there;
          bare = λ x a l. past x a ∙ h.bare x a l;
        }
        go None h = λ x a. past x a ∙ h x a

    takes : (r : Row T) (rows : List (Row T)) (o : Option ℕ) → filed stands k r ≡ true → q r.day ≡ true → IsBest stands k q Beyond rows o → IsBest stands k q Beyond (r ∷ rows) (Some (option_map_or (pick r.day) o r.day))
    takes r rows None f a h = record {
      passes = a;
      there = found_first stands k r.day r rows (day_sits stands k r f);
      bare = λ x b l. found_past stands k x r rows (sits_not stands k x r (λ _ e. laws.other r.day x l e)) ∙ h x b;
    }
    takes r rows (Some b) f a h = record {
      passes = ⊎_elim (λ e. ap q e ∙ a) (λ e. ap q e ∙ h.passes) (laws.one r.day b);
      there =
          ⊎_elim
          (λ e. subst (λ x. is_some (found (sits stands k x) (r ∷ rows)) ≡ true) (sym e) (found_first stands k r.day r rows (day_sits stands k r f)))
          (λ e. subst (λ x. is_some (found (sits stands k x) (r ∷ rows)) ≡ true) (sym e) (found_more stands k b r rows h.there))
          (laws.one r.day b);
      bare = λ x c l. let far = laws.past r.day b x l in found_past stands k x r rows (sits_not stands k x r (λ _ e. laws.other r.day x far.0 e)) ∙ h.bare x c far.1;
    }

    best : (rows : List (Row T)) → IsBest stands k q Beyond rows (reduce pick (entry_days stands k q rows))
    best [] = λ x a. refl
    best (r ∷ rows) =
        ⊎_elim
        (λ t. let both = and_parts (filed stands k r) (q r.day) t in
        subst (IsBest stands k q Beyond (r ∷ rows))
        (sym (ap (λ rs. reduce pick (map (λ (r : Row T). r.day) rs)) (cond-true (filed stands k r && q r.day) _ _ t) ∙ reduce_front r.day (entry_days stands k q rows)))
        (takes r rows (reduce pick (entry_days stands k q rows)) both.0 both.1 (best rows)))
        (λ t.
        subst (IsBest stands k q Beyond (r ∷ rows))
        (sym (ap (λ rs. reduce pick (map (λ (r : Row T). r.day) rs)) (cond-false (filed stands k r && q r.day) _ _ t)))
        (keeps r rows (reduce pick (entry_days stands k q rows)) t (best rows)))
        (cases_Bool (filed stands k r && q r.day))

latest_picks : Picks max (λ b x. b < x)
latest_picks = record {
  one = λ a b. ⊎_elim (λ l. inr (omega arith)) (λ l. inl (omega arith)) (cases_lt a b);
  past = λ a b x l. (omega arith, omega arith);
  other = λ a x l e. omega arith;
  groups = λ a b c. omega arith;
}

earliest_picks : Picks min (λ b x. x < b)
earliest_picks = record {
  one = λ a b. ⊎_elim (λ l. inl (omega arith)) (λ l. inr (omega arith)) (cases_lt a b);
  past = λ a b x l. (omega arith, omega arith);
  other = λ a x l e. omega arith;
  groups = λ a b c. omega arith;
}

some_sheet : {T : Type 0} (o : Option T) → is_some o ≡ true → (s : T) × (o ≡ Some s)
some_sheet (Some s) h = (s, refl)
some_sheet None h = absurd (both_ways false refl h)

module _ {T : Type 0} (stands : ℕ → T → Bool) (rows : List (Row T)) (k d : ℕ) (year : d ≤ last_day) where
  abbrev t : ℕ → Option T
  t = (rows_table stands rows).sheet k

  -- the sheet of the latest entry up to the day is the latest sheet
  pub latest_entry : option_and_then t (reduce max (entry_days stands k (λ x. leb x d) rows)) ≡ latest t whole_year d
  latest_entry = go (reduce max (entry_days stands k (λ x. leb x d) rows)) (best max (λ b x. b < x) latest_picks stands k (λ x. leb x d) rows)
    where
      go : (o : Option ℕ) → IsBest stands k (λ x. leb x d) (λ b x. b < x) rows o → option_and_then t o ≡ latest t whole_year d
      go None h = sym (latest_bare t whole_year d (λ i l. h (d - i) (le-leb _ _ (omega arith))))
      go (Some b) h =
          let by : b ≤ d = leb-true b d h.passes in
          let sheet = some_sheet (t b) h.there in
          sheet.1 ∙ sym (latest_at t whole_year d (d - b) sheet.0 (omega (arith, whole_year_lem)) (ap t (omega arith) ∙ sheet.1) (λ i l. h.bare (d - i) (le-leb _ _ (omega arith)) (omega arith)))

  -- the day before the earliest entry after the day is the last that an entry of the day reaches
  pub next_entry : option_map_or (λ n. min last_day (n - 1)) (reduce min (entry_days stands k (λ x. ltb d x) rows)) last_day ≡ spread t whole_year d
  next_entry = go (reduce min (entry_days stands k (λ x. ltb d x) rows)) (best min (λ b x. x < b) earliest_picks stands k (λ x. ltb d x) rows)
    where
      go : (o : Option ℕ) → IsBest stands k (λ x. ltb d x) (λ b x. x < b) rows o → option_map_or (λ n. min last_day (n - 1)) o last_day ≡ spread t whole_year d
      go None h = spread_is t whole_year d year last_day year (omega (arith, whole_year_lem)) (omega arith) (λ x l u. h x (lt-ltb _ _ l)) (λ l m. absurd (omega arith))
      go (Some n) h =
          let after : d < n = ltb-true d n h.passes in
          spread_is t whole_year d year (min last_day (n - 1)) (omega arith) (omega (arith, whole_year_lem)) (omega arith)
          (λ x l u. h.bare x (lt-ltb _ _ l) (omega arith))
          (λ l m. ap (λ x. is_some (t x)) (omega arith) ∙ h.there)

module _ {T : Type 0} (stands : ℕ → T → Bool) (before after : List (Row T)) (k d : ℕ) (s : T) where
  -- the entry that follows is the same before and after
  pub step_reach : (e : ℕ) → RowTaken stands before after k d s d e → spread ((rows_table stands after).sheet k) whole_year d ≡ spread ((rows_table stands before).sheet k) whole_year d
  step_reach e h =
      spread_agree ((rows_table stands before).sheet k) ((rows_table stands after).sheet k) whole_year d
      (λ x l u. ap (λ rows. (rows_table stands rows).sheet k x) h.rows_are ∙ elsewhere stands before k d s h.asked k x (λ p q. omega arith))

  pub step_taken : (e : ℕ) → d ≤ last_day → stands k s ≡ true → RowTaken stands before after k d s (spread ((rows_table stands before).sheet k) whole_year d) e → Taken (carried (rows_table stands before) whole_year) (carried (rows_table stands after) whole_year) k d s e
  step_taken e y may h =
      let t : Taken (carried (rows_table stands before) whole_year) (carried (rows_table stands after) whole_year) k d s (spread ((rows_table stands after).sheet k) whole_year d) =
      carry_taken (rows_table stands before) (rows_table stands after) k d s d whole_year (row_taken stands before after k d s d y may record { asked = h.asked; day_is = refl; rows_are = h.rows_are })
      in
      subst (Taken (carried (rows_table stands before) whole_year) (carried (rows_table stands after) whole_year) k d s) (t.reached ∙ sym h.day_is) t

pub steps_security : (steps : Steps) (after : List (Row SecuritySheet)) (k d : ℕ) (s : SecuritySheet) (r : Result Day Fault) → d ≤ last_day → RowEntered any_number steps.securities after k d s (spread ((rows_table any_number steps.securities).sheet k) whole_year d) r → SecurityEntered (steps_meaning steps) (steps_meaning record { securities = after; currencies = steps.currencies }) k d s r
steps_security steps after k d s (Ok e) y h = (step_taken any_number steps.securities after k d s e.number y refl h, refl)
steps_security steps after k d s (Err f) y h = record { asked = h.asked; says = h.says; same = ap (λ rows. steps_meaning record { securities = rows; currencies = steps.currencies }) h.rows_are }

pub steps_currency : (steps : Steps) (after : List (Row CurrencySheet)) (d : ℕ) (s : CurrencySheet) (r : Result Day Fault) → d ≤ last_day → RowEntered own_number steps.currencies after s.currency.number d s (spread ((rows_table own_number steps.currencies).sheet s.currency.number) whole_year d) r → CurrencyEntered (steps_meaning steps) (steps_meaning record { securities = steps.securities; currencies = after }) d s r
steps_currency steps after d s (Ok e) y h = (step_taken own_number steps.currencies after s.currency.number d s e.number y (eq-eqb s.currency.number s.currency.number refl) h, refl)
steps_currency steps after d s (Err f) y h = record { asked = h.asked; says = h.says; same = ap (λ rows. steps_meaning record { securities = steps.securities; currencies = rows }) h.rows_are }
