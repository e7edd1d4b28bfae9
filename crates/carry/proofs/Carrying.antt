-- Of the latest sheet, of the silence after a day, and of an entry below a carry.
use Rattle.std.proofs.Common.{◌≡◌, ℕ, zero, suc, ◌+◌, ◌-◌, ◌<◌, ◌≤◌, true, false, ltb, ◌⊎◌, is_some, Some, None, Option, sym, refl, ap, ◌∙◌, subst, inl, inr, ⊎_elim, arith}
use Rattle.std.proofs.lemmas.Bool.{both_ways, cases_Bool, cases_lt, cases_order, cond-true, cond-false, and_parts, and_from, ltb-true, lt-ltb, not-true, not_from_false}
use Rattle.sheets.specs.Limits.{last_day}
use Rattle.reference.specs.Meaning.{Table, Taken}
use Rattle.carry.specs.Carried.{latest, silent, spread, carried}
use Rattle.carry.specs.Laws.{Greatest}

module _ {T : Type 0} where
  pub no_sheet : (o : Option T) → is_some o ≡ false → o ≡ None
  no_sheet None h = refl
  no_sheet (Some s) h = absurd (both_ways true h refl)

  pub latest_found : (t : ℕ → Option T) (n d : ℕ) (s : T) → t d ≡ Some s → latest t n d ≡ Some s
  latest_found t zero d s h = h
  latest_found t (suc n) d s h = rw h refl

  -- Two tables that agree from the day m to the day d have the same latest sheet at d, if the days asked begin at m or
  -- later, or the day m has a sheet.
  pub latest_agree : (t u : ℕ → Option T) (m n d : ℕ) → m ≤ d → (m ≤ d - n) ⊎ (is_some (t m) ≡ true) → ((x : ℕ) → m ≤ x → x ≤ d → u x ≡ t x) → latest u n d ≡ latest t n d
  latest_agree t u m zero d l c same = same d l (omega arith)
  latest_agree t u m (suc n) d l c same = go (λ l' c'. latest_agree t u m n (d - 1) l' c' (λ x a b. same x a (omega arith))) (t d) refl
    where
      go : (m ≤ d - 1 → (m ≤ (d - 1) - n) ⊎ (is_some (t m) ≡ true) → latest u n (d - 1) ≡ latest t n (d - 1)) → (o : Option T) → t d ≡ o → latest u (suc n) d ≡ latest t (suc n) d
      go next (Some s) e = latest_found u (suc n) d s (same d l (omega arith) ∙ e) ∙ sym (latest_found t (suc n) d s e)
      go next None e =
          let f : u d ≡ None = same d l (omega arith) ∙ e in
          let more : (m ≤ d - 1) × ((m ≤ (d - 1) - n) ⊎ (is_some (t m) ≡ true)) =
          ⊎_elim
          (λ h. (omega arith, inl (omega arith)))
          (λ h. let ne : m ≡ d → ⊥ = λ q. both_ways (is_some (t m)) (ap (λ x. is_some (t x)) q ∙ ap is_some e) h in (omega arith, inr h))
          c
          in
          rw (f, e) (next more.0 more.1)

  pub silent_in : (t : ℕ → Option T) (e : ℕ) → silent t e ≡ true → (e < last_day) × (t (e + 1) ≡ None)
  silent_in t e h =
      let both = and_parts (ltb e last_day) _ h in
      (ltb-true _ _ both.0, no_sheet (t (e + 1)) (not-true _ both.1))

  pub silent_from : (t : ℕ → Option T) (e : ℕ) → e < last_day → t (e + 1) ≡ None → silent t e ≡ true
  silent_from t e l h = and_from _ _ (lt-ltb _ _ l) (not_from_false _ (ap is_some h))

  pub spread_stops : (t : ℕ → Option T) (n e : ℕ) → silent t e ≡ false → spread t n e ≡ e
  spread_stops t zero e h = refl
  spread_stops t (suc n) e h = cond-false (silent t e) _ _ h

  -- two tables that agree after e are silent for as long
  pub spread_agree : (t u : ℕ → Option T) (n e : ℕ) → ((x : ℕ) → e < x → x ≤ last_day → u x ≡ t x) → spread u n e ≡ spread t n e
  spread_agree t u zero e same = refl
  spread_agree t u (suc n) e same =
      ⊎_elim
      (λ h. let next = silent_in t e h in
      cond-true (silent u e) _ _ (silent_from u e next.0 (same (e + 1) (omega arith) (omega arith) ∙ next.1))
      ∙ spread_agree t u n (e + 1) (λ x l y. same x (omega arith) y)
      ∙ sym (cond-true (silent t e) _ _ h))
      (λ h. spread_stops u (suc n) e (⊎_elim
      (λ g. let next = silent_in u e g in absurd (both_ways (silent t e) h (silent_from t e next.0 (sym (same (e + 1) (omega arith) (omega arith)) ∙ next.1))))
      (λ g. g)
      (cases_Bool (silent u e)))
      ∙ sym (cond-false (silent t e) _ _ h))
      (cases_Bool (silent t e))

  pub spread_greatest : (t : ℕ → Option T) (n e : ℕ) → e ≤ last_day → Greatest t n e (spread t n e)
  spread_greatest t zero e y = record {
    from = omega arith;
    near = omega arith;
    year = y;
    bare = λ d l u. absurd (omega arith);
    most = λ q a b h. omega arith;
  }
  spread_greatest t (suc n) e y =
      ⊎_elim
      (λ h. rw h (on (silent_in t e h) (λ l. spread_greatest t n (e + 1) l)))
      (λ h. rw h record {
        from = omega arith;
        near = omega arith;
        year = y;
        bare = λ d l u. absurd (omega arith);
        most = λ q a b g. ⊎_elim
            (λ l. absurd (both_ways (silent t e) h (silent_from t e (omega arith) (g (e + 1) (omega arith) (omega arith)))))
            (λ l. l)
            (cases_lt e q);
      })
      (cases_Bool (silent t e))
    where
      on : (e < last_day) × (t (e + 1) ≡ None) → (e + 1 ≤ last_day → Greatest t n (e + 1) (spread t n (e + 1))) → Greatest t (suc n) e (spread t n (e + 1))
      on s next =
          let m = next (omega (arith, s.0)) in
          record {
            from = omega (arith, m.from);
            near = omega (arith, m.near);
            year = m.year;
            bare = λ d l u. ⊎_elim
                (λ q. ap t q ∙ s.1)
                (⊎_elim (λ q. absurd (omega arith)) (λ q. m.bare d q u))
                (cases_order d (e + 1));
            most = λ q a b g. m.most q (omega arith) b (λ d l u. g d (omega arith) u);
          }

  -- the day after the silence, unless it is too far or in no year, has a sheet
  pub greatest_stop : (t : ℕ → Option T) (n e r : ℕ) → Greatest t n e r → r < last_day → r < e + n → is_some (t (r + 1)) ≡ true
  greatest_stop t n e r g l m =
      ⊎_elim
      (λ h. h)
      (λ h. let q : r + 1 ≤ r = g.most (r + 1) (omega arith) (omega arith) (λ d a b. ⊎_elim
      (λ c. ap t c ∙ no_sheet (t (r + 1)) h)
      (⊎_elim (λ c. g.bare d a (omega arith)) (λ c. absurd (omega arith)))
      (cases_order d (r + 1))) in absurd (omega arith))
      (cases_Bool (is_some (t (r + 1))))

  -- An entry that is taken below is taken by the carry, with its own last day.
  pub carry_taken : (b a : Table T) (k d : ℕ) (s : T) (e n : ℕ) → Taken b a k d s e → Taken (carried b n) (carried a n) k d s (spread (a.sheet k) n e)
  carry_taken b a k d s e n t = record {
    asked = t.asked;
    reached = spread_agree (b.sheet k) (a.sheet k) n e t.later ∙ ap (spread (b.sheet k) n) t.reached;
    low = omega (arith, t.low, far.from);
    high = far.year;
    here = latest_found (a.sheet k) n d s t.here;
    other_number = λ j x o. same j x 0 (omega arith) (inl (omega arith)) (λ y p q. t.other_number j y o);
    earlier = λ x l. same k x 0 (omega arith) (inl (omega arith)) (λ y p q. t.earlier y (omega arith));
    later = past;
  }
    where
      far : Greatest (a.sheet k) n e (spread (a.sheet k) n e)
      far = spread_greatest (a.sheet k) n e t.high

      same : (j x m : ℕ) → m ≤ x → (m ≤ x - n) ⊎ (is_some (b.sheet j m) ≡ true) → ((y : ℕ) → m ≤ y → y ≤ x → a.sheet j y ≡ b.sheet j y) → (carried a n).sheet j x ≡ (carried b n).sheet j x
      same j x m l c h = latest_agree (b.sheet j) (a.sheet j) m n x l c h

      past : (x : ℕ) → spread (a.sheet k) n e < x → x ≤ last_day → (carried a n).sheet k x ≡ (carried b n).sheet k x
      past x l year =
          let r = spread (a.sheet k) n e in
          let after : e ≤ r = far.from in
          ⊎_elim
          (λ q. same k x (e + 1) (omega arith) (inl (omega arith)) (λ y p u. t.later y (omega arith) (omega arith)))
          (λ q. same k x (r + 1) (omega arith) (inr (ap is_some (sym (t.later (r + 1) (omega arith) (omega arith))) ∙ greatest_stop (a.sheet k) n e r far (omega arith) (omega arith))) (λ y p u. t.later y (omega arith) (omega arith)))
          (cases_lt (e + n) x)

  pub carry_to : (b a : Table T) (k d : ℕ) (s : T) (e n r : ℕ) → Taken b a k d s e → r ≡ spread (a.sheet k) n e → Taken (carried b n) (carried a n) k d s r
  carry_to b a k d s e n r t h = subst (Taken (carried b n) (carried a n) k d s) (sym h) (carry_taken b a k d s e n t)

  -- the carry's last day is the greatest to which no later sheet stands below
  pub carry_greatest : (b a : Table T) (k d : ℕ) (s : T) (e n r : ℕ) → Taken b a k d s e → r ≡ spread (a.sheet k) n e → Greatest (b.sheet k) n (b.reach k d s) r
  carry_greatest b a k d s e n r t h =
      subst (Greatest (b.sheet k) n (b.reach k d s)) (sym (carry_to b a k d s e n r t h).reached)
      (spread_greatest (b.sheet k) n (b.reach k d s) (omega (arith, t.reached, t.high)))
