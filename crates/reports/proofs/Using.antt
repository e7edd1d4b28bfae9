-- The days of the definition are the used days.
use Rattle.std.proofs.Common.{◌≡◌, ℕ, zero, suc, ◌+◌, ◌-◌, ◌<◌, Bool, true, false, cond, ◌&&◌, ◌||◌, eqb, ltb, leb, List, sym, refl, ap, ◌∙◌, ⊎_elim, arith}
use Rattle.std.proofs.lemmas.Bool.{cases_Bool, cases_eq, cond-true, cond-false}
use Rattle.std.proofs.lemmas.Bool.Decides.{nat_tests}
use Rattle.reports.specs.declared.report.Cause.{Cause}
use Rattle.reports.specs.declared.report.Cause.TheVariants.{Fail, Late}
use Rattle.reports.specs.Days.{is_business, business_days}
use Rattle.reports.specs.Reports.{used_days}
use Rattle.reports.specs.UsedDays.{is_in, AllAfter, Rising, UsedDays}

module _ (marks : List Bool) where
  abbrev among : ℕ → ℕ → ℕ → Bool
  among d n x = is_business marks x && (leb d x && ltb x (d + n))

  among_first : (d n x : ℕ) → x ≡ d → is_business marks d ≡ true → among d (suc n) x ≡ true
  among_first d n x e b = let c : is_business marks x ≡ true = ap (is_business marks) e ∙ b in rw c (grind (arith, nat_tests))

  among_shut : (d n x : ℕ) → x ≡ d → is_business marks d ≡ false → (among (d + 1) n x ≡ false) × (among d (suc n) x ≡ false)
  among_shut d n x e b = let c : is_business marks x ≡ false = ap (is_business marks) e ∙ b in rw c (refl, refl)

  among_rest : (d n x : ℕ) → (x ≡ d → ⊥) → among (d + 1) n x ≡ among d (suc n) x
  among_rest d n x ne = ap (λ b. is_business marks x && b) (grind (arith, nat_tests))

  in_business : (n d x : ℕ) → is_in x (business_days marks d n) ≡ among d n x
  in_business zero d x = ⊎_elim (λ t. rw t (grind (arith, nat_tests))) (λ t. rw t refl) (cases_Bool (is_business marks x))
  in_business (suc n) d x =
      ⊎_elim
      (λ b. ap (is_in x) (cond-true _ _ _ b) ∙ ⊎_elim
      (λ e. let t : eqb x d ≡ true = grind (arith, nat_tests) in rw t (sym (among_first d n x e b)))
      (λ ne. let t : eqb x d ≡ false = grind (arith, nat_tests) in rw t (in_business n (d + 1) x ∙ among_rest d n x ne))
      (cases_eq x d))
      (λ b. ap (is_in x) (cond-false _ _ _ b) ∙ (in_business n (d + 1) x ∙ ⊎_elim
      (λ e. let f = among_shut d n x e b in f.0 ∙ sym f.1)
      (λ ne. among_rest d n x ne)
      (cases_eq x d)))
      (cases_Bool (is_business marks d))

  after_all : (n d e : ℕ) → d < e → AllAfter d (business_days marks e n)
  after_all zero d e h = tt
  after_all (suc n) d e h = ⊎_elim (λ b. rw b (h, after_all n d (e + 1) (omega arith))) (λ b. rw b (after_all n d (e + 1) (omega arith))) (cases_Bool (is_business marks e))

  business_rising : (n d : ℕ) → Rising (business_days marks d n)
  business_rising zero d = tt
  business_rising (suc n) d = ⊎_elim (λ b. rw b (after_all n d (d + 1) (omega arith), business_rising n (d + 1))) (λ b. rw b (business_rising n (d + 1))) (cases_Bool (is_business marks d))

  ends : (i m x : ℕ) (after : Bool) → (leb i x && ltb x (i + (cond after (m + 1) m - i))) ≡ (leb i x && (ltb x m || (after && eqb x m)))
  ends i m x true = grind (arith, nat_tests)
  ends i m x false = grind (arith, nat_tests)

  pub used_days_lem : (cause : Cause) → UsedDays marks cause (used_days marks cause)
  used_days_lem (Fail day d r) = record { each = λ x. one (eqb x day); rising = (tt, tt) }
    where
      one : (b : Bool) → (b || false) ≡ b
      one true = refl
      one false = refl
  used_days_lem (Late i m after d r) = record {
    each = λ x. in_business (cond after (m + 1) m - i) i x ∙ ap (λ b. is_business marks x && b) (ends i m x after);
    rising = business_rising (cond after (m + 1) m - i) i;
  }
