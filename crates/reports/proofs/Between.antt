-- The business days from a day on, one day at a time.
use Rattle.std.proofs.Common.{◌≡◌, ℕ, zero, suc, ◌+◌, ◌-◌, ◌<◌, ◌≤◌, Bool, true, false, cond, not, List, [], ◌∷◌, refl, ap, ◌∙◌, ⊎_elim, arith}
use Rattle.std.proofs.lemmas.Bool.{cond-true, cond-false, cases_Bool}
use Rattle.std.specs.List.{range_with_len, list_any}
use Rattle.reports.specs.Days.{is_business, business_days, days_between, is_empty}

module _ (marks : List Bool) (d end : ℕ) where
  pub between_none : end ≤ d → days_between marks d end ≡ []
  between_none h = let z : end - d ≡ 0 = omega arith in ap (business_days marks d) z

  between_more : d < end → days_between marks d end ≡ cond (is_business marks d) (d ∷ days_between marks (d + 1) end) (days_between marks (d + 1) end)
  between_more h =
      let z : end - d ≡ suc (end - (d + 1)) = omega arith in
      ap (business_days marks d) z

  pub between_skip : d < end → is_business marks d ≡ false → days_between marks d end ≡ days_between marks (d + 1) end
  between_skip h e = between_more h ∙ cond-false _ _ _ e

  pub between_take : d < end → is_business marks d ≡ true → days_between marks d end ≡ d ∷ days_between marks (d + 1) end
  between_take h e = between_more h ∙ cond-true _ _ _ e

module _ (marks : List Bool) where
  pub any_day : (n d : ℕ) → list_any (is_business marks) (range_with_len d n) ≡ not (is_empty (business_days marks d n))
  any_day zero d = refl
  any_day (suc n) d = ⊎_elim (λ b. rw b refl) (λ b. rw b (any_day n (d + 1))) (cases_Bool (is_business marks d))
