-- The sum over the used days, one day at a time.
use Rattle.std.proofs.Common.{◌≡◌, ℕ, ◌+◌, ◌<◌, ◌≤◌, Bool, true, false, List, Ok, Err, Result, refl, sym, ap, ◌∙◌, arith}
use Rattle.sheets.specs.declared.fault.Fault.{Fault}
use Rattle.reference.specs.Meaning.{Sheets}
use Rattle.reports.specs.Days.{is_business, days_between}
use Rattle.calculation.specs.Steps.{Steps, gives, ◌>>=◌, result_of}
use Rattle.calculation.specs.Penalties.{plus, sum_of}
use Rattle.calculation.proofs.Binding.{bind_ok, bind_err, result_bind}
use Rattle.reports.proofs.Between.{between_none, between_skip, between_take}

plus-plus : (a b : ℕ) (r : Result ℕ Fault) → plus a (plus b r) ≡ plus (a + b) r
plus-plus a b (Ok c) = let e : a + (b + c) ≡ a + b + c = omega arith in ap Ok e
plus-plus a b (Err f) = refl

pub plus_zero : (r : Result ℕ Fault) → plus 0 r ≡ r
plus_zero (Ok c) = let e : 0 + c ≡ c = omega arith in ap Ok e
plus_zero (Err f) = refl

module _ (m : Sheets) (one : ℕ → Steps ℕ) (marks : List Bool) where
  -- what the sum over the days from d on comes to
  abbrev pub rest : ℕ → ℕ → Result ℕ Fault
  rest d end = result_of m (sum_of one (days_between marks d end))

  pub sum_skip : (sum d end : ℕ) → d < end → is_business marks d ≡ false → plus sum (rest d end) ≡ plus sum (rest (d + 1) end)
  sum_skip sum d end h b = ap (λ ds. plus sum (result_of m (sum_of one ds))) (between_skip marks d end h b)

  abbrev more : ℕ → ℕ → ℕ → Steps ℕ
  more d end a = sum_of one (days_between marks (d + 1) end) >>= (λ b. gives (a + b))

  taken : (sum d end : ℕ) → d < end → is_business marks d ≡ true → plus sum (rest d end) ≡ plus sum (result_of m (one d >>= more d end))
  taken sum d end h b = ap (λ ds. plus sum (result_of m (sum_of one ds))) (between_take marks d end h b)

  pub sum_take : (sum d end a : ℕ) → d < end → is_business marks d ≡ true → result_of m (one d) ≡ Ok a → plus sum (rest d end) ≡ plus (sum + a) (rest (d + 1) end)
  sum_take sum d end a h b e =
      taken sum d end h b
      ∙ (ap (plus sum) (bind_ok m (one d) (more d end) a e)
      ∙ (ap (plus sum) (result_bind m (sum_of one (days_between marks (d + 1) end)) (λ b. gives (a + b)))
      ∙ plus-plus sum a (rest (d + 1) end)))

  pub sum_used : (sum d end next : ℕ) → d < end → is_business marks d ≡ true → Ok next ≡ plus sum (result_of m (one d)) → plus sum (rest d end) ≡ plus next (rest (d + 1) end)
  sum_used sum d end next h b e = go (result_of m (one d)) refl e
    where
      go : (r : Result ℕ Fault) → result_of m (one d) ≡ r → Ok next ≡ plus sum r → plus sum (rest d end) ≡ plus next (rest (d + 1) end)
      go (Ok a) is s = let all : sum + a ≡ next = cc in sum_take sum d end a h b is ∙ ap (λ k. plus k (rest (d + 1) end)) all
      go (Err f) is s = absurd (cc)

  pub sum_stop : (sum d end : ℕ) (f : Fault) → d < end → is_business marks d ≡ true → Err f ≡ plus sum (result_of m (one d)) → plus sum (rest d end) ≡ Err f
  sum_stop sum d end f h b e = go (result_of m (one d)) refl e
    where
      go : (r : Result ℕ Fault) → result_of m (one d) ≡ r → Err f ≡ plus sum r → plus sum (rest d end) ≡ Err f
      go (Ok a) is s = absurd (cc)
      go (Err g) is s = taken sum d end h b ∙ ap (plus sum) (bind_err m (one d) (more d end) g is) ∙ sym s

  pub sum_all : (sum d end : ℕ) → end ≤ d → plus sum (rest d end) ≡ Ok sum
  sum_all sum d end h =
      let z : sum + 0 ≡ sum = omega arith in
      ap (λ ds. plus sum (result_of m (sum_of one ds))) (between_none marks d end h) ∙ ap Ok z
