-- The last business day, sought from the end back.
use Rattle.std.proofs.Common.{◌≡◌, ℕ, zero, suc, ◌+◌, ◌-◌, ◌<◌, ◌≤◌, Bool, true, false, List, [], ◌∷◌, Option, Some, None, IfSome, MatchOption, unwrap_or, refl, sym, subst, ap, ◌∙◌, ⊎_elim, arith}
use Rattle.std.proofs.lemmas.Bool.{cases_Bool}
use Rattle.std.specs.declared.ops.Range.{Range}
use Rattle.std.specs.declared.iter.Rev.{Rev}
use denote.Ref.{Bor}
use denote.Param.Members.{Mut}
use Rattle.std.specs.Fn.{CalledAt}
use Rattle.std.specs.Iterator.{Yields, YieldsThen}
use Rattle.std.specs.List.{FoldsTo}
use Rattle.reports.specs.Days.{is_business, business_days, days_between, last_or}
use Rattle.reports.proofs.Between.{between_none}

-- a step from the back takes the last day off
abbrev back : Rev (Range ℕ) → Option ℕ → Rev (Range ℕ) → Type 0
back s r t = (t.iter.start ≡ s.iter.start) × MatchOption r ((s.iter.end - s.iter.start ≡ 0) × (t.iter.end ≡ s.iter.end)) (λ x. (0 < s.iter.end - s.iter.start) × (x ≡ t.iter.end) × (s.iter.end ≡ t.iter.end + 1))

module _ (marks : List Bool) where
  last_open : (n d e : ℕ) → is_business marks (d + n) ≡ true → last_or e (business_days marks d (suc n)) ≡ d + n
  last_open zero d e h = let b : is_business marks d ≡ true = ap (is_business marks) (omega arith) ∙ h in rw b (omega arith)
  last_open (suc n) d e h =
      let later : is_business marks (d + 1 + n) ≡ true = ap (is_business marks) (omega arith) ∙ h in
      ⊎_elim (λ b. rw b (last_open n (d + 1) d later ∙ omega arith)) (λ b. rw b (last_open n (d + 1) e later ∙ omega arith)) (cases_Bool (is_business marks d))

  last_shut : (n d : ℕ) → is_business marks (d + n) ≡ false → business_days marks d (suc n) ≡ business_days marks d n
  last_shut zero d h = let b : is_business marks d ≡ false = ap (is_business marks) (omega arith) ∙ h in rw b refl
  last_shut (suc n) d h =
      let later : is_business marks (d + 1 + n) ≡ false = ap (is_business marks) (omega arith) ∙ h in
      ⊎_elim (λ b. rw b (ap (λ ds. d ∷ ds) (last_shut n (d + 1) later))) (λ b. rw b (last_shut n (d + 1) later)) (cases_Bool (is_business marks d))

  ends_open : (d x end : ℕ) → d ≤ x → end ≡ x + 1 → is_business marks x ≡ true → last_or 0 (days_between marks d end) ≡ x
  ends_open d x end l e h =
      let n : end - d ≡ suc (x - d) = omega arith in
      let at : is_business marks (d + (x - d)) ≡ true = ap (is_business marks) (omega arith) ∙ h in
      ap (λ k. last_or 0 (business_days marks d k)) n ∙ last_open (x - d) d 0 at ∙ omega arith

  ends_shut : (d x end : ℕ) → d ≤ x → end ≡ x + 1 → is_business marks x ≡ false → days_between marks d end ≡ days_between marks d x
  ends_shut d x end l e h =
      let n : end - d ≡ suc (x - d) = omega arith in
      let at : is_business marks (d + (x - d)) ≡ false = ap (is_business marks) (omega arith) ∙ h in
      ap (business_days marks d) n ∙ last_shut (x - d) d at

  -- `find` over the days from the end back: those before the one that is found are shut
  module _ {F : Type 0} {g : Mut F (Bor ℕ × Unit {0}) Bool} (f : F) (tells : (x : ℕ) (b : Bool) (q : F) → CalledAt g f x b q → (q ≡ f) × (is_business marks x ≡ b)) where
    at_end : (s u : Rev (Range ℕ)) (r : Option ℕ) → back s r u → IfSome r (λ x. (h : F) × CalledAt g f x true h) → last_or 0 (days_between marks s.iter.start s.iter.end) ≡ unwrap_or r 0
    at_end s u None p m = ap (last_or 0) (between_none marks s.iter.start s.iter.end (omega (arith, p.1.0)))
    at_end s u (Some x) p m = ends_open s.iter.start x s.iter.end (omega (arith, p)) (omega (arith, p)) (tells x true m.0 m.1).1

    back_from : (xs : List ℕ) (s t u : Rev (Range ℕ)) (r : Option ℕ) (f' : F) → Yields back s xs t → back t r u → FoldsTo (λ p x q. CalledAt g p x false q) f xs f' → IfSome r (λ x. (h : F) × CalledAt g f' x true h)
        → last_or 0 (days_between marks s.iter.start s.iter.end) ≡ unwrap_or r 0
    back_from [] s t u r f' y p fo m = at_end s u r (subst (λ k. back k r u) (sym y) p) (subst (λ k. IfSome r (λ x. (h : F) × CalledAt g k x true h)) (sym fo) m)
    back_from (x ∷ xs) s t u r f' y p fo m =
        let told = tells x false fo.0 fo.1 in
        let shorter : days_between marks s.iter.start s.iter.end ≡ days_between marks y.0.iter.start y.0.iter.end =
        ends_shut s.iter.start x s.iter.end (omega (arith, y.1)) (omega (arith, y.1)) told.1 ∙ ap (λ d. days_between marks d x) (sym y.1.0) ∙ ap (days_between marks y.0.iter.start) y.1.1.1
        in
        ap (last_or 0) shorter ∙ back_from xs y.0 t u r f' y.2 p (subst (λ k. FoldsTo (λ p x q. CalledAt g p x false q) k xs f') told.0 fo.2) m

    pub last_back : (s : Rev (Range ℕ)) (r : Option ℕ) (u : Rev (Range ℕ))
        → (xs : List ℕ) × (f' : F) × YieldsThen back s xs r u × FoldsTo (λ p x q. CalledAt g p x false q) f xs f' × IfSome r (λ x. (h : F) × CalledAt g f' x true h)
        → unwrap_or r 0 ≡ last_or 0 (days_between marks s.iter.start s.iter.end)
    last_back s r u d = sym (back_from d.0 s d.2.0 u r d.1 d.2.1 d.2.2 d.3 d.4)
