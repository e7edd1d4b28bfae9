-- What the searches over the days before and after answer.
use Rattle.std.proofs.Common.{◌≡◌, ℕ, zero, suc, ◌+◌, ◌-◌, ◌<◌, ◌≤◌, min, true, false, is_some, Some, None, Option, sym, refl, ap, ◌∙◌, subst, ⊎_elim, arith}
use Rattle.std.proofs.lemmas.Bool.{both_ways, cases_lt}
use Rattle.std.specs.declared.ops.RangeInclusive.{RangeInclusive}
use Rattle.std.specs.Option.{MatchOption, IfSome, IsSomeAnd, unwrap_or}
use Rattle.std.specs.Range.{range_inclusive_start, range_inclusive_end, range_inclusive_exhausted}
use Rattle.std.specs.Iterator.Runs.{Run, SomeRun, AllItemsGive, IsFirstToGive, ItemsCountUp, CallKeepsClosure}
use Rattle.std.proofs.lemmas.Iterator.Adapters.{option_map_id}
use Rattle.std.proofs.iter.runs.Sources.{nat_range_inclusive_steps, inclusive_listed}
use denote.Param.Members.{Mut, Called}
use Rattle.sheets.specs.Limits.{last_day}
use Rattle.carry.specs.Carried.{latest, spread}
use Rattle.carry.proofs.Carrying.{no_sheet, spread_greatest}

module _ {T : Type 0} (t : ℕ → Option T) where
  pub latest_bare : (n d : ℕ) → ((k : ℕ) → k ≤ n → t (d - k) ≡ None) → latest t n d ≡ None
  latest_bare zero d h = ap t (omega arith) ∙ h 0 (omega arith)
  latest_bare (suc n) d h =
      let here : t d ≡ None = ap t (omega arith) ∙ h 0 (omega arith) in
      rw here (latest_bare n (d - 1) (λ k l. ap t (omega arith) ∙ h (suc k) (omega arith)))

  pub latest_at : (n d i : ℕ) (s : T) → i ≤ n → t (d - i) ≡ Some s → ((k : ℕ) → k < i → t (d - k) ≡ None) → latest t n d ≡ Some s
  latest_at zero d i s l e h = ap t (omega arith) ∙ e
  latest_at (suc n) d zero s l e h = let here : t d ≡ Some s = ap t (omega arith) ∙ e in rw here refl
  latest_at (suc n) d (suc i) s l e h =
      let here : t d ≡ None = ap t (omega arith) ∙ h 0 (omega arith) in
      rw here (latest_at n (d - 1) i s (omega arith) (ap t (omega arith) ∙ e) (λ k m. ap t (omega arith) ∙ h (suc k) (omega arith)))

-- `find_map` from the day d back to the day d - n
module _ {F T : Type 0} {g : Mut F (ℕ × Unit {0}) (Option T)} {f : F} (t : ℕ → Option T) (n d : ℕ) (calls : (x : ℕ) (o : Option T) (q : F) → Called g f (x, tt) o q → (q ≡ f) × (o ≡ t (d - x))) where
  keeps : CallKeepsClosure g f
  keeps a o q c = (calls a.0 o q c).0

  module _ (p : Run nat_range_inclusive_steps) (item : (k : ℕ) → k < p.len → p.at k ≡ Some k) where
    some_latest : (s : T) (i : ℕ) → i < p.len → i ≤ n → IsFirstToGive p g f (Some s) None i → latest t n d ≡ Some s
    some_latest s i l u h =
        latest_at t n d i s u
        (sym (calls i (Some s) f (subst (λ o. IsSomeAnd o (λ x. Called g f (x, tt) (Some s) f)) (item i l) (h keeps).0)).1)
        (λ k m. sym (calls k None f (subst (λ o. IsSomeAnd o (λ x. Called g f (x, tt) None f)) (item k (omega arith)) ((h keeps).1 k m))).1)

    none_latest : p.len ≡ n + 1 → AllItemsGive p g f None → latest t n d ≡ None
    none_latest e h = latest_bare t n d (λ k l. sym (calls k None f (subst (λ o. IfSome o (λ x. Called g f (x, tt) None f)) (item k (omega arith)) (h keeps k))).1)

  pub first_back : (it : RangeInclusive ℕ) (r : Option T) → range_inclusive_start it ≡ 0 → range_inclusive_end it ≡ n → range_inclusive_exhausted it ≡ false
      → SomeRun nat_range_inclusive_steps it (λ p. MatchOption r ((p.whole ≡ true) × AllItemsGive p g f None) (λ s. (i : ℕ) × (i < p.len) × (p.len ≡ i + 1) × IsFirstToGive p g f (Some s) None i))
      → r ≡ latest t n d
  first_back it r low high fresh run = go r run.2
    where
      p : Run nat_range_inclusive_steps
      p = run.0

      counts : ItemsCountUp p 0 (n + 1)
      counts =
          let all = inclusive_listed p p.seen in
          let start : all.0 ≡ 0 = all.2 ∙ ap range_inclusive_start run.1 ∙ low in
          let end : all.1 ≡ n + 1 = all.3 ∙ ap (λ (q : RangeInclusive ℕ). range_inclusive_end q + 1) run.1 ∙ ap (λ (k : ℕ). k + 1) high in
          subst (λ a. ItemsCountUp p a (n + 1)) start (subst (λ b. ItemsCountUp p all.0 b) end (all.4 (ap range_inclusive_exhausted run.1 ∙ fresh)).0)

      item : (k : ℕ) → k < p.len → p.at k ≡ Some k
      item k l = sym (option_map_id (p.at k)) ∙ counts.3 k l ∙ ap Some (omega arith)

      go : (o : Option T) → MatchOption o ((p.whole ≡ true) × AllItemsGive p g f None) (λ s. (i : ℕ) × (i < p.len) × (p.len ≡ i + 1) × IsFirstToGive p g f (Some s) None i) → o ≡ latest t n d
      go None m = sym (none_latest p item (omega (arith, counts.1 m.0)) m.1)
      go (Some s) m = sym (some_latest p item s m.0 m.1 (omega (arith, counts.0, m.1)) m.3)

-- `find` from the day e on: a day before one that has a sheet, or else the farthest
module _ {T : Type 0} (t : ℕ → Option T) (n e : ℕ) (year : e ≤ last_day) where
  pub spread_is : (r : ℕ) → e ≤ r → r ≤ e + n → r ≤ last_day → ((d : ℕ) → e < d → d ≤ r → t d ≡ None) → (r < last_day → r < e + n → is_some (t (r + 1)) ≡ true) → r ≡ spread t n e
  spread_is r low near high bare stop =
      let far = spread_greatest t n e year in
      let most : r ≤ spread t n e = far.most r near high bare in
      let least : spread t n e ≤ r =
      ⊎_elim
      (λ l. absurd (both_ways (is_some (t (r + 1))) (ap is_some (far.bare (r + 1) (omega arith) (omega arith))) (stop (omega (arith, far.year)) (omega (arith, far.near)))))
      (λ l. l)
      (cases_lt r (spread t n e))
      in
      omega arith

  bare_from : (r : ℕ) → ((k : ℕ) → e ≤ k → k < r → is_some (t (k + 1)) ≡ false) → (d : ℕ) → e < d → d ≤ r → t d ≡ None
  bare_from r h d l u = ap t (omega arith) ∙ no_sheet (t (d - 1 + 1)) (h (d - 1) (omega arith) (omega arith))

  pub found_spread : (farthest : ℕ) → farthest ≡ min last_day (e + n) → (r : Option ℕ)
      → MatchOption r ((k : ℕ) → e ≤ k → k < farthest → is_some (t (k + 1)) ≡ false) (λ i. (e ≤ i) × (i < farthest) × (is_some (t (i + 1)) ≡ true) × ((k : ℕ) → e ≤ k → k < i → is_some (t (k + 1)) ≡ false))
      → unwrap_or r farthest ≡ spread t n e
  found_spread farthest far None h = spread_is farthest (omega arith) (omega arith) (omega arith) (bare_from farthest h) (λ l m. absurd (omega arith))
  found_spread farthest far (Some i) h = spread_is i h.0 (omega (arith, h.1)) (omega (arith, h.1)) (bare_from i h.3) (λ l m. h.2)
