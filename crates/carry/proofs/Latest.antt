-- The latest sheet is that of the latest day that has one.
use Rattle.std.proofs.Common.{◌≡◌, ℕ, zero, suc, ◌-◌, Some, None, Option, refl, ap, ◌∙◌, ⊎_elim, arith}
use Rattle.std.proofs.lemmas.Bool.{cases_order}
use Rattle.std.specs.Option.{option_or}
use Rattle.carry.specs.Carried.{latest}
use Rattle.carry.specs.Laws.{IsLatest, LatestAt}

module _ {T : Type 0} (t : ℕ → Option T) where
  on_the_day : (n d : ℕ) (s : T) → t d ≡ Some s → LatestAt t n d s d
  on_the_day n d s e = record { from = omega arith; by = omega arith; there = e; bare = λ x l u. absurd (omega arith) }

  day_only : (d : ℕ) (o : Option T) → t d ≡ o → IsLatest t zero d o
  day_only d (Some s) e = (d, on_the_day zero d s e)
  day_only d None e = λ x l u. let q : x ≡ d = omega arith in ap t q ∙ e

  before : (n d : ℕ) (o : Option T) → t d ≡ None → IsLatest t n (d - 1) o → IsLatest t (suc n) d o
  before n d None e h = λ x l u.
      ⊎_elim
      (λ q. ap t q ∙ e)
      (⊎_elim (λ q. h x (omega arith) (omega arith)) (λ q. absurd (omega arith)))
      (cases_order x d)
  before n d (Some s) e h =
      let at = h.1 in (
        h.0,
        record {
          from = omega (arith, at.from);
          by = omega (arith, at.by);
          there = at.there;
          bare = λ x l u.
              ⊎_elim
              (λ q. ap t q ∙ e)
              (⊎_elim (λ q. at.bare x l (omega arith)) (λ q. absurd (omega arith)))
              (cases_order x d);
        },
      )

  either : (n d : ℕ) (o q : Option T) → t d ≡ o → IsLatest t n (d - 1) q → IsLatest t (suc n) d (option_or o q)
  either n d (Some s) q e h = (d, on_the_day (suc n) d s e)
  either n d None q e h = before n d q e h

  pub latest_latest : (n d : ℕ) → IsLatest t n d (latest t n d)
  latest_latest zero d = day_only d (t d) refl
  latest_latest (suc n) d = either n d (t d) (latest t n (d - 1)) refl (latest_latest n (d - 1))
