-- What is left of an iterator that gives the first of it, call by call. Assumes nothing.
use Rattle.std.proofs.Common.{◌≡◌, ℕ, ◌<◌, List, length, Some, None, Option, Bor, refl, ap}
use Rattle.std.specs.Prelude.{⊤}
use Rattle.std.specs.Iterator.{MakesProgress, at_most}
use Rattle.std.proofs.lemmas.Iterator.{YieldsList}
use Rattle.std.proofs.lemmas.Iterator.Consumers.{YieldsList-from_shown}
use Rattle.words.specs.Words.{Takes}

pub nearer_end : (s : List ℕ) (r : Option (Bor (List ℕ))) (t : List ℕ) → ((x : Bor (List ℕ)) → r ≡ Some x → length t < length s) → MakesProgress (λ _. ⊤) (λ left. at_most (length left)) s r t
nearer_end s None t h = record { on = λ _. tt; keeps = tt; rests = λ _. tt }
nearer_end s (Some x) t h = record { on = λ _. (tt, tt, h x refl); keeps = tt; rests = λ _. tt }

-- calls from s give all that are left there
pub all_come : (item : List ℕ → Option (List ℕ)) (rest : List ℕ → List ℕ) (all : List ℕ → List (List ℕ)) (s : List ℕ) → YieldsList (Takes item rest all) (λ x. x.now) s (all s)
all_come item rest all s = YieldsList-from_shown (Takes item rest all) (λ x. x.now) all (λ s t h. ap length h.first.0) (λ s x t h. h.first) s
