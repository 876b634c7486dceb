-- What the classes that are detected count together.
use Rattle.std.proofs.Common.{zero, suc, ◌≡◌, ℕ, List, [], ◌∷◌, length, drop, min, refl, arith}
use Rattle.list_core.specs.declared.verdicts.Verdict.{Verdict}
use Rattle.list_core.specs.Enough.{detected_weight}

no_weights : (k : ℕ) (vs : List Verdict) → detected_weight (drop k []) vs ≡ 0
no_weights zero vs = refl
no_weights (suc k) vs = refl

no_verdicts : (ws : List ℕ) (k : ℕ) → detected_weight ws (drop k []) ≡ 0
no_verdicts [] k = refl
no_verdicts (w ∷ ws) zero = refl
no_verdicts (w ∷ ws) (suc k) = refl

-- nothing is left behind the end of one of the lists
pub none_behind : (ws : List ℕ) (vs : List Verdict) (k : ℕ) → k ≡ min (length ws) (length vs) → detected_weight (drop k ws) (drop k vs) ≡ 0
none_behind [] vs k e = no_weights k (drop k vs)
none_behind (w ∷ ws) [] k e = no_verdicts (drop k (w ∷ ws)) k
none_behind (w ∷ ws) (v ∷ vs) zero e = absurd (omega (arith, e))
none_behind (w ∷ ws) (v ∷ vs) (suc k) e = none_behind ws vs k (omega (arith, e))
