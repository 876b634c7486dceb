-- Lines that say how often faults are detected.
use Rattle.std.proofs.Common.{◌≡◌, ℕ, ◌≤◌, inl, inr, List, ◌++◌, sym, ◌∙◌, ap₂, subst, codes, arith}
use Rattle.std.specs.List.{All}
use Rattle.std.proofs.lemmas.List.Elements.{All-nil, All-weaker}
use Rattle.report.specs.Reports.{Times, AreCounted}
use Rattle.report.specs.Texts.{count_line, times_lines}
use Rattle.report.specs.Beginnings.{IsCount}
use Rattle.report.specs.inner.Lines.{NoSome, TimesBegin}
use Rattle.report.proofs.LineLemmas.{same_lines}
use Rattle.report.proofs.NumberLemmas.{count_told, some_told}

pub times_told : (text : List ℕ) (t u : Times) (r s : List ℕ) → TimesBegin text t r → TimesBegin text u s → (t ≡ u) × (r ≡ s)
times_told text t u r s v w =
    let first = some_told (codes "detect ") t.most u.most (times_lines t.of ++ r) (times_lines u.of ++ s) v.0.0.0 w.0.0.0 v.0.1 w.0.1 (sym v.0.0.1 ∙ w.0.0.1) in
    let others = same_lines IsCount (count_line (codes "times ")) (count_told (codes "times ")) t.of u.of r s v.1 w.1 v.2 w.2 first.1 in
    (ap₂ (λ (m : ℕ) (k : List ℕ). record { most = m; of = k }) first.0 others.0, others.1)

-- what a report says of detections
pub small_most : (t : Times) → AreCounted t → IsCount t.most
small_most t (inl none) = let zero = none.0 in omega arith
small_most t (inr some) = some.1

pub small_times : (t : Times) → AreCounted t → All IsCount t.of
small_times t (inl none) = subst (All IsCount) (sym none.1) (All-nil IsCount)
small_times t (inr some) = All-weaker (λ k. k ≤ t.most) IsCount (λ k l. let small = some.1 in omega arith) t.of some.2

-- nothing is said of them where none are counted
pub says_nothing : (t : Times) (rest : List ℕ) → AreCounted t → NoSome (codes "detect ") rest → t.most ≡ 0 → NoSome (codes "detect ") (times_lines t.of ++ rest)
says_nothing t rest (inl none) lacks zero = subst (λ (ks : List ℕ). NoSome (codes "detect ") (times_lines ks ++ rest)) (sym none.1) lacks
says_nothing t rest (inr some) lacks zero = let more = some.0 in absurd (omega arith)
