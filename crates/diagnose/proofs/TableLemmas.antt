-- Failures kept in tables, part by part.
use Rattle.std.proofs.Common.{◌≡◌, ℕ, zero, suc, List, [], ◌∷◌, ◌++◌, length, Some, refl, sym, ◌∙◌, ap, arith}
use Rattle.std.specs.List.{slice_get}
use Rattle.diagnose.specs.Failures.{Failing}
use Rattle.diagnose.specs.inner.Tables.{failures_of}

failures_length : (cs : List ℕ) (ss : List (List ℕ)) → length ss ≡ length cs → length (failures_of cs ss) ≡ length cs
failures_length [] ss e = refl
failures_length (c ∷ cs) [] e = absurd (omega arith)
failures_length (c ∷ cs) (s ∷ ss) e = ap suc (failures_length cs ss (omega arith))

failures_get : (cs : List ℕ) (ss : List (List ℕ)) (k c : ℕ) (s : List ℕ) → slice_get cs k ≡ Some c → slice_get ss k ≡ Some s
    → slice_get (failures_of cs ss) k ≡ Some (record { cycle = c; signal = s })
failures_get [] ss k c s p q = cc
failures_get (x ∷ cs) [] k c s p q = cc
failures_get (x ∷ cs) (y ∷ ss) zero c s p q =
    let d : x ≡ c = cc in
    let e : y ≡ s = cc in
    ap (λ (v : ℕ). Some (record { cycle = v; signal = y })) d ∙ ap (λ (v : List ℕ). Some (record { cycle = c; signal = v })) e
failures_get (x ∷ cs) (y ∷ ss) (suc k) c s p q = failures_get cs ss k c s p q

failures_push : (cs : List ℕ) (ss : List (List ℕ)) (c : ℕ) (s : List ℕ) → length ss ≡ length cs
    → failures_of (cs ++ c ∷ []) (ss ++ s ∷ []) ≡ failures_of cs ss ++ (record { cycle = c; signal = s }) ∷ []
failures_push [] [] c s e = refl
failures_push [] (y ∷ ss) c s e = absurd (omega arith)
failures_push (x ∷ cs) [] c s e = absurd (omega arith)
failures_push (x ∷ cs) (y ∷ ss) c s e = ap (λ fs. (record { cycle = x; signal = y }) ∷ fs) (failures_push cs ss c s (omega arith))

-- the same of tables that were read or pushed to
pub seen_failures : (cs : List ℕ) (ss : List (List ℕ)) (fs : List Failing) → failures_of cs ss ≡ fs → length ss ≡ length cs → length fs ≡ length cs
seen_failures cs ss fs e a = sym (ap length e) ∙ failures_length cs ss a

pub read_failure : (cs : List ℕ) (ss : List (List ℕ)) (fs : List Failing) (k c : ℕ) (s : List ℕ)
    → failures_of cs ss ≡ fs → slice_get cs k ≡ Some c → slice_get ss k ≡ Some s → slice_get fs k ≡ Some (record { cycle = c; signal = s })
read_failure cs ss fs k c s e p q = sym (ap (λ xs. slice_get xs k) e) ∙ failures_get cs ss k c s p q

pub pushed_failure : (cs : List ℕ) (ss : List (List ℕ)) (fs : List Failing) (c : ℕ) (s : List ℕ) (cs' : List ℕ) (ss' : List (List ℕ))
    → failures_of cs ss ≡ fs → length ss ≡ length cs → cs' ≡ cs ++ c ∷ [] → ss' ≡ ss ++ s ∷ []
    → failures_of cs' ss' ≡ fs ++ (record { cycle = c; signal = s }) ∷ []
pushed_failure cs ss fs c s cs' ss' e a x y = let pushed = failures_push cs ss c s a in cc
