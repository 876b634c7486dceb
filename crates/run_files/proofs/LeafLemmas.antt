-- The evidence of one class more.
use Rattle.std.proofs.Common.{◌≡◌, ℕ, ◌<◌, List, [], ◌∷◌, ◌++◌, length, get_or, refl, sym, ◌∙◌, ap, arith, append_assoc, append-nil}
use Rattle.statement.specs.declared.lines.Fault.{Fault}
use Rattle.evidence.specs.declared.kinds.Evidence.{Evidence}
use Rattle.list_core.specs.declared.verdicts.Verdict.{Verdict}
use Rattle.run_files.specs.inner.Verdicts.{leaf_at, leaves_of}

pub leaves_none : (fs : List Fault) → leaves_of fs [] ≡ []
leaves_none [] = refl
leaves_none (f ∷ fs) = refl

-- that of so many classes and one more
leaves_next : (fs : List Fault) (vs : List Verdict) (f : Fault) (v : Verdict) → length vs < length fs → f ≡ get_or fs (length vs) f
    → leaves_of fs (vs ++ v ∷ []) ≡ leaves_of fs vs ++ leaf_at f v
leaves_next [] vs f v lt is = absurd (omega arith)
leaves_next (g ∷ fs) [] f v lt is =
    let none = leaves_none fs in
    ap (λ ls. leaf_at g v ++ ls) none ∙ (append-nil (leaf_at g v) ∙ ap (λ h. leaf_at h v) (sym is))
leaves_next (g ∷ fs) (w ∷ vs) f v lt is =
    ap (λ ls. leaf_at g w ++ ls) (leaves_next fs vs f v (omega arith) is) ∙ sym (append_assoc (leaf_at g w) (leaves_of fs vs) (leaf_at f v))

pub leaves_more : (fs : List Fault) (vs : List Verdict) (f : Fault) (v : Verdict) (k : ℕ) (old new : List (Fault × Evidence)) → k ≡ length vs → k < length fs → f ≡ get_or fs k f
    → old ≡ leaves_of fs vs → new ≡ old ++ leaf_at f v → new ≡ leaves_of fs (vs ++ v ∷ [])
leaves_more fs vs f v k old new count lt is before after =
    after ∙ (ap (λ ls. ls ++ leaf_at f v) before ∙ sym (leaves_next fs vs f v (omega arith) (is ∙ ap (λ i. get_or fs i f) count)))
