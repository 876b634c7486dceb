-- What is due step by step, and of two texts.
use Rattle.std.proofs.Common.{◌≡◌, inl, inr, ℕ, List, [], ◌∷◌, Result, Ok, Err, Vec, refl, sym, ap₂, arith, length, get_or}
use Rattle.std.specs.declared.alloc.Global.{Global}
use Rattle.commands.specs.Names.{texts_of}
use Rattle.commands.specs.Due.{Due}
use Rattle.commands.specs.Worked.{IsWorked}
use Rattle.commands.specs.declared.product.Product.{Product}
use Rattle.commands.specs.declared.product.Stop.{Stop}
use Rattle.commands.specs.declared.product.Stop.TheVariants as stop
use Rattle.command_steps.specs.Answers.{Answers}
use Rattle.command_steps.specs.Steps.{◌>>=◌}
use Rattle.command_steps.specs.declared.refusal.Refusal.{Refusal}

-- a step was taken, and what it is followed by is due
pub then_worked : {A : Type 0} (step : Result A Refusal → Type 0) (rest : A → Due Refusal → Type 0) (count : ℕ) (x : A) (r : Result Product (Stop Refusal))
    → step (Ok x) → IsWorked (rest x) count r → IsWorked (step >>= rest) count r
then_worked step rest count x (Ok p) is w = (inl (x, is, w.0), w.1)
then_worked step rest count x (Err (stop.Refused q)) is w = inl (x, is, w)
then_worked step rest count x (Err stop.NoMemory) is w = tt

-- a step refused, or memory was refused
pub stopped : {A : Type 0} (step : Result A Refusal → Type 0) (rest : A → Due Refusal → Type 0) (count : ℕ) (s : Stop Refusal)
    → Answers step (Err s) → IsWorked (step >>= rest) count (Err s)
stopped step rest count (stop.Refused r) is = inr (r, is, refl)
stopped step rest count stop.NoMemory is = tt

-- two texts, one behind the other
pub two_texts : (vs : List (Vec ℕ Global)) (v w d e : Vec ℕ Global) → length vs ≡ 2 → v ≡ get_or vs 0 d → w ≡ get_or vs 1 e → texts_of vs ≡ v.items ∷ w.items ∷ []
two_texts [] v w d e count is also = absurd (omega arith)
two_texts (x ∷ []) v w d e count is also = absurd (omega arith)
two_texts (x ∷ y ∷ []) v w d e count is also =
    ap₂ (λ (a b : Vec ℕ Global). a.items ∷ b.items ∷ []) (sym is) (sym also)
two_texts (x ∷ y ∷ z ∷ zs) v w d e count is also = absurd (omega arith)
