-- Five texts, one behind the other, and what is due of them.
use Rattle.std.proofs.Common.{◌≡◌, ◌≤◌, inl, inr, ℕ, List, [], ◌∷◌, Ok, Err, Vec, refl, sym, subst, arith, length, get_or}
use Rattle.std.specs.List.{All}
use Rattle.std.specs.Prelude.{Result}
use Rattle.std.specs.declared.alloc.Global.{Global}
use Rattle.statement.specs.Benches.{Text}
use Rattle.commands.specs.Names.{texts_of}
use Rattle.commands.specs.Worked.{IsWorked}
use Rattle.commands.specs.declared.product.Product.{Product}
use Rattle.commands.specs.declared.product.Stop.{Stop}
use Rattle.commands.specs.declared.product.Stop.TheVariants as stop
use Rattle.statement.specs.Statement.{FiveFiles}
use Rattle.good_files.specs.declared.answers.Checked.{Checked}
use Rattle.check_command.specs.Checking.{five_texts_due}
use Rattle.check_command.specs.declared.refusal.CheckRefusal.{CheckRefusal}
use Rattle.check_command.specs.inner.Answers.{IsAnswered, answer_due}

abbrev pub five : Text → Text → Text → Text → Text → FiveFiles
five net scan stil certificate report = record { net = net; scan = scan; stil = stil; certificate = certificate; report = report }

-- what is shown of an answer is due
pub answered : (f : FiveFiles) (answer : Checked) (r : Result Product (Stop CheckRefusal)) → IsAnswered f (Ok answer) → IsWorked (answer_due answer) 0 r
    → IsWorked (five_texts_due (f.net ∷ f.scan ∷ f.stil ∷ f.certificate ∷ f.report ∷ [])) 0 r
answered f answer (Ok p) whole worked = (inl (answer, whole, worked.0), worked.1)
answered f answer (Err (stop.Refused r)) whole worked = inl (answer, whole, worked)
answered f answer (Err stop.NoMemory) whole worked = tt

pub stopped : (f : FiveFiles) (s : Stop CheckRefusal) → IsAnswered f (Err s) → IsWorked (five_texts_due (f.net ∷ f.scan ∷ f.stil ∷ f.certificate ∷ f.report ∷ [])) 0 (Err s)
stopped f (stop.Refused why) is = inr (why, is, refl)
stopped f stop.NoMemory is = tt

-- the files' texts are those that were read, one behind the other
pub five_texts : (vs : List (Vec ℕ Global)) (p q r s t dp dq dr ds dt : Vec ℕ Global) → length vs ≡ 5 → p ≡ get_or vs 0 dp → q ≡ get_or vs 1 dq → r ≡ get_or vs 2 dr
    → s ≡ get_or vs 3 ds → t ≡ get_or vs 4 dt → (f : FiveFiles) → f.net ≡ p.items → f.scan ≡ q.items → f.stil ≡ r.items → f.certificate ≡ s.items → f.report ≡ t.items
    → f.net ∷ f.scan ∷ f.stil ∷ f.certificate ∷ f.report ∷ [] ≡ texts_of vs
five_texts [] p q r s t dp dq dr ds dt count i0 i1 i2 i3 i4 f e0 e1 e2 e3 e4 = absurd (omega arith)
five_texts (a ∷ []) p q r s t dp dq dr ds dt count i0 i1 i2 i3 i4 f e0 e1 e2 e3 e4 = absurd (omega arith)
five_texts (a ∷ b ∷ []) p q r s t dp dq dr ds dt count i0 i1 i2 i3 i4 f e0 e1 e2 e3 e4 = absurd (omega arith)
five_texts (a ∷ b ∷ c ∷ []) p q r s t dp dq dr ds dt count i0 i1 i2 i3 i4 f e0 e1 e2 e3 e4 = absurd (omega arith)
five_texts (a ∷ b ∷ c ∷ d ∷ []) p q r s t dp dq dr ds dt count i0 i1 i2 i3 i4 f e0 e1 e2 e3 e4 = absurd (omega arith)
five_texts (a ∷ b ∷ c ∷ d ∷ e ∷ []) p q r s t dp dq dr ds dt count i0 i1 i2 i3 i4 f e0 e1 e2 e3 e4 = rw (e0, e1, e2, e3, e4, i0, i1, i2, i3, i4) refl
five_texts (a ∷ b ∷ c ∷ d ∷ e ∷ g ∷ gs) p q r s t dp dq dr ds dt count i0 i1 i2 i3 i4 f e0 e1 e2 e3 e4 = absurd (omega arith)

pub at_texts : (f : FiveFiles) (texts : List Text) (r : Result Product (Stop CheckRefusal)) → f.net ∷ f.scan ∷ f.stil ∷ f.certificate ∷ f.report ∷ [] ≡ texts
    → IsWorked (five_texts_due (f.net ∷ f.scan ∷ f.stil ∷ f.certificate ∷ f.report ∷ [])) 0 r → IsWorked (five_texts_due texts) 0 r
at_texts f texts r same worked = subst (λ (ts : List Text). IsWorked (five_texts_due ts) 0 r) same worked

-- what holds of all texts that were read holds of the STIL file
pub stil_within : (most : ℕ) (f : FiveFiles) (texts : List Text) → f.net ∷ f.scan ∷ f.stil ∷ f.certificate ∷ f.report ∷ [] ≡ texts
    → All (λ (t : Text). length t ≤ most) texts → length f.stil ≤ most
stil_within most f texts same within = (subst (λ (ts : List Text). All (λ (t : Text). length t ≤ most) ts) (sym same) within) 2 [] (omega arith)
