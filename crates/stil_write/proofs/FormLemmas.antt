-- Words and their forms.
use Rattle.std.proofs.Common.{◌≡◌, ℕ, zero, suc, ◌+◌, ◌≤◌, Bool, true, false, List, [], ◌∷◌, ◌++◌, take, length, sym, ap, ◌∙◌, subst, arith}
use Rattle.std.specs.Prelude.{◌==◌, Some, slice_get, MatchBool}
use Rattle.std.specs.List.{AllZip}
use Rattle.std.proofs.lemmas.List.{take_all}
use Rattle.std.proofs.lemmas.Slice.Zip.{all_zipped_more}
use Rattle.statement.specs.Benches.{Text}
use Rattle.stil_write.specs.declared.forms.Form.{Form}
use Rattle.stil_write.specs.declared.forms.CharKind.TheVariants as values
use Rattle.stil_write.specs.StilFiles.{IsItem, IsItemBy, IsWord, call_forms, vector_forms}
use Rattle.statement.specs.Stils.{Item, StilFile}
use Rattle.stil_write.proofs.LoopLemmas.{take_at}

pub zip_more : {A B : Type 0} (R : A → B → Type 0) (xs : List A) (ys : List B) (i : ℕ) (x : A) (y : B) → slice_get xs i ≡ Some x → slice_get ys i ≡ Some y
    → AllZip R (take i xs) (take i ys) → R x y → AllZip R (take (i + 1) xs) (take (i + 1) ys)
zip_more R xs ys i x y h g a r =
    subst (λ l. AllZip R l (take (i + 1) ys)) (sym (take_at xs i x h)) (subst (λ l. AllZip R (take i xs ++ x ∷ []) l) (sym (take_at ys i y g)) (all_zipped_more R (take i xs) (take i ys) x y a r))

pub zip_end : {A B : Type 0} (R : A → B → Type 0) (xs : List A) (ys : List B) (i : ℕ) → length xs ≤ i → length ys ≤ i → AllZip R (take i xs) (take i ys) → AllZip R xs ys
zip_end R xs ys i h g a = subst (λ l. AllZip R l ys) (take_all i xs h) (subst (λ l. AllZip R (take i xs) l) (take_all i ys g) a)

pub zip_at : {A B : Type 0} (R : A → B → Type 0) (xs : List A) (ys : List B) (i : ℕ) (x : A) (y : B) → slice_get xs i ≡ Some x → slice_get ys i ≡ Some y → AllZip R xs ys → R x y
zip_at R [] ys i x y h g a = absurd (cc)
zip_at R (p ∷ xs) [] i x y h g a = absurd a
zip_at R (p ∷ xs) (q ∷ ys) zero x y h g a = let s : p ≡ x = cc in let t : q ≡ y = cc in subst (λ u. R u y) s (subst (λ u. R p u) t a.0)
zip_at R (p ∷ xs) (q ∷ ys) (suc i) x y h g a = zip_at R xs ys i x y h g a.1

-- the first word of a call says how often it shifts
pub call_size : (chains size : ℕ) (words : List Text) (word : Text) → 1 ≤ chains → slice_get words 0 ≡ Some word → AllZip IsWord (call_forms chains size) words → length word ≡ size
call_size zero size words word h g a = absurd (omega arith)
call_size (suc n) size [] word h g a = absurd a
call_size (suc n) size (w ∷ words) word h g a = let s : w ≡ word = cc in ap length (sym s) ∙ a.0.0

pub some_if : {X : Type 0} (xs : List X) → (length xs == 0) ≡ false → 1 ≤ length xs
some_if [] e = absurd (cc)
some_if (x ∷ xs) e = omega arith

unfoldable pub no_form : Form
no_form = record { values = values.Bits; size = 0 }

-- an item by the number of chains and the forms at hand
pub item_by : (f : StilFile) (chains : ℕ) (forms : List Form) (item : Item) (yes : Bool) → chains ≡ length f.chains → forms ≡ vector_forms f → yes ≡ true
    → MatchBool yes (IsItemBy chains forms item) (IsItemBy chains forms item → ⊥) → IsItem f item
item_by f chains forms item false n e y h = cc
item_by f chains forms item true n e y h = subst (λ k. IsItemBy k (vector_forms f) item) n (subst (λ l. IsItemBy chains l item) e h)
