-- Lists kept in tables, part by part.
use Rattle.std.proofs.Common.{◌≡◌, ℕ, zero, suc, Bool, List, [], ◌∷◌, ◌++◌, length, Some, refl, sym, ◌∙◌, ap, arith}
use Rattle.std.specs.List.{slice_get}
use Rattle.statement.specs.declared.outcomes.Outcome.{Outcome}
use Rattle.statement.specs.Reports.{Line}
use Rattle.report.specs.Reports.{Hold}
use Rattle.report.specs.inner.Tables.{lines_of, holds_of}

pub lines_length : (fs : List (List ℕ)) (os : List Outcome) (ps : List (List ℕ)) → length fs ≡ length os → length ps ≡ length os
    → length (lines_of fs os ps) ≡ length os
lines_length [] [] ps e f = refl
lines_length [] (o ∷ os) ps e f = absurd (omega arith)
lines_length (x ∷ fs) [] ps e f = absurd (omega arith)
lines_length (x ∷ fs) (o ∷ os) [] e f = absurd (omega arith)
lines_length (x ∷ fs) (o ∷ os) (p ∷ ps) e f = ap suc (lines_length fs os ps (omega arith) (omega arith))

pub lines_get : (fs : List (List ℕ)) (os : List Outcome) (ps : List (List ℕ)) (k : ℕ) (f : List ℕ) (o : Outcome) (p : List ℕ)
    → slice_get fs k ≡ Some f → slice_get os k ≡ Some o → slice_get ps k ≡ Some p
    → slice_get (lines_of fs os ps) k ≡ Some (record { fault = f; outcome = o; pin = p })
lines_get [] os ps k f o p a b c = cc
lines_get (x ∷ fs) [] ps k f o p a b c = cc
lines_get (x ∷ fs) (y ∷ os) [] k f o p a b c = cc
lines_get (x ∷ fs) (y ∷ os) (z ∷ ps) zero f o p a b c =
    let d : x ≡ f = cc in
    let e : y ≡ o = cc in
    let g : z ≡ p = cc in
    ap (λ (v : List ℕ). Some (record { fault = v; outcome = y; pin = z })) d
    ∙ (ap (λ (v : Outcome). Some (record { fault = f; outcome = v; pin = z })) e ∙ ap (λ (v : List ℕ). Some (record { fault = f; outcome = o; pin = v })) g)
lines_get (x ∷ fs) (y ∷ os) (z ∷ ps) (suc k) f o p a b c = lines_get fs os ps k f o p a b c

pub lines_push : (fs : List (List ℕ)) (os : List Outcome) (ps : List (List ℕ)) (f : List ℕ) (o : Outcome) (p : List ℕ)
    → length fs ≡ length os → length ps ≡ length os
    → lines_of (fs ++ f ∷ []) (os ++ o ∷ []) (ps ++ p ∷ []) ≡ lines_of fs os ps ++ (record { fault = f; outcome = o; pin = p }) ∷ []
lines_push [] [] [] f o p a b = refl
lines_push [] [] (z ∷ ps) f o p a b = absurd (omega arith)
lines_push [] (y ∷ os) ps f o p a b = absurd (omega arith)
lines_push (x ∷ fs) [] ps f o p a b = absurd (omega arith)
lines_push (x ∷ fs) (y ∷ os) [] f o p a b = absurd (omega arith)
lines_push (x ∷ fs) (y ∷ os) (z ∷ ps) f o p a b =
    ap (λ ls. (record { fault = x; outcome = y; pin = z }) ∷ ls) (lines_push fs os ps f o p (omega arith) (omega arith))

pub holds_length : (ns : List (List ℕ)) (bs : List Bool) → length ns ≡ length bs → length (holds_of ns bs) ≡ length bs
holds_length [] [] e = refl
holds_length [] (b ∷ bs) e = absurd (omega arith)
holds_length (n ∷ ns) [] e = absurd (omega arith)
holds_length (n ∷ ns) (b ∷ bs) e = ap suc (holds_length ns bs (omega arith))

pub holds_get : (ns : List (List ℕ)) (bs : List Bool) (k : ℕ) (n : List ℕ) (b : Bool)
    → slice_get ns k ≡ Some n → slice_get bs k ≡ Some b → slice_get (holds_of ns bs) k ≡ Some (record { name = n; bit = b })
holds_get [] bs k n b p q = cc
holds_get (x ∷ ns) [] k n b p q = cc
holds_get (x ∷ ns) (y ∷ bs) zero n b p q =
    let d : x ≡ n = cc in
    let e : y ≡ b = cc in
    ap (λ (v : List ℕ). Some (record { name = v; bit = y })) d ∙ ap (λ (v : Bool). Some (record { name = n; bit = v })) e
holds_get (x ∷ ns) (y ∷ bs) (suc k) n b p q = holds_get ns bs k n b p q

pub holds_push : (ns : List (List ℕ)) (bs : List Bool) (n : List ℕ) (b : Bool) → length ns ≡ length bs
    → holds_of (ns ++ n ∷ []) (bs ++ b ∷ []) ≡ holds_of ns bs ++ (record { name = n; bit = b }) ∷ []
holds_push [] [] n b e = refl
holds_push [] (y ∷ bs) n b e = absurd (omega arith)
holds_push (x ∷ ns) [] n b e = absurd (omega arith)
holds_push (x ∷ ns) (y ∷ bs) n b e = ap (λ hs. (record { name = x; bit = y }) ∷ hs) (holds_push ns bs n b (omega arith))

-- the same of tables that were read or pushed to
pub seen_lines : (fs : List (List ℕ)) (os : List Outcome) (ps : List (List ℕ)) (ls : List Line) → lines_of fs os ps ≡ ls
    → length fs ≡ length os → length ps ≡ length os → length ls ≡ length os
seen_lines fs os ps ls e a b = sym (ap length e) ∙ lines_length fs os ps a b

pub read_line : (fs : List (List ℕ)) (os : List Outcome) (ps : List (List ℕ)) (ls : List Line) (k : ℕ) (f : List ℕ) (o : Outcome) (p : List ℕ)
    → lines_of fs os ps ≡ ls → slice_get fs k ≡ Some f → slice_get os k ≡ Some o → slice_get ps k ≡ Some p
    → slice_get ls k ≡ Some (record { fault = f; outcome = o; pin = p })
read_line fs os ps ls k f o p e a b c = sym (ap (λ xs. slice_get xs k) e) ∙ lines_get fs os ps k f o p a b c

pub pushed_line : (fs : List (List ℕ)) (os : List Outcome) (ps : List (List ℕ)) (ls : List Line) (f : List ℕ) (o : Outcome) (p : List ℕ)
    (fs' : List (List ℕ)) (os' : List Outcome) (ps' : List (List ℕ))
    → lines_of fs os ps ≡ ls → length fs ≡ length os → length ps ≡ length os
    → fs' ≡ fs ++ f ∷ [] → os' ≡ os ++ o ∷ [] → ps' ≡ ps ++ p ∷ []
    → lines_of fs' os' ps' ≡ ls ++ (record { fault = f; outcome = o; pin = p }) ∷ []
pushed_line fs os ps ls f o p fs' os' ps' e a b x y z = let pushed = lines_push fs os ps f o p a b in cc

pub seen_holds : (ns : List (List ℕ)) (bs : List Bool) (hs : List Hold) → holds_of ns bs ≡ hs → length ns ≡ length bs → length hs ≡ length bs
seen_holds ns bs hs e a = sym (ap length e) ∙ holds_length ns bs a

pub read_hold : (ns : List (List ℕ)) (bs : List Bool) (hs : List Hold) (k : ℕ) (n : List ℕ) (b : Bool)
    → holds_of ns bs ≡ hs → slice_get ns k ≡ Some n → slice_get bs k ≡ Some b → slice_get hs k ≡ Some (record { name = n; bit = b })
read_hold ns bs hs k n b e p q = sym (ap (λ xs. slice_get xs k) e) ∙ holds_get ns bs k n b p q

pub pushed_hold : (ns : List (List ℕ)) (bs : List Bool) (hs : List Hold) (n : List ℕ) (b : Bool) (ns' : List (List ℕ)) (bs' : List Bool)
    → holds_of ns bs ≡ hs → length ns ≡ length bs → ns' ≡ ns ++ n ∷ [] → bs' ≡ bs ++ b ∷ []
    → holds_of ns' bs' ≡ hs ++ (record { name = n; bit = b }) ∷ []
pushed_hold ns bs hs n b ns' bs' e a x y = let pushed = holds_push ns bs n b a in cc
