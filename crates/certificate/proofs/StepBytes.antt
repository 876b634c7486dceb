-- Steps have no line ends.
use Rattle.std.proofs.Common.{◌≢◌, ℕ, Bool, true, false, List, [], ◌∷◌, ◌++◌, codes, decimal, refl, arith}
use Rattle.std.specs.List.{All, flat_map}
use Rattle.std.proofs.lemmas.List.Elements.{All-append, All-cons, All-head, All-nil, All-tail}
use Rattle.refutation.specs.declared.pairs.Pairs.{Pairs}
use Rattle.refutation.specs.declared.steps.Literal.{Literal}
use Rattle.refutation.specs.declared.steps.Move.{Move}
use Rattle.refutation.specs.declared.steps.Move.TheVariants.{Imply, Sweep}
use Rattle.refutation.specs.declared.steps.Reason.{Reason}
use Rattle.refutation.specs.declared.steps.Reason.TheVariants.{Gate, Lemma, Way, Gates}
use Rattle.refutation.specs.Steps.{Step}
use Rattle.refutation_text.specs.Texts.{bit_byte, literal_text, move_text, pairs_text, reason_text, step_text, text_of, IsLiteral, IsMove, IsReason, IsStep}
use Rattle.certificate.proofs.VisibleBytes.{has_no, number_has_no}

abbrev HaveNo : List ℕ → Type 0
HaveNo bs = All (λ b. b ≢ 10) bs

both_have_no : (xs ys : List ℕ) → HaveNo xs → HaveNo ys → HaveNo (xs ++ ys)
both_have_no xs ys p q = All-append (λ b. b ≢ 10) xs ys p q

pub all_have_no : {X : Type 0} (f : X → List ℕ) (V : X → Type 0) → ((x : X) → V x → All (λ b. b ≢ 10) (f x)) → (xs : List X) → All V xs → All (λ b. b ≢ 10) (flat_map f xs)
all_have_no f V each [] h = All-nil (λ b. b ≢ 10)
all_have_no f V each (x ∷ xs) h = both_have_no (f x) (flat_map f xs) (each x (All-head V x xs h)) (all_have_no f V each xs (All-tail V x xs h))

bit_has_no : (b : Bool) → bit_byte b ≢ 10
bit_has_no false e = absurd (omega (arith, e))
bit_has_no true e = absurd (omega (arith, e))

with_bit : (b : Bool) (bs : List ℕ) → HaveNo bs → HaveNo (bit_byte b ∷ bs)
with_bit b bs h = All-cons (λ b. b ≢ 10) (bit_byte b) bs (bit_has_no b) h

pairs_have_no : (p : Pairs) → HaveNo (pairs_text p)
pairs_have_no p =
    with_bit p.zero (bit_byte p.rises ∷ bit_byte p.falls ∷ bit_byte p.one ∷ 32 ∷ []) (with_bit p.rises (bit_byte p.falls ∷ bit_byte p.one ∷ 32 ∷ [])
    (with_bit p.falls (bit_byte p.one ∷ 32 ∷ []) (with_bit p.one (32 ∷ []) (has_no 10 (codes " ") refl))))

literal_has_no : (l : Literal) → IsLiteral l → HaveNo (literal_text l)
literal_has_no l h =
    both_have_no (decimal l.signal) (58 ∷ pairs_text l.pairs) (number_has_no 10 l.signal (omega arith) (omega (arith, h)))
    (both_have_no (codes ":") (pairs_text l.pairs) (has_no 10 (codes ":") refl) (pairs_have_no l.pairs))

reason_has_no : (r : Reason) → IsReason r → HaveNo (reason_text r)
reason_has_no (Gate x) h =
    both_have_no (codes "=") (decimal x ++ codes " ") (has_no 10 (codes "=") refl)
    (both_have_no (decimal x) (codes " ") (number_has_no 10 x (omega arith) (omega (arith, h))) (has_no 10 (codes " ") refl))
reason_has_no (Lemma k) h =
    both_have_no (codes "*") (decimal k ++ codes " ") (has_no 10 (codes "*") refl)
    (both_have_no (decimal k) (codes " ") (number_has_no 10 k (omega arith) (omega (arith, h))) (has_no 10 (codes " ") refl))
reason_has_no Way h = has_no 10 (codes "! ") refl
reason_has_no Gates h = has_no 10 (codes "~ ") refl

move_has_no : (m : Move) → IsMove m → HaveNo (move_text m)
move_has_no (Imply i) h = both_have_no (literal_text i.literal) (reason_text i.reason) (literal_has_no i.literal h.literal) (reason_has_no i.reason h.reason)
move_has_no Sweep h = has_no 10 (codes "~ ") refl

step_has_no : (s : Step) → IsStep s → HaveNo (step_text s)
step_has_no s h =
    let clause = flat_map literal_text s.clause in
    let moves = flat_map move_text s.moves in
    let last = reason_text s.last in
    both_have_no (codes " ( ") (clause ++ (codes "; " ++ (moves ++ (codes "; " ++ (last ++ codes ")"))))) (has_no 10 (codes " ( ") refl)
    (both_have_no clause (codes "; " ++ (moves ++ (codes "; " ++ (last ++ codes ")")))) (all_have_no literal_text IsLiteral literal_has_no s.clause h.clause)
    (both_have_no (codes "; ") (moves ++ (codes "; " ++ (last ++ codes ")"))) (has_no 10 (codes "; ") refl)
    (both_have_no moves (codes "; " ++ (last ++ codes ")")) (all_have_no move_text IsMove move_has_no s.moves h.moves)
    (both_have_no (codes "; ") (last ++ codes ")") (has_no 10 (codes "; ") refl)
    (both_have_no last (codes ")") (reason_has_no s.last h.last) (has_no 10 (codes ")") refl))))))

pub steps_have_no : (steps : List Step) → All IsStep steps → All (λ b. b ≢ 10) (text_of steps)
steps_have_no steps h = all_have_no step_text IsStep step_has_no steps h
