-- Literals and reasons are told by their texts.
use Rattle.std.proofs.Common.{◌≡◌, ◌≢◌, ◌<◌, ℕ, Bool, true, false, List, [], ◌∷◌, ◌++◌, codes, decimal, get_or, refl, sym, ◌∙◌, ap, arith, append_assoc}
use Rattle.std.specs.List.{All}
use Rattle.std.proofs.lemmas.List.{append_cancel_left}
use Rattle.std.proofs.lemmas.List.Elements.{All-head}
use Rattle.refutation.specs.declared.pairs.Pairs.{Pairs}
use Rattle.refutation.specs.declared.steps.Literal.{Literal}
use Rattle.refutation.specs.declared.steps.Implied.{Implied}
use Rattle.refutation.specs.declared.steps.Move.{Move}
use Rattle.refutation.specs.declared.steps.Move.TheVariants.{Imply, Sweep}
use Rattle.refutation.specs.declared.steps.Reason.{Reason}
use Rattle.refutation.specs.declared.steps.Reason.TheVariants.{Gate, Lemma, Way, Gates}
use Rattle.refutation_text.specs.Texts.{bit_byte, implied_text, literal_text, move_text, pairs_text, reason_text, IsImplied, IsLiteral, IsMove, IsReason}
use Rattle.refutation_text.specs.inner.Parts.{last_text, numbered, IsAt, IsMark, IsSmall, NoneAt}
use Rattle.refutation_text.proofs.Codes.{IsCode, no_left, no_right, same_both}
use Rattle.refutation_text.proofs.Numbered.{no_blank, no_colon, no_semicolon, no_tilde, same_number}

same_bit : (b c : Bool) → bit_byte b ≡ bit_byte c → b ≡ c
same_bit false false e = refl
same_bit true true e = refl
same_bit false true e = absurd (omega (arith, e))
same_bit true false e = absurd (omega (arith, e))

-- any pairs
abbrev pub Any : Pairs → Type 0
Any p = Unit {0}

pub same_pairs : IsCode pairs_text Any
same_pairs p q r s _ _ e =
    let zero : p.zero ≡ q.zero = same_bit p.zero q.zero (ap (λ zs. get_or zs 0 0) e) in
    let rises : p.rises ≡ q.rises = same_bit p.rises q.rises (ap (λ zs. get_or zs 1 0) e) in
    let falls : p.falls ≡ q.falls = same_bit p.falls q.falls (ap (λ zs. get_or zs 2 0) e) in
    let one : p.one ≡ q.one = same_bit p.one q.one (ap (λ zs. get_or zs 3 0) e) in
    let rest : r ≡ s = cc in
    let first : p ≡ record { zero = q.zero; rises = p.rises; falls = p.falls; one = p.one } = ap (λ b. record { zero = b; rises = p.rises; falls = p.falls; one = p.one }) zero in
    let second : ◌≡◌ {A = Pairs} (record { zero = q.zero; rises = p.rises; falls = p.falls; one = p.one }) (record { zero = q.zero; rises = q.rises; falls = p.falls; one = p.one }) =
    ap (λ b. record { zero = q.zero; rises = b; falls = p.falls; one = p.one }) rises in
    let third : ◌≡◌ {A = Pairs} (record { zero = q.zero; rises = q.rises; falls = p.falls; one = p.one }) (record { zero = q.zero; rises = q.rises; falls = q.falls; one = p.one }) =
    ap (λ b. record { zero = q.zero; rises = q.rises; falls = b; one = p.one }) falls in
    let last : ◌≡◌ {A = Pairs} (record { zero = q.zero; rises = q.rises; falls = q.falls; one = p.one }) q =
    ap (λ b. record { zero = q.zero; rises = q.rises; falls = q.falls; one = b }) one in
    (first ∙ (second ∙ (third ∙ last)), rest)

-- ---- literals

literal_shape : (l : Literal) (rest : List ℕ) → literal_text l ++ rest ≡ numbered 58 l.signal ++ (pairs_text l.pairs ++ rest)
literal_shape l rest =
    append_assoc (decimal l.signal) (58 ∷ pairs_text l.pairs) rest ∙ sym (append_assoc (decimal l.signal) (58 ∷ []) (pairs_text l.pairs ++ rest))

same_parts_literal : (l m : Literal) → l.signal ≡ m.signal → l.pairs ≡ m.pairs → l ≡ m
same_parts_literal l m e d =
    let first : l ≡ record { signal = m.signal; pairs = l.pairs } = ap (λ x. record { signal = x; pairs = l.pairs }) e in
    let second : ◌≡◌ {A = Literal} (record { signal = m.signal; pairs = l.pairs }) m = ap (λ x. record { signal = m.signal; pairs = x }) d in
    first ∙ second

pub same_literal : IsCode literal_text IsLiteral
same_literal =
    same_both (numbered 58) IsSmall pairs_text Any literal_text IsLiteral (λ l. l.signal) (λ l. l.pairs) literal_shape (λ l h. h) (λ l h. tt)
    (same_number 58 no_colon) same_pairs same_parts_literal

pub no_signal : (text : List ℕ) → NoneAt (numbered 58) IsSmall text → NoneAt literal_text IsLiteral text
no_signal =
    no_left (numbered 58) IsSmall pairs_text Any literal_text IsLiteral (λ l. l.signal) (λ l. l.pairs) literal_shape (λ l h. h) (λ l h. tt)

pub no_pairs : (text : List ℕ) (x : ℕ) (t : List ℕ) → IsAt (numbered 58) IsSmall text x t → ((p : Pairs) (r : List ℕ) → t ≢ pairs_text p ++ r) → NoneAt literal_text IsLiteral text
no_pairs text x t first none =
    no_right (numbered 58) IsSmall pairs_text Any literal_text IsLiteral (λ l. l.signal) (λ l. l.pairs) literal_shape (λ l h. h) (λ l h. tt)
    (same_number 58 no_colon) text x t first (λ p r at. none p r at.parts)

-- no literal begins with `;` or `~`
number_other : (mark : ℕ) (ds r s : List ℕ) → 58 < mark → All (λ b. b ≢ mark) ds → ds ++ 58 ∷ r ≡ mark ∷ s → ⊥
number_other mark [] r s high h e = let differ : ◌≡◌ {A = ℕ} 58 mark = ap (λ zs. get_or zs 0 0) e in absurd (omega arith)
number_other mark (d ∷ ds) r s high h e = All-head (λ b. b ≢ mark) d ds h (ap (λ zs. get_or zs 0 0) e)

literal_apart : (mark : ℕ) → 58 < mark → IsMark mark → (l : Literal) (r s : List ℕ) → IsLiteral l → literal_text l ++ r ≡ mark ∷ s → ⊥
literal_apart mark high apart l r s valid e =
    number_other mark (decimal l.signal) (pairs_text l.pairs ++ r) s high (apart l.signal valid) (sym (append_assoc (decimal l.signal) (58 ∷ pairs_text l.pairs) r) ∙ e)

pub literal_other : (l : Literal) (r s : List ℕ) → IsLiteral l → literal_text l ++ r ≡ 59 ∷ s → ⊥
literal_other = literal_apart 59 (omega arith) no_semicolon

-- ---- reasons

pub same_reason : IsCode reason_text IsReason
same_reason (Gate x) (Gate y) r s p q e =
    let m = same_number 32 no_blank x y r s p q (append_cancel_left (codes "=") (numbered 32 x ++ r) (numbered 32 y ++ s) e) in
    (ap (λ z. Gate z) m.0, m.1)
same_reason (Lemma x) (Lemma y) r s p q e =
    let m = same_number 32 no_blank x y r s p q (append_cancel_left (codes "*") (numbered 32 x ++ r) (numbered 32 y ++ s) e) in
    (ap (λ z. Lemma z) m.0, m.1)
same_reason Way Way r s p q e = (refl, append_cancel_left (codes "! ") r s e)
same_reason Gates Gates r s p q e = (refl, append_cancel_left (codes "~ ") r s e)
same_reason (Gate x) (Lemma y) r s p q e = let differ : ◌≡◌ {A = ℕ} 61 42 = ap (λ zs. get_or zs 0 0) e in absurd (omega arith)
same_reason (Gate x) Way r s p q e = let differ : ◌≡◌ {A = ℕ} 61 33 = ap (λ zs. get_or zs 0 0) e in absurd (omega arith)
same_reason (Gate x) Gates r s p q e = let differ : ◌≡◌ {A = ℕ} 61 126 = ap (λ zs. get_or zs 0 0) e in absurd (omega arith)
same_reason (Lemma x) (Gate y) r s p q e = let differ : ◌≡◌ {A = ℕ} 42 61 = ap (λ zs. get_or zs 0 0) e in absurd (omega arith)
same_reason (Lemma x) Way r s p q e = let differ : ◌≡◌ {A = ℕ} 42 33 = ap (λ zs. get_or zs 0 0) e in absurd (omega arith)
same_reason (Lemma x) Gates r s p q e = let differ : ◌≡◌ {A = ℕ} 42 126 = ap (λ zs. get_or zs 0 0) e in absurd (omega arith)
same_reason Way (Gate y) r s p q e = let differ : ◌≡◌ {A = ℕ} 33 61 = ap (λ zs. get_or zs 0 0) e in absurd (omega arith)
same_reason Way (Lemma y) r s p q e = let differ : ◌≡◌ {A = ℕ} 33 42 = ap (λ zs. get_or zs 0 0) e in absurd (omega arith)
same_reason Way Gates r s p q e = let differ : ◌≡◌ {A = ℕ} 33 126 = ap (λ zs. get_or zs 0 0) e in absurd (omega arith)
same_reason Gates (Gate y) r s p q e = let differ : ◌≡◌ {A = ℕ} 126 61 = ap (λ zs. get_or zs 0 0) e in absurd (omega arith)
same_reason Gates (Lemma y) r s p q e = let differ : ◌≡◌ {A = ℕ} 126 42 = ap (λ zs. get_or zs 0 0) e in absurd (omega arith)
same_reason Gates Way r s p q e = let differ : ◌≡◌ {A = ℕ} 126 33 = ap (λ zs. get_or zs 0 0) e in absurd (omega arith)

-- ---- implied literals

implied_shape : (i : Implied) (rest : List ℕ) → implied_text i ++ rest ≡ literal_text i.literal ++ (reason_text i.reason ++ rest)
implied_shape i rest = append_assoc (literal_text i.literal) (reason_text i.reason) rest

same_parts_implied : (l m : Implied) → l.literal ≡ m.literal → l.reason ≡ m.reason → l ≡ m
same_parts_implied l m e d =
    let first : l ≡ record { literal = m.literal; reason = l.reason } = ap (λ x. record { literal = x; reason = l.reason }) e in
    let second : ◌≡◌ {A = Implied} (record { literal = m.literal; reason = l.reason }) m = ap (λ x. record { literal = m.literal; reason = x }) d in
    first ∙ second

pub same_implied : IsCode implied_text IsImplied
same_implied =
    same_both literal_text IsLiteral reason_text IsReason implied_text IsImplied (λ i. i.literal) (λ i. i.reason) implied_shape (λ i h. h.literal) (λ i h. h.reason)
    same_literal same_reason same_parts_implied

pub no_reason : (text : List ℕ) (l : Literal) (t : List ℕ) → IsAt literal_text IsLiteral text l t → NoneAt reason_text IsReason t → NoneAt implied_text IsImplied text
no_reason =
    no_right literal_text IsLiteral reason_text IsReason implied_text IsImplied (λ i. i.literal) (λ i. i.reason) implied_shape (λ i h. h.literal) (λ i h. h.reason) same_literal

implied_apart : (mark : ℕ) → 58 < mark → IsMark mark → (i : Implied) (r s : List ℕ) → IsImplied i → implied_text i ++ r ≡ mark ∷ s → ⊥
implied_apart mark high apart i r s valid e = literal_apart mark high apart i.literal (reason_text i.reason ++ r) s valid.literal (sym (implied_shape i r) ∙ e)

-- ---- moves

pub same_move : IsCode move_text IsMove
same_move (Imply i) (Imply j) r s p q e = let m = same_implied i j r s p q e in (ap (λ z. Imply z) m.0, m.1)
same_move (Imply i) Sweep r s p q e = absurd (implied_apart 126 (omega arith) no_tilde i r (32 ∷ s) p e)
same_move Sweep (Imply j) r s p q e = absurd (implied_apart 126 (omega arith) no_tilde j s (32 ∷ r) q (sym e))
same_move Sweep Sweep r s p q e = (refl, append_cancel_left (codes "~ ") r s e)

pub move_other : (m : Move) (r s : List ℕ) → IsMove m → move_text m ++ r ≡ 59 ∷ s → ⊥
move_other (Imply i) r s valid e = implied_apart 59 (omega arith) no_semicolon i r s valid e
move_other Sweep r s valid e = let differ : ◌≡◌ {A = ℕ} 126 59 = ap (λ zs. get_or zs 0 0) e in absurd (omega arith)

-- ---- the last reason

last_shape : (r : Reason) (rest : List ℕ) → last_text r ++ rest ≡ reason_text r ++ 41 ∷ rest
last_shape r rest = append_assoc (reason_text r) (codes ")") rest

pub same_last : IsCode last_text IsReason
same_last x y r s p q e =
    let m = same_reason x y (41 ∷ r) (41 ∷ s) p q (sym (last_shape x r) ∙ (e ∙ last_shape y s)) in
    (m.0, append_cancel_left (codes ")") r s m.1)

pub no_end : (text : List ℕ) (x : Reason) (t : List ℕ) → IsAt reason_text IsReason text x t → ((r : List ℕ) → t ≢ 41 ∷ r) → NoneAt last_text IsReason text
no_end text x t first none w rest at =
    let m = same_reason x w t (41 ∷ rest) first.valid at.valid (sym first.parts ∙ (at.parts ∙ last_shape w rest)) in
    none rest m.1
