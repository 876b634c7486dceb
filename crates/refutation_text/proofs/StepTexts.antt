-- Steps are told by their texts.
use Rattle.std.proofs.Common.{◌≡◌, ◌≢◌, ℕ, Bool, false, List, [], ◌∷◌, ◌++◌, codes, length, sym, ◌∙◌, ap, nat_eq, append_assoc}
use Rattle.std.specs.List.{All, flat_map}
use Rattle.std.proofs.lemmas.Bool.{both_ways}
use Rattle.std.proofs.lemmas.List.{append_cancel_left}
use Rattle.refutation.specs.declared.steps.Literal.{Literal}
use Rattle.refutation.specs.declared.steps.Move.{Move}
use Rattle.refutation.specs.declared.steps.Reason.{Reason}
use Rattle.refutation.specs.Steps.{Step}
use Rattle.refutation_text.specs.Texts.{move_text, literal_text, step_text, AreSteps, IsMove, IsLiteral, IsReason, IsStep, NoSteps}
use Rattle.refutation_text.specs.inner.Parts.{last_text, listed, reasons_text, AreReasons, IsAt, NoneAt}
use Rattle.refutation_text.proofs.Codes.{IsCode, no_left, no_right, both_here, none_to_end, same_both, same_list, same_to_end}
use Rattle.refutation_text.proofs.PartTexts.{move_other, literal_other, same_move, same_last, same_literal}

same_clause : IsCode (listed literal_text) (All IsLiteral)
same_clause = same_list literal_text IsLiteral same_literal literal_other

same_moves : IsCode (listed move_text) (All IsMove)
same_moves = same_list move_text IsMove same_move move_other

-- ---- reasons

abbrev Reasons : Type 0
Reasons = List Move × Reason

reasons_shape : (p : Reasons) (rest : List ℕ) → reasons_text p ++ rest ≡ listed move_text p.0 ++ (last_text p.1 ++ rest)
reasons_shape p rest = append_assoc (listed move_text p.0) (last_text p.1) rest

same_pair : (v w : Reasons) → v.0 ≡ w.0 → v.1 ≡ w.1 → v ≡ w
same_pair v w e d = ap (λ x. (x, v.1)) e ∙ ap (λ x. (w.0, x)) d

same_reasons : IsCode reasons_text AreReasons
same_reasons =
    same_both (listed move_text) (All IsMove) last_text IsReason reasons_text AreReasons (λ p. p.0) (λ p. p.1) reasons_shape (λ p h. h.moves) (λ p h. h.last)
    same_moves same_last same_pair

pub no_last : (text : List ℕ) (x : List Move) (t : List ℕ) → IsAt (listed move_text) (All IsMove) text x t → NoneAt last_text IsReason t → NoneAt reasons_text AreReasons text
no_last =
    no_right (listed move_text) (All IsMove) last_text IsReason reasons_text AreReasons (λ p. p.0) (λ p. p.1) reasons_shape (λ p h. h.moves) (λ p h. h.last)
    same_moves

-- ---- steps

-- a step behind ` ( `
abbrev body : Step → List ℕ
body s = listed literal_text s.clause ++ reasons_text (s.moves, s.last)

body_shape : (s : Step) (rest : List ℕ) → body s ++ rest ≡ listed literal_text s.clause ++ (reasons_text (s.moves, s.last) ++ rest)
body_shape s rest = append_assoc (listed literal_text s.clause) (reasons_text (s.moves, s.last)) rest

in_order : (s : Step) → flat_map literal_text s.clause ++ 59 ∷ 32 ∷ (flat_map move_text s.moves ++ 59 ∷ 32 ∷ last_text s.last) ≡ body s
in_order s =
    ap (λ zs. flat_map literal_text s.clause ++ 59 ∷ 32 ∷ zs) (sym (append_assoc (flat_map move_text s.moves) (codes "; ") (last_text s.last)))
    ∙ sym (append_assoc (flat_map literal_text s.clause) (codes "; ") (reasons_text (s.moves, s.last)))

step_shape : (s : Step) (rest : List ℕ) → step_text s ++ rest ≡ codes " ( " ++ (body s ++ rest)
step_shape s rest = ap (λ zs. codes " ( " ++ (zs ++ rest)) (in_order s)

to_reasons : (s : Step) → IsStep s → AreReasons (s.moves, s.last)
to_reasons s h = record { moves = h.moves; last = h.last }

same_whole : (v w : Step) → v.clause ≡ w.clause → ◌≡◌ {A = Reasons} (v.moves, v.last) (w.moves, w.last) → v ≡ w
same_whole v w e d =
    let first : v ≡ record { clause = w.clause; moves = v.moves; last = v.last } = ap (λ x. record { clause = x; moves = v.moves; last = v.last }) e in
    let second : ◌≡◌ {A = Step} (record { clause = w.clause; moves = v.moves; last = v.last }) w = ap (λ (x : Reasons). record { clause = w.clause; moves = x.0; last = x.1 }) d in
    first ∙ second

same_body : IsCode body IsStep
same_body =
    same_both (listed literal_text) (All IsLiteral) reasons_text AreReasons body IsStep (λ s. s.clause) (λ s. (s.moves, s.last)) body_shape (λ s h. h.clause) to_reasons
    same_clause same_reasons same_whole

same_step : IsCode step_text IsStep
same_step x y r s p q e =
    same_body x y r s p q (append_cancel_left (codes " ( ") (body x ++ r) (body y ++ s) (sym (step_shape x r) ∙ (e ∙ step_shape y s)))

step_some : (s : Step) (r : List ℕ) → step_text s ++ r ≡ [] → ⊥
step_some s r e = cc

module _ (text behind : List ℕ) (begins : text ≡ codes " ( " ++ behind) where
  no_body : NoneAt body IsStep behind → NoneAt step_text IsStep text
  no_body none s rest at =
      none s rest (record {
        valid = at.valid;
        parts = append_cancel_left (codes " ( ") behind (body s ++ rest) (sym begins ∙ (at.parts ∙ step_shape s rest));
      })

  pub no_clause : NoneAt (listed literal_text) (All IsLiteral) behind → NoneAt step_text IsStep text
  no_clause none =
      no_body (no_left (listed literal_text) (All IsLiteral) reasons_text AreReasons body IsStep (λ s. s.clause) (λ s. (s.moves, s.last)) body_shape (λ s h. h.clause) to_reasons behind none)

  pub no_reasons : (clause : List Literal) (t : List ℕ) → IsAt (listed literal_text) (All IsLiteral) behind clause t → NoneAt reasons_text AreReasons t → NoneAt step_text IsStep text
  no_reasons clause t first none =
      no_body (no_right (listed literal_text) (All IsLiteral) reasons_text AreReasons body IsStep (λ s. s.clause) (λ s. (s.moves, s.last)) body_shape (λ s h. h.clause) to_reasons
      same_clause behind clause t first none)

  pub step_here : (clause : List Literal) (t : List ℕ) (reasons : Reasons) (rest : List ℕ) → IsAt (listed literal_text) (All IsLiteral) behind clause t → IsAt reasons_text AreReasons t reasons rest
      → IsAt step_text IsStep text (record { clause = clause; moves = reasons.0; last = reasons.1 }) rest
  step_here clause t reasons rest first second =
      let s : Step = record { clause = clause; moves = reasons.0; last = reasons.1 } in
      let valid : IsStep s = record { clause = first.valid; moves = second.valid.moves; last = second.valid.last } in
      let b = both_here (listed literal_text) (All IsLiteral) reasons_text AreReasons body IsStep (λ s. s.clause) (λ s. (s.moves, s.last)) body_shape (λ s h. h.clause) to_reasons
      behind t rest s valid first.parts second.parts in
      record { valid = valid; parts = begins ∙ (ap (λ zs. codes " ( " ++ zs) b.parts ∙ sym (step_shape s rest)) }

-- ---- all of them

pub some_left : (rest : List ℕ) (empty : Bool) → empty ≡ nat_eq (length rest) 0 → empty ≡ false → rest ≢ []
some_left rest empty is more e = both_ways empty more (is ∙ ap (λ k. nat_eq k 0) (ap length e))

pub no_steps : (bytes : List ℕ) (read : List Step) (rest : List ℕ) → All IsStep read → bytes ≡ flat_map step_text read ++ rest → rest ≢ [] → NoneAt step_text IsStep rest → NoSteps bytes
no_steps bytes read rest are is more none steps w =
    none_to_end step_text IsStep same_step step_some read steps rest are w.each none more (sym is ∙ w.text)

pub one_list : (bytes : List ℕ) (steps others : List Step) → AreSteps bytes steps → AreSteps bytes others → steps ≡ others
one_list bytes steps others v w = same_to_end step_text IsStep same_step step_some steps others v.each w.each (sym v.text ∙ w.text)
