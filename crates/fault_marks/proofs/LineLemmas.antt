-- The lines of a text, one by one.
use Rattle.std.proofs.Common.{◌≡◌, ◌≢◌, ◌<◌, ℕ, List, [], ◌∷◌, ◌++◌, length, refl, sym, ap, ◌∙◌, inl, inr, arith}
use Rattle.std.specs.List.{All, onto_first}
use Rattle.std.proofs.lemmas.Bool.Decides.{eqb_tells}
use Rattle.std.proofs.lemmas.List.Elements.{All-head, All-tail}
use Rattle.bench_text.specs.Bytes.{lines}
use Rattle.bench_text.proofs.TextLemmas.{lines-end, lines-more, lines-none}

within : (b : ℕ) (bs : List ℕ) → b ≢ 10 → lines (b ∷ bs) ≡ onto_first b (lines bs)
within b bs other = elim (eqb_tells b 10) [
  | inl same ↦ absurd (other same.1)
  | inr differs ↦ lines-more b bs differs.0
]

-- the first line ends at the first LF
pub line_cut : (front rest : List ℕ) → All (λ b. b ≢ 10) front → lines (front ++ 10 ∷ rest) ≡ front ∷ lines rest
line_cut [] rest h = lines-end 10 rest refl
line_cut (b ∷ bs) rest h =
    within b (bs ++ 10 ∷ rest) (All-head (λ b. b ≢ 10) b bs h) ∙ ap (onto_first b) (line_cut bs rest (All-tail (λ b. b ≢ 10) b bs h))

-- or, where there is none, is all
pub line_last : (text : List ℕ) → All (λ b. b ≢ 10) text → 0 < length text → lines text ≡ text ∷ lines []
line_last [] h some = absurd (omega arith)
line_last (b ∷ []) h some = within b [] (All-head (λ b. b ≢ 10) b [] h) ∙ (ap (onto_first b) lines-none ∙ ap (λ ls. (b ∷ []) ∷ ls) (sym lines-none))
line_last (b ∷ c ∷ bs) h some =
    within b (c ∷ bs) (All-head (λ b. b ≢ 10) b (c ∷ bs) h) ∙ ap (onto_first b) (line_last (c ∷ bs) (All-tail (λ b. b ≢ 10) b (c ∷ bs) h) (omega arith))
