-- Lines: what stands for a value up to its end, behind a word, and one behind the other.
use Rattle.std.proofs.Common.{◌≡◌, ◌≢◌, ℕ, List, [], ◌∷◌, ◌++◌, length, refl, sym, ◌∙◌, ap, subst, append_assoc, arith, length-append}
use Rattle.std.specs.List.{All, flat_map}
use Rattle.std.proofs.lemmas.Grind.{flat_map-append}
use Rattle.std.proofs.lemmas.List.{append-nil, append_cancel_left}
use Rattle.std.proofs.lemmas.List.Elements.{All-head, All-push, All-tail}
use Rattle.plain_text.proofs.Parts.{byte_inside, same_parts}
use Rattle.report.specs.Beginnings.{NoneBegins}

-- a value and the rest are told by their text
abbrev pub IsTold : {X : Type 0} → (X → Type 0) → (X → List ℕ) → Type 0
IsTold {X} valid line = (x y : X) (r s : List ℕ) → valid x → valid y → line x ++ r ≡ line y ++ s → (x ≡ y) × (r ≡ s)

-- words without an end of a line, and then the end
pub record IsLined {X : Type 0} (valid : X → Type 0) (words line : X → List ℕ) : Type 0 where
  pub end : (x : X) → line x ≡ words x ++ 10 ∷ []
  pub whole : (x : X) → valid x → All (λ b. b ≢ 10) (words x)

module _ {X : Type 0} (valid : X → Type 0) (words line : X → List ℕ) (lined : IsLined valid words line) where
  pub line_rest : (x : X) (r : List ℕ) → line x ++ r ≡ words x ++ 10 ∷ r
  line_rest x r = ap (λ t. t ++ r) (lined.end x) ∙ append_assoc (words x) (10 ∷ []) r

  pub line_told : ((x y : X) → valid x → valid y → words x ≡ words y → x ≡ y) → IsTold valid line
  line_told same x y r s v w e =
      let p = same_parts 10 (words x) (words y) r s (lined.whole x v) (lined.whole y w) (sym (line_rest x r) ∙ (e ∙ line_rest y s)) in
      (same x y v w p.0, p.1)

  pub no_end : (text : List ℕ) → All (λ b. b ≢ 10) text → NoneBegins valid line text
  no_end text none x rest v e = byte_inside 10 (words x) rest (subst (All (λ b. b ≢ 10)) (e ∙ line_rest x rest) none)

  pub nothing_begins : NoneBegins valid line []
  nothing_begins x rest v e =
      let size : 0 ≡ length (words x ++ 10 ∷ rest) = ap length (e ∙ line_rest x rest) in
      absurd (omega (arith, size, length-append (words x) (10 ∷ rest)))

  module _ (text front rest : List ℕ) (whole : All (λ b. b ≢ 10) front) (is : text ≡ front ++ 10 ∷ rest) where
    pub no_words : ((x : X) → valid x → front ≢ words x) → NoneBegins valid line text
    no_words none x more v e = none x v (same_parts 10 front (words x) rest more whole (lined.whole x v) (sym is ∙ (e ∙ line_rest x more))).0

-- the same behind a word
module _ {X : Type 0} (valid : X → Type 0) (word : List ℕ) (line : X → List ℕ) where
  pub behind_told : IsTold valid line → IsTold valid (λ x. word ++ line x)
  behind_told told x y r s v w e =
      told x y r s v w (append_cancel_left word (line x ++ r) (line y ++ s) (sym (append_assoc word (line x) r) ∙ (e ∙ append_assoc word (line y) s)))

  module _ (text after : List ℕ) (is : text ≡ word ++ after) where
    pub none_behind : NoneBegins valid line after → NoneBegins valid (λ x. word ++ line x) text
    none_behind none x rest v e = none x rest v (append_cancel_left word after (line x ++ rest) (sym is ∙ (e ∙ append_assoc word (line x) rest)))

-- many lines
module _ {X : Type 0} (valid : X → Type 0) (line : X → List ℕ) (told : IsTold valid line) where
  pub same_lines : (xs ys : List X) (r s : List ℕ) → All valid xs → All valid ys → NoneBegins valid line r → NoneBegins valid line s
      → flat_map line xs ++ r ≡ flat_map line ys ++ s → (xs ≡ ys) × (r ≡ s)
  same_lines [] [] r s v w n m e = (refl, e)
  same_lines [] (y ∷ ys) r s v w n m e = absurd (n y (flat_map line ys ++ s) (All-head valid y ys w) (e ∙ append_assoc (line y) (flat_map line ys) s))
  same_lines (x ∷ xs) [] r s v w n m e =
      absurd (m x (flat_map line xs ++ r) (All-head valid x xs v) (sym e ∙ append_assoc (line x) (flat_map line xs) r))
  same_lines (x ∷ xs) (y ∷ ys) r s v w n m e =
      let first = told x y (flat_map line xs ++ r) (flat_map line ys ++ s) (All-head valid x xs v) (All-head valid y ys w)
      (sym (append_assoc (line x) (flat_map line xs) r) ∙ (e ∙ append_assoc (line y) (flat_map line ys) s)) in
      let others = same_lines xs ys r s (All-tail valid x xs v) (All-tail valid y ys w) n m first.1 in
      (ap (λ z. z ∷ xs) first.0 ∙ ap (λ zs. y ∷ zs) others.0, others.1)

-- one more line is read
pub next_read : {X : Type 0} (line : X → List ℕ) (xs ys : List X) (x : X) (text rest after : List ℕ) → text ≡ flat_map line xs ++ rest → rest ≡ line x ++ after
    → ys ≡ xs ++ x ∷ [] → text ≡ flat_map line ys ++ after
next_read line xs ys x text rest after t e new =
    t ∙ (ap (λ u. flat_map line xs ++ u) e ∙ (sym (append_assoc (flat_map line xs) (line x) after)
    ∙ ap (λ u. u ++ after)
    (ap (λ u. flat_map line xs ++ u) (sym (append-nil (line x))) ∙ (sym (flat_map-append line xs (x ∷ [])) ∙ ap (flat_map line) (sym new)))))

pub next_valid : {X : Type 0} (valid : X → Type 0) (xs ys : List X) (x : X) → All valid xs → valid x → ys ≡ xs ++ x ∷ [] → All valid ys
next_valid valid xs ys x v w new = subst (All valid) (sym new) (All-push valid xs x v w)
