-- Words of a line.
use Rattle.std.proofs.Common.{◌≡◌, ◌≢◌, ℕ, ◌+◌, ◌<◌, true, false, List, [], ◌∷◌, ◌++◌, get_or, refl, sym, ◌∙◌, ap, if◌then◌else◌, nat_eq, inl, inr, arith, append_assoc}
use Rattle.std.specs.List.{All}
use Rattle.std.proofs.Math.Dec.{eqb}
use Rattle.std.proofs.lemmas.Bool.Decides.{eqb_tells}
use Rattle.std.proofs.lemmas.List.Elements.{All-head, All-tail}
use Rattle.certificate.specs.Words.{blank, blanks, fault_blanks, IsCut, IsEnd, IsWord}

visible : (b : ℕ) → b ≢ 32 → blank b ≡ 0
visible b h = elim (eqb_tells b 32) [
  | inl w ↦ absurd (h w.1)
  | inr w ↦ ap (λ t. if t then 1 else 0) w.0
]

pub no_blanks : (xs : List ℕ) → All (λ b. b ≢ 32) xs → blanks xs ≡ 0
no_blanks [] h = refl
no_blanks (x ∷ xs) h =
    let first : blank x ≡ 0 = visible x (All-head (λ b. b ≢ 32) x xs h) in
    let others : blanks xs ≡ 0 = no_blanks xs (All-tail (λ b. b ≢ 32) x xs h) in
    omega (arith, first, others)

pub blanks_append : (xs ys : List ℕ) → blanks (xs ++ ys) ≡ blanks xs + blanks ys
blanks_append [] ys = let none : blanks [] ≡ 0 = refl in omega (arith, none)
blanks_append (x ∷ xs) ys = let others : blanks (xs ++ ys) ≡ blanks xs + blanks ys = blanks_append xs ys in omega (arith, others)

ends_here : (y : ℕ) (ys rs ss : List ℕ) → 0 ≡ blanks (y ∷ ys) → IsEnd rs → rs ≡ y ∷ (ys ++ ss) → ⊥
ends_here y ys [] ss b h e = cc
ends_here y ys (r ∷ rs) ss b h e =
    let same : r ≡ y = cc in
    let one : blank y ≡ 1 = ap blank (sym same ∙ h) in
    absurd (omega (arith, b, one))

-- two texts with as many blanks, each up to the end of a word
pub same_cut : (xs ys rs ss : List ℕ) → blanks xs ≡ blanks ys → IsEnd rs → IsEnd ss → xs ++ rs ≡ ys ++ ss → (xs ≡ ys) × (rs ≡ ss)
same_cut [] [] rs ss b h k e = (refl, e)
same_cut [] (y ∷ ys) rs ss b h k e = absurd (ends_here y ys rs ss b h e)
same_cut (x ∷ xs) [] rs ss b h k e = absurd (ends_here x xs ss rs (sym b) k (sym e))
same_cut (x ∷ xs) (y ∷ ys) rs ss b h k e =
    let heads : x ≡ y = cc in
    let tails : xs ++ rs ≡ ys ++ ss = cc in
    let first : blank x ≡ blank y = ap blank heads in
    let others : blanks xs ≡ blanks ys = omega (arith, b, first) in
    let m = same_cut xs ys rs ss others h k tails in
    (ap (λ z. z ∷ xs) heads ∙ ap (λ zs. y ∷ zs) m.0, m.1)

-- the first word of a text is one
pub same_word : (text word rest name more : List ℕ) → IsWord text word rest → All (λ b. b ≢ 32) name → IsEnd more → text ≡ name ++ more → (word ≡ name) × (rest ≡ more)
same_word text word rest name more w apart end e =
    same_cut word name rest more (no_blanks word w.visible ∙ sym (no_blanks name apart)) w.end end (sym w.parts ∙ e)

pub nothing_behind : (rest : List ℕ) → IsEnd rest → ((r : List ℕ) → rest ≢ 32 ∷ r) → rest ≡ []
nothing_behind [] h none = refl
nothing_behind (b ∷ bs) h none = absurd (none bs (ap (λ c. c ∷ bs) h))

-- a line in three words, and with less
few_blanks : (line text rest : List ℕ) → blanks line < fault_blanks line → IsCut line text rest → ⊥
few_blanks line text rest few c =
    let sum : blanks line ≡ blanks text + blanks rest = ap blanks c.parts ∙ blanks_append text rest in
    omega (arith, few, sum, c.blanks)

some_due : (line : List ℕ) → 0 < fault_blanks line
some_due line = elim (eqb_tells (get_or line 0 0) 112) [
  | inl w ↦ let is : fault_blanks line ≡ 2 = ap (λ t. if t then 2 else 1) w.0 in omega (arith, is)
  | inr w ↦ let is : fault_blanks line ≡ 1 = ap (λ t. if t then 2 else 1) w.0 in omega (arith, is)
]

module _ (line first behind : List ℕ) (one : IsWord line first behind) where
  pub one_word : ((r : List ℕ) → behind ≢ 32 ∷ r) → (text rest : List ℕ) → IsCut line text rest → ⊥
  one_word none text rest c =
      let sum : blanks line ≡ blanks first + blanks behind = ap blanks one.parts ∙ blanks_append first behind in
      let nothing : blanks behind ≡ 0 = ap blanks (nothing_behind behind one.end none) in
      let few = no_blanks first one.visible in
      few_blanks line text rest (omega (arith, sum, nothing, few, some_due line)) c

  module _ (r second after : List ℕ) (next : behind ≡ 32 ∷ r) (two : IsWord r second after) where
    two_parts : line ≡ (first ++ 32 ∷ second) ++ after
    two_parts = one.parts ∙ (ap (λ zs. first ++ zs) (next ∙ ap (λ zs. 32 ∷ zs) two.parts) ∙ sym (append_assoc first (32 ∷ second) after))

    two_blanks : blanks (first ++ 32 ∷ second) ≡ 1
    two_blanks =
        let sum : blanks (first ++ 32 ∷ second) ≡ blanks first + (1 + blanks second) = blanks_append first (32 ∷ second) in
        omega (arith, sum, no_blanks first one.visible, no_blanks second two.visible)

    pub cut_behind_two : (t : ◌≡◌ {A = _} (nat_eq (get_or line 0 0) 112) false) → IsCut line (first ++ 32 ∷ second) after
    cut_behind_two other = record { parts = two_parts; blanks = two_blanks ∙ sym (ap (λ t. if t then 2 else 1) other); end = two.end }

    pub two_words : nat_eq (get_or line 0 0) 112 ≡ true → ((q : List ℕ) → after ≢ 32 ∷ q) → (text rest : List ℕ) → IsCut line text rest → ⊥
    two_words pin none text rest c =
        let sum : blanks line ≡ blanks (first ++ 32 ∷ second) + blanks after = ap blanks two_parts ∙ blanks_append (first ++ 32 ∷ second) after in
        let nothing : blanks after ≡ 0 = ap blanks (nothing_behind after two.end none) in
        let due : fault_blanks line ≡ 2 = ap (λ t. if t then 2 else 1) pin in
        few_blanks line text rest (omega (arith, sum, nothing, due, two_blanks)) c

    pub cut_behind_three : nat_eq (get_or line 0 0) 112 ≡ true → (q third last : List ℕ) → after ≡ 32 ∷ q → IsWord q third last → IsCut line ((first ++ 32 ∷ second) ++ 32 ∷ third) last
    cut_behind_three pin q third last more three =
        let sum : blanks ((first ++ 32 ∷ second) ++ 32 ∷ third) ≡ blanks (first ++ 32 ∷ second) + (1 + blanks third) = blanks_append (first ++ 32 ∷ second) (32 ∷ third) in
        let count : blanks ((first ++ 32 ∷ second) ++ 32 ∷ third) ≡ 2 = omega (arith, sum, two_blanks, no_blanks third three.visible) in
        record {
          parts = two_parts ∙ (ap (λ zs. (first ++ 32 ∷ second) ++ zs) (more ∙ ap (λ zs. 32 ∷ zs) three.parts) ∙ sym (append_assoc (first ++ 32 ∷ second) (32 ∷ third) last));
          blanks = count ∙ sym (ap (λ t. if t then 2 else 1) pin);
          end = three.end;
        }
