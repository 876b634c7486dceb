-- The tokens of a text in the words of the format: what stands at the front, and the tokens behind it.
use Rattle.std.specs.Prelude.{ℕ, ◌≡◌, ◌≢◌, ⊤, true, false, List, [], ◌∷◌, ◌++◌}
use Rattle.std.specs.List.{AllByRecursion}
use Rattle.statement.specs.Benches.{Text}
use Rattle.stil_read.specs.declared.bytes.Class.{Class}
use Rattle.stil_read.specs.declared.bytes.Class.TheVariants as class
use Rattle.stil_read.specs.Tokens.{Spelled, Stray, class_of, tokens}
use Rattle.stil_read.specs.inner.Shown.{goes_on, ends_block}

-- Each byte is one of a word (a letter, a digit, one of _ . # /) and begins no comment, and what follows is not so: a longest run.
abbrev pub IsLongestRun : Text → Text → Type 0
IsLongestRun [] rest = goes_on rest ≡ false
IsLongestRun (b ∷ bs) rest = (goes_on (b ∷ (bs ++ rest)) ≡ true) × IsLongestRun bs rest

-- no slash stands directly behind a star, where the byte before is of this class
abbrev pub HasNoEnd : Class → Text → Type 0
HasNoEnd before [] = ⊤
HasNoEnd before (b ∷ bs) = (ends_block before (class_of b) ≡ false) × HasNoEnd (class_of b) bs

-- the text has no such byte
abbrev pub HasNo : ℕ → Text → Type 0
HasNo b text = AllByRecursion (λ (c : ℕ). c ≢ b) text

-- Any text begins in one of these ways, and its tokens follow. 10 is the line's end, 47 the slash, 42 the star.
pub record TokensAreOfFormat : Type 0 where
  pub none : tokens [] ≡ []
  pub gap : (b : ℕ) (rest : Text) → class_of b ≡ class.Gap → tokens (b ∷ rest) ≡ tokens rest
  pub mark : (b : ℕ) (rest : Text) → class_of b ≡ class.Mark → tokens (b ∷ rest) ≡ Spelled (b ∷ []) ∷ tokens rest
  pub word : (b : ℕ) (bs rest : Text) → IsLongestRun (b ∷ bs) rest → tokens (b ∷ (bs ++ rest)) ≡ Spelled (b ∷ bs) ∷ tokens rest
  pub quoted : (q : ℕ) (inside rest : Text) → class_of q ≡ class.Quote → HasNo q inside → tokens (q ∷ (inside ++ q ∷ rest)) ≡ Spelled (q ∷ (inside ++ q ∷ [])) ∷ tokens rest
  pub open_quote : (q : ℕ) (inside : Text) → class_of q ≡ class.Quote → HasNo q inside → tokens (q ∷ inside) ≡ Stray ∷ []
  pub line : (inside rest : Text) → HasNo 10 inside → tokens (47 ∷ 47 ∷ (inside ++ 10 ∷ rest)) ≡ tokens rest
  pub last_line : (inside : Text) → HasNo 10 inside → tokens (47 ∷ 47 ∷ inside) ≡ []
  pub block : (inside rest : Text) → HasNoEnd class.Other inside → tokens (47 ∷ 42 ∷ (inside ++ 42 ∷ 47 ∷ rest)) ≡ tokens rest
  pub open_block : (inside : Text) → HasNoEnd class.Other inside → tokens (47 ∷ 42 ∷ inside) ≡ Stray ∷ []
  pub star : (b : ℕ) (rest : Text) → class_of b ≡ class.Star → tokens (b ∷ rest) ≡ Stray ∷ tokens rest
  pub other : (b : ℕ) (rest : Text) → class_of b ≡ class.Other → tokens (b ∷ rest) ≡ Stray ∷ tokens rest
