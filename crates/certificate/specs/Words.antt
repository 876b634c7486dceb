-- Words of a line, each behind a blank.
use Rattle.std.specs.Prelude.{ℕ, ◌+◌, ◌≡◌, ◌≢◌, ◌==◌, if◌then◌else◌, List, [], ◌∷◌, ◌++◌, slice_index_or}
use Rattle.std.specs.List.{All}

-- a word is over: nothing comes, or a blank
abbrev pub IsEnd : List ℕ → Type 0
IsEnd [] = Unit {0}
IsEnd (b ∷ bs) = b ≡ 32

-- the first word of a text, and what comes behind it
pub record IsWord (text word rest : List ℕ) : Type 0 where
  pub parts : text ≡ word ++ rest
  pub visible : All (λ b. b ≢ 32) word
  pub end : IsEnd rest

abbrev pub blank : ℕ → ℕ
blank b = if b == 32 then 1 else 0

abbrev pub blanks : List ℕ → ℕ
blanks [] = 0
blanks (b ∷ bs) = blank b + blanks bs

-- how many blanks the text of a fault has that begins so: `pin z k` has two, `stem x` and `out y` have one
abbrev pub fault_blanks : List ℕ → ℕ
fault_blanks line = if slice_index_or line 0 0 == 112 then 2 else 1

-- a line in two parts, the first of which is as long as a fault's text
pub record IsCut (line text rest : List ℕ) : Type 0 where
  pub parts : line ≡ text ++ rest
  pub blanks : blanks text ≡ fault_blanks line
  pub end : IsEnd rest
