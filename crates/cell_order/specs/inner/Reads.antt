-- What is read of an order, and marks on signals.
use denote.Ref.{Bor}
use Rattle.std.specs.Prelude.{ℕ, ◌≡◌, ◌+◌, ◌++◌, ◌∷◌, Bool, true, false, List, length, map, slice_index_or}
use Rattle.std.specs.List.{All, Contains}
use Rattle.statement.specs.Benches.{Text}
use Rattle.cell_order.specs.Orders.{chains_in, names_in}
use Rattle.cell_order.specs.declared.naming.Said.{Said}

abbrev pub texts_in : List (Bor Text) → List Text
texts_in words = map (λ (word : Bor Text). word.now) words

-- the names of the text, and how many each line has
pub record HasNames (text : Text) (said : Said) : Type 0 where
  pub names : texts_in said.names.items ≡ names_in text
  pub lengths : said.lengths.items ≡ map length (chains_in text)

-- whether a signal is marked
abbrev pub is_marked : List Bool → ℕ → Bool
is_marked marks x = slice_index_or marks x false

-- these are marked, and no other
pub record AreMarked (xs : List ℕ) (marks : List Bool) : Type 0 where
  pub each : All (λ x. is_marked marks x ≡ true) xs
  pub only : (x : ℕ) → is_marked marks x ≡ true → Contains xs x

-- the first that isn't marked has this number, counted from 1
pub record IsFirstUnmarked (xs : List ℕ) (marks : List Bool) (number : ℕ) : Type 0 where
  pub before : List ℕ
  pub x : ℕ
  pub behind : List ℕ
  pub xs_are : xs ≡ before ++ x ∷ behind
  pub each : All (λ y. is_marked marks y ≡ true) before
  pub unmarked : is_marked marks x ≡ false
  pub number_is : number ≡ length before + 1
