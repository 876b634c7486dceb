-- What a text begins with.
use Rattle.std.specs.Prelude.{ℕ, ◌≡◌, ◌≢◌, ◌<◌, ◌^◌, ◌∷◌, ◌++◌, List, [], codes, decimal}
use Rattle.std.specs.List.{All, flat_map}
use Rattle.refutation.specs.declared.steps.Move.{Move}
use Rattle.refutation.specs.declared.steps.Reason.{Reason}
use Rattle.refutation_text.specs.Texts.{move_text, reason_text, IsMove, IsReason}

-- the text begins with that of x
pub record IsAt {X : Type 0} (f : X → List ℕ) (V : X → Type 0) (text : List ℕ) (x : X) (rest : List ℕ) : Type 0 where
  pub valid : V x
  pub parts : text ≡ f x ++ rest

abbrev pub NoneAt : {X : Type 0} → (X → List ℕ) → (X → Type 0) → List ℕ → Type 0
NoneAt {X} f V text = (x : X) (rest : List ℕ) → ¬ IsAt f V text x rest

abbrev pub IsSmall : ℕ → Type 0
IsSmall k = k < 2 ^ 32

-- no number has the byte
abbrev pub IsMark : ℕ → Type 0
IsMark mark = (k : ℕ) → IsSmall k → All (λ b. b ≢ mark) (decimal k)

-- a number, and a byte
abbrev pub numbered : ℕ → ℕ → List ℕ
numbered mark k = decimal k ++ mark ∷ []

-- texts, and `; `
abbrev pub listed : {X : Type 0} → (X → List ℕ) → List X → List ℕ
listed f xs = flat_map f xs ++ codes "; "

-- a last reason, and `)`
abbrev pub last_text : Reason → List ℕ
last_text r = reason_text r ++ codes ")"

-- the moves, and the last reason
abbrev pub reasons_text : List Move × Reason → List ℕ
reasons_text p = listed move_text p.0 ++ last_text p.1

pub record AreReasons (p : List Move × Reason) : Type 0 where
  pub moves : All IsMove p.0
  pub last : IsReason p.1
