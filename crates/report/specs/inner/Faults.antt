-- Lines that begin with a fault, word by word.
use Rattle.std.specs.Prelude.{ℕ, ◌≡◌, ◌≢◌, ◌^◌, ◌<◌, ◌++◌, ◌∷◌, Bool, true, false, List, codes, decimal}
use Rattle.std.specs.List.{All}
use Rattle.report.specs.declared.models.FaultModel.{FaultModel}
use Rattle.report.specs.Reports.{IsBenchWord, fault_end}

-- behind the blank
abbrev pub slow_word : Bool → List ℕ
slow_word false = codes "rise"
slow_word true = codes "fall"

-- a front without a blank, the end of a fault's text, a blank and the rest
pub record EndsAt (model : FaultModel) (text front rest : List ℕ) : Type 0 where
  pub value : Bool
  pub whole : All (λ b. b ≢ 32) front
  pub text_is : text ≡ front ++ (fault_end model value ++ 32 ∷ rest)

-- a name, the end, a blank and the rest
pub record NamedBegins (model : FaultModel) (text rest : List ℕ) : Type 0 where
  pub name : List ℕ
  pub word : IsBenchWord name
  pub ends : EndsAt model text name rest

-- a name, a blank, a place, the end, a blank and the rest
pub record PinBegins (model : FaultModel) (text rest : List ℕ) : Type 0 where
  pub name : List ℕ
  pub after : List ℕ
  pub place : ℕ
  pub word : IsBenchWord name
  pub small : place < 2 ^ 64
  pub text_is : text ≡ name ++ 32 ∷ after
  pub ends : EndsAt model after (decimal place) rest

-- a fault, a blank and the rest
pub data FaultBegins (model : FaultModel) : List ℕ → List ℕ → Type 0 where
  begins_stem : (line text rest : List ℕ) → NamedBegins model text rest → line ≡ codes "stem " ++ text → FaultBegins model line rest
  begins_output : (line text rest : List ℕ) → NamedBegins model text rest → line ≡ codes "out " ++ text → FaultBegins model line rest
  begins_pin : (line text rest : List ℕ) → PinBegins model text rest → line ≡ codes "pin " ++ text → FaultBegins model line rest
