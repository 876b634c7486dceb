-- Texts that begin with what stands for a value.
use Rattle.std.specs.Prelude.{ℕ, ◌≡◌, ◌≢◌, ◌/◌, ◌^◌, ◌<◌, ◌++◌, List}

-- the text is what stands for this value, and then the rest
abbrev pub Begins : {X : Type 0} → (X → Type 0) → (X → List ℕ) → List ℕ → X → List ℕ → Type 0
Begins valid line text x rest = valid x × (text ≡ line x ++ rest)

-- the text begins with what stands for no value
abbrev pub NoneBegins : {X : Type 0} → (X → Type 0) → (X → List ℕ) → List ℕ → Type 0
NoneBegins {X} valid line text = (x : X) (rest : List ℕ) → valid x → text ≢ line x ++ rest

abbrev pub IsCount : ℕ → Type 0
IsCount count = count < 2 ^ 64

abbrev pub IsShare : ℕ → Type 0
IsShare share = share / 100 < 2 ^ 64
