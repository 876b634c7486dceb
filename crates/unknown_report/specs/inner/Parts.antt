-- Texts that begin with some lines and go on with what is no such line.
use Rattle.std.specs.Prelude.{ℕ, ◌≡◌, ◌++◌, List}
use Rattle.std.specs.List.{All, flat_map}
use Rattle.report.specs.Beginnings.{NoneBegins}

pub record AreRead {X : Type 0} (valid : X → Type 0) (line : X → List ℕ) (text : List ℕ) (xs : List X) (rest : List ℕ) : Type 0 where
  pub each : All valid xs
  pub parts : text ≡ flat_map line xs ++ rest
  pub no_more : NoneBegins valid line rest
