-- Laws of the file of patterns.
use Rattle.std.specs.Prelude.{ℕ, ◌≡◌, ◌≤◌, ◌↔◌, true, List, length}
use Rattle.std.specs.List.{All}
use Rattle.statement.specs.Netlists.{Netlist, cells}
use Rattle.statement.specs.Patterns.{Holds, Pattern}
use Rattle.netlist.specs.Conditions.{IsSound}
use Rattle.netlist.specs.Designs.{IsDesign}
use Rattle.netlist.specs.Holds.{AreHoldsOf}
use Rattle.cubes.specs.Cubes.{IsPatternOf}
use Rattle.scan_insert.specs.Scanned.{AreChainsOf, scanned_of}
use Rattle.scan_play.specs.Vectors.{AreVectors}
use Rattle.statement.specs.Stils.{StilFile, stil_text}
use Rattle.stil_read.specs.Reading.{StandsFor}
use Rattle.statement.specs.Tests.{vectors_in, IsFileOf}
use Rattle.stil_vectors.specs.Fitting.{FitsNetlist}
use Rattle.stil_patterns.specs.Applied.{applied_in, is_pattern}

-- The file of patterns has their vectors.
abbrev pub FileVectors : Type 0
FileVectors =
    (n : Netlist) (holds : Holds) (chains : List (List ℕ)) (patterns : List Pattern) (f : StilFile) → IsFileOf n holds chains patterns f → AreVectors n holds chains patterns (vectors_in f)

-- Its text stands for it, and for no other file.
pub record IsReadBack (f : StilFile) : Type 0 where
  pub stands : StandsFor (stil_text f) f
  pub once : (g : StilFile) → StandsFor (stil_text f) g → g ≡ f

abbrev pub FilesReadBack : Type 0
FilesReadBack =
    (n : Netlist) (holds : Holds) (chains : List (List ℕ)) (patterns : List Pattern) (f : StilFile)
    → IsSound n → IsDesign n → AreChainsOf n chains → All (IsPatternOf n holds) patterns → IsFileOf n holds chains patterns f
    → IsReadBack f

-- Patterns have one file at most, and a file is that of at most one list of patterns.
abbrev pub OneFile : Type 0
OneFile =
    (n : Netlist) (holds : Holds) (chains : List (List ℕ)) (patterns : List Pattern) (f g : StilFile)
    → IsSound n → IsFileOf n holds chains patterns f → IsFileOf n holds chains patterns g → f ≡ g

abbrev pub OnePatternList : Type 0
OnePatternList =
    (n : Netlist) (holds : Holds) (chains : List (List ℕ)) (patterns others : List Pattern) (f : StilFile)
    → IsSound n → AreChainsOf n chains → All (IsPatternOf n holds) patterns → All (IsPatternOf n holds) others
    → IsFileOf n holds chains patterns f → IsFileOf n holds chains others f → patterns ≡ others

-- The file of patterns fits the scanned netlist.
abbrev pub FilesFit : Type 0
FilesFit =
    (n : Netlist) (holds : Holds) (chains : List (List ℕ)) (patterns : List Pattern) (f : StilFile)
    → IsSound n → IsDesign n → AreChainsOf n chains → IsFileOf n holds chains patterns f → FitsNetlist f (scanned_of n chains)

-- The file of patterns has at least as many items as there are patterns.
abbrev pub PatternsTakeItems : Type 0
PatternsTakeItems =
    (n : Netlist) (holds : Holds) (chains : List (List ℕ)) (patterns : List Pattern) (f : StilFile) → IsFileOf n holds chains patterns f → length patterns ≤ length f.items

-- The test picks exactly the patterns of the netlist that obey.
abbrev pub PicksPatterns : Type 0
PicksPatterns = (n : Netlist) (holds : Holds) (p : Pattern) → AreHoldsOf n holds → (is_pattern n holds p ≡ true) ↔ IsPatternOf n holds p

-- Where a file is that of patterns, it applies these: for this netlist, and for another one with as many cells in as many chains, of which the file strobes what it shows.
abbrev pub TakenBack : Type 0
TakenBack =
    (n other : Netlist) (holds own : Holds) (chains others : List (List ℕ)) (patterns : List Pattern) (f : StilFile)
    → AreChainsOf n chains → AreChainsOf other others → length (cells other) ≡ length (cells n) → length others ≡ length chains
    → All (IsPatternOf n holds) patterns → IsFileOf other own others patterns f → applied_in n holds chains f ≡ patterns
