-- Lines and held inputs as they are kept: each part in a table of its own.
use Rattle.std.specs.Prelude.{ℕ, ◌≡◌, Bool, List, [], ◌∷◌, ◌++◌}
use Rattle.std.specs.List.{All, flat_map}
use Rattle.statement.specs.declared.outcomes.Outcome.{Outcome}
use Rattle.statement.specs.Reports.{Line, fault_line}
use Rattle.report.specs.Reports.{Hold, Times, AreCounted, IsLine}
use Rattle.report.specs.Texts.{hold_line, times_text}
use Rattle.report.specs.declared.versions.Version.{Version}
use Rattle.report.specs.inner.Lines.{IsHold}
use Rattle.report.specs.inner.Versions.{version_of}

abbrev pub lines_of : List (List ℕ) → List Outcome → List (List ℕ) → List Line
lines_of [] outcomes pins = []
lines_of (f ∷ fs) [] pins = []
lines_of (f ∷ fs) (o ∷ os) [] = []
lines_of (f ∷ fs) (o ∷ os) (p ∷ ps) = record { fault = f; outcome = o; pin = p } ∷ lines_of fs os ps

abbrev pub holds_of : List (List ℕ) → List Bool → List Hold
holds_of [] bits = []
holds_of (n ∷ ns) [] = []
holds_of (n ∷ ns) (b ∷ bs) = record { name = n; bit = b } ∷ holds_of ns bs

-- what lines say of faults and inputs, behind the shares
abbrev pub tables_text : Times → List Hold → List Line → List ℕ
tables_text ts hs ls = times_text ts ++ (flat_map hold_line hs ++ flat_map fault_line ls)

-- a report of this version can say so, of which so many faults weren't asked for
pub record AreTables (version : Version) (unasked : ℕ) (ts : Times) (hs : List Hold) (ls : List Line) : Type 0 where
  pub times : AreCounted ts
  pub holds : All IsHold hs
  pub lines : All IsLine ls
  pub version_is : version ≡ version_of ts.most unasked hs
