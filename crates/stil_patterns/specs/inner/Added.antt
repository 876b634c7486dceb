-- Items as they are added, test by test.
use Rattle.std.specs.Prelude.{ℕ, ◌≡◌, false, not, List, [], ◌∷◌, ◌++◌, map, length, replicate, None}
use Rattle.std.specs.List.{AllZip, zip}
use Rattle.statement.specs.declared.kinds.Tri.{Tri}
use Rattle.statement.specs.declared.kinds.Tri.TheVariants.{X}
use Rattle.statement.specs.Netlists.{Netlist}
use Rattle.statement.specs.Values.{known}
use Rattle.statement.specs.Patterns.{Pattern}
use Rattle.statement.specs.Tests.{cells_of, Response, Responds, flush, applied_items, capture_item, load_items, test_items}
use Rattle.events.specs.Words.{bit_of}
use Rattle.scan_play.specs.inner.Applied.{AreApplied}
use Rattle.statement.specs.Stils.{Item}

-- the response of which these words have the bits at a place
abbrev pub response_at : ℕ → List ℕ → List ℕ → Response
response_at place outputs cells = record { outputs = map (bit_of place) outputs; cells = map (bit_of place) cells }

-- the pattern's load and capture stand behind the others, and its response is what the cells hold
pub record IsAdded (n : Netlist) (chains : List (List ℕ)) (p : Pattern) (held after : List Tri) (old new : List Item) : Type 0 where
  pub response : Response
  pub responds : Responds n None p response
  pub items : new ≡ old ++ (load_items chains p.cells held ++ capture_item chains p response ∷ [])
  pub taken : after ≡ map known response.cells

-- the items so far
abbrev pub AreBegun : Netlist → List (List ℕ) → List Pattern → List Item → List Tri → Type 0
AreBegun n chains patterns items held = AreApplied (Responds n None) (applied_items chains) (test_items chains) (length (cells_of chains)) patterns items held

-- the three loads that flush the chains
abbrev pub flush_items : List (List ℕ) → List Item
flush_items chains =
    load_items chains (flush chains) (replicate (length (cells_of chains)) X)
    ++ load_items chains (map not (flush chains)) (map known (flush chains))
    ++ load_items chains (replicate (length (cells_of chains)) false) (map known (map not (flush chains)))

-- the items of the patterns' file
pub record AreAll (n : Netlist) (chains : List (List ℕ)) (patterns : List Pattern) (items : List Item) : Type 0 where
  pub responses : List Response
  pub respond : AllZip (Responds n None) patterns responses
  pub are : items ≡ test_items chains (zip patterns responses)
