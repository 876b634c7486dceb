-- Scan insertion as equations: each cell becomes a multiplexed scan cell, and the cells of a chain a shift register.
-- (Full scan by multiplexed cells: Bushnell and Agrawal, Essentials of Electronic Testing, 2000.)
use Rattle.std.specs.Prelude.{ℕ, cond, List, [], ◌∷◌, ◌++◌, map}
use Rattle.std.specs.List.{flat_map}
use Rattle.statement.specs.declared.kinds.Kind.{Kind}
use Rattle.statement.specs.declared.kinds.Kind.TheVariants.{And, Or, Not, Buff, Dff}
use Rattle.statement.specs.Netlists.{Definition, Netlist, is_cell}
use Rattle.netlist.specs.Netlist.{define}

-- the signals of the scanned netlist
pub record Naming : Type 0 where
  pub names : List (List ℕ)
  pub stem : ℕ → ℕ  -- what has the stem of a signal of the original
  pub pins : ℕ → ℕ  -- what has its pins; of a cell, the gate that lets the captured bit through
  pub enable : ℕ
  pub enable_not : ℕ
  pub scan_in : List ℕ  -- one for each chain
  pub scan_out : List (ℕ × ℕ)  -- for each chain the scan output and what it shows
  pub shifted : ℕ → ℕ  -- of a cell, the gate that lets the bit from the cell before through
  pub chosen : ℕ → ℕ  -- the one of the two that the cell takes
  pub held : ℕ → ℕ  -- what it holds
  pub before : ℕ → ℕ  -- what it takes when it shifts

abbrev pub scan_cell : Naming → Definition → List Definition
scan_cell s q =
    define (s.pins q.id) And (map s.stem q.pins ++ s.enable_not ∷ [])
    ∷ define (s.shifted q.id) And (s.before q.id ∷ s.enable ∷ [])
    ∷ define (s.chosen q.id) Or (s.pins q.id ∷ s.shifted q.id ∷ [])
    ∷ define (s.held q.id) Dff (s.chosen q.id ∷ [])
    ∷ define (s.stem q.id) Buff (s.held q.id ∷ [])
    ∷ []

abbrev pub scan_definition : Naming → Definition → List Definition
scan_definition s d = cond (is_cell d) (scan_cell s d) (define (s.stem d.id) d.kind (map s.stem d.pins) ∷ [])

abbrev pub show_last : ℕ × ℕ → Definition
show_last p = define p.0 Buff (p.1 ∷ [])

abbrev pub scanned : Naming → Netlist → Netlist
scanned s n = record {
  names = s.names;
  inputs = map s.stem n.inputs ++ s.enable ∷ s.scan_in;
  outputs = map s.stem n.outputs ++ map (λ (p : ℕ × ℕ). p.0) s.scan_out;
  definitions =
      define s.enable_not Not (s.enable ∷ [])
      ∷ flat_map (scan_definition s) n.definitions ++ map show_last s.scan_out;
}
