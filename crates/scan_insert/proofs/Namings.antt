-- What the signals of the scanned netlist stand for.
use Rattle.std.specs.Prelude.{ℕ, ◌≡◌, ◌⊎◌, Option, Some, None}
use Rattle.std.specs.List.{Contains}
use Rattle.statement.specs.declared.lines.Line.{Line}
use Rattle.statement.specs.declared.lines.Line.TheVariants.{Stem, Pin, Out}
use Rattle.statement.specs.declared.lines.Fault.{Fault}
use Rattle.statement.specs.Netlists.{Definition, Netlist, cells, gates, signals}
use Rattle.scan_insert.specs.Scan.{Naming}

pub data Origin : Type 0 where
  Original : ℕ → Origin
  Enable : Origin
  EnableNot : Origin
  ScanIn : ℕ → Origin
  ScanOut : ℕ → Origin
  Captured : ℕ → Origin
  Shifted : ℕ → Origin
  Chosen : ℕ → Origin
  Held : ℕ → Origin

-- No two signals have one number: a number tells what it stands for.
pub record IsNaming (s : Naming) (n : Netlist) : Type 0 where
  pub origin : ℕ → Origin
  pub stem : (x : ℕ) → Contains (signals n) x → origin (s.stem x) ≡ Original x
  pub gate_pins : (d : Definition) → Contains (gates n) d → s.pins d.id ≡ s.stem d.id
  pub cell_pins : (d : Definition) → Contains (cells n) d → origin (s.pins d.id) ≡ Captured d.id
  pub shifted : (d : Definition) → Contains (cells n) d → origin (s.shifted d.id) ≡ Shifted d.id
  pub chosen : (d : Definition) → Contains (cells n) d → origin (s.chosen d.id) ≡ Chosen d.id
  pub held : (d : Definition) → Contains (cells n) d → origin (s.held d.id) ≡ Held d.id
  pub enable : origin s.enable ≡ Enable
  pub enable_not : origin s.enable_not ≡ EnableNot
  pub scan_in : (x : ℕ) → Contains s.scan_in x → (c : ℕ) × (origin x ≡ ScanIn c)
  pub scan_out : (p : ℕ × ℕ) → Contains s.scan_out p → (c : ℕ) × (origin p.0 ≡ ScanOut c)

-- a cell takes what another cell holds or a scan input when it shifts, and a scan output shows what a cell holds
pub record IsChained (s : Naming) (n : Netlist) : Type 0 where
  pub before : (d : Definition) → Contains (cells n) d → ((c : Definition) × Contains (cells n) c × (s.before d.id ≡ s.held c.id)) ⊎ Contains s.scan_in (s.before d.id)
  pub shows : (p : ℕ × ℕ) → Contains s.scan_out p → (c : Definition) × Contains (cells n) c × (p.1 ≡ s.held c.id)

-- the line that stands for a line of the original
abbrev pub named_line : Naming → Line → Line
named_line s (Stem x) = Stem (s.stem x)
named_line s (Pin z k) = Pin (s.pins z) k
named_line s (Out x) = Out (s.stem x)

abbrev pub named_fault : Naming → Option Fault → Option Fault
named_fault s None = None
named_fault s (Some f) = Some (record { line = named_line s f.line; value = f.value })
