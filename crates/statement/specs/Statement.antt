-- The statement: what five texts of a run say of a chip, whoever made them.
use Rattle.std.specs.Prelude.{ℕ, ◌≡◌, Bool, false, List, [], ◌∷◌, ◌++◌, length, take, None, ◌≢◌, slice_index, cond, codes, if◌then◌else◌, Option, Some, map, ⊤}
use Rattle.std.specs.List.{All, AllPairs, Contains, EachIndex, flat_map, slice_get, zip}
use Rattle.statement.specs.declared.lines.Fault.{Fault}
use Rattle.statement.specs.declared.lines.Line.{Line as Lead}
use Rattle.statement.specs.declared.lines.Line.TheVariants.{Stem, Pin, Out}
use Rattle.statement.specs.declared.lines.Point.{Point}
use Rattle.statement.specs.declared.outcomes.Outcome.{Outcome}
use Rattle.statement.specs.declared.outcomes.Outcome.TheVariants.{Detected, Redundant, Aborted, Unasked}
use Rattle.statement.specs.Netlists.{Netlist, Definition, signals, IsName, is_cell, name_of, cells}
use Rattle.statement.specs.Values.{Settles, bits, outs, next, bit_table}
use Rattle.statement.specs.Patterns.{Holds, Obeys, Pattern, IsLastDetected}
use Rattle.statement.specs.Benches.{Text, canonical}
use Rattle.statement.specs.Runs.{Cycle, Runs, output_name, Passes, FailsAt}
use Rattle.statement.specs.Stils.{StilFile, stil_text}
use Rattle.statement.specs.Tests.{IsStrobedAt, vectors_in, IsFileOf}
use Rattle.statement.specs.Faults.{fault_text, universe_of}
use Rattle.statement.specs.Reports.{Line, fault_line}

-- With scan off it behaves as the original: at all inputs, states and scan-in values the same outputs and next cells. Without chains it is the original.
abbrev pub BehavesWithScanOff : Netlist → Netlist → List (List ℕ) → Type 0
BehavesWithScanOff n scanned [] = scanned ≡ n
BehavesWithScanOff n scanned (chain ∷ chains) =
    (inputs state scan_inputs : List Bool) (a b : ℕ → Bool)
    → Settles (bits None) n inputs state a → Settles (bits None) scanned (inputs ++ false ∷ scan_inputs) state b
    → (take (length n.outputs) (outs (bits None) scanned b) ≡ outs (bits None) n a) × (next (bits None) scanned b ≡ next (bits None) n a)

-- the netlist, the scanned netlist, the test, the certificate and the report
pub record FiveFiles : Type 0 where
  pub net : Text
  pub scan : Text
  pub stil : Text
  pub certificate : Text
  pub report : Text

-- The signals are 0, 1 and so on and have names that differ, and what is read is a signal: so the netlist's text tells it.
pub record IsNamed (n : Netlist) : Type 0 where
  pub numbered : EachIndex (signals n) (λ k. slice_index (signals n) k ≡ k)
  pub counted : length n.names ≡ length (signals n)
  pub names : All IsName n.names
  pub distinct : AllPairs (λ x y. x ≢ y) n.names
  pub pins : All (λ (d : Definition). All (Contains (signals n)) d.pins) n.definitions
  pub outputs : All (Contains (signals n)) n.outputs

-- the name of what has a definition's pins in the scanned netlist: of a cell, the gate that lets the captured bit through
abbrev pub pins_name : Netlist → Definition → List ℕ
pins_name n d = cond (is_cell d) (codes "SC__a_" ++ name_of n d.id) (name_of n d.id)

-- the second line is where the first one stands in the scanned netlist, by names
abbrev pub IsSite : Netlist → Netlist → Lead → Lead → Type 0
IsSite n scanned (Stem x) (Stem y) = name_of scanned y ≡ name_of n x
IsSite n scanned (Pin z k) (Pin y j) = (d : Definition) × Contains n.definitions d × (d.id ≡ z) × (name_of scanned y ≡ pins_name n d) × (j ≡ k)
IsSite n scanned (Out x) (Out y) = name_of scanned y ≡ name_of n x
IsSite n scanned _ _ = ⊥

-- `hold a 1`, for an input that is held
abbrev pub hold_text : Netlist → ℕ × Option Bool → Text
hold_text n (x, None) = []
hold_text n (x, Some bit) = codes "hold " ++ (name_of n x ++ (if bit then codes " 1\n" else codes " 0\n"))

module _ (n : Netlist) (holds : Holds) (chains : List (List ℕ)) (scanned : Netlist) (patterns : List Pattern) (cycles : List Cycle) where
  -- From each power-up state, whatever is driven and pulsed under the held inputs, all outputs are in every cycle as without the fault.
  abbrev pub IsNeverTold : Fault → Type 0
  IsNeverTold moved =
      (state : List Bool) (driven : List Cycle) (good faulty : List (List Bool)) → All (λ (cycle : Cycle). Obeys holds cycle.drive) driven
      → Runs bit_table None scanned state driven good → Runs bit_table (Some moved) scanned state driven faulty → good ≡ faulty

  -- What a line says of a fault comes true on the tester. Detected: by the last pattern that detects it, at its first point; in the cycle and at
  -- the pin at which that is strobed the test fails on the netlist with the fault. Redundant: nothing tells it. Aborted: the test passes on it. Unasked: nothing.
  abbrev pub ComesTrue : Fault → Fault → Outcome → List ℕ → Type 0
  ComesTrue f moved (Detected place cycle) pin =
      (point : Point) × (output : ℕ) × IsLastDetected n patterns f place point × IsStrobedAt n chains place point cycle output
      × (pin ≡ output_name scanned (slice_index scanned.outputs output)) × FailsAt scanned (Some moved) cycles cycle output
  ComesTrue f moved Redundant pin = IsNeverTold moved
  ComesTrue f moved Aborted pin = Passes scanned (Some moved) cycles
  ComesTrue f moved Unasked pin = ⊤

-- Five texts of a netlist with these inputs held and its cells in these chains: its own; that of a scanned one, which behaves as it does with scan off;
-- the test by some patterns, which passes on the scanned one and runs there from each power-up state, with any fault or none; and a report that ends with
-- the held inputs and a line for each fault of the netlist, in order, each of which comes true. A call that returned has written the texts, or read them.
pub record Statement (n : Netlist) (holds : Holds) (chains : List (List ℕ)) (files : FiveFiles) : Type 0 where
  pub scanned : Netlist
  pub patterns : List Pattern
  pub test : StilFile
  pub above : Text
  pub lines : List Line
  pub net_named : IsNamed n
  pub scan_named : IsNamed scanned
  pub net_is : files.net ≡ canonical n
  pub scan_is : files.scan ≡ canonical scanned
  pub stil_is : files.stil ≡ stil_text test
  pub report_is : files.report ≡ above ++ (flat_map (hold_text n) (zip n.inputs holds) ++ flat_map fault_line lines)
  pub behaves : BehavesWithScanOff n scanned chains
  pub is_test : IsFileOf n holds chains patterns test
  pub passes : Passes scanned None (vectors_in test)
  pub runs : (f : Option Fault) (state : List Bool) → length state ≡ length (cells scanned)
      → (shown : List (List Bool)) × Runs bit_table f scanned state (vectors_in test) shown
  pub once : map (λ (l : Line). l.fault) lines ≡ map (fault_text n) (universe_of n)
  pub comes_true : (place : ℕ) (f : Fault) (line : Line) → slice_get (universe_of n) place ≡ Some f → slice_get lines place ≡ Some line
      → (moved : Fault) × IsSite n scanned f.line moved.line × (moved.value ≡ f.value) × ComesTrue n holds chains scanned patterns (vectors_in test) f moved line.outcome line.pin
