-- The statement and what goes with it say all that can be said in one piece, of the scanned netlist and its lines by their own numbers. Nothing
-- rests on this: it shows that no conjunct of the statement is too weak, and tools/weaken tries it without each.
use Rattle.std.proofs.Common.{◌≡◌, ℕ, ◌<◌, inl, inr, Bool, true, false, cond, List, [], ◌++◌, length, map, get_or, Option, Some, None, sym, ◌∙◌, ap, subst, codes, length-append, arith}
use Rattle.std.specs.Prelude.{⊤}
use Rattle.std.specs.List.{All, Contains, flat_map, slice_get, zip}
use Rattle.std.proofs.lemmas.Bool.{cases_lt, cases_order}
use Rattle.std.proofs.lemmas.List.{get_or_past}
use Rattle.std.proofs.lemmas.List.Elements.{All-contains}
use Rattle.statement.specs.declared.lines.Fault.{Fault}
use Rattle.statement.specs.declared.lines.Line.{Line as Lead}
use Rattle.statement.specs.declared.lines.Line.TheVariants.{Stem, Pin, Out}
use Rattle.statement.specs.declared.lines.Point.{Point}
use Rattle.statement.specs.Netlists.{Definition, Netlist, cells, is_cell, name_of, signals, IsName}
use Rattle.netlist.specs.Conditions.{IsSound}
use Rattle.netlist.specs.Lines.{IsLineOf}
use Rattle.netlist.proofs.Placed.{definition_below, same_definition, signal_from}
use Rattle.statement.specs.Patterns.{Holds, Obeys, Pattern, IsLastDetected}
use Rattle.statement.specs.Values.{bit_table}
use Rattle.statement.specs.Benches.{Text, canonical}
use Rattle.scan_insert.specs.Names.{pin_name_of}
use Rattle.scan_insert.specs.Scanned.{line_at, scanned_of, sites_of}
use Rattle.statement.specs.Runs.{Cycle, Runs, Passes, FailsAt}
use Rattle.statement.specs.Tests.{IsStrobedAt, vectors_in, IsFileOf}
use Rattle.statement.specs.Stils.{StilFile, stil_text}
use Rattle.statement.specs.Faults.{fault_text, universe_of}
use Rattle.statement.specs.declared.outcomes.Outcome.{Outcome}
use Rattle.statement.specs.declared.outcomes.Outcome.TheVariants.{Detected, Redundant, Aborted, Unasked}
use Rattle.statement.specs.Reports.{Line, fault_line}
use Rattle.report.specs.Reports.{Report}
use Rattle.report.specs.Texts.{hold_line}
use Rattle.run_report.specs.Heads.{holds_named}
use Rattle.statement.specs.Statement.{FiveFiles, BehavesWithScanOff, ComesTrue, IsNamed, IsSite, Statement, pins_name}
use Rattle.good_files.proofs.Truth.{held_lines}

-- ---- a line is told by its name

same_signal : (m : Netlist) → IsNamed m → (x y : ℕ) → x < length m.names → y < length m.names → name_of m x ≡ name_of m y → x ≡ y
same_signal m named x y v w e = elim (cases_order x y) [
  | inl same ↦ same
  | inr r ↦ elim r [
    | inl l ↦ absurd (named.distinct x y [] l w e)
    | inr g ↦ absurd (named.distinct y x [] g v (sym e))
  ]
]

-- what has a name stands among the names
within : (xs : List (List ℕ)) (y : ℕ) (w : List ℕ) → get_or xs y [] ≡ w → 0 < length w → y < length xs
within xs y w e some = elim (cases_lt y (length xs)) [
  | inl lt ↦ lt
  | inr ge ↦ (let none = ap length (sym (get_or_past xs y [] ge) ∙ e) in absurd (omega (arith, none)))
]

one_signal : (m : Netlist) → IsNamed m → (y z : ℕ) (w : List ℕ) → 0 < length w → name_of m y ≡ w → name_of m z ≡ w → y ≡ z
one_signal m named y z w some p q = same_signal m named y z (within m.names y w p some) (within m.names z w q some) (p ∙ sym q)

-- ---- a line of the netlist stands at one place of the scanned one

module _ (n m : Netlist) (sound : IsSound n) (named : IsNamed m) where
  some : (x : ℕ) → Contains (signals n) x → 0 < length (name_of n x)
  some x here =
      let is : IsName (name_of n x) = sound.formed.names x [] (sound.formed.named x here) in
      is.some

  longer : (prefix name : List ℕ) → 0 < length name → 0 < length (prefix ++ name)
  longer prefix name lt = let l = length-append prefix name in omega (arith, l, lt)

  pins_some : (d : Definition) → Contains n.definitions d → 0 < length (pins_name n d)
  pins_some d here =
      let name = some d.id (signal_from n sound.formed.numbered d.id (definition_below n sound.formed.numbered d here)) in
      let step : (b : Bool) → 0 < length (cond b (codes "SC__a_" ++ name_of n d.id) (name_of n d.id)) =
      elim [ true ↦ longer (codes "SC__a_") (name_of n d.id) name | false ↦ name ] in
      step (is_cell d)

  one_site : (l : Lead) → IsLineOf n l → (k j : Lead) → IsSite n m l k → IsSite n m l j → k ≡ j
  one_site (Stem x) here (Stem y) (Stem z) p q = ap Stem (one_signal m named y z (name_of n x) (some x here) p q)
  one_site (Stem x) here (Stem y) (Pin z i) p q = absurd q
  one_site (Stem x) here (Stem y) (Out z) p q = absurd q
  one_site (Stem x) here (Pin y i) j p q = absurd p
  one_site (Stem x) here (Out y) j p q = absurd p
  one_site (Pin x k) here (Pin y i) (Pin z j) p q =
      let same : p.0 ≡ q.0 = same_definition n sound.formed.numbered p.0 q.0 p.1 q.1 (p.2 ∙ sym q.2) in
      let one : y ≡ z = one_signal m named y z (pins_name n p.0) (pins_some p.0 p.1) p.3 (q.3 ∙ ap (pins_name n) (sym same)) in
      let place : i ≡ j = p.4 ∙ sym q.4 in
      λ t. Pin (one t) (place t)
  one_site (Pin x k) here (Pin y i) (Stem z) p q = absurd q
  one_site (Pin x k) here (Pin y i) (Out z) p q = absurd q
  one_site (Pin x k) here (Stem y) j p q = absurd p
  one_site (Pin x k) here (Out y) j p q = absurd p
  one_site (Out x) here (Out y) (Out z) p q =
      ap Out (one_signal m named y z (name_of n x) (some x (All-contains (Contains (signals n)) n.outputs x sound.closed.outputs here)) p q)
  one_site (Out x) here (Out y) (Stem z) p q = absurd q
  one_site (Out x) here (Out y) (Pin z i) p q = absurd q
  one_site (Out x) here (Stem y) j p q = absurd p
  one_site (Out x) here (Pin y i) j p q = absurd p

-- ---- the theorem in one piece

-- a fault by its own number in the scanned netlist
abbrev moved : Netlist → List (List ℕ) → Fault → Fault
moved n chains f = record { line = line_at (sites_of n chains) f.line; value = f.value }

module _ (n : Netlist) (holds : Holds) (chains : List (List ℕ)) (patterns : List Pattern) (cycles : List Cycle) where
  -- what comes true of a fault, case by case
  abbrev Tells : Fault → Outcome → List ℕ → Type 0
  Tells f (Detected place cycle) pin =
      (point : Point) × (output : ℕ) × IsLastDetected n patterns f place point × IsStrobedAt n chains place point cycle output
      × (pin ≡ pin_name_of (scanned_of n chains) output) × FailsAt (scanned_of n chains) (Some (moved n chains f)) cycles cycle output
  Tells f Redundant pin =
      (state : List Bool) (driven : List Cycle) (good faulty : List (List Bool)) → All (λ (cycle : Cycle). Obeys holds cycle.drive) driven
      → Runs bit_table None (scanned_of n chains) state driven good → Runs bit_table (Some (moved n chains f)) (scanned_of n chains) state driven faulty → good ≡ faulty
  Tells f Aborted pin = Passes (scanned_of n chains) (Some (moved n chains f)) cycles
  Tells f Unasked pin = ⊤

  tells : (f : Fault) (o : Outcome) (pin : List ℕ) → ComesTrue n holds chains (scanned_of n chains) patterns cycles f (moved n chains f) o pin → Tells f o pin
  tells f (Detected place cycle) pin is = is
  tells f Redundant pin is = is
  tells f Aborted pin is = is
  tells f Unasked pin is = is

-- What the statement says, of the scanned netlist itself, a given test and given lines, and of each fault at its own site.
pub record IsWhole (n : Netlist) (holds : Holds) (chains : List (List ℕ)) (files : FiveFiles) (file : StilFile) (said : Report) : Type 0 where
  patterns : List Pattern
  above : Text
  net_is : files.net ≡ canonical n
  scan_is : files.scan ≡ canonical (scanned_of n chains)
  stil_is : files.stil ≡ stil_text file
  report_is : files.report ≡ above ++ (flat_map hold_line (holds_named n holds) ++ flat_map fault_line said.lines)
  names : IsNamed n
  behaves : BehavesWithScanOff n (scanned_of n chains) chains
  is_file_of : IsFileOf n holds chains patterns file
  passes : Passes (scanned_of n chains) None (vectors_in file)
  runs : (f : Option Fault) (state : List Bool) → length state ≡ length (cells (scanned_of n chains))
      → (shown : List (List Bool)) × Runs bit_table f (scanned_of n chains) state (vectors_in file) shown
  once : map (λ (l : Line). l.fault) said.lines ≡ map (fault_text n) (universe_of n)
  comes_true : (place : ℕ) (f : Fault) (line : Line) → IsLineOf n f.line → slice_get (universe_of n) place ≡ Some f → slice_get said.lines place ≡ Some line
      → Tells n holds chains patterns (vectors_in file) f line.outcome line.pin

-- of the scanned netlist, the test and the lines by their own names
whole_of : (n : Netlist) (holds : Holds) (chains : List (List ℕ)) (files : FiveFiles) (file : StilFile) (said : Report)
    → IsSound n → ((l : Lead) → IsLineOf n l → IsSite n (scanned_of n chains) l (line_at (sites_of n chains) l))
    → (s : Statement n holds chains files) → s.scanned ≡ scanned_of n chains → s.test ≡ file → s.lines ≡ said.lines → IsWhole n holds chains files file said
whole_of n holds chains files file said sound sites s scan test lines = record {
  patterns = s.patterns;
  above = s.above;
  net_is = s.net_is;
  scan_is = s.scan_is ∙ ap canonical scan;
  stil_is = s.stil_is ∙ ap stil_text test;
  report_is = s.report_is ∙ ap (λ hs. s.above ++ (hs ++ flat_map fault_line s.lines)) (sym (held_lines n (zip n.inputs holds)))
      ∙ ap (λ (ls : List Line). s.above ++ (flat_map hold_line (holds_named n holds) ++ flat_map fault_line ls)) lines;
  names = s.net_named;
  behaves = subst (λ m. BehavesWithScanOff n m chains) scan s.behaves;
  is_file_of = subst (IsFileOf n holds chains s.patterns) test s.is_test;
  passes = subst (λ m. Passes m None (vectors_in file)) scan (subst (λ t. Passes s.scanned None (vectors_in t)) test s.passes);
  runs = λ f state size.
      subst (λ m. (shown : List (List Bool)) × Runs bit_table f m state (vectors_in file) shown) scan
      (subst (λ t. (shown : List (List Bool)) × Runs bit_table f s.scanned state (vectors_in t) shown) test
      (s.runs f state (size ∙ ap (λ m. length (cells m)) (sym scan))));
  once = ap (map (λ (l : Line). l.fault)) (sym lines) ∙ s.once;
  comes_true = λ place f line here at said_so.
      let w = s.comes_true place f line at (ap (λ ls. slice_get ls place) lines ∙ said_so) in
      let m = scanned_of n chains in
      let named : IsNamed m = subst IsNamed scan s.scan_named in
      let site : IsSite n m f.line w.0.line = subst (λ k. IsSite n k f.line w.0.line) scan w.1 in
      let there = one_site n m sound named f.line here w.0.line (line_at (sites_of n chains) f.line) site (sites f.line here) in
      let same : w.0 ≡ moved n chains f = λ i. record { line = there i; value = w.2 i } in
      tells n holds chains s.patterns (vectors_in file) f line.outcome line.pin
      (subst (λ g. ComesTrue n holds chains m s.patterns (vectors_in file) f g line.outcome line.pin) same
      (subst (λ t. ComesTrue n holds chains m s.patterns (vectors_in t) f w.0 line.outcome line.pin) test
      (subst (λ k. ComesTrue n holds chains k s.patterns (vectors_in s.test) f w.0 line.outcome line.pin) scan w.3)));
}
