-- Two time frames of a netlist for many slow lines at once: each has its three gates, and all but one of them let their lines pass, so that for
-- each line the netlist is as the two frames in which it alone is slow.
use Rattle.std.specs.Prelude.{ℕ, ◌≡◌, ◌+◌, ◌*◌, ◌<◌, ⊤, false, ◌||◌, cond, List, [], ◌∷◌, ◌++◌, map, length}
use Rattle.std.specs.List.{All}
use Rattle.statement.specs.declared.kinds.Kind.TheVariants.{And, Or, Buff, Const0, Const1}
use Rattle.statement.specs.declared.lines.Line.{Line}
use Rattle.statement.specs.declared.lines.Line.TheVariants.{Stem, Pin, Out}
use Rattle.statement.specs.declared.lines.Fault.{Fault}
use Rattle.statement.specs.Netlists.{Definition, Netlist, is_cell}
use Rattle.netlist.specs.Netlist.{define}
use Rattle.statement.specs.Values.{is_line}
use Rattle.redundancy_cert.specs.declared.nodes.Node.{Node}
use Rattle.redundancy_cert.specs.declared.nodes.Node.TheVariants.{Closed, Open, Split, Forced}
use Rattle.evidence.specs.declared.engine.Found.{Found}
use Rattle.evidence.specs.declared.engine.Found.TheVariants.{Test, Closed as Complete, Refuted, Partial}
use Rattle.net_gen.specs.Samples.{lettered_names}
use Rattle.transition_frames.specs.Frames.{source_of, second, tie}

-- ---- numbers: the gates of the slow line at place j stand behind those of the lines before it

abbrev pub tie_at : Netlist → ℕ → ℕ
tie_at n j = tie n + 3 * j

abbrev pub hold_at : Netlist → ℕ → ℕ
hold_at n j = tie_at n j + 1

abbrev pub late_at : Netlist → ℕ → ℕ
late_at n j = tie_at n j + 2

-- ---- definitions

-- What a line reads in the second frame, where it reads x in the netlist: the late value of the first of these slow lines (which stand from place j
-- on) that is this line or the stem that it reads.
abbrev pub read_late : Netlist → ℕ → List Fault → Line → ℕ → ℕ
read_late n j [] line x = second n x
read_late n j (f ∷ fs) line x = cond (is_line f.line (Stem x) || is_line f.line line) (late_at n j) (read_late n (j + 1) fs line x)

-- the pins of z from place k on
abbrev pub late_pins : Netlist → List Fault → ℕ → ℕ → List ℕ → List ℕ
late_pins n fs z k [] = []
late_pins n fs z k (x ∷ xs) = read_late n 0 fs (Pin z k) x ∷ late_pins n fs z (k + 1) xs

-- a gate in the first frame is what it was, and a cell takes what the second frame gives it
abbrev pub in_first_of : Netlist → List Fault → Definition → Definition
in_first_of n fs d = cond (is_cell d) (define d.id d.kind (late_pins n fs d.id 0 d.pins)) d

-- a gate in the second frame reads it, and a cell holds there what the first frame gives it
abbrev pub in_second_of : Netlist → List Fault → Definition → Definition
in_second_of n fs d = cond (is_cell d) (define (d.id + length n.definitions) Buff d.pins) (define (d.id + length n.definitions) d.kind (late_pins n fs d.id 0 d.pins))

-- the three gates of a slow line
abbrev pub gates_at : Netlist → ℕ → Fault → List Definition
gates_at n j f =
    define (tie_at n j) (cond f.value Const0 Const1) []
    ∷ define (hold_at n j) (cond f.value And Or) (source_of n f.line ∷ tie_at n j ∷ [])
    ∷ define (late_at n j) (cond f.value Or And) (second n (source_of n f.line) ∷ hold_at n j ∷ [])
    ∷ []

abbrev pub all_gates : Netlist → ℕ → List Fault → List Definition
all_gates n j [] = []
all_gates n j (f ∷ fs) = gates_at n j f ++ all_gates n (j + 1) fs

-- The netlist. Its names are n0, n1 and so on (110 is the letter n): nobody reads them.
abbrev pub batch_of : Netlist → List Fault → Netlist
batch_of n fs = record {
  names = lettered_names 110 (tie n + 3 * length fs);
  inputs = n.inputs;
  outputs = map (λ y. read_late n 0 fs (Out y) y) n.outputs;
  definitions = map (in_first_of n fs) n.definitions ++ map (in_second_of n fs) n.definitions ++ all_gates n 0 fs;
}

-- the stuck-at fault that makes the line at place j slow
abbrev pub batch_fault : Netlist → ℕ → Fault → Fault
batch_fault n j f = record { line = Stem (tie_at n j); value = f.value }

-- ---- which slow lines go together, and which answers carry over

-- no line of the netlist reads what is late by both
pub record AreApart (n : Netlist) (f g : Fault) : Type 0 where
  pub lines : is_line f.line g.line ≡ false
  pub first : is_line f.line (Stem (source_of n g.line)) ≡ false
  pub other : is_line g.line (Stem (source_of n f.line)) ≡ false

-- what is decided has a number of the two frames, below those of the gates
abbrev pub DecidesBelow : ℕ → Node → Type 0
DecidesBelow bound Closed = ⊤
DecidesBelow bound Open = ⊤
DecidesBelow bound (Split x) = x < bound
DecidesBelow bound (Forced x b) = x < bound

-- an answer of a batch that carries over: no refutation, since its steps read pins, and readers of the other slow lines have others in a batch
abbrev pub DecidesFrames : Netlist → Found → Type 0
DecidesFrames n (Test cube point) = ⊤
DecidesFrames n (Complete tree) = All (DecidesBelow (tie n)) tree
DecidesFrames n (Refuted steps) = ⊥
DecidesFrames n (Partial tree) = All (DecidesBelow (tie n)) tree
