-- The test of patterns: a flush of the chains, then each pattern loaded, captured and unloaded; as vectors and as a STIL file.
use Rattle.std.specs.Prelude.{ℕ, List, max, [], ◌∷◌, length, ◌≡◌, slice_get, Some, take, drop, ◌-◌, Bool, false, ◌++◌, replicate, reverse, map, slice_index_or, Option, None, ◌%◌, nat_le, ◌+◌, ◌*◌, true, codes, not, ◌==◌, if◌then◌else◌, zero, suc, slice_index}
use Rattle.std.specs.List.{flat_map, AllZip, zip}
use Rattle.statement.specs.declared.kinds.Tri.{Tri}
use Rattle.statement.specs.declared.kinds.Tri.TheVariants.{X, Zero, One}
use Rattle.statement.specs.declared.lines.Fault.{Fault}
use Rattle.statement.specs.declared.lines.Point.{Point}
use Rattle.statement.specs.declared.lines.Point.TheVariants.{Output, Cell}
use Rattle.statement.specs.Netlists.{Netlist, Definition, cells, name_of}
use Rattle.statement.specs.Values.{Settles, bits, outs, next, known}
use Rattle.statement.specs.Patterns.{Pattern, Holds}
use Rattle.statement.specs.Benches.{Text}
use Rattle.statement.specs.Runs.{numbers_from, output_name, Cycle}
use Rattle.statement.specs.Stils.{Call, Item, where_chained, Vector, StilFile, clock}

-- the cells of all chains, one chain behind the other
abbrev pub cells_of : List (List ℕ) → List ℕ
cells_of chains = flat_map (λ chain. chain) chains

abbrev pub longest_of : List (List ℕ) → ℕ
longest_of [] = 0
longest_of (chain ∷ chains) = max (length chain) (longest_of chains)

-- the cell stands in this chain at this place, which counts from 0 at the scan input
pub record IsAt (chains : List (List ℕ)) (cell chain place : ℕ) : Type 0 where
  pub chain_cells : List ℕ
  pub has_chain : slice_get chains chain ≡ Some chain_cells
  pub has_cell : slice_get chain_cells place ≡ Some cell

-- what stands at the cells of each chain, of a list with one element for each cell
abbrev pub by_chain : {V : Type 0} → List (List ℕ) → List V → List (List V)
by_chain [] vs = []
by_chain (chain ∷ chains) vs = take (length chain) vs ∷ by_chain chains (drop (length chain) vs)

-- The word of m characters that brings these bits to a chain's cells: 0s first where the chain is shorter, and then the last cell's bit first.
abbrev pub word_in : ℕ → List Bool → List Bool
word_in m bits = replicate (m - length bits) false ++ reverse bits

-- The word of m characters that comes out of a chain whose cells hold this, the last cell's first; then nothing is strobed.
abbrev pub word_out : ℕ → List Tri → List Tri
word_out m held = reverse held ++ replicate (m - length held) X

-- character t of each word
abbrev pub column : {V : Type 0} → V → List (List V) → ℕ → List V
column blank words t = map (λ word. slice_index_or word t blank) words

-- what the functional inputs have while the chains shift: a held input its bit, and each other one 0
abbrev pub held_or_zero : Option Bool → Bool
held_or_zero None = false
held_or_zero (Some b) = b

-- what the outputs show under a pattern, and what the cells capture
pub record Response : Type 0 where
  pub outputs : List Bool
  pub cells : List Bool

pub record Responds (n : Netlist) (f : Option Fault) (p : Pattern) (r : Response) : Type 0 where
  pub values : ℕ → Bool
  pub settles : Settles (bits f) n p.inputs p.cells values
  pub outputs : r.outputs ≡ outs (bits f) n values
  pub cells : r.cells ≡ next (bits f) n values

-- The usual sequence 0011, shifted through each chain: the bits that the cells then hold.
abbrev pub flush : List (List ℕ) → List Bool
flush chains = flat_map (λ chain. map (λ k. nat_le 2 ((length chain - 1 - k) % 4)) (numbers_from 0 (length chain))) chains

-- where a cell's captured bit is strobed: three loads come before, p + 1 loads each with a capture, and the shifts that bring it to the scan output
pub record IsUnloadedAt (n : Netlist) (chains : List (List ℕ)) (p q c o : ℕ) : Type 0 where
  pub cell : ℕ
  pub is_cell : slice_get (map (λ (d : Definition). d.id) (cells n)) q ≡ Some cell
  pub chain : ℕ
  pub place : ℕ
  pub is_at : IsAt chains cell chain place
  pub cycle_is : c ≡ 3 * longest_of chains + (p + 1) * (longest_of chains + 1) + (length is_at.chain_cells - 1 - place)
  pub output_is : o ≡ length n.outputs + chain

-- the cycle and the output at which a point is strobed for pattern p
abbrev pub IsStrobedAt : Netlist → List (List ℕ) → ℕ → Point → ℕ → ℕ → Type 0
IsStrobedAt n chains p (Output k) c o = (c ≡ 3 * longest_of chains + p * (longest_of chains + 1) + longest_of chains) × (o ≡ k)
IsStrobedAt n chains p (Cell q) c o = IsUnloadedAt n chains p q c o

abbrev pub char_of_bit : Bool → ℕ
char_of_bit false = 48
char_of_bit true = 49

abbrev pub char_of_value : Tri → ℕ
char_of_value Zero = 76
char_of_value One = 72
char_of_value X = 88

-- a load brings these bits to the cells, and strobes what they should hold before; without chains there is none
abbrev pub load_items : List (List ℕ) → List Bool → List Tri → List Item
load_items chains bits held =
    where_chained (length chains) (Call (map (map char_of_bit) (map (word_in (longest_of chains)) (by_chain chains bits))
    ++ map (map char_of_value) (map (word_out (longest_of chains)) (by_chain chains held))))

-- a capture: scan enable 0, scan inputs 0, a pulse where there is a clock, and the scan outputs not strobed
abbrev pub capture_item : List (List ℕ) → Pattern → Response → Item
capture_item chains p r =
    Vector (map char_of_bit (p.inputs ++ where_chained (length chains) false) ∷ (replicate (length chains) (codes "0") ++ (where_chained (length chains) (codes "P")
    ++ (map char_of_value (map known r.outputs) ∷ replicate (length chains) (codes "X")))))

abbrev pub applied_items : List (List ℕ) → List Tri → List (Pattern × Response) → List Item
applied_items chains held [] = load_items chains (replicate (length (cells_of chains)) false) held
applied_items chains held (test ∷ tests) = load_items chains test.0.cells held ++ capture_item chains test.0 test.1 ∷ applied_items chains (map known test.1.cells) tests

abbrev pub test_items : List (List ℕ) → List (Pattern × Response) → List Item
test_items chains tests =
    let nothing = replicate (length (cells_of chains)) X in
    load_items chains (flush chains) nothing ++ load_items chains (map not (flush chains)) (map known (flush chains))
    ++ load_items chains (replicate (length (cells_of chains)) false) (map known (map not (flush chains)))
    ++ applied_items chains nothing tests

-- the word of a shift: the bits of held inputs, 0 for others, and scan enable 1
abbrev pub shift_word_of : Holds → List (List ℕ) → Text
shift_word_of holds [] = []
shift_word_of holds (chain ∷ chains) = map char_of_bit (map held_or_zero holds ++ true ∷ [])

-- A file of items whose signals, chains and idle inputs are a netlist's.
abbrev pub file_with : Netlist → Holds → List (List ℕ) → List Item → StilFile
file_with n holds chains items = record {
  pi = map (name_of n) n.inputs ++ where_chained (length chains) (codes "SC__se");
  po = map (output_name n) n.outputs;
  chains = map (map (name_of n)) chains;
  shift_word = shift_word_of holds chains;
  items = items;
}

-- 0 and 1 drive
abbrev pub driven_bit : ℕ → Bool
driven_bit b = b == 49

-- H and L strobe high and low, and X nothing
abbrev pub strobed_value : ℕ → Tri
strobed_value b = if b == 72 then One else (if b == 76 then Zero else X)

-- Cycle t of a call: the inputs have the word of a shift, and each scan input and scan output character t of its word.
abbrev pub call_cycle : StilFile → List Text → ℕ → Cycle
call_cycle f words t = record {
  drive = map driven_bit f.shift_word ++ column false (map (map driven_bit) (take (length f.chains) words)) t;
  strobe = replicate (length f.po) X ++ column X (map (map strobed_value) (drop (length f.chains) words)) t;
  pulse = true;
}

-- the clock has a pulse: P stands for one
abbrev pub has_pulse : ℕ → List Text → Bool
has_pulse zero words = false
has_pulse (suc n) words = slice_index (slice_index_or words (suc (suc n)) []) 0 == 80

abbrev pub vector_cycle : StilFile → List Text → Cycle
vector_cycle f words = record {
  drive = map driven_bit (flat_map (λ word. word) (take (length f.chains + 1) words));
  strobe = map strobed_value (flat_map (λ word. word) (drop (length f.chains + 1 + length (clock f)) words));
  pulse = has_pulse (length f.chains) words;
}

-- a call shifts once for each character of its first word
abbrev pub cycles_of_item : StilFile → Item → List Cycle
cycles_of_item f (Call words) = map (call_cycle f words) (numbers_from 0 (length (slice_index_or words 0 [])))
cycles_of_item f (Vector words) = vector_cycle f words ∷ []

abbrev pub vectors_in : StilFile → List Cycle
vectors_in f = flat_map (cycles_of_item f) f.items

pub record IsFileOf (n : Netlist) (holds : Holds) (chains : List (List ℕ)) (patterns : List Pattern) (f : StilFile) : Type 0 where
  pub held : length holds ≡ length n.inputs
  pub responses : List Response
  pub respond : AllZip (Responds n None) patterns responses
  pub is : f ≡ file_with n holds chains (test_items chains (zip patterns responses))
