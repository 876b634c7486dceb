-- Netlists: equations over signals, with names beside. A signal is a number: inputs and then definitions are 0, 1, 2 and so on.
use Rattle.std.specs.Prelude.{ℕ, List, Bool, true, false, not, ◌++◌, map, [], slice_index_or, ◌==◌, ◌&&◌, ◌||◌, nat_le, ◌<◌, ◌≤◌, length, IsTrue, ◌+◌, cond, ◌∷◌}
use Rattle.std.specs.List.{filter, All, flat_map}
use Rattle.statement.specs.declared.kinds.Kind.{Kind}
use Rattle.statement.specs.declared.kinds.Kind.TheVariants.{Dff}
use Rattle.statement.specs.declared.lines.Line.{Line}
use Rattle.statement.specs.declared.lines.Line.TheVariants.{Pin, Out}

-- `id = KIND(pins)`
pub record Definition : Type 0 where
  pub id : ℕ
  pub kind : Kind
  pub pins : List ℕ

pub record Netlist : Type 0 where
  pub names : List (List ℕ)
  pub inputs : List ℕ
  pub outputs : List ℕ
  pub definitions : List Definition

abbrev pub is_flip_flop : Kind → Bool
is_flip_flop Dff = true
is_flip_flop _ = false

abbrev pub is_cell : Definition → Bool
is_cell d = is_flip_flop d.kind

-- the cells (flip-flops) and the gates of a netlist, in its order
abbrev pub cells : Netlist → List Definition
cells n = filter is_cell n.definitions

abbrev pub gates : Netlist → List Definition
gates n = filter (λ (d : Definition). not (is_cell d)) n.definitions

-- every signal has a place: inputs, then definitions
abbrev pub signals : Netlist → List ℕ
signals n = n.inputs ++ map (λ (d : Definition). d.id) n.definitions

abbrev pub name_of : Netlist → ℕ → List ℕ
name_of n x = slice_index_or n.names x []

-- printable ASCII but blank, quotes and # ( ) , =
abbrev pub is_name_byte : ℕ → Bool
is_name_byte b = nat_le 33 b && nat_le b 126 && not (b == 34 || b == 39 || b == 35 || b == 40 || b == 41 || b == 44 || b == 61)

pub record IsName (name : List ℕ) : Type 0 where
  pub some : 0 < length name
  pub short : length name ≤ 261
  pub bytes : All (λ b. IsTrue (is_name_byte b)) name

-- the pins of z from place k on that read x
abbrev pub pins_reading : ℕ → ℕ → ℕ → List ℕ → List Line
pins_reading x z k [] = []
pins_reading x z k (y ∷ ys) = cond (y == x) (Pin z k ∷ pins_reading x z (k + 1) ys) (pins_reading x z (k + 1) ys)

-- pins of gates and cells in order of definition and place, then the output
abbrev pub readers_of : Netlist → ℕ → List Line
readers_of n x = flat_map (λ (d : Definition). pins_reading x d.id 0 d.pins) n.definitions ++ map (λ y. Out y) (filter (λ y. y == x) n.outputs)
