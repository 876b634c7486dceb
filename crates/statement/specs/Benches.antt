-- Texts, and the one .bench text that is written of a netlist.
use Rattle.std.specs.Prelude.{ℕ, List, codes, [], slice_get, unwrap_or, ◌++◌, ◌∷◌, map}
use Rattle.std.specs.List.{flat_map}
use Rattle.statement.specs.declared.kinds.Kind.{Kind}
use Rattle.statement.specs.declared.kinds.Kind.TheVariants.{And, Nand, Or, Nor, Xor, Xnor, Not, Buff, Dff, Const0, Const1}
use Rattle.statement.specs.Netlists.{Netlist, Definition}

-- a text, as its bytes
abbrev pub Text : Type 0
Text = List ℕ

-- the word that is written for a gate
abbrev pub word : Kind → List ℕ
word And = codes "AND"
word Nand = codes "NAND"
word Or = codes "OR"
word Nor = codes "NOR"
word Xor = codes "XOR"
word Xnor = codes "XNOR"
word Not = codes "NOT"
word Buff = codes "BUFF"
word Dff = codes "DFF"
word Const0 = codes "CONST0"
word Const1 = codes "CONST1"

abbrev pub name_at : List (List ℕ) → ℕ → List ℕ
name_at names n = unwrap_or (slice_get names n) []

-- `keyword(x)`
unfoldable pub port_line : List ℕ → List ℕ → List ℕ
port_line keyword x = keyword ++ codes "(" ++ x ++ codes ")"

-- the pins, parted by commas
abbrev pub pin_list : List (List ℕ) → List ℕ
pin_list [] = []
pin_list (x ∷ xs) = x ++ flat_map (λ y. codes ", " ++ y) xs

-- `z = KIND(a, b)`
unfoldable pub definition_line : List ℕ → Kind → List (List ℕ) → List ℕ
definition_line z kind pins = z ++ codes " = " ++ word kind ++ codes "(" ++ pin_list pins ++ codes ")"

-- the lines of inputs, outputs and definitions, each in the netlist's order
abbrev pub canonical_lines : Netlist → List (List ℕ)
canonical_lines n =
    map (λ x. port_line (codes "INPUT") (name_at n.names x)) n.inputs ++ map (λ x. port_line (codes "OUTPUT") (name_at n.names x)) n.outputs
    ++ map (λ (d : Definition). definition_line (name_at n.names d.id) d.kind (map (name_at n.names) d.pins)) n.definitions

-- each line, ended by LF
abbrev pub canonical : Netlist → List ℕ
canonical n = flat_map (λ l. l ++ 10 ∷ []) (canonical_lines n)
