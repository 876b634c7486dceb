-- Orders of a netlist's cells, as text: a line for each chain, the names of its cells from scan input to scan output.
use Rattle.std.specs.Prelude.{ℕ, ◌≡◌, ◌≢◌, ◌≤◌, ◌<◌, ◌==◌, ◌||◌, ◌&&◌, ◌+◌, ◌++◌, ◌∷◌, ⊤, Bool, true, false, List, [], length, map, nat_eq, nat_lt}
use Rattle.std.specs.List.{All, AllPairs, Contains, ends_with, flat_map, list_all, slice_split}
use Rattle.plain_text.specs.Limits.{most_chains}
use Rattle.statement.specs.Netlists.{Netlist, is_name_byte, name_of}
use Rattle.statement.specs.Benches.{Text}
use Rattle.bench_text.specs.Bytes.{lines}
use Rattle.scan_insert.specs.Chains.{lengths_of}
use Rattle.scan_insert.specs.Scanned.{cell_ids}
use Rattle.cell_order.specs.declared.refusal.OrderRefusal.{OrderRefusal}
use Rattle.cell_order.specs.declared.refusal.OrderRefusal.TheVariants.{NotOrder, NotCell, Twice, LeftOut, TooMany, Uneven}
use Rattle.cell_order.specs.declared.refusal.OrderFault.{OrderFault}
use Rattle.cell_order.specs.declared.refusal.OrderFault.TheVariants.{Refused, NoMemory}

-- ---- the grammar

-- the bytes of names, at least one
abbrev pub is_word : Text → Bool
is_word word = nat_lt 0 (length word) && list_all is_name_byte word

-- what stands between the blanks (32) of a line
abbrev pub words_of : Text → List Text
words_of line = slice_split (λ b. b == 32) line

-- Each line is ended by LF, and is words parted by one blank.
abbrev pub is_order_text : Text → Bool
is_order_text text = (length text == 0 || ends_with nat_eq text (10 ∷ [])) && list_all (λ line. list_all is_word (words_of line)) (lines text)

-- the names of each chain
abbrev pub chains_in : Text → List (List Text)
chains_in text = map words_of (lines text)

-- the names of all chains, one chain behind the other
abbrev pub names_in : Text → List Text
names_in text = flat_map words_of (lines text)

-- ---- orders

-- cells of these names
pub record AreCells (n : Netlist) (names : List Text) (order : List ℕ) : Type 0 where
  pub named : map (name_of n) order ≡ names
  pub cells : All (Contains (cell_ids n)) order

-- The names are those of all cells, each once, in this order.
pub record AreAllCells (n : Netlist) (names : List Text) (order : List ℕ) : Type 0 where
  pub are : AreCells n names order
  pub once : AllPairs (λ x y. x ≢ y) order
  pub all : All (Contains order) (cell_ids n)

-- so many chains, of which none has two cells more than another, the longer ones first
abbrev pub AreEven : Text → List ℕ → Type 0
AreEven text order = map length (chains_in text) ≡ lengths_of (length order) (length (chains_in text))

-- The text is an order of the netlist's cells, in so many chains.
pub record IsOrder (n : Netlist) (text : Text) (order : List ℕ) (chains : ℕ) : Type 0 where
  pub form : is_order_text text ≡ true
  pub are : AreAllCells n (names_in text) order
  pub few : length (chains_in text) ≤ most_chains
  pub even : AreEven text order
  pub count : chains ≡ length (chains_in text)

-- ---- refusals; names and cells are counted from 1

-- the first of the names that is no cell's has this number
pub record IsStranger (n : Netlist) (names : List Text) (number : ℕ) : Type 0 where
  pub before : List Text
  pub name : Text
  pub behind : List Text
  pub order : List ℕ
  pub names_are : names ≡ before ++ name ∷ behind
  pub are : AreCells n before order
  pub stranger : All (λ x. name_of n x ≢ name) (cell_ids n)
  pub number_is : number ≡ length before + 1

-- the first of the cells that stands for the second time has this number
pub record IsTwice (order : List ℕ) (number : ℕ) : Type 0 where
  pub before : List ℕ
  pub cell : ℕ
  pub behind : List ℕ
  pub order_is : order ≡ before ++ cell ∷ behind
  pub once : AllPairs (λ x y. x ≢ y) before
  pub twice : Contains before cell
  pub number_is : number ≡ length before + 1

-- the netlist's first cell that has no place has this number among its cells
pub record IsLeftOut (n : Netlist) (order : List ℕ) (number : ℕ) : Type 0 where
  pub before : List ℕ
  pub cell : ℕ
  pub behind : List ℕ
  pub cells_are : cell_ids n ≡ before ++ cell ∷ behind
  pub placed : All (Contains order) before
  pub left : ¬ Contains order cell
  pub number_is : number ≡ length before + 1

-- Why these are not the names of all cells, each once: a name that is no cell's first, then a cell that stands twice, then one that is left out.
abbrev pub AreRefused : Netlist → List Text → OrderRefusal → Type 0
AreRefused n names (NotCell number) = IsStranger n names number
AreRefused n names (Twice number) = (order : List ℕ) × AreCells n names order × IsTwice order number
AreRefused n names (LeftOut number) = (order : List ℕ) × AreCells n names order × AllPairs (λ x y. x ≢ y) order × IsLeftOut n order number
AreRefused n names _ = ⊥

-- Why a text is no order: its form first, then its names, then how many chains there are, and how long they are.
abbrev pub IsRefused : Netlist → Text → OrderRefusal → Type 0
IsRefused n text NotOrder = is_order_text text ≡ false
IsRefused n text TooMany = (is_order_text text ≡ true) × (order : List ℕ) × AreAllCells n (names_in text) order × (most_chains < length (chains_in text))
IsRefused n text Uneven =
    (is_order_text text ≡ true) × (order : List ℕ) × AreAllCells n (names_in text) order × (length (chains_in text) ≤ most_chains) × ¬ AreEven text order
IsRefused n text r = (is_order_text text ≡ true) × AreRefused n (names_in text) r

-- the same, where memory may be refused
abbrev pub IsRefusedBy : (OrderRefusal → Type 0) → OrderFault → Type 0
IsRefusedBy IsFor (Refused r) = IsFor r
IsRefusedBy IsFor NoMemory = ⊤
