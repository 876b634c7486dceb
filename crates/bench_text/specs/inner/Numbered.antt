-- Statements in which each name stands by its number.
use Rattle.std.specs.Prelude.{ℕ, ◌≡◌, ◌++◌, Bool, true, false, List, [], ◌∷◌, length, map, fold, nat_lt, nat_eq, if◌then◌else◌, Option, Some, None, slice_get}
use Rattle.std.specs.List.{flat_map, list_all, list_any}
use Rattle.bench_text.specs.declared.numbered.Role.{Role}
use Rattle.bench_text.specs.declared.numbered.Role.TheVariants as role
use Rattle.bench_text.specs.declared.numbered.Numbered.{Numbered}
use Rattle.bench_text.specs.declared.numbered.Numbered.TheVariants as numbered
use Rattle.bench_text.specs.declared.numbered.Entry.{Entry}
use Rattle.bench_text.specs.Forms.{Statement, Nothing, Input, Output, Definition}
use Rattle.bench_text.specs.Said.{Said}
use Rattle.statement.specs.Benches.{name_at}
use Rattle.bench_text.specs.inner.NewNames.{AreDistinct}

-- what a numbered statement says
abbrev pub spelling_of : List (List ℕ) → Numbered → Statement
spelling_of names (numbered.Input n) = Input (name_at names n)
spelling_of names (numbered.Output n) = Output (name_at names n)
spelling_of names (numbered.Definition n kind pins) = Definition (name_at names n) (Some kind) (map (name_at names) pins.items)

abbrev pub spelling_if_any : List (List ℕ) → Option Numbered → Statement
spelling_if_any names None = Nothing
spelling_if_any names (Some s) = spelling_of names s

abbrev pub spelling_of_entry : List (List ℕ) → Entry → Said
spelling_of_entry names e = record { line = e.line; statement = spelling_of names e.statement }

abbrev pub input_number : Numbered → List ℕ
input_number (numbered.Input n) = n ∷ []
input_number _ = []

abbrev pub definition_number : Numbered → List ℕ
definition_number (numbered.Definition n kind pins) = n ∷ []
definition_number _ = []

abbrev pub output_number : Numbered → List ℕ
output_number (numbered.Output n) = n ∷ []
output_number _ = []

-- the numbers of inputs, of definitions and of outputs, in file order
abbrev pub input_numbers : List Entry → List ℕ
input_numbers es = flat_map (λ (e : Entry). input_number e.statement) es

abbrev pub definition_numbers : List Entry → List ℕ
definition_numbers es = flat_map (λ (e : Entry). definition_number e.statement) es

abbrev pub output_numbers : List Entry → List ℕ
output_numbers es = flat_map (λ (e : Entry). output_number e.statement) es

-- the numbers on a line
abbrev pub numbers : Numbered → List ℕ
numbers (numbered.Input n) = n ∷ []
numbers (numbered.Output n) = n ∷ []
numbers (numbered.Definition n kind pins) = n ∷ pins.items

abbrev pub are_below : ℕ → Numbered → Bool
are_below count s = list_all (λ n. nat_lt n count) (numbers s)

-- whether it is the definition of this name
abbrev pub defines_number : ℕ → Numbered → Bool
defines_number name (numbered.Definition n kind pins) = nat_eq n name
defines_number name _ = false

-- numbers, with one more unless it is there
abbrev pub with_number : List ℕ → ℕ → List ℕ
with_number ns n = if list_any (nat_eq n) ns then ns else ns ++ n ∷ []

-- the roles with that of a name, which is a new one where it has the next number
abbrev pub with_role : List Role → ℕ → List Role
with_role roles n = if nat_eq n (length roles) then roles ++ role.Read ∷ [] else roles

-- What is kept of the lines so far: their names, the role of each, their statements, and the numbers of inputs, definitions and outputs.
pub record IsDraft (names : List (List ℕ)) (roles : List Role) (entries : List Entry) (ins defs outs : List ℕ) : Type 0 where
  pub distinct : AreDistinct names
  pub paired : length roles ≡ length names
  pub below : list_all (λ (e : Entry). are_below (length names) e.statement) entries ≡ true
  pub inputs : ins ≡ input_numbers entries
  pub definitions : defs ≡ definition_numbers entries
  pub outputs : outs ≡ fold with_number [] (output_numbers entries)
  pub input : (k n : ℕ) → slice_get ins k ≡ Some n → slice_get roles n ≡ Some (role.Input k)
  pub definition : (k n : ℕ) → slice_get defs k ≡ Some n → slice_get roles n ≡ Some (role.Definition k)
  pub as_input : (n k : ℕ) → slice_get roles n ≡ Some (role.Input k) → slice_get ins k ≡ Some n
  pub as_definition : (n k : ℕ) → slice_get roles n ≡ Some (role.Definition k) → slice_get defs k ≡ Some n
