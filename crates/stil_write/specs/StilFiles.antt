-- A STIL file of the project's profile as a value. (IEEE 1450-1999: Signals, ScanStructures, Procedures, Pattern.)
use Rattle.std.specs.Prelude.{ℕ, ◌≡◌, ◌≢◌, ◌≤◌, ◌&&◌, ◌||◌, ◌==◌, not, nat_le, Bool, zero, suc, List, [], ◌∷◌, ◌++◌, length, IsTrue, slice_index_or, replicate}
use Rattle.std.specs.List.{All, AllZip, AllPairs}
use Rattle.statement.specs.Stils.{Item, StilFile, scan_inputs, scan_outputs, where_chained, clock, Call, Vector}
use Rattle.statement.specs.Benches.{Text}
use Rattle.stil_write.specs.declared.items.ItemKind.{ItemKind}
use Rattle.stil_write.specs.declared.items.ItemKind.TheVariants as kind
use Rattle.stil_write.specs.declared.forms.CharKind.{CharKind}
use Rattle.stil_write.specs.declared.forms.CharKind.TheVariants as values
use Rattle.stil_write.specs.declared.forms.Form.{Form}

abbrev pub item_of : ItemKind → List Text → Item
item_of kind.Call words = Call words
item_of kind.Vector words = Vector words

abbrev pub item_kind : Item → ItemKind
item_kind (Call words) = kind.Call
item_kind (Vector words) = kind.Vector

abbrev pub words_of : Item → List Text
words_of (Call words) = words
words_of (Vector words) = words

-- the item at a place
abbrev pub item_at : List Item → ℕ → Item
item_at items i = slice_index_or items i (Vector [])

-- all signals, in the order in which they are declared
abbrev pub declared_signals : StilFile → List Text
declared_signals f = f.pi ++ (scan_inputs f ++ (clock f ++ (f.po ++ scan_outputs f)))

-- ---- words of items

-- 0 and 1; for the clock 0, and P for a pulse; H, L, and X for what is not compared
abbrev pub is_value : CharKind → ℕ → Bool
is_value values.Bits b = b == 48 || b == 49
is_value values.Pulses b = b == 48 || b == 80
is_value values.Strobes b = b == 72 || b == 76 || b == 88

abbrev pub IsWord : Form → Text → Type 0
IsWord form word = (length word ≡ form.size) × All (λ b. IsTrue (is_value form.values b)) word

-- the forms of a call's words, each as long as the call shifts
abbrev pub call_forms : ℕ → ℕ → List Form
call_forms chains size = replicate chains (record { values = values.Bits; size = size }) ++ replicate chains (record { values = values.Strobes; size = size })

abbrev pub vector_forms : StilFile → List Form
vector_forms f =
    record { values = values.Bits; size = length f.pi } ∷ (replicate (length f.chains) (record { values = values.Bits; size = 1 })
    ++ (where_chained (length f.chains) (record { values = values.Pulses; size = 1 })
    ++ (record { values = values.Strobes; size = length f.po } ∷ replicate (length f.chains) (record { values = values.Strobes; size = 1 }))))

-- a call shifts at least once, and stands only where there is a chain
abbrev pub IsStilCall : ℕ → List Text → Type 0
IsStilCall chains words = (size : ℕ) × (1 ≤ size) × (1 ≤ chains) × AllZip IsWord (call_forms chains size) words

-- by the number of chains and the forms of a vector's words
abbrev pub IsItemBy : ℕ → List Form → Item → Type 0
IsItemBy chains vectors (Call words) = IsStilCall chains words
IsItemBy chains vectors (Vector words) = AllZip IsWord vectors words

abbrev pub IsItem : StilFile → Item → Type 0
IsItem f item = IsItemBy (length f.chains) (vector_forms f) item

-- ---- names

-- visible ASCII but the two quotes
abbrev pub is_stil_name_byte : ℕ → Bool
is_stil_name_byte b = nat_le 33 b && nat_le b 126 && not (b == 34 || b == 39)

pub record IsStilName (name : Text) : Type 0 where
  pub some : 1 ≤ length name
  pub short : length name ≤ 261
  pub bytes : All (λ b. IsTrue (is_stil_name_byte b)) name

-- a value for each input, and without chains none
abbrev pub shift_size : ℕ → ℕ → ℕ
shift_size zero inputs = 0
shift_size (suc n) inputs = inputs

-- what the inputs have while the chains shift
abbrev pub IsShiftWord : StilFile → Type 0
IsShiftWord f = IsWord (record { values = values.Bits; size = shift_size (length f.chains) (length f.pi) }) f.shift_word

-- what every file is
pub record IsStilFile (f : StilFile) : Type 0 where
  pub inputs : 1 ≤ length f.pi
  pub outputs : 1 ≤ length f.po
  pub cells : All (λ chain. 1 ≤ length chain) f.chains
  pub names : All IsStilName (declared_signals f)
  pub cell_names : All (All IsStilName) f.chains
  pub distinct : AllPairs (λ x y. x ≢ y) (declared_signals f)
  pub shift : IsShiftWord f
  pub items : All (IsItem f) f.items
