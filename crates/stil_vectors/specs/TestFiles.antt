-- What a launch is in the file of a test.
use Rattle.std.specs.Prelude.{ℕ, Bool, false, List, ◌∷◌, ◌++◌, codes, length, map, replicate}
use Rattle.statement.specs.Benches.{Text}
use Rattle.statement.specs.declared.kinds.Tri.{Tri}
use Rattle.statement.specs.declared.kinds.Tri.TheVariants.{X}
use Rattle.statement.specs.Patterns.{Holds, Pattern}
use Rattle.statement.specs.Netlists.{Netlist}
use Rattle.statement.specs.Tests.{longest_of, by_chain, word_in, word_out, Response, char_of_bit, char_of_value, test_items, file_with}
use Rattle.statement.specs.Stils.{Item, StilFile, Vector, where_chained}

abbrev pub test_file : Netlist → Holds → List (List ℕ) → List (Pattern × Response) → StilFile
test_file n holds chains tests = file_with n holds chains (test_items chains tests)

-- ---- words of their own for what stands in these

abbrev pub text_of_bits : List Bool → Text
text_of_bits bits = map char_of_bit bits

abbrev pub text_of_values : List Tri → Text
text_of_values values = map char_of_value values

abbrev pub load_words : List (List ℕ) → List Bool → List Tri → List Text
load_words chains bits held =
    map text_of_bits (map (word_in (longest_of chains)) (by_chain chains bits)) ++ map text_of_values (map (word_out (longest_of chains)) (by_chain chains held))

-- a launch: a capture's words, but nothing is strobed
abbrev pub launch_item : ℕ → List (List ℕ) → Pattern → Item
launch_item outputs chains p =
    Vector (text_of_bits (p.inputs ++ where_chained (length chains) false) ∷ (replicate (length chains) (codes "0") ++ (where_chained (length chains) (codes "P")
    ++ (text_of_values (replicate outputs X) ∷ replicate (length chains) (codes "X")))))
