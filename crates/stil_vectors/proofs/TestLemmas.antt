-- The vectors of a test's file are those of the test.
use Rattle.std.proofs.Common.{◌≡◌, ◌∙◌, ◌+◌, ◌-◌, ◌≤◌, ℕ, zero, suc, Bool, true, false, List, [], ◌∷◌, ◌++◌, ap, refl, append_assoc, append-nil, length, take, drop, map, get_or, arith, replicate, reverse, length-append, not}
use Rattle.std.specs.Prelude.{codes, ◌==◌}
use Rattle.std.specs.List.{flat_map}
use Rattle.std.proofs.lemmas.List.{length-replicate, length-map, length-reverse, length-take, map-append}
use Rattle.std.proofs.lemmas.List.Concat.{flat_map-append}
use Rattle.statement.specs.Benches.{Text}
use Rattle.statement.specs.declared.kinds.Tri.{Tri}
use Rattle.statement.specs.declared.kinds.Tri.TheVariants.{Zero, One, X}
use Rattle.statement.specs.Patterns.{Holds, Pattern}
use Rattle.statement.specs.Netlists.{Netlist, name_of}
use Rattle.statement.specs.Values.{known}
use Rattle.statement.specs.Tests.{cells_of, longest_of, by_chain, column, word_in, word_out, Response, flush, driven_bit, call_cycle, cycles_of_item, has_pulse, strobed_value, applied_items, capture_item, char_of_bit, char_of_value, load_items, shift_word_of}
use Rattle.statement.specs.Runs.{numbers_from, output_name, Cycle}
use Rattle.scan_play.specs.Shifts.{idle_inputs, load, shift}
use Rattle.scan_play.specs.Vectors.{applied, capture, vectors}
use Rattle.scan_play.specs.inner.Applied.{plain_cycle}
use Rattle.scan_play.proofs.ApplyLemmas.{capture_plain}
use Rattle.scan_play.proofs.BurstLemmas.{same_cycle}
use Rattle.statement.specs.Stils.{Item, StilFile, Vector, where_chained}
use Rattle.stil_vectors.specs.FileVectors.{bits_of, call_size, together, values_of}
use Rattle.stil_vectors.specs.Laws.{TestVectors}
use Rattle.stil_vectors.specs.TestFiles.{load_words, test_file, text_of_bits, text_of_values}
use Rattle.stil_vectors.proofs.WidthLemmas.{back_of, drop_more, front_of}

-- ---- characters

bit_back : (b : Bool) → driven_bit (char_of_bit b) ≡ b
bit_back true = refl
bit_back false = refl

value_back : (v : Tri) → strobed_value (char_of_value v) ≡ v
value_back Zero = refl
value_back One = refl
value_back X = refl

bits_back : (bits : List Bool) → bits_of (text_of_bits bits) ≡ bits
bits_back [] = refl
bits_back (b ∷ bits) = ap (λ x. x ∷ bits_of (text_of_bits bits)) (bit_back b) ∙ ap (λ xs. b ∷ xs) (bits_back bits)

values_back : (values : List Tri) → values_of (text_of_values values) ≡ values
values_back [] = refl
values_back (v ∷ values) = ap (λ x. x ∷ values_of (text_of_values values)) (value_back v) ∙ ap (λ xs. v ∷ xs) (values_back values)

all_bits_back : (words : List (List Bool)) → map bits_of (map text_of_bits words) ≡ words
all_bits_back [] = refl
all_bits_back (w ∷ words) = ap (λ x. x ∷ map bits_of (map text_of_bits words)) (bits_back w) ∙ ap (λ xs. w ∷ xs) (all_bits_back words)

all_values_back : (words : List (List Tri)) → map values_of (map text_of_values words) ≡ words
all_values_back [] = refl
all_values_back (w ∷ words) = ap (λ x. x ∷ map values_of (map text_of_values words)) (values_back w) ∙ ap (λ xs. w ∷ xs) (all_values_back words)

-- ---- loads

length-by_chain : {V : Type 0} (chains : List (List ℕ)) (vs : List V) → length (by_chain chains vs) ≡ length chains
length-by_chain [] vs = refl
length-by_chain (chain ∷ chains) vs = ap suc (length-by_chain chains (drop (length chain) vs))

length-word_in : (m : ℕ) (bits : List Bool) → length bits ≤ m → length (word_in m bits) ≡ m
length-word_in m bits h =
    let a = length-append (replicate (m - length bits) false) (reverse bits) in
    let b = length-replicate (m - length bits) false in
    let c = length-reverse bits in
    omega (arith, a, b, c, h)

same_map : (f g : ℕ → Cycle) (xs : List ℕ) → ((t : ℕ) → f t ≡ g t) → map f xs ≡ map g xs
same_map f g [] h = refl
same_map f g (x ∷ xs) h = ap (λ c. c ∷ map f xs) (h x) ∙ ap (λ cs. g x ∷ cs) (same_map f g xs h)

-- the number of chains and the word of a shift are all that a call's cycle takes of the file
abbrev call_by : ℕ → ℕ → Text → List Text → ℕ → Cycle
call_by n outputs word words t = record {
  drive = bits_of word ++ column false (map bits_of (take n words)) t;
  strobe = replicate outputs X ++ column X (map values_of (drop n words)) t;
  pulse = true;
}

load_cycle : (n : Netlist) (holds : Holds) (chains : List (List ℕ)) (bits : List Bool) (held : List Tri) (t : ℕ)
    → call_by (length chains) (length n.outputs) (text_of_bits (idle_inputs holds ++ true ∷ [])) (load_words chains bits held) t
    ≡ shift n holds (map (word_in (longest_of chains)) (by_chain chains bits)) (map (word_out (longest_of chains)) (by_chain chains held)) t
load_cycle n holds chains bits held t =
    let m = longest_of chains in
    let ins = map (word_in m) (by_chain chains bits) in
    let outs = map (word_out m) (by_chain chains held) in
    let k : length (map text_of_bits ins) ≡ length chains = length-map ins text_of_bits ∙ length-map (by_chain chains bits) (word_in m) ∙ length-by_chain chains bits in
    let front : map bits_of (take (length chains) (load_words chains bits held)) ≡ ins = ap (map bits_of) (front_of (length chains) (map text_of_bits ins) (map text_of_values outs) k) ∙ all_bits_back ins in
    let back : map values_of (drop (length chains) (load_words chains bits held)) ≡ outs = ap (map values_of) (back_of (length chains) (map text_of_bits ins) (map text_of_values outs) k) ∙ all_values_back outs in
    same_cycle _ _ _ _ _ _
    (ap (λ (x : List Bool). x ++ column false (map bits_of (take (length chains) (load_words chains bits held))) t) (bits_back (idle_inputs holds ++ true ∷ []))
    ∙ ap (λ (ws : List (List Bool)). (idle_inputs holds ++ true ∷ []) ++ column false ws t) front ∙ append_assoc (idle_inputs holds) (true ∷ []) (column false ins t))
    (ap (λ (ws : List (List Tri)). replicate (length n.outputs) X ++ column X ws t) back) refl

first_size : (chain : List ℕ) (chains : List (List ℕ)) (bits : List Bool) (held : List Tri) → call_size (load_words (chain ∷ chains) bits held) ≡ longest_of (chain ∷ chains)
first_size chain chains bits held =
    let m = longest_of (chain ∷ chains) in
    let own = take (length chain) bits in
    let few = length-take (length chain) bits in
    length-map (word_in m own) char_of_bit ∙ length-word_in m own (omega (arith, few))

pub load_vectors : (n : Netlist) (holds : Holds) (chains : List (List ℕ)) (f : StilFile) (bits : List Bool) (held : List Tri) → length f.chains ≡ length chains → length f.po ≡ length n.outputs → f.shift_word ≡ shift_word_of holds chains
    → flat_map (cycles_of_item f) (load_items chains bits held) ≡ load n holds chains bits held
load_vectors n holds [] f bits held ec eo ew = refl
load_vectors n holds (chain ∷ chains) f bits held ec eo ew =
    let all = chain ∷ chains in
    let words = load_words all bits held in
    let numbers = numbers_from 0 (call_size words) in
    append-nil (map (call_cycle f words) numbers)
    ∙ ap (λ k. map (call_by k (length f.po) f.shift_word words) numbers) ec
    ∙ ap (λ o. map (call_by (length all) o f.shift_word words) numbers) eo
    ∙ ap (λ w. map (call_by (length all) (length n.outputs) w words) numbers) ew
    ∙ same_map (call_by (length all) (length n.outputs) (text_of_bits (idle_inputs holds ++ true ∷ [])) words)
    (shift n holds (map (word_in (longest_of all)) (by_chain all bits)) (map (word_out (longest_of all)) (by_chain all held))) numbers (load_cycle n holds all bits held)
    ∙ ap (λ k. map (shift n holds (map (word_in (longest_of all)) (by_chain all bits)) (map (word_out (longest_of all)) (by_chain all held))) (numbers_from 0 k)) (first_size chain chains bits held)

-- ---- captures

together_copies : (n b : ℕ) → together (replicate n (b ∷ [])) ≡ replicate n b
together_copies zero b = refl
together_copies (suc n) b = ap (λ l. b ∷ l) (together_copies n b)

map_copies : {X Y : Type 0} (f : X → Y) (n : ℕ) (x : X) → map f (replicate n x) ≡ replicate n (f x)
map_copies f zero x = refl
map_copies f (suc n) x = ap (λ l. f x ∷ l) (map_copies f n x)

got_behind : (n : ℕ) (b p : Text) (rest : List Text) → get_or (replicate n b ++ (p ∷ rest)) n [] ≡ p
got_behind zero b p rest = refl
got_behind (suc n) b p rest = got_behind n b p rest

abbrev pub vector_by : ℕ → List Text → Cycle
vector_by n words = record {
  drive = bits_of (together (take (n + 1) words));
  strobe = values_of (together (drop (n + 1 + length (where_chained n (codes "SC__ck"))) words));
  pulse = has_pulse n words;
}

abbrev pub capture_words : ℕ → Text → Text → List Text
capture_words n pi po = pi ∷ (replicate n (codes "0") ++ (where_chained n (codes "P") ++ (po ∷ replicate n (codes "X"))))

abbrev pub vector_words : List (List ℕ) → List Bool → List Tri → List Text
vector_words chains inputs strobes = capture_words (length chains) (text_of_bits (inputs ++ where_chained (length chains) false)) (text_of_values strobes)

vector_made : (chains : List (List ℕ)) (inputs : List Bool) (strobes : List Tri) → vector_by (length chains) (vector_words chains inputs strobes) ≡ plain_cycle chains inputs strobes
vector_made [] inputs strobes =
    same_cycle _ _ _ _ _ _
    (ap bits_of (append-nil (text_of_bits (inputs ++ []))) ∙ bits_back (inputs ++ []) ∙ append-nil inputs)
    (ap values_of (append-nil (text_of_values strobes)) ∙ values_back strobes) refl
vector_made (chain ∷ chains) inputs strobes =
    let n = suc (length chains) in
    let pi = text_of_bits (inputs ++ false ∷ []) in
    let po = text_of_values strobes in
    let zeros = replicate n (codes "0") in
    let rest = po ∷ replicate n (codes "X") in
    let words = capture_words n pi po in
    let one : n + 1 ≡ suc n = omega arith in
    let front : take (n + 1) words ≡ pi ∷ zeros = ap (λ k. take k words) one ∙ ap (λ l. pi ∷ l) (front_of n zeros (codes "P" ∷ rest) (length-replicate n (codes "0"))) in
    let behind : drop (n + 1) words ≡ codes "P" ∷ rest = ap (λ k. drop k words) one ∙ back_of n zeros (codes "P" ∷ rest) (length-replicate n (codes "0")) in
    let back : drop (n + 1 + 1) words ≡ rest = drop_more (n + 1) 1 words ∙ ap (drop 1) behind in
    let driven : bits_of (together (take (n + 1) words)) ≡ inputs ++ false ∷ replicate n false =
    ap (λ (ws : List Text). bits_of (together ws)) front ∙ ap (λ (t : Text). bits_of (pi ++ t)) (together_copies n 48) ∙ map-append driven_bit pi (replicate n 48)
    ∙ ap (λ (x : List Bool). x ++ bits_of (replicate n 48)) (bits_back (inputs ++ false ∷ [])) ∙ ap (λ (x : List Bool). (inputs ++ false ∷ []) ++ x) (map_copies driven_bit n 48)
    ∙ append_assoc inputs (false ∷ []) (replicate n false) in
    let strobed : values_of (together (drop (n + 1 + 1) words)) ≡ strobes ++ replicate n X =
    ap (λ (ws : List Text). values_of (together ws)) back ∙ ap (λ (t : Text). values_of (po ++ t)) (together_copies n 88) ∙ map-append strobed_value po (replicate n 88)
    ∙ ap (λ (x : List Tri). x ++ values_of (replicate n 88)) (values_back strobes) ∙ ap (λ (x : List Tri). strobes ++ x) (map_copies strobed_value n 88) in
    let pulsed : has_pulse n words ≡ true = ap (λ (w : Text). get_or w 0 0 == 80) (got_behind n (codes "0") (codes "P") rest) in
    same_cycle _ _ _ _ _ _ driven strobed pulsed

pub vector_vectors : (chains : List (List ℕ)) (f : StilFile) (inputs : List Bool) (strobes : List Tri) → length f.chains ≡ length chains
    → cycles_of_item f (Vector (vector_words chains inputs strobes)) ≡ plain_cycle chains inputs strobes ∷ []
vector_vectors chains f inputs strobes e = ap (λ c. c ∷ []) (ap (λ k. vector_by k (vector_words chains inputs strobes)) e ∙ vector_made chains inputs strobes)

pub capture_vectors : (chains : List (List ℕ)) (f : StilFile) (p : Pattern) (r : Response) → length f.chains ≡ length chains → cycles_of_item f (capture_item chains p r) ≡ capture chains p r ∷ []
capture_vectors chains f p r e = vector_vectors chains f p.inputs (map known r.outputs) e ∙ ap (λ c. c ∷ []) (capture_plain chains p r)

-- ---- the whole

applied_vectors : (n : Netlist) (holds : Holds) (chains : List (List ℕ)) (f : StilFile) (held : List Tri) (tests : List (Pattern × Response)) → length f.chains ≡ length chains → length f.po ≡ length n.outputs
    → f.shift_word ≡ shift_word_of holds chains → flat_map (cycles_of_item f) (applied_items chains held tests) ≡ applied n holds chains held tests
applied_vectors n holds chains f held [] ec eo ew = load_vectors n holds chains f (replicate (length (cells_of chains)) false) held ec eo ew
applied_vectors n holds chains f held (test ∷ tests) ec eo ew =
    flat_map-append (cycles_of_item f) (load_items chains test.0.cells held) (capture_item chains test.0 test.1 ∷ applied_items chains (map known test.1.cells) tests)
    ∙ ap (λ c. c ++ flat_map (cycles_of_item f) (capture_item chains test.0 test.1 ∷ applied_items chains (map known test.1.cells) tests)) (load_vectors n holds chains f test.0.cells held ec eo ew)
    ∙ ap (λ c. load n holds chains test.0.cells held ++ (c ++ flat_map (cycles_of_item f) (applied_items chains (map known test.1.cells) tests))) (capture_vectors chains f test.0 test.1 ec)
    ∙ ap (λ c. load n holds chains test.0.cells held ++ (capture chains test.0 test.1 ∷ c)) (applied_vectors n holds chains f (map known test.1.cells) tests ec eo ew)

pub four : (f : StilFile) (a b c d : List Item) (p q r s : List Cycle) → flat_map (cycles_of_item f) a ≡ p → flat_map (cycles_of_item f) b ≡ q → flat_map (cycles_of_item f) c ≡ r → flat_map (cycles_of_item f) d ≡ s
    → flat_map (cycles_of_item f) (a ++ b ++ c ++ d) ≡ p ++ q ++ r ++ s
four f a b c d p q r s ea eb ec ed =
    flat_map-append (cycles_of_item f) (a ++ b ++ c) d
    ∙ ap (λ x. x ++ flat_map (cycles_of_item f) d) (flat_map-append (cycles_of_item f) (a ++ b) c ∙ ap (λ x. x ++ flat_map (cycles_of_item f) c) (flat_map-append (cycles_of_item f) a b))
    ∙ ap (λ x. x ++ flat_map (cycles_of_item f) b ++ flat_map (cycles_of_item f) c ++ flat_map (cycles_of_item f) d) ea
    ∙ ap (λ x. p ++ x ++ flat_map (cycles_of_item f) c ++ flat_map (cycles_of_item f) d) eb
    ∙ ap (λ x. p ++ q ++ x ++ flat_map (cycles_of_item f) d) ec ∙ ap (λ x. p ++ q ++ r ++ x) ed

pub test_vectors : TestVectors
test_vectors n holds chains tests =
    let f = test_file n holds chains tests in
    let nothing = replicate (length (cells_of chains)) X in
    let zeros = replicate (length (cells_of chains)) false in
    let ec : length f.chains ≡ length chains = length-map chains (map (name_of n)) in
    let eo : length f.po ≡ length n.outputs = length-map n.outputs (output_name n) in
    four f (load_items chains (flush chains) nothing) (load_items chains (map not (flush chains)) (map known (flush chains))) (load_items chains zeros (map known (map not (flush chains)))) (applied_items chains nothing tests)
    (load n holds chains (flush chains) nothing) (load n holds chains (map not (flush chains)) (map known (flush chains))) (load n holds chains zeros (map known (map not (flush chains)))) (applied n holds chains nothing tests)
    (load_vectors n holds chains f (flush chains) nothing ec eo refl) (load_vectors n holds chains f (map not (flush chains)) (map known (flush chains)) ec eo refl)
    (load_vectors n holds chains f zeros (map known (map not (flush chains))) ec eo refl) (applied_vectors n holds chains f nothing tests ec eo refl)
