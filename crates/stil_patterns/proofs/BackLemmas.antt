-- A file of patterns applies these.
use Rattle.std.proofs.Common.{◌≡◌, ◌∙◌, ◌-◌, ℕ, zero, suc, min, Bool, true, false, not, List, [], ◌∷◌, ◌++◌, ap, sym, refl, append-nil, length, map, take, drop, arith, length-append, replicate, reverse}
use Rattle.std.specs.Prelude.{None}
use Rattle.std.specs.List.{All, AllZip, filter, flat_map, zip}
use Rattle.std.proofs.lemmas.List.{length-map, length-take, length-drop, take_at, take-append-drop, reverse-append, reverse-reverse, nil_from_length}
use Rattle.std.proofs.lemmas.List.Elements.{All-head, All-tail}
use Rattle.statement.specs.declared.kinds.Tri.{Tri}
use Rattle.statement.specs.declared.kinds.Tri.TheVariants.{X}
use Rattle.statement.specs.Netlists.{Definition, Netlist, cells, name_of}
use Rattle.statement.specs.Patterns.{Holds, Pattern}
use Rattle.statement.specs.Values.{known}
use Rattle.cubes.specs.Cubes.{IsPatternOf}
use Rattle.statement.specs.Tests.{cells_of, longest_of, by_chain, word_in, word_out, Response, Responds, driven_bit, flush, applied_items, capture_item, char_of_bit, test_items, IsFileOf}
use Rattle.scan_insert.specs.Chains.{lengths_of, pieces}
use Rattle.scan_insert.specs.Scanned.{AreChainsOf, cell_ids}
use Rattle.scan_insert.proofs.Dealing.{stitched_count}
use Rattle.scan_play.proofs.Widths.{cells_count}
use Rattle.statement.specs.Stils.{Call, Item, StilFile, Vector, where_chained}
use Rattle.stil_vectors.specs.FileVectors.{bits_of}
use Rattle.stil_vectors.specs.TestFiles.{load_words, text_of_bits, text_of_values}
use Rattle.stil_patterns.specs.Applied.{applied_in, cells_in, chain_in, inputs_in, is_pattern, test_in, tests_in}
use Rattle.stil_patterns.specs.Laws.{TakenBack}
use Rattle.stil_patterns.proofs.PickLemmas.{all_picked}

-- ---- words

bit_back : (b : Bool) → driven_bit (char_of_bit b) ≡ b
bit_back true = refl
bit_back false = refl

bits_back : (bits : List Bool) → bits_of (text_of_bits bits) ≡ bits
bits_back [] = refl
bits_back (b ∷ bits) = ap (λ x. x ∷ bits_of (text_of_bits bits)) (bit_back b) ∙ ap (λ xs. b ∷ xs) (bits_back bits)

-- a chain's bits from its word
chain_back : (m : ℕ) (own : List Bool) (count : ℕ) → length own ≡ count → chain_in count (text_of_bits (word_in m own)) ≡ own
chain_back m own count e =
    let zeros = replicate (m - length own) false in
    ap (λ (bits : List Bool). take count (reverse bits)) (bits_back (word_in m own))
    ∙ (ap (take count) (reverse-append zeros (reverse own) ∙ ap (λ (bits : List Bool). bits ++ reverse zeros) (reverse-reverse own)) ∙ take_at own (reverse zeros) count e)

-- by other chains that are as long
cells_back : (m : ℕ) (chains others : List (List ℕ)) (values : List Bool) → map length others ≡ map length chains → length values ≡ length (cells_of chains)
    → cells_in chains (map text_of_bits (map (word_in m) (by_chain others values))) ≡ values
cells_back m [] others values like e = sym (nil_from_length values e)
cells_back m (chain ∷ chains) [] values like e = cc
cells_back m (chain ∷ chains) (other ∷ others) values like e =
    let same : length other ≡ length chain = cc in
    let rest : map length others ≡ map length chains = cc in
    let all = length-append chain (cells_of chains) in
    let few = length-take (length other) values in
    let left = length-drop (length other) values in
    let own = take (length other) values in
    ap (λ (bits : List Bool). bits ++ cells_in chains (map text_of_bits (map (word_in m) (by_chain others (drop (length other) values))))) (chain_back m own (length chain) (omega (arith, few, all, e, same)))
    ∙ (ap (λ (bits : List Bool). own ++ bits) (cells_back m chains others (drop (length other) values) rest (omega (arith, left, all, e, same))) ∙ take-append-drop (length other) values)

by_chain_count : (chains : List (List ℕ)) (values : List Bool) → length (by_chain chains values) ≡ length chains
by_chain_count [] values = refl
by_chain_count (chain ∷ chains) values = ap suc (by_chain_count chains (drop (length chain) values))

-- what stands behind the scan inputs' words brings nothing
pub load_back : (chains others : List (List ℕ)) (values : List Bool) (held : List Tri) → map length others ≡ map length chains → length values ≡ length (cells_of chains)
    → cells_in chains (take (length others) (load_words others values held)) ≡ values
load_back chains others values held like e =
    let m = longest_of others in
    let ins = map text_of_bits (map (word_in m) (by_chain others values)) in
    let count : length ins ≡ length others = length-map (map (word_in m) (by_chain others values)) text_of_bits ∙ (length-map (by_chain others values) (word_in m) ∙ by_chain_count others values) in
    ap (cells_in chains) (take_at ins (map text_of_values (map (word_out m) (by_chain others held))) (length others) count) ∙ cells_back m chains others values like e

pub inputs_back : (count : ℕ) (inputs : List Bool) → inputs_in count (text_of_bits (inputs ++ where_chained count false)) ≡ inputs
inputs_back zero inputs = bits_back (inputs ++ []) ∙ append-nil inputs
inputs_back (suc count) inputs =
    let word = text_of_bits (inputs ++ false ∷ []) in
    let size : length word - 1 ≡ length inputs = (let own = length-map (inputs ++ false ∷ []) char_of_bit in let all = length-append inputs (false ∷ []) in omega (arith, own, all)) in
    ap (λ k. take k (bits_of word)) size ∙ (ap (take (length inputs)) (bits_back (inputs ++ false ∷ [])) ∙ take_at inputs (false ∷ []) (length inputs) refl)

pattern : List Bool → List Bool → Pattern
pattern inputs cells = record { inputs = inputs; cells = cells }

pub same_pattern : (p : Pattern) (inputs cells : List Bool) → inputs ≡ p.inputs → cells ≡ p.cells → ◌≡◌ {A = Pattern} (record { inputs = inputs; cells = cells }) p
unfolding pattern
same_pattern p inputs cells i c = ap (λ x. pattern x cells) i ∙ ap (pattern p.inputs) c

-- ---- items

abbrev pub applied_behind : ℕ → List (List ℕ) → Item → List Item → List Pattern
applied_behind count chains before items = flat_map (λ p. test_in count chains p.0 p.1) (zip (before ∷ items) items)

module _ (n other : Netlist) (holds : Holds) where
  tests_back : (chain own : List ℕ) (rest more : List (List ℕ)) (before : Item) (held : List Tri) (ps : List Pattern) (rs : List Response)
      → length (cells n) ≡ length (cells_of (chain ∷ rest)) → map length (own ∷ more) ≡ map length (chain ∷ rest)
      → All (IsPatternOf n holds) ps → AllZip (Responds other None) ps rs → applied_behind (length (own ∷ more)) (chain ∷ rest) before (applied_items (own ∷ more) held (zip ps rs)) ≡ ps
  tests_back chain own rest more before held [] rs size like h a = refl
  tests_back chain own rest more before held (p ∷ ps) [] size like h a = absurd a
  tests_back chain own rest more before held (p ∷ ps) (r ∷ rs) size like h a =
      let chains = chain ∷ rest in
      let others = own ∷ more in
      let first = All-head (IsPatternOf n holds) p ps h in
      let capture = capture_item others p r in
      let after = applied_behind (length others) chains capture (applied_items others (map known r.cells) (zip ps rs)) in
      ap (λ (q : Pattern). q ∷ after)
      (same_pattern p (inputs_in (length others) (text_of_bits (p.inputs ++ where_chained (length others) false))) (cells_in chains (take (length others) (load_words others p.cells held)))
      (inputs_back (length others) p.inputs) (load_back chains others p.cells held like (first.cells ∙ size)))
      ∙ ap (λ (qs : List Pattern). p ∷ qs) (tests_back chain own rest more capture (map known r.cells) ps rs size like (All-tail (IsPatternOf n holds) p ps h) a.1)

  captures_back : (before : Item) (held : List Tri) (ps : List Pattern) (rs : List Response) → length (cells n) ≡ 0
      → All (IsPatternOf n holds) ps → AllZip (Responds other None) ps rs → applied_behind 0 [] before (applied_items [] held (zip ps rs)) ≡ ps
  captures_back before held [] rs size h a = refl
  captures_back before held (p ∷ ps) [] size h a = absurd a
  captures_back before held (p ∷ ps) (r ∷ rs) size h a =
      let first = All-head (IsPatternOf n holds) p ps h in
      let capture = capture_item [] p r in
      let after = applied_behind 0 [] capture (applied_items [] (map known r.cells) (zip ps rs)) in
      ap (λ (q : Pattern). q ∷ after)
      (same_pattern p (inputs_in 0 (text_of_bits (p.inputs ++ []))) [] (inputs_back 0 p.inputs) (sym (nil_from_length p.cells (first.cells ∙ size))))
      ∙ ap (λ (qs : List Pattern). p ∷ qs) (captures_back capture (map known r.cells) ps rs size (All-tail (IsPatternOf n holds) p ps h) a.1)

  items_back : (chains others : List (List ℕ)) (ps : List Pattern) (rs : List Response) → length (cells n) ≡ length (cells_of chains) → map length others ≡ map length chains
      → All (IsPatternOf n holds) ps → AllZip (Responds other None) ps rs → tests_in (length others) chains (test_items others (zip ps rs)) ≡ ps
  items_back [] [] ps rs size like h a = captures_back (Vector []) (replicate (length (cells_of [])) X) ps rs size h a
  items_back [] (own ∷ more) ps rs size like h a = cc
  items_back (chain ∷ rest) [] ps rs size like h a = cc
  items_back (chain ∷ rest) (own ∷ more) ps rs size like h a =
      let others = own ∷ more in
      let zeros = Call (load_words others (replicate (length (cells_of others)) false) (map known (map not (flush others)))) in
      tests_back chain own rest more zeros (replicate (length (cells_of others)) X) ps rs size like h a

  pub file_back : (own : Holds) (chains others : List (List ℕ)) (ps : List Pattern) (f : StilFile) → AreChainsOf n chains → map length others ≡ map length chains → All (IsPatternOf n holds) ps → IsFileOf other own others ps f
      → applied_in n holds chains f ≡ ps
  file_back own chains others ps f are like h is =
      let items = test_items others (zip ps is.responses) in
      ap (applied_in n holds chains) is.is
      ∙ (ap (λ k. filter (is_pattern n holds) (tests_in k chains items)) (length-map others (map (name_of other)))
      ∙ (ap (filter (is_pattern n holds)) (items_back chains others ps is.responses (cells_count n chains are) like h is.respond) ∙ all_picked n holds ps h))

-- ---- chains that are as long

pieces_alike : (sizes xs ys : List ℕ) → length xs ≡ length ys → map length (pieces sizes xs) ≡ map length (pieces sizes ys)
pieces_alike [] xs ys e = refl
pieces_alike (k ∷ sizes) xs ys e =
    let one = length-take k xs in
    let two = length-take k ys in
    let left = length-drop k xs in
    let also = length-drop k ys in
    let first : length (take k xs) ≡ length (take k ys) = omega (arith, one, two, e) in
    let rest : length (drop k xs) ≡ length (drop k ys) = omega (arith, left, also, e) in
    ap (λ m. m ∷ map length (pieces sizes (drop k xs))) first ∙ ap (λ ms. length (take k ys) ∷ ms) (pieces_alike sizes (drop k xs) (drop k ys) rest)

chains_alike : (n other : Netlist) (chains others : List (List ℕ)) → AreChainsOf n chains → AreChainsOf other others → length (cells other) ≡ length (cells n) → length others ≡ length chains
    → map length others ≡ map length chains
chains_alike n other chains others are also size count =
    let mine = cell_ids n in
    let theirs = cell_ids other in
    let cells_same : length theirs ≡ length mine = length-map (cells other) (λ (d : Definition). d.id) ∙ (size ∙ sym (length-map (cells n) (λ (d : Definition). d.id))) in
    let k = min are.asked (length mine) in
    let j = min also.asked (length theirs) in
    let counts : j ≡ k =
    sym (stitched_count theirs also.asked also.some) ∙ (sym (ap length also.are) ∙ (count ∙ (ap length are.are ∙ stitched_count mine are.asked are.some))) in
    ap (map length) also.are
    ∙ (ap (λ sizes. map length (pieces sizes theirs)) (ap (λ m. lengths_of m j) cells_same ∙ ap (lengths_of (length mine)) counts)
    ∙ (pieces_alike (lengths_of (length mine) k) theirs mine cells_same ∙ sym (ap (map length) are.are)))

pub taken_back : TakenBack
taken_back n other holds own chains others patterns f are also size count h is = file_back n other holds own chains others patterns f are (chains_alike n other chains others are also size count) h is
