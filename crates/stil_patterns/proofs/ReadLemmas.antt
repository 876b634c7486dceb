-- Patterns as they are read, word by word.
use Rattle.std.proofs.Common.{◌≡◌, ◌∙◌, ◌+◌, ◌-◌, ◌<◌, ◌≤◌, ◌==◌, ℕ, zero, suc, min, Bool, false, List, [], ◌∷◌, ◌++◌, ap, sym, refl, append_assoc, append-nil, length, take, drop, get_or, arith, reverse, Some, slice_get}
use Rattle.std.specs.List.{filter, flat_map, zip}
use Rattle.std.proofs.lemmas.List.{get_or-drop, get_or-map, get_or-reverse, length-map, length-reverse, take_all, take_min, take_more}
use Rattle.std.proofs.lemmas.List.Concat.{flat_map-append}
use Rattle.std.proofs.lemmas.List.Elements.{filter-append}
use Rattle.std.proofs.lemmas.Slice.Zip.{get_or-zip, length-zip}
use Rattle.statement.specs.Benches.{Text}
use Rattle.statement.specs.Netlists.{Netlist}
use Rattle.statement.specs.Patterns.{Holds, Pattern}
use Rattle.statement.specs.Stils.{Call, Item, StilFile, Vector}
use Rattle.stil_write.specs.StilFiles.{item_at, words_of}
use Rattle.statement.specs.Tests.{driven_bit}
use Rattle.stil_vectors.specs.FileVectors.{bits_of}
use Rattle.stil_patterns.specs.Applied.{cells_in, chain_in, inputs_in, is_pattern, pattern_in, test_in, tests_in}
use Rattle.stil_patterns.specs.inner.Reading.{item_before}

-- ---- characters

pub chain_more : (word : Text) (k b : ℕ) (old found new : List Bool) → k < length word → b ≡ get_or word (length word - 1 - k) 0 → found ≡ old ++ take k (reverse (bits_of word)) → new ≡ found ++ (b == 49) ∷ []
    → new ≡ old ++ take (k + 1) (reverse (bits_of word))
chain_more word k b old found new l is h pushed =
    let bits = bits_of word in
    let size : length bits ≡ length word = length-map word driven_bit in
    let back : length (reverse bits) ≡ length bits = length-reverse bits in
    let at : get_or (reverse bits) k false ≡ (b == 49) =
    get_or-reverse bits k false (omega (arith, size, l)) ∙ (ap (λ n. get_or bits (n - 1 - k) false) size ∙ (get_or-map driven_bit word (length word - 1 - k) 0 false (omega (arith, l)) ∙ ap driven_bit (sym is))) in
    pushed ∙ (ap (λ (x : List Bool). x ++ (b == 49) ∷ []) h ∙ (append_assoc old (take k (reverse bits)) ((b == 49) ∷ [])
    ∙ ap (λ (x : List Bool). old ++ x) (ap (λ v. take k (reverse bits) ++ v ∷ []) (sym at) ∙ sym (take_more (reverse bits) k false (omega (arith, back, size, l))))))

pub chain_end : (word : Text) (count k : ℕ) (old found : List Bool) → k ≡ min count (length word) → found ≡ old ++ take k (reverse (bits_of word)) → found ≡ old ++ chain_in count word
chain_end word count k old found e h =
    let bits = bits_of word in
    let size : length (reverse bits) ≡ length word = length-reverse bits ∙ length-map word driven_bit in
    h ∙ ap (λ (x : List Bool). old ++ x) (ap (λ n. take n (reverse bits)) (e ∙ ap (min count) (sym size)) ∙ take_min count (reverse bits))

pub inputs_more : (word : Text) (k b : ℕ) (found new : List Bool) → k < length word → b ≡ get_or word k 0 → found ≡ take k (bits_of word) → new ≡ found ++ (b == 49) ∷ [] → new ≡ take (k + 1) (bits_of word)
inputs_more word k b found new l is h pushed =
    let size : length (bits_of word) ≡ length word = length-map word driven_bit in
    let at : get_or (bits_of word) k false ≡ (b == 49) = get_or-map driven_bit word k 0 false l ∙ ap driven_bit (sym is) in
    pushed ∙ (ap (λ (x : List Bool). x ++ (b == 49) ∷ []) h ∙ (ap (λ v. take k (bits_of word) ++ v ∷ []) (sym at) ∙ sym (take_more (bits_of word) k false (omega (arith, size, l)))))

pub inputs_end : (count : ℕ) (word : Text) (k once : ℕ) (found : List Bool) → once ≡ min count 1 → k ≡ length word - once → found ≡ take k (bits_of word) → found ≡ inputs_in count word
inputs_end zero word k once found o e h = let size = length-map word driven_bit in h ∙ take_all k (bits_of word) (omega (arith, o, e, size))
inputs_end (suc count) word k once found o e h = let last : k ≡ length word - 1 = omega (arith, o, e) in h ∙ ap (λ j. take j (bits_of word)) last

-- ---- chains

cells_more : (chains : List (List ℕ)) (c : ℕ) (chain : List ℕ) (words : List Text) → slice_get chains c ≡ Some chain
    → cells_in (take (c + 1) chains) words ≡ cells_in (take c chains) words ++ chain_in (length chain) (get_or words c [])
cells_more [] c chain words e = cc
cells_more (own ∷ chains) zero chain words e =
    let same : own ≡ chain = cc in
    append-nil (chain_in (length own) (get_or words 0 [])) ∙ ap (λ (q : List ℕ). chain_in (length q) (get_or words 0 [])) same
cells_more (own ∷ chains) (suc c) chain words e =
    let one : suc c + 1 ≡ suc (c + 1) = omega arith in
    let next : 1 + c ≡ suc c = omega arith in
    let first = chain_in (length own) (get_or words 0 []) in
    ap (λ k. cells_in (take k (own ∷ chains)) words) one
    ∙ (ap (λ (x : List Bool). first ++ x) (cells_more chains c chain (drop 1 words) e ∙ ap (λ (w : Text). cells_in (take c chains) (drop 1 words) ++ chain_in (length chain) w) (get_or-drop 1 words c [] ∙ ap (λ k. get_or words k []) next))
    ∙ sym (append_assoc first (cells_in (take c chains) (drop 1 words)) (chain_in (length chain) (get_or words (suc c) []))))

pub read_more : (chains : List (List ℕ)) (c : ℕ) (chain : List ℕ) (words : List Text) (word : Text) (found new : List Bool) → slice_get chains c ≡ Some chain → word ≡ get_or words c []
    → found ≡ cells_in (take c chains) words → new ≡ found ++ chain_in (length chain) word → new ≡ cells_in (take (c + 1) chains) words
read_more chains c chain words word found new e is h pushed =
    pushed ∙ (ap (λ (x : List Bool). x ++ chain_in (length chain) word) h ∙ (ap (λ (w : Text). cells_in (take c chains) words ++ chain_in (length chain) w) is ∙ sym (cells_more chains c chain words e)))

-- ---- tests

-- without chains no load matters
before_first : (count : ℕ) (chains : List (List ℕ)) (item : Item) (load words vector : List Text) (p : Pattern) → test_in count chains (Vector []) item ≡ p ∷ []
    → pattern_in count chains load vector ≡ pattern_in count chains words vector
before_first count [] item load words vector p e = refl
before_first count (chain ∷ chains) (Call own) load words vector p e = cc
before_first count (chain ∷ chains) (Vector own) load words vector p e = cc

load_before : (count : ℕ) (chains : List (List ℕ)) (items : List Item) (place load : ℕ) (p : Pattern) → load ≡ place - 1 → test_in count chains (item_before items place) (item_at items place) ≡ p ∷ []
    → pattern_in count chains (words_of (item_at items load)) (words_of (item_at items place)) ≡ pattern_in count chains (words_of (item_before items place)) (words_of (item_at items place))
load_before count chains items zero load p e t = before_first count chains (item_at items 0) (words_of (item_at items load)) [] (words_of (item_at items 0)) p t
load_before count chains items (suc k) load p e t =
    let same : load ≡ k = omega (arith, e) in
    ap (λ j. pattern_in count chains (words_of (item_at items j)) (words_of (item_at items (suc k)))) same

pub test_at : (chains : List (List ℕ)) (f : StilFile) (items : List Item) (count place load : ℕ) (p : Pattern) → items ≡ f.items → count ≡ length f.chains → load ≡ place - 1
    → ((k : ℕ) → test_in k chains (item_before items place) (item_at items place) ≡ pattern_in k chains (words_of (item_before items place)) (words_of (item_at items place)) ∷ [])
    → p ≡ pattern_in count chains (words_of (item_at items load)) (words_of (item_at items place))
    → test_in (length f.chains) chains (item_before f.items place) (item_at f.items place) ≡ p ∷ []
test_at chains f items count place load p ei ec el t is =
    let own = pattern_in count chains (words_of (item_before items place)) (words_of (item_at items place)) in
    sym (ap (λ (its : List Item). test_in (length f.chains) chains (item_before its place) (item_at its place)) ei)
    ∙ (sym (ap (λ k. test_in k chains (item_before items place) (item_at items place)) ec)
    ∙ (t count ∙ ap (λ (q : Pattern). q ∷ []) (sym (is ∙ load_before count chains items place load own el (t count)))))

picked_more : {X Y : Type 0} (ok : Y → Bool) (f : X → List Y) (xs : List X) (i : ℕ) (d : X) (old new : List Y) → i < length xs → old ≡ filter ok (flat_map f (take i xs)) → new ≡ old ++ filter ok (f (get_or xs i d))
    → new ≡ filter ok (flat_map f (take (i + 1) xs))
picked_more ok f xs i d old new l h pushed =
    let x = get_or xs i d in
    pushed ∙ (ap (λ ys. ys ++ filter ok (f x)) h
    ∙ (sym (filter-append ok (flat_map f (take i xs)) (f x))
    ∙ ap (filter ok) (ap (λ ys. flat_map f (take i xs) ++ ys) (sym (append-nil (f x))) ∙ (sym (flat_map-append f (take i xs) (x ∷ [])) ∙ ap (flat_map f) (sym (take_more xs i d l))))))

module _ (n : Netlist) (holds : Holds) (count : ℕ) (chains : List (List ℕ)) (items : List Item) where
  abbrev pairs : List (Item × Item)
  pairs = zip (Vector [] ∷ items) items

  -- the patterns that the first items apply
  abbrev pub applied_first : ℕ → List Pattern
  applied_first i = filter (is_pattern n holds) (flat_map (λ p. test_in count chains p.0 p.1) (take i pairs))

  pairs_size : length pairs ≡ length items
  pairs_size = let size = length-zip (Vector [] ∷ items) items in omega (arith, size)

  pub applied_more : (i : ℕ) (old new : List Pattern) → i < length items → old ≡ applied_first i
      → new ≡ old ++ filter (is_pattern n holds) (test_in count chains (item_before items i) (item_at items i)) → new ≡ applied_first (i + 1)
  applied_more i old new l h pushed =
      let f : Item × Item → List Pattern = λ p. test_in count chains p.0 p.1 in
      let d : Item × Item = (Vector [], Vector []) in
      let size = pairs_size in
      picked_more (is_pattern n holds) f pairs i d old new (omega (arith, size, l)) h
      (pushed ∙ ap (λ p. old ++ filter (is_pattern n holds) (f p)) (sym (get_or-zip (Vector [] ∷ items) items i d (omega (arith, l)) l)))

  pub applied_end : (i : ℕ) (found : List Pattern) → length items ≤ i → found ≡ applied_first i → found ≡ filter (is_pattern n holds) (tests_in count chains items)
  applied_end i found l h = let size = pairs_size in h ∙ ap (λ ps. filter (is_pattern n holds) (flat_map (λ p. test_in count chains p.0 p.1) ps)) (take_all i pairs (omega (arith, size, l)))
