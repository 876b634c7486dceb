-- Chains that are given: dealt to as many, the cells are in them.
use Rattle.std.proofs.Common.{◌≡◌, ℕ, ◌≤◌, List, [], ◌∷◌, ◌++◌, map, length, take, drop, min, refl, sym, ◌∙◌, ap, arith, length-append}
use Rattle.std.specs.Prelude.{◌==◌}
use Rattle.std.specs.List.{flat_map}
use Rattle.std.proofs.lemmas.List.{drop-map, length-map, take-map}
use Rattle.std.proofs.lemmas.List.Splits.{length-slice_split}
use Rattle.statement.specs.Benches.{Text}
use Rattle.statement.specs.Netlists.{name_of}
use Rattle.bench_text.specs.Bytes.{lines}
use Rattle.scan_insert.specs.Chains.{lengths_of, pieces}
use Rattle.cell_order.specs.Orders.{chains_in, names_in, words_of}
use Rattle.cell_order.specs.Given.{ChainsAreGiven}

take_front : {X : Type 0} (a b : List X) → take (length a) (a ++ b) ≡ a
take_front [] b = refl
take_front (x ∷ a) b = ap (λ r. x ∷ r) (take_front a b)

drop_front : {X : Type 0} (a b : List X) → drop (length a) (a ++ b) ≡ b
drop_front [] b = refl
drop_front (x ∷ a) b = drop_front a b

given : (f : ℕ → Text) (chains : List (List Text)) (order : List ℕ) → map f order ≡ flat_map (λ chain. chain) chains → map (map f) (pieces (map length chains) order) ≡ chains
given f [] order e = refl
given f (c ∷ cs) order e =
    let first : map f (take (length c) order) ≡ c = sym (take-map f (length c) order) ∙ (ap (take (length c)) e ∙ take_front c (flat_map (λ chain. chain) cs)) in
    let rest : map f (drop (length c) order) ≡ flat_map (λ chain. chain) cs =
    sym (drop-map f (length c) order) ∙ (ap (drop (length c)) e ∙ drop_front c (flat_map (λ chain. chain) cs)) in
    ap (λ r. r ∷ map (map f) (pieces (map length cs) (drop (length c) order))) first ∙ ap (λ r. c ∷ r) (given f cs (drop (length c) order) rest)

-- line by line
joined : (ls : List Text) → flat_map words_of ls ≡ flat_map (λ chain. chain) (map words_of ls)
joined [] = refl
joined (l ∷ ls) = ap (λ r. words_of l ++ r) (joined ls)

-- each line has a word at least
fewer : (ls : List Text) → length (map words_of ls) ≤ length (flat_map words_of ls)
fewer [] = omega arith
fewer (l ∷ ls) = omega (arith, fewer ls, length-slice_split (λ b. b == 32) l, length-append (words_of l) (flat_map words_of ls))

pub chains_are_given : ChainsAreGiven
chains_are_given n text order chains is =
    let size : length order ≡ length (names_in text) = sym (length-map order (name_of n)) ∙ ap (λ (ts : List Text). length ts) is.are.are.named in
    let few : length (chains_in text) ≤ length (names_in text) = fewer (lines text) in
    let count = is.count in
    let same : min chains (length order) ≡ length (chains_in text) = omega arith in
    ap (λ k. map (map (name_of n)) (pieces (lengths_of (length order) k) order)) same
    ∙ (ap (λ (ls : List ℕ). map (map (name_of n)) (pieces ls order)) (sym is.even)
    ∙ given (name_of n) (chains_in text) order (is.are.are.named ∙ joined (lines text)))
