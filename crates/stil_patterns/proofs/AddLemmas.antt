-- The items of a file as they are added, test by test.
use Rattle.std.proofs.Common.{◌≡◌, ◌∙◌, ◌+◌, ◌-◌, ◌<◌, ◌≤◌, ℕ, zero, suc, min, false, List, [], ◌∷◌, ◌++◌, ap, sym, refl, append_assoc, length, map, take, drop, get_or, arith, codes, replicate, Some, None}
use Rattle.std.specs.List.{slice_get}
use Rattle.std.proofs.lemmas.List.{get_or-drop, get_or-take, length-drop, length-take}
use Rattle.std.proofs.lemmas.Option.{slice_get-get_or}
use Rattle.statement.specs.Benches.{Text}
use Rattle.statement.specs.declared.kinds.Tri.{Tri}
use Rattle.statement.specs.declared.kinds.Tri.TheVariants.{X}
use Rattle.statement.specs.Netlists.{Netlist, cells, name_of}
use Rattle.statement.specs.Patterns.{Holds, Pattern}
use Rattle.netlist.specs.Holds.{AreHoldsOf}
use Rattle.netlist.specs.Conditions.{IsSound}
use Rattle.statement.specs.Values.{known}
use Rattle.statement.specs.Tests.{cells_of, Responds, applied_items, capture_item, char_of_value, file_with, load_items, shift_word_of, test_items, IsFileOf}
use Rattle.statement.specs.Runs.{output_name}
use Rattle.scan_play.proofs.Applied.{taken_count}
use Rattle.scan_play.proofs.TestLists.{none_applied, one_applied, all_applied}
use Rattle.statement.specs.Stils.{Item, StilFile, where_chained}
use Rattle.stil_vectors.specs.TestFiles.{text_of_values}
use Rattle.stil_patterns.specs.inner.Added.{AreAll, AreBegun, IsAdded, flush_items}

-- ---- words of a capture

pub chained_copies : {V : Type 0} (k once : ℕ) (x : V) → once ≡ min k 1 → replicate once x ≡ where_chained k x
chained_copies zero once x e = let o : once ≡ 0 = omega (arith, e) in ap (λ j. replicate j x) o
chained_copies (suc k) once x e = let o : once ≡ 1 = omega (arith, e) in ap (λ j. replicate j x) o

pub capture_words : (k once : ℕ) (pi po : Text) (first second third fourth fifth sixth : List Text) → once ≡ min k 1 → first ≡ [] → second ≡ first ++ pi ∷ [] → third ≡ second ++ replicate k (codes "0")
    → fourth ≡ third ++ replicate once (codes "P") → fifth ≡ fourth ++ po ∷ [] → sixth ≡ fifth ++ replicate k (codes "X")
    → sixth ≡ pi ∷ (replicate k (codes "0") ++ (where_chained k (codes "P") ++ (po ∷ replicate k (codes "X"))))
capture_words k once pi po first second third fourth fifth sixth eo e1 e2 e3 e4 e5 e6 =
    let zeros = replicate k (codes "0") in
    let pulse = where_chained k (codes "P") in
    let xs = replicate k (codes "X") in
    let s2 : second ≡ pi ∷ [] = e2 ∙ ap (λ (l : List Text). l ++ pi ∷ []) e1 in
    let s3 : third ≡ pi ∷ zeros = e3 ∙ ap (λ (l : List Text). l ++ zeros) s2 in
    let s4 : fourth ≡ pi ∷ (zeros ++ pulse) = e4 ∙ (ap (λ (l : List Text). l ++ replicate once (codes "P")) s3 ∙ ap (λ (l : List Text). pi ∷ (zeros ++ l)) (chained_copies k once (codes "P") eo)) in
    let s5 : fifth ≡ pi ∷ (zeros ++ pulse ++ po ∷ []) = e5 ∙ ap (λ (l : List Text). l ++ po ∷ []) s4 in
    e6 ∙ (ap (λ (l : List Text). l ++ xs) s5
    ∙ ap (λ (l : List Text). pi ∷ l) (append_assoc (zeros ++ pulse) (po ∷ []) xs ∙ append_assoc zeros pulse (po ∷ xs)))

pub unstrobed : (k : ℕ) → replicate k (char_of_value X) ≡ text_of_values (replicate k X)
unstrobed zero = refl
unstrobed (suc k) = ap (λ l. char_of_value X ∷ l) (unstrobed k)

-- ---- tests

pub two_added : (old middle new a b : List Item) → middle ≡ old ++ a → new ≡ middle ++ b → new ≡ old ++ (a ++ b)
two_added old middle new a b m n = n ∙ (ap (λ (l : List Item). l ++ b) m ∙ append_assoc old a b)

module _ (n : Netlist) (chains : List (List ℕ)) where
  pub begun : (items : List Item) (held : List Tri) (count : ℕ) → count ≡ length (cells_of chains) → items ≡ flush_items chains → held ≡ replicate count X → AreBegun n chains [] items held
  begun items held count e c h = none_applied (Responds n None) (applied_items chains) (test_items chains) (length (cells_of chains)) (flush_items chains) items held count (λ rest. refl) e c h

  pub begun_more : (sound : IsSound n) (count : length (cells n) ≡ length (cells_of chains)) (ps : List Pattern) (i : ℕ) (p : Pattern) (old new : List Item) (held after : List Tri)
      → i < length ps → p ≡ get_or ps i p → AreBegun n chains (take i ps) old held → IsAdded n chains p held after old new → AreBegun n chains (take (i + 1) ps) new after
  begun_more sound count ps i p old new held after l is h one =
      let loads = load_items chains p.cells held in
      let captures = capture_item chains p one.response ∷ [] in
      one_applied (Responds n None) (applied_items chains) (test_items chains) (length (cells_of chains)) ps i p one.response (loads ++ captures) old new held after
      (λ rest. append_assoc loads captures (applied_items chains (map known one.response.cells) rest)) l is h one.responds (taken_count n p one.response sound one.responds ∙ count) one.items one.taken

  pub begun_done : (ps : List Pattern) (i : ℕ) (old new : List Item) (held : List Tri) → length ps ≤ i
      → new ≡ old ++ load_items chains (replicate (length (cells_of chains)) false) held → AreBegun n chains (take i ps) old held → AreAll n chains ps new
  begun_done ps i old new held l pushed h =
      let r = all_applied (Responds n None) (applied_items chains) (test_items chains) (length (cells_of chains)) ps i old new held l pushed h in
      record { responses = r.0; respond = r.1; are = r.2 }

-- a pattern stands in a part of the patterns at its distance from the part's first one
pub part_at : (ps : List Pattern) (s e k : ℕ) (p : Pattern) → s ≤ k → k < e → e ≤ length ps → p ≡ get_or ps k p → slice_get (take (e - s) (drop s ps)) (k - s) ≡ Some p
part_at ps s e k p after before within is =
    let part = take (e - s) (drop s ps) in
    let near : k - s < e - s = omega (arith, after, before) in
    let inside : k - s < length part = omega (arith, after, before, within, length-take (e - s) (drop s ps), length-drop s ps) in
    let here : s + (k - s) ≡ k = omega (arith, after) in
    slice_get-get_or part (k - s) p inside
    ∙ ap (λ (q : Pattern). Some q) (get_or-take (e - s) (drop s ps) (k - s) p near ∙ (get_or-drop s ps (k - s) p ∙ (ap (λ i. get_or ps i p) here ∙ sym is)))

-- ---- the file

file : List Text → List Text → List (List Text) → Text → List Item → StilFile
file pi po chains word items = record { pi = pi; po = po; chains = chains; shift_word = word; items = items }

pub file_made : (n m : Netlist) (holds : Holds) (chains : List (List ℕ)) (count : ℕ) (pi po : List Text) (names : List (List Text)) (word : Text) (items : List Item)
    → m ≡ n → count ≡ length chains → pi ≡ map (name_of m) m.inputs ++ where_chained count (codes "SC__se") → po ≡ map (output_name m) m.outputs → names ≡ map (map (name_of m)) chains
    → word ≡ shift_word_of holds chains → ◌≡◌ {A = StilFile} (record { pi = pi; po = po; chains = names; shift_word = word; items = items }) (file_with n holds chains items)
unfolding file
file_made n m holds chains count pi po names word items em ec ei eo en ew =
    let inputs = map (name_of n) n.inputs ++ where_chained (length chains) (codes "SC__se") in
    let outputs = map (output_name n) n.outputs in
    let i : pi ≡ inputs =
    ei ∙ (ap (λ (k : Netlist). map (name_of k) k.inputs ++ where_chained count (codes "SC__se")) em ∙ ap (λ k. map (name_of n) n.inputs ++ where_chained k (codes "SC__se")) ec) in
    let o : po ≡ outputs = eo ∙ ap (λ (k : Netlist). map (output_name k) k.outputs) em in
    let c : names ≡ map (map (name_of n)) chains = en ∙ ap (λ (k : Netlist). map (map (name_of k)) chains) em in
    ap (λ x. file x po names word items) i
    ∙ (ap (λ x. file inputs x names word items) o
    ∙ (ap (λ x. file inputs outputs x word items) c
    ∙ ap (λ x. file inputs outputs (map (map (name_of n)) chains) x items) ew))

pub filed : (n : Netlist) (holds : Holds) (chains : List (List ℕ)) (patterns : List Pattern) (items : List Item) (f : StilFile) → AreHoldsOf n holds → AreAll n chains patterns items
    → f ≡ file_with n holds chains items → IsFileOf n holds chains patterns f
filed n holds chains patterns items f held all e = record { held = held; responses = all.responses; respond = all.respond; is = e ∙ ap (file_with n holds chains) all.are }
