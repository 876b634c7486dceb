-- Bursts that are loads and captures.
use Rattle.std.proofs.Common.{◌≡◌, ℕ, suc, zero, ◌+◌, ◌*◌, ◌<◌, ◌≤◌, Bool, false, true, List, [], ◌∷◌, ◌++◌, map, length, take, drop, replicate, refl, ◌∙◌, ap, subst, arith}
use Rattle.std.specs.List.{flat_map}
use Rattle.std.proofs.lemmas.List.{length-map, append_assoc, append-nil}
use Rattle.statement.specs.declared.kinds.Tri.{Tri}
use Rattle.statement.specs.declared.kinds.Tri.TheVariants.{X}
use Rattle.statement.specs.Netlists.{Netlist}
use Rattle.statement.specs.Patterns.{Holds}
use Rattle.statement.specs.Tests.{longest_of, by_chain, column, word_in, word_out}
use Rattle.statement.specs.Runs.{numbers_from, Cycle}
use Rattle.scan_play.specs.Shifts.{idle_inputs, shift, load}
use Rattle.scan_play.specs.Bursts.{cycle_at}
use Rattle.scan_play.proofs.Loads.{length-column, length-by_chain}
use Rattle.scan_play.proofs.LoadLemmas.{length-flat, row_of_flat}

pub enough : {V : Type 0} (f : ℕ → List V) (items : List V) (count width w : ℕ) → items ≡ flat_map f (numbers_from 0 count) → width ≡ w → ((t : ℕ) → length (f t) ≡ w) → count * width ≤ length items
enough f items count width w is e h =
    let size : length items ≡ count * w = ap length is ∙ length-flat f w 0 count h in
    let same : count * width ≡ count * w = ap (λ k. count * k) e in
    omega arith

pub map_numbers : (f g : ℕ → Cycle) (first count : ℕ) → ((t : ℕ) → t < count → f (first + t) ≡ g (first + t)) → map f (numbers_from first count) ≡ map g (numbers_from first count)
map_numbers f g first zero h = refl
map_numbers f g first (suc count) h =
    let none : first + 0 ≡ first = omega arith in
    let here : f first ≡ g first = subst (λ k. f k ≡ g k) none (h 0 (omega arith)) in
    let on : (t : ℕ) → t < count → f (first + 1 + t) ≡ g (first + 1 + t) = λ t l.
    let at : first + suc t ≡ first + 1 + t = omega arith in subst (λ k. f k ≡ g k) at (h (suc t) (omega (arith, l))) in
    ap (λ x. x ∷ map f (numbers_from (first + 1) count)) here ∙ ap (λ xs. g first ∷ xs) (map_numbers f g (first + 1) count on)

pub column_width : {V : Type 0} (z : V) (word : List V → List V) (chains : List (List ℕ)) (values : List V) (t : ℕ) → length (column z (map word (by_chain chains values)) t) ≡ length chains
column_width z word chains values t = length-column z (map word (by_chain chains values)) t ∙ (length-map (by_chain chains values) word ∙ length-by_chain chains values)

cycle : List Bool → List Tri → Bool → Cycle
cycle d s p = record { drive = d; strobe = s; pulse = p }

pub same_cycle : (d d' : List Bool) (s s' : List Tri) (p p' : Bool) → d ≡ d' → s ≡ s' → p ≡ p' → ◌≡◌ {A = Cycle} (record { drive = d; strobe = s; pulse = p }) (record { drive = d'; strobe = s'; pulse = p' })
unfolding cycle
same_cycle d d' s s' p p' x y z = ap (λ u. cycle u s p) x ∙ (ap (λ u. cycle d' u p) y ∙ ap (cycle d' s') z)

module _ (drive : List Bool) (strobe : List Tri) (pulse : Bool) (width count : ℕ) (ins : List Bool) (outs : List Tri) where
  pub load_cycles : (n : Netlist) (holds : Holds) (chains : List (List ℕ)) (bits : List Bool) (held : List Tri)
      → drive ≡ idle_inputs holds ++ true ∷ [] → strobe ≡ replicate (length n.outputs) X → pulse ≡ true → width ≡ length chains → count ≡ longest_of chains
      → ins ≡ flat_map (column false (map (word_in count) (by_chain chains bits))) (numbers_from 0 count)
      → outs ≡ flat_map (column X (map (word_out count) (by_chain chains held))) (numbers_from 0 count)
      → map (cycle_at drive strobe pulse width ins outs) (numbers_from 0 count) ≡ load n holds chains bits held
  load_cycles n holds chains bits held is_drive is_strobe is_pulse is_width is_count is_ins is_outs =
      let m = count in
      let fin : ℕ → List Bool = column false (map (word_in m) (by_chain chains bits)) in
      let fout : ℕ → List Tri = column X (map (word_out m) (by_chain chains held)) in
      let one : (t : ℕ) → t < m
      → cycle_at drive strobe pulse width ins outs (0 + t) ≡ shift n holds (map (word_in m) (by_chain chains bits)) (map (word_out m) (by_chain chains held)) (0 + t) = λ t l.
      let k : 0 + t ≡ t = omega arith in
      let in_row : take width (drop ((0 + t) * width) ins) ≡ fin (0 + t) =
      ap (λ w. take w (drop ((0 + t) * w) ins)) is_width
      ∙ (ap (λ x. take (length chains) (drop ((0 + t) * length chains) x)) is_ins
      ∙ (ap (λ j. take (length chains) (drop (j * length chains) (flat_map fin (numbers_from 0 m)))) k
      ∙ row_of_flat fin (length chains) 0 m t (column_width false (word_in m) chains bits) l)) in
      let out_row : take width (drop ((0 + t) * width) outs) ≡ fout (0 + t) =
      ap (λ w. take w (drop ((0 + t) * w) outs)) is_width
      ∙ (ap (λ x. take (length chains) (drop ((0 + t) * length chains) x)) is_outs
      ∙ (ap (λ j. take (length chains) (drop (j * length chains) (flat_map fout (numbers_from 0 m)))) k
      ∙ row_of_flat fout (length chains) 0 m t (column_width X (word_out m) chains held) l)) in
      let driven : drive ++ take width (drop ((0 + t) * width) ins) ≡ idle_inputs holds ++ true ∷ fin (0 + t) =
      ap (λ x. x ++ take width (drop ((0 + t) * width) ins)) is_drive
      ∙ (ap (λ x. idle_inputs holds ++ true ∷ [] ++ x) in_row
      ∙ append_assoc (idle_inputs holds) (true ∷ []) (fin (0 + t))) in
      let strobed : strobe ++ take width (drop ((0 + t) * width) outs) ≡ replicate (length n.outputs) X ++ fout (0 + t) =
      ap (λ x. x ++ take width (drop ((0 + t) * width) outs)) is_strobe ∙ ap (λ x. replicate (length n.outputs) X ++ x) out_row in
      same_cycle _ _ _ _ _ _ driven strobed is_pulse in
      map_numbers (cycle_at drive strobe pulse width ins outs) (shift n holds (map (word_in m) (by_chain chains bits)) (map (word_out m) (by_chain chains held))) 0 m one
      ∙ ap (λ j. map (shift n holds (map (word_in j) (by_chain chains bits)) (map (word_out j) (by_chain chains held))) (numbers_from 0 j)) is_count

  pub one_cycle : (c : Cycle) → drive ≡ c.drive → strobe ≡ c.strobe → pulse ≡ c.pulse → width ≡ 0 → count ≡ 1 → map (cycle_at drive strobe pulse width ins outs) (numbers_from 0 count) ≡ c ∷ []
  one_cycle c is_drive is_strobe is_pulse is_width is_count =
      ap (λ k. map (cycle_at drive strobe pulse width ins outs) (numbers_from 0 k)) is_count
      ∙ ap (λ x. x ∷ [])
      (same_cycle _ _ _ _ _ _ (ap (λ w. drive ++ take w (drop (0 * width) ins)) is_width ∙ (append-nil drive ∙ is_drive))
      (ap (λ w. strobe ++ take w (drop (0 * width) outs)) is_width ∙ (append-nil strobe ∙ is_strobe)) is_pulse)
