-- The names of a test's file are those of the pins of the scanned netlist.
use Rattle.std.proofs.Common.{◌≡◌, ◌∙◌, ◌+◌, ◌-◌, ◌<◌, ◌≤◌, ◌==◌, ltb, ℕ, zero, suc, Bool, true, false, cond, List, [], ◌∷◌, ◌++◌, ap, sym, refl, subst, inl, inr, length, map, drop, get_or, arith, codes, decimal, length-append}
use Rattle.std.specs.List.{All, Contains, list_any}
use Rattle.std.proofs.lemmas.Bool.{cases_lt, lt-ltb, le-ltb}
use Rattle.std.proofs.lemmas.List.{length-map, map-append, map_push, get_or-append_right, drop_at}
use Rattle.std.proofs.lemmas.List.Elements.{All-cons, All-nil, All-contains, All-weaker}
use Rattle.statement.specs.Benches.{Text}
use Rattle.statement.specs.Netlists.{Definition, Netlist, cells, is_cell, name_of, signals}
use Rattle.netlist.specs.Conditions.{IsSound}
use Rattle.netlist.specs.Designs.{IsDesign}
use Rattle.netlist.proofs.Placed.{signals_length}
use Rattle.scan_insert.specs.declared.sites.Site.{Site}
use Rattle.statement.specs.Runs.{numbers_from, output_name}
use Rattle.scan_insert.specs.Scan.{scanned}
use Rattle.scan_insert.specs.Scanned.{AreChainsOf, first_definition, first_scan_out, naming_of, own_site, site, sites_from, sites_of}
use Rattle.scan_insert.proofs.ByNames.{scanned_by_names, sites_have_names}
use Rattle.scan_insert.proofs.Numbers.{contains_numbers, length-numbers_from, then_one}
use Rattle.scan_insert.proofs.Placing.{length-sites_from, out_numbers, site_of_input}
use Rattle.scan_insert.proofs.Ready.{is_input, outputs_within}
use Rattle.scan_insert.proofs.Soundness.{scanned_is_sound}
use Rattle.statement.specs.Stils.{numbered}

numbered_is : (stem : Text) (k : ℕ) → numbered stem k ≡ map (λ c. stem ++ decimal c) (numbers_from 0 k)
numbered_is stem zero = refl
numbered_is stem (suc k) =
    let one : k + 1 ≡ suc k = omega arith in
    let at : k ≡ 0 + k = omega arith in
    ap (λ (l : List Text). l ++ (stem ++ decimal k) ∷ []) (numbered_is stem k)
    ∙ sym (ap (map (λ c. stem ++ decimal c)) (sym (then_one 0 k k at ∙ ap (numbers_from 0) one)) ∙ map_push (λ c. stem ++ decimal c) (numbers_from 0 k) k)

pub map_agree : {X Y : Type 0} (f g : X → Y) (xs : List X) → ((x : X) → Contains xs x → f x ≡ g x) → map f xs ≡ map g xs
map_agree f g [] h = refl
map_agree f g (x ∷ xs) h =
    ap (λ y. y ∷ map f xs) (h x (0, omega arith, refl)) ∙ ap (λ ys. g x ∷ ys) (map_agree f g xs (λ y c. h y (suc c.0, (let k = c.1 in omega (arith, k)), c.2)))

map-map : {X Y Z : Type 0} (f : X → Y) (g : Y → Z) (xs : List X) → map g (map f xs) ≡ map (λ x. g (f x)) xs
map-map f g [] = refl
map-map f g (x ∷ xs) = ap (λ ys. g (f x) ∷ ys) (map-map f g xs)

-- ---- where the signals stand

above_by : (b : Bool) (next : ℕ) (ds : List Definition) → All (λ (t : Site). next + 5 ≤ t.stem) (sites_from (next + 5) ds) → All (λ (t : Site). next + 1 ≤ t.stem) (sites_from (next + 1) ds)
    → All (λ (t : Site). next ≤ t.stem) (cond b (record { stem = next + 4; pins = next } ∷ sites_from (next + 5) ds) (own_site next ∷ sites_from (next + 1) ds))
above_by true next ds five one =
    All-cons (λ (t : Site). next ≤ t.stem) (record { stem = next + 4; pins = next }) (sites_from (next + 5) ds) (omega arith)
    (All-weaker (λ (t : Site). next + 5 ≤ t.stem) (λ (t : Site). next ≤ t.stem) (λ t h. omega (arith, h)) (sites_from (next + 5) ds) five)
above_by false next ds five one =
    All-cons (λ (t : Site). next ≤ t.stem) (own_site next) (sites_from (next + 1) ds) (omega arith)
    (All-weaker (λ (t : Site). next + 1 ≤ t.stem) (λ (t : Site). next ≤ t.stem) (λ t h. omega (arith, h)) (sites_from (next + 1) ds) one)

sites_above : (next : ℕ) (ds : List Definition) → All (λ (t : Site). next ≤ t.stem) (sites_from next ds)
sites_above next [] = All-nil (λ (t : Site). next ≤ t.stem)
sites_above next (d ∷ ds) = above_by (is_cell d) next ds (sites_above (next + 5) ds) (sites_above (next + 1) ds)

module _ (n : Netlist) (sound : IsSound n) (design : IsDesign n) (chain : List ℕ) (rest : List (List ℕ)) (are : AreChainsOf n (chain ∷ rest)) (some : 0 < length (cells n)) where
  abbrev s : Netlist
  s = scanned (naming_of n (chain ∷ rest)) n

  abbrev stem : ℕ → ℕ
  stem x = (site (sites_of n (chain ∷ rest)) x).stem

  abbrev shown : List ℕ
  shown = map (λ (p : ℕ × ℕ). p.0) (naming_of n (chain ∷ rest)).scan_out

  also_sound : IsSound s
  also_sound = scanned_is_sound n (chain ∷ rest) sound design are

  input_count : length s.inputs ≡ length n.inputs + 1 + length (chain ∷ rest)
  input_count =
      let a = length-append (map stem n.inputs) (length n.inputs ∷ numbers_from (length n.inputs + 1) (length (chain ∷ rest))) in
      let b = length-map n.inputs stem in
      let c = length-numbers_from (length n.inputs + 1) (length (chain ∷ rest)) in
      omega (arith, a, b, c)

  stem_input : (x : ℕ) → x < length n.inputs → stem x ≡ x
  stem_input x l = ap (λ (t : Site). t.stem) (site_of_input n sound.formed.numbered chain rest x l)

  stem_other : (x : ℕ) → length n.inputs ≤ x → x < length (signals n) → length n.inputs + length (chain ∷ rest) + 2 ≤ stem x
  stem_other x l w =
      let first = first_definition n (length (chain ∷ rest)) in
      let made = sites_from first n.definitions in
      let size : length made ≡ length n.definitions = length-sites_from first n.definitions in
      let all = signals_length n in
      let is : stem x ≡ (get_or made (x - length n.inputs) (own_site 0)).stem =
      ap (λ (t : Site). t.stem) (get_or-append_right (map own_site n.inputs) made (length n.inputs) x (own_site 0) (length-map n.inputs own_site) l) in
      let above : first ≤ (get_or made (x - length n.inputs) (own_site 0)).stem = sites_above first n.definitions (x - length n.inputs) (own_site 0) (omega (arith, size, all, l, w)) in
      omega (arith, is, above)

  same_side : (x : ℕ) → x < length (signals n) → ltb (stem x) (length s.inputs) ≡ ltb x (length n.inputs)
  same_side x w =
      let count = input_count in
      elim (cases_lt x (length n.inputs)) [
        | inl l ↦
            let e = stem_input x l in
            lt-ltb (stem x) (length s.inputs) (omega (arith, e, l, count)) ∙ sym (lt-ltb x (length n.inputs) l)
        | inr g ↦
            let far = stem_other x g w in
            le-ltb (stem x) (length s.inputs) (omega (arith, far, count)) ∙ sym (le-ltb x (length n.inputs) g)
      ]

  same_pin : (x : ℕ) → x < length (signals n) → Contains (signals n) x → output_name s (stem x) ≡ output_name n x
  same_pin x w c =
      let flag : list_any (λ y. y == stem x) s.inputs ≡ list_any (λ y. y == x) n.inputs = sym (is_input s also_sound (stem x)) ∙ (same_side x w ∙ is_input n sound x) in
      ap (λ b. cond b (codes "SC__o_" ++ name_of s (stem x)) (name_of s (stem x))) flag
      ∙ ap (λ (t : Text). cond (list_any (λ y. y == x) n.inputs) (codes "SC__o_" ++ t) t) ((sites_have_names n (chain ∷ rest) sound are).stems x c)

  own_pins : map (output_name s) (map stem n.outputs) ≡ map (output_name n) n.outputs
  own_pins =
      map-map stem (output_name s) n.outputs
      ∙ map_agree (λ x. output_name s (stem x)) (output_name n) n.outputs
      (λ x c. same_pin x (All-contains (λ y. y < length (signals n)) n.outputs x (outputs_within n sound (length (signals n)) refl) c) (All-contains (Contains (signals n)) n.outputs x sound.closed.outputs c))

  shown_name : (x : ℕ) → Contains shown x → output_name s x ≡ name_of s x
  shown_name x c =
      let at = contains_numbers (first_scan_out n (length (chain ∷ rest))) (length (chain ∷ rest)) x (subst (λ (xs : List ℕ). Contains xs x) (out_numbers n sound.formed.numbered chain rest) c) in
      let count = input_count in
      let far = at.2 in
      ap (λ b. cond b (codes "SC__o_" ++ name_of s x) (name_of s x)) (sym (is_input s also_sound x) ∙ le-ltb x (length s.inputs) (omega (arith, count, far)))

  shown_names : map (name_of s) shown ≡ map (λ c. codes "SC__so" ++ decimal c) (numbers_from 0 (length (chain ∷ rest)))
  shown_names =
      let ends = map (λ c. codes "SC__so" ++ decimal c) (numbers_from 0 (length (chain ∷ rest))) in
      let own = map (name_of s) (map stem n.outputs) in
      let size : length own ≡ length n.outputs = length-map (map stem n.outputs) (name_of s) ∙ length-map n.outputs stem in
      let all : own ++ map (name_of s) shown ≡ map (name_of n) n.outputs ++ ends =
      sym (map-append (name_of s) (map stem n.outputs) shown) ∙ (scanned_by_names n (chain ∷ rest) sound are some).outputs in
      sym (drop_at own (map (name_of s) shown) (length n.outputs) size) ∙ (ap (drop (length n.outputs)) all ∙ drop_at (map (name_of n) n.outputs) ends (length n.outputs) (length-map n.outputs (name_of n)))

  pub pins_are : map (output_name s) s.outputs ≡ map (output_name n) n.outputs ++ numbered (codes "SC__so") (length (chain ∷ rest))
  pins_are =
      map-append (output_name s) (map stem n.outputs) shown
      ∙ (ap (λ (xs : List Text). xs ++ map (output_name s) shown) own_pins
      ∙ ap (λ (xs : List Text). map (output_name n) n.outputs ++ xs) (map_agree (output_name s) (name_of s) shown shown_name ∙ (shown_names ∙ sym (numbered_is (codes "SC__so") (length (chain ∷ rest))))))

  pub inputs_are : map (name_of s) s.inputs ≡ map (name_of n) n.inputs ++ codes "SC__se" ∷ numbered (codes "SC__si") (length (chain ∷ rest))
  inputs_are =
      (scanned_by_names n (chain ∷ rest) sound are some).inputs ∙ ap (λ (xs : List Text). map (name_of n) n.inputs ++ codes "SC__se" ∷ xs) (sym (numbered_is (codes "SC__si") (length (chain ∷ rest))))
