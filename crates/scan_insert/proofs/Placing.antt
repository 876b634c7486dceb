-- Where the signals of the original stand: each definition at the next number, a cell at five.
use Rattle.std.proofs.Common.{◌≡◌, ℕ, suc, ◌+◌, ◌*◌, ◌<◌, Bool, true, false, cond, List, [], ◌∷◌, ◌++◌, map, length, get_or, refl, sym, ◌∙◌, ap, arith, length-append}
use Rattle.std.specs.List.{AllZip, filter, flat_map, zip}
use Rattle.std.proofs.lemmas.List.{get_or-map, get_or_default, get_or_append_left, get_or-append_right, map-append, map-id, length-map}
use Rattle.statement.specs.Netlists.{Definition, Netlist, is_cell, cells, signals}
use Rattle.netlist.specs.Netlist.{define}
use Rattle.netlist.specs.Conditions.{IsNumbered}
use Rattle.netlist.proofs.Lists.{map_map, map_agree}
use Rattle.netlist.proofs.Placed.{id_at}
use Rattle.netlist.proofs.Settling.{zip_from}
use Rattle.scan_insert.specs.declared.sites.Site.{Site}
use Rattle.statement.specs.Runs.{numbers_from}
use Rattle.scan_insert.specs.Scan.{Naming, scan_cell, scan_definition, show_last, scanned}
use Rattle.scan_insert.specs.Scanned.{own_site, sites_from, first_definition, first_scan_out, sites_of, site, last_of, naming_of}
use Rattle.scan_insert.proofs.Numbers.{length-numbers_from, numbers_from-append, numbers_from_places, places_from_numbers}

pub length-sites_from : (next : ℕ) (ds : List Definition) → length (sites_from next ds) ≡ length ds
length-sites_from next [] = refl
length-sites_from next (d ∷ ds) =
    let step : (b : Bool) → length (cond b (record { stem = next + 4; pins = next } ∷ sites_from (next + 5) ds) (own_site next ∷ sites_from (next + 1) ds)) ≡ suc (length ds) =
    elim [ true ↦ ap suc (length-sites_from (next + 5) ds) | false ↦ ap suc (length-sites_from (next + 1) ds) ] in
    step (is_cell d)

-- how many numbers the definitions take
abbrev pub width : List Definition → ℕ
width [] = 0
width (d ∷ ds) = cond (is_cell d) (suc (suc (suc (suc (suc (width ds)))))) (suc (width ds))

pub width_is : (ds : List Definition) → width ds ≡ length ds + 4 * length (filter is_cell ds)
width_is [] = refl
width_is (d ∷ ds) =
    let step : (b : Bool) → cond b (suc (suc (suc (suc (suc (width ds)))))) (suc (width ds)) ≡ suc (length ds) + 4 * length (cond b (d ∷ filter is_cell ds) (filter is_cell ds)) =
    elim [ true ↦ omega (arith, width_is ds) | false ↦ omega (arith, width_is ds) ] in
    step (is_cell d)

-- a naming by sites
pub record IsBySites (s : Naming) (sites : List Site) : Type 0 where
  pub stem : (x : ℕ) → s.stem x ≡ (site sites x).stem
  pub pins : (x : ℕ) → s.pins x ≡ (site sites x).pins
  pub shifted : (x : ℕ) → s.shifted x ≡ (site sites x).pins + 1
  pub chosen : (x : ℕ) → s.chosen x ≡ (site sites x).pins + 2
  pub held : (x : ℕ) → s.held x ≡ (site sites x).pins + 3

five : (next w : ℕ) (a b c d e : ℕ) (r : List ℕ) → a ≡ next → b ≡ next + 1 → c ≡ next + 2 → d ≡ next + 3 → e ≡ next + 4 → r ≡ numbers_from (next + 5) w
    → a ∷ b ∷ c ∷ d ∷ e ∷ r ≡ numbers_from next (suc (suc (suc (suc (suc w)))))
five next w a b c d e r p q t u v h =
    let q' : b ≡ next + 1 = q in
    let t' : c ≡ next + 1 + 1 = omega arith in
    let u' : d ≡ next + 1 + 1 + 1 = omega arith in
    let v' : e ≡ next + 1 + 1 + 1 + 1 = omega arith in
    let same : next + 5 ≡ next + 1 + 1 + 1 + 1 + 1 = omega arith in
    let h' : r ≡ numbers_from (next + 1 + 1 + 1 + 1 + 1) w = h ∙ ap (λ x. numbers_from x w) same in
    cc

-- the definitions of the scanned netlist have the next numbers
pub definition_numbers : (s : Naming) (sites : List Site) (next : ℕ) (ds : List Definition) → IsBySites s sites
    → AllZip (λ (d : Definition) (t : Site). site sites d.id ≡ t) ds (sites_from next ds)
    → map (λ (d : Definition). d.id) (flat_map (scan_definition s) ds) ≡ numbers_from next (width ds)
definition_numbers s sites next [] by h = refl
definition_numbers s sites next (d ∷ ds) by h =
    let id : Definition → ℕ = λ e. e.id in
    let R : Definition → Site → Type 0 = λ e t. site sites e.id ≡ t in
    let step : (b : Bool) → AllZip R (d ∷ ds) (cond b (record { stem = next + 4; pins = next } ∷ sites_from (next + 5) ds) (own_site next ∷ sites_from (next + 1) ds))
    → map id (cond b (scan_cell s d) (define (s.stem d.id) d.kind (map s.stem d.pins) ∷ [])) ++ map id (flat_map (scan_definition s) ds)
    ≡ numbers_from next (cond b (suc (suc (suc (suc (suc (width ds)))))) (suc (width ds))) =
    elim [
      | true ↦ λ k.
          let here : site sites d.id ≡ record { stem = next + 4; pins = next } = k.0 in
          let stem : s.stem d.id ≡ next + 4 = by.stem d.id ∙ ap (λ (t : Site). t.stem) here in
          let pins : (site sites d.id).pins ≡ next = ap (λ (t : Site). t.pins) here in
          five next (width ds) (s.pins d.id) (s.shifted d.id) (s.chosen d.id) (s.held d.id) (s.stem d.id) (map id (flat_map (scan_definition s) ds))
          (by.pins d.id ∙ pins) (by.shifted d.id ∙ ap (λ x. x + 1) pins) (by.chosen d.id ∙ ap (λ x. x + 2) pins) (by.held d.id ∙ ap (λ x. x + 3) pins) stem
          (definition_numbers s sites (next + 5) ds by k.1)
      | false ↦ λ k.
          let here : site sites d.id ≡ own_site next = k.0 in
          let stem : s.stem d.id ≡ next = by.stem d.id ∙ ap (λ (t : Site). t.stem) here in
          let rest = definition_numbers s sites (next + 1) ds by k.1 in
          cc
    ] in
    map-append id (scan_definition s d) (flat_map (scan_definition s) ds) ∙ step (is_cell d) h

firsts : {X Y : Type 0} (xs : List X) (ys : List Y) → length xs ≡ length ys → map (λ (p : X × Y). p.0) (zip xs ys) ≡ xs
firsts [] [] e = refl
firsts [] (y ∷ ys) e = refl
firsts (x ∷ xs) [] e = absurd (omega (arith, e))
firsts (x ∷ xs) (y ∷ ys) e = ap (λ r. x ∷ r) (firsts xs ys (omega (arith, e)))

pub seconds : {X Y : Type 0} (xs : List X) (ys : List Y) → length xs ≡ length ys → map (λ (p : X × Y). p.1) (zip xs ys) ≡ ys
seconds [] [] e = refl
seconds [] (y ∷ ys) e = absurd (omega (arith, e))
seconds (x ∷ xs) [] e = refl
seconds (x ∷ xs) (y ∷ ys) e = ap (λ r. y ∷ r) (seconds xs ys (omega (arith, e)))

pub length-zip : {X Y : Type 0} (xs : List X) (ys : List Y) → length xs ≡ length ys → length (zip xs ys) ≡ length xs
length-zip xs ys e = sym (length-map (zip xs ys) (λ p. p.0)) ∙ ap length (firsts xs ys e)

module _ (n : Netlist) (numbered : IsNumbered n) (chain : List ℕ) (rest : List (List ℕ)) where
  -- `count` chains
  count : ℕ
  count = length (chain ∷ rest)

  pub by_sites : IsBySites (naming_of n (chain ∷ rest)) (sites_of n (chain ∷ rest))
  by_sites = record { stem = λ x. refl; pins = λ x. refl; shifted = λ x. refl; chosen = λ x. refl; held = λ x. refl }

  -- an input stays where it is
  pub site_of_input : (x : ℕ) → x < length n.inputs → site (sites_of n (chain ∷ rest)) x ≡ own_site x
  site_of_input x l =
      let is : get_or n.inputs x 0 ≡ x =
      sym (get_or_append_left n.inputs (map (λ (d : Definition). d.id) n.definitions) 0 x l) ∙ numbered x (omega (arith, length-append n.inputs (map (λ (d : Definition). d.id) n.definitions))) in
      get_or_append_left (map own_site n.inputs) (sites_from (first_definition n (length (chain ∷ rest))) n.definitions) (own_site 0) x (omega (arith, length-map n.inputs own_site))
      ∙ (get_or-map own_site n.inputs x 0 (own_site 0) l ∙ ap own_site is)

  pub sites_of_definitions : AllZip (λ (d : Definition) (t : Site). site (sites_of n (chain ∷ rest)) d.id ≡ t) n.definitions
      (sites_from (first_definition n (length (chain ∷ rest))) n.definitions)
  sites_of_definitions =
      let made = sites_from (first_definition n (length (chain ∷ rest))) n.definitions in
      let size : length made ≡ length n.definitions = length-sites_from (first_definition n (length (chain ∷ rest))) n.definitions in
      zip_from (λ (d : Definition) (t : Site). site (sites_of n (chain ∷ rest)) d.id ≡ t) n.definitions made (sym size)
      (λ k d t l.
      let is : (get_or n.definitions k d).id ≡ length n.inputs + k = id_at n numbered k d l in
      ap (λ x. get_or (map own_site n.inputs ++ made) x (own_site 0)) is
      ∙ (get_or-append_right (map own_site n.inputs) made (length n.inputs) (length n.inputs + k) (own_site 0) (length-map n.inputs own_site) (omega arith)
      ∙ (ap (λ x. get_or made x (own_site 0)) (omega arith) ∙ get_or_default made k (own_site 0) t (omega arith))))

  -- the scan outputs have the last numbers
  pub out_numbers : map (λ (p : ℕ × ℕ). p.0) (naming_of n (chain ∷ rest)).scan_out ≡ numbers_from (first_scan_out n (length (chain ∷ rest))) (length (chain ∷ rest))
  out_numbers =
      let c = length (chain ∷ rest) in
      firsts (numbers_from (first_scan_out n c) c) (map (λ (q : List ℕ). (naming_of n (chain ∷ rest)).held (last_of q)) (chain ∷ rest))
      (length-numbers_from (first_scan_out n c) c ∙ sym (length-map (chain ∷ rest) (λ (q : List ℕ). (naming_of n (chain ∷ rest)).held (last_of q))))

  input_numbers : map (naming_of n (chain ∷ rest)).stem n.inputs ≡ numbers_from 0 (length n.inputs)
  input_numbers =
      let places : (k : ℕ) → k < length n.inputs → get_or n.inputs k 0 ≡ k = λ k l.
      sym (get_or_append_left n.inputs (map (λ (d : Definition). d.id) n.definitions) 0 k l) ∙ numbered k (omega (arith, length-append n.inputs (map (λ (d : Definition). d.id) n.definitions))) in
      map_agree (naming_of n (chain ∷ rest)).stem (λ x. x) n.inputs
      (λ k d l.
      let is : get_or n.inputs k d ≡ k = get_or_default n.inputs k d 0 l ∙ places k l in
      ap (naming_of n (chain ∷ rest)).stem is ∙ (ap (λ (t : Site). t.stem) (site_of_input k l) ∙ sym is))
      ∙ (map-id n.inputs ∙ numbers_from_places n.inputs places)

  -- the signals of the scanned netlist are numbered in order
  pub scanned_numbers : signals (scanned (naming_of n (chain ∷ rest)) n) ≡ numbers_from 0 (first_scan_out n (length (chain ∷ rest)) + length (chain ∷ rest))
  scanned_numbers =
      let s : Naming = naming_of n (chain ∷ rest) in
      let id : Definition → ℕ = λ d. d.id in
      let i = length n.inputs in
      let c = length (chain ∷ rest) in
      let w = width n.definitions in
      let first = first_definition n c in
      let wide : w ≡ length n.definitions + 4 * length (cells n) = width_is n.definitions in
      let shows : map id (map show_last s.scan_out) ≡ numbers_from (first + w) c =
      map_map show_last id s.scan_out
      ∙ (out_numbers
      ∙ ap (λ x. numbers_from x c) (let e : first_scan_out n c ≡ first + w = omega arith in e)) in
      let made : map id (flat_map (scan_definition s) n.definitions ++ map show_last s.scan_out) ≡ numbers_from first (w + c) =
      map-append id (flat_map (scan_definition s) n.definitions) (map show_last s.scan_out)
      ∙ (ap (λ r. r ++ map id (map show_last s.scan_out)) (definition_numbers s (sites_of n (chain ∷ rest)) first n.definitions by_sites sites_of_definitions)
      ∙ (ap (λ r. numbers_from first w ++ r) shows
      ∙ numbers_from-append first (first + w) w c refl)) in
      let behind : s.enable_not ∷ map id (flat_map (scan_definition s) n.definitions ++ map show_last s.scan_out) ≡ numbers_from (i + 1 + c) (suc (w + c)) =
      ap (λ r. (i + 1 + c) ∷ r) (made ∙ ap (λ x. numbers_from x (w + c)) (let e : first ≡ i + 1 + c + 1 = omega arith in e)) in
      let before : map s.stem n.inputs ++ s.enable ∷ s.scan_in ≡ numbers_from 0 (i + suc c) =
      ap (λ r. r ++ s.enable ∷ s.scan_in) input_numbers ∙ numbers_from-append 0 i i (suc c) (let e : i ≡ 0 + i = omega arith in e) in
      ap (λ r. r ++ s.enable_not ∷ map id (flat_map (scan_definition s) n.definitions ++ map show_last s.scan_out)) before
      ∙ (ap (λ r. numbers_from 0 (i + suc c) ++ r) behind
      ∙ (numbers_from-append 0 (i + 1 + c) (i + suc c) (suc (w + c)) (omega arith)
      ∙ ap (numbers_from 0) (let e : i + suc c + suc (w + c) ≡ first_scan_out n c + c = omega arith in e)))

  pub scanned_numbered : IsNumbered (scanned (naming_of n (chain ∷ rest)) n)
  scanned_numbered = places_from_numbers (scanned (naming_of n (chain ∷ rest)) n) (first_scan_out n (length (chain ∷ rest)) + length (chain ∷ rest)) scanned_numbers
