-- The names of a scanned design's pins at a tester.
use Rattle.std.proofs.Common.{◌≡◌, ◌≢◌, ℕ, ◌<◌, ◌≤◌, ◌==◌, ◌^◌, ◌||◌, Bool, true, false, cond, List, [], ◌∷◌, ◌++◌, map, length, get_or, drop, codes, decimal, refl, sym, ◌∙◌, ap, subst, inl, inr, arith, length-append}
use Rattle.std.specs.List.{AllPairs, Contains, list_any}
use Rattle.std.proofs.lemmas.Fmt.{length-decimal-le}
use Rattle.std.proofs.lemmas.Bool.{both_ways, cases_order, eq-eqb}
use Rattle.std.proofs.lemmas.List.{length-map, get_or-map, get_or_append_left, get_or_default}
use Rattle.std.proofs.lemmas.List.Kept.{AllPairs-cons}
use Rattle.std.proofs.lemmas.List.Elements.{All-contains, Contains-append_cases, Contains-append_left, Contains-get_or}
use Rattle.statement.specs.Netlists.{IsName, Definition, Netlist, name_of, signals}
use Rattle.netlist.specs.Conditions.{IsSound}
use Rattle.netlist.specs.Designs.{IsDesign, is_reserved}
use Rattle.netlist.proofs.Lists.{All-from_contains, contains_cases, contains_map, contains_nil}
use Rattle.scan_insert.specs.Names.{names_of}
use Rattle.statement.specs.Runs.{numbers_from, output_name}
use Rattle.scan_insert.specs.Scan.{scanned}
use Rattle.scan_insert.specs.Scanned.{naming_of, scanned_of}
use Rattle.scan_insert.proofs.Namings.{Origin, Original, Enable, EnableNot, ScanIn, ScanOut, Captured, Shifted, Chosen, Held}
use Rattle.scan_insert.specs.Named.{tester_names, HasTesterNames, TesterNamesDiffer}
use Rattle.scan_insert.proofs.ByNames.{scan_names}
use Rattle.scan_insert.proofs.Loopless.{map_contains}
use Rattle.scan_insert.proofs.Concrete.{AreDealt, are_dealt}
use Rattle.scan_insert.proofs.Numbers.{contains_numbers}
use Rattle.scan_insert.proofs.Origins.{origins}
use Rattle.scan_insert.proofs.SignalNames.{origin_name, names_of_origins, valid_origin, IsValid}
use Rattle.scan_insert.proofs.Soundness.{pairs_append, pairs_map, few_chains, scanned_sound}

-- ---- names that no signal has

-- neither the clock's name, nor that of the pin at an output that is an input too
pub record IsOpen (name : List ℕ) : Type 0 where
  pub clock : name ≢ codes "SC__ck"
  pub pin : (x : List ℕ) → name ≢ codes "SC__o_" ++ x

unreserved_open : (name : List ℕ) → is_reserved name ≡ false → IsOpen name
unreserved_open name u = record {
  clock = λ e. both_ways true (sym (ap is_reserved e) ∙ u) refl;
  pin = λ x e. both_ways true (sym (ap is_reserved e) ∙ u) refl;
}

-- by the fifth byte, or the sixth
other_byte : (name : List ℕ) (k x : ℕ) → get_or name k 0 ≡ x → (x ≡ get_or (codes "SC__ck") k 0 → ⊥) → (x ≡ get_or (codes "SC__o_") k 0 → ⊥)
    → ((y : List ℕ) → get_or (codes "SC__o_" ++ y) k 0 ≡ get_or (codes "SC__o_") k 0) → IsOpen name
other_byte name k x is clock pin same = record {
  clock = λ e. clock (sym is ∙ ap (λ l. get_or l k 0) e);
  pin = λ y e. pin (sym is ∙ (ap (λ l. get_or l k 0) e ∙ same y));
}

origin_open : (n : Netlist) → ((x : ℕ) → x < length n.names → is_reserved (name_of n x) ≡ false) → (o : Origin) → ((x : ℕ) → o ≡ Original x → x < length n.names) → IsOpen (origin_name n o)
origin_open n free (Original x) h = unreserved_open (name_of n x) (free x (h x refl))
origin_open n free Enable h = other_byte (codes "SC__se") 4 115 refl (λ e. omega (arith, e)) (λ e. omega (arith, e)) (λ y. refl)
origin_open n free EnableNot h = other_byte (codes "SC__nse") 4 110 refl (λ e. omega (arith, e)) (λ e. omega (arith, e)) (λ y. refl)
origin_open n free (ScanIn c) h = other_byte (codes "SC__si" ++ decimal c) 4 115 refl (λ e. omega (arith, e)) (λ e. omega (arith, e)) (λ y. refl)
origin_open n free (ScanOut c) h = other_byte (codes "SC__so" ++ decimal c) 4 115 refl (λ e. omega (arith, e)) (λ e. omega (arith, e)) (λ y. refl)
origin_open n free (Captured q) h = other_byte (codes "SC__a_" ++ name_of n q) 4 97 refl (λ e. omega (arith, e)) (λ e. omega (arith, e)) (λ y. refl)
origin_open n free (Shifted q) h = other_byte (codes "SC__b_" ++ name_of n q) 4 98 refl (λ e. omega (arith, e)) (λ e. omega (arith, e)) (λ y. refl)
origin_open n free (Chosen q) h = other_byte (codes "SC__d_" ++ name_of n q) 4 100 refl (λ e. omega (arith, e)) (λ e. omega (arith, e)) (λ y. refl)
origin_open n free (Held q) h = other_byte (codes "SC__s_" ++ name_of n q) 4 115 refl (λ e. omega (arith, e)) (λ e. omega (arith, e)) (λ y. refl)

-- ---- a netlist whose names are open

passes_here : (xs : List ℕ) (x : ℕ) → Contains xs x → list_any (λ y. y == x) xs ≡ true
passes_here [] x c = absurd (contains_nil x c)
passes_here (y ∷ ys) x c =
    let L = list_any (λ z. z == x) ys in
    let behind : (b : Bool) → L ≡ true → (b || L) ≡ true = elim [ true ↦ λ h. refl | false ↦ λ h. h ] in
    elim (contains_cases y x ys c) [
      | inl e ↦ ap (λ b. b || L) (eq-eqb y x e)
      | inr r ↦ behind (y == x) (passes_here ys x r)
    ]

module _ (s : Netlist) (sound : IsSound s) (opens : (x : ℕ) → x < length s.names → IsOpen (name_of s x))
    (short : (x : ℕ) → Contains s.outputs x → length (name_of s x) ≤ 255) where
  same_name : (x y : ℕ) → x < length s.names → y < length s.names → name_of s x ≡ name_of s y → x ≡ y
  same_name x y v w e = elim (cases_order x y) [
    | inl same ↦ same
    | inr r ↦ elim r [
      | inl l ↦ absurd (sound.formed.distinct x y [] l w e)
      | inr g ↦ absurd (sound.formed.distinct y x [] g v (sym e))
    ]
  ]

  input_there : (x : ℕ) → Contains s.inputs x → x < length s.names
  input_there x c = sound.formed.named x (Contains-append_left s.inputs (map (λ (d : Definition). d.id) s.definitions) x c)

  output_there : (x : ℕ) → Contains s.outputs x → x < length s.names
  output_there x c = sound.formed.named x (All-contains (Contains (signals s)) s.outputs x sound.closed.outputs c)

  inputs_differ : AllPairs (λ x y. x ≢ y) s.inputs
  inputs_differ i j d l m same =
      let ids = map (λ (e : Definition). e.id) s.definitions in
      let at : (k : ℕ) → k < length s.inputs → get_or s.inputs k d ≡ k = λ k w.
      let wide : k < length (s.inputs ++ ids) = omega (arith, length-append s.inputs ids) in
      sym (get_or_append_left s.inputs ids d k w) ∙ (sym (get_or_default (s.inputs ++ ids) k 0 d wide) ∙ sound.formed.numbered k wide) in
      let a = at i (omega arith) in
      let b = at j m in
      omega arith

  -- the name at an output, by whether the output is an input too
  at_output : (b : Bool) (x : ℕ) → List ℕ
  at_output b x = cond b (codes "SC__o_" ++ name_of s x) (name_of s x)

  one_output : (b c : Bool) (x y : ℕ) → Contains s.outputs x → Contains s.outputs y → at_output b x ≡ at_output c y → x ≡ y
  unfolding at_output
  one_output true true x y v w e = same_name x y (output_there x v) (output_there y w) (ap (drop 6) e)
  one_output true false x y v w e = absurd ((opens y (output_there y w)).pin (name_of s x) (sym e))
  one_output false true x y v w e = absurd ((opens x (output_there x v)).pin (name_of s y) e)
  one_output false false x y v w e = same_name x y (output_there x v) (output_there y w) e

  input_beside_output : (b : Bool) (x y : ℕ) → list_any (λ z. z == y) s.inputs ≡ b → Contains s.inputs x → Contains s.outputs y → name_of s x ≢ at_output b y
  unfolding at_output
  input_beside_output true x y is v w e = (opens x (input_there x v)).pin (name_of s y) e
  input_beside_output false x y is v w e =
      let same = same_name x y (input_there x v) (output_there y w) e in
      both_ways (list_any (λ z. z == y) s.inputs) is (passes_here s.inputs y (subst (Contains s.inputs) same v))

  clock_beside_output : (b : Bool) (y : ℕ) → Contains s.outputs y → codes "SC__ck" ≢ at_output b y
  unfolding at_output
  clock_beside_output true y w e = let f = ap (λ l. get_or l 4 0) e in omega (arith, f)
  clock_beside_output false y w e = (opens y (output_there y w)).clock (sym e)

  output_size : (b : Bool) (y : ℕ) → Contains s.outputs y → (0 < length (at_output b y)) × (length (at_output b y) ≤ 261)
  unfolding at_output
  output_size true y w = (omega (arith, length-append (codes "SC__o_") (name_of s y)), omega (arith, length-append (codes "SC__o_") (name_of s y), short y w))
  output_size false y w = let m : IsName (name_of s y) = sound.formed.names y [] (output_there y w) in (m.some, m.short)

  outputs_apart : AllPairs (λ x y. x ≢ y) (map (output_name s) s.outputs)
  unfolding at_output
  outputs_apart = pairs_map (output_name s) s.outputs 0 sound.formed.once
      (λ x y v w e. one_output (list_any (λ z. z == x) s.inputs) (list_any (λ z. z == y) s.inputs) x y v w e)

  clock_and_outputs : AllPairs (λ x y. x ≢ y) (codes "SC__ck" ∷ map (output_name s) s.outputs)
  unfolding at_output
  clock_and_outputs = AllPairs-cons (λ x y. x ≢ y) (codes "SC__ck") (map (output_name s) s.outputs)
      (All-from_contains (λ y. codes "SC__ck" ≢ y) (map (output_name s) s.outputs)
      (λ y c.
      let m = contains_map (output_name s) s.outputs y c in
      λ e. clock_beside_output (list_any (λ z. z == m.0) s.inputs) m.0 m.1 (e ∙ sym m.2)))
      outputs_apart

  input_and_others : (x y : List ℕ) → Contains (map (name_of s) s.inputs) x → Contains (codes "SC__ck" ∷ map (output_name s) s.outputs) y → x ≢ y
  unfolding at_output
  input_and_others x y c h e =
      let m = contains_map (name_of s) s.inputs x c in
      elim (contains_cases (codes "SC__ck") y (map (output_name s) s.outputs) h) [
        | inl k ↦ (opens m.0 (input_there m.0 m.1)).clock (m.2 ∙ (e ∙ sym k))
        | inr k ↦
            let w = contains_map (output_name s) s.outputs y k in
            input_beside_output (list_any (λ z. z == w.0) s.inputs) m.0 w.0 refl m.1 w.1 (m.2 ∙ (e ∙ sym w.2))
      ]

  size_of : (x : List ℕ) → Contains (tester_names s) x → (0 < length x) × (length x ≤ 261)
  unfolding at_output
  size_of x c = elim (Contains-append_cases (map (name_of s) s.inputs) (codes "SC__ck" ∷ map (output_name s) s.outputs) x c) [
    | inl i ↦
        let m = contains_map (name_of s) s.inputs x i in
        let is : IsName (name_of s m.0) = sound.formed.names m.0 [] (input_there m.0 m.1) in
        subst (λ (l : List ℕ). (0 < length l) × (length l ≤ 261)) m.2 (is.some, is.short)
    | inr r ↦ elim (contains_cases (codes "SC__ck") x (map (output_name s) s.outputs) r) [
      | inl k ↦ subst (λ (l : List ℕ). (0 < length l) × (length l ≤ 261)) k (omega arith, omega arith)
      | inr k ↦
          let m = contains_map (output_name s) s.outputs x k in
          subst (λ (l : List ℕ). (0 < length l) × (length l ≤ 261)) m.2 (output_size (list_any (λ z. z == m.0) s.inputs) m.0 m.1)
    ]
  ]

  pub tester_names_of : HasTesterNames s
  tester_names_of = record {
    distinct = pairs_append (λ x y. x ≢ y) (map (name_of s) s.inputs) (codes "SC__ck" ∷ map (output_name s) s.outputs)
        (pairs_map (name_of s) s.inputs 0 inputs_differ (λ x y v w e. same_name x y (input_there x v) (input_there y w) e)) clock_and_outputs input_and_others;
    some = All-from_contains (λ (x : List ℕ). 0 < length x) (tester_names s) (λ x c. (size_of x c).0);
    short = All-from_contains (λ (x : List ℕ). length x ≤ 261) (tester_names s) (λ x c. (size_of x c).1);
  }

-- ---- scanned designs

own_open : (n : Netlist) → IsDesign n → (x : ℕ) → x < length n.names → IsOpen (name_of n x)
own_open n design x l = unreserved_open (name_of n x) (design.unreserved x [] l)

so_short : (c : ℕ) → c < 2 ^ 32 → length (codes "SC__so" ++ decimal c) ≤ 255
so_short c l = omega (arith, length-append (codes "SC__so") (decimal c), length-decimal-le 10 c (omega arith) (omega arith) (omega arith))

module _ (n : Netlist) (sound : IsSound n) (design : IsDesign n) (chain : List ℕ) (rest : List (List ℕ)) (dealt : AreDealt n (chain ∷ rest)) where
  scanned_open : (x : ℕ) → x < length (names_of n (length (chain ∷ rest))) → IsOpen (get_or (names_of n (length (chain ∷ rest))) x [])
  scanned_open x l =
      let count = length (chain ∷ rest) in
      let os = origins n count in
      let names = names_of_origins n count in
      let within : x < length os = omega (arith, ap length names, length-map os (origin_name n)) in
      let o = get_or os x Enable in
      let is : get_or (names_of n count) x [] ≡ origin_name n o = ap (λ (xs : List (List ℕ)). get_or xs x []) (sym names) ∙ get_or-map (origin_name n) os x Enable [] within in
      let valid = valid_origin n sound design count (few_chains n sound chain rest dealt design) o (Contains-get_or os x Enable within) in
      subst IsOpen (sym is) (origin_open n (λ y m. design.unreserved y [] m) o (λ y e. original_valid y e valid))
    where
      original_valid : (y : ℕ) {o : Origin} → o ≡ Original y → IsValid n o → y < length n.names
      original_valid y e v = subst (IsValid n) e v

  scanned_short : (x : ℕ) → Contains (scanned (naming_of n (chain ∷ rest)) n).outputs x → length (get_or (names_of n (length (chain ∷ rest))) x []) ≤ 255
  scanned_short x c =
      let count = length (chain ∷ rest) in
      let S : Netlist = scanned (naming_of n (chain ∷ rest)) n in
      let so : ℕ → List ℕ = λ k. codes "SC__so" ++ decimal k in
      let listed : Contains (map (name_of n) n.outputs ++ map so (numbers_from 0 count)) (name_of S x) =
      subst (λ (l : List (List ℕ)). Contains l (name_of S x)) (scan_names n sound chain rest dealt).outputs (map_contains (name_of S) S.outputs x c) in
      elim (Contains-append_cases (map (name_of n) n.outputs) (map so (numbers_from 0 count)) (name_of S x) listed) [
        | inl i ↦
            let m = contains_map (name_of n) n.outputs (name_of S x) i in
            let there : m.0 < length n.names = sound.formed.named m.0 (All-contains (Contains (signals n)) n.outputs m.0 sound.closed.outputs m.1) in
            subst (λ (l : List ℕ). length l ≤ 255) m.2 (design.short m.0 [] there)
        | inr i ↦
            let m = contains_map so (numbers_from 0 count) (name_of S x) i in
            let w = contains_numbers 0 count m.0 m.1 in
            let few = few_chains n sound chain rest dealt design in
            subst (λ (l : List ℕ). length l ≤ 255) m.2 (so_short m.0 (omega arith))
      ]

tester_names_dealt : (n : Netlist) (chains : List (List ℕ)) → IsSound n → IsDesign n → AreDealt n chains → HasTesterNames (scanned_of n chains)
tester_names_dealt n [] sound design dealt =
    tester_names_of n sound (own_open n design) (λ x c. design.short x [] (sound.formed.named x (All-contains (Contains (signals n)) n.outputs x sound.closed.outputs c)))
tester_names_dealt n (chain ∷ rest) sound design dealt =
    tester_names_of (scanned_of n (chain ∷ rest)) (scanned_sound n (chain ∷ rest) sound design dealt) (scanned_open n sound design chain rest dealt) (scanned_short n sound design chain rest dealt)

pub tester_names_differ : TesterNamesDiffer
tester_names_differ n chains sound design are = tester_names_dealt n chains sound design (are_dealt n chains are)
