-- A place for each fault: no two faults have the same.
use Rattle.std.proofs.Common.{◌≡◌, ℕ, zero, suc, ◌+◌, ◌-◌, ◌*◌, ◌^◌, ◌<◌, ◌≤◌, ◌∙◌, inl, inr, Bool, true, false, cond, eqb, List, [], ◌∷◌, ◌++◌, length, get_or, add-one, length-append, Option, Some, refl, sym, ap, arith}
use Rattle.std.specs.List.{All, Contains, find}
use Rattle.std.proofs.lemmas.List.Elements.{All-head, All-tail}
use Rattle.netlist.proofs.Lists.{All-from_contains}
use Rattle.std.specs.Option.{option_map_or}
use Rattle.std.proofs.lemmas.Bool.{cases_order}
use Rattle.std.proofs.lemmas.Option.{slice_get-get_or}
use Rattle.std.proofs.lemmas.List.{get_or_append_left, get_or_push}
use Rattle.statement.specs.declared.lines.Line.{Line}
use Rattle.statement.specs.declared.lines.Line.TheVariants.{Stem, Pin, Out}
use Rattle.statement.specs.declared.lines.Fault.{Fault}
use Rattle.statement.specs.Netlists.{Definition, Netlist}
use Rattle.netlist.specs.Netlist.{signal_count}
use Rattle.netlist.specs.Conditions.{IsSound}
use Rattle.netlist.specs.Lines.{IsLineOf, signal_of}
use Rattle.netlist.proofs.Found.{defined}
use Rattle.netlist.proofs.WellFormed.{few_pins_of}
use Rattle.fault_universe.specs.Laws.{FaultsHaveLines, FaultsHaveSignals}
use Rattle.statement.specs.Faults.{universe_of}
use Rattle.check_parts.specs.Firsts.{ArePartStarts, AreStarts, bit_value, offset, pins_at, spot, start, width}

bit_small : (v : Bool) → bit_value v ≤ 1
bit_small true = omega arith
bit_small false = omega arith

bit_once : (v w : Bool) → bit_value v ≡ bit_value w → v ≡ w
bit_once true true e = refl
bit_once true false e = absurd (omega arith)
bit_once false true e = absurd (omega arith)
bit_once false false e = refl

pin_once : (j k : ℕ) (v w : Bool) → 4 + 2 * j + bit_value v ≡ 4 + 2 * k + bit_value w → (j ≡ k) × (v ≡ w)
pin_once j k true true e = (omega arith, refl)
pin_once j k true false e = absurd (omega arith)
pin_once j k false true e = absurd (omega arith)
pin_once j k false false e = (omega arith, refl)

-- on one signal an offset has one line and one value
one_line : (l m : Line) (v w : Bool) → signal_of l ≡ signal_of m → offset l v ≡ offset m w → (l ≡ m) × (v ≡ w)
one_line (Stem x) (Stem y) v w s e = (ap Stem s, bit_once v w e)
one_line (Stem x) (Out y) v w s e = let a = bit_small v in let b = bit_small w in absurd (omega arith)
one_line (Stem x) (Pin y k) v w s e = let a = bit_small v in absurd (omega arith)
one_line (Out x) (Stem y) v w s e = let a = bit_small w in absurd (omega arith)
one_line (Out x) (Out y) v w s e = (ap Out s, bit_once v w (omega arith))
one_line (Out x) (Pin y k) v w s e = let a = bit_small v in absurd (omega arith)
one_line (Pin x j) (Stem y) v w s e = let a = bit_small w in absurd (omega arith)
one_line (Pin x j) (Out y) v w s e = let a = bit_small w in absurd (omega arith)
one_line (Pin x j) (Pin y k) v w s e =
    let p = pin_once j k v w e in
    ((λ i. Pin (s i) (p.0 i)), p.1)

module _ (n : Netlist) where
  -- rows stand one behind the other
  starts_rise : (x d y : ℕ) → x + d ≡ y → start n x ≤ start n y
  starts_rise x zero y is =
      let same : x ≡ y = omega arith in
      let e : start n x ≡ start n y = ap (start n) same in
      omega arith
  starts_rise x (suc d) y is =
      let rest = starts_rise x d (x + d) refl in
      let same : suc (x + d) ≡ y = omega arith in
      let e : start n (suc (x + d)) ≡ start n y = ap (start n) same in
      omega arith

  pub behind : (x y : ℕ) → x < y → start n x + width n x ≤ start n y
  behind x y lt =
      let rise = starts_rise (suc x) (y - suc x) y (omega arith) in
      omega arith

few_in : (t : Definition → Bool) (ds : List Definition) → All (λ (d : Definition). length d.pins ≤ 1024) ds
    → length (option_map_or (λ (d : Definition). d.pins) (find t ds) []) ≤ 1024
few_in t [] h = omega arith
few_in t (d ∷ ds) h =
    let here = All-head (λ (e : Definition). length e.pins ≤ 1024) d ds h in
    let rest = few_in t ds (All-tail (λ (e : Definition). length e.pins ≤ 1024) d ds h) in
    elim (t d) as (λ (b : Bool). length (option_map_or (λ (e : Definition). e.pins) (cond b (Some d) (find t ds)) []) ≤ 1024) [ true ↦ here | false ↦ rest ]

module _ (n : Netlist) (sound : IsSound n) where
  -- a line is in its signal's row
  pub inside_row : (l : Line) (v : Bool) → IsLineOf n l → offset l v < width n (signal_of l)
  inside_row (Stem x) v is = let a = bit_small v in omega arith
  inside_row (Out x) v is = let a = bit_small v in omega arith
  inside_row (Pin z k) v is =
      let a = bit_small v in
      let pins : pins_at n z ≡ is.0.pins = ap (λ (o : Option Definition). option_map_or (λ (d : Definition). d.pins) o []) (defined n sound.formed.numbered is.0 z is.1 is.2) in
      let size : length (pins_at n z) ≡ length is.0.pins = ap length pins in
      let lt = is.3 in
      omega arith

  few : (x : ℕ) → length (pins_at n x) ≤ 1024
  few x = few_in (λ (d : Definition). eqb d.id x) n.definitions (All-from_contains (λ (d : Definition). length d.pins ≤ 1024) n.definitions (λ d c. few_pins_of n sound.closed d c))

  pub small_start : (x : ℕ) → x ≤ signal_count n → start n x ≤ 2052 * x
  small_start zero le = omega arith
  small_start (suc x) le =
      let low = small_start x (omega arith) in
      let row = few x in
      omega arith

module _ (n : Netlist) (sound : IsSound n) (lines : FaultsHaveLines) (named : FaultsHaveSignals) where
  signal_in : (f : Fault) → Contains (universe_of n) f → signal_of f.line < signal_count n
  signal_in f c = named n c.0 f sound (slice_get-get_or (universe_of n) c.0 f c.1 ∙ ap (λ (g : Fault). Some g) c.2)

  pub spot_within : (f : Fault) → Contains (universe_of n) f → spot n f < start n (signal_count n)
  spot_within f c =
      let row = inside_row n sound f.line f.value (lines n f sound c) in
      let after = behind n (signal_of f.line) (signal_count n) (signal_in f c) in
      omega arith

  pub spot_once : (f g : Fault) → Contains (universe_of n) f → Contains (universe_of n) g → spot n f ≡ spot n g → f ≡ g
  spot_once f g c d e =
      let row = inside_row n sound f.line f.value (lines n f sound c) in
      let other = inside_row n sound g.line g.value (lines n g sound d) in
      elim (cases_order (signal_of f.line) (signal_of g.line)) [
        | inl same ↦
            let at : start n (signal_of f.line) ≡ start n (signal_of g.line) = ap (start n) same in
            let p = one_line f.line g.line f.value g.value same (omega arith) in
            λ i. record { line = p.0 i; value = p.1 i }
        | inr o ↦ elim o [
          | inl lower ↦ let after = behind n (signal_of f.line) (signal_of g.line) lower in absurd (omega arith)
          | inr higher ↦ let after = behind n (signal_of g.line) (signal_of f.line) higher in absurd (omega arith)
        ]
      ]

  -- where a signal's row starts, and how far behind that the fault's place is
  pub spot_is : (starts : List ℕ) (i o : ℕ) (f : Fault) → AreStarts n starts → Contains (universe_of n) f → i ≡ signal_of f.line → o ≡ offset f.line f.value
      → get_or starts i 0 + o ≡ spot n f
  spot_is starts i o f are c at off =
      let lt = signal_in f c in
      let here : get_or starts i 0 ≡ get_or starts (signal_of f.line) 0 = ap (λ (j : ℕ). get_or starts j 0) at in
      let is = are.each (signal_of f.line) (omega arith) in
      omega arith

  pub spot_small : (f : Fault) → Contains (universe_of n) f → spot n f < 2 ^ 40
  spot_small f c =
      let lt = spot_within f c in
      let most = small_start n sound (signal_count n) (omega arith) in
      let few_signals = sound.sized.small in
      omega arith

-- ---- starts one by one

pub more_starts : (n : Netlist) (old new : List ℕ) (x next after : ℕ) → new ≡ old ++ next ∷ [] → after ≡ next + width n x → ArePartStarts n old x next → ArePartStarts n new (x + 1) after
more_starts n old new x next after is step are = record {
  size = ap length is ∙ (length-append old (next ∷ []) ∙ (let size = are.size in omega arith));
  each = λ y lt. elim (cases_order y x) [
    | inl same ↦
        ap (λ (ys : List ℕ). get_or ys y 0) is ∙ (get_or_push old next 0 y (are.size ∙ sym same) ∙ (are.next_is ∙ ap (start n) (sym same)))
    | inr o ↦ elim o [
      | inl lower ↦ ap (λ (ys : List ℕ). get_or ys y 0) is ∙ (get_or_append_left old (next ∷ []) 0 y (let size = are.size in omega arith) ∙ are.each y lower)
      | inr higher ↦ absurd (omega arith)
    ]
  ];
  next_is =
      let here = are.next_is in
      let e : start n (x + 1) ≡ start n (suc x) = ap (start n) (add-one x) in
      omega arith;
}

pub all_starts : (n : Netlist) (old new : List ℕ) (x next : ℕ) → new ≡ old ++ next ∷ [] → x ≡ signal_count n → ArePartStarts n old x next → AreStarts n new
all_starts n old new x next is count are =
    let more = more_starts n old new x next (next + width n x) is refl are in
    record {
      size = more.size ∙ omega arith;
      each = λ y le. more.each y (omega arith);
    }

-- where the last row ends
pub all_rows : (n : Netlist) (starts : List ℕ) → AreStarts n starts → get_or starts (length starts - 1) 0 ≡ start n (signal_count n)
all_rows n starts are =
    let size = are.size in
    let last : length starts - 1 ≡ signal_count n = omega arith in
    ap (λ (k : ℕ). get_or starts k 0) last ∙ are.each (signal_count n) (omega arith)
