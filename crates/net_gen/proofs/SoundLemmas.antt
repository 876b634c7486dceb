-- Every sample netlist meets all that is asked of a netlist, and of a design.
use Rattle.std.proofs.Common.{◌≡◌, ◌≢◌, ℕ, zero, suc, ◌+◌, ◌-◌, ◌/◌, ◌%◌, ◌^◌, ◌<◌, ◌≤◌, Bool, true, false, List, [], ◌∷◌, ◌++◌, map, length, get_or, refl, sym, ◌∙◌, ap, subst, inl, inr, arith, length-append, zero-add, if◌then◌else◌, ◌==◌}
use Rattle.std.proofs.lemmas.Bool.Decides.{nat_tests}
use Rattle.std.specs.Bool.{IsTrue}
use Rattle.std.specs.Fmt.{decimal}
use Rattle.std.specs.List.{All, AllPairs, Contains, range_with_len}
use Rattle.std.specs.Str.Parse.{AllDigits}
use Rattle.std.proofs.lemmas.Bool.{both_ways, cases_lt}
use Rattle.std.proofs.lemmas.Fmt.{decimal_is_IsNumeral, decimal_injective, length-decimal-le}
use Rattle.std.proofs.lemmas.List.{map-append, get_or-map, get_or_append_left, get_or-append_right}
use Rattle.std.proofs.lemmas.List.Elements.{All-nil, All-cons, All-append, All-contains}
use Rattle.std.proofs.lemmas.List.FromFn.{length-range_with_len, get_or-range_with_len, length-map-range_with_len}
use Rattle.std.proofs.lemmas.Nat.{mod_below}
use Rattle.std.proofs.lemmas.Str.Parse.{digit_from_value}
use Rattle.rand_core.specs.Stream.{Stream}
use Rattle.statement.specs.declared.kinds.Kind.{Kind}
use Rattle.statement.specs.declared.kinds.Kind.TheVariants.{And, Nand, Or, Nor, Xor, Xnor, Not, Dff}
use Rattle.netlist.specs.Gates.{allows_pins}
use Rattle.statement.specs.Netlists.{is_name_byte, IsName, Definition, Netlist, gates, signals}
use Rattle.netlist.specs.Netlist.{is_gate, IsLoop}
use Rattle.netlist.specs.declared.netlists.NetRefusal.{NetRefusal}
use Rattle.netlist.specs.declared.netlists.NetRefusal.TheVariants.{TooMany, NoInput, NoOutput, Undefined, Loop, NoMemory}
use Rattle.netlist.specs.Conditions.{IsCause, HasReader, IsWellFormed, IsClosed, IsSound}
use Rattle.netlist.specs.Designs.{is_reserved, IsDesign}
use Rattle.netlist.proofs.Lists.{contains_filter, All-from_contains}
use Rattle.net_gen.specs.Samples.{first_word, rest, sampled_kind, is_inverter, drawn_pins, drawn_gate, after_gate, drawn_gates, after_gates, drawn_cells, lettered_names, sample_of, sample}
use Rattle.net_gen.proofs.DrawLemmas.{range-append}

-- ---- ids in a row

in_range : (a n x : ℕ) → Contains (range_with_len a n) x → (a ≤ x) × (x < a + n)
in_range a n x c =
    let size = length-range_with_len a n in
    let l = c.1 in
    let at : get_or (range_with_len a n) c.0 x ≡ a + c.0 = get_or-range_with_len a n c.0 x (omega arith) in
    let is = c.2 in
    (omega arith, omega arith)

range_has : (n x : ℕ) → x < n → Contains (range_with_len 0 n) x
range_has n x l = (x, omega (arith, length-range_with_len 0 n), get_or-range_with_len 0 n x x l ∙ omega arith)

range_distinct : (a n : ℕ) → AllPairs (λ x y. x ≢ y) (range_with_len a n)
range_distinct a n i j d less l e =
    let size = length-range_with_len a n in
    let p = get_or-range_with_len a n i d (omega arith) in
    let q = get_or-range_with_len a n j d (omega arith) in
    omega arith

gate_ids : (count id : ℕ) (words : Stream) → map (λ (d : Definition). d.id) (drawn_gates count id words) ≡ range_with_len id count
gate_ids zero id words = refl
gate_ids (suc count) id words = ap (λ xs. id ∷ xs) (gate_ids count (id + 1) (after_gate words))

cell_ids : (count id first gates : ℕ) (words : Stream) → map (λ (d : Definition). d.id) (drawn_cells count id first gates words) ≡ range_with_len id count
cell_ids zero id first gates words = refl
cell_ids (suc count) id first gates words = ap (λ xs. id ∷ xs) (cell_ids count (id + 1) first gates (rest words))

-- ---- definitions

-- pins below the total, and below its own id where it is a gate
record IsFine (total : ℕ) (d : Definition) : Type 0 where
  pins : All (λ x. x < total) d.pins
  allowed : IsTrue (allows_pins d.kind (length d.pins))
  below : is_gate d ≡ true → All (λ x. x < d.id) d.pins

All-along : {X : Type 0} (P Q : X → Type 0) (xs : List X) → ((x : X) → P x → Q x) → All P xs → All Q xs
All-along P Q xs f h k d l = f _ (h k d l)

pins_below : (kind : Kind) (id : ℕ) (words : Stream) → 0 < id → All (λ x. x < id) (drawn_pins kind id words)
pins_below kind id words some =
    let p : (i : Bool) → All (λ x. x < id) (if i then first_word words % id ∷ [] else first_word words % id ∷ first_word (rest words) % id ∷ []) = elim [
      | true ↦ All-cons (λ x. x < id) _ [] (mod_below (first_word words) id some) (All-nil _)
      | false ↦ All-cons (λ x. x < id) _ (first_word (rest words) % id ∷ []) (mod_below (first_word words) id some) (All-cons (λ x. x < id) _ [] (mod_below (first_word (rest words)) id some) (All-nil _))
    ] in
    p (is_inverter kind)

pick : (P : Kind → Type 0) (b : Bool) (x y : Kind) → P x → P y → P (if b then x else y)
pick P true x y p q = p
pick P false x y p q = q

-- what holds of each kind that is drawn
drawn_kind : (P : Kind → Type 0) → P And → P Nand → P Or → P Nor → P Xor → P Xnor → P Not → (k : ℕ) → P (sampled_kind k)
drawn_kind P a b c d e f g k =
    pick P (k == 0) And _ a (pick P (k == 1) Nand _ b (pick P (k == 2) Or _ c (pick P (k == 3) Nor _ d (pick P (k == 4) Xor _ e (pick P (k == 5) Xnor Not f g)))))

fine_gate : (id total : ℕ) (words : Stream) → 0 < id → id < total → IsFine total (drawn_gate id words)
fine_gate id total words some less =
    let kind : Kind = sampled_kind (first_word words % 7) in
    let below : All (λ x. x < id) (drawn_pins kind id (rest words)) = pins_below kind id (rest words) some in
    record {
      pins = All-along (λ x. x < id) (λ x. x < total) (drawn_pins kind id (rest words)) (λ x l. omega arith) below;
      allowed = drawn_kind (λ k. IsTrue (allows_pins k (length (drawn_pins k id (rest words))))) refl refl refl refl refl refl refl (first_word words % 7);
      below = λ e. below;
    }

fine_gates : (count id total : ℕ) (words : Stream) → 0 < id → id + count ≤ total → All (IsFine total) (drawn_gates count id words)
fine_gates zero id total words some less = All-nil (IsFine total)
fine_gates (suc count) id total words some less =
    All-cons (IsFine total) (drawn_gate id words) (drawn_gates count (id + 1) (after_gate words)) (fine_gate id total words some (omega arith))
    (fine_gates count (id + 1) total (after_gate words) (omega arith) (omega arith))

fine_cells : (count id first g total : ℕ) (words : Stream) → 0 < g → first + g ≤ total → All (IsFine total) (drawn_cells count id first g words)
fine_cells zero id first g total words some less = All-nil (IsFine total)
fine_cells (suc count) id first g total words some less =
    let low = mod_below (first_word words) g some in
    All-cons (IsFine total) (record { id = id; kind = Dff; pins = (first + first_word words % g) ∷ [] }) (drawn_cells count (id + 1) first g (rest words))
    (record {
      pins = All-cons (λ x. x < total) (first + first_word words % g) [] (omega arith) (All-nil (λ x. x < total));
      allowed = refl;
      below = λ e. absurd (both_ways false refl e);
    })
    (fine_cells count (id + 1) first g total (rest words) some less)

-- ---- names

digit_is_name_byte : (b : ℕ) → 48 ≤ b → b ≤ 57 → is_name_byte b ≡ true
digit_is_name_byte b low high = grind (arith, nat_tests)

digits_are_name_bytes : (ds : List ℕ) → AllDigits 10 ds → All (λ b. IsTrue (is_name_byte b)) ds
digits_are_name_bytes [] h = All-nil (λ b. IsTrue (is_name_byte b))
digits_are_name_bytes (c ∷ cs) h =
    let r = digit_from_value c h.0 in
    All-cons (λ b. IsTrue (is_name_byte b)) c cs (digit_is_name_byte c (omega (arith, r)) (omega (arith, r))) (digits_are_name_bytes cs h.1)

numbered_name : (letter k : ℕ) → is_name_byte letter ≡ true → k < 2 ^ 64 → IsName (letter ∷ decimal k)
numbered_name letter k h l =
    let size : length (decimal k) ≤ 20 = length-decimal-le 20 k (omega arith) (omega arith) l in
    record {
      some = omega arith;
      short = omega arith;
      bytes = All-cons (λ b. IsTrue (is_name_byte b)) letter (decimal k) h (digits_are_name_bytes (decimal k) (decimal_is_IsNumeral k l).0.1);
    }

name_at : (letter count k : ℕ) (d : List ℕ) → k < length (lettered_names letter count) → (k < count) × (get_or (lettered_names letter count) k d ≡ letter ∷ decimal k)
name_at letter count k d l =
    let f : ℕ → List ℕ = λ j. letter ∷ decimal j in
    let size : length (lettered_names letter count) ≡ count = length-map-range_with_len f 0 count in
    let same : length (range_with_len 0 count) ≡ count = length-range_with_len 0 count in
    let below : k < count = omega arith in
    (below, get_or-map f (range_with_len 0 count) k 0 d (omega arith) ∙ ap f (get_or-range_with_len 0 count k 0 below ∙ zero-add k))

pub all_named : (letter count : ℕ) → is_name_byte letter ≡ true → count < 2 ^ 64 → All IsName (lettered_names letter count)
all_named letter count h small k d l =
    let at = name_at letter count k d l in
    let low = at.0 in
    subst IsName (sym at.1) (numbered_name letter k h (omega arith))

short_names : (letter count : ℕ) → count < 2 ^ 64 → All (λ name. length name ≤ 255) (lettered_names letter count)
short_names letter count small k d l =
    let at = name_at letter count k d l in
    let low = at.0 in
    let size : length (decimal k) ≤ 20 = length-decimal-le 20 k (omega arith) (omega arith) (omega arith) in
    subst (λ (name : List ℕ). length name ≤ 255) (sym at.1) (omega arith)

unreserved_names : (letter count : ℕ) → ((digits : List ℕ) → is_reserved (letter ∷ digits) ≡ false) → All (λ name. is_reserved name ≡ false) (lettered_names letter count)
unreserved_names letter count h k d l =
    let at = name_at letter count k d l in
    subst (λ (name : List ℕ). is_reserved name ≡ false) (sym at.1) (h (decimal k))

pub names_distinct : (letter count : ℕ) → count < 2 ^ 64 → AllPairs (λ x y. x ≢ y) (lettered_names letter count)
names_distinct letter count small i j d less l e =
    let p = name_at letter count i d (omega arith) in
    let q = name_at letter count j d l in
    let low = q.0 in
    let same : letter ∷ decimal i ≡ letter ∷ decimal j = sym p.1 ∙ (e ∙ q.1) in
    let digits : decimal i ≡ decimal j = cc in
    let numbers = decimal_injective i j (omega arith) (omega arith) digits in
    omega arith

names_differ : (a n b m : ℕ) → a ≢ b → (i j : ℕ) (d : List ℕ) → i < length (lettered_names a n) → j < length (lettered_names b m)
    → get_or (lettered_names a n) i d ≢ get_or (lettered_names b m) j d
names_differ a n b m differ i j d l k e =
    let p = name_at a n i d l in
    let q = name_at b m j d k in
    let same : a ∷ decimal i ≡ b ∷ decimal j = sym p.1 ∙ (e ∙ q.1) in
    let letters : a ≡ b = cc in
    differ letters

AllPairs-append : {X : Type 0} (R : X → X → Type 0) (xs ys : List X) → AllPairs R xs → AllPairs R ys
    → ((i j : ℕ) (d : X) → i < length xs → j < length ys → R (get_or xs i d) (get_or ys j d)) → AllPairs R (xs ++ ys)
AllPairs-append {X} R xs ys h k across i j d less l =
    let size = length-append xs ys in
    elim (cases_lt j (length xs)) [
      | inl low ↦
          subst (λ x. R x (get_or (xs ++ ys) j d)) (sym (get_or_append_left xs ys d i (omega arith)))
          (subst (λ y. R (get_or xs i d) y) (sym (get_or_append_left xs ys d j low)) (h i j d less low))
      | inr high ↦
          subst (λ y. R (get_or (xs ++ ys) i d) y) (sym (get_or-append_right xs ys (length xs) j d refl high))
          (elim (cases_lt i (length xs)) [
            | inl low ↦ subst (λ x. R x (get_or ys (j - length xs) d)) (sym (get_or_append_left xs ys d i low)) (across i (j - length xs) d low (omega arith))
            | inr above ↦
                subst (λ x. R x (get_or ys (j - length xs) d)) (sym (get_or-append_right xs ys (length xs) i d refl above))
                (k (i - length xs) (j - length xs) d (omega arith) (omega arith))
          ])
    ]

-- ---- the whole

module _ (c g : ℕ) (words : Stream) (least : 16 ≤ g) (most : g ≤ 20000) (few : c ≤ g) where
  all_signals : signals (sample_of c g words) ≡ range_with_len 0 (8 + (c + g))
  all_signals =
      let f : Definition → ℕ = λ (d : Definition). d.id in
      let cs : List Definition = drawn_cells c 8 (8 + c) g (after_gates g words) in
      let gs : List Definition = drawn_gates g (8 + c) words in
      ap (λ xs. range_with_len 0 8 ++ xs)
      (map-append f cs gs ∙ (ap (λ xs. xs ++ map f gs) (cell_ids c 8 (8 + c) g (after_gates g words))
      ∙ (ap (λ xs. range_with_len 8 c ++ xs) (gate_ids g (8 + c) words) ∙ sym (range-append 8 c g))))
      ∙ sym (range-append 0 8 (c + g))

  signal_below : (x : ℕ) → Contains (signals (sample_of c g words)) x → x < 8 + (c + g)
  signal_below x h = omega (arith, (in_range 0 (8 + (c + g)) x (subst (λ xs. Contains xs x) all_signals h)).1)

  has_signal : (x : ℕ) → x < 8 + (c + g) → Contains (signals (sample_of c g words)) x
  has_signal x l = subst (λ xs. Contains xs x) (sym all_signals) (range_has (8 + (c + g)) x l)

  many_signals : length (signals (sample_of c g words)) ≡ 8 + (c + g)
  many_signals = ap length all_signals ∙ length-range_with_len 0 (8 + (c + g))

  many_names : length (sample_of c g words).names ≡ 8 + (c + g)
  many_names =
      let a : length (lettered_names 105 8) ≡ 8 = length-map-range_with_len (λ j. 105 ∷ decimal j) 0 8 in
      let b : length (lettered_names 113 c) ≡ c = length-map-range_with_len (λ j. 113 ∷ decimal j) 0 c in
      let e : length (lettered_names 103 g) ≡ g = length-map-range_with_len (λ j. 103 ∷ decimal j) 0 g in
      let p = length-append (lettered_names 105 8) (lettered_names 113 c ++ lettered_names 103 g) in
      let q = length-append (lettered_names 113 c) (lettered_names 103 g) in
      omega arith

  all_fine : All (IsFine (8 + (c + g))) (sample_of c g words).definitions
  all_fine =
      All-append (IsFine (8 + (c + g))) (drawn_cells c 8 (8 + c) g (after_gates g words)) (drawn_gates g (8 + c) words)
      (fine_cells c 8 (8 + c) g (8 + (c + g)) (after_gates g words) (omega arith) (omega arith))
      (fine_gates g (8 + c) (8 + (c + g)) words (omega arith) (omega arith))

  fine_at : (d : Definition) → Contains (sample_of c g words).definitions d → IsFine (8 + (c + g)) d
  fine_at d h = All-contains (IsFine (8 + (c + g))) (sample_of c g words).definitions d all_fine h

  output_below : (x : ℕ) → Contains (sample_of c g words).outputs x → x < 8 + (c + g)
  output_below x h = omega (arith, (in_range (c + g) 8 x h).1)

  read_below : (x : ℕ) → HasReader (sample_of c g words) x → x < 8 + (c + g)
  read_below x r = elim r [
    | inl w ↦ All-contains (λ y. y < 8 + (c + g)) w.0.pins x (fine_at w.0 w.1).pins w.2
    | inr h ↦ output_below x h
  ]

  all_distinct : AllPairs (λ x y. x ≢ y) (sample_of c g words).names
  all_distinct =
      AllPairs-append (λ x y. x ≢ y) (lettered_names 105 8) (lettered_names 113 c ++ lettered_names 103 g) (names_distinct 105 8 (omega arith))
      (AllPairs-append (λ x y. x ≢ y) (lettered_names 113 c) (lettered_names 103 g) (names_distinct 113 c (omega arith)) (names_distinct 103 g (omega arith))
      (names_differ 113 c 103 g (λ e. omega arith)))
      (λ i j d l k e.
      let size = length-append (lettered_names 113 c) (lettered_names 103 g) in
      elim (cases_lt j (length (lettered_names 113 c))) [
        | inl low ↦ names_differ 105 8 113 c (λ h. omega arith) i j d l low (e ∙ get_or_append_left (lettered_names 113 c) (lettered_names 103 g) d j low)
        | inr high ↦
            names_differ 105 8 103 g (λ h. omega arith) i (j - length (lettered_names 113 c)) d l (omega arith)
            (e ∙ get_or-append_right (lettered_names 113 c) (lettered_names 103 g) (length (lettered_names 113 c)) j d refl high)
      ])

  formed : IsWellFormed (sample_of c g words)
  formed =
      let names = many_names in
      let size = many_signals in
      record {
        numbered = λ k l. ap (λ xs. get_or xs k 0) all_signals ∙ (get_or-range_with_len 0 (8 + (c + g)) k 0 (omega arith) ∙ zero-add k);
        named = λ x h. omega (arith, signal_below x h);
        read_named = λ x r. omega (arith, read_below x r);
        used = λ x l. inl (has_signal x (omega arith));
        names = All-append IsName (lettered_names 105 8) (lettered_names 113 c ++ lettered_names 103 g) (all_named 105 8 refl (omega arith))
            (All-append IsName (lettered_names 113 c) (lettered_names 103 g) (all_named 113 c refl (omega arith)) (all_named 103 g refl (omega arith)));
        distinct = all_distinct;
        once = range_distinct (c + g) 8;
        allowed = All-along (IsFine (8 + (c + g))) (λ (d : Definition). IsTrue (allows_pins d.kind (length d.pins))) (sample_of c g words).definitions (λ d h. h.allowed) all_fine;
      }

  closed : IsClosed (sample_of c g words)
  closed = record {
    pins = All-along (IsFine (8 + (c + g))) (λ (d : Definition). All (Contains (signals (sample_of c g words))) d.pins) (sample_of c g words).definitions
        (λ d h. All-along (λ x. x < 8 + (c + g)) (Contains (signals (sample_of c g words))) d.pins has_signal h.pins) all_fine;
    outputs = All-from_contains (Contains (signals (sample_of c g words))) (sample_of c g words).outputs (λ x h. has_signal x (output_below x h));
    allowed = formed.allowed;
  }

  -- a loop would go on downwards
  no_member : (set : ℕ → Bool) → IsLoop (sample_of c g words) set → (m z : ℕ) → z < m → IsTrue (set z) → ⊥
  no_member set loop zero z l s = absurd (omega arith)
  no_member set loop (suc m) z l s =
      let w = loop z s in
      let r = w.1 in
      let d = contains_filter is_gate (sample_of c g words).definitions r.0 r.1 in
      let lower : w.0 < r.0.id = All-contains (λ x. x < r.0.id) r.0.pins w.0 ((fine_at r.0 d.0).below d.1) r.3 in
      let same = r.2 in
      no_member set loop m w.0 (omega arith) w.2

  pub sound : IsSound (sample_of c g words)
  sound =
      let size = many_signals in
      let inputs = length-range_with_len 0 8 in
      let outputs = length-range_with_len (c + g) 8 in
      record {
        formed = formed;
        sized = record { small = omega arith; input = omega arith; output = omega arith };
        closed = closed;
        acyclic = λ z on. no_member on.0 on.1 (z + 1) z (omega arith) on.2;
      }

  pub design : IsDesign (sample_of c g words)
  design =
      let size = many_signals in
      record {
        small = omega arith;
        short = All-append (λ name. length name ≤ 255) (lettered_names 105 8) (lettered_names 113 c ++ lettered_names 103 g) (short_names 105 8 (omega arith))
            (All-append (λ name. length name ≤ 255) (lettered_names 113 c) (lettered_names 103 g) (short_names 113 c (omega arith)) (short_names 103 g (omega arith)));
        unreserved = All-append (λ name. is_reserved name ≡ false) (lettered_names 105 8) (lettered_names 113 c ++ lettered_names 103 g) (unreserved_names 105 8 (λ ds. refl))
            (All-append (λ name. is_reserved name ≡ false) (lettered_names 113 c) (lettered_names 103 g) (unreserved_names 113 c (λ ds. refl)) (unreserved_names 103 g (λ ds. refl)));
      }

pub sample_sound : (g : ℕ) (words : Stream) → 16 ≤ g → g ≤ 20000 → IsSound (sample g words)
sample_sound g words least most = sound (g / 8) g words least most (omega arith)

pub sample_design : (g : ℕ) (words : Stream) → 16 ≤ g → g ≤ 20000 → IsDesign (sample g words)
sample_design g words least most = design (g / 8) g words least most (omega arith)

-- ---- why it may be refused

read_is_signal : (n : Netlist) → IsSound n → (x : ℕ) → HasReader n x → Contains (signals n) x
read_is_signal n s x r = elim r [
  | inl w ↦ All-contains (Contains (signals n)) w.0.pins x (All-contains (λ (d : Definition). All (Contains (signals n)) d.pins) n.definitions w.0 s.closed.pins w.1) w.2
  | inr h ↦ All-contains (Contains (signals n)) n.outputs x s.closed.outputs h
]

pub memory_alone : (n : Netlist) → IsSound n → (r : NetRefusal) → IsCause n r → (r ≡ NoMemory → ⊥) → ⊥
memory_alone n s TooMany h k = let small = s.sized.small in omega arith
memory_alone n s NoInput h k = let input = s.sized.input in omega arith
memory_alone n s NoOutput h k = let output = s.sized.output in omega arith
memory_alone n s (Undefined z) h k = h.1.1 (read_is_signal n s z h.1.0)
memory_alone n s (Loop z) h k = s.acyclic z h.2
memory_alone n s NoMemory h k = k refl

pub sound_along : (g : ℕ) (words : Stream) (n : Netlist) → 16 ≤ g → g ≤ 20000 → n ≡ sample g words → IsSound n
sound_along g words n least most e = subst IsSound (sym e) (sample_sound g words least most)
