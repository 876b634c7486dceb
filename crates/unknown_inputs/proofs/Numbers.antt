-- The new numbers of the inputs are all numbers below their count, each once; so numbers are renumbered one to one.
use Rattle.std.proofs.Common.{◌≡◌, ◌≢◌, ℕ, suc, ◌+◌, ◌<◌, ◌≤◌, ◌⊎◌, true, false, List, [], ◌∷◌, map, length, get_or, refl, sym, ◌∙◌, ap, inl, inr, arith, length-append}
use Rattle.std.specs.List.{All, AllPairs, Contains}
use Rattle.std.proofs.lemmas.Bool.{cases_lt}
use Rattle.std.proofs.lemmas.List.{length-map, get_or-map, get_or_default, get_or_past, get_or_append_left, ext_get_or}
use Rattle.std.proofs.lemmas.List.Elements.{All-nil, All-cons, All-weaker}
use Rattle.std.proofs.lemmas.List.Kept.{AllPairs-cons}
use Rattle.statement.specs.Netlists.{Definition, Netlist}
use Rattle.statement.specs.Runs.{numbers_from}
use Rattle.netlist.specs.Conditions.{IsNumbered}
use Rattle.netlist.proofs.Orders.{definition_high}
use Rattle.unknown_inputs.specs.Unknowns.{Unknowns, known_part, unknown_part}
use Rattle.unknown_inputs.specs.Opened.{numbers_of, input_numbers, opened_number}
use Rattle.unknown_inputs.proofs.KnownParts.{parts_length, known_part-map, unknown_part-map}

-- ---- the list of new numbers

pub length-numbers_of : {V : Type 0} (us : Unknowns) (k j : ℕ) (xs : List V) → length (numbers_of us k j xs) ≡ length xs
length-numbers_of us k j [] = refl
length-numbers_of [] k j (x ∷ xs) = ap suc (length-numbers_of [] (k + 1) j xs)
length-numbers_of (true ∷ us) k j (x ∷ xs) = ap suc (length-numbers_of us k (j + 1) xs)
length-numbers_of (false ∷ us) k j (x ∷ xs) = ap suc (length-numbers_of us (k + 1) j xs)

pub known_numbers : {V : Type 0} (us : Unknowns) (k j : ℕ) (xs : List V) → known_part us (numbers_of us k j xs) ≡ numbers_from k (length (known_part us xs))
known_numbers [] k j [] = refl
known_numbers (u ∷ us) k j [] = refl
known_numbers [] k j (x ∷ xs) = ap (λ r. k ∷ r) (known_numbers [] (k + 1) j xs)
known_numbers (true ∷ us) k j (x ∷ xs) = known_numbers us k (j + 1) xs
known_numbers (false ∷ us) k j (x ∷ xs) = ap (λ r. k ∷ r) (known_numbers us (k + 1) j xs)

pub unknown_numbers : {V : Type 0} (us : Unknowns) (k j : ℕ) (xs : List V) → unknown_part us (numbers_of us k j xs) ≡ numbers_from j (length (unknown_part us xs))
unknown_numbers [] k j xs = refl
unknown_numbers (u ∷ us) k j [] = refl
unknown_numbers (true ∷ us) k j (x ∷ xs) = ap (λ r. j ∷ r) (unknown_numbers us k (j + 1) xs)
unknown_numbers (false ∷ us) k j (x ∷ xs) = unknown_numbers us (k + 1) j xs

-- so many numbers from k on, or so many from j on
abbrev IsAmong : ℕ → ℕ → ℕ → ℕ → ℕ → Type 0
IsAmong k a j b y = ((k ≤ y) × (y < k + a)) ⊎ ((j ≤ y) × (y < j + b))

wider_known : (k a j b y : ℕ) → IsAmong (k + 1) a j b y → IsAmong k (suc a) j b y
wider_known k a j b y h = elim h [ inl p ↦ (let l = p.0 in let m = p.1 in inl (omega arith, omega arith)) | inr p ↦ inr p ]

wider_unknown : (k a j b y : ℕ) → IsAmong k a (j + 1) b y → IsAmong k a j (suc b) y
wider_unknown k a j b y h = elim h [ inl p ↦ inl p | inr p ↦ (let l = p.0 in let m = p.1 in inr (omega arith, omega arith)) ]

numbers_among : {V : Type 0} (us : Unknowns) (k j : ℕ) (xs : List V)
    → All (IsAmong k (length (known_part us xs)) j (length (unknown_part us xs))) (numbers_of us k j xs)
numbers_among us k j [] = All-nil _
numbers_among [] k j (x ∷ xs) =
    let a = length xs in
    All-cons (IsAmong k (suc a) j 0) k (numbers_of [] (k + 1) j xs) (inl (omega arith, omega arith))
    (All-weaker (IsAmong (k + 1) a j 0) (IsAmong k (suc a) j 0) (wider_known k a j 0) (numbers_of [] (k + 1) j xs) (numbers_among [] (k + 1) j xs))
numbers_among (true ∷ us) k j (x ∷ xs) =
    let a = length (known_part us xs) in
    let b = length (unknown_part us xs) in
    All-cons (IsAmong k a j (suc b)) j (numbers_of us k (j + 1) xs) (inr (omega arith, omega arith))
    (All-weaker (IsAmong k a (j + 1) b) (IsAmong k a j (suc b)) (wider_unknown k a j b) (numbers_of us k (j + 1) xs) (numbers_among us k (j + 1) xs))
numbers_among (false ∷ us) k j (x ∷ xs) =
    let a = length (known_part us xs) in
    let b = length (unknown_part us xs) in
    All-cons (IsAmong k (suc a) j b) k (numbers_of us (k + 1) j xs) (inl (omega arith, omega arith))
    (All-weaker (IsAmong (k + 1) a j b) (IsAmong k (suc a) j b) (wider_known k a j b) (numbers_of us (k + 1) j xs) (numbers_among us (k + 1) j xs))

known_differs : (k a j b y : ℕ) → k + suc a ≤ j → IsAmong (k + 1) a j b y → k ≢ y
known_differs k a j b y l h e = elim h [ inl p ↦ (let m = p.0 in omega arith) | inr p ↦ (let m = p.0 in omega arith) ]

unknown_differs : (k a j b y : ℕ) → k + a ≤ j → IsAmong k a (j + 1) b y → j ≢ y
unknown_differs k a j b y l h e = elim h [ inl p ↦ (let m = p.1 in omega arith) | inr p ↦ (let m = p.0 in omega arith) ]

none_twice : AllPairs (λ (x y : ℕ). x ≢ y) []
none_twice i j d l m = absurd (omega arith)

numbers_differ : {V : Type 0} (us : Unknowns) (k j : ℕ) (xs : List V) → k + length (known_part us xs) ≤ j → AllPairs (λ x y. x ≢ y) (numbers_of us k j xs)
numbers_differ us k j [] l = none_twice
numbers_differ [] k j (x ∷ xs) l =
    let a = length xs in
    AllPairs-cons (λ x y. x ≢ y) k (numbers_of [] (k + 1) j xs)
    (All-weaker (IsAmong (k + 1) a j 0) (λ y. k ≢ y) (λ y. known_differs k a j 0 y l) (numbers_of [] (k + 1) j xs) (numbers_among [] (k + 1) j xs))
    (numbers_differ [] (k + 1) j xs (omega (arith, l)))
numbers_differ (true ∷ us) k j (x ∷ xs) l =
    let a = length (known_part us xs) in
    let b = length (unknown_part us xs) in
    AllPairs-cons (λ x y. x ≢ y) j (numbers_of us k (j + 1) xs)
    (All-weaker (IsAmong k a (j + 1) b) (λ y. j ≢ y) (λ y. unknown_differs k a j b y l) (numbers_of us k (j + 1) xs) (numbers_among us k (j + 1) xs))
    (numbers_differ us k (j + 1) xs (omega (arith, l)))
numbers_differ (false ∷ us) k j (x ∷ xs) l =
    let a = length (known_part us xs) in
    let b = length (unknown_part us xs) in
    AllPairs-cons (λ x y. x ≢ y) k (numbers_of us (k + 1) j xs)
    (All-weaker (IsAmong (k + 1) a j b) (λ y. k ≢ y) (λ y. known_differs k a j b y l) (numbers_of us (k + 1) j xs) (numbers_among us (k + 1) j xs))
    (numbers_differ us (k + 1) j xs (omega (arith, l)))

-- ---- a list of new numbers, each below its length and none twice, renumbers one to one

module _ (numbers : List ℕ) (low : All (λ y. y < length numbers) numbers) (differ : AllPairs (λ x y. x ≢ y) numbers) where
  inside : (x y : ℕ) → x < y → y < length numbers → get_or numbers x x ≡ get_or numbers y y → ⊥
  inside x y l m e =
      differ x y 0 l m (get_or_default numbers x 0 x (omega arith) ∙ (e ∙ get_or_default numbers y y 0 m))

  outside : (x y : ℕ) → x < length numbers → length numbers ≤ y → get_or numbers x x ≡ get_or numbers y y → ⊥
  outside x y l m e =
      let there : get_or numbers y y ≡ y = get_or_past numbers y y m in
      let here : get_or numbers x x < length numbers = low x x l in
      omega arith

  both_inside : (x y : ℕ) → x < length numbers → y < length numbers → get_or numbers x x ≡ get_or numbers y y → x ≡ y
  both_inside x y l m e = elim (cases_lt x y) [
    | inl less ↦ absurd (inside x y less m e)
    | inr more ↦ elim (cases_lt y x) [
      | inl less ↦ absurd (inside y x less l (sym e))
      | inr same ↦ omega arith
    ]
  ]

  pub one_to_one : (x y : ℕ) → get_or numbers x x ≡ get_or numbers y y → x ≡ y
  one_to_one x y e = elim (cases_lt x (length numbers)) [
    | inl l ↦ elim (cases_lt y (length numbers)) [
      | inl m ↦ both_inside x y l m e
      | inr m ↦ absurd (outside x y l m e)
    ]
    | inr l ↦ elim (cases_lt y (length numbers)) [
      | inl m ↦ absurd (outside y x m l (sym e))
      | inr m ↦
          let a : get_or numbers x x ≡ x = get_or_past numbers x x l in
          let b : get_or numbers y y ≡ y = get_or_past numbers y y m in
          omega arith
    ]
  ]

-- ---- the new numbers of a netlist's signals

below_count : (a b y : ℕ) → IsAmong 0 a a b y → y < a + b
below_count a b y h = elim h [ inl p ↦ (let m = p.1 in omega arith) | inr p ↦ (let m = p.1 in omega arith) ]

module _ (n : Netlist) (unknown : Unknowns) where
  pub numbers_count : length (input_numbers n unknown) ≡ length n.inputs
  numbers_count = length-numbers_of unknown 0 (length (known_part unknown n.inputs)) n.inputs

  pub numbers_low : All (λ y. y < length (input_numbers n unknown)) (input_numbers n unknown)
  numbers_low =
      let a = length (known_part unknown n.inputs) in
      let b = length (unknown_part unknown n.inputs) in
      let count : a + b ≡ length n.inputs = parts_length unknown n.inputs in
      let same = numbers_count in
      All-weaker (IsAmong 0 a a b) (λ y. y < length (input_numbers n unknown)) (λ y h. let l = below_count a b y h in omega arith)
      (input_numbers n unknown) (numbers_among unknown 0 a n.inputs)

  pub opened_one_to_one : (x y : ℕ) → opened_number n unknown x ≡ opened_number n unknown y → x ≡ y
  opened_one_to_one x y e =
      one_to_one (input_numbers n unknown) numbers_low (numbers_differ unknown 0 (length (known_part unknown n.inputs)) n.inputs (omega arith)) x y e

  -- what is no input keeps its number
  pub number_past : (x : ℕ) → length n.inputs ≤ x → opened_number n unknown x ≡ x
  number_past x l = let same = numbers_count in get_or_past (input_numbers n unknown) x x (omega arith)

  pub number_low : (x : ℕ) → x < length n.inputs → opened_number n unknown x < length n.inputs
  number_low x l =
      let same = numbers_count in
      let here : get_or (input_numbers n unknown) x x < length (input_numbers n unknown) = numbers_low x x (omega arith) in
      omega arith

  module _ (numbered : IsNumbered n) where
    pub input_is : (k : ℕ) → k < length n.inputs → get_or n.inputs k 0 ≡ k
    input_is k l =
        let ids : List ℕ = map (λ (d : Definition). d.id) n.definitions in
        sym (get_or_append_left n.inputs ids 0 k l) ∙ numbered k (omega (arith, length-append n.inputs ids))

    pub inputs_renumbered : map (opened_number n unknown) n.inputs ≡ input_numbers n unknown
    inputs_renumbered =
        let r = opened_number n unknown in
        let same = numbers_count in
        ext_get_or 0 (map r n.inputs) (input_numbers n unknown) (length-map n.inputs r ∙ sym numbers_count)
        (λ k l.
        let m : k < length n.inputs = omega (arith, length-map n.inputs r) in
        get_or-map r n.inputs k 0 0 m ∙ (ap r (input_is k m) ∙ get_or_default (input_numbers n unknown) k k 0 (omega arith)))

    pub known_renumbered : map (opened_number n unknown) (known_part unknown n.inputs) ≡ numbers_from 0 (length (known_part unknown n.inputs))
    known_renumbered =
        sym (known_part-map (opened_number n unknown) unknown n.inputs)
        ∙ (ap (known_part unknown) inputs_renumbered ∙ known_numbers unknown 0 (length (known_part unknown n.inputs)) n.inputs)

    pub unknown_renumbered : map (opened_number n unknown) (unknown_part unknown n.inputs)
        ≡ numbers_from (length (known_part unknown n.inputs)) (length (unknown_part unknown n.inputs))
    unknown_renumbered =
        sym (unknown_part-map (opened_number n unknown) unknown n.inputs)
        ∙ (ap (unknown_part unknown) inputs_renumbered ∙ unknown_numbers unknown 0 (length (known_part unknown n.inputs)) n.inputs)

    pub definition_stays : (d : Definition) → Contains n.definitions d → opened_number n unknown d.id ≡ d.id
    definition_stays d c = number_past d.id (definition_high n numbered d c)
