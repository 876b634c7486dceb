-- Steps of the loops that make the opened netlist.
use Rattle.std.proofs.Common.{◌≡◌, ℕ, suc, ◌+◌, ◌<◌, ◌≤◌, Bool, true, false, not, cond, ltb, List, [], ◌∷◌, ◌++◌, map, length, get_or, drop, refl, sym, ◌∙◌, ap, subst, inl, inr, arith}
use Rattle.std.specs.List.{All, Contains}
use Rattle.std.proofs.lemmas.Bool.{cases_lt, lt-ltb}
use Rattle.std.proofs.lemmas.List.{drop_more, drop_all, get_or_past, append_assoc}
use Rattle.std.proofs.lemmas.List.Elements.{Contains-append_left}
use Rattle.statement.specs.Netlists.{Definition, Netlist, signals}
use Rattle.netlist.specs.Conditions.{IsSound}
use Rattle.netlist.proofs.Lists.{All-from_contains}
use Rattle.netlist.proofs.Placed.{signal_below, signals_length}
use Rattle.unknown_inputs.specs.Unknowns.{Unknowns, known_part, unknown_part}
use Rattle.unknown_inputs.specs.Opened.{numbers_of}
use Rattle.unknown_inputs.proofs.KnownParts.{parts_length, known_member, unknown_member}

-- one input more, by what is known of it; behind the list it is known
at_input : {V Y : Type 0} (F : Unknowns → List V → Y) → ((x : V) (xs : List V) → F [] (x ∷ xs) ≡ F (false ∷ []) (x ∷ xs)) → (us : Unknowns) (xs : List V) (k : ℕ) (d : V)
    → k < length xs → F (drop k us) (drop k xs) ≡ F (get_or us k false ∷ drop (k + 1) us) (get_or xs k d ∷ drop (k + 1) xs)
at_input {V} F behind us xs k d l =
    let x : V = get_or xs k d in
    let rest : List V = drop (k + 1) xs in
    ap (F (drop k us)) (drop_more xs k d l)
    ∙ elim (cases_lt k (length us)) [
      | inl m ↦ ap (λ (vs : Unknowns). F vs (x ∷ rest)) (drop_more us k false m)
      | inr m ↦
          ap (λ (vs : Unknowns). F vs (x ∷ rest)) (drop_all k us m)
          ∙ (behind x rest
          ∙ (ap (λ b. F (b ∷ []) (x ∷ rest)) (sym (get_or_past us k false m))
          ∙ ap (λ (vs : Unknowns). F (get_or us k false ∷ vs) (x ∷ rest)) (sym (drop_all (k + 1) us (omega arith)))))
    ]

known_first : {V : Type 0} (us : Unknowns) (xs : List V) (x : V) (b : Bool) → known_part (b ∷ us) (x ∷ xs) ≡ cond b [] (x ∷ []) ++ known_part us xs
known_first us xs x true = refl
known_first us xs x false = refl

unknown_first : {V : Type 0} (us : Unknowns) (xs : List V) (x : V) (b : Bool) → unknown_part (b ∷ us) (x ∷ xs) ≡ cond (not b) [] (x ∷ []) ++ unknown_part us xs
unknown_first us xs x true = refl
unknown_first us xs x false = refl

-- what was made, and what is still to be made
made_more : {V : Type 0} (now new all one rest whole : List V) → whole ≡ one ++ rest → now ++ whole ≡ all → new ≡ now ++ one → new ++ rest ≡ all
made_more now new all one rest whole split h e = ap (λ r. r ++ rest) e ∙ (append_assoc now one rest ∙ (ap (λ r. now ++ r) (sym split) ∙ h))

pub known_more : (us : Unknowns) (xs : List ℕ) (k x : ℕ) (b : Bool) (now new all : List ℕ) → k < length xs → x ≡ get_or xs k x → b ≡ get_or us k false
    → now ++ known_part (drop k us) (drop k xs) ≡ all → new ≡ now ++ cond b [] (x ∷ []) → new ++ known_part (drop (k + 1) us) (drop (k + 1) xs) ≡ all
known_more us xs k x b now new all l is be h e =
    made_more now new all (cond b [] (x ∷ [])) (known_part (drop (k + 1) us) (drop (k + 1) xs)) (known_part (drop k us) (drop k xs))
    (at_input known_part (λ y ys. refl) us xs k x l
    ∙ (known_first (drop (k + 1) us) (drop (k + 1) xs) (get_or xs k x) (get_or us k false)
    ∙ (ap (λ y. cond (get_or us k false) [] (y ∷ []) ++ known_part (drop (k + 1) us) (drop (k + 1) xs)) (sym is)
    ∙ ap (λ c. cond c [] (x ∷ []) ++ known_part (drop (k + 1) us) (drop (k + 1) xs)) (sym be)))) h e

pub unknown_more : (us : Unknowns) (xs : List ℕ) (k x : ℕ) (b : Bool) (now new all : List ℕ) → k < length xs → x ≡ get_or xs k x → b ≡ get_or us k false
    → now ++ unknown_part (drop k us) (drop k xs) ≡ all → new ≡ now ++ cond (not b) [] (x ∷ []) → new ++ unknown_part (drop (k + 1) us) (drop (k + 1) xs) ≡ all
unknown_more us xs k x b now new all l is be h e =
    made_more now new all (cond (not b) [] (x ∷ [])) (unknown_part (drop (k + 1) us) (drop (k + 1) xs)) (unknown_part (drop k us) (drop k xs))
    (at_input unknown_part (λ y ys. refl) us xs k x l
    ∙ (unknown_first (drop (k + 1) us) (drop (k + 1) xs) (get_or xs k x) (get_or us k false)
    ∙ (ap (λ y. cond (not (get_or us k false)) [] (y ∷ []) ++ unknown_part (drop (k + 1) us) (drop (k + 1) xs)) (sym is)
    ∙ ap (λ c. cond (not c) [] (x ∷ []) ++ unknown_part (drop (k + 1) us) (drop (k + 1) xs)) (sym be)))) h e

-- ---- all inputs done

known_part-nil : {V : Type 0} (us : Unknowns) → known_part {V = V} us [] ≡ []
known_part-nil [] = refl
known_part-nil (u ∷ us) = refl

unknown_part-nil : {V : Type 0} (us : Unknowns) → unknown_part {V = V} us [] ≡ []
unknown_part-nil [] = refl
unknown_part-nil (u ∷ us) = refl

pub known_none : {V : Type 0} (us : Unknowns) (xs : List V) (k : ℕ) → length xs ≤ k → known_part us (drop k xs) ≡ []
known_none us xs k l = ap (known_part us) (drop_all k xs l) ∙ known_part-nil us

pub unknown_none : {V : Type 0} (us : Unknowns) (xs : List V) (k : ℕ) → length xs ≤ k → unknown_part us (drop k xs) ≡ []
unknown_none us xs k l = ap (unknown_part us) (drop_all k xs l) ∙ unknown_part-nil us

-- ---- whether an input is known

pub skipped : {V : Type 0} (us : Unknowns) (xs : List V) (k : ℕ) (d : V) (all : List V) → k < length xs → get_or us k false ≡ true
    → known_part (drop k us) (drop k xs) ≡ all → known_part (drop (k + 1) us) (drop (k + 1) xs) ≡ all
skipped us xs k d all l e h =
    sym (at_input known_part (λ y ys. refl) us xs k d l ∙ ap (λ b. known_part (b ∷ drop (k + 1) us) (get_or xs k d ∷ drop (k + 1) xs)) e) ∙ h

pub found : {V : Type 0} (us : Unknowns) (xs : List V) (k : ℕ) (d : V) (all : List V) → k < length xs → get_or us k false ≡ false
    → known_part (drop k us) (drop k xs) ≡ all → true ≡ ltb 0 (length all)
found us xs k d all l e h =
    let rest = known_part (drop (k + 1) us) (drop (k + 1) xs) in
    let is : get_or xs k d ∷ rest ≡ all =
    sym (at_input known_part (λ y ys. refl) us xs k d l ∙ ap (λ b. known_part (b ∷ drop (k + 1) us) (get_or xs k d ∷ drop (k + 1) xs)) e) ∙ h in
    let count : suc (length rest) ≡ length all = ap length is in
    sym (lt-ltb 0 (length all) (omega arith))

pub none_found : {V : Type 0} (us : Unknowns) (xs : List V) (k : ℕ) (all : List V) → length xs ≤ k
    → known_part (drop k us) (drop k xs) ≡ all → false ≡ ltb 0 (length all)
none_found us xs k all l h = ap (λ ys. ltb 0 (length ys)) (sym (known_none (drop k us) xs k l) ∙ h)

-- ---- one number more

module _ {V : Type 0} (us : Unknowns) (xs : List V) (k a b : ℕ) (now new all : List ℕ) (l : k < length xs) (h : now ++ numbers_of (drop k us) a b (drop k xs) ≡ all) where
  number_made : (c : Bool) (d : V) (one : ℕ) (rest : List ℕ) → get_or us k false ≡ c → numbers_of (c ∷ drop (k + 1) us) a b (d ∷ drop (k + 1) xs) ≡ one ∷ rest
      → get_or xs k d ≡ d → new ≡ now ++ one ∷ [] → new ++ rest ≡ all
  number_made c d one rest e split is made =
      let F : Unknowns → List V → List ℕ = λ vs ys. numbers_of vs a b ys in
      made_more now new all (one ∷ []) rest (numbers_of (drop k us) a b (drop k xs))
      (at_input F (λ y ys. refl) us xs k d l
      ∙ (ap (λ x. F (get_or us k false ∷ drop (k + 1) us) (x ∷ drop (k + 1) xs)) is ∙ (ap (λ v. F (v ∷ drop (k + 1) us) (d ∷ drop (k + 1) xs)) e ∙ split))) h made

  pub number_known : (a' b' : ℕ) (d : V) → get_or us k false ≡ false → get_or xs k d ≡ d → new ≡ now ++ a ∷ [] → a' ≡ a + 1 → b' ≡ b
      → new ++ numbers_of (drop (k + 1) us) a' b' (drop (k + 1) xs) ≡ all
  number_known a' b' d e is made p q =
      ap (λ x. new ++ numbers_of (drop (k + 1) us) x b' (drop (k + 1) xs)) p
      ∙ (ap (λ x. new ++ numbers_of (drop (k + 1) us) (a + 1) x (drop (k + 1) xs)) q
      ∙ number_made false d a (numbers_of (drop (k + 1) us) (a + 1) b (drop (k + 1) xs)) e refl is made)

  pub number_unknown : (a' b' : ℕ) (d : V) → get_or us k false ≡ true → get_or xs k d ≡ d → new ≡ now ++ b ∷ [] → a' ≡ a → b' ≡ b + 1
      → new ++ numbers_of (drop (k + 1) us) a' b' (drop (k + 1) xs) ≡ all
  number_unknown a' b' d e is made p q =
      ap (λ x. new ++ numbers_of (drop (k + 1) us) x b' (drop (k + 1) xs)) p
      ∙ (ap (λ x. new ++ numbers_of (drop (k + 1) us) a x (drop (k + 1) xs)) q
      ∙ number_made true d b (numbers_of (drop (k + 1) us) a (b + 1) (drop (k + 1) xs)) e refl is made)

-- ---- the parts are signals

module _ (n : Netlist) (sound : IsSound n) (unknown : Unknowns) where
  input_below : (x : ℕ) → Contains n.inputs x → x < length (signals n)
  input_below x c = signal_below n sound.formed.numbered x (Contains-append_left n.inputs (map (λ (d : Definition). d.id) n.definitions) x c)

  pub known_below : (xs : List ℕ) → xs ≡ known_part unknown n.inputs → All (λ x. x < length (signals n)) xs
  known_below xs e = subst (λ (ys : List ℕ). All (λ x. x < length (signals n)) ys) (sym e)
      (All-from_contains (λ x. x < length (signals n)) (known_part unknown n.inputs) (λ x c. input_below x (known_member unknown n.inputs x c)))

  pub unknown_below : (xs : List ℕ) → xs ≡ unknown_part unknown n.inputs → All (λ x. x < length (signals n)) xs
  unknown_below xs e = subst (λ (ys : List ℕ). All (λ x. x < length (signals n)) ys) (sym e)
      (All-from_contains (λ x. x < length (signals n)) (unknown_part unknown n.inputs) (λ x c. input_below x (unknown_member unknown n.inputs x c)))

  pub known_few : (inputs known : List ℕ) → inputs ≡ n.inputs → known ≡ known_part unknown inputs → length known + length inputs ≤ 16000000
  known_few inputs known e is =
      let small = sound.sized.small in
      let size = signals_length n in
      let both = parts_length unknown inputs in
      let same : length inputs ≡ length n.inputs = ap length e in
      let count : length known ≡ length (known_part unknown inputs) = ap length is in
      omega arith
