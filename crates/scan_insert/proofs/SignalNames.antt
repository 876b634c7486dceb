-- The names of the scanned netlist's signals: in form, and no two equal.
use Rattle.std.proofs.Common.{◌≡◌, ℕ, suc, zero, ◌+◌, ◌%◌, ◌^◌, ◌<◌, ◌≤◌, Bool, true, false, cond, List, [], ◌∷◌, ◌++◌, map, length, get_or, drop, refl, sym, ◌∙◌, ap, subst, inl, inr, arith, eqb, length-append, IsTrue, codes, decimal}
use Rattle.std.specs.List.{All, Contains, flat_map, list_all}
use Rattle.std.proofs.lemmas.Bool.{and_parts, cases_order}
use Rattle.std.proofs.lemmas.List.{map-append, append_assoc}
use Rattle.std.proofs.lemmas.List.Elements.{All-nil, All-cons, All-append, All-push, Contains-append_cases, Contains-append_left}
use Rattle.std.proofs.lemmas.Fmt.{decimal_injective, decimal_by_steps, length-decimal-le}
use Rattle.statement.specs.Netlists.{Definition, Netlist, is_cell, signals, is_name_byte, IsName, name_of}
use Rattle.netlist.specs.Conditions.{IsSound}
use Rattle.netlist.proofs.Lists.{contains_cases, contains_map, map_map}
use Rattle.netlist.specs.Designs.{is_reserved, IsDesign}
use Rattle.statement.specs.Runs.{numbers_from}
use Rattle.scan_insert.specs.Names.{definition_names, names_of}
use Rattle.scan_insert.proofs.Namings.{Origin, Original, Enable, EnableNot, ScanIn, ScanOut, Captured, Shifted, Chosen, Held}
use Rattle.scan_insert.proofs.Loopless.{contains_flat_map, only_one, defined_signal}
use Rattle.scan_insert.proofs.Numbers.{contains_numbers}
use Rattle.scan_insert.proofs.Origins.{cell_origins, definition_origins, origins}

abbrev pub origin_name : Netlist → Origin → List ℕ
origin_name n (Original x) = name_of n x
origin_name n Enable = codes "SC__se"
origin_name n EnableNot = codes "SC__nse"
origin_name n (ScanIn c) = codes "SC__si" ++ decimal c
origin_name n (ScanOut c) = codes "SC__so" ++ decimal c
origin_name n (Captured q) = codes "SC__a_" ++ name_of n q
origin_name n (Shifted q) = codes "SC__b_" ++ name_of n q
origin_name n (Chosen q) = codes "SC__d_" ++ name_of n q
origin_name n (Held q) = codes "SC__s_" ++ name_of n q

names_of_definitions : (n : Netlist) (ds : List Definition) → map (origin_name n) (flat_map definition_origins ds) ≡ flat_map (definition_names n) ds
names_of_definitions n [] = refl
names_of_definitions n (d ∷ ds) =
    let name = name_of n d.id in
    let step : (b : Bool) → map (origin_name n) (cond b (cell_origins d.id) (Original d.id ∷ []))
    ≡ cond b ((codes "SC__a_" ++ name) ∷ (codes "SC__b_" ++ name) ∷ (codes "SC__d_" ++ name) ∷ (codes "SC__s_" ++ name) ∷ name ∷ []) (name ∷ []) =
    elim [ true ↦ refl | false ↦ refl ] in
    map-append (origin_name n) (definition_origins d) (flat_map definition_origins ds)
    ∙ (ap (λ r. r ++ map (origin_name n) (flat_map definition_origins ds)) (step (is_cell d))
    ∙ ap (λ r. definition_names n d ++ r) (names_of_definitions n ds))

-- the names are those of what the signals stand for
pub names_of_origins : (n : Netlist) (chains : ℕ) → map (origin_name n) (origins n chains) ≡ names_of n chains
names_of_origins n chains =
    let f = origin_name n in
    let made = flat_map definition_origins n.definitions in
    let ins = map ScanIn (numbers_from 0 chains) in
    let outs = map ScanOut (numbers_from 0 chains) in
    let in_names : List (List ℕ) = map (λ c. codes "SC__si" ++ decimal c) (numbers_from 0 chains) in
    let out_names : List (List ℕ) = map (λ c. codes "SC__so" ++ decimal c) (numbers_from 0 chains) in
    let input_names = map (name_of n) n.inputs in
    let made_names = flat_map (definition_names n) n.definitions in
    let behind : map f (made ++ outs) ≡ made_names ++ out_names =
    map-append f made outs ∙ (ap (λ r. r ++ map f outs) (names_of_definitions n n.definitions) ∙ ap (λ r. made_names ++ r) (map_map ScanOut f (numbers_from 0 chains))) in
    map-append f (map Original n.inputs) (Enable ∷ ins ++ (EnableNot ∷ made ++ outs))
    ∙ (ap (λ r. r ++ map f (Enable ∷ ins ++ (EnableNot ∷ made ++ outs))) (map_map Original f n.inputs)
    ∙ (ap (λ r. input_names ++ r) (map-append f (Enable ∷ ins) (EnableNot ∷ made ++ outs))
    ∙ (ap (λ r. input_names ++ (codes "SC__se" ∷ r ++ (codes "SC__nse" ∷ map f (made ++ outs)))) (map_map ScanIn f (numbers_from 0 chains))
    ∙ (ap (λ r. input_names ++ (codes "SC__se" ∷ in_names ++ (codes "SC__nse" ∷ r))) behind
    ∙ (sym (append_assoc input_names (codes "SC__se" ∷ in_names) (codes "SC__nse" ∷ made_names ++ out_names))
    ∙ sym (append_assoc (input_names ++ codes "SC__se" ∷ in_names) (codes "SC__nse" ∷ made_names) out_names))))))

-- what stands for something: a signal that there is, a chain's number
abbrev pub IsValid : Netlist → Origin → Type 0
IsValid n (Original x) = x < length n.names
IsValid n Enable = Unit {0}
IsValid n EnableNot = Unit {0}
IsValid n (ScanIn c) = c < 2 ^ 32
IsValid n (ScanOut c) = c < 2 ^ 32
IsValid n (Captured q) = q < length n.names
IsValid n (Shifted q) = q < length n.names
IsValid n (Chosen q) = q < length n.names
IsValid n (Held q) = q < length n.names

-- which it is, by its fifth and sixth byte
abbrev tag : Origin → ℕ
tag (Original x) = 0
tag (Captured q) = 1
tag (Shifted q) = 2
tag (Chosen q) = 3
tag (Held q) = 4
tag EnableNot = 5
tag Enable = 6
tag (ScanIn c) = 7
tag (ScanOut c) = 8

abbrev tag_of_bytes : ℕ → ℕ → ℕ
tag_of_bytes x y =
    cond (eqb y 95) (cond (eqb x 97) 1 (cond (eqb x 98) 2 (cond (eqb x 100) 3 4)))
    (cond (eqb x 110) 5 (cond (eqb y 101) 6 (cond (eqb y 105) 7 8)))

abbrev tag_of : List ℕ → ℕ
tag_of name = cond (is_reserved name) (tag_of_bytes (get_or name 4 0) (get_or name 5 0)) 0

digit_byte : (d : ℕ) → d < 10 → is_name_byte (48 + d) ≡ true
digit_byte zero l = refl
digit_byte (suc zero) l = refl
digit_byte (suc (suc zero)) l = refl
digit_byte (suc (suc (suc zero))) l = refl
digit_byte (suc (suc (suc (suc zero)))) l = refl
digit_byte (suc (suc (suc (suc (suc zero))))) l = refl
digit_byte (suc (suc (suc (suc (suc (suc zero)))))) l = refl
digit_byte (suc (suc (suc (suc (suc (suc (suc zero))))))) l = refl
digit_byte (suc (suc (suc (suc (suc (suc (suc (suc zero)))))))) l = refl
digit_byte (suc (suc (suc (suc (suc (suc (suc (suc (suc zero))))))))) l = refl
digit_byte (suc (suc (suc (suc (suc (suc (suc (suc (suc (suc d)))))))))) l = absurd (omega arith)

pub decimal_bytes : (c : ℕ) → c < 2 ^ 64 → All (λ b. IsTrue (is_name_byte b)) (decimal c)
decimal_bytes = decimal_by_steps (λ c bytes. All (λ b. IsTrue (is_name_byte b)) bytes)
    (λ d l. All-cons (λ b. IsTrue (is_name_byte b)) (48 + d) [] (digit_byte d l) (All-nil _))
    (λ d bytes h k. All-push (λ b. IsTrue (is_name_byte b)) bytes (48 + d % 10) k (digit_byte (d % 10) (omega arith)))

pub all_bytes : (bytes : List ℕ) → list_all is_name_byte bytes ≡ true → All (λ b. IsTrue (is_name_byte b)) bytes
all_bytes [] e = All-nil _
all_bytes (b ∷ bs) e =
    let p = and_parts (is_name_byte b) (list_all is_name_byte bs) e in
    All-cons (λ x. IsTrue (is_name_byte x)) b bs p.0 (all_bytes bs p.1)

-- a name with six bytes before it
pub prefixed : (prefix name : List ℕ) → length prefix ≡ 6 → list_all is_name_byte prefix ≡ true → length name ≤ 255 → All (λ b. IsTrue (is_name_byte b)) name → IsName (prefix ++ name)
prefixed prefix name six bytes short h = record {
  some = omega (arith, length-append prefix name);
  short = omega (arith, length-append prefix name);
  bytes = All-append (λ b. IsTrue (is_name_byte b)) prefix name (all_bytes prefix bytes) h;
}

short_decimal : (c : ℕ) → c < 2 ^ 32 → length (decimal c) ≤ 255
short_decimal c l = omega (arith, length-decimal-le 10 c (omega arith) (omega arith) (omega arith))

module _ (n : Netlist) (sound : IsSound n) (design : IsDesign n) where
  named : (x : ℕ) → x < length n.names → IsName (name_of n x)
  named x l = sound.formed.names x [] l

  pub name_in_form : (o : Origin) → IsValid n o → IsName (origin_name n o)
  name_in_form (Original x) v = named x v
  name_in_form Enable v = prefixed (codes "SC__se") [] refl refl (omega arith) (All-nil _)
  name_in_form EnableNot v = record { some = omega arith; short = omega arith; bytes = all_bytes (codes "SC__nse") refl }
  name_in_form (ScanIn c) v = prefixed (codes "SC__si") (decimal c) refl refl (short_decimal c v) (decimal_bytes c (omega arith))
  name_in_form (ScanOut c) v = prefixed (codes "SC__so") (decimal c) refl refl (short_decimal c v) (decimal_bytes c (omega arith))
  name_in_form (Captured q) v = let m = named q v in prefixed (codes "SC__a_") (name_of n q) refl refl (design.short q [] v) m.bytes
  name_in_form (Shifted q) v = let m = named q v in prefixed (codes "SC__b_") (name_of n q) refl refl (design.short q [] v) m.bytes
  name_in_form (Chosen q) v = let m = named q v in prefixed (codes "SC__d_") (name_of n q) refl refl (design.short q [] v) m.bytes
  name_in_form (Held q) v = let m = named q v in prefixed (codes "SC__s_") (name_of n q) refl refl (design.short q [] v) m.bytes

  tag_is : (o : Origin) → IsValid n o → tag_of (origin_name n o) ≡ tag o
  tag_is (Original x) v = ap (λ t. cond t (tag_of_bytes (get_or (name_of n x) 4 0) (get_or (name_of n x) 5 0)) 0) (design.unreserved x [] v)
  tag_is Enable v = refl
  tag_is EnableNot v = refl
  tag_is (ScanIn c) v = refl
  tag_is (ScanOut c) v = refl
  tag_is (Captured q) v = refl
  tag_is (Shifted q) v = refl
  tag_is (Chosen q) v = refl
  tag_is (Held q) v = refl

  pub same_signal : (x y : ℕ) → x < length n.names → y < length n.names → name_of n x ≡ name_of n y → x ≡ y
  same_signal x y v w e = elim (cases_order x y) [
    | inl same ↦ same
    | inr r ↦ elim r [
      | inl l ↦ absurd (sound.formed.distinct x y [] l w e)
      | inr g ↦ absurd (sound.formed.distinct y x [] g v (sym e))
    ]
  ]

  same_origin : (o p : Origin) → IsValid n o → IsValid n p → tag o ≡ tag p → origin_name n o ≡ origin_name n p → o ≡ p
  same_origin (Original x) (Original y) v w e h = ap Original (same_signal x y v w h)
  same_origin Enable Enable v w e h = refl
  same_origin EnableNot EnableNot v w e h = refl
  same_origin (ScanIn c) (ScanIn d) v w e h = ap ScanIn (decimal_injective c d (omega arith) (omega arith) (ap (drop 6) h))
  same_origin (ScanOut c) (ScanOut d) v w e h = ap ScanOut (decimal_injective c d (omega arith) (omega arith) (ap (drop 6) h))
  same_origin (Captured x) (Captured y) v w e h = ap Captured (same_signal x y v w (ap (drop 6) h))
  same_origin (Shifted x) (Shifted y) v w e h = ap Shifted (same_signal x y v w (ap (drop 6) h))
  same_origin (Chosen x) (Chosen y) v w e h = ap Chosen (same_signal x y v w (ap (drop 6) h))
  same_origin (Held x) (Held y) v w e h = ap Held (same_signal x y v w (ap (drop 6) h))
  same_origin o p v w e h = absurd (omega (arith, e))

  -- two names that are equal are of one signal
  pub name_injective : (o p : Origin) → IsValid n o → IsValid n p → origin_name n o ≡ origin_name n p → o ≡ p
  name_injective o p v w h = same_origin o p v w (sym (tag_is o v) ∙ (ap tag_of h ∙ tag_is p w)) h

  valid_cell : (q : ℕ) (o : Origin) → q < length n.names → Contains (cell_origins q) o → IsValid n o
  valid_cell q o l c = elim (contains_cases (Captured q) o (Shifted q ∷ Chosen q ∷ Held q ∷ Original q ∷ []) c) [
    | inl e ↦ subst (IsValid n) e l
    | inr c1 ↦ elim (contains_cases (Shifted q) o (Chosen q ∷ Held q ∷ Original q ∷ []) c1) [
      | inl e ↦ subst (IsValid n) e l
      | inr c2 ↦ elim (contains_cases (Chosen q) o (Held q ∷ Original q ∷ []) c2) [
        | inl e ↦ subst (IsValid n) e l
        | inr c3 ↦ elim (contains_cases (Held q) o (Original q ∷ []) c3) [
          | inl e ↦ subst (IsValid n) e l
          | inr c4 ↦ subst (IsValid n) (only_one (Original q) o c4) l
        ]
      ]
    ]
  ]

  valid_definition : (d : Definition) (o : Origin) → d.id < length n.names → Contains (definition_origins d) o → IsValid n o
  valid_definition d o l c =
      let step : (b : Bool) → Contains (cond b (cell_origins d.id) (Original d.id ∷ [])) o → IsValid n o =
      elim [
        | true ↦ λ h. valid_cell d.id o l h
        | false ↦ λ h. subst (IsValid n) (only_one (Original d.id) o h) l
      ] in
      step (is_cell d) c

  pub valid_origin : (chains : ℕ) → chains ≤ 1000000 → (o : Origin) → Contains (origins n chains) o → IsValid n o
  valid_origin chains few o c =
      let made = flat_map definition_origins n.definitions in
      let ins = map ScanIn (numbers_from 0 chains) in
      let outs = map ScanOut (numbers_from 0 chains) in
      let of_signal : (x : ℕ) → Contains (signals n) x → x < length n.names = sound.formed.named in
      elim (Contains-append_cases (map Original n.inputs) (Enable ∷ ins ++ (EnableNot ∷ made ++ outs)) o c) [
        | inl i ↦ let m = contains_map Original n.inputs o i in subst (IsValid n) m.2 (of_signal m.0 (Contains-append_left n.inputs (map (λ (d : Definition). d.id) n.definitions) m.0 m.1))
        | inr r ↦ elim (contains_cases Enable o (ins ++ (EnableNot ∷ made ++ outs)) r) [
          | inl e ↦ subst (IsValid n) e tt
          | inr r1 ↦ elim (Contains-append_cases ins (EnableNot ∷ made ++ outs) o r1) [
            | inl i ↦
                let m = contains_map ScanIn (numbers_from 0 chains) o i in
                let w = contains_numbers 0 chains m.0 m.1 in
                subst (IsValid n) m.2 (let l : m.0 < 2 ^ 32 = omega (arith, w.1, w.2) in l)
            | inr r2 ↦ elim (contains_cases EnableNot o (made ++ outs) r2) [
              | inl e ↦ subst (IsValid n) e tt
              | inr r3 ↦ elim (Contains-append_cases made outs o r3) [
                | inl i ↦ let w = contains_flat_map definition_origins n.definitions o i in valid_definition w.0 o (of_signal w.0.id (defined_signal n w.0 w.1)) w.2
                | inr i ↦
                    let m = contains_map ScanOut (numbers_from 0 chains) o i in
                    let w = contains_numbers 0 chains m.0 m.1 in
                    subst (IsValid n) m.2 (let l : m.0 < 2 ^ 32 = omega (arith, w.1, w.2) in l)
              ]
            ]
          ]
        ]
      ]
