-- What a gate makes of pairs on its pins: each pair, if one pin may have it, or its opposite, and the others have each bit twice.
use Rattle.std.proofs.Common.{◌≡◌, ℕ, Bool, true, false, not, ◌&&◌, ◌||◌, cond, List, [], ◌∷◌, map, length, refl, sym, ◌∙◌, ap, subst, inl, inr, arith}
use Rattle.std.specs.List.{Contains}
use Rattle.std.proofs.lemmas.Bool.{cases_eq, eqb-true}
use Rattle.statement.specs.declared.kinds.Kind.{Kind}
use Rattle.statement.specs.declared.kinds.Kind.TheVariants.{And, Nand, Or, Nor, Xor, Xnor, Not, Buff, Dff, Const0, Const1}
use Rattle.netlist.specs.Gates.{allows_pins}
use Rattle.statement.specs.Values.{gate_bit, conjunction, disjunction, parity, only}
use Rattle.netlist.proofs.Lists.{contains_cases, contains_head, contains_nil, contains_tail}
use Rattle.refutation.specs.declared.pairs.Pairs.{Pairs}
use Rattle.refutation.specs.Pairs.{Pair, has, AreAmong}
use Rattle.refutation.proofs.PairLemmas.{pair}

abbrev pub goods : List Pair → List Bool
goods ps = map (λ (p : Pair). p.good) ps

abbrev pub faulties : List Pair → List Bool
faulties ps = map (λ (p : Pair). p.faulty) ps

-- a bit twice, for each of these
abbrev pub twins : Bool → List ℕ → List Pair
twins c xs = map (λ (x : ℕ). pair c c) xs

abbrev rest : Bool → List ℕ → List Bool
rest c xs = map (λ (x : ℕ). c) xs

pub goods_twins : (c : Bool) (xs : List ℕ) → goods (twins c xs) ≡ map (λ (x : ℕ). c) xs
goods_twins c [] = refl
goods_twins c (x ∷ xs) = ap (λ bs. c ∷ bs) (goods_twins c xs)

pub faulties_twins : (c : Bool) (xs : List ℕ) → faulties (twins c xs) ≡ map (λ (x : ℕ). c) xs
faulties_twins c [] = refl
faulties_twins c (x ∷ xs) = ap (λ bs. c ∷ bs) (faulties_twins c xs)

pub among_twins : (sets : ℕ → Pairs) (c : Bool) (xs : List ℕ) → ((y : ℕ) → Contains xs y → has (sets y) (pair c c) ≡ true) → AreAmong (map sets xs) (twins c xs)
among_twins sets c [] h = tt
among_twins sets c (x ∷ xs) h = (h x (contains_head x xs), among_twins sets c xs (λ y m. h y (contains_tail x y xs m)))

pub not_not : (b : Bool) → not (not b) ≡ b
not_not true = refl
not_not false = refl

-- ---- with this bit at the other pins a gate gives what one has

record IsFold (op : List Bool → Bool) (unit : Bool) : Type 0 where
  skip : (bs : List Bool) → op (unit ∷ bs) ≡ op bs
  first : (b : Bool) (xs : List ℕ) → op (b ∷ rest unit xs) ≡ b

all_ones : (xs : List ℕ) → conjunction (rest true xs) ≡ true
all_ones [] = refl
all_ones (x ∷ xs) = all_ones xs

no_ones : (xs : List ℕ) → disjunction (rest false xs) ≡ false
no_ones [] = refl
no_ones (x ∷ xs) = no_ones xs

even_ones : (xs : List ℕ) → parity (rest false xs) ≡ false
even_ones [] = refl
even_ones (x ∷ xs) = even_ones xs

and_true : (b : Bool) → (b && true) ≡ b
and_true true = refl
and_true false = refl

or_false : (b : Bool) → (b || false) ≡ b
or_false true = refl
or_false false = refl

cond_bit : (b : Bool) → cond b (not false) false ≡ b
cond_bit true = refl
cond_bit false = refl

and_fold : IsFold conjunction true
and_fold = record { skip = λ bs. refl; first = λ b xs. ap (λ t. b && t) (all_ones xs) ∙ and_true b }

or_fold : IsFold disjunction false
or_fold = record { skip = λ bs. refl; first = λ b xs. ap (λ t. b || t) (no_ones xs) ∙ or_false b }

odd_fold : IsFold parity false
odd_fold = record { skip = λ bs. refl; first = λ b xs. ap (λ t. cond b (not t) t) (even_ones xs) ∙ cond_bit b }

-- ---- pairs of the pins' sets of which the pair is made

pub record IsMadeOf (op : List Bool → Bool) (sets : ℕ → Pairs) (xs : List ℕ) (p : Pair) : Type 0 where
  pub pairs : List Pair
  pub among : AreAmong (map sets xs) pairs
  pub good : op (goods pairs) ≡ p.good
  pub faulty : op (faulties pairs) ≡ p.faulty

module _ (sets : ℕ → Pairs) (x : ℕ) (q : Pair) (h : has (sets x) q ≡ true) where
  there : (y : ℕ) → y ≡ x → has (sets y) q ≡ true
  there y e = subst (λ z. has (sets z) q ≡ true) (sym e) h

  picked : (op : List Bool → Bool) (unit : Bool) → IsFold op unit → (xs : List ℕ) → Contains xs x → ((y : ℕ) → Contains xs y → has (sets y) (pair unit unit) ≡ true) → IsMadeOf op sets xs q
  picked op unit fold [] c units = absurd (contains_nil x c)
  picked op unit fold (y ∷ ys) c units = elim (cases_eq y x) [
    | inl e ↦ record {
      pairs = q ∷ twins unit ys;
      among = (there y e, among_twins sets unit ys (λ z m. units z (contains_tail y z ys m)));
      good = ap (λ bs. op (q.good ∷ bs)) (goods_twins unit ys) ∙ fold.first q.good ys;
      faulty = ap (λ bs. op (q.faulty ∷ bs)) (faulties_twins unit ys) ∙ fold.first q.faulty ys;
    }
    | inr ne ↦
        let behind : Contains ys x = elim (contains_cases y x ys c) [ inl e ↦ absurd (ne e) | inr m ↦ m ] in
        let r = picked op unit fold ys behind (λ z m. units z (contains_tail y z ys m)) in
        record {
          pairs = pair unit unit ∷ r.pairs;
          among = (units y (contains_head y ys), r.among);
          good = fold.skip (goods r.pairs) ∙ r.good;
          faulty = fold.skip (faulties r.pairs) ∙ r.faulty;
        }
  ]

  one_pin : (xs : List ℕ) → length xs ≡ 1 → Contains xs x → IsMadeOf only sets xs q
  one_pin [] l c = absurd (omega arith)
  one_pin (y ∷ []) l c = elim (contains_cases y x [] c) [
    | inl e ↦ record { pairs = q ∷ []; among = (there y e, tt); good = refl; faulty = refl }
    | inr m ↦ absurd (contains_nil x m)
  ]
  one_pin (y ∷ z ∷ zs) l c = absurd (omega arith)

-- ---- of each kind

-- what one pin has where the gate gives this
abbrev pub turned : Pair → Pair
turned p = pair (not p.good) (not p.faulty)

abbrev pub at_pin : Kind → Pair → Pair
at_pin And p = p
at_pin Nand p = turned p
at_pin Or p = p
at_pin Nor p = turned p
at_pin Xor p = p
at_pin Xnor p = turned p
at_pin Not p = turned p
at_pin Buff p = p
at_pin Dff p = p
at_pin Const0 p = p
at_pin Const1 p = p

module _ (sets : ℕ → Pairs) (xs : List ℕ) (p : Pair) (kind : Kind) (op : List Bool → Bool) where
  straight : ((bs : List Bool) → gate_bit kind bs ≡ op bs) → IsMadeOf op sets xs p → IsMadeOf (gate_bit kind) sets xs p
  straight same r = record { pairs = r.pairs; among = r.among; good = same (goods r.pairs) ∙ r.good; faulty = same (faulties r.pairs) ∙ r.faulty }

  inverting : ((bs : List Bool) → gate_bit kind bs ≡ not (op bs)) → IsMadeOf op sets xs (turned p) → IsMadeOf (gate_bit kind) sets xs p
  inverting same r = record {
    pairs = r.pairs;
    among = r.among;
    good = same (goods r.pairs) ∙ (ap not r.good ∙ not_not p.good);
    faulty = same (faulties r.pairs) ∙ (ap not r.faulty ∙ not_not p.faulty);
  }

module _ (sets : ℕ → Pairs) (xs : List ℕ) (units : (y : ℕ) → Contains xs y → (b : Bool) → has (sets y) (pair b b) ≡ true) (x : ℕ) (c : Contains xs x) (p : Pair) where
  no_pin : {P : Type 0} → length xs ≡ 0 → P
  no_pin e = let l = c.1 in absurd (omega arith)

  pub makes : (kind : Kind) → allows_pins kind (length xs) ≡ true → has (sets x) (at_pin kind p) ≡ true → IsMadeOf (gate_bit kind) sets xs p
  makes And a h = straight sets xs p And conjunction (λ bs. refl) (picked sets x p h conjunction true and_fold xs c (λ y m. units y m true))
  makes Nand a h = inverting sets xs p Nand conjunction (λ bs. refl) (picked sets x (turned p) h conjunction true and_fold xs c (λ y m. units y m true))
  makes Or a h = straight sets xs p Or disjunction (λ bs. refl) (picked sets x p h disjunction false or_fold xs c (λ y m. units y m false))
  makes Nor a h = inverting sets xs p Nor disjunction (λ bs. refl) (picked sets x (turned p) h disjunction false or_fold xs c (λ y m. units y m false))
  makes Xor a h = straight sets xs p Xor parity (λ bs. refl) (picked sets x p h parity false odd_fold xs c (λ y m. units y m false))
  makes Xnor a h = inverting sets xs p Xnor parity (λ bs. refl) (picked sets x (turned p) h parity false odd_fold xs c (λ y m. units y m false))
  makes Not a h = inverting sets xs p Not only (λ bs. refl) (one_pin sets x (turned p) h xs (eqb-true (length xs) 1 a) c)
  makes Buff a h = straight sets xs p Buff only (λ bs. refl) (one_pin sets x p h xs (eqb-true (length xs) 1 a) c)
  makes Dff a h = straight sets xs p Dff only (λ bs. refl) (one_pin sets x p h xs (eqb-true (length xs) 1 a) c)
  makes Const0 a h = no_pin (eqb-true (length xs) 0 a)
  makes Const1 a h = no_pin (eqb-true (length xs) 0 a)
