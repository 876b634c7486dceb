-- What a gate makes of its pins where one is turned over.
use Rattle.std.proofs.Common.{◌≡◌, ℕ, zero, suc, ◌<◌, Bool, true, false, not, ◌&&◌, ◌||◌, cond, List, [], ◌∷◌, length, refl, sym, ◌∙◌, ap, arith}
use Rattle.std.specs.List.{list_all}
use Rattle.std.proofs.lemmas.Bool.{eqb-true}
use Rattle.statement.specs.declared.kinds.Kind.{Kind}
use Rattle.statement.specs.declared.kinds.Kind.TheVariants.{And, Nand, Or, Nor, Xor, Xnor, Not, Buff, Dff, Const0, Const1}
use Rattle.statement.specs.Values.{conjunction, disjunction, parity, only, gate_bit}
use Rattle.netlist.specs.Gates.{allows_pins}
use Rattle.regions.specs.Turned.{turned}
use Rattle.regions.specs.Sensitized.{is_noncontrolling, sides}

-- the bit at place k turned over, or left as it is
abbrev pub turned_at : ℕ → Bool → List Bool → List Bool
turned_at k t [] = []
turned_at zero t (b ∷ bs) = turned t b ∷ bs
turned_at (suc k) t (b ∷ bs) = b ∷ turned_at k t bs

turned_not : (t b : Bool) → not (turned t b) ≡ turned t (not b)
turned_not true b = refl
turned_not false b = refl

-- ---- AND

all_so : (bs : List Bool) → list_all (λ b. b) bs ≡ conjunction bs
all_so [] = refl
all_so (b ∷ bs) = ap (λ c. b && c) (all_so bs)

and_first : (t b c : Bool) → (turned t b && c) ≡ turned (t && c) (b && c)
and_first false b c = refl
and_first true true true = refl
and_first true true false = refl
and_first true false true = refl
and_first true false false = refl

and_later : (t b s c : Bool) → (b && turned (t && s) c) ≡ turned (t && (b && s)) (b && c)
and_later t true s c = refl
and_later true false s c = refl
and_later false false s c = refl

and_turned : (bs : List Bool) (k : ℕ) (t : Bool) → k < length bs → conjunction (turned_at k t bs) ≡ turned (t && list_all (λ b. b) (sides k bs)) (conjunction bs)
and_turned [] k t l = absurd (omega (arith, l))
and_turned (b ∷ bs) zero t l = and_first t b (conjunction bs) ∙ ap (λ s. turned (t && s) (b && conjunction bs)) (sym (all_so bs))
and_turned (b ∷ bs) (suc k) t l = ap (λ c. b && c) (and_turned bs k t (omega arith)) ∙ and_later t b (list_all (λ c. c) (sides k bs)) (conjunction bs)

-- ---- OR

none_so : (bs : List Bool) → list_all (λ b. not b) bs ≡ not (disjunction bs)
none_so [] = refl
none_so (true ∷ bs) = refl
none_so (false ∷ bs) = none_so bs

or_first : (t b c : Bool) → (turned t b || c) ≡ turned (t && not c) (b || c)
or_first false b c = refl
or_first true true true = refl
or_first true true false = refl
or_first true false true = refl
or_first true false false = refl

or_later : (t b s c : Bool) → (b || turned (t && s) c) ≡ turned (t && (not b && s)) (b || c)
or_later t false s c = refl
or_later true true s c = refl
or_later false true s c = refl

or_turned : (bs : List Bool) (k : ℕ) (t : Bool) → k < length bs → disjunction (turned_at k t bs) ≡ turned (t && list_all (λ b. not b) (sides k bs)) (disjunction bs)
or_turned [] k t l = absurd (omega (arith, l))
or_turned (b ∷ bs) zero t l = or_first t b (disjunction bs) ∙ ap (λ s. turned (t && s) (b || disjunction bs)) (sym (none_so bs))
or_turned (b ∷ bs) (suc k) t l = ap (λ c. b || c) (or_turned bs k t (omega arith)) ∙ or_later t b (list_all (λ c. not c) (sides k bs)) (disjunction bs)

-- ---- XOR, and one pin

always : (bs : List Bool) → list_all (λ b. true) bs ≡ true
always [] = refl
always (b ∷ bs) = always bs

with_always : (t c : Bool) (bs : List Bool) → turned t c ≡ turned (t && list_all (λ b. true) bs) c
with_always true c bs = ap (λ s. turned s c) (sym (always bs))
with_always false c bs = refl

xor_first : (t b c : Bool) → cond (turned t b) (not c) c ≡ turned t (cond b (not c) c)
xor_first true true true = refl
xor_first true true false = refl
xor_first true false c = refl
xor_first false b c = refl

xor_later : (t b c : Bool) → cond b (not (turned t c)) (turned t c) ≡ turned t (cond b (not c) c)
xor_later true true c = refl
xor_later true false c = refl
xor_later false b c = refl

xor_turned : (bs : List Bool) (k : ℕ) (t : Bool) → k < length bs → parity (turned_at k t bs) ≡ turned t (parity bs)
xor_turned [] k t l = absurd (omega (arith, l))
xor_turned (b ∷ bs) zero t l = xor_first t b (parity bs)
xor_turned (b ∷ bs) (suc k) t l = ap (λ c. cond b (not c) c) (xor_turned bs k t (omega arith)) ∙ xor_later t b (parity bs)

only_turned : (bs : List Bool) (k : ℕ) (t : Bool) → k < length bs → length bs ≡ 1 → only (turned_at k t bs) ≡ turned t (only bs)
only_turned [] k t l one = absurd (omega (arith, l))
only_turned (b ∷ bs) zero t l one = refl
only_turned (b ∷ bs) (suc k) t l one = absurd (omega (arith, l, one))

module _ (k : ℕ) (t : Bool) (bs : List Bool) (l : k < length bs) where
  pub gate_turned : (kind : Kind) → allows_pins kind (length bs) ≡ true
      → gate_bit kind (turned_at k t bs) ≡ turned (t && list_all (is_noncontrolling kind) (sides k bs)) (gate_bit kind bs)
  gate_turned And h = and_turned bs k t l
  gate_turned Nand h = ap not (and_turned bs k t l) ∙ turned_not (t && list_all (λ b. b) (sides k bs)) (conjunction bs)
  gate_turned Or h = or_turned bs k t l
  gate_turned Nor h = ap not (or_turned bs k t l) ∙ turned_not (t && list_all (λ b. not b) (sides k bs)) (disjunction bs)
  gate_turned Xor h = xor_turned bs k t l ∙ with_always t (parity bs) (sides k bs)
  gate_turned Xnor h = ap not (xor_turned bs k t l) ∙ (turned_not t (parity bs) ∙ with_always t (not (parity bs)) (sides k bs))
  gate_turned Not h = ap not (only_turned bs k t l (eqb-true (length bs) 1 h)) ∙ (turned_not t (only bs) ∙ with_always t (not (only bs)) (sides k bs))
  gate_turned Buff h = only_turned bs k t l (eqb-true (length bs) 1 h) ∙ with_always t (only bs) (sides k bs)
  gate_turned Dff h = only_turned bs k t l (eqb-true (length bs) 1 h) ∙ with_always t (only bs) (sides k bs)
  gate_turned Const0 h = absurd (let none : length bs ≡ 0 = eqb-true (length bs) 0 h in omega arith)
  gate_turned Const1 h = absurd (let none : length bs ≡ 0 = eqb-true (length bs) 0 h in omega arith)
