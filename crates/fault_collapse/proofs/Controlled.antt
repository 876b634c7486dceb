-- A gate with a pin at a controlling value.
use Rattle.std.proofs.Common.{◌≡◌, ℕ, suc, zero, ◌&&◌, ◌||◌, Bool, true, false, not, List, [], ◌∷◌, length, refl, ◌∙◌, ap, Some, arith}
use Rattle.std.specs.List.{slice_get}
use Rattle.std.proofs.lemmas.Bool.{eqb-true}
use Rattle.statement.specs.declared.kinds.Kind.{Kind}
use Rattle.statement.specs.declared.kinds.Kind.TheVariants.{And, Nand, Or, Nor, Xor, Xnor, Not, Buff, Dff, Const0, Const1}
use Rattle.netlist.specs.Gates.{allows_pins}
use Rattle.statement.specs.Values.{conjunction, disjunction, gate_bit, only}
use Rattle.fault_collapse.specs.Joined.{output_value}

and_false : (b : Bool) → (b && false) ≡ false
and_false true = refl
and_false false = refl

or_true : (b : Bool) → (b || true) ≡ true
or_true true = refl
or_true false = refl

one_low : (vs : List Bool) (k : ℕ) → slice_get vs k ≡ Some false → conjunction vs ≡ false
one_low [] k e = absurd (cc)
one_low (v ∷ vs) zero e = let low : v ≡ false = cc in ap (λ b. b && conjunction vs) low
one_low (v ∷ vs) (suc k) e = ap (λ b. v && b) (one_low vs k e) ∙ and_false v

one_high : (vs : List Bool) (k : ℕ) → slice_get vs k ≡ Some true → disjunction vs ≡ true
one_high [] k e = absurd (cc)
one_high (v ∷ vs) zero e = let high : v ≡ true = cc in ap (λ b. b || disjunction vs) high
one_high (v ∷ vs) (suc k) e = ap (λ b. v || b) (one_high vs k e) ∙ or_true v

alone : (vs : List Bool) (k : ℕ) (v : Bool) → length vs ≡ 1 → slice_get vs k ≡ Some v → only vs ≡ v
alone [] k v l e = absurd (omega arith)
alone (w ∷ []) zero v l e = cc
alone (w ∷ []) (suc k) v l e = absurd (cc)
alone (w ∷ u ∷ vs) k v l e = absurd (omega arith)

pub controlled : (kind : Kind) (v w : Bool) (vs : List Bool) (k : ℕ) → output_value kind v ≡ Some w → allows_pins kind (length vs) ≡ true → slice_get vs k ≡ Some v → gate_bit kind vs ≡ w
controlled And true w vs k e l p = absurd (cc)
controlled And false w vs k e l p = let is : false ≡ w = cc in one_low vs k p ∙ is
controlled Nand true w vs k e l p = absurd (cc)
controlled Nand false w vs k e l p = let is : true ≡ w = cc in ap not (one_low vs k p) ∙ is
controlled Or false w vs k e l p = absurd (cc)
controlled Or true w vs k e l p = let is : true ≡ w = cc in one_high vs k p ∙ is
controlled Nor false w vs k e l p = absurd (cc)
controlled Nor true w vs k e l p = let is : false ≡ w = cc in ap not (one_high vs k p) ∙ is
controlled Not v w vs k e l p = let is : not v ≡ w = cc in ap not (alone vs k v (eqb-true (length vs) 1 l) p) ∙ is
controlled Buff v w vs k e l p = let is : v ≡ w = cc in alone vs k v (eqb-true (length vs) 1 l) p ∙ is
controlled Xor v w vs k e l p = absurd (cc)
controlled Xnor v w vs k e l p = absurd (cc)
controlled Dff v w vs k e l p = absurd (cc)
controlled Const0 v w vs k e l p = absurd (cc)
controlled Const1 v w vs k e l p = absurd (cc)
