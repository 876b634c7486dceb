-- How many pins a gate may have, and what some bits are together.
use Rattle.std.specs.Prelude.{ℕ, ◌≡◌, Bool, ◌&&◌, ◌==◌, nat_le, List}
use Rattle.statement.specs.Values.{conjunction, disjunction, parity, only}
use Rattle.statement.specs.declared.kinds.Kind.{Kind}
use Rattle.statement.specs.declared.kinds.Kind.TheVariants.{And, Nand, Or, Nor, Xor, Xnor, Not, Buff, Dff, Const0, Const1}

abbrev pub most_pins : ℕ
most_pins = 1024

-- CONST0 and CONST1 have no pin, NOT, BUFF and DFF one, XOR and XNOR two or more, the others one or more; none has over the most
abbrev pub allows_pins : Kind → ℕ → Bool
allows_pins And count = nat_le 1 count && nat_le count most_pins
allows_pins Nand count = nat_le 1 count && nat_le count most_pins
allows_pins Or count = nat_le 1 count && nat_le count most_pins
allows_pins Nor count = nat_le 1 count && nat_le count most_pins
allows_pins Xor count = nat_le 2 count && nat_le count most_pins
allows_pins Xnor count = nat_le 2 count && nat_le count most_pins
allows_pins Not count = count == 1
allows_pins Buff count = count == 1
allows_pins Dff count = count == 1
allows_pins Const0 count = count == 0
allows_pins Const1 count = count == 0

-- what some bits are together
pub record AreReductionsOf (bits : List Bool) (all some odd first : Bool) : Type 0 where
  pub all_is : all ≡ conjunction bits
  pub some_is : some ≡ disjunction bits
  pub odd_is : odd ≡ parity bits
  pub first_is : first ≡ only bits
