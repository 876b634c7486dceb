-- What the conditions on parts show of the names that nothing defines, and of the numbers of pins.
use Rattle.std.proofs.Common.{◌≡◌, ℕ, ◌<◌, ◌≤◌, true, false, ◌&&◌, length, refl, inl, inr, arith, eqb, leb}
use Rattle.std.proofs.lemmas.Bool.{and_parts, both_ways, cases_lt, leb-true, eqb-true}
use Rattle.std.specs.List.{All, Contains}
use Rattle.statement.specs.declared.kinds.Kind.{Kind}
use Rattle.statement.specs.declared.kinds.Kind.TheVariants.{And, Nand, Or, Nor, Xor, Xnor, Not, Buff, Dff, Const0, Const1}
use Rattle.netlist.specs.Gates.{allows_pins}
use Rattle.statement.specs.Netlists.{Definition, Netlist, cells, is_cell, is_flip_flop, signals}
use Rattle.netlist.specs.Conditions.{IsWellFormed, IsClosed, HasReader, IsSound, IsUndefined}
use Rattle.netlist.proofs.Lists.{All-from_contains, contains_filter}
use Rattle.std.proofs.lemmas.List.Elements.{All-contains}
use Rattle.netlist.proofs.Placed.{signal_below, signal_from}

-- what is read is defined
pub read_is_signal : (n : Netlist) → IsClosed n → (x : ℕ) → HasReader n x → Contains (signals n) x
read_is_signal n closed x read = elim read [
  | inl pin ↦ All-contains (Contains (signals n)) pin.0.pins x (All-contains (λ (d : Definition). All (Contains (signals n)) d.pins) n.definitions pin.0 closed.pins pin.1) pin.2
  | inr out ↦ All-contains (Contains (signals n)) n.outputs x closed.outputs out
]

module _ (n : Netlist) (formed : IsWellFormed n) where
  -- where no name is left over, all that is read is defined
  pub all_defined : length n.names ≤ length (signals n) → (x : ℕ) → HasReader n x → Contains (signals n) x
  all_defined few x read = signal_from n formed.numbered x (let l = formed.read_named x read in omega arith)

  pub closed_of : length n.names ≤ length (signals n) → IsClosed n
  closed_of few = record {
    pins = All-from_contains (λ (d : Definition). All (Contains (signals n)) d.pins) n.definitions
        (λ d c. All-from_contains (Contains (signals n)) d.pins (λ x p. all_defined few x (inl (d, c, p))));
    outputs = All-from_contains (Contains (signals n)) n.outputs (λ x p. all_defined few x (inr p));
    allowed = formed.allowed;
  }

  pub none_undefined : length n.names ≤ length (signals n) → (x : ℕ) → ¬ IsUndefined n x
  none_undefined few x u = u.1 (all_defined few x u.0)

  pub first_undefined : length (signals n) < length n.names → IsUndefined n (length (signals n))
  first_undefined more =
      let out : ¬ Contains (signals n) (length (signals n)) = λ c. let l = signal_below n formed.numbered (length (signals n)) c in omega arith in (
        elim (formed.used (length (signals n)) more) [
          | inl c ↦ absurd (out c)
          | inr r ↦ r
        ],
        out,
      )

  pub none_before : (y : ℕ) → y < length (signals n) → ¬ IsUndefined n y
  none_before y l u = u.1 (signal_from n formed.numbered y l)

-- there is a name for each signal, and no other
pub names_counted : (n : Netlist) → IsSound n → length n.names ≡ length (signals n)
names_counted n sound = elim (cases_lt (length n.names) (length (signals n))) [
  | inl few ↦ let named = sound.formed.named (length n.names) (signal_from n sound.formed.numbered (length n.names) few) in absurd (omega arith)
  | inr enough ↦ elim (cases_lt (length (signals n)) (length n.names)) [
    | inl more ↦
        let undefined = first_undefined n sound.formed more in
        absurd (undefined.1 (read_is_signal n sound.closed (length (signals n)) undefined.0))
    | inr same ↦ omega arith
  ]
]

between : (low count : ℕ) → (leb low count && leb count 1024) ≡ true → count ≤ 1024
between low count e = leb-true count 1024 (and_parts (leb low count) (leb count 1024) e).1

single : (count : ℕ) → eqb count 1 ≡ true → count ≤ 1024
single count e = let one = eqb-true count 1 e in omega arith

none : (count : ℕ) → eqb count 0 ≡ true → count ≤ 1024
none count e = let zero' = eqb-true count 0 e in omega arith

pub few_pins : (kind : Kind) (count : ℕ) → allows_pins kind count ≡ true → count ≤ 1024
few_pins And count e = between 1 count e
few_pins Nand count e = between 1 count e
few_pins Or count e = between 1 count e
few_pins Nor count e = between 1 count e
few_pins Xor count e = between 2 count e
few_pins Xnor count e = between 2 count e
few_pins Not count e = single count e
few_pins Buff count e = single count e
few_pins Dff count e = single count e
few_pins Const0 count e = none count e
few_pins Const1 count e = none count e

flip_flop_pin : (kind : Kind) (count : ℕ) → is_flip_flop kind ≡ true → allows_pins kind count ≡ true → count ≡ 1
flip_flop_pin And count f e = absurd (both_ways false refl f)
flip_flop_pin Nand count f e = absurd (both_ways false refl f)
flip_flop_pin Or count f e = absurd (both_ways false refl f)
flip_flop_pin Nor count f e = absurd (both_ways false refl f)
flip_flop_pin Xor count f e = absurd (both_ways false refl f)
flip_flop_pin Xnor count f e = absurd (both_ways false refl f)
flip_flop_pin Not count f e = absurd (both_ways false refl f)
flip_flop_pin Buff count f e = absurd (both_ways false refl f)
flip_flop_pin Dff count f e = eqb-true count 1 e
flip_flop_pin Const0 count f e = absurd (both_ways false refl f)
flip_flop_pin Const1 count f e = absurd (both_ways false refl f)

-- each cell has one pin
pub one_pin : (n : Netlist) → IsClosed n → All (λ (d : Definition). length d.pins ≡ 1) (cells n)
one_pin n closed = All-from_contains (λ (d : Definition). length d.pins ≡ 1) (cells n) (λ d c.
    let m = contains_filter is_cell n.definitions d c in
    flip_flop_pin d.kind (length d.pins) m.1 (All-contains (λ (e : Definition). allows_pins e.kind (length e.pins) ≡ true) n.definitions d closed.allowed m.0))

pub few_pins_of : (n : Netlist) → IsClosed n → (d : Definition) → Contains n.definitions d → length d.pins ≤ 1024
few_pins_of n closed d c = few_pins d.kind (length d.pins) (All-contains (λ (e : Definition). allows_pins e.kind (length e.pins) ≡ true) n.definitions d closed.allowed c)
