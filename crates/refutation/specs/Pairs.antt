-- Pairs of bits of a signal, without the fault and with it, and sets of them. (0, 1, D and its complement: Roth, Diagnosis of automata failures:
-- a calculus and a method, 1966. The sets of these four, as sixteen values: Akers, A logic system for fault test generation, 1976.)
use Rattle.std.specs.Prelude.{Bool, true, false, not, ◌&&◌, cond, List, map, Some, IsTrue, IsFalse}
use Rattle.std.specs.List.{AllZip}
use Rattle.statement.specs.declared.lines.Fault.{Fault}
use Rattle.statement.specs.Values.{gate_bit, Rule, stuck}
use Rattle.refutation.specs.declared.pairs.Pairs.{Pairs}

pub record Pair : Type 0 where
  pub good : Bool
  pub faulty : Bool

-- the pair is in the set
abbrev pub has : Pairs → Pair → Bool
has s p = cond p.good (cond p.faulty s.one s.falls) (cond p.faulty s.rises s.zero)

-- a pair from each of these sets
abbrev pub AreAmong : List Pairs → List Pair → Type 0
AreAmong sets pairs = AllZip (λ s p. IsTrue (has s p)) sets pairs

-- no pair is in both
abbrev pub AreApart : Pairs → Pairs → Type 0
AreApart s t = (p : Pair) → IsTrue (has s p) → IsFalse (has t p)

-- the pairs in both, and those that aren't in it
abbrev pub meet : Pairs → Pairs → Pairs
meet s t = record { zero = s.zero && t.zero; rises = s.rises && t.rises; falls = s.falls && t.falls; one = s.one && t.one }

abbrev pub others : Pairs → Pairs
others s = record { zero = not s.zero; rises = not s.rises; falls = not s.falls; one = not s.one }

abbrev pub no_pair : Pairs
no_pair = record { zero = false; rises = false; falls = false; one = false }

abbrev pub any_pair : Pairs
any_pair = record { zero = true; rises = true; falls = true; one = true }

-- this pair alone
abbrev pub only_pair : Pair → Pairs
only_pair p = record {
  zero = not p.good && not p.faulty;
  rises = not p.good && p.faulty;
  falls = p.good && not p.faulty;
  one = p.good && p.faulty;
}

-- the two bits are the same
abbrev pub same : Pairs
same = record { zero = true; rises = false; falls = false; one = true }

-- this bit without the fault, and with it
abbrev pub good_is : Bool → Pairs
good_is b = record { zero = not b; rises = not b; falls = b; one = b }

abbrev pub faulty_is : Bool → Pairs
faulty_is b = record { zero = not b; rises = b; falls = not b; one = b }

-- how pairs settle: without the fault no line is stuck, with it its line is
abbrev pub paired : Fault → Rule Pair
paired f = record {
  line = λ line p. record { good = p.good; faulty = stuck (λ b. b) (Some f) line p.faulty };
  gate = λ d ps. record { good = gate_bit d.kind (map (λ (p : Pair). p.good) ps); faulty = gate_bit d.kind (map (λ (p : Pair). p.faulty) ps) };
}
