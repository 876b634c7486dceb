-- What a gate makes of sets of pairs, pin by pin.
use Rattle.std.specs.Prelude.{Bool, true, false, not, ◌&&◌, ◌||◌, List, [], ◌∷◌, if◌then◌else◌}
use Rattle.statement.specs.declared.kinds.Kind.{Kind}
use Rattle.statement.specs.declared.kinds.Kind.TheVariants.{And, Nand, Or, Nor, Xor, Xnor, Not, Buff, Dff, Const0, Const1}
use Rattle.statement.specs.declared.lines.Line.TheVariants.{Stem}
use Rattle.statement.specs.declared.lines.Fault.{Fault}
use Rattle.statement.specs.Netlists.{Definition}
use Rattle.statement.specs.Values.{Rule, is_line, on_pins}
use Rattle.refutation.specs.declared.pairs.Pairs.{Pairs}
use Rattle.refutation.specs.Pairs.{no_pair}

abbrev pub has_some : Pairs → Bool
has_some s = (s.zero || s.rises) || (s.falls || s.one)

-- an AND of a pair from each
abbrev pub both : Pairs → Pairs → Pairs
both s t = record {
  zero = ((s.zero && has_some t) || (t.zero && has_some s)) || ((s.rises && t.falls) || (s.falls && t.rises));
  rises = (s.rises && (t.rises || t.one)) || (s.one && t.rises);
  falls = (s.falls && (t.falls || t.one)) || (s.one && t.falls);
  one = s.one && t.one;
}

-- the complements of its pairs
abbrev pub inverted : Pairs → Pairs
inverted s = record { zero = s.one; rises = s.falls; falls = s.rises; one = s.zero }

-- an OR, and an XOR
abbrev pub either : Pairs → Pairs → Pairs
either s t = inverted (both (inverted s) (inverted t))

abbrev pub odd : Pairs → Pairs → Pairs
odd s t = record {
  zero = ((s.zero && t.zero) || (s.one && t.one)) || ((s.rises && t.rises) || (s.falls && t.falls));
  rises = ((s.zero && t.rises) || (s.rises && t.zero)) || ((s.one && t.falls) || (s.falls && t.one));
  falls = ((s.zero && t.falls) || (s.falls && t.zero)) || ((s.one && t.rises) || (s.rises && t.one));
  one = ((s.zero && t.one) || (s.one && t.zero)) || ((s.rises && t.falls) || (s.falls && t.rises));
}

-- the first, where there is a pair in the second
abbrev pub beside : Pairs → Pairs → Pairs
beside s t = if has_some t then s else no_pair

-- a gate's pins, the first one first: what a pin makes of those behind it
abbrev pub joined : Kind → Pairs → Pairs → Pairs
joined And s t = both s t
joined Nand s t = both s t
joined Or s t = either s t
joined Nor s t = either s t
joined Xor s t = odd s t
joined Xnor s t = odd s t
joined Not s t = beside s t
joined Buff s t = beside s t
joined Dff s t = beside s t
joined Const0 s t = beside t s
joined Const1 s t = beside t s

-- of no pins
abbrev pub begun : Kind → Pairs
begun And = record { zero = false; rises = false; falls = false; one = true }
begun Nand = record { zero = false; rises = false; falls = false; one = true }
begun _ = record { zero = true; rises = false; falls = false; one = false }

-- some kinds invert
abbrev pub ended : Kind → Pairs → Pairs
ended And s = s
ended Nand s = inverted s
ended Or s = s
ended Nor s = inverted s
ended Xor s = s
ended Xnor s = inverted s
ended Not s = inverted s
ended Buff s = s
ended Dff s = s
ended Const0 s = s
ended Const1 s = inverted s

abbrev pub gathered : Kind → List Pairs → Pairs
gathered kind [] = begun kind
gathered kind (s ∷ ss) = joined kind s (gathered kind ss)

abbrev pub image : Kind → List Pairs → Pairs
image kind sets = ended kind (gathered kind sets)

-- the pairs of a line that is stuck at the bit
abbrev pub stuck_pairs : Bool → Pairs → Pairs
stuck_pairs b s = record {
  zero = not b && (s.zero || s.rises);
  rises = b && (s.zero || s.rises);
  falls = not b && (s.falls || s.one);
  one = b && (s.falls || s.one);
}

-- how sets of pairs settle
abbrev pub set_rule : Fault → Rule Pairs
set_rule f = record { line = λ line s. if is_line f.line line then stuck_pairs f.value s else s; gate = λ d sets. image d.kind sets }

-- what the gate makes of the sets of its pins
abbrev pub made_sets : Fault → Definition → List Pairs → Pairs
made_sets f d sets = (set_rule f).line (Stem d.id) (image d.kind (on_pins (set_rule f) d.id 0 sets))
