-- Bits and three values are such tables as the bridge asks for.
use Rattle.std.proofs.Common.{◌≡◌, Bool, true, false, not, [], ◌∷◌, refl, ap}
use Rattle.std.specs.Bool.{Decides, beq}
use Rattle.std.proofs.lemmas.List.{map-id}
use Rattle.statement.specs.declared.kinds.Kind.TheVariants.{And, Or, Not}
use Rattle.statement.specs.declared.kinds.Tri.{Tri}
use Rattle.statement.specs.declared.kinds.Tri.TheVariants.{Zero, One, X}
use Rattle.statement.specs.Values.{gate_bit, bit_table, known}
use Rattle.netlist.proofs.Lists.{decides_beq}
use Rattle.tri.specs.Gates.{gate_tri}
use Rattle.tri.specs.Settled.{tri_table}
use Rattle.tri.proofs.KnownBits.{gate_known}
use Rattle.scan_insert.specs.Laws.{Multiplexes}
use Rattle.scan_insert.proofs.Concrete.{bits_multiplex}
use Rattle.scan_play.proofs.Bridge.{IsAboveBits}

pub bits_above : IsAboveBits bit_table
bits_above = record {
  blank = false;
  same = beq;
  decides = decides_beq;
  multiplexes = bits_multiplex;
  gates = λ kind bs. ap (gate_bit kind) (map-id bs);
}

-- ---- three values

pub same_tri : Tri → Tri → Bool
same_tri Zero Zero = true
same_tri Zero One = false
same_tri Zero X = false
same_tri One Zero = false
same_tri One One = true
same_tri One X = false
same_tri X Zero = false
same_tri X One = false
same_tri X X = true

pub decides_tri : (v w : Tri) → Decides (same_tri v w) (v ≡ w)
unfolding same_tri
decides_tri Zero Zero = ((λ e. refl), (λ e. refl))
decides_tri Zero One = ((λ e. cc), (λ e. cc))
decides_tri Zero X = ((λ e. cc), (λ e. cc))
decides_tri One Zero = ((λ e. cc), (λ e. cc))
decides_tri One One = ((λ e. refl), (λ e. refl))
decides_tri One X = ((λ e. cc), (λ e. cc))
decides_tri X Zero = ((λ e. cc), (λ e. cc))
decides_tri X One = ((λ e. cc), (λ e. cc))
decides_tri X X = ((λ e. refl), (λ e. refl))

and_one : (v : Tri) → gate_tri And (v ∷ One ∷ []) ≡ v
and_one Zero = refl
and_one One = refl
and_one X = refl

and_zero : (v : Tri) → gate_tri And (v ∷ Zero ∷ []) ≡ Zero
and_zero Zero = refl
and_zero One = refl
and_zero X = refl

or_zero : (v : Tri) → gate_tri Or (v ∷ Zero ∷ []) ≡ v
or_zero Zero = refl
or_zero One = refl
or_zero X = refl

zero_or : (v : Tri) → gate_tri Or (Zero ∷ v ∷ []) ≡ v
zero_or Zero = refl
zero_or One = refl
zero_or X = refl

inverts : (b : Bool) → gate_tri Not (known b ∷ []) ≡ known (not b)
inverts true = refl
inverts false = refl

pub tris_multiplex : Multiplexes tri_table
tris_multiplex = record { buff = λ v. refl; inverts = inverts; and_one = and_one; and_zero = and_zero; or_zero = or_zero; zero_or = zero_or }

pub tris_above : IsAboveBits tri_table
tris_above = record { blank = X; same = same_tri; decides = decides_tri; multiplexes = tris_multiplex; gates = gate_known }
