-- Three values against three values of which no fewer are known.
use Rattle.std.proofs.Common.{◌≡◌, Bool, true, false, cond, List, [], ◌∷◌, Option, Some, None, refl, subst}
use Rattle.statement.specs.declared.kinds.Kind.{Kind}
use Rattle.statement.specs.declared.kinds.Tri.{Tri}
use Rattle.statement.specs.declared.kinds.Tri.TheVariants.{Zero, One, X}
use Rattle.statement.specs.declared.lines.Line.{Line}
use Rattle.statement.specs.declared.lines.Fault.{Fault}
use Rattle.statement.specs.Netlists.{Netlist}
use Rattle.statement.specs.Values.{is_line, stuck, known, allows}
use Rattle.netlist.specs.Laws.{Keeps}
use Rattle.netlist.specs.ThreeValues.{AreAllowed}
use Rattle.tri.specs.Known.{allows_tri, AreAllowedTris}
use Rattle.tri.specs.Gates.{gate_tri}
use Rattle.tri.specs.Settled.{tris}
use Rattle.tri.proofs.Choices.{no, gate_allows, gate_reaches}

pub allows_tri_bit : (v w : Tri) (b : Bool) → allows_tri v w ≡ true → allows w b ≡ true → allows v b ≡ true
allows_tri_bit X w b h k = refl
allows_tri_bit Zero Zero b h k = k
allows_tri_bit Zero One b h k = no h
allows_tri_bit Zero X b h k = no h
allows_tri_bit One Zero b h k = no h
allows_tri_bit One One b h k = k
allows_tri_bit One X b h k = no h

-- it allows the value where it allows each bit that the value does
allows_tri_from : (v w : Tri) → ((b : Bool) → allows w b ≡ true → allows v b ≡ true) → allows_tri v w ≡ true
allows_tri_from X w h = refl
allows_tri_from Zero Zero h = refl
allows_tri_from Zero One h = h true refl
allows_tri_from Zero X h = h true refl
allows_tri_from One Zero h = h false refl
allows_tri_from One One h = refl
allows_tri_from One X h = h false refl

pub allows_tri_itself : (v : Tri) → allows_tri v v ≡ true
allows_tri_itself Zero = refl
allows_tri_itself One = refl
allows_tri_itself X = refl

bits_allowed : (vs ws : List Tri) (bits : List Bool) → AreAllowedTris vs ws → AreAllowed ws bits → AreAllowed vs bits
bits_allowed [] [] bits h k = k
bits_allowed [] (w ∷ ws) bits h k = absurd h
bits_allowed (v ∷ vs) [] bits h k = absurd h
bits_allowed (v ∷ vs) (w ∷ ws) [] h k = absurd k
bits_allowed (v ∷ vs) (w ∷ ws) (b ∷ bits) h k = (allows_tri_bit v w b h.0 k.0, bits_allowed vs ws bits h.1 k.1)

pub gate_allows_tri : (kind : Kind) (vs ws : List Tri) → AreAllowedTris vs ws → allows_tri (gate_tri kind vs) (gate_tri kind ws) ≡ true
gate_allows_tri kind vs ws h = allows_tri_from (gate_tri kind vs) (gate_tri kind ws) (λ b k.
    let c = gate_reaches kind ws b k in
    subst (λ x. allows (gate_tri kind vs) x ≡ true) c.made (gate_allows kind vs c.bits (bits_allowed vs ws c.bits h c.allowed)))

stuck_allows_tri : (f : Option Fault) (line : Line) (v w : Tri) → allows_tri v w ≡ true → allows_tri (stuck known f line v) (stuck known f line w) ≡ true
stuck_allows_tri None line v w h = h
stuck_allows_tri (Some f) line v w h =
    let step : (c : Bool) → allows_tri (cond c (known f.value) v) (cond c (known f.value) w) ≡ true =
    elim [ true ↦ allows_tri_itself (known f.value) | false ↦ h ] in
    step (is_line f.line line)

pub keeps_tris : (f : Option Fault) (n : Netlist) → Keeps allows_tri (tris f) (tris f) n
keeps_tris f n = record {
  lines = stuck_allows_tri f;
  gates = λ d vs ws c l h. gate_allows_tri d.kind vs ws h;
}
