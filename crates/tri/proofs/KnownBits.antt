-- Where all that is driven is known, three values are the bits.
use Rattle.std.proofs.Common.{◌≡◌, ℕ, Bool, true, false, cond, List, [], ◌∷◌, map, Option, Some, None, refl, ◌∙◌, ap}
use Rattle.std.specs.List.{All, AllZip}
use Rattle.statement.specs.declared.kinds.Kind.{Kind}
use Rattle.statement.specs.declared.kinds.Tri.{Tri}
use Rattle.statement.specs.declared.kinds.Tri.TheVariants.{Zero, One, X}
use Rattle.statement.specs.declared.lines.Line.{Line}
use Rattle.statement.specs.declared.lines.Fault.{Fault}
use Rattle.statement.specs.Values.{gate_bit, Settles, is_line, stuck, bits, outs, next, known}
use Rattle.statement.specs.Netlists.{Netlist, signals}
use Rattle.netlist.specs.Netlist.{IsAcyclic}
use Rattle.netlist.specs.Conditions.{IsClosed}
use Rattle.netlist.specs.Laws.{Keeps}
use Rattle.netlist.proofs.Alike.{signals_alike, outs_alike, next_alike}
use Rattle.netlist.proofs.Lists.{All-from_contains}
use Rattle.netlist.specs.ThreeValues.{AreAllowed}
use Rattle.tri.specs.Gates.{gate_tri}
use Rattle.tri.specs.Labels.{is_known_as}
use Rattle.tri.specs.Settled.{tris}
use Rattle.tri.proofs.Choices.{no, gate_exact}

knows : Tri → Bool → Bool
knows t b = is_known_as b t

knows_known : (b : Bool) → knows (known b) b ≡ true
unfolding knows
knows_known true = refl
knows_known false = refl

knows_same : (t : Tri) (b : Bool) → knows t b ≡ true → t ≡ known b
unfolding knows
knows_same One true e = refl
knows_same Zero true e = no e
knows_same X true e = no e
knows_same Zero false e = refl
knows_same One false e = no e
knows_same X false e = no e

all_known : (bs : List Bool) → AllZip (λ v b. knows v b ≡ true) (map known bs) bs
all_known [] = tt
all_known (b ∷ bs) = (knows_known b, all_known bs)

all_same : (vs : List Tri) (bs : List Bool) → AllZip (λ v b. knows v b ≡ true) vs bs → vs ≡ map known bs
all_same [] [] h = refl
all_same [] (b ∷ bs) h = absurd h
all_same (v ∷ vs) [] h = absurd h
all_same (v ∷ vs) (b ∷ bs) h = ap (λ x. x ∷ vs) (knows_same v b h.0) ∙ ap (λ xs. known b ∷ xs) (all_same vs bs h.1)

only_choice : (bs cs : List Bool) → AreAllowed (map known bs) cs → cs ≡ bs
only_choice [] [] h = refl
only_choice [] (c ∷ cs) h = absurd h
only_choice (b ∷ bs) [] h = absurd h
only_choice (true ∷ bs) (true ∷ cs) h = ap (λ xs. true ∷ xs) (only_choice bs cs h.1)
only_choice (true ∷ bs) (false ∷ cs) h = no h.0
only_choice (false ∷ bs) (true ∷ cs) h = no h.0
only_choice (false ∷ bs) (false ∷ cs) h = ap (λ xs. false ∷ xs) (only_choice bs cs h.1)

pub gate_known : (kind : Kind) (bs : List Bool) → gate_tri kind (map known bs) ≡ known (gate_bit kind bs)
gate_known kind bs = (gate_exact kind (map known bs) (gate_bit kind bs)).1 (λ cs h. ap (gate_bit kind) (only_choice bs cs h))

stuck_known : (g : Option Fault) (line : Line) (v : Tri) (b : Bool) → knows v b ≡ true → knows (stuck known g line v) (stuck (λ c. c) g line b) ≡ true
stuck_known None line v b h = h
stuck_known (Some f) line v b h =
    let step : (c : Bool) → knows (cond c (known f.value) v) (cond c f.value b) ≡ true = elim [ true ↦ knows_known f.value | false ↦ h ] in
    step (is_line f.line line)

keeps_known : (g : Option Fault) (n : Netlist) → Keeps knows (tris g) (bits g) n
keeps_known g n = record {
  lines = stuck_known g;
  gates = λ d vs bs c l h.
      ap (λ (xs : List Tri). knows (gate_tri d.kind xs) (gate_bit d.kind bs)) (all_same vs bs h)
      ∙ (ap (λ v. knows v (gate_bit d.kind bs)) (gate_known d.kind bs) ∙ knows_known (gate_bit d.kind bs));
}

pub known_values : (f : Option Fault) (n : Netlist) (inputs state : List Bool) (t : ℕ → Tri) (a : ℕ → Bool) → IsClosed n → IsAcyclic n
    → Settles (tris f) n (map known inputs) (map known state) t → Settles (bits f) n inputs state a
    → All (λ x. t x ≡ known (a x)) (signals n)
    × (outs (tris f) n t ≡ map known (outs (bits f) n a))
    × (next (tris f) n t ≡ map known (next (bits f) n a))
known_values f n inputs state t a closed acyclic p q =
    let keeps = keeps_known f n in
    let i = all_known inputs in
    let s = all_known state in (
      All-from_contains (λ x. t x ≡ known (a x)) (signals n)
          (λ x c. knows_same (t x) (a x) (signals_alike knows (tris f) (bits f) n keeps closed acyclic (map known inputs) (map known state) inputs state t a i s p q x c)),
      all_same _ _ (outs_alike knows (tris f) (bits f) n keeps closed acyclic (map known inputs) (map known state) inputs state t a i s p q),
      all_same _ _ (next_alike knows (tris f) (bits f) n keeps closed acyclic (map known inputs) (map known state) inputs state t a i s p q),
    )
