-- Laws of three values and labels, each the contract of a function of its name.
use Rattle.std.specs.Prelude.{ℕ, ◌≡◌, Bool, List, map, Option, Some, None, IsTrue}
use Rattle.std.specs.List.{All}
use Rattle.statement.specs.declared.kinds.Tri.{Tri}
use Rattle.statement.specs.declared.lines.Fault.{Fault}
use Rattle.statement.specs.declared.lines.Point.{Point}
use Rattle.netlist.specs.Conditions.{IsClosed, IsSound}
use Rattle.statement.specs.Netlists.{Netlist, signals}
use Rattle.netlist.specs.Netlist.{IsAcyclic}
use Rattle.statement.specs.Values.{Settles, bits, outs, next, known, allows}
use Rattle.netlist.specs.ThreeValues.{AreAllowed}
use Rattle.tri.specs.Known.{allows_tri, AreAllowedTris}
use Rattle.statement.specs.Patterns.{Holds, Obeys, Detects}
use Rattle.tri.specs.Settled.{tris}
use Rattle.netlist.specs.Detection.{IsRedundant}
use Rattle.tri.specs.declared.labels.Label.{Label}
use Rattle.tri.specs.Labels.{Decisions, labels, AreLabels, AllowsLabel, IsContradicted, IsClosedAt, Follows, MeetsDecisions, IsAbove, AreAbove}

-- Settled three values allow the settled bits of each choice for the Xs that are driven, everywhere.
abbrev pub ThreeValuesAboveBits : Type 0
ThreeValuesAboveBits =
    (f : Option Fault) (n : Netlist) (inputs state : List Tri) (bit_inputs bit_state : List Bool) (t : ℕ → Tri) (a : ℕ → Bool)
    → IsClosed n → IsAcyclic n
    → AreAllowed inputs bit_inputs → AreAllowed state bit_state
    → Settles (tris f) n inputs state t → Settles (bits f) n bit_inputs bit_state a
    → All (λ x. IsTrue (allows (t x) (a x))) (signals n)
    × AreAllowed (outs (tris f) n t) (outs (bits f) n a)
    × AreAllowed (next (tris f) n t) (next (bits f) n a)

-- What settles where more is driven as X allows what settles where less is, everywhere: more X in, no less X out.
abbrev pub ThreeValuesAlike : Type 0
ThreeValuesAlike =
    (f : Option Fault) (n : Netlist) (inputs state inputs' state' : List Tri) (t t' : ℕ → Tri)
    → IsClosed n → IsAcyclic n
    → AreAllowedTris inputs inputs' → AreAllowedTris state state'
    → Settles (tris f) n inputs state t → Settles (tris f) n inputs' state' t'
    → All (λ x. IsTrue (allows_tri (t x) (t' x))) (signals n)
    × AreAllowedTris (outs (tris f) n t) (outs (tris f) n t')
    × AreAllowedTris (next (tris f) n t) (next (tris f) n t')

-- Where all that is driven is known, the settled three values are the settled bits, everywhere.
abbrev pub KnownValues : Type 0
KnownValues =
    (f : Option Fault) (n : Netlist) (inputs state : List Bool) (t : ℕ → Tri) (a : ℕ → Bool)
    → IsClosed n → IsAcyclic n
    → Settles (tris f) n (map known inputs) (map known state) t → Settles (bits f) n inputs state a
    → All (λ x. t x ≡ known (a x)) (signals n)
    × (outs (tris f) n t ≡ map known (outs (bits f) n a))
    × (next (tris f) n t ≡ map known (next (bits f) n a))

-- Labels allow the bits, without and with the fault, of each pattern that obeys the held inputs and follows the decisions, everywhere.
abbrev pub LabelsAbovePatterns : Type 0
LabelsAbovePatterns =
    (f : Fault) (path : Decisions) (n : Netlist) (holds : Holds) (l : ℕ → Label) (inputs state : List Bool) (good faulty : ℕ → Bool)
    → IsSound n → AreLabels (Some f) path n holds l
    → Settles (bits None) n inputs state good → Settles (bits (Some f)) n inputs state faulty
    → Obeys holds inputs → Follows path n good
    → All (λ x. IsAbove (l x) (good x) (faulty x)) (signals n)
    × AreAbove (outs (labels (Some f) path) n l) (outs (bits None) n good) (outs (bits (Some f)) n faulty)
    × AreAbove (next (labels (Some f) path) n l) (next (bits None) n good) (next (bits (Some f)) n faulty)

-- With more decisions, none of which is contradicted, each signal's label is known no less: its values stay where they were known,
-- and it may differ only where it might before. So along a path without contradiction each part of a label changes at most once.
abbrev pub MoreDecisionsMoreKnown : Type 0
MoreDecisionsMoreKnown =
    (f : Option Fault) (path path' : Decisions) (n : Netlist) (holds : Holds) (l m : ℕ → Label)
    → IsSound n → AreLabels f path n holds l → AreLabels f path' n holds m
    → ((x : ℕ) (b : Bool) → path x ≡ Some b → path' x ≡ Some b)
    → ¬ IsContradicted path' n m
    → All (λ x. AllowsLabel (l x) (m x)) (signals n)

-- Where the label is closed, no pattern that obeys the held inputs and agrees with the decisions detects the fault.
abbrev pub ClosedDetectsNothing : Type 0
ClosedDetectsNothing =
    (f : Fault) (path : Decisions) (n : Netlist) (holds : Holds) (l : ℕ → Label) (inputs state : List Bool) (point : Point)
    → IsSound n → AreLabels (Some f) path n holds l → IsClosedAt f path n l
    → Obeys holds inputs → MeetsDecisions path n inputs state
    → ¬ Detects n f inputs state point

-- A redundant fault changes nothing that is observed, under any pattern that obeys the held inputs.
abbrev pub RedundantChangesNothing : Type 0
RedundantChangesNothing =
    (f : Fault) (n : Netlist) (holds : Holds) (inputs state : List Bool) (good faulty : ℕ → Bool)
    → IsRedundant n holds f → Obeys holds inputs
    → Settles (bits None) n inputs state good → Settles (bits (Some f)) n inputs state faulty
    → (outs (bits None) n good ≡ outs (bits (Some f)) n faulty) × (next (bits None) n good ≡ next (bits (Some f)) n faulty)
