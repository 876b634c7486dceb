-- The labels on the pins of a gate, read one after the other.
use Rattle.std.proofs.Common.{◌≡◌, ℕ, ◌<◌, Bool, true, false, List, [], ◌∷◌, Option, length, map, refl, ◌∙◌, ap}
use Rattle.std.specs.Prelude.{IsTrue}
use Rattle.std.specs.List.{All}
use Rattle.std.proofs.lemmas.List.{get_or_default}
use Rattle.std.proofs.lemmas.List.Elements.{All-head, All-tail}
use Rattle.statement.specs.declared.kinds.Kind.{Kind}
use Rattle.statement.specs.declared.kinds.Tri.{Tri}
use Rattle.statement.specs.declared.lines.Line.TheVariants.{Stem}
use Rattle.statement.specs.declared.lines.Fault.{Fault}
use Rattle.statement.specs.Values.{on_pins}
use Rattle.netlist.specs.Settled.{at}
use Rattle.events.specs.Waiting.{given}
use Rattle.tri.specs.declared.labels.Label.{Label}
use Rattle.tri.specs.Labels.{Decisions, labels, label_of}

pub same_reads : {V : Type 0} (values : List V) (ids : List ℕ) (d e : V) → All (λ x. x < length values) ids → map (at values d) ids ≡ map (at values e) ids
same_reads values [] d e h = refl
same_reads values (x ∷ xs) d e h =
    ap (λ v. v ∷ map (at values d) xs) (get_or_default values x d e (All-head (λ y. y < length values) x xs h))
    ∙ ap (λ vs. at values e x ∷ vs) (same_reads values xs d e (All-tail (λ y. y < length values) x xs h))

pub all_read : (f : Option Fault) (path : Decisions) (id : ℕ) (kind : Kind) (pins : List ℕ) (values : List Label) (d e : Label) (made result : Label)
    → All (λ x. x < length values) pins → made ≡ (labels f path).gate (record { id = id; kind = kind; pins = pins }) (on_pins (labels f path) id 0 (map (at values d) pins))
    → result ≡ (labels f path).line (Stem id) made → result ≡ given (labels f path) (at values e) (record { id = id; kind = kind; pins = pins })
all_read f path id kind pins values d e made result below m r =
    r ∙ ap ((labels f path).line (Stem id)) (m ∙ ap (λ vs. (labels f path).gate (record { id = id; kind = kind; pins = pins }) (on_pins (labels f path) id 0 vs)) (same_reads values pins d e below))

-- where nothing may differ nobody asks for the value with the fault
pub same_label : (decision : Option Bool) (own t u : Tri) (differs : Bool) → (IsTrue differs → t ≡ u) → label_of decision own t differs ≡ label_of decision own u differs
same_label decision own t u true h = ap (λ v. label_of decision own v true) (h refl)
same_label decision own t u false h = refl
