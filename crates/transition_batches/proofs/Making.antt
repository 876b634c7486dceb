-- Steps of the loops that make a batch.
use Rattle.std.proofs.Common.{◌≡◌, ℕ, ◌+◌, ◌<◌, Bool, true, false, List, length, get_or, set, take, refl, sym, ◌∙◌, ap, subst, inl, inr}
use Rattle.std.specs.List.{All, Contains}
use Rattle.std.proofs.lemmas.Bool.{both_ways, cases_eq}
use Rattle.std.proofs.lemmas.List.{get_or_default, get_or-set_same, get_or-set_other, length-set}
use Rattle.std.proofs.lemmas.List.Elements.{All-more, All-weaker}
use Rattle.std.proofs.lemmas.Option.{slice_get_within, get_or_from_slice_get}
use Rattle.statement.specs.declared.lines.Line.{Line}
use Rattle.statement.specs.declared.lines.Line.TheVariants.{Pin}
use Rattle.statement.specs.declared.lines.Fault.{Fault}
use Rattle.netlist.specs.Lines.{IsLineOf}
use Rattle.statement.specs.Netlists.{Definition, Netlist, signals}
use Rattle.netlist.specs.Conditions.{IsSound}
use Rattle.netlist.proofs.Settling.{pins_within}
use Rattle.transition_frames.specs.Frames.{source_of, second}
use Rattle.transition_frames.proofs.Making.{source_low}
use Rattle.transition_frames.proofs.Sources.{source_of_pin}
use Rattle.transition_batches.specs.Batches.{read_late}
use Rattle.transition_batches.specs.inner.Marks.{AreSourcesMarked}
use Rattle.transition_batches.proofs.LateReads.{line_is, late_source, late_cases}

-- ---- pins

pub pin_low : (n : Netlist) → IsSound n → (d : Definition) → Contains n.definitions d → (pins : List ℕ) (k x : ℕ) → pins ≡ d.pins → k < length pins → x ≡ get_or pins k x → x < length (signals n)
pin_low n sound d c pins k x e l is =
    subst (λ y. y < length (signals n)) (sym is) (pins_within n sound.formed.numbered sound.closed d c pins (length (signals n)) e refl k x l)

-- a pin reads what stands at its place
pub pin_source : (n : Netlist) → IsSound n → (d : Definition) → Contains n.definitions d → (pins : List ℕ) (z k x : ℕ) → z ≡ d.id → pins ≡ d.pins → k < length pins → x ≡ get_or pins k x
    → source_of n (Pin z k) ≡ x
pin_source n sound d c pins z k x i e l is =
    ap (λ y. source_of n (Pin y k)) i
    ∙ (source_of_pin n sound.formed.numbered d c k ∙ (ap (λ (ps : List ℕ). get_or ps k 0) (sym e) ∙ (sym (get_or_default pins k x 0 l) ∙ sym is)))

-- ---- marks

pub mark_low : (n : Netlist) → IsSound n → (fs : List Fault) → All (λ (f : Fault). IsLineOf n f.line) fs → (j x m : ℕ) (f : Fault) → j < length fs → f ≡ get_or fs j f → x ≡ source_of n f.line
    → m ≡ length (signals n) → x < m
mark_low n sound fs lines j x m f l is own size =
    subst (λ b. x < b) (sym size) (source_low n sound f (subst (λ (g : Fault). IsLineOf n g.line) (sym is) (lines j f l)) x own)

still : (m : List Bool) (x y : ℕ) → x < length m → get_or m y false ≡ true → get_or (set m x true) y false ≡ true
still m x y l h = elim (cases_eq y x) [
  | inl e ↦ ap (λ z. get_or (set m x true) z false) e ∙ get_or-set_same m x true false l
  | inr ne ↦ get_or-set_other m x y true false ne ∙ h
]

-- one source more is marked
pub marks_step : (n : Netlist) (fs : List Fault) (j x : ℕ) (f : Fault) (m new : List Bool) → j < length fs → f ≡ get_or fs j f → x ≡ source_of n f.line → x < length m → new ≡ set m x true
    → AreSourcesMarked n (take j fs) m → AreSourcesMarked n (take (j + 1) fs) new
marks_step n fs j x f m new l is own low e h =
    let P : Fault → Type 0 = λ g. get_or (set m x true) (source_of n g.line) false ≡ true in
    let here : P f = ap (λ y. get_or (set m x true) y false) (sym own) ∙ get_or-set_same m x true false low in
    subst (AreSourcesMarked n (take (j + 1) fs)) (sym e) (record {
      size = length-set m x true ∙ h.size;
      each = All-more P fs j f l (All-weaker (λ (g : Fault). get_or m (source_of n g.line) false ≡ true) P (λ g k. still m x (source_of n g.line) low k) (take j fs) h.each) (subst P is here);
    })

-- a line whose signal isn't marked reads the second frame
pub unmarked_read : (n : Netlist) (fs : List Fault) (marks : List Bool) (line : Line) (x : ℕ) → AreSourcesMarked n fs marks → source_of n line ≡ x → get_or marks x false ≡ false
    → read_late n 0 fs line x ≡ second n x
unmarked_read n fs marks line x marked own e = elim (late_cases n 0 fs line x) [
  | inl w ↦ w.0
  | inr w ↦
      let IsMarked : Fault → Type 0 = λ g. get_or marks (source_of n g.line) false ≡ true in
      let yes : IsMarked w.1 = subst IsMarked (get_or_from_slice_get fs w.0 w.1 w.1 w.2) (marked.each w.0 w.1 (slice_get_within fs w.0 w.1 w.2)) in
      let here : source_of n w.1.line ≡ x = late_source n line x (λ m s. ap (source_of n) (line_is m line s) ∙ own) w.1 w.3 in
      absurd (both_ways (get_or marks x false) e (ap (λ y. get_or marks y false) (sym here) ∙ yes))
]
