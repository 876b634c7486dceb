-- The first line of a report and the lines behind the shares: of held inputs, and of faults below them.
use Rattle.std.proofs.Common.{◌≡◌, ◌≢◌, ℕ, Bool, true, false, List, [], ◌∷◌, ◌++◌, get_or, refl, sym, ◌∙◌, ap, codes, append_assoc, arith}
use Rattle.std.specs.List.{All, flat_map}
use Rattle.std.proofs.lemmas.List.{append_cancel_left}
use Rattle.std.proofs.lemmas.List.Elements.{All-head}
use Rattle.statement.specs.Reports.{Line, fault_line, outcome_text}
use Rattle.report.specs.declared.models.FaultModel.{FaultModel}
use Rattle.report.specs.declared.models.FaultModel.TheVariants.{Transition}
use Rattle.report.specs.Beginnings.{NoneBegins}
use Rattle.report.specs.Reports.{Hold, IsFaultTextBy, IsLineBy, at_output, at_pin, at_stem}
use Rattle.report.specs.Texts.{hold_line}
use Rattle.report.specs.inner.Lines.{IsHold, hold_words}
use Rattle.report.proofs.HoldLemmas.{hold_lined, hold_told}
use Rattle.report.proofs.LineLemmas.{nothing_begins, same_lines}
use Rattle.report.proofs.WholeLemmas.{same_faults}
use Rattle.transition_report.specs.Texts.{transition_head}
use Rattle.transition_report.specs.inner.Tables.{AreTables, any_held, head_line, tables_text}

-- ---- the two first lines

pub head_is : (hs : List Hold) → transition_head hs ≡ head_line (any_held hs)
head_is [] = refl
head_is (h ∷ hs) = refl

pub head_told : (b c : Bool) (r s : List ℕ) → head_line b ++ r ≡ head_line c ++ s → (b ≡ c) × (r ≡ s)
head_told false false r s e = (refl, append_cancel_left (codes "atpg transition 1\n") r s e)
head_told true true r s e = (refl, append_cancel_left (codes "atpg transition 2\n") r s e)
head_told false true r s e = let differ : ◌≡◌ {A = ℕ} 49 50 = ap (λ zs. get_or zs 16 0) e in absurd (omega arith)
head_told true false r s e = let differ : ◌≡◌ {A = ℕ} 50 49 = ap (λ zs. get_or zs 16 0) e in absurd (omega arith)

pub no_head : (bytes : List ℕ) → ((r : List ℕ) → bytes ≢ head_line false ++ r) → ((r : List ℕ) → bytes ≢ head_line true ++ r)
    → (held : Bool) (rest : List ℕ) → bytes ≢ head_line held ++ rest
no_head bytes one two false rest e = one rest e
no_head bytes one two true rest e = two rest e

-- ---- no line of a fault is that of a held input: it doesn't begin with the byte of `h`

fault_first : (model : FaultModel) (fault rest : List ℕ) → IsFaultTextBy model fault → get_or (fault ++ rest) 0 0 ≢ 104
fault_first model fault rest (at_stem _ n) e =
    let differ : ◌≡◌ {A = ℕ} 115 104 = sym (ap (λ t. get_or (t ++ rest) 0 0) n.text_is) ∙ e in absurd (omega arith)
fault_first model fault rest (at_output _ n) e =
    let differ : ◌≡◌ {A = ℕ} 111 104 = sym (ap (λ t. get_or (t ++ rest) 0 0) n.text_is) ∙ e in absurd (omega arith)
fault_first model fault rest (at_pin _ n) e =
    let differ : ◌≡◌ {A = ℕ} 112 104 = sym (ap (λ t. get_or (t ++ rest) 0 0) n.text_is) ∙ e in absurd (omega arith)

line_first : (l : Line) (rest : List ℕ) → IsLineBy Transition l → get_or (fault_line l ++ rest) 0 0 ≢ 104
line_first l rest v e =
    fault_first Transition l.fault ((outcome_text l.outcome l.pin ++ codes "\n") ++ rest) v.fault
    (ap (λ xs. get_or xs 0 0) (sym (append_assoc l.fault (outcome_text l.outcome l.pin ++ codes "\n") rest)) ∙ e)

no_hold_begins : (ls : List Line) → All (IsLineBy Transition) ls → NoneBegins IsHold hold_line (flat_map fault_line ls)
no_hold_begins [] v h rest w e = nothing_begins IsHold hold_words hold_line hold_lined h rest w e
no_hold_begins (l ∷ ls) v h rest w e =
    line_first l (flat_map fault_line ls) (All-head (IsLineBy Transition) l ls v) (ap (λ xs. get_or xs 0 0) e)

-- ---- what lines of held inputs are read, and what is left

abbrev pub AreRead : List ℕ → List Hold → List ℕ → Type 0
AreRead text hs rest = All IsHold hs × (text ≡ flat_map hold_line hs ++ rest) × NoneBegins IsHold hold_line rest

pub tables_told : (held : Bool) (text rest : List ℕ) (hs ks : List Hold) (ls : List Line) → AreRead text hs rest → AreTables held ks ls → text ≡ tables_text ks ls
    → (hs ≡ ks) × (rest ≡ flat_map fault_line ls)
tables_told held text rest hs ks ls read v e =
    same_lines IsHold hold_line hold_told hs ks rest (flat_map fault_line ls) read.0 v.holds read.2 (no_hold_begins ls v.lines) (sym read.1 ∙ e)

pub tables_found : (held : Bool) (text rest : List ℕ) (hs : List Hold) (ls : List Line) → AreRead text hs rest → any_held hs ≡ held
    → All (IsLineBy Transition) ls × (rest ≡ flat_map fault_line ls) → AreTables held hs ls × (text ≡ tables_text hs ls)
tables_found held text rest hs ls read told lines =
    (record { holds = read.0; lines = lines.0; told = told }, read.1 ∙ ap (λ t. flat_map hold_line hs ++ t) lines.1)

pub same_tables : (held also : Bool) (hs ks : List Hold) (ls ms : List Line) → AreTables held hs ls → AreTables also ks ms → tables_text hs ls ≡ tables_text ks ms
    → (hs ≡ ks) × (ls ≡ ms)
same_tables held also hs ks ls ms v w e =
    let told = tables_told also (tables_text hs ls) (flat_map fault_line ls) hs ks ms (v.holds, refl, no_hold_begins ls v.lines) w e in
    (told.0, same_faults Transition ls ms v.lines w.lines told.1)
