-- One line more.
use Rattle.std.proofs.Common.{◌≡◌, ℕ, ◌+◌, ◌≤◌, ◌<◌, List, [], ◌∷◌, ◌++◌, length, get_or, take, Some, sym, ◌∙◌, ap, ap₂, subst, arith, take_all}
use Rattle.std.specs.List.{AllZip, slice_get, zip}
use Rattle.std.proofs.lemmas.List.{take_more}
use Rattle.std.proofs.lemmas.Option.{get_or_from_slice_get, slice_get_within}
use Rattle.std.proofs.lemmas.Slice.Zip.{all_zipped_more, get_or-zip, length-zip}
use Rattle.statement.specs.declared.lines.Fault.{Fault}
use Rattle.statement.specs.Netlists.{Netlist}
use Rattle.statement.specs.Reports.{Line}
use Rattle.transition_tests.specs.declared.verdicts.TransitionVerdict.{TransitionVerdict}
use Rattle.transition_tests.specs.Lines.{AreLines, IsVerdictLine}
use Rattle.transition_tests.specs.inner.Parts.{IsAdded}

pub lines_more : (n : Netlist) (chains : List (List ℕ)) (faults : List Fault) (verdicts : List TransitionVerdict) (k : ℕ) (f : Fault) (v : TransitionVerdict) (old new : List Line)
    → slice_get faults k ≡ Some f → k < length verdicts → v ≡ get_or verdicts k v → IsAdded n chains f v old new
    → AllZip (IsVerdictLine n chains) (take k (zip faults verdicts)) old → AllZip (IsVerdictLine n chains) (take (k + 1) (zip faults verdicts)) new
lines_more n chains faults verdicts k f v old new at lt is added are =
    let pairs = zip faults verdicts in
    let low : k < length faults = slice_get_within faults k f at in
    let pair : get_or pairs k (f, v) ≡ (f, v) =
    get_or-zip faults verdicts k (f, v) low lt ∙ ap₂ (λ (g : Fault) (w : TransitionVerdict). (g, w)) (get_or_from_slice_get faults k f f at) (sym is) in
    let within : k < length pairs = omega (arith, length-zip faults verdicts, low, lt) in
    let taken : take k pairs ++ (f, v) ∷ [] ≡ take (k + 1) pairs =
    sym (take_more pairs k (f, v) within ∙ ap (λ (p : Fault × TransitionVerdict). take k pairs ++ p ∷ []) pair) in
    subst (λ (ls : List Line). AllZip (IsVerdictLine n chains) (take (k + 1) pairs) ls) (sym added.behind)
    (subst (λ (ps : List (Fault × TransitionVerdict)). AllZip (IsVerdictLine n chains) ps (old ++ added.line ∷ [])) taken
    (all_zipped_more (IsVerdictLine n chains) (take k pairs) old (f, v) added.line are added.is_line))

pub lines_all : (n : Netlist) (chains : List (List ℕ)) (faults : List Fault) (verdicts : List TransitionVerdict) (k : ℕ) (lines : List Line) → length faults ≤ k
    → AllZip (IsVerdictLine n chains) (take k (zip faults verdicts)) lines → AreLines n chains faults verdicts lines
lines_all n chains faults verdicts k lines le are =
    let pairs = zip faults verdicts in
    let whole : take k pairs ≡ pairs = take_all k pairs (omega (arith, length-zip faults verdicts, le)) in
    subst (λ (ps : List (Fault × TransitionVerdict)). AllZip (IsVerdictLine n chains) ps lines) whole are
