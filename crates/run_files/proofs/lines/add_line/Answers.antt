use Rattle.std.proofs.Common.{◌≡◌, ◌++◌, ◌∷◌, [], ◌∙◌, ℕ, List, ap, subst, sym}
use Rattle.std.proofs.lemmas.Result.{IfOk-weaker}
use Rattle.statement.specs.Faults.{fault_text}
use Rattle.list_core.specs.declared.verdicts.Verdict.{Verdict}
use Rattle.report.specs.Reports.{IsFaultText}
use Rattle.statement.specs.Reports.{Line}
use Rattle.run_files.specs.inner.Outcomes.{IsAdded, IsOutcomeOf}
use Rattle.run_files.proofs.LineLemmas.{fault_said}
use Rattle.run_files.proofs.lines.add_line.Goals as goal

pub returns : goal.returns
returns c =
    let n = c.args.netlist.now in
    let f = c.args.fault in
    let line : Line = record { fault = c.as_slice.result.now; outcome = c.args.said.outcome; pin = c.args.said.pin.now } in
    let text : c.as_slice.result.now ≡ fault_text n f =
    c.as_slice.ensures.value ∙ (c.in_ok-push_text.ensures ∙ ap (λ (t : List ℕ). t ++ fault_text n f) c.clear.ensures.items) in
    IfOk-weaker c.push.result (λ lines. lines ≡ c.args.lines ++ line ∷ [])
    (λ lines. (chains : List (List ℕ)) (v : Verdict) → IsOutcomeOf n chains v line.outcome line.pin → IsAdded n chains f v c.args.lines lines)
    (λ lines e chains v says. record {
      line = line;
      is_line = record {
        names_it = text;
        outcome = says;
        sound = record { fault = subst IsFaultText (sym text) (fault_said n c.sound.ensures f c.requires.line c.requires.signal); outcome = c.requires.sound };
      };
      behind = e;
    })
    c.push.ensures
