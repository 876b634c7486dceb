use Rattle.std.proofs.Common.{◌≡◌, ◌++◌, ◌∷◌, [], ◌∙◌, ℕ, List, ap, subst, sym}
use Rattle.std.proofs.lemmas.Result.{IfOk-weaker}
use Rattle.report.specs.declared.models.FaultModel.TheVariants.{Transition}
use Rattle.report.specs.Reports.{IsFaultTextBy}
use Rattle.statement.specs.Reports.{Line}
use Rattle.transition_report.specs.Texts.{transition_text}
use Rattle.transition_tests.specs.inner.Parts.{IsAdded}
use Rattle.transition_tests.proofs.LineTexts.{slow_said}
use Rattle.transition_tests.proofs.lines.add_line.Goals as goal

pub returns : goal.returns
returns c =
    let n = c.args.netlist.now in
    let f = c.args.fault in
    let line : Line = record { fault = c.as_slice.result.now; outcome = c.said_of-said.result.outcome; pin = c.said_of-said.result.pin.now } in
    let text : c.as_slice.result.now ≡ transition_text n f =
    c.as_slice.ensures.value ∙ (c.in_ok-push_fault.ensures ∙ ap (λ (t : List ℕ). t ++ transition_text n f) c.clear.ensures.items) in
    IfOk-weaker c.push.result (λ lines. lines ≡ c.args.lines ++ line ∷ []) (IsAdded n c.args.chains.now f c.args.verdict.now c.args.lines)
    (λ lines e. record {
      line = line;
      is_line = record {
        names_it = text;
        outcome = c.said_of-said.ensures.outcome;
        formed = record {
          fault = subst (IsFaultTextBy Transition) (sym text) (slow_said n c.sound.ensures f c.requires.line c.requires.signal);
          outcome = c.said_of-said.ensures.formed;
        };
      };
      behind = e;
    })
    c.push.ensures
