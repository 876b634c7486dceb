use Rattle.std.proofs.Common.{◌≡◌, ℕ, List, length, IfOk, subst, sym, ◌∙◌, ap, arith}
use Rattle.std.specs.List.{All}
use Rattle.statement.specs.declared.lines.Fault.{Fault}
use Rattle.statement.specs.Netlists.{Netlist}
use Rattle.netlist.specs.Conditions.{IsSound}
use Rattle.evidence.specs.declared.kinds.Evidence.{Evidence}
use Rattle.certificate.specs.Certificates.{HasSmallNumbers}
use Rattle.transition.proofs.Gathering.{universe_few}
use Rattle.transition_tests.specs.Lines.{leaves_of}
use Rattle.transition_report.specs.Texts.{IsNamedInFrames, transition_certificate}
use Rattle.transition_run.proofs.files.certificate_text.Goals as goal

pub leaves_of-requires-clause-size : goal.leaves_of-requires-clause-size
leaves_of-requires-clause-size c = omega (arith, c.requires.size, ap length c.requires.lines.all)

pub leaves_of-requires-clause-few : goal.leaves_of-requires-clause-few
leaves_of-requires-clause-few c =
    let few = universe_few c.args.lines.now.core.now (subst IsSound c.netlist-netlist.ensures c.sound.ensures) c.requires.lines.design in
    omega (arith, few, ap length c.requires.lines.all)

pub write_certificate-requires-clause-named : goal.write_certificate-requires-clause-named
write_certificate-requires-clause-named c =
    let certified = c.as_slice.ensures.value ∙ (c.in_ok-leaves.ensures ∙ ap (λ (fs : List Fault). leaves_of fs c.args.verdicts.items) c.requires.lines.all) in
    subst (λ (m : Netlist). All (IsNamedInFrames m) c.as_slice.result.now) (sym c.netlist-netlist.ensures)
    (subst (λ (ls : List (Fault × Evidence)). All (IsNamedInFrames c.args.lines.now.core.now) ls) (sym certified) c.requires.named)

pub returns-clause-text : goal.returns-clause-text
returns-clause-text c =
    let certified = c.as_slice.ensures.value ∙ (c.in_ok-leaves.ensures ∙ ap (λ (fs : List Fault). leaves_of fs c.args.verdicts.items) c.requires.lines.all) in
    subst (λ (t : List ℕ). IfOk c.write_certificate.result (λ text. text.items ≡ t))
    (ap (λ (m : Netlist). transition_certificate m c.as_slice.result.now) c.netlist-netlist.ensures ∙ ap (transition_certificate c.args.lines.now.core.now) certified)
    c.write_certificate.ensures.text

pub returns-clause-small : goal.returns-clause-small
returns-clause-small c =
    let certified = c.as_slice.ensures.value ∙ (c.in_ok-leaves.ensures ∙ ap (λ (fs : List Fault). leaves_of fs c.args.verdicts.items) c.requires.lines.all) in
    subst (λ (ls : List (Fault × Evidence)). IfOk c.write_certificate.result (λ text. All (λ (p : Fault × Evidence). HasSmallNumbers p.1) ls)) certified
    c.write_certificate.ensures.within
