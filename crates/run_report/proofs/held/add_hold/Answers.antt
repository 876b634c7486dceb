use Rattle.std.proofs.Common.{◌≡◌, ◌++◌, ◌∷◌, [], sym, ◌∙◌, ap}
use Rattle.std.proofs.lemmas.Result.{IfOk-weaker}
use Rattle.std.proofs.lemmas.Option.{get_or_from_slice_get}
use Rattle.statement.specs.Netlists.{name_of}
use Rattle.run_report.specs.Heads.{hold_at}
use Rattle.run_report.proofs.held.add_hold.Goals as goal

pub returns-in-Some : goal.returns-in-Some
returns-in-Some c =
    let n = c.args.netlist.now in
    let bit = c.in-Some.bit in
    let named : name_of n c.args.input ≡ c.name.result.now = get_or_from_slice_get n.names c.args.input c.name.result.now [] c.name.ensures in
    let line : hold_at n (c.args.input, c.args.held) ≡ record { name = c.name.result.now; bit = bit } ∷ [] =
    ap (λ h. hold_at n (c.args.input, h)) c.in-Some.is ∙ ap (λ t. record { name = t; bit = bit } ∷ []) named in
    IfOk-weaker c.push.result (λ more. more ≡ c.args.lines ++ record { name = c.name.result.now; bit = bit } ∷ []) (λ more. more ≡ c.args.lines ++ hold_at n (c.args.input, c.args.held))
    (λ more e. e ∙ ap (λ t. c.args.lines ++ t) (sym line)) c.push.ensures
