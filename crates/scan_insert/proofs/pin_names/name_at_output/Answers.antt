use Rattle.std.proofs.Common.{◌≡◌, ◌++◌, ℕ, cond, List, codes, IfOk, sym, ◌∙◌, ap, subst}
use Rattle.statement.specs.Netlists.{name_of}
use Rattle.scan_insert.proofs.Making.{name_read}
use Rattle.scan_insert.proofs.pin_names.name_at_output.Goals as goal

pub returns-then-is_input : goal.returns-then-is_input
returns-then-is_input c =
    let n = c.args.netlist.now in
    let read : c.name-name.result.now ≡ name_of n c.args.signal = name_read n c.args.signal c.name-name.result.now c.name-name.ensures in
    subst (λ (t : List ℕ). IfOk c.joined.result (λ v. v.items ≡ t))
    (ap (λ (t : List ℕ). codes "SC__o_" ++ t) read ∙ ap (λ b. cond b (codes "SC__o_" ++ name_of n c.args.signal) (name_of n c.args.signal)) (sym c.if-is_input.true ∙ c.is_input.ensures))
    c.joined.ensures

pub returns : goal.returns
returns c =
    let n = c.args.netlist.now in
    let read : c.name-name.result.now ≡ name_of n c.args.signal = name_read n c.args.signal c.name-name.result.now c.name-name.ensures in
    subst (λ (t : List ℕ). IfOk c.joined-2.result (λ v. v.items ≡ t))
    (read ∙ ap (λ b. cond b (codes "SC__o_" ++ name_of n c.args.signal) (name_of n c.args.signal)) (sym c.if-is_input.false ∙ c.is_input.ensures))
    c.joined-2.ensures
