use Rattle.std.proofs.Common.{◌≡◌, ◌∙◌, Bool, List, MatchBool, ap, subst}
use Rattle.statement.specs.Netlists.{Netlist}
use Rattle.netlist.specs.Conditions.{IsSound}
use Rattle.statement.specs.Patterns.{Pattern}
use Rattle.statement.specs.Tests.{IsFileOf}
use Rattle.stil_patterns.specs.Applied.{applied_in}
use Rattle.stil_patterns.proofs.OnceLemmas.{none_has}
use Rattle.stil_patterns.proofs.patterns.patterns_of.Goals as goal

pub returns-in-Ok-false : goal.returns-in-Ok-false
returns-in-Ok-false c =
    let n = c.args.core.now in
    let holds = c.args.holds.now in
    let chains = c.args.chains.now in
    let f = c.args.file.now in
    let own = c.in_ok-own.own in
    none_has n holds chains f own c.in_ok-patterns.patterns.items (subst IsSound c.netlist-netlist.ensures c.sound.ensures) c.requires.chains
    (c.in_ok-patterns.ensures.are ∙ ap (λ (m : Netlist). applied_in m holds chains f) c.netlist-netlist.ensures)
    (subst (λ (ps : List Pattern). IsFileOf n holds chains ps own) c.deref.ensures.value c.in_ok-own.ensures)
    (subst (λ (b : Bool). MatchBool b (own ≡ f) (own ≡ f → ⊥)) c.in-Ok-false.field-0-test c.in-Ok-false.ensures)
