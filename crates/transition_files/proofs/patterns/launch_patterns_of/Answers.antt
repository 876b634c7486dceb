use Rattle.std.proofs.Common.{◌≡◌, Bool, List, MatchBool, subst}
use Rattle.netlist.specs.Conditions.{IsSound}
use Rattle.statement.specs.Patterns.{Pattern}
use Rattle.transition_files.specs.LaunchFiles.{IsLaunchFileOf}
use Rattle.transition_files.proofs.LaunchBack.{none_has}
use Rattle.transition_files.proofs.patterns.launch_patterns_of.Goals as goal

pub returns-in-Ok-false : goal.returns-in-Ok-false
returns-in-Ok-false c =
    let n = c.args.core.now in
    let holds = c.args.holds.now in
    let chains = c.args.chains.now in
    let f = c.args.file.now in
    let own = c.in_ok-own.own in
    none_has n holds chains f own c.in_ok-patterns.patterns.items (subst IsSound c.netlist-netlist.ensures c.sound.ensures) c.requires.chains c.in_ok-patterns.ensures.are
    (subst (λ (ps : List Pattern). IsLaunchFileOf n holds chains ps own) c.deref.ensures.value c.in_ok-own.ensures)
    (subst (λ (b : Bool). MatchBool b (own ≡ f) (own ≡ f → ⊥)) c.in-Ok-false.field-0-test c.in-Ok-false.ensures)
