use Rattle.std.proofs.Common.{◌≡◌, ℕ, sym, ◌∙◌, ap, subst}
use Rattle.events.specs.Standing.{Standing}
use Rattle.word_sim.specs.inner.Groups.{AreTold}
use Rattle.word_sim.proofs.ToldFaults.{told_is, found_alone}
use Rattle.word_sim.proofs.fault_hits.found_of.Goals as goal
use Rattle.word_sim.proofs.fault_hits.found_of.Goals.{then-is_none, else-is_none}

pub returns-in-Some-clause-found : goal.returns-in-Some-clause-found
returns-in-Some-clause-found c =
    let told' : AreTold c.args.events.now.netlist c.args.pass.now c.if-is_none.told.items = elim c.if-is_none.branch [
      | then-is_none w ↦ subst (λ v. AreTold c.args.events.now.netlist c.args.pass.now v.items) (sym w.told-is) w.tell_from.ensures.told
      | else-is_none w ↦ subst (λ v. AreTold c.args.events.now.netlist c.args.pass.now v.items) (sym w.told-is) c.requires.told
    ] in
    told_is c.args.events.now.netlist c.args.pass.now c.if-is_none.told.items c.args.k c.in-Some.found _ told' (sym c.index-2.ensures ∙ c.in-Some.is) c.requires.within

pub returns-in-None-clause-found : goal.returns-in-None-clause-found
returns-in-None-clause-found c =
    let same : c.if-is_none.events ≡ c.args.events.now = elim c.if-is_none.branch [
      | then-is_none w ↦ w.events-is ∙ w.tell_from.ensures.same
      | else-is_none w ↦ w.events-is
    ] in
    found_alone c.args.events.now.netlist c.args.events.now.values c.if-is_none.events.netlist c.if-is_none.events.values c.args.pass.now c.args.k c.index-pass-k.result c.last_marked.result
    (ap (λ (e : Standing ℕ). e.netlist) same) (ap (λ (e : Standing ℕ). e.values) same) c.requires.pass c.requires.within c.last_marked.ensures.found c.last_marked.ensures.small
