use Rattle.std.proofs.Common.{List, Option, length, refl, subst, sym, ap, arith}
use Rattle.std.specs.List.{All, Contains}
use Rattle.std.proofs.lemmas.List.Elements.{All-contains}
use Rattle.statement.specs.declared.lines.Fault.{Fault}
use Rattle.netlist.specs.Conditions.{IsSound}
use Rattle.netlist.specs.Lines.{IsLineOf}
use Rattle.cubes.specs.Cubes.{Cube}
use Rattle.statement.specs.Patterns.{Pattern}
use Rattle.cubes.proofs.MergeLemmas.{netlist_widths}
use Rattle.evidence.specs.declared.engine.Found.{Found}
use Rattle.word_sim.specs.Words.{HasWidthsOf}
use Rattle.word_sim.proofs.WidthLemmas.{widths}
use Rattle.statement.specs.Faults.{universe_of}
use Rattle.list_core.specs.Kept.{is_last_at, new_place}
use Rattle.list_core.proofs.KeepLemmas.{kept_few}
use Rattle.transition.proofs.Gathering.{universe_few, universe_lines}
use Rattle.transition_tests.specs.Making.{AreFilledFrom, cubes_in}
use Rattle.transition_tests.specs.inner.Cubes.{HasAgreeing}
use Rattle.transition_tests.proofs.TestLemmas.{all_told, known_few, last_along, last_within, made_from, seen_fit, tests_are, verdicts_kinds}
use Rattle.transition_tests.proofs.keeping.tests_of.Goals as goal

pub patterns_of-requires : goal.patterns_of-requires
patterns_of-requires g c =
    let l = c.args.lines.now in
    netlist_widths l.core.now l.holds.now (cubes_in c.deref.result.now)
    (seen_fit l.core.now l.holds.now l.limit g.refutes c.args.batch.items c.args.found.items c.deref.result.now c.deref.ensures.value c.requires.1.1.1)

pub last_tells2-requires-clause-wide : goal.last_tells2-requires-clause-wide
last_tells2-requires-clause-wide g c =
    let l = c.args.lines.now in
    let fit = seen_fit l.core.now l.holds.now l.limit g.refutes c.args.batch.items c.args.found.items c.deref.result.now c.deref.ensures.value c.requires.1.1.1 in
    subst (λ (ps : List Pattern). All (HasWidthsOf l.core.now) ps) (sym c.deref-2.ensures.value)
    (widths l.core.now l.holds.now c.in_ok-patterns.patterns.items (c.in_ok-patterns.ensures.fit l.core.now l.holds.now c.requires.1.0 fit))

pub last_tells2-requires-clause-lines : goal.last_tells2-requires-clause-lines
last_tells2-requires-clause-lines g c =
    universe_lines c.args.lines.now.core.now (subst IsSound c.netlist.ensures c.sound.ensures) c.args.lines.now.faults.now c.requires.0.all

pub last_tells2-requires-clause-few_faults : goal.last_tells2-requires-clause-few_faults
last_tells2-requires-clause-few_faults g c =
    let few = universe_few c.args.lines.now.core.now (subst IsSound c.netlist.ensures c.sound.ensures) c.requires.0.design in
    omega (arith, few, ap length c.requires.0.all)

pub last_tells2-requires-clause-count : goal.last_tells2-requires-clause-count
last_tells2-requires-clause-count g c =
    let l = c.args.lines.now in
    let few = known_few l.core.now (subst IsSound c.netlist.ensures c.sound.ensures) c.requires.0.design l.holds.now l.limit g.refutes c.args.batch.items c.in_ok-patterns.patterns.items
    c.args.found.items c.deref.result.now c.deref.ensures.value c.requires.1.1.1 c.requires.1.1.0 c.in_ok-patterns.ensures.few in
    omega (arith, few, ap length c.deref-2.ensures.value)

pub keep-requires-clause-told : goal.keep-requires-clause-told
keep-requires-clause-told g c =
    let l = c.args.lines.now in
    let n = l.core.now in
    let found = c.args.found.items in
    let patterns = c.in_ok-patterns.patterns.items in
    let sound = subst IsSound c.netlist.ensures c.sound.ensures in
    let last = last_along n patterns c.deref-2.result.now l.faults.now c.in_ok-last.last.items c.deref-3.result.now c.requires.0.all c.deref-2.ensures.value c.deref-3.ensures.value c.in_ok-last.ensures in
    let agree = subst (λ (xs : List (Option Found)). (x : Cube) → Contains (cubes_in xs) x → HasAgreeing patterns x) c.deref.ensures.value c.in_ok-patterns.ensures.agree in
    all_told n sound l.holds.now l.limit g.refutes c.args.batch.items patterns (c.in_ok-patterns.ensures.made.0, c.in_ok-patterns.ensures.made.2) (universe_of n) found c.deref-3.result.now
    (universe_lines n sound (universe_of n) refl) c.requires.1.1.1 last agree

pub keep-requires-clause-within : goal.keep-requires-clause-within
keep-requires-clause-within g c =
    let l = c.args.lines.now in
    last_within l.core.now c.in_ok-patterns.patterns.items (universe_of l.core.now) c.deref-3.result.now
    (last_along l.core.now c.in_ok-patterns.patterns.items c.deref-2.result.now l.faults.now c.in_ok-last.last.items c.deref-3.result.now
    c.requires.0.all c.deref-2.ensures.value c.deref-3.ensures.value c.in_ok-last.ensures)

pub keep-requires-clause-few : goal.keep-requires-clause-few
keep-requires-clause-few g c =
    let l = c.args.lines.now in
    let few = known_few l.core.now (subst IsSound c.netlist.ensures c.sound.ensures) c.requires.0.design l.holds.now l.limit g.refutes c.args.batch.items c.in_ok-patterns.patterns.items
    c.args.found.items c.deref.result.now c.deref.ensures.value c.requires.1.1.1 c.requires.1.1.0 c.in_ok-patterns.ensures.few in
    omega (arith, few)

pub returns-clause-tests : goal.returns-clause-tests
returns-clause-tests g c =
    let l = c.args.lines.now in
    let n = l.core.now in
    let found = c.args.found.items in
    let patterns = c.in_ok-patterns.patterns.items in
    let sound = subst IsSound c.netlist.ensures c.sound.ensures in
    let all = universe_lines n sound (universe_of n) refl in
    let fit = seen_fit n l.holds.now l.limit g.refutes c.args.batch.items found c.deref.result.now c.deref.ensures.value c.requires.1.1.1 in
    tests_are n sound l.holds.now l.limit g.refutes c.args.batch.items patterns found c.deref-3.result.now c.in_ok-tests.tests.patterns.items c.in_ok-tests.tests.verdicts.items
    (c.in_ok-patterns.ensures.fit n l.holds.now c.requires.1.0 fit) (λ f is. All-contains (λ (g : Fault). IsLineOf n g.line) (universe_of n) f all is) all c.requires.1.1.1
    (last_along n patterns c.deref-2.result.now l.faults.now c.in_ok-last.last.items c.deref-3.result.now c.requires.0.all c.deref-2.ensures.value c.deref-3.ensures.value c.in_ok-last.ensures)
    c.in_ok-tests.ensures.patterns c.in_ok-tests.ensures.verdicts

pub returns-clause-kinds : goal.returns-clause-kinds
returns-clause-kinds g c =
    let l = c.args.lines.now in
    verdicts_kinds l.core.now l.holds.now l.limit g.refutes c.args.batch.items (new_place (is_last_at c.deref-3.result.now)) (universe_of l.core.now) c.args.found.items c.deref-3.result.now
    c.in_ok-tests.tests.verdicts.items c.requires.1.1.1 c.in_ok-tests.ensures.verdicts

pub returns-clause-made : goal.returns-clause-made
returns-clause-made g c =
    let l = c.args.lines.now in
    let n = l.core.now in
    let patterns = c.in_ok-patterns.patterns.items in
    let made = c.in_ok-patterns.ensures.made in
    made_from n c.args.batch.items patterns made.0 c.args.found.items l.seed c.deref-3.result.now c.in_ok-tests.tests.patterns.items
    (subst (λ (xs : List (Option Found)). AreFilledFrom (cubes_in xs) 0 l.seed made.0) c.deref.ensures.value made.1) made.2
    (last_along n patterns c.deref-2.result.now l.faults.now c.in_ok-last.last.items c.deref-3.result.now c.requires.0.all c.deref-2.ensures.value c.deref-3.ensures.value c.in_ok-last.ensures)
    c.in_ok-tests.ensures.patterns

pub returns-clause-few : goal.returns-clause-few
returns-clause-few g c =
    let l = c.args.lines.now in
    let few = known_few l.core.now (subst IsSound c.netlist.ensures c.sound.ensures) c.requires.0.design l.holds.now l.limit g.refutes c.args.batch.items c.in_ok-patterns.patterns.items
    c.args.found.items c.deref.result.now c.deref.ensures.value c.requires.1.1.1 c.requires.1.1.0 c.in_ok-patterns.ensures.few in
    let kept = kept_few (is_last_at c.deref-3.result.now) 0 c.in_ok-patterns.patterns.items in
    omega (arith, few, kept, ap length c.in_ok-tests.ensures.patterns)
