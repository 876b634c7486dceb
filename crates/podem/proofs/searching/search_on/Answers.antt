use Rattle.std.specs.Prelude.{IsTrue}
use Rattle.std.proofs.Common.{◌≡◌, ℕ, ◌+◌, ◌≤◌, Bool, cond, List, sym, ◌∙◌, subst, arith}
use Rattle.redundancy_cert.specs.declared.nodes.Node.{Node}
use Rattle.redundancy_cert.specs.declared.stacks.Side.{Side}
use Rattle.redundancy_cert.specs.Trees.{closed_count, open_count}
use Rattle.redundancy_cert.specs.Fits.{Fits}
use Rattle.redundancy_cert.specs.Stacks.{path_of_stack, closed_around}
use Rattle.tri.specs.Paths.{IsGoingPath}
use Rattle.decisions.specs.declared.turns.Step.{Step}
use Rattle.decisions.proofs.Standing.{of_case, started}
use Rattle.decisions.proofs.Finish.{whole_evidence, ends}
use Rattle.podem.specs.Sources.{IsSourceTree}
use Rattle.decisions.specs.Standing.{SearchesAt}
use Rattle.podem.specs.inner.Searching.{IsTestAt, IsStepped, PlaceLooked}
use Rattle.podem.proofs.Looked.{closed_in_sources, seen_after, within_one}
use Rattle.podem.proofs.Turns.{source_fits}
use Rattle.podem.proofs.Steps.{tested_case}
use Rattle.podem.proofs.searching.search_on.Goals as goal

pub loop-closed-init : goal.loop-closed-init
loop-closed-init c =
    let k = c.args.case.now in
    record {
      searching = started c.requires.start.at.at c.requires.empty (λ t. c.requires.start.going);
      seen = λ t. subst (λ (ss : List Side). IsGoingPath k.fault k.core.now k.holds.now (path_of_stack ss)) (sym c.requires.empty) c.requires.start.going;
      within = omega arith;
    }

pub turn-requires : goal.turn-requires
turn-requires c = record { case = c.requires.start.case; at = c.loop-closed.invariant.searching.is; going = c.loop-closed.invariant.seen }

pub returns-in-Done-clause-answer : goal.returns-in-Done-clause-answer
returns-in-Done-clause-answer c =
    let k = c.args.case.now in
    let w = subst (λ (t : Step). IsStepped k c.args.looks c.loop-closed.stack.items c.turn.new.labels c.turn.new.stack.items t) c.in-Done.is c.in_ok-point.ensures in
    let l : closed_around c.loop-closed.stack.items + 1 ≤ c.args.limit = (let a = c.loop-closed.invariant.searching.counted in let b = c.loop-closed-test.true in omega arith) in
    let tree = closed_in_sources c.args.looks k.fault k.core.now k.holds.now w.0.0 in
    record {
      evidence = subst (λ (ns : List Node). Fits k.fault k.core.now k.holds.now ns × (open_count ns ≡ 0) × (closed_count ns ≤ c.args.limit)) (sym c.new.ensures)
          (whole_evidence (source_fits k.fault k.core.now k.holds.now c.requires.start.case.sound) tree l);
      sources = subst (IsSourceTree k.fault k.core.now k.holds.now) (sym c.new.ensures) tree.tree_is;
    }

pub loop-closed-preserved : goal.loop-closed-preserved
loop-closed-preserved c =
    let k = c.args.case.now in
    let w = subst (λ (t : Step). IsStepped k c.args.looks c.loop-closed.stack.items c.turn.new.labels c.turn.new.stack.items t) c.in-On.is c.in_ok-point.ensures in
    let e : closed_around c.loop-closed.stack.items + cond c.in-On.more 1 0 ≡ c.loop-closed.closed + c.one_if-closed.result =
    (let a = c.loop-closed.invariant.searching.counted in let b = c.one_if-closed.ensures in omega arith) in
    record {
      searching = subst (λ (j : ℕ). SearchesAt (PlaceLooked c.args.looks k.fault k.core.now k.holds.now) k.fault k.core.now k.holds.now c.turn.new.labels c.turn.new.stack.items j) e w.0.0;
      seen = λ t. seen_after k c.args.looks c.in-On.more c.turn.new.labels c.turn.new.stack.items w.0.0.is w.0.0.going w.1 (subst (λ (b : Bool). IsTrue b) c.is_end_seen-is_seen.ensures t);
      within = within_one c.in-On.more c.loop-closed.closed c.args.limit c.one_if-closed.result c.loop-closed-test.true c.one_if-closed.ensures;
    }

pub loop-closed-smaller : goal.loop-closed-smaller
loop-closed-smaller c =
    let k = c.args.case.now in
    ends (IsTestAt k) c.loop-closed.stack.items c.turn.new.stack.items c.turn.new.labels c.in-On.more c.loop-closed-test.true c.loop-closed.invariant.searching.counted c.one_if-closed.ensures
    (subst (λ (t : Step). IsStepped k c.args.looks c.loop-closed.stack.items c.turn.new.labels c.turn.new.stack.items t) c.in-On.is c.in_ok-point.ensures).0

pub returns-clause-given_up : goal.returns-clause-given_up
returns-clause-given_up c none =
    let k = c.args.case.now in
    let e : c.loop-closed.closed ≡ c.args.limit = (let a = c.loop-closed.invariant.within in let b = c.loop-closed-test.false in omega arith) in
    subst (λ (j : ℕ). SearchesAt (PlaceLooked c.args.looks k.fault k.core.now k.holds.now) k.fault k.core.now k.holds.now c.loop-closed.labels c.loop-closed.stack.items j) e c.loop-closed.invariant.searching

pub returns-in-Found-clause-kept : goal.returns-in-Found-clause-kept
returns-in-Found-clause-kept c =
    tested_case (subst (λ (t : Step). IsStepped c.args.case.now c.args.looks c.loop-closed.stack.items c.turn.new.labels c.turn.new.stack.items t) c.in-Found.is c.in_ok-point.ensures).0

pub returns-in-Done-clause-kept : goal.returns-in-Done-clause-kept
returns-in-Done-clause-kept c =
    (subst (λ (t : Step). IsStepped c.args.case.now c.args.looks c.loop-closed.stack.items c.turn.new.labels c.turn.new.stack.items t) c.in-Done.is c.in_ok-point.ensures).0.1

pub returns-clause-kept : goal.returns-clause-kept
returns-clause-kept c =
    let k = c.args.case.now in
    of_case k.fault k.core.now k.holds.now c.loop-closed.labels (path_of_stack c.loop-closed.stack.items) c.loop-closed.invariant.searching.is.at
