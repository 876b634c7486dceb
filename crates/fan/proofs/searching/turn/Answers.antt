use Rattle.std.proofs.Common.{List, [], ◌∷◌, refl, sym, subst}
use Rattle.tri.specs.Paths.{IsClosedPath}
use Rattle.redundancy_cert.specs.declared.nodes.Node.TheVariants.{Closed}
use Rattle.redundancy_cert.specs.declared.stacks.Side.{Side}
use Rattle.redundancy_cert.specs.Stacks.{path_of_stack}
use Rattle.head_lines.specs.Justified.{IsMet, IsMetAt}
use Rattle.decisions.proofs.Standing.{end_turn}
use Rattle.fan.specs.inner.Searching.{IsOnPath, IsGoing, PlaceLooked}
use Rattle.fan.proofs.Looked.{back_seen, closed_at_end, end_looked, end_of_case, met_at_end, on_path, stepped}
use Rattle.fan.proofs.searching.turn.Goals as goal

pub take_turn-requires-clause-going : goal.take_turn-requires-clause-going
take_turn-requires-clause-going c = c.requires.may.going c.if-is_seen.true

pub stand_at_end-requires-clause-at : goal.stand_at_end-requires-clause-at
stand_at_end-requires-clause-at c =
    subst (λ ss. IsOnPath c.args.roled.now.case c.args.labels.now ss) (sym c.deref.ensures.value) (on_path c.args.roled.now c.requires.case.roles c.requires.may.at)

pub returns-in-Test : goal.returns-in-Test
returns-in-Test c = (
  met_at_end (on_path c.args.roled.now c.requires.case.roles c.requires.may.at) c.in-Test.point
      (subst (λ (ss : List Side). IsMet c.args.roled.now.case.fault c.args.roled.now.case.core.now c.args.roled.now.case.holds.now (path_of_stack ss) c.in-Test.point) c.deref.ensures.value c.in-Test.ensures),
  tt,
)

pub go_back-requires : goal.go_back-requires
go_back-requires c = end_looked c.args.roled.now c.requires.may.at

pub returns-in-Blocked : goal.returns-in-Blocked
returns-in-Blocked c =
    let r = c.args.roled.now in
    let f = r.case.fault in
    let n = r.case.core.now in
    let holds = r.case.holds.now in
    stepped _ _ c.go_back.result
    (end_turn (PlaceLooked r.looks f n holds) f n holds (IsMetAt f n holds) c.args.labels.now c.go_back.new.labels c.args.stack.now.items c.go_back.new.stack.items
    (Closed ∷ []) c.go_back.result refl (closed_at_end r c.requires.may.at (subst (λ (ss : List Side). IsClosedPath f n holds (path_of_stack ss)) c.deref.ensures.value c.in-Blocked.ensures))
    (end_of_case r c.requires.may.at c.go_back.new.labels c.go_back.new.stack.items c.go_back.result c.go_back.ensures.end) c.go_back.ensures.step)
    (back_seen c.go_back.result c.go_back.new.labels (Closed ∷ []) c.args.stack.now.items c.go_back.new.stack.items c.go_back.ensures.step)

pub take_turn-requires-in-Going-clause-going : goal.take_turn-requires-in-Going-clause-going
take_turn-requires-in-Going-clause-going c = subst (λ (ss : List Side). IsGoing c.args.roled.now.case ss) c.deref.ensures.value c.in-Going.ensures
