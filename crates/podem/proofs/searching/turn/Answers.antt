use Rattle.std.proofs.Common.{[], ◌∷◌, refl}
use Rattle.redundancy_cert.specs.declared.nodes.Node.TheVariants.{Closed}
use Rattle.decisions.proofs.Standing.{end_turn}
use Rattle.podem.specs.inner.Searching.{IsTestAt, PlaceLooked}
use Rattle.podem.proofs.Looked.{back_seen, closed_at_end, end_looked, end_of_case, going_at_end, stepped, test_at_end}
use Rattle.podem.proofs.searching.turn.Goals as goal

pub take_turn-requires : goal.take_turn-requires
take_turn-requires c = record { case = c.requires.case; at = c.requires.at; going = c.requires.going c.if-is_seen.true }

pub returns-in-Test : goal.returns-in-Test
returns-in-Test c = (test_at_end c.args.case.now c.requires.at c.in-Test.point c.in-Test.ensures, tt)

pub go_back-requires : goal.go_back-requires
go_back-requires c = end_looked c.args.case.now c.requires.at

pub returns-in-Blocked : goal.returns-in-Blocked
returns-in-Blocked c =
    let k = c.args.case.now in
    stepped _ _ c.go_back.result
    (end_turn (PlaceLooked c.args.looks k.fault k.core.now k.holds.now) k.fault k.core.now k.holds.now (IsTestAt k) c.args.labels.now c.go_back.new.labels c.args.stack.now.items c.go_back.new.stack.items
    (Closed ∷ []) c.go_back.result refl (closed_at_end k c.requires.at c.in-Blocked.ensures) (end_of_case k c.requires.at c.go_back.new.labels c.go_back.new.stack.items c.go_back.result c.go_back.ensures.end) c.go_back.ensures.step)
    (back_seen c.go_back.result c.go_back.new.labels (Closed ∷ []) c.args.stack.now.items c.go_back.new.stack.items c.go_back.ensures.step)

pub take_turn-requires-in-Going : goal.take_turn-requires-in-Going
take_turn-requires-in-Going c = record { case = c.requires.case; at = c.requires.at; going = going_at_end c.args.case.now c.requires.at c.in-Going.ensures }
