use Rattle.std.proofs.Common.{None, IfSome, MatchBool, get_or, subst, sym}
use Rattle.statement.specs.Netlists.{Netlist}
use Rattle.run_report.specs.Strobes.{IsPointOf}
use Rattle.file_check.proofs.WalkLemmas.{ends_long, inside, lasts_long}
use Rattle.file_check.proofs.truth.is_to_say.Goals as goal

pub bounds-walk-class : goal.bounds-walk-class
bounds-walk-class c = lasts_long c.args.walk.now c.requires.ready c.args.class c.requires.class

pub bounds-walk-class-2 : goal.bounds-walk-class-2
bounds-walk-class-2 c = ends_long c.args.walk.now c.requires.ready c.args.class c.requires.class

pub is_seen_so-requires-clause-inside : goal.is_seen_so-requires-clause-inside
is_seen_so-requires-clause-inside c =
    let w = c.args.walk.now in
    subst (λ (n : Netlist). IfSome (get_or w.lasts.now c.args.class None) (λ v. IsPointOf n v.1)) (sym c.netlist-netlist.ensures) (inside w c.requires.ready c.args.class c.requires.class)
