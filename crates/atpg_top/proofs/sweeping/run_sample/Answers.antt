use Rattle.std.proofs.Common.{None, true, rules, arith, ◌∙◌, ap, length}
use Rattle.std.proofs.lemmas.List.{length-map}
use Rattle.statement.specs.declared.lines.Fault.{Fault}
use Rattle.statement.specs.Faults.{universe_of}
use Rattle.asked_run.specs.Asked.{all_faults}
use Rattle.atpg_top.proofs.SweepLemmas.{is_wanted}
use Rattle.atpg_top.proofs.sweeping.run_sample.Goals as goal

pub by_trees-requires : goal.by_trees-requires
by_trees-requires g c =
    let n = c.args.core.now in (
      search rules,
      (
        search rules,
        record {
          design = c.requires;
          held = ap length c.in_ok-holds.ensures ∙ length-map n.inputs (λ _. None);
          range = record {
            numbers = record {
              chains = (omega arith, omega arith);
              workers = (omega arith, omega arith);
              limit = (omega arith, omega arith);
            };
            percent = tt;
            rounds = omega arith;
            times = (omega arith, omega arith);
          };
          wanted = is_wanted n c.in_ok-holds.holds _ (ap length (c.in_ok-faults.ensures ∙ ap all_faults c.netlist.ensures) ∙ length-map (universe_of n) (λ (f : Fault). true))
              c.new-first.ensures.items;
        },
      ),
    )
