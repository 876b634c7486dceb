-- What `run` owes for the same texts is alike.
use Rattle.std.proofs.Common.{Bool, List, Option, Some, None, refl}
use Rattle.statement.specs.Benches.{Text}
use Rattle.statement.specs.Netlists.{Netlist}
use Rattle.statement.specs.Patterns.{Holds, Pattern}
use Rattle.bench_text.specs.declared.refusal.Names.TheVariants.{Design}
use Rattle.stil_read.specs.Laws.{AtMostOne}
use Rattle.command_line.specs.HoldLists.{HoldItem}
use Rattle.command_line.specs.declared.requests.RunOptions.{RunOptions}
use Rattle.commands.specs.Due.{Deliver}
use Rattle.commands.specs.Laws.{IsExclusive}
use Rattle.commands.specs.declared.ending.Finding.TheVariants.{Fine}
use Rattle.command_steps.specs.Runs.{tests_line}
use Rattle.command_steps.specs.Steps.{named_holds, netlist}
use Rattle.command_steps.proofs.HoldLemmas.{holds_single}
use Rattle.command_steps.proofs.OrderLemmas.{ordered_exclusive}
use Rattle.command_steps.proofs.Single.{IsOneKind, given, netlist_single, then_one, then_one_where}
use Rattle.asked_run.specs.Asked.{RunRead, asked_due, asked_where, first_patterns, made_due, marked_faults, ordered_run_due, run_due, run_read, texts_made, with_chains}
use Rattle.asked_run.specs.inner.Asking.{first_due, held_due, wanted_due}
use Rattle.asked_run.proofs.AskLemmas.{first_single, marks_single}

made_once : (options : RunOptions) (n : Netlist) (holds : Holds) (marks : List Bool) (first : List Pattern) → IsOneKind (made_due options n holds marks first)
made_once options n holds marks first x y a b =
    given x y (Deliver (texts_made a.0) (tests_line a.0.said.counts) Fine) (Deliver (texts_made b.0) (tests_line b.0.said.counts) Fine) a.2 b.2 refl

asked_once : AtMostOne → (options : RunOptions) (named : List HoldItem) (t : RunRead) → IsOneKind (asked_due options named t)
asked_once one options named t =
    then_one_where (netlist Design t.net) (held_due options named t.list t.stil) (netlist_single Design t.net)
    (λ n is. then_one (named_holds n named) (λ holds. wanted_due options n holds t.list t.stil) (holds_single n is.1 named)
    (λ holds. then_one (marked_faults n t.list) (first_due options n holds t.stil) (marks_single n t.list)
    (λ marks. then_one (first_patterns n holds t.stil) (made_due options n holds marks) (first_single one n holds t.stil) (made_once options n holds marks))))

where_once : AtMostOne → (options : RunOptions) (named : List HoldItem) (o : Option RunRead) → IsOneKind (asked_where options named o)
where_once one options named None c d p q = absurd p
where_once one options named (Some t) c d p q = asked_once one options named t c d p q

run_exclusive : AtMostOne → (list first : Option Text) (options : RunOptions) (named : List HoldItem) → IsExclusive (run_due list first options named)
run_exclusive one list first options named texts = where_once one options named (run_read list first texts)

pub ordered_run_exclusive : AtMostOne → (order list first : Option Text) (options : RunOptions) (named : List HoldItem) → IsExclusive (ordered_run_due order list first options named)
ordered_run_exclusive one order list first options named =
    ordered_exclusive (λ chains. run_due list first (with_chains options chains) named) (λ chains. run_exclusive one list first (with_chains options chains) named) order options.numbers.chains
