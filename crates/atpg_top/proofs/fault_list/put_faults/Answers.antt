use Rattle.std.proofs.Common.{◌≡◌, ℕ, List, ◌∙◌, ◌+◌, ◌++◌, ap, subst, Some, get_or, length, take, arith}
use Rattle.std.specs.List.{flat_map, slice_get, zip}
use Rattle.std.proofs.lemmas.Result.{err_from_is_err_and}
use Rattle.statement.specs.declared.lines.Fault.{Fault}
use Rattle.statement.specs.Netlists.{Netlist}
use Rattle.statement.specs.Faults.{universe_of}
use Rattle.atpg_top.specs.FaultLists.{listed_fault_line}
use Rattle.atpg_top.proofs.Zipped.{all_taken, one_more, then_others}
use Rattle.commands.proofs.PutLemmas.{last_put, line_put, line_refused}
use Rattle.atpg_top.proofs.fault_list.put_faults.Goals as goal

-- behind the first lines comes that of the next fault
next_line : (n : Netlist) (faults : List Fault) (numbers start : List ℕ) (i class : ℕ) (fault : Fault) → length numbers ≡ length (universe_of n) → faults ≡ universe_of n
    → slice_get faults i ≡ Some fault → class ≡ get_or numbers i 0
    → (start ++ flat_map (λ p. listed_fault_line n p.0 p.1) (take i (zip (universe_of n) numbers))) ++ listed_fault_line n fault class ≡ start ++ flat_map (λ p. listed_fault_line n p.0 p.1) (take (i + 1) (zip (universe_of n) numbers))
next_line n faults numbers start i class fault size all at class_is =
    ap (λ k. (start ++ flat_map (λ p. listed_fault_line n p.0 p.1) (take i (zip (universe_of n) numbers))) ++ listed_fault_line n fault k) class_is
    ∙ one_more (λ p. listed_fault_line n p.0 p.1) (universe_of n) numbers i fault start size (subst (λ fs. slice_get fs i ≡ Some fault) all at)

pub returns-in_err-put_fault : goal.returns-in_err-put_fault
returns-in_err-put_fault g c =
    let n = c.args.netlist.now in
    let numbers = c.args.classes.now.numbers in
    let start = c.args.text.now.items in
    let next = next_line n _ numbers start c.loop-i.i _ c.fault.result c.requires.size c.requires.universe c.fault.ensures c.class_of.ensures in
    let others = then_others (λ p. listed_fault_line n p.0 p.1) (zip (universe_of n) numbers) (c.loop-i.i + 1) start in
    let p = err_from_is_err_and c.from_residual.result c.from_residual.ensures.1 in
    rw (p.1, p.2) (line_refused _ _ _ _ _ _ _ _ _ _ _ _ _ c.loop-i.invariant.told c.loop-i.invariant.cause next others c.in_err-put_fault.ensures)

pub loop-i-preserved : goal.loop-i-preserved
loop-i-preserved g c =
    let next = next_line c.args.netlist.now _ c.args.classes.now.numbers c.args.text.now.items c.loop-i.i _ c.fault.result c.requires.size c.requires.universe c.fault.ensures c.class_of.ensures in
    record {
      told = line_put _ _ _ _ _ _ _ _ c.loop-i.invariant.told next c.in_ok-put_fault.ensures.0;
      cause = c.in_ok-put_fault.ensures.1 ∙ c.loop-i.invariant.cause;
    }

pub returns : goal.returns
returns g c =
    let n = c.args.netlist.now in
    let count = ap length c.requires.universe in
    let all = all_taken (λ p. listed_fault_line n p.0 p.1) (universe_of n) c.args.classes.now.numbers c.loop-i.i c.args.text.now.items c.requires.size (omega arith) in
    last_put _ _ _ _ _ _ _ _ _ _ c.put.result c.loop-i.invariant.told c.loop-i.invariant.cause all c.as_slice.ensures.value c.put.ensures.told c.put.ensures.cause
