use Rattle.std.proofs.Common.{◌∙◌, sym}
use Rattle.std.proofs.lemmas.Result.{err_from_is_err_and}
use Rattle.std.specs.Prelude.{Option}
use Rattle.bench_text.specs.declared.numbered.Numbered.{Numbered}
use Rattle.bench_text.proofs.RefusalLemmas.{line_err, known-gate, tested, signals-kept, refusal-twice, refusal-reserved, refusal-none}
use Rattle.bench_text.proofs.draft.Draft.number_line.Goals as goal

pub returns-in_err-statement-clause-refusal : goal.returns-in_err-statement-clause-refusal
returns-in_err-statement-clause-refusal c =
    let p = err_from_is_err_and c.from_residual.result c.from_residual.ensures.1 in
    rw (p.1, p.2) (line_err _ _ _ (Option Numbered) _ c.in_err-statement.ensures)

pub numbered-requires : goal.numbered-requires
numbered-requires c = let read = c.in_ok-statement.ensures in known-gate _ _ _ read.1 read.0

pub returns-then-defines_again-clause-refusal : goal.returns-then-defines_again-clause-refusal
returns-then-defines_again-clause-refusal c =
    let read = c.in_ok-statement.ensures in
    let again = tested _ _ _ _ _ _ (signals-kept c.args.self.now _ c.in_ok-numbered.ensures.keeps) c.in_ok-numbered.ensures.same c.defines_again.ensures c.if-defines_again.true in
    refusal-twice _ _ _ _ read.1 read.0 again

pub returns-then-reserves-clause-refusal : goal.returns-then-reserves-clause-refusal
returns-then-reserves-clause-refusal c =
    let read = c.in_ok-statement.ensures in
    let first = tested _ _ _ _ _ _ (signals-kept c.args.self.now _ c.in_ok-numbered.ensures.keeps) c.in_ok-numbered.ensures.same c.defines_again.ensures c.if-defines_again.false in
    refusal-reserved _ _ _ _ read.1 read.0 first (sym c.reserves.ensures ∙ c.if-reserves.true)

pub returns-clause-refusal : goal.returns-clause-refusal
returns-clause-refusal c =
    let read = c.in_ok-statement.ensures in
    let first = tested _ _ _ _ _ _ (signals-kept c.args.self.now _ c.in_ok-numbered.ensures.keeps) c.in_ok-numbered.ensures.same c.defines_again.ensures c.if-defines_again.false in
    refusal-none _ _ _ _ read.1 read.0 first (sym c.reserves.ensures ∙ c.if-reserves.false)
