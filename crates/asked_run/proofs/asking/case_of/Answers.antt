use Rattle.std.proofs.Common.{◌∙◌, List, Vec, ℕ, ap, map, option_map, sym}
use Rattle.std.specs.declared.alloc.Global.{Global}
use Rattle.commands.specs.Names.{texts_of}
use Rattle.command_line.specs.CommandLine.{hold_of}
use Rattle.asked_run.specs.Asked.{run_read}
use Rattle.asked_run.specs.inner.Asking.{run_texts_of}
use Rattle.asked_run.proofs.AskLemmas.{lent_short, texts_read}
use Rattle.asked_run.proofs.asking.case_of.Goals as goal

pub held_case-requires-clause-short : goal.held_case-requires-clause-short
held_case-requires-clause-short c =
    let list = option_map (λ t. t.now) c.args.list in
    let first = option_map (λ t. t.now) c.args.first in
    let read = ap (λ (vs : List (Vec ℕ Global)). run_read list first (texts_of vs)) (sym c.as_slice.ensures.value) ∙ c.run_texts-read.ensures in
    lent_short list first (texts_of c.args.texts.items) c.run_texts-read.result read c.requires.within

pub returns-in-Ok-clause-reads : goal.returns-in-Ok-clause-reads
returns-in-Ok-clause-reads c =
    let list = option_map (λ t. t.now) c.args.list in
    let first = option_map (λ t. t.now) c.args.first in
    let read = ap (λ (vs : List (Vec ℕ Global)). run_read list first (texts_of vs)) (sym c.as_slice.ensures.value) ∙ c.run_texts-read.ensures in
    texts_read (map hold_of c.args.named.now) (run_texts_of c.run_texts-read.result) (run_read list first (texts_of c.args.texts.items)) c.in-Ok.netlist c.held_case.result read c.in-Ok.ensures.step
    c.held_case.ensures.reads
