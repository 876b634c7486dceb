use Rattle.std.proofs.Common.{sym, ◌∙◌}
use Rattle.std.specs.Prelude.{Ok}
use Rattle.bench_text.proofs.DesignLemmas.{read-as}
use Rattle.bench_text.proofs.ReadLemmas.{line-refused, whole-refused, reads, few, parts-formed, net-read, left, loop-refused}
use Rattle.bench_text.proofs.reader.read.Goals as goal

pub returns-in-Err-clause-read : goal.returns-in-Err-clause-read
returns-in-Err-clause-read c = line-refused c.args.reading c.args.text.now c.in-Err.refusal c.in-Err.ensures

pub returns-in-Some-clause-read : goal.returns-in-Some-clause-read
returns-in-Some-clause-read c = whole-refused c.args.reading c.args.text.now c.in-Ok.draft c.in-Ok.ensures.0 c.in-Ok.ensures.1 _ _ c.whole_refusal.ensures c.in-Some.is

pub parts-requires-clause-reads : goal.parts-requires-clause-reads
parts-requires-clause-reads c = reads c.args.reading c.args.text.now c.in-Ok.draft c.in-Ok.ensures.0 c.in-Ok.ensures.1 (sym c.whole_refusal.ensures ∙ c.in_default.is)

pub parts-requires-clause-few : goal.parts-requires-clause-few
parts-requires-clause-few c = few c.args.reading c.args.text.now c.in-Ok.draft c.in-Ok.ensures.0 c.in-Ok.ensures.1 (sym c.whole_refusal.ensures ∙ c.in_default.is)

pub new-requires : goal.new-requires
new-requires c = parts-formed c.args.reading c.args.text.now c.in-Ok.draft c.in-Ok.ensures.0 c.in-Ok.ensures.1 (sym c.whole_refusal.ensures ∙ c.in_default.is) c.in_ok-parts.parts c.in_ok-parts.ensures

pub returns-in-Ok-new-clause-read : goal.returns-in-Ok-new-clause-read
returns-in-Ok-new-clause-read c =
    net-read c.args.reading c.args.text.now c.in-Ok.draft c.in-Ok.ensures.0 c.in-Ok.ensures.1 (sym c.whole_refusal.ensures ∙ c.in_default.is) c.in_ok-parts.parts c.in_ok-parts.ensures
    c.in-Ok-new.netlist c.in-Ok-new.ensures c.sound.ensures

pub returns-in-Ok-new-clause-design : goal.returns-in-Ok-new-clause-design
returns-in-Ok-new-clause-design c = read-as c.args.reading c.args.text.now (Ok c.in-Ok-new.netlist) (returns-in-Ok-new-clause-read c)

pub refusal_of-requires : goal.refusal_of-requires
refusal_of-requires c =
    left c.args.reading c.args.text.now c.in-Ok.draft c.in-Ok.ensures.0 c.in-Ok.ensures.1 (sym c.whole_refusal.ensures ∙ c.in_default.is) c.in_ok-parts.parts c.in_ok-parts.ensures
    c.in-Err-new.refusal c.in-Err-new.ensures

pub returns-clause-read : goal.returns-clause-read
returns-clause-read c =
    loop-refused c.args.reading c.args.text.now c.in-Ok.draft c.in-Ok.ensures.0 c.in-Ok.ensures.1 (sym c.whole_refusal.ensures ∙ c.in_default.is) _ c.refusal_of.ensures
