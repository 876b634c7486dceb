use Rattle.std.proofs.Common.{arith, refl, ap, length}
use Rattle.std.proofs.lemmas.List.{length-map}
use Rattle.statement.specs.Benches.{name_at}
use Rattle.bench_text.specs.inner.Numbered.{input_numbers}
use Rattle.bench_text.specs.inner.Drafted.{names_seen, notes_in}
use Rattle.bench_text.proofs.DraftLemmas.{inputs-spelled}
use Rattle.bench_text.proofs.PartLemmas.{signals-distinct}
use Rattle.bench_text.proofs.LoopLemmas.{first-on-loop}
use Rattle.bench_text.proofs.draft.Draft.refusal_of.Goals as goal

pub line_of-requires-clause-defined : goal.line_of-requires-clause-defined
line_of-requires-clause-defined c =
    let s = c.args.self.now in
    let left = rw c.in-Loop.is at c.requires in
    omega (arith, left.2, ap length (inputs-spelled (names_seen s) s.entries.items), ap length s.sound.inputs, length-map (input_numbers s.entries.items) (name_at (names_seen s)))

pub returns-in-Loop : goal.returns-in-Loop
returns-in-Loop c =
    let s = c.args.self.now in
    let left = rw c.in-Loop.is at c.requires in
    (refl, first-on-loop (notes_in s) (signals-distinct _ _ _ _ _ _ s.sound) _ _ c.line_of.ensures left.0 left.1)
