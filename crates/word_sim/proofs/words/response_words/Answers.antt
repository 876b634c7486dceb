use Rattle.std.proofs.Common.{◌∙◌, None, List, ℕ, ap, map}
use Rattle.statement.specs.Netlists.{cells}
use Rattle.netlist.specs.Settled.{at}
use Rattle.statement.specs.Values.{outs, next}
use Rattle.events.specs.Words.{bit_of, words}
use Rattle.word_sim.proofs.ResponseLemmas.{bits_of_outs, bits_of_next}
use Rattle.word_sim.proofs.words.response_words.Goals as goal

pub returns : goal.returns
returns c j p e =
    let n = c.args.core.now in
    let ws = c.in_ok-words.words.items in (
      (λ x. bit_of j (at ws 0 x)),
      c.in_ok-words.ensures.words.each j p e,
      ap (map (bit_of j)) (c.in_ok-outs_into.ensures 0 ∙ ap (λ (vs : List ℕ). outs (words None) n (at vs 0)) c.deref.ensures.value) ∙ bits_of_outs j (at ws 0) n.outputs,
      ap (map (bit_of j)) (c.in_ok-next_into.ensures 0 ∙ ap (λ (vs : List ℕ). next (words None) n (at vs 0)) c.deref-2.ensures.value) ∙ bits_of_next j (at ws 0) (cells n),
    )
