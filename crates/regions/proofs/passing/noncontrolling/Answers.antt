use Rattle.std.proofs.Common.{sym, ◌∙◌, ap}
use Rattle.events.specs.Words.{bit_of}
use Rattle.regions.specs.Sensitized.{is_noncontrolling}
use Rattle.events.proofs.WordBits.{bit_ones, bit_not_word}
use Rattle.regions.proofs.passing.noncontrolling.Goals as goal

pub returns-in-Or : goal.returns-in-Or
returns-in-Or c = λ j low. bit_not_word j low c.args.word ∙ sym (ap (λ k. is_noncontrolling k (bit_of j c.args.word)) c.in-Or.is)

pub returns-in-Nor : goal.returns-in-Nor
returns-in-Nor c = λ j low. bit_not_word j low c.args.word ∙ sym (ap (λ k. is_noncontrolling k (bit_of j c.args.word)) c.in-Nor.is)

pub returns-in-Xor : goal.returns-in-Xor
returns-in-Xor c = λ j low. bit_ones j low ∙ sym (ap (λ k. is_noncontrolling k (bit_of j c.args.word)) c.in-Xor.is)

pub returns-in-Xnor : goal.returns-in-Xnor
returns-in-Xnor c = λ j low. bit_ones j low ∙ sym (ap (λ k. is_noncontrolling k (bit_of j c.args.word)) c.in-Xnor.is)

pub returns-in-Not : goal.returns-in-Not
returns-in-Not c = λ j low. bit_ones j low ∙ sym (ap (λ k. is_noncontrolling k (bit_of j c.args.word)) c.in-Not.is)

pub returns-in-Buff : goal.returns-in-Buff
returns-in-Buff c = λ j low. bit_ones j low ∙ sym (ap (λ k. is_noncontrolling k (bit_of j c.args.word)) c.in-Buff.is)

pub returns-in-Dff : goal.returns-in-Dff
returns-in-Dff c = λ j low. bit_ones j low ∙ sym (ap (λ k. is_noncontrolling k (bit_of j c.args.word)) c.in-Dff.is)

pub returns-in-Const0 : goal.returns-in-Const0
returns-in-Const0 c = λ j low. bit_ones j low ∙ sym (ap (λ k. is_noncontrolling k (bit_of j c.args.word)) c.in-Const0.is)

pub returns-in-Const1 : goal.returns-in-Const1
returns-in-Const1 c = λ j low. bit_ones j low ∙ sym (ap (λ k. is_noncontrolling k (bit_of j c.args.word)) c.in-Const1.is)
