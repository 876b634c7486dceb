-- The words of patterns, settled without a fault.
use Rattle.std.proofs.Common.{◌≡◌, ℕ, ◌≤◌, Bool, List, map, length, Some, None, sym, ◌∙◌, subst, arith}
use Rattle.std.specs.List.{All, slice_get}
use Rattle.std.proofs.lemmas.Option.{get_or_from_slice_get}
use Rattle.statement.specs.Netlists.{Netlist, cells, signals}
use Rattle.statement.specs.Values.{Settles, bits}
use Rattle.netlist.specs.Settled.{at}
use Rattle.statement.specs.Patterns.{Pattern}
use Rattle.events.specs.Words.{bit_of, words}
use Rattle.events.proofs.WordBits.{words_as_bits}
use Rattle.word_sim.specs.Words.{AreGoodWords, HasWidthsOf}
use Rattle.word_sim.specs.declared.packing.Part.TheVariants.{Inputs, Cells}
use Rattle.word_sim.specs.inner.Packed.{AreGoodFor, ArePacked}
use Rattle.word_sim.proofs.WordDetection.{some_below}

module _ (n : Netlist) (patterns : List Pattern) (few : length patterns ≤ 64) (wide : All (HasWidthsOf n) patterns) (inputs state values : List ℕ) (width height : ℕ)
    (width_is : width ≡ length n.inputs) (height_is : height ≡ length (cells n)) (packed_inputs : ArePacked Inputs patterns width inputs) (packed_state : ArePacked Cells patterns height state)
    (settles : (d : ℕ) → Settles (words None) n inputs state (at values d)) where
  wide_at : (j : ℕ) (p : Pattern) → slice_get patterns j ≡ Some p → HasWidthsOf n p
  wide_at j p e = subst (HasWidthsOf n) (get_or_from_slice_get patterns j p p e) (wide j p (some_below patterns j p e))

  inputs_are : (j : ℕ) (p : Pattern) → slice_get patterns j ≡ Some p → map (bit_of j) inputs ≡ p.inputs
  inputs_are j p e = packed_inputs.each j p e ((wide_at j p e).inputs ∙ sym width_is)

  state_are : (j : ℕ) (p : Pattern) → slice_get patterns j ≡ Some p → map (bit_of j) state ≡ p.cells
  state_are j p e = packed_state.each j p e ((wide_at j p e).cells ∙ sym height_is)

  pub good_for : AreGoodFor n patterns values
  good_for = record { few = few; inputs = inputs; state = state; inputs_are = inputs_are; state_are = state_are; settles = settles }

pub good_words : (n : Netlist) (patterns : List Pattern) (values : List ℕ) → AreGoodFor n patterns values → length values ≡ length (signals n) → AreGoodWords n patterns values
good_words n patterns values good size = record {
  size = size;
  each = λ j p e.
      subst (λ (s : List Bool). Settles (bits None) n p.inputs s (λ x. bit_of j (at values 0 x))) (good.state_are j p e)
      (subst (λ (i : List Bool). Settles (bits None) n i (map (bit_of j) good.state) (λ x. bit_of j (at values 0 x))) (good.inputs_are j p e)
      (words_as_bits j (let l = some_below patterns j p e in let few = good.few in omega arith) None n good.inputs good.state (at values 0) (good.settles 0)));
}
