use Rattle.std.proofs.Common.{◌∙◌, ℕ, List, length, sym, ap, subst, arith}
use Rattle.std.specs.Prelude.{IfSome}
use Rattle.statement.specs.Netlists.{Netlist, signals}
use Rattle.word_sim.specs.inner.Groups.{IsBeside}
use Rattle.word_sim.proofs.Spreading.{spread_beside}
use Rattle.word_sim.proofs.lanes.side_of.Goals as goal

pub kept_or_made-requires-clause-count : goal.kept_or_made-requires-clause-count
kept_or_made-requires-clause-count c =
    let read = ap (λ (vs : List ℕ). length vs) c.values-values.ensures.values in
    let size = c.requires.size in
    let same = ap (λ (m : Netlist). length (signals m)) c.core.ensures in
    omega arith

pub kept_or_made-requires-clause-kept : goal.kept_or_made-requires-clause-kept
kept_or_made-requires-clause-kept c =
    subst (λ o. IfSome o (IsBeside c.core.result.now)) (sym c.take.ensures.value) (subst (λ (m : Netlist). IfSome c.args.wide.now (IsBeside m)) (sym c.core.ensures) c.requires.wide)

pub spread_words-requires-clause-size : goal.spread_words-requires-clause-size
spread_words-requires-clause-size c =
    let read = ap (λ (vs : List ℕ). length vs) c.values-values.ensures.values in
    let size = c.requires.size in
    let same = ap (λ (m : Netlist). length (signals m)) c.core.ensures in
    let own = c.in_ok-side.ensures.size in
    omega arith

pub spread_words-requires-clause-within : goal.spread_words-requires-clause-within
spread_words-requires-clause-within c =
    let read = ap (λ (vs : List ℕ). length vs) c.values-values.ensures.values in
    let size = c.requires.size in
    let same = ap (λ (m : Netlist). length (signals m)) (c.in_ok-side.ensures.netlist ∙ c.core.ensures) in
    omega arith

pub returns-clause-side : goal.returns-clause-side
returns-clause-side c =
    spread_beside c.args.events.now.netlist c.core.result.now c.args.events.now.values c.values-values.result.now c.in_ok-side.side c.spread_words.new.wide c.core.ensures c.values-values.ensures.values c.in_ok-side.ensures
    c.spread_words.ensures c.requires.size
