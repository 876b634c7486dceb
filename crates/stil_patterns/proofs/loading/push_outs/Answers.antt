use Rattle.std.proofs.Common.{◌≡◌, ◌+◌, ◌-◌, ◌≤◌, length, map, take, drop, ap, ◌∙◌, ◌++◌, arith, length-take, List}
use Rattle.std.proofs.lemmas.List.{take_all}
use Rattle.statement.specs.Tests.{longest_of, by_chain, word_out}
use Rattle.scan_play.proofs.LoadLemmas.{start_more, start_within, chain_short}
use Rattle.stil_vectors.specs.TestFiles.{text_of_values}
use Rattle.stil_patterns.proofs.WordLemmas.{words_more}
use Rattle.stil_patterns.proofs.loading.push_outs.Goals as goal

pub overflow_add-end : goal.overflow_add-end
overflow_add-end c =
    let l = start_within c.args.chains.now c.loop-c.c c.chain.result.now c.chain.ensures in
    let s = c.loop-c.invariant.start_is in
    let a = c.requires.all in
    let f = c.requires.few in
    omega arith

pub slice_bounds-set_word_out-end : goal.slice_bounds-set_word_out-end
slice_bounds-set_word_out-end c =
    let l = start_within c.args.chains.now c.loop-c.c c.chain.result.now c.chain.ensures in
    let s = c.loop-c.invariant.start_is in
    let a = c.requires.all in
    let e : c.loop-c.start + length c.chain.result.now ≤ length c.args.held.now = omega arith in
    e

pub set_word_out-requires : goal.set_word_out-requires
set_word_out-requires c =
    let l = chain_short c.args.chains.now c.loop-c.c c.chain.result.now c.chain.ensures in
    let m = c.longest-m.ensures in
    omega (arith, l, m, length-take (c.loop-c.start + length c.chain.result.now - c.loop-c.start) (drop c.loop-c.start c.args.held.now))

pub loop-c-preserved : goal.loop-c-preserved
loop-c-preserved c =
    let chains = c.args.chains.now in
    let chain = c.chain.result.now in
    let start = c.loop-c.start in
    let bits = c.args.held.now in
    let size : start + length chain - start ≡ length chain = omega arith in
    record {
      start_is = ap (λ k. k + length chain) c.loop-c.invariant.start_is ∙ (let more = start_more chains c.loop-c.c chain c.chain.ensures in omega arith);
      made = words_more text_of_values (word_out (longest_of chains)) chains c.loop-c.c start chain bits (take (start + length chain - start) (drop start bits))
          c.args.room.now.words c.loop-c.room.words c.push.new.self c.deref.result.now c.chain.ensures c.loop-c.invariant.start_is
          (ap (λ k. take k (drop start bits)) size)
          (c.deref.ensures.value ∙ (c.in_ok-set_word_out.ensures ∙ ap (λ k. text_of_values (word_out k (take (start + length chain - start) (drop start bits)))) c.longest-m.ensures)) c.loop-c.invariant.made c.in_ok-push.ensures.ok;
    }

pub returns : goal.returns
returns c =
    let test = c.loop-c-test.false in
    let e = c.count-c-end.ensures in
    c.loop-c.invariant.made
    ∙ ap (λ (cs : List (List _)). c.args.room.now.words ++ map text_of_values (map (word_out (longest_of c.args.chains.now)) (by_chain cs c.args.held.now))) (take_all c.loop-c.c c.args.chains.now (omega (arith, test, e)))
