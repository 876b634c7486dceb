use Rattle.std.proofs.Common.{◌≡◌, ◌<◌, ◌∙◌, None, length, get_or, refl, sym, subst, arith}
use Rattle.std.proofs.lemmas.List.{get_or_default}
use Rattle.word_sim.specs.inner.Found.{IsTold}
use Rattle.transition_frames.specs.Frames.{frames_of, frame_fault}
use Rattle.transition_sim.specs.inner.Launches.{IsBehind}
use Rattle.transition_sim.proofs.LastTold.{one_told, told_all}
use Rattle.transition_sim.proofs.telling.tell_all.Goals as goal

pub loop-k-init : goal.loop-k-init
loop-k-init c = record {
  told = record { size = refl; below = λ k f l at. absurd (omega arith); others = λ k l. refl };
  second = refl;
}

pub told_by-requires-clause-behind : goal.told_by-requires-clause-behind
told_by-requires-clause-behind c =
    subst (IsBehind c.args.part.now.netlist.now c.args.part.now.words.now) (sym c.loop-k.invariant.second) c.requires.behind

pub loop-k-preserved : goal.loop-k-preserved
loop-k-preserved c =
    let part = c.args.part.now in
    let f = c.fault-fault.result in
    let size = c.loop-k.invariant.told.size in
    let end = c.len-k-end.ensures in
    let low : c.loop-k.k < length c.loop-k.told.items = omega arith in
    let known : c.index-known.result.now ≡ get_or c.loop-k.told.items c.loop-k.k None =
    c.index-known.ensures ∙ get_or_default c.loop-k.told.items c.loop-k.k c.index-known.result.now None low in
    record {
      told = one_told part.netlist.now part.patterns.now part.start c.args.faults.now c.args.told.now.items c.loop-k.told.items c.loop-k.k f c.told_by.result c.loop-k.invariant.told low
          c.fault-fault.ensures
          (subst (λ o. IsTold (frames_of part.netlist.now f) part.patterns.now part.start (frame_fault part.netlist.now f) o c.told_by.result) known c.told_by.ensures.told);
      second = c.told_by.ensures.same ∙ c.loop-k.invariant.second;
    }

pub returns-clause-told : goal.returns-clause-told
returns-clause-told c =
    let part = c.args.part.now in
    let end = c.len-k-end.ensures in
    let past = c.loop-k-test.false in
    told_all part.netlist.now part.patterns.now part.start c.args.faults.now c.args.told.now.items c.loop-k.told.items c.loop-k.k (omega arith) c.loop-k.invariant.told
