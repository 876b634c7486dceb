use Rattle.std.proofs.Common.{◌≡◌, arith}
use Rattle.std.specs.Prelude.{Some}
use Rattle.std.specs.List.{All}
use Rattle.std.proofs.lemmas.List.Elements.{All-pop, All-same}
use Rattle.shared_list.specs.Tally.{Tally, idle_from}
use Rattle.shared_list.proofs.TallyLemmas.{idle_tables}
use Rattle.worker.proofs.rounds.crew_of.Goals as goal

pub loop-share-init : goal.loop-share-init
loop-share-init g c =
    let table = c.args.shared.now.word.shared.table_id in
    let there : All (λ (t : Tally). t.table ≡ table) (idle_from table 0 c.args.workers) = λ i d less. idle_tables table 0 c.args.workers i d less in
    record {
      tables = All-same (λ (t : Tally). t.table ≡ table) c.args.shares.now.items (idle_from table 0 c.args.workers) c.requires.idle there;
      len = omega (arith, c.requires.len, c.in_ok-crew.ensures.len);
      room = omega (arith, c.in_ok-crew.ensures.capacity);
    }

pub hand_of-requires-clause-table : goal.hand_of-requires-clause-table
hand_of-requires-clause-table g c κs within =
    let table = c.args.shared.now.word.shared.table_id in
    (All-pop (λ (t : Tally). t.table ≡ table) c.loop-share.shares.items c.pop.new.self.items (Some c.in-Some.share) c.in-Some.ensures.items c.loop-share.invariant.tables).1

pub loop-share-preserved : goal.loop-share-preserved
loop-share-preserved g c =
    let table = c.args.shared.now.word.shared.table_id in
    let i = c.loop-share.invariant in
    record {
      tables = (All-pop (λ (t : Tally). t.table ≡ table) c.loop-share.shares.items c.pop.new.self.items (Some c.in-Some.share) c.in-Some.ensures.items i.tables).0;
      len = omega (arith, i.len, c.in-Some.ensures.cases, c.push_reserved.ensures.len);
      room = omega (arith, i.room, c.push_reserved.ensures.capacity);
    }
