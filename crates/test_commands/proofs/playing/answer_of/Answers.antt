use Rattle.std.proofs.lemmas.Result.{IfOk-weaker}
use Rattle.statement.specs.Tests.{vectors_in}
use Rattle.scan_play.specs.Playing.{PlaysAs}
use Rattle.test_commands.specs.Plays.{IsPlay, IsShown}
use Rattle.test_commands.proofs.PlayLemmas.{is_play, is_shown}
use Rattle.test_commands.proofs.playing.answer_of.Goals as goal

pub returns-clause-plays : goal.returns-clause-plays
returns-clause-plays c =
    let n = c.args.core.now in
    let cycles = vectors_in c.args.file.now in
    let fit = c.fitting_cycles.ensures c.args.file.now n c.sound-2.ensures c.requires in
    let sound = rw c.netlist.ensures at c.sound.ensures in
    let tells = c.play_tells_the_truth.ensures n c.args.fault cycles sound.closed sound.acyclic fit in
    IfOk-weaker c.play_file.result (PlaysAs n c.args.fault cycles) (IsPlay n c.args.fault cycles) (is_play n c.args.fault cycles tells) c.play_file.ensures

pub returns-clause-shown : goal.returns-clause-shown
returns-clause-shown c =
    let n = c.args.core.now in
    let cycles = vectors_in c.args.file.now in
    let fit = c.fitting_cycles.ensures c.args.file.now n c.sound-2.ensures c.requires in
    IfOk-weaker c.play_file.result (PlaysAs n c.args.fault cycles) (IsShown n) (is_shown n c.args.fault cycles fit) c.play_file.ensures
