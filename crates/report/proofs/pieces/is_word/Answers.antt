use Rattle.std.proofs.Common.{◌<◌, length, arith}
use Rattle.std.proofs.lemmas.Bool.Decides.{nat_tests}
use Rattle.report.proofs.ByteLemmas.{word_by_test}
use Rattle.report.proofs.pieces.is_word.Goals as goal

pub returns : goal.returns
returns c =
    let some : 0 < length c.args.text.now = grind (arith, nat_tests) in
    word_by_test c.args.text.now c.are_name_bytes.result some c.are_name_bytes.ensures
