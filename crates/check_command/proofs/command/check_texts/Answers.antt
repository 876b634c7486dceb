use Rattle.std.proofs.Common.{Err}
use Rattle.commands.specs.Contents.{most_bytes}
use Rattle.commands.specs.Names.{texts_of}
use Rattle.check_command.proofs.FiveTexts.{answered, at_texts, five, five_texts, stil_within, stopped}
use Rattle.check_command.proofs.command.check_texts.Goals as goal

pub answer_of-requires-clause-stil : goal.answer_of-requires-clause-stil
answer_of-requires-clause-stil c =
    let files = five c.as_slice-net.result.now c.as_slice-scan.result.now c.as_slice-stil.result.now c.as_slice-certificate.result.now c.as_slice-report.result.now in
    let same = five_texts c.args.texts.items _ _ _ _ _ _ _ _ _ _ c.requires.count c.index.ensures c.index-2.ensures c.index-3.ensures c.index-4.ensures c.index-5.ensures files
    c.as_slice-net.ensures.value c.as_slice-scan.ensures.value c.as_slice-stil.ensures.value c.as_slice-certificate.ensures.value c.as_slice-report.ensures.value in
    stil_within most_bytes files (texts_of c.args.texts.items) same c.requires.within

pub returns-in-Ok : goal.returns-in-Ok
returns-in-Ok c =
    let files = five c.as_slice-net.result.now c.as_slice-scan.result.now c.as_slice-stil.result.now c.as_slice-certificate.result.now c.as_slice-report.result.now in
    let same = five_texts c.args.texts.items _ _ _ _ _ _ _ _ _ _ c.requires.count c.index.ensures c.index-2.ensures c.index-3.ensures c.index-4.ensures c.index-5.ensures files
    c.as_slice-net.ensures.value c.as_slice-scan.ensures.value c.as_slice-stil.ensures.value c.as_slice-certificate.ensures.value c.as_slice-report.ensures.value in
    at_texts files (texts_of c.args.texts.items) c.product_of.result same (answered files c.in-Ok.answer c.product_of.result c.in-Ok.ensures c.product_of.ensures)

pub returns-in-Err : goal.returns-in-Err
returns-in-Err c =
    let files = five c.as_slice-net.result.now c.as_slice-scan.result.now c.as_slice-stil.result.now c.as_slice-certificate.result.now c.as_slice-report.result.now in
    let same = five_texts c.args.texts.items _ _ _ _ _ _ _ _ _ _ c.requires.count c.index.ensures c.index-2.ensures c.index-3.ensures c.index-4.ensures c.index-5.ensures files
    c.as_slice-net.ensures.value c.as_slice-scan.ensures.value c.as_slice-stil.ensures.value c.as_slice-certificate.ensures.value c.as_slice-report.ensures.value in
    at_texts files (texts_of c.args.texts.items) (Err c.in-Err.stop) same (stopped files c.in-Err.stop c.in-Err.ensures)
