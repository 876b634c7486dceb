use Rattle.std.proofs.Common.{◌++◌, ap, codes}
use Rattle.statement.specs.Benches.{Text}
use Rattle.commands.proofs.Saying.{said_so}
use Rattle.atpg_top.proofs.lines.say_refusal.Goals as goal

pub returns-in-Netlist : goal.returns-in-Netlist
returns-in-Netlist g c = rw c.in-Netlist.is c.say_netlist.ensures

pub returns-in-Order : goal.returns-in-Order
returns-in-Order g c = rw c.in-Order.is c.say_order.ensures

pub returns-in-NoSuchFault : goal.returns-in-NoSuchFault
returns-in-NoSuchFault g c = rw c.in-NoSuchFault.is c.say_text.ensures

pub returns-in-NotStil : goal.returns-in-NotStil
returns-in-NotStil g c = rw c.in-NotStil.is c.say_text-in-NotStil.ensures

pub returns-in-NotCertificate : goal.returns-in-NotCertificate
returns-in-NotCertificate g c = rw c.in-NotCertificate.is c.say_text-in-NotCertificate.ensures

pub returns-in-NotReport : goal.returns-in-NotReport
returns-in-NotReport g c = rw c.in-NotReport.is c.say_text-in-NotReport.ensures

pub returns-in-NotLog : goal.returns-in-NotLog
returns-in-NotLog g c = rw c.in-NotLog.is c.say_text-in-NotLog.ensures

pub returns-in-NoFaultAt : goal.returns-in-NoFaultAt
returns-in-NoFaultAt g c = rw c.in-NoFaultAt.is c.say_number.ensures

pub returns-in-StilDoesNotFit : goal.returns-in-StilDoesNotFit
returns-in-StilDoesNotFit g c = rw c.in-StilDoesNotFit.is c.say_text-in-StilDoesNotFit.ensures

pub returns-in-NoSuchInput : goal.returns-in-NoSuchInput
returns-in-NoSuchInput g c =
    rw c.in-NoSuchInput.is (said_so _ _ _ _ _ _ _ (ap (λ (t : Text). codes "no such input: " ++ (t ++ codes "\n")) c.name_at.ensures) c.say_word.ensures)
