use Rattle.check_command.proofs.status.say_refusal.Goals as goal

pub returns-in-Netlist : goal.returns-in-Netlist
returns-in-Netlist g c = rw c.in-Netlist.is c.say_netlist.ensures

pub returns-in-NotStil : goal.returns-in-NotStil
returns-in-NotStil g c = rw c.in-NotStil.is c.say_text.ensures

pub returns-in-NotCertificate : goal.returns-in-NotCertificate
returns-in-NotCertificate g c = rw c.in-NotCertificate.is c.say_text-in-NotCertificate.ensures

pub returns-in-NotReport : goal.returns-in-NotReport
returns-in-NotReport g c = rw c.in-NotReport.is c.say_text-in-NotReport.ensures
