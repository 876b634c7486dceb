use Rattle.atpg_top.proofs.lines.say_order.Goals as goal

pub returns-in-NotOrder : goal.returns-in-NotOrder
returns-in-NotOrder g c = rw c.in-NotOrder.is c.say_text.ensures

pub returns-in-NotCell : goal.returns-in-NotCell
returns-in-NotCell g c = rw c.in-NotCell.is c.say_number.ensures

pub returns-in-Twice : goal.returns-in-Twice
returns-in-Twice g c = rw c.in-Twice.is c.say_number-in-Twice.ensures

pub returns-in-LeftOut : goal.returns-in-LeftOut
returns-in-LeftOut g c = rw c.in-LeftOut.is c.say_number-in-LeftOut.ensures

pub returns-in-TooMany : goal.returns-in-TooMany
returns-in-TooMany g c = rw c.in-TooMany.is c.say_text-in-TooMany.ensures

pub returns-in-Uneven : goal.returns-in-Uneven
returns-in-Uneven g c = rw c.in-Uneven.is c.say_text-in-Uneven.ensures
