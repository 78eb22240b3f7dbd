use Rattle.tui_program.proofs.rejects.write_line.Goals as goal

pub returns-in-Usage : goal.returns-in-Usage
returns-in-Usage g c = rw c.in-Usage.is c.write_all.ensures

pub returns-in-TooLong : goal.returns-in-TooLong
returns-in-TooLong g c = rw c.in-TooLong.is c.write_all-in-TooLong.ensures

pub returns-in-NotJson : goal.returns-in-NotJson
returns-in-NotJson g c = rw c.in-NotJson.is c.write_all-in-NotJson.ensures

pub returns-in-NotText : goal.returns-in-NotText
returns-in-NotText g c = rw c.in-NotText.is c.write_all-in-NotText.ensures
