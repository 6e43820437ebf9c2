-- `leave` meets its contract.
use Rattle.day_turns.proofs.Opening.{left_loads}
use Rattle.day_turns.proofs.skip.leave.Goals as goal

pub returns-in-Some : goal.returns-in-Some
returns-in-Some c = λ cells literals cards. left_loads c.args.told c.in-Some.t c.args.kept.now c.mark.new.kept cells literals cards c.in-Some.is c.mark.ensures
