-- `longest` meets its contract: the parts of the longest text.
use Rattle.book_writer.proofs.Rooms.{longest_is, longest_few}
use Rattle.book_writer.proofs.longest.longest.Goals as goal

pub returns-clause-is : goal.returns-clause-is
returns-clause-is c = longest_is c.args.limits.numbers c.args.limits.clauses c.min-numbers.ensures c.min-clauses.ensures c.digits-number.ensures.is

pub returns-clause-few : goal.returns-clause-few
returns-clause-few c = longest_few c.args.limits.numbers c.args.limits.clauses c.min-numbers.ensures c.min-clauses.ensures c.digits-number.ensures.is
