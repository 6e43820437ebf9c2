-- Two lent tables as one state that is read.
use mathlib.Core.Path.{ap}
use Rattle.qbf.specs.Calls.{Call}
use Rattle.serving.specs.Serves.{Said, ServesBy}
use Rattle.rule_calls.specs.ServesAt.{ServesAt}
use Rattle.rule_calls.specs.Served.{Lists, lists, read_lists}

-- what a call owes on two tables is what it owes on any state that is read
pub serves_by : {x : Lists} {c : Call} {a : Said} {x' : Lists} → ServesAt x.cells x.literals c a x'.cells x'.literals → ServesBy read_lists x c a x'
serves_by s = record { answered = s.answered; next = s.next; kept = λ n q k. let e = s.kept n q k in λ i. lists (e.0 i) (e.1 i) }

pub serves_at : {x : Lists} {c : Call} {a : Said} {x' : Lists} → ServesBy read_lists x c a x' → ServesAt x.cells x.literals c a x'.cells x'.literals
serves_at s =
    record {
      answered = s.answered;
      next = s.next;
      kept = λ n q k. let e = s.kept n q k in (ap (λ (y : Lists). y.cells) e, ap (λ (y : Lists). y.literals) e);
    }
