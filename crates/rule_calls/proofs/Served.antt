-- The demands over lists of calls on a state in two lent tables, under its own limits.
use mathlib.Core.Path.{◌≡◌, sym, ◌∙◌}
use mathlib.Core.Bool.{true, false}
use mathlib.Core.List.{List, [], ◌∷◌}
use mathlib.Core.Option.{some}
use Rattle.qbf.specs.Formula.{Formula}
use Rattle.qbf.specs.Calls.{Call, answer, refusal, limits_are_ok, formula_is_ok}
use Rattle.qbf.specs.Runs.{fresh}
use Rattle.serving.specs.Serves.{Said, said_of, ServedBy}
use Rattle.serving.specs.Demands.{Each, LeavesIfRefused}
use Rattle.serving.proofs.Demands.{demand_1_served, demands_served_by}
use Rattle.state_parts.specs.Parts.{limits_of}
use Rattle.state_parts.proofs.Accepted.{checked_at_high}
use Rattle.rule_calls.specs.ServesAt.{ServesAt}
use Rattle.rule_calls.proofs.Calls.{malformed}
use Rattle.rule_calls.specs.Served.{Lists, read_lists, ServedAt, DemandsAt}
use Rattle.rule_calls.proofs.Lists.{serves_by}

pub served_by : (x : Lists) (cs : List Call) (qs : List Said) → ServedAt x cs qs → ServedBy read_lists x cs qs
served_by x [] [] s = tt
served_by x [] (a ∷ qs) s = absurd s
served_by x (c ∷ cs) [] s = absurd s
served_by x (c ∷ cs) (a ∷ qs) s = (s.0, serves_by s.1, served_by s.0 cs qs s.2)

-- demand 1, on any tables whatever
pub demand_1_served_at : (x : Lists) (cs : List Call) (qs : List Said) (s : ServedAt x cs qs) → Each read_lists (LeavesIfRefused read_lists) x cs qs (served_by x cs qs s)
demand_1_served_at x cs qs s = demand_1_served read_lists x cs qs (served_by x cs qs s)

-- all demands, where the tables read as a freshly opened formula of any limits
pub demands_served_at : (b : Formula) → formula_is_ok b ≡ true → (x : Lists) → read_lists x ≡ some (fresh b) → (cs : List Call) (qs : List Said) (s : ServedAt x cs qs) → DemandsAt b x cs qs (served_by x cs qs s)
demands_served_at b ok x e cs qs s = demands_served_by read_lists b ok x e cs qs (served_by x cs qs s)

-- "a state with higher ones is 22": whatever the call, and the tables stay as given
pub high_refused : (x : Lists) (c : Call) (a : Said) (x' : Lists) → limits_are_ok (limits_of x.cells) ≡ false → ServesAt x.cells x.literals c a x'.cells x'.literals
    → (a ≡ said_of (answer (refusal 22 c) 0)) × (read_lists x' ≡ read_lists x)
high_refused x c a x' high s =
    let m : ServesAt x.cells x.literals c (said_of (answer (refusal 22 c) 0)) x.cells x.literals = malformed x.cells x.literals c (sym (checked_at_high x.cells x.literals high [] []).said) in
    (s.answered ∙ sym m.answered, s.next ∙ sym m.next)
