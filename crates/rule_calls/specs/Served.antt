-- Lists of calls on a state in two lent tables, each on the tables that the last one left: what the demands say of them is what they say of any state that
-- is read (`DemandsBy`).
use Rattle.std.specs.Prelude.{ℕ, List, [], ◌∷◌, ℤ}
use Rattle.std.proofs.Math.Option.{Option}
use Rattle.qbf.specs.Formula.{Formula}
use Rattle.qbf.specs.Calls.{Call, State as Read}
use Rattle.serving.specs.Serves.{Said, ServedBy}
use Rattle.serving.specs.Demands.{DemandsBy}
use Rattle.state_parts.specs.Parts.{read_at}
use Rattle.rule_calls.specs.ServesAt.{ServesAt}

-- the two tables
pub record Lists : Type 0 where
  pub cells : List ℕ
  pub literals : List ℤ

abbrev pub lists : List ℕ → List ℤ → Lists
lists cells literals = record { cells = cells; literals = literals }

abbrev pub read_lists : Lists → Option Read
read_lists x = read_at x.cells x.literals

-- each call meets `ServesAt`
abbrev pub ServedAt : Lists → List Call → List Said → Type 0
ServedAt x [] [] = Unit {0}
ServedAt x [] (a ∷ qs) = ⊥
ServedAt x (c ∷ cs) [] = ⊥
ServedAt x (c ∷ cs) (a ∷ qs) = (x' : Lists) × ServesAt x.cells x.literals c a x'.cells x'.literals × ServedAt x' cs qs

abbrev pub DemandsAt : (b : Formula) (x : Lists) (cs : List Call) (qs : List Said) → ServedBy read_lists x cs qs → Type 0
DemandsAt b x cs qs s = DemandsBy read_lists b x cs qs s
