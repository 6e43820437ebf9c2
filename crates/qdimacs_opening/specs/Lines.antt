-- What a line of a text leaves in the two tables.
use Rattle.std.specs.Prelude.{ℕ, ◌≡◌, List, [], ◌∷◌, map, ℤ, refl, Result, Err, IfOk}
use Rattle.std.proofs.Math.Option.{Option, none, some}
use Rattle.qbf.specs.Formula.{Literal, number_of}
use Rattle.qbf.specs.Calls.{rule_fault}
use Rattle.state.specs.Reading.{quantifier_of}
use Rattle.refusal.specs.declared.Refusal.{Refusal}
use Rattle.refusal.specs.declared.Refusal.TheVariants.{NotInLayout}
use Rattle.refusal.specs.Refusal.{fault_in}
use Rattle.layout.specs.Words.{Bytes}
use Rattle.layout.specs.Opening.{refused}
use Rattle.opening.specs.Lines.{OpensAt}
use Rattle.qdimacs_form.specs.Lines.{Line, group, clause}
use Rattle.qdimacs_form.specs.Opening.{Reading, group_fault, whole, line_fault, after, read_lines}
use Rattle.qdimacs_opening.specs.declared.problem.Problem.{Problem}
use Rattle.qdimacs_opening.specs.Stands.{reading_at, problem_stands}

-- the formula that clauses are judged and added on stands
pub record WholeAt (s : Reading) (p : Problem) (cells : List ℕ) (literals : List ℤ) : Type 0 where
  pub reading : reading_at p cells literals ≡ record { stage = 2; variables = s.variables; clauses = s.clauses; formula = whole s }
  pub stands : problem_stands p cells literals

-- ---- a line
-- what is read with a line
pub record AdvancedAt (s : Reading) (f : Line) (p : Problem) (cells : List ℕ) (literals : List ℤ) : Type 0 where
  pub reading : reading_at p cells literals ≡ after s f
  pub stands : problem_stands p cells literals

pub record TookLineAt (s : Reading) (f : Line) (r : Result Problem Refusal) (cells : List ℕ) (literals : List ℤ) : Type 0 where
  pub fault : line_fault s f ≡ fault_in r
  pub advanced : IfOk r (λ p. AdvancedAt s f p cells literals)

-- a quantifier line, judged by the numbers of these literals
abbrev pub GroupTookAt : Reading → ℕ → List ℤ → Result Problem Refusal → List ℕ → List ℤ → Type 0
GroupTookAt s kind lits r cells literals = (ns : List ℕ)
    → group_fault s.formula.limits s.variables (quantifier_of kind) s.formula.prefix (map number_of lits) ≡ group_fault s.formula.limits s.variables (quantifier_of kind) s.formula.prefix ns
    → (group_fault s.formula.limits s.variables (quantifier_of kind) s.formula.prefix ns ≡ none → map number_of lits ≡ ns) → TookLineAt s (group (quantifier_of kind) ns) r cells literals

-- a clause, judged by these literals
abbrev pub ClauseTookAt : Reading → List ℤ → Result Problem Refusal → List ℕ → List ℤ → Type 0
ClauseTookAt s lits r cells literals = (ls : List Literal) → rule_fault (whole s) lits ≡ rule_fault (whole s) ls → (rule_fault (whole s) ls ≡ none → lits ≡ ls) → TookLineAt s (clause ls) r cells literals

-- a line by what it says
abbrev pub TookAt : Reading → Option Line → Result Problem Refusal → List ℕ → List ℤ → Type 0
TookAt s none r cells literals = r ≡ Err NotInLayout
TookAt s (some f) r cells literals = TookLineAt s f r cells literals

-- what the pieces open, read after those lines
abbrev pub problem_opens : OpensAt Problem
problem_opens p cells literals n ls = read_lines n (reading_at p cells literals) ls

-- a line that is not ended is missing
pub problem_unended : (p : Problem) (cells : List ℕ) (literals : List ℤ) (n c : ℕ) (l : Bytes) → problem_opens p cells literals n ((c ∷ l) ∷ []) ≡ refused 1 n
unfolding read_lines
problem_unended p cells literals n c l = refl
