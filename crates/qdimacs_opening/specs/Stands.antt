-- What stands while the lines of a text are read, and the numbers above the header's count.
use Rattle.std.specs.Prelude.{ℕ, zero, suc, ◌≤◌, ◌<◌, ◌≡◌, Bool, true, cond, ◌&&◌, List, [], ◌∷◌, ℤ, leb, ltb}
use Rattle.qbf.specs.Formula.{Limits, most_free, free, Prefix, quantifiers, Formula}
use Rattle.qbf.specs.Truth.{free_variables}
use Rattle.qbf.specs.Calls.{no_free}
use Rattle.state_parts.specs.Layout.{limits_in}
use Rattle.layout.specs.Opening.{variable}
use Rattle.opening.specs.Standing.{formula_at, Standing}
use Rattle.opening.specs.Lines.{StandsAt}
use Rattle.qdimacs_form.specs.Opening.{Reading, completed}
use Rattle.qdimacs_opening.specs.declared.head.Head.{Head}
use Rattle.qdimacs_opening.specs.declared.head.Part.{Part}
use Rattle.qdimacs_opening.specs.declared.head.Part.TheVariants.{Start, Groups, Clauses}
use Rattle.qdimacs_opening.specs.declared.problem.Problem.{Problem}

-- ---- what stands
abbrev pub part_of : Part → ℕ
part_of Start = 0
part_of Groups = 1
part_of Clauses = 2

-- the stage of our own text at which the same may follow
abbrev pub own_stage : ℕ → ℕ
own_stage zero = 0
own_stage (suc zero) = 2
own_stage (suc (suc n)) = 3

-- the first variables are flags, whatever they stand as
abbrev pub freed : ℕ → Prefix → Prefix
freed zero D = D
freed (suc k) [] = []
freed (suc k) (d ∷ D) = variable free d.number ∷ freed k D

abbrev pub with_freed : ℕ → Formula → Formula
with_freed k b = record { limits = b.limits; prefix = freed k b.prefix; clauses = b.clauses }

-- of a text with more flags than may be these stand as variables of exists: they are so many
abbrev pub reading_of : Head → Formula → Reading
reading_of h b = record { stage = part_of h.part; variables = h.variables; clauses = h.clauses; formula = with_freed h.crowd b }

abbrev pub reading_at : Problem → List ℕ → List ℤ → Reading
reading_at p cells literals = reading_of p.head (formula_at cells literals)

-- quantified variables alone are declared, and no clause stands
pub record Grouped (L : Limits) (cells : List ℕ) (literals : List ℤ) : Type 0 where
  pub stands : Standing L 2 cells literals
  pub none_free : no_free (quantifiers (formula_at cells literals).prefix) ≡ true

pub record Stands (L : Limits) (h : Head) (cells : List ℕ) (literals : List ℤ) : Type 0 where
  pub stands : Standing L (own_stage (part_of h.part)) cells literals
  pub few : h.variables ≤ L.numbers
  pub none_free : part_of h.part ≤ 1 → no_free (quantifiers (formula_at cells literals).prefix) ≡ true
  pub early : part_of h.part ≤ 1 → h.crowd ≡ 0
  pub crowded : 0 < h.crowd → ltb most_free (free_variables (freed h.crowd (formula_at cells literals).prefix)) ≡ true

abbrev pub problem_stands : StandsAt Problem
problem_stands p cells literals = Stands (limits_in p.layout) p.head cells literals

-- the groups of b with their flags before them, of which k stand as variables of exists
pub record CompletedAt (L : Limits) (v : ℕ) (b : Formula) (k : ℕ) (cells : List ℕ) (literals : List ℤ) : Type 0 where
  pub formula : with_freed k (formula_at cells literals) ≡ completed v b
  pub stands : Standing L 3 cells literals
  pub crowded : 0 < k → ltb most_free (free_variables (completed v b).prefix) ≡ true

-- ---- the header's count
-- a variable's number above the header's count
abbrev pub above : ℕ → ℕ → ℕ → Bool
above most v n = ltb v n && leb n most

-- how many numbers stand before the first such
abbrev pub counted : ℕ → ℕ → List ℕ → ℕ
counted most v [] = 0
counted most v (n ∷ ns) = cond (above most v n) 0 (suc (counted most v ns))
