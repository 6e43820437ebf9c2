-- Step 5 in parts: what the verdicts of the two sides ask for, what joining the constraints of two sides of one verdict gives, and what both sides give.
use Rattle.std.specs.Prelude.{ℕ, suc, ◌≡◌, Bool, cond, List, map, length}
use Rattle.qbf.specs.Formula.{paper, Quantifier, Prefix, Clause, Node}
use Rattle.qbf.specs.Truth.{Outcome}
use Rattle.qbf.specs.Learning.{Polarity, Constraint, Store, push, mentions, resolvent}
use Rattle.tables.specs.Views.{quantifier_code}
use Rattle.tables.specs.Codes.{codes, Quantified}
use Rattle.tables.specs.Records.{Ledger, StoreKept}
use Rattle.search_entry.specs.declared.Matrix.{Matrix}
use Rattle.search_entry.specs.declared.Learned.{Learned}
use Rattle.node.specs.declared.Verdict.{Verdict}
use Rattle.node.specs.declared.Verdict.TheVariants.{Yes, No, Mixed}
use Rattle.node.specs.declared.answer.Answer.{Answer}
use Rattle.node.specs.Node.{entry_of, Reads, Ended, onward_of, resolvent_of, Fits, Finished, Grown, Joined}
use Rattle.both_sides.specs.declared.both.Step.{Step}
use Rattle.both_sides.specs.declared.both.Step.TheVariants as step

-- by the verdicts of the off side and of the on side, and whether the on side is enough
abbrev pub step_of : Verdict → Verdict → Bool → Step
step_of Yes Yes enough = cond enough step.On step.Cubes
step_of Yes No enough = cond enough step.On step.Mixed
step_of Yes Mixed enough = step.Mixed
step_of No Yes enough = cond enough step.On step.Mixed
step_of No No enough = cond enough step.On step.Clauses
step_of No Mixed enough = step.Mixed
step_of Mixed second enough = step.Mixed

-- ---- both sides have the polarity v, and the constraints e₀ and e₁
-- "the on side's entry goes up if it lacks v, else the two are joined"
abbrev pub joined_of : Prefix → ℕ → Polarity → Constraint → Constraint → Constraint
joined_of D p v e₀ e₁ = cond (mentions D p e₁) (resolvent D p v e₀ e₁) e₁

-- "Joining unites the two without v, reduces, stores the result and sends it up"
abbrev pub stored_of : Prefix → ℕ → Polarity → Constraint → Constraint → List Constraint → List Constraint
stored_of D p v e₀ e₁ es = cond (mentions D p e₁) (push paper.constraints (resolvent D p v e₀ e₁) es) es

-- the codes of the constraint that goes up, and of the constraints of that polarity after; the number n of the newest becomes m
pub record JoinedSides (D : Prefix) (p : ℕ) (v : Polarity) (e₀ e₁ : Constraint) (es : List Constraint) (cs : List ℕ) (rows : List (List ℕ)) (n m : ℕ) : Type 0 where
  pub up : cs ≡ codes D (joined_of D p v e₀ e₁)
  pub stored : rows ≡ map (codes D) (stored_of D p v e₀ e₁ es)
  pub numbered : m ≡ cond (mentions D p e₁) (suc n) n

-- the answer has the on side's verdict and counts
pub record OfSide (on r : Answer) : Type 0 where
  pub counts : Finished on r
  pub verdict : r.verdict ≡ on.verdict

-- ---- both sides are done, at a node of `at` places whose next variable has the quantifier of that code
-- The off side has the verdict v and the codes `aside`, and `on` came up from the on side: the answer r and the learned constraints are what step 5 gives.
abbrev pub OnwardIn : Verdict → ℕ → ℕ → List ℕ → Answer → List ℕ → List ℕ → List ℕ → List ℕ → List ℕ → List ℕ → List ℕ
    → Answer → List ℕ → List ℕ → List ℕ → List ℕ → Type 0
OnwardIn v kind at aside on quantifiers clauses area cs cl qs ql r cs' cl' qs' ql' =
    (D : Prefix) (R : List Clause) (s : Node) (κ : Quantifier) (a o : Outcome Constraint) (g : Ledger) (st : Store) (k : ℕ)
    → Quantified D quantifiers → length s ≡ at → quantifier_code κ ≡ kind
    → Reads D v aside a → Reads D on.verdict (entry_of on clauses cs qs area) o
    → Ended D (suc at) a → Ended D (suc at) o → Fits D (resolvent_of D (suc at) a o)
    → g.clauses ≡ length R → StoreKept D g st cs cl qs ql
    → Joined D g (onward_of D R κ s a o st k) r clauses area cs' cl' qs' ql'

-- .. of the tables as the code has them: what is learned was x, and is y
abbrev pub Onward : Verdict → ℕ → ℕ → List ℕ → Answer → Answer → Matrix → List ℕ → Learned → Learned → Type 0
Onward v kind at aside on r m area x y =
    OnwardIn v kind at aside on m.quantifiers m.rows area x.clauses.cells.now x.clauses.links.now x.cubes.cells.now x.cubes.links.now
    r y.clauses.cells.now y.clauses.links.now y.cubes.cells.now y.cubes.links.now

-- the answer counts as the on side's does, and at most one row more stands on each shelf
abbrev pub Counted : Answer → Answer → Learned → Learned → Type 0
Counted on r x y = Finished on r × Grown x.clauses.links.now x.cubes.links.now y.clauses.links.now y.cubes.links.now
