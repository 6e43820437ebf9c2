-- What a line of a text leaves in the two tables, by its form.
use Rattle.std.specs.Prelude.{ℕ, ◌≡◌, refl, Bool, true, false, cond, eqb, List, [], ◌∷◌, map, ℤ, Result, Err, IfOk}
use Rattle.std.proofs.Math.Option.{Option, none, some}
use Rattle.qbf.specs.Formula.{Formula, Literal, number_of}
use Rattle.qbf.specs.Calls.{rule_fault}
use Rattle.state.specs.Reading.{quantifier_of}
use Rattle.state_parts.specs.Layout.{limits_in}
use Rattle.refusal.specs.declared.Refusal.{Refusal}
use Rattle.refusal.specs.declared.Refusal.TheVariants.{NotInLayout}
use Rattle.refusal.specs.Refusal.{fault_in}
use Rattle.layout.specs.Forms.{Form, block, clause}
use Rattle.layout.specs.Words.{Bytes}
use Rattle.layout.specs.Opening.{rank, stage_after, declare_fault, line_fault, with_form, refused, at_end, read_lines}
use Rattle.opening.specs.Stages.{rank_of}
use Rattle.opening.specs.declared.book.Book.{Book}
use Rattle.opening.specs.Standing.{formula_at, Standing}
use Rattle.opening.specs.Lines.{Opens, OpensAt, StandsAt}

-- what the pieces open after lines up to a stage: after the end's line nothing may stand
abbrev pub lines_open : ℕ → Formula → Opens
lines_open stage b n ls = cond (eqb stage 4) (at_end n b ls) (read_lines n stage b ls)

-- what stands while a text of the first edition is read, and what the rest of it opens
abbrev pub book_stands : StandsAt Book
book_stands x cells literals = Standing (limits_in x.layout) (rank_of x.stage) cells literals

abbrev pub book_opens_at : OpensAt Book
book_opens_at x cells literals = lines_open (rank_of x.stage) (formula_at cells literals)

-- after a line of this form
pub record AdvancedAt (b : Formula) (f : Form) (y : Book) (cells : List ℕ) (literals : List ℤ) : Type 0 where
  pub formula : formula_at cells literals ≡ with_form b f
  pub stage : rank_of y.stage ≡ stage_after (rank f)
  pub stands : book_stands y cells literals

-- a form at a stage: its fault, or what it leaves
pub record TookFormAt (stage : ℕ) (b : Formula) (f : Form) (r : Result Book Refusal) (cells : List ℕ) (literals : List ℤ) : Type 0 where
  pub fault : line_fault stage b f ≡ fault_in r
  pub advanced : IfOk r (λ y. AdvancedAt b f y cells literals)

-- a block, judged by the numbers of these literals
abbrev pub BlockTookAt : ℕ → Formula → ℕ → List ℤ → Result Book Refusal → List ℕ → List ℤ → Type 0
BlockTookAt stage b kind lits r cells literals = (ns : List ℕ) → declare_fault b.limits (quantifier_of kind) b.prefix (map number_of lits) ≡ declare_fault b.limits (quantifier_of kind) b.prefix ns
    → (declare_fault b.limits (quantifier_of kind) b.prefix ns ≡ none → map number_of lits ≡ ns) → TookFormAt stage b (block (quantifier_of kind) ns) r cells literals

-- a rule, judged by these literals
abbrev pub RuleTookAt : ℕ → Formula → List ℤ → Result Book Refusal → List ℕ → List ℤ → Type 0
RuleTookAt stage b lits r cells literals = (ls : List Literal) → rule_fault b lits ≡ rule_fault b ls → (rule_fault b ls ≡ none → lits ≡ ls) → TookFormAt stage b (clause ls) r cells literals

-- a line by its form
abbrev pub TookAt : ℕ → Formula → Option Form → Result Book Refusal → List ℕ → List ℤ → Type 0
TookAt stage b none r cells literals = r ≡ Err NotInLayout
TookAt stage b (some f) r cells literals = TookFormAt stage b f r cells literals

-- a line that is not ended is missing
pub book_unended_at : (y : Book) (cells : List ℕ) (literals : List ℤ) (n c : ℕ) (l : Bytes) → book_opens_at y cells literals n ((c ∷ l) ∷ []) ≡ refused 1 n
unfolding read_lines
book_unended_at y cells literals n c l = by (eqb (rank_of y.stage) 4)
  where
    by : (t : Bool) → cond t (at_end n (formula_at cells literals) ((c ∷ l) ∷ [])) (read_lines n (rank_of y.stage) (formula_at cells literals) ((c ∷ l) ∷ [])) ≡ refused 1 n
    by true = refl
    by false = refl
