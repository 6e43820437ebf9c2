-- What a line of either edition leaves in the two tables of a state.
use Rattle.std.specs.Prelude.{ℕ, ◌≡◌, Bool, true, false, cond, ◌||◌, List, [], ◌∷◌, eqb, ltb, refl, ℤ, None, Result, Ok, Err, IfOk}
use Rattle.std.proofs.Math.Option as said
use Rattle.qbf.specs.Formula.{Formula, Literal}
use Rattle.qbf.specs.Calls.{rule_fault, one_fault}
use Rattle.refusal.specs.declared.Refusal.{Refusal}
use Rattle.refusal.specs.declared.Refusal.TheVariants.{NotInLayout}
use Rattle.refusal.specs.Refusal.{fault_in}
use Rattle.state_parts.specs.declared.limits.Layout.{Layout}
use Rattle.state_parts.specs.Layout.{limits_in}
use Rattle.layout.specs.Words.{Bytes}
use Rattle.layout.specs.Forms.{clause}
use Rattle.layout.specs.Opening.{stage_after, refused, at_end}
use Rattle.editions.specs.Lines.{Line, says, tagged, one}
use Rattle.editions.specs.Opening as editions
use Rattle.opening.specs.Stages.{rank_of}
use Rattle.opening.specs.declared.book.Book.{Book}
use Rattle.opening.specs.Standing.{formula_at}
use Rattle.opening.specs.Lines.{Opens, OpensAt, StandsAt}
use Rattle.opening.specs.Forms.{book_stands}
use Rattle.edition_opening.specs.declared.Editions.{Editions}
use Rattle.edition_opening.specs.Editions.{accepted, edition_of}
use Rattle.edition_opening.specs.declared.book.EditionBook.{EditionBook}

-- before the first line
pub record BegunAt (a : Editions) (l : Layout) (z : EditionBook) : Type 0 where
  pub accepts : z.accepts ≡ a
  pub edition : z.edition ≡ None
  pub first : rank_of z.book.stage ≡ 0
  pub limits : limits_in z.book.layout ≡ limits_in l

-- the book after a line that leaves the edition
abbrev pub kept_with : EditionBook → Result Book Refusal → Result EditionBook Refusal
kept_with z (Ok y) = Ok (record { accepts = z.accepts; edition = z.edition; book = y })
kept_with z (Err q) = Err q

-- what the pieces open after lines up to a stage: after the end's line nothing may stand
abbrev pub lines_open : editions.Editions → ℕ → ℕ → Formula → Opens
lines_open a e stage b n ls = cond (eqb stage 4) (at_end n b ls) (editions.read_lines a n e stage b ls)

-- what stands while a text of either edition is read, and what the rest of it opens
abbrev pub edition_stands : StandsAt EditionBook
edition_stands z cells literals = book_stands z.book cells literals

abbrev pub edition_opens_at : OpensAt EditionBook
edition_opens_at z cells literals = lines_open (accepted z.accepts) (edition_of z.edition) (rank_of z.book.stage) (formula_at cells literals)

-- after a line
pub record AdvancedAt (a : editions.Editions) (b : Formula) (e : ℕ) (f : Line) (z : EditionBook) (cells : List ℕ) (literals : List ℤ) : Type 0 where
  pub formula : formula_at cells literals ≡ editions.with_line b f
  pub stage : rank_of z.book.stage ≡ stage_after (editions.rank_of f)
  pub edition : edition_of z.edition ≡ editions.edition_after e f
  pub accepts : accepted z.accepts ≡ a
  pub stands : edition_stands z cells literals

-- a line in an edition at a stage: its fault, or what it leaves
pub record TookLineAt (a : editions.Editions) (e stage : ℕ) (b : Formula) (f : Line) (r : Result EditionBook Refusal) (cells : List ℕ) (literals : List ℤ) : Type 0 where
  pub fault : editions.line_fault a e stage b f ≡ fault_in r
  pub advanced : IfOk r (λ z. AdvancedAt a b e f z cells literals)

abbrev pub TookAt : editions.Editions → ℕ → ℕ → Formula → said.Option Line → Result EditionBook Refusal → List ℕ → List ℤ → Type 0
TookAt a e stage b said.none r cells literals = r ≡ Err NotInLayout
TookAt a e stage b (said.some f) r cells literals = TookLineAt a e stage b f r cells literals

-- a line after those that have built a formula
abbrev pub TookOnAt : EditionBook → Formula → Line → Result EditionBook Refusal → List ℕ → List ℤ → Type 0
TookOnAt z b f r cells literals = TookLineAt (accepted z.accepts) (edition_of z.edition) (rank_of z.book.stage) b f r cells literals

-- a rule, a rule with its tag and an exactly-one form, judged by these literals
abbrev pub PlainTookAt : EditionBook → Formula → List ℤ → Result EditionBook Refusal → List ℕ → List ℤ → Type 0
PlainTookAt z b lits r cells literals = (ls : List Literal) → rule_fault b lits ≡ rule_fault b ls → (rule_fault b ls ≡ said.none → lits ≡ ls) → TookOnAt z b (says (clause ls)) r cells literals

abbrev pub TaggedTookAt : EditionBook → Formula → ℕ → List ℤ → Result EditionBook Refusal → List ℕ → List ℤ → Type 0
TaggedTookAt z b k lits r cells literals = (ls : List Literal) → rule_fault b lits ≡ rule_fault b ls → (rule_fault b ls ≡ said.none → lits ≡ ls) → TookOnAt z b (tagged k ls) r cells literals

abbrev pub OneTookAt : EditionBook → Formula → List ℤ → Result EditionBook Refusal → List ℕ → List ℤ → Type 0
OneTookAt z b lits r cells literals = (ls : List Literal) → one_fault b lits ≡ one_fault b ls → (one_fault b ls ≡ said.none → lits ≡ ls) → TookOnAt z b (one ls) r cells literals

-- a line that is not ended is missing
pub edition_unended_at : (z : EditionBook) (cells : List ℕ) (literals : List ℤ) (n c : ℕ) (l : Bytes) → edition_opens_at z cells literals n ((c ∷ l) ∷ []) ≡ refused 1 n
unfolding editions.read_lines
edition_unended_at z cells literals n c l = by (eqb (rank_of z.book.stage) 4)
  where
    by : (t : Bool) → cond t (at_end n (formula_at cells literals) ((c ∷ l) ∷ [])) (editions.read_lines (accepted z.accepts) n (edition_of z.edition) (rank_of z.book.stage) (formula_at cells literals) ((c ∷ l) ∷ [])) ≡ refused 1 n
    by true = refl
    by false = refl

-- "1 to 65,535"
unfoldable pub out_of_range : ℕ → Bool
out_of_range k = eqb k 0 || ltb 65535 k
