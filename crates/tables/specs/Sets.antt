-- The clauses of a search as sets of their indices, from 0 in the order of adding, in rows of words; a row has wc words. Of each code there are the
-- clauses that its literal satisfies and those that can die where it is given; of each place on the way down to a node there are the clauses that
-- are satisfied there, and a mark that says whether the place's value satisfied one more.
use Rattle.std.specs.Prelude.{ℕ, suc, ◌+◌, ◌*◌, ◌≤◌, ◌<◌, ◌≡◌, Bool, false, cond, not, ◌&&◌, ◌||◌, List, [], ◌∷◌, length, get_or, take, eqb, leb}
use Rattle.qbf.specs.Formula.{Prefix, Clause, Node, all, any, satisfied}
use Rattle.qbf.specs.Learning.{reduce}
use Rattle.bitset.specs.Rows.{width, member}
use Rattle.tables.specs.Codes.{code_at, code_of, codes}
use Rattle.tables.specs.Shelves.{ends_in}

-- ---- by code: two rows each, and where they begin
abbrev pub satisfying_row : ℕ → ℕ → ℕ
satisfying_row wc c = c * 2 * wc

abbrev pub dying_row : ℕ → ℕ → ℕ
dying_row wc c = c * 2 * wc + wc

-- the clause has the literal of the code c
abbrev pub has_code : Prefix → ℕ → Clause → Bool
has_code D c r = any (λ l. eqb (code_of D l) c) r

-- the clause's last literal under universal reduction is that of the code c
abbrev pub ends_in_code : Prefix → ℕ → Clause → Bool
ends_in_code D c r = ends_in c (codes D (reduce D false r))

-- The value b at place p makes the literal of its code true and that of the opposite code false. An index from the number of the clauses on is in no
-- row, for there `get_or` gives the empty clause.
pub record ClauseSets (D : Prefix) (R : List Clause) (wc : ℕ) (sets : List ℕ) : Type 0 where
  pub room : length R ≤ wc * width
  pub satisfying : (p : ℕ) (b : Bool) → 1 ≤ p → p ≤ length D → (i : ℕ) → i < wc * width
      → member sets (satisfying_row wc (code_at p b)) i ≡ has_code D (code_at p b) (get_or R i [])
  pub dying : (p : ℕ) (b : Bool) → 1 ≤ p → p ≤ length D → (i : ℕ) → i < wc * width
      → member sets (dying_row wc (code_at p b)) i ≡ ends_in_code D (code_at p (not b)) (get_or R i [])

-- ---- by place
-- Row j, for the first k places and before them, has the clauses that are satisfied by the first j values, and every index that is no clause's: where
-- all clauses are satisfied the row is full.
pub record Satisfied (D : Prefix) (s : Node) (R : List Clause) (wc : ℕ) (sat : List ℕ) (k : ℕ) : Type 0 where
  pub row : (j : ℕ) → j ≤ k → (i : ℕ) → i < wc * width → member sat (j * wc) i ≡ (satisfied D (take j s) (get_or R i []) || leb (length R) i)

-- the value of the place i + 1 satisfied a clause that was not satisfied before
abbrev pub newly : Prefix → Node → List Clause → ℕ → Bool
newly D s R i = any (λ r. satisfied D (take (suc i) s) r && not (satisfied D (take i s) r)) R

-- of the first k places those are marked whose value did
pub record MarkedSteps (D : Prefix) (s : Node) (R : List Clause) (marks : List ℕ) (k : ℕ) : Type 0 where
  pub at : (i : ℕ) → i < k → eqb (get_or marks (suc i) 0) 1 ≡ newly D s R i

-- what the step to the node t by its last place, k + 1, gives: the node's row, whether all clauses are satisfied there, and the place's mark
pub record SteppedDown (D : Prefix) (t : Node) (R : List Clause) (wc : ℕ) (sat : List ℕ) (k : ℕ) (every new : Bool) : Type 0 where
  pub rows : Satisfied D t R wc sat (suc k)
  pub all_satisfied : every ≡ all (satisfied D t) R
  pub mark : new ≡ newly D t R k

-- both, on the way down to the first k places
pub record Descended (D : Prefix) (s : Node) (R : List Clause) (wc : ℕ) (sat marks : List ℕ) (k : ℕ) : Type 0 where
  pub rows : Satisfied D s R wc sat k
  pub marked : MarkedSteps D s R marks k

-- the rows and the marks of the places before k are as they were
pub record RowsKept (k wc : ℕ) (sat sat' marks marks' : List ℕ) : Type 0 where
  pub rows : (f i : ℕ) → f * width + i < k * wc * width → member sat' f i ≡ member sat f i
  pub marked : (i : ℕ) → i < k → get_or marks' i 0 ≡ get_or marks i 0

-- the codes of the true literals of the marked places, from the place p on, where the node's values are those given
abbrev pub marked_from : ℕ → List Bool → List ℕ → List ℕ
marked_from p [] marks = []
marked_from p (b ∷ s) marks = cond (eqb (get_or marks p 0) 1) (code_at p b ∷ marked_from (suc p) s marks) (marked_from (suc p) s marks)
