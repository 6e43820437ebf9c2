-- What the finder of dead clauses says of a flat table of clauses, for every prefix and node that the tables by number show.
use Rattle.std.specs.Prelude.{ℕ, ◌≤◌, ◌<◌, ◌≡◌, Bool, true, false, cond, List, ℤ, eqb, get_or, Option, Some, None}
use Rattle.qbf.specs.Formula.{paper, Prefix, Literal, Clause, Node, number_of, dead}
use Rattle.tables.specs.Views.{Kinds, Values, row, status}

abbrev pub clause_at : List ℤ → List ℕ → ℕ → Clause
clause_at flat sizes k = row paper.literals flat sizes k

-- a literal that does not keep its clause from being dead: not true, and forall where it is open
abbrev pub lost : List ℕ → List ℕ → Literal → Bool
lost ks vs l = cond (eqb (status vs l) 2) false (cond (eqb (status vs l) 0) (eqb (get_or ks (number_of l) 0) 2) true)

module _ (w : ℕ) (flat : List ℤ) (sizes kinds values : List ℕ) where
  -- no clause from `from` on and before k is dead
  abbrev pub Alive : ℕ → ℕ → Type 0
  Alive from k = (D : Prefix) (s : Node) → Kinds D kinds → Values D s values → (j : ℕ) → from ≤ j → j < k → dead D s (row w flat sizes j) ≡ false

  -- clause r is the first dead one from `from` on
  pub record FirstDead (from r : ℕ) : Type 0 where
    pub after : from ≤ r
    pub within : r < get_or sizes 0 0
    pub alive : Alive from r
    pub is_dead : (D : Prefix) (s : Node) → Kinds D kinds → Values D s values → dead D s (row w flat sizes r) ≡ true

  -- the index of the first dead clause from `from` on, or none
  abbrev pub NextDead : ℕ → Option ℕ → Type 0
  NextDead from None = Alive from (get_or sizes 0 0)
  NextDead from (Some r) = FirstDead from r
