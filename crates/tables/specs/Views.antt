-- How the tables that the code lends show a prefix, a node, clauses and learned constraints.
-- A table by variable number has the cells 0 to `numbers`; cell 0 is no variable's. Past its end `get_or` gives 0.
use Rattle.std.specs.Prelude.{ℕ, zero, suc, ◌+◌, ◌*◌, ◌≤◌, ◌<◌, ◌≡◌, Bool, true, false, cond, List, [], ◌∷◌, ◌++◌, map, length, get_or, take, drop, pos, negsuc}
use Rattle.std.proofs.Math.Option.{Option, none, some}
use Rattle.qbf.specs.Formula.{Quantifier, free, exists, forall, Prefix, Literal, Node, number_of, place_of, quantifier_at, value_at}

-- ---- the codes of the tables' cells
abbrev pub quantifier_code : Quantifier → ℕ
quantifier_code free = 0
quantifier_code exists = 1
quantifier_code forall = 2

-- 0 open, 1 off, 2 on
abbrev pub value_code : Option Bool → ℕ
value_code none = 0
value_code (some false) = 1
value_code (some true) = 2

-- ---- tables by variable number
-- the place of each number, 0 where it is not declared
pub record Places (D : Prefix) (t : List ℕ) : Type 0 where
  pub at : (n : ℕ) → get_or t n 0 ≡ place_of D n

-- the quantifier of each number
pub record Kinds (D : Prefix) (t : List ℕ) : Type 0 where
  pub at : (n : ℕ) → get_or t n 0 ≡ quantifier_code (quantifier_at D (place_of D n))

-- the value of each number at a node
pub record Values (D : Prefix) (s : Node) (t : List ℕ) : Type 0 where
  pub at : (n : ℕ) → get_or t n 0 ≡ value_code (value_at s (place_of D n))

-- what a reading records of each number: the free variables in place order, each with its value, or none where it is open
pub record Recorded (D : Prefix) (os : List (Option Bool)) (t : List ℕ) : Type 0 where
  pub at : (n : ℕ) → get_or t n 0 ≡ value_code (get_or (none ∷ os) (place_of D n) none)

-- ---- a table by place: in cell 0 the count of the variables, then the number of each place's variable
pub record Numbers (D : Prefix) (t : List ℕ) : Type 0 where
  pub count : get_or t 0 0 ≡ length D
  pub at : (i : ℕ) → i < length D → get_or t (suc i) 0 ≡ get_or (map (λ d. d.number) D) i 0

-- ---- literals
-- What a literal is under a table of values: 0 open, 1 false, 2 true. A negative literal exchanges off and on.
abbrev pub negated : ℕ → ℕ
negated zero = 0
negated (suc zero) = 2
negated (suc (suc n)) = 1

abbrev pub signed : Literal → ℕ → ℕ
signed (pos n) v = v
signed (negsuc n) v = negated v

abbrev pub status : List ℕ → Literal → ℕ
status vs l = signed l (get_or vs (number_of l) 0)

-- ---- rows of a flat table
-- Row k is the first literals of the cells from k * stride on. The sizes are the number of rows, then the length of each row.
abbrev pub row : {A : Type 0} → ℕ → List A → List ℕ → ℕ → List A
row stride flat sizes k = take (get_or sizes (suc k) 0) (drop (k * stride) flat)

-- the first n rows
unfoldable pub rows : {A : Type 0} → ℕ → List A → List ℕ → ℕ → List (List A)
rows stride flat sizes zero = []
rows stride flat sizes (suc n) = rows stride flat sizes n ++ (row stride flat sizes n ∷ [])

abbrev pub rows_of : {A : Type 0} → ℕ → List A → List ℕ → List (List A)
rows_of stride flat sizes = rows stride flat sizes (get_or sizes 0 0)

-- the rows that stand lie within the table
pub record Table {A : Type 0} (stride capacity : ℕ) (flat : List A) (sizes : List ℕ) : Type 0 where
  pub room : length flat ≡ capacity * stride
  pub counted : suc capacity ≤ length sizes
  pub few : get_or sizes 0 0 ≤ capacity
  pub short : (k : ℕ) → k < get_or sizes 0 0 → get_or sizes (suc k) 0 ≤ stride

-- The rows that stand lie within the table, whatever room it has beyond them.
pub record Standing {A : Type 0} (stride : ℕ) (flat : List A) (sizes : List ℕ) : Type 0 where
  pub counted : get_or sizes 0 0 < length sizes
  pub inside : (k : ℕ) → k < get_or sizes 0 0 → k * stride + get_or sizes (suc k) 0 ≤ length flat

-- ---- looking up
-- the index of the first element at which the test passes; how many there are where none does
abbrev pub index_of : {A : Type 0} → (A → Bool) → List A → ℕ
index_of f [] = 0
index_of f (x ∷ xs) = cond (f x) 0 (suc (index_of f xs))
