-- The formula (the paper's book): prefix and clauses; nodes of the search tree; satisfied and dead clauses.
-- Paper 01, "Book". A variable's number, its place and its level are three counters that never stand in for one another.
use Rattle.std.specs.Prelude.{ℕ, zero, suc, min, Bool, true, false, cond, ◌&&◌, ◌||◌, List, [], ◌∷◌, ◌++◌, map, get_or, ℤ, pos, negsuc, eqb}
use Rattle.std.specs.Bool.{beq}
use Rattle.std.proofs.Math.Option.{Option, none, some}
use Rattle.std.proofs.Math.ListN.{get_elem?}

-- The limits of a formula: variable numbers run from 1 to `numbers`; how many clauses, literals of a clause, and learned
-- constraints of each polarity there may be. Every definition takes them from here.
pub record Limits : Type 0 where
  pub numbers : ℕ
  pub clauses : ℕ
  pub literals : ℕ
  pub constraints : ℕ

-- "1 to 40", "At most 255 rules", "1 to 16 literals", "64 bars and 64 passes": the limits that the program uses
abbrev pub paper : Limits
paper = record { numbers = 40; clauses = 255; literals = 16; constraints = 64 }

-- "Variable numbers run to 1,000, rules to 4,000"
abbrev pub highest : Limits
highest = record { numbers = 1000; clauses = 4000; literals = paper.literals; constraints = paper.constraints }

-- "A book is opened with its own limits for numbers and rules, capped at these". Those of a clause's literals and of the store are fixed;
-- "its limit for the literals of a stored entry is that for numbers", as a constraint names each variable once.
abbrev pub capped : ℕ → ℕ → Limits
capped n m = record { numbers = min n highest.numbers; clauses = min m highest.clauses; literals = highest.literals; constraints = highest.constraints }

-- "flags stay at most 40"
abbrev pub most_free : ℕ
most_free = 40

-- ---- the prefix
-- "A book declares flags (the free variables), then groups marked exists or forall." A flag is a free variable.
pub data Quantifier : Type 0 where
  free exists forall : Quantifier

abbrev pub is_free : Quantifier → Bool
is_free free = true
is_free exists = false
is_free forall = false

abbrev pub is_exists : Quantifier → Bool
is_exists free = false
is_exists exists = true
is_exists forall = false

abbrev pub is_forall : Quantifier → Bool
is_forall free = false
is_forall exists = false
is_forall forall = true

pub record Variable : Type 0 where
  pub number : ℕ
  pub quantifier : Quantifier

-- the variables in declared order
abbrev pub Prefix : Type 0
Prefix = List Variable

abbrev pub quantifiers : Prefix → List Quantifier
quantifiers D = map (λ d. d.quantifier) D

-- "A variable's place is its position, from 1, in that declared order": the place of a number, counted from p; 0 where it is not declared
abbrev pub place_from : ℕ → ℕ → Prefix → ℕ
place_from p n [] = 0
place_from p n (d ∷ ds) = cond (eqb n d.number) p (place_from (suc p) n ds)

unfoldable pub place_of : Prefix → ℕ → ℕ
place_of D n = place_from 1 n D

-- the quantifier of a place; a place that is not declared counts as free
abbrev pub quantifier_at : Prefix → ℕ → Quantifier
quantifier_at D zero = free
quantifier_at D (suc i) = get_or (quantifiers D) i free

abbrev pub same_quantifier : Quantifier → Quantifier → Bool
same_quantifier free κ = is_free κ
same_quantifier exists κ = is_exists κ
same_quantifier forall κ = is_forall κ

-- "The level is the index, from 1, of a maximal run of one quantifier kind; a flag has level 0."
-- The level of a place with quantifier κ, next to one of level n with the quantifier given first.
abbrev pub level_beside : ℕ → Quantifier → Quantifier → ℕ
level_beside n beside κ = cond (is_free κ) 0 (cond (same_quantifier beside κ) n (suc n))

abbrev pub levels_from : ℕ → Quantifier → List Quantifier → List ℕ
levels_from n beside [] = []
levels_from n beside (κ ∷ ks) = level_beside n beside κ ∷ levels_from (level_beside n beside κ) κ ks

-- the level of each place
unfoldable pub levels : Prefix → List ℕ
levels D = levels_from 0 free (quantifiers D)

-- ---- literals and clauses
-- "A literal is a signed 16-bit number: positive means on, its negation off."
abbrev pub Literal : Type 0
Literal = ℤ

abbrev pub number_of : Literal → ℕ
number_of (pos n) = n
number_of (negsuc n) = suc n

abbrev pub positive : Literal → Bool
positive (pos n) = true
positive (negsuc n) = false

abbrev pub place : Prefix → Literal → ℕ
place D l = place_of D (number_of l)

-- The paper's rule: its literals, held in place order.
abbrev pub Clause : Type 0
Clause = List Literal

-- The paper's book.
pub record Formula : Type 0 where
  pub limits : Limits
  pub prefix : Prefix
  pub clauses : List Clause

-- ---- nodes
-- "A node gives values to the variables of the first k places": their values, off as false and on as true.
abbrev pub Node : Type 0
Node = List Bool

-- the node one place longer
abbrev pub ◌▹◌ : Node → Bool → Node
s ▹ b = s ++ (b ∷ [])

infixl 60 ◌▹◌
-- the value at a place, none where it is open
abbrev pub value_at : Node → ℕ → Option Bool
value_at s zero = none
value_at s (suc i) = get_elem? s i

abbrev pub equals : Option Bool → Bool → Bool
equals none b = false
equals (some a) b = beq a b

abbrev pub is_open : Option Bool → Bool
is_open none = true
is_open (some a) = false

abbrev pub any : {A : Type 0} → (A → Bool) → List A → Bool
any f [] = false
any f (x ∷ xs) = f x || any f xs

abbrev pub all : {A : Type 0} → (A → Bool) → List A → Bool
all f [] = true
all f (x ∷ xs) = f x && all f xs

module _ (D : Prefix) where
  -- the literal l has the truth value v at the node s
  abbrev pub has : Bool → Node → Literal → Bool
  has v s l = equals (value_at s (place D l)) (beq v (positive l))

  -- "A rule is satisfied at a node if a literal is true."
  abbrev pub satisfied : Node → Clause → Bool
  satisfied s c = any (has true s) c

  -- "It is dead if none is true and every open one is forall": the clause is empty under universal reduction.
  -- "In this test a flag counts as exists."
  abbrev pub dead : Node → Clause → Bool
  dead s c = all (λ l. has false s l || (is_open (value_at s (place D l)) && is_forall (quantifier_at D (place D l)))) c
