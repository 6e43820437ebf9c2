-- The accounts of a day: eight books share one total of visits. Paper 02, wish 12.
use Rattle.std.specs.Prelude.{ℕ, ◌+◌, ◌-◌, ◌/◌, ◌≤◌, Bool, cond, List, [], ◌∷◌, get_or, set, replicate, ltb}

-- "Up to eight books, in places 1 to 8"
abbrev pub books : ℕ
books = 8

-- "Each place, with a book or not, has a floor of T divided by 8, rounded down."
abbrev pub floor : ℕ → ℕ
floor T = T / books

-- what is still owed to the floor of a place that has used u
abbrev pub owed : ℕ → ℕ → ℕ
owed T u = floor T - u

-- the visits used at each place, in order: their sum, and the sum of what is still owed
abbrev pub used : List ℕ → ℕ
used [] = 0
used (u ∷ us) = u + used us

abbrev pub owing : ℕ → List ℕ → ℕ
owing T [] = 0
owing T (u ∷ us) = owed T u + owing T us

-- "all visits used are then 0"
abbrev pub opened : List ℕ
opened = replicate books 0

-- the accounts stand: "a state whose visits used and still owed together exceed T is 22"
abbrev pub Stands : ℕ → List ℕ → Type 0
Stands T us = used us + owing T us ≤ T

abbrev pub overspent : ℕ → List ℕ → Bool
overspent T us = ltb T (used us + owing T us)

-- "A call may use what remains of its own floor, plus what is neither used nor still owed to any floor." Place i counts from 0 here.
abbrev pub allowance : ℕ → List ℕ → ℕ → ℕ
allowance T us i = owed T (get_or us i 0) + (T - (used us + owing T us))

-- the visits of a call are charged to its place
abbrev pub charged : List ℕ → ℕ → ℕ → List ℕ
charged us i v = set us i (get_or us i 0 + v)

-- "A walk stopped by the shared total returns 37 where its own ceiling is higher, otherwise 34": the ceiling, what the call may use
abbrev pub stop_number : ℕ → ℕ → ℕ
stop_number own may = cond (ltb may own) 37 34
