-- Readings with open flags, and the plain search for them. Paper 02, wish 5.
use Rattle.std.specs.Prelude.{ℕ, suc, ◌≡◌, Bool, true, false, cond, not, ◌&&◌, List, [], ◌∷◌, length, eqb}
use Rattle.std.specs.Bool.{beq}
use Rattle.std.proofs.Math.Option.{Option, none, some}
use Rattle.qbf.specs.Formula.{Quantifier, free, exists, forall, is_free, Prefix, Literal, number_of, Clause, Node, ◌▹◌, is_open, any, all}
use Rattle.qbf.specs.Truth.{Outcome, decided, mixed, free_variables, truth}
use Rattle.qbf.specs.Plain.{PlainResult, plain_branch, plain_visit, plain_search}

-- what is recorded of each free variable, in place order: its value, or none where it is open
abbrev pub Reading : Type 0
Reading = List (Option Bool)

-- ---- what a query records: "From now on a query gives the flags that are on and those that are off, and the rest are open."
abbrev pub names : List Literal → ℕ → Bool
names ls n = any (λ l. eqb n (number_of l)) ls

abbrev pub recorded : Bool → Bool → Option Bool
recorded true off = some true
recorded false true = some false
recorded false false = none

abbrev pub reading_of : List Literal → List Literal → Prefix → Reading
reading_of on off [] = []
reading_of on off (d ∷ ds) = cond (is_free d.quantifier) (recorded (names on d.number) (names off d.number) ∷ reading_of on off ds) []

-- a full reading: no flag is open
abbrev pub is_full : Reading → Bool
is_full os = all (λ o. not (is_open o)) os

-- ---- "A query with an open flag goes as the plain walk from the empty node, entering one side only at a recorded flag."
abbrev pub enter : Option Bool → (Node → PlainResult) → Node → PlainResult
enter none f s = plain_branch free f s
enter (some b) f s = let r = f (s ▹ b) in record { outcome = r.outcome; visits = suc r.visits }

module _ (D : Prefix) (R : List Clause) where
  -- the search from a node, with the readings of the free variables left and the quantifiers of the places left
  abbrev pub open_search : Reading → List Quantifier → Node → PlainResult
  open_search [] ks = plain_search D R ks
  open_search (o ∷ os) [] = plain_search D R []
  open_search (o ∷ os) (free ∷ ks) = plain_visit D R (enter o (open_search os ks))
  open_search (o ∷ os) (exists ∷ ks) = plain_search D R (exists ∷ ks)
  open_search (o ∷ os) (forall ∷ ks) = plain_search D R (forall ∷ ks)

-- ---- what its outcome says
-- a full reading completes a reading if it agrees with it where that is not open
abbrev pub completes : Reading → Node → Bool
completes [] t = true
completes (o ∷ os) [] = false
completes (none ∷ os) (c ∷ t) = completes os t
completes (some b ∷ os) (c ∷ t) = beq b c && completes os t

-- "The result is swap if every completion is a swap, keep if none is, otherwise unsettled."
abbrev pub Settles : Prefix → List Clause → Reading → Outcome (Unit {0}) → Type 0
Settles D R os (decided v x) = (t : Node) → length t ≡ free_variables D → completes os t ≡ true → truth D R t ≡ v
Settles D R os (mixed ds) = (v : Bool) → (t : Node) × (length t ≡ free_variables D) × (completes os t ≡ true) × (truth D R t ≡ v)
