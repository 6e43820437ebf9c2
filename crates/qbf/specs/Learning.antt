-- The learning search (the paper's learning walk). Paper 01, "Learning walk".
-- A constraint is a conflict clause (the paper's bar) or a cube (its pass). Clause and cube, No and Yes, exists and forall are dual:
-- one polarity, true for cube and Yes, false for clause and No, says which is meant, and every definition is given once.
use Rattle.std.specs.Prelude.{ℕ, suc, ◌+◌, ◌-◌, Bool, true, false, cond, not, ◌&&◌, ◌||◌, List, [], ◌∷◌, ◌++◌, length, drop, leb, ltb, eqb}
use Rattle.std.specs.Bool.{beq}
use Rattle.std.proofs.Math.Option.{Option, none, some}
use Rattle.qbf.specs.Formula.{Limits, Quantifier, is_exists, is_forall, Prefix, Literal, Clause, Node, ◌▹◌, any, all, place, has, quantifier_at, satisfied, dead}
use Rattle.qbf.specs.Truth.{Verdict, Outcome, decided, mixed, decided_nodes}
use Rattle.qbf.specs.Plain.{decides}

abbrev pub Polarity : Type 0
Polarity = Bool

-- "A bar is a set of literals all false where it is used; a pass, all true." The literals are in place order.
abbrev pub Constraint : Type 0
Constraint = List Literal

-- ---- the store: the learned constraints of each polarity, the oldest first
-- "each bar now records how many rules stood when it was stored": `records` has a number for each learned clause, in their order.
pub record Store : Type 0 where
  pub clauses : List Constraint
  pub records : List ℕ
  pub cubes : List Constraint

abbrev pub empty_store : Store
empty_store = record { clauses = []; records = []; cubes = [] }

abbrev pub constraints : Polarity → Store → List Constraint
constraints true st = st.cubes
constraints false st = st.clauses

-- "a 65th of a kind displaces the oldest": one more, where n may stand
abbrev pub push : {A : Type 0} → ℕ → A → List A → List A
push n e es = drop (suc (length es) - n) es ++ (e ∷ [])

-- "An equal entry is stored again." A learned clause is stored with its record: n clauses stand.
abbrev pub learn : Limits → ℕ → Polarity → Constraint → Store → Store
learn L n true e st = record { clauses = st.clauses; records = st.records; cubes = push L.constraints e st.cubes }
learn L n false e st = record { clauses = push L.constraints e st.clauses; records = push L.constraints n st.records; cubes = st.cubes }

-- ---- constraints
-- what reduction drops: universal reduction of a clause, existential reduction of a cube; "A flag is never dropped."
abbrev pub dropped : Polarity → Quantifier → Bool
dropped true κ = is_exists κ
dropped false κ = is_forall κ

abbrev pub keep_or_drop : Bool → Literal → Constraint → Constraint
keep_or_drop drops l [] = cond drops [] (l ∷ [])
keep_or_drop drops l (m ∷ ms) = l ∷ m ∷ ms

-- the first element at which the test passes
abbrev pub first : {A : Type 0} → (A → Bool) → List A → Option A
first f [] = none
first f (x ∷ xs) = cond (f x) (some x) (first f xs)

module _ (D : Prefix) where
  -- "Reducing a bar drops literals from the end, by place, while they are forall; reducing a pass, while they are exists."
  abbrev pub reduce : Polarity → Constraint → Constraint
  reduce v [] = []
  reduce v (l ∷ ls) = keep_or_drop (dropped v (quantifier_at D (place D l))) l (reduce v ls)

  abbrev pub last_place_from : ℕ → Constraint → ℕ
  last_place_from d [] = d
  last_place_from d (l ∷ ls) = last_place_from (place D l) ls

  -- "Its last place is then that of its last literal, 0 if empty."
  abbrev pub last_place : Constraint → ℕ
  last_place e = last_place_from 0 e

  -- a literal of the place p stands in it
  abbrev pub mentions : ℕ → Constraint → Bool
  mentions p e = any (λ l. eqb (place D l) p) e

  -- a literal put in by its place; one of a place that stands there already is left out
  abbrev pub insert : Literal → Constraint → Constraint
  insert l [] = l ∷ []
  insert l (m ∷ ms) = cond (ltb (place D l) (place D m)) (l ∷ m ∷ ms) (cond (eqb (place D l) (place D m)) (m ∷ ms) (m ∷ insert l ms))

  abbrev pub without : ℕ → Constraint → Constraint
  without p [] = []
  without p (l ∷ ls) = cond (eqb (place D l) p) (without p ls) (l ∷ without p ls)

  abbrev pub union : Constraint → Constraint → Constraint
  union [] b = b
  union (l ∷ a) b = union a (insert l b)

  -- "Joining unites the two without v, reduces ..": resolution on the variable of place p, and its dual for cubes
  abbrev pub resolvent : ℕ → Polarity → Constraint → Constraint → Constraint
  resolvent p v e₀ e₁ = reduce v (union (without p e₀) (without p e₁))

  -- ---- steps 1 to 4 of a visit
  -- the first dead clause, in order of adding: where the node one place above has none, it is the one that step 1 takes
  abbrev pub first_dead : Node → List Clause → Option Clause
  first_dead s R = first (dead D s) R

  -- how far a clause reaches: the last place of its reduced form
  abbrev pub reach : Clause → ℕ
  reach c = last_place (reduce false c)

  -- a further clause, dead or not, beside the lowest dead one before it: "the earliest added among equals"
  abbrev pub lower : Bool → Option Clause → Clause → Option Clause
  lower false best c = best
  lower true none c = some c
  lower true (some e) c = cond (ltb (reach c) (reach e)) (some c) (some e)

  abbrev pub lowest_from : Option Clause → Node → List Clause → Option Clause
  lowest_from best s [] = best
  lowest_from best s (c ∷ cs) = lowest_from (lower (dead D s c) best c) s cs

  -- "The finder now returns the dead rule whose reduced form has the lowest last place, the earliest added among equals."
  abbrev pub lowest_dead : Node → List Clause → Option Clause
  lowest_dead s R = lowest_from none s R

  abbrev pub reduced_found : Polarity → Option Constraint → Option Constraint
  reduced_found v none = none
  reduced_found v (some e) = some (reduce v e)

  -- the oldest constraint that is eligible and whose literals all have the truth value v
  abbrev pub eligible_match : (ℕ → ℕ → Bool) → Polarity → Node → List Constraint → Option Constraint
  eligible_match eligible v s es = first (λ e. eligible (last_place e) (length s) && all (has D v s) e) es

  abbrev pub insert_found : Option Literal → Constraint → Constraint
  insert_found none e = e
  insert_found (some l) e = insert l e

  -- "from each rule its true literal of smallest place", put into e
  abbrev pub implicant : Node → List Clause → Constraint → Constraint
  implicant s [] e = e
  implicant s (r ∷ rs) e = implicant s rs (insert_found (first (has D true s) r) e)

-- a step that found a constraint ends the visit with the verdict v; else what follows is asked
abbrev pub conclude_by : Verdict → Option Constraint → Option (Outcome Constraint) → Option (Outcome Constraint)
conclude_by v none o = o
conclude_by v (some e) o = some (decided v e)

pub record LearningResult : Type 0 where
  pub outcome : Outcome Constraint
  pub store : Store
  pub visits : ℕ

-- "A visit counts one": what decides without branching ends the visit; else the search goes on
abbrev pub settle : Option (Outcome Constraint) → (Node → Store → LearningResult) → Node → Store → LearningResult
settle none next s st = next s st
settle (some o) next s st = record { outcome = o; store = st; visits = 1 }

-- after the off side: its result goes up, or the on side is visited and its result made into the branch's
pub data Next : Type 0 where
  up : LearningResult → Next
  onward : (LearningResult → LearningResult) → Next

abbrev pub proceed : Next → (Store → LearningResult) → Store → LearningResult
proceed (up r) g st = r
proceed (onward k) g st = k (g st)

module _ (D : Prefix) (R : List Clause) where
  -- "1. The dead rule whose reduced form has the lowest last place: No, with that rule reduced as the bar. 2. The oldest eligible bar
  -- with all literals false: No, with it. 3. Every rule satisfied: Yes. 4. The oldest eligible pass with all literals true: Yes, with it."
  abbrev pub leaf : (ℕ → ℕ → Bool) → Node → Store → Option (Outcome Constraint)
  leaf eligible s st =
      conclude_by false (reduced_found D false (lowest_dead D s R))
      (conclude_by false (eligible_match D eligible false s (constraints false st))
      (conclude_by true (cond (all (satisfied D s) R) (some (reduce D true (implicant D s R []))) none)
      (conclude_by true (eligible_match D eligible true s (constraints true st))
      none)))

  abbrev pub visit : (ℕ → ℕ → Bool) → (Node → Store → LearningResult) → Node → Store → LearningResult
  visit eligible next s st = settle (leaf eligible s st) next s st

-- ---- step 5, with v the variable of the next place
module _ (D : Prefix) where
  -- "A side's bar or pass goes up reduced."
  abbrev pub going_up : Outcome Constraint → Outcome Constraint
  going_up (decided v e) = decided v (reduce D v e)
  going_up (mixed ds) = mixed ds

  abbrev pub raise : LearningResult → LearningResult
  raise r = record { outcome = going_up r.outcome; store = r.store; visits = r.visits }

  -- the off side's result goes up without a further visit: "Exists: a Yes goes up. A No whose bar lacks v goes up", the dual at
  -- forall; "Flag: an off side of No or Yes whose bar or pass lacks v goes up"
  abbrev pub goes_up : Quantifier → ℕ → Polarity → Constraint → Bool
  goes_up κ p b e = decides b κ || not (mentions D p e)

module _ (L : Limits) (D : Prefix) (R : List Clause) where
  -- "Joining unites the two without v, reduces, stores the result and sends it up."
  abbrev pub resolve : Node → Polarity → Constraint → Constraint → Store → ℕ → LearningResult
  resolve s b e₀ e₁ st n =
      record {
        outcome = decided b (resolvent D (suc (length s)) b e₀ e₁);
        store = learn L (length R) b (resolvent D (suc (length s)) b e₀ e₁) st;
        visits = n;
      }

  -- The off side gave a constraint e₀ of polarity b that does not go up; the on side gave the outcome matched here.
  -- "Two bars that name v are joined"; at a flag, "If both sides are of one kind and not Mixed, the on side's entry goes up if it
  -- lacks v, else the two are joined. Otherwise Mixed."
  abbrev pub after_both : Quantifier → Node → Polarity → Constraint → Outcome Constraint → Store → ℕ → LearningResult
  after_both κ s b e₀ (decided c e₁) st n =
      cond (decides c κ) (record { outcome = decided c e₁; store = st; visits = n })
      (cond (beq b c)
      (cond (mentions D (suc (length s)) e₁) (resolve s b e₀ e₁ st n) (record { outcome = decided c e₁; store = st; visits = n }))
      (record { outcome = mixed (decided_nodes (s ▹ false) (decided b e₀) ++ decided_nodes (s ▹ true) (decided c e₁)); store = st; visits = n }))
  after_both κ s b e₀ (mixed ds) st n = record { outcome = mixed (decided_nodes (s ▹ false) (decided b e₀) ++ ds); store = st; visits = n }

  -- the off side gave a constraint, which goes up (true) or does not
  abbrev pub up_or_onward : Bool → Quantifier → Node → Polarity → Constraint → Store → ℕ → Next
  up_or_onward true κ s b e st n = up (record { outcome = decided b e; store = st; visits = suc n })
  up_or_onward false κ s b e st n = onward (λ r. after_both κ s b e r.outcome r.store (suc (n + r.visits)))

  abbrev pub after_off : Quantifier → Node → Outcome Constraint → Store → ℕ → Next
  after_off κ s (decided b e) st n = up_or_onward (goes_up D κ (suc (length s)) b e) κ s b e st n
  after_off κ s (mixed ds) st n =
      onward (λ r. record { outcome = mixed (ds ++ decided_nodes (s ▹ true) r.outcome); store = r.store; visits = suc (n + r.visits) })

  -- "Branch on the next variable v, off first."
  abbrev pub branch : Quantifier → (Node → Store → LearningResult) → Node → Store → LearningResult
  branch κ f s st =
      let r = f (s ▹ false) st in
      proceed (after_off κ s r.outcome r.store r.visits) (f (s ▹ true)) r.store

  -- What a visit goes on to. "A stored entry is eligible at a node of length k if its last place is k."
  -- With no place left steps 1 and 3 have decided, so that the first line is never reached.
  abbrev pub below : List Quantifier → Node → Store → LearningResult
  below [] s st = record { outcome = decided false []; store = st; visits = 1 }
  below (κ ∷ ks) s st = branch κ (λ t st'. raise D (visit D R eqb (below ks) t st')) s st

  -- The search from a start node: ".. at the start node, if it is at most k."
  abbrev pub learning_search : List Quantifier → Node → Store → LearningResult
  learning_search ks = visit D R leb (below ks)
