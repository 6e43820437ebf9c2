-- A search of a well-formed formula from a start node: all that calls need to know of it.
use Prim.Native.Nat.{ℕ, zero, suc, ◌≤◌, ◌<◌, suc-le-suc, zero-le}
use native.Mathlib.Nat.{le_of_suc-le-suc, not-suc-le-zero}
use native.Mathlib.Omega.{arith}
use mathlib.Core.Path.{◌≡◌, refl, sym, ap, ◌∙◌}
use mathlib.Core.Bool.{cond}
use mathlib.Core.List.{List, [], ◌∷◌}
use lib.ListN.{length, drop, get_or}
use lib.Dec.{eqb, leb}
use Rattle.qbf.specs.Formula.{Clause, Formula, Limits, Literal, Node, Prefix, Quantifier, any, exists, forall, free, is_free, number_of, place, quantifiers}
use Rattle.qbf.specs.Truth.{Outcome, bound, decided, free_count, mixed, outline, verdict_of}
use Rattle.qbf.specs.Plain.{PlainResult, plain_search}
use Rattle.qbf.specs.Learning.{LearningResult, Store, learning_search}
use Rattle.qbf.specs.Ceiling.{search_within}
use Rattle.qbf.specs.Card.{Mem}
use Rattle.qbf.specs.Calls.{start_node}
use Rattle.theory.proofs.Rest.{Rest}
use Rattle.theory.proofs.WellFormed.{FormulaFacts, clauses_rising, capacity, free_before, inside}
use Rattle.theory.proofs.Game.{Rising}
use Rattle.theory.proofs.Leaves.{SoundStore, Fair, fair_inner}
use Rattle.theory.proofs.Search.{FreeFirst, Known, known_side, search_ok, search_verdict, visit_ok}
use Rattle.theory.proofs.Start.{fair_start}
use Rattle.theory.proofs.PlainSearch.{plain_verdict}
use Rattle.theory.proofs.Visits.{search_le}
use Rattle.theory.proofs.Ceiling.{Within, search_within_lem}

abbrev pub SoundFor : Formula → Store → Type 0
SoundFor b st = SoundStore b.limits b.prefix b.clauses st

-- ---- the places of the free variables
pub free_fit : (ks : List Quantifier) → free_count ks ≤ length ks
free_fit [] = zero-le
free_fit (free ∷ ks) = suc-le-suc (free_fit ks)
free_fit (exists ∷ ks) = zero-le
free_fit (forall ∷ ks) = zero-le

pub free_rest : (ks : List Quantifier) → drop (free_count ks) ks ≡ bound ks
free_rest [] = refl
free_rest (free ∷ ks) = free_rest ks
free_rest (exists ∷ ks) = refl
free_rest (forall ∷ ks) = refl

pub free_kind : (ks : List Quantifier) (i : ℕ) → i < free_count ks → get_or ks i free ≡ free
free_kind [] i h = refl
free_kind (free ∷ ks) zero h = refl
free_kind (free ∷ ks) (suc i) h = free_kind ks i (le_of_suc-le-suc h)
free_kind (exists ∷ ks) i h = absurd (not-suc-le-zero h)
free_kind (forall ∷ ks) i h = absurd (not-suc-le-zero h)

since_first : (ks : List Quantifier) → FreeFirst ks → FreeFirst (bound ks)
since_first [] h = h
since_first (free ∷ ks) h = since_first ks h.1
since_first (exists ∷ ks) h = h
since_first (forall ∷ ks) h = h

-- ---- a start node
pub record Starts (b : Formula) (ks : List Quantifier) (s : Node) : Type 0 where
  pub order : FreeFirst ks
  pub rest : drop (length s) (quantifiers b.prefix) ≡ ks
  pub small : length s ≤ length (quantifiers b.prefix)
  pub fair : Fair b.prefix b.clauses leb s

-- a query starts at a full reading: all free variables have a value, and the others are left
pub start_length : (ls : List Literal) (ds : Prefix) → length (start_node ls ds) ≡ free_count (quantifiers ds)
start_length ls [] = refl
start_length ls (d ∷ ds) = by d.quantifier (start_length ls ds)
  where
    by : (κ : Quantifier) → length (start_node ls ds) ≡ free_count (quantifiers ds) → length (cond (is_free κ) (any (λ l. eqb d.number (number_of l)) ls ∷ start_node ls ds) []) ≡ free_count (κ ∷ quantifiers ds)
    by free h = ap suc h
    by exists h = refl
    by forall h = refl

full_rest : (D : Prefix) (s : Node) → length s ≡ free_count (quantifiers D) → Rest D s (bound (quantifiers D))
full_rest D s e = ap (λ (n : ℕ). drop n (quantifiers D)) e ∙ free_rest (quantifiers D)

pub start_rest : (ls : List Literal) (D : Prefix) → Rest D (start_node ls D) (bound (quantifiers D))
start_rest ls D = full_rest D (start_node ls D) (start_length ls D)

-- the node of a full reading
pub starts_full : (b : Formula) → FormulaFacts b → (s : Node) → length s ≡ free_count (quantifiers b.prefix) → Starts b (bound (quantifiers b.prefix)) s
starts_full b f s e =
    record {
      order = since_first (quantifiers b.prefix) (free_before b f);
      rest = full_rest b.prefix s e;
      small = small;
      fair = fair_start b.prefix b.clauses s small (λ i h. free_kind (quantifiers b.prefix) i (omega (arith, e, h)));
    }
  where
    small : length s ≤ length (quantifiers b.prefix)
    small = omega (arith, e, free_fit (quantifiers b.prefix))

-- the empty node
pub starts_empty : (b : Formula) → FormulaFacts b → Starts b (quantifiers b.prefix) []
starts_empty b f = record { order = free_before b f; rest = refl; small = zero-le; fair = fair_start b.prefix b.clauses [] zero-le (λ i h. absurd (not-suc-le-zero h)) }

outline_same : (o : Outcome (Unit {0})) → outline o ≡ o
outline_same (decided v x) = refl
outline_same (mixed ls) = refl

module _ (b : Formula) (st : Store) (ks : List Quantifier) (s : Node) where
  abbrev pub learning : LearningResult
  learning = learning_search b.limits b.prefix b.clauses ks s st

  abbrev pub plainly : PlainResult
  plainly = plain_search b.prefix b.clauses ks s

  pub record Searched : Type 0 where
    pub stays_sound : SoundFor b learning.store
    pub verdict : outline learning.outcome ≡ verdict_of b.prefix b.clauses ks s
    pub agree : outline learning.outcome ≡ plainly.outcome
    pub fewer : learning.visits ≤ plainly.visits

  pub searched : FormulaFacts b → SoundFor b st → Starts b ks s → Searched
  searched f h g =
      record {
        stays_sound = (search_ok L (capacity b f) D R up (λ r m l n. inside D l) ks g.order s st g.rest g.small g.fair h).store_ok;
        verdict = true_verdict;
        agree = true_verdict ∙ sym (plain_verdict D R up (λ r m l n. inside D l) ks g.order s g.rest g.small) ∙ outline_same plainly.outcome;
        fewer = search_le L (capacity b f) D R up (λ r m l n. inside D l) ks g.order s st g.rest g.small g.fair h;
      }
    where
      L : Limits
      L = b.limits

      D : Prefix
      D = b.prefix

      R : List Clause
      R = b.clauses

      up : (r : Clause) → Mem r R → Rising D 0 r
      up = clauses_rising b f

      true_verdict : outline learning.outcome ≡ verdict_of D R ks s
      true_verdict = search_verdict L (capacity b f) D R up (λ r m l n. inside D l) ks g.order s st g.rest g.small g.fair h

  -- under a ceiling: the same search, or a store as sound
  pub attempted : FormulaFacts b → SoundFor b st → Starts b ks s → (n : ℕ) → Within (SoundFor b) n learning (search_within b.limits b.prefix b.clauses n ks s st)
  attempted f h g n =
      search_within_lem L D R (SoundFor b) (Known L one D R up in_prefix) (known_side L one D R up in_prefix)
      (λ qs t z k w. (visit_ok L one D R up in_prefix eqb qs t z k (fair_inner D R t) w).store_ok) n ks s st (record { order = g.order; rest = g.rest; small = g.small }) h
    where
      L : Limits
      L = b.limits

      D : Prefix
      D = b.prefix

      R : List Clause
      R = b.clauses

      one : 1 ≤ L.constraints
      one = capacity b f

      up : (r : Clause) → Mem r R → Rising D 0 r
      up = clauses_rising b f

      in_prefix : (r : Clause) → Mem r R → (l : Literal) → Mem l r → place D l ≤ length (quantifiers D)
      in_prefix r m l k = inside D l
