-- The reply to a query of a reached state, by the truth of the completions of its reading.
use Prim.Native.Nat.{ℕ, suc, zero-le}
use native.Mathlib.Nat.{suc_inj}
use native.Mathlib.Omega.{arith}
use mathlib.Core.Path.{◌≡◌, refl, sym, ap, ◌∙◌, subst}
use mathlib.Core.Logic.{◌⊎◌, inl, inr}
use mathlib.Core.Bool.{Bool, true, false, cond, beq, false≢true}
use mathlib.Core.List.{List, [], ◌∷◌, ◌++◌}
use mathlib.Core.Option.{Option, none, some}
use lib.ListN.{length}
use lib.Dec.{leb}
use Rattle.qbf.specs.Formula.{Clause, Literal, Node, Prefix, Quantifier, exists, forall, free, is_free, quantifiers}
use Rattle.qbf.specs.Truth.{Outcome, bound, completions, decided, free_count, mixed, outline, truth, verdict_of}
use Rattle.qbf.specs.Open.{Reading, Settles, completes, is_full, names, open_search, reading_of, recorded}
use Rattle.qbf.specs.Ceiling.{search_within}
use Rattle.qbf.specs.Calls.{Reply, State, guarded, learning_query, learning_reading, open_answer, query, query_fault, query_reply, refused, start_node, step}
use Rattle.qbf.specs.Demands.{QueryOwed}
use Rattle.theory.proofs.Basics.{and_left, and_right, beq→≡}
use Rattle.theory.proofs.Verdict.{NoFree, verdict_win, without_free}
use Rattle.theory.proofs.Search.{FreeFirst}
use Rattle.theory.proofs.WellFormed.{clauses_rising, free_before, inside}
use Rattle.theory.proofs.Starting.{SoundFor, Starts, attempted, learning, start_length, starts_full, searched}
use Rattle.theory.proofs.Ceiling.{attempt_reply}
use Rattle.theory.proofs.Open.{SettlesAt, open_settles}
use Rattle.theory.proofs.Runs.{Reached, reached_formed}
use Rattle.theory.proofs.Refusals.{eight}

none_since : (ks : List Quantifier) → FreeFirst ks → NoFree (bound ks)
none_since [] h = tt
none_since (free ∷ ks) h = none_since ks h.1
none_since (exists ∷ ks) h = h.0
none_since (forall ∷ ks) h = h.0

-- where no free variable is left the verdict is the truth
verdict_full : (D : Prefix) (R : List Clause) (ks : List Quantifier) (s : Node) → NoFree ks → verdict_of D R ks s ≡ decided (completions true D R ks s) tt
verdict_full D R ks s n = by (completions true D R ks s) refl
  where
    by : (x : Bool) → completions true D R ks s ≡ x → verdict_of D R ks s ≡ decided x tt
    by true e = verdict_win D R true ks s (without_free D R ks s n ∙ e)
    by false e = verdict_win D R false ks s e

-- ---- readings
pub reading_length : (on off : List Literal) (ds : Prefix) → length (reading_of on off ds) ≡ free_count (quantifiers ds)
reading_length on off [] = refl
reading_length on off (d ∷ ds) = by d.quantifier (reading_length on off ds)
  where
    o : Option Bool
    o = recorded (names on d.number) (names off d.number)

    by : (κ : Quantifier) → length (reading_of on off ds) ≡ free_count (quantifiers ds) → length (cond (is_free κ) (o ∷ reading_of on off ds) []) ≡ free_count (κ ∷ quantifiers ds)
    by free h = ap suc h
    by exists h = refl
    by forall h = refl

-- only the start node completes a full reading
pub only_start : (on off : List Literal) (ds : Prefix) → is_full (reading_of on off ds) ≡ true → (t : Node) → length t ≡ free_count (quantifiers ds) → completes (reading_of on off ds) t ≡ true → t ≡ start_node on ds
only_start on off [] e [] z h = refl
only_start on off [] e (c ∷ t) z h = absurd (omega (arith, z))
only_start on off (d ∷ ds) e t z h = by d.quantifier t e z h (only_start on off ds)
  where
    a : Bool
    a = names on d.number

    b : Bool
    b = names off d.number

    rest : Reading
    rest = reading_of on off ds

    -- what is recorded of a flag is whether it is on
    head : (x y c : Bool) (u : Node) → is_full (recorded x y ∷ rest) ≡ true → completes (recorded x y ∷ rest) (c ∷ u) ≡ true → (c ≡ x) × (is_full rest ≡ true) × (completes rest u ≡ true)
    head true y c u f k = (sym (beq→≡ true c (and_left (beq true c) (completes rest u) k)), f, and_right (beq true c) (completes rest u) k)
    head false true c u f k = (sym (beq→≡ false c (and_left (beq false c) (completes rest u) k)), f, and_right (beq false c) (completes rest u) k)
    head false false c u f k = absurd (false≢true f)

    by : (κ : Quantifier) (t : Node) → is_full (cond (is_free κ) (recorded a b ∷ rest) []) ≡ true → length t ≡ free_count (κ ∷ quantifiers ds) → completes (cond (is_free κ) (recorded a b ∷ rest) []) t ≡ true
        → (is_full rest ≡ true → (u : Node) → length u ≡ free_count (quantifiers ds) → completes rest u ≡ true → u ≡ start_node on ds)
        → t ≡ cond (is_free κ) (a ∷ start_node on ds) []
    by free [] f q k ih = absurd (omega (arith, q))
    by free (c ∷ u) f q k ih = let w = head a b c u f k in λ i. w.0 i ∷ ih w.1 u (suc_inj q) w.2 i
    by exists [] f q k ih = refl
    by exists (c ∷ u) f q k ih = absurd (omega (arith, q))
    by forall [] f q k ih = refl
    by forall (c ∷ u) f q k ih = absurd (omega (arith, q))

settled : (D : Prefix) (R : List Clause) (os : Reading) (o : Outcome (Unit {0})) → Settles D R os o → QueryOwed D R os (query_reply o)
settled D R os (decided true x) h = h
settled D R os (decided false x) h = h
settled D R os (mixed ds) h = h

from_empty : (D : Prefix) (R : List Clause) (os : Reading) (o : Outcome (Unit {0})) → SettlesAt D R os (quantifiers D) [] o → Settles D R os o
from_empty D R os (decided v x) h = h
from_empty D R os (mixed ds) h = h

module _ (x : State) (h : Reached x) (n : ℕ) (on off : List Literal) where
  abbrev D : Prefix
  D = x.formula.prefix

  abbrev R : List Clause
  R = x.formula.clauses

  abbrev s : Node
  s = start_node on D

  abbrev os : Reading
  os = reading_of on off D

  start : Starts x.formula (bound (quantifiers D)) s
  start = starts_full x.formula h.formula_ok s (start_length on D)

  -- a full reading: the search's outcome is the truth of the start node
  right : outline (learning x.formula x.store (bound (quantifiers D)) s).outcome ≡ decided (truth D R s) tt
  right =
      (searched x.formula x.store (bound (quantifiers D)) s h.formula_ok h.sound start).verdict
      ∙ verdict_full D R (bound (quantifiers D)) s (none_since (quantifiers D) (free_before x.formula h.formula_ok))

  told : is_full os ≡ true → (r : Reply) → (r ≡ query_reply (outline (learning x.formula x.store (bound (quantifiers D)) s).outcome)) ⊎ (r ≡ refused 34) → QueryOwed D R os r
  told f r (inl e) = subst (QueryOwed D R os) (sym (e ∙ ap query_reply right)) (settled D R os (decided (truth D R s) tt) (λ t l q. ap (truth D R) (only_start on off D f t l q)))
  told f r (inr e) = subst (QueryOwed D R os) (sym e) (inr refl)

  open_owed : (y : Bool) → QueryOwed D R os (open_answer y x.store n (open_search D R os (quantifiers D) [])).out.reply
  open_owed true =
      settled D R os (open_search D R os (quantifiers D) []).outcome (from_empty D R os (open_search D R os (quantifiers D) []).outcome
      (open_settles D R (clauses_rising x.formula h.formula_ok) (λ r m l k. inside D l) os (quantifiers D) (free_before x.formula h.formula_ok) [] (reading_length on off D) refl zero-le))
  open_owed false = inr refl

  reading_owed : (y : Bool) → is_full os ≡ y → QueryOwed D R os (learning_reading y x.formula x.store n on os).out.reply
  reading_owed false f = open_owed (leb (open_search D R os (quantifiers D) []).visits n)
  reading_owed true f =
      told f (learning_reading true x.formula x.store n on os).out.reply
      (attempt_reply (SoundFor x.formula) n (learning x.formula x.store (bound (quantifiers D)) s) (refused 34) query_reply
      (search_within x.formula.limits D R n (bound (quantifiers D)) s x.store) (attempted x.formula x.store (bound (quantifiers D)) s h.formula_ok h.sound start n))

  pub query_owed : QueryOwed D R os (step x (query n on off)).out.reply
  query_owed = subst (λ (g : Bool). QueryOwed D R os (guarded g x (query n on off)).out.reply) (sym (reached_formed x h)) (by (query_fault x.formula [] (on ++ off)) refl)
    where
      by : (o : Option ℕ) → query_fault x.formula [] (on ++ off) ≡ o → QueryOwed D R os (learning_query o x.formula x.store n on off).out.reply
      by (some k) e = inl (eight x.formula (on ++ off) k e)
      by none e = reading_owed (is_full os) refl
