-- A branch of the search by what its sides gave: the off side's result goes up, or both are finished.
use Prim.Native.Nat.{ℕ, zero, suc, ◌+◌, ◌-◌, ◌≤◌, ◌<◌, zero-le}
use native.Mathlib.Omega.{arith}
use native.Mathlib.Numerals.{add-one}
use mathlib.Core.Path.{◌≡◌, refl, sym, ap, ◌∙◌, subst}
use mathlib.Core.Logic.{◌⊎◌, inl, inr}
use mathlib.Core.Bool.{Bool, true, false, false≢true}
use mathlib.Core.List.{List, [], ◌∷◌}
use lib.ListN.{length, drop, length-map}
use lib.Dec.{eqb}
use Rattle.qbf.specs.Formula.{paper, highest, Quantifier, Prefix, Clause, Node, ◌▹◌, place, positive, quantifiers, quantifier_at}
use Rattle.qbf.specs.Truth.{Outcome, decided, mixed}
use Rattle.qbf.specs.Learning.{Constraint, Store, LearningResult, visit, below, branch, resolvent, union, without}
use Rattle.qbf.specs.Ceiling.{Attempt, finished, stopped, visit_within, below_within, branch_within}
use Rattle.qbf.specs.Calls.{numbers_are_ok}
use Rattle.theory.proofs.Laws.{branch_on, branch_mixed}
use Rattle.theory.proofs.CeilingLaws.{off_goes_up, on_ends, on_stops, mixed_ends, mixed_stops}
use Rattle.theory.proofs.Ceiling.{Any, Within, visit_within_any}
use Rattle.theory.proofs.Rest.{Rest, nil_cons, rest_up, drop_cons}
use Rattle.theory.proofs.Game.{Rising, rising_above}
use Rattle.theory.proofs.Stores.{ShapedStore}
use Rattle.theory.proofs.Basics.{length-▹}
use Rattle.theory.proofs.Shape.{last_held}
use Rattle.theory.proofs.WellFormed.{inside, free_before, store_shaped, shaped_store, →rising}
use Rattle.theory.proofs.ShapedSearch.{ShapedOutcome, shaped_visit}
use Rattle.theory.proofs.Search.{Below, FreeFirst}
use Rattle.theory.proofs.Unmixed.{Unmixed, unmixed_visit, unmixed_branch}
use Rattle.theory.proofs.Constraints.{reduce_rising}
use Rattle.theory.proofs.Sets.{without_rising, without_sub, union_rising}
use Rattle.theory.proofs.Widths.{prefix_width, constraint_width}
use Rattle.inner.specs.Formed.{Formed}
use Rattle.tables.specs.Codes.{code_at, code_of, codes, last_from}
use Rattle.tables.specs.Shelves.{code_count}
use Rattle.tables.specs.Records.{Ledger}
use Rattle.node.specs.Node.{Ended, goes_up_of, onward_of, resolvent_of, Fits}
use Rattle.inner.proofs.Stepping.{formula_of, facts, rising}
use Rattle.search.specs.Search.{Done, Halted, Says, Result, visit_of}
use Rattle.node.specs.declared.position.Position.{Position}
use Rattle.node.specs.declared.answer.Answer.{Answer}

-- ---- a branch by its off side's outcome
module _ (D : Prefix) (R : List Clause) (κ : Quantifier) (f : Node → Store → LearningResult) (s : Node) (st : Store) where
  abbrev off : LearningResult
  off = f (s ▹ false) st

  abbrev on : LearningResult
  on = f (s ▹ true) off.store

  pub goes_on : goes_up_of D κ (suc (length s)) off.outcome ≡ false → branch paper D R κ f s st ≡ onward_of D R κ s off.outcome on.outcome on.store (suc (off.visits + on.visits))
  goes_on g = by off.outcome refl g
    where
      by : (o : Outcome Constraint) → off.outcome ≡ o → goes_up_of D κ (suc (length s)) o ≡ false → branch paper D R κ f s st ≡ onward_of D R κ s off.outcome on.outcome on.store (suc (off.visits + on.visits))
      by (decided b e) q h = branch_on paper D R κ f s st b e q h ∙ ap (λ (o : Outcome Constraint). onward_of D R κ s o on.outcome on.store (suc (off.visits + on.visits))) (sym q)
      by (mixed ds) q h = branch_mixed paper D R κ f s st ds q ∙ ap (λ (o : Outcome Constraint). onward_of D R κ s o on.outcome on.store (suc (off.visits + on.visits))) (sym q)

-- ---- under a budget of n visits: f is the search of a side, h the same within what is left
module _ (D : Prefix) (R : List Clause) (κ : Quantifier) (h : ℕ → Node → Store → Attempt) (n : ℕ) (s : Node) (st : Store) (off : LearningResult) (end : h n (s ▹ false) st ≡ finished off) where
  pub goes_up_within : goes_up_of D κ (suc (length s)) off.outcome ≡ true
      → branch_within paper D R κ h n s st ≡ finished (record { outcome = off.outcome; store = off.store; visits = suc off.visits })
  goes_up_within g = by off.outcome refl g
    where
      by : (o : Outcome Constraint) → off.outcome ≡ o → goes_up_of D κ (suc (length s)) o ≡ true
          → branch_within paper D R κ h n s st ≡ finished (record { outcome = off.outcome; store = off.store; visits = suc off.visits })
      by (decided b e) q x =
          off_goes_up paper D R κ h n s st off end b e q x ∙ ap (λ (o : Outcome Constraint). finished (record { outcome = o; store = off.store; visits = suc off.visits })) (sym q)
      by (mixed ds) q x = absurd (false≢true x)

  pub goes_on_within : (on : LearningResult) → goes_up_of D κ (suc (length s)) off.outcome ≡ false → h (n - off.visits) (s ▹ true) off.store ≡ finished on
      → branch_within paper D R κ h n s st ≡ finished (onward_of D R κ s off.outcome on.outcome on.store (suc (off.visits + on.visits)))
  goes_on_within on g e₂ = by off.outcome refl g
    where
      by : (o : Outcome Constraint) → off.outcome ≡ o → goes_up_of D κ (suc (length s)) o ≡ false
          → branch_within paper D R κ h n s st ≡ finished (onward_of D R κ s off.outcome on.outcome on.store (suc (off.visits + on.visits)))
      by (decided b e) q x =
          on_ends paper D R κ h n s st off end b e q on x e₂ ∙ ap (λ (o : Outcome Constraint). finished (onward_of D R κ s o on.outcome on.store (suc (off.visits + on.visits)))) (sym q)
      by (mixed ds) q x =
          mixed_ends paper D R κ h n s st off end ds q on e₂ ∙ ap (λ (o : Outcome Constraint). finished (onward_of D R κ s o on.outcome on.store (suc (off.visits + on.visits)))) (sym q)

  pub stops_within : (z : Store) → goes_up_of D κ (suc (length s)) off.outcome ≡ false → h (n - off.visits) (s ▹ true) off.store ≡ stopped z → branch_within paper D R κ h n s st ≡ stopped z
  stops_within z g e₂ = by off.outcome refl g
    where
      by : (o : Outcome Constraint) → off.outcome ≡ o → goes_up_of D κ (suc (length s)) o ≡ false → branch_within paper D R κ h n s st ≡ stopped z
      by (decided b e) q x = on_stops paper D R κ h n s st off end b e q z x e₂
      by (mixed ds) q x = mixed_stops paper D R κ h n s st off end ds q z e₂

-- a visit within n came to the end of the full one, or was stopped
abbrev pub Came : Prefix → List Clause → List Quantifier → ℕ → Node → Store → Ledger → List Node → Position → Answer → List ℕ → List ℕ → List ℕ → List ℕ → List ℕ → List ℕ → List ℕ → Type 0
Came D R ks n s st g ls p r cls up cs cl qs ql tb =
    ((visit_within D R eqb (below_within paper D R ks) n s st ≡ finished (visit D R eqb (below paper D R ks) s st)) × Done D g ls (visit D R eqb (below paper D R ks) s st) p r cls up cs cl qs ql tb)
    ⊎ ((z : Store) × (visit_within D R eqb (below_within paper D R ks) n s st ≡ stopped z) × Halted D g z r cs cl qs ql)

pub came : (D : Prefix) (R : List Clause) (ks : List Quantifier) (n : ℕ) (s : Node) (st : Store) {g : Ledger} {ls : List Node} {p : Position} {r : Answer} {cls up cs cl qs ql tb : List ℕ}
    → Result D g ls (visit_within D R eqb (below_within paper D R ks) n s st) p r cls up cs cl qs ql tb → Came D R ks n s st g ls p r cls up cs cl qs ql tb
came D R ks n s st {g} {ls} {p} {r} {cls} {up} {cs} {cl} {qs} {ql} {tb} x =
    by (visit_within D R eqb (below_within paper D R ks) n s st) refl (visit_within_any paper D R eqb n ks s st) x.says
  where
    by : (t : Attempt) → visit_within D R eqb (below_within paper D R ks) n s st ≡ t → Within Any n (visit D R eqb (below paper D R ks) s st) t → Says D g ls t p r cls up cs cl qs ql tb
        → Came D R ks n s st g ls p r cls up cs cl qs ql tb
    by (finished q) e w y = inl (e ∙ ap finished w.0, subst (λ (o : LearningResult). Done D g ls o p r cls up cs cl qs ql tb) w.0 y)
    by (stopped z) e w y = inr (z, e, y)

-- ---- a position below
-- the result of a side at the position that the code made for it
pub side_at_lem : {g : Ledger} {ls : List Node} (D : Prefix) (R : List Clause) (s : Node) (st : Store) {r : Answer} {cls up cs cl qs ql table : List ℕ} {q q' : Position} → q ≡ q'
    → Result D g ls (visit_of D R q s st) q r cls up cs cl qs ql table → Result D g ls (visit_of D R q' s st) q' r cls up cs cl qs ql table
side_at_lem {g} {ls} D R s st {r} {cls} {up} {cs} {cl} {qs} {ql} {table} e w = subst (λ (x : Position). Result D g ls (visit_of D R x s st) x r cls up cs cl qs ql table) e w

-- ---- what is well formed
pub one : 1 ≤ paper.constraints
one = omega arith

pub shaped : (D : Prefix) (R : List Clause) (st : Store) → Formed D R st → ShapedStore paper D st
shaped D R st h = store_shaped paper D st h.store_ok

-- free variables come first: below an exists or forall place there is none
below_at : (K : List Quantifier) (i : ℕ) (κ : Quantifier) (ks : List Quantifier) → FreeFirst K → drop i K ≡ κ ∷ ks → Below κ ks
below_at [] zero κ ks f e = absurd (nil_cons κ ks e)
below_at [] (suc i) κ ks f e = absurd (nil_cons κ ks e)
below_at (x ∷ K) zero κ ks f e = subst BelowHead e f.0
  where
    BelowHead : List Quantifier → Type 0
    BelowHead [] = ⊥
    BelowHead (y ∷ ys) = Below y ys
below_at (x ∷ K) (suc i) κ ks f e = below_at K i κ ks f.1 e

-- the resolvent of two constraints in place order is no longer than there are numbers
resolvent_short : (D : Prefix) (p : ℕ) (v : Bool) (E F : Constraint) → numbers_are_ok highest [] D ≡ true → Rising D 0 E → Rising D 0 F → length (resolvent D p v E F) ≤ highest.numbers
resolvent_short D p v E F ok e f =
    constraint_width highest D (resolvent D p v E F) ok
    (reduce_rising D v 0 (union D (without D p E) (without D p F))
    (union_rising D 0 (without D p E) (without D p F) (λ l m. rising_above D 0 E e l (without_sub D p E l m).0) (without_rising D 0 p F f)))

-- the codes of a prefix have links
code_low : (p : ℕ) (b : Bool) → p ≤ highest.numbers → code_at p b < code_count
code_low p true h = omega (arith, h)
code_low p false h = omega (arith, h)

last_low : (D : Prefix) (d : ℕ) (e : Constraint) → length (quantifiers D) ≤ highest.numbers → d < code_count → last_from d (codes D e) < code_count
last_low D d [] few low = low
last_low D d (l ∷ e) few low = last_low D (code_of D l) e few (code_low (place D l) (positive l) (omega (arith, inside D l, few)))

pub resolvent_fits : (D : Prefix) (p : ℕ) (s t : Node) (a o : Outcome Constraint) → numbers_are_ok highest [] D ≡ true → ShapedOutcome D s a → ShapedOutcome D t o → Fits D (resolvent_of D p a o)
resolvent_fits D p s t (decided b E) (decided c F) ok g h = (resolvent_short D p c E F ok g.formed.rising h.formed.rising, last_low D 0 (resolvent D p c E F) (prefix_width highest D ok) (omega arith))
resolvent_fits D p s t (decided b E) (mixed ds) ok g h = (zero-le, omega arith)
resolvent_fits D p s t (mixed ds) o ok g h = (zero-le, omega arith)

-- what comes up from a side is in place order, and within the side's node
pub ended : (D : Prefix) (s : Node) (b : Bool) (k : ℕ) (o : Outcome Constraint) → length s ≡ k → ShapedOutcome D (s ▹ b) o → Ended D (suc k) o
ended D s b k (decided v e) h g = (→rising D 0 e g.formed.rising, omega (arith, h, length-▹ s b, last_held D v e (s ▹ b) g.held))
ended D s b k (mixed ds) h g = tt

module _ (D : Prefix) (R : List Clause) (κ : Quantifier) (s : Node) (k : ℕ) (long : length s ≡ k) (more : k < length D) (is : quantifier_at D (suc k) ≡ κ) where
  pub rest : Rest D s (κ ∷ drop (k + 1) (quantifiers D))
  rest =
      ap (λ (i : ℕ). drop i (quantifiers D)) long
      ∙ drop_cons (quantifiers D) k (omega (arith, more, length-map D (λ d. d.quantifier)))
      ∙ ap {B = List Quantifier} (λ (q : Quantifier). q ∷ drop (suc k) (quantifiers D)) is
      ∙ ap {B = List Quantifier} (λ (i : ℕ). κ ∷ drop i (quantifiers D)) (sym (add-one k))

  pub rest_side : (b : Bool) → Rest D (s ▹ b) (drop (k + 1) (quantifiers D))
  rest_side b = rest_up D s b κ (drop (k + 1) (quantifiers D)) rest

  abbrev side : Node → Store → LearningResult
  side = visit D R eqb (below paper D R (drop (k + 1) (quantifiers D)))

  -- after the off side the store is well formed too
  pub formed_on : (st : Store) → Formed D R st → Formed D R (side (s ▹ false) st).store
  formed_on st h =
      record {
        prefix_ok = h.prefix_ok;
        free_ok = h.free_ok;
        clauses_ok = h.clauses_ok;
        store_ok = shaped_store paper D (side (s ▹ false) st).store (shaped_visit paper one D R (rising h) eqb (drop (k + 1) (quantifiers D)) (s ▹ false) st (rest_side false) (shaped D R st h)).store_ok;
      }

  pub shaped_side : (b : Bool) (st : Store) → Formed D R st → ShapedOutcome D (s ▹ b) (side (s ▹ b) st).outcome
  shaped_side b st h = (shaped_visit paper one D R (rising h) eqb (drop (k + 1) (quantifiers D)) (s ▹ b) st (rest_side b) (shaped D R st h)).answer_ok

  pub unmixed_side : (b : Bool) (st : Store) → Formed D R st → Unmixed (drop (k + 1) (quantifiers D)) (side (s ▹ b) st).outcome
  unmixed_side b st h = unmixed_visit paper one D R (rising h) eqb (drop (k + 1) (quantifiers D)) (s ▹ b) st (rest_side b) (shaped D R st h)

  pub quantified : (st : Store) → Formed D R st → Below κ (drop (k + 1) (quantifiers D))
  quantified st h = below_at (quantifiers D) (length s) κ (drop (k + 1) (quantifiers D)) (free_before (formula_of D R) (facts h)) rest

  pub unmixed_here : (st : Store) → Formed D R st → Unmixed (κ ∷ drop (k + 1) (quantifiers D)) (branch paper D R κ side s st).outcome
  unmixed_here st h = unmixed_branch paper one D R (rising h) κ (drop (k + 1) (quantifiers D)) s st rest (shaped D R st h)
