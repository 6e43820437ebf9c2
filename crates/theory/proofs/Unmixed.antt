-- Below the free variables no outcome is Mixed, on any shaped store: at an exists or forall node the side that does not decide alone
-- has the same verdict as the other.
use Prim.Native.Nat.{ℕ, ◌≤◌}
use mathlib.Core.Path.{◌≡◌, subst}
use mathlib.Core.Bool.{Bool, true, false, beq, true≢false}
use mathlib.Core.List.{List, ◌∷◌}
use lib.Dec.{eqb}
use Rattle.qbf.specs.Formula.{Clause, Limits, Node, Prefix, Quantifier, ◌▹◌, exists, forall, free}
use Rattle.qbf.specs.Truth.{Outcome, decided, mixed}
use Rattle.qbf.specs.Learning.{Constraint, LearningResult, Store, below, branch, dropped, visit}
use Rattle.qbf.specs.Card.{Mem}
use Rattle.theory.proofs.Rest.{Rest}
use Rattle.theory.proofs.Game.{Rising}
use Rattle.theory.proofs.Stores.{ShapedStore}
use Rattle.theory.proofs.Induction.{BranchCases, LeafCases, SearchCases, Mixes, visit_by, below_by, branching_by}
use Rattle.theory.proofs.Leaves.{shaped_leaves}
use Rattle.theory.proofs.Verdict.{NoFree}
use Rattle.theory.proofs.ShapedSearch.{ShapedOutcome, shaped_branches, shaped_search, raise_nothing}

abbrev pub Unmixed : List Quantifier → Outcome Constraint → Type 0
Unmixed ks (decided v E) = Unit {0}
Unmixed ks (mixed ls) = NoFree ks → ⊥

-- two sides that do not decide alone have one verdict
one_verdict : (κ : Quantifier) (ks : List Quantifier) (b c : Bool) → dropped b κ ≡ false → dropped c κ ≡ false → beq b c ≡ false → NoFree (κ ∷ ks) → ⊥
one_verdict free ks b c d e f n = n
one_verdict exists ks true c d e f n = true≢false d
one_verdict exists ks false true d e f n = true≢false e
one_verdict exists ks false false d e f n = true≢false f
one_verdict forall ks true true d e f n = true≢false f
one_verdict forall ks true false d e f n = true≢false e
one_verdict forall ks false c d e f n = true≢false d

below_free : (κ : Quantifier) (ks : List Quantifier) → NoFree (κ ∷ ks) → NoFree ks
below_free free ks n = absurd n
below_free exists ks n = n
below_free forall ks n = n

pub not_mixing : (κ : Quantifier) (ks : List Quantifier) (o q : Outcome Constraint) → Mixes κ o q → Unmixed ks o → Unmixed ks q → NoFree (κ ∷ ks) → ⊥
not_mixing κ ks (decided b E) (decided c F) w p r n = one_verdict κ ks b c w.0 w.1 w.2 n
not_mixing κ ks (decided b E) (mixed ls) w p r n = r (below_free κ ks n)
not_mixing κ ks (mixed ls) q w p r n = p (below_free κ ks n)

module _ (L : Limits) (one : 1 ≤ L.constraints) (D : Prefix) (R : List Clause) (ok : (r : Clause) → Mem r R → Rising D 0 r) where
  -- shaped, and not mixed below the free variables
  abbrev Plain : List Quantifier → Node → Outcome Constraint → Type 0
  Plain ks s o = ShapedOutcome D s o × Unmixed ks o

  leaves : (ks : List Quantifier) (s : Node) (st : Store) (eligible : ℕ → ℕ → Bool) → ShapedStore L D st → LeafCases D R s eligible st (λ v E. Plain ks s (decided v E))
  leaves ks s st eligible h =
      let c = shaped_leaves D R ok L s st h eligible in
      record { dead_clause = λ r m e. (c.dead_clause r m e, tt); all_satisfied = λ e. (c.all_satisfied e, tt); matched = λ v E m e. (c.matched v E m e, tt) }

  branches : (κ : Quantifier) (ks : List Quantifier) (s : Node) → Rest D s (κ ∷ ks) → BranchCases L D R κ s (ShapedStore L D) (λ c o. Plain ks (s ▹ c) o) (Plain (κ ∷ ks) s)
  branches κ ks s rest =
      let c = shaped_branches L one D R ok κ ks s rest in
      record {
        up = λ d b E o g. (c.up d b E o g.0, tt);
        joined = λ b E F d m n a g. (c.joined b E F d m n a.0 g.0, tt);
        learned = λ b E st g h. c.learned b E st g.0 h;
        mixing = λ o q w a g. (c.mixing o q w a.0 g.0, not_mixing κ ks o q w a.1 g.1);
      }

  cases : SearchCases L D R (λ ks s. Rest D s ks) (ShapedStore L D) Plain
  cases =
      let c = shaped_search L one D R ok in
      record {
        side = c.side;
        leaves = λ ks s st rest h. leaves ks s st eqb h;
        branches = branches;
        ends = λ s rest nd ns. (c.ends s rest nd ns, tt);
        raised = λ ks s o h. c.raised ks s o h.0;
      }

  pub unmixed_visit : (eligible : ℕ → ℕ → Bool) (ks : List Quantifier) (s : Node) (st : Store) → Rest D s ks → ShapedStore L D st → Unmixed ks (visit D R eligible (below L D R ks) s st).outcome
  unmixed_visit eligible ks s st rest h =
      (visit_by D R s (ShapedStore L D) (Plain ks s) eligible (below L D R ks) st (leaves ks s st eligible h) h
      (λ nd ns. below_by L D R (λ qs t. Rest D t qs) (ShapedStore L D) Plain cases ks s st rest h nd ns)).answer_ok.1

  pub unmixed_branch : (κ : Quantifier) (ks : List Quantifier) (s : Node) (st : Store) → Rest D s (κ ∷ ks) → ShapedStore L D st → Unmixed (κ ∷ ks) (branch L D R κ (visit D R eqb (below L D R ks)) s st).outcome
  unmixed_branch κ ks s st rest h =
      subst (λ (r : LearningResult). Unmixed (κ ∷ ks) r.outcome) (raise_nothing L one D R ok κ ks s st rest h)
      (branching_by L D R (λ qs t. Rest D t qs) (ShapedStore L D) Plain cases κ ks s st rest h).answer_ok.1
