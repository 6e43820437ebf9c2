-- On any well-formed state, reached or not, a line of a card sets no more than the free variables: the search mixes verdicts at free variables alone.
use Prim.Native.Nat.{ℕ, suc, ◌+◌, ◌*◌, ◌≤◌}
use native.Mathlib.Omega.{arith}
use mathlib.Core.Path.{◌≡◌, refl, sym, ap, subst}
use mathlib.Core.Logic.{◌⊎◌, inl, inr}
use mathlib.Core.Bool.{Bool, true, false, cond, beq}
use mathlib.Core.List.{List, [], ◌∷◌, ◌++◌}
use lib.ListN.{length, length-append}
use lib.Dec.{eqb, leb}
use Rattle.qbf.specs.Formula.{Clause, Formula, Limits, Node, Prefix, Quantifier, ◌▹◌, exists, forall, free, quantifiers}
use Rattle.qbf.specs.Truth.{DecidedNode, Outcome, decided, decided_nodes, free_count, free_variables, mixed, outline, select}
use Rattle.qbf.specs.Learning.{Constraint, Store, below, learning_search}
use Rattle.qbf.specs.Ceiling.{search_within}
use Rattle.qbf.specs.Card.{Mem, table_of, zero_table}
use Rattle.qbf.specs.Calls.{Reply, State, card, card_refused, card_reply_of, done, found, guarded, keep, lines, refused, step, swap, unsettled, well_formed}
use Rattle.theory.proofs.Rest.{Rest}
use Rattle.theory.proofs.Game.{Rising}
use Rattle.theory.proofs.Stores.{ShapedStore, mem_append}
use Rattle.theory.proofs.Induction.{BranchCases, LeafCases, SearchCases, Mixes, visit_by, below_by}
use Rattle.theory.proofs.Leaves.{shaped_leaves}
use Rattle.theory.proofs.Verdict.{decided_outline}
use Rattle.theory.proofs.Search.{FreeFirst}
use Rattle.theory.proofs.ShapedSearch.{ShapedOutcome, shaped_branches, shaped_search}
use Rattle.theory.proofs.Unmixed.{Unmixed, not_mixing}
use Rattle.theory.proofs.Ceiling.{Any, attempt_reply, search_within_any}
use Rattle.theory.proofs.WellFormed.{StateFacts, capacity, clauses_rising, free_before, state_facts}

-- the decided nodes from s on set no more than the free variables among ks
abbrev Short : List Quantifier → Node → Outcome Constraint → Type 0
Short ks s o = (d : DecidedNode) → Mem d (decided_nodes s o) → length d.node ≤ length s + free_count ks

short_decided : (ks : List Quantifier) (s : Node) (v : Bool) (d : DecidedNode) → Mem d (record { node = s; verdict = v } ∷ []) → length d.node ≤ length s + free_count ks
short_decided ks s v d (inl e) = omega (arith, ap (λ (z : DecidedNode). length z.node) e)
short_decided ks s v d (inr m) = absurd m

longer : (s : Node) (b : Bool) → length (s ▹ b) ≡ length s + 1
longer s b = length-append s (b ∷ [])

-- a branch on a free variable has one more
short_mixed : (κ : Quantifier) (ks : List Quantifier) (s : Node) (o q : Outcome Constraint) → FreeFirst (κ ∷ ks) → Mixes κ o q → Unmixed ks o → Unmixed ks q
    → Short ks (s ▹ false) o → Short ks (s ▹ true) q → Short (κ ∷ ks) s (mixed (decided_nodes (s ▹ false) o ++ decided_nodes (s ▹ true) q))
short_mixed free ks s o q f w x y a b d m = by (mem_append (decided_nodes (s ▹ false) o) (decided_nodes (s ▹ true) q) d m)
  where
    by : Mem d (decided_nodes (s ▹ false) o) ⊎ Mem d (decided_nodes (s ▹ true) q) → length d.node ≤ length s + suc (free_count ks)
    by (inl h) = omega (arith, a d h, longer s false)
    by (inr h) = omega (arith, b d h, longer s true)
short_mixed exists ks s o q f w x y a b d m = absurd (not_mixing exists ks o q w x y f.0)
short_mixed forall ks s o q f w x y a b d m = absurd (not_mixing forall ks o q w x y f.0)

module _ (L : Limits) (one : 1 ≤ L.constraints) (D : Prefix) (R : List Clause) (ok : (r : Clause) → Mem r R → Rising D 0 r) where
  abbrev Known : List Quantifier → Node → Type 0
  Known ks s = Rest D s ks × FreeFirst ks

  abbrev Lined : List Quantifier → Node → Outcome Constraint → Type 0
  Lined ks s o = ShapedOutcome D s o × Unmixed ks o × Short ks s o

  leaves : (ks : List Quantifier) (s : Node) (st : Store) (eligible : ℕ → ℕ → Bool) → ShapedStore L D st → LeafCases D R s eligible st (λ v E. Lined ks s (decided v E))
  leaves ks s st eligible h =
      let c = shaped_leaves D R ok L s st h eligible in
      record {
        dead_clause = λ r m e. (c.dead_clause r m e, tt, short_decided ks s false);
        all_satisfied = λ e. (c.all_satisfied e, tt, short_decided ks s true);
        matched = λ v E m e. (c.matched v E m e, tt, short_decided ks s v);
      }

  branches : (κ : Quantifier) (ks : List Quantifier) (s : Node) → Known (κ ∷ ks) s → BranchCases L D R κ s (ShapedStore L D) (λ c o. Lined ks (s ▹ c) o) (Lined (κ ∷ ks) s)
  branches κ ks s n =
      let c = shaped_branches L one D R ok κ ks s n.0 in
      record {
        up = λ d b E o g. (c.up d b E o g.0, tt, short_decided (κ ∷ ks) s b);
        joined = λ b E F d m k a g. (c.joined b E F d m k a.0 g.0, tt, short_decided (κ ∷ ks) s b);
        learned = λ b E st g h. c.learned b E st g.0 h;
        mixing = λ o q w a g. (c.mixing o q w a.0 g.0, not_mixing κ ks o q w a.1 g.1, short_mixed κ ks s o q n.1 w a.1 g.1 a.2 g.2);
      }

  cases : SearchCases L D R Known (ShapedStore L D) Lined
  cases =
      let c = shaped_search L one D R ok in
      record {
        side = λ κ ks s b n. (c.side κ ks s b n.0, n.1.1);
        leaves = λ ks s st n h. leaves ks s st eqb h;
        branches = branches;
        ends = λ s n nd ns. (c.ends s n.0 nd ns, tt, short_decided [] s false);
        raised = λ ks s o h. c.raised ks s o h.0;
      }

  short_search : (ks : List Quantifier) (s : Node) (st : Store) → Known ks s → ShapedStore L D st → Short ks s (learning_search L D R ks s st).outcome
  short_search ks s st n h =
      (visit_by D R s (ShapedStore L D) (Lined ks s) leb (below L D R ks) st (leaves ks s st leb h) h
      (λ nd ns. below_by L D R Known (ShapedStore L D) Lined cases ks s st n h nd ns)).answer_ok.2

-- ---- the lines of a card
selected : (p : Bool) (ds : List DecidedNode) (s : Node) → Mem s (select p ds) → (d : DecidedNode) × Mem d ds × (d.node ≡ s)
selected p [] s m = absurd m
selected p (d ∷ ds) s m = by (beq p d.verdict) m (selected p ds s)
  where
    by : (b : Bool) → Mem s (cond b (d.node ∷ select p ds) (select p ds)) → (Mem s (select p ds) → (e : DecidedNode) × Mem e ds × (e.node ≡ s)) → (e : DecidedNode) × Mem e (d ∷ ds) × (e.node ≡ s)
    by true (inl e) ih = (d, inl refl, sym e)
    by true (inr k) ih = let w = ih k in (w.0, inr w.1, w.2)
    by false k ih = let w = ih k in (w.0, inr w.1, w.2)

-- what a reply says of its lines, if it has some: they are short, they fit the table, and the table holds them
abbrev pub LinesHeld : ℕ → ℕ → Reply → Type 0
LinesHeld f size (lines ls tb) = ((s : Node) → Mem s ls → length s ≤ f) × (leb (length ls * f) size ≡ true) × (tb ≡ table_of f size ls)
LinesHeld f size done = Unit {0}
LinesHeld f size (refused n) = Unit {0}
LinesHeld f size swap = Unit {0}
LinesHeld f size keep = Unit {0}
LinesHeld f size unsettled = Unit {0}
LinesHeld f size (card_refused n tb) = Unit {0}
LinesHeld f size (found ls tb r) = Unit {0}

module _ (x : State) (e : well_formed x ≡ true) (n size : ℕ) where
  abbrev b : Formula
  b = x.formula

  abbrev f : ℕ
  f = free_variables b.prefix

  facts : StateFacts x
  facts = state_facts x e

  abbrev whole : Outcome Constraint
  whole = (learning_search b.limits b.prefix b.clauses (quantifiers b.prefix) [] x.store).outcome

  short_line : (p : Bool) (s : Node) → Mem s (select p (decided_nodes [] (outline whole))) → length s ≤ f
  short_line p s m =
      let w = selected p (decided_nodes [] (outline whole)) s m in
      let k = short_search b.limits (capacity b facts.formula_ok) b.prefix b.clauses (clauses_rising b facts.formula_ok) (quantifiers b.prefix) [] x.store
      (refl, free_before b facts.formula_ok) facts.store_ok w.0 (subst (Mem w.0) (decided_outline [] whole) w.1) in
      omega (arith, k, ap length w.2)

  held_by : (p t : Bool) → leb (length (select p (decided_nodes [] (outline whole))) * f) size ≡ t
      → LinesHeld f size (cond t (lines (select p (decided_nodes [] (outline whole))) (table_of f size (select p (decided_nodes [] (outline whole))))) (card_refused 21 (zero_table size)))
  held_by p true q = (short_line p, q, refl)
  held_by p false q = tt

  called : (p : Bool) (r : Reply) → (r ≡ card_reply_of p b.prefix size (outline whole)) ⊎ (r ≡ card_refused 34 (zero_table size)) → LinesHeld f size r
  called p r (inl q) = subst (LinesHeld f size) (sym q) (held_by p (leb (length (select p (decided_nodes [] (outline whole))) * f) size) refl)
  called p r (inr q) = subst (LinesHeld f size) (sym q) tt

  pub card_held : LinesHeld f size (step x (card n size)).out.reply
  card_held =
      subst (λ (g : Bool). LinesHeld f size (guarded g x (card n size)).out.reply) (sym e)
      (called true _
      (attempt_reply Any n (learning_search b.limits b.prefix b.clauses (quantifiers b.prefix) [] x.store) (card_refused 34 (zero_table size)) (card_reply_of true b.prefix size)
      (search_within b.limits b.prefix b.clauses n (quantifiers b.prefix) [] x.store) (search_within_any b.limits b.prefix b.clauses n (quantifiers b.prefix) [] x.store)))
