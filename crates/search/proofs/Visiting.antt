-- A visit: it is decided by a leaf, or the node is open and branches on the variable of the next place; and the node below, one value longer.
use Prim.Native.Nat.{ℕ, suc, ◌+◌, ◌-◌, ◌≤◌, ◌<◌}
use native.Mathlib.Omega.{arith}
use mathlib.Core.Path.{◌≡◌, refl, sym, ap, ◌∙◌, subst}
use mathlib.Core.Logic.{◌⊎◌, inl, inr}
use mathlib.Core.Bool.{Bool, true, false, not, true≢false}
use mathlib.Core.List.{List, [], ◌∷◌, append-nil}
use mathlib.Core.Option.{Option, none, some}
use lib.ListN.{length, take, drop, length-map, drop_of_length-le}
use lib.Bits.{bit_or}
use lib.Dec.{eqb}
use Rattle.qbf.specs.Formula.{paper, highest, Quantifier, Prefix, Clause, Node, ◌▹◌, quantifiers, quantifier_at}
use Rattle.qbf.specs.Truth.{Outcome, decided}
use Rattle.qbf.specs.Learning.{Constraint, Store, leaf, first_dead, lowest_dead, reduced_found, conclude_by}
use Rattle.qbf.specs.Ceiling.{Attempt, finished, below_within, settle_within, visit_within}
use Rattle.qbf.specs.Card.{byte_of}
use Rattle.theory.proofs.Basics.{le_or_lt, length-▹}
use Rattle.theory.proofs.WellFormed.{numbers_ok}
use Rattle.theory.proofs.Widths.{prefix_width}
use Rattle.theory.proofs.Lowest.{lowest_none}
use Rattle.theory.proofs.CeilingLaws.{raise_nothing_within}
use Rattle.inner.specs.Formed.{Formed}
use Rattle.tables.specs.Views.{quantifier_code}
use Rattle.shelf.specs.Masks.{bit}
use Rattle.tables.specs.Codes.{code_at, codes, given}
use Rattle.tables.specs.Shelves.{code_count}
use Rattle.tables.specs.Sets.{Descended}
use Rattle.tables.specs.Records.{Ledger}
use Rattle.coding.proofs.Given.{statuses_below}
use Rattle.inner.specs.Inner.{Worded, Concluded, LeafCoded, NodeShown, OpenKnown}
use Rattle.inner.specs.declared.Leaf.{Leaf}
use Rattle.inner.specs.declared.Leaf.TheVariants as found
use Rattle.search_entry.specs.Entry.{table_of, entry_at}
use Rattle.search_entry.specs.declared.bounds.Bounds.{Bounds}
use Rattle.cover.specs.Cover.{Covers}
use Rattle.node.specs.Node.{stored_by, Reads, Shown, NextKind}
use Rattle.node.proofs.NextPlace.{code_known, next_inside, kind_here}
use Rattle.search.specs.Search.{given_at, Task, Opened, Result, Visited, Followed, visit_of, below_of, branch_of, is_open, concluded_of}
use Rattle.node.specs.declared.Verdict.{Verdict}
use Rattle.node.specs.declared.Verdict.TheVariants.{Yes, No}
use Rattle.node.specs.declared.position.Position.{Position}
use Rattle.node.specs.declared.answer.Answer.{Answer}
use Rattle.search.proofs.Counts as counts
use Rattle.search.proofs.Keeping.{entered_below}
use Rattle.search.proofs.Words.{given_result, worded_below, on_is, held_sign, failed_sign}
use Rattle.inner.proofs.Stepping.{facts, rising}
use Rattle.search.proofs.Branching.{shaped, rest, one}

-- at an open node whose next variable has the quantifier of that code
pub record Branched (kind : ℕ) (p : Position) (r : Answer)
    (clauses sets quantifiers statuses cs cl qs ql table sat marks area cs' cl' qs' ql' table' : List ℕ) : Type 0 where
  pub result : (D : Prefix) (s : Node) (ls : List Node) (R : List Clause) (g : Ledger) (st : Store) (κ : Quantifier)
      → Task D s ls R g st clauses sets quantifiers statuses cs cl qs ql table p.at p → Opened D s R p sat marks
      → p.at < length D → quantifier_at D (suc p.at) ≡ κ → quantifier_code κ ≡ kind
      → Result D g ls (branch_of D R κ p s st) p r clauses area cs' cl' qs' ql' table'

-- a prefix has no more variables than there are numbers
prefix_short : (D : Prefix) (R : List Clause) (st : Store) → Formed D R st → length D ≤ highest.numbers
prefix_short D R st h = omega (arith, prefix_width highest D (numbers_ok _ (facts h)), length-map D (λ d. d.quantifier))

-- ---- an open node
none_found : (D : Prefix) (v : Bool) (o : Option Clause) (next : Option (Outcome Constraint)) → conclude_by v (reduced_found D v o) next ≡ none → o ≡ none
none_found D v none next e = refl
none_found D v (some r) next e = absurd (never e)
  where
    never : {x : Outcome Constraint} → some x ≡ none → ⊥
    never {x} q = let z : ◌≡◌ {A = ℕ} 0 1 = cc in omega arith

-- no clause is dead at it
pub open_alive : (D : Prefix) (R : List Clause) (eligible : ℕ → ℕ → Bool) (s : Node) (st : Store) → leaf D R eligible s st ≡ none → first_dead D s R ≡ none
open_alive D R eligible s st e = lowest_none D s R (none_found D false (lowest_dead D s R) _ e)

-- what steps 1 to 4 say, by what the code found
module _ {D : Prefix} {R : List Clause} {s : Node} {st : Store} {r : Leaf} {wc : ℕ} {cls cs qs up sat mk : List ℕ} (w : Concluded D R s st r wc cls cs qs up sat mk) where
  pub said_no : {b : Bounds} → r ≡ found.No b → (e : Constraint) × (leaf D R eqb s st ≡ some (decided false e)) × (entry_at b cls cs up ≡ codes D e)
  said_no e = subst (λ (l : Leaf). LeafCoded D l cls cs qs up (leaf D R eqb s st)) e w.read

  pub said_yes : {b : Bounds} → r ≡ found.Yes b → (e : Constraint) × (leaf D R eqb s st ≡ some (decided true e)) × (entry_at b cls qs up ≡ codes D e)
  said_yes e = subst (λ (l : Leaf). LeafCoded D l cls cs qs up (leaf D R eqb s st)) e w.read

  said_open : r ≡ found.Open → leaf D R eqb s st ≡ none
  said_open e = subst (λ (l : Leaf). LeafCoded D l cls cs qs up (leaf D R eqb s st)) e w.read

  -- then no clause is dead, and the node's row and mark are there
  pub said_opened : (p : Position) → p.words ≡ wc → r ≡ found.Open → Opened D s R p sat mk
  said_opened p words e = record {
    alive = open_alive D R eqb s st (said_open e);
    known =
        subst (λ (n : ℕ). Descended D s R n sat mk (length s)) (sym words)
        (subst (λ (l : Leaf). OpenKnown l D s R wc sat mk (length s)) e w.known);
  }

-- ---- results of a visit
module _ {D : Prefix} {s : Node} {ls : List Node} {R : List Clause} {g : Ledger} {st : Store} {cls sets kd ss cs cl qs ql tb : List ℕ} (p : Position)
    (task : Task D s ls R g st cls sets kd ss cs cl qs ql tb p.at p) where
  -- what steps 1 to 4 ask
  pub node_shown : NodeShown D R s st p.at p.words p.held p.failed cls sets kd ss cs cl qs ql
  node_shown = record {
    quantified = task.shown.quantified;
    statused = task.shown.statused;
    long = task.shown.long;
    matrix = task.matrix;
    stored = task.stored.shown;
    formed = task.formed;
    trues = task.trues;
    falses = task.falses;
  }

  -- the visit is made
  made_visit : 2 ≤ p.budget → p.budget - 1 ≡ suc (p.budget - 2)
  made_visit made = omega (arith, made)

  made_result : 2 ≤ p.budget → {r : Answer} {up cs' cl' qs' ql' tb' : List ℕ}
      → Result D g ls (settle_within (leaf D R eqb s st) (below_within paper D R (drop p.at (quantifiers D))) (p.budget - 2) s st) p r cls up cs' cl' qs' ql' tb'
      → Result D g ls (visit_of D R p s st) p r cls up cs' cl' qs' ql' tb'
  made_result made {r} {up} {cs'} {cl'} {qs'} {ql'} {tb'} h =
      subst (λ (n : ℕ). Result D g ls (visit_within D R eqb (below_within paper D R (drop p.at (quantifiers D))) n s st) p r cls up cs' cl' qs' ql' tb') (sym (made_visit made)) h

  -- they decide
  pub leaf_result : 2 ≤ p.budget → (w : Verdict) (v : Bool) (e : Constraint) (b : Bounds) (up : List ℕ) → leaf D R eqb s st ≡ some (decided v e)
      → Reads D w (entry_at b cls (stored_by w cs qs) up) (decided v e)
      → (r : Answer) → r ≡ counts.answered w b (p.budget - 1) p.lines → Result D g ls (visit_of D R p s st) p r cls up cs cl qs ql tb
  leaf_result made w v e b up is rd r q =
      made_result made
      (subst (λ (x : Answer). Result D g ls (settle_within (leaf D R eqb s st) next (p.budget - 2) s st) p x cls up cs cl qs ql tb) (sym q)
      (subst (λ (x : Option (Outcome Constraint)). Result D g ls (settle_within x next (p.budget - 2) s st) p (counts.answered w b (p.budget - 1) p.lines) cls up cs cl qs ql tb) (sym is)
      (record {
        says = record {
          verdict = rd;
          stored = task.stored;
          visited = omega (arith, made);
          left = omega (arith, made);
          covers = subst (Covers p.free tb) (sym (append-nil ls)) task.covers;
          counted = task.counted ∙ ap length (sym (append-nil ls));
        };
      })))
    where
      next : ℕ → Node → Store → Attempt
      next = below_within paper D R (drop p.at (quantifiers D))

  pub concluded_result : 2 ≤ p.budget → {l : Leaf} {wc : ℕ} {up sat mk : List ℕ} → Concluded D R s st l wc cls cs qs up sat mk → is_open l ≡ false → (r : Answer) → r ≡ concluded_of l p
      → Result D g ls (visit_of D R p s st) p r cls up cs cl qs ql tb
  concluded_result made {l} {up = up} w h r q = by l refl h q
    where
      by : (m : Leaf) → l ≡ m → is_open m ≡ false → r ≡ concluded_of m p → Result D g ls (visit_of D R p s st) p r cls up cs cl qs ql tb
      by (found.No b) e h q = let x = said_no w e in leaf_result made No false x.0 b up x.1 (x.0, refl, x.2) r q
      by (found.Yes b) e h q = let x = said_yes w e in leaf_result made Yes true x.0 b up x.1 (x.0, refl, x.2) r q
      by found.Open e h q = absurd (true≢false h)

  -- the node is open: what follows is asked at the same position
  pub open_result : 2 ≤ p.budget → {r : Leaf} {wc : ℕ} {up up' cs' cl' qs' ql' tb' sat mk : List ℕ} (a : Answer) → Concluded D R s st r wc cls cs qs up sat mk → r ≡ found.Open → p.words ≡ wc
      → Followed p a cls sets kd ss cs cl qs ql tb sat mk up' cs' cl' qs' ql' tb' → Result D g ls (visit_of D R p s st) p a cls up' cs' cl' qs' ql' tb'
  open_result made {up' = up'} {cs'} {cl'} {qs'} {ql'} {tb'} a w e words h =
      made_result made
      (subst (λ (x : Option (Outcome Constraint)). Result D g ls (settle_within x (below_within paper D R (drop p.at (quantifiers D))) (p.budget - 2) s st) p a cls up' cs' cl' qs' ql' tb') (sym (said_open w e))
      (h.result D s ls R g st task (said_opened w p words e)))

  -- it goes on to the branch
  branch_result : (κ : Quantifier) {up cs' cl' qs' ql' tb' : List ℕ} (r : Answer) → p.at < length D → quantifier_at D (suc p.at) ≡ κ
      → Result D g ls (branch_of D R κ p s st) p r cls up cs' cl' qs' ql' tb' → Result D g ls (below_of D R p s st) p r cls up cs' cl' qs' ql' tb'
  branch_result κ {up} {cs'} {cl'} {qs'} {ql'} {tb'} r in_d is h = subst (λ (x : Attempt). Result D g ls x p r cls up cs' cl' qs' ql' tb') (sym whole) h
    where
      here : drop p.at (quantifiers D) ≡ κ ∷ drop (p.at + 1) (quantifiers D)
      here = ap (λ (i : ℕ). drop i (quantifiers D)) (sym task.shown.long) ∙ rest D R κ s p.at task.shown.long in_d is

      whole : below_of D R p s st ≡ branch_of D R κ p s st
      whole =
          ap (λ (x : List Quantifier). below_within paper D R x (p.budget - 2) s st) here
          ∙ raise_nothing_within paper one D R (rising task.formed) κ (drop (p.at + 1) (quantifiers D)) (p.budget - 2) s st (rest D R κ s p.at task.shown.long in_d is) (shaped D R st task.formed)

  module _ (r : Answer) (k : ℕ) (next : NextKind kd p.at k) where
    at_kind : p.at < length D → k ≡ quantifier_code (quantifier_at D (suc p.at))
    at_kind in_d = kind_here D kd task.shown.quantified p.at k next in_d (prefix_short D R st task.formed)

    -- the kind of the next place says which branch is taken
    pub next_result : {sat mk up cs' cl' qs' ql' tb' : List ℕ} → k < 3 → Opened D s R p sat mk
        → Branched k p r cls sets kd ss cs cl qs ql tb sat mk up cs' cl' qs' ql' tb' → Result D g ls (below_of D R p s st) p r cls up cs' cl' qs' ql' tb'
    next_result low opened h =
        let κ : Quantifier = quantifier_at D (suc p.at) in
        let in_d : p.at < length D = next_inside D kd task.shown.quantified p.at k next (omega (arith, task.shown.long, task.shown.within)) low in
        branch_result κ r in_d refl (h.result D s ls R g st κ task opened in_d refl (sym (at_kind in_d)))

    -- no place is left
    pub end_result : 2 ≤ p.budget → (b : Bounds) → b.len ≡ 0 → (up : List ℕ) → (k ≡ 1 → ⊥) → (k ≡ 2 → ⊥) → (k ≡ 0 → ⊥)
        → r ≡ counts.answered No b (p.budget - 1) p.lines → Result D g ls (below_of D R p s st) p r cls up cs cl qs ql tb
    end_result made b empty up x y z q = by (le_or_lt (length D) p.at)
      where
        by : (length D ≤ p.at) ⊎ (p.at < length D) → Result D g ls (below_of D R p s st) p r cls up cs cl qs ql tb
        by (inr in_d) = absurd (code_known (quantifier_at D (suc p.at)) k (at_kind in_d) x y z)
        by (inl le) =
            subst (λ (x : Answer). Result D g ls (below_of D R p s st) p x cls up cs cl qs ql tb) (sym q)
            (subst (λ (x : Attempt). Result D g ls x p (counts.answered No b (p.budget - 1) p.lines) cls up cs cl qs ql tb) (sym whole)
            (record {
              says = record {
                verdict = ([], refl, ap (λ (n : ℕ). take n (drop b.start (table_of b.source cls cs up))) empty);
                stored = task.stored;
                visited = omega (arith, made);
                left = omega (arith, made);
                covers = subst (Covers p.free tb) (sym (append-nil ls)) task.covers;
                counted = task.counted ∙ ap length (sym (append-nil ls));
              };
            }))
          where
            whole : below_of D R p s st ≡ finished (record { outcome = decided false []; store = st; visits = 1 })
            whole = ap (λ (x : List Quantifier). below_within paper D R x (p.budget - 2) s st) (drop_of_length-le (quantifiers D) {i = p.at} (omega (arith, le, length-map D (λ d. d.quantifier))))

-- ---- by the test of what the steps found
pub open_is : (l : Leaf) → is_open l ≡ true → l ≡ found.Open
open_is (found.No b) e = absurd (true≢false (sym e))
open_is (found.Yes b) e = absurd (true≢false (sym e))
open_is found.Open e = refl

-- ---- one value longer
-- a side is the visit of the node one place longer
pub side_result : (D : Prefix) (s : Node) (b : Bool) (ls : List Node) (R : List Clause) (g : Ledger) (st : Store) (k : ℕ) {cls sets kd ss cs cl qs ql tb sat mk : List ℕ} (p : Position)
    → Task D s ls R g st cls sets kd ss cs cl qs ql tb k p → Opened D s R p sat mk → k < length D → suc k ≡ p.at → p.at ≤ highest.numbers → length ss ≡ code_count
    → (value : ℕ) → value ≡ byte_of b → {ss' : List ℕ} → ss' ≡ given p.at value ss → {q : Position} → q ≡ given_at value p → {r : Answer} {up cs' cl' qs' ql' tb' : List ℕ}
    → Visited q r cls sets kd ss' cs cl qs ql tb sat mk up cs' cl' qs' ql' tb' → Result D g ls (visit_of D R p (s ▹ b) st) p r cls up cs' cl' qs' ql' tb'
side_result D s b ls R g st k {cls} {sets} {kd} {ss} {cs} {cl} {qs} {ql} {tb} {sat} {mk} p task opened inside e within full value v {ss'} changed {q} is {r} {up} {cs'} {cl'} {qs'} {ql'} {tb'} vis =
    given_result value p (visit_of D R p (s ▹ b) st)
    ((subst (λ (x : Position). Visited x r cls sets kd ss' cs cl qs ql tb sat mk up cs' cl' qs' ql' tb') is vis).result D (s ▹ b) ls R g st (length s)
    (record {
      shown = subst (λ (x : List ℕ). Shown D (s ▹ b) kd x p.at) (sym changed) shown_below;
      formed = task.formed;
      matrix = task.matrix;
      stored = task.stored;
      ruled = task.ruled;
      frees = task.frees;
      covers = task.covers;
      counted = task.counted;
      trues = subst (λ (c : Bool). Worded (s ▹ b) true (bit_or p.held (bit (code_at p.at c)))) (sym (on_is b value v ∙ held_sign b)) (worded_below s true b p.at task.trues next);
      falses = subst (λ (c : Bool). Worded (s ▹ b) false (bit_or p.failed (bit (code_at p.at c)))) (sym (ap not (on_is b value v) ∙ failed_sign b)) (worded_below s false b p.at task.falses next);
    })
    (entered_below opened (omega (arith, inside, task.shown.long)) b))
  where
    next : suc (length s) ≡ p.at
    next = ap suc task.shown.long ∙ e

    shown_below : Shown D (s ▹ b) kd (given p.at value ss) p.at
    shown_below =
        record {
          quantified = task.shown.quantified;
          statused = statuses_below s b ss p.at value task.shown.statused next (omega (arith, full, within)) v;
          long = length-▹ s b ∙ next;
          within = omega (arith, length-▹ s b, task.shown.long, inside);
        }
