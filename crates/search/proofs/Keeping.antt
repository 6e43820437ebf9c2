-- What a visitor leaves of the lent tables: the statuses are restored, and the rows and marks of the places above are kept, with what they say.
use Prim.Native.Nat.{ℕ, suc, ◌+◌, ◌*◌, ◌≤◌, ◌<◌}
use native.Mathlib.Nat.{mul-le-mul_right, suc-mul}
use native.Mathlib.Numerals.{add-one}
use native.Mathlib.Omega.{arith}
use mathlib.Core.Path.{◌≡◌, refl, sym, ap, ◌∙◌, subst}
use mathlib.Core.Bool.{Bool, true, false}
use mathlib.Core.List.{List}
use lib.ListN.{length, get_or, set}
use lib.Seq.{take-append-le, take-length}
use Rattle.qbf.specs.Formula.{Prefix, Clause, Node, ◌▹◌}
use Rattle.qbf.specs.Learning.{first_dead}
use Rattle.theory.proofs.Basics.{length-▹}
use Rattle.bitset.specs.Rows.{width}
use Rattle.tables.specs.Codes.{code_at, given}
use Rattle.tables.specs.Sets.{Descended, RowsKept}
use Rattle.clause_sets.proofs.Descending.{rows_below, rows_kept}
use Rattle.clause_sets.proofs.StepMarks.{marks_below, marks_kept}
use Rattle.coding.proofs.Given.{given_back}
use Rattle.inner.specs.Inner.{Entered}
use Rattle.node.specs.declared.position.Position.{Position}
use Rattle.search.specs.Search.{Kept, Opened}
use Rattle.search.proofs.Counts.{below}

-- giving a place a value and taking it back
pub statuses_back : (p v n m : ℕ) (t u : List ℕ) → code_at p true < length t → u ≡ given p v t → n ≡ get_or t (code_at p false) 0 → m ≡ get_or t (code_at p true) 0
    → set (set u (code_at p false) n) (code_at p true) m ≡ t
statuses_back p v n m t u h e hn hm = (λ i. set (set (e i) (code_at p false) (hn i)) (code_at p true) (hm i)) ∙ given_back p v t h

-- ---- rows and marks
pub rows_same : (k wc : ℕ) (sat marks : List ℕ) → RowsKept k wc sat sat marks marks
rows_same k wc sat marks = record { rows = λ f i h. refl; marked = λ i h. refl }

module _ {k wc : ℕ} {sat sat₁ mk mk₁ : List ℕ} where
  rows_then : {sat₂ mk₂ : List ℕ} → RowsKept k wc sat sat₁ mk mk₁ → RowsKept k wc sat₁ sat₂ mk₁ mk₂ → RowsKept k wc sat sat₂ mk mk₂
  rows_then a b = record { rows = λ f i h. b.rows f i h ∙ a.rows f i h; marked = λ i h. b.marked i h ∙ a.marked i h }

  -- one place less
  rows_less : RowsKept (suc k) wc sat sat₁ mk mk₁ → RowsKept k wc sat sat₁ mk mk₁
  rows_less a = record {
    rows = λ f i h. a.rows f i (omega (arith, h, mul-le-mul_right width (mul-le-mul_right {m = k} {n = suc k} wc (omega arith))));
    marked = λ i h. a.marked i (omega arith);
  }

module _ {D : Prefix} {s : Node} {R : List Clause} {wc : ℕ} {sat mk : List ℕ} {k : ℕ} (d : Descended D s R wc sat mk k) where
  -- a row of the first k places ends before the next place's
  before : (j i : ℕ) → j ≤ k → i < wc * width → j * wc * width + i < suc k * wc * width
  before j i h m =
      omega (arith, m, mul-le-mul_right width (mul-le-mul_right {m = suc j} {n = suc k} wc (omega arith)), ap (λ (x : ℕ). x * width) (suc-mul j wc))

  pub known_kept : {sat₁ mk₁ : List ℕ} → RowsKept (suc k) wc sat sat₁ mk mk₁ → Descended D s R wc sat₁ mk₁ k
  known_kept a = record {
    rows = rows_kept d.rows (λ j l i m. a.rows (j * wc) i (before j i l m));
    marked = marks_kept d.marked (λ i h. a.marked (suc i) (omega arith));
  }

  pub known_below : k ≤ length s → (b : Bool) → Descended D (s ▹ b) R wc sat mk k
  known_below h b = record { rows = rows_below d.rows h b; marked = marks_below d.marked h b }

-- ---- what is kept
module _ {ss ss₁ tb tb₁ sat sat₁ mk mk₁ : List ℕ} (p q : Position) where
  -- what a side keeps, its node keeps with its own row
  pub kept_up : (v l : ℕ) → q ≡ below p v l → Kept q.at q.words ss ss₁ tb tb₁ sat sat₁ mk mk₁ → Kept (suc p.at) p.words ss ss₁ tb tb₁ sat sat₁ mk mk₁
  kept_up v l e h =
      subst (λ (k : ℕ). Kept k p.words ss ss₁ tb tb₁ sat sat₁ mk mk₁) (add-one p.at)
      (subst (λ (x : Position). Kept x.at x.words ss ss₁ tb tb₁ sat sat₁ mk mk₁) e h)

-- what both sides keep, where lines are written between them and after them
pub kept_both : {ss ss₁ ss₂ tb tb₁ tbₐ tb₂ tb₃ sat sat₁ sat₂ mk mk₁ mk₂ : List ℕ} (p q q' : Position) (v w l m : ℕ) → q ≡ below p v l → q' ≡ below p w m
    → Kept q.at q.words ss ss₁ tb tb₁ sat sat₁ mk mk₁ → length tbₐ ≡ length tb₁
    → Kept q'.at q'.words ss₁ ss₂ tbₐ tb₂ sat₁ sat₂ mk₁ mk₂ → length tb₃ ≡ length tb₂ → Kept (suc p.at) p.words ss ss₂ tb tb₃ sat sat₂ mk mk₂
kept_both p q q' v w l m e e' off between on after =
    record {
      statuses_restored = on.statuses_restored ∙ off.statuses_restored;
      size = after ∙ on.size ∙ between ∙ off.size;
      rows = rows_then (kept_up p q v l e off).rows (kept_up p q' w m e' on).rows;
    }

-- steps 1 to 4 write the node's own row, and what is below it comes after
pub kept_open : {k wc : ℕ} {ss ss₁ tb tb₁ sat sat₁ sat₂ mk mk₁ mk₂ : List ℕ} → RowsKept k wc sat sat₁ mk mk₁ → Kept (suc k) wc ss ss₁ tb tb₁ sat₁ sat₂ mk₁ mk₂
    → Kept k wc ss ss₁ tb tb₁ sat sat₂ mk mk₂
kept_open a h = record { statuses_restored = h.statuses_restored; size = h.size; rows = rows_then a (rows_less h.rows) }

-- ---- open nodes
-- between the sides
pub opened_on : {D : Prefix} {s : Node} {R : List Clause} {p : Position} {ss ss₁ tb tb₁ sat sat₁ mk mk₁ : List ℕ} → Opened D s R p sat mk → length s ≡ p.at
    → Kept (suc p.at) p.words ss ss₁ tb tb₁ sat sat₁ mk mk₁ → Opened D s R p sat₁ mk₁
opened_on {D} {s} {R} {p} {sat = sat} {sat₁} {mk} {mk₁} o long h = record {
  alive = o.alive;
  known = known_kept o.known (subst (λ (k : ℕ). RowsKept (suc k) p.words sat sat₁ mk mk₁) (sym long) h.rows);
}

-- at another position with the same words
pub opened_at : {D : Prefix} {s : Node} {R : List Clause} {sat mk : List ℕ} (p q : Position) (v l : ℕ) → q ≡ below p v l → Opened D s R p sat mk → Opened D s R q sat mk
opened_at {D} {s} {R} {sat} {mk} p q v l e o = subst (λ (x : Position). Opened D s R x sat mk) (sym e) (record { alive = o.alive; known = o.known })

-- one value below
pub entered_below : {D : Prefix} {s : Node} {R : List Clause} {p : Position} {sat mk : List ℕ} → Opened D s R p sat mk → length s < length D → (b : Bool)
    → Entered D (s ▹ b) R p.words sat mk (length s)
entered_below {D} {s} {R} o h b = record {
  long = length-▹ s b;
  inside = h;
  alive = ap (λ (u : Node). first_dead D u R) (take-append-le (length s) s _ (omega arith) ∙ take-length s) ∙ o.alive;
  known = known_below o.known (omega arith) b;
}
