-- What a visitor leaves of the rows, and what they say one place below.
use Prim.Native.Nat.{ℕ, suc, ◌+◌, ◌-◌, ◌*◌, ◌≤◌, ◌<◌}
use native.Mathlib.Nat.{mul-le-mul_right, suc-mul}
use native.Mathlib.Numerals.{add-one}
use native.Mathlib.Omega.{arith}
use mathlib.Core.Path.{◌≡◌, refl, sym, ap, ◌∙◌, subst}
use mathlib.Core.Bool.{Bool, false}
use mathlib.Core.List.{List, [], ◌∷◌}
use mathlib.Core.Option.{none, some}
use lib.ListN.{length, take}
use lib.Seq.{take-append-le, take-length}
use Rattle.qbf.specs.Formula.{Prefix, Clause, Node, ◌▹◌, any, all, dead, satisfied, value_at}
use Rattle.qbf.specs.Learning.{first, first_dead}
use Rattle.qbf.specs.Open.{Reading}
use Rattle.theory.proofs.Basics.{length-▹, value_top, or_false_left, or_false_right}
use Rattle.bitset.specs.Rows.{Unites, outside, some_below, width}
use Rattle.tables.specs.Codes.{code_at}
use Rattle.tables.specs.Sets.{Satisfied, SteppedDown, dying_row, satisfying_row}
use Rattle.clause_sets.proofs.Descending.{rows_below, rows_kept, some_dead}
use Rattle.clause_sets.proofs.Unions.{unites_step}
use Rattle.inner.specs.Inner.{killing}
use Rattle.inner.proofs.Stepping.{rising}
use Rattle.open_search.specs.Searching.{RowsKept, Task, Opened}

-- ---- what is kept
pub rows_same : (k wc : ℕ) (sat : List ℕ) → RowsKept k wc sat sat
rows_same k wc sat = record { rows = λ f i h. refl }

module _ {k wc : ℕ} {sat sat₁ : List ℕ} where
  pub rows_then : {sat₂ : List ℕ} → RowsKept k wc sat sat₁ → RowsKept k wc sat₁ sat₂ → RowsKept k wc sat sat₂
  rows_then a b = record { rows = λ f i h. b.rows f i h ∙ a.rows f i h }

  -- one place less
  pub rows_less : RowsKept (suc k) wc sat sat₁ → RowsKept k wc sat sat₁
  rows_less a = record { rows = λ f i h. a.rows f i (omega (arith, h, mul-le-mul_right width (mul-le-mul_right {m = k} {n = suc k} wc (omega arith)))) }

-- a side's node is one place below
pub rows_side : {at wc : ℕ} {sat sat₁ : List ℕ} → RowsKept (at + 1) wc sat sat₁ → RowsKept (suc at) wc sat sat₁
rows_side {at} {wc} {sat} {sat₁} a = subst (λ (k : ℕ). RowsKept k wc sat sat₁) (add-one at) a

-- the node's own row is written
pub rows_united : {from at wc b₀ n : ℕ} {by sat sat' : List ℕ} {every new : Bool} → Unites from (at * wc) by b₀ n sat sat' every new → RowsKept at wc sat sat'
rows_united u = record { rows = λ f i h. u.kept.below f i h }

-- between the sides
pub opened_kept : {D : Prefix} {s : Node} {R : List Clause} {wc : ℕ} {sat sat₁ : List ℕ} {k : ℕ} → Opened D s R wc sat k → RowsKept (suc k) wc sat sat₁ → Opened D s R wc sat₁ k
opened_kept {wc = wc} {k = k} o a = record {
  long = o.long;
  within = o.within;
  alive = o.alive;
  unsatisfied = o.unsatisfied;
  known = rows_kept o.known (λ j l i m. a.rows (j * wc) i (before j i l m));
}
  where
    -- a row of the first k places ends before the next place's
    before : (j i : ℕ) → j ≤ k → i < wc * width → j * wc * width + i < suc k * wc * width
    before j i h m =
        omega (arith, m, mul-le-mul_right width (mul-le-mul_right {m = suc j} {n = suc k} wc (omega arith)), ap (λ (x : ℕ). x * width) (suc-mul j wc))

-- ---- one value below an open node
first_none : {A : Type 0} (f : A → Bool) (xs : List A) → any f xs ≡ false → first f xs ≡ none
first_none f [] e = refl
first_none f (x ∷ xs) e = rw (or_false_left (f x) (any f xs) e) (first_none f xs (or_false_right (f x) (any f xs) e))

module _ {D : Prefix} {R : List Clause} {os : Reading} {wc : ℕ} {sets kd rec : List ℕ} (task : Task D R os wc sets kd rec) {s : Node} {sat : List ℕ} {k : ℕ}
    (opened : Opened D s R wc sat k) (inside : k < length D) (b : Bool) {at : ℕ} (next : at ≡ k + 1) {code : ℕ} (coded : code ≡ code_at at b) where
  long : length (s ▹ b) ≡ suc k
  long = length-▹ s b ∙ ap suc opened.long

  last : value_at (s ▹ b) (suc k) ≡ some b
  last = ap (λ (n : ℕ). value_at (s ▹ b) (suc n)) (sym opened.long) ∙ value_top s b

  known : Satisfied D (s ▹ b) R wc sat k
  known = rows_below opened.known (omega (arith, opened.long)) b

  above : first_dead D (take k (s ▹ b)) R ≡ none
  above =
      ap (λ (u : Node). first_dead D u R) (ap (λ (n : ℕ). take n (s ▹ b)) (sym opened.long) ∙ take-append-le (length s) s _ (omega arith) ∙ take-length s)
      ∙ first_none (dead D s) R opened.alive

  is : at ≡ suc k
  is = omega (arith, next)

  code_is : code ≡ code_at (suc k) b
  code_is = coded ∙ ap (λ (p : ℕ). code_at p b) is

  above_is : (at - 1) * wc ≡ k * wc
  above_is = let z : at - 1 ≡ k = omega (arith, is) in ap (λ (n : ℕ). n * wc) z

  -- whether a clause is dead at it
  pub below_dead : {r : Bool} → r ≡ some_below (killing sets sat code at wc) (wc * width) → r ≡ any (dead D (s ▹ b)) R
  below_dead e =
      e
      ∙ ap (λ (c : ℕ). some_below (outside sets (dying_row wc c) sat ((at - 1) * wc)) (wc * width)) code_is
      ∙ ap (λ (j : ℕ). some_below (outside sets (dying_row wc (code_at (suc k) b)) sat j) (wc * width)) above_is
      ∙ some_dead D (s ▹ b) k b long last task.by_code inside known (rising task.formed) above

  -- its own row
  module _ {sat' : List ℕ} {every new : Bool} (u : Unites ((at - 1) * wc) (at * wc) sets (satisfying_row wc code) wc sat sat' every new) where
    stepped : SteppedDown D (s ▹ b) R wc sat' k every new
    stepped = unites_step D (s ▹ b) k b long last task.by_code inside known above_is (ap (λ (n : ℕ). n * wc) is) (ap (satisfying_row wc) code_is) u

    pub below_satisfied : every ≡ all (satisfied D (s ▹ b)) R
    below_satisfied = stepped.all_satisfied

    pub below_opened : any (dead D (s ▹ b)) R ≡ false → every ≡ false → Opened D (s ▹ b) R wc sat' at
    below_opened alive e = record {
      long = long ∙ sym is;
      within = omega (arith, long, is, next, inside);
      alive = alive;
      unsatisfied = sym below_satisfied ∙ e;
      known = subst (Satisfied D (s ▹ b) R wc sat') (sym is) stepped.rows;
    }
