-- The union of two rows as one place more: what `Unites` says of a table of rows.
use Prim.Native.Nat.{ℕ, suc, ◌+◌, ◌*◌, ◌≤◌, ◌<◌}
use native.Mathlib.Nat.{mul-le-mul_right, suc-mul}
use native.Mathlib.Omega.{arith}
use mathlib.Core.Path.{◌≡◌, sym, ap, ◌∙◌}
use mathlib.Core.Bool.{Bool, ◌||◌}
use mathlib.Core.List.{List}
use mathlib.Core.Option.{some}
use lib.ListN.{length}
use lib.Seq.{take_all}
use Rattle.qbf.specs.Formula.{Clause, Node, Prefix, all, satisfied, value_at}
use Rattle.tables.specs.Codes.{code_at}
use Rattle.tables.specs.Sets.{ClauseSets, Satisfied, SteppedDown, satisfying_row}
use Rattle.bitset.specs.Rows.{Kept, Unites, all_below, member, outside, some_below, width}
use Rattle.clause_sets.proofs.Descending.{row_full, rows_kept, rows_more, step_new}

-- the rows of the first k places lie before that of the next
before : (wc j k i : ℕ) → j ≤ k → i < wc * width → j * wc * width + i < suc k * wc * width
before wc j k i h m =
    omega (arith, m, mul-le-mul_right width (mul-le-mul_right {m = suc j} {n = suc k} wc (omega arith)), ap (λ (x : ℕ). x * width) (suc-mul j wc))

-- a table in which one of the next rows changed
pub rows_kept_below : {D : Prefix} {R : List Clause} {wc : ℕ} {s : Node} {sat after : List ℕ} {k from n : ℕ} → Satisfied D s R wc sat k
    → suc k * wc ≤ from → Kept from n sat after → Satisfied D s R wc after k
rows_kept_below {wc = wc} {k = k} {from} g h kept =
    rows_kept g (λ j l i m. kept.below (j * wc) i (omega (arith, before wc j k i l m, mul-le-mul_right width h)))

-- the union of the row above with the clauses that the value satisfies
pub unites_step : (D : Prefix) (t : Node) (k : ℕ) (b : Bool) → length t ≡ suc k → value_at t (suc k) ≡ some b
    → {R : List Clause} {wc : ℕ} {sets : List ℕ} → ClauseSets D R wc sets → suc k ≤ length D
    → {sat after : List ℕ} → Satisfied D t R wc sat k
    → {from to b₀ : ℕ} {every new : Bool} → from ≡ k * wc → to ≡ suc k * wc → b₀ ≡ satisfying_row wc (code_at (suc k) b)
    → Unites from to sets b₀ wc sat after every new → SteppedDown D t R wc after k every new
unites_step D t k b long last {R} {wc} {sets} shown inside {sat} {after} g {from} {to} {b₀} {every} {new} at next by u = record {
  rows = rows;
  all_satisfied =
      u.all
      ∙ ap (λ (x : ℕ). all_below (member after x) (wc * width)) next
      ∙ row_full rows shown.room (suc k) (omega arith)
      ∙ ap (λ (v : Node). all (satisfied D v) R) (take_all (suc k) t (omega arith));
  mark =
      u.fresh
      ∙ ap (λ (x : ℕ). some_below (outside after x sat from) (wc * width)) next
      ∙ ap (λ (x : ℕ). some_below (outside after (suc k * wc) sat x) (wc * width)) at
      ∙ step_new D t k b long last shown inside g rows;
}
  where
    rows : Satisfied D t R wc after (suc k)
    rows =
        rows_more D t k b long last shown inside g
        (λ j l i m. u.kept.below (j * wc) i (omega (arith, before wc j k i l m, ap (λ (x : ℕ). x * width) next)))
        (λ i m.
        ap (λ (x : ℕ). member after x i) (sym next)
        ∙ u.row i m
        ∙ ap (λ (x : ℕ). member sat x i || member sets b₀ i) at
        ∙ ap (λ (x : ℕ). member sat (k * wc) i || member sets x i) by)
