-- The records of the learned clauses, written behind their sizes.
use Prim.Native.Nat.{ℕ, suc, ◌+◌, ◌-◌, ◌≤◌, ◌<◌, min}
use native.Mathlib.Omega.{arith}
use mathlib.Core.Path.{◌≡◌, sym, ap, ◌∙◌}
use mathlib.Core.Logic.{◌⊎◌, inl, inr}
use mathlib.Core.Bool.{Bool, cond}
use mathlib.Core.List.{List, ◌++◌}
use borrow.Rule.Slice.PartMut.{mid_of, post_of, put_mid, same_len_mid}
use lib.ListN.{length, get_or, take, drop, replicate, length-replicate}
use lib.Seq.{get_or-drop, length-take-le}
use Rattle.std.proofs.lemmas.List.{get_or-take, get_or-replicate, get_or_append_left, get_or-append_right}
use borrow.Author.Tests.{lt-ltb, le-ltb}
use Rattle.theory.proofs.Basics.{le_or_lt}
use Rattle.lent_rows.proofs.Rows.{part_long}
use Rattle.qbf.specs.Formula.{paper}
use Rattle.unloading.specs.Written.{record_from, RecordsFrom, Recorded}

-- where the record of a row stands
abbrev cell : ℕ → ℕ
cell k = suc paper.constraints + k

-- a row that was loaded has its own record, a younger one the count of clauses
pub record_own : (old : List ℕ) (base before clauses k : ℕ) → base + k < before → get_or old (cell (base + k)) 0 ≡ record_from old base before clauses k
record_own old base before clauses k h = sym (ap (λ (b : Bool). cond b (get_or old (cell (base + k)) 0) clauses) (lt-ltb (base + k) before h))

pub record_new : (old : List ℕ) (base before clauses k : ℕ) → before ≤ base + k → clauses ≡ record_from old base before clauses k
record_new old base before clauses k h = sym (ap (λ (b : Bool). cond b (get_or old (cell (base + k)) 0) clauses) (le-ltb (base + k) before h))

-- The records of the rows that were loaded and still stand are copied to the front, and behind them the count of clauses is filled in.
module _ (old mid ys : List ℕ) (newest before clauses count displaced own : ℕ) (stand : count ≡ newest - (newest - paper.constraints)) (lost : displaced ≡ min (newest - paper.constraints) before)
    (kept : own ≡ min count (before - displaced)) (room : suc paper.constraints + paper.constraints ≤ length old) (few : before ≤ paper.constraints) (long : length mid ≡ length old)
    (moved : (k d : ℕ) → suc paper.constraints ≤ k → k < suc paper.constraints + (suc paper.constraints + displaced + own - (suc paper.constraints + displaced)) → get_or mid k d ≡ get_or old (suc paper.constraints + displaced + (k - suc paper.constraints)) d)
    (filled : ys ≡ replicate (length (mid_of (cell own) (cell count - cell own) mid)) clauses) where
  abbrev new : List ℕ
  new = put_mid (cell own) (cell count - cell own) mid ys

  part : length ys ≡ cell count - cell own
  part = ap length filled ∙ length-replicate (length (mid_of (cell own) (cell count - cell own) mid)) clauses ∙ part_long (cell own) (cell count - cell own) mid (omega arith)

  sized : length new ≡ length old
  sized = same_len_mid (cell own) (cell count - cell own) mid ys (ap length filled ∙ length-replicate (length (mid_of (cell own) (cell count - cell own) mid)) clauses) ∙ long

  front : length (take (cell own) mid) ≡ cell own
  front = length-take-le (cell own) mid (omega arith)

  at_k : (k : ℕ) → k < count → (before ≤ newest - paper.constraints + k) ⊎ (newest - paper.constraints + k < before) → get_or new (cell k) 0 ≡ record_from old (newest - paper.constraints) before clauses k
  at_k k low (inr h) =
      get_or_append_left (take (cell own) mid) (ys ++ post_of (cell own) (cell count - cell own) mid) 0 (cell k) (omega (arith, front))
      ∙ get_or-take (cell own) mid (cell k) 0 (omega arith)
      ∙ moved (cell k) 0 (omega arith) (omega arith)
      ∙ ap (λ (i : ℕ). get_or old i 0) (omega arith)
      ∙ record_own old (newest - paper.constraints) before clauses k h
  at_k k low (inl h) =
      get_or-append_right (take (cell own) mid) (ys ++ post_of (cell own) (cell count - cell own) mid) (cell own) (cell k) 0 front (omega arith)
      ∙ get_or_append_left ys (post_of (cell own) (cell count - cell own) mid) 0 (cell k - cell own) (omega (arith, part))
      ∙ ap (λ (t : List ℕ). get_or t (cell k - cell own) 0) filled
      ∙ get_or-replicate (length (mid_of (cell own) (cell count - cell own) mid)) (cell k - cell own) clauses 0 (omega (arith, part, ap length filled, length-replicate (length (mid_of (cell own) (cell count - cell own) mid)) clauses))
      ∙ record_new old (newest - paper.constraints) before clauses k h

  pub records_written : (length new ≡ length old) × RecordsFrom old newest before clauses new
  records_written = (sized, record { at = λ k h. at_k k (omega (arith, h, stand)) (le_or_lt before (newest - paper.constraints + k)) })

-- the rows are written back, and what stands behind the sizes stays
pub recorded_rows : (old mid new : List ℕ) (newest clauses : ℕ) → get_or new 0 0 ≡ newest - (newest - paper.constraints)
    → drop (suc paper.constraints) new ≡ drop (suc paper.constraints) mid → RecordsFrom old newest (get_or old 0 0) clauses mid → Recorded old newest clauses new
recorded_rows old mid new newest clauses count kept from =
    record {
      count = count;
      records = record {
        at = λ k h.
            sym (get_or-drop (suc paper.constraints) new k 0) ∙ ap (λ (t : List ℕ). get_or t k 0) kept ∙ get_or-drop (suc paper.constraints) mid k 0 ∙ from.at k h;
      };
    }
