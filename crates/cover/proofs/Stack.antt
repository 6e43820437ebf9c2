-- What `push_line` and `pop_line` leave, in the terms of the code: the row of the line with `lines` lines before it.
use Prim.Native.Nat.{ℕ, suc, ◌+◌, ◌*◌, ◌-◌, ◌/◌, ◌≤◌, ◌<◌}
use native.Mathlib.Omega.{arith}
use mathlib.Core.Path.{◌≡◌, refl, sym, ap, ◌∙◌, subst}
use mathlib.Core.Bool.{Bool, false}
use mathlib.Core.List.{List, [], ◌∷◌, ◌++◌}
use lib.ListN.{length, take, drop, length-drop}
use lib.Dec.{leb}
use lib.Seq.{length-take-le}
use Rattle.qbf.specs.Formula.{Node, ◌▹◌}
use Rattle.qbf.specs.Card.{byte_of, zero_table}
use Rattle.theory.proofs.Basics.{length-▹}
use Rattle.tables.specs.Codes.{Statuses}
use Rattle.cover.specs.Cover.{Covers, first_bytes}
use Rattle.cover.proofs.Lines.{line_written}
use Rattle.cover.proofs.Count.{row_fits, no_row, last_none}
use Rattle.cover.proofs.Laws.{full_more, full_less, free_part, row_pushed, row_popped}

-- ---- the row at a, f bytes
module _ (f a k : ℕ) (table : List ℕ) (wide : k ≡ a + f - a) (room : a + f ≤ length table) where
  pub part_length : length (take k (drop a table)) ≡ f
  part_length = let w : k ≡ f = omega arith in length-take-le k (drop a table) (omega (arith, length-drop a table)) ∙ w

before : (lines : ℕ) (ls : List Node) → length ls + 1 ≡ lines → lines - 1 ≡ length ls
before lines ls e = omega arith

module _ (lines f : ℕ) (table row : List ℕ) where
  abbrev at : ℕ
  at = (lines - 1) * f

  pub popped : at + f ≤ length table → row ≡ zero_table (length (take (at + f - at) (drop at table)))
      → (ls : List Node) (s : Node) → length ls + 1 ≡ lines → Covers f table (ls ++ (s ∷ []))
      → Covers f (take at table ++ (row ++ drop (at + f - at) (drop at table))) ls
  popped room r ls s e cov =
      row_popped f table ls at (at + f - at) start (omega arith) (subst (λ (n : ℕ). n + f ≤ length table) start room) s
      (take at table ++ (row ++ drop (at + f - at) (drop at table))) row cov
      (r ∙ ap zero_table (part_length f at (at + f - at) table refl room)) refl
    where
      start : at ≡ length ls * f
      start = ap (λ (n : ℕ). n * f) (before lines ls e)

pub pop_full : (lines f : ℕ) (table : List ℕ) (r : Bool) → r ≡ false → r ≡ leb (lines * f) (length table)
    → (ls : List Node) (s : Node) → length ls + 1 ≡ lines → Covers f table (ls ++ (s ∷ [])) → Covers f table ls
pop_full lines f table r n q ls s e cov =
    full_less f table ls s (no_row f (length table) (length ls) (omega (arith, last_none r f (length table) lines n q (omega arith), ap (λ (m : ℕ). m * f) (before lines ls e)))) cov

-- ---- a push
pub push_room : (lines f k : ℕ) (table : List ℕ) → k < f → lines < length table / f → lines * f + f ≤ length table
push_room lines f k table low h = row_fits f (length table) lines (omega arith) h

module _ (lines f : ℕ) (table t : List ℕ) (k v : ℕ) (low : k < f) where
  pub push_full : length table / f ≤ lines → (s : Node) (b : Bool) (ls : List Node)
      → Statuses s t → length s ≡ k → v ≡ byte_of b → length ls ≡ lines
      → Covers f table ls → Covers f table (ls ++ ((s ▹ b) ∷ []))
  push_full n s b ls shown z q e cov = full_more f table ls (s ▹ b) (omega arith) (omega (arith, length-▹ s b)) cov

  abbrev start : ℕ
  start = lines * f

  pub pushed : (row : List ℕ) → lines < length table / f → row ≡ first_bytes t k ++ (v ∷ drop (suc k) (take (start + f - start) (drop start table)))
      → (s : Node) (b : Bool) (ls : List Node)
      → Statuses s t → length s ≡ k → v ≡ byte_of b → length ls ≡ lines
      → Covers f table ls → Covers f (take start table ++ (row ++ drop (start + f - start) (drop start table))) (ls ++ ((s ▹ b) ∷ []))
  pushed row h r s b ls shown z q e cov =
      row_pushed f table ls start (start + f - start) here (omega arith) room (s ▹ b)
      (take start table ++ (row ++ drop (start + f - start) (drop start table))) row cov (omega (arith, length-▹ s b))
      (line_written s b t shown f k v (take (start + f - start) (drop start table)) row z low q
      (free_part f table ls start (start + f - start) here (omega arith) room cov) r)
      refl
    where
      here : start ≡ length ls * f
      here = ap (λ (n : ℕ). n * f) (sym e)

      room : length ls * f + f ≤ length table
      room = subst (λ (n : ℕ). n + f ≤ length table) here (push_room lines f k table low h)
