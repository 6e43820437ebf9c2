-- A table that counts one row less: the last row is gone.
use Prim.Native.Nat.{ℕ, suc, ◌*◌, ◌-◌}
use native.Mathlib.Omega.{arith}
use mathlib.Core.Path.{◌≡◌, sym, ap, ◌∙◌}
use mathlib.Core.List.{List, [], ◌∷◌}
use lib.IntN.{ℤ}
use lib.ListN.{length, get_or, take, drop, set, length-set}
use lib.Seq.{take_at, get_or-set_same, get_or-set_other}
use Rattle.tables.specs.Views.{Table, row, rows, rows_of}
use Rattle.tables.proofs.Laws.{rows_length, rows_suc}
use Rattle.rule_rows.proofs.Rows.{same_rows}

module _ (w cap : ℕ) (f : List ℤ) (l : List ℕ) (t : Table w cap f l) (n : ℕ) (is : get_or l 0 0 ≡ suc n) where
  abbrev l' : List ℕ
  l' = set l 0 n

  count : get_or l' 0 0 ≡ n
  count = get_or-set_same l 0 n 0 (omega (arith, t.counted))

  size_stays : (k : ℕ) → get_or l' (suc k) 0 ≡ get_or l (suc k) 0
  size_stays k = get_or-set_other l 0 (suc k) n 0 (omega arith)

  pub shorter_table : Table w cap f l'
  shorter_table =
      record {
        room = t.room;
        counted = omega (arith, t.counted, length-set l 0 n);
        few = omega (arith, count, t.few, is);
        short = λ k h. omega (arith, size_stays k, t.short k (omega (arith, h, count, is)));
      }

  -- the last row is gone
  pub shorter_rows : rows_of w f l' ≡ take (length (rows_of w f l) - 1) (rows_of w f l)
  shorter_rows =
      ap (rows w f l') count
      ∙ same_rows w f l f l' n (λ k h. ap (λ (m : ℕ). take m (drop (k * w) f)) (size_stays k))
      ∙ sym (take_at (rows w f l n) (row w f l n ∷ []) n (rows_length w f l n))
      ∙ ap (take n) (sym (rows_suc w f l n))
      ∙ ap (λ (m : ℕ). take n (rows w f l m)) (sym is)
      ∙ ap (λ (m : ℕ). take m (rows_of w f l)) less
    where
      less : n ≡ length (rows_of w f l) - 1
      less = omega (arith, rows_length w f l (get_or l 0 0), is)
