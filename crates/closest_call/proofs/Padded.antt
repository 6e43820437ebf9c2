-- The lent reading: its bytes, and zeros behind them.
use Prim.Native.Nat.{ℕ, ◌-◌, ◌+◌, ◌≤◌}
use native.Mathlib.Omega.{arith}
use mathlib.Core.Path.{◌≡◌, sym, ap, ◌∙◌}
use mathlib.Core.List.{List, ◌++◌, map}
use mathlib.Core.Option.{Option, none, some}
use lib.ListN.{length, take, drop, take-append-drop, replicate-append-replicate}
use lib.Seq.{drop_at}
use Rattle.qbf.specs.Formula.{most_free}
use Rattle.qbf.specs.Card.{byte_of, zero_table}
use Rattle.qbf.specs.Closest.{Found}
use Rattle.cover.proofs.Bytes.{zeros_length}
use Rattle.closest.specs.Table.{reading_after}
use Rattle.closest_call.specs.Nearest.{found_said, padded}

-- the reading's bytes are written over the first of the zeros
pub reading_padded : (free : ℕ) (o : Option Found) (n k : ℕ) (tb part whole : List ℕ) → free ≤ most_free → length part ≡ free → part ≡ reading_after o (take free (zero_table most_free)) → whole ≡ part ++ drop free (zero_table most_free)
    → whole ≡ padded (found_said o n k tb).reading
reading_padded free none n k tb part whole small long is w = w ∙ ap (λ (l : List ℕ). l ++ drop free (zero_table most_free)) is ∙ take-append-drop free (zero_table most_free)
reading_padded free (some r) n k tb part whole small long is w = w ∙ (λ i. is i ++ rest i)
  where
    rest : drop free (zero_table most_free) ≡ zero_table (most_free - length (map byte_of r.reading))
    rest =
        ap (drop free) (sym (ap zero_table split) ∙ sym (replicate-append-replicate {A = ℕ} free (most_free - free) 0))
        ∙ drop_at (zero_table free) (zero_table (most_free - free)) free (zeros_length free)
        ∙ ap (λ (j : ℕ). zero_table (most_free - j)) (sym long ∙ ap length is)
      where
        split : free + (most_free - free) ≡ most_free
        split = omega (arith, small)
