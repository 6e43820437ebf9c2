-- A line of a card, and its lines: one item after the other, one row after the other.
use Prim.Native.Nat.{ℕ, suc, ◌+◌, ◌<◌, ◌≤◌}
use mathlib.Core.Path.{◌≡◌, refl, sym, ap, ◌∙◌}
use mathlib.Core.List.{[], ◌∷◌, ◌++◌}
use mathlib.Core.Logic.{◌⊎◌, inl, inr}
use native.Mathlib.Omega.{arith}
use borrow.Author.Tests.{eq-eqb, ne_eqb}
use lib.ListN.{length, get_or, drop, length-append}
use Rattle.layout.specs.Words.{Bytes, ascii}
use Rattle.layout.specs.Output.{decimal}
use Rattle.writer.specs.Rows.{item_text, items_from, row_text}

-- ---- items
module _ (n v : ℕ) where
  pub item_on : v ≡ 2 → item_text n v ≡ ascii " " ++ decimal n
  unfolding item_text
  item_on h = rw (eq-eqb v 2 h)

  pub item_off : (v ≡ 2 → ⊥) → v ≡ 1 → item_text n v ≡ ascii " (no " ++ decimal n ++ ascii ")"
  unfolding item_text
  item_off g h = rw (ne_eqb v 2 g, eq-eqb v 1 h)

  pub item_open : (v ≡ 2 → ⊥) → (v ≡ 1 → ⊥) → item_text n v ≡ []
  unfolding item_text
  item_open g h = rw (ne_eqb v 2 g, ne_eqb v 1 h)

-- ---- a row
abbrev all_items : Bytes → Bytes → Bytes
all_items numbers row = items_from numbers 1 row

pub row_length : (numbers row : Bytes) → length (row_text numbers row) ≡ length (all_items numbers row) + 7
unfolding row_text
row_length numbers row = simp length-append (omega arith)

-- the items behind the first number
pub items_behind : (n : ℕ) (numbers row : Bytes) (i : ℕ) → items_from (n ∷ numbers) (suc i) row ≡ items_from numbers i row
unfolding items_from
items_behind n numbers [] i = refl
items_behind n numbers (v ∷ vs) i = ap (λ (t : Bytes). item_text (get_or numbers i 0) v ++ t) (items_behind n numbers vs (suc i))

-- .. of a row that has fewer places than there are numbers
pub items_start : (numbers row ns vs : Bytes) → ns ≡ drop 1 numbers → vs ≡ row → length row < length numbers → items_from numbers 1 row ≡ items_from ns 0 vs
items_start [] row ns vs p q h = absurd (omega (arith, h))
items_start (n ∷ numbers) row ns vs p q h = items_behind n numbers row 0 ∙ sym (ap (λ (l : Bytes). items_from l 0 vs) p ∙ ap (items_from numbers 0) q)

-- an item, and the items behind it
pub items_step : (numbers row ns vs : Bytes) (n v : ℕ) → numbers ≡ n ∷ ns → row ≡ v ∷ vs
    → items_from numbers 0 row ≡ item_text n v ++ items_from ns 0 vs
unfolding items_from
items_step numbers row ns vs n v p q = ap (λ (l : Bytes). items_from l 0 row) p ∙ ap (items_from (n ∷ ns) 0) q
    ∙ ap (λ (t : Bytes). item_text n v ++ t) (items_behind n ns vs 0)

-- no item is left where the numbers or the values are at their end
pub items_end : (numbers row : Bytes) → length row ≤ length numbers → (numbers ≡ []) ⊎ (row ≡ []) → items_from numbers 0 row ≡ []
unfolding items_from
items_end numbers [] h e = refl
items_end numbers (v ∷ vs) h (inl e) = absurd (omega (arith, h, ap length e))
items_end numbers (v ∷ vs) h (inr e) = absurd (omega (arith, ap length e))
