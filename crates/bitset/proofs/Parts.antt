-- A row alone and the same row within its table.
use mathlib.Core.Path.{◌≡◌, sym, ap, ap₂, ◌∙◌, subst}
use mathlib.Core.Bool.{Bool, not, ◌&&◌, ◌||◌}
use mathlib.Core.List.{List, ◌++◌}
use Prim.Native.Nat.{ℕ, ◌+◌, ◌-◌, ◌*◌, ◌/◌, ◌%◌, ◌≤◌, ◌<◌}
use native.Mathlib.Nat.{zero-add}
use native.Mathlib.Omega.{arith}
use lib.ListN.{length, get_or, take, drop}
use Rattle.std.proofs.lemmas.List.{get_or-take, get_or-drop, get_or_append_left, get_or-append_right, length-append, length-drop, length-take-le}
use Rattle.bitset.specs.Rows.{width, member, row, outside, some_below, least_below, Cleared, Unites}
use Rattle.bitset.proofs.Digits.{has}
use Rattle.bitset.proofs.Below.{some_same, least_same}
use Rattle.bitset.proofs.Members.{member_has, kept_of}

pub member_part : (t : List ℕ) (from n i : ℕ) → i < n * width → member (row t from n) 0 i ≡ member t from i
member_part t from n i h =
    member_has (row t from n) 0 i
    ∙ ap (has (i % width)) (
    ap (λ (k : ℕ). get_or (row t from n) k 0) (zero-add (i / width))
    ∙ get_or-take n (drop from t) (i / width) 0 (omega arith)
    ∙ get_or-drop from t (i / width) 0)
    ∙ sym (member_has t from i)

module _ (a : List ℕ) (a₀ : ℕ) (b : List ℕ) (b₀ n : ℕ) {xs ys : List ℕ} (ea : xs ≡ row a a₀ n) (eb : ys ≡ row b b₀ n) (long : length xs ≡ n) where
  outside_part : (i : ℕ) → i < n * width → outside xs 0 ys 0 i ≡ outside a a₀ b b₀ i
  outside_part i h =
      ap₂ (λ (u v : List ℕ). outside u 0 v 0 i) ea eb
      ∙ ap₂ (λ (x y : Bool). x && not y) (member_part a a₀ n i h) (member_part b b₀ n i h)

  pub some_outside : some_below (outside xs 0 ys 0) (length xs * width) ≡ some_below (outside a a₀ b b₀) (n * width)
  some_outside = ap (λ (m : ℕ). some_below (outside xs 0 ys 0) (m * width)) long ∙ some_same (n * width) outside_part

  pub least_outside : least_below (outside xs 0 ys 0) (length xs * width) ≡ least_below (outside a a₀ b b₀) (n * width)
  least_outside = ap (λ (m : ℕ). least_below (outside xs 0 ys 0) (m * width)) long ∙ least_same (n * width) outside_part

-- a table's row united with another's
pub united_part : (from to b₀ n : ℕ) (by t t' : List ℕ) (every new : Bool) {bs : List ℕ} → bs ≡ row by b₀ n → length bs ≡ n
    → Unites from to bs 0 (length bs) t t' every new → Unites from to by b₀ n t t' every new
united_part from to b₀ n by t t' every new {bs} eb long u = record {
  row = λ i h. v.row i h ∙ ap (λ (x : Bool). member t from i || x) (ap (λ (xs : List ℕ). member xs 0 i) eb ∙ member_part by b₀ n i h);
  kept = v.kept;
  all = v.all;
  fresh = v.fresh;
}
  where
    v : Unites from to bs 0 n t t' every new
    v = subst (λ (m : ℕ). Unites from to bs 0 m t t' every new) long u

-- the first words of a table as an empty row
pub cleared_first : (n : ℕ) (t first : List ℕ) → n ≤ length t → Cleared 0 (length (take n t)) (take n t) first → Cleared 0 n t (first ++ drop n t)
cleared_first n t first room e =
    let cut : length (take n t) ≡ n = length-take-le n t room in
    let long : length first ≡ n = e.kept.long ∙ cut in
    record {
      empty = λ i h.
          member_has (first ++ drop n t) 0 i
          ∙ ap (has (i % width)) (get_or_append_left first (drop n t) 0 (0 + i / width) (omega (arith, long)))
          ∙ sym (member_has first 0 i)
          ∙ e.empty i (omega (arith, cut));
      kept = kept_of 0 n t (first ++ drop n t)
          (length-append first (drop n t) ∙ omega (arith, length-drop n t, long, room))
          (λ x h. absurd (omega arith))
          (λ x h. get_or-append_right first (drop n t) n x 0 long (omega arith) ∙ get_or-drop n t (x - n) 0 ∙ ap (λ (k : ℕ). get_or t k 0) (omega arith));
    }
