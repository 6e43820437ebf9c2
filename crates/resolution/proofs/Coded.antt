-- Constraints as codes: the last place by the last code, and what is left without the last place.
use Prim.Native.Nat.{ℕ, zero, suc, ◌+◌, ◌-◌, ◌/◌, ◌≤◌, ◌<◌, min}
use native.Mathlib.Omega.{arith}
use native.Mathlib.Numerals.{add-one}
use mathlib.Core.Path.{◌≡◌, refl, sym, ap, ◌∙◌}
use mathlib.Core.Bool.{true, false}
use mathlib.Core.List.{List, [], ◌∷◌, map}
use lib.ListN.{length, take, length-map}
use lib.Seq.{length-take-le, take-take}
use lib.Dec.{eqb}
use borrow.Author.Tests.{eqb-true, eq-eqb}
use Rattle.std.specs.Cmp.{both_ways}
use Rattle.qbf.specs.Formula.{Prefix, place, positive}
use Rattle.qbf.specs.Learning.{Constraint, without, last_place, last_place_from}
use Rattle.qbf.specs.Calls.{in_order}
use Rattle.tables.specs.Codes.{code_of, codes, last_from, last_code}
use Rattle.coding.proofs.Half.{half_code}
use Rattle.theory.proofs.Sets.{without_rising}
use Rattle.theory.proofs.Uniting.{without_last_lem, without_none}
use Rattle.theory.proofs.WellFormed.{rising→, →rising}

-- ---- the place of a code
-- .. after a code c of the place d
last_from_code : (D : Prefix) (e : Constraint) (c d : ℕ) → c / 2 ≡ d → last_from c (codes D e) / 2 ≡ last_place_from D d e
last_from_code D [] c d h = h
last_from_code D (l ∷ e) c d h = last_from_code D e (code_of D l) (place D l) (half_code (place D l) (positive l))

-- the last place of a constraint is that of its last code
pub last_place_code : (D : Prefix) (e : Constraint) → last_place D e ≡ last_code (codes D e) / 2
last_place_code D e = sym (last_from_code D e 0 0 refl)

-- no place is that of the largest number
pub next_test : (p at r : ℕ) → p < 65536 → r ≡ min (at + 1) 18446744073709551615 → eqb p r ≡ eqb p (at + 1)
next_test p at r low e =
    both_ways (eqb p r) (eqb p (at + 1)) (λ h. eq-eqb p (at + 1) (omega (arith, eqb-true p r h, e, low))) (λ h. eq-eqb p r (omega (arith, eqb-true p (at + 1) h, e, low)))

-- ---- whether the cells end in a code of the place after `at`
module _ (cells : List ℕ) (at : ℕ) {c p : ℕ} (last : c ≡ last_code cells) (of : p ≡ c / 2) where
  -- then there is one
  pub ends_some : eqb p (at + 1) ≡ true → 1 ≤ length cells
  ends_some h = by cells last
    where
      by : (cs : List ℕ) → c ≡ last_code cs → 1 ≤ length cs
      by [] e = absurd (omega (arith, e, of, eqb-true p (at + 1) h))
      by (k ∷ cs) e = omega arith

  -- that is whether the constraint ends at that place
  pub ends_place : (D : Prefix) (e : Constraint) → cells ≡ codes D e → eqb p (at + 1) ≡ eqb (last_place D e) (suc at)
  ends_place D e h =
      let q : p ≡ last_place D e = of ∙ ap (λ (x : ℕ). x / 2) (last ∙ ap last_code h) ∙ sym (last_place_code D e) in
      rw (q, add-one)

-- ---- a function on a part of a list
map_take : {A B : Type 0} (f : A → B) (n : ℕ) (l : List A) → map f (take n l) ≡ take n (map f l)
map_take f zero l = refl
map_take f (suc n) [] = refl
map_take f (suc n) (x ∷ l) = ap {B = List _} (λ t. f x ∷ t) (map_take f n l)

-- ---- the codes that are left without the place after `at`, which can only be the last
module _ (D : Prefix) (e : Constraint) (cells : List ℕ) (n at : ℕ) (short : n ≤ length cells) (is : take n cells ≡ codes D e) (ordered : in_order D 0 e ≡ true) (ends : last_place D e ≤ suc at) where
  -- there are as many literals as codes
  count : length e ≡ n
  count = sym (length-map e (code_of D)) ∙ sym (ap length is) ∙ length-take-le n cells short

  -- the last code is of that place
  pub trimmed_last : eqb (last_place D e) (suc at) ≡ true → take (n - 1) cells ≡ codes D (without D (suc at) e)
  trimmed_last h =
      sym (take-take (n - 1) n cells (omega arith))
      ∙ ap (take (n - 1)) is
      ∙ sym (map_take (code_of D) (n - 1) e)
      ∙ ap (λ (k : ℕ). codes D (take (k - 1) e)) (sym count)
      ∙ ap (codes D) (sym (without_last_lem D (suc at) e (rising→ D 0 e ordered) (omega arith) ends h))

  -- it is not
  pub trimmed_none : eqb (last_place D e) (suc at) ≡ false → take n cells ≡ codes D (without D (suc at) e)
  trimmed_none h = is ∙ ap (codes D) (sym (without_none D (suc at) e (rising→ D 0 e ordered) (omega arith) ends h))

-- without a place a constraint stays in place order
pub without_ordered : (D : Prefix) (p : ℕ) (e : Constraint) → in_order D 0 e ≡ true → in_order D 0 (without D p e) ≡ true
without_ordered D p e h = →rising D 0 (without D p e) (without_rising D 0 p e (rising→ D 0 e h))
