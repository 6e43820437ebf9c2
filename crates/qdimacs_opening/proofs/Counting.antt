-- A quantifier line: its numbers up to the first that is above the header's count are declared, and then that one is refused.
use Prim.Native.Nat.{ℕ, zero, suc, ◌+◌, ◌≤◌, zero-le}
use mathlib.Core.Path.{◌≡◌, refl, sym, ap, ◌∙◌}
use mathlib.Core.Bool.{Bool, true, false, cond, not, ◌&&◌, ◌||◌}
use mathlib.Core.List.{List, [], ◌∷◌, ◌++◌, map}
use mathlib.Core.Option.{Option}
use native.Mathlib.Numerals.{add-one}
use native.Mathlib.Omega.{arith}
use borrow.Author.Tests.{ne_eqb, lt-leb, le-leb, le-ltb, ltb-true, ltb-false}
use lib.IntN.{ℤ}
use lib.ListN.{length, take, length-map, length-take}
use lib.Dec.{eqb, leb, ltb, eqb-suc-suc}
use Rattle.qbf.specs.Formula.{Limits, Quantifier, is_free, Prefix, number_of, place_of}
use Rattle.qbf.specs.Calls.{given, ◌or_else◌}
use Rattle.theory.proofs.Basics.{or_false_right}
use Rattle.layout.specs.Opening.{variable, declare_fault}
use Rattle.qdimacs_form.specs.Opening.{group_fault}
use Rattle.qdimacs_opening.specs.Stands.{above, counted}

-- ---- one number
module _ (most v n : ℕ) where
  pub above_not : n ≤ v → false ≡ above most v n
  above_not h = sym (ap (λ (t : Bool). t && leb n most) (le-ltb v n h))

-- ---- a line's numbers, by the first of them
module _ (most v : ℕ) where
  pub counted_none : counted most v (map number_of []) ≡ 0
  counted_none = refl

  pub counted_above : (l : ℤ) (lits : List ℤ) → above most v (number_of l) ≡ true → counted most v (map number_of (l ∷ lits)) ≡ 0
  counted_above l lits e = ap (λ (t : Bool). cond t 0 (suc (counted most v (map number_of lits)))) e

  pub counted_within : (l : ℤ) (lits : List ℤ) → above most v (number_of l) ≡ false → counted most v (map number_of (l ∷ lits)) ≡ counted most v (map number_of lits) + 1
  counted_within l lits e = ap (λ (t : Bool). cond t 0 (suc (counted most v (map number_of lits)))) e ∙ sym (add-one (counted most v (map number_of lits)))

-- ---- the fault of a line
counted_most : (most v : ℕ) (ns : List ℕ) → counted most v ns ≤ length ns
counted_most most v [] = omega arith
counted_most most v (n ∷ ns) = by (above most v n) (counted_most most v ns)
  where
    by : (t : Bool) → counted most v ns ≤ length ns → cond t 0 (suc (counted most v ns)) ≤ suc (length ns)
    by true h = zero-le
    by false h = omega (arith, h)

-- of a slice so long
pub counted_part : (most v : ℕ) (lits : List ℤ) {n : ℕ} → n ≡ counted most v (map number_of lits) → n ≡ length (take n lits)
counted_part most v lits {n} e = omega (arith, e, counted_most most v (map number_of lits), length-map lits number_of, length-take n lits)

-- a number that is no variable's is not above the count
outside : (most v n : ℕ) → (eqb n 0 || ltb most n) ≡ true → above most v n ≡ false
outside most v zero e = sym (above_not most v 0 zero-le)
outside most v (suc n) e = ap (λ (t : Bool). ltb v (suc n) && t) (lt-leb (suc n) most (ltb-true most (suc n) beyond)) ∙ by (ltb v (suc n))
  where
    beyond : ltb most (suc n) ≡ true
    beyond = ap (λ (t : Bool). t || ltb most (suc n)) (sym (ne_eqb (suc n) 0 (λ z. omega (arith, z)))) ∙ e

    by : (t : Bool) → (t && false) ≡ false
    by true = refl
    by false = refl

inside : (most n : ℕ) → (eqb n 0 || ltb most n) ≡ false → leb n most ≡ true
inside most n e = le-leb n most (ltb-false most n (or_false_right (eqb n 0) (ltb most n) e))

-- The numbers before it are judged as our own: of 3, 5, 4 for each number, 5 is left for the first that is above the count.
pub group_cut : (L : Limits) (v : ℕ) (κ : Quantifier) → is_free κ ≡ false → (D : Prefix) (ns : List ℕ)
    → group_fault L v κ D ns ≡ (declare_fault L κ D (take (counted L.numbers v ns) ns) or_else given (not (eqb (counted L.numbers v ns) (length ns))) 5)
group_cut L v κ bound D [] = refl
group_cut L v κ bound D (n ∷ ns) = by (eqb n 0 || ltb L.numbers n) refl (ltb v n) refl (not (eqb (place_of D n) 0)) refl (group_cut L v κ bound (D ++ (variable κ n ∷ [])) ns)
  where
    k : ℕ
    k = counted L.numbers v ns

    rest : Option ℕ
    rest = group_fault L v κ (D ++ (variable κ n ∷ [])) ns

    -- the fault of the numbers before, and 5 where one is left
    cut : Bool → Option ℕ
    cut t = declare_fault L κ D (take (cond t 0 (suc k)) (n ∷ ns)) or_else given (not (eqb (cond t 0 (suc k)) (suc (length ns)))) 5

    by : (a : Bool) → (eqb n 0 || ltb L.numbers n) ≡ a → (b : Bool) → ltb v n ≡ b → (c : Bool) → not (eqb (place_of D n) 0) ≡ c
        → rest ≡ (declare_fault L κ (D ++ (variable κ n ∷ [])) (take k ns) or_else given (not (eqb k (length ns))) 5)
        → (given a 3 or_else given b 5 or_else given c 4 or_else rest) ≡ cut (above L.numbers v n)
    by true p b q c r ih = sym (ap cut (outside L.numbers v n p) ∙ rw p)
    by false p true q c r ih = sym (ap cut (ap (λ (t : Bool). t && leb n L.numbers) q ∙ inside L.numbers n p) ∙ rw (ne_eqb 0 (suc (length ns)) (λ e. omega (arith, e))))
    by false p false q true r ih = sym (ap cut (ap (λ (t : Bool). t && leb n L.numbers) q) ∙ rw (p, r))
    by false p false q false r ih = ih ∙ sym (ap cut (ap (λ (t : Bool). t && leb n L.numbers) q) ∙ rw (p, r, bound, eqb-suc-suc k (length ns)))
