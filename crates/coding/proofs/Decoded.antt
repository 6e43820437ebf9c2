-- A literal's code from its place and its bits, the codes of a list one by one, and the literal of a code from the number of its place.
use Prim.Native.Nat.{ℕ, zero, suc, ◌+◌, ◌*◌, ◌/◌, ◌%◌, ◌≤◌, ◌<◌}
use native.Mathlib.Omega.{arith}
use native.Mathlib.Nat.{not-suc-le-zero}
use native.Mathlib.Numerals.{add-one}
use mathlib.Core.Path.{◌≡◌, refl, sym, ap, subst, ◌∙◌}
use mathlib.Core.Bool.{true, false}
use mathlib.Core.List.{List, [], ◌∷◌, ◌++◌, map}
use lib.ListN.{length, get_or, take, set, length-map}
use lib.Seq.{take-suc, take-suc-set, take-length}
use lib.IntN.{ℤ, pos, negsuc, neg_ℤ, ◌-ℤ◌, +ℤ_idl}
use lib.Signed.{lt_z}
use lib.Dec.{T}
use borrow.Author.Tests.{ltb-true}
use mir.Syntax.{w16}
use mir.Val.{SFits, to_z, of_z}
use mir.Facts.{to_z-of_z}
use Rattle.qbf.specs.Formula.{highest, Prefix, Literal, number_of, place, positive}
use Rattle.qbf.specs.Calls.{numbers_are_ok}
use Rattle.theory.proofs.WellFormed.{inside}
use Rattle.theory.proofs.Prefixes.{number_at, number_range}
use Rattle.literal.proofs.Signed.{back, tested}
use Rattle.tables.specs.Views.{Numbers}
use Rattle.tables.specs.Codes.{sign, code_at, code_of, codes}
use Rattle.coding.proofs.Half.{half_code, odd_code}

-- ---- the code of a literal
-- a place is at most the count of the variables
pub place_within : (D : Prefix) (l : Literal) → place D l ≤ length D
place_within D l = omega (arith, inside D l, length-map D (λ d. d.quantifier))

-- by the sign of the literal
negative_sign : (l : Literal) (p : ℕ) → lt_z l (pos 0) ≡ true → p * 2 ≡ code_at p (positive l)
negative_sign (pos n) p e = absurd (not-suc-le-zero (ltb-true n 0 e))
negative_sign (negsuc n) p e = omega arith

positive_sign : (l : Literal) (p : ℕ) → lt_z l (pos 0) ≡ false → p * 2 + 1 ≡ code_at p (positive l)
positive_sign (pos n) p e = refl
positive_sign (negsuc n) p e = absurd (subst T e tt)

-- by the test of the literal's bits; p is its place
module _ (D : Prefix) {l : Literal} {p : ℕ} (f : SFits w16 l) (is : p ≡ place D (to_z w16 (of_z w16 l))) where
  here : p ≡ place D l
  here = is ∙ ap (place D) (back f)

  -- a place past the numbers is none
  pub code_none : highest.numbers < p → length D ≤ highest.numbers → 0 ≡ code_of D l
  code_none h k = absurd (omega (arith, h, k, here, place_within D l))

  -- a negative literal
  pub code_negative : lt_z (to_z w16 (of_z w16 l)) (to_z w16 0) ≡ true → p * 2 ≡ code_of D l
  code_negative e = negative_sign l p (tested f e) ∙ ap (λ (q : ℕ). code_at q (positive l)) here

  -- a positive one
  pub code_positive : lt_z (to_z w16 (of_z w16 l)) (to_z w16 0) ≡ false → p * 2 + 1 ≡ code_of D l
  code_positive e = positive_sign l p (tested f e) ∙ ap (λ (q : ℕ). code_at q (positive l)) here

-- ---- the codes of a list
-- the image of a list with one more at its end
image_last : {A B : Type 0} (f : A → B) (l : List A) (x : A) → map f (l ++ (x ∷ [])) ≡ map f l ++ (f x ∷ [])
image_last f [] x = refl
image_last f (y ∷ l) x = ap (λ m. f y ∷ m) (image_last f l x)

-- one code more: that of the literal at i
pub codes_more : (D : Prefix) (cells : List ℕ) (lits : List Literal) (i c : ℕ) (d : Literal) → i < length lits → i < length cells
    → take i cells ≡ codes D (take i lits) → {x : Literal} → x ≡ get_or lits i d → c ≡ code_of D x → take (i + 1) (set cells i c) ≡ codes D (take (i + 1) lits)
codes_more D cells lits i c d h k coded {x} read is =
    ap (λ (m : ℕ). take m (set cells i c)) (add-one i)
    ∙ take-suc-set cells i c k
    ∙ ap (λ (u : List ℕ). u ++ (c ∷ [])) coded
    ∙ ap (λ (y : ℕ). codes D (take i lits) ++ (y ∷ [])) (is ∙ ap (code_of D) read)
    ∙ sym (image_last (code_of D) (take i lits) (get_or lits i d))
    ∙ ap (codes D) (sym (take-suc lits i d h) ∙ ap (λ (m : ℕ). take m lits) (sym (add-one i)))

-- all codes
pub codes_all : (D : Prefix) (cells : List ℕ) (lits : List Literal) (i : ℕ) → take i cells ≡ codes D (take i lits) → length lits ≡ i → take (length lits) cells ≡ codes D lits
codes_all D cells lits i coded e = ap (λ (m : ℕ). take m cells) e ∙ coded ∙ ap (codes D) (ap (λ (m : ℕ). take m lits) (sym e) ∙ take-length lits)

-- ---- the literal of a code
-- small numbers and their negations by their bits
module _ (n : ℕ) (small : n ≤ highest.numbers) where
  -- a small number is read back
  pub on_back : to_z w16 n ≡ pos n
  on_back = to_z-of_z {w = w16} {z = pos n} (record { sfits = omega arith })

  off_fits : (k : ℕ) → k ≤ highest.numbers → SFits w16 (neg_ℤ (pos k))
  off_fits zero h = record { sfits = omega arith }
  off_fits (suc k) h = record { sfits = omega arith }

  off_is : pos 0 -ℤ to_z w16 n ≡ neg_ℤ (pos n)
  off_is = ap (λ (z : ℤ). pos 0 -ℤ z) on_back ∙ +ℤ_idl (neg_ℤ (pos n))

  -- its negation fits
  pub off_sfits : SFits w16 (pos 0 -ℤ to_z w16 n)
  off_sfits = subst (SFits w16) (sym off_is) (off_fits n small)

  -- and is read back
  pub off_back : to_z w16 (of_z w16 (pos 0 -ℤ to_z w16 n)) ≡ neg_ℤ (pos n)
  off_back = to_z-of_z {w = w16} off_sfits ∙ off_is

-- a literal from its number and its sign
signed_on : (l : Literal) → (sign (positive l) ≡ 0 → ⊥) → pos (number_of l) ≡ l
signed_on (pos n) h = refl
signed_on (negsuc n) h = absurd (h refl)

signed_off : (l : Literal) → sign (positive l) ≡ 0 → neg_ℤ (pos (number_of l)) ≡ l
signed_off (pos n) h = absurd (omega (arith, h))
signed_off (negsuc n) h = refl

-- n is what the table by place has for the place p of the code
module _ (D : Prefix) (l : Literal) (ns : List ℕ) (shown : Numbers D ns) (ok : numbers_are_ok highest [] D ≡ true) {code : ℕ} (coded : code_of D l ≡ code) (some : 1 ≤ place D l)
    {p n : ℕ} (half : p ≡ code / 2) (read : n ≡ get_or ns p 0) where
  -- the place is the literal's
  is_place : p ≡ place D l
  is_place = half ∙ ap (λ (c : ℕ). c / 2) (sym coded) ∙ half_code (place D l) (positive l)

  -- the table has the literal's number there
  by_place : (q : ℕ) → place D l ≡ q → 1 ≤ q → (get_or ns q 0 ≡ number_of l) × (number_of l ≤ highest.numbers)
  by_place zero e h = absurd (omega (arith, h))
  by_place (suc i) e h =
      let at = number_at D (number_of l) i e in
      (shown.at i at.0 ∙ at.1, subst (λ (m : ℕ). m ≤ highest.numbers) at.1 (number_range highest D ok i at.0).1)

  -- so n is the literal's number
  is_number : n ≡ number_of l
  is_number = read ∙ ap (λ (q : ℕ). get_or ns q 0) is_place ∙ (by_place (place D l) refl some).0

  -- the code has the literal's sign
  is_sign : code % 2 ≡ sign (positive l)
  is_sign = ap (λ (c : ℕ). c % 2) (sym coded) ∙ odd_code (place D l) (positive l)

  -- no variable has a number past the limit
  pub literal_none : highest.numbers < n → {r : Literal} → r ≡ l
  literal_none h = absurd (omega (arith, h, is_number, (by_place (place D l) refl some).1))

  -- an even code is of a negative literal
  pub literal_off : n ≤ highest.numbers → code % 2 ≡ 0 → to_z w16 (of_z w16 (pos 0 -ℤ to_z w16 n)) ≡ l
  literal_off h e = off_back n h ∙ ap (λ (m : ℕ). neg_ℤ (pos m)) is_number ∙ signed_off l (sym is_sign ∙ e)

  -- an odd one of a positive literal
  pub literal_on : n ≤ highest.numbers → (code % 2 ≡ 0 → ⊥) → to_z w16 n ≡ l
  literal_on h e = on_back n h ∙ ap pos is_number ∙ signed_on l (λ z. e (is_sign ∙ z))
