-- Why a variable is not declared, test by test.
use Prim.Native.Nat.{ℕ, zero, suc, ◌+◌, ◌≤◌, ◌<◌}
use native.Mathlib.Omega.{arith}
use native.Mathlib.Decide.{dec_lt}
use mathlib.Core.Path.{◌≡◌, refl, sym, ap, ◌∙◌}
use mathlib.Core.Bool.{Bool, true, false, not, ◌&&◌, ◌||◌}
use mathlib.Core.List.{List, [], map}
use mathlib.Core.Option.{some}
use lib.Dec.{eqb, leb, ltb}
use lib.ListN.{length, get_or}
use borrow.Author.Tests.{eq-eqb, ne_eqb, le-ltb, lt-ltb}
use Rattle.qbf.specs.Formula.{Limits, most_free, Quantifier, is_free, Prefix, quantifiers, place_of}
use Rattle.qbf.specs.Truth.{free_variables}
use Rattle.qbf.specs.Calls.{given, ◌or_else◌, numbers_are_ok, free_first}
use Rattle.theory.proofs.Basics.{and_left}
use Rattle.theory.proofs.Prefixes.{number_at, place_of_number}
use Rattle.tables.specs.Views.{Numbers}
use Rattle.state.specs.Reading.{quantifier_of, entry_at, prefix_of, prefix_fits}
use Rattle.state.specs.Derived.{Quantified}
use Rattle.state.specs.Declare.{SoundUnder, declare_fault}
use Rattle.state.proofs.Valid.{prefix_quantified}

-- ---- a number among those of the places
abbrev pub Unseen : List ℕ → ℕ → ℕ → Type 0
Unseen ns n i = (j : ℕ) → j < i → entry_at ns j ≡ n → ⊥

pub unseen_more : (ns : List ℕ) (n : ℕ) {i : ℕ} → Unseen ns n i → (entry_at ns i ≡ n → ⊥) → Unseen ns n (i + 1)
unseen_more ns n {i} h q j less e = by (dec_lt j i)
  where
    by : Dec (j < i) → ⊥
    by (yes l) = h j l e
    by (no l) = q (ap (entry_at ns) (let z : i ≡ j = omega (arith, less, l) in z) ∙ e)

module _ {D : Prefix} {ns : List ℕ} (s : Numbers D ns) {n : ℕ} where
  pub unseen_none : {c i : ℕ} → c ≡ get_or ns 0 0 → c ≤ i → Unseen ns n i → false ≡ not (eqb (place_of D n) 0)
  unseen_none {c} {i} e over h = ap not (sym (ap (λ (p : ℕ). eqb p 0) (by (place_of D n) refl)))
    where
      by : (p : ℕ) → place_of D n ≡ p → p ≡ 0
      by zero q = refl
      by (suc k) q = let w = number_at D n k q in absurd (h k (omega (arith, e, over, s.count, w.0)) (s.at k w.0 ∙ w.1))

  pub seen_here : (L : Limits) → numbers_are_ok L [] D ≡ true → {c i : ℕ} → c ≡ get_or ns 0 0 → i < c → entry_at ns i ≡ n → true ≡ not (eqb (place_of D n) 0)
  seen_here L ok {c} {i} e less q =
      ap not (sym (ne_eqb (place_of D n) 0 (λ z. let p = place_of_number L D ok i inside in omega (arith, z, p, ap (place_of D) here))))
    where
      inside : i < length D
      inside = omega (arith, e, less, s.count)

      here : get_or (map (λ d. d.number) D) i 0 ≡ n
      here = sym (s.at i inside) ∙ q

-- ---- a free variable's code
pub free_code : (kind : ℕ) → kind ≡ 0 → is_free (quantifier_of kind) ≡ true
free_code zero e = refl
free_code (suc k) e = absurd (let z : suc k ≡ 0 = e in omega arith)

-- ---- the tests in their order
module _ (L : Limits) (D : Prefix) (κ : Quantifier) (n : ℕ) where
  abbrev crowd : Bool
  crowd = is_free κ && leb most_free (free_variables D)

  pub fault_low : n < 1 → declare_fault L D κ n ≡ some 3
  fault_low h = ap (λ (x : Bool). (given (x || ltb L.numbers n) 3 or_else given (not (eqb (place_of D n) 0)) 4) or_else given crowd 33) (eq-eqb n 0 (omega (arith, h)))

  pub fault_high : L.numbers < n → declare_fault L D κ n ≡ some 3
  fault_high h =
      ap (λ (x : Bool). (given (x || ltb L.numbers n) 3 or_else given (not (eqb (place_of D n) 0)) 4) or_else given crowd 33) (ne_eqb n 0 (λ e. omega (arith, e, h)))
      ∙ ap (λ (x : Bool). (given x 3 or_else given (not (eqb (place_of D n) 0)) 4) or_else given crowd 33) (lt-ltb L.numbers n h)

  module _ (l : 1 ≤ n) (h : n ≤ L.numbers) where
    in_range : declare_fault L D κ n ≡ (given (not (eqb (place_of D n) 0)) 4 or_else given crowd 33)
    in_range =
        ap (λ (x : Bool). (given (x || ltb L.numbers n) 3 or_else given (not (eqb (place_of D n) 0)) 4) or_else given crowd 33) (ne_eqb n 0 (λ e. omega (arith, e, l)))
        ∙ ap (λ (x : Bool). (given x 3 or_else given (not (eqb (place_of D n) 0)) 4) or_else given crowd 33) (le-ltb L.numbers n h)

    pub fault_twice : not (eqb (place_of D n) 0) ≡ true → declare_fault L D κ n ≡ some 4
    fault_twice z = in_range ∙ ap (λ (x : Bool). given x 4 or_else given crowd 33) z

    pub fault_else : not (eqb (place_of D n) 0) ≡ false → {t : Bool} → crowd ≡ t → declare_fault L D κ n ≡ given t 33
    fault_else z c = in_range ∙ ap (λ (x : Bool). given x 4 or_else given crowd 33) z ∙ ap (λ (x : Bool). given x 33) c

-- ---- tables that show a well-formed prefix
pub quantified_by : (L : Limits) (ns ls ks : List ℕ) → SoundUnder L ns ls ks → Quantified (prefix_of ns ls ks) ls ks
quantified_by L ns ls ks s = prefix_quantified ns ls ks L (and_left (prefix_fits L ns ls ks) (free_first (quantifiers (prefix_of ns ls ks))) s.levels_ok)
