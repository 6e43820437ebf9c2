-- The variables by their tables, one place after the other.
use Prim.Native.Nat.{ℕ, zero, suc, ◌+◌, ◌-◌, ◌<◌, ◌≤◌, min}
use mathlib.Core.Path.{◌≡◌, refl, ap, ap₂}
use mathlib.Core.Bool.{Bool, true, false, cond}
use mathlib.Core.List.{List, [], ◌++◌}
use native.Mathlib.Omega.{arith}
use native.Mathlib.Numerals.{add-one}
use lib.ListN.{length, get_or, length-append}
use lib.Dec.{eqb}
use Rattle.qbf.specs.Formula.{Quantifier, same_quantifier, Prefix}
use Rattle.state.specs.Reading.{listing, quantifier_of, variable_at, prefix_of}
use Rattle.state.specs.Derived.{code_for}
use Rattle.state.proofs.Listing.{listing_next, listing_end}
use Rattle.layout.specs.Words.{ascii}
use Rattle.layout.specs.Opening.{variable}
use Rattle.layout.specs.Output.{decimal}
use Rattle.booktext.specs.Books.{heading_text, variable_text, rest_text}
use Rattle.book_writer.specs.Tables.{most_heading, head_text}

-- ---- codes of one quantifier: each above that of exists is one of forall
low : (n : ℕ) → min (suc (suc n)) 2 ≡ 2
low n = omega arith

pub same_codes : (a b : ℕ) → eqb (min a 2) (min b 2) ≡ same_quantifier (quantifier_of a) (quantifier_of b)
same_codes zero zero = refl
same_codes zero (suc zero) = refl
same_codes zero (suc (suc b)) = ap (eqb 0) (low b)
same_codes (suc zero) zero = refl
same_codes (suc zero) (suc zero) = refl
same_codes (suc zero) (suc (suc b)) = ap (eqb 1) (low b)
same_codes (suc (suc a)) zero = ap (λ (n : ℕ). eqb n 0) (low a)
same_codes (suc (suc a)) (suc zero) = ap (λ (n : ℕ). eqb n 1) (low a)
same_codes (suc (suc a)) (suc (suc b)) = ap₂ eqb (low a) (low b)

-- ---- a heading
module _ (k : ℕ) where
  pub heading_flags : k ≡ 0 → heading_text (quantifier_of k) ≡ ascii ")\n(flags"
  unfolding heading_text
  heading_flags e = rw e

  pub heading_exists : k ≡ 1 → heading_text (quantifier_of k) ≡ ascii ")\n(exists"
  unfolding heading_text
  heading_exists e = rw e

  pub heading_forall : (k ≡ 0 → ⊥) → (k ≡ 1 → ⊥) → heading_text (quantifier_of k) ≡ ascii ")\n(forall"
  unfolding heading_text
  heading_forall f g = by k f g
    where
      by : (k : ℕ) → (k ≡ 0 → ⊥) → (k ≡ 1 → ⊥) → heading_text (quantifier_of k) ≡ ascii ")\n(forall"
      by zero f g = absurd (f refl)
      by (suc zero) f g = absurd (g refl)
      by (suc (suc k)) f g = refl

  -- the two quantifiers' words have the same length
  pub heading_group : (k ≡ 0 → ⊥) → length (heading_text (quantifier_of k)) ≡ most_heading
  unfolding heading_text
  heading_group f = by k f
    where
      by : (k : ℕ) → (k ≡ 0 → ⊥) → length (heading_text (quantifier_of k)) ≡ most_heading
      by zero f = absurd (f refl)
      by (suc zero) f = refl
      by (suc (suc k)) f = refl

-- ---- a variable: the heading where its kind is another, a space, and its number
module _ (κ μ : Quantifier) where
  pub head_none : same_quantifier κ μ ≡ true → head_text κ μ ≡ []
  head_none e = rw e

  pub head_new : same_quantifier κ μ ≡ false → head_text κ μ ≡ heading_text μ
  head_new e = rw e

  pub variable_parts : (n : ℕ) → variable_text κ (variable μ n) ≡ head_text κ μ ++ (ascii " " ++ decimal n)
  unfolding variable_text
  variable_parts n = by (same_quantifier κ μ)
    where
      by : (b : Bool) → cond b (ascii " " ++ decimal n) (heading_text μ ++ (ascii " " ++ decimal n)) ≡ cond b [] (heading_text μ) ++ (ascii " " ++ decimal n)
      by true = refl
      by false = refl

  pub variable_length : (n : ℕ) → length (variable_text κ (variable μ n)) ≡ length (head_text κ μ) + 1 + length (decimal n)
  variable_length n = rw (variable_parts n) (simp length-append (omega arith))

-- ---- the variables from a place on
module _ (ns ls ks : List ℕ) where
  abbrev pub places_from : ℕ → Prefix
  places_from i = listing (variable_at ns ls ks) i (get_or ns 0 0 - i)

  pub places_all : (κ : Quantifier) → rest_text κ (prefix_of ns ls ks) ≡ rest_text κ (places_from 0)
  places_all κ = ap (λ (n : ℕ). rest_text κ (listing (variable_at ns ls ks) 0 n)) e
    where
      e : get_or ns 0 0 ≡ get_or ns 0 0 - 0
      e = omega arith

  -- k and n are the code and the number of the next place
  pub places_next : (κ : Quantifier) {i k n : ℕ} → i < get_or ns 0 0 → k ≡ code_for ls ks (i + 1) → n ≡ get_or ns (i + 1) 0
      → rest_text κ (places_from i) ≡ variable_text κ (variable (quantifier_of k) n) ++ rest_text (quantifier_of k) (places_from (i + 1))
  unfolding rest_text
  places_next κ {i} {k} {n} h e f = rw (e, f, listing_next (variable_at ns ls ks) i (get_or ns 0 0) h, add-one i)

  pub places_end : (κ : Quantifier) {i : ℕ} → get_or ns 0 0 ≤ i → rest_text κ (places_from i) ≡ ascii ")\n"
  unfolding rest_text
  places_end κ {i} h = rw (listing_end (variable_at ns ls ks) i (get_or ns 0 0) h)
