-- The given reading by place: a full reading's bytes are those of its node.
use Prim.Native.Nat.{ℕ, zero, suc, ◌+◌, ◌-◌, ◌<◌}
use native.Mathlib.Nat.{le_of_suc-le-suc, not-suc-le-zero}
use native.Mathlib.Omega.{arith}
use mathlib.Core.Path.{◌≡◌, refl, sym, ap, ◌∙◌}
use mathlib.Core.Bool.{true, false}
use mathlib.Core.List.{List, [], ◌∷◌, map}
use lib.ListN.{length, get_or, get_elem?, take, drop, length-drop, length-map}
use lib.Seq.{length-take-le, get_or-take, get_or-drop, ext_get_or}
use Rattle.qbf.specs.Formula.{Limits, Prefix, Node, quantifiers, value_at}
use Rattle.qbf.specs.Truth.{free_variables}
use Rattle.qbf.specs.Card.{byte_of}
use Rattle.qbf.specs.Calls.{numbers_are_ok, prefix_is_ok, free_first}
use Rattle.theory.proofs.Basics.{and_left}
use Rattle.theory.proofs.Prefixes.{numbers, place_of_number}
use Rattle.theory.proofs.Starting.{free_fit}
use Rattle.tables.specs.Views.{value_code, Numbers, Values}
use Rattle.reading.specs.Placed.{Placed}

-- the code of a value that a node has is its byte
code_byte : (s : Node) (i : ℕ) → i < length s → value_code (get_elem? s i) ≡ get_or (map byte_of s) i 0
code_byte [] i h = absurd (not-suc-le-zero h)
code_byte (true ∷ s) zero h = refl
code_byte (false ∷ s) zero h = refl
code_byte (b ∷ s) (suc i) h = code_byte s i (le_of_suc-le-suc h)

module _ (L : Limits) (D : Prefix) (good : prefix_is_ok L D ≡ true) (ns values : List ℕ) (numbered : Numbers D ns) (s : Node) (shown : Values D s values) (long : length s ≡ free_variables D) where
  pub given_bytes : (free : ℕ) (start after : List ℕ) → free ≡ free_variables D → free < length after → Placed values ns free start after → take free (drop 1 after) ≡ map byte_of s
  given_bytes free start after frees wide placed = ext_get_or 0 (take free (drop 1 after)) (map byte_of s) (taken ∙ frees ∙ sym long ∙ sym (length-map s byte_of)) (λ i h. each i (omega (arith, h, taken)))
    where
      taken : length (take free (drop 1 after)) ≡ free
      taken = length-take-le free (drop 1 after) (omega (arith, length-drop 1 after, wide))

      each : (i : ℕ) → i < free → get_or (take free (drop 1 after)) i 0 ≡ get_or (map byte_of s) i 0
      each i h =
          let next : 1 + i ≡ suc i = omega arith in
          let low : i < length D = omega (arith, h, frees, free_fit (quantifiers D), length-map D (λ d. d.quantifier)) in
          get_or-take free (drop 1 after) i 0 h
          ∙ get_or-drop 1 after i 0
          ∙ ap (λ (k : ℕ). get_or after k 0) next
          ∙ placed.at i h
          ∙ ap (λ (n : ℕ). get_or values n 0) (numbered.at i low)
          ∙ shown.at (get_or (numbers D) i 0)
          ∙ ap (λ (q : ℕ). value_code (value_at s q)) (place_of_number L D (and_left (numbers_are_ok L [] D) (free_first (quantifiers D)) good) i low)
          ∙ code_byte s i (omega (arith, h, frees, long))

  -- the same, of the part that the code lends
  pub given_part : (free end : ℕ) (start after : List ℕ) → free ≡ free_variables D → end ≡ free + 1 → free < length after → Placed values ns free start after → take (end - 1) (drop 1 after) ≡ map byte_of s
  given_part free end start after frees ends wide placed = let e : end - 1 ≡ free = omega (arith, ends) in ap (λ (k : ℕ). take k (drop 1 after)) e ∙ given_bytes free start after frees wide placed
