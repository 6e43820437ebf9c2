-- Whether rows lie within their table, by a test of each row's end.
use Prim.Native.Nat.{ℕ, suc, ◌+◌, ◌*◌, ◌≤◌, ◌<◌}
use native.Mathlib.Nat.{zero-add}
use native.Mathlib.Omega.{arith}
use mathlib.Core.Path.{◌≡◌, ap, ap₂, ◌∙◌}
use mathlib.Core.Bool.{Bool, true, false}
use mathlib.Core.List.{List}
use lib.IntN.{ℤ}
use lib.ListN.{length, get_or, take, drop}
use Rattle.std.specs.Bool.{MatchBool}
use Rattle.std.specs.List.{AllWithin, HoldsAt, enumerate_from}
use Rattle.std.proofs.lemmas.List.{get_or-take, get_or-drop, length-take, length-drop}
use Rattle.std.proofs.lemmas.List.FromFn.{length-enumerate_from, get_or-enumerate_from}
use Rattle.qbf.specs.Formula.{paper}
use Rattle.search_finder.specs.Lent.{Tells}

module _ (cells : List ℤ) (sizes : List ℕ) (few : get_or sizes 0 0 < length sizes) where
  abbrev pub lengths : List ℕ
  lengths = take (get_or sizes 0 0) (drop 1 sizes)

  abbrev numbered : List (ℕ × ℕ)
  numbered = enumerate_from 0 lengths

  -- where a row of a length ends, by its number
  abbrev pub end : ℕ × ℕ → ℕ
  end p = p.0 * paper.literals + p.1

  counted : length numbered ≡ get_or sizes 0 0
  counted = omega (arith, few, length-enumerate_from 0 lengths, length-take (get_or sizes 0 0) (drop 1 sizes), length-drop 1 sizes)

  end_is : (k : ℕ) → k < get_or sizes 0 0 → end (get_or numbered k (0, 0)) ≡ k * paper.literals + get_or sizes (suc k) 0
  end_is k h =
      ap end (get_or-enumerate_from 0 lengths k (0, 0) (omega (arith, h, counted, length-enumerate_from 0 lengths)))
      ∙ ap₂ (λ (j n : ℕ). j * paper.literals + n) (zero-add k)
      (get_or-take (get_or sizes 0 0) (drop 1 sizes) k 0 h
      ∙ get_or-drop 1 sizes k 0
      ∙ (let e : 1 + k ≡ suc k = omega arith in ap (λ (j : ℕ). get_or sizes j 0) e))

  pub tells : (r : Bool)
      → MatchBool r (AllWithin (λ p. end p ≤ length cells) numbered 0 (length numbered)) ((k : ℕ) × (k < length numbered) × HoldsAt (λ p. length cells < end p) numbered k)
      → Tells r cells sizes
  tells true h = record {
    counted = few;
    inside = λ k q. omega (arith, end_is k q, h k (0, 0) (omega arith) (omega (arith, q, counted)));
  }
  tells false (k, l, h) = λ t.
      let q : k < get_or sizes 0 0 = omega (arith, l, counted) in
      omega (arith, end_is k q, h (0, 0), t.inside k q)
