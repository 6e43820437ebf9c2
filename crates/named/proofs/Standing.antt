-- What stands in the tables of the flags that are on and off, by the literals of the line.
use Prim.Native.Nat.{ℕ, zero, suc, ◌≤◌, min}
use native.Mathlib.Omega.{arith}
use mathlib.Core.Path.{◌≡◌, refl, ap, subst, ◌∙◌}
use mathlib.Core.Bool.{Bool, true, false, cond, beq}
use mathlib.Core.List.{List, [], ◌∷◌, map}
use lib.IntN.{ℤ, pos, negsuc}
use lib.ListN.{length, take, length-map, length-take}
use lib.Seq.{take_all}
use Rattle.qbf.specs.Formula.{paper, highest, Literal, number_of, positive}
use Rattle.layout.specs.Session.{named}
use Rattle.reader.specs.Items.{narrowed, Kept}
use Rattle.reader.proofs.Judged.{cut_same}
use Rattle.named.proofs.Judged.{narrowed_named}

-- the first literals of a line, as many as decide, narrowed
abbrev pub deciding : List Literal → List Literal
deciding ls = take (suc paper.numbers) (map narrowed ls)

narrowed_twice : (k : ℕ) (ls : List Literal) → map narrowed (take k (map narrowed ls)) ≡ take k (map narrowed ls)
narrowed_twice zero ls = refl
narrowed_twice (suc k) [] = refl
narrowed_twice (suc k) (pos n ∷ ls) =
    let e : min (min n (suc highest.numbers)) (suc highest.numbers) ≡ min n (suc highest.numbers) = omega arith in
    (λ i. pos (e i) ∷ narrowed_twice k ls i)
narrowed_twice (suc k) (negsuc n ∷ ls) =
    let e : min (min n highest.numbers) highest.numbers ≡ min n highest.numbers = omega arith in
    (λ i. negsuc (e i) ∷ narrowed_twice k ls i)

named_length : (v : Bool) (ls : List Literal) → length (named v ls) ≤ length ls
named_length v [] = omega arith
named_length v (l ∷ ls) = by (beq v (positive l)) (named_length v ls)
  where
    by : (t : Bool) → length (named v ls) ≤ length ls → length (cond t (pos (number_of l) ∷ named v ls) (named v ls)) ≤ suc (length ls)
    by true h = omega (arith, h)
    by false h = omega (arith, h)

module _ (n : ℕ) (lits : List ℤ) (room : length lits ≡ suc paper.numbers) (ls : List Literal) (k : Kept n lits ls) where
  standing : take (min n (suc paper.numbers)) lits ≡ deciding ls
  standing = cut_same n (suc paper.numbers) lits room ∙ k.first ∙ ap (λ (m : ℕ). take m (map narrowed ls)) room

  -- the numbers of one sign among them, in a table of the same length
  pub flags_standing : (v : Bool) (a : ℕ) (out : List ℤ) → length out ≡ suc paper.numbers → Kept a out (named v (take (min n (suc paper.numbers)) lits))
      → take (min a (suc paper.numbers)) out ≡ named v (deciding ls)
  flags_standing v a out wide q =
      cut_same a (suc paper.numbers) out wide ∙ p.first
      ∙ take_all (length out) (map narrowed (named v (deciding ls)))
      (omega (arith, wide, length-map (named v (deciding ls)) narrowed, named_length v (deciding ls), length-take (suc paper.numbers) (map narrowed ls)))
      ∙ narrowed_named v (deciding ls)
      ∙ ap (named v) (narrowed_twice (suc paper.numbers) ls)
    where
      p : Kept a out (named v (deciding ls))
      p = subst (λ (ms : List Literal). Kept a out (named v ms)) standing q
