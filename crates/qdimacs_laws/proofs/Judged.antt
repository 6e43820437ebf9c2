-- What code keeps of a quantifier line is judged as the line is: numbers narrowed to the limit and one more, and the first ones.
use Prim.Native.Nat.{ℕ, zero, suc, ◌+◌, ◌≤◌, ◌<◌}
use mathlib.Core.Path.{◌≡◌, refl, sym, ap, subst, ◌∙◌}
use mathlib.Core.Bool.{Bool, true, false, not, ◌||◌}
use mathlib.Core.List.{List, [], ◌∷◌, ◌++◌, map, append_assoc, append-nil}
use mathlib.Core.Option.{Option, none, some}
use native.Mathlib.Omega.{arith}
use native.Mathlib.Decide.{dec_lt}
use borrow.Author.Tests.{lt-ltb, ltb-false}
use lib.ListN.{length, take, length-append, length-map}
use lib.Dec.{eqb, ltb}
use Rattle.qbf.specs.Formula.{Limits, Quantifier, Prefix, place_of}
use Rattle.qbf.specs.Calls.{given, numbers_are_ok, ◌or_else◌}
use Rattle.theory.proofs.Basics.{or_false_right}
use Rattle.theory.proofs.AcceptedRule.{given_none}
use Rattle.theory.proofs.Widths.{prefix_width}
use Rattle.layout.specs.Opening.{variable}
use Rattle.layout_laws.proofs.Blocks.{number_declared, in_range}
use Rattle.qdimacs_form.specs.Opening.{group_fault}

-- the tests of one number, before what the numbers after it give
abbrev tests : Limits → ℕ → Prefix → ℕ → Option ℕ → Option ℕ
tests L v D n o = given (eqb n 0 || ltb L.numbers n) 3 or_else given (ltb v n) 5 or_else given (not (eqb (place_of D n) 0)) 4 or_else o

-- a number without a fault
record Fine (L : Limits) (v : ℕ) (D : Prefix) (n : ℕ) (o : Option ℕ) : Type 0 where
  in_range : (eqb n 0 || ltb L.numbers n) ≡ false
  counted : ltb v n ≡ false
  new : not (eqb (place_of D n) 0) ≡ false
  rest : o ≡ none

fine : (L : Limits) (v : ℕ) (D : Prefix) (n : ℕ) (o : Option ℕ) → tests L v D n o ≡ none → Fine L v D n o
fine L v D n o e =
    let a = given_none (eqb n 0 || ltb L.numbers n) 3 (given (ltb v n) 5 or_else given (not (eqb (place_of D n) 0)) 4 or_else o) e in
    let b = given_none (ltb v n) 5 (given (not (eqb (place_of D n) 0)) 4 or_else o) a.1 in
    let c = given_none (not (eqb (place_of D n) 0)) 4 o b.1 in
    record { in_range = a.0; counted = b.0; new = c.0; rest = c.1 }

-- a group without a fault has room
group_declared : (L : Limits) (v : ℕ) (κ : Quantifier) (D : Prefix) (ns : List ℕ) → numbers_are_ok L [] D ≡ true → group_fault L v κ D ns ≡ none → numbers_are_ok L [] (D ++ map (variable κ) ns) ≡ true
group_declared L v κ D [] h e = rw append-nil h
group_declared L v κ D (n ∷ ns) h e =
    let f = fine L v D n (group_fault L v κ (D ++ (variable κ n ∷ [])) ns) e in
    subst (λ (E : Prefix). numbers_are_ok L [] E ≡ true) (append_assoc D (variable κ n ∷ []) (map (variable κ) ns))
    (group_declared L v κ (D ++ (variable κ n ∷ [])) ns (number_declared L κ D n h (in_range L D n f.in_range f.new)) f.rest)

pub group_width : (L : Limits) (v : ℕ) (κ : Quantifier) (D : Prefix) (ns : List ℕ) → numbers_are_ok L [] D ≡ true → group_fault L v κ D ns ≡ none → length D + length ns ≤ L.numbers
group_width L v κ D ns h e =
    omega (arith, prefix_width L (D ++ map (variable κ) ns) (group_declared L v κ D ns h e), length-map (D ++ map (variable κ) ns) (λ d. d.quantifier), length-append D (map (variable κ) ns), length-map ns (variable κ))

-- ---- narrowed
-- numbers in range stay, others stay out of range
pub record Narrows (L : Limits) (h : ℕ → ℕ) : Type 0 where
  pub in_range : (n : ℕ) → n ≤ L.numbers → h n ≡ n
  pub beyond : (n : ℕ) → L.numbers < n → L.numbers < h n

module _ (L : Limits) (h : ℕ → ℕ) (w : Narrows L h) (v : ℕ) (κ : Quantifier) where
  out : (n : ℕ) (o : Option ℕ) → L.numbers < n → (given (eqb n 0 || ltb L.numbers n) 3 or_else o) ≡ some 3
  out n o q = rw (lt-ltb L.numbers n q) (by (eqb n 0))
    where
      by : (t : Bool) → (given (t || true) 3 or_else o) ≡ some 3
      by true = refl
      by false = refl

  pub group_narrowed : (D : Prefix) (ns : List ℕ) → group_fault L v κ D (map h ns) ≡ group_fault L v κ D ns
  group_narrowed D [] = refl
  group_narrowed D (n ∷ ns) = by (dec_lt L.numbers n) (group_narrowed (D ++ (variable κ n ∷ [])) ns)
    where
      after : ℕ → Option ℕ → Option ℕ
      after m o = given (ltb v m) 5 or_else given (not (eqb (place_of D m) 0)) 4 or_else o

      by : Dec (L.numbers < n) → group_fault L v κ (D ++ (variable κ n ∷ [])) (map h ns) ≡ group_fault L v κ (D ++ (variable κ n ∷ [])) ns → group_fault L v κ D (h n ∷ map h ns) ≡ group_fault L v κ D (n ∷ ns)
      by (yes q) ih = out (h n) (after (h n) (group_fault L v κ (D ++ (variable κ (h n) ∷ [])) (map h ns))) (w.beyond n q) ∙ sym (out n (after n (group_fault L v κ (D ++ (variable κ n ∷ [])) ns)) q)
      by (no q) ih = ap (λ (m : ℕ). group_fault L v κ D (m ∷ map h ns)) (w.in_range n (omega (arith, q))) ∙ ap (tests L v D n) ih

  -- where it is not refused they are its numbers
  pub group_numbers : (D : Prefix) (ns : List ℕ) → group_fault L v κ D ns ≡ none → map h ns ≡ ns
  group_numbers D [] e = refl
  group_numbers D (n ∷ ns) e =
      let f = fine L v D n (group_fault L v κ (D ++ (variable κ n ∷ [])) ns) e in
      ap (λ (m : ℕ). m ∷ map h ns) (w.in_range n (ltb-false L.numbers n (or_false_right (eqb n 0) (ltb L.numbers n) f.in_range)))
      ∙ ap (λ (ms : List ℕ). n ∷ ms) (group_numbers (D ++ (variable κ n ∷ [])) ns f.rest)

-- ---- the first numbers decide
first_numbers : (L : Limits) (v : ℕ) (κ : Quantifier) (k : ℕ) (D : Prefix) (ns : List ℕ) → L.numbers < k + length D → numbers_are_ok L [] D ≡ true → group_fault L v κ D (take k ns) ≡ group_fault L v κ D ns
first_numbers L v κ zero D ns long h = absurd (omega (arith, long, prefix_width L D h, length-map D (λ d. d.quantifier)))
first_numbers L v κ (suc k) D [] long h = refl
first_numbers L v κ (suc k) D (n ∷ ns) long h =
    by (eqb n 0 || ltb L.numbers n) refl (ltb v n) (not (eqb (place_of D n) 0)) refl
    (λ p q. first_numbers L v κ k (D ++ (variable κ n ∷ [])) ns (omega (arith, long, length-append D (variable κ n ∷ []))) (number_declared L κ D n h (in_range L D n p q)))
  where
    D' : Prefix
    D' = D ++ (variable κ n ∷ [])

    by : (x : Bool) → (eqb n 0 || ltb L.numbers n) ≡ x → (y z : Bool) → not (eqb (place_of D n) 0) ≡ z
        → ((eqb n 0 || ltb L.numbers n) ≡ false → not (eqb (place_of D n) 0) ≡ false → group_fault L v κ D' (take k ns) ≡ group_fault L v κ D' ns)
        → (given x 3 or_else given y 5 or_else given z 4 or_else group_fault L v κ D' (take k ns)) ≡ (given x 3 or_else given y 5 or_else given z 4 or_else group_fault L v κ D' ns)
    by true p y z q ih = refl
    by false p true z q ih = refl
    by false p false true q ih = refl
    by false p false false q ih = ih p q

-- Of a line's numbers the first ones decide, one more than there may be.
pub group_first : (L : Limits) (v : ℕ) (κ : Quantifier) (D : Prefix) (ns : List ℕ) → numbers_are_ok L [] D ≡ true → group_fault L v κ D (take (suc L.numbers) ns) ≡ group_fault L v κ D ns
group_first L v κ D ns h = first_numbers L v κ (suc L.numbers) D ns (omega arith) h
