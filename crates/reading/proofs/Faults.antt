-- Refusal 8: the tests of the tables are those of the definition.
use Prim.Native.Nat.{ℕ, ◌≤◌, ◌<◌}
use native.Mathlib.Omega.{arith}
use mathlib.Core.Path.{◌≡◌, refl, sym, ap, ◌∙◌}
use mathlib.Core.Logic.{◌⊎◌, inl, inr}
use mathlib.Core.Bool.{Bool, true, false, not, ◌||◌, false≢true}
use mathlib.Core.List.{List, [], ◌∷◌, ◌++◌}
use mathlib.Core.Option.{some}
use lib.ListN.{length, get_or, set, length-set}
use lib.Seq.{get_or-set_same, get_or-set_other}
use lib.Dec.{eqb, ltb}
use borrow.Author.Tests.{eqb-true, eqb-false, ltb-false, not-false}
use Rattle.qbf.specs.Formula.{Limits, Literal, Formula, number_of, positive, any, place}
use Rattle.qbf.specs.Truth.{free_variables}
use Rattle.qbf.specs.Open.{names}
use Rattle.qbf.specs.Calls.{given, ◌or_else◌, numbers_are_ok, query_fault}
use Rattle.theory.proofs.Basics.{dichotomy, le_or_lt, or_false_left, or_false_right}
use Rattle.theory.proofs.Prefixes.{place_beyond}
use Rattle.tables.specs.Views.{Places}
use Rattle.reading.specs.Marking.{barred, any_barred, named}
use Rattle.reading.proofs.Marking.{barred_end, unbarred_first, barred_later}

-- the numbers that are recorded are those seen
abbrev pub Seen : List ℕ → List ℕ → Type 0
Seen values seen = (n : ℕ) → not (eqb (get_or values n 0) 0) ≡ any (eqb n) seen

pub seen_none : (values : List ℕ) → ((n : ℕ) → get_or values n 0 ≡ 0) → Seen values []
seen_none values h n = ap (λ (k : ℕ). not (eqb k 0)) (h n)

seen_more : (values seen : List ℕ) (m v : ℕ) → eqb v 0 ≡ false → Seen values seen → m < length values → Seen (set values m v) (m ∷ seen)
seen_more values seen m v is h low n = by (dichotomy (eqb n m))
  where
    by : (eqb n m ≡ true) ⊎ (eqb n m ≡ false) → not (eqb (get_or (set values m v) n 0) 0) ≡ (eqb n m || any (eqb n) seen)
    by (inl e) =
        ap (λ (k : ℕ). not (eqb k 0)) (ap (λ (k : ℕ). get_or (set values m v) k 0) (eqb-true n m e) ∙ get_or-set_same values m v 0 low)
        ∙ ap not is
        ∙ sym (ap (λ (b : Bool). b || any (eqb n) seen) e)
    by (inr e) =
        ap (λ (k : ℕ). not (eqb k 0)) (get_or-set_other values m n v 0 (eqb-false n m e))
        ∙ h n
        ∙ sym (ap (λ (b : Bool). b || any (eqb n) seen) e)

-- ---- what a literal that is not barred has
module _ (places : List ℕ) (free : ℕ) (values : List ℕ) (l : Literal) (e : barred places free values l ≡ false) where
  unbarred : (not (positive l) || eqb (get_or places (number_of l) 0) 0 || ltb free (get_or places (number_of l) 0)) ≡ false
  unfolding barred
  unbarred = or_false_left _ (not (eqb (get_or values (number_of l) 0) 0)) e

  unbarred_declared : get_or places (number_of l) 0 ≡ 0 → ⊥
  unbarred_declared =
      eqb-false (get_or places (number_of l) 0) 0
      (or_false_right (not (positive l)) (eqb (get_or places (number_of l) 0) 0) (or_false_left (not (positive l) || eqb (get_or places (number_of l) 0) 0) (ltb free (get_or places (number_of l) 0)) unbarred))

  unbarred_free : get_or places (number_of l) 0 ≤ free
  unbarred_free =
      ltb-false free (get_or places (number_of l) 0)
      (or_false_right (not (positive l) || eqb (get_or places (number_of l) 0) 0) (ltb free (get_or places (number_of l) 0)) unbarred)

  unbarred_open : get_or values (number_of l) 0 ≡ 0
  unfolding barred
  unbarred_open = eqb-true (get_or values (number_of l) 0) 0
      (not-false _ (or_false_right (not (positive l) || eqb (get_or places (number_of l) 0) 0 || ltb free (get_or places (number_of l) 0)) (not (eqb (get_or values (number_of l) 0) 0)) e))

-- ---- a number that is named is that of a free variable, and was open
pub record Fresh (places : List ℕ) (free : ℕ) (values : List ℕ) (n : ℕ) : Type 0 where
  pub declared : get_or places n 0 ≡ 0 → ⊥
  pub low : get_or places n 0 ≤ free
  pub opened : get_or values n 0 ≡ 0

module _ (places : List ℕ) (free v : ℕ) where
  pub named_fresh : (values : List ℕ) (ls : List Literal) → any_barred places free v values ls ≡ false → (n : ℕ) → names ls n ≡ true → Fresh places free values n
  named_fresh values [] e n h = absurd (false≢true h)
  named_fresh values (l ∷ ls) e n h = by (dichotomy (eqb n m)) (λ q. named_fresh (set values m v) ls (unbarred_first places free v values l ls e).1 n q)
    where
      m : ℕ
      m = number_of l

      here : barred places free values l ≡ false
      here = (unbarred_first places free v values l ls e).0

      by : (eqb n m ≡ true) ⊎ (eqb n m ≡ false) → (names ls n ≡ true → Fresh places free (set values m v) n) → Fresh places free values n
      by (inl q) ih =
          let s = eqb-true n m q in
          let z : get_or places n 0 ≡ get_or places m 0 = ap (λ (k : ℕ). get_or places k 0) s in
          record {
            declared = λ w. unbarred_declared places free values l here (sym z ∙ w);
            low = omega (arith, z, unbarred_free places free values l here);
            opened = ap (λ (k : ℕ). get_or values k 0) s ∙ unbarred_open places free values l here;
          }
      by (inr q) ih =
          let w = ih (sym (ap (λ (b : Bool). b || names ls n) q) ∙ h) in
          record { declared = w.declared; low = w.low; opened = sym (get_or-set_other values m n v 0 (eqb-false n m q)) ∙ w.opened }

-- ---- the definition
module _ (L : Limits) (b : Formula) (ok : numbers_are_ok L [] b.prefix ≡ true) (places : List ℕ) (shown : Places b.prefix places) (free : ℕ) (is : free ≡ free_variables b.prefix) where
  abbrev test : List ℕ → Literal → Bool
  test seen l = not (positive l) || eqb (place b.prefix l) 0 || ltb (free_variables b.prefix) (place b.prefix l) || any (eqb (number_of l)) seen

  test_barred : (values seen : List ℕ) → Seen values seen → (l : Literal) → test seen l ≡ barred places free values l
  unfolding barred
  test_barred values seen h l =
      ap (λ (p : ℕ). not (positive l) || eqb p 0 || ltb (free_variables b.prefix) p || any (eqb (number_of l)) seen) (sym (shown.at (number_of l)))
      ∙ ap (λ (f : ℕ). not (positive l) || eqb p 0 || ltb f p || any (eqb (number_of l)) seen) (sym is)
      ∙ ap (λ (x : Bool). not (positive l) || eqb p 0 || ltb free p || x) (sym (h (number_of l)))
    where
      p : ℕ
      p = get_or places (number_of l) 0

  unbarred_low : (values : List ℕ) (l : Literal) → barred places free values l ≡ false → number_of l ≤ L.numbers
  unbarred_low values l e = by (le_or_lt (number_of l) L.numbers)
    where
      by : (number_of l ≤ L.numbers) ⊎ (L.numbers < number_of l) → number_of l ≤ L.numbers
      by (inl h) = h
      by (inr h) = absurd (unbarred_declared places free values l e (shown.at (number_of l) ∙ place_beyond L b.prefix ok (number_of l) h))

  -- the first literal is barred, or it is not
  fault_first : (values seen : List ℕ) → Seen values seen → (l : Literal) (rest : List Literal) {x : Bool} → barred places free values l ≡ x
      → query_fault b seen (l ∷ rest) ≡ (given x 8 or_else query_fault b (number_of l ∷ seen) rest)
  fault_first values seen h l rest e = ap (λ (x : Bool). given x 8 or_else query_fault b (number_of l ∷ seen) rest) (test_barred values seen h l ∙ e)

  -- the literals ls, whose variables take the value v, and the rest behind them
  module _ (v : ℕ) (so : eqb v 0 ≡ false) where
    pub fault_told : (values seen : List ℕ) → L.numbers < length values → Seen values seen → (ls rest : List Literal) → any_barred places free v values ls ≡ true
        → query_fault b seen (ls ++ rest) ≡ some 8
    fault_told values seen wide h [] rest e = absurd (false≢true (sym (barred_end places free v values) ∙ e))
    fault_told values seen wide h (l ∷ ls) rest e =
        by (dichotomy (barred places free values l)) (λ low q. fault_told (set values (number_of l) v) (number_of l ∷ seen) (omega (arith, wide, length-set values (number_of l) v)) (seen_more values seen (number_of l) v so h low) ls rest q)
      where
        by : (barred places free values l ≡ true) ⊎ (barred places free values l ≡ false)
            → (number_of l < length values → any_barred places free v (set values (number_of l) v) ls ≡ true → query_fault b (number_of l ∷ seen) (ls ++ rest) ≡ some 8)
            → query_fault b seen (l ∷ ls ++ rest) ≡ some 8
        by (inl q) ih = fault_first values seen h l (ls ++ rest) q
        by (inr q) ih = fault_first values seen h l (ls ++ rest) q ∙ ih (omega (arith, wide, unbarred_low values l q)) (sym (barred_later places free v values l ls q) ∙ e)

    -- none of ls is barred: what is seen then, and the rest is judged by it
    pub record Passed (values seen : List ℕ) (ls rest : List Literal) : Type 0 where
      pub since : List ℕ
      pub shows : Seen (named v values ls) since
      pub same : query_fault b seen (ls ++ rest) ≡ query_fault b since rest

    pub fault_passed : (values seen : List ℕ) → L.numbers < length values → Seen values seen → (ls rest : List Literal) → any_barred places free v values ls ≡ false → Passed values seen ls rest
    unfolding named
    fault_passed values seen wide h [] rest e = record { since = seen; shows = h; same = refl }
    fault_passed values seen wide h (l ∷ ls) rest e =
        let w = fault_passed (set values (number_of l) v) (number_of l ∷ seen) (omega (arith, wide, length-set values (number_of l) v)) (seen_more values seen (number_of l) v so h low) ls rest first.1 in
        record { since = w.since; shows = w.shows; same = fault_first values seen h l (ls ++ rest) first.0 ∙ w.same }
      where
        first : (barred places free values l ≡ false) × (any_barred places free v (set values (number_of l) v) ls ≡ false)
        first = unbarred_first places free v values l ls e

        low : number_of l < length values
        low = omega (arith, wide, unbarred_low values l first.0)
