-- The faults of a rule and of an exactly-one form: of one literal, and of the literals from the left.
use Prim.Native.Nat.{ℕ, zero, suc, ◌+◌, ◌≤◌, ◌<◌}
use native.Mathlib.Numerals.{add-one}
use native.Mathlib.Omega.{arith}
use mathlib.Core.Path.{◌≡◌, refl, sym, ap, ◌∙◌}
use mathlib.Core.Logic.{◌⊎◌, inl, inr}
use mathlib.Core.Bool.{Bool, true, false, ◌||◌}
use mathlib.Core.List.{List, [], ◌∷◌}
use mathlib.Core.Option.{Option, none, some}
use lib.Dec.{ltb, eqb}
use lib.IntN.{ℤ, pos}
use lib.ListN.{length, get_or, drop, set, replicate, length-set, length-replicate, drop_of_length-le}
use lib.Seq.{drop-cons, get_or-set_same, get_or-set_other}
use borrow.Author.Tests.{eqb-false, ltb-false}
use Rattle.qbf.specs.Formula.{Limits, Prefix, Literal, number_of, place_of, any}
use Rattle.qbf.specs.Calls.{◌or_else◌, given, literal_fault}
use Rattle.theory.proofs.Basics.{or_false_right, dichotomy, eqb_true}
use Rattle.theory.proofs.AcceptedRule.{given_none}
use Rattle.tables.specs.Views.{Places}
use Rattle.rule_faults.specs.Faults.{number_fault}

given_joins : (a b c : Bool) (o : Option ℕ) → (given a 3 or_else given b 5 or_else given c 6 or_else o) ≡ ((given a 3 or_else given b 5 or_else given c 6) or_else o)
given_joins true b c o = refl
given_joins false true c o = refl
given_joins false false true o = refl
given_joins false false false o = refl

-- ---- one literal: a number without a fault has a cell
number_cell : (most n place : ℕ) (named : Bool) → none ≡ number_fault most n place named → n ≤ most
number_cell most n place named e =
    ltb-false most n (or_false_right (eqb n 0) (ltb most n) (given_none (eqb n 0 || ltb most n) 3 (given (eqb place 0) 5 or_else given named 6) (sym e)).0)

none_at : (k m : ℕ) → ◌≡◌ {A = Bool} (get_or (replicate k false) m false) false
none_at zero m = refl
none_at (suc k) zero = refl
none_at (suc k) (suc m) = none_at k m

-- ---- the literals from the left: the first i have no fault, and their numbers are named
pub record Judging (L : Limits) (lits : List ℤ) (places : List ℕ) (named : List Bool) (i : ℕ) : Type 0 where
  pub low : i ≤ length lits
  pub seen : List ℕ
  pub room : L.numbers < length named
  pub marked : (m : ℕ) → any (eqb m) seen ≡ get_or named m false
  pub judged : (D : Prefix) → Places D places → literal_fault L D [] lits ≡ literal_fault L D seen (drop i lits)

pub judging_none : (L : Limits) (k : ℕ) → L.numbers < k → (lits : List ℤ) (places : List ℕ) → Judging L lits places (replicate k false) 0
judging_none L k h lits places =
    record {
      low = omega arith;
      seen = [];
      room = omega (arith, h, length-replicate k false);
      marked = λ m. sym (none_at k m);
      judged = λ D shown. refl;
    }

module _ {L : Limits} {lits : List ℤ} {places : List ℕ} {named : List Bool} {i : ℕ} (w : Judging L lits places named i) where
  pub judging_end : length lits ≤ i → (D : Prefix) → Places D places → none ≡ literal_fault L D [] lits
  judging_end h D shown = sym (w.judged D shown ∙ ap (literal_fault L D w.seen) (drop_of_length-le lits h))

  -- n is the number of the next literal l, and o its fault
  module _ (more : i < length lits) {l : Literal} (read : l ≡ get_or lits i (pos 0)) {n : ℕ} (is : n ≡ number_of l) (o : Option ℕ) (fault : o ≡ number_fault L.numbers n (get_or places n 0) (get_or named n false)) where
    next : (D : Prefix) → Places D places → literal_fault L D [] lits ≡ (o or_else literal_fault L D (n ∷ w.seen) (drop (suc i) lits))
    next D shown =
        w.judged D shown
        ∙ ap (literal_fault L D w.seen) (drop-cons lits i (pos 0) more)
        ∙ ap (λ (m : ℕ). given (eqb m 0 || ltb L.numbers m) 3 or_else given (eqb (place_of D m) 0) 5 or_else given (any (eqb m) w.seen) 6 or_else literal_fault L D (m ∷ w.seen) (drop (suc i) lits)) (ap number_of (sym read) ∙ sym is)
        ∙ ap (λ (m : ℕ). given (eqb n 0 || ltb L.numbers n) 3 or_else given (eqb m 0) 5 or_else given (any (eqb n) w.seen) 6 or_else literal_fault L D (n ∷ w.seen) (drop (suc i) lits)) (sym (shown.at n))
        ∙ ap (λ (x : Bool). given (eqb n 0 || ltb L.numbers n) 3 or_else given (eqb (get_or places n 0) 0) 5 or_else given x 6 or_else literal_fault L D (n ∷ w.seen) (drop (suc i) lits)) (w.marked n)
        ∙ given_joins (eqb n 0 || ltb L.numbers n) (eqb (get_or places n 0) 0) (get_or named n false) (literal_fault L D (n ∷ w.seen) (drop (suc i) lits))
        ∙ ap (λ (k : Option ℕ). k or_else literal_fault L D (n ∷ w.seen) (drop (suc i) lits)) (sym fault)

    pub judging_bad : (r : ℕ) → o ≡ some r → (D : Prefix) → Places D places → some r ≡ literal_fault L D [] lits
    judging_bad r e D shown = sym (next D shown ∙ ap (λ (k : Option ℕ). k or_else literal_fault L D (n ∷ w.seen) (drop (suc i) lits)) e)

    module _ (fine : o ≡ none) where
      pub judging_cell : n < length named
      judging_cell = let h : n ≤ L.numbers = number_cell L.numbers n (get_or places n 0) (get_or named n false) (sym fine ∙ fault) in omega (arith, h, w.room)

      marked_more : (m : ℕ) → any (eqb m) (n ∷ w.seen) ≡ get_or (set named n true) m false
      marked_more m = by_test (dichotomy (eqb m n))
        where
          by_test : (eqb m n ≡ true) ⊎ (eqb m n ≡ false) → any (eqb m) (n ∷ w.seen) ≡ get_or (set named n true) m false
          by_test (inl e) =
              ap (λ (x : Bool). x || any (eqb m) w.seen) e
              ∙ sym (ap (λ (k : ℕ). get_or (set named n true) k false) (eqb_true m n e) ∙ get_or-set_same named n true false judging_cell)
          by_test (inr e) =
              ap (λ (x : Bool). x || any (eqb m) w.seen) e
              ∙ w.marked m
              ∙ sym (get_or-set_other named n m true false (eqb-false m n e))

      pub judging_more : Judging L lits places (set named n true) (i + 1)
      judging_more =
          rw add-one
          (record {
            low = more;
            seen = n ∷ w.seen;
            room = omega (arith, w.room, length-set named n true);
            marked = marked_more;
            judged = λ D shown. next D shown ∙ ap (λ (k : Option ℕ). k or_else literal_fault L D (n ∷ w.seen) (drop (suc i) lits)) fine;
          })
