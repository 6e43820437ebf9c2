-- The literals of a query from the left: the loop's values after the first i of them.
use Prim.Native.Nat.{ℕ, suc, ◌+◌, ◌≤◌, ◌<◌, zero-le}
use native.Mathlib.Nat.{zero-add}
use native.Mathlib.Numerals.{add-one}
use native.Mathlib.Omega.{arith}
use mathlib.Core.Path.{◌≡◌, refl, sym, ap, ◌∙◌}
use mathlib.Core.Bool.{Bool, true, false, not, ◌||◌, false≢true}
use mathlib.Core.List.{List, [], ◌∷◌}
use lib.ListN.{length, get_or, set, drop, drop_of_length-le, length-set}
use lib.Seq.{drop-cons}
use lib.IntN.{pos}
use borrow.Author.Tests.{not-true, not-false}
use Rattle.qbf.specs.Formula.{Literal, number_of}
use Rattle.theory.proofs.Basics.{or_false_left, or_false_right}
use Rattle.std.specs.Bool.{MatchBool}
use Rattle.std.specs.List.{range_with_len, AllWithin, HoldsAt}
use Rattle.std.proofs.lemmas.List.FromFn.{length-range_with_len, get_or-range_with_len}
use Rattle.reading.specs.Marking.{barred, any_barred, named, Marked, Named, open_after, FullBy}

module _ (places : List ℕ) (free v : ℕ) where
  -- ---- one literal more
  module _ (values : List ℕ) (l : Literal) (ls : List Literal) where
    pub barred_here : barred places free values l ≡ true → any_barred places free v values (l ∷ ls) ≡ true
    unfolding any_barred
    barred_here e = ap (λ (b : Bool). b || any_barred places free v (set values (number_of l) v) ls) e

    pub barred_later : barred places free values l ≡ false → any_barred places free v values (l ∷ ls) ≡ any_barred places free v (set values (number_of l) v) ls
    unfolding any_barred
    barred_later e = ap (λ (b : Bool). b || any_barred places free v (set values (number_of l) v) ls) e

    pub unbarred_first : any_barred places free v values (l ∷ ls) ≡ false → (barred places free values l ≡ false) × (any_barred places free v (set values (number_of l) v) ls ≡ false)
    unfolding any_barred
    unbarred_first e = (or_false_left (barred places free values l) rest e, or_false_right (barred places free values l) rest e)
      where
        rest : Bool
        rest = any_barred places free v (set values (number_of l) v) ls

  pub barred_end : (values : List ℕ) → any_barred places free v values [] ≡ false
  unfolding any_barred
  barred_end values = refl

  -- ---- the loop
  module _ (start : List ℕ) (ls : List Literal) where
    pub record Marking (values : List ℕ) (i : ℕ) : Type 0 where
      pub low : i ≤ length ls
      pub room : length values ≡ length start
      pub told : any_barred places free v start ls ≡ any_barred places free v values (drop i ls)
      pub reached : named v start ls ≡ named v values (drop i ls)

    module _ {values : List ℕ} {i : ℕ} (m : Marking values i) where
      pub marking_end : length ls ≤ i → Named places free v start ls true values
      unfolding named
      marking_end h =
          record { told = sym (ap not (m.told ∙ ap (any_barred places free v values) done ∙ barred_end values)); shown = λ e. sym (m.reached ∙ ap (named v values) done) }
        where
          done : drop i ls ≡ []
          done = drop_of_length-le ls {i = i} h

      -- l is the next literal
      module _ (more : i < length ls) {l : Literal} (is : l ≡ get_or ls i (pos 0)) {ok : Bool} {after : List ℕ} (r : Marked places free v values l ok after) where
        next : drop i ls ≡ l ∷ drop (suc i) ls
        next = drop-cons ls i (pos 0) more ∙ ap (λ (x : Literal). x ∷ drop (suc i) ls) (sym is)

        pub marking_bad : ok ≡ false → Named places free v start ls false after
        marking_bad e =
            record {
              told = sym (ap not (m.told ∙ ap (any_barred places free v values) next ∙ barred_here values l (drop (suc i) ls) (not-false _ (sym r.told ∙ e))));
              shown = λ z. absurd (false≢true z);
            }

        pub marking_more : ok ≡ true → Marking after (i + 1)
        unfolding named
        marking_more e =
            rw add-one
            (record {
              low = more;
              room = ap length (r.shown e) ∙ length-set values (number_of l) v ∙ m.room;
              told =
                  m.told
                  ∙ ap (any_barred places free v values) next
                  ∙ barred_later values l (drop (suc i) ls) (not-true _ (sym r.told ∙ e))
                  ∙ ap (λ (vs : List ℕ). any_barred places free v vs (drop (suc i) ls)) (sym (r.shown e));
              reached =
                  m.reached
                  ∙ ap (named v values) next
                  ∙ ap (λ (vs : List ℕ). named v vs (drop (suc i) ls)) (sym (r.shown e));
            })

-- ---- the numbers of the first places
-- each of them was tried, or one that is open was found
pub filled : (values ns : List ℕ) (free : ℕ) (r : Bool)
    → MatchBool r (AllWithin (λ i. open_after values ns i ≡ false) (range_with_len 0 free) 0 (length (range_with_len 0 free))) ((k : ℕ) × (k < length (range_with_len 0 free)) × HoldsAt (λ i. open_after values ns i ≡ true) (range_with_len 0 free) k)
    → FullBy values ns free r
filled values ns free true h = λ i l. ap (open_after values ns) (sym (get_or-range_with_len 0 free i 0 l ∙ zero-add i)) ∙ h i 0 zero-le (omega (arith, l, length-range_with_len 0 free))
filled values ns free false (k, l, h) =
    let more : k < free = omega (arith, l, length-range_with_len 0 free) in
    (k, more, ap (open_after values ns) (sym (get_or-range_with_len 0 free k 0 more ∙ zero-add k)) ∙ h 0)
