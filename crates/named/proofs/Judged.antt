-- The flags of a query, narrowed to 16 bits and cut to a table with one cell more than there are numbers: no refusal changes, and
-- what is not refused is the same.
use Prim.Native.Nat.{ℕ, zero, suc, ◌+◌, ◌<◌, ◌≤◌, zero-le, suc-le-suc, min}
use mathlib.Core.Path.{◌≡◌, refl, sym, ap, subst, ◌∙◌}
use mathlib.Core.Bool.{Bool, true, false, cond, not, ◌&&◌, ◌||◌, beq}
use mathlib.Core.List.{List, [], ◌∷◌, ◌++◌, map, map-append}
use mathlib.Core.Option.{Option, none, some}
use native.Mathlib.Omega.{arith}
use native.Mathlib.Decide.{dec_lt}
use borrow.Author.Tests.{le-leb, ltb-false}
use lib.Dec.{eqb, leb, ltb}
use lib.IntN.{pos, negsuc}
use lib.ListN.{length, take, drop, length-map, length-take, length-append, take-append-drop}
use lib.Seq.{take_all}
use Rattle.qbf.specs.Formula.{Limits, paper, highest, exists, Prefix, quantifiers, Literal, Formula, number_of, positive, any, place_of, place}
use Rattle.qbf.specs.Truth.{free_variables}
use Rattle.qbf.specs.Calls.{given, query_fault, numbers_are_ok, ◌or_else◌}
use Rattle.theory.proofs.Basics.{and_both, or_false_left, or_false_right, eqb_true, false_eqb}
use Rattle.theory.proofs.Prefixes.{number_at, place_of_zero, place_beyond}
use Rattle.theory.proofs.Starting.{free_fit}
use Rattle.theory.proofs.Widths.{prefix_width}
use Rattle.layout.specs.Opening.{variable}
use Rattle.theory.proofs.AcceptedRule.{some_none, given_none}
use Rattle.layout.specs.Session.{named}
use Rattle.reader.specs.Items.{narrow, narrowed}
use Rattle.reader.proofs.Judged.{narrowed_same_under, narrowed_out_under}

-- ---- the flags that some literals name: those that are on, then those that are off
abbrev pub flags : List Literal → List Literal
flags ls = named true ls ++ named false ls

flags_length : (ls : List Literal) → length (flags ls) ≡ length ls
flags_length ls = length-append (named true ls) (named false ls) ∙ count ls
  where
    count : (ls : List Literal) → length (named true ls) + length (named false ls) ≡ length ls
    count [] = refl
    count (pos n ∷ ls) = omega (arith, count ls)
    count (negsuc n ∷ ls) = omega (arith, count ls)

named_append : (v : Bool) (xs ys : List Literal) → named v (xs ++ ys) ≡ named v xs ++ named v ys
named_append v [] ys = refl
named_append v (x ∷ xs) ys = by (beq v (positive x)) (named_append v xs ys)
  where
    by : (t : Bool) → named v (xs ++ ys) ≡ named v xs ++ named v ys
        → cond t (pos (number_of x) ∷ named v (xs ++ ys)) (named v (xs ++ ys)) ≡ cond t (pos (number_of x) ∷ named v xs) (named v xs) ++ named v ys
    by true e = ap (λ (ls : List Literal). pos (number_of x) ∷ ls) e
    by false e = e

flags_cut : (k : ℕ) (ls : List Literal) → flags ls ≡ (named true (take k ls) ++ named true (drop k ls)) ++ (named false (take k ls) ++ named false (drop k ls))
flags_cut k ls = (λ i. part true i ++ part false i)
  where
    part : (v : Bool) → named v ls ≡ named v (take k ls) ++ named v (drop k ls)
    part v = ap (named v) (sym (take-append-drop k ls)) ∙ named_append v (take k ls) (drop k ls)

pub narrowed_named : (v : Bool) (ls : List Literal) → map narrowed (named v ls) ≡ named v (map narrowed ls)
narrowed_named v [] = refl
narrowed_named v (pos n ∷ ls) = by (beq v true) (narrowed_named v ls)
  where
    by : (t : Bool) → map narrowed (named v ls) ≡ named v (map narrowed ls)
        → map narrowed (cond t (pos n ∷ named v ls) (named v ls)) ≡ cond t (pos (narrow n) ∷ named v (map narrowed ls)) (named v (map narrowed ls))
    by true e = ap (λ (ks : List Literal). pos (narrow n) ∷ ks) e
    by false e = e
narrowed_named v (negsuc n ∷ ls) = by (beq v false) (narrowed_named v ls)
  where
    same : narrow (suc n) ≡ suc (min n highest.numbers)
    same = omega arith

    by : (t : Bool) → map narrowed (named v ls) ≡ named v (map narrowed ls)
        → map narrowed (cond t (pos (suc n) ∷ named v ls) (named v ls)) ≡ cond t (pos (suc (min n highest.numbers)) ∷ named v (map narrowed ls)) (named v (map narrowed ls))
    by true e = (λ i. pos (same i) ∷ e i)
    by false e = e

narrowed_flags : (ls : List Literal) → map narrowed (flags ls) ≡ flags (map narrowed ls)
narrowed_flags ls = map-append narrowed (named true ls) (named false ls) ∙ (λ i. narrowed_named true ls i ++ narrowed_named false ls i)

module _ (b : Formula) where
  abbrev D : Prefix
  D = b.prefix

  -- what is 8 of a number after those in `seen`
  abbrev barred : List ℕ → Literal → Bool
  barred seen l = not (positive l) || eqb (place D l) 0 || ltb (free_variables D) (place D l) || any (eqb (number_of l)) seen

  -- ---- one list after another
  -- the numbers that are seen after those of a list
  abbrev after : List ℕ → List Literal → List ℕ
  after seen [] = seen
  after seen (l ∷ ls) = after (number_of l ∷ seen) ls

  no_fault : (seen : List ℕ) (l : Literal) (ls : List Literal) → query_fault b seen (l ∷ ls) ≡ none → (barred seen l ≡ false) × (query_fault b (number_of l ∷ seen) ls ≡ none)
  no_fault seen l ls e = given_none (barred seen l) 8 (query_fault b (number_of l ∷ seen) ls) e

  fine_head : (seen : List ℕ) (l : Literal) (ls : List Literal) → barred seen l ≡ false → query_fault b (number_of l ∷ seen) ls ≡ none → query_fault b seen (l ∷ ls) ≡ none
  fine_head seen l ls e h = ap (λ (t : Bool). given t 8 or_else query_fault b (number_of l ∷ seen) ls) e ∙ h

  left_fine : (seen : List ℕ) (as' bs : List Literal) → query_fault b seen (as' ++ bs) ≡ none → query_fault b seen as' ≡ none
  left_fine seen [] bs e = refl
  left_fine seen (l ∷ ls) bs e = let w = no_fault seen l (ls ++ bs) e in fine_head seen l ls w.0 (left_fine (number_of l ∷ seen) ls bs w.1)

  right_fine : (seen : List ℕ) (as' bs : List Literal) → query_fault b seen (as' ++ bs) ≡ none → query_fault b (after seen as') bs ≡ none
  right_fine seen [] bs e = e
  right_fine seen (l ∷ ls) bs e = right_fine (number_of l ∷ seen) ls bs (no_fault seen l (ls ++ bs) e).1

  both_fine : (seen : List ℕ) (as' bs : List Literal) → query_fault b seen as' ≡ none → query_fault b (after seen as') bs ≡ none → query_fault b seen (as' ++ bs) ≡ none
  both_fine seen [] bs e h = h
  both_fine seen (l ∷ ls) bs e h = let w = no_fault seen l ls e in fine_head seen l (ls ++ bs) w.0 (both_fine (number_of l ∷ seen) ls bs w.1 h)

  -- ---- fewer numbers
  abbrev Fewer : List ℕ → List ℕ → Type 0
  Fewer seen more = (n : ℕ) → any (eqb n) more ≡ false → any (eqb n) seen ≡ false

  fewer_cons : (m : ℕ) (seen more : List ℕ) → Fewer seen more → Fewer (m ∷ seen) (m ∷ more)
  fewer_cons m seen more h n e = by (eqb n m) e
    where
      by : (t : Bool) → (t || any (eqb n) more) ≡ false → (t || any (eqb n) seen) ≡ false
      by true q = q
      by false q = h n q

  fewer_after : (seen : List ℕ) (ls : List Literal) → Fewer seen (after seen ls)
  fewer_after seen [] n e = e
  fewer_after seen (l ∷ ls) n e = or_false_right (eqb n (number_of l)) (any (eqb n) seen) (fewer_after (number_of l ∷ seen) ls n e)

  fewer_fine : (seen more : List ℕ) (ls : List Literal) → Fewer seen more → query_fault b more ls ≡ none → query_fault b seen ls ≡ none
  fewer_fine seen more [] h e = refl
  fewer_fine seen more (l ∷ ls) h e =
      let w = no_fault more l ls e in
      fine_head seen l ls (free_too (not (positive l) || eqb (place D l) 0 || ltb (free_variables D) (place D l)) w.0) (fewer_fine (number_of l ∷ seen) (number_of l ∷ more) ls (fewer_cons (number_of l) seen more h) w.1)
    where
      free_too : (t : Bool) → (t || any (eqb (number_of l)) more) ≡ false → (t || any (eqb (number_of l)) seen) ≡ false
      free_too true q = q
      free_too false q = h (number_of l) q

  -- of two lists each is cut
  cut_fine : (on on' off off' : List Literal) → query_fault b [] ((on ++ on') ++ (off ++ off')) ≡ none → query_fault b [] (on ++ off) ≡ none
  cut_fine on on' off off' e =
      both_fine [] on off (left_fine [] on on' (left_fine [] (on ++ on') (off ++ off') e))
      (fewer_fine (after [] on) (after [] (on ++ on')) off seen (left_fine (after [] (on ++ on')) off off' (right_fine [] (on ++ on') (off ++ off') e)))
    where
      after_both_lem : (seen : List ℕ) (xs ys : List Literal) → after seen (xs ++ ys) ≡ after (after seen xs) ys
      after_both_lem seen [] ys = refl
      after_both_lem seen (x ∷ xs) ys = after_both_lem (number_of x ∷ seen) xs ys

      seen : Fewer (after [] on) (after [] (on ++ on'))
      seen = subst (Fewer (after [] on)) (sym (after_both_lem [] on on')) (fewer_after (after [] on) on')

  -- every refusal is 8
  eight : (seen : List ℕ) (ls : List Literal) (m : ℕ) → query_fault b seen ls ≡ some m → m ≡ 8
  eight seen [] m e = absurd (some_none (sym e))
  eight seen (l ∷ ls) m e = by (barred seen l) e (eight (number_of l ∷ seen) ls m)
    where
      by : (t : Bool) → (given t 8 or_else query_fault b (number_of l ∷ seen) ls) ≡ some m → (query_fault b (number_of l ∷ seen) ls ≡ some m → m ≡ 8) → m ≡ 8
      by true q ih = cc
      by false q ih = ih q

  module _ (L : Limits) (fine : numbers_are_ok L [] D ≡ true) where
    in_range : (n : ℕ) → (place_of D n ≡ 0 → ⊥) → (1 ≤ n) × (n ≤ L.numbers)
    in_range n h = (low n h, high (dec_lt L.numbers n))
      where
        low : (n : ℕ) → (place_of D n ≡ 0 → ⊥) → 1 ≤ n
        low zero h = absurd (h (place_of_zero L D fine))
        low (suc n) h = suc-le-suc zero-le

        high : Dec (L.numbers < n) → n ≤ L.numbers
        high (yes q) = absurd (h (place_beyond L D fine n q))
        high (no q) = omega (arith, q)

    -- numbers without a fault could be declared
    could_be : (seen : List ℕ) (ls : List Literal) → query_fault b seen ls ≡ none → numbers_are_ok L seen (map (λ l. variable exists (number_of l)) ls) ≡ true
    could_be seen [] e = refl
    could_be seen (l ∷ ls) e =
        and_both (leb 1 n && leb n L.numbers && not (any (eqb n) seen)) (numbers_are_ok L (n ∷ seen) (map (λ l. variable exists (number_of l)) ls))
        (and_both (leb 1 n && leb n L.numbers) (not (any (eqb n) seen)) (and_both (leb 1 n) (leb n L.numbers) (le-leb 1 n range.0) (le-leb n L.numbers range.1))
        (ap not (or_false_right (not (positive l) || eqb (place D l) 0 || ltb (free_variables D) (place D l)) (any (eqb n) seen) w.0)))
        (could_be (n ∷ seen) ls w.1)
      where
        n : ℕ
        n = number_of l

        w : (barred seen l ≡ false) × (query_fault b (n ∷ seen) ls ≡ none)
        w = given_none (barred seen l) 8 (query_fault b (n ∷ seen) ls) e

        placed : eqb (place D l) 0 ≡ false
        placed =
            or_false_right (not (positive l)) (eqb (place D l) 0)
            (or_false_left (not (positive l) || eqb (place D l) 0) (ltb (free_variables D) (place D l))
            (or_false_left (not (positive l) || eqb (place D l) 0 || ltb (free_variables D) (place D l)) (any (eqb n) seen) w.0))

        range : (1 ≤ n) × (n ≤ L.numbers)
        range = in_range n (false_eqb (place D l) 0 placed)

    -- a query without a fault has no more numbers than there are
    pub query_width : (ls : List Literal) → query_fault b [] ls ≡ none → length ls ≤ L.numbers
    query_width ls e =
        omega (arith, prefix_width L (map (λ l. variable exists (number_of l)) ls) (could_be [] ls e), length-map (map (λ l. variable exists (number_of l)) ls) (λ d. d.quantifier), length-map ls (λ l. variable exists (number_of l)))

    -- numbers stand at places of their own
    places_apart : (n m : ℕ) → (place_of D n ≡ 0 → ⊥) → place_of D n ≡ place_of D m → n ≡ m
    places_apart n m h e = by (place_of D n) refl
      where
        by : (i : ℕ) → place_of D n ≡ i → n ≡ m
        by zero q = absurd (h q)
        by (suc i) q = sym (number_at D n i q).1 ∙ (number_at D m i (sym e ∙ q)).1

    place_new : (n : ℕ) → (place_of D n ≡ 0 → ⊥) → (seen : List ℕ) → any (eqb n) seen ≡ false → any (eqb (place_of D n)) (map (place_of D) seen) ≡ false
    place_new n h [] e = refl
    place_new n h (m ∷ seen) e = by (eqb (place_of D n) (place_of D m)) refl (place_new n h seen (or_false_right (eqb n m) (any (eqb n) seen) e))
      where
        by : (t : Bool) → eqb (place_of D n) (place_of D m) ≡ t → any (eqb (place_of D n)) (map (place_of D) seen) ≡ false → (t || any (eqb (place_of D n)) (map (place_of D) seen)) ≡ false
        by true q ih = absurd (false_eqb n m (or_false_left (eqb n m) (any (eqb n) seen) e) (places_apart n m h (eqb_true (place_of D n) (place_of D m) q)))
        by false q ih = ih

    -- the places of a query without a fault are distinct, and no higher than the flags are many
    abbrev as_many : Limits
    as_many = record { numbers = free_variables D; clauses = L.clauses; literals = L.literals; constraints = L.constraints }

    places_be : (seen : List ℕ) (ls : List Literal) → query_fault b seen ls ≡ none → numbers_are_ok as_many (map (place_of D) seen) (map (λ l. variable exists (place D l)) ls) ≡ true
    places_be seen [] e = refl
    places_be seen (l ∷ ls) e =
        and_both (leb 1 p && leb p (free_variables D) && not (any (eqb p) (map (place_of D) seen))) (numbers_are_ok as_many (p ∷ map (place_of D) seen) (map (λ l. variable exists (place D l)) ls))
        (and_both (leb 1 p && leb p (free_variables D)) (not (any (eqb p) (map (place_of D) seen))) (and_both (leb 1 p) (leb p (free_variables D)) (le-leb 1 p (positive_place p placed)) (le-leb p (free_variables D) low))
        (ap not (place_new (number_of l) placed seen (or_false_right first (any (eqb (number_of l)) seen) w.0))))
        (places_be (number_of l ∷ seen) ls w.1)
      where
        p : ℕ
        p = place D l

        first : Bool
        first = not (positive l) || eqb (place D l) 0 || ltb (free_variables D) (place D l)

        w : (barred seen l ≡ false) × (query_fault b (number_of l ∷ seen) ls ≡ none)
        w = given_none (barred seen l) 8 (query_fault b (number_of l ∷ seen) ls) e

        three : first ≡ false
        three = or_false_left first (any (eqb (number_of l)) seen) w.0

        placed : p ≡ 0 → ⊥
        placed = false_eqb p 0 (or_false_right (not (positive l)) (eqb p 0) (or_false_left (not (positive l) || eqb p 0) (ltb (free_variables D) p) three))

        low : p ≤ free_variables D
        low = ltb-false (free_variables D) p (or_false_right (not (positive l) || eqb p 0) (ltb (free_variables D) p) three)

        positive_place : (i : ℕ) → (i ≡ 0 → ⊥) → 1 ≤ i
        positive_place zero h = absurd (h refl)
        positive_place (suc i) h = suc-le-suc zero-le

    -- .. and no more than there are flags
    pub query_few : (ls : List Literal) → query_fault b [] ls ≡ none → length ls ≤ free_variables D
    query_few ls e =
        omega (arith, prefix_width as_many (map (λ l. variable exists (place D l)) ls) (places_be [] ls e), length-map (map (λ l. variable exists (place D l)) ls) (λ d. d.quantifier), length-map ls (λ l. variable exists (place D l)))

    -- Of the literals that name a query's flags the first ones decide, more than there are flags: among so many a number stands twice or is not
    -- free, whatever their signs are.
    pub first_decide : (m : ℕ) → free_variables D < m → (ls : List Literal) → query_fault b [] (flags (take m ls)) ≡ query_fault b [] (flags ls)
    first_decide m more ls = by (query_fault b [] (flags first)) (query_fault b [] (flags ls)) refl refl
      where
        first : List Literal
        first = take m ls

        by : (o p : Option ℕ) → query_fault b [] (flags first) ≡ o → query_fault b [] (flags ls) ≡ p → query_fault b [] (flags first) ≡ query_fault b [] (flags ls)
        by none p e h =
            ap (λ (ms : List Literal). query_fault b [] (flags ms))
            (take_all m ls (omega (arith, more, query_few (flags first) e, flags_length first, length-take m ls)))
        by (some m') (some n) e h = e ∙ ap some (eight [] (flags first) m' e ∙ sym (eight [] (flags ls) n h)) ∙ sym h
        by (some m') none e h = absurd (some_none (sym e ∙ all_fine))
          where
            all_fine : query_fault b [] (flags first) ≡ none
            all_fine =
                cut_fine (named true first) (named true (drop m ls)) (named false first) (named false (drop m ls))
                (ap (query_fault b []) (sym (flags_cut m ls)) ∙ h)

  -- ---- narrowing, under any limits no higher than the highest
  module _ (L : Limits) (low : L.numbers ≤ highest.numbers) (fine : numbers_are_ok L [] D ≡ true) where
    -- a number that has no place is refused, whatever follows
    no_place : (seen : List ℕ) (l : Literal) (o : Option ℕ) → L.numbers < number_of l → (given (barred seen l) 8 or_else o) ≡ some 8
    no_place seen l o h = rw (place_beyond L D fine (number_of l) h) (by (not (positive l)) (any (eqb (number_of l)) seen))
      where
        by : (t u : Bool) → (given (t || true || ltb (free_variables D) 0 || u) 8 or_else o) ≡ some 8
        by true u = refl
        by false u = refl

    pub query_judged : (seen : List ℕ) (ls : List Literal) → query_fault b seen (map narrowed ls) ≡ query_fault b seen ls
    query_judged seen [] = refl
    query_judged seen (l ∷ ls) = by (dec_lt L.numbers (number_of l)) (query_judged (number_of l ∷ seen) ls)
      where
        by : Dec (L.numbers < number_of l) → query_fault b (number_of l ∷ seen) (map narrowed ls) ≡ query_fault b (number_of l ∷ seen) ls
            → query_fault b seen (narrowed l ∷ map narrowed ls) ≡ query_fault b seen (l ∷ ls)
        by (yes h) ih = no_place seen (narrowed l) _ (narrowed_out_under L low l h) ∙ sym (no_place seen l _ h)
        by (no h) ih =
            ap (λ (x : Literal). query_fault b seen (x ∷ map narrowed ls)) (narrowed_same_under L low l (omega (arith, h)))
            ∙ ap (λ (o : Option ℕ). given (barred seen l) 8 or_else o) ih

    query_same : (seen : List ℕ) (ls : List Literal) → query_fault b seen ls ≡ none → map narrowed ls ≡ ls
    query_same seen [] e = refl
    query_same seen (l ∷ ls) e = by (dec_lt L.numbers (number_of l)) (query_same (number_of l ∷ seen) ls (no_fault seen l ls e).1)
      where
        by : Dec (L.numbers < number_of l) → map narrowed ls ≡ ls → narrowed l ∷ map narrowed ls ≡ l ∷ ls
        by (yes h) ih = absurd (some_none (sym (no_place seen l _ h) ∙ e))
        by (no h) ih = (λ i. narrowed_same_under L low l (omega (arith, h)) i ∷ ih i)

    -- ---- both, in a table with more cells than there are flags
    module _ (m : ℕ) (more : free_variables D < m) where
      pub flags_judged_under : (ls : List Literal) → query_fault b [] (flags (take m (map narrowed ls))) ≡ query_fault b [] (flags ls)
      flags_judged_under ls = first_decide L fine m more (map narrowed ls) ∙ ap (query_fault b []) (sym (narrowed_flags ls)) ∙ query_judged [] (flags ls)

      pub flags_same_under : (ls : List Literal) → query_fault b [] (flags ls) ≡ none → (v : Bool) → named v (take m (map narrowed ls)) ≡ named v ls
      flags_same_under ls e v =
          ap (named v) (take_all m (map narrowed ls) (omega (arith, more, query_few L fine (flags ls) e, flags_length ls, length-map ls narrowed)))
          ∙ sym (narrowed_named v ls)
          ∙ by v
        where
          by : (v : Bool) → map narrowed (named v ls) ≡ named v ls
          by true = query_same [] (named true ls) (left_fine [] (named true ls) (named false ls) e)
          by false = query_same (after [] (named true ls)) (named false ls) (right_fine [] (named true ls) (named false ls) e)

  -- ---- under the paper's limits
  module _ (fine : numbers_are_ok paper [] D ≡ true) where
    few : free_variables D < suc paper.numbers
    few = omega (arith, prefix_width paper D fine, free_fit (quantifiers D))

    pub flags_judged : (ls : List Literal) → query_fault b [] (flags (take (suc paper.numbers) (map narrowed ls))) ≡ query_fault b [] (flags ls)
    flags_judged ls = flags_judged_under paper (omega arith) fine (suc paper.numbers) few ls

    pub flags_same : (ls : List Literal) → query_fault b [] (flags ls) ≡ none → (v : Bool) → named v (take (suc paper.numbers) (map narrowed ls)) ≡ named v ls
    flags_same ls e v = flags_same_under paper (omega arith) fine (suc paper.numbers) few ls e v
