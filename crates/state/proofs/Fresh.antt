-- The numbers of a prefix, each 1 to the limit and none twice, and the table of their places as it is filled from the first on.
use Prim.Native.Nat.{ℕ, zero, suc, ◌+◌, ◌-◌, ◌≤◌, ◌<◌}
use native.Mathlib.Numerals.{add-one}
use native.Mathlib.Omega.{arith}
use mathlib.Core.Path.{◌≡◌, refl, sym, ap, ◌∙◌, subst}
use mathlib.Core.Logic.{◌⊎◌, inl, inr}
use mathlib.Core.Bool.{Bool, true, false, cond, not, ◌&&◌, ◌||◌, false≢true}
use mathlib.Core.List.{List, [], ◌∷◌, map}
use lib.ListN.{length, get_or, set, length-set, length-map}
use lib.Seq.{ext_get_or, get_or-set_same, get_or-set_other}
use lib.Dec.{leb, eqb}
use borrow.Author.Tests.{eqb-true, eqb-false, ne_eqb, leb-true, le-leb, lt-leb, not-true, not-false}
use Rattle.qbf.specs.Formula.{Limits, Prefix, any, place_from, place_of}
use Rattle.qbf.specs.Calls.{numbers_are_ok}
use Rattle.theory.proofs.Basics.{dichotomy, and_left, and_right}
use Rattle.theory.proofs.Widths.{prefix_width}
use Rattle.tables.specs.Views.{Numbers}
use Rattle.state.specs.Reading.{listing, entry_at, entries}
use Rattle.state.specs.Derived.{Cleared, numbered, is_fresh, Placing}
use Rattle.state.proofs.Listing.{listing_length, listing_at, listing_next, listing_end}

-- ---- the same of the numbers alone
abbrev pub position : ℕ → ℕ → List ℕ → ℕ
position p n [] = 0
position p n (m ∷ ms) = cond (eqb n m) p (position (suc p) n ms)

abbrev pub fresh : ℕ → List ℕ → List ℕ → Bool
fresh most seen [] = true
fresh most seen (n ∷ ns) = leb 1 n && leb n most && not (any (eqb n) seen) && fresh most (n ∷ seen) ns

abbrev pub numbers_in : Prefix → List ℕ
numbers_in D = map (λ d. d.number) D

place_position : (p n : ℕ) (D : Prefix) → place_from p n D ≡ position p n (numbers_in D)
place_position p n [] = refl
place_position p n (d ∷ ds) = ap (λ (q : ℕ). cond (eqb n d.number) p q) (place_position (suc p) n ds)

numbers_fresh : (L : Limits) (seen : List ℕ) (D : Prefix) → numbers_are_ok L seen D ≡ fresh L.numbers seen (numbers_in D)
numbers_fresh L seen [] = refl
numbers_fresh L seen (d ∷ ds) =
    ap (λ (b : Bool). leb 1 d.number && leb d.number L.numbers && not (any (eqb d.number) seen) && b) (numbers_fresh L (d.number ∷ seen) ds)

pub numbers_listed : (D : Prefix) (ns : List ℕ) → Numbers D ns → numbers_in D ≡ entries ns
numbers_listed D ns shown = ext_get_or 0 (numbers_in D) (entries ns) (len ∙ sym long) same
  where
    len : length (numbers_in D) ≡ get_or ns 0 0
    len = length-map D (λ d. d.number) ∙ sym shown.count

    long : length (entries ns) ≡ get_or ns 0 0
    long = listing_length (entry_at ns) 0 (get_or ns 0 0)

    same : (i : ℕ) → i < length (numbers_in D) → get_or (numbers_in D) i 0 ≡ get_or (entries ns) i 0
    same i h =
        let low : i < length D = omega (arith, h, length-map D (λ d. d.number)) in
        let few : i < get_or ns 0 0 = omega (arith, h, len) in
        let e : 0 + i ≡ i = omega arith in
        sym (shown.at i low) ∙ sym (listing_at (entry_at ns) 0 (get_or ns 0 0) i 0 few ∙ ap (entry_at ns) e)

-- ---- the table as it is filled
-- the numbers of the first i places, the last one first
abbrev seen_to : List ℕ → ℕ → List ℕ
seen_to ns zero = []
seen_to ns (suc i) = entry_at ns i ∷ seen_to ns i

-- a place that is found, else where the search goes on
abbrev pick : ℕ → ℕ → ℕ
pick zero q = q
pick (suc p) q = suc p

abbrev rest : List ℕ → ℕ → List ℕ
rest ns i = listing (entry_at ns) i (get_or ns 0 0 - i)

pub record Filled (most : ℕ) (ns places : List ℕ) (i : ℕ) : Type 0 where
  pub low : i ≤ get_or ns 0 0
  pub room : length places ≡ suc most
  pub found : (m : ℕ) → position 1 m (entries ns) ≡ pick (get_or places m 0) (position (suc i) m (rest ns i))
  pub judged : fresh most [] (entries ns) ≡ fresh most (seen_to ns i) (rest ns i)
  pub marked : (m : ℕ) → any (eqb m) (seen_to ns i) ≡ not (eqb (get_or places m 0) 0)

filled_none : (most : ℕ) (ns : List ℕ) {n : ℕ} {places : List ℕ} → n ≡ suc most → Cleared n places → Filled most ns places 0
filled_none most ns s t =
    let e : get_or ns 0 0 - 0 ≡ get_or ns 0 0 = omega arith in
    record {
      low = omega arith;
      room = t.room ∙ s;
      found = λ m. ap (λ (k : ℕ). position 1 m (listing (entry_at ns) 0 k)) (sym e) ∙ ap (λ (p : ℕ). pick p (position 1 m (rest ns 0))) (sym (t.zero m));
      judged = ap (λ (k : ℕ). fresh most [] (listing (entry_at ns) 0 k)) (sym e);
      marked = λ m. ap (λ (p : ℕ). not (eqb p 0)) (sym (t.zero m));
    }

module _ (most : ℕ) (ns places : List ℕ) (i : ℕ) (f : Filled most ns places i) (more : i < get_or ns 0 0) where
  abbrev here : ℕ
  here = entry_at ns i

  next : rest ns i ≡ here ∷ rest ns (suc i)
  next = listing_next (entry_at ns) i (get_or ns 0 0) more

  -- the test of the next number
  judge : fresh most [] (entries ns) ≡ (leb 1 here && leb here most && eqb (get_or places here 0) 0 && fresh most (seen_to ns (suc i)) (rest ns (suc i)))
  judge =
      f.judged
      ∙ ap (fresh most (seen_to ns i)) next
      ∙ ap (λ (b : Bool). leb 1 here && leb here most && b && fresh most (seen_to ns (suc i)) (rest ns (suc i))) (ap not (f.marked here) ∙ twice (eqb (get_or places here 0) 0))
    where
      twice : (b : Bool) → not (not b) ≡ b
      twice true = refl
      twice false = refl

  bad : is_fresh most places here ≡ false → fresh most [] (entries ns) ≡ false
  bad e = judge ∙ by (leb 1 here) (leb here most) (eqb (get_or places here 0) 0) (fresh most (seen_to ns (suc i)) (rest ns (suc i))) e
    where
      by : (a b c d : Bool) → (a && b && c) ≡ false → (a && b && c && d) ≡ false
      by false b c d e = refl
      by true false c d e = refl
      by true true false d e = refl
      by true true true d e = ap (λ x. x && d) e

  module _ (good : is_fresh most places here ≡ true) where
    unmarked : get_or places here 0 ≡ 0
    unmarked = eqb-true (get_or places here 0) 0 (and_right (leb 1 here && leb here most) (eqb (get_or places here 0) 0) good)

    within : here ≤ most
    within = leb-true here most (and_right (leb 1 here) (leb here most) (and_left (leb 1 here && leb here most) (eqb (get_or places here 0) 0) good))

    stored : get_or (set places here (suc i)) here 0 ≡ suc i
    stored = get_or-set_same places here (suc i) 0 (omega (arith, f.room, within))

    kept : (m : ℕ) → (m ≡ here → ⊥) → get_or (set places here (suc i)) m 0 ≡ get_or places m 0
    kept m n = get_or-set_other places here m (suc i) 0 n

    found_next : (m : ℕ) → position 1 m (entries ns) ≡ pick (get_or (set places here (suc i)) m 0) (position (suc (suc i)) m (rest ns (suc i)))
    found_next m = f.found m ∙ ap (λ (l : List ℕ). pick (get_or places m 0) (position (suc i) m l)) next ∙ by (dichotomy (eqb m here))
      where
        by : (eqb m here ≡ true) ⊎ (eqb m here ≡ false)
            → pick (get_or places m 0) (cond (eqb m here) (suc i) (position (suc (suc i)) m (rest ns (suc i)))) ≡ pick (get_or (set places here (suc i)) m 0) (position (suc (suc i)) m (rest ns (suc i)))
        by (inl e) =
            let q = eqb-true m here e in
            ap (λ (b : Bool). pick (get_or places m 0) (cond b (suc i) (position (suc (suc i)) m (rest ns (suc i))))) e
            ∙ ap (λ (p : ℕ). pick p (suc i)) (ap (λ (n : ℕ). get_or places n 0) q ∙ unmarked)
            ∙ ap (λ (p : ℕ). pick p (position (suc (suc i)) m (rest ns (suc i)))) (sym (ap (λ (n : ℕ). get_or (set places here (suc i)) n 0) q ∙ stored))
        by (inr e) =
            ap (λ (b : Bool). pick (get_or places m 0) (cond b (suc i) (position (suc (suc i)) m (rest ns (suc i))))) e
            ∙ ap (λ (p : ℕ). pick p (position (suc (suc i)) m (rest ns (suc i)))) (sym (kept m (eqb-false m here e)))

    marked_next : (m : ℕ) → any (eqb m) (seen_to ns (suc i)) ≡ not (eqb (get_or (set places here (suc i)) m 0) 0)
    marked_next m = by (dichotomy (eqb m here))
      where
        by : (eqb m here ≡ true) ⊎ (eqb m here ≡ false) → (eqb m here || any (eqb m) (seen_to ns i)) ≡ not (eqb (get_or (set places here (suc i)) m 0) 0)
        by (inl e) =
            ap (λ (b : Bool). b || any (eqb m) (seen_to ns i)) e
            ∙ sym (ap (λ (p : ℕ). not (eqb p 0)) (ap (λ (n : ℕ). get_or (set places here (suc i)) n 0) (eqb-true m here e) ∙ stored) ∙ ap not (ne_eqb (suc i) 0 (λ q. omega arith)))
        by (inr e) =
            ap (λ (b : Bool). b || any (eqb m) (seen_to ns i)) e
            ∙ f.marked m
            ∙ ap (λ (p : ℕ). not (eqb p 0)) (sym (kept m (eqb-false m here e)))

    grown : Filled most ns (set places here (i + 1)) (i + 1)
    grown =
        rw add-one
        (record {
          low = more;
          room = length-set places here (suc i) ∙ f.room;
          found = found_next;
          judged = judge ∙ by (leb 1 here) (leb here most) (eqb (get_or places here 0) 0) (fresh most (seen_to ns (suc i)) (rest ns (suc i))) good;
          marked = marked_next;
        })
      where
        by : (a b c d : Bool) → (a && b && c) ≡ true → (a && b && c && d) ≡ d
        by false b c d e = absurd (false≢true e)
        by true false c d e = absurd (false≢true e)
        by true true false d e = absurd (false≢true e)
        by true true true d e = refl

-- ---- what is said of a prefix with these numbers
module _ (L : Limits) (ns : List ℕ) where
  numbered_by : (D : Prefix) → Numbers D ns → numbered L D ≡ (leb (get_or ns 0 0) L.numbers && fresh L.numbers [] (entries ns))
  numbered_by D shown =
      ap (λ (n : ℕ). leb n L.numbers && numbers_are_ok L [] D) (sym shown.count)
      ∙ ap (λ (b : Bool). leb (get_or ns 0 0) L.numbers && b) (numbers_fresh L [] D ∙ ap (fresh L.numbers []) (numbers_listed D ns shown))

  many : (places : List ℕ) → L.numbers < get_or ns 0 0 → Placing L ns false places
  many places h =
      record {
        said = λ D shown. sym (numbered_by D shown ∙ ap (λ (b : Bool). b && fresh L.numbers [] (entries ns)) (lt-leb (get_or ns 0 0) L.numbers h));
        shown = λ e. absurd (false≢true e);
      }

  module _ (few : get_or ns 0 0 ≤ L.numbers) where
    judged_by : (D : Prefix) → Numbers D ns → numbered L D ≡ fresh L.numbers [] (entries ns)
    judged_by D shown = numbered_by D shown ∙ ap (λ (b : Bool). b && fresh L.numbers [] (entries ns)) (le-leb (get_or ns 0 0) L.numbers few)

    failed : (places : List ℕ) → fresh L.numbers [] (entries ns) ≡ false → Placing L ns false places
    failed places e =
        record { said = λ D shown. sym (judged_by D shown ∙ e); shown = λ q. absurd (false≢true q) }

    ended : (places : List ℕ) (i : ℕ) → Filled L.numbers ns places i → get_or ns 0 0 ≤ i → Placing L ns true places
    unfolding place_of
    ended places i f end = record { said = λ D shown. sym (judged_by D shown ∙ f.judged ∙ ap (fresh L.numbers (seen_to ns i)) done); shown = λ e D shown. record { at = at D shown } }
      where
        done : rest ns i ≡ []
        done = listing_end (entry_at ns) i (get_or ns 0 0) end

        whole : (p : ℕ) → pick p 0 ≡ p
        whole zero = refl
        whole (suc p) = refl

        at : (D : Prefix) → Numbers D ns → (n : ℕ) → get_or places n 0 ≡ place_of D n
        at D shown n =
            sym
            (place_position 1 n D
            ∙ ap (position 1 n) (numbers_listed D ns shown)
            ∙ f.found n
            ∙ ap (λ (l : List ℕ). pick (get_or places n 0) (position (suc i) n l)) done
            ∙ whole (get_or places n 0))

-- ---- the loop that fills the table
pub record Filling (most : ℕ) (ns : List ℕ) (count : ℕ) (places : List ℕ) (i : ℕ) : Type 0 where
  pub whole : count ≡ get_or ns 0 0
  pub few : count ≤ most
  pub filled : Filled most ns places i

pub filling_end : {most : ℕ} {ns : List ℕ} {count : ℕ} {places : List ℕ} {i : ℕ} → Filling most ns count places i → count ≤ i → (L : Limits) → L.numbers ≡ most → Placing L ns true places
filling_end {ns = ns} {places = places} {i = i} f h L e =
    ended L ns (omega (arith, f.few, f.whole, e)) places i (subst (λ (m : ℕ). Filled m ns places i) (sym e) f.filled) (omega (arith, f.whole, h))

-- the next number, read as n, was tested with the answer r
pub record Tested (most : ℕ) (ns : List ℕ) (count : ℕ) (places : List ℕ) (i n : ℕ) (r : Bool) : Type 0 where
  pub filling : Filling most ns count places i
  pub more : i < count
  pub is : n ≡ entry_at ns i
  pub said : r ≡ is_fresh most places n

module _ {most : ℕ} {ns : List ℕ} {count : ℕ} {places : List ℕ} {i n : ℕ} {r : Bool} (t : Tested most ns count places i n r) where
  further : i < get_or ns 0 0
  further = omega (arith, t.more, t.filling.whole)

  test : {b : Bool} → r ≡ b → is_fresh most places (entry_at ns i) ≡ b
  test e = ap (is_fresh most places) (sym t.is) ∙ sym t.said ∙ e

  pub tested_bad : not r ≡ true → (L : Limits) → L.numbers ≡ most → Placing L ns false places
  tested_bad e L q =
      failed
      L
      ns
      (omega (arith, t.filling.few, t.filling.whole, q))
      places
      (ap (λ (m : ℕ). fresh m [] (entries ns)) q ∙ bad most ns places i t.filling.filled further (test (not-true r e)))

  pub tested_more : not r ≡ false → Filling most ns count (set places n (i + 1)) (i + 1)
  tested_more e =
      record {
        whole = t.filling.whole;
        few = t.filling.few;
        filled = subst (λ (m : ℕ). Filled most ns (set places m (i + 1)) (i + 1)) (sym t.is) (grown most ns places i t.filling.filled further (test (not-false r e)));
      }

-- distinct numbers from 1 to the limit are at most so many
pub numbers_numbered : (L : Limits) (D : Prefix) → numbers_are_ok L [] D ≡ true → numbered L D ≡ true
numbers_numbered L D e =
    ap (λ (b : Bool). b && numbers_are_ok L [] D) (le-leb (length D) L.numbers (omega (arith, prefix_width L D e, length-map D (λ d. d.quantifier)))) ∙ e
