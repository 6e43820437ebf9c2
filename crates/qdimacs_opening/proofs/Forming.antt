-- The completed prefix is well formed where its flags stand as variables of exists, or where they are no more than may be.
use Prim.Native.Nat.{ℕ, zero, suc, ◌≤◌, ◌<◌, zero-le, suc-le-suc}
use native.Mathlib.Omega.{arith}
use mathlib.Core.Path.{◌≡◌, refl, sym, ap, ◌∙◌}
use mathlib.Core.Logic.{inl, inr}
use mathlib.Core.Bool.{Bool, true, false, cond, not, ◌&&◌, ◌||◌, false≢true}
use mathlib.Core.List.{List, [], ◌∷◌, ◌++◌, map, map-append, append-nil}
use borrow.Author.Tests.{eqb-true, ltb-true, ltb-false, le-leb, leb-true}
use lib.Dec.{eqb, leb, ltb}
use lib.ListN.{length, get_or}
use Rattle.qbf.specs.Formula.{Limits, most_free, Quantifier, free, exists, forall, Prefix, quantifiers, any, place_from, place_of}
use Rattle.qbf.specs.Truth.{free_count, free_variables}
use Rattle.qbf.specs.Card.{Mem}
use Rattle.qbf.specs.Calls.{no_free, free_first, numbers_are_ok}
use Rattle.theory.proofs.Basics.{and_left, and_right, and_both, or_false, or_false_left, or_false_right}
use Rattle.theory.proofs.Prefixes.{numbers}
use Rattle.tables.specs.Views.{Places}
use Rattle.state.specs.Reading.{quantifier_of}
use Rattle.layout.specs.Opening.{variable}
use Rattle.layout_laws.proofs.Blocks.{number_declared}
use Rattle.qdimacs_form.specs.Opening.{flags_up_to, flag_variables}
use Rattle.qdimacs_laws.proofs.Flags.{group_lacks, flag_new}
use Rattle.qdimacs_opening.specs.Built.{Formed, flags_in, crowd_for, kind_for}
use Rattle.qdimacs_opening.proofs.Freed.{no_variable_free, flags_counted}

-- ---- flags by the table of places
pub flags_told : (D : Prefix) (t : List ℕ) → Places D t → (v : ℕ) → flags_in t v ≡ flags_up_to D v
flags_told D t p zero = refl
flags_told D t p (suc v) =
    ap (λ (ns : List ℕ). ns ++ cond (eqb (get_or t (suc v) 0) 0) (suc v ∷ []) []) (flags_told D t p v)
    ∙ ap (λ (q : ℕ). flags_up_to D v ++ cond (eqb q 0) (suc v ∷ []) []) (p.at (suc v))

-- ---- their numbers, whatever they stand as
module _ (κ : Quantifier) where
  kinds_declare : (n : ℕ) (ns : List ℕ) → any (λ d. eqb n d.number) (map (variable κ) ns) ≡ any (λ d. eqb n d.number) (map (variable free) ns)
  kinds_declare n [] = refl
  kinds_declare n (m ∷ ns) = ap (λ (b : Bool). eqb n m || b) (kinds_declare n ns)

  kinds_place : (p n : ℕ) (ns : List ℕ) → place_from p n (map (variable κ) ns) ≡ place_from p n (map (variable free) ns)
  kinds_place p n [] = refl
  kinds_place p n (m ∷ ns) = ap (cond (eqb n m) p) (kinds_place (suc p) n ns)

  module _ (L : Limits) (D : Prefix) where
    new : (v : ℕ) → place_of (map (variable κ) (flags_up_to D v)) (suc v) ≡ 0
    unfolding place_of
    new v = kinds_place 1 (suc v) (flags_up_to D v) ∙ eqb-true (place_from 1 (suc v) (flag_variables D v)) 0 (flag_new D v)

    flags_ok : (v : ℕ) → v ≤ L.numbers → numbers_are_ok L [] (map (variable κ) (flags_up_to D v)) ≡ true
    flags_ok zero h = refl
    flags_ok (suc v) h =
        ap (numbers_are_ok L []) (map-append (variable κ) (flags_up_to D v) (cond (eqb (place_of D (suc v)) 0) (suc v ∷ []) [])) ∙ last (eqb (place_of D (suc v)) 0) (flags_ok v (omega (arith, h)))
      where
        last : (t : Bool) → numbers_are_ok L [] (map (variable κ) (flags_up_to D v)) ≡ true → numbers_are_ok L [] (map (variable κ) (flags_up_to D v) ++ map (variable κ) (cond t (suc v ∷ []) [])) ≡ true
        last true ih = number_declared L κ (map (variable κ) (flags_up_to D v)) (suc v) ih (record { low = omega arith; high = h; fresh = new v })
        last false ih = ap (numbers_are_ok L []) (append-nil (map (variable κ) (flags_up_to D v))) ∙ ih

-- numbers are judged alike after lists that hold the same of them
seen_same : (L : Limits) (s t : List ℕ) (D : Prefix) → ((n : ℕ) → Mem n (numbers D) → any (eqb n) s ≡ any (eqb n) t) → numbers_are_ok L s D ≡ numbers_are_ok L t D
seen_same L s t [] h = refl
seen_same L s t (d ∷ D) h =
    rw (h d.number (inl refl))
    (ap (λ (x : Bool). leb 1 d.number && leb d.number L.numbers && not (any (eqb d.number) t) && x)
    (seen_same L (d.number ∷ s) (d.number ∷ t) D (λ n m. ap (λ (x : Bool). eqb n d.number || x) (h n (inr m)))))

numbers_join : (L : Limits) (s : List ℕ) (F D : Prefix) → numbers_are_ok L s F ≡ true → numbers_are_ok L [] D ≡ true → ((n : ℕ) → Mem n (numbers D) → (any (eqb n) s ≡ false) × (any (λ d. eqb n d.number) F ≡ false))
    → numbers_are_ok L s (F ++ D) ≡ true
numbers_join L s [] D f d h = seen_same L s [] D (λ n m. (h n m).0) ∙ d
numbers_join L s (x ∷ F) D f d h =
    and_both own (numbers_are_ok L (x.number ∷ s) (F ++ D)) (and_left own (numbers_are_ok L (x.number ∷ s) F) f)
    (numbers_join L (x.number ∷ s) F D (and_right own (numbers_are_ok L (x.number ∷ s) F) f) d
    (λ n m.
    let q = h n m in (
      or_false (eqb n x.number) (any (eqb n) s) (or_false_left (eqb n x.number) (any (λ d. eqb n d.number) F) q.1) q.0,
      or_false_right (eqb n x.number) (any (λ d. eqb n d.number) F) q.1,
    )))
  where
    own : Bool
    own = leb 1 x.number && leb x.number L.numbers && not (any (eqb x.number) s)

pub numbers_whole : (κ : Quantifier) (L : Limits) (D : Prefix) (v : ℕ) → v ≤ L.numbers → numbers_are_ok L [] D ≡ true → numbers_are_ok L [] (map (variable κ) (flags_up_to D v) ++ D) ≡ true
numbers_whole κ L D v h d =
    numbers_join L [] (map (variable κ) (flags_up_to D v)) D (flags_ok κ L D v h) d (λ n m. (refl, kinds_declare κ n (flags_up_to D v) ∙ group_lacks D v n m))

-- ---- the order of the quantifiers
none_first : (ks : List Quantifier) → no_free ks ≡ true → free_first ks ≡ true
none_first [] h = refl
none_first (free ∷ ks) h = absurd (false≢true h)
none_first (exists ∷ ks) h = h
none_first (forall ∷ ks) h = h

flags_first : (ns : List ℕ) (D : Prefix) → no_free (quantifiers D) ≡ true → free_first (quantifiers (map (variable free) ns ++ D)) ≡ true
flags_first [] D h = none_first (quantifiers D) h
flags_first (n ∷ ns) D h = flags_first ns D h

none_whole : (ns : List ℕ) (D : Prefix) → no_free (quantifiers D) ≡ true → no_free (quantifiers (map (variable exists) ns ++ D)) ≡ true
none_whole [] D h = h
none_whole (n ∷ ns) D h = none_whole ns D h

-- ---- what stands at the head of a well-formed prefix is well formed
numbers_part : (L : Limits) (s : List ℕ) (P R : Prefix) → numbers_are_ok L s (P ++ R) ≡ true → numbers_are_ok L s P ≡ true
numbers_part L s [] R h = refl
numbers_part L s (x ∷ P) R h =
    and_both own (numbers_are_ok L (x.number ∷ s) P) (and_left own (numbers_are_ok L (x.number ∷ s) (P ++ R)) h)
    (numbers_part L (x.number ∷ s) P R (and_right own (numbers_are_ok L (x.number ∷ s) (P ++ R)) h))
  where
    own : Bool
    own = leb 1 x.number && leb x.number L.numbers && not (any (eqb x.number) s)

none_part : (ks rest : List Quantifier) → no_free (ks ++ rest) ≡ true → no_free ks ≡ true
none_part [] rest h = refl
none_part (free ∷ ks) rest h = absurd (false≢true h)
none_part (exists ∷ ks) rest h = none_part ks rest h
none_part (forall ∷ ks) rest h = none_part ks rest h

first_part : (ks rest : List Quantifier) → free_first (ks ++ rest) ≡ true → free_first ks ≡ true
first_part [] rest h = refl
first_part (free ∷ ks) rest h = first_part ks rest h
first_part (exists ∷ ks) rest h = none_part ks rest h
first_part (forall ∷ ks) rest h = none_part ks rest h

fewer_part : (ks rest : List Quantifier) → free_count ks ≤ free_count (ks ++ rest)
fewer_part [] rest = zero-le
fewer_part (free ∷ ks) rest = suc-le-suc (fewer_part ks rest)
fewer_part (exists ∷ ks) rest = zero-le
fewer_part (forall ∷ ks) rest = zero-le

pub formed_part : (L : Limits) (P R : Prefix) → Formed L (P ++ R) → Formed L P
formed_part L P R f =
    record {
      numbers_ok = numbers_part L [] P R f.numbers_ok;
      first = first_part (quantifiers P) (quantifiers R) (ap free_first (sym spread) ∙ f.first);
      few =
          le-leb (free_variables P) most_free
          (omega (arith, fewer_part (quantifiers P) (quantifiers R), ap free_count spread, leb-true (free_variables (P ++ R)) most_free f.few));
    }
  where
    spread : quantifiers (P ++ R) ≡ quantifiers P ++ quantifiers R
    spread = map-append (λ d. d.quantifier) P R

-- ---- the whole
module _ (L : Limits) (D : Prefix) (v : ℕ) (few : v ≤ L.numbers) (numbers_ok : numbers_are_ok L [] D ≡ true) (none_free : no_free (quantifiers D) ≡ true) where
  formed_crowd : Formed L (map (variable exists) (flags_up_to D v) ++ D)
  formed_crowd =
      let q = none_whole (flags_up_to D v) D none_free in
      record {
        numbers_ok = numbers_whole exists L D v few numbers_ok;
        first = none_first (quantifiers (map (variable exists) (flags_up_to D v) ++ D)) q;
        few = ap (λ (n : ℕ). leb n most_free) (no_variable_free (map (variable exists) (flags_up_to D v) ++ D) q);
      }

  formed_flags : length (flags_up_to D v) ≤ most_free → Formed L (map (variable free) (flags_up_to D v) ++ D)
  formed_flags h =
      record {
        numbers_ok = numbers_whole free L D v few numbers_ok;
        first = flags_first (flags_up_to D v) D none_free;
        few = ap (λ (n : ℕ). leb n most_free) (flags_counted (flags_up_to D v) D none_free) ∙ le-leb (length (flags_up_to D v)) most_free h;
      }

  pub formed_whole : Formed L (map (variable (quantifier_of (kind_for (crowd_for (length (flags_up_to D v)))))) (flags_up_to D v) ++ D)
  formed_whole = by (length (flags_up_to D v)) refl (ltb most_free (length (flags_up_to D v))) refl
    where
      by : (n : ℕ) → length (flags_up_to D v) ≡ n → (b : Bool) → ltb most_free (length (flags_up_to D v)) ≡ b → Formed L (map (variable (quantifier_of (kind_for (cond b n 0)))) (flags_up_to D v) ++ D)
      by n e false h = formed_flags (ltb-false most_free (length (flags_up_to D v)) h)
      by zero e true h = absurd (let z : most_free < length (flags_up_to D v) = ltb-true most_free (length (flags_up_to D v)) h in omega (arith, z, e))
      by (suc m) e true h = formed_crowd
