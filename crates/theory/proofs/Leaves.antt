-- A visit that is decided without branching hands back a shaped constraint, and a good one if the store is sound.
use Prim.Native.Nat.{ℕ, zero, suc, ◌≤◌, ◌<◌, suc-le-suc, zero-le}
use native.Mathlib.Nat.{le_refl}
use native.Mathlib.Omega.{arith}
use mathlib.Core.Path.{◌≡◌, refl, sym, ap, ◌∙◌, subst}
use mathlib.Core.Logic.{◌⊎◌, inl, inr}
use mathlib.Core.Bool.{Bool, true, false, ◌&&◌, beq, true≢false, false≢true}
use mathlib.Core.List.{List, [], ◌∷◌}
use mathlib.Core.Option.{Option, none, some}
use lib.ListN.{length, take, drop}
use lib.Seq.{take-length}
use lib.Dec.{eqb}
use Rattle.qbf.specs.Formula.{Clause, Limits, Literal, Node, Prefix, all, dead, equals, has, place, positive, quantifier_at, quantifiers, satisfied, value_at}
use Rattle.qbf.specs.Learning.{Constraint, Store, dropped, empty_store, first, implicant, insert, insert_found, last_place, learn, reduce}
use Rattle.qbf.specs.Card.{Mem}
use Rattle.theory.proofs.Basics.{all→, →all, →any, and_left, and_right, has_le, eqb_true}
use Rattle.theory.proofs.Game.{Rising, win_satisfied, Dead, dead→Dead, win_dead}
use Rattle.theory.proofs.Shape.{Formed, Holds, Shaped, shaped_reduced}
use Rattle.theory.proofs.Stores.{RecordedStore, ShapedStore, Stored, recorded_empty, recorded_learn, stored_empty, stored_learn}
use Rattle.theory.proofs.Induction.{LeafCases, hits}
use Rattle.theory.proofs.Claim.{Wins, Claim, Good, good}
use Rattle.theory.proofs.Sets.{Covers, covers_more, insert_rising, insert_sub, insert_old, insert_new, twins, Found, found}

-- ---- the cube of a node that satisfies every clause
has_place : (D : Prefix) (v : Bool) (s : Node) (l : Literal) → has D v s l ≡ true → 0 < place D l
has_place D v s l e = by (place D l) refl
  where
    by : (p : ℕ) → place D l ≡ p → 0 < p
    by zero q = absurd (false≢true (sym (ap (λ (i : ℕ). equals (value_at s i) (beq v (positive l))) q) ∙ e))
    by (suc i) q = suc-le-suc zero-le

module _ (D : Prefix) (s : Node) where
  abbrev True : Constraint → Type 0
  True E = Holds D true E s

  found_rising : (o : Option Literal) (r : Clause) → Found (has D true s) r o → (E : Constraint) → Rising D 0 E → Rising D 0 (insert_found D o E)
  found_rising none r w E up = up
  found_rising (some l) r w E up = insert_rising D 0 l E (has_place D true s l w.1) up

  found_holds : (o : Option Literal) (r : Clause) → Found (has D true s) r o → (E : Constraint) → True E → True (insert_found D o E)
  found_holds none r w E h l m = h l m
  found_holds (some k) r w E h l m = by (insert_sub D k E l m)
    where
      by : (l ≡ k) ⊎ Mem l E → has D true s l ≡ true
      by (inl p) = ap (has D true s) p ∙ w.1
      by (inr n) = h l n

  found_old : (o : Option Literal) (E : Constraint) (l : Literal) → Mem l E → Mem l (insert_found D o E)
  found_old none E l m = m
  found_old (some k) E l m = insert_old D k E l m

  pub implicant_rising : (rs : List Clause) (E : Constraint) → Rising D 0 E → Rising D 0 (implicant D s rs E)
  implicant_rising [] E up = up
  implicant_rising (r ∷ rs) E up = implicant_rising rs (insert_found D (first (has D true s) r) E) (found_rising (first (has D true s) r) r (found (has D true s) r) E up)

  pub implicant_holds : (rs : List Clause) (E : Constraint) → True E → True (implicant D s rs E)
  implicant_holds [] E h = h
  implicant_holds (r ∷ rs) E h = implicant_holds rs (insert_found D (first (has D true s) r) E) (found_holds (first (has D true s) r) r (found (has D true s) r) E h)

  implicant_old : (rs : List Clause) (E : Constraint) (l : Literal) → Mem l E → Mem l (implicant D s rs E)
  implicant_old [] E l m = m
  implicant_old (r ∷ rs) E l m = implicant_old rs (insert_found D (first (has D true s) r) E) l (found_old (first (has D true s) r) E l m)

  -- each clause has a true literal whose place the cube names
  pub implicant_covers : (rs : List Clause) (E : Constraint) → all (satisfied D s) rs ≡ true → (r : Clause) → Mem r rs → (l : Literal) × Mem l r × (has D true s l ≡ true) × Covers D (implicant D s rs E) (place D l)
  implicant_covers [] E e r m = absurd m
  implicant_covers (q ∷ rs) E e r (inl p) = by (first (has D true s) q) (found (has D true s) q)
    where
      by : (o : Option Literal) → Found (has D true s) q o → (l : Literal) × Mem l r × (has D true s l ≡ true) × Covers D (implicant D s rs (insert_found D o E)) (place D l)
      by none w = absurd (true≢false (sym (and_left (satisfied D s q) (all (satisfied D s) rs) e) ∙ w))
      by (some l) w = (
        l,
        subst (λ (x : Clause). Mem l x) (sym p) w.0,
        w.1,
        covers_more D (insert D l E) (implicant D s rs (insert D l E)) (place D l) (λ x n. implicant_old rs (insert D l E) x n) (insert_new D l E),
      )
  implicant_covers (q ∷ rs) E e r (inr m) = implicant_covers rs (insert_found D (first (has D true s) q) E) (and_right (satisfied D s q) (all (satisfied D s) rs) e) r m

  pub implicant_true : (rs : List Clause) → True (implicant D s rs [])
  implicant_true rs = implicant_holds rs [] (λ l m. absurd m)

  pub implicant_high : (rs : List Clause) (l : Literal) → Mem l (implicant D s rs []) → length s < place D l → dropped true (quantifier_at D (place D l)) ≡ true
  implicant_high rs l m h = absurd (omega (arith, h, has_le D true s l (implicant_true rs l m)))

  -- a stored constraint that is found
  pub shaped_learned : (eligible : ℕ → ℕ → Bool) (v : Bool) (E : Constraint) → Formed D v E → (eligible (last_place D E) (length s) && all (has D v s) E) ≡ true → Shaped D v E s
  shaped_learned eligible v E f e = record { held = all→ (has D v s) E (and_right (eligible (last_place D E) (length s)) (all (has D v s) E) e); formed = f }

-- ---- shaped
module _ (D : Prefix) (R : List Clause) (ok : (r : Clause) → Mem r R → Rising D 0 r) where
  pub shaped_leaves : (L : Limits) (s : Node) (st : Store) → ShapedStore L D st → (eligible : ℕ → ℕ → Bool) → LeafCases D R s eligible st (λ v E. Shaped D v E s)
  shaped_leaves L s st h eligible =
      record {
        dead_clause = λ r m e. let d = dead→Dead D R s r (ok r m) e in shaped_reduced D false r s (ok r m) d.low d.high;
        all_satisfied = λ e. shaped_reduced D true (implicant D s R []) s (implicant_rising D s R [] tt) (λ l m h. implicant_true D s R l m) (implicant_high D s R);
        matched = λ v E m e. shaped_learned D s eligible v E (h.each v E m) e;
      }

-- ---- good
-- what is asked of a stored constraint
pub record Valid (D : Prefix) (R : List Clause) (v : Bool) (E : Constraint) : Type 0 where
  pub formed : Formed D v E
  pub exact : (t : Node) → length t ≡ last_place D E → Holds D v E t → Wins D R v t

-- what is asked of a learned clause with its record k: the first k clauses stand, and it is valid by them
pub record ByFirst (D : Prefix) (R : List Clause) (k : ℕ) (E : Constraint) : Type 0 where
  pub within : k ≤ length R
  pub valid : Valid D (take k R) false E

pub record SoundStore (L : Limits) (D : Prefix) (R : List Clause) (st : Store) : Type 0 where
  pub stored : Stored (Valid D R) L st
  pub recorded : RecordedStore (ByFirst D R) st

-- what is learned rests on all clauses that stand
pub sound_learn : (L : Limits) → 1 ≤ L.constraints → (D : Prefix) (R : List Clause) (v : Bool) (E : Constraint) (st : Store) → Valid D R v E → SoundStore L D R st → SoundStore L D R (learn L (length R) v E st)
sound_learn L one D R v E st w h =
    record {
      stored = stored_learn (Valid D R) L one (length R) v E st w h.stored;
      recorded = recorded_learn (ByFirst D R) L (length R) v E st (λ e. record { within = le_refl (length R); valid = subst (λ (Q : List Clause). Valid D Q false E) (sym (take-length R)) (subst (λ (x : Bool). Valid D R x E) e w) }) h.recorded;
    }

pub sound_empty : (L : Limits) (D : Prefix) (R : List Clause) → SoundStore L D R empty_store
sound_empty L D R = record { stored = stored_empty (Valid D R) L; recorded = recorded_empty (ByFirst D R) }

-- eligible constraints that are valid and hold are good
abbrev pub Fair : Prefix → List Clause → (ℕ → ℕ → Bool) → Node → Type 0
Fair D R eligible s = (v : Bool) (E : Constraint) → Valid D R v E → eligible (last_place D E) (length s) ≡ true → Claim D R v E s

pub fair_inner : (D : Prefix) (R : List Clause) (s : Node) → Fair D R eqb s
fair_inner D R s v E w e t ge le h agree = w.exact t (omega (arith, ge, le, eqb_true (last_place D E) (length s) e)) h

module _ (D : Prefix) (R : List Clause) (ok : (r : Clause) → Mem r R → Rising D 0 r) where
  module _ (s : Node) (small : length s ≤ length (quantifiers D)) where
    good_dead : (r : Clause) → Mem r R → dead D s r ≡ true → Good D R false (reduce D false r) s
    good_dead r m e =
        good D R false r s small d.low wins (ok r m) d.high
      where
        d : Dead D R s r
        d = dead→Dead D R s r (ok r m) e

        wins : (u : Node) → length u ≡ length s → ((l : Literal) → Mem l r → place D l ≤ length s → has D false u l ≡ true) → Wins D R false u
        wins u q h =
            win_dead D R (drop (length u) (quantifiers D)) u r refl m (ok r m)
            (record { low = λ l n g. h l n (omega (arith, q, g)); high = λ l n g. d.high l n (omega (arith, q, g)) })

    good_satisfied : all (satisfied D s) R ≡ true → Good D R true (reduce D true (implicant D s R [])) s
    good_satisfied e = good D R true (implicant D s R []) s small (λ l m h. implicant_true D s R l m) wins (implicant_rising D s R [] tt) (implicant_high D s R)
      where
        wins : (u : Node) → length u ≡ length s → ((l : Literal) → Mem l (implicant D s R []) → place D l ≤ length s → has D true u l ≡ true) → Wins D R true u
        wins u q h = win_satisfied D R (drop (length u) (quantifiers D)) u (→all (satisfied D u) R one)
          where
            one : (r : Clause) → Mem r R → satisfied D u r ≡ true
            one r m =
                let w = implicant_covers D s R [] e r m in
                let c = w.3 in
                let t = implicant_true D s R c.0 c.1 in
                →any (has D true u) r w.0 w.1 (twins D true s u w.0 c.0 (sym c.2) w.2 t (h c.0 c.1 (has_le D true s c.0 t)))

    pub good_leaves : (L : Limits) (st : Store) → SoundStore L D R st → (eligible : ℕ → ℕ → Bool) → Fair D R eligible s → LeafCases D R s eligible st (λ v E. Good D R v E s)
    good_leaves L st h eligible fair = record { dead_clause = good_dead; all_satisfied = good_satisfied; matched = λ v E m e. by v E (h.stored.each v E m) e }
      where
        by : (v : Bool) (E : Constraint) → Valid D R v E → hits D R s eligible v E ≡ true → Good D R v E s
        by v E w e = record { shaped = shaped_learned D s eligible v E w.formed e; claim = fair v E w (and_left (eligible (last_place D E) (length s)) (all (has D v s) E) e) }
