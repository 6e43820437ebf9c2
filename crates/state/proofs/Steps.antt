-- The levels of a prefix place by place: each level is the one that its quantifier gives beside the place before.
use Prim.Native.Nat.{ℕ, zero, suc, ◌+◌, ◌-◌, ◌≤◌, ◌<◌}
use native.Mathlib.Numerals.{add-one}
use native.Mathlib.Omega.{arith}
use mathlib.Core.Path.{◌≡◌, refl, sym, ap, ◌∙◌}
use mathlib.Core.Logic.{◌⊎◌, inl, inr}
use mathlib.Core.Bool.{Bool, true, false, cond, not, ◌&&◌}
use mathlib.Core.List.{List, [], ◌∷◌}
use lib.ListN.{get_or}
use lib.Dec.{leb, eqb}
use borrow.Author.Tests.{eqb-true, leb-true, le-leb, lt-leb, not-true, not-false}
use Rattle.qbf.specs.Formula.{Limits, Quantifier, free, exists, forall, is_free, same_quantifier, quantifiers, level_beside, levels_from, levels}
use Rattle.qbf.specs.Calls.{free_first, no_free}
use Rattle.theory.proofs.Basics.{dichotomy, and_left}
use Rattle.state.specs.Reading.{listing, at_most, same, quantifier_of, entry_at, code_at, variable_at, prefix_of, levels_fit}
use Rattle.state.specs.Derived.{ordered, step_is_ok, levels_are_ok}

-- ---- one place
beside_same : (a b : ℕ) → a ≤ 2 → b ≤ 2 → a ≡ b → same_quantifier (quantifier_of a) (quantifier_of b) ≡ true
beside_same zero b h k e = ap (λ n. same_quantifier free (quantifier_of n)) (sym e)
beside_same (suc zero) b h k e = ap (λ n. same_quantifier exists (quantifier_of n)) (sym e)
beside_same (suc (suc a)) b h k e = ap (λ n. same_quantifier forall (quantifier_of n)) (sym e)

beside_other : (a b : ℕ) → a ≤ 2 → b ≤ 2 → (b ≡ 0 → ⊥) → (b ≡ a → ⊥) → same_quantifier (quantifier_of a) (quantifier_of b) ≡ false
beside_other a zero h k n e = absurd (n refl)
beside_other zero (suc zero) h k n e = refl
beside_other (suc zero) (suc zero) h k n e = absurd (e refl)
beside_other (suc (suc a)) (suc zero) h k n e = refl
beside_other zero (suc (suc b)) h k n e = refl
beside_other (suc zero) (suc (suc b)) h k n e = refl
beside_other (suc (suc zero)) (suc (suc zero)) h k n e = absurd (e refl)
beside_other (suc (suc (suc a))) (suc (suc b)) h k n e = absurd (by (omega (arith, h)))
  where
    by : ⊥ → ⊥
    by x = x
beside_other (suc (suc zero)) (suc (suc (suc b))) h k n e = absurd (by (omega (arith, k)))
  where
    by : ⊥ → ⊥
    by x = x

pub not_free : (b : ℕ) → (b ≡ 0 → ⊥) → is_free (quantifier_of b) ≡ false
not_free zero n = absurd (n refl)
not_free (suc zero) n = refl
not_free (suc (suc b)) n = refl

module _ (m a b : ℕ) (h : a ≤ 2) (k : b ≤ 2) (n : b ≡ 0 → ⊥) where
  pub level_same : b ≡ a → m ≡ level_beside m (quantifier_of a) (quantifier_of b)
  level_same e =
      sym
      (ap (λ (x : Bool). cond x 0 (cond (same_quantifier (quantifier_of a) (quantifier_of b)) m (suc m))) (not_free b n)
      ∙ ap (λ (x : Bool). cond x m (suc m)) (beside_same a b h k (sym e)))

  pub level_other : (b ≡ a → ⊥) → m + 1 ≡ level_beside m (quantifier_of a) (quantifier_of b)
  level_other e =
      add-one m
      ∙ sym
      (ap (λ (x : Bool). cond x 0 (cond (same_quantifier (quantifier_of a) (quantifier_of b)) m (suc m))) (not_free b n)
      ∙ ap (λ (x : Bool). cond x m (suc m)) (beside_other a b h k n e))

-- ---- all places
abbrev pub order_from : Quantifier → List Quantifier → Bool
order_from free ks = free_first ks
order_from exists ks = no_free ks
order_from forall ks = no_free ks

pub order_step : (c κ : Quantifier) (ks : List Quantifier) → order_from c (κ ∷ ks) ≡ (ordered c κ && order_from κ ks)
order_step free free ks = refl
order_step free exists ks = refl
order_step free forall ks = refl
order_step exists free ks = refl
order_step exists exists ks = refl
order_step exists forall ks = refl
order_step forall free ks = refl
order_step forall exists ks = refl
order_step forall forall ks = refl

shuffle : (a b s o A B S O : Bool) → (a && ((b && (s && o)) && ((A && B && S) && O))) ≡ ((a && A) && (b && B) && (s && S) && (o && O))
shuffle false b s o A B S O = refl
shuffle true false s o false B S O = refl
shuffle true false s o true B S O = refl
shuffle true true false o false B S O = refl
shuffle true true false o true false S O = refl
shuffle true true false o true true S O = refl
shuffle true true true false false B S O = refl
shuffle true true true false true false S O = refl
shuffle true true true false true true false O = refl
shuffle true true true false true true true O = refl
shuffle true true true true A B S O = refl

-- k places from i on, after one of level m and of code c
abbrev pub steps_from : ℕ → List ℕ → List ℕ → ℕ → ℕ → ℕ → ℕ → Bool
steps_from w ls ks m c i zero = true
steps_from w ls ks m c i (suc k) =
    leb (entry_at ls i) w && (step_is_ok m c (entry_at ls i) (code_at ls ks i) && steps_from w ls ks (entry_at ls i) (code_at ls ks i) (suc i) k)

module _ (w : ℕ) (ns ls ks : List ℕ) where
  abbrev kinds_from : ℕ → ℕ → List Quantifier
  kinds_from i k = quantifiers (listing (variable_at ns ls ks) i k)

  abbrev rest_is_ok : ℕ → Quantifier → ℕ → ℕ → Bool
  rest_is_ok m κ i k =
      (at_most w (listing (entry_at ls) i k) && at_most 2 (listing (code_at ls ks) i k) && same (levels_from m κ (kinds_from i k)) (listing (entry_at ls) i k))
      && order_from κ (kinds_from i k)

  steps_rest : (m c i k : ℕ) → steps_from w ls ks m c i k ≡ rest_is_ok m (quantifier_of c) i k
  steps_rest m c i zero = by (quantifier_of c)
    where
      by : (κ : Quantifier) → true ≡ order_from κ []
      by free = refl
      by exists = refl
      by forall = refl
  steps_rest m c i (suc k) =
      ap (λ (x : Bool). leb l w && (step_is_ok m c l d && x)) (steps_rest l d (suc i) k)
      ∙ shuffle (leb l w) (leb d 2) (eqb g l) (ordered (quantifier_of c) κ) (at_most w (listing (entry_at ls) (suc i) k)) (at_most 2 (listing (code_at ls ks) (suc i) k)) (rest l) (order_from κ (kinds_from (suc i) k))
      ∙ ap (λ (x : Bool). (leb l w && at_most w (listing (entry_at ls) (suc i) k)) && (leb d 2 && at_most 2 (listing (code_at ls ks) (suc i) k)) && x && (ordered (quantifier_of c) κ && order_from κ (kinds_from (suc i) k))) (by (dichotomy (eqb g l)))
      ∙ ap (λ (x : Bool). (leb l w && at_most w (listing (entry_at ls) (suc i) k)) && (leb d 2 && at_most 2 (listing (code_at ls ks) (suc i) k)) && (eqb g l && rest g) && x) (sym (order_step (quantifier_of c) κ (kinds_from (suc i) k)))
    where
      l : ℕ
      l = entry_at ls i

      d : ℕ
      d = code_at ls ks i

      κ : Quantifier
      κ = quantifier_of d

      g : ℕ
      g = level_beside m (quantifier_of c) κ

      rest : ℕ → Bool
      rest n = same (levels_from n κ (kinds_from (suc i) k)) (listing (entry_at ls) (suc i) k)

      by : (eqb g l ≡ true) ⊎ (eqb g l ≡ false) → (eqb g l && rest l) ≡ (eqb g l && rest g)
      by (inl e) = ap (λ (n : ℕ). eqb g l && rest n) (sym (eqb-true g l e))
      by (inr e) = ap (λ (x : Bool). x && rest l) e ∙ sym (ap (λ (x : Bool). x && rest g) e)

module _ (L : Limits) (ns ls ks : List ℕ) where
  pub steps_ok : get_or ns 0 0 ≤ L.numbers → levels_are_ok L ns ls ks ≡ steps_from L.numbers ls ks 0 0 0 (get_or ns 0 0)
  unfolding levels
  steps_ok few =
      ap (λ (x : Bool). x && levels_fit L ns ls ks && free_first (quantifiers (prefix_of ns ls ks))) (le-leb (get_or ns 0 0) L.numbers few)
      ∙ sym (steps_rest L.numbers ns ls ks 0 0 0 (get_or ns 0 0))

-- ---- the loop along the places, under the limit w; the last one has the level m and the code c
pub record Stepping (w : ℕ) (ns ls ks : List ℕ) (count m c i : ℕ) : Type 0 where
  pub whole : count ≡ get_or ns 0 0
  pub few : count ≤ w
  pub level : m ≤ w
  pub code : c ≤ 2
  pub judged : (L : Limits) → L.numbers ≡ w → levels_are_ok L ns ls ks ≡ steps_from w ls ks m c i (count - i)

pub stepping_none : (w : ℕ) (ns ls ks : List ℕ) {count : ℕ} → count ≡ get_or ns 0 0 → count ≤ w → Stepping w ns ls ks count 0 0 0
stepping_none w ns ls ks {count} is h =
    let e : get_or ns 0 0 ≡ count - 0 = omega (arith, is) in
    record {
      whole = is;
      few = h;
      level = omega arith;
      code = omega arith;
      judged = λ L q.
          steps_ok L ns ls ks (omega (arith, is, h, q))
          ∙ ap (λ (n : ℕ). steps_from n ls ks 0 0 0 (get_or ns 0 0)) q
          ∙ ap (steps_from w ls ks 0 0 0) e;
    }

-- the next level, read as l
pub record LevelRead (w : ℕ) (ns ls ks : List ℕ) (count m c i l : ℕ) : Type 0 where
  pub stepping : Stepping w ns ls ks count m c i
  pub more : i < count
  pub is : l ≡ entry_at ls i

module _ {w : ℕ} {ns ls ks : List ℕ} {count m c i l : ℕ} (t : LevelRead w ns ls ks count m c i l) where
  abbrev onward : ℕ → ℕ → Bool
  onward n d = leb n w && (step_is_ok m c n d && steps_from w ls ks n d (suc i) (count - suc i))

  next : (L : Limits) → L.numbers ≡ w → levels_are_ok L ns ls ks ≡ onward l (get_or ks l 0)
  next L q =
      let e : count - i ≡ suc (count - suc i) = omega (arith, t.more) in
      t.stepping.judged L q ∙ ap (steps_from w ls ks m c i) e ∙ ap (λ (n : ℕ). onward n (get_or ks n 0)) (sym t.is)

  pub level_high : w < l → (L : Limits) → L.numbers ≡ w → false ≡ levels_are_ok L ns ls ks
  level_high h L q = sym (next L q ∙ ap (λ (x : Bool). x && (step_is_ok m c l (get_or ks l 0) && steps_from w ls ks l (get_or ks l 0) (suc i) (count - suc i))) (lt-leb l w h))

-- its code, read as d, was tested with the answer r
pub record StepTested (w : ℕ) (ns ls ks : List ℕ) (count m c i l d : ℕ) (r : Bool) : Type 0 where
  pub level_read : LevelRead w ns ls ks count m c i l
  pub small : l ≤ w
  pub is : d ≡ get_or ks l 0
  pub said : r ≡ step_is_ok m c l d

module _ {w : ℕ} {ns ls ks : List ℕ} {count m c i l d : ℕ} {r : Bool} (t : StepTested w ns ls ks count m c i l d r) where
  tested : (L : Limits) → L.numbers ≡ w → levels_are_ok L ns ls ks ≡ (r && steps_from w ls ks l d (suc i) (count - suc i))
  tested L q =
      next t.level_read L q
      ∙ ap (onward t.level_read l) (sym t.is)
      ∙ ap (λ (x : Bool). x && (step_is_ok m c l d && steps_from w ls ks l d (suc i) (count - suc i))) (le-leb l w t.small)
      ∙ ap (λ (x : Bool). x && steps_from w ls ks l d (suc i) (count - suc i)) (sym t.said)

  pub step_bad : not r ≡ true → (L : Limits) → L.numbers ≡ w → false ≡ levels_are_ok L ns ls ks
  step_bad e L q = sym (tested L q ∙ ap (λ (x : Bool). x && steps_from w ls ks l d (suc i) (count - suc i)) (not-true r e))

  pub step_more : not r ≡ false → Stepping w ns ls ks count l d (i + 1)
  step_more e =
      rw add-one
      (record {
        whole = t.level_read.stepping.whole;
        few = t.level_read.stepping.few;
        level = t.small;
        code = leb-true d 2 (and_left (leb d 2) (eqb (level_beside m (quantifier_of c) (quantifier_of d)) l && ordered (quantifier_of c) (quantifier_of d)) (sym t.said ∙ not-false r e));
        judged = λ L q. tested L q ∙ ap (λ (x : Bool). x && steps_from w ls ks l d (suc i) (count - suc i)) (not-false r e);
      })
