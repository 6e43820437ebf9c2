-- The shape of a constraint at a node: its literals all have the polarity's truth value there, they stand in place order, and reduction
-- drops none. It needs no truth, so that it holds of what a search makes on any well-formed state.
use Prim.Native.Nat.{ℕ, suc, ◌≤◌, ◌<◌}
use native.Mathlib.Omega.{arith}
use mathlib.Core.Path.{◌≡◌, sym, ap, ◌∙◌}
use mathlib.Core.Logic.{◌⊎◌, inl, inr}
use mathlib.Core.Bool.{Bool, true, false, true≢false}
use mathlib.Core.List.{[]}
use lib.ListN.{length}
use Rattle.qbf.specs.Formula.{Literal, Node, Prefix, Quantifier, ◌▹◌, has, place, quantifier_at}
use Rattle.qbf.specs.Truth.{Outcome, decided}
use Rattle.qbf.specs.Learning.{Constraint, dropped, going_up, last_place, mentions, reduce, resolvent, union, without}
use Rattle.qbf.specs.Card.{Mem}
use Rattle.theory.proofs.Basics.{length-▹, has_le, has_low, le_or_lt}
use Rattle.theory.proofs.Game.{Rising, rising_above}
use Rattle.theory.proofs.Constraints.{Reduced, last_max, last_mem, reduce_sub, reduce_rising, reduce_reduced, reduced_fixed}
use Rattle.theory.proofs.Sets.{without_sub, without_rising, union_rising, union_sub, →mentions}

abbrev pub Holds : Prefix → Bool → Constraint → Node → Type 0
Holds D v E s = (l : Literal) → Mem l E → has D v s l ≡ true

-- what does not depend on the node
pub record Formed (D : Prefix) (v : Bool) (E : Constraint) : Type 0 where
  pub rising : Rising D 0 E
  pub reduced : Reduced D v E

pub record Shaped (D : Prefix) (v : Bool) (E : Constraint) (s : Node) : Type 0 where
  pub held : Holds D v E s
  pub formed : Formed D v E

module _ (D : Prefix) (v : Bool) where
  -- "A side's bar or pass goes up reduced": it is reduced already
  pub goes_up_same : (E : Constraint) → Formed D v E → going_up D (decided v E) ≡ decided v E
  goes_up_same E f = ap {B = Outcome Constraint} (decided v) (reduced_fixed D v E f.reduced)

  pub shaped_empty : (s : Node) → Shaped D v [] s
  shaped_empty s = record { held = λ l m. absurd m; formed = record { rising = tt; reduced = reduce_reduced D v [] } }

  pub last_held : (E : Constraint) (s : Node) → Holds D v E s → last_place D E ≤ length s
  last_held E s h = by (last_mem D 0 E)
    where
      by : (last_place D E ≡ 0) ⊎ ((l : Literal) × Mem l E × (place D l ≡ last_place D E)) → last_place D E ≤ length s
      by (inl e) = omega (arith, e)
      by (inr w) = omega (arith, w.2, has_le D v s w.0 (h w.0 w.1))

  -- what holds within the node, and is dropped beyond it, is shaped once it is reduced
  pub shaped_reduced : (U : Constraint) (s : Node) → Rising D 0 U
      → ((l : Literal) → Mem l U → place D l ≤ length s → has D v s l ≡ true)
      → ((l : Literal) → Mem l U → length s < place D l → dropped v (quantifier_at D (place D l)) ≡ true)
      → Shaped D v (reduce D v U) s
  shaped_reduced U s up low high =
      record {
        held = λ l m. low l (reduce_sub D v U l m) (omega (arith, small, last_max D 0 (reduce D v U) (reduce_rising D v 0 U up) l m));
        formed = record { rising = reduce_rising D v 0 U up; reduced = reduce_reduced D v U };
      }
    where
      small : last_place D (reduce D v U) ≤ length s
      small = by (le_or_lt (last_place D (reduce D v U)) (length s)) (last_mem D 0 (reduce D v U))
        where
          by : (last_place D (reduce D v U) ≤ length s) ⊎ (length s < last_place D (reduce D v U))
              → (last_place D (reduce D v U) ≡ 0) ⊎ ((l : Literal) × Mem l (reduce D v U) × (place D l ≡ last_place D (reduce D v U))) → last_place D (reduce D v U) ≤ length s
          by (inl h) q = h
          by (inr h) (inl q) = omega (arith, q)
          by (inr h) (inr w) =
              absurd (true≢false (sym (high w.0 (reduce_sub D v U w.0 w.1) (omega (arith, h, w.2)))
              ∙ ap (λ (i : ℕ). dropped v (quantifier_at D i)) w.2 ∙ reduce_reduced D v U))

  module _ (s : Node) where
    -- a side's constraint that ends above goes up
    pub shaped_up : (E : Constraint) (b : Bool) → Shaped D v E (s ▹ b) → last_place D E ≤ length s → Shaped D v E s
    shaped_up E b g h = record { held = λ l m. sym (has_low D v s b l (omega (arith, h, last_max D 0 E g.formed.rising l m))) ∙ g.held l m; formed = g.formed }

    -- a side's constraint ends above if the side's variable is one that is dropped, or is not named
    pub ends_above : (κ : Quantifier) → quantifier_at D (suc (length s)) ≡ κ → (E : Constraint) (b : Bool) → Shaped D v E (s ▹ b)
        → (dropped v κ ≡ true) ⊎ (mentions D (suc (length s)) E ≡ false) → last_place D E ≤ length s
    ends_above κ kind E b g o = above (last_place D E) (last_held E (s ▹ b) g.held) (λ e. elsewhere e o (last_mem D 0 E))
      where
        above : (m : ℕ) → m ≤ length (s ▹ b) → (m ≡ suc (length s) → ⊥) → m ≤ length s
        above m h k = omega (arith, h, k, length-▹ s b)

        elsewhere : last_place D E ≡ suc (length s) → (dropped v κ ≡ true) ⊎ (mentions D (suc (length s)) E ≡ false)
            → (last_place D E ≡ 0) ⊎ ((l : Literal) × Mem l E × (place D l ≡ last_place D E)) → ⊥
        elsewhere e (inl q) w = true≢false (sym q ∙ ap (dropped v) (sym kind) ∙ ap (λ (i : ℕ). dropped v (quantifier_at D i)) (sym e) ∙ g.formed.reduced)
        elsewhere e (inr q) (inl z) = omega (arith, e, z)
        elsewhere e (inr q) (inr w) = true≢false (sym (→mentions D (suc (length s)) E (w.0, w.1, w.2 ∙ e)) ∙ q)

    -- a literal that is not of the side's place has its value at the node
    pub held_above : (E : Constraint) (c : Bool) → Holds D v E (s ▹ c) → Holds D v (without D (suc (length s)) E) s
    held_above E c h l m = let w = without_sub D (suc (length s)) E l m in sym (has_low D v s c l (above (place D l) (has_le D v (s ▹ c) l (h l w.0)) w.1)) ∙ h l w.0
      where
        above : (n : ℕ) → n ≤ length (s ▹ c) → (n ≡ suc (length s) → ⊥) → n ≤ length s
        above n q k = omega (arith, q, k, length-▹ s c)

    -- the two sides' constraints without the side's place, united
    module _ (A B : Constraint) (a : Shaped D v A (s ▹ false)) (b : Shaped D v B (s ▹ true)) where
      abbrev pub united : Constraint
      united = union D (without D (suc (length s)) A) (without D (suc (length s)) B)

      pub united_held : Holds D v united s
      united_held l m = by (union_sub D (without D (suc (length s)) A) (without D (suc (length s)) B) l m)
        where
          by : Mem l (without D (suc (length s)) A) ⊎ Mem l (without D (suc (length s)) B) → has D v s l ≡ true
          by (inl n) = held_above A false a.held l n
          by (inr n) = held_above B true b.held l n

      pub united_rising : Rising D 0 united
      united_rising =
          union_rising D 0 (without D (suc (length s)) A) (without D (suc (length s)) B)
          (λ l m. rising_above D 0 A a.formed.rising l (without_sub D (suc (length s)) A l m).0) (without_rising D 0 (suc (length s)) B b.formed.rising)

      pub united_high : (l : Literal) → Mem l united → length s < place D l → dropped v (quantifier_at D (place D l)) ≡ true
      united_high l m h = absurd (omega (arith, h, has_le D v s l (united_held l m)))

      pub shaped_resolvent : Shaped D v (resolvent D (suc (length s)) v A B) s
      shaped_resolvent = shaped_reduced united s united_rising (λ l m h. united_held l m) united_high
