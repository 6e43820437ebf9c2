-- What a constraint that a visit returns is good for.
use Prim.Native.Nat.{ℕ, zero, suc, ◌+◌, ◌-◌, ◌≤◌, ◌<◌}
use native.Mathlib.Omega.{arith}
use mathlib.Core.Path.{◌≡◌, sym, ap, ◌∙◌, subst}
use mathlib.Core.Logic.{◌⊎◌, inl, inr}
use mathlib.Core.Bool.{Bool, true, false, beq, true≢false}
use mathlib.Core.List.{List}
use lib.ListN.{length, get_or, drop}
use Rattle.qbf.specs.Formula.{Clause, Literal, Node, Prefix, Quantifier, ◌▹◌, equals, free, has, place, positive, quantifier_at, quantifiers, value_at}
use Rattle.qbf.specs.Learning.{Constraint, dropped, last_place, reduce}
use Rattle.qbf.specs.Card.{Mem}
use Rattle.theory.proofs.Basics.{dichotomy, length-▹, value_some, le_or_lt, has_agrees, has_up, beq→≡}
use Rattle.theory.proofs.Rest.{drop_cons}
use Rattle.theory.proofs.Game.{Rising, Win, win_one, win_both, has_top}
use Rattle.theory.proofs.Constraints.{last_max, reduce_rising, reduce_rest}
use Rattle.theory.proofs.Shape.{Holds, Shaped, shaped_reduced}

module _ (D : Prefix) (R : List Clause) (v : Bool) where
  -- the node t wins with what is left after it
  abbrev pub Wins : Node → Type 0
  Wins t = Win D R v (drop (length t) (quantifiers D)) t

  abbrev pub Claim : Constraint → Node → Type 0
  Claim E s =
      (t : Node) → last_place D E ≤ length t → length t ≤ length s → Holds D v E t
      → ((p : ℕ) → last_place D E < p → p ≤ length t → dropped v (quantifier_at D p) ≡ true → value_at t p ≡ value_at s p)
      → Wins t

  pub record Good (E : Constraint) (s : Node) : Type 0 where
    pub shaped : Shaped D v E s
    pub claim : Claim E s

  -- one step of the game, in terms of the whole declaration
  pub wins_one : (t : Node) (b : Bool) → length t < length (quantifiers D) → dropped v (quantifier_at D (suc (length t))) ≡ true → Wins (t ▹ b) → Wins t
  wins_one t b h o w =
      subst (λ (ks : List Quantifier). Win D R v ks t) (sym (drop_cons (quantifiers D) (length t) h))
      (win_one D R v (get_or (quantifiers D) (length t) free) (drop (suc (length t)) (quantifiers D)) t b o (subst (λ (i : ℕ). Win D R v (drop i (quantifiers D)) (t ▹ b)) (length-▹ t b) w))

  pub wins_both : (t : Node) → length t < length (quantifiers D) → dropped v (quantifier_at D (suc (length t))) ≡ false → ((b : Bool) → Wins (t ▹ b)) → Wins t
  wins_both t h o w =
      subst (λ (ks : List Quantifier). Win D R v ks t) (sym (drop_cons (quantifiers D) (length t) h))
      (win_both D R v (get_or (quantifiers D) (length t) free) (drop (suc (length t)) (quantifiers D)) t o (λ b. subst (λ (i : ℕ). Win D R v (drop i (quantifiers D)) (t ▹ b)) (length-▹ t b) (w b)))

  module _ (U : Constraint) (s : Node) (small : length s ≤ length (quantifiers D)) (low : (l : Literal) → Mem l U → place D l ≤ length s → has D v s l ≡ true)
      (wins : (u : Node) → length u ≡ length s → ((l : Literal) → Mem l U → place D l ≤ length s → has D v u l ≡ true) → Wins u) where
    -- the winner plays as at s on its own places
    extend : (d : ℕ) (t : Node) → length t + d ≡ length s
        → ((l : Literal) → Mem l U → place D l ≤ length t → has D v t l ≡ true)
        → ((l : Literal) → Mem l U → length t < place D l → place D l ≤ length s → dropped v (quantifier_at D (place D l)) ≡ true)
        → Wins t
    extend zero t e lo hi = wins t (omega (arith, e)) (λ l m h. lo l m (omega (arith, e, h)))
    extend (suc d) t e lo hi = by (dichotomy (dropped v (quantifier_at D (suc (length t)))))
        (λ b q. extend d (t ▹ b) (omega (arith, e, length-▹ t b)) q (λ l m h g. hi l m (omega (arith, h, length-▹ t b)) g))
      where
        here : ℕ → Bool
        here i = get_or s i false

        at_dropped : (l : Literal) → Mem l U → (place D l ≤ length t) ⊎ (length t < place D l) → place D l ≤ length (t ▹ here (length t)) → has D v (t ▹ here (length t)) l ≡ true
        at_dropped l m (inl h) g = has_up D v t (here (length t)) l (lo l m h)
        at_dropped l m (inr h) g =
            let p : place D l ≡ suc (length t) = omega (arith, h, g, length-▹ t (here (length t))) in
            has_top D R v t (here (length t)) l p
            (sym (beq→≡ (here (length t)) (beq v (positive l))
            (sym (ap (λ o. equals o (beq v (positive l))) (ap (value_at s) p ∙ value_some s (length t) (omega (arith, e)))) ∙ low l m (omega (arith, p, e)))))

        at_other : dropped v (quantifier_at D (suc (length t))) ≡ false → (b : Bool) (l : Literal) → Mem l U → (place D l ≤ length t) ⊎ (length t < place D l) → place D l ≤ length (t ▹ b) → has D v (t ▹ b) l ≡ true
        at_other o b l m (inl h) g = has_up D v t b l (lo l m h)
        at_other o b l m (inr h) g =
            let p : place D l ≡ suc (length t) = omega (arith, h, g, length-▹ t b) in
            absurd (true≢false (sym (hi l m h (omega (arith, p, e))) ∙ ap (λ (i : ℕ). dropped v (quantifier_at D i)) p ∙ o))

        by : (dropped v (quantifier_at D (suc (length t))) ≡ true) ⊎ (dropped v (quantifier_at D (suc (length t))) ≡ false)
            → ((b : Bool) → ((l : Literal) → Mem l U → place D l ≤ length (t ▹ b) → has D v (t ▹ b) l ≡ true) → Wins (t ▹ b)) → Wins t
        by (inl o) w = wins_one t (here (length t)) (omega (arith, e, small)) o (w (here (length t)) (λ l m g. at_dropped l m (le_or_lt (place D l) (length t)) g))
        by (inr o) w = wins_both t (omega (arith, e, small)) o (λ b. w b (λ l m g. at_other o b l m (le_or_lt (place D l) (length t)) g))

    -- what is reduced is good
    module _ (up : Rising D 0 U) (high : (l : Literal) → Mem l U → length s < place D l → dropped v (quantifier_at D (place D l)) ≡ true) where
      pub good : Good (reduce D v U) s
      good = record {
        shaped = shaped_reduced D v U s up low high;
        claim = λ t ge le h agree. cl t ge le h agree (le_or_lt (length s) (length t));
      }
        where
          cl : (t : Node) → last_place D (reduce D v U) ≤ length t → length t ≤ length s → Holds D v (reduce D v U) t
              → ((p : ℕ) → last_place D (reduce D v U) < p → p ≤ length t → dropped v (quantifier_at D p) ≡ true → value_at t p ≡ value_at s p)
              → (length s ≤ length t) ⊎ (length t < length s) → Wins t
          cl t ge le h agree q =
              extend (length s - length t) t (omega (arith, le))
              (λ l m g. lows l g (reduce_rest D v 0 U up l m) (low l m (omega (arith, g, le))))
              (λ l m g k. highs l g (reduce_rest D v 0 U up l m))
            where
              lows : (l : Literal) → place D l ≤ length t → Mem l (reduce D v U) ⊎ ((dropped v (quantifier_at D (place D l)) ≡ true) × (last_place D (reduce D v U) < place D l)) → has D v s l ≡ true → has D v t l ≡ true
              lows l g (inl m) z = h l m
              lows l g (inr w) z = has_agrees D v t s l (agree (place D l) w.1 g w.0) ∙ z

              highs : (l : Literal) → length t < place D l → Mem l (reduce D v U) ⊎ ((dropped v (quantifier_at D (place D l)) ≡ true) × (last_place D (reduce D v U) < place D l)) → dropped v (quantifier_at D (place D l)) ≡ true
              highs l g (inl m) = absurd (omega (arith, g, ge, last_max D 0 (reduce D v U) (reduce_rising D v 0 U up) l m))
              highs l g (inr w) = w.0
