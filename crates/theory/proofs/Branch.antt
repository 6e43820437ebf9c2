-- A branch over sound sides is sound.
use Prim.Native.Nat.{ℕ, suc, ◌≤◌}
use native.Mathlib.Omega.{arith}
use mathlib.Core.Path.{◌≡◌, refl, sym, ap, ◌∙◌}
use mathlib.Core.Logic.{◌⊎◌, inl, inr}
use mathlib.Core.Bool.{Bool, true, false}
use mathlib.Core.List.{List, ◌∷◌}
use lib.ListN.{length, drop}
use lib.Dec.{eqb}
use Rattle.qbf.specs.Formula.{Clause, Literal, Node, Prefix, Quantifier, ◌▹◌, has, place, quantifier_at, quantifiers, value_at}
use Rattle.qbf.specs.Learning.{Constraint, dropped, last_place, mentions, resolvent, without}
use Rattle.qbf.specs.Card.{Mem}
use Rattle.theory.proofs.Basics.{dichotomy, length-▹, value_low, value_top, has_le, has_up, has_agrees, eqb_true, false_eqb}
use Rattle.theory.proofs.Rest.{drop_lt, rest_kind}
use Rattle.theory.proofs.Game.{Rising}
use Rattle.theory.proofs.Constraints.{last_max}
use Rattle.theory.proofs.Sets.{Covers, without_old, union_left, union_right, mentions→, twins}
use Rattle.theory.proofs.Shape.{last_held, shaped_up, ends_above, held_above, united, united_held, united_rising, united_high}
use Rattle.theory.proofs.Claim.{Wins, wins_both, Good, good}
use Rattle.theory.proofs.Leaves.{Valid}

module _ (D : Prefix) (R : List Clause) (ok : (r : Clause) → Mem r R → Rising D 0 r) where
  pub good_valid : (v : Bool) (E : Constraint) (s : Node) → Good D R v E s → Valid D R v E
  good_valid v E s g =
      record {
        formed = g.shaped.formed;
        exact = λ t e h. g.claim t (omega (arith, e)) (omega (arith, e, last_held D v E s g.shaped.held)) h (λ p a b o. absurd (omega (arith, e, a, b)));
      }

  module _ (κ : Quantifier) (ks : List Quantifier) (s : Node) (rest : drop (length s) (quantifiers D) ≡ κ ∷ ks) where
    -- a side's constraint goes up where the side's variable is one that is dropped, or is not named
    pub lift : (v : Bool) (E : Constraint) (b : Bool) → (dropped v κ ≡ true) ⊎ (mentions D (suc (length s)) E ≡ false) → Good D R v E (s ▹ b) → Good D R v E s
    lift v E b o g =
        record {
          shaped = shaped_up D v s E b g.shaped (ends_above D v s κ (rest_kind D s κ ks rest) E b g.shaped o);
          claim = λ t ge le q agree. g.claim t ge (omega (arith, le, length-▹ s b)) q (λ p a c o. agree p a c o ∙ sym (value_low s b p (omega (arith, c, le))));
        }

    -- two constraints that name the place are joined
    pub resolvent_good : (v : Bool) (A B : Constraint) → dropped v κ ≡ false → mentions D (suc (length s)) A ≡ true → mentions D (suc (length s)) B ≡ true → Good D R v A (s ▹ false) → Good D R v B (s ▹ true) → Good D R v (resolvent D (suc (length s)) v A B) s
    resolvent_good v A B o na nb a b =
        good D R v U s (omega (arith, drop_lt (quantifiers D) (length s) κ ks rest)) (λ l m h. at_s l m) wins (united_rising D v s A B a.shaped b.shaped) (united_high D v s A B a.shaped b.shaped)
      where
        p : ℕ
        p = suc (length s)

        U : Constraint
        U = united D v s A B a.shaped b.shaped

        at_s : (l : Literal) → Mem l U → has D v s l ≡ true
        at_s l m = united_held D v s A B a.shaped b.shaped l m

        side : (u : Node) → length u ≡ length s → ((l : Literal) → Mem l U → place D l ≤ length s → has D v u l ≡ true)
            → (E : Constraint) (c : Bool) → mentions D p E ≡ true → Good D R v E (s ▹ c) → ((l : Literal) → Mem l (without D p E) → Covers D U (place D l)) → Wins D R v (u ▹ c)
        side u eq h E c nm g cov =
            g.claim (u ▹ c) (omega (arith, eq, length-▹ u c, length-▹ s c, last_held D v E (s ▹ c) g.shaped.held)) (omega (arith, eq, length-▹ u c, length-▹ s c))
            (λ l m. there l m (dichotomy (eqb (place D l) p)))
            (λ q lo hi w. absurd (omega (arith, lo, hi, eq, length-▹ u c, ends)))
          where
            w : Covers D E p
            w = mentions→ D p E nm

            ends : p ≤ last_place D E
            ends = omega (arith, w.2, last_max D 0 E g.shaped.formed.rising w.0 w.1)

            there : (l : Literal) → Mem l E → (eqb (place D l) p ≡ true) ⊎ (eqb (place D l) p ≡ false) → has D v (u ▹ c) l ≡ true
            there l m (inl e) =
                has_agrees D v (u ▹ c) (s ▹ c) l
                (ap (value_at (u ▹ c)) (eqb_true (place D l) p e ∙ ap suc (sym eq)) ∙ value_top u c ∙ sym (value_top s c) ∙ ap (value_at (s ▹ c)) (sym (eqb_true (place D l) p e)))
                ∙ g.shaped.held l m
            there l m (inr e) =
                let n : Mem l (without D p E) = without_old D p E l m (false_eqb (place D l) p e) in
                let k = cov l n in
                let q = at_s k.0 k.1 in
                has_up D v u c l (twins D v s u l k.0 (sym k.2) (held_above D v s E c g.shaped.held l n) q (h k.0 k.1 (has_le D v s k.0 q)))

        wins : (u : Node) → length u ≡ length s → ((l : Literal) → Mem l U → place D l ≤ length s → has D v u l ≡ true) → Wins D R v u
        wins u eq h =
            wins_both D R v u (omega (arith, eq, drop_lt (quantifiers D) (length s) κ ks rest)) (ap (λ (i : ℕ). dropped v (quantifier_at D (suc i))) eq ∙ ap (dropped v) (rest_kind D s κ ks rest) ∙ o) by
          where
            by : (c : Bool) → Wins D R v (u ▹ c)
            by false = side u eq h A false na a (λ l m. union_left D (without D p A) (without D p B) l m)
            by true = side u eq h B true nb b (λ l m. (l, union_right D (without D p A) (without D p B) l m, refl))
