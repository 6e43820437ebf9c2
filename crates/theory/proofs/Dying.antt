-- The first dead clause at an inner node, where none was dead one place above: it is the first clause whose reduction ends at the node's
-- last place and has all its literals false.
use Prim.Native.Nat.{◌≤◌, ◌<◌}
use native.Mathlib.Omega.{arith}
use mathlib.Core.Path.{◌≡◌, refl, sym, ap, ◌∙◌, subst}
use mathlib.Core.Logic.{◌⊎◌, inl, inr}
use mathlib.Core.Bool.{Bool, true, false, cond, ◌&&◌, ◌||◌, true≢false}
use mathlib.Core.List.{List, [], ◌∷◌, map}
use mathlib.Core.Option.{Option, none, some}
use lib.ListN.{length}
use lib.Dec.{eqb}
use Rattle.qbf.specs.Formula.{Clause, Literal, Node, Prefix, ◌▹◌, all, dead, has, is_open, place, quantifier_at, value_at}
use Rattle.qbf.specs.Learning.{Constraint, dropped, eligible_match, first, first_dead, last_place, lowest_dead, reach, reduce, reduced_found}
use Rattle.qbf.specs.Card.{Mem}
use Rattle.theory.proofs.Basics.{all→, any_false→, and_both, and_left, and_right, dichotomy, eqb_true, has_low, le_or_lt, length-▹, or_left, or_right, true_eqb, value_high, →all}
use Rattle.theory.proofs.Constraints.{last_max, reduce_rest, reduce_rising}
use Rattle.theory.proofs.Game.{Dead, Rising, dead→Dead}
use Rattle.theory.proofs.Sets.{Found, found}
use Rattle.theory.proofs.Lowest.{lowest_first}
use Rattle.theory.proofs.Shape.{Shaped, last_held, shaped_reduced}

module _ (D : Prefix) where
  -- what makes a literal of a dead clause pass: it is false, or it is open and forall
  abbrev lost : Node → Literal → Bool
  lost s l = has D false s l || (is_open (value_at s (place D l)) && dropped false (quantifier_at D (place D l)))

  lost_false : (s : Node) (l : Literal) → has D false s l ≡ true → lost s l ≡ true
  lost_false s l e = or_left (has D false s l) (is_open (value_at s (place D l)) && dropped false (quantifier_at D (place D l))) e

  lost_open : (s : Node) (l : Literal) → length s < place D l → dropped false (quantifier_at D (place D l)) ≡ true → lost s l ≡ true
  lost_open s l h e =
      or_right (has D false s l) (is_open (value_at s (place D l)) && dropped false (quantifier_at D (place D l)))
      (and_both (is_open (value_at s (place D l))) (dropped false (quantifier_at D (place D l))) (ap is_open (value_high s (place D l) h)) e)

  -- the clause's reduction ends at the node's last place, and all its literals are false there
  abbrev pub ends : Node → Constraint → Bool
  ends s e = eqb (last_place D e) (length s) && all (has D false s) e

  -- such a clause is dead: what reduction drops is forall, and open
  pub ends_dead : (s : Node) (c : Clause) → Rising D 0 c → ends s (reduce D false c) ≡ true → dead D s c ≡ true
  ends_dead s c up e = →all (lost s) c (λ l m. by l (reduce_rest D false 0 c up l m))
    where
      last : last_place D (reduce D false c) ≡ length s
      last = eqb_true (last_place D (reduce D false c)) (length s) (and_left (eqb (last_place D (reduce D false c)) (length s)) (all (has D false s) (reduce D false c)) e)

      by : (l : Literal) → Mem l (reduce D false c) ⊎ ((dropped false (quantifier_at D (place D l)) ≡ true) × (last_place D (reduce D false c) < place D l)) → lost s l ≡ true
      by l (inl m) = lost_false s l (all→ (has D false s) (reduce D false c) (and_right (eqb (last_place D (reduce D false c)) (length s)) (all (has D false s) (reduce D false c)) e) l m)
      by l (inr w) = lost_open s l (omega (arith, last, w.1)) w.0

  module _ (c : Clause) (up : Rising D 0 c) (s : Node) (b : Bool) where
    -- a clause that is dead one place below, and whose reduction ends above that place, is dead already
    dead_already : Dead D [] (s ▹ b) c → last_place D (reduce D false c) ≤ length s → dead D s c ≡ true
    dead_already d h = →all (lost s) c (λ l m. by l m (le_or_lt (place D l) (length s)) (reduce_rest D false 0 c up l m))
      where
        by : (l : Literal) → Mem l c → (place D l ≤ length s) ⊎ (length s < place D l)
            → Mem l (reduce D false c) ⊎ ((dropped false (quantifier_at D (place D l)) ≡ true) × (last_place D (reduce D false c) < place D l)) → lost s l ≡ true
        by l m (inl g) q = lost_false s l (sym (has_low D false s b l g) ∙ d.low l m (omega (arith, g, length-▹ s b)))
        by l m (inr g) (inl n) = absurd (omega (arith, g, h, last_max D 0 (reduce D false c) (reduce_rising D false 0 c up) l n))
        by l m (inr g) (inr w) = lost_open s l g w.0

    -- a clause that dies at the node: its reduction ends at the node's last place, and all its literals are false
    pub dead_ends : dead D s c ≡ false → dead D (s ▹ b) c ≡ true → ends (s ▹ b) (reduce D false c) ≡ true
    dead_ends alive e =
        and_both (eqb (last_place D (reduce D false c)) (length (s ▹ b))) (all (has D false (s ▹ b)) (reduce D false c))
        (true_eqb (last_place D (reduce D false c)) (length (s ▹ b)) (at (le_or_lt (last_place D (reduce D false c)) (length s))))
        (→all (has D false (s ▹ b)) (reduce D false c) shaped.held)
      where
        fell : Dead D [] (s ▹ b) c
        fell = dead→Dead D [] (s ▹ b) c up e

        shaped : Shaped D false (reduce D false c) (s ▹ b)
        shaped = shaped_reduced D false c (s ▹ b) up fell.low fell.high

        at : (last_place D (reduce D false c) ≤ length s) ⊎ (length s < last_place D (reduce D false c)) → last_place D (reduce D false c) ≡ length (s ▹ b)
        at (inl h) = absurd (true≢false (sym (dead_already fell h) ∙ alive))
        at (inr h) = omega (arith, h, length-▹ s b, last_held D false (reduce D false c) (s ▹ b) shaped.held)

    -- of a clause that is not dead one place above
    pub dies : dead D s c ≡ false → dead D (s ▹ b) c ≡ ends (s ▹ b) (reduce D false c)
    dies alive = by (dichotomy (dead D (s ▹ b) c)) (dichotomy (ends (s ▹ b) (reduce D false c)))
      where
        by : (dead D (s ▹ b) c ≡ true) ⊎ (dead D (s ▹ b) c ≡ false) → (ends (s ▹ b) (reduce D false c) ≡ true) ⊎ (ends (s ▹ b) (reduce D false c) ≡ false)
            → dead D (s ▹ b) c ≡ ends (s ▹ b) (reduce D false c)
        by (inl e) q = e ∙ sym (dead_ends alive e)
        by (inr e) (inl q) = absurd (true≢false (sym (ends_dead (s ▹ b) c up q) ∙ e))
        by (inr e) (inr q) = e ∙ sym q

  -- the first element that passes, then reduced, is the first that passes of those reduced
  first_reduced : (f g : Constraint → Bool) (R : List Clause) → ((r : Clause) → Mem r R → f r ≡ g (reduce D false r))
      → reduced_found D false (first f R) ≡ first g (map (reduce D false) R)
  first_reduced f g [] h = refl
  first_reduced f g (r ∷ R) h = by (f r) refl (first_reduced f g R (λ x m. h x (inr m)))
    where
      by : (x : Bool) → f r ≡ x → reduced_found D false (first f R) ≡ first g (map (reduce D false) R)
          → reduced_found D false (cond x (some r) (first f R)) ≡ first g (map (reduce D false) (r ∷ R))
      by true e ih = ap (λ (y : Bool). cond y (some (reduce D false r)) (first g (map (reduce D false) R))) (sym e ∙ h r (inl refl))
      by false e ih = ih ∙ ap (λ (y : Bool). cond y (some (reduce D false r)) (first g (map (reduce D false) R))) (sym e ∙ h r (inl refl))

-- where no clause is found dead none is
pub none_dead : (D : Prefix) (s : Node) (R : List Clause) → first_dead D s R ≡ none → (r : Clause) → Mem r R → dead D s r ≡ false
none_dead D s R e = any_false→ (dead D s) R (subst (λ (o : Option Clause). Found (dead D s) R o) e (found (dead D s) R))

-- WISH 6: at every node that a search reaches below its start the clause that step 1 takes is the first dead one: one place above none
-- is dead, so that all dead clauses reach to the node's last place
pub lowest_inner : (D : Prefix) (R : List Clause) → ((r : Clause) → Mem r R → Rising D 0 r) → (s : Node) (b : Bool) → first_dead D s R ≡ none
    → lowest_dead D (s ▹ b) R ≡ first_dead D (s ▹ b) R
lowest_inner D R up s b e = lowest_first D (s ▹ b) (length (s ▹ b)) R (λ r m q. at r (dead_ends D r (up r m) s b (none_dead D s R e r m) q))
  where
    at : (r : Clause) → ends D (s ▹ b) (reduce D false r) ≡ true → reach D r ≡ length (s ▹ b)
    at r w = eqb_true (reach D r) (length (s ▹ b)) (and_left (eqb (reach D r) (length (s ▹ b))) (all (has D false (s ▹ b)) (reduce D false r)) w)

-- at the empty node, where a card starts, likewise: what is dead there reduces to the empty clause
pub lowest_root : (D : Prefix) (R : List Clause) → ((r : Clause) → Mem r R → Rising D 0 r) → lowest_dead D [] R ≡ first_dead D [] R
lowest_root D R up = lowest_first D [] 0 R (λ r m q. at r (up r m) (dead→Dead D [] [] r (up r m) q))
  where
    at : (r : Clause) → Rising D 0 r → Dead D [] [] r → reach D r ≡ 0
    at r w d = omega (arith, last_held D false (reduce D false r) [] (shaped_reduced D false r [] w d.low d.high).held)

-- step 1 at an inner node looks for a clause as step 2 does, among the reduced clauses
pub dying : (D : Prefix) (R : List Clause) → ((r : Clause) → Mem r R → Rising D 0 r) → (s : Node) (b : Bool) → first_dead D s R ≡ none
    → reduced_found D false (lowest_dead D (s ▹ b) R) ≡ eligible_match D eqb false (s ▹ b) (map (reduce D false) R)
dying D R up s b e =
    ap (reduced_found D false) (lowest_inner D R up s b e)
    ∙ first_reduced D (dead D (s ▹ b)) (ends D (s ▹ b)) R (λ r m. dies D r (up r m) s b (none_dead D s R e r m))
