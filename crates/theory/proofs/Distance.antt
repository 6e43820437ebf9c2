-- Laws of the distance, and of the nearest reading of one line.
use Prim.Native.Nat.{ℕ, ◌+◌, ◌≤◌}
use native.Mathlib.Omega.{arith}
use mathlib.Core.Path.{◌≡◌, refl, ap}
use mathlib.Core.Bool.{Bool, true, false, beq, false≢true}
use mathlib.Core.List.{[], ◌∷◌, ◌++◌}
use lib.ListN.{length, drop, length-append, length-drop}
use Rattle.qbf.specs.Formula.{Node}
use Rattle.qbf.specs.Card.{lies_on, Before}
use Rattle.theory.proofs.Basics.{and_left, and_right, and_both, beq→≡, beq_refl}
use Rattle.qbf.specs.Closest.{differs, distance, nearest}

-- ---- the distance
differs_same : (a : Bool) → differs a a ≡ 0
differs_same true = refl
differs_same false = refl

differs_none : (a b : Bool) → differs a b ≡ 0 → a ≡ b
differs_none true true e = refl
differs_none true false e = absurd (omega arith)
differs_none false true e = absurd (omega arith)
differs_none false false e = refl

pub distance_same : (t : Node) → distance t t ≡ 0
distance_same [] = refl
distance_same (b ∷ t) = omega (arith, differs_same b, distance_same t)

-- a full reading at distance 0 is the reading itself
pub distance_none : (u t : Node) → length u ≡ length t → distance u t ≡ 0 → u ≡ t
distance_none [] [] n e = refl
distance_none [] (b ∷ t) n e = absurd (omega arith)
distance_none (a ∷ u) [] n e = absurd (omega arith)
distance_none (a ∷ u) (b ∷ t) n e = cc (differs_none a b (omega arith), distance_none u t (omega arith) (omega arith))

-- ---- the nearest reading of a line
pub nearest_on : (s t : Node) → lies_on s (nearest s t) ≡ true
nearest_on s t = on s (drop (length s) t)
  where
    on : (s x : Node) → lies_on s (s ++ x) ≡ true
    on [] x = refl
    on (a ∷ s) x = and_both (beq a a) (lies_on s (s ++ x)) (beq_refl a) (on s x)

pub nearest_length : (s t : Node) → length s ≤ length t → length (nearest s t) ≡ length t
nearest_length s t h = omega (arith, length-append s (drop (length s) t), length-drop (length s) t)

pub nearest_distance : (s t : Node) → distance (nearest s t) t ≡ distance s t
nearest_distance [] t = distance_same t
nearest_distance (a ∷ s) [] = refl
nearest_distance (a ∷ s) (b ∷ t) = ap (λ (n : ℕ). differs a b + n) (nearest_distance s t)

-- no reading of the line is nearer
pub nearest_least : (s u t : Node) → length u ≡ length t → lies_on s u ≡ true → distance s t ≤ distance u t
nearest_least [] u t n h = omega arith
nearest_least (a ∷ s) [] t n h = absurd (false≢true h)
nearest_least (a ∷ s) (c ∷ u) [] n h = absurd (omega arith)
nearest_least (a ∷ s) (c ∷ u) (b ∷ t) n h =
    omega (arith, ap (λ (x : Bool). differs x b) (beq→≡ a c (and_left (beq a c) (lies_on s u) h)), nearest_least s u t (omega arith) (and_right (beq a c) (lies_on s u) h))

-- and no other one is as near
pub nearest_only : (s u t : Node) → length u ≡ length t → lies_on s u ≡ true → distance u t ≡ distance s t → u ≡ nearest s t
nearest_only [] u t n h e = distance_none u t n e
nearest_only (a ∷ s) [] t n h e = absurd (false≢true h)
nearest_only (a ∷ s) (c ∷ u) [] n h e = absurd (omega arith)
nearest_only (a ∷ s) (c ∷ u) (b ∷ t) n h e =
    let p : a ≡ c = beq→≡ a c (and_left (beq a c) (lies_on s u) h) in
    cc (p, nearest_only s u t (omega arith) (and_right (beq a c) (lies_on s u) h) (omega (arith, ap (λ (x : Bool). differs x b) p)))

-- ---- the order
-- readings on two lines are ordered as the lines are
pub before_on : (s s' u v : Node) → Before s s' → lies_on s u ≡ true → lies_on s' v ≡ true → Before u v
before_on [] s' u v o h k = absurd o
before_on (a ∷ s) [] u v o h k = absurd o
before_on (a ∷ s) (b ∷ s') [] v o h k = absurd (false≢true h)
before_on (a ∷ s) (b ∷ s') (c ∷ u) [] o h k = absurd (false≢true k)
before_on (false ∷ s) (true ∷ s') (false ∷ u) (true ∷ v) o h k = tt
before_on (false ∷ s) (true ∷ s') (false ∷ u) (false ∷ v) o h k = absurd (false≢true k)
before_on (false ∷ s) (true ∷ s') (true ∷ u) (c ∷ v) o h k = absurd (false≢true h)
before_on (true ∷ s) (false ∷ s') (c ∷ u) (d ∷ v) o h k = absurd o
before_on (false ∷ s) (false ∷ s') (false ∷ u) (false ∷ v) o h k = before_on s s' u v o h k
before_on (false ∷ s) (false ∷ s') (false ∷ u) (true ∷ v) o h k = absurd (false≢true k)
before_on (false ∷ s) (false ∷ s') (true ∷ u) (d ∷ v) o h k = absurd (false≢true h)
before_on (true ∷ s) (true ∷ s') (true ∷ u) (true ∷ v) o h k = before_on s s' u v o h k
before_on (true ∷ s) (true ∷ s') (true ∷ u) (false ∷ v) o h k = absurd (false≢true k)
before_on (true ∷ s) (true ∷ s') (false ∷ u) (d ∷ v) o h k = absurd (false≢true h)

-- of two readings one is not before and after the other
pub before_once : (u v : Node) → Before u v → Before v u → ⊥
before_once [] v h k = h
before_once (a ∷ u) [] h k = h
before_once (false ∷ u) (true ∷ v) h k = k
before_once (true ∷ u) (false ∷ v) h k = h
before_once (false ∷ u) (false ∷ v) h k = before_once u v h k
before_once (true ∷ u) (true ∷ v) h k = before_once u v h k
