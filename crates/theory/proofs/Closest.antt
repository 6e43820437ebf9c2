-- The closest reading of a card is the one that the wish asks for.
use Prim.Native.Nat.{◌≤◌, ◌<◌}
use native.Mathlib.Omega.{arith}
use mathlib.Core.Path.{◌≡◌, refl, sym, ◌∙◌, subst}
use mathlib.Core.Logic.{◌⊎◌, inl, inr}
use mathlib.Core.Bool.{Bool, true, false, cond}
use mathlib.Core.List.{List, [], ◌∷◌}
use mathlib.Core.Option.{Option, none, some}
use lib.ListN.{length}
use lib.Dec.{leb}
use borrow.Author.Tests.{leb-true, leb-false}
use Rattle.qbf.specs.Formula.{Node, Prefix, Clause}
use Rattle.qbf.specs.Truth.{Verdict, free_variables}
use Rattle.qbf.specs.Card.{Mem, lies_on, Before, Rises}
use Rattle.qbf.specs.Demands.{CardRight}
use Rattle.qbf.specs.Closest.{distance, Found, nearest, on_line, nearer, closest_in, IsClosest, ClosestOwed, OnCard, HasTruth}
use Rattle.theory.proofs.Distance.{distance_same, distance_none, nearest_on, nearest_length, nearest_distance, nearest_least, nearest_only, before_on, before_once}

-- a reading that is On returns itself with 0: it follows from the rest
itself : (On : Node → Type 0) (t : Node) (r : Found) → length r.reading ≡ length t → r.number ≡ distance r.reading t
    → ((u : Node) → length u ≡ length t → On u → r.number ≤ distance u t) → On t → r ≡ record { reading = t; number = 0 }
itself On t r n e fewest on =
    let z : r.number ≡ 0 = omega (arith, fewest t refl on, distance_same t) in
    let w : r.reading ≡ t = distance_none r.reading t n (sym e ∙ z) in
    λ i. record { reading = w i; number = z i }

module _ (t s : Node) (ls : List Node) where
  -- the first line's reading, where no later line has a nearer one
  first_wins : length s ≤ length t → ((s' : Node) → Mem s' ls → Before s s') → ((u : Node) → length u ≡ length t → OnCard ls u → distance s t ≤ distance u t)
      → IsClosest (OnCard (s ∷ ls)) t (on_line s t)
  first_wins short before least =
      record {
        full = full;
        on = (s, inl refl, nearest_on s t);
        number = sym (nearest_distance s t);
        fewest = fewest;
        first = first;
        itself = itself (OnCard (s ∷ ls)) t (on_line s t) full (sym (nearest_distance s t)) fewest;
      }
    where
      full : length (nearest s t) ≡ length t
      full = nearest_length s t short

      fewest : (u : Node) → length u ≡ length t → OnCard (s ∷ ls) u → distance s t ≤ distance u t
      fewest u n (s', inl e, h) = nearest_least s u t n (subst (λ (x : Node). lies_on x u ≡ true) e h)
      fewest u n (s', inr m, h) = least u n (s', m, h)

      first : (u : Node) → length u ≡ length t → OnCard (s ∷ ls) u → distance u t ≡ distance s t → (u ≡ nearest s t) ⊎ Before (nearest s t) u
      first u n (s', inl e, h) d = inl (nearest_only s u t n (subst (λ (x : Node). lies_on x u ≡ true) e h) d)
      first u n (s', inr m, h) d = inr (before_on s s' (nearest s t) u (before s' m) (nearest_on s t) h)

  -- a later line's reading, where it is nearer than the first line
  later_wins : (r : Found) → r.number < distance s t → IsClosest (OnCard ls) t r → IsClosest (OnCard (s ∷ ls)) t r
  later_wins r less c =
      record {
        full = c.full;
        on = (c.on.0, inr c.on.1, c.on.2);
        number = c.number;
        fewest = fewest;
        first = first;
        itself = itself (OnCard (s ∷ ls)) t r c.full c.number fewest;
      }
    where
      farther : (u s' : Node) → length u ≡ length t → s' ≡ s → lies_on s' u ≡ true → r.number < distance u t
      farther u s' n e h = omega (arith, nearest_least s u t n (subst (λ (x : Node). lies_on x u ≡ true) e h))

      fewest : (u : Node) → length u ≡ length t → OnCard (s ∷ ls) u → r.number ≤ distance u t
      fewest u n (s', inl e, h) = omega (arith, farther u s' n e h)
      fewest u n (s', inr m, h) = c.fewest u n (s', m, h)

      first : (u : Node) → length u ≡ length t → OnCard (s ∷ ls) u → distance u t ≡ r.number → (u ≡ r.reading) ⊎ Before r.reading u
      first u n (s', inl e, h) d = absurd (omega (arith, farther u s' n e h))
      first u n (s', inr m, h) d = c.first u n (s', m, h) d

-- ---- over the lines of a card
-- the answer of lines in order, none longer than the reading
pub closest_owed : (t : Node) (ls : List Node) → Rises ls → ((s : Node) → Mem s ls → length s ≤ length t) → ClosestOwed (OnCard ls) t (closest_in ls t)
closest_owed t [] rises short = λ u n on. on.1
closest_owed t (s ∷ ls) rises short = by (closest_in ls t) (closest_owed t ls rises.1 (λ s' m. short s' (inr m)))
  where
    by : (o : Option Found) → ClosestOwed (OnCard ls) t o → IsClosest (OnCard (s ∷ ls)) t (nearer (on_line s t) o)
    by none c = first_wins t s ls (short s (inl refl)) rises.0 (λ u n on. absurd (c u n on))
    by (some r) c = pick (leb (distance s t) r.number) refl
      where
        pick : (b : Bool) → leb (distance s t) r.number ≡ b → IsClosest (OnCard (s ∷ ls)) t (cond b (on_line s t) r)
        pick true e = first_wins t s ls (short s (inl refl)) rises.0 (λ u n on. omega (arith, leb-true (distance s t) r.number e, c.fewest u n on))
        pick false e = later_wins t s ls r (leb-false (distance s t) r.number e) c

-- ---- of the card of a formula
-- what holds of the readings of one kind holds of those of an equal kind
same_kind : (On On' : Node → Type 0) (t : Node) → ((u : Node) → length u ≡ length t → On u → On' u) → ((u : Node) → length u ≡ length t → On' u → On u)
    → (o : Option Found) → ClosestOwed On t o → ClosestOwed On' t o
same_kind On On' t to from none c = λ u n on. c u n (from u n on)
same_kind On On' t to from (some r) c =
    record {
      full = c.full;
      on = to r.reading c.full c.on;
      number = c.number;
      fewest = λ u n on. c.fewest u n (from u n on);
      first = λ u n on d. c.first u n (from u n on) d;
      itself = λ on. c.itself (from t refl on);
    }

-- The lines of a right card give the closest reading by truth. The store has no part in it.
pub card_closest : (p : Verdict) (D : Prefix) (R : List Clause) (ls : List Node) → CardRight p D R ls → (t : Node) → length t ≡ free_variables D
    → ClosestOwed (HasTruth p D R) t (closest_in ls t)
card_closest p D R ls c t n =
    same_kind (OnCard ls) (HasTruth p D R) t
    (λ u m on. (c.covers u (m ∙ n)).1 on)
    (λ u m h. (c.covers u (m ∙ n)).0 h)
    (closest_in ls t)
    (closest_owed t ls c.rises (λ s m. omega (arith, ((c.topmost s).0 m).within)))

-- The wish leaves no choice: two readings that are closest are one. "the store has no influence on the reading and the number"
pub closest_one : (On : Node → Type 0) (t : Node) (r q : Found) → IsClosest On t r → IsClosest On t q → r ≡ q
closest_one On t r q c d = pick (c.first q.reading d.full d.on (sym d.number ∙ sym even)) (d.first r.reading c.full c.on (sym c.number ∙ even))
  where
    even : r.number ≡ q.number
    even = omega (arith, c.number, d.number, c.fewest q.reading d.full d.on, d.fewest r.reading c.full c.on)

    pick : (q.reading ≡ r.reading) ⊎ Before r.reading q.reading → (r.reading ≡ q.reading) ⊎ Before q.reading r.reading → r ≡ q
    pick (inl e) w = λ i. record { reading = sym e i; number = even i }
    pick (inr o) (inl e) = λ i. record { reading = e i; number = even i }
    pick (inr o) (inr o') = absurd (before_once r.reading q.reading o o')
