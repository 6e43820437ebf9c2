-- The marks of the places whose value satisfied a clause more, and the cube that they give.
use Prim.Native.Nat.{ℕ, suc, ◌≤◌, ◌<◌}
use native.Mathlib.Nat.{eq-or-lt_of_le}
use native.Mathlib.Omega.{arith}
use mathlib.Core.Path.{◌≡◌, sym, ap, ◌∙◌}
use mathlib.Core.Logic.{◌⊎◌, inl, inr}
use mathlib.Core.Bool.{Bool, true, not, ◌&&◌}
use mathlib.Core.List.{List, [], ◌∷◌}
use lib.ListN.{length, get_or, set, take}
use lib.Seq.{get_or-set_other, get_or-set_same, take-append-le, take-take}
use lib.Dec.{eqb}
use Rattle.qbf.specs.Formula.{Clause, Node, Prefix, ◌▹◌, all, any, satisfied}
use Rattle.qbf.specs.Learning.{implicant}
use Rattle.qbf.specs.Card.{Mem}
use Rattle.theory.proofs.Game.{Rising}
use Rattle.theory.proofs.Implicants.{implicant_steps}
use Rattle.theory.proofs.Leaves.{implicant_rising, implicant_true}
use Rattle.tables.specs.Codes.{codes}
use Rattle.tables.specs.Sets.{MarkedSteps, marked_from, newly}
use Rattle.clause_sets.proofs.Coded.{marked_codes}

module _ {D : Prefix} {R : List Clause} where
  -- no place yet
  pub marks_start : (s : Node) (marks : List ℕ) → MarkedSteps D s R marks 0
  marks_start s marks = record { at = λ i h. absurd (omega arith) }

  -- a table with the same marks, and a node with the same first values
  pub marks_kept : {s : Node} {marks after : List ℕ} {k : ℕ} → MarkedSteps D s R marks k
      → ((i : ℕ) → i < k → get_or after (suc i) 0 ≡ get_or marks (suc i) 0) → MarkedSteps D s R after k
  marks_kept m same = record { at = λ i h. ap (λ (x : ℕ). eqb x 1) (same i h) ∙ m.at i h }

  pub marks_agree : {s : Node} {marks : List ℕ} {k : ℕ} → MarkedSteps D s R marks k → (t : Node) → take k t ≡ take k s → MarkedSteps D t R marks k
  marks_agree {s} {marks} {k} m t same = record {
    at = λ i h.
        let low : take i s ≡ take i t = sym (take-take i k s (omega arith)) ∙ ap (take i) (sym same) ∙ take-take i k t (omega arith) in
        let next : take (suc i) s ≡ take (suc i) t = sym (take-take (suc i) k s h) ∙ ap (take (suc i)) (sym same) ∙ take-take (suc i) k t h in
        m.at i h ∙ ap (λ (u : Node). any (λ r. satisfied D u r && not (satisfied D (take i s) r)) R) next
        ∙ ap (λ (u : Node). any (λ r. satisfied D (take (suc i) t) r && not (satisfied D u r)) R) low;
  }

  -- one place below
  pub marks_below : {s : Node} {marks : List ℕ} {k : ℕ} → MarkedSteps D s R marks k → k ≤ length s → (b : Bool) → MarkedSteps D (s ▹ b) R marks k
  marks_below {s} {marks} {k} m h b = marks_agree m (s ▹ b) (take-append-le k s (b ∷ []) h)

  -- the mark of one place more
  pub marks_more : {t : Node} {marks after : List ℕ} {k : ℕ} → MarkedSteps D t R marks k
      → ((i : ℕ) → i < k → get_or after (suc i) 0 ≡ get_or marks (suc i) 0) → eqb (get_or after (suc k) 0) 1 ≡ newly D t R k → MarkedSteps D t R after (suc k)
  marks_more {t} {marks} {after} {k} m same new = record { at = λ i h. by i (eq-or-lt_of_le {n = i} {m = k} (omega arith)) }
    where
      by : (i : ℕ) → (i ≡ k) ⊎ (i < k) → eqb (get_or after (suc i) 0) 1 ≡ newly D t R i
      by i (inl e) = rw e new
      by i (inr h) = ap (λ (x : ℕ). eqb x 1) (same i h) ∙ m.at i h

  pub marks_set : {t : Node} {marks after : List ℕ} {k : ℕ} → MarkedSteps D t R marks k → (v : ℕ) → after ≡ set marks (suc k) v → suc k < length marks
      → eqb v 1 ≡ newly D t R k → MarkedSteps D t R after (suc k)
  marks_set {t} {marks} {after} {k} m v put room new =
      marks_more m
      (λ i h. ap (λ (xs : List ℕ). get_or xs (suc i) 0) put ∙ get_or-set_other marks (suc k) (suc i) v 0 (λ e. omega arith))
      (ap (λ (xs : List ℕ). eqb (get_or xs (suc k) 0) 1) put ∙ ap (λ (x : ℕ). eqb x 1) (get_or-set_same marks (suc k) v 0 room) ∙ new)

-- Step 3: "from each rule its true literal of smallest place" are the true literals of the marked places
pub cube_marked : (D : Prefix) (R : List Clause) → ((r : Clause) → Mem r R → Rising D 0 r) → (s : Node) (marks : List ℕ)
    → MarkedSteps D s R marks (length s) → all (satisfied D s) R ≡ true → codes D (implicant D s R []) ≡ marked_from 1 s marks
cube_marked D R up s marks m sat =
    marked_codes D marks s (implicant D s R []) (implicant_rising D s R [] tt) (implicant_true D s R)
    (λ i h. m.at i h ∙ sym (implicant_steps D s R up sat i))
