-- The dead clause that step 1 takes: the finder meets its contract at every node, and where all dead clauses reach equally far it
-- returns the first.
use Prim.Native.Nat.{ℕ, ◌≤◌, ◌<◌}
use native.Mathlib.Nat.{le_refl}
use native.Mathlib.Omega.{arith}
use mathlib.Core.Path.{◌≡◌, refl, sym, ap, ◌∙◌, subst}
use mathlib.Core.Logic.{◌⊎◌, inl, inr}
use mathlib.Core.Bool.{Bool, true, false, cond, not, true≢false}
use mathlib.Core.List.{List, [], ◌∷◌, ◌++◌, append_assoc, append-nil}
use mathlib.Core.Option.{Option, none, some}
use lib.Dec.{ltb, ltb→lt, nltb→le}
use Rattle.qbf.specs.Formula.{Clause, Node, Prefix, dead}
use Rattle.qbf.specs.Learning.{first_dead, lower, lowest_dead, lowest_from, reach}
use Rattle.qbf.specs.Card.{Mem}
use Rattle.qbf.specs.Finder.{FinderOwed, IsLowest}
use Rattle.theory.proofs.Basics.{≡→T, →any_false}
use Rattle.theory.proofs.Sets.{Found}
use Rattle.theory.proofs.Stores.{mem_append}

module _ (D : Prefix) (s : Node) where
  -- a dead clause reaches at least as far as the lowest
  pub lowest_least : (R : List Clause) (c : Clause) → IsLowest D s R c → (d : Clause) → Mem d R → dead D s d ≡ true → reach D c ≤ reach D d
  lowest_least R c h d m e = by (mem_append h.earlier (c ∷ h.later) d (subst (λ (xs : List Clause). Mem d xs) h.parts m))
    where
      by : Mem d h.earlier ⊎ ((d ≡ c) ⊎ Mem d h.later) → reach D c ≤ reach D d
      by (inl n) = omega (arith, h.above d n e)
      by (inr (inl p)) = subst (λ (x : Clause). reach D c ≤ reach D x) (sym p) (le_refl (reach D c))
      by (inr (inr n)) = h.beside d n e

  pub lowest_in : (R : List Clause) (c : Clause) → IsLowest D s R c → Mem c R
  lowest_in R c h = subst (λ (xs : List Clause). Mem c xs) (sym h.parts) (at h.earlier)
    where
      at : (xs : List Clause) → Mem c (xs ++ (c ∷ h.later))
      at [] = inl refl
      at (x ∷ xs) = inr (at xs)

  -- ---- one clause more at the end
  module _ (P : List Clause) (c : Clause) where
    stays : (e : Clause) → IsLowest D s P e → (dead D s c ≡ true → reach D e ≤ reach D c) → IsLowest D s (P ++ (c ∷ [])) e
    stays e h k =
        record {
          earlier = h.earlier;
          later = h.later ++ (c ∷ []);
          parts = ap (λ (xs : List Clause). xs ++ (c ∷ [])) h.parts ∙ append_assoc h.earlier (e ∷ h.later) (c ∷ []);
          is_dead = h.is_dead;
          above = h.above;
          beside = λ d m q. by d q (mem_append h.later (c ∷ []) d m);
        }
      where
        by : (d : Clause) → dead D s d ≡ true → Mem d h.later ⊎ Mem d (c ∷ []) → reach D e ≤ reach D d
        by d q (inl n) = h.beside d n q
        by d q (inr (inl p)) = subst (λ (x : Clause). reach D e ≤ reach D x) (sym p) (k (ap (dead D s) (sym p) ∙ q))
        by d q (inr (inr n)) = absurd n

    comes : dead D s c ≡ true → ((d : Clause) → Mem d P → dead D s d ≡ true → reach D c < reach D d) → IsLowest D s (P ++ (c ∷ [])) c
    comes q k = record { earlier = P; later = []; parts = refl; is_dead = q; above = k; beside = λ d m e. absurd m }

    one_more : (o : Option Clause) → FinderOwed D s P o → (x : Bool) → dead D s c ≡ x → FinderOwed D s (P ++ (c ∷ [])) (lower D x o c)
    one_more none h false e = λ d m. by d (mem_append P (c ∷ []) d m)
      where
        by : (d : Clause) → Mem d P ⊎ Mem d (c ∷ []) → dead D s d ≡ false
        by d (inl n) = h d n
        by d (inr (inl p)) = ap (dead D s) p ∙ e
        by d (inr (inr n)) = absurd n
    one_more (some q) h false e = stays q h (λ d. absurd (true≢false (sym d ∙ e)))
    one_more none h true e = comes e (λ d m q. absurd (true≢false (sym q ∙ h d m)))
    one_more (some q) h true e = by (ltb (reach D c) (reach D q)) refl
      where
        by : (x : Bool) → ltb (reach D c) (reach D q) ≡ x → FinderOwed D s (P ++ (c ∷ [])) (cond x (some c) (some q))
        by true f = comes e (λ d m z. omega (arith, ltb→lt (reach D c) (reach D q) (≡→T (ltb (reach D c) (reach D q)) f), lowest_least P q h d m z))
        by false f = stays q h (λ z. nltb→le (reach D c) (reach D q) (≡→T (not (ltb (reach D c) (reach D q))) (ap not f)))

  from_owed : (P : List Clause) (o : Option Clause) → FinderOwed D s P o → (R : List Clause) → FinderOwed D s (P ++ R) (lowest_from D o s R)
  from_owed P o h [] = subst (λ (xs : List Clause). FinderOwed D s xs o) (sym (append-nil P)) h
  from_owed P o h (c ∷ R) =
      subst (λ (xs : List Clause). FinderOwed D s xs (lowest_from D (lower D (dead D s c) o c) s R)) (append_assoc P (c ∷ []) R)
      (from_owed (P ++ (c ∷ [])) (lower D (dead D s c) o c) (one_more P c o h (dead D s c) refl) R)

  -- a scan in two parts
  pub lowest_append : (o : Option Clause) (P R : List Clause) → lowest_from D o s (P ++ R) ≡ lowest_from D (lowest_from D o s P) s R
  lowest_append o [] R = refl
  lowest_append o (c ∷ P) R = lowest_append (lower D (dead D s c) o c) P R

  -- WISH 6: the finder's contract, at every node
  pub lowest_owed : (R : List Clause) → FinderOwed D s R (lowest_dead D s R)
  lowest_owed R = from_owed [] none (λ d m. absurd m) R

  -- what is found is a dead clause, and where none is found none is dead
  pub lowest_found : (R : List Clause) → Found (dead D s) R (lowest_dead D s R)
  lowest_found R = by (lowest_dead D s R) (lowest_owed R)
    where
      by : (o : Option Clause) → FinderOwed D s R o → Found (dead D s) R o
      by none h = →any_false (dead D s) R h
      by (some c) h = (lowest_in R c h, h.is_dead)

  -- ---- dead clauses that reach equally far
  module _ (k : ℕ) where
    abbrev Level : List Clause → Type 0
    Level R = (c : Clause) → Mem c R → dead D s c ≡ true → reach D c ≡ k

    -- the first of them stays
    level_stays : (e : Clause) → reach D e ≡ k → (R : List Clause) → Level R → lowest_from D (some e) s R ≡ some e
    level_stays e p [] h = refl
    level_stays e p (c ∷ R) h = by (dead D s c) refl (level_stays e p R (λ d m. h d (inr m)))
      where
        -- nothing is less than what is equal
        never : (x : Bool) → ltb (reach D c) (reach D e) ≡ x → reach D c ≡ k → x ≡ false
        never false q r = refl
        never true q r = absurd (let z = ltb→lt (reach D c) (reach D e) (≡→T (ltb (reach D c) (reach D e)) q) in omega (arith, z, r, p))

        by : (x : Bool) → dead D s c ≡ x → lowest_from D (some e) s R ≡ some e → lowest_from D (lower D x (some e) c) s R ≡ some e
        by false q ih = ih
        by true q ih = ap (λ (x : Bool). lowest_from D (cond x (some c) (some e)) s R) (never (ltb (reach D c) (reach D e)) refl (h c (inl refl) q)) ∙ ih

    pub lowest_first : (R : List Clause) → Level R → lowest_dead D s R ≡ first_dead D s R
    lowest_first [] h = refl
    lowest_first (c ∷ R) h = by (dead D s c) refl (lowest_first R (λ d m. h d (inr m)))
      where
        by : (x : Bool) → dead D s c ≡ x → lowest_dead D s R ≡ first_dead D s R → lowest_from D (lower D x none c) s R ≡ cond x (some c) (first_dead D s R)
        by false q ih = ih
        by true q ih = level_stays c (h c (inl refl) q) R (λ d m. h d (inr m))

  -- either finder finds none exactly where no clause is dead
  pub lowest_none : (R : List Clause) → lowest_dead D s R ≡ none → first_dead D s R ≡ none
  lowest_none R e = sym (lowest_first 0 R (λ c m q. absurd (true≢false (sym q ∙ alive c m)))) ∙ e
    where
      alive : (c : Clause) → Mem c R → dead D s c ≡ false
      alive = subst (FinderOwed D s R) e (lowest_owed R)
