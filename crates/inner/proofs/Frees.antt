-- Free variables come first: a free place is among so many places as there are free variables, of which there are few.
use Prim.Native.Nat.{ℕ, zero, suc, ◌≤◌, ◌<◌, suc-le-suc, zero-le}
use native.Mathlib.Omega.{arith}
use mathlib.Core.Path.{◌≡◌, ap, subst, ◌∙◌}
use mathlib.Core.List.{List, [], ◌∷◌}
use lib.ListN.{length, drop, length-map}
use Rattle.qbf.specs.Formula.{most_free, Quantifier, free, exists, forall, Prefix, Clause, quantifiers, quantifier_at}
use Rattle.qbf.specs.Truth.{free_count}
use Rattle.qbf.specs.Learning.{Store}
use Rattle.theory.proofs.Rest.{nil_cons, drop_cons}
use Rattle.theory.proofs.Search.{FreeFirst}
use Rattle.theory.proofs.Verdict.{NoFree}
use Rattle.theory.proofs.WellFormed.{free_before, free_few}
use Rattle.inner.specs.Formed.{Formed}
use Rattle.inner.proofs.Stepping.{facts}

not_free : (κ : Quantifier) (K : List Quantifier) (i : ℕ) (ks : List Quantifier) → NoFree (κ ∷ K) → drop i (κ ∷ K) ≡ free ∷ ks → ⊥
not_free κ K zero ks n e = subst NoFree e n
not_free free K (suc i) ks n e = n
not_free exists [] (suc zero) ks n e = nil_cons free ks e
not_free exists [] (suc (suc i)) ks n e = nil_cons free ks e
not_free exists (x ∷ K) (suc i) ks n e = not_free x K i ks n e
not_free forall [] (suc zero) ks n e = nil_cons free ks e
not_free forall [] (suc (suc i)) ks n e = nil_cons free ks e
not_free forall (x ∷ K) (suc i) ks n e = not_free x K i ks n e

-- and a free place is among them
pub free_at : (K : List Quantifier) (i : ℕ) (ks : List Quantifier) → FreeFirst K → drop i K ≡ free ∷ ks → i < free_count K
free_at [] zero ks f e = absurd (nil_cons free ks e)
free_at [] (suc i) ks f e = absurd (nil_cons free ks e)
free_at (free ∷ K) zero ks f e = suc-le-suc zero-le
free_at (free ∷ K) (suc i) ks f e = suc-le-suc (free_at K i ks f.1 e)
free_at (exists ∷ K) i ks f e = absurd (not_free exists K i ks f.0 e)
free_at (forall ∷ K) i ks f e = absurd (not_free forall K i ks f.0 e)

-- a free variable's place is one of the flags'
pub free_place : {D : Prefix} {R : List Clause} {st : Store} → Formed D R st → (k : ℕ) → k < length D → quantifier_at D (suc k) ≡ free → suc k ≤ most_free
free_place {D} formed k in_d is =
    omega (
      arith,
      free_few _ (facts formed),
      free_at (quantifiers D) k (drop (suc k) (quantifiers D)) (free_before _ (facts formed))
          (drop_cons (quantifiers D) k (omega (arith, in_d, length-map D (λ d. d.quantifier))) ∙ ap {B = List Quantifier} (λ (q : Quantifier). q ∷ drop (suc k) (quantifiers D)) is),
    )
