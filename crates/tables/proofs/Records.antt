-- Laws of the records under a search.
use Prim.Native.Nat.{ℕ, zero, suc, ◌+◌, ◌-◌, ◌≤◌}
use native.Mathlib.Omega.{arith}
use mathlib.Core.Path.{◌≡◌, refl, sym, ap, ◌∙◌}
use mathlib.Core.List.{List, [], ◌∷◌, ◌++◌, append_assoc, append-nil}
use mathlib.Core.Bool.{Bool, true, false, cond}
use lib.ListN.{length, drop, replicate, length-append, length-drop}
use lib.Seq.{drop-append-le, drop-drop}
use Rattle.qbf.specs.Formula.{Limits, paper}
use Rattle.qbf.specs.Learning.{Constraint, Store, learn, push}
use Rattle.tables.specs.Records.{Ledger, grown, records_at}

pub grown_none : (most n : ℕ) (ks : List ℕ) → grown most n 0 ks ≡ ks
unfolding grown
grown_none most n ks = refl

-- some, and then some more
pub grown_add : (most n a b : ℕ) (ks : List ℕ) → grown most n (a + b) ks ≡ grown most n b (grown most n a ks)
unfolding grown
grown_add most n zero b ks = let e : 0 + b ≡ b = omega arith in ap (λ (i : ℕ). grown most n i ks) e
grown_add most n (suc a) b ks = let e : suc a + b ≡ suc (a + b) = omega arith in ap (λ (i : ℕ). grown most n i ks) e ∙ grown_add most n a b (push most n ks)

-- a learned clause is one more, a cube none
pub learn_clause : (L : Limits) (n : ℕ) (e : Constraint) (st : Store) → (learn L n false e st).records ≡ grown L.constraints n 1 st.records
unfolding grown
learn_clause L n e st = refl

pub learn_cube : (L : Limits) (n : ℕ) (e : Constraint) (st : Store) → (learn L n true e st).records ≡ st.records
learn_cube L n e st = refl

-- ---- all at once
-- the last of the old records and the new ones, as many as may stand
pub grown_at_once : (most n m : ℕ) (ks : List ℕ) → 1 ≤ most → length ks ≤ most → grown most n m ks ≡ drop ((length ks + m) - most) (ks ++ replicate m n)
unfolding grown
grown_at_once most n zero ks one fits =
    sym (ap (λ (i : ℕ). drop i (ks ++ [])) none ∙ append-nil ks)
  where
    none : (length ks + 0) - most ≡ 0
    none = omega (arith, fits)
grown_at_once most n (suc m) ks one fits =
    grown_at_once most n m (push most n ks) one (omega (arith, longer, fits, one))
    ∙ ap (drop ((length (push most n ks) + m) - most)) (append_assoc (drop k ks) (n ∷ []) (replicate m n) ∙ sym (drop-append-le k ks (n ∷ replicate m n) (omega (arith, fits, one))))
    ∙ drop-drop ((length (push most n ks) + m) - most) k (ks ++ (n ∷ replicate m n))
    ∙ ap (λ (i : ℕ). drop i (ks ++ (n ∷ replicate m n))) count
  where
    k : ℕ
    k = suc (length ks) - most

    longer : length (push most n ks) ≡ suc (length ks) - (suc (length ks) - most)
    longer = omega (arith, fits, one, length-append (drop k ks) (n ∷ []), length-drop k ks)

    count : k + ((length (push most n ks) + m) - most) ≡ (length ks + suc m) - most
    count = omega (arith, longer, fits, one)

-- ---- by the number of the newest row
-- nothing is stored yet
pub ledger_start : (g : Ledger) → records_at g (length g.before) ≡ g.before
ledger_start g =
    let e : length g.before - length g.before ≡ 0 = omega arith in
    ap (λ (i : ℕ). grown paper.constraints g.clauses i g.before) e ∙ grown_none paper.constraints g.clauses g.before

-- one learned clause more
pub ledger_next : (g : Ledger) (m : ℕ) → length g.before ≤ m → records_at g (suc m) ≡ push paper.constraints g.clauses (records_at g m)
unfolding grown
ledger_next g m h =
    let e : suc m - length g.before ≡ (m - length g.before) + 1 = omega (arith, h) in
    ap (λ (i : ℕ). grown paper.constraints g.clauses i g.before) e ∙ grown_add paper.constraints g.clauses (m - length g.before) 1 g.before

-- where two sides are joined, the clause may be stored, or not
pub ledger_joined : (g : Ledger) (n : ℕ) (b : Bool) {k m : ℕ} {ks : List ℕ} → g.clauses ≡ k → length g.before ≤ n → ks ≡ records_at g n → m ≡ cond b (suc n) n
    → (length g.before ≤ m) × (cond b (push paper.constraints k ks) ks ≡ records_at g m)
ledger_joined g n true {k} {m} {ks} c h e q = (
  omega (arith, q, h),
  ap (λ (j : ℕ). push paper.constraints j ks) (sym c) ∙ ap (push paper.constraints g.clauses) e ∙ sym (ledger_next g n h) ∙ ap (records_at g) (sym q),
)
ledger_joined g n false {k} {m} {ks} c h e q = (omega (arith, q, h), e ∙ ap (records_at g) (sym q))
