-- A store whose constraints all have a property, and are within the limit: what learning, an accepted rule, a withdrawn one and
-- forgetting make of it. Each learned clause with its record: the same.
use Prim.Native.Nat.{ℕ, zero, suc, ◌-◌, ◌≤◌, suc-le-suc, zero-le}
use native.Mathlib.Nat.{suc_inj}
use native.Mathlib.Omega.{arith}
use mathlib.Core.Path.{◌≡◌, refl, sym, ap, subst}
use mathlib.Core.Logic.{◌⊎◌, inl, inr}
use mathlib.Core.Bool.{Bool, true, false, cond}
use mathlib.Core.List.{List, [], ◌∷◌, ◌++◌}
use mathlib.Core.Option.{none}
use lib.ListN.{length, drop, length-append, length-drop}
use lib.Dec.{leb}
use borrow.Author.Tests.{leb-true}
use Rattle.qbf.specs.Formula.{Limits, Prefix}
use Rattle.qbf.specs.Learning.{Constraint, Store, constraints, empty_store, learn, push}
use Rattle.qbf.specs.Card.{Mem}
use Rattle.qbf.specs.Calls.{standing, store_after_rule, store_after_withdraw}
use Rattle.theory.proofs.Shape.{Formed}

-- ---- lists
mem_drop : {A : Type 0} (n : ℕ) (xs : List A) (x : A) → Mem x (drop n xs) → Mem x xs
mem_drop zero xs x m = m
mem_drop (suc n) [] x m = m
mem_drop (suc n) (y ∷ xs) x m = inr (mem_drop n xs x m)

pub mem_append : {A : Type 0} (xs ys : List A) (x : A) → Mem x (xs ++ ys) → Mem x xs ⊎ Mem x ys
mem_append [] ys x m = inr m
mem_append (y ∷ xs) ys x (inl p) = inl (inl p)
mem_append (y ∷ xs) ys x (inr m) = by (mem_append xs ys x m)
  where
    by : Mem x xs ⊎ Mem x ys → Mem x (y ∷ xs) ⊎ Mem x ys
    by (inl n) = inl (inr n)
    by (inr n) = inr n

mem_push : {A : Type 0} (n : ℕ) (E : A) (es : List A) (x : A) → Mem x (push n E es) → (x ≡ E) ⊎ Mem x es
mem_push n E es x m = by (mem_append (drop (suc (length es) - n) es) (E ∷ []) x m)
  where
    by : Mem x (drop (suc (length es) - n) es) ⊎ Mem x (E ∷ []) → (x ≡ E) ⊎ Mem x es
    by (inl k) = inr (mem_drop (suc (length es) - n) es x k)
    by (inr (inl p)) = inl p
    by (inr (inr k)) = absurd k

length_push : {A : Type 0} (n : ℕ) (E : A) (es : List A) → 1 ≤ n → length es ≤ n → length (push n E es) ≤ n
length_push n E es p h = omega (arith, h, length-append (drop (suc (length es) - n) es) (E ∷ []), length-drop (suc (length es) - n) es)

pub mem_standing : {A : Type 0} (n : ℕ) (ks : List ℕ) (xs : List A) (x : A) → Mem x (standing n ks xs) → Mem x xs
mem_standing n [] xs x m = absurd m
mem_standing n (k ∷ ks) [] x m = absurd m
mem_standing n (k ∷ ks) (y ∷ xs) x m = by (leb k n) m (mem_standing n ks xs x)
  where
    by : (b : Bool) → Mem x (cond b (y ∷ standing n ks xs) (standing n ks xs)) → (Mem x (standing n ks xs) → Mem x xs) → Mem x (y ∷ xs)
    by true (inl p) ih = inl p
    by true (inr q) ih = inr (ih q)
    by false q ih = inr (ih q)

-- one element more at the end, and its record
pub standing_end : {A : Type 0} (n : ℕ) (ks : List ℕ) (xs : List A) → length ks ≡ length xs → (k : ℕ) (x : A) → standing n (ks ++ (k ∷ [])) (xs ++ (x ∷ [])) ≡ standing n ks xs ++ standing n (k ∷ []) (x ∷ [])
standing_end n [] [] e k x = refl
standing_end n [] (y ∷ xs) e k x = absurd (omega (arith, e))
standing_end n (j ∷ ks) [] e k x = absurd (omega (arith, e))
standing_end {A} n (j ∷ ks) (y ∷ xs) e k x = by (leb j n) (standing_end n ks xs (suc_inj e) k x)
  where
    by : (b : Bool) → standing n (ks ++ (k ∷ [])) (xs ++ (x ∷ [])) ≡ standing n ks xs ++ standing n (k ∷ []) (x ∷ [])
        → cond b (y ∷ standing n (ks ++ (k ∷ [])) (xs ++ (x ∷ []))) (standing n (ks ++ (k ∷ [])) (xs ++ (x ∷ []))) ≡ cond b (y ∷ standing n ks xs) (standing n ks xs) ++ standing n (k ∷ []) (x ∷ [])
    by true h = ap {B = List A} (λ zs. y ∷ zs) h
    by false h = h

pub length_standing : {A : Type 0} (n : ℕ) (ks : List ℕ) (xs : List A) → length (standing n ks xs) ≤ length xs
length_standing n [] xs = zero-le
length_standing n (k ∷ ks) [] = zero-le
length_standing n (k ∷ ks) (x ∷ xs) = by (leb k n) (length_standing n ks xs)
  where
    by : (b : Bool) → length (standing n ks xs) ≤ length xs → length (cond b (x ∷ standing n ks xs) (standing n ks xs)) ≤ suc (length xs)
    by true h = suc-le-suc h
    by false h = omega (arith, h)

-- ---- stores
pub record Stored (P : Bool → Constraint → Type 0) (L : Limits) (st : Store) : Type 0 where
  pub each : (v : Bool) (E : Constraint) → Mem E (constraints v st) → P v E
  pub bounded : (v : Bool) → length (constraints v st) ≤ L.constraints

-- each constraint is in place order and reduced
abbrev pub ShapedStore : Limits → Prefix → Store → Type 0
ShapedStore L D st = Stored (Formed D) L st

module _ (P : Bool → Constraint → Type 0) (L : Limits) where
  pub stored_empty : Stored P L empty_store
  stored_empty = record { each = members; bounded = lengths }
    where
      members : (v : Bool) (E : Constraint) → Mem E (constraints v empty_store) → P v E
      members true E m = absurd m
      members false E m = absurd m

      lengths : (v : Bool) → length (constraints v empty_store) ≤ L.constraints
      lengths true = zero-le
      lengths false = zero-le

  pub stored_learn : 1 ≤ L.constraints → (n : ℕ) (v : Bool) (E : Constraint) (st : Store) → P v E → Stored P L st → Stored P L (learn L n v E st)
  stored_learn one n v E st new h = record { each = λ w F m. members v w new F m; bounded = λ w. lengths v w }
    where
      pushed : (w : Bool) → P w E → (F : Constraint) → (F ≡ E) ⊎ Mem F (constraints w st) → P w F
      pushed w n F (inl p) = subst (P w) (sym p) n
      pushed w n F (inr m) = h.each w F m

      members : (u w : Bool) → P u E → (F : Constraint) → Mem F (constraints w (learn L n u E st)) → P w F
      members true true n F m = pushed true n F (mem_push L.constraints E st.cubes F m)
      members true false n F m = h.each false F m
      members false true n F m = h.each true F m
      members false false n F m = pushed false n F (mem_push L.constraints E st.clauses F m)

      lengths : (u w : Bool) → length (constraints w (learn L n u E st)) ≤ L.constraints
      lengths true true = length_push L.constraints E st.cubes one (h.bounded true)
      lengths true false = h.bounded false
      lengths false true = h.bounded true
      lengths false false = length_push L.constraints E st.clauses one (h.bounded false)

  module _ (Q : Bool → Constraint → Type 0) where
    -- a property that follows
    pub stored_weaker : ((v : Bool) (E : Constraint) → P v E → Q v E) → (st : Store) → Stored P L st → Stored Q L st
    stored_weaker f st h = record { each = λ v E m. f v E (h.each v E m); bounded = h.bounded }

    -- an accepted rule: the cubes go, and what the clauses need for it is asked of them only
    pub stored_rule : ((E : Constraint) → P false E → Q false E) → (st : Store) → Stored P L st → Stored Q L (store_after_rule none st)
    stored_rule f st h = record { each = members; bounded = lengths }
      where
        members : (v : Bool) (E : Constraint) → Mem E (constraints v (store_after_rule none st)) → Q v E
        members true E m = absurd m
        members false E m = f E (h.each false E m)

        lengths : (v : Bool) → length (constraints v (store_after_rule none st)) ≤ L.constraints
        lengths true = zero-le
        lengths false = h.bounded false

    -- a withdrawn rule: n rules remain, and some learned clauses go
    pub stored_withdraw : (n : ℕ) → ((v : Bool) (E : Constraint) → P v E → Q v E) → (st : Store) → Stored P L st → Stored Q L (store_after_withdraw none n st)
    stored_withdraw n f st h = record { each = members; bounded = lengths }
      where
        members : (v : Bool) (E : Constraint) → Mem E (constraints v (store_after_withdraw none n st)) → Q v E
        members true E m = f true E (h.each true E m)
        members false E m = f false E (h.each false E (mem_standing n st.records st.clauses E m))

        lengths : (v : Bool) → length (constraints v (store_after_withdraw none n st)) ≤ L.constraints
        lengths true = h.bounded true
        lengths false = omega (arith, h.bounded false, length_standing n st.records st.clauses)

-- ---- records
-- each learned clause and its record have P
abbrev pub Recorded : (ℕ → Constraint → Type 0) → List ℕ → List Constraint → Type 0
Recorded P [] [] = Unit {0}
Recorded P [] (E ∷ es) = ⊥
Recorded P (k ∷ ks) [] = ⊥
Recorded P (k ∷ ks) (E ∷ es) = P k E × Recorded P ks es

abbrev pub RecordedStore : (ℕ → Constraint → Type 0) → Store → Type 0
RecordedStore P st = Recorded P st.records st.clauses

module _ (P : ℕ → Constraint → Type 0) where
  pub recorded_length : (ks : List ℕ) (es : List Constraint) → Recorded P ks es → length ks ≡ length es
  recorded_length [] [] h = refl
  recorded_length [] (E ∷ es) h = absurd h
  recorded_length (k ∷ ks) [] h = absurd h
  recorded_length (k ∷ ks) (E ∷ es) h = ap suc (recorded_length ks es h.1)

  pub recorded_mem : (ks : List ℕ) (es : List Constraint) → Recorded P ks es → (E : Constraint) → Mem E es → (k : ℕ) × P k E
  recorded_mem [] [] h E m = absurd m
  recorded_mem [] (F ∷ es) h E m = absurd h
  recorded_mem (k ∷ ks) [] h E m = absurd m
  recorded_mem (k ∷ ks) (F ∷ es) h E (inl p) = (k, subst (P k) (sym p) h.0)
  recorded_mem (k ∷ ks) (F ∷ es) h E (inr m) = recorded_mem ks es h.1 E m

  recorded_drop : (n : ℕ) (ks : List ℕ) (es : List Constraint) → Recorded P ks es → Recorded P (drop n ks) (drop n es)
  recorded_drop zero ks es h = h
  recorded_drop (suc n) [] [] h = h
  recorded_drop (suc n) [] (E ∷ es) h = absurd h
  recorded_drop (suc n) (k ∷ ks) [] h = absurd h
  recorded_drop (suc n) (k ∷ ks) (E ∷ es) h = recorded_drop n ks es h.1

  recorded_end : (ks : List ℕ) (es : List Constraint) → Recorded P ks es → (k : ℕ) (E : Constraint) → P k E → Recorded P (ks ++ (k ∷ [])) (es ++ (E ∷ []))
  recorded_end [] [] h k E p = (p, tt)
  recorded_end [] (F ∷ es) h k E p = absurd h
  recorded_end (j ∷ ks) [] h k E p = absurd h
  recorded_end (j ∷ ks) (F ∷ es) h k E p = (h.0, recorded_end ks es h.1 k E p)

  pub recorded_empty : RecordedStore P empty_store
  recorded_empty = tt

  -- a learned clause more; a cube more changes nothing
  pub recorded_learn : (L : Limits) (n : ℕ) (v : Bool) (E : Constraint) (st : Store) → (v ≡ false → P n E) → RecordedStore P st → RecordedStore P (learn L n v E st)
  recorded_learn L n true E st p h = h
  recorded_learn L n false E st p h =
      subst (λ (i : ℕ). Recorded P (drop (suc i - L.constraints) st.records ++ (n ∷ [])) (push L.constraints E st.clauses)) (sym (recorded_length st.records st.clauses h))
      (recorded_end (drop m st.records) (drop m st.clauses) (recorded_drop m st.records st.clauses h) n E (p refl))
    where
      m : ℕ
      m = suc (length st.clauses) - L.constraints

  module _ (Q : ℕ → Constraint → Type 0) where
    pub recorded_weaker : ((k : ℕ) (E : Constraint) → P k E → Q k E) → (ks : List ℕ) (es : List Constraint) → Recorded P ks es → Recorded Q ks es
    recorded_weaker f [] [] h = tt
    recorded_weaker f [] (E ∷ es) h = absurd h
    recorded_weaker f (k ∷ ks) [] h = absurd h
    recorded_weaker f (k ∷ ks) (E ∷ es) h = (f k E h.0, recorded_weaker f ks es h.1)

    -- those that stay have records of at most n
    pub recorded_standing : (n : ℕ) → ((k : ℕ) (E : Constraint) → P k E → k ≤ n → Q k E) → (ks : List ℕ) (es : List Constraint) → Recorded P ks es → Recorded Q (standing n ks ks) (standing n ks es)
    recorded_standing n f [] [] h = tt
    recorded_standing n f [] (E ∷ es) h = absurd h
    recorded_standing n f (k ∷ ks) [] h = absurd h
    recorded_standing n f (k ∷ ks) (E ∷ es) h = by (leb k n) refl (recorded_standing n f ks es h.1)
      where
        by : (x : Bool) → leb k n ≡ x → Recorded Q (standing n ks ks) (standing n ks es) → Recorded Q (cond x (k ∷ standing n ks ks) (standing n ks ks)) (cond x (E ∷ standing n ks es) (standing n ks es))
        by true e ih = (f k E h.0 (leb-true k n e), ih)
        by false e ih = ih

    pub recorded_withdraw : (n : ℕ) → ((k : ℕ) (E : Constraint) → P k E → k ≤ n → Q k E) → (st : Store) → RecordedStore P st → RecordedStore Q (store_after_withdraw none n st)
    recorded_withdraw n f st h = recorded_standing n f st.records st.clauses h
