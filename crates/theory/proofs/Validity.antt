-- What a clause more, or the last clauses less, leave valid: a learned clause stays valid by more clauses, a cube by fewer.
use Prim.Native.Nat.{ℕ, ◌≤◌}
use native.Mathlib.Omega.{arith}
use mathlib.Core.Path.{◌≡◌, refl, sym, ◌∙◌, subst}
use mathlib.Core.Logic.{◌⊎◌, inl, inr}
use mathlib.Core.Bool.{Bool, true, false, ◌||◌, true≢false}
use mathlib.Core.List.{List, [], ◌∷◌, ◌++◌}
use mathlib.Core.Option.{none}
use lib.ListN.{length, take, drop, length-append, take-append-drop}
use lib.Seq.{length-take-le, take-take, take-append-le}
use Rattle.qbf.specs.Formula.{Clause, Limits, Node, Prefix, Quantifier, ◌▹◌, all, quantifiers, satisfied}
use Rattle.qbf.specs.Truth.{combine, completions, one_side_enough}
use Rattle.qbf.specs.Learning.{Constraint, Store, constraints}
use Rattle.qbf.specs.Card.{Mem}
use Rattle.qbf.specs.Calls.{standing, store_after_rule, store_after_withdraw}
use Rattle.theory.proofs.Basics.{and_left, and_right, or_cases, or_left, or_right, and_both}
use Rattle.theory.proofs.Game.{Win}
use Rattle.theory.proofs.Stores.{RecordedStore, recorded_mem, recorded_weaker, recorded_withdraw, stored_rule, stored_withdraw}
use Rattle.theory.proofs.Leaves.{ByFirst, Valid, SoundStore}

-- what is true with clauses more is true without them
more_clauses : (D : Prefix) (a : Bool) (R Q : List Clause) (ks : List Quantifier) (s : Node) → completions a D (R ++ Q) ks s ≡ true → completions a D R ks s ≡ true
more_clauses D a R Q [] s e = front R e
  where
    front : (P : List Clause) → all (satisfied D s) (P ++ Q) ≡ true → all (satisfied D s) P ≡ true
    front [] h = refl
    front (r ∷ P) h = and_both (satisfied D s r) (all (satisfied D s) P) (and_left (satisfied D s r) (all (satisfied D s) (P ++ Q)) h) (front P (and_right (satisfied D s r) (all (satisfied D s) (P ++ Q)) h))
more_clauses D a R Q (κ ∷ ks) s e = by (one_side_enough a κ) e (more_clauses D a R Q ks (s ▹ false)) (more_clauses D a R Q ks (s ▹ true))
  where
    by : (x : Bool) → combine x (completions a D (R ++ Q) ks (s ▹ false)) (completions a D (R ++ Q) ks (s ▹ true)) ≡ true
        → (completions a D (R ++ Q) ks (s ▹ false) ≡ true → completions a D R ks (s ▹ false) ≡ true) → (completions a D (R ++ Q) ks (s ▹ true) ≡ true → completions a D R ks (s ▹ true) ≡ true)
        → combine x (completions a D R ks (s ▹ false)) (completions a D R ks (s ▹ true)) ≡ true
    by true h p q = go (or_cases (completions a D (R ++ Q) ks (s ▹ false)) (completions a D (R ++ Q) ks (s ▹ true)) h)
      where
        go : (completions a D (R ++ Q) ks (s ▹ false) ≡ true) ⊎ (completions a D (R ++ Q) ks (s ▹ true) ≡ true) → (completions a D R ks (s ▹ false) || completions a D R ks (s ▹ true)) ≡ true
        go (inl w) = or_left (completions a D R ks (s ▹ false)) (completions a D R ks (s ▹ true)) (p w)
        go (inr w) = or_right (completions a D R ks (s ▹ false)) (completions a D R ks (s ▹ true)) (q w)
    by false h p q =
        and_both (completions a D R ks (s ▹ false)) (completions a D R ks (s ▹ true))
        (p (and_left (completions a D (R ++ Q) ks (s ▹ false)) (completions a D (R ++ Q) ks (s ▹ true)) h)) (q (and_right (completions a D (R ++ Q) ks (s ▹ false)) (completions a D (R ++ Q) ks (s ▹ true)) h))

clause_stays : (D : Prefix) (R Q : List Clause) (ks : List Quantifier) (s : Node) → Win D R false ks s → Win D (R ++ Q) false ks s
clause_stays D R Q ks s w = by (completions true D (R ++ Q) ks s) (more_clauses D true R Q ks s)
  where
    by : (b : Bool) → (b ≡ true → completions true D R ks s ≡ true) → b ≡ false
    by true h = absurd (true≢false (sym (h refl) ∙ w))
    by false h = refl

clause_valid : (D : Prefix) (R Q : List Clause) (E : Constraint) → Valid D R false E → Valid D (R ++ Q) false E
clause_valid D R Q E w = record { formed = w.formed; exact = λ t p q. clause_stays D R Q (drop (length t) (quantifiers D)) t (w.exact t p q) }

-- "Passes remain valid"
cube_valid : (D : Prefix) (R Q : List Clause) (E : Constraint) → Valid D (R ++ Q) true E → Valid D R true E
cube_valid D R Q E w = record { formed = w.formed; exact = λ t p q. more_clauses D false R Q (drop (length t) (quantifiers D)) t (w.exact t p q) }

-- ---- learned clauses by their records
module _ (D : Prefix) (R : List Clause) where
  first_rest : (k : ℕ) → take k R ++ drop k R ≡ R
  first_rest k = take-append-drop k R

  -- what is valid by the first clauses is valid
  pub by_first_valid : (k : ℕ) (E : Constraint) → ByFirst D R k E → Valid D R false E
  by_first_valid k E w = subst (λ (Q : List Clause). Valid D Q false E) (first_rest k) (clause_valid D (take k R) (drop k R) E w.valid)

  by_first_more : (Q : List Clause) (k : ℕ) (E : Constraint) → ByFirst D R k E → ByFirst D (R ++ Q) k E
  by_first_more Q k E w =
      record { within = omega (arith, w.within, length-append R Q); valid = subst (λ (P : List Clause). Valid D P false E) (sym (take-append-le k R Q w.within)) w.valid }

  by_first_less : (n : ℕ) → n ≤ length R → (k : ℕ) (E : Constraint) → ByFirst D R k E → k ≤ n → ByFirst D (take n R) k E
  by_first_less n h k E w le = record { within = omega (arith, le, length-take-le n R h); valid = subst (λ (P : List Clause). Valid D P false E) (sym (take-take k n R le)) w.valid }

-- ---- stores
module _ (L : Limits) (D : Prefix) (R : List Clause) where
  -- an accepted rule: "all passes go and bars remain"
  pub sound_rule : (Q : List Clause) (st : Store) → SoundStore L D R st → SoundStore L D (R ++ Q) (store_after_rule none st)
  sound_rule Q st h =
      record {
        stored = stored_rule (Valid D R) L (Valid D (R ++ Q)) (clause_valid D R Q) st h.stored;
        recorded = recorded_weaker (ByFirst D R) (ByFirst D (R ++ Q)) (by_first_more D R Q) st.records st.clauses h.recorded;
      }

  -- a withdrawn rule: the first n remain
  pub sound_withdraw : (n : ℕ) → n ≤ length R → (st : Store) → SoundStore L D R st → SoundStore L D (take n R) (store_after_withdraw none n st)
  sound_withdraw n le st h =
      record {
        stored = record { each = members; bounded = (stored_withdraw (Valid D R) L (Valid D R) n (λ v E w. w) st h.stored).bounded };
        recorded = records;
      }
    where
      records : RecordedStore (ByFirst D (take n R)) (store_after_withdraw none n st)
      records = recorded_withdraw (ByFirst D R) (ByFirst D (take n R)) n (by_first_less D R n le) st h.recorded

      members : (v : Bool) (E : Constraint) → Mem E (constraints v (store_after_withdraw none n st)) → Valid D (take n R) v E
      members true E m = cube_valid D (take n R) (drop n R) E (subst (λ (Q : List Clause). Valid D Q true E) (sym (first_rest D R n)) (h.stored.each true E m))
      members false E m =
          let w = recorded_mem (ByFirst D (take n R)) (standing n st.records st.records) (standing n st.records st.clauses) records E m in
          by_first_valid D (take n R) w.0 E w.1
