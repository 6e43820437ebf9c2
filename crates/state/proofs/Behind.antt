-- The levels of the places so far, which never fall: those of one level have one quantifier, and so has the place that follows.
use Prim.Native.Nat.{ℕ, zero, suc, ◌+◌, ◌≤◌, ◌<◌}
use native.Mathlib.Nat.{not-suc-le-zero}
use native.Mathlib.Omega.{arith}
use mathlib.Core.Path.{◌≡◌, refl, sym, ap, ◌∙◌, subst}
use mathlib.Core.Logic.{◌⊎◌, inl, inr}
use mathlib.Core.Bool.{Bool, true, false, ◌&&◌, false≢true}
use mathlib.Core.List.{List}
use lib.Dec.{leb, eqb}
use borrow.Author.Tests.{eqb-true, eqb-false, leb-true}
use Rattle.qbf.specs.Formula.{level_beside}
use Rattle.theory.proofs.Basics.{dichotomy, and_left, and_right, and_both, le_or_lt}
use Rattle.state.specs.Reading.{quantifier_of, entry_at, code_at}
use Rattle.state.specs.Derived.{ordered, step_is_ok, code_for}
use Rattle.state.specs.Declare.{level_for}
use Rattle.state.proofs.Steps.{steps_from, level_same, level_other}

-- ---- one step of the levels
-- the code k next to the code c
data Next (c k : ℕ) : Type 0 where
  freed : k ≡ 0 → c ≡ 0 → Next c k
  kept : (k ≡ 0 → ⊥) → k ≡ c → Next c k
  grown : (k ≡ 0 → ⊥) → (k ≡ c → ⊥) → Next c k

next_of : (c k : ℕ) → ordered (quantifier_of c) (quantifier_of k) ≡ true → Next c k
next_of zero zero e = freed refl refl
next_of (suc zero) zero e = absurd (false≢true e)
next_of (suc (suc c)) zero e = absurd (false≢true e)
next_of c (suc k) e = by (dichotomy (eqb (suc k) c))
  where
    by : (eqb (suc k) c ≡ true) ⊎ (eqb (suc k) c ≡ false) → Next c (suc k)
    by (inl q) = kept (λ z. omega (arith, z)) (eqb-true (suc k) c q)
    by (inr q) = grown (λ z. omega (arith, z)) (eqb-false (suc k) c q)

-- The places before p: none has a level above m, and those of the level m have the code c.
pub record Behind (ls ks : List ℕ) (m c p : ℕ) : Type 0 where
  pub each : (j : ℕ) → j < p → (entry_at ls j ≤ m) × (entry_at ls j ≡ m → code_at ls ks j ≡ c)
  pub low : m ≤ p
  pub code : c ≤ 2
  pub zero_level : c ≡ 0 → m ≡ 0

-- the same, of the level and the code that follow those places
pub record Ahead (ls ks : List ℕ) (l k p : ℕ) : Type 0 where
  pub each : (j : ℕ) → j < p → (entry_at ls j ≤ l) × (entry_at ls j ≡ l → code_at ls ks j ≡ k)
  pub low : l ≤ suc p
  pub zero_level : k ≡ 0 → l ≡ 0

module _ (ls ks : List ℕ) where
  pub ahead : {m c p : ℕ} → Behind ls ks m c p → {l k : ℕ} → k ≤ 2 → ordered (quantifier_of c) (quantifier_of k) ≡ true → l ≡ level_beside m (quantifier_of c) (quantifier_of k) → Ahead ls ks l k p
  ahead {m} {c} {p} w {l} {k} h o is = by (next_of c k o)
    where
      by : Next c k → Ahead ls ks l k p
      by (freed z y) =
          let none : l ≡ 0 = is ∙ ap (λ (n : ℕ). level_beside m (quantifier_of c) (quantifier_of n)) z in
          let flat : m ≡ 0 = w.zero_level y in
          record {
            each = λ j b. (
              omega (arith, (w.each j b).0, flat),
              λ e. (w.each j b).1 (omega (arith, e, none, flat)) ∙ y ∙ sym z,
            );
            low = omega (arith, none);
            zero_level = λ q. none;
          }
      by (kept n y) =
          let stays : l ≡ m = is ∙ sym (level_same m c k w.code h n y) in
          record {
            each = λ j b. (
              omega (arith, (w.each j b).0, stays),
              λ e. (w.each j b).1 (e ∙ stays) ∙ sym y,
            );
            low = omega (arith, stays, w.low);
            zero_level = λ q. absurd (n q);
          }
      by (grown n y) =
          let more : l ≡ m + 1 = is ∙ sym (level_other m c k w.code h n y) in
          record {
            each = λ j b. (
              omega (arith, (w.each j b).0, more),
              λ e. absurd (not-suc-le-zero {n = 0} (omega (arith, (w.each j b).0, more, e))),
            );
            low = omega (arith, more, w.low);
            zero_level = λ q. absurd (n q);
          }

  behind_next : {l k p : ℕ} → Ahead ls ks l k p → k ≤ 2 → entry_at ls p ≡ l → code_at ls ks p ≡ k → Behind ls ks l k (suc p)
  behind_next {l} {k} {p} w h a b = record { each = at; low = w.low; code = h; zero_level = w.zero_level }
    where
      at : (j : ℕ) → j < suc p → (entry_at ls j ≤ l) × (entry_at ls j ≡ l → code_at ls ks j ≡ k)
      at j q = by (le_or_lt p j)
        where
          by : (p ≤ j) ⊎ (j < p) → (entry_at ls j ≤ l) × (entry_at ls j ≡ l → code_at ls ks j ≡ k)
          by (inl d) =
              let e : j ≡ p = omega (arith, d, q) in
              (omega (arith, ap (entry_at ls) e, a), λ z. ap (code_at ls ks) e ∙ b)
          by (inr d) = w.each j d

  behind_none : Behind ls ks 0 0 0
  behind_none = record { each = λ j b. absurd (not-suc-le-zero b); low = omega arith; code = omega arith; zero_level = λ e. refl }

  -- the tests of k places from i on, under the limit `top`, each next to the place before it
  abbrev pub steps : ℕ → ℕ → ℕ → Bool
  steps top i k = steps_from top ls ks (level_for ls i) (code_for ls ks i) i k

  abbrev pub step_at : ℕ → Bool
  step_at i = step_is_ok (level_for ls i) (code_for ls ks i) (entry_at ls i) (code_at ls ks i)

  behind_steps : (top i k : ℕ) → steps top i k ≡ true → Behind ls ks (level_for ls i) (code_for ls ks i) i → Behind ls ks (level_for ls (i + k)) (code_for ls ks (i + k)) (i + k)
  behind_steps top i zero e w = let q : i ≡ i + 0 = omega arith in subst (λ (n : ℕ). Behind ls ks (level_for ls n) (code_for ls ks n) n) q w
  behind_steps top i (suc k) e w =
      let q : suc i + k ≡ i + suc k = omega arith in
      subst (λ (n : ℕ). Behind ls ks (level_for ls n) (code_for ls ks n) n) q (behind_steps top (suc i) k (and_right (step_at i) (steps top (suc i) k) tests) here)
    where
      tests : (step_at i && steps top (suc i) k) ≡ true
      tests = and_right (leb (entry_at ls i) top) (step_at i && steps top (suc i) k) e

      test : step_at i ≡ true
      test = and_left (step_at i) (steps top (suc i) k) tests

      level : Bool
      level = eqb (level_beside (level_for ls i) (quantifier_of (code_for ls ks i)) (quantifier_of (code_at ls ks i))) (entry_at ls i)

      order : Bool
      order = ordered (quantifier_of (code_for ls ks i)) (quantifier_of (code_at ls ks i))

      small : code_at ls ks i ≤ 2
      small = leb-true (code_at ls ks i) 2 (and_left (leb (code_at ls ks i) 2) (level && order) test)

      rest : (level && order) ≡ true
      rest = and_right (leb (code_at ls ks i) 2) (level && order) test

      here : Behind ls ks (entry_at ls i) (code_at ls ks i) (suc i)
      here = behind_next (ahead w small (and_right level order rest) (sym (eqb-true _ _ (and_left level order rest)))) small refl refl

  pub behind : (top n : ℕ) → steps_from top ls ks 0 0 0 n ≡ true → Behind ls ks (level_for ls n) (code_for ls ks n) n
  behind top n e = let q : 0 + n ≡ n = omega arith in subst (λ (i : ℕ). Behind ls ks (level_for ls i) (code_for ls ks i) i) q (behind_steps top 0 n e behind_none)

  -- one place more
  pub steps_snoc : (top i k : ℕ) → steps top i k ≡ true → leb (entry_at ls (i + k)) top ≡ true → step_at (i + k) ≡ true → steps top i (suc k) ≡ true
  steps_snoc top i zero e a b =
      let q : i + 0 ≡ i = omega arith in
      and_both (leb (entry_at ls i) top) (step_at i && true) (ap (λ (n : ℕ). leb (entry_at ls n) top) (sym q) ∙ a) (and_both (step_at i) true (ap step_at (sym q) ∙ b) refl)
  steps_snoc top i (suc k) e a b =
      let q : i + suc k ≡ suc i + k = omega arith in
      let r : (step_at i && steps top (suc i) k) ≡ true = and_right (leb (entry_at ls i) top) (step_at i && steps top (suc i) k) e in
      and_both
      (leb (entry_at ls i) top)
      (step_at i && steps top (suc i) (suc k))
      (and_left (leb (entry_at ls i) top) (step_at i && steps top (suc i) k) e)
      (and_both
      (step_at i)
      (steps top (suc i) (suc k))
      (and_left (step_at i) (steps top (suc i) k) r)
      (steps_snoc top (suc i) k (and_right (step_at i) (steps top (suc i) k) r) (ap (λ (n : ℕ). leb (entry_at ls n) top) (sym q) ∙ a) (ap step_at (sym q) ∙ b)))

-- two pairs of tables with the same levels and codes at n places
pub record Agree (ls ks ls' ks' : List ℕ) (n : ℕ) : Type 0 where
  pub level : (j : ℕ) → j < n → entry_at ls' j ≡ entry_at ls j
  pub code : (j : ℕ) → j < n → code_at ls' ks' j ≡ code_at ls ks j

module _ {ls ks ls' ks' : List ℕ} {n : ℕ} (w : Agree ls ks ls' ks' n) where
  pub steps_agree : (top m c i k : ℕ) → i + k ≤ n → steps_from top ls' ks' m c i k ≡ steps_from top ls ks m c i k
  steps_agree top m c i zero h = refl
  steps_agree top m c i (suc k) h =
      let low : i < n = omega (arith, h) in
      ap (λ (x : Bool). leb (entry_at ls' i) top && (step_is_ok m c (entry_at ls' i) (code_at ls' ks' i) && x)) (steps_agree top (entry_at ls' i) (code_at ls' ks' i) (suc i) k (omega (arith, h)))
      ∙ ap (λ (l : ℕ). leb l top && (step_is_ok m c l (code_at ls' ks' i) && steps_from top ls ks l (code_at ls' ks' i) (suc i) k)) (w.level i low)
      ∙ ap (λ (d : ℕ). leb (entry_at ls i) top && (step_is_ok m c (entry_at ls i) d && steps_from top ls ks (entry_at ls i) d (suc i) k)) (w.code i low)

  pub level_agree : (p : ℕ) → p ≤ n → level_for ls' p ≡ level_for ls p
  level_agree zero h = refl
  level_agree (suc p) h = w.level p h

  pub code_agree : (p : ℕ) → p ≤ n → code_for ls' ks' p ≡ code_for ls ks p
  code_agree zero h = refl
  code_agree (suc p) h = w.code p h
