-- A text cut at its first byte c, which `position` finds.
use Prim.Native.Nat.{ℕ, zero, suc, ◌+◌, ◌<◌, ◌≤◌, ◌-◌}
use mathlib.Core.Path.{◌≡◌, refl, sym, ap, ◌∙◌}
use mathlib.Core.Bool.{Bool, true, false, cond, not}
use mathlib.Core.List.{[], ◌∷◌, ◌++◌}
use native.Mathlib.Omega.{arith}
use native.Mathlib.Numerals.{add-one}
use borrow.Author.Tests.{eqb-true, ltb-false}
use lib.Dec.{eqb, ltb}
use lib.ListN.{length, get_or, take, drop, length-drop, length-take}
use lib.Seq.{take_all}
use Rattle.std.specs.List.{prefix_len, position_or_len}
use Rattle.std.specs.Prelude.{position, Option as Answer, Some, None}
use Rattle.std.proofs.lemmas.List.Quantifiers.{position-Some}
use Rattle.theory.proofs.Basics.{not_true}
use Rattle.layout.specs.Words.{Bytes, on_first, split}
use Rattle.std.specs.Borrow.{Bor}
use Rattle.reader.specs.Pieces.{Cut}

-- ---- the place that `position` gives
-- all of a list passes
all_pass : (p : ℕ → Bool) (xs : Bytes) → length xs ≤ prefix_len p xs → (k : ℕ) → k < length xs → p (get_or xs k 0) ≡ true
all_pass p [] h k lt = absurd (omega arith)
all_pass p (x ∷ xs) h k lt = by (p x) refl h (all_pass p xs) k lt
  where
    by : (t : Bool) → p x ≡ t → suc (length xs) ≤ cond t (1 + prefix_len p xs) 0 → (length xs ≤ prefix_len p xs → (k : ℕ) → k < length xs → p (get_or xs k 0) ≡ true)
        → (k : ℕ) → k < suc (length xs) → p (get_or (x ∷ xs) k 0) ≡ true
    by true q h ih zero lt = q
    by true q h ih (suc k) lt = ih (omega arith) k (omega arith)
    by false q h ih k lt = absurd (omega arith)

pub none_stands : (p : ℕ → Bool) (xs : Bytes) → position p xs ≡ None → (k : ℕ) → k < length xs → p (get_or xs k 0) ≡ false
none_stands p xs e k lt = not_true (p (get_or xs k 0)) (all_pass (λ x. not (p x)) xs (by (ltb (position_or_len p xs) (length xs)) refl e) k lt)
  where
    by : (t : Bool) → ltb (position_or_len p xs) (length xs) ≡ t → ◌≡◌ {A = Answer ℕ} (cond t (Some (position_or_len p xs)) None) None → length xs ≤ position_or_len p xs
    by true q e = absurd (cc)
    by false q e = ltb-false (position_or_len p xs) (length xs) q

-- ---- a text cut at its first byte c
-- no byte c stands in it
split_alone : (c : ℕ) (s : Bytes) → ((k : ℕ) → k < length s → eqb (get_or s k 0) c ≡ false) → split c s ≡ s ∷ []
unfolding split
split_alone c [] h = refl
split_alone c (b ∷ s) h = rw (h 0 (omega arith)) (ap (on_first b) (split_alone c s (λ k lt. h (suc k) (omega arith))))

-- the first one stands at n
split_at : (c : ℕ) (s : Bytes) (n : ℕ) → n < length s → eqb (get_or s n 0) c ≡ true → ((k : ℕ) → k < n → eqb (get_or s k 0) c ≡ false) → split c s ≡ take n s ∷ split c (drop (suc n) s)
unfolding split
split_at c [] n h q ne = absurd (omega arith)
split_at c (b ∷ s) zero h q ne = rw q refl
split_at c (b ∷ s) (suc n) h q ne = rw (ne 0 (omega arith)) (ap (on_first b) (split_at c s n (omega arith) q (λ k lt. ne (suc k) (omega arith))))

around : (s : Bytes) (n : ℕ) → n < length s → s ≡ take n s ++ (get_or s n 0 ∷ drop (suc n) s)
around [] n h = absurd (omega arith)
around (b ∷ s) zero h = refl
around (b ∷ s) (suc n) h = ap (λ (t : Bytes). b ∷ t) (around s n (omega arith))

take_get : (s : Bytes) (n k : ℕ) → k < n → get_or (take n s) k 0 ≡ get_or s k 0
take_get [] (suc n) k h = refl
take_get s zero k h = absurd (omega arith)
take_get (b ∷ s) (suc n) zero h = refl
take_get (b ∷ s) (suc n) (suc k) h = take_get s n k (omega arith)

module _ (c : ℕ) (s : Bytes) where
  pub cut_some : {n : ℕ} → Some n ≡ position (λ b. eqb b c) s → {t : Bor Bytes} → t.now ≡ take (length s - (n + 1)) (drop (n + 1) s) → Cut c s (take n s) (Some t)
  cut_some {n} e {t} h =
      record {
        is = split_at c s n w.0 w.1 w.2 ∙ ap (λ (r : Bytes). take n s ∷ split c r) (sym left);
        alone = split_alone c (take n s) (λ k lt. ap (λ (b : ℕ). eqb b c) (take_get s n k (before k lt)) ∙ w.2 k (before k lt));
        bytes = around s n w.0 ∙ ap (λ (b : ℕ). take n s ++ (b ∷ drop (suc n) s)) (eqb-true (get_or s n 0) c w.1) ∙ ap (λ (r : Bytes). take n s ++ (c ∷ r)) (sym left);
        shorter = omega (arith, length-take n s, ap length left, length-drop (suc n) s, w.0);
      }
    where
      w : (n < length s) × (eqb (get_or s n 0) c ≡ true) × ((k : ℕ) → k < n → eqb (get_or s k 0) c ≡ false)
      w = position-Some (λ b. eqb b c) s n 0 (sym e)

      before : (k : ℕ) → k < length (take n s) → k < n
      before k lt = omega (arith, length-take n s)

      left : t.now ≡ drop (suc n) s
      left = h ∙ take_all (length s - (n + 1)) (drop (n + 1) s) (omega (arith, length-drop (n + 1) s)) ∙ ap (λ (k : ℕ). drop k s) (add-one n)

  pub cut_none : None ≡ position (λ b. eqb b c) s → Cut c s s None
  cut_none e =
      let alone : split c s ≡ s ∷ [] = split_alone c s (none_stands (λ b. eqb b c) s (sym e)) in
      record { is = alone; alone = alone; bytes = refl; shorter = omega arith }
