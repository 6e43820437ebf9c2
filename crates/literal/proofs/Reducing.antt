-- Reduction takes off the run of dropped literals at the end.
use Prim.Native.Nat.{ℕ, zero, suc, ◌-◌, ◌≤◌, ◌<◌}
use native.Mathlib.Omega.{arith}
use mathlib.Core.Path.{◌≡◌, refl, sym, ap, ◌∙◌}
use mathlib.Core.Bool.{Bool, true, false, cond}
use mathlib.Core.List.{[], ◌∷◌}
use lib.ListN.{length, get_or, take}
use Rattle.qbf.specs.Formula.{Prefix, Literal, place, quantifier_at}
use Rattle.qbf.specs.Learning.{Polarity, Constraint, dropped, keep_or_drop, reduce}

module _ (D : Prefix) (v : Polarity) where
  abbrev pub drops : Literal → Bool
  drops l = dropped v (quantifier_at D (place D l))

  -- a first literal stands where one behind it is kept, or it is kept itself
  first_kept : (l : Literal) (n : ℕ) (e : Constraint) → n ≤ length e → (n ≡ 0 → drops l ≡ false) → keep_or_drop (drops l) l (take n e) ≡ l ∷ take n e
  first_kept l zero e within kept = ap (λ (b : Bool). cond b [] (l ∷ [])) (kept refl)
  first_kept l (suc n) [] within kept = absurd (omega (arith, within))
  first_kept l (suc n) (k ∷ e) within kept = refl

  run : (e : Constraint) (n : ℕ) (d : Literal)
      → n ≤ length e
      → ((i : ℕ) → n ≤ i → i < length e → drops (get_or e i d) ≡ true)
      → ((i : ℕ) → suc i ≡ n → drops (get_or e i d) ≡ false)
      → take n e ≡ reduce D v e
  run [] zero d within out kept = refl
  run [] (suc n) d within out kept = refl
  run (l ∷ e) zero d within out kept =
      let rest = run e zero d (omega arith) (λ i q h. out (suc i) (omega arith) (omega (arith, h))) (λ i q. absurd (omega (arith, q))) in
      sym (ap (keep_or_drop (drops l) l) (sym rest) ∙ ap (λ (b : Bool). cond b [] (l ∷ [])) (out 0 (omega arith) (omega arith)))
  run (l ∷ e) (suc n) d within out kept =
      let rest = run e n d (omega (arith, within)) (λ i q h. out (suc i) (omega (arith, q)) (omega (arith, h))) (λ i q. kept (suc i) (ap suc q)) in
      sym (ap (keep_or_drop (drops l) l) (sym rest) ∙ first_kept l n e (omega (arith, within)) (λ z. kept 0 (ap suc (sym z))))

  -- the first n are the reduction where all behind them are dropped and the last of them is not
  pub reduced : (e : Constraint) (n : ℕ) (d : Literal)
      → n ≤ length e
      → ((i : ℕ) → n ≤ i → i < length e → drops (get_or e i d) ≡ true)
      → (0 < n → drops (get_or e (n - 1) d) ≡ false)
      → take n e ≡ reduce D v e
  reduced e n d within out kept = run e n d within out (λ i q. let z : i ≡ n - 1 = omega (arith, q) in rw z (kept (omega (arith, q))))
