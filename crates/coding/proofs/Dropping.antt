-- Reduction of a list of codes, from the end.
use Prim.Native.Nat.{ℕ, ◌-◌, ◌≤◌, ◌<◌}
use native.Mathlib.Omega.{arith}
use native.Mathlib.Nat.{le_refl}
use mathlib.Core.Path.{◌≡◌, sym, ap, ◌∙◌}
use mathlib.Core.Bool.{Bool, true, false}
use mathlib.Core.List.{List}
use lib.ListN.{length, get_or, take, length-map}
use lib.Seq.{take-length}
use lib.IntN.{pos}
use Rattle.qbf.specs.Formula.{Quantifier, Prefix, Literal, place, positive, quantifier_at}
use Rattle.qbf.specs.Learning.{Polarity, Constraint, dropped, reduce}
use Rattle.theory.proofs.WellFormed.{inside}
use Rattle.literal.proofs.Reducing.{drops, reduced}
use Rattle.tables.specs.Views.{quantifier_code}
use Rattle.tables.specs.Codes.{codes, Quantified}
use Rattle.coding.proofs.Coded.{coded_length, coded_take, coded_cell}

-- The cells are the codes of e, and t is the table of quantifiers: whether the literal of a cell is dropped, t says.
module _ (D : Prefix) (v : Polarity) (e : Constraint) (t cs : List ℕ) (shown : Quantified D t) (coded : cs ≡ codes D e) where
  abbrev pub Decides : Bool → ℕ → Type 0
  Decides b i = (κ : Quantifier) → get_or t (get_or cs i 0) 0 ≡ quantifier_code κ → b ≡ dropped v κ

  whole : take (length cs) cs ≡ codes D e
  whole = take-length cs ∙ coded

  long : length e ≡ length cs
  long = coded_length D e cs (length cs) (le_refl (length cs)) whole

  is : (b : Bool) (i : ℕ) → i < length cs → Decides b i → drops D v (get_or e i (pos 0)) ≡ b
  is b i low decided =
      let l : Literal = get_or e i (pos 0) in
      sym
      (decided (quantifier_at D (place D l))
      (ap (λ (c : ℕ). get_or t c 0) (coded_cell D e cs (length cs) (le_refl (length cs)) whole i (pos 0) low)
      ∙ shown.at (place D l) (positive l) (omega (arith, inside D l, length-map D (λ d. d.quantifier)))))

  -- the first n cells are the codes of the reduction where all behind them are dropped and the last of them is not
  pub codes_reduced : (n : ℕ)
      → n ≤ length cs
      → ((i : ℕ) → n ≤ i → i < length cs → Decides true i)
      → (0 < n → Decides false (n - 1))
      → take n cs ≡ codes D (reduce D v e)
  codes_reduced n within out kept =
      coded_take D e cs (length cs) (le_refl (length cs)) whole n within
      ∙ ap (codes D)
      (reduced D v e n (pos 0) (omega (arith, long))
      (λ i q h. is true i (omega (arith, long)) (out i q (omega (arith, long))))
      (λ h. is false (n - 1) (omega arith) (kept h)))
