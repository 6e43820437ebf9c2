-- Digits from the last on are the number in decimal, right-aligned.
use Prim.Native.Nat.{ℕ, zero, suc, ◌+◌, ◌-◌, ◌/◌, ◌%◌, ◌^◌, ◌≤◌, ◌<◌}
use native.Mathlib.Omega.{arith}
use mathlib.Core.Path.{◌≡◌, refl, sym, ap, ◌∙◌}
use mathlib.Core.Logic.{◌⊎◌, inl, inr}
use mathlib.Core.Bool.{Bool, cond}
use mathlib.Core.List.{[], ◌∷◌, ◌++◌, append_assoc}
use lib.ListN.{length, replicate, replicate-append-replicate}
use borrow.Author.Tests.{ne_eqb}
use Rattle.layout.specs.Words.{Bytes, space}
use Rattle.layout.specs.Output.{decimal}
use Rattle.layout.specs.Page.{number_columns, most_lines, aligned}
use Rattle.layout_laws.proofs.Decimal.{decimal_one, decimal_more, length_one, length_more}
use Rattle.theory.proofs.Basics.{le_or_lt}
use Rattle.page.specs.Columns.{digit, columns}

digit_is : (n : ℕ) → 1 ≤ n → digit n ≡ 48 + n % 10
unfolding digit
digit_is n h = ap (λ (b : Bool). cond b space (48 + n % 10)) (ne_eqb n 0 (λ z. absurd (omega arith)))

-- no digit is left
blanks : (k n : ℕ) → n ≡ 0 → columns k n ≡ replicate k space
unfolding digit
blanks zero n e = refl
blanks (suc k) n e =
    let z : k + 1 ≡ suc k = omega arith in
    ap (λ (l : Bytes). l ++ (digit n ∷ [])) (blanks k (n / 10) (omega arith))
    ∙ ap (λ (m : ℕ). replicate k space ++ (digit m ∷ [])) e
    ∙ replicate-append-replicate k 1 space
    ∙ ap (λ (m : ℕ). replicate m space) z

right : (k n : ℕ) → 1 ≤ n → n < 10 ^ k → columns k n ≡ replicate (k - length (decimal n)) space ++ decimal n
right zero n h l = absurd (omega arith)
right (suc k) n h l = by (le_or_lt 10 n) (λ q. right k (n / 10) (omega (arith, q)) (omega arith))
  where
    by : (10 ≤ n) ⊎ (n < 10) → (10 ≤ n → columns k (n / 10) ≡ replicate (k - length (decimal (n / 10))) space ++ decimal (n / 10))
        → columns (suc k) n ≡ replicate (suc k - length (decimal n)) space ++ decimal n
    by (inl q) ih =
        let z : k - length (decimal (n / 10)) ≡ suc k - length (decimal n) = omega (arith, length_more n q) in
        ap (λ (l : Bytes). l ++ (digit n ∷ [])) (ih q)
        ∙ ap (λ (d : ℕ). replicate (k - length (decimal (n / 10))) space ++ decimal (n / 10) ++ (d ∷ [])) (digit_is n h)
        ∙ append_assoc (replicate (k - length (decimal (n / 10))) space) (decimal (n / 10)) ((48 + n % 10) ∷ [])
        ∙ ap (λ (l : Bytes). replicate (k - length (decimal (n / 10))) space ++ l) (sym (decimal_more n q))
        ∙ ap (λ (m : ℕ). replicate m space ++ decimal n) z
    by (inr q) ih =
        let z : k ≡ suc k - length (decimal n) = omega (arith, length_one n q) in
        let y : 48 + n % 10 ≡ 48 + n = omega arith in
        ap (λ (l : Bytes). l ++ (digit n ∷ [])) (blanks k (n / 10) (omega arith))
        ∙ ap (λ (d : ℕ). replicate k space ++ (d ∷ [])) (digit_is n h ∙ y)
        ∙ ap (λ (l : Bytes). replicate k space ++ l) (sym (decimal_one n q))
        ∙ ap (λ (m : ℕ). replicate m space ++ decimal n) z

pub columns_aligned : (n : ℕ) → 1 ≤ n → n ≤ most_lines → columns number_columns n ≡ aligned n
unfolding aligned
columns_aligned n h l = right number_columns n h (omega arith)
