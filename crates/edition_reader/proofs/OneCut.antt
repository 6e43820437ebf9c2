-- An exactly-one form is judged by the items that stand in a table with more cells than it may have literals.
use Prim.Native.Nat.{ℕ, min, ◌≤◌, ◌<◌}
use native.Mathlib.Omega.{arith}
use native.Mathlib.Decide.{dec_lt}
use mathlib.Core.Path.{◌≡◌, sym, ap, ◌∙◌}
use mathlib.Core.List.{List, [], map}
use mathlib.Core.Option.{none, some}
use lib.IntN.{ℤ}
use lib.ListN.{length, take, length-map, length-take}
use Rattle.qbf.specs.Formula.{highest, Literal, Formula}
use Rattle.qbf.specs.Calls.{one_fault}
use Rattle.theory.proofs.OneAdded.{twenty}
use Rattle.reader.specs.Items.{narrowed, Kept}
use Rattle.reader.proofs.Judged.{literals_judged_under, literals_same_under, kept_all, cut_same}
use Rattle.editions_laws.proofs.One.{one_judged, one_long}

module _ (b : Formula) (low : b.limits.numbers ≤ highest.numbers) (n : ℕ) (out : List ℤ) (ls : List Literal) (k : Kept n out ls) {m : ℕ} (room : length out ≡ m) (wide : b.limits.literals < m) where
  judged : one_fault b (map narrowed ls) ≡ one_fault b ls
  judged = one_judged b (map narrowed ls) ls (length-map ls narrowed) (literals_judged_under b.limits low b.prefix [] ls)

  pub one_cut : one_fault b (take (min n m) out) ≡ one_fault b ls
  one_cut = by (dec_lt m n)
    where
      by : Dec (m < n) → one_fault b (take (min n m) out) ≡ one_fault b ls
      by (no h) = ap (one_fault b) (cut_same n m out room ∙ kept_all n out ls k (omega (arith, h, room))) ∙ judged
      by (yes h) =
          one_long b (take (min n m) out) (omega (arith, h, room, wide, length-take (min n m) out))
          ∙ sym (one_long b ls (omega (arith, h, wide, k.count)))

  pub one_cut_same : one_fault b ls ≡ none → take (min n m) out ≡ ls
  one_cut_same e = by (dec_lt m n)
    where
      by : Dec (m < n) → take (min n m) out ≡ ls
      by (no h) = cut_same n m out room ∙ kept_all n out ls k (omega (arith, h, room)) ∙ literals_same_under b.limits low b.prefix [] ls (twenty b ls e).1
      by (yes h) = absurd (let z : some 7 ≡ none = sym (one_long b ls (omega (arith, h, wide, k.count))) ∙ e in let y : ◌≡◌ {A = ℕ} 0 1 = cc in omega (arith, y))
