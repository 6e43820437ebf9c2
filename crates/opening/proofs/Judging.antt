-- A line by what was read of it: its form is judged by the items that the table keeps.
use Prim.Native.Nat.{ℕ, suc, ◌≤◌, ◌<◌, min}
use mathlib.Core.Path.{◌≡◌, refl, sym, ap, subst, ◌∙◌}
use mathlib.Core.Bool.{true}
use mathlib.Core.List.{List, [], ◌∷◌, map}
use mathlib.Core.Option.{Option}
use native.Mathlib.Omega.{arith}
use lib.IntN.{ℤ, pos}
use lib.ListN.{length, get_or, take}
use Rattle.std.specs.Prelude.{Result}
use Rattle.refusal.specs.declared.Refusal.{Refusal}
use Rattle.qbf.specs.Formula.{Limits, highest, Quantifier, free, exists, forall, Formula, number_of}
use Rattle.qbf.specs.Calls.{numbers_are_ok}
use Rattle.theory.proofs.WellFormed.{numbers_ok, numbers_capped}
use Rattle.tables.specs.Views.{quantifier_code}
use Rattle.state.specs.Reading.{quantifier_of}
use Rattle.layout.specs.Forms.{Form, book, block}
use Rattle.layout.specs.Opening.{declare_fault}
use Rattle.reader.specs.Items.{narrow, Kept}
use Rattle.reader.specs.Lines.{LineIs}
use Rattle.reader.specs.declared.keyword.Line.TheVariants as line
use Rattle.reader.proofs.Judged.{cut_same, rule_cut_under, rule_cut_same_under, block_judged_under, block_same_under}
use Rattle.opening.specs.declared.book.Book.{Book}
use Rattle.opening.specs.Standing.{formula_at, Standing}
use Rattle.opening.specs.Forms.{TookFormAt, BlockTookAt, RuleTookAt, TookAt}

pub code_back : (q : Quantifier) → quantifier_of (quantifier_code q) ≡ q
code_back free = refl
code_back exists = refl
code_back forall = refl

pub code_most : (q : Quantifier) → quantifier_code q ≤ 2
code_most free = omega arith
code_most exists = omega arith
code_most forall = omega arith

pub block_code : {o : Option Form} {κ n : ℕ} {out : List ℤ} → LineIs o (line.Block κ n) out → κ ≤ 2
block_code h = subst (λ (k : ℕ). k ≤ 2) (sym h.1) (code_most h.0)

-- the first item of a table that keeps one
pub first_kept : (out : List ℤ) (e : ℕ) → length out ≡ suc highest.numbers → Kept 1 out (pos e ∷ []) → get_or out 0 (pos 0) ≡ pos (narrow e)
first_kept [] e room k = absurd (omega (arith, room))
first_kept (z ∷ out) e room k = ap (λ (l : List ℤ). get_or l 0 (pos 0)) k.first

module _ {L : Limits} {stage : ℕ} {cells : List ℕ} {literals : List ℤ} (s : Standing L stage cells literals) where
  abbrev b : Formula
  b = formula_at cells literals

  -- the formula's own limit is not above the highest
  pub few_numbers : b.limits.numbers ≤ highest.numbers
  few_numbers = numbers_capped b s.reached.facts

  module _ {o : Option Form} {out : List ℤ} {r : Result Book Refusal} {cells' : List ℕ} {literals' : List ℤ} (room : length out ≡ suc highest.numbers) where
    pub line_book : LineIs o line.Book out → {z : ℤ} → z ≡ get_or out 0 (pos 0) → {m : ℕ} → m ≡ number_of z → ((e : ℕ) → m ≡ narrow e → TookFormAt stage b (book e) r cells' literals') → TookAt stage b o r cells' literals'
    line_book h p q k = subst (λ (f : Option Form). TookAt stage b f r cells' literals') (sym h.1) (k h.0 (q ∙ ap number_of (p ∙ first_kept out h.0 room h.2)))

    pub line_rule : (n : ℕ) {lits : List ℤ} → lits ≡ take (min n (length out)) out → LineIs o (line.Rule n) out → RuleTookAt stage b lits r cells' literals' → TookAt stage b o r cells' literals'
    line_rule n {lits} e h k =
        subst (λ (f : Option Form). TookAt stage b f r cells' literals') (sym h.1)
        (subst (λ (l : List ℤ). RuleTookAt stage b l r cells' literals') e k h.0
        (rule_cut_under b few_numbers n out h.0 h.2 refl wide) (rule_cut_same_under b few_numbers n out h.0 h.2 refl wide))
      where
        wide : b.limits.literals < length out
        wide = omega (arith, room)

    pub line_block : (κ n : ℕ) {lits : List ℤ} → lits ≡ take (min n (length out)) out → LineIs o (line.Block κ n) out → BlockTookAt stage b κ lits r cells' literals' → TookAt stage b o r cells' literals'
    line_block κ n {lits} e (q, c, (ns, f, k)) w =
        subst (λ (p : Option Form). TookAt stage b p r cells' literals') (sym f)
        (subst (λ (u : Quantifier). TookFormAt stage b (block u ns) r cells' literals') (ap quantifier_of c ∙ code_back q)
        (w ns
        (ap (λ (l : List ℤ). declare_fault b.limits (quantifier_of κ) b.prefix (map number_of l)) same ∙ block_judged_under b.limits few_numbers (quantifier_of κ) b.prefix n out ns fine refl wide k)
        (λ z. ap (map number_of) same ∙ block_same_under b.limits few_numbers (quantifier_of κ) b.prefix n out ns fine refl wide k z)))
      where
        same : lits ≡ take n out
        same = e ∙ cut_same n (length out) out refl

        wide : b.limits.numbers < length out
        wide = omega (arith, room, few_numbers)

        fine : numbers_are_ok b.limits [] b.prefix ≡ true
        fine = numbers_ok b s.reached.facts

-- a line without items is what it was read as
pub line_is : (stage : ℕ) (b : Formula) (r : Result Book Refusal) {o p : Option Form} (cells : List ℕ) (literals : List ℤ) → o ≡ p → TookAt stage b p r cells literals → TookAt stage b o r cells literals
line_is stage b r cells literals e = subst (λ (q : Option Form). TookAt stage b q r cells literals) (sym e)
