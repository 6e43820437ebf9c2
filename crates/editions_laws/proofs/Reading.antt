-- Two texts whose lines say the same, line by line, open the same.
use Prim.Native.Nat.{ℕ, suc, ◌≤◌}
use mathlib.Core.Path.{◌≡◌, refl, sym, ap, ◌∙◌}
use mathlib.Core.Bool.{Bool, true, false, cond}
use mathlib.Core.List.{List, [], ◌∷◌}
use mathlib.Core.Option.{Option, none, some}
use native.Mathlib.Omega.{arith}
use borrow.Author.Tests.{ltb-false}
use lib.Dec.{ltb, eqb}
use Rattle.qbf.specs.Formula.{Formula}
use Rattle.layout.specs.Words.{Bytes}
use Rattle.layout.specs.Opening.{stage_after, Opened, opened, refused_or, at_end}
use Rattle.layout_laws.proofs.Opened.{never_opened, went}
use Rattle.editions.specs.Lines.{Line, line_of}
use Rattle.editions.specs.Opening.{Editions, rank_of, line_fault, with_line, edition_after, is_end, read_line, read_lines}
use Rattle.editions.specs.Converting.{next, each_line}

-- a line f in place of a line says the same, in another edition and for another reader
pub record Same (a' : Editions) (e e' : ℕ) (stage : ℕ) (b : Formula) (l' : Bytes) (f : Line) : Type 0 where
  pub line : Line
  pub is : line_of l' ≡ some line
  pub fault : line_fault a' e' stage b line ≡ none
  pub formula : with_line b line ≡ with_line b f
  pub rank : rank_of line ≡ rank_of f
  pub edition : edition_after e f ≡ e
  pub edition' : edition_after e' line ≡ e'

after_one : (r : ℕ) → 1 ≤ stage_after r
after_one r = by (ltb r 2) refl
  where
    by : (t : Bool) → ltb r 2 ≡ t → 1 ≤ cond t (suc r) r
    by true q = omega arith
    by false q = omega (arith, ltb-false r 2 q)

-- what a conversion needs of each line
abbrev pub AllFit : (ℕ → Bytes → Type 0) → ℕ → List Bytes → Type 0
AllFit Fit k [] = Unit {0}
AllFit Fit k (l ∷ ls) = Fit k l × AllFit Fit (next k l) ls

-- Each line l, where the next rule form is the k-th and I holds of k and the formula, is replaced by g k l, which says the same.
module _
    (a a' : Editions) (e e' : ℕ) (g : ℕ → Bytes → Bytes) (I : ℕ → Formula → Type 0) (Fit : ℕ → Bytes → Type 0)
    (empty : (k : ℕ) → g k [] ≡ [])
    (says_same : (k stage : ℕ) (b : Formula) (l : Bytes) (f : Line) → 1 ≤ stage → I k b → Fit k l → line_of l ≡ some f → line_fault a e stage b f ≡ none → Same a' e e' stage b (g k l) f × I (next k l) (with_line b f))
  where
    at_end_lem : (n k : ℕ) (b : Formula) (ps : List Bytes) (c : Formula) → at_end n b ps ≡ opened c → at_end n b (each_line g k ps) ≡ opened c
    unfolding each_line
    at_end_lem n k b [] c z = absurd (never_opened 1 n c z)
    at_end_lem n k b ([] ∷ []) c z = ap (λ (l : Bytes). at_end n b (l ∷ [])) (empty k) ∙ z
    at_end_lem n k b ([] ∷ l ∷ ls) c z = absurd (never_opened 1 n c z)
    at_end_lem n k b ((x ∷ l) ∷ ls) c z = absurd (never_opened 1 n c z)

    pub lines_same : (n k stage : ℕ) (b : Formula) (ps : List Bytes) (c : Formula) → 1 ≤ stage → I k b → AllFit Fit k ps → read_lines a n e stage b ps ≡ opened c → read_lines a' n e' stage b (each_line g k ps) ≡ opened c
    unfolding read_lines each_line
    lines_same n k stage b [] c h i fit z = absurd (never_opened 1 n c z)
    lines_same n k stage b (l ∷ []) c h i fit z = absurd (never_opened 1 n c z)
    lines_same n k stage b (l ∷ m ∷ ls) c h i fit z =
        by (line_of l) refl z (λ s x j w. lines_same (suc n) (next k l) s x (m ∷ ls) c w j fit.1)
      where
        onward : Line → Formula → Opened
        onward f x = cond (is_end f) (at_end (suc n) x (m ∷ ls)) (read_lines a (suc n) (edition_after e f) (stage_after (rank_of f)) x (m ∷ ls))

        rest' : List Bytes
        rest' = each_line g (next k l) (m ∷ ls)

        onward' : Line → Formula → Opened
        onward' f x = cond (is_end f) (at_end (suc n) x rest') (read_lines a' (suc n) (edition_after e' f) (stage_after (rank_of f)) x rest')

        -- what follows a line of that rank
        after : ℕ → Formula → ℕ → Opened
        after r x q = cond (eqb r 4) (at_end (suc n) x rest') (read_lines a' (suc n) q (stage_after r) x rest')

        Next : Type 0
        Next = (s : ℕ) (x : Formula) → I (next k l) x → 1 ≤ s → read_lines a (suc n) e s x (m ∷ ls) ≡ opened c → read_lines a' (suc n) e' s x rest' ≡ opened c

        last : (f : Line) (t : Bool) → I (next k l) (with_line b f) → edition_after e f ≡ e → cond t (at_end (suc n) (with_line b f) (m ∷ ls)) (read_lines a (suc n) (edition_after e f) (stage_after (rank_of f)) (with_line b f) (m ∷ ls)) ≡ opened c → Next
            → cond t (at_end (suc n) (with_line b f) rest') (read_lines a' (suc n) e' (stage_after (rank_of f)) (with_line b f) rest') ≡ opened c
        last f true j q y ih = at_end_lem (suc n) (next k l) (with_line b f) (m ∷ ls) c y
        last f false j q y ih = ih (stage_after (rank_of f)) (with_line b f) j (after_one (rank_of f)) (ap (λ (x : ℕ). read_lines a (suc n) x (stage_after (rank_of f)) (with_line b f) (m ∷ ls)) (sym q) ∙ y)

        by : (o : Option Line) → line_of l ≡ o → read_line a n e stage b o onward ≡ opened c → Next → read_line a' n e' stage b (line_of (g k l)) onward' ≡ opened c
        by none q y ih = absurd (never_opened 1 n c y)
        by (some f) q y ih =
            let w = went n (line_fault a e stage b f) (onward f (with_line b f)) c y in
            let s = says_same k stage b l f h i fit.0 q w.0 in
            let t = s.0 in
            ap (λ (o : Option Line). read_line a' n e' stage b o onward') t.is
            ∙ ap (λ (o : Option ℕ). refused_or n o (onward' t.line (with_line b t.line))) t.fault
            ∙ (λ i. after (t.rank i) (t.formula i) (t.edition' i))
            ∙ last f (is_end f) s.1 t.edition w.1 ih
