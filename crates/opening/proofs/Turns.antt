-- A book's lines: each leaves what the lines after it open.
use Prim.Native.Nat.{ℕ, suc}
use mathlib.Core.Path.{◌≡◌, refl, sym, ap, subst, ◌∙◌}
use mathlib.Core.Bool.{Bool, true, false, cond, not}
use mathlib.Core.List.{List, [], ◌∷◌}
use mathlib.Core.Option.{Option, none, some}
use native.Mathlib.Omega.{arith}
use borrow.Author.Tests.{eq-eqb, ne_eqb}
use lib.Dec.{eqb}
use lib.IntN.{ℤ}
use Rattle.std.specs.Prelude.{Result, Ok, Err}
use Rattle.qbf.specs.Formula.{Limits, free, exists, forall, Formula}
use Rattle.qbf.specs.Calls.{limits_are_ok}
use Rattle.refusal.specs.declared.Refusal.{Refusal}
use Rattle.refusal.specs.declared.Refusal.TheVariants.{NotInLayout}
use Rattle.refusal.specs.Refusal.{number_of}
use Rattle.layout.specs.Words.{Bytes, newline, split}
use Rattle.layout.specs.Forms.{Form, book, block, clause, end, form_of}
use Rattle.layout.specs.Opening.{rank, stage_after, with_form, Opened, refused, refused_or, read_line, at_end, is_end, read_lines, empty_formula, open_text}
use Rattle.layout_laws.proofs.Opened.{reached_none}
use Rattle.state_parts.specs.Layout.{limits_in}
use Rattle.state_parts.specs.Initial.{empty_under}
use Rattle.state_parts.specs.Parts.{read_at}
use denote.Enum.Bare.{sameb}
use Rattle.opening.specs.contracts.stage.Stage.{the_type}
use Rattle.opening.specs.declared.stage.Stage.{Stage}
use Rattle.opening.specs.declared.stage.Stage.TheVariants as stages
use Rattle.opening.specs.Lines.{within_text, TakesAt, EndsAt}
use Rattle.opening.specs.Stages.{rank_of}
use Rattle.opening.specs.declared.book.Book.{Book}
use Rattle.opening.specs.Standing.{formula_at, Standing}
use Rattle.opening.specs.Forms.{lines_open, book_stands, book_opens_at, TookAt}
use Rattle.opening.proofs.Laws.{formula_is, stands_by}

-- ---- before the first line
module _ (y : Book) (first : rank_of y.stage ≡ 0) {L : Limits} (under : limits_in y.layout ≡ L) (low : limits_are_ok L ≡ true) (cells : List ℕ) (literals : List ℤ) (e : read_at cells literals ≡ some (empty_under L)) where
  pub first_stands : book_stands y cells literals
  first_stands =
      subst (λ (M : Limits). Standing M (rank_of y.stage) cells literals) (sym under)
      (subst (λ (k : ℕ). Standing L k cells literals) (sym first) (stands_by cells literals (empty_formula L) 0 e (reached_none L low)))

  pub first_opens : (s : Bytes) → within_text s (book_opens_at y cells literals 1 (split newline s)) ≡ open_text L s
  unfolding open_text
  first_opens s = rw (first, formula_is cells literals (empty_formula L) e)

-- ---- one line
-- the rank of a form is the end's where its stage is
end_same : (f : Form) → eqb (rank f) 4 ≡ eqb (stage_after (rank f)) 4
end_same (book e) = refl
end_same (block free ns) = refl
end_same (block exists ns) = refl
end_same (block forall ns) = refl
end_same (clause ls) = refl
end_same end = refl

-- what follows a line
onward : ℕ → Bytes → List Bytes → Form → Formula → Opened
onward n m ls f b = cond (is_end f) (at_end (suc n) b (m ∷ ls)) (read_lines (suc n) (stage_after (rank f)) b (m ∷ ls))

pub not_end : (s : Stage) {t : Bool} → t ≡ not (sameb the_type s stages.End) → t ≡ true → rank_of s ≡ 4 → ⊥
not_end stages.Book p q e = omega (arith, e)
not_end stages.Flags p q e = omega (arith, e)
not_end stages.Block p q e = omega (arith, e)
not_end stages.Rule p q e = omega (arith, e)
not_end stages.End p q e = cc

pub is_end_stage : (s : Stage) → sameb the_type s stages.End ≡ true → rank_of s ≡ 4
is_end_stage stages.Book e = cc
is_end_stage stages.Flags e = cc
is_end_stage stages.Block e = cc
is_end_stage stages.Rule e = cc
is_end_stage stages.End e = refl

module _ (y : Book) (cells : List ℕ) (literals : List ℤ) where
  abbrev b : Formula
  b = formula_at cells literals

  module _ (going : rank_of y.stage ≡ 4 → ⊥) (l : Bytes) where
    line_opens : (n : ℕ) (m : Bytes) (ls : List Bytes) → book_opens_at y cells literals n (l ∷ m ∷ ls) ≡ read_line n (rank_of y.stage) b (form_of l) (onward n m ls)
    unfolding read_lines onward
    line_opens n m ls = rw (ne_eqb (rank_of y.stage) 4 going)

    line_takes : (r : Result Book Refusal) (cells' : List ℕ) (literals' : List ℤ) → TookAt (rank_of y.stage) b (form_of l) r cells' literals' → TakesAt book_stands book_opens_at y cells literals l r cells' literals'
    unfolding onward
    line_takes r cells' literals' w = by (form_of l) refl r w
      where
        by : (o : Option Form) → form_of l ≡ o → (r : Result Book Refusal) → TookAt (rank_of y.stage) b o r cells' literals' → TakesAt book_stands book_opens_at y cells literals l r cells' literals'
        by none e (Ok z) w = cc
        by none e (Err q) w = λ n m ls.
            line_opens n m ls ∙ ap (λ (o : Option Form). read_line n (rank_of y.stage) b o (onward n m ls)) e ∙ ap (λ (k : Refusal). refused (number_of k) n) (let z : NotInLayout ≡ q = cc in z)
        by (some f) e (Err q) w = λ n m ls.
            line_opens n m ls ∙ ap (λ (o : Option Form). read_line n (rank_of y.stage) b o (onward n m ls)) e
            ∙ ap (λ (o : Option ℕ). refused_or n o (onward n m ls f (with_form b f))) w.fault
        by (some f) e (Ok z) w = (
          w.advanced.stands,
          λ n m ls.
              line_opens n m ls ∙ ap (λ (o : Option Form). read_line n (rank_of y.stage) b o (onward n m ls)) e
              ∙ ap (λ (o : Option ℕ). refused_or n o (onward n m ls f (with_form b f))) w.fault
              ∙ ap (onward n m ls f) (sym w.advanced.formula)
              ∙ ap (λ (t : Bool). cond t (at_end (suc n) (formula_at cells' literals') (m ∷ ls)) (read_lines (suc n) (stage_after (rank f)) (formula_at cells' literals') (m ∷ ls))) (end_same f)
              ∙ ap (λ (k : ℕ). lines_open k (formula_at cells' literals') (suc n) (m ∷ ls)) (sym w.advanced.stage),
        )

  -- after the end's line nothing may stand
  over_takes : rank_of y.stage ≡ 4 → (l : Bytes) (cells' : List ℕ) (literals' : List ℤ) → TakesAt book_stands book_opens_at y cells literals l (Err NotInLayout) cells' literals'
  over_takes e [] cells' literals' = λ n m ls. rw (eq-eqb (rank_of y.stage) 4 e)
  over_takes e (c ∷ l) cells' literals' = λ n m ls. rw (eq-eqb (rank_of y.stage) 4 e)

  going_ends : (rank_of y.stage ≡ 4 → ⊥) → EndsAt (book_opens_at y cells literals) cells literals (Err NotInLayout)
  unfolding read_lines
  going_ends g = λ n. rw (ne_eqb (rank_of y.stage) 4 g)

  whole_ends : rank_of y.stage ≡ 4 → book_stands y cells literals → EndsAt (book_opens_at y cells literals) cells literals (Ok tt)
  whole_ends e s = λ n. rw (eq-eqb (rank_of y.stage) 4 e) s.read

  -- ---- by the test of the stage
  pub told_over : {t : Bool} → t ≡ sameb the_type y.stage stages.End → t ≡ true → (l : Bytes) (cells' : List ℕ) (literals' : List ℤ) → TakesAt book_stands book_opens_at y cells literals l (Err NotInLayout) cells' literals'
  told_over p q = over_takes (is_end_stage y.stage (sym p ∙ q))

  pub told_takes : {t : Bool} → t ≡ sameb the_type y.stage stages.End → t ≡ false → (l : Bytes) (r : Result Book Refusal) (cells' : List ℕ) (literals' : List ℤ) → TookAt (rank_of y.stage) b (form_of l) r cells' literals' → TakesAt book_stands book_opens_at y cells literals l r cells' literals'
  told_takes p q = line_takes (not_end y.stage refl (sym (ap not p) ∙ ap not q))

  pub told_going : {t : Bool} → t ≡ not (sameb the_type y.stage stages.End) → t ≡ true → EndsAt (book_opens_at y cells literals) cells literals (Err NotInLayout)
  told_going p q = going_ends (not_end y.stage p q)

  pub told_ends : {t : Bool} → t ≡ not (sameb the_type y.stage stages.End) → t ≡ false → book_stands y cells literals → EndsAt (book_opens_at y cells literals) cells literals (Ok tt)
  told_ends p q = whole_ends (is_end_stage y.stage (not_not (sameb the_type y.stage stages.End) (sym p ∙ q)))
    where
      not_not : (t : Bool) → not t ≡ false → t ≡ true
      not_not true e = refl
      not_not false e = sym e
