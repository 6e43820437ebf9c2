-- A book's lines in either edition: each leaves what the lines after it open.
use Prim.Native.Nat.{ℕ, suc}
use mathlib.Core.Path.{◌≡◌, refl, sym, ap, subst, ◌∙◌}
use mathlib.Core.Bool.{Bool, true, false, cond, not}
use mathlib.Core.List.{List, [], ◌∷◌}
use mathlib.Core.Option.{Option, none, some}
use borrow.Author.Tests.{eq-eqb, ne_eqb}
use lib.Dec.{eqb}
use lib.IntN.{ℤ}
use Rattle.std.specs.Prelude.{Result, Ok, Err}
use Rattle.qbf.specs.Formula.{Limits, free, exists, forall, Formula}
use Rattle.qbf.specs.Calls.{limits_are_ok}
use Rattle.refusal.specs.declared.Refusal.{Refusal}
use Rattle.refusal.specs.declared.Refusal.TheVariants.{NotInLayout}
use Rattle.refusal.specs.Refusal.{number_of}
use Rattle.state_parts.specs.declared.limits.Layout.{Layout}
use Rattle.state_parts.specs.Layout.{limits_in}
use Rattle.state_parts.specs.Initial.{empty_under}
use Rattle.state_parts.specs.Parts.{read_at}
use Rattle.layout.specs.Words.{Bytes, newline, split}
use Rattle.layout.specs.Forms.{book, block, clause, end}
use Rattle.layout.specs.Opening.{stage_after, Opened, refused, refused_or, at_end, empty_formula}
use Rattle.layout.specs.Opening as own
use Rattle.editions.specs.Lines.{Line, says, tagged, one, line_of}
use Rattle.editions.specs.Opening.{Editions, rank_of, with_line, edition_after, is_end, read_line, read_lines, read_editions, open_editions}
use Rattle.opening.specs.Lines.{within_text, TakesAt, EndsAt, ReadAt}
use Rattle.opening.specs.Stages as stage_ranks
use denote.Enum.Bare.{sameb}
use Rattle.opening.specs.contracts.stage.Stage.{the_type}
use Rattle.opening.specs.declared.stage.Stage.TheVariants as stages
use Rattle.opening.proofs.Turns.{not_end, first_stands, is_end_stage}
use Rattle.opening.specs.Standing.{formula_at}
use Rattle.opening.specs.Forms.{book_opens_at}
use Rattle.opening.proofs.Laws.{formula_is}
use Rattle.edition_opening.specs.declared.Editions.{Editions as Accepts}
use Rattle.edition_opening.specs.Editions.{accepted, edition_of}
use Rattle.edition_opening.specs.Lines.{lines_open, BegunAt, TookAt, edition_stands, edition_opens_at}
use Rattle.edition_opening.specs.declared.book.EditionBook.{EditionBook}

-- ---- before the first line
module _ {a : Accepts} {l : Layout} {z : EditionBook} (g : BegunAt a l z) {L : Limits} (under : limits_in l ≡ L) (low : limits_are_ok L ≡ true) (cells : List ℕ) (literals : List ℤ) (e : read_at cells literals ≡ some (empty_under L)) where
  pub begun_stands : edition_stands z cells literals
  begun_stands = first_stands z.book g.first (g.limits ∙ under) low cells literals e

  pub begun_opens : (s : Bytes) → within_text s (edition_opens_at z cells literals 1 (split newline s)) ≡ open_editions (accepted a) L s
  unfolding open_editions read_editions
  begun_opens s = rw (g.accepts, g.edition, g.first, formula_is cells literals (empty_formula L) e)

-- ---- one line
-- the rank of a line is the end's where its stage is
end_same : (f : Line) → eqb (rank_of f) 4 ≡ eqb (stage_after (rank_of f)) 4
end_same (says (book e)) = refl
end_same (says (block free ns)) = refl
end_same (says (block exists ns)) = refl
end_same (says (block forall ns)) = refl
end_same (says (clause ls)) = refl
end_same (says end) = refl
end_same (tagged k ls) = refl
end_same (one ls) = refl

-- what follows a line
onward : Editions → ℕ → ℕ → Bytes → List Bytes → Line → Formula → Opened
onward a e n m ls f b = cond (is_end f) (at_end (suc n) b (m ∷ ls)) (read_lines a (suc n) (edition_after e f) (stage_after (rank_of f)) b (m ∷ ls))

module _ (z : EditionBook) (cells : List ℕ) (literals : List ℤ) where
  abbrev a : Editions
  a = accepted z.accepts

  abbrev e : ℕ
  e = edition_of z.edition

  abbrev b : Formula
  b = formula_at cells literals

  module _ (going : stage_ranks.rank_of z.book.stage ≡ 4 → ⊥) (l : Bytes) where
    line_opens : (n : ℕ) (m : Bytes) (ls : List Bytes) → edition_opens_at z cells literals n (l ∷ m ∷ ls) ≡ read_line a n e (stage_ranks.rank_of z.book.stage) b (line_of l) (onward a e n m ls)
    unfolding read_lines onward
    line_opens n m ls = rw (ne_eqb (stage_ranks.rank_of z.book.stage) 4 going)

    line_takes : (r : Result EditionBook Refusal) (cells' : List ℕ) (literals' : List ℤ) → TookAt a e (stage_ranks.rank_of z.book.stage) b (line_of l) r cells' literals' → TakesAt edition_stands edition_opens_at z cells literals l r cells' literals'
    unfolding onward
    line_takes r cells' literals' w = by (line_of l) refl r w
      where
        by : (o : Option Line) → line_of l ≡ o → (r : Result EditionBook Refusal) → TookAt a e (stage_ranks.rank_of z.book.stage) b o r cells' literals' → TakesAt edition_stands edition_opens_at z cells literals l r cells' literals'
        by none i (Ok y) w = cc
        by none i (Err q) w = λ n m ls.
            line_opens n m ls ∙ ap (λ (o : Option Line). read_line a n e (stage_ranks.rank_of z.book.stage) b o (onward a e n m ls)) i ∙ ap (λ (k : Refusal). refused (number_of k) n) (let v : NotInLayout ≡ q = cc in v)
        by (some f) i (Err q) w = λ n m ls.
            line_opens n m ls ∙ ap (λ (o : Option Line). read_line a n e (stage_ranks.rank_of z.book.stage) b o (onward a e n m ls)) i
            ∙ ap (λ (o : Option ℕ). refused_or n o (onward a e n m ls f (with_line b f))) w.fault
        by (some f) i (Ok y) w = (
          w.advanced.stands,
          λ n m ls.
              line_opens n m ls ∙ ap (λ (o : Option Line). read_line a n e (stage_ranks.rank_of z.book.stage) b o (onward a e n m ls)) i
              ∙ ap (λ (o : Option ℕ). refused_or n o (onward a e n m ls f (with_line b f))) w.fault
              ∙ ap (onward a e n m ls f) (sym w.advanced.formula)
              ∙ ap (λ (t : Bool). cond t (at_end (suc n) (formula_at cells' literals') (m ∷ ls)) (read_lines a (suc n) (edition_after e f) (stage_after (rank_of f)) (formula_at cells' literals') (m ∷ ls))) (end_same f)
              ∙ ap (λ (k : ℕ). lines_open a (edition_after e f) k (formula_at cells' literals') (suc n) (m ∷ ls)) (sym w.advanced.stage)
              ∙ ap (λ (k : ℕ). lines_open a k (stage_ranks.rank_of y.book.stage) (formula_at cells' literals') (suc n) (m ∷ ls)) (sym w.advanced.edition)
              ∙ ap (λ (k : Editions). lines_open k (edition_of y.edition) (stage_ranks.rank_of y.book.stage) (formula_at cells' literals') (suc n) (m ∷ ls)) (sym w.advanced.accepts),
        )

  -- after the end's line nothing may stand
  over_takes : stage_ranks.rank_of z.book.stage ≡ 4 → (l : Bytes) (cells' : List ℕ) (literals' : List ℤ) → TakesAt edition_stands edition_opens_at z cells literals l (Err NotInLayout) cells' literals'
  over_takes k [] cells' literals' = λ n m ls. rw (eq-eqb (stage_ranks.rank_of z.book.stage) 4 k)
  over_takes k (c ∷ l) cells' literals' = λ n m ls. rw (eq-eqb (stage_ranks.rank_of z.book.stage) 4 k)

  -- a line is missing, or the book is whole, in either edition alike
  same_end : (n : ℕ) → edition_opens_at z cells literals n ([] ∷ []) ≡ book_opens_at z.book cells literals n ([] ∷ [])
  unfolding read_lines own.read_lines
  same_end n = by (eqb (stage_ranks.rank_of z.book.stage) 4)
    where
      by : (t : Bool) → cond t (at_end n b ([] ∷ [])) (read_lines a n e (stage_ranks.rank_of z.book.stage) b ([] ∷ []))
          ≡ cond t (at_end n b ([] ∷ [])) (own.read_lines n (stage_ranks.rank_of z.book.stage) b ([] ∷ []))
      by true = refl
      by false = refl

  pub ended_at : (r : Result (Unit {0}) Refusal) → EndsAt (book_opens_at z.book cells literals) cells literals r → EndsAt (edition_opens_at z cells literals) cells literals r
  ended_at (Ok u) w = λ n. subst (λ (o : Opened). ReadAt o (Ok u) cells literals) (sym (same_end n)) (w n)
  ended_at (Err q) w = λ n. same_end n ∙ w n

  -- ---- by the test of the stage
  pub told_over : {t : Bool} → t ≡ sameb the_type z.book.stage stages.End → t ≡ true → (l : Bytes) (cells' : List ℕ) (literals' : List ℤ) → TakesAt edition_stands edition_opens_at z cells literals l (Err NotInLayout) cells' literals'
  told_over p q = over_takes (is_end_stage z.book.stage (sym p ∙ q))

  pub told_takes : {t : Bool} → t ≡ sameb the_type z.book.stage stages.End → t ≡ false → (l : Bytes) (r : Result EditionBook Refusal) (cells' : List ℕ) (literals' : List ℤ) → TookAt a e (stage_ranks.rank_of z.book.stage) b (line_of l) r cells' literals' → TakesAt edition_stands edition_opens_at z cells literals l r cells' literals'
  told_takes p q = line_takes (not_end z.book.stage refl (sym (ap not p) ∙ ap not q))
