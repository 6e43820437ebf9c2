-- No refusal of a text of either edition has the number 0, so that a number tells whether the text opens.
use Prim.Native.Nat.{ℕ, suc}
use mathlib.Core.Bool.{Bool, true, false, cond, not, ◌||◌}
use mathlib.Core.List.{List, [], ◌∷◌}
use mathlib.Core.Option.{Option, none, some}
use lib.ListN.{length}
use lib.Dec.{eqb, leb, ltb}
use Rattle.qbf.specs.Formula.{Limits, Formula}
use Rattle.layout.specs.Words.{Bytes, newline, split}
use Rattle.layout.specs.Forms.{book, block, clause, end}
use Rattle.layout.specs.Opening.{allowed, stage_after, Opened, refused, at_end, empty_formula, text_bytes}
use Rattle.serving.proofs.Numbered.{Numbered}
use Rattle.opening.proofs.Numbered.{numbered_given, rule_numbered, one_numbered}
use Rattle.opening.proofs.Apart.{NumberedText, fault_numbered, declare_numbered, edition_given, end_numbered}
use Rattle.editions.specs.Lines.{Line, says, tagged, one, line_of}
use Rattle.editions.specs.Opening.{Editions, rank_of, tags_fit, said_fault, line_fault, with_line, edition_after, is_end, read_line, read_lines, read_editions, open_editions}

said_numbered : (a : Editions) (b : Formula) (f : Line) → Numbered (said_fault a b f)
said_numbered a b (says (book e)) = edition_given (not (a e))
said_numbered a b (says (block κ ns)) = declare_numbered b.limits κ b.prefix ns
said_numbered a b (says (clause ls)) = rule_numbered b ls
said_numbered a b (says end) = tt
said_numbered a b (tagged k ls) = numbered_given (leb b.limits.clauses (length b.clauses)) 19 _ (numbered_given (eqb k 0 || ltb 65535 k) 38 _ (rule_numbered b ls))
said_numbered a b (one ls) = one_numbered b ls

line_numbered : (a : Editions) (e stage : ℕ) (b : Formula) (f : Line) → Numbered (line_fault a e stage b f)
line_numbered a e stage b f = numbered_given (not (allowed stage (rank_of f))) 0 _ (numbered_given (not (tags_fit e f)) 0 _ (said_numbered a b f))

lines_numbered : (a : Editions) (n e stage : ℕ) (b : Formula) (ls : List Bytes) → NumberedText (read_lines a n e stage b ls)
unfolding read_lines
lines_numbered a n e stage b [] = tt
lines_numbered a n e stage b (l ∷ []) = tt
lines_numbered a n e stage b (l ∷ m ∷ ls) = by (line_of l) (λ x s y. lines_numbered a (suc n) x s y (m ∷ ls))
  where
    Next : Type 0
    Next = (x s : ℕ) (y : Formula) → NumberedText (read_lines a (suc n) x s y (m ∷ ls))

    onward : Line → Formula → Opened
    onward f x = cond (is_end f) (at_end (suc n) x (m ∷ ls)) (read_lines a (suc n) (edition_after e f) (stage_after (rank_of f)) x (m ∷ ls))

    last : (f : Line) (t : Bool) → Next → NumberedText (cond t (at_end (suc n) (with_line b f) (m ∷ ls)) (read_lines a (suc n) (edition_after e f) (stage_after (rank_of f)) (with_line b f) (m ∷ ls)))
    last f true ih = end_numbered (suc n) (with_line b f) (m ∷ ls)
    last f false ih = ih (edition_after e f) (stage_after (rank_of f)) (with_line b f)

    by : (o : Option Line) → Next → NumberedText (read_line a n e stage b o onward)
    by none ih = tt
    by (some f) ih = fault_numbered n (line_fault a e stage b f) (onward f (with_line b f)) (line_numbered a e stage b f) (last f (is_end f) ih)

pub edition_numbered : (a : Editions) (L : Limits) (s : Bytes) → NumberedText (open_editions a L s)
unfolding open_editions read_editions
edition_numbered a L s = by (ltb text_bytes (length s))
  where
    by : (t : Bool) → NumberedText (cond t (refused 9 0) (read_lines a 1 0 0 (empty_formula L) (split newline s)))
    by true = tt
    by false = lines_numbered a 1 0 0 (empty_formula L) (split newline s)
