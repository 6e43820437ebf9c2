-- Opening a text of either edition. Paper 02, wishes 10 and 13.
use Rattle.std.specs.Prelude.{ℕ, suc, Bool, true, cond, not, ◌||◌, List, [], ◌∷◌, length, leb, ltb, eqb}
use Rattle.std.proofs.Math.Option.{Option, none, some}
use Rattle.qbf.specs.Formula.{Limits, Literal, Formula}
use Rattle.qbf.specs.Calls.{given, rule_fault, with_rule, one_fault, with_one, ◌or_else◌}
use Rattle.layout.specs.Words.{Bytes, newline, split}
use Rattle.layout.specs.Forms.{book, block, clause, end}
use Rattle.layout.specs.Opening.{text_bytes, rank, allowed, stage_after, form_fault, with_form, Opened, refused, refused_or, at_end, empty_formula}
use Rattle.editions.specs.Lines.{Line, says, tagged, one, line_of}

-- the editions that a reader takes
abbrev pub Editions : Type 0
Editions = ℕ → Bool

-- "The new reader .. reads both"; "A reader of edition 1 given edition 2, or a conversion given the wrong edition, gives 2"
abbrev pub both : Editions
both e = eqb e 1 || eqb e 2

abbrev pub only : ℕ → Editions
only k e = eqb e k

-- ---- the order of the lines: an exactly-one form stands among the rules
abbrev pub rank_of : Line → ℕ
rank_of (says f) = rank f
rank_of (tagged k ls) = 3
rank_of (one ls) = 3

-- "In edition 2 every rule form has a tag", in edition 1 none; "Exactly-one forms stay in edition 1 and 2 alike, untagged."
abbrev pub tags_fit : ℕ → Line → Bool
tags_fit e (says (book k)) = true
tags_fit e (says (block κ ns)) = true
tags_fit e (says (clause ls)) = eqb e 1
tags_fit e (says end) = true
tags_fit e (tagged k ls) = eqb e 2
tags_fit e (one ls) = true

-- ---- what a line says
-- "a tag out of range is 39, after 20 and before 7"
abbrev pub tagged_fault : Formula → ℕ → List Literal → Option ℕ
tagged_fault b k ls = given (leb b.limits.clauses (length b.clauses)) 20 or_else given (eqb k 0 || ltb 65535 k) 39 or_else rule_fault b ls

abbrev pub said_fault : Editions → Formula → Line → Option ℕ
said_fault a b (says (book e)) = given (not (a e)) 2
said_fault a b (says (block κ ns)) = form_fault b (block κ ns)
said_fault a b (says (clause ls)) = rule_fault b ls
said_fault a b (says end) = none
said_fault a b (tagged k ls) = tagged_fault b k ls
said_fault a b (one ls) = one_fault b ls

-- "line by line 1, 2, then as the calls"
abbrev pub line_fault : Editions → ℕ → ℕ → Formula → Line → Option ℕ
line_fault a e stage b f = given (not (allowed stage (rank_of f))) 1 or_else given (not (tags_fit e f)) 1 or_else said_fault a b f

-- the formula after a line without a fault: a tag leaves no trace
abbrev pub with_line : Formula → Line → Formula
with_line b (says f) = with_form b f
with_line b (tagged k ls) = with_rule none b ls
with_line b (one ls) = with_one none b ls

-- the edition is that of the book's line
abbrev pub edition_after : ℕ → Line → ℕ
edition_after e (says (book k)) = k
edition_after e (says (block κ ns)) = e
edition_after e (says (clause ls)) = e
edition_after e (says end) = e
edition_after e (tagged k ls) = e
edition_after e (one ls) = e

-- ---- the text
abbrev pub is_end : Line → Bool
is_end f = eqb (rank_of f) 4

abbrev pub read_line : Editions → ℕ → ℕ → ℕ → Formula → Option Line → (Line → Formula → Opened) → Opened
read_line a n e stage b none go = refused 1 n
read_line a n e stage b (some f) go = refused_or n (line_fault a e stage b f) (go f (with_line b f))

-- The lines from number n on, in the edition e (0 before the book's line), as in the first edition.
unfoldable pub read_lines : Editions → ℕ → ℕ → ℕ → Formula → List Bytes → Opened
read_lines a n e stage b [] = refused 1 n
read_lines a n e stage b (l ∷ []) = refused 1 n
read_lines a n e stage b (l ∷ m ∷ ls) =
    read_line a n e stage b (line_of l)
    (λ f b'. cond (is_end f) (at_end (suc n) b' (m ∷ ls)) (read_lines a (suc n) (edition_after e f) (stage_after (rank_of f)) b' (m ∷ ls)))

-- a reader without 9
unfoldable pub read_editions : Editions → Limits → Bytes → Opened
read_editions a L s = read_lines a 1 0 0 (empty_formula L) (split newline s)

unfoldable pub open_editions : Editions → Limits → Bytes → Opened
open_editions a L s = cond (ltb text_bytes (length s)) (refused 9 0) (read_editions a L s)
