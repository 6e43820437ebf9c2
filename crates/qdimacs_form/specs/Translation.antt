-- The text of our own that says what a QDIMACS text says: the flags' line, then each group and each clause on a line. Paper 02, wish 1.
use Rattle.std.specs.Prelude.{ℕ, suc, ◌≤◌, ◌≡◌, Bool, true, not, ◌&&◌, List, [], ◌∷◌, ◌++◌, map, eqb}
use Rattle.std.proofs.Math.Option.{Option, none, some}
use Rattle.qbf.specs.Formula.{free, Prefix, Limits}
use Rattle.qbf.specs.Card.{Mem}
use Rattle.layout.specs.Words.{Bytes}
use Rattle.layout.specs.Forms.{Form, book, block, end, consed}
use Rattle.layout.specs.Forms as own
use Rattle.layout.specs.Opening.{variable, Opened, refused, opened}
use Rattle.qdimacs_form.specs.Lines.{Line, comment, header, group, clause, line_of}
use Rattle.qdimacs_form.specs.Opening.{flags_up_to}

-- the lines of a text, where each is in the form and the last is ended
unfoldable pub parsed : List Bytes → Option (List Line)
parsed [] = none
parsed ([] ∷ []) = some []
parsed ((b ∷ l) ∷ []) = none
parsed (l ∷ m ∷ ls) = consed (λ f. f) (line_of l) (parsed (m ∷ ls))

-- the header's count of variables
abbrev pub count_of : List Line → ℕ
count_of [] = 0
count_of (comment ∷ ls) = count_of ls
count_of (header v c ∷ ls) = v
count_of (group κ ns ∷ ls) = count_of ls
count_of (clause l ∷ ls) = count_of ls

-- the variables of the quantifier lines
abbrev pub quantified : List Line → Prefix
quantified [] = []
quantified (comment ∷ ls) = quantified ls
quantified (header v c ∷ ls) = quantified ls
quantified (group κ ns ∷ ls) = map (variable κ) ns ++ quantified ls
quantified (clause l ∷ ls) = quantified ls

-- "Quantifier lines keep their order"
abbrev pub forms_of : List Line → List Form
forms_of [] = []
forms_of (comment ∷ ls) = forms_of ls
forms_of (header v c ∷ ls) = forms_of ls
forms_of (group κ ns ∷ ls) = block κ ns ∷ forms_of ls
forms_of (clause l ∷ ls) = own.clause l ∷ forms_of ls

-- the form of each line in our own text: `(book 1)`, the flags, the groups and the rules, `(end)`
unfoldable pub translated : List Line → List Form
translated ls = book 1 ∷ block free (flags_up_to (quantified ls) (count_of ls)) ∷ (forms_of ls ++ (end ∷ []))

-- a refusal without its line: the two texts number their lines differently
abbrev pub unnumbered : Opened → Opened
unnumbered (refused k n) = refused k 0
unnumbered (opened b) = opened b

-- ---- what only a QDIMACS text can be refused for
-- the order of the lines: the header first and once, groups, clauses
abbrev pub in_the_form : ℕ → List Line → Bool
in_the_form stage [] = not (eqb stage 0)
in_the_form stage (comment ∷ ls) = in_the_form stage ls
in_the_form stage (header v c ∷ ls) = eqb stage 0 && in_the_form 1 ls
in_the_form stage (group κ ns ∷ ls) = eqb stage 1 && in_the_form 1 ls
in_the_form stage (clause l ∷ ls) = not (eqb stage 0) && in_the_form 2 ls

-- the header's count of clauses, and the clauses that stand there
abbrev pub promised_of : List Line → ℕ
promised_of [] = 0
promised_of (comment ∷ ls) = promised_of ls
promised_of (header v c ∷ ls) = c
promised_of (group κ ns ∷ ls) = promised_of ls
promised_of (clause l ∷ ls) = promised_of ls

abbrev pub clauses_inside : List Line → ℕ
clauses_inside [] = 0
clauses_inside (comment ∷ ls) = clauses_inside ls
clauses_inside (header v c ∷ ls) = clauses_inside ls
clauses_inside (group κ ns ∷ ls) = clauses_inside ls
clauses_inside (clause l ∷ ls) = suc (clauses_inside ls)

-- the lines stand in order, and the header's counts hold
pub record Plain (L : Limits) (ls : List Line) : Type 0 where
  pub in_form : in_the_form 0 ls ≡ true
  pub few : count_of ls ≤ L.numbers
  pub bounded : (n : ℕ) → Mem n (map (λ d. d.number) (quantified ls)) → n ≤ count_of ls
  pub counted : clauses_inside ls ≡ promised_of ls
