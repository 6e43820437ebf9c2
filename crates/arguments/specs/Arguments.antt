-- The arguments of a program: the limits under which its text is opened. Paper 02, wish 8: "A book is opened with its own limits for numbers and rules".
use Rattle.std.specs.Prelude.{ℕ, List, [], ◌∷◌, ◌++◌}
use Rattle.std.proofs.Math.Option.{Option, none, some}
use Rattle.qbf.specs.Formula.{Limits, paper, capped}
use Rattle.layout.specs.Words.{Bytes, ascii, number}
use Rattle.layout.specs.Forms.{then}

-- "the program uses 40, 255" where none is given; two numbers, with digits as in a text, are its own limits, "capped at these". Anything else is outside
-- the form, and the program's usage is printed.
unfoldable pub limits_of : List Bytes → Option Limits
limits_of [] = some paper
limits_of (n ∷ []) = none
limits_of (n ∷ m ∷ []) = then (number n) (λ a. then (number m) (λ b. some (capped a b)))
limits_of (n ∷ m ∷ w ∷ ws) = none

-- `usage: session [NUMBERS RULES]`, of a program by its name
unfoldable pub usage_text : Bytes → Bytes
usage_text name = ascii "usage: " ++ name ++ ascii " [NUMBERS RULES]\n"

-- the longest name of a program
abbrev pub longest_name : ℕ
longest_name = 40
