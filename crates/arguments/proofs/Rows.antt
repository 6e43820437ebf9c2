-- The arguments of a program by computation.
use mathlib.Core.Path.{◌≡◌, refl}
use mathlib.Core.List.{[], ◌∷◌}
use mathlib.Core.Option.{none, some}
use Rattle.qbf.specs.Formula.{paper, highest, capped}
use Rattle.layout.specs.Words.{ascii, digits, number}
use Rattle.arguments.specs.Arguments.{limits_of, usage_text}

record Rows : Type 0 where
  nothing : limits_of [] ≡ some paper
  two : limits_of (ascii "40" ∷ ascii "255" ∷ []) ≡ some paper
  -- any lower limit is legal, 0 too; higher ones are capped
  zeros : limits_of (ascii "0" ∷ ascii "0" ∷ []) ≡ some (capped 0 0)
  capped_at : limits_of (ascii "1001" ∷ ascii "99999" ∷ []) ≡ some highest
  in_order : limits_of (ascii "7" ∷ ascii "1000" ∷ []) ≡ some (capped 7 1000)
  -- digits as in a text
  leading_zero : limits_of (ascii "040" ∷ ascii "255" ∷ []) ≡ none
  six_digits : limits_of (ascii "40" ∷ ascii "100000" ∷ []) ≡ none
  no_number : limits_of (ascii "40" ∷ ascii "255 " ∷ []) ≡ none
  empty : limits_of (ascii "40" ∷ [] ∷ []) ≡ none
  -- both or none
  one : limits_of (ascii "40" ∷ []) ≡ none
  three : limits_of (ascii "40" ∷ ascii "255" ∷ ascii "1" ∷ []) ≡ none
  usage : usage_text (ascii "session") ≡ ascii "usage: session [NUMBERS RULES]\n"

rows : Rows
unfolding digits number limits_of usage_text
rows = record { nothing = refl; two = refl; zeros = refl; capped_at = refl; in_order = refl; leading_zero = refl; six_digits = refl; no_number = refl; empty = refl; one = refl; three = refl; usage = refl }
