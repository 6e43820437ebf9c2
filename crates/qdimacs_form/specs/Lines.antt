-- The lines of a QDIMACS text. Paper 02, wish 1; QDIMACS 1.1, with our digits.
use Rattle.std.specs.Prelude.{ℕ, ◌-◌, Bool, true, false, cond, not, ◌&&◌, List, [], ◌∷◌, map, pos, length, get_or, drop, leb, eqb}
use Rattle.std.proofs.Math.Option.{Option, none, some}
use Rattle.qbf.specs.Formula.{Quantifier, exists, forall, Literal, number_of}
use Rattle.layout.specs.Words.{Bytes, ascii, space, split, same, number}
use Rattle.layout.specs.Forms.{then, consed, off}

-- ---- words
-- a run of spaces has empty pieces between its spaces
unfoldable pub filled : List Bytes → List Bytes
filled [] = []
filled ([] ∷ ws) = filled ws
filled ((b ∷ w) ∷ ws) = (b ∷ w) ∷ filled ws

-- "runs of spaces stand only between items": the line has a byte, and neither its first nor its last is a space
unfoldable pub edged : Bytes → Bool
edged l = leb 1 (length l) && not (eqb (get_or l 0 0) space) && not (eqb (get_or l (length l - 1) 0) space)

-- ---- items
-- the byte of `-`
abbrev pub minus : ℕ
minus = 45

-- `0` ends a line's items and is nothing else
abbrev pub zero_word : Bytes
zero_word = ascii "0"

abbrev pub literal_of : (ℕ → Literal) → Option ℕ → Option Literal
literal_of f none = none
literal_of f (some n) = some (f n)

-- "off is a minus before our digits", where signs are allowed
unfoldable pub literal : Bool → Bytes → Option Literal
literal signed w = cond (same w zero_word) none (cond (signed && eqb (get_or w 0 0) minus) (literal_of off (number (drop 1 w))) (literal_of pos (number w)))

-- the items of a line, up to the `0` that is its last word
unfoldable pub literals : Bool → List Bytes → Option (List Literal)
literals signed [] = none
literals signed (w ∷ []) = cond (same w zero_word) (some []) none
literals signed (w ∷ v ∷ ws) = consed (λ l. l) (literal signed w) (literals signed (v ∷ ws))

-- ---- lines
-- a header has the counts of variables and of clauses
pub data Line : Type 0 where
  comment : Line
  header : ℕ → ℕ → Line
  group : Quantifier → List ℕ → Line
  clause : List Literal → Line

-- the words that begin a header, a quantifier line of exists and one of forall
abbrev pub header_word : Bytes
header_word = ascii "p"

abbrev pub exists_word : Bytes
exists_word = ascii "e"

abbrev pub forall_word : Bytes
forall_word = ascii "a"

-- `p cnf V C`
abbrev pub cnf_word : Bytes
cnf_word = ascii "cnf"

abbrev pub header_of : Bool → Option ℕ → Option ℕ → Option Line
header_of true (some v) (some c) = some (header v c)
header_of true (some v) none = none
header_of true none c = none
header_of false v c = none

abbrev pub header_from : List Bytes → Option Line
header_from (w ∷ v ∷ c ∷ []) = header_of (same w cnf_word) (number v) (number c)
header_from [] = none
header_from (w ∷ []) = none
header_from (w ∷ v ∷ []) = none
header_from (w ∷ v ∷ c ∷ x ∷ ws) = none

-- a group has at least one number
abbrev pub group_of : Quantifier → List Literal → Option Line
group_of κ [] = none
group_of κ (l ∷ ls) = some (group κ (map number_of (l ∷ ls)))

-- "a clause line of 0 alone 7": it is in the form
abbrev pub clause_of : List Literal → Option Line
clause_of ls = some (clause ls)

unfoldable pub line_from : List Bytes → Option Line
line_from [] = none
line_from (w ∷ ws) =
    cond (same w header_word) (header_from ws)
    (cond (same w exists_word) (then (literals false ws) (group_of exists))
    (cond (same w forall_word) (then (literals false ws) (group_of forall))
    (then (literals true (w ∷ ws)) clause_of)))

-- the byte of `c`
abbrev pub comment_byte : ℕ
comment_byte = 99

-- "Lines that begin with c are skipped anywhere": the line of its bytes without byte 10
unfoldable pub line_of : Bytes → Option Line
line_of l = cond (eqb (get_or l 0 0) comment_byte) (some comment) (cond (edged l) (line_from (filled (split space l))) none)
