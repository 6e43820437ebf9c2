-- Bytes, words and numbers of a text. Paper 01, "Text and program".
use Rattle.std.specs.Prelude.{ℕ, ◌+◌, ◌*◌, ◌-◌, Bool, true, false, cond, not, ◌&&◌, ◌||◌, List, [], ◌∷◌, ◌++◌, length, get_or, take, drop, leb, eqb}
use Prim.Native.Char.{code}
use Prim.Native.String.{String, [] as ε, ◌∷◌ as ◌▸◌}
use Rattle.std.proofs.Math.Option.{Option, none, some}

abbrev pub Bytes : Type 0
Bytes = List ℕ

-- the bytes of a quoted text
abbrev pub ascii : String → Bytes
ascii ε = []
ascii (c ▸ s) = code c ∷ ascii s

abbrev pub newline : ℕ
newline = 10

abbrev pub space : ℕ
space = 32

-- the brackets
abbrev pub opening : ℕ
opening = 40

abbrev pub closing : ℕ
closing = 41

-- ---- pieces
abbrev pub on_first : ℕ → List Bytes → List Bytes
on_first b [] = (b ∷ []) ∷ []
on_first b (w ∷ ws) = (b ∷ w) ∷ ws

-- The pieces between the bytes c, one more than there are bytes c. Byte 10 splits a text into lines; the last piece is what follows the
-- last byte 10. Byte 32 splits a line into words: two spaces side by side have an empty word between them.
unfoldable pub split : ℕ → Bytes → List Bytes
split c [] = [] ∷ []
split c (b ∷ s) = cond (eqb b c) ([] ∷ split c s) (on_first b (split c s))

-- texts one after another
abbrev pub joined : List Bytes → Bytes
joined [] = []
joined (t ∷ ts) = t ++ joined ts

unfoldable pub same : Bytes → Bytes → Bool
same [] [] = true
same [] (b ∷ v) = false
same (a ∷ w) [] = false
same (a ∷ w) (b ∷ v) = eqb a b && same w v

-- ---- numbers
abbrev pub is_digit : ℕ → Bool
is_digit b = leb 48 b && leb b 57

-- the value of the digits of w after those with the value v
unfoldable pub digits : ℕ → Bytes → Option ℕ
digits v [] = some v
digits v (b ∷ w) = cond (is_digit b) (digits (v * 10 + (b - 48)) w) none

-- a number of at most so many digits, with no leading zero
abbrev pub number_within : ℕ → Bytes → Option ℕ
number_within most w = cond (leb 1 (length w) && leb (length w) most && (eqb (length w) 1 || not (eqb (get_or w 0 0) 48))) (digits 0 w) none

-- "Numbers have 1 to 5 digits and no leading zero (0 alone is allowed)."
unfoldable pub number : Bytes → Option ℕ
number w = number_within 5 w

-- ---- brackets
-- a word without its last byte, where that is a closing bracket
unfoldable pub closed : Bytes → Option Bytes
closed w = cond (eqb (get_or w (length w - 1) 0) closing) (some (take (length w - 1) w)) none

-- what stands between a line's brackets
unfoldable pub inside : Bytes → Option Bytes
inside l = cond (eqb (get_or l 0 0) opening) (closed (drop 1 l)) none
