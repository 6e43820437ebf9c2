-- An input as it is read, byte by byte: what is printed at each byte, and what is held behind it. How the bytes come, one by one or many at once,
-- is not said: it changes nothing. Then the lines of calls, each answered at its byte 10, of whatever serves them.
use Rattle.std.specs.Prelude.{ℕ, suc, cond, List, [], ◌∷◌, ◌++◌, length, eqb, ltb}
use Rattle.std.proofs.Math.Option.{Option, none, some}
use Rattle.layout.specs.Words.{Bytes, newline}
use Rattle.layout.specs.Opening.{text_bytes}

-- ---- bytes one after another
pub record Step (H : Type 0) : Type 0 where
  pub text : Bytes
  pub held : H

abbrev pub after : {H : Type 0} → Bytes → Step H → Step H
after t r = record { text = t ++ r.text; held = r.held }

unfoldable pub fed : {H : Type 0} → (H → ℕ → Step H) → H → Bytes → Step H
fed on h [] = record { text = []; held = h }
fed on h (b ∷ s) = after (on h b).text (fed on (on h b).held s)

-- ---- the line that is being read
-- its bytes; of one that is longer than a text may be none are kept
pub data Part : Type 0 where
  begun : Bytes → Part
  overlong : Part

unfoldable pub grown : Part → ℕ → Part
grown (begun l) b = cond (ltb (length l) text_bytes) (begun (l ++ (b ∷ []))) overlong
grown overlong b = overlong

-- the line as it is served, at its byte 10: one that is too long is none
abbrev pub line_of : Part → Option Bytes
line_of (begun l) = some l
line_of overlong = none

-- ---- lines of calls
-- What serves a line answers its text and what it leaves for the next one; it is told the line's number, and no line where it is too long or not ended.
pub record Answered (X : Type 0) : Type 0 where
  pub text : Bytes
  pub left : X

abbrev pub Service : Type 0 → Type 0
Service X = ℕ → X → Option Bytes → Answered X

pub record Serving (X : Type 0) : Type 0 where
  pub number : ℕ
  pub part : Part
  pub left : X

-- before the first byte of a line
abbrev pub at_line : {X : Type 0} → ℕ → X → Serving X
at_line n x = record { number = n; part = begun []; left = x }

abbrev pub answered : {X : Type 0} → ℕ → Answered X → Step (Serving X)
answered n t = record { text = t.text; held = at_line (suc n) t.left }

abbrev pub longer : {X : Type 0} → Serving X → ℕ → Serving X
longer h b = record { number = h.number; part = grown h.part b; left = h.left }

abbrev pub on_line_byte : {X : Type 0} → Service X → Serving X → ℕ → Step (Serving X)
on_line_byte serve h b = cond (eqb b newline) (answered h.number (serve h.number h.left (line_of h.part))) (record { text = []; held = longer h b })

-- at the end of the input: a last line that is not ended is none
abbrev pub unended : {X : Type 0} → Service X → ℕ → X → Part → Bytes
unended serve n x (begun []) = []
unended serve n x (begun (b ∷ l)) = (serve n x none).text
unended serve n x overlong = (serve n x none).text

abbrev pub last_line : {X : Type 0} → Service X → Serving X → Bytes
last_line serve h = unended serve h.number h.left h.part

-- ---- the lines of a whole input
abbrev pub as_line : Bytes → Option Bytes
as_line l = cond (ltb text_bytes (length l)) none (some l)

-- What follows the last byte 10 is no line: nothing, or a last line that is not ended.
unfoldable pub lines_text : {X : Type 0} → Service X → ℕ → X → List Bytes → Bytes
lines_text serve n x [] = []
lines_text serve n x ([] ∷ []) = []
lines_text serve n x ((b ∷ l) ∷ []) = (serve n x none).text
lines_text serve n x (l ∷ m ∷ ls) = (serve n x (as_line l)).text ++ lines_text serve (suc n) (serve n x (as_line l)).left (m ∷ ls)
