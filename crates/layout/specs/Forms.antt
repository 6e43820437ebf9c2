-- The form of a line: a keyword and its items. Paper 01, "Text and program".
use Rattle.std.specs.Prelude.{ℕ, Bool, true, false, cond, ◌&&◌, List, [], ◌∷◌, map, pos, neg_ℤ}
use Rattle.std.proofs.Math.Option.{Option, none, some}
use Rattle.qbf.specs.Formula.{Quantifier, free, exists, forall, Literal, number_of}
use Rattle.layout.specs.Words.{Bytes, ascii, space, split, same, number, closed, inside}

abbrev pub then : {A B : Type 0} → Option A → (A → Option B) → Option B
then none f = none
then (some a) f = f a

-- ---- items
unfoldable pub consed : {A B : Type 0} → (A → B) → Option A → Option (List B) → Option (List B)
consed f none o = none
consed f (some a) none = none
consed f (some a) (some bs) = some (f a ∷ bs)

abbrev pub no_word : Bytes
no_word = ascii "(no"

-- "positive means on, its negation off"
abbrev pub off : ℕ → Literal
off n = neg_ℤ (pos n)

-- A word that is a number is on. "`(no 1)` is off": where signs are allowed, the word "(no" and then a number with a closing bracket.
unfoldable pub items : Bool → List Bytes → Option (List Literal)
items signed [] = some []
items signed (w ∷ []) = consed pos (number w) (some [])
items signed (w ∷ v ∷ ws) =
    cond (signed && same w no_word) (consed off (then (closed v) number) (items signed ws))
    (consed pos (number w) (items signed (v ∷ ws)))

-- ---- forms
-- A block declares variables of one quantifier; the flags' line is the block of the free variables.
pub data Form : Type 0 where
  book : ℕ → Form
  block : Quantifier → List ℕ → Form
  clause : List Literal → Form
  end : Form

abbrev pub book_word : Bytes
book_word = ascii "book"

abbrev pub flags_word : Bytes
flags_word = ascii "flags"

abbrev pub exists_word : Bytes
exists_word = ascii "exists"

abbrev pub forall_word : Bytes
forall_word = ascii "forall"

abbrev pub rule_word : Bytes
rule_word = ascii "rule"

-- exactly one of some literals: in texts of both editions, and as a call
abbrev pub one_word : Bytes
one_word = ascii "one"

abbrev pub end_word : Bytes
end_word = ascii "end"

-- `(book 1)`: its edition is one number
abbrev pub book_form : List Literal → Option Form
book_form [] = none
book_form (l ∷ []) = some (book (number_of l))
book_form (l ∷ m ∷ ls) = none

-- "`(flags ..)` (may be empty, as `(flags)`)"
abbrev pub flags_form : List Literal → Option Form
flags_form ls = some (block free (map number_of ls))

-- "any `(exists ..)` or `(forall ..)` with at least one number"
abbrev pub block_form : Quantifier → List Literal → Option Form
block_form κ [] = none
block_form κ (l ∷ ls) = some (block κ (map number_of (l ∷ ls)))

-- "`(rule)` is 7": it is in the layout
abbrev pub rule_form : List Literal → Option Form
rule_form ls = some (clause ls)

abbrev pub end_form : List Literal → Option Form
end_form [] = some end
end_form (l ∷ ls) = none

-- the form of a line's words; only a rule has signed items
unfoldable pub form_from : List Bytes → Option Form
form_from [] = none
form_from (w ∷ ws) =
    cond (same w book_word) (then (items false ws) book_form)
    (cond (same w flags_word) (then (items false ws) flags_form)
    (cond (same w exists_word) (then (items false ws) (block_form exists))
    (cond (same w forall_word) (then (items false ws) (block_form forall))
    (cond (same w rule_word) (then (items true ws) rule_form)
    (cond (same w end_word) (then (items false ws) end_form)
    none)))))

-- "Nested brackets, one form a line, one space between items": the form of a line without its byte 10
unfoldable pub form_of : Bytes → Option Form
form_of l = then (inside l) (λ s. form_from (split space s))
