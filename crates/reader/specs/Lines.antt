-- A line's brackets, its keyword, and what the answer of a line says of its form.
use Rattle.std.specs.Prelude.{ℕ, zero, suc, ◌≡◌, Bool, true, false, List, [], ◌∷◌, map, ℤ, pos, eqb}
use Rattle.std.specs.Prelude.{Option as Answer, Some, None}
use Rattle.std.specs.Bool.{then_some}
use Rattle.std.specs.Borrow.{Bor}
use Rattle.std.proofs.Math.Option.{Option, none, some}
use Rattle.qbf.specs.Formula.{Literal, Quantifier, free, exists, forall}
use Rattle.tables.specs.Views.{quantifier_code}
use Rattle.layout.specs.Words.{Bytes, same, inside}
use Rattle.layout.specs.Forms.{book_word, flags_word, exists_word, forall_word, rule_word, end_word, Form, book_form, flags_form, block_form, rule_form, end_form}
use Rattle.layout.specs.Forms as form
use Rattle.reader.specs.Items.{Kept}
use Rattle.reader.specs.declared.keyword.Word.{Word}
use Rattle.reader.specs.declared.keyword.Line.{Line}
use Rattle.reader.specs.declared.keyword.Word.TheVariants as word
use Rattle.reader.specs.declared.keyword.Line.TheVariants as line

-- ---- brackets
-- what stands between a line's brackets
abbrev pub InsideIs : Bytes → Answer (Bor Bytes) → Type 0
InsideIs l None = inside l ≡ none
InsideIs l (Some s) = inside l ≡ some s.now

-- ---- keywords
abbrev pub pick : Bool → Word → Answer Word → Answer Word
pick true a b = Some a
pick false a b = b

unfoldable pub word_of : Bytes → Answer Word
word_of w =
    pick (same w book_word) word.Book
    (pick (same w flags_word) word.Flags
    (pick (same w exists_word) word.Exists
    (pick (same w forall_word) word.Forall
    (pick (same w rule_word) word.Rule
    (pick (same w end_word) word.End
    None)))))

abbrev pub signs : Word → Bool
signs word.Book = false
signs word.Flags = false
signs word.Exists = false
signs word.Forall = false
signs word.Rule = true
signs word.End = false

-- the form that a keyword and its items make
abbrev pub form_with : Word → List Literal → Option Form
form_with word.Book ls = book_form ls
form_with word.Flags ls = flags_form ls
form_with word.Exists ls = block_form exists ls
form_with word.Forall ls = block_form forall ls
form_with word.Rule ls = rule_form ls
form_with word.End ls = end_form ls

-- ---- lines
abbrev pub block_of : ℕ → ℕ → Answer Line
block_of κ zero = None
block_of κ (suc n) = Some (line.Block κ (suc n))

-- the line of a keyword with n items
abbrev pub line_of : Word → ℕ → Answer Line
line_of word.Book n = then_some (eqb n 1) line.Book
line_of word.Flags n = Some (line.Block (quantifier_code free) n)
line_of word.Exists n = block_of (quantifier_code exists) n
line_of word.Forall n = block_of (quantifier_code forall) n
line_of word.Rule n = Some (line.Rule n)
line_of word.End n = then_some (eqb n 0) line.End

-- What a line says of its form. The edition, the numbers of a block and the literals of a rule stand in the table.
abbrev pub LineIs : Option Form → Line → List ℤ → Type 0
LineIs o line.Book out = (e : ℕ) × (o ≡ some (form.book e)) × Kept 1 out (pos e ∷ [])
LineIs o (line.Block κ n) out = (q : Quantifier) × (κ ≡ quantifier_code q) × ((ns : List ℕ) × (o ≡ some (form.block q ns)) × Kept n out (map pos ns))
LineIs o (line.Rule n) out = (ls : List Literal) × (o ≡ some (form.clause ls)) × Kept n out ls
LineIs o line.End out = o ≡ some form.end

-- .. and what an answer says, where the line may have none
abbrev pub LineRead : Option Form → Answer Line → List ℤ → Type 0
LineRead o None out = o ≡ none
LineRead o (Some l) out = LineIs o l out
