-- A line's first word, and what the answer of a line says of it.
use Rattle.std.specs.Prelude.{ℕ, zero, suc, ◌≡◌, cond, false, List, map, ℤ}
use Rattle.std.specs.Prelude.{Option as Answer, Some, None}
use Rattle.std.proofs.Math.Option.{Option, none, some}
use Rattle.qbf.specs.Formula.{Quantifier, is_free, Literal, number_of}
use Rattle.tables.specs.Views.{quantifier_code}
use Rattle.layout.specs.Words.{Bytes, same}
use Rattle.qdimacs_form.specs.Lines.{header_word, exists_word, forall_word}
use Rattle.qdimacs_form.specs.Lines as form
use Rattle.reader.specs.Items.{Kept}
use Rattle.qdimacs_reader.specs.declared.line.Word.{Word}
use Rattle.qdimacs_reader.specs.declared.line.Line.{Line}
use Rattle.qdimacs_reader.specs.declared.line.Word.TheVariants as word
use Rattle.qdimacs_reader.specs.declared.line.Line.TheVariants as line

unfoldable pub word_of : Bytes → Answer Word
word_of w = cond (same w header_word) (Some word.Header) (cond (same w exists_word) (Some word.Exists) (cond (same w forall_word) (Some word.Forall) None))

-- the quantifier line with n numbers
abbrev pub group_line : ℕ → ℕ → Answer Line
group_line κ zero = None
group_line κ (suc n) = Some (line.Group κ (suc n))

-- What a line says. The numbers of a quantifier line and the literals of a clause stand in the table.
abbrev pub LineIs : Option form.Line → Line → List ℤ → Type 0
LineIs o line.Comment out = o ≡ some form.comment
LineIs o (line.Header v c) out = o ≡ some (form.header v c)
LineIs o (line.Group κ n) out =
    (q : Quantifier) × (κ ≡ quantifier_code q) × (is_free q ≡ false) × ((ls : List Literal) × (o ≡ some (form.group q (map number_of ls))) × Kept n out ls)
LineIs o (line.Clause n) out = (ls : List Literal) × (o ≡ some (form.clause ls)) × Kept n out ls

-- .. and what an answer says, where the line may have none
abbrev pub LineRead : Option form.Line → Answer Line → List ℤ → Type 0
LineRead o None out = o ≡ none
LineRead o (Some l) out = LineIs o l out
