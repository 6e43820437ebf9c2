-- What the answer of a line of either edition says.
use Rattle.std.specs.Prelude.{ℕ, ◌≡◌, true, List, [], ◌∷◌, map, ℤ, pos}
use Rattle.std.specs.Prelude.{Option as Answer, Some, None}
use Rattle.std.proofs.Math.Option.{Option, none, some}
use Rattle.qbf.specs.Formula.{Literal, Quantifier}
use Rattle.tables.specs.Views.{quantifier_code}
use Rattle.layout.specs.Words.{Bytes, number, closed}
use Rattle.layout.specs.Forms.{then, items, book, block, clause, end}
use Rattle.editions.specs.Lines.{says, tagged, one, tagged_line}
use Rattle.editions.specs.Lines as form
use Rattle.reader.specs.Items.{Kept}
use Rattle.reader.specs.declared.keyword.Line.{Line as Form}
use Rattle.reader.specs.declared.keyword.Line.TheVariants as first
use Rattle.edition_reader.specs.declared.line.Line.{Line}
use Rattle.edition_reader.specs.declared.line.Line.TheVariants as line

-- a form of the first edition
abbrev pub form_line : Form → Line
form_line first.Book = line.Book
form_line (first.Block κ n) = line.Block κ n
form_line (first.Rule n) = line.Rule n
form_line first.End = line.End

-- the words after "(tag"
unfoldable pub tag_from : List Bytes → Option form.Line
tag_from [] = none
tag_from (v ∷ ws) = tagged_line (then (closed v) number) (items true ws)

-- What a line says. The edition, the numbers of a block and the literals of a rule stand in the table.
abbrev pub LineIs : Option form.Line → Line → List ℤ → Type 0
LineIs o line.Book out = (e : ℕ) × (o ≡ some (says (book e))) × Kept 1 out (pos e ∷ [])
LineIs o (line.Block κ n) out = (q : Quantifier) × (κ ≡ quantifier_code q) × ((ns : List ℕ) × (o ≡ some (says (block q ns))) × Kept n out (map pos ns))
LineIs o (line.Rule n) out = (ls : List Literal) × (o ≡ some (says (clause ls))) × Kept n out ls
LineIs o (line.Tagged k n) out = (ls : List Literal) × (o ≡ some (tagged k ls)) × Kept n out ls
LineIs o (line.One n) out = (ls : List Literal) × (o ≡ some (one ls)) × Kept n out ls
LineIs o line.End out = o ≡ some (says end)

-- .. and what an answer says, where the line may have none
abbrev pub LineRead : Option form.Line → Answer Line → List ℤ → Type 0
LineRead o None out = o ≡ none
LineRead o (Some l) out = LineIs o l out
