-- The words of what is left of a line, and the first of them.
use Rattle.std.specs.Prelude.{◌<◌, ◌≡◌, List, [], ◌∷◌}
use Rattle.std.specs.Prelude.{Option as Answer, Some, None}
use Rattle.std.specs.Borrow.{Bor}
use Rattle.layout.specs.Words.{Bytes, space}
use Rattle.qdimacs_form.specs.Lines.{filled}
use Rattle.reader.specs.Pieces.{pieces, size_left}
use Rattle.qdimacs_reader.specs.declared.word.Word.{Word}

abbrev pub words : Answer (Bor Bytes) → List Bytes
words left = filled (pieces space left)

-- the first word, and what is left behind it
pub record First (left : Answer (Bor Bytes)) (w : Word) : Type 0 where
  pub is : words left ≡ w.word.now ∷ words w.left
  pub shorter : size_left w.left < size_left left

-- .. or there is none
abbrev pub NextWord : Answer (Bor Bytes) → Answer Word → Type 0
NextWord left None = words left ≡ []
NextWord left (Some w) = First left w
