-- What the programs `card` and `pages` print for a text of either edition. Paper 02, wish 13: the new reader is the one "which the program ..
-- now use".
use Rattle.std.specs.Prelude.{ℕ}
use Rattle.qbf.specs.Formula.{Limits}
use Rattle.layout.specs.Words.{Bytes}
use Rattle.layout.specs.Program.{opened_printed, opened_pages}
use Rattle.editions.specs.Opening.{both, open_editions}

-- with a card table of so many bytes
unfoldable pub card_program : Limits → ℕ → Bytes → Bytes
card_program L size s = opened_printed size (open_editions both L s)

unfoldable pub pages_program : Limits → ℕ → Bytes → Bytes
pages_program L size s = opened_pages size (open_editions both L s)
