-- `reader::text::line_count` meets its contract: it counts bytes 10.
use borrow.Author.Rules.{rules}
use mathlib.Core.Path.{◌≡◌, sym, ◌∙◌}
use lib.Dec.{eqb}
use Rattle.std.specs.Prelude.{count_by}
use Rattle.layout.specs.Words.{newline}
use Rattle.reader.proofs.Books.{count_is}
use Rattle.reader.proofs.text.line_count.Goals as goal

pub returns : goal.returns
returns c = let counted : c.count.result ≡ count_by (λ b. eqb b newline) c.args.text.now = search rules in counted ∙ sym (count_is c.args.text.now)
