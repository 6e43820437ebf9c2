-- The answer of a line, from what was read of the state, and a card's lines that are shown as one.
use Rattle.std.specs.Prelude.{ℕ, ◌≡◌, true, [], length}
use Rattle.std.proofs.Math.Option.{Option, none, some}
use Rattle.qbf.specs.Formula.{Prefix}
use Rattle.qbf.specs.Calls.{Call, card_of, State as Read, well_formed}
use Rattle.layout.specs.Words.{Bytes}
use Rattle.layout.specs.Output.{refusal_text}
use Rattle.layout.specs.Session.{answer_text}
use Rattle.serving.specs.Serves.{said, said_of, out_of}
use Rattle.replies.specs.declared.Listed.{Listed}
use Rattle.replies.specs.Replies.{card_said}
use Rattle.card_answers.specs.declared.Filled.{Filled}
use Rattle.card_answers.specs.declared.names.Names.{Names}
use Rattle.card_answers.specs.Names.{NamesOf}

abbrev pub prefix_read : Option Read → Prefix
prefix_read none = []
prefix_read (some y) = y.formula.prefix

-- "a line that is no call is 1", whatever the state is; a call on a malformed state is 22
abbrev pub line_answer : Option Read → ℕ → Option Call → Bytes
line_answer o n none = refusal_text 1 n
line_answer o n (some c) = answer_text (prefix_read o) c n (out_of o c)

-- the names are those of what was read, where it is well formed
abbrev pub NamesRead : Option Read → Names → Type 0
NamesRead o n = (y : Read) → o ≡ some y → well_formed y ≡ true → NamesOf y.formula.prefix n.numbers.now n.free

abbrev pub card_for : Filled → Call
card_for f = card_of f.sought.yes f.sought.ceiling (length f.table.now)

-- so many lines of a card stand in the table
pub record ShownOn (n : Names) (f : Filled) (lines visits : ℕ) : Type 0 where
  pub read : Option Read
  pub names : NamesRead read n
  pub said : said none 0 lines visits f.table.now ≡ said_of (out_of read (card_for f))

-- the lines of a card stand in the table, or it was refused
pub record ListedOn (n : Names) (f : Filled) (l : Listed) : Type 0 where
  pub read : Option Read
  pub names : NamesRead read n
  pub said : card_said l.lines l.visits f.table.now ≡ said_of (out_of read (card_for f))
