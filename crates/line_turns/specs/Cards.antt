-- A card or keep card whose call was made, on a state in two lent tables.
use Rattle.std.specs.Prelude.{ℕ, List, ℤ}
use Rattle.state_parts.specs.Parts.{read_at}
use Rattle.rule_calls.specs.ServesAt.{ServesAt}
use Rattle.replies.specs.declared.Listed.{Listed}
use Rattle.replies.specs.Replies.{card_said}
use Rattle.card_answers.specs.declared.Filled.{Filled}
use Rattle.card_answers.specs.declared.names.Names.{Names}
use Rattle.card_answers.specs.Lines.{NamesRead, card_for}

-- the call was answered by l, with the lines in f's table; the names are read from the tables as it left them
pub record CardServed (n : Names) (f : Filled) (l : Listed) : Type 0 where
  pub cells : List ℕ
  pub literals : List ℤ
  pub cells' : List ℕ
  pub literals' : List ℤ
  pub served : ServesAt cells literals (card_for f) (card_said l.lines l.visits f.table.now) cells' literals'
  pub names : NamesRead (read_at cells' literals') n
