-- A closest reading whose call was made, on a state in two lent tables.
use Rattle.std.specs.Prelude.{ℕ, List, ℤ, length, take}
use Rattle.qbf.specs.Calls.{closest}
use Rattle.state_parts.specs.Parts.{read_at}
use Rattle.rule_calls.specs.ServesAt.{ServesAt}
use Rattle.closest_call.specs.Nearest.{nearest_said}
use Rattle.card_answers.specs.declared.names.Names.{Names}
use Rattle.card_answers.specs.Lines.{NamesRead}
use Rattle.reading_answers.specs.declared.turn.Found.{Found}

-- the names are read from the tables as the call left them
pub record NearestServed (n : Names) (f : Found) : Type 0 where
  pub cells : List ℕ
  pub literals : List ℤ
  pub cells' : List ℕ
  pub literals' : List ℤ
  pub ceiling : ℕ
  pub on : List ℤ
  pub off : List ℤ
  pub served : ServesAt cells literals (closest ceiling (length f.table.now) on off) (nearest_said f.nearest.told f.nearest.lines f.nearest.visits f.table.now (take n.free f.reading.now)) cells' literals'
  pub names : NamesRead (read_at cells' literals') n
