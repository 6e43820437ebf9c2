-- The words have the bits of the literals of the places before.
use Rattle.std.proofs.Common.{◌≡◌, true, false, length}
use Rattle.qbf.specs.Formula.{Node}
use Rattle.tables.specs.Codes.{Statuses}
use Rattle.searching.proofs.StartWords.{WordedTo}
use Rattle.searching.proofs.words.words_at.Given as goal

abbrev pub invariant-loop-i : goal.invariant-loop-i
invariant-loop-i l = (s : Node) → Statuses s l.statuses → length s ≡ l.at → WordedTo s true l.i l.held × WordedTo s false l.i l.failed
