-- The stages of a session.
use Rattle.std.specs.Prelude.{ℕ, Bool, true, false}
use Rattle.buffered_lines.specs.Places.{waits}
use Rattle.buffered_lines.specs.Turns.{View}
use Rattle.session_turns.specs.declared.Stage.{Stage}
use Rattle.session_turns.specs.declared.Stage.TheVariants as stage

-- more is to be read before the next turn
abbrev pub waits_in : Stage → Bool
waits_in (stage.Book k) = true
waits_in (stage.Calls p) = waits p.line
waits_in stage.Over = false

abbrev pub held_in : Stage → ℕ
held_in (stage.Book k) = k
held_in (stage.Calls p) = p.held
held_in stage.Over = 0

-- with an answer of n bytes
abbrev pub view_of : Stage → ℕ → View
view_of (stage.Book k) n = record { waits = true; over = false; at = 0; held = k; number = 1; length = n }
view_of (stage.Calls p) n = record { waits = waits p.line; over = false; at = p.at; held = p.held; number = p.number; length = n }
view_of stage.Over n = record { waits = false; over = true; at = 0; held = 0; number = 0; length = n }
