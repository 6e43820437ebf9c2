-- On two tables of the programs' sizes, whatever stands in them and whatever limits the arguments give, `session` prints what the session prints: nothing is asked of the tables any more.
use Prim.Native.Nat.{ℕ, suc, ◌<◌}
use mathlib.Core.Path.{◌≡◌}
use mathlib.Core.List.{List}
use lib.ListN.{length}
use Rattle.qbf.specs.Formula.{Limits, capped}
use Rattle.layout.specs.Words.{Bytes, joined}
use Rattle.layout.specs.Opening.{text_bytes}
use Rattle.sessions.specs.Session.{session_program}
use Rattle.feeding.specs.Sessions.{Held, start}
use Rattle.line_buffer.specs.Numbers.{last_number}
use Rattle.lent_texts.specs.declared.TheConstants.{CELLS, LITERALS}
use Rattle.lent_texts.proofs.Ample.{ample}
use Rattle.answer_text.specs.declared.shown.Shown.{Shown}
use Rattle.buffered_lines.specs.Runs.{Ran}
use Rattle.session_turns.specs.declared.Stage.TheVariants as stage
use Rattle.session_turns.specs.declared.Session.{Session}
use Rattle.session_turns.specs.Turns.{started}
use Rattle.session_turns.specs.Turned.{Tables, ShowsAs, session}
use Rattle.session_turns.proofs.Runs.{session_printed}

module _ (n k : ℕ) (m : Tables) (cells : length m.cells ≡ CELLS) (literals : length m.literals ≡ LITERALS) where
  abbrev L : Limits
  L = capped n k

  -- in the book, what a turn begins from
  pub book_ample : (held : ℕ) (shown : Shown) (h : Held) → h ≡ start → ShowsAs L (stage.Book held) shown m h
  book_ample held shown h e = (e, ample n k m.cells m.literals cells literals)

  -- Whatever the pieces are that the program `session` reads: what it printed when it is over is what the session prints.
  pub session_ample : (s : Session) (text input : Bytes) (outs : List Bytes) → started s → length text ≡ suc text_bytes → length input < last_number → Ran (session L) s text m input outs → joined outs ≡ session_program L input
  session_ample s text input outs b room few ran = session_printed L s text m input outs b (ample n k m.cells m.literals cells literals) room few ran
