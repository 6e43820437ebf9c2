-- The program `day` by steps: what it prints at each byte of its input and at the input's end, and what it holds between two bytes. Each line is served
-- at its byte 10, as a session's call is. That this is what the program prints for a whole input is proofs/Steps.antt.
use Rattle.std.specs.Prelude.{ℕ}
use Rattle.layout.specs.Words.{Bytes}
use Rattle.feeding.specs.Lines.{Step, Serving, at_line, on_line_byte}
use Rattle.day_text.specs.Program.{Phase, first, serve_day, day_end}

-- the phase and the number of the line that is being read, and its bytes so far
abbrev pub Held : Type 0
Held = Serving Phase

abbrev pub start : Held
start = at_line 1 first

abbrev pub on_byte : Held → ℕ → Step Held
on_byte h b = on_line_byte serve_day h b

abbrev pub at_end : Held → Bytes
at_end h = day_end h.number h.left h.part
