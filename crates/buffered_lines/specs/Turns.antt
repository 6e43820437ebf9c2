-- A turn on a lent buffer of a program that reads its input piece by piece, whatever the program prints: what it prints and leaves is what the program's definition
-- by steps (`feeding`) prints and holds.
use Rattle.std.specs.Prelude.{ℕ, suc, ◌+◌, ◌≤◌, ◌≡◌, Bool, true, false, ◌&&◌, ◌++◌, eqb, length, take, drop}
use Rattle.layout.specs.Words.{Bytes}
use Rattle.layout.specs.Opening.{text_bytes}
use Rattle.feeding.specs.Lines.{Step, after, fed}
use Rattle.line_buffer.specs.Numbers.{last_number}

-- What is known of a program between two turns: whether more is to be read before the next one, whether that was the last one; text[at..held] is not used yet, and
-- begins with that line; the last turn's answer has so many bytes.
pub record View : Type 0 where
  pub waits : Bool
  pub over : Bool
  pub at : ℕ
  pub held : ℕ
  pub number : ℕ
  pub length : ℕ

-- the bytes that are not used yet, once so many were read behind them
abbrev pub unused : View → ℕ → Bytes → Bytes
unused v got text = drop v.at (take (v.held + got) text)

-- none of what it waited for was read: the input has ended
abbrev pub has_ended : View → ℕ → Bool
has_ended v got = v.waits && eqb got 0

-- the buffer has one byte more than a text or a line may have, and the lent table holds every answer
pub record Ready (v : View) (got : ℕ) (text : Bytes) (answer_bytes : ℕ) (d₀ : Bytes) : Type 0 where
  pub at : v.at ≤ v.held
  pub held : v.held + got ≤ length text
  pub room : length text ≡ suc text_bytes
  pub answer : answer_bytes ≤ length d₀

-- it fits into the buffer for the next turn, and numbers do not run out before bytes do; the next line was number n
pub record Kept (n : ℕ) (q text : Bytes) (v : View) (text' d : Bytes) : Type 0 where
  pub at : v.at ≤ v.held
  pub held : v.held ≤ length text'
  pub room : length text' ≡ length text
  pub within : v.length ≤ length d
  pub few : v.number + length (unused v 0 text') ≤ n + length q

-- what is printed for bytes that are the last ones of the input
abbrev pub whole : {H : Type 0} → (H → Bytes) → Step H → Bytes
whole at_end r = r.text ++ at_end r.held

-- A turn of an input that has not ended. `Shows` says what the definition holds where the program is so between two turns, `Quiet` that nothing of such bytes is left
-- to be done before more is read.
pub record Went {H : Type 0} (on : H → ℕ → Step H) (Shows : H → Type 0) (Quiet : H → Bytes → Type 0) (n : ℕ) (q text : Bytes) (h : H) (v : View) (text' d : Bytes) : Type 0 where
  pub left : Kept n q text v text' d
  pub next : H
  pub shows : Shows next
  pub fed : fed on h q ≡ after (take v.length d) (fed on next (unused v 0 text'))
  pub quiet : v.waits ≡ true → Quiet next (unused v 0 text')

-- the turn at the input's end
pub record Finished {H : Type 0} (on : H → ℕ → Step H) (at_end : H → Bytes) (Shows : H → Type 0) (n : ℕ) (q text : Bytes) (h : H) (v : View) (text' d : Bytes) : Type 0 where
  pub left : Kept n q text v text' d
  pub over : v.over ≡ true
  pub waits : v.waits ≡ false
  pub next : H
  pub shows : Shows next
  pub printed : take v.length d ≡ whole at_end (fed on h q)

-- from a program that is v and holds what Shows says of it, to one that is v' and holds what Shows' says
pub record Turned {H : Type 0} (on : H → ℕ → Step H) (at_end : H → Bytes) (Quiet : H → Bytes → Type 0) (answer_bytes : ℕ) (v : View) (Shows : H → Type 0) (got : ℕ) (text d₀ : Bytes) (v' : View) (Shows' : H → Type 0) (text' d : Bytes) : Type 0 where
  pub goes : has_ended v got ≡ false → Ready v got text answer_bytes d₀ → (h : H) → Shows h → v.number + length (unused v got text) ≤ last_number → Went on Shows' Quiet v.number (unused v got text) text h v' text' d
  pub ends : has_ended v got ≡ true → Ready v got text answer_bytes d₀ → (h : H) → Shows h → Quiet h (unused v got text) → Finished on at_end Shows' v.number (unused v got text) text h v' text' d
