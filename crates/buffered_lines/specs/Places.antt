-- What of a line is held in a buffer, and where it stands there.
use Rattle.std.specs.Prelude.{Option as Answer, Some, None, ℕ, suc, ◌+◌, ◌-◌, ◌<◌, ◌≡◌, Bool, true, false, cond, [], ◌∷◌, eqb, length, take, drop}
use Rattle.std.specs.Borrow.{Bor}
use Rattle.layout.specs.Words.{Bytes, newline, split}
use Rattle.feeding.specs.Lines.{Part, begun, overlong}
use Rattle.line_buffer.specs.Numbers.{next_number}
use Rattle.buffered_lines.specs.declared.Line.{Line}
use Rattle.buffered_lines.specs.declared.Line.TheVariants.{Next, Begun, Overlong}
use Rattle.buffered_lines.specs.declared.Place.{Place}

-- more is to be read before the line's end is looked for
abbrev pub waits : Line → Bool
waits Next = false
waits Begun = true
waits Overlong = true

-- a line that is too long is passed over to its end
abbrev pub skips : Line → Bool
skips Next = false
skips Begun = false
skips Overlong = true

-- what the definition holds of it before the bytes that are not used yet
abbrev pub part_in : Bool → Part
part_in true = overlong
part_in false = begun []

-- one that was passed over is served as an empty one
abbrev pub served_as : Bool → Bytes → Bytes
served_as passed l = cond passed [] l

-- the first line of the bytes and what stands behind its byte 10, or no byte 10 stands there
abbrev pub LineIn : Bytes → Answer (Bor Bytes) → Type 0
LineIn q None = split newline q ≡ q ∷ []
LineIn q (Some l) = (length l.now < length q) × (split newline q ≡ l.now ∷ split newline (drop (suc (length l.now)) q))

-- behind a line of n bytes and its byte 10
abbrev pub Behind : Place → ℕ → Place → Type 0
Behind p n r = r ≡ record { line = Next; at = p.at + n + 1; held = p.held; number = next_number p.number }

-- a line that fills the buffer is too long, and none of it is kept
abbrev pub too_long : Place → ℕ → Bool
too_long p room = cond (skips p.line) true (eqb (p.held - p.at) room)

abbrev pub kept_as : Bool → ℕ → ℕ → Place
kept_as true number left = record { line = Overlong; at = 0; held = 0; number = number }
kept_as false number left = record { line = Begun; at = 0; held = left; number = number }

pub record Refilled (p : Place) (text : Bytes) (r : Place) (text' : Bytes) : Type 0 where
  pub place : r ≡ kept_as (too_long p (length text)) p.number (p.held - p.at)
  pub size : length text' ≡ length text
  pub front : take (p.held - p.at) text' ≡ drop p.at (take p.held text)
