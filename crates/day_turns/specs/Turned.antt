-- What a turn of the program `day` owes for every buffer: what it prints and leaves is what the definition by steps prints and holds.
use Rattle.std.specs.Prelude.{Option as Answer, Some, None, ℕ, ◌≤◌, ◌≡◌, Bool, true, false, List, [], ◌∷◌, length}
use Rattle.std.proofs.Math.Option.{Option, none, some}
use Rattle.layout.specs.Words.{Bytes, newline, split}
use Rattle.layout.specs.Opening.{text_bytes}
use Rattle.layout.specs.Session.{parted}
use Rattle.feeding.specs.Lines.{Part, begun, Serving, at_line}
use Rattle.days.specs.Day.{outside}
use Rattle.day_text.specs.Lines as lines
use Rattle.day_text.specs.Program.{Loading, Served, Phase, first, places, text, calls, over}
use Rattle.day_feeding.specs.Steps.{Held, on_byte, at_end}
use Rattle.text_skip.specs.Skip.{seen_of}
use Rattle.text_skip.specs.Fed.{Skips, inside}
use Rattle.buffered_lines.specs.declared.Place.{Place}
use Rattle.buffered_lines.specs.Places.{waits, skips, part_in}
use Rattle.buffered_lines.specs.Turns.{View}
use Rattle.buffered_lines.specs.Runs.{Program, TurnOf}
use Rattle.day_reader.specs.declared.place.PlaceLine.{PlaceLine}
use Rattle.day_reader.specs.Read.{place_is}
use Rattle.day_turns.specs.declared.Stage.{Stage}
use Rattle.day_turns.specs.declared.Stage.TheVariants as stage
use Rattle.day_turns.specs.declared.Skipping.{Skipping}
use Rattle.day_turns.specs.declared.Day.{Day}
use Rattle.day_turns.specs.Lent.{Shown, Loads}
use Rattle.day_turns.specs.Turns.{Within}

-- ---- what a program keeps
abbrev pub is_over : Stage → Bool
is_over stage.First = false
is_over stage.Places = false
is_over (stage.Text p) = false
is_over (stage.Skip k) = false
is_over stage.Calls = false
is_over stage.Over = true

abbrev pub view_as : Stage → Place → ℕ → View
view_as g p n = record { waits = waits p.line; over = is_over g; at = p.at; held = p.held; number = p.number; length = n }

abbrev pub view_of : Day → View
view_of s = view_as s.stage s.place s.length

-- ---- what the definition holds before the bytes that are not used yet
abbrev pub line_in : Place → Phase → Held
line_in p x = record { number = p.number; part = part_in (skips p.line); left = x }

-- whose text it is
abbrev pub whose : PlaceLine → Option lines.Place
whose p = place_is (Some p)

-- the loading of tables, of which these places were given
abbrev pub LoadsAs : {M : Type 0} → Shown M → List Bool → M → Loading → Type 0
LoadsAs T g m z = (z.given ≡ g) × Loads T m z.total z.books

-- in a text that is skipped, before line n or in it
pub record Skipped (z : Loading) (k : Skipping) (n : ℕ) (h : Held) : Type 0 where
  pub line : Part
  pub text : Part
  pub seen : k.seen ≡ seen_of line
  pub skips : Skips (place_is k.told) line text
  pub held : h ≡ inside z (place_is k.told) n line text

-- where more of it is to be read, nothing of it is held
abbrev pub Unheld : Place → Type 0
Unheld p = waits p.line ≡ true → p.held ≡ p.at

abbrev pub ShowsIn : {M : Type 0} → Shown M → Stage → Place → List Bool → M → Held → Type 0
ShowsIn T stage.First p g m h = T.Lent m × (h ≡ line_in p first)
ShowsIn T stage.Places p g m h = (z : Loading) × LoadsAs T g m z × (h ≡ line_in p (places z))
ShowsIn T (stage.Text t) p g m h = (z : Loading) × LoadsAs T g m z × (skips p.line ≡ false) × (outside t.place ≡ false) × (h ≡ at_line p.number (text z (whose t) (begun [])))
ShowsIn T (stage.Skip k) p g m h = (z : Loading) × LoadsAs T g m z × Unheld p × Within k.told × Skipped z k p.number h
ShowsIn T stage.Calls p g m h = (z : Served) × T.Serves m z × (h ≡ line_in p (calls z))
ShowsIn T stage.Over p g m h = h.left ≡ over

abbrev pub ShowsAs : {M : Type 0} → Shown M → Day → M → Held → Type 0
ShowsAs T s m h = ShowsIn T s.stage s.place s.given m h

-- nothing is left to be done before more is read
abbrev pub QuietIn : Phase → Bytes → Type 0
QuietIn first q = split newline q ≡ q ∷ []
QuietIn (places z) q = split newline q ≡ q ∷ []
QuietIn (text z o t) q = ((parted (split newline q)).rest ≡ []) × (length q ≤ text_bytes)
QuietIn (calls z) q = split newline q ≡ q ∷ []
QuietIn over q = Unit {0}

abbrev pub Quiet : Held → Bytes → Type 0
Quiet h q = QuietIn h.left q

-- the program `day` by turns
abbrev pub day : {M : Type 0} → Shown M → ℕ → Program Day M Held
day T answer_bytes =
    record {
      view = view_of;
      on = on_byte;
      at_end = at_end;
      Shows = ShowsAs T;
      Quiet = Quiet;
      answer_bytes = answer_bytes;
    }

abbrev pub Turned : {M : Type 0} → Shown M → ℕ → Day → ℕ → Bytes → M → Bytes → Day → Bytes → M → Bytes → Type 0
Turned T answer_bytes s got buffer m d₀ r buffer' m' d = TurnOf (day T answer_bytes) s got buffer m d₀ r buffer' m' d
