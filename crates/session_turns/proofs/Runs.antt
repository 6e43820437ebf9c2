-- Whatever the pieces are that are read, what the program prints, put together, is what the session prints for its whole input, under the limits that it was given.
use Prim.Native.Nat.{ℕ, suc, ◌<◌}
use mathlib.Core.Path.{◌≡◌, refl, sym, ap, subst, ◌∙◌}
use mathlib.Core.Bool.{true}
use mathlib.Core.List.{List, []}
use native.Mathlib.Omega.{arith}
use lib.ListN.{length}
use Rattle.qbf.specs.Formula.{Limits}
use Rattle.layout.specs.Words.{Bytes, newline, split, joined}
use Rattle.layout.specs.Opening.{text_bytes}
use Rattle.layout.specs.Session.{parted}
use Rattle.sessions.specs.Session.{session_program}
use Rattle.feeding.specs.Sessions.{Held, start, at_end}
use Rattle.feeding.proofs.Sessions.{feed, fed_over, by_steps}
use Rattle.state_parts.specs.Parts.{Whole}
use Rattle.line_buffer.specs.Numbers.{last_number}
use Rattle.buffered_lines.specs.Turns.{View, whole}
use Rattle.buffered_lines.specs.Runs.{Ran}
use Rattle.buffered_lines.proofs.Runs.{true_false, printed}
use Rattle.session_turns.specs.declared.Stage.{Stage}
use Rattle.session_turns.specs.declared.Stage.TheVariants as stage
use Rattle.session_turns.specs.declared.Session.{Session}
use Rattle.session_turns.specs.Stages.{view_of}
use Rattle.session_turns.specs.Turns.{started}
use Rattle.session_turns.specs.Turned.{Tables, ShowsAs, session}

no_lines : (parted (split newline [])).rest ≡ []
unfolding parted split
no_lines = refl

module _ (L : Limits) where
  -- after the last answer nothing is printed
  silent_as : (g : Stage) (s : Session) (m : Tables) (n : ℕ) (h : Held) → (view_of g n).over ≡ true → ShowsAs L g s.shown m h → (q : Bytes) → whole (at_end L) (feed L h q) ≡ []
  silent_as (stage.Book k) s m n h e w q = absurd (true_false (sym e))
  silent_as (stage.Calls p) s m n h e w q = absurd (true_false (sym e))
  silent_as stage.Over s m n h e w q = ap (λ (x : Held). whole (at_end L) (feed L x q)) w ∙ ap (whole (at_end L)) (fed_over L q)

  -- From its start on, with a buffer of 65,537 bytes, two tables that hold a state under these limits, and an input of fewer than 2 ^ 64 - 1 bytes, in whatever pieces
  -- that is read: what was printed when the program is over is what the session prints.
  pub session_printed : (s : Session) (text : Bytes) (m : Tables) (input : Bytes) (outs : List Bytes) → started s → Whole L m.cells m.literals → length text ≡ suc text_bytes → length input < last_number
      → Ran (session L) s text m input outs → joined outs ≡ session_program L input
  session_printed s text m input outs b enough room few ran =
      printed (session L) (λ s m h e w q. silent_as s.stage s m s.length h e w q) s text m input outs start
      (ap (λ (v : View). v.at) is) (ap (λ (v : View). v.held) is) (ap (λ (v : View). v.number) is)
      (subst (λ (g : Stage). ShowsAs L g s.shown m start) (sym b.0) (refl, enough))
      (no_lines, omega arith) room few ran
      ∙ by_steps L input
    where
      is : view_of s.stage s.length ≡ view_of (stage.Book 0) s.length
      is = ap (λ (g : Stage). view_of g s.length) b.0
