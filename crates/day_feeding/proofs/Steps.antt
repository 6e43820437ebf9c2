-- The program `day` by steps prints what is defined for its whole input, whatever the pieces are in which the input comes.
use Prim.Native.Nat.{ℕ, suc, ◌<◌}
use mathlib.Core.Path.{◌≡◌, sym, ap, ◌∙◌}
use mathlib.Core.Bool.{Bool, cond}
use mathlib.Core.List.{List, [], ◌∷◌, ◌++◌, append_assoc}
use mathlib.Core.Option.{Option}
use native.Mathlib.Omega.{arith}
use native.Mathlib.Decide.{dec_lt}
use borrow.Author.Tests.{le-ltb, lt-ltb}
use lib.ListN.{length}
use Rattle.layout.specs.Words.{Bytes, newline, split, joined}
use Rattle.layout.specs.Opening.{text_bytes}
use Rattle.feeding.specs.Lines.{Step, fed, begun, overlong, Serving, at_line}
use Rattle.feeding.proofs.Lines.{grown_by, grown_short, grown_long, whole_line, split_some, served_as, line_steps, fed_lines, fed_pieces, every_cut}
use Rattle.day_text.specs.Program.{Phase, kept, serve_day, day_end, day_lines, day_program}
use Rattle.day_feeding.specs.Steps.{Held, start, on_byte, at_end}

-- a line that is read from its first byte on
part_kept : (l : Bytes) → grown_by (begun []) l ≡ kept l
part_kept l = by (dec_lt text_bytes (length l))
  where
    by : Dec (text_bytes < length l) → grown_by (begun []) l ≡ kept l
    by (yes h) = grown_long [] l (omega arith) (omega (arith, h)) ∙ sym (ap (λ (t : Bool). cond t overlong (begun l)) (lt-ltb text_bytes (length l) h))
    by (no h) = grown_short [] l (omega (arith, h)) ∙ sym (ap (λ (t : Bool). cond t overlong (begun l)) (le-ltb text_bytes (length l) (omega (arith, h))))

-- what is printed at the bytes read so far, and then at the end of the input
abbrev pub whole : Step Held → Bytes
whole r = r.text ++ at_end r.held

lines_printed : (l : Bytes) (ls : List Bytes) (n : ℕ) (x : Phase) → whole (line_steps serve_day (at_line n x) (l ∷ ls)) ≡ day_lines n x (l ∷ ls)
unfolding day_lines
lines_printed l [] n x = ap (day_end n x) (part_kept l)
lines_printed l (m ∷ ls) n x =
    append_assoc (served_as serve_day (at_line n x) l).text (line_steps serve_day next (m ∷ ls)).text (at_end (line_steps serve_day next (m ∷ ls)).held)
    ∙ ap (λ (t : Bytes). (served_as serve_day (at_line n x) l).text ++ t) (lines_printed m ls (suc n) (served_as serve_day (at_line n x) l).left)
    ∙ ap (λ (o : Option Bytes). (serve_day n x o).text ++ day_lines (suc n) (serve_day n x o).left (m ∷ ls)) (whole_line l)
  where
    next : Serving Phase
    next = at_line (suc n) (served_as serve_day (at_line n x) l).left

-- What is printed at the bytes of an input, and then at its end, is what the program prints.
pub by_steps : (s : Bytes) → whole (fed on_byte start s) ≡ day_program s
unfolding day_program
by_steps s = ap whole (fed_lines serve_day start s) ∙ some_line (split newline s) (split_some newline s)
  where
    some_line : (ls : List Bytes) → (w : Bytes) × (ws : List Bytes) × (ls ≡ w ∷ ws) → whole (line_steps serve_day start ls) ≡ day_lines 1 start.left ls
    some_line [] r = absurd (let z : ◌≡◌ {A = ℕ} 0 1 = cc in omega (arith, z))
    some_line (l ∷ ls) r = lines_printed l ls 1 start.left

-- Whatever the pieces are in which the input comes, one after another: what is printed at each, and then at the end, is what the program prints.
pub day_by_pieces : (ps : List Bytes) → whole (fed_pieces on_byte start ps) ≡ day_program (joined ps)
day_by_pieces ps = ap whole (every_cut on_byte start ps) ∙ by_steps (joined ps)
