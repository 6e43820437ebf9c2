-- The program's own tables have room for eight books under any limits: whatever the pieces are that it reads, it prints what the day prints.
use Prim.Native.Nat.{ℕ, zero, suc, ◌+◌, ◌-◌, ◌*◌, ◌≤◌, ◌<◌}
use mathlib.Core.Path.{◌≡◌, refl, sym, ap, subst}
use mathlib.Core.Bool.{true, false}
use mathlib.Core.List.{List}
use native.Mathlib.Omega.{arith}
use lib.IntN.{ℤ}
use lib.ListN.{length, take, drop, get_or, replicate, length-take, length-drop}
use Rattle.std.specs.Prelude.{sum}
use Rattle.qbf.specs.Formula.{highest}
use Rattle.layout.specs.Words.{Bytes, joined}
use Rattle.layout.specs.Opening.{text_bytes}
use Rattle.days.specs.Accounts.{books}
use Rattle.days.specs.Day.{outside}
use Rattle.days_laws.proofs.Days.{from_one, to_eight}
use Rattle.day_text.specs.Program.{day_program}
use Rattle.state_parts.specs.Parts.{Whole, cell_count, literal_count}
use Rattle.line_buffer.specs.Numbers.{last_number}
use Rattle.lent_texts.specs.declared.TheConstants.{CELLS, LITERALS}
use Rattle.lent_texts.proofs.Ample.{cells_are, literals_are}
use Rattle.buffered_lines.specs.Runs.{Ran}
use Rattle.places.specs.declared.rooms.Rooms.{Rooms}
use Rattle.places.specs.Rooms.{start, room, part_at}
use Rattle.day_lines.specs.declared.TheConstants.{ANSWER}
use Rattle.day_lines.specs.declared.Kept.{Kept}
use Rattle.day_turns.specs.declared.Day.{Day}
use Rattle.day_turns.specs.Turns.{Started}
use Rattle.day_turns.specs.Turned.{day}
use Rattle.day_turns.specs.Tables.{Tables, LentFor, in_tables, Unloaded}
use Rattle.day_turns.proofs.Runs.{day_printed}

-- eight equal rooms, one behind another
equal_rooms : (c k : ℕ) → 1 ≤ k → k ≤ 8 → (room (replicate books c) k ≡ c) × (start (replicate books c) k + c ≤ 8 * c)
equal_rooms c zero low up = absurd (omega (arith, low))
equal_rooms c (suc zero) low up = (refl, omega arith)
equal_rooms c (suc (suc zero)) low up = (refl, omega arith)
equal_rooms c (suc (suc (suc zero))) low up = (refl, omega arith)
equal_rooms c (suc (suc (suc (suc zero)))) low up = (refl, omega arith)
equal_rooms c (suc (suc (suc (suc (suc zero))))) low up = (refl, omega arith)
equal_rooms c (suc (suc (suc (suc (suc (suc zero)))))) low up = (refl, omega arith)
equal_rooms c (suc (suc (suc (suc (suc (suc (suc zero))))))) low up = (refl, omega arith)
equal_rooms c (suc (suc (suc (suc (suc (suc (suc (suc zero)))))))) low up = (refl, omega arith)
equal_rooms c (suc (suc (suc (suc (suc (suc (suc (suc (suc k))))))))) low up = absurd (omega (arith, up))

equal_part : {A : Type 0} (c k : ℕ) (t : List A) → outside k ≡ false → length t ≡ 8 * c → length (part_at (replicate books c) k t) ≡ c
equal_part c k t among long =
    let r = equal_rooms c k (from_one k among) (to_eight k among) in
    omega (arith, long, r.0, r.1, length-take (room (replicate books c) k) (drop (start (replicate books c) k) t), length-drop (start (replicate books c) k) t)

module _ (m : Tables) (unloaded : Unloaded m.kept) (cells : length m.cells ≡ 8 * CELLS) (literals : length m.literals ≡ 8 * LITERALS) (cards : length m.cards ≡ books) where
  pub ample : LentFor m
  ample =
      record {
        cards = cards;
        accounts = unloaded.1;
        rooms = λ k among.
            subst (λ (r : Rooms). Whole highest (part_at r.cells k m.cells) (part_at r.literals k m.literals)) (sym unloaded.0)
            (record {
              cells_room = omega (arith, cells_are, equal_part CELLS k m.cells among cells);
              literals_room = omega (arith, literals_are, equal_part LITERALS k m.literals among literals);
            });
      }

  -- Whatever the pieces are that the program `day` reads: what it printed when it is over is what is defined for the whole input.
  pub program_printed : (s : Day) (text : Bytes) (input : Bytes) (outs : List Bytes) → Started s → length text ≡ suc text_bytes → length input < last_number → Ran (day in_tables ANSWER) s text m input outs → joined outs ≡ day_program input
  program_printed s text input outs b room few ran = day_printed in_tables ANSWER s text m input outs b ample room few ran
