-- A turn of the program `session`, by the stage that it begins in.
use Prim.Native.Nat.{ℕ, suc, ◌+◌, ◌≤◌, ◌<◌}
use mathlib.Core.Path.{◌≡◌, refl, sym, ap, subst, ◌∙◌}
use mathlib.Core.Bool.{Bool, true, false, ◌&&◌, ◌||◌}
use mathlib.Core.List.{List, []}
use native.Mathlib.Omega.{arith}
use borrow.Author.Tests.{eqb-true}
use lib.Dec.{eqb}
use lib.IntN.{ℤ}
use lib.ListN.{length, take, drop, length-take}
use Rattle.std.specs.Prelude.{Option as Answer, Some, None}
use Rattle.std.specs.Borrow.{Bor}
use Rattle.qbf.specs.Formula.{Limits}
use Rattle.layout.specs.Words.{Bytes, newline, split}
use Rattle.theory.proofs.Basics.{true_eqb}
use Rattle.layout.specs.Output.{refusal_text}
use Rattle.feeding.specs.Sessions.{Held, on_byte, at_end}
use Rattle.feeding.proofs.Lines.{split_some}
use Rattle.feeding.proofs.Sessions.{feed, fed_over}
use Rattle.state_parts.specs.Parts.{Whole}
use Rattle.answer_text.specs.declared.shown.Shown.{Shown}
use Rattle.answer_text.specs.Room.{answer_bytes}
use Rattle.buffered_lines.specs.declared.Place.{Place}
use Rattle.buffered_lines.specs.Places.{waits, LineIn, too_long}
use Rattle.buffered_lines.specs.Turns.{unused, Ready, Went, Finished, Turned as TurnedOf}
use Rattle.buffered_lines.proofs.Runs.{true_false}
use Rattle.session_turns.specs.declared.Stage.{Stage}
use Rattle.session_turns.specs.declared.Stage.TheVariants as stage
use Rattle.session_turns.specs.declared.Session.{Session}
use Rattle.session_turns.specs.Stages.{waits_in, held_in, view_of}
use Rattle.session_turns.specs.Turns.{Over, Ends, BookTurned, LineAt, LinesTurned}
use Rattle.session_turns.specs.Turned.{Tables, tables, ShowsAs, Quiet, Turned, LeftShort}
use Rattle.session_turns.proofs.Books.{some_left, Shows, view, went_over, book_went, book_finished}
use Rattle.session_turns.proofs.Calls.{tail_of, answered_went, ended_finished, refilled}

held_is : (g : Stage) (n : ℕ) → (view_of g n).held ≡ held_in g
held_is (stage.Book k) n = refl
held_is (stage.Calls p) n = refl
held_is stage.Over n = refl

waits_is : (g : Stage) (n : ℕ) → (view_of g n).waits ≡ waits_in g
waits_is (stage.Book k) n = refl
waits_is (stage.Calls p) n = refl
waits_is stage.Over n = refl

-- with bytes that were read behind what was held
abbrev pub more : Place → ℕ → Place
more p got = record { line = p.line; at = p.at; held = p.held + got; number = p.number }

pub lines_more : (p : Place) (got n : ℕ) → n ≡ p.held + got → (s : Shown) (last : Bool) (text : Bytes) (cells : List ℕ) (literals : List ℤ) (cards d₀ : Bytes) (r : Session) (text' : Bytes) (cells' : List ℕ) (literals' : List ℤ) (cards' d : Bytes)
    → LinesTurned (record { line = p.line; at = p.at; held = n; number = p.number }) s last text cells literals cards d₀ r text' cells' literals' cards' d
    → LinesTurned (more p got) s last text cells literals cards d₀ r text' cells' literals' cards' d
lines_more p got n e s last text cells literals cards d₀ r text' cells' literals' cards' d t =
    subst (λ (j : ℕ). LinesTurned (record { line = p.line; at = p.at; held = j; number = p.number }) s last text cells literals cards d₀ r text' cells' literals' cards' d) e t

module _ (L : Limits) (s r : Session) (got : ℕ) (text : Bytes) (cells : List ℕ) (literals : List ℤ) (cards d₀ : Bytes) (text' : Bytes) (cells' : List ℕ) (literals' : List ℤ) (cards' d : Bytes) where
  abbrev m : Tables
  m = tables cells literals cards

  abbrev m' : Tables
  m' = tables cells' literals' cards'

  abbrev TurnedAs : Stage → Type 0
  TurnedAs g = TurnedOf (on_byte L) (at_end L) Quiet answer_bytes (view_of g s.length) (λ h. ShowsAs L g s.shown m h) got text d₀ (view L r) (Shows L r m') text' d

  turned_by : (g : Stage) → s.stage ≡ g → TurnedAs g → Turned L s got text cells literals cards d₀ r text' cells' literals' cards' d
  turned_by g e w = subst TurnedAs (sym e) w

  -- a buffer that is not the program's
  pub turned_not : (Ready (view L s) got text answer_bytes d₀ → ⊥) → Turned L s got text cells literals cards d₀ r text' cells' literals' cards' d
  turned_not bad = record { goes = λ a f h w n. absurd (bad f); ends = λ a f h w n. absurd (bad f) }

  pub turned_short : (held_in s.stage + got ≤ length text → ⊥) → Turned L s got text cells literals cards d₀ r text' cells' literals' cards' d
  turned_short bad = turned_not (λ f. bad (omega (arith, f.held, held_is s.stage s.length)))

  pub turned_back : (p : Place) → s.stage ≡ stage.Calls p → p.held < p.at → Turned L s got text cells literals cards d₀ r text' cells' literals' cards' d
  turned_back p e b = turned_not (λ f. let z : (view_of (stage.Calls p) s.length).at ≤ (view_of (stage.Calls p) s.length).held = subst (λ (g : Stage). (view_of g s.length).at ≤ (view_of g s.length).held) e f.at in omega (arith, z, b))

  -- a turn that no longer is one
  pub turned_over : s.stage ≡ stage.Over → Over 0 r → text' ≡ text → Turned L s got text cells literals cards d₀ r text' cells' literals' cards' d
  turned_over e o same =
      turned_by stage.Over e
      (record {
        goes = λ a f h w n. subst (λ (u : Bytes). Went (on_byte L) (Shows L r m') Quiet 0 (unused (view_of stage.Over s.length) got text) text h (view L r) u d) (sym same)
            (went_over L 0 r (unused (view_of stage.Over s.length) got text) text d o.0 (omega (arith, o.1)) m' h [] none (ap (λ (x : Held). feed L x (unused (view_of stage.Over s.length) got text)) w ∙ fed_over L (unused (view_of stage.Over s.length) got text)));
        ends = λ a f h w n. absurd (true_false (sym a));
      })
    where
      none : take r.length d ≡ []
      none = ap (λ (k : ℕ). take k d) o.1

  -- the book is read no further where the input has ended, or the buffer is full
  pub turned_book : (k n : ℕ) → s.stage ≡ stage.Book k → n ≡ k + got → (ended last : Bool) → ended ≡ eqb got 0 → last ≡ (ended || eqb n (length text)) → text' ≡ text → cards' ≡ cards → BookTurned L (take n text) last cells literals d₀ r cells' literals' d
      → Turned L s got text cells literals cards d₀ r text' cells' literals' cards' d
  turned_book k n e z ended last x y same cards_are t =
      turned_by (stage.Book k) e
      (record {
        goes = λ a f h w few. subst (λ (u : Bytes). Went (on_byte L) (Shows L r m') Quiet 1 (take (k + got) text) text h (view L r) u d) (sym same)
            (subst (λ (x : Held). Went (on_byte L) (Shows L r m') Quiet 1 (take (k + got) text) text x (view L r) text d) (sym w.0)
            (book_went L r (k + got) text d₀ d f.held f.answer cells literals m' w.1 last (λ q. omega (arith, count f, f.room, full a q)) (λ q. omega (arith, count f, f.held, f.room, not_full a q)) told (omega (arith, f.held, f.room))));
        ends = λ a f h w q. subst (λ (u : Bytes). Finished (on_byte L) (at_end L) (Shows L r m') 1 (take (k + got) text) text h (view L r) u d) (sym same)
            (subst (λ (x : Held). Finished (on_byte L) (at_end L) (Shows L r m') 1 (take (k + got) text) text x (view L r) text d) (sym w.0)
            (book_finished L r (k + got) text d₀ d f.held f.answer cells literals m' w.1 (subst (λ (x : Held). Quiet x (take (k + got) text)) w.0 q)
            (subst (λ (b : Bool). BookTurned L (take (k + got) text) b cells literals d₀ r cells' literals' d) (y ∙ ap (λ (b : Bool). b || eqb n (length text)) (x ∙ a)) told)));
      })
    where
      told : BookTurned L (take (k + got) text) last cells literals d₀ r cells' literals' d
      told = subst (λ (j : ℕ). BookTurned L (take j text) last cells literals d₀ r cells' literals' d) z t

      count : Ready (view_of (stage.Book k) s.length) got text answer_bytes d₀ → length (take (k + got) text) ≡ k + got
      count f = omega (arith, f.held, length-take (k + got) text)

      is_full : eqb got 0 ≡ false → last ≡ eqb (k + got) (length text)
      is_full a = y ∙ (λ i. (x ∙ a) i || eqb (z i) (length text))

      full : eqb got 0 ≡ false → last ≡ true → k + got ≡ length text
      full a q = eqb-true (k + got) (length text) (sym (is_full a) ∙ q)

      not_full : eqb got 0 ≡ false → last ≡ false → k + got ≡ length text → ⊥
      not_full a q same = true_false (sym (true_eqb (k + got) (length text) same) ∙ sym (is_full a) ∙ q)

  -- the lines: with more bytes behind what was held
  pub turned_lines : (p : Place) → s.stage ≡ stage.Calls p → (last : Bool) → last ≡ (waits p.line && eqb got 0) → LinesTurned (more p got) s.shown last text cells literals cards d₀ r text' cells' literals' cards' d
      → Turned L s got text cells literals cards d₀ r text' cells' literals' cards' d
  turned_lines p e last z (l, is, t) = turned_by (stage.Calls p) e (by l is last z t)
    where
      q : Place
      q = more p got

      bytes : Bytes
      bytes = unused (view_of (stage.Calls p) s.length) got text

      low : Ready (view_of (stage.Calls p) s.length) got text answer_bytes d₀ → p.at ≤ p.held + got
      low f = omega (arith, f.at)

      by : (l : Answer (Bor Bytes)) → LineIn bytes l → (b : Bool) → b ≡ (waits p.line && eqb got 0) → LineAt l b q s.shown text cells literals cards d₀ r text' cells' literals' cards' d → TurnedAs (stage.Calls p)
      by (Some l) is b z t =
          record {
            goes = λ a f h w few. subst (λ (u : Bytes). Went (on_byte L) (Shows L r m') Quiet p.number bytes text h (view L r) u d) (sym t.1)
                (subst (λ (x : Held). Went (on_byte L) (Shows L r m') Quiet p.number bytes text x (view L r) text d) (sym w.2)
                (answered_went L q s.shown r text cells literals cards d₀ d (low f) f.held f.answer w.0 w.1 l.now is.0 is.1 m' t.0 few));
            ends = λ a f h w quiet. absurd (some_left (split newline (drop (suc (length l.now)) bytes)) (split_some newline (drop (suc (length l.now)) bytes)) (tail_of (sym is.1 ∙ subst (λ (x : Held). Quiet x bytes) w.2 quiet)));
          }
      by None is true z t =
          record {
            goes = λ a f h w few. absurd (true_false (z ∙ a));
            ends = λ a f h w quiet. subst (λ (u : Bytes). Finished (on_byte L) (at_end L) (Shows L r m') p.number bytes text h (view L r) u d) (sym t.1)
                (subst (λ (x : Held). Finished (on_byte L) (at_end L) (Shows L r m') p.number bytes text x (view L r) text d) (sym w.2)
                (ended_finished L q s.shown r text cells literals cards d₀ d (low f) f.held f.answer w.0 w.1 is m' t.0));
          }
      by None is false z t =
          record {
            goes = λ a f h w few. subst (λ (x : Held). Went (on_byte L) (Shows L r m') Quiet p.number bytes text x (view L r) text' d) (sym w.2)
                (refilled L q s.shown r text cells literals cards d₀ d (low f) f.held f.answer w.0 w.1 is text' f.room t.0 m' t.1 t.2 t.3 (too_long q (length text)) refl);
            ends = λ a f h w quiet. absurd (true_false (sym a ∙ sym z));
          }

-- ---- tables that are too short for the limits
left_over : (r : Session) (d₀ : Bytes) (cells : List ℕ) (literals : List ℤ) (cells' : List ℕ) (literals' : List ℤ) (d : Bytes) → Ends (refusal_text 22 0) d₀ r d → LeftShort r.stage d₀ r.length cells literals cells' literals' d
left_over r d₀ cells literals cells' literals' d e = subst (λ (g : Stage). LeftShort g d₀ r.length cells literals cells' literals' d) (sym e.over) e.printed

pub short_left : (L : Limits) (q : Bytes) (last : Bool) (cells : List ℕ) (literals : List ℤ) (d₀ : Bytes) (r : Session) (cells' : List ℕ) (literals' : List ℤ) (d : Bytes) → BookTurned L q last cells literals d₀ r cells' literals' d → (Whole L cells literals → ⊥)
    → LeftShort r.stage d₀ r.length cells literals cells' literals' d
short_left L q true cells literals d₀ r cells' literals' d (None, b, w) bad = left_over r d₀ cells literals cells' literals' d (w.short bad)
short_left L q false cells literals d₀ r cells' literals' d (None, b, w) bad = subst (λ (g : Stage). LeftShort g d₀ r.length cells literals cells' literals' d) (sym w.0.0) (w.0.1, w.1, w.2)
short_left L q last cells literals d₀ r cells' literals' d (Some e, b, w) bad = left_over r d₀ cells literals cells' literals' d (w.short bad)
