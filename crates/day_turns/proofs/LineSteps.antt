-- A line of a day in the buffer: one that is whole, the last one, and one of which more is to be read.
use Prim.Native.Nat.{ℕ, suc, ◌+◌, ◌-◌, ◌≤◌, ◌<◌}
use mathlib.Core.Path.{◌≡◌, refl, sym, ap, subst, ◌∙◌}
use mathlib.Core.Bool.{Bool, true, false, cond, ◌||◌}
use mathlib.Core.List.{List, [], ◌∷◌, ◌++◌}
use mathlib.Core.Option.{Option, none, some}
use native.Mathlib.Omega.{arith}
use borrow.Author.Tests.{le-ltb}
use lib.Dec.{eqb, ltb}
use lib.ListN.{length, take, drop, length-drop, length-take}
use lib.Seq.{drop-drop}
use Rattle.layout.specs.Words.{Bytes, newline, split, inside, same}
use Rattle.layout.specs.Output.{refusal_text}
use Rattle.layout.specs.Opening.{text_bytes}
use Rattle.feeding.specs.Lines.{after, fed, Part, begun, overlong, Answered, at_line, unended, as_line}
use Rattle.feeding.proofs.Lines.{grown_by}
use Rattle.day_text.specs.Lines.{total_of, behind, is_place, cut_of, at_of, asked_of}
use Rattle.day_text.specs.Program.{Loading, Served, Phase, first, places, text, calls, over, serve_day, unended_line, day_end}
use Rattle.day_feeding.specs.Steps.{Held, on_byte, at_end}
use Rattle.line_buffer.specs.Numbers.{last_number, next_number}
use Rattle.buffered_lines.specs.declared.Line.TheVariants.{Next}
use Rattle.buffered_lines.specs.declared.Place.{Place}
use Rattle.buffered_lines.specs.Places.{part_in, waits, skips, served_as, too_long, kept_as}
use Rattle.buffered_lines.specs.Turns.{unused, whole, Went, Finished}
use Rattle.buffered_lines.proofs.Lines.{told_as, before, line_fed, part_fed, unended_told, long_fed}
use Rattle.buffered_lines.proofs.Runs.{true_false}
use Rattle.day_turns.specs.declared.Stage.{Stage}
use Rattle.day_turns.specs.declared.Stage.TheVariants as stage
use Rattle.day_turns.specs.declared.Day.{Day}
use Rattle.day_turns.specs.Turns.{Printed, Ends, last_text, behind_line, LineWaits}
use Rattle.day_turns.specs.Lent.{Shown}
use Rattle.day_turns.specs.Turned.{view_as, view_of, line_in, ShowsIn, ShowsAs, Quiet}
use Rattle.day_turns.proofs.Shows.{none_used, none_fed, went_by, went_over, finished_over}

-- ---- the phases whose lines are looked at
abbrev pub Lines : Phase → Type 0
Lines first = Unit {0}
Lines (places z) = Unit {0}
Lines (text z o t) = ⊥
Lines (calls z) = Unit {0}
Lines over = ⊥

-- an overlong line is none of a day's, as an empty one is none
no_line : (n : ℕ) (x : Phase) → Lines x → serve_day n x none ≡ serve_day n x (some [])
unfolding total_of inside split is_place behind asked_of at_of same cut_of
no_line n first h = refl
no_line n (places z) h = refl
no_line n (text z o t) h = absurd h
no_line n (calls z) h = refl
no_line n over h = absurd h

pub line_told : (n : ℕ) (x : Phase) (passed : Bool) (l : Bytes) → Lines x → length l ≤ text_bytes → serve_day n x (told_as passed l) ≡ serve_day n x (some (served_as passed l))
line_told n x true l w h = no_line n x w
line_told n x false l w h = ap (λ (t : Bool). serve_day n x (cond t none (some l))) (le-ltb text_bytes (length l) h)

-- ---- the end of the input
abbrev pub Counted : Phase → Type 0
Counted first = ⊥
Counted (places z) = Unit {0}
Counted (text z o t) = ⊥
Counted (calls z) = Unit {0}
Counted over = ⊥

line_end : (n : ℕ) (x : Phase) (l : Part) → Counted x → day_end n x l ≡ unended serve_day n x l
line_end n first l h = absurd h
line_end n (places z) (begun []) h = refl
line_end n (places z) (begun (b ∷ l)) h = refl
line_end n (places z) overlong h = refl
line_end n (text z o t) l h = absurd h
line_end n (calls z) (begun []) h = refl
line_end n (calls z) (begun (b ∷ l)) h = refl
line_end n (calls z) overlong h = refl
line_end n over l h = absurd h

refused_end : (n : ℕ) (x : Phase) → Counted x → (serve_day n x none).text ≡ refusal_text 1 n
refused_end n first h = absurd h
refused_end n (places z) h = refl
refused_end n (text z o t) h = absurd h
refused_end n (calls z) h = refl
refused_end n over h = absurd h

split_none : split newline [] ≡ [] ∷ []
unfolding split
split_none = refl

quiet_lines : (x : Phase) (p : Place) (q : Bytes) → Lines x → split newline q ≡ q ∷ [] → Quiet (line_in p x) q
quiet_lines first p q w e = e
quiet_lines (places z) p q w e = e
quiet_lines (text z o t) p q w e = absurd w
quiet_lines (calls z) p q w e = e
quiet_lines over p q w e = absurd w

pub lines_quiet : (x : Phase) (p : Place) (q : Bytes) → Lines x → Quiet (line_in p x) q → split newline q ≡ q ∷ []
lines_quiet first p q w e = e
lines_quiet (places z) p q w e = e
lines_quiet (text z o t) p q w e = absurd w
lines_quiet (calls z) p q w e = e
lines_quiet over p q w e = absurd w

module _ {M : Type 0} (T : Shown M) (x : Phase) (lines : Lines x) (p : Place) (r : Day) (text : Bytes) (at : p.at ≤ p.held) (inside : p.held ≤ length text) (room : length text ≡ suc text_bytes) (d : Bytes) where
  abbrev g : Held
  g = line_in p x

  abbrev bytes : Bytes
  bytes = drop p.at (take p.held text)

  count : length (drop p.at (take p.held text)) ≡ p.held - p.at
  count = omega (arith, inside, length-take p.held text, length-drop p.at (take p.held text))

  -- ---- a whole line, and what stands behind it
  module _ (l : Bytes) (short : length l < length bytes) (is : split newline bytes ≡ l ∷ split newline (drop (suc (length l)) bytes)) where
    abbrev rest : Bytes
    rest = drop (suc (length l)) bytes

    abbrev line : Bytes
    line = served_as (skips p.line) l

    answered_fed : fed on_byte g bytes ≡ after (serve_day p.number x (some line)).text (fed on_byte (at_line (suc p.number) (serve_day p.number x (some line)).left) rest)
    answered_fed =
        line_fed serve_day p.number x (skips p.line) bytes l rest is
        ∙ ap (λ (a : Answered Phase). after a.text (fed on_byte (at_line (suc p.number) a.left) rest)) (line_told p.number x (skips p.line) l lines (omega (arith, short, count, inside, room)))

    abbrev next_place : ℕ → Place
    next_place n = record { line = Next; at = p.at + length l + 1; held = p.held; number = n }

    -- the lines go on, or a text
    pub line_went : (a : Answered Phase) (s : Stage) (given : List Bool) (m : M) → serve_day p.number x (some line) ≡ a → r.stage ≡ s → r.place ≡ behind_line p (length l) → r.given ≡ given
        → Printed a.text r.length d
        → ShowsIn T s (next_place (suc p.number)) given m (at_line (suc p.number) a.left)
        → p.number + length bytes ≤ last_number → Went on_byte (ShowsAs T r m) Quiet p.number bytes text g (view_of r) text d
    line_went a s given m told e f k print shows few =
        went_by T p.number bytes text g r m text d s (next_place (suc p.number)) given e (f ∙ ap next_place number) k
        (record {
          left =
              record {
                at = omega (arith, short, count, at);
                held = inside;
                room = refl;
                within = print.0;
                few = omega (arith, ap length same, count, short, length-drop (suc (length l)) (drop p.at (take p.held text)));
              };
          next = at_line (suc p.number) a.left;
          shows = shows;
          fed =
              answered_fed
              ∙ ap (λ (v : Answered Phase). after v.text (fed on_byte (at_line (suc p.number) v.left) rest)) told
              ∙ sym (λ i. after (print.1 i) (fed on_byte (at_line (suc p.number) a.left) (same i)));
          quiet = λ w. absurd (true_false (sym w));
        })
      where
        number : next_number p.number ≡ suc p.number
        number = omega (arith, few, count, short)

        same : drop (p.at + length l + 1) (take (p.held + 0) text) ≡ drop (suc (length l)) (drop p.at (take p.held text))
        same =
            let j : p.held + 0 ≡ p.held = omega arith in
            let k : p.at + length l + 1 ≡ p.at + suc (length l) = omega arith in
            (λ i. drop (k i) (take (j i) text)) ∙ sym (drop-drop (suc (length l)) p.at (take p.held text))

    -- or they end
    pub line_over : (t : Bytes) (m : M) → Ends t r d → serve_day p.number x (some line) ≡ record { text = t; left = over } → Went on_byte (ShowsAs T r m) Quiet p.number bytes text g (view_of r) text d
    line_over t m w e =
        went_over T p.number bytes text g r m text d refl w.over w.place w.printed.0 t (at_line (suc p.number) over) rest w.printed.1 refl
        (answered_fed ∙ ap (λ (a : Answered Phase). after a.text (fed on_byte (at_line (suc p.number) a.left) rest)) e)

  -- ---- no byte 10 is among the bytes
  module _ (e : split newline bytes ≡ bytes ∷ []) where
    pub ended_finished : (m : M) → Counted x → Ends (last_text (skips p.line || ltb p.at p.held) (refusal_text 1 p.number)) r d → Finished on_byte at_end (ShowsAs T r m) p.number bytes text g (view_of r) text d
    ended_finished m c w =
        finished_over T p.number bytes text g r m text d refl w.over w.place w.printed.0
        (w.printed.1
        ∙ ap (last_text (skips p.line || ltb p.at p.held)) (sym (refused_end p.number x c))
        ∙ sym (unended_told serve_day p.number x (skips p.line) p.at p.held bytes count)
        ∙ sym (line_end p.number x (grown_by (part_in (skips p.line)) bytes) c)
        ∙ sym (ap (whole at_end) (part_fed serve_day p.number x (skips p.line) bytes e)))

    pub first_finished : (m : M) → x ≡ first → Ends (refusal_text 1 1) r d → Finished on_byte at_end (ShowsAs T r m) p.number bytes text g (view_of r) text d
    first_finished m c w =
        finished_over T p.number bytes text g r m text d refl w.over w.place w.printed.0
        (w.printed.1
        ∙ sym (ap (λ (y : Phase). day_end p.number y (grown_by (part_in (skips p.line)) bytes)) c)
        ∙ sym (ap (whole at_end) (part_fed serve_day p.number x (skips p.line) bytes e)))

    -- more is to be read behind them
    module _ (s : Day) (where_is : s.place ≡ p) (text' : Bytes) (w : LineWaits s text r text') (m : M) (shows : (k : Place) → ShowsIn T s.stage k s.given m (line_in k x)) where
      pub line_waits : (t : Bool) → too_long p (length text) ≡ t → Went on_byte (ShowsAs T r m) Quiet p.number bytes text g (view_of r) text' d
      line_waits t z =
          went_by T p.number bytes text g r m text' d s.stage (kept t) s.given w.stage (place ∙ ap (λ (b : Bool). kept_as b p.number (p.held - p.at)) z) w.given (by t z)
        where
          kept : Bool → Place
          kept b = kept_as b p.number (p.held - p.at)

          place : r.place ≡ kept_as (too_long p (length text)) p.number (p.held - p.at)
          place = w.refilled.place ∙ ap (λ (k : Place). kept_as (too_long k (length text)) k.number (k.held - k.at)) where_is

          front : take (p.held - p.at) text' ≡ drop p.at (take p.held text)
          front = subst (λ (k : Place). take (k.held - k.at) text' ≡ drop k.at (take k.held text)) where_is w.refilled.front

          not_passed : (b : Bool) → skips p.line ≡ b → cond b true (eqb (p.held - p.at) (length text)) ≡ false → skips p.line ≡ false
          not_passed true q f = absurd (true_false f)
          not_passed false q f = q

          long : (b : Bool) → cond b true (eqb (p.held - p.at) (length text)) ≡ true → cond b true (eqb (length bytes) (suc text_bytes)) ≡ true
          long true f = refl
          long false f = (λ i. eqb (count i) (sym room i)) ∙ f

          by : (b : Bool) → too_long p (length text) ≡ b → Went on_byte (λ (k : Held). ShowsIn T s.stage (kept b) s.given m k) Quiet p.number bytes text g (view_as s.stage (kept b) r.length) text' d
          by true f =
              record {
                left = record { at = omega arith; held = omega arith; room = w.refilled.size; within = omega (arith, w.printed); few = omega (arith, length-drop 0 (take (0 + 0) text'), length-take (0 + 0) text') };
                next = line_in (kept true) x;
                shows = shows (kept true);
                fed =
                    long_fed serve_day p.number x (skips p.line) bytes e (long (skips p.line) f)
                    ∙ none_fed (line_in (kept true) x)
                    ∙ sym (λ i. after (take (w.printed i) d) (fed on_byte (line_in (kept true) x) (none_used text' i)));
                quiet = λ y. quiet_lines x (kept true) (drop 0 (take (0 + 0) text')) lines ((λ i. split newline (none_used text' i)) ∙ split_none ∙ sym (λ i. none_used text' i ∷ []));
              }
          by false f =
              record {
                left = record { at = omega arith; held = omega (arith, w.refilled.size, inside); room = w.refilled.size; within = omega (arith, w.printed); few = omega (arith, ap length same) };
                next = line_in (kept false) x;
                shows = shows (kept false);
                fed =
                    ap (λ (b : Bool). fed on_byte (record { number = p.number; part = part_in b; left = x }) bytes) (not_passed (skips p.line) refl f)
                    ∙ sym (λ i. after (take (w.printed i) d) (fed on_byte (line_in (kept false) x) (same i)));
                quiet = λ y. quiet_lines x (kept false) (drop 0 (take (p.held - p.at + 0) text')) lines ((λ i. split newline (same i)) ∙ e ∙ sym (λ i. same i ∷ []));
              }
            where
              same : drop 0 (take ((p.held - p.at) + 0) text') ≡ drop p.at (take p.held text)
              same = let j : (p.held - p.at) + 0 ≡ p.held - p.at = omega arith in ap (λ (k : ℕ). take k text') j ∙ front
