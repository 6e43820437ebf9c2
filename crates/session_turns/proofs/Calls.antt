-- What a line of what was read feeds to the definition by steps, and what a turn on it leaves.
use Prim.Native.Nat.{ℕ, suc, ◌+◌, ◌-◌, ◌≤◌, ◌<◌}
use mathlib.Core.Path.{◌≡◌, refl, sym, ap, ◌∙◌}
use mathlib.Core.Bool.{Bool, true, false, cond, ◌||◌}
use mathlib.Core.List.{List, [], ◌∷◌}
use mathlib.Core.Option.{Option, some}
use native.Mathlib.Omega.{arith}
use lib.Dec.{eqb, ltb}
use lib.IntN.{ℤ}
use lib.ListN.{length, take, drop, length-drop, length-take}
use lib.Seq.{drop-drop}
use Rattle.qbf.specs.Formula.{Limits}
use Rattle.qbf.specs.Calls.{State as Read}
use Rattle.layout.specs.Words.{Bytes, newline, split}
use Rattle.layout.specs.Forms.{then}
use Rattle.layout.specs.Opening.{text_bytes}
use Rattle.sessions.specs.Session.{Request, request_of, Turn, turn_of}
use Rattle.feeding.specs.Lines.{after, fed, Serving, at_line, on_line_byte}
use Rattle.feeding.specs.Sessions.{Left, as_answered, serve_call, calls, behind, on_byte, at_end}
use Rattle.feeding.proofs.Lines.{fed_lines}
use Rattle.feeding.proofs.Sessions.{feed, same_request, fed_calls}
use Rattle.state_parts.specs.Parts.{read_at}
use Rattle.answer_text.specs.declared.shown.Shown.{Shown}
use Rattle.answer_text.specs.Shown.{card_in}
use Rattle.answer_text.specs.Room.{answer_bytes}
use Rattle.line_buffer.specs.Numbers.{last_number, next_number}
use Rattle.buffered_lines.specs.declared.Line.TheVariants.{Next}
use Rattle.buffered_lines.specs.declared.Place.{Place}
use Rattle.buffered_lines.specs.Places.{part_in, skips, served_as, too_long, kept_as}
use Rattle.buffered_lines.specs.Turns.{whole, Went, Finished}
use Rattle.buffered_lines.proofs.Lines.{told_as, before, line_fed, part_fed, unended_told, long_fed}
use Rattle.buffered_lines.proofs.Runs.{true_false}
use Rattle.session_turns.specs.declared.Stage.TheVariants as stage
use Rattle.session_turns.specs.declared.Session.{Session}
use Rattle.session_turns.specs.Stages.{view_of}
use Rattle.session_turns.specs.Turns.{Served, LineAnswered, last_text, LineEnded, MoreWanted}
use Rattle.session_turns.specs.Turned.{Tables, calls_in, ShowsAs, Quiet}
use Rattle.session_turns.proofs.Requests.{no_request}
use Rattle.session_turns.proofs.Books.{Shows, view, went_by, finished_over}

pub tail_of : {x : Bytes} {xs : List Bytes} {u : Bytes} {us : List Bytes} → x ∷ xs ≡ u ∷ us → xs ≡ us
tail_of {x} {xs} {u} {us} e = ap rest e
  where
    rest : List Bytes → List Bytes
    rest [] = []
    rest (w ∷ ws) = ws

-- what is asked by a line that was passed over or not
told_request : (passed : Bool) (l : Bytes) → then (told_as passed l) request_of ≡ request_of (served_as passed l)
told_request true l = sym no_request
told_request false l = same_request l

module _ (L : Limits) (p : Place) (s : Shown) (r : Session) (text : Bytes) (cells : List ℕ) (literals : List ℤ) (cards d₀ d : Bytes) (at : p.at ≤ p.held) (inside : p.held ≤ length text) (a : answer_bytes ≤ length d₀)
    (y : Read) (read : read_at cells literals ≡ some y) where
  abbrev left : Left
  left = record { state = y; shown = card_in s cards }

  abbrev g : Serving Left
  g = before serve_call p.number left (skips p.line)

  abbrev bytes : Bytes
  bytes = drop p.at (take p.held text)

  count : length (drop p.at (take p.held text)) ≡ p.held - p.at
  count = omega (arith, inside, length-take p.held text, length-drop p.at (take p.held text))

  feeds : (h : Serving Left) (q : Bytes) → feed L (calls h) q ≡ behind (fed (on_line_byte serve_call) h q)
  feeds h q = fed_calls L h q ∙ ap behind (sym (fed_lines serve_call h q))

  -- ---- a whole line
  module _ (l : Bytes) (short : length l < length bytes) (is : split newline bytes ≡ l ∷ split newline (drop (suc (length l)) bytes)) where
    abbrev turn : Turn
    turn = turn_of y (card_in s cards) p.number (request_of (served_as (skips p.line) l))

    abbrev rest : Bytes
    rest = drop (suc (length l)) bytes

    abbrev next : Serving Left
    next = at_line (suc p.number) (record { state = turn.state; shown = turn.shown })

    answered_fed : feed L (calls g) bytes ≡ after turn.text (feed L (calls next) rest)
    answered_fed =
        feeds g bytes
        ∙ ap behind (line_fed serve_call p.number left (skips p.line) bytes l rest is)
        ∙ ap (λ (o : Option Request). behind (after (turn_of y (card_in s cards) p.number o).text (fed (on_line_byte serve_call) (at_line (suc p.number) (as_answered (turn_of y (card_in s cards) p.number o)).left) rest))) (told_request (skips p.line) l)
        ∙ ap (after turn.text) (sym (feeds next rest))

    pub answered_went : (m : Tables) → LineAnswered p s l cells literals cards d₀ r m.cells m.literals m.cards d → p.number + length bytes ≤ last_number → Went (on_byte L) (Shows L r m) Quiet p.number bytes text (calls g) (view L r) text d
    answered_went m w few =
        went_by L p.number bytes text (calls g) r m text d (stage.Calls place) w.stage
        (record {
          left =
              record {
                at = omega (arith, short, count, at);
                held = inside;
                room = refl;
                within = v.within;
                few = omega (arith, number, ap length same, count, short, length-drop (suc (length l)) (drop p.at (take p.held text)));
              };
          next = calls next;
          shows = (turn.state, v.state, shown);
          fed = answered_fed ∙ sym (λ i. after (v.text i) (feed L (calls next) (same i)));
          quiet = λ x. absurd (true_false (sym x));
        })
      where
        place : Place
        place = record { line = Next; at = p.at + length l + 1; held = p.held; number = next_number p.number }

        v : Served turn r m.cells m.literals m.cards d
        v = w.served a y read

        number : next_number p.number ≡ suc p.number
        number = omega (arith, few, count, short)

        same : drop (p.at + length l + 1) (take (p.held + 0) text) ≡ drop (suc (length l)) (drop p.at (take p.held text))
        same =
            let j : p.held + 0 ≡ p.held = omega arith in
            let k : p.at + length l + 1 ≡ p.at + suc (length l) = omega arith in
            (λ i. drop (k i) (take (j i) text)) ∙ sym (drop-drop (suc (length l)) p.at (take p.held text))

        shown : calls next ≡ calls_in place r.shown m.cards turn.state
        shown = λ i. calls (at_line (sym number i) (record { state = turn.state; shown = sym v.shown i }))

  -- ---- no byte 10 is among the bytes
  module _ (e : split newline bytes ≡ bytes ∷ []) where
    pub ended_finished : (m : Tables) → LineEnded p s cells literals cards d₀ r d → Finished (on_byte L) (at_end L) (Shows L r m) p.number bytes text (calls g) (view L r) text d
    ended_finished m w =
        finished_over L p.number r bytes text d w.over (w.printed y read a).0 m (calls g)
        ((w.printed y read a).1
        ∙ ap (λ (o : Option Request). last_text (skips p.line || ltb p.at p.held) (turn_of y (card_in s cards) p.number o).text) no_request
        ∙ sym (unended_told serve_call p.number left (skips p.line) p.at p.held bytes count)
        ∙ sym (ap (whole (at_end L)) (feeds g bytes ∙ ap behind (part_fed serve_call p.number left (skips p.line) bytes e))))

    -- more is to be read behind them
    module _ (text' : Bytes) (room : length text ≡ suc text_bytes) (w : MoreWanted p s text r text') (m : Tables) (cells_are : m.cells ≡ cells) (literals_are : m.literals ≡ literals) (cards_are : m.cards ≡ cards) where
      pub refilled : (t : Bool) → too_long p (length text) ≡ t → Went (on_byte L) (Shows L r m) Quiet p.number bytes text (calls g) (view L r) text' d
      unfolding fed split
      refilled t z =
          went_by L p.number bytes text (calls g) r m text' d (stage.Calls (kept t)) (w.stage ∙ ap stage.Calls (w.refilled.place ∙ ap (λ (b : Bool). kept_as b p.number (p.held - p.at)) z))
          (by t z)
        where
          kept : Bool → Place
          kept b = kept_as b p.number (p.held - p.at)

          shown : (b : Bool) → calls (before serve_call p.number left b) ≡ calls (record { number = p.number; part = part_in b; left = record { state = y; shown = card_in r.shown m.cards } })
          shown true = λ i. calls (before serve_call p.number (record { state = y; shown = card_in (sym w.shown i) (sym cards_are i) }) true)
          shown false = λ i. calls (before serve_call p.number (record { state = y; shown = card_in (sym w.shown i) (sym cards_are i) }) false)

          stands : read_at m.cells m.literals ≡ some y
          stands = (λ i. read_at (cells_are i) (literals_are i)) ∙ read

          short : (b : Bool) → skips p.line ≡ b → cond b true (eqb (p.held - p.at) (length text)) ≡ false → skips p.line ≡ false
          short true q f = absurd (true_false f)
          short false q f = q

          long : (b : Bool) → cond b true (eqb (p.held - p.at) (length text)) ≡ true → cond b true (eqb (length bytes) (suc text_bytes)) ≡ true
          long true f = refl
          long false f = (λ i. eqb (count i) (sym room i)) ∙ f

          by : (b : Bool) → too_long p (length text) ≡ b → Went (on_byte L) (λ k. ShowsAs L (stage.Calls (kept b)) r.shown m k) Quiet p.number bytes text (calls g) (view_of (stage.Calls (kept b)) r.length) text' d
          by true f =
              record {
                left = record { at = omega arith; held = omega arith; room = w.refilled.size; within = omega (arith, w.printed); few = omega (arith, length-drop 0 (take (0 + 0) text'), length-take (0 + 0) text') };
                next = calls (before serve_call p.number left true);
                shows = (y, stands, shown true);
                fed =
                    feeds g bytes
                    ∙ ap behind (long_fed serve_call p.number left (skips p.line) bytes e (long (skips p.line) f))
                    ∙ sym (λ i. after (take (w.printed i) d) (feed L (calls (before serve_call p.number left true)) []));
                quiet = λ x. refl;
              }
          by false f =
              record {
                left = record { at = omega arith; held = omega (arith, w.refilled.size, inside); room = w.refilled.size; within = omega (arith, w.printed); few = omega (arith, ap length same) };
                next = calls (before serve_call p.number left false);
                shows = (y, stands, shown false);
                fed =
                    ap (λ (b : Bool). feed L (calls (before serve_call p.number left b)) bytes) (short (skips p.line) refl f)
                    ∙ sym (λ i. after (take (w.printed i) d) (feed L (calls (before serve_call p.number left false)) (same i)));
                quiet = λ x. (λ i. split newline (same i)) ∙ e ∙ sym (λ i. same i ∷ []);
              }
            where
              same : drop 0 (take ((p.held - p.at) + 0) text') ≡ drop p.at (take p.held text)
              same = let j : (p.held - p.at) + 0 ≡ p.held - p.at = omega arith in ap (λ (k : ℕ). take k text') j ∙ w.refilled.front
