-- What the book's bytes feed to the definition by steps, and what a turn on them leaves.
use Prim.Native.Nat.{ℕ, suc, ◌+◌, ◌≤◌, ◌<◌}
use mathlib.Core.Path.{◌≡◌, refl, sym, ap, subst, ◌∙◌}
use mathlib.Core.Bool.{Bool, true, false}
use mathlib.Core.List.{List, [], ◌∷◌, append-nil}
use mathlib.Core.Option.{none}
use native.Mathlib.Omega.{arith}
use native.Mathlib.Decide.{dec_lt}
use lib.IntN.{ℤ}
use lib.ListN.{length, take, drop, length-drop, length-take}
use Rattle.std.specs.Prelude.{Some, None}
use Rattle.qbf.specs.Formula.{Limits}
use Rattle.qbf.specs.Runs.{fresh}
use Rattle.layout.specs.Words.{Bytes, newline, split}
use Rattle.layout.specs.Output.{refusal_text}
use Rattle.layout.specs.Opening.{text_bytes, Opened, refused, opened}
use Rattle.editions.specs.Opening.{both, open_editions}
use Rattle.layout.specs.Session.{parted}
use Rattle.feeding.specs.Lines.{after, Serving, at_line}
use Rattle.feeding.specs.Sessions.{Left, Held, calls, over, start, unended_book, on_byte, at_end}
use Rattle.feeding.proofs.Lines.{split_some}
use Rattle.feeding.proofs.Sessions.{feed, fed_over, fed_calls, open_long, opened_then, fed_book}
use Rattle.reader.specs.Books.{count_of_lines, BookEnd}
use Rattle.state_parts.specs.Parts.{Whole}
use Rattle.answer_text.specs.Shown.{card_in}
use Rattle.answer_text.specs.Room.{answer_bytes}
use Rattle.line_buffer.specs.Numbers.{next_number}
use Rattle.buffered_lines.specs.declared.Line.TheVariants.{Next}
use Rattle.buffered_lines.specs.declared.Place.{Place}
use Rattle.buffered_lines.specs.Turns.{View, unused, Kept, whole, Went, Finished}
use Rattle.buffered_lines.proofs.Books.{all_book, count_book, count_few}
use Rattle.buffered_lines.proofs.Runs.{true_false}
use Rattle.session_turns.specs.declared.Stage.{Stage}
use Rattle.session_turns.specs.declared.Stage.TheVariants as stage
use Rattle.session_turns.specs.declared.Session.{Session}
use Rattle.session_turns.specs.Stages.{view_of}
use Rattle.session_turns.specs.Turns.{WaitsForBook, BookLeft, BookTurned}
use Rattle.session_turns.specs.Turned.{Tables, calls_in, ShowsAs, Quiet}

pub some_left : (vs : List Bytes) → (v : Bytes) × (ws : List Bytes) × (vs ≡ v ∷ ws) → vs ≡ [] → ⊥
some_left [] z e = let y : ◌≡◌ {A = ℕ} 0 1 = cc in omega (arith, y)
some_left (v ∷ vs) z e = let y : ◌≡◌ {A = ℕ} 0 1 = cc in omega (arith, y)

module _ (L : Limits) where
  -- ---- a session by its stage
  abbrev pub Shows : Session → Tables → Held → Type 0
  Shows r m h = ShowsAs L r.stage r.shown m h

  abbrev pub view : Session → View
  view r = view_of r.stage r.length

  module _ (n : ℕ) (q text : Bytes) (h : Held) (r : Session) (m : Tables) (text' d : Bytes) where
    abbrev WentAs : Stage → Type 0
    WentAs g = Went (on_byte L) (λ k. ShowsAs L g r.shown m k) Quiet n q text h (view_of g r.length) text' d

    pub went_by : (g : Stage) → r.stage ≡ g → WentAs g → Went (on_byte L) (Shows r m) Quiet n q text h (view r) text' d
    went_by g e w = subst WentAs (sym e) w

    abbrev FinishedAs : Stage → Type 0
    FinishedAs g = Finished (on_byte L) (at_end L) (λ k. ShowsAs L g r.shown m k) n q text h (view_of g r.length) text' d

    pub finished_by : (g : Stage) → r.stage ≡ g → FinishedAs g → Finished (on_byte L) (at_end L) (Shows r m) n q text h (view r) text' d
    finished_by g e w = subst FinishedAs (sym e) w

  -- ---- the last answer
  -- nothing more is fed to what is over
  after_over : (t u : Bytes) → record { text = t; held = over } ≡ after t (feed L over u)
  after_over t u = sym (ap (after t) (fed_over L u) ∙ ap (λ (k : Bytes). record { text = k; held = over }) (append-nil t))

  module _ (n : ℕ) (r : Session) (q text d : Bytes) (o : r.stage ≡ stage.Over) (w : r.length ≤ length d) (m : Tables) (h : Held) where
    kept_over : Kept n q text (view_of stage.Over r.length) text d
    kept_over =
        record {
          at = omega arith;
          held = omega arith;
          room = refl;
          within = w;
          few = omega (arith, length-drop 0 (take (0 + 0) text), length-take (0 + 0) text);
        }

    pub went_over : (t : Bytes) → take r.length d ≡ t → feed L h q ≡ record { text = t; held = over } → Went (on_byte L) (Shows r m) Quiet n q text h (view r) text d
    went_over t e f =
        went_by n q text h r m text d stage.Over o
        (record {
          left = kept_over;
          next = over;
          shows = refl;
          fed = f ∙ ap (λ (k : Bytes). record { text = k; held = over }) (sym e) ∙ after_over (take r.length d) (unused (view_of stage.Over r.length) 0 text);
          quiet = λ x. tt;
        })

    pub finished_over : take r.length d ≡ whole (at_end L) (feed L h q) → Finished (on_byte L) (at_end L) (Shows r m) n q text h (view r) text d
    finished_over e = finished_by n q text h r m text d stage.Over o (record { left = kept_over; over = refl; waits = refl; next = over; shows = refl; printed = e })

  -- ---- the book
  -- what opens, whether it is longer than a text may be or not
  opened_fed : (q : Bytes) (e : ℕ) → BookEnd q (Some e) → feed L start q ≡ opened_then L (count_of_lines (take e q)) (open_editions both L (take e q)) (split newline (drop e q))
  opened_fed q e b = by (dec_lt text_bytes (length (parted (split newline q)).book)) (split_some newline (drop e q)) ∙ same
    where
      by : Dec (text_bytes < length (parted (split newline q)).book) → (w : Bytes) × (ws : List Bytes) × (split newline (drop e q) ≡ w ∷ ws)
          → feed L start q ≡ opened_then L (parted (split newline q)).count (open_editions both L (parted (split newline q)).book) (parted (split newline q)).rest
      by (yes h) r = (fed_book L q).long h ∙ ap (λ (o : Opened). opened_then L (parted (split newline q)).count o (parted (split newline q)).rest) (sym (open_long L (parted (split newline q)).book h))
      by (no h) r = (fed_book L q).ended (omega (arith, h)) r.0 r.1 (sym b.2 ∙ r.2)

      same : opened_then L (parted (split newline q)).count (open_editions both L (parted (split newline q)).book) (parted (split newline q)).rest
          ≡ opened_then L (count_of_lines (take e q)) (open_editions both L (take e q)) (split newline (drop e q))
      same = λ i. opened_then L ((sym (count_book q) ∙ ap count_of_lines (sym b.1)) i) (open_editions both L (sym b.1 i)) (sym b.2 i)

  -- one that has not ended, and is read no further
  closed_fed : (q : Bytes) → (parted (split newline q)).rest ≡ [] → text_bytes < length q → feed L start q ≡ record { text = unended_book (open_editions both L q); held = over }
  closed_fed q e h =
      (fed_book L q).long (omega (arith, h, ap length (all_book q e)))
      ∙ ap (λ (o : Opened). record { text = unended_book o; held = over }) (sym (open_long L q h))

  closed_end : (q : Bytes) → (parted (split newline q)).rest ≡ [] → length q ≤ text_bytes → whole (at_end L) (feed L start q) ≡ unended_book (open_editions both L q)
  closed_end q e h =
      let w = (fed_book L q).begun (omega (arith, h, ap length (all_book q e))) e in
      ap (whole (at_end L)) w.2 ∙ ap (λ (t : Bytes). unended_book (open_editions both L t)) (w.1 ∙ all_book q e)

  module _ (r : Session) (k : ℕ) (text d₀ d : Bytes) (inside : k ≤ length text) (a : answer_bytes ≤ length d₀) (cells : List ℕ) (literals : List ℤ) (m : Tables) (enough : Whole L cells literals) where
    abbrev q : Bytes
    q = take k text

    size : length (take k text) ≡ k
    size = omega (arith, inside, length-take k text)

    waits_went : (parted (split newline q)).rest ≡ [] → length q ≤ text_bytes → WaitsForBook (length q) r → m.cells ≡ cells → m.literals ≡ literals → Went (on_byte L) (Shows r m) Quiet 1 q text start (view r) text d
    waits_went e h w x y =
        went_by 1 q text start r m text d (stage.Book (length q)) w.0
        (record {
          left = record { at = omega arith; held = omega (arith, size, inside); room = refl; within = omega (arith, w.1); few = omega (arith, ap length same) };
          next = start;
          shows = (refl, subst (Whole L m.cells) (sym y) (subst (λ (c : List ℕ). Whole L c literals) (sym x) enough));
          fed = sym (λ i. after (take (w.1 i) d) (feed L start (same i)));
          quiet = λ x. (ap (λ (u : Bytes). (parted (split newline u)).rest) same ∙ e, omega (arith, ap length same, h));
        })
      where
        same : drop 0 (take (length (take k text) + 0) text) ≡ take k text
        same = let g : length (take k text) + 0 ≡ k = omega (arith, size) in ap (λ (j : ℕ). take j text) g

    behind_went : (e : ℕ) → BookEnd q (Some e) → (o : Opened) → open_editions both L (take e q) ≡ o → BookLeft o (count_of_lines (take e q)) (length (take e q)) (length q) d₀ r m.cells m.literals d → k ≤ suc text_bytes
        → Went (on_byte L) (Shows r m) Quiet 1 q text start (view r) text d
    behind_went e b (refused n line) is w few =
        went_over 1 r q text d w.over (w.printed a).0 m start (refusal_text n line) (w.printed a).1 (opened_fed q e b ∙ ap (λ (o : Opened). opened_then L (count_of_lines (take e q)) o (split newline (drop e q))) is)
    behind_went e b (opened f) is w few =
        went_by 1 q text start r m text d (stage.Calls p) w.stage
        (record {
          left =
              record {
                at = omega (arith, place, size, b.0);
                held = omega (arith, size, inside);
                room = refl;
                within = omega (arith, w.printed);
                few = omega (arith, number, lines, ap length same, length-drop e (take k text), b.0, size);
              };
          next = calls g;
          shows = (fresh f, w.state, shown);
          fed =
              opened_fed q e b
              ∙ ap (λ (o : Opened). opened_then L n o (split newline (drop e q))) is
              ∙ sym (fed_calls L g (drop e q))
              ∙ sym (λ i. after (take (w.printed i) d) (feed L (calls g) (same i)));
          quiet = λ x. absurd (true_false (sym x));
        })
      where
        p : Place
        p = record { line = Next; at = length (take e (take k text)); held = length (take k text); number = next_number (count_of_lines (take e (take k text))) }

        place : length (take e (take k text)) ≡ e
        place = omega (arith, length-take e (take k text), b.0)

        n : ℕ
        n = count_of_lines (take e (take k text))

        lines : count_of_lines (take e (take k text)) ≤ e
        lines = omega (arith, count_few (take e (take k text)), length-take e (take k text))

        number : next_number (count_of_lines (take e (take k text))) ≡ suc (count_of_lines (take e (take k text)))
        number = omega (arith, lines, b.0, size, few)

        same : drop (length (take e (take k text))) (take (length (take k text) + 0) text) ≡ drop e (take k text)
        same = let j : length (take k text) + 0 ≡ k = omega (arith, size) in λ i. drop (place i) (take (j i) text)

        g : Serving Left
        g = at_line (suc (count_of_lines (take e (take k text)))) (record { state = fresh f; shown = none })

        shown : calls g ≡ calls_in p r.shown m.cards (fresh f)
        shown = λ i. calls (at_line (sym number i) (record { state = fresh f; shown = card_in (sym w.shown i) m.cards }))

    pub book_went : (last : Bool) → (last ≡ true → text_bytes < length q) → (last ≡ false → length q ≤ text_bytes) → BookTurned L q last cells literals d₀ r m.cells m.literals d → k ≤ suc text_bytes
        → Went (on_byte L) (Shows r m) Quiet 1 q text start (view r) text d
    book_went true full part (None, b, w) few =
        let o = w.whole enough in
        went_over 1 r q text d o.over (o.printed a).0 m start (unended_book (open_editions both L q)) (o.printed a).1 (closed_fed q b (full refl))
    book_went false full part (None, b, w) few = waits_went b (part refl) w.0 w.1 w.2
    book_went last full part (Some e, b, w) few = behind_went e b (open_editions both L (take e q)) refl (w.whole enough) few

    pub book_finished : Quiet start q → BookTurned L q true cells literals d₀ r m.cells m.literals d → Finished (on_byte L) (at_end L) (Shows r m) 1 q text start (view r) text d
    book_finished h (None, b, w) =
        let o = w.whole enough in
        finished_over 1 r q text d o.over (o.printed a).0 m start ((o.printed a).1 ∙ sym (closed_end q h.0 h.1))
    book_finished h (Some e, b, w) = absurd (some_left (split newline (drop e q)) (split_some newline (drop e q)) (b.2 ∙ h.0))
