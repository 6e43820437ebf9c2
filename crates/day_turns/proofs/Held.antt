-- The text of a place in the buffer, and one that is skipped: what a turn on it feeds to the day's steps.
use Prim.Native.Nat.{ℕ, suc, ◌+◌, ◌-◌, ◌≤◌, ◌<◌}
use mathlib.Core.Path.{◌≡◌, refl, sym, ap, subst, ◌∙◌}
use mathlib.Core.Bool.{Bool, true, false, cond}
use mathlib.Core.List.{List, [], ◌∷◌, ◌++◌, append-nil}
use mathlib.Core.Option.{Option, none, some}
use native.Mathlib.Omega.{arith}
use borrow.Author.Tests.{lt-ltb}
use lib.Dec.{eqb}
use lib.ListN.{length, take, drop, length-append, length-drop, length-take}
use lib.Seq.{drop-drop, take_at, drop_at}
use Rattle.std.specs.Prelude.{Option as Answer, Some, None}
use Rattle.layout.specs.Words.{Bytes, newline, split}
use Rattle.layout.specs.Output.{refusal_text}
use Rattle.theory.proofs.Basics.{true_eqb}
use Rattle.layout.specs.Opening.{text_bytes, Opened}
use Rattle.layout.specs.Session.{parted}
use Rattle.feeding.specs.Lines.{Step, after, fed, Part, begun, overlong, at_line}
use Rattle.feeding.proofs.Lines.{fed_append, fed_lines, split_some, line_steps}
use Rattle.days.specs.Day.{outside}
use Rattle.day_text.specs.Lines as lines
use Rattle.day_text.specs.Output.{at_text, opening_text}
use Rattle.day_text.specs.Program.{Loading, kept, joined_parts, places, text, judged, with_book, serve_day}
use Rattle.day_text_laws.proofs.Texts.{open_kept}
use Rattle.day_feeding.specs.Steps.{Held, on_byte, at_end}
use Rattle.reader.specs.Books.{count_of_lines, BookEnd}
use Rattle.text_skip.specs.Skip.{seen_from, seen_of, skip_from}
use Rattle.text_skip.specs.Fed.{Skips, inside, SkipFed}
use Rattle.text_skip.specs.declared.Skipped.{Skipped}
use Rattle.text_skip.specs.declared.Skipped.TheVariants as skipped
use Rattle.text_skip.proofs.Fed.{skip_fed}
use Rattle.line_buffer.specs.Numbers.{last_number}
use Rattle.buffered_lines.specs.declared.Place.{Place}
use Rattle.buffered_lines.specs.Places.{skips, too_long, kept_as}
use Rattle.buffered_lines.specs.Turns.{whole, Went, Finished}
use Rattle.buffered_lines.proofs.Books.{all_book, count_book, count_few}
use Rattle.buffered_lines.proofs.Runs.{true_false}
use Rattle.day_reader.specs.declared.place.PlaceLine.{PlaceLine}
use Rattle.day_reader.specs.Read.{place_is}
use Rattle.day_turns.specs.declared.Stage.TheVariants as stage
use Rattle.day_turns.specs.declared.Skipping.{Skipping}
use Rattle.day_turns.specs.declared.Day.{Day}
use Rattle.day_turns.specs.Lent.{Shown}
use Rattle.day_turns.specs.Turns.{no_place, Printed, Ends, skipped_text, LineWaits, counted, behind, unheld, limits_of, opened_in, text_answer, Opens, seen_in, TextLong, books_left, Within, SkipBehind, SkipWaits}
use Rattle.day_turns.specs.Turned.{view_of, whose, LoadsAs, ShowsAs, Quiet}
use Rattle.day_turns.specs.Turned.{Skipped as SkippedIn}
use Rattle.day_turns.proofs.Texts.{TextFed, text_fed, text_fed_from, text_ended}
use Rattle.day_turns.proofs.Shows.{none_used, none_fed, same_part, went_by, finished_over}

some_left : (vs : List Bytes) → (v : Bytes) × (ws : List Bytes) × (vs ≡ v ∷ ws) → vs ≡ [] → ⊥
some_left [] z e = let y : ◌≡◌ {A = ℕ} 0 1 = cc in omega (arith, y)
some_left (v ∷ vs) z e = let y : ◌≡◌ {A = ℕ} 0 1 = cc in omega (arith, y)

no_lines : (parted (split newline [])).rest ≡ []
unfolding parted split
no_lines = refl

kept_long : (q : Bytes) → text_bytes < length q → kept q ≡ overlong
kept_long q long = ap (λ (t : Bool). cond t overlong (begun q)) (lt-ltb text_bytes (length q) long)

-- what is told of a text that is too long is not nothing
at_told : (k : ℕ) (s u : Bytes) → at_text k ++ s ++ u ≡ [] → ⊥
unfolding at_text
at_told k s u e = let y : ◌≡◌ {A = ℕ} 0 1 = cc in omega (arith, y)

-- the input ends in such a text
end_none : (z : Loading) (o : Option lines.Place) (n : ℕ) (l u : Part) → whole at_end (fed on_byte (inside z o n l u) []) ≡ (judged z o (joined_parts u l)).text
unfolding fed
end_none z o n l u = refl

judged_long : (z : Loading) (o : Option lines.Place) (l u : Part) → Skips o l u → (judged z o (joined_parts u l)).text ≡ (judged z o overlong).text
judged_long z none l u h = refl
judged_long z (some p) l u h = ap (λ (v : Part). (judged z (some p) v).text) h

-- ---- the last line of a text that has not ended and is too long
module _ (z : Loading) (t : PlaceLine) (n : ℕ) (q : Bytes) (e : (parted (split newline q)).rest ≡ []) (long : text_bytes < length q) where
  abbrev before_it : Held
  before_it = inside z (whose t) n (begun []) overlong

  -- where it was too long before, nothing is told of it: no line `(end)` stands in it
  from_long : (fed on_byte (inside z (whose t) n (begun []) overlong) q).text ≡ []
  from_long =
      ap (λ (u : Part). (fed on_byte (inside z (whose t) n (begun []) u) q).text) (sym (kept_long q long))
      ∙ ap (λ (r : Step Held). r.text) ((text_fed_from z (whose t) n q q).begun e).2

  seen_by : (k : Skipped) → SkipFed z (whose t) (inside z (whose t) n (begun []) overlong) 0 q k → seen_in k ≡ seen_of (fed on_byte (at_line n (text z (whose t) (begun []))) q).held.part
  seen_by (skipped.Ended m) (a, b, is, m_is, f) =
      absurd
      (at_told t.place (refusal_text 9 0) (fed on_byte (fed on_byte before_it a).held b).text
      (ap (λ (r : Step Held). r.text ++ (fed on_byte (fed on_byte before_it a).held b).text) (sym f)
      ∙ ap (λ (r : Step Held). r.text) (sym (fed_append on_byte before_it a b))
      ∙ ap (λ (u : Bytes). (fed on_byte before_it u).text) (sym is)
      ∙ from_long))
  seen_by (skipped.Inside k) (p, w, f, seen, s) =
      seen ∙ ap seen_of (ap (λ (r : Step Held). r.held.part) (sym f) ∙ same_part serve_day q before_it (at_line n (text z (whose t) (begun []))) refl)

  pub seen_last : seen_in (skip_from 0 0 q) ≡ seen_of (fed on_byte (at_line n (text z (whose t) (begun []))) q).held.part
  unfolding seen_from
  seen_last = seen_by (skip_from 0 0 q) (skip_fed z (whose t) q 0 n (begun []) overlong refl)

-- ---- the text of a place
module _ {M : Type 0} (T : Shown M) (t : PlaceLine) (z : Loading) (p : Place) (r : Day) (text_ : Bytes) (at : p.at ≤ p.held) (inside_ : p.held ≤ length text_) (room : length text_ ≡ suc text_bytes) (d : Bytes) where
  abbrev g : Held
  g = at_line p.number (text z (whose t) (begun []))

  abbrev bytes : Bytes
  bytes = drop p.at (take p.held text_)

  count : length (drop p.at (take p.held text_)) ≡ p.held - p.at
  count = omega (arith, inside_, length-take p.held text_, length-drop p.at (take p.held text_))

  -- it ends
  module _ (e : ℕ) (b : BookEnd bytes (Some e)) where
    abbrev book : Bytes
    book = take e bytes

    abbrev next : ℕ → Held
    next n = at_line n (places (with_book z t.place (opened_in t book)))

    ended_fed : fed on_byte g bytes ≡ after (text_answer t book) (fed on_byte (next (p.number + count_of_lines book)) (drop e bytes))
    ended_fed =
        let s = split_some newline (drop e bytes) in
        (text_fed z (whose t) p.number bytes).ended s.0 s.1 (sym b.2 ∙ s.2)
        ∙ (λ i. after (judged z (whose t) (kept (sym b.1 i))).text (line_steps serve_day (at_line (p.number + lines i) (judged z (whose t) (kept (sym b.1 i))).left) (sym b.2 i)))
        ∙ ap (λ (o : Opened). after (at_text t.place ++ opening_text o) (line_steps serve_day (at_line (p.number + count_of_lines book) (places (with_book z t.place o))) (split newline (drop e bytes)))) (open_kept (limits_of t) book)
        ∙ ap (after (text_answer t book)) (sym (fed_lines serve_day (next (p.number + count_of_lines book)) (drop e bytes)))
      where
        lines : (parted (split newline bytes)).count ≡ count_of_lines book
        lines = sym (count_book bytes) ∙ ap count_of_lines (sym b.1)

    pub text_went : (given : List Bool) (m : M) → z.given ≡ given → r.stage ≡ stage.Places → r.place ≡ behind p (length book) (counted p.number book) → r.given ≡ given → Opens T t book z.total z.books r.length m d
        → p.number + length bytes ≤ last_number → Went on_byte (ShowsAs T r m) Quiet p.number bytes text_ g (view_of r) text_ d
    text_went given m same_given x y k w few =
        went_by T p.number bytes text_ g r m text_ d stage.Places (behind p e (p.number + count_of_lines book)) given x (y ∙ (λ i. behind p (size i) (number i))) k
        (record {
          left =
              record {
                at = omega (arith, count, b.0, at);
                held = inside_;
                room = refl;
                within = w.printed.0;
                few = omega (arith, ap length same, length-drop e bytes, lines, b.0);
              };
          next = next (p.number + count_of_lines book);
          shows = (with_book z t.place (opened_in t book), (same_given, w.loads), refl);
          fed = ended_fed ∙ sym (λ i. after (w.printed.1 i) (fed on_byte (next (p.number + count_of_lines book)) (same i)));
          quiet = λ w. absurd (true_false (sym w));
        })
      where
        size : length book ≡ e
        size = omega (arith, length-take e bytes, b.0)

        lines : count_of_lines book ≤ e
        lines = omega (arith, count_few book, length-take e bytes)

        number : counted p.number book ≡ p.number + count_of_lines book
        number = omega (arith, lines, b.0, few)

        same : drop (p.at + e) (take (p.held + 0) text_) ≡ drop e (drop p.at (take p.held text_))
        same = let j : p.held + 0 ≡ p.held = omega arith in ap (λ (k : ℕ). drop (p.at + e) (take k text_)) j ∙ sym (drop-drop e p.at (take p.held text_))

  -- no line `(end)` stands in what was read
  module _ (b : BookEnd bytes None) where
    -- the input has ended
    pub text_finished : (m : M) → r.stage ≡ stage.Over → r.place ≡ no_place → Printed (text_answer t bytes) r.length d → Finished on_byte at_end (ShowsAs T r m) p.number bytes text_ g (view_of r) text_ d
    text_finished m x y w =
        finished_over T p.number bytes text_ g r m text_ d refl x y w.0
        (w.1
        ∙ sym (text_ended z (whose t) p.number bytes b
        ∙ ap (λ (u : Bytes). (judged z (whose t) (kept u)).text) (all_book bytes b)
        ∙ ap (λ (o : Opened). at_text t.place ++ opening_text o) (open_kept (limits_of t) bytes)))

    -- it fills the buffer
    pub text_long : (s : Day) (m : M) → s.place ≡ p → p.held - p.at ≡ length text_ → LoadsAs T s.given m z → outside t.place ≡ false → TextLong t s bytes r → p.number + length bytes ≤ last_number
        → Went on_byte (ShowsAs T r m) Quiet p.number bytes text_ g (view_of r) text_ d
    text_long s m where_is full loads among w few =
        went_by T p.number bytes text_ g r m text_ d (stage.Skip (record { told = Some t; seen = seen_in (skip_from 0 0 bytes) })) (unheld (p.number + count_of_lines bytes)) s.given w.stage
        (w.place ∙ ap (λ (k : Place). unheld (counted k.number bytes)) where_is ∙ ap unheld number) w.given
        (record {
          left = record { at = omega arith; held = omega arith; room = refl; within = omega (arith, w.printed); few = omega (arith, ap length (none_used text_), count_few bytes) };
          next = inside z (whose t) (p.number + count_of_lines bytes) f.0 f.1;
          shows = (
            z,
            loads,
            λ w. refl,
            among,
            record {
              line = f.0;
              text = f.1;
              seen = seen_last z t p.number bytes b long ∙ ap (λ (r : Step Held). seen_of r.held.part) f.2;
              skips = f.3 ∙ ap kept (all_book bytes b) ∙ kept_long bytes long;
              held = refl;
            },
          );
          fed = fed_is ∙ none_fed (inside z (whose t) (p.number + count_of_lines bytes) f.0 f.1) ∙ sym (λ i. after (take (w.printed i) d) (fed on_byte (inside z (whose t) (p.number + count_of_lines bytes) f.0 f.1) (none_used text_ i)));
          quiet = λ y. (ap (λ (u : Bytes). (parted (split newline u)).rest) (none_used text_) ∙ no_lines, omega (arith, ap length (none_used text_)));
        })
      where
        long : text_bytes < length bytes
        long = omega (arith, count, full, room)

        f : (l : Part) × (u : Part) × (fed on_byte g bytes ≡ record { text = []; held = inside z (whose t) (p.number + (parted (split newline bytes)).count) l u }) × (joined_parts u l ≡ kept (parted (split newline bytes)).book)
        f = (text_fed z (whose t) p.number bytes).begun b

        fed_is : fed on_byte g bytes ≡ record { text = []; held = inside z (whose t) (p.number + count_of_lines bytes) f.0 f.1 }
        fed_is = f.2 ∙ ap (λ (k : ℕ). record { text = []; held = inside z (whose t) (p.number + k) f.0 f.1 }) (sym (count_book bytes) ∙ ap count_of_lines (all_book bytes b))

        number : counted p.number bytes ≡ p.number + count_of_lines bytes
        number = omega (arith, few, count_few bytes)

    -- more of it is to be read
    pub text_waits : (s : Day) (m : M) → s.place ≡ p → s.stage ≡ stage.Text t → skips p.line ≡ false → outside t.place ≡ false → eqb (p.held - p.at) (length text_) ≡ false → LoadsAs T s.given m z → (text' : Bytes) → LineWaits s text_ r text'
        → Went on_byte (ShowsAs T r m) Quiet p.number bytes text_ g (view_of r) text' d
    text_waits s m where_is stage_is passed among part loads text' w =
        went_by T p.number bytes text_ g r m text' d (stage.Text t) (kept_as false p.number (p.held - p.at)) s.given (w.stage ∙ stage_is) place w.given
        (record {
          left = record { at = omega arith; held = omega (arith, w.refilled.size, inside_); room = w.refilled.size; within = omega (arith, w.printed); few = omega (arith, ap length same) };
          next = g;
          shows = (z, loads, refl, among, refl);
          fed = sym (λ i. after (take (w.printed i) d) (fed on_byte g (same i)));
          quiet = λ y. (ap (λ (u : Bytes). (parted (split newline u)).rest) same ∙ b, omega (arith, ap length same, not_full));
        })
      where
        place : r.place ≡ kept_as false p.number (p.held - p.at)
        place =
            w.refilled.place ∙ ap (λ (k : Place). kept_as (too_long k (length text_)) k.number (k.held - k.at)) where_is
            ∙ ap (λ (v : Bool). kept_as (cond v true (eqb (p.held - p.at) (length text_))) p.number (p.held - p.at)) passed
            ∙ ap (λ (v : Bool). kept_as v p.number (p.held - p.at)) part

        front : take (p.held - p.at) text' ≡ drop p.at (take p.held text_)
        front = subst (λ (k : Place). take (k.held - k.at) text' ≡ drop k.at (take k.held text_)) where_is w.refilled.front

        same : drop 0 (take ((p.held - p.at) + 0) text') ≡ drop p.at (take p.held text_)
        same = let j : (p.held - p.at) + 0 ≡ p.held - p.at = omega arith in ap (λ (k : ℕ). take k text') j ∙ front

        ne : p.held - p.at ≡ length text_ → ⊥
        ne y = true_false (sym (true_eqb (p.held - p.at) (length text_) y) ∙ part)

        not_full : length bytes ≤ text_bytes
        not_full = omega (arith, count, room, inside_, ne)

-- ---- a text that is skipped
module _ {M : Type 0} (T : Shown M) (k : Skipping) (z : Loading) (p : Place) (r : Day) (text_ : Bytes) (at : p.at ≤ p.held) (inside_ : p.held ≤ length text_) (d : Bytes) (h : Held) (w : SkippedIn z k p.number h) (among : Within k.told) where
  abbrev q : Bytes
  q = drop p.at (take p.held text_)

  abbrev o : Option lines.Place
  o = place_is k.told

  size_of : length (drop p.at (take p.held text_)) ≡ p.held - p.at
  size_of = omega (arith, inside_, length-take p.held text_, length-drop p.at (take p.held text_))

  pub skips_fed : SkipFed z (place_is k.told) h 0 q (skip_from 0 k.seen q)
  skips_fed = subst (λ (x : Held). SkipFed z (place_is k.told) x 0 q (skip_from 0 k.seen q)) (sym w.held)
      (subst (λ (j : ℕ). SkipFed z (place_is k.told) (inside z (place_is k.told) p.number w.line w.text) 0 q (skip_from 0 j q)) (sym w.seen) (skip_fed z (place_is k.told) q 0 p.number w.line w.text w.skips))

  number_is : h.number ≡ p.number
  number_is = ap (λ (x : Held). x.number) w.held

  -- what is told of it
  told_is : (t : Answer PlaceLine) → (judged z (place_is t) overlong).text ≡ skipped_text t
  told_is None = refl
  told_is (Some t) = refl

  left_is : (t : Answer PlaceLine) → (judged z (place_is t) overlong).left ≡ places (record { total = z.total; given = z.given; books = books_left t z.books })
  left_is None = refl
  left_is (Some t) = refl

  pub skip_went : (e : ℕ) → SkipFed z (place_is k.told) h 0 q (skipped.Ended e) → (s : Day) (m m' : M) → s.place ≡ p → LoadsAs T s.given m z → SkipBehind T k s (take e q) m r m' d → p.number + length q ≤ last_number
      → Went on_byte (ShowsAs T r m') Quiet p.number q text_ h (view_of r) text_ d
  skip_went e (a, b, is, e_is, f) s m m' where_is loads v few =
      went_by T p.number q text_ h r m' text_ d stage.Places (behind p e (p.number + count_of_lines a)) s.given v.stage
      (v.place ∙ ap (λ (j : Place). behind j (length (take e q)) (counted j.number (take e q))) where_is ∙ (λ i. behind p (length_is i) (number i))) v.given
      (record {
        left =
            record {
              at = omega (arith, e_is, sizes, size_of, at);
              held = inside_;
              room = refl;
              within = v.printed.0;
              few = omega (arith, ap length same, sizes, count_few a);
            };
        next = next;
        shows = (left, (loads.0, v.skips among z.total z.books loads.1), refl);
        fed =
            ap (fed on_byte h) is
            ∙ fed_append on_byte h a b
            ∙ ap (λ (x : Step Held). after x.text (fed on_byte x.held b)) f
            ∙ (λ i. after ((told_is k.told ∙ sym v.printed.1) i) (fed on_byte (at_line (number_is i + count_of_lines a) (left_is k.told i)) (sym same i)));
        quiet = λ y. absurd (true_false (sym y));
      })
    where
      left : Loading
      left = record { total = z.total; given = z.given; books = books_left k.told z.books }

      next : Held
      next = at_line (p.number + count_of_lines a) (places left)

      sizes : length q ≡ length a + length b
      sizes = ap length is ∙ length-append a b

      taken : take e q ≡ a
      taken = (let j : e ≡ length a = omega (arith, e_is) in λ i. take (j i) (is i)) ∙ take_at a b (length a) refl

      length_is : length (take e q) ≡ e
      length_is = ap length taken ∙ (let j : length a ≡ e = omega (arith, e_is) in j)

      number : counted p.number (take e q) ≡ p.number + count_of_lines a
      number = ap (counted p.number) taken ∙ (let j : counted p.number a ≡ p.number + count_of_lines a = omega (arith, few, sizes, count_few a) in j)

      same : drop (p.at + e) (take (p.held + 0) text_) ≡ b
      same =
          let j : p.held + 0 ≡ p.held = omega arith in
          let l : e ≡ length a = omega (arith, e_is) in
          ap (λ (i : ℕ). drop (p.at + e) (take i text_)) j ∙ sym (drop-drop e p.at (take p.held text_)) ∙ (λ i. drop (l i) (is i)) ∙ drop_at a b (length a) refl

  pub skip_waits : (seen : ℕ) → SkipFed z (place_is k.told) h 0 q (skipped.Inside seen) → (s : Day) (m : M) → s.place ≡ p → LoadsAs T s.given m z → SkipWaits k s seen q r → p.number + length q ≤ last_number
      → Went on_byte (ShowsAs T r m) Quiet p.number q text_ h (view_of r) text_ d
  skip_waits seen (l, u, f, seen_is, skips) s m where_is loads v few =
      went_by T p.number q text_ h r m text_ d (stage.Skip (record { told = k.told; seen = seen })) (unheld (p.number + count_of_lines q)) s.given v.stage
      (v.place ∙ ap (λ (j : Place). unheld (counted j.number q)) where_is ∙ ap unheld number) v.given
      (record {
        left = record { at = omega arith; held = omega arith; room = refl; within = omega (arith, v.printed); few = omega (arith, ap length (none_used text_), count_few q) };
        next = next;
        shows = (z, loads, λ y. refl, among, record { line = l; text = u; seen = seen_is; skips = skips; held = refl });
        fed =
            f
            ∙ ap (λ (n : ℕ). record { text = []; held = inside z (place_is k.told) (n + count_of_lines q) l u }) number_is
            ∙ none_fed next ∙ sym (λ i. after (take (v.printed i) d) (fed on_byte next (none_used text_ i)));
        quiet = λ y. (ap (λ (u : Bytes). (parted (split newline u)).rest) (none_used text_) ∙ no_lines, omega (arith, ap length (none_used text_)));
      })
    where
      next : Held
      next = inside z (place_is k.told) (p.number + count_of_lines q) l u

      number : counted p.number q ≡ p.number + count_of_lines q
      number = omega (arith, few, count_few q)

  -- the input has ended: nothing more was read of it
  pub skip_finished : (m : M) → q ≡ [] → Ends (skipped_text k.told) r d → Finished on_byte at_end (ShowsAs T r m) p.number q text_ h (view_of r) text_ d
  skip_finished m bare v =
      finished_over T p.number q text_ h r m text_ d refl v.over v.place v.printed.0
      (v.printed.1
      ∙ sym (told_is k.told)
      ∙ sym (ap (λ (x : Held). whole at_end (fed on_byte x [])) w.held ∙ end_none z (place_is k.told) p.number w.line w.text ∙ judged_long z (place_is k.told) w.line w.text w.skips)
      ∙ ap (λ (u : Bytes). whole at_end (fed on_byte h u)) (sym bare))
