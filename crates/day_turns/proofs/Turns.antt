-- A turn of the program `day`, by the stage that it begins in.
use Prim.Native.Nat.{ℕ, suc, ◌+◌, ◌-◌, ◌≤◌, ◌<◌}
use mathlib.Core.Path.{◌≡◌, refl, sym, ap, subst, ◌∙◌}
use mathlib.Core.Bool.{Bool, true, false, ◌&&◌}
use mathlib.Core.List.{List, [], ◌∷◌}
use native.Mathlib.Omega.{arith}
use borrow.Author.Tests.{eqb-true}
use lib.Dec.{eqb}
use lib.ListN.{length, take, drop, length-take, length-drop}
use Rattle.std.specs.Prelude.{Option as Answer, Some, None}
use Rattle.std.specs.Borrow.{Bor}
use Rattle.layout.specs.Words.{Bytes, newline, split}
use Rattle.layout.specs.Opening.{text_bytes}
use Rattle.layout.specs.Session.{parted}
use Rattle.feeding.specs.Lines.{begun, fed, at_line}
use Rattle.feeding.proofs.Lines.{split_some}
use Rattle.day_text.specs.Program.{Phase, first, places, calls, over}
use Rattle.day_text.specs.Program.{text as within}
use Rattle.day_feeding.specs.Steps.{Held, on_byte, at_end}
use Rattle.reader.specs.Books.{BookEnd}
use Rattle.text_skip.specs.Skip.{skip_from}
use Rattle.text_skip.specs.Fed.{SkipFed}
use Rattle.text_skip.specs.declared.Skipped.{Skipped}
use Rattle.text_skip.specs.declared.Skipped.TheVariants as skipped
use Rattle.line_buffer.specs.Numbers.{last_number}
use Rattle.buffered_lines.specs.declared.Place.{Place}
use Rattle.buffered_lines.specs.Places.{waits, skips, served_as, LineIn, too_long}
use Rattle.buffered_lines.specs.Turns.{unused, Ready, Went, Finished, whole}
use Rattle.buffered_lines.specs.Turns.{Turned as TurnedOf}
use Rattle.buffered_lines.proofs.Runs.{true_false}
use Rattle.day_turns.specs.declared.Stage.{Stage}
use Rattle.day_turns.specs.declared.Stage.TheVariants as stage
use Rattle.day_turns.specs.declared.Skipping.{Skipping}
use Rattle.day_turns.specs.declared.Day.{Day}
use Rattle.day_reader.specs.declared.place.PlaceLine.{PlaceLine}
use Rattle.day_reader.specs.Read.{place_is}
use Rattle.day_turns.specs.Lent.{Shown, Loads}
use Rattle.day_turns.specs.Turns.{Over, LineAnswered, LastAnswered, LineNotEnded, LineAt, LinesTurned, skipped_text, TextWaits, TextNotEnded, TextAt, TextTurned, SkipNotEnded, SkipAt, SkipTurned}
use Rattle.day_turns.specs.Turns.{Ends as LastOf}
use Rattle.day_turns.specs.Turned.{view_as, view_of, whose, line_in, ShowsIn, ShowsAs, Quiet, Turned}
use Rattle.day_turns.proofs.Shows.{silent_over, went_over, finished_over}
use Rattle.day_turns.proofs.LineSteps.{Lines, lines_quiet, line_waits}
use Rattle.day_turns.proofs.Held.{text_went, text_finished, text_long, text_waits, skips_fed, skip_went, skip_waits, skip_finished}
use Rattle.day_turns.proofs.Answering.{Answers, Ends, first_answers, places_answers, calls_answers, first_ends, places_ends, calls_ends}

-- with bytes that were read behind what was held
abbrev pub more : Place → ℕ → Place
more p got = record { line = p.line; at = p.at; held = p.held + got; number = p.number }

abbrev pub with_more : Day → ℕ → Day
with_more s got = record { stage = s.stage; place = more s.place got; length = s.length; given = s.given }

tail_of : {x : Bytes} {xs : List Bytes} {u : Bytes} {us : List Bytes} → x ∷ xs ≡ u ∷ us → xs ≡ us
tail_of {x} {xs} {u} {us} e = ap rest e
  where
    rest : List Bytes → List Bytes
    rest [] = []
    rest (w ∷ ws) = ws

some_line : (vs : List Bytes) → (v : Bytes) × (ws : List Bytes) × (vs ≡ v ∷ ws) → vs ≡ [] → ⊥
some_line [] z e = let y : ◌≡◌ {A = ℕ} 0 1 = cc in omega (arith, y)
some_line (v ∷ vs) z e = let y : ◌≡◌ {A = ℕ} 0 1 = cc in omega (arith, y)

empty : (s : Bytes) → length s ≡ 0 → s ≡ []
empty [] e = refl
empty (b ∷ s) e = absurd (omega (arith, e))

skip_none : (k : ℕ) → skip_from 0 k [] ≡ skipped.Inside k
unfolding skip_from
skip_none k = refl

module _ {M : Type 0} (T : Shown M) (room_for : ℕ) (s r : Day) (got : ℕ) (text : Bytes) (m : M) (d₀ text' : Bytes) (m' : M) (d : Bytes) where
  abbrev Is : Type 0
  Is = Turned T room_for s got text m d₀ r text' m' d

  abbrev ReadyNow : Type 0
  ReadyNow = Ready (view_of s) got text room_for d₀

  -- the bytes that are not used yet
  abbrev q : Bytes
  q = drop s.place.at (take (s.place.held + got) text)

  abbrev Goes : Held → Type 0
  Goes h = Went on_byte (ShowsAs T r m') Quiet s.place.number (drop s.place.at (take (s.place.held + got) text)) text h (view_of r) text' d

  abbrev Finishes : Held → Type 0
  Finishes h = Finished on_byte at_end (ShowsAs T r m') s.place.number (drop s.place.at (take (s.place.held + got) text)) text h (view_of r) text' d

  -- a buffer that is not the program's
  turned_not : (ReadyNow → ⊥) → Is
  turned_not bad = record { goes = λ a f h w n. absurd (bad f); ends = λ a f h w n. absurd (bad f) }

  pub turned_short : (s.place.held + got ≤ length text → ⊥) → Is
  turned_short bad = turned_not (λ f. bad f.held)

  pub turned_back : s.place.held < s.place.at → Is
  turned_back b = turned_not (λ f. omega (arith, f.at, b))

  -- a turn that no longer is one
  pub turned_over : s.stage ≡ stage.Over → Over 0 r → text' ≡ text → Is
  turned_over e o same =
      record {
        goes = λ a f h w n.
            went_over T s.place.number q text h r m' text' d same o.0 o.1 (omega (arith, o.2)) [] h q none (left h w) refl;
        ends = λ a f h w n.
            finished_over T s.place.number q text h r m' text' d same o.0 o.1 (omega (arith, o.2)) (none ∙ sym (silent_over h q (left h w)));
      }
    where
      none : take r.length d ≡ []
      none = ap (λ (k : ℕ). take k d) o.2

      left : (h : Held) → ShowsAs T s m h → h.left ≡ over
      left h w = subst (λ (g : Stage). ShowsIn T g s.place s.given m h) e w

  -- ---- lines
  -- where the definition is in phase x
  module _ (g : Stage) (e : s.stage ≡ g) (x : Phase) (lines : Lines x) (f : ReadyNow) (last : Bool) (z : last ≡ (waits s.place.line && eqb got 0)) where
    low : s.place.at ≤ s.place.held + got
    low = omega (arith, f.at)

    line_goes : Answers T (with_more s got) r text low f.held f.room m m' d g x → ((k : Place) → ShowsIn T g k s.given m (line_in k x)) → (waits s.place.line && eqb got 0) ≡ false → s.place.number + length q ≤ last_number
        → (l : Answer (Bor Bytes)) → LineIn q l → LineAt T l last (with_more s got) text m r text' m' d → Goes (line_in s.place x)
    line_goes answers shows a few (Some l) is t =
        subst (λ (u : Bytes). Went on_byte (ShowsAs T r m') Quiet s.place.number q text (line_in s.place x) (view_of r) u d) (sym t.1)
        (answers l.now is.0 is.1 (subst (λ (y : Stage). LineAnswered T y (with_more s got) (length l.now) (served_as (skips s.place.line) l.now) m r m' d) e t.0) few)
    line_goes answers shows a few None is t = none last z t
      where
        none : (b : Bool) → b ≡ (waits s.place.line && eqb got 0) → LineNotEnded T b (with_more s got) text m r text' m' d → Goes (line_in s.place x)
        none true y t = absurd (true_false (y ∙ a))
        none false y t =
            line_waits T x lines (more s.place got) r text low f.held f.room d is (with_more s got) refl text' t.0 m'
            (λ k. subst (λ (v : M). ShowsIn T s.stage k s.given v (line_in k x)) (sym t.1) (subst (λ (y : Stage). ShowsIn T y k s.given m (line_in k x)) (sym e) (shows k)))
            (too_long (more s.place got) (length text)) refl

    line_ends : Ends T (with_more s got) r text low f.held f.room m m' d g x → (waits s.place.line && eqb got 0) ≡ true → Quiet (line_in s.place x) q
        → (l : Answer (Bor Bytes)) → LineIn q l → LineAt T l last (with_more s got) text m r text' m' d → Finishes (line_in s.place x)
    line_ends ends a quiet (Some l) is t =
        absurd (some_line (split newline (drop (suc (length l.now)) q)) (split_some newline (drop (suc (length l.now)) q)) (tail_of (sym is.1 ∙ lines_quiet x s.place q lines quiet)))
    line_ends ends a quiet None is t = none last z t
      where
        none : (b : Bool) → b ≡ (waits s.place.line && eqb got 0) → LineNotEnded T b (with_more s got) text m r text' m' d → Finishes (line_in s.place x)
        none true y t =
            subst (λ (u : Bytes). Finished on_byte at_end (ShowsAs T r m') s.place.number q text (line_in s.place x) (view_of r) u d) (sym t.1)
            (ends is (subst (λ (y : Stage). LastAnswered y (with_more s got) r d) e t.0))
        none false y t = absurd (true_false (sym a ∙ sym y))

  module _ (last : Bool) (z : last ≡ (waits s.place.line && eqb got 0)) (t : LinesTurned T last (with_more s got) text m r text' m' d) where
    pub turned_first : s.stage ≡ stage.First → Is
    turned_first e =
        record {
          goes = λ a f h w few.
              let v = shown h w in
              subst Goes (sym v.1)
              (line_goes stage.First e first tt f last z (first_answers T (with_more s got) r text (low_of f) f.held f.room m m' d v.0) (λ k. (v.0, refl)) a few t.0 t.1 t.2);
          ends = λ a f h w quiet.
              let v = shown h w in
              subst Finishes (sym v.1)
              (line_ends stage.First e first tt f last z (first_ends T (with_more s got) r text (low_of f) f.held f.room m m' d) a (subst (λ (y : Held). Quiet y q) v.1 quiet) t.0 t.1 t.2);
        }
      where
        shown : (h : Held) → ShowsAs T s m h → T.Lent m × (h ≡ line_in s.place first)
        shown h w = subst (λ (g : Stage). ShowsIn T g s.place s.given m h) e w

        low_of : ReadyNow → s.place.at ≤ s.place.held + got
        low_of f = omega (arith, f.at)

    pub turned_places : s.stage ≡ stage.Places → Is
    turned_places e =
        record {
          goes = λ a f h w few.
              let v = shown h w in
              subst Goes (sym v.2)
              (line_goes stage.Places e (places v.0) tt f last z (places_answers T (with_more s got) r text (low_of f) f.held f.room m m' d v.0 v.1) (λ k. (v.0, v.1, refl)) a few t.0 t.1 t.2);
          ends = λ a f h w quiet.
              let v = shown h w in
              subst Finishes (sym v.2)
              (line_ends stage.Places e (places v.0) tt f last z (places_ends T (with_more s got) r text (low_of f) f.held f.room m m' d v.0) a (subst (λ (y : Held). Quiet y q) v.2 quiet) t.0 t.1 t.2);
        }
      where
        shown : (h : Held) → ShowsAs T s m h → ShowsIn T stage.Places s.place s.given m h
        shown h w = subst (λ (g : Stage). ShowsIn T g s.place s.given m h) e w

        low_of : ReadyNow → s.place.at ≤ s.place.held + got
        low_of f = omega (arith, f.at)

    pub turned_calls : s.stage ≡ stage.Calls → Is
    turned_calls e =
        record {
          goes = λ a f h w few.
              let v = shown h w in
              subst Goes (sym v.2)
              (line_goes stage.Calls e (calls v.0) tt f last z (calls_answers T (with_more s got) r text (low_of f) f.held f.room m m' d v.0 v.1) (λ k. (v.0, v.1, refl)) a few t.0 t.1 t.2);
          ends = λ a f h w quiet.
              let v = shown h w in
              subst Finishes (sym v.2)
              (line_ends stage.Calls e (calls v.0) tt f last z (calls_ends T (with_more s got) r text (low_of f) f.held f.room m m' d v.0) a (subst (λ (y : Held). Quiet y q) v.2 quiet) t.0 t.1 t.2);
        }
      where
        shown : (h : Held) → ShowsAs T s m h → ShowsIn T stage.Calls s.place s.given m h
        shown h w = subst (λ (g : Stage). ShowsIn T g s.place s.given m h) e w

        low_of : ReadyNow → s.place.at ≤ s.place.held + got
        low_of f = omega (arith, f.at)

  -- ---- the text of a place
  module _ (t : PlaceLine) (e : s.stage ≡ stage.Text t) (last : Bool) (z : last ≡ (waits s.place.line && eqb got 0)) (turned : TextTurned T last t (with_more s got) text m r text' m' d) where
    shows_text : (h : Held) → ShowsAs T s m h → ShowsIn T (stage.Text t) s.place s.given m h
    shows_text h w = subst (λ (g : Stage). ShowsIn T g s.place s.given m h) e w

    module _ (h : Held) (w : ShowsIn T (stage.Text t) s.place s.given m h) (f : ReadyNow) where
      abbrev before : Held
      before = at_line s.place.number (within w.0 (whose t) (begun []))

      low_text : s.place.at ≤ s.place.held + got
      low_text = omega (arith, f.at)

      text_goes : (waits s.place.line && eqb got 0) ≡ false → s.place.number + length q ≤ last_number → (b : Answer ℕ) → BookEnd q b → TextAt T b last t (with_more s got) text m r text' m' d → Goes before
      text_goes a few (Some b) is v =
          subst (λ (u : Bytes). Went on_byte (ShowsAs T r m') Quiet s.place.number q text before (view_of r) u d) (sym v.1)
          (text_went T t w.0 (more s.place got) r text low_text f.held f.room d b is s.given m' w.1.0 v.0.stage v.0.place v.0.given (v.0.opens w.3 w.0.total w.0.books w.1.1) few)
      text_goes a few None is v = none last z v
        where
          waits_on : (b : Bool) → eqb (s.place.held + got - s.place.at) (length text) ≡ b → TextWaits b t (with_more s got) text r text' → m' ≡ m → Goes before
          waits_on true full v same =
              subst (λ (u : Bytes). Went on_byte (ShowsAs T r m') Quiet s.place.number q text before (view_of r) u d) (sym v.1)
              (text_long T t w.0 (more s.place got) r text low_text f.held f.room d is (with_more s got) m' refl (eqb-true (s.place.held + got - s.place.at) (length text) full) (w.1.0, subst (λ (k : M). Loads T k w.0.total w.0.books) (sym same) w.1.1) w.3 v.0 few)
          waits_on false part v same =
              text_waits T t w.0 (more s.place got) r text low_text f.held f.room d is (with_more s got) m' refl e w.2 w.3 part (w.1.0, subst (λ (k : M). Loads T k w.0.total w.0.books) (sym same) w.1.1) text' v

          none : (b : Bool) → b ≡ (waits s.place.line && eqb got 0) → TextNotEnded T b t (with_more s got) text m r text' m' d → Goes before
          none true y v = absurd (true_false (y ∙ a))
          none false y v = waits_on (eqb (s.place.held + got - s.place.at) (length text)) refl v.0 v.1

      text_ends : (waits s.place.line && eqb got 0) ≡ true → (parted (split newline q)).rest ≡ [] → (b : Answer ℕ) → BookEnd q b → TextAt T b last t (with_more s got) text m r text' m' d → Finishes before
      text_ends a quiet (Some b) is v = absurd (some_line (split newline (drop b q)) (split_some newline (drop b q)) (is.2 ∙ quiet))
      text_ends a quiet None is v = none last z v
        where
          none : (b : Bool) → b ≡ (waits s.place.line && eqb got 0) → TextNotEnded T b t (with_more s got) text m r text' m' d → Finishes before
          none true y v =
              subst (λ (u : Bytes). Finished on_byte at_end (ShowsAs T r m') s.place.number q text before (view_of r) u d) (sym v.1)
              (text_finished T t w.0 (more s.place got) r text low_text f.held f.room d is m' v.0.over v.0.place (v.0.opens w.3 w.0.total w.0.books w.1.1).printed)
          none false y v = absurd (true_false (sym a ∙ sym y))

    pub turned_text : Is
    turned_text =
        record {
          goes = λ a f h w few. let v = shows_text h w in subst Goes (sym v.4) (text_goes h v f a few turned.0 turned.1 turned.2);
          ends = λ a f h w quiet. let v = shows_text h w in subst Finishes (sym v.4) (text_ends h v f a (subst (λ (y : Held). Quiet y q) v.4 quiet).0 turned.0 turned.1 turned.2);
        }

  -- ---- a text that is skipped
  module _ (k : Skipping) (e : s.stage ≡ stage.Skip k) (last : Bool) (z : last ≡ (waits s.place.line && eqb got 0)) (same : text' ≡ text) (turned : SkipTurned T last k (with_more s got) q m r m' d) where
    shows_skip : (h : Held) → ShowsAs T s m h → ShowsIn T (stage.Skip k) s.place s.given m h
    shows_skip h w = subst (λ (g : Stage). ShowsIn T g s.place s.given m h) e w

    module _ (h : Held) (w : ShowsIn T (stage.Skip k) s.place s.given m h) (f : ReadyNow) where
      low_skip : s.place.at ≤ s.place.held + got
      low_skip = omega (arith, f.at)

      skip_goes : (waits s.place.line && eqb got 0) ≡ false → s.place.number + length q ≤ last_number → (y : Skipped) → SkipFed w.0 (place_is k.told) h 0 q y → SkipAt T y last k (with_more s got) q m r m' d
          → Went on_byte (ShowsAs T r m') Quiet s.place.number q text h (view_of r) text d
      skip_goes a few (skipped.Ended b) is v = skip_went T k w.0 (more s.place got) r text low_skip f.held d h w.4 w.3 b is (with_more s got) m m' refl w.1 v few
      skip_goes a few (skipped.Inside seen) is v = none last z v
        where
          none : (b : Bool) → b ≡ (waits s.place.line && eqb got 0) → SkipNotEnded T b k (with_more s got) seen q m r m' d → Went on_byte (ShowsAs T r m') Quiet s.place.number q text h (view_of r) text d
          none true y v = absurd (true_false (y ∙ a))
          none false y v =
              skip_waits T k w.0 (more s.place got) r text low_skip f.held d h w.4 w.3 seen is (with_more s got) m' refl (w.1.0, subst (λ (k : M). Loads T k w.0.total w.0.books) (sym v.1) w.1.1) v.0 few

      bare : (waits s.place.line && eqb got 0) ≡ true → q ≡ []
      bare a = by (waits s.place.line) refl (eqb got 0) refl a
        where
          by : (x : Bool) → waits s.place.line ≡ x → (y : Bool) → eqb got 0 ≡ y → (x && y) ≡ true → q ≡ []
          by true p true g b = empty q (omega (arith, w.2 p, eqb-true got 0 g, f.held, length-take (s.place.held + got) text, length-drop s.place.at (take (s.place.held + got) text)))
          by true p false g b = absurd (true_false (sym b))
          by false p y g b = absurd (true_false (sym b))

      skip_ends : (waits s.place.line && eqb got 0) ≡ true → Finished on_byte at_end (ShowsAs T r m') s.place.number q text h (view_of r) text d
      skip_ends a = skip_finished T k w.0 (more s.place got) r text low_skip f.held d h w.4 w.3 m' (bare a) (ended last z (subst (λ (y : Skipped). SkipAt T y last k (with_more s got) q m r m' d) (ap (skip_from 0 k.seen) (bare a) ∙ skip_none k.seen) turned))
        where
          ended : (b : Bool) → b ≡ (waits s.place.line && eqb got 0) → SkipNotEnded T b k (with_more s got) k.seen q m r m' d → LastOf (skipped_text k.told) r d
          ended true y v = v
          ended false y v = absurd (true_false (sym a ∙ sym y))

    pub turned_skip : Is
    turned_skip =
        record {
          goes = λ a f h w few.
              let v = shows_skip h w in
              subst (λ (u : Bytes). Went on_byte (ShowsAs T r m') Quiet s.place.number q text h (view_of r) u d) (sym same)
              (skip_goes h v f a few (skip_from 0 k.seen q) (skips_fed T k v.0 (more s.place got) r text (low_skip h v f) f.held d h v.4 v.3) turned);
          ends = λ a f h w quiet.
              let v = shows_skip h w in
              subst (λ (u : Bytes). Finished on_byte at_end (ShowsAs T r m') s.place.number q text h (view_of r) u d) (sym same) (skip_ends h v f a);
        }
