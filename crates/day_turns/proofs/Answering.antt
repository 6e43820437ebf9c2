-- A whole line of a day, by the stage that it stands in: what is answered is what the day's step answers, and the tables show what it leaves.
use Prim.Native.Nat.{ℕ, suc, ◌+◌, ◌-◌, ◌≤◌, ◌<◌}
use mathlib.Core.Path.{◌≡◌, refl, sym, ap, subst, ◌∙◌}
use mathlib.Core.Bool.{Bool, true, false, cond}
use mathlib.Core.List.{List, [], ◌∷◌}
use mathlib.Core.Option.{Option, none, some}
use native.Mathlib.Omega.{arith}
use lib.ListN.{length, take, drop, set, get_or, replicate}
use Rattle.std.specs.Prelude.{Some, None}
use Rattle.layout.specs.Words.{Bytes, newline, split}
use Rattle.layout.specs.Forms.{then}
use Rattle.layout.specs.Output.{refusal_text}
use Rattle.layout.specs.Opening.{text_bytes}
use Rattle.feeding.specs.Lines.{begun, Answered, at_line}
use Rattle.days.specs.Accounts.{books}
use Rattle.day_text.specs.Lines as lines
use Rattle.day_text.specs.Lines.{total_of, is_place, place_of}
use Rattle.day_text.specs.Program.{Loading, Served, Phase, first, places, text, calls, over, none_given, with_place, not_given, started, on_first_line, on_place, as_calls, serve_placed, serve_day}
use Rattle.day_feeding.specs.Steps.{on_byte, at_end}
use Rattle.text_skip.specs.Skip.{seen_from, seen_of}
use Rattle.line_buffer.specs.Numbers.{last_number}
use Rattle.buffered_lines.specs.Places.{skips, served_as}
use Rattle.buffered_lines.specs.Turns.{Went, Finished}
use Rattle.buffered_lines.proofs.Runs.{true_false}
use Rattle.day_turns.specs.declared.Stage.{Stage}
use Rattle.day_turns.specs.declared.Stage.TheVariants as stage
use Rattle.day_turns.specs.declared.Day.{Day}
use Rattle.day_turns.specs.Lent.{Shown}
use Rattle.day_turns.specs.Turns.{Printed, free, FirstAnswered, PlaceAnswered, LoadingAnswered, CallAnswered, LineAnswered, LastAnswered}
use Rattle.day_turns.specs.Turned.{view_of, line_in, whose, LoadsAs, ShowsIn, ShowsAs, Quiet}
use Rattle.day_turns.proofs.Among.{Among, among_free, among_place}
use Rattle.day_turns.proofs.LineSteps.{line_went, line_over, ended_finished, first_finished}

nothing_printed : (n : ℕ) (d : Bytes) → n ≡ 0 → Printed [] n d
nothing_printed n d e = (omega (arith, e), ap (λ (k : ℕ). take k d) e)

-- at the start of a text nothing is seen of its line `(end)`
pub nothing_seen : 0 ≡ seen_of (begun [])
unfolding seen_from
nothing_seen = refl

module _ {M : Type 0} (T : Shown M) (s r : Day) (text_ : Bytes) (at : s.place.at ≤ s.place.held) (inside : s.place.held ≤ length text_) (room : length text_ ≡ suc text_bytes) (m m' : M) (d : Bytes) where
  abbrev bytes : Bytes
  bytes = drop s.place.at (take s.place.held text_)

  abbrev n : ℕ
  n = s.place.number

  abbrev served : Bytes → Bytes
  served l = served_as (skips s.place.line) l

  abbrev WentFrom : Phase → Type 0
  WentFrom x = Went on_byte (ShowsAs T r m') Quiet s.place.number (drop s.place.at (take s.place.held text_)) text_ (line_in s.place x) (view_of r) text_ d

  -- what a whole line owes that is answered at stage g, where the definition is in phase x
  abbrev pub Answers : Stage → Phase → Type 0
  Answers g x =
      (l : Bytes) → length l < length bytes → split newline bytes ≡ l ∷ split newline (drop (suc (length l)) bytes)
      → LineAnswered T g s (length l) (served_as (skips s.place.line) l) m r m' d → s.place.number + length bytes ≤ last_number → WentFrom x

  -- ---- the first line
  pub first_answers : T.Lent m → Answers stage.First first
  first_answers lent l short is w few = by (total_of (served l)) refl w
    where
      by : (o : Option ℕ) → total_of (served l) ≡ o → FirstAnswered T o s (length l) m r m' d → WentFrom first
      by none e w = line_over T first tt s.place r text_ at inside room d l short is (refusal_text 1 1) m' w (ap on_first_line e)
      by (some t) e w =
          line_went T first tt s.place r text_ at inside room d l short is (record { text = []; left = places (none_given t) }) stage.Places (replicate books false) m' (ap on_first_line e) w.stage w.place w.given
          (nothing_printed r.length d w.printed) (none_given t, (refl, w.loads lent), refl) few

  -- ---- a line behind the loading
  pub calls_answers : (z : Served) → T.Serves m z → Answers stage.Calls (calls z)
  calls_answers z serves l short is w few =
      let a = w.served z serves in
      line_went T (calls z) tt s.place r text_ at inside room d l short is (as_calls (serve_placed s.place.number z (some (served l)))) stage.Calls r.given m' refl w.stage w.place refl a.printed
      ((serve_placed s.place.number z (some (served l))).left, a.serves, refl) few

  -- ---- a line of the loading
  pub places_answers : (z : Loading) → LoadsAs T s.given m z → Answers stage.Places (places z)
  places_answers z loads l short is w few = by (is_place (served l)) refl w
    where
      same_free : (o : Option lines.Place) (given : List Bool) → z.given ≡ given → then o (not_given z) ≡ then o (free given)
      same_free none given e = refl
      same_free (some p) given e = ap (λ (g : List Bool). cond (get_or g (p.place - 1) false) none (some p)) e

      on : is_place (served l) ≡ true → serve_day n (places z) (some (served l)) ≡ on_place n z (then (place_of (served l)) (free s.given))
      on e =
          ap (λ (t : Bool). cond t (on_place n z (then (place_of (served l)) (not_given z))) (as_calls (serve_placed n (started z) (some (served l))))) e
          ∙ ap (on_place n z) (same_free (place_of (served l)) s.given loads.0)

      kept_m : m' ≡ m → (z' : Loading) (given : List Bool) → LoadsAs T given m z' → LoadsAs T given m' z'
      kept_m e z' given w = subst (λ (k : M). LoadsAs T given k z') (sym e) w

      place : (o : Option lines.Place) → Among o → serve_day n (places z) (some (served l)) ≡ on_place n z o → PlaceAnswered o s (length l) r d → m' ≡ m → WentFrom (places z)
      place none among e w same =
          line_went T (places z) tt s.place r text_ at inside room d l short is (on_place n z none) (stage.Skip (record { told = None; seen = 0 })) s.given m' e w.stage w.place w.given w.printed
          (z, kept_m same z s.given loads, λ y. absurd (true_false (sym y)), tt, record { line = begun []; text = begun []; seen = nothing_seen; skips = tt; held = refl }) few
      place (some q) among e w same =
          line_went T (places z) tt s.place r text_ at inside room d l short is (on_place n z (some q)) (stage.Text w.line) (set s.given (q.place - 1) true) m' e w.stage w.place w.given (nothing_printed r.length d w.printed)
          (with_place z q.place, (ap (λ (g : List Bool). set g (q.place - 1) true) loads.0, (kept_m same z s.given loads).1), refl, subst Among (sym w.is) among, ap (λ (o : Option lines.Place). at_line (suc n) (text (with_place z q.place) o (begun []))) (sym w.is)) few

      call : serve_day n (places z) (some (served l)) ≡ as_calls (serve_placed n (started z) (some (served l))) → CallAnswered T s (length l) (served l) m r m' d → WentFrom (places z)
      call e w =
          let a = w.served (started z) loads.1.serves in
          line_went T (places z) tt s.place r text_ at inside room d l short is (as_calls (serve_placed s.place.number (started z) (some (served l)))) stage.Calls r.given m' e w.stage w.place refl a.printed
          ((serve_placed s.place.number (started z) (some (served l))).left, a.serves, refl) few

      by : (t : Bool) → is_place (served l) ≡ t → LoadingAnswered T t s (length l) (served l) m r m' d → WentFrom (places z)
      by true e w = place (then (place_of (served l)) (free s.given)) (among_free (place_of (served l)) s.given (among_place (served l))) (on e) w.0 w.1
      by false e w = call (ap (λ (t : Bool). cond t (on_place n z (then (place_of (served l)) (not_given z))) (as_calls (serve_placed n (started z) (some (served l))))) e) w

  -- ---- the last line
  abbrev FinishedFrom : Phase → Type 0
  FinishedFrom x = Finished on_byte at_end (ShowsAs T r m') s.place.number (drop s.place.at (take s.place.held text_)) text_ (line_in s.place x) (view_of r) text_ d

  abbrev pub Ends : Stage → Phase → Type 0
  Ends g x = split newline bytes ≡ bytes ∷ [] → LastAnswered g s r d → FinishedFrom x

  pub first_ends : Ends stage.First first
  first_ends e w = first_finished T first tt s.place r text_ at inside room d e m' refl w

  pub places_ends : (z : Loading) → Ends stage.Places (places z)
  places_ends z e w = ended_finished T (places z) tt s.place r text_ at inside room d e m' tt w

  pub calls_ends : (z : Served) → Ends stage.Calls (calls z)
  calls_ends z e w = ended_finished T (calls z) tt s.place r text_ at inside room d e m' tt w
