-- The parts of a turn, by what they found.
use Prim.Native.Nat.{ℕ, ◌+◌}
use mathlib.Core.Path.{◌≡◌, refl, sym, ap, subst, ◌∙◌}
use mathlib.Core.Bool.{Bool, true, ◌&&◌}
use mathlib.Core.Logic.{◌⊎◌, inl, inr}
use lib.Dec.{eqb}
use lib.ListN.{length, take, drop}
use Rattle.std.specs.Prelude.{Some, None}
use Rattle.layout.specs.Words.{Bytes}
use Rattle.reader.specs.Books.{BookEnd}
use Rattle.text_skip.specs.Skip.{skip_from}
use Rattle.text_skip.specs.declared.Skipped.{Skipped}
use Rattle.buffered_lines.specs.declared.Place.{Place}
use Rattle.buffered_lines.specs.Places.{waits}
use Rattle.day_reader.specs.declared.place.PlaceLine.{PlaceLine}
use Rattle.day_turns.specs.declared.Stage.TheVariants as stage
use Rattle.day_turns.specs.declared.Skipping.{Skipping}
use Rattle.day_turns.specs.declared.Day.{Day}
use Rattle.day_turns.specs.Lent.{Shown}
use Rattle.day_turns.specs.Turns.{LinesTurned, TextBehind, TextLast, TextNotEnded, TextTurned, SkipAt, SkipTurned}
use Rattle.day_turns.specs.Turned.{Turned}
use Rattle.day_turns.proofs.Turns.{turned_first, turned_places, turned_calls, turned_text, turned_skip}

module _ {M : Type 0} (T : Shown M) (last : Bool) (s : Day) (m : M) (r : Day) (m' : M) (d : Bytes) where
  -- a text that is skipped, by where it ends
  pub skip_told : (k : Skipping) (q : Bytes) (y : Skipped) → skip_from 0 k.seen q ≡ y → SkipAt T y last k s q m r m' d → SkipTurned T last k s q m r m' d
  skip_told k q y e w = subst (λ (y : Skipped). SkipAt T y last k s q m r m' d) (sym e) w

  module _ (t : PlaceLine) (text q : Bytes) (same : q ≡ drop s.place.at (take s.place.held text)) where
    -- a text that ends
    pub text_behind : (e : ℕ) → BookEnd q (Some e) → TextBehind T t s (take e q) m r m' d → TextTurned T last t s text m r text m' d
    text_behind e b w = (Some e, subst (λ (u : Bytes). BookEnd u (Some e)) same b, (subst (λ (u : Bytes). TextBehind T t s (take e u) m r m' d) same w, refl))

    -- one that is all there is
    pub text_last : last ≡ true → BookEnd q None → TextLast T t q m r m' d → TextTurned T last t s text m r text m' d
    text_last e b w =
        (None, subst (λ (u : Bytes). BookEnd u None) same b, subst (λ (l : Bool). TextNotEnded T l t s text m r text m' d) (sym e) (subst (λ (u : Bytes). TextLast T t u m r m' d) same w, refl))

-- with so many bytes held
abbrev pub holding : Day → ℕ → Day
holding s n = record { stage = s.stage; place = record { line = s.place.line; at = s.place.at; held = n; number = s.place.number }; length = s.length; given = s.given }

module _ {M : Type 0} (T : Shown M) (room_for : ℕ) (s r : Day) (got n : ℕ) (is : n ≡ s.place.held + got) (last : Bool) (z : last ≡ (waits s.place.line && eqb got 0)) (text : Bytes) (m : M) (d₀ text' : Bytes) (m' : M) (d : Bytes) where
  pub line_turned : (s.stage ≡ stage.First) ⊎ (s.stage ≡ stage.Places) ⊎ (s.stage ≡ stage.Calls) → LinesTurned T last (holding s n) text m r text' m' d → Turned T room_for s got text m d₀ r text' m' d
  line_turned e w = by e (subst (λ (k : ℕ). LinesTurned T last (holding s k) text m r text' m' d) is w)
    where
      by : (s.stage ≡ stage.First) ⊎ (s.stage ≡ stage.Places) ⊎ (s.stage ≡ stage.Calls) → LinesTurned T last (holding s (s.place.held + got)) text m r text' m' d → Turned T room_for s got text m d₀ r text' m' d
      by (inl e) w = turned_first T room_for s r got text m d₀ text' m' d last z w e
      by (inr (inl e)) w = turned_places T room_for s r got text m d₀ text' m' d last z w e
      by (inr (inr e)) w = turned_calls T room_for s r got text m d₀ text' m' d last z w e

  pub held_turned : (t : PlaceLine) → s.stage ≡ stage.Text t → TextTurned T last t (holding s n) text m r text' m' d → Turned T room_for s got text m d₀ r text' m' d
  held_turned t e w = turned_text T room_for s r got text m d₀ text' m' d t e last z (subst (λ (k : ℕ). TextTurned T last t (holding s k) text m r text' m' d) is w)

  pub skip_turned : (k : Skipping) (q : Bytes) → q ≡ drop s.place.at (take n text) → s.stage ≡ stage.Skip k → text' ≡ text → SkipTurned T last k (holding s n) q m r m' d → Turned T room_for s got text m d₀ r text' m' d
  skip_turned k q e f same w =
      turned_skip T room_for s r got text m d₀ text' m' d k f last z same
      (subst (λ (j : ℕ). SkipTurned T last k (holding s j) (drop s.place.at (take j text)) m r m' d) is (subst (λ (u : Bytes). SkipTurned T last k (holding s n) u m r m' d) e w))
