-- A place line that is in its form has a place from 1 to 8.
use Prim.Native.Nat.{ℕ, ◌-◌}
use mathlib.Core.Path.{◌≡◌, refl}
use mathlib.Core.Bool.{Bool, true, false, cond}
use mathlib.Core.List.{List, [], ◌∷◌}
use mathlib.Core.Option.{Option, none, some}
use lib.ListN.{get_or}
use Rattle.qbf.specs.Formula.{Limits, paper, capped}
use Rattle.layout.specs.Words.{Bytes, space, split, same, number, inside}
use Rattle.layout.specs.Forms.{then}
use Rattle.days.specs.Day.{outside}
use Rattle.day_text.specs.Lines.{Place, placed, place_word, place_items, place_from, place_of}
use Rattle.day_turns.specs.Turns.{free}

abbrev pub Among : Option Place → Type 0
Among none = Unit {0}
Among (some q) = outside q.place ≡ false

among_then : {A : Type 0} (o : Option A) (f : A → Option Place) → ((x : A) → Among (f x)) → Among (then o f)
among_then none f h = tt
among_then (some x) f h = h x

among_placed : (L : Limits) (k : ℕ) → Among (placed L k)
among_placed L k = by (outside k) refl
  where
    by : (t : Bool) → outside k ≡ t → Among (cond t none (some (record { place = k; limits = L })))
    by true e = tt
    by false e = e

among_items : (ws : List Bytes) → Among (place_items ws)
among_items [] = tt
among_items (k ∷ []) = among_then (number k) (placed paper) (λ p. among_placed paper p)
among_items (k ∷ n ∷ []) = tt
among_items (k ∷ n ∷ m ∷ []) =
    among_then (number k) (λ p. then (number n) (λ a. then (number m) (λ b. placed (capped a b) p)))
    (λ p. among_then (number n) (λ a. then (number m) (λ b. placed (capped a b) p)) (λ a. among_then (number m) (λ b. placed (capped a b) p) (λ b. among_placed (capped a b) p)))
among_items (k ∷ n ∷ m ∷ w ∷ ws) = tt

among_from : (ws : List Bytes) → Among (place_from ws)
among_from [] = tt
among_from (w ∷ ws) = by (same w place_word)
  where
    by : (t : Bool) → Among (cond t (place_items ws) none)
    by true = among_items ws
    by false = tt

pub among_place : (l : Bytes) → Among (place_of l)
unfolding place_of
among_place l = among_then (inside l) (λ s. place_from (split space s)) (λ s. among_from (split space s))

pub among_free : (o : Option Place) (given : List Bool) → Among o → Among (then o (free given))
among_free none given h = tt
among_free (some q) given h = by (get_or given (q.place - 1) false)
  where
    by : (t : Bool) → Among (cond t none (some q))
    by true = tt
    by false = h
