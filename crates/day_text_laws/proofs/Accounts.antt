-- Whatever the input is, at every byte of it: the total is the first line's, the accounts stand, and the sum used never exceeds the total.
use Prim.Native.Nat.{ℕ, suc, ◌≤◌}
use mathlib.Core.Path.{◌≡◌, refl, ◌∙◌}
use mathlib.Core.Bool.{Bool, true, false, cond}
use mathlib.Core.List.{[], ◌∷◌}
use mathlib.Core.Option.{Option, none, some}
use native.Mathlib.Omega.{arith}
use lib.Dec.{eqb}
use Rattle.qbf.specs.Calls.{State}
use Rattle.layout.specs.Words.{Bytes, newline}
use Rattle.layout.specs.Forms.{then}
use Rattle.sessions.specs.Session.{Request, call, write, page}
use Rattle.feeding.specs.Lines.{Step, fed, begun, line_of, longer}
use Rattle.days.specs.Accounts.{used}
use Rattle.days.specs.Day.{Day, book_at}
use Rattle.days.specs.Promises.{Sound}
use Rattle.days_laws.proofs.Days.{step_sound, same_total}
use Rattle.days_laws.proofs.Loading.{loaded_sound}
use Rattle.day_text.specs.Lines.{total_of, is_place, Place, place_of, Asked, at, shares, asked_of}
use Rattle.day_text.specs.Program.{Served, answer_placed, answer_asked, Loading, not_given, started, with_line, ends_text, Phase, first, places, text, calls, over, on_place, on_text_line, serve_day}
use Rattle.day_feeding.specs.Steps.{Held, on_byte}

-- a day of the total T whose accounts stand
pub record Stands (T : ℕ) (d : Day) : Type 0 where
  pub total : d.total ≡ T
  pub sound : Sound d

-- "The sum used never exceeds T; refused calls' visits count."
pub sum_within : (T : ℕ) (d : Day) → Stands T d → used d.used ≤ T
sum_within T d s = omega (arith, s.sound.stands, s.total)

-- ---- a line behind the loading
module _ (T : ℕ) (n : ℕ) (z : Served) (s : Stands T z.day) where
  placed_stands : (o : Option State) (k : ℕ) (q : Request) → Stands T (answer_placed o z n k q).left.day
  placed_stands none k q = s
  placed_stands (some x) k (call c) = record { total = same_total z.day s.sound (record { place = k; call = c }) ∙ s.total; sound = step_sound z.day s.sound (record { place = k; call = c }) }
  placed_stands (some x) k (write size) = s
  placed_stands (some x) k (page p) = s

  pub asked_stands : (o : Option Asked) → Stands T (answer_asked n z o).left.day
  asked_stands none = s
  asked_stands (some shares) = s
  asked_stands (some (at k q)) = placed_stands (book_at z.day k) k q

-- ---- a phase
-- while the day is loaded its total is kept; then its accounts stand
abbrev pub Kept : ℕ → Phase → Type 0
Kept T first = ⊥
Kept T (places z) = z.total ≡ T
Kept T (text z p t) = z.total ≡ T
Kept T (calls z) = Stands T z.day
Kept T over = ⊥

started_stands : (T : ℕ) (z : Loading) → z.total ≡ T → Stands T (started z).day
started_stands T z e = record { total = e; sound = loaded_sound z.total z.books }

line_kept : (T n : ℕ) (x : Phase) (l : Option Bytes) → Kept T x → Kept T (serve_day n x l).left
line_kept T n first l h = absurd h
line_kept T n (places z) none h = asked_stands T n (started z) (started_stands T z h) none
line_kept T n (places z) (some l) h = by (is_place l) (then (place_of l) (not_given z))
  where
    by : (t : Bool) (p : Option Place) → Kept T (cond t (on_place n z p) (record { text = (answer_asked n (started z) (asked_of l)).text; left = calls (answer_asked n (started z) (asked_of l)).left })).left
    by true none = h
    by true (some p) = h
    by false p = asked_stands T n (started z) (started_stands T z h) (asked_of l)
line_kept T n (text z p t) l h = by p (ends_text l)
  where
    by : (o : Option Place) (e : Bool) → Kept T (on_text_line z o (with_line t l) e).left
    by none true = h
    by (some q) true = h
    by o false = h
line_kept T n (calls z) l h = asked_stands T n z h (then l asked_of)
line_kept T n over l h = absurd h

-- From where the total was read on, at every byte.
pub bytes_kept : (T : ℕ) (s : Bytes) (h : Held) → Kept T h.left → Kept T (fed on_byte h s).held.left
unfolding fed
bytes_kept T [] h k = k
bytes_kept T (b ∷ s) h k = bytes_kept T s (on_byte h b).held (by (eqb b newline))
  where
    step : Bool → Held
    step t = (cond {A = Step Held} t (record { text = (serve_day h.number h.left (line_of h.part)).text; held = record { number = suc h.number; part = begun []; left = (serve_day h.number h.left (line_of h.part)).left } }) (record { text = []; held = longer h b })).held

    by : (t : Bool) → Kept T (step t).left
    by true = line_kept T h.number h.left (line_of h.part) k
    by false = k

-- The first line gives the total, or nothing more is read.
pub first_kept : (T n : ℕ) (l : Bytes) → total_of l ≡ some T → Kept T (serve_day n first (some l)).left
first_kept T n l e = rw e refl
