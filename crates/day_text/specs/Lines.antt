-- The lines of a day, each without its byte 10: its total, a place, a call at a place, the shares. Paper 02, wish 12; the form of each stands above it.
use Rattle.std.specs.Prelude.{ℕ, Bool, true, false, cond, not, ◌&&◌, ◌||◌, List, [], ◌∷◌, leb, eqb}
use Rattle.std.proofs.Math.Option.{Option, none, some}
use Rattle.qbf.specs.Formula.{Limits, paper, capped}
use Rattle.qbf.specs.Ceiling.{highest_ceiling}
use Rattle.layout.specs.Words.{Bytes, ascii, space, split, same, number, inside}
use Rattle.layout.specs.Endings.{number_up_to}
use Rattle.layout.specs.Forms.{then}
use Rattle.sessions.specs.Session.{Request, request_of}
use Rattle.days.specs.Day.{outside}

-- ---- the total
-- "one daily total T of visits (32 bits, unsigned)": its digits are a ceiling's
abbrev pub day_word : Bytes
day_word = ascii "day"

abbrev pub total_number : Bytes → Option ℕ
total_number w = number_up_to 10 highest_ceiling w

abbrev pub total_item : List Bytes → Option ℕ
total_item [] = none
total_item (w ∷ []) = total_number w
total_item (w ∷ v ∷ ws) = none

abbrev pub total_from : List Bytes → Option ℕ
total_from [] = none
total_from (w ∷ ws) = cond (same w day_word) (total_item ws) none

-- `(day 1000000)`
unfoldable pub total_of : Bytes → Option ℕ
total_of l = then (inside l) (λ s. total_from (split space s))

-- ---- a place
-- what stands behind the bytes that a text begins with
unfoldable pub behind : Bytes → Bytes → Option Bytes
behind [] s = some s
behind (a ∷ w) [] = none
behind (a ∷ w) (b ∷ s) = cond (eqb b a) (behind w s) none

-- a keyword has small letters and hyphens
abbrev pub of_keyword : ℕ → Bool
of_keyword b = (leb 97 b && leb b 122) || eqb b 45

abbrev pub keyword_ends : Option Bytes → Bool
keyword_ends none = false
keyword_ends (some []) = true
keyword_ends (some (b ∷ s)) = not (of_keyword b)

abbrev pub place_start : Bytes
place_start = ascii "(place"

-- "the first line that is no (place ..) ends the loading": the keyword tells, whatever follows it
unfoldable pub is_place : Bytes → Bool
is_place l = keyword_ends (behind place_start l)

-- a place and the limits under which its book is opened
pub record Place : Type 0 where
  pub place : ℕ
  pub limits : Limits

-- "in places 1 to 8"
abbrev pub placed : Limits → ℕ → Option Place
placed L k = cond (outside k) none (some (record { place = k; limits = L }))

abbrev pub place_word : Bytes
place_word = ascii "place"

-- `1`, or `1 1000 4000`: "A book is opened with its own limits for numbers and rules, capped at these"
abbrev pub place_items : List Bytes → Option Place
place_items [] = none
place_items (k ∷ []) = then (number k) (placed paper)
place_items (k ∷ n ∷ []) = none
place_items (k ∷ n ∷ m ∷ []) = then (number k) (λ p. then (number n) (λ a. then (number m) (λ b. placed (capped a b) p)))
place_items (k ∷ n ∷ m ∷ w ∷ ws) = none

abbrev pub place_from : List Bytes → Option Place
place_from [] = none
place_from (w ∷ ws) = cond (same w place_word) (place_items ws) none

-- `(place 1)`, `(place 1 1000 4000)`
unfoldable pub place_of : Bytes → Option Place
place_of l = then (inside l) (λ s. place_from (split space s))

-- ---- a call at a place
-- what stands before the first space, and behind it
pub record Cut : Type 0 where
  pub word : Bytes
  pub left : Bytes

abbrev pub longer_word : ℕ → Option Cut → Option Cut
longer_word b none = none
longer_word b (some c) = some (record { word = b ∷ c.word; left = c.left })

unfoldable pub cut_of : Bytes → Option Cut
cut_of [] = none
cut_of (b ∷ s) = cond (eqb b space) (some (record { word = []; left = s })) (longer_word b (cut_of s))

-- a place, and the line of a call there
pub record At : Type 0 where
  pub place : ℕ
  pub call : Bytes

abbrev pub at_word : Bytes
at_word = ascii "at"

abbrev pub at_place : Cut → Option At
at_place c = then (number c.word) (λ k. some (record { place = k; call = c.left }))

abbrev pub at_from : Cut → Option At
at_from c = cond (same c.word at_word) (then (cut_of c.left) at_place) none

-- `(at 1 (card))`
unfoldable pub at_of : Bytes → Option At
at_of l = then (inside l) (λ s. then (cut_of s) at_from)

-- ---- what a line asks for
abbrev pub shares_line : Bytes
shares_line = ascii "(shares)"

pub data Asked : Type 0 where
  at : ℕ → Request → Asked
  shares : Asked

-- "with a call of `session`"
abbrev pub asked_at : At → Option Asked
asked_at a = then (request_of a.call) (λ q. some (at a.place q))

unfoldable pub asked_of : Bytes → Option Asked
asked_of l = cond (same l shares_line) (some shares) (then (at_of l) asked_at)
