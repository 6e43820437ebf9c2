-- What the parts of a day's turn owe.
use Rattle.std.specs.Prelude.{Option as Answer, Some, None, ℕ, ◌+◌, ◌-◌, ◌≤◌, ◌≡◌, Bool, true, false, cond, ◌||◌, List, [], ◌++◌, ltb, eqb, length, take, drop, min, set, get_or, replicate, Result, Ok, Err}
use Rattle.std.specs.Borrow.{Bor}
use Rattle.std.proofs.Math.Option.{Option, none, some}
use Rattle.qbf.specs.Formula.{Limits, Formula, capped}
use Rattle.refusal.specs.Refusal.{number_of}
use Rattle.layout.specs.Words.{Bytes}
use Rattle.layout.specs.Output.{refusal_text}
use Rattle.layout.specs.Opening.{Opened}
use Rattle.editions.specs.Opening.{both, open_editions}
use Rattle.opening.specs.declared.text.RefusedAt.{RefusedAt}
use Rattle.layout.specs.Forms.{then}
use Rattle.feeding.specs.Lines.{Answered}
use Rattle.days.specs.Accounts.{books}
use Rattle.days.specs.Day.{outside}
use Rattle.day_text.specs.Lines as lines
use Rattle.day_text.specs.Lines.{total_of, is_place, place_of}
use Rattle.day_text.specs.Output.{at_text, opened_text, opening_text}
use Rattle.day_text.specs.Program.{book_of, Served, serve_placed}
use Rattle.reader.specs.Books.{count_of_lines, BookEnd}
use Rattle.text_skip.specs.Skip.{skip_from}
use Rattle.text_skip.specs.declared.Skipped.{Skipped}
use Rattle.text_skip.specs.declared.Skipped.TheVariants as skipped
use Rattle.line_buffer.specs.Numbers.{last_number, next_number}
use Rattle.buffered_lines.specs.declared.Line.TheVariants.{Next, Begun}
use Rattle.buffered_lines.specs.declared.Place.{Place}
use Rattle.buffered_lines.specs.Places.{skips, served_as, LineIn, Refilled}
use Rattle.day_reader.specs.declared.place.PlaceLine.{PlaceLine}
use Rattle.day_reader.specs.Read.{place_is}
use Rattle.day_turns.specs.declared.Stage.{Stage}
use Rattle.day_turns.specs.declared.Stage.TheVariants as stage
use Rattle.day_turns.specs.declared.Skipping.{Skipping}
use Rattle.day_turns.specs.declared.Day.{Day}
use Rattle.day_turns.specs.Lent.{Shown, Loads}

-- ---- what is printed
-- it stands at the start of the table d
abbrev pub Printed : Bytes → ℕ → Bytes → Type 0
Printed t n d = (n ≤ length d) × (take n d ≡ t)

-- of a text that was opened or refused
abbrev pub text_told : Result (Unit {0}) RefusedAt → Bytes
text_told (Ok u) = opened_text
text_told (Err r) = refusal_text (number_of r.refusal) r.line

-- "where none stands within 65,536 bytes it is 9", told at the end of what is skipped; the text behind a refused place line is told of before
abbrev pub skipped_text : Answer PlaceLine → Bytes
skipped_text None = []
skipped_text (Some p) = at_text p.place ++ refusal_text 9 0

-- ---- the start and the end
-- before the first byte of the input
pub record Started (r : Day) : Type 0 where
  pub stage : r.stage ≡ stage.First
  pub place : r.place ≡ record { line = Begun; at = 0; held = 0; number = 1 }
  pub printed : r.length ≡ 0

abbrev pub no_place : Place
no_place = record { line = Next; at = 0; held = 0; number = 0 }

-- after the last answer
abbrev pub Over : ℕ → Day → Type 0
Over n r = (r.stage ≡ stage.Over) × (r.place ≡ no_place) × (r.length ≡ n)

-- the last answer
pub record Ends (t : Bytes) (r : Day) (d : Bytes) : Type 0 where
  pub over : r.stage ≡ stage.Over
  pub place : r.place ≡ no_place
  pub printed : Printed t r.length d

-- more is read behind what is held, where the buffer has room for it
abbrev pub ReadBehind : ℕ → ℕ → ℕ → Answer ℕ → Type 0
ReadBehind held got room None = held + got ≤ room → ⊥
ReadBehind held got room (Some k) = (k ≡ held + got) × (k ≤ room)

-- ---- a line that is not ended
abbrev pub last_text : Bool → Bytes → Bytes
last_text begun t = cond begun t []

pub record LineWaits (s : Day) (text : Bytes) (r : Day) (text' : Bytes) : Type 0 where
  pub refilled : Refilled s.place text r.place text'
  pub stage : r.stage ≡ s.stage
  pub given : r.given ≡ s.given
  pub printed : r.length ≡ 0

-- ---- a whole line
-- behind a line of so many bytes and its byte 10
abbrev pub behind_line : Place → ℕ → Place
behind_line p n = record { line = Next; at = p.at + n + 1; held = p.held; number = next_number p.number }

-- the first line, by the total that it names
pub record Begins {M : Type 0} (T : Shown M) (s : Day) (n total : ℕ) (m : M) (r : Day) (m' : M) : Type 0 where
  pub stage : r.stage ≡ stage.Places
  pub place : r.place ≡ behind_line s.place n
  pub given : r.given ≡ replicate books false
  pub printed : r.length ≡ 0
  pub loads : T.Lent m → Loads T m' total (replicate books none)

abbrev pub FirstAnswered : {M : Type 0} → Shown M → Option ℕ → Day → ℕ → M → Day → M → Bytes → Type 0
FirstAnswered T none s n m r m' d = Ends (refusal_text 1 1) r d
FirstAnswered T (some total) s n m r m' d = Begins T s n total m r m'

-- "a place given before"
abbrev pub free : List Bool → lines.Place → Option lines.Place
free given p = cond (get_or given (p.place - 1) false) none (some p)

-- a place line that is refused: the text behind it is skipped
pub record PlaceRefused (s : Day) (n : ℕ) (r : Day) (d : Bytes) : Type 0 where
  pub stage : r.stage ≡ stage.Skip (record { told = None; seen = 0 })
  pub place : r.place ≡ behind_line s.place n
  pub given : r.given ≡ s.given
  pub printed : Printed (refusal_text 1 s.place.number) r.length d

pub record PlaceGiven (q : lines.Place) (s : Day) (n : ℕ) (r : Day) : Type 0 where
  pub line : PlaceLine
  pub is : place_is (Some line) ≡ some q
  pub stage : r.stage ≡ stage.Text line
  pub place : r.place ≡ behind_line s.place n
  pub given : r.given ≡ set s.given (q.place - 1) true
  pub printed : r.length ≡ 0

abbrev pub PlaceAnswered : Option lines.Place → Day → ℕ → Day → Bytes → Type 0
PlaceAnswered none s n r d = PlaceRefused s n r d
PlaceAnswered (some q) s n r d = PlaceGiven q s n r

-- a line behind the loading
pub record CallServed {M : Type 0} (T : Shown M) (a : Answered Served) (r : Day) (m' : M) (d : Bytes) : Type 0 where
  pub printed : Printed a.text r.length d
  pub serves : T.Serves m' a.left

pub record CallAnswered {M : Type 0} (T : Shown M) (s : Day) (n : ℕ) (b : Bytes) (m : M) (r : Day) (m' : M) (d : Bytes) : Type 0 where
  pub stage : r.stage ≡ stage.Calls
  pub place : r.place ≡ behind_line s.place n
  pub served : (z : Served) → T.Serves m z → CallServed T (serve_placed s.place.number z (some b)) r m' d

abbrev pub LoadingAnswered : {M : Type 0} → Shown M → Bool → Day → ℕ → Bytes → M → Day → M → Bytes → Type 0
LoadingAnswered T true s n b m r m' d = PlaceAnswered (then (place_of b) (free s.given)) s n r d × (m' ≡ m)
LoadingAnswered T false s n b m r m' d = CallAnswered T s n b m r m' d

-- a line of n bytes, served as b
abbrev pub LineAnswered : {M : Type 0} → Shown M → Stage → Day → ℕ → Bytes → M → Day → M → Bytes → Type 0
LineAnswered T stage.First s n b m r m' d = FirstAnswered T (total_of b) s n m r m' d
LineAnswered T stage.Places s n b m r m' d = LoadingAnswered T (is_place b) s n b m r m' d
LineAnswered T (stage.Text t) s n b m r m' d = Unit {0}
LineAnswered T (stage.Skip k) s n b m r m' d = Unit {0}
LineAnswered T stage.Calls s n b m r m' d = CallAnswered T s n b m r m' d
LineAnswered T stage.Over s n b m r m' d = Unit {0}

abbrev pub LastAnswered : Stage → Day → Day → Bytes → Type 0
LastAnswered stage.First s r d = Ends (refusal_text 1 1) r d
LastAnswered stage.Places s r d = Ends (last_text (skips s.place.line || ltb s.place.at s.place.held) (refusal_text 1 s.place.number)) r d
LastAnswered (stage.Text t) s r d = Unit {0}
LastAnswered (stage.Skip k) s r d = Unit {0}
LastAnswered stage.Calls s r d = Ends (last_text (skips s.place.line || ltb s.place.at s.place.held) (refusal_text 1 s.place.number)) r d
LastAnswered stage.Over s r d = Unit {0}

abbrev pub LineNotEnded : {M : Type 0} → Shown M → Bool → Day → Bytes → M → Day → Bytes → M → Bytes → Type 0
LineNotEnded T true s text m r text' m' d = LastAnswered s.stage s r d × (text' ≡ text)
LineNotEnded T false s text m r text' m' d = LineWaits s text r text' × (m' ≡ m)

-- by the first line of what was read, if it is ended
abbrev pub LineAt : {M : Type 0} → Shown M → Answer (Bor Bytes) → Bool → Day → Bytes → M → Day → Bytes → M → Bytes → Type 0
LineAt T None last s text m r text' m' d = LineNotEnded T last s text m r text' m' d
LineAt T (Some l) last s text m r text' m' d = LineAnswered T s.stage s (length l.now) (served_as (skips s.place.line) l.now) m r m' d × (text' ≡ text)

abbrev pub LinesTurned : {M : Type 0} → Shown M → Bool → Day → Bytes → M → Day → Bytes → M → Bytes → Type 0
LinesTurned T last s text m r text' m' d = (l : Answer (Bor Bytes)) × LineIn (drop s.place.at (take s.place.held text)) l × LineAt T l last s text m r text' m' d

-- ---- a text
-- the number of the line behind these bytes, the first of which is of line n
abbrev pub counted : ℕ → Bytes → ℕ
counted n s = min (n + count_of_lines s) last_number

-- it begins behind so many bytes of what was read
abbrev pub behind : Place → ℕ → ℕ → Place
behind p n number = record { line = Next; at = p.at + n; held = p.held; number = number }

-- nothing of it is held: more of it is to be read
abbrev pub unheld : ℕ → Place
unheld number = record { line = Begun; at = 0; held = 0; number = number }

-- the limits under which the text of a place is opened
abbrev pub limits_of : PlaceLine → Limits
limits_of t = capped t.limits.numbers t.limits.clauses

-- what is told of a text, and the books behind it
abbrev pub opened_in : PlaceLine → Bytes → Opened
opened_in t b = open_editions both (limits_of t) b

abbrev pub text_answer : PlaceLine → Bytes → Bytes
text_answer t b = at_text t.place ++ opening_text (opened_in t b)

pub record Opens {M : Type 0} (T : Shown M) (t : PlaceLine) (b : Bytes) (total : ℕ) (bs : List (Option Formula)) (n : ℕ) (m : M) (d : Bytes) : Type 0 where
  pub printed : Printed (text_answer t b) n d
  pub loads : Loads T m total (set bs (t.place - 1) (book_of (opened_in t b)))

abbrev pub OpensFrom : {M : Type 0} → Shown M → PlaceLine → Bytes → M → ℕ → M → Bytes → Type 0
OpensFrom T t b m n m' d = outside t.place ≡ false → (total : ℕ) (bs : List (Option Formula)) → Loads T m total bs → Opens T t b total bs n m' d

-- how much of its last line are bytes of the line `(end)`
abbrev pub seen_in : Skipped → ℕ
seen_in (skipped.Ended m) = 0
seen_in (skipped.Inside k) = k

-- one that fills the buffer is too long
pub record TextLong (t : PlaceLine) (s : Day) (q : Bytes) (r : Day) : Type 0 where
  pub stage : r.stage ≡ stage.Skip (record { told = Some t; seen = seen_in (skip_from 0 0 q) })
  pub place : r.place ≡ unheld (counted s.place.number q)
  pub given : r.given ≡ s.given
  pub printed : r.length ≡ 0

abbrev pub TextWaits : Bool → PlaceLine → Day → Bytes → Day → Bytes → Type 0
TextWaits true t s text r text' = TextLong t s (drop s.place.at (take s.place.held text)) r × (text' ≡ text)
TextWaits false t s text r text' = LineWaits s text r text'

-- the place lines go on behind it
pub record TextBehind {M : Type 0} (T : Shown M) (t : PlaceLine) (s : Day) (b : Bytes) (m : M) (r : Day) (m' : M) (d : Bytes) : Type 0 where
  pub stage : r.stage ≡ stage.Places
  pub place : r.place ≡ behind s.place (length b) (counted s.place.number b)
  pub given : r.given ≡ s.given
  pub opens : OpensFrom T t b m r.length m' d

-- it is all there is
pub record TextLast {M : Type 0} (T : Shown M) (t : PlaceLine) (b : Bytes) (m : M) (r : Day) (m' : M) (d : Bytes) : Type 0 where
  pub over : r.stage ≡ stage.Over
  pub place : r.place ≡ no_place
  pub opens : OpensFrom T t b m r.length m' d

abbrev pub TextNotEnded : {M : Type 0} → Shown M → Bool → PlaceLine → Day → Bytes → M → Day → Bytes → M → Bytes → Type 0
TextNotEnded T true t s text m r text' m' d = TextLast T t (drop s.place.at (take s.place.held text)) m r m' d × (text' ≡ text)
TextNotEnded T false t s text m r text' m' d = TextWaits (eqb (s.place.held - s.place.at) (length text)) t s text r text' × (m' ≡ m)

-- by where it ends in what was read, if it does
abbrev pub TextAt : {M : Type 0} → Shown M → Answer ℕ → Bool → PlaceLine → Day → Bytes → M → Day → Bytes → M → Bytes → Type 0
TextAt T None last t s text m r text' m' d = TextNotEnded T last t s text m r text' m' d
TextAt T (Some e) last t s text m r text' m' d = TextBehind T t s (take e (drop s.place.at (take s.place.held text))) m r m' d × (text' ≡ text)

abbrev pub TextTurned : {M : Type 0} → Shown M → Bool → PlaceLine → Day → Bytes → M → Day → Bytes → M → Bytes → Type 0
TextTurned T last t s text m r text' m' d = (e : Answer ℕ) × BookEnd (drop s.place.at (take s.place.held text)) e × TextAt T e last t s text m r text' m' d

-- ---- a text that is skipped
-- one that is told as 9 leaves its place without a book
abbrev pub books_left : Answer PlaceLine → List (Option Formula) → List (Option Formula)
books_left None bs = bs
books_left (Some t) bs = set bs (t.place - 1) none

-- it is one of the eight
abbrev pub Within : Answer PlaceLine → Type 0
Within None = Unit {0}
Within (Some t) = outside t.place ≡ false

abbrev pub SkipsFrom : {M : Type 0} → Shown M → Answer PlaceLine → M → M → Type 0
SkipsFrom T o m m' = Within o → (total : ℕ) (bs : List (Option Formula)) → Loads T m total bs → Loads T m' total (books_left o bs)

pub record SkipBehind {M : Type 0} (T : Shown M) (k : Skipping) (s : Day) (b : Bytes) (m : M) (r : Day) (m' : M) (d : Bytes) : Type 0 where
  pub stage : r.stage ≡ stage.Places
  pub place : r.place ≡ behind s.place (length b) (counted s.place.number b)
  pub given : r.given ≡ s.given
  pub printed : Printed (skipped_text k.told) r.length d
  pub skips : SkipsFrom T k.told m m'

pub record SkipWaits (k : Skipping) (s : Day) (seen : ℕ) (q : Bytes) (r : Day) : Type 0 where
  pub stage : r.stage ≡ stage.Skip (record { told = k.told; seen = seen })
  pub place : r.place ≡ unheld (counted s.place.number q)
  pub given : r.given ≡ s.given
  pub printed : r.length ≡ 0

abbrev pub SkipNotEnded : {M : Type 0} → Shown M → Bool → Skipping → Day → ℕ → Bytes → M → Day → M → Bytes → Type 0
SkipNotEnded T true k s seen q m r m' d = Ends (skipped_text k.told) r d
SkipNotEnded T false k s seen q m r m' d = SkipWaits k s seen q r × (m' ≡ m)

abbrev pub SkipAt : {M : Type 0} → Shown M → Skipped → Bool → Skipping → Day → Bytes → M → Day → M → Bytes → Type 0
SkipAt T (skipped.Ended e) last k s q m r m' d = SkipBehind T k s (take e q) m r m' d
SkipAt T (skipped.Inside seen) last k s q m r m' d = SkipNotEnded T last k s seen q m r m' d

abbrev pub SkipTurned : {M : Type 0} → Shown M → Bool → Skipping → Day → Bytes → M → Day → M → Bytes → Type 0
SkipTurned T last k s q m r m' d = SkipAt T (skip_from 0 k.seen q) last k s q m r m' d
