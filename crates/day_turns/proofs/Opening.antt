-- The tables of a day while it is loaded: before the first text, and with a text opened or refused at a place.
use Prim.Native.Nat.{ℕ, zero, suc, ◌+◌, ◌-◌, ◌≤◌, ◌<◌}
use native.Mathlib.Omega.{arith}
use native.Mathlib.Nat.{le_of_suc-le-suc, not-suc-le-zero}
use mathlib.Core.Path.{◌≡◌, refl, sym, ap, subst, ◌∙◌}
use mathlib.Core.Bool.{Bool, true, false, cond, not}
use mathlib.Core.List.{List, [], ◌∷◌, map}
use mathlib.Core.Option.{Option, none, some}
use lib.Dec.{eqb}
use lib.IntN.{ℤ}
use lib.ListN.{length, get_or, set, take, drop, replicate, length-set, length-take, length-drop}
use lib.Seq.{get_or-set_same, get_or-set_other}
use borrow.Rule.Slice.PartMut.{put_mid}
use Rattle.std.specs.Result.{is_ok}
use Rattle.std.specs.Prelude.{Option as Answer, Some, Result, Ok, Err}
use Rattle.refusal.specs.Refusal.{number_of}
use Rattle.qbf.specs.Formula.{Formula, Limits, highest, capped}
use Rattle.qbf.specs.Calls.{State as Read}
use Rattle.qbf.specs.Runs.{fresh}
use Rattle.layout.specs.Words.{Bytes}
use Rattle.layout.specs.Output.{refusal_text}
use Rattle.layout.specs.Opening.{Opened, refused, opened}
use Rattle.sessions.specs.Session.{Card}
use Rattle.days.specs.Accounts.{books}
use Rattle.days.specs.Accounts as accounts
use Rattle.days.specs.Day.{Day, outside, fresh_in, filled, loaded}
use Rattle.days_laws.proofs.Days.{from_one, to_eight}
use Rattle.day_text.specs.Output.{opened_text, opening_text}
use Rattle.day_text.specs.Program.{Served, book_of}
use Rattle.state_parts.specs.Parts.{read_at, Whole, cell_count, literal_count, part}
use Rattle.opening.specs.declared.text.RefusedAt.{RefusedAt}
use Rattle.opening.specs.Opened.{AnsweredAt, OpenedAt}
use Rattle.answer_text.specs.declared.shown.Shown.{Shown as CardShown}
use Rattle.answer_text.specs.Shown.{card_in, no_card}
use Rattle.rule_calls.specs.Served.{Lists, lists, read_lists}
use Rattle.serving_days.specs.Serves.{book_in, state_in}
use Rattle.serving_days.proofs.Places.{map_set}
use Rattle.places.specs.declared.rooms.Bounds.{Bounds}
use Rattle.places.specs.Rooms.{start, room, part_at, BoundsOf, Beside}
use Rattle.places.specs.Day.{booked, from_on, tables_at, held_in}
use Rattle.places.proofs.Parts.{lent_at, put_beside, put_at, beside_other}
use Rattle.places.proofs.Places.{set_from}
use Rattle.day_lines.specs.declared.Kept.{Kept}
use Rattle.day_lines.specs.Served.{shown_in, served_in}
use Rattle.day_reader.specs.declared.place.PlaceLine.{PlaceLine}
use Rattle.day_turns.specs.Lent.{Loads}
use Rattle.day_turns.specs.Turns.{text_told, limits_of, opened_in, SkipsFrom}
use Rattle.day_turns.specs.Tables.{Tables, tables, LentFor, in_tables, byte_of, marked, PlaceOpened}

-- ---- lists
filled_set : (n : ℕ) (bs : List (Option Formula)) (i : ℕ) (o : Option Formula) → length bs ≡ n → filled n (set bs i o) ≡ set (filled n bs) i (fresh_in o)
filled_set zero [] i o e = refl
filled_set zero (b ∷ bs) i o e = absurd (omega (arith, e))
filled_set (suc n) [] i o e = absurd (omega (arith, e))
filled_set (suc n) (b ∷ bs) zero o e = refl
filled_set (suc n) (b ∷ bs) (suc i) o e = ap (λ (l : List (Option Read)). fresh_in b ∷ l) (filled_set n bs i o (omega (arith, e)))

no_cards : (n : ℕ) (ts : List Bytes) → length ts ≡ n → shown_in (replicate n no_card) ts ≡ replicate n none
no_cards zero [] e = refl
no_cards zero (t ∷ ts) e = refl
no_cards (suc n) [] e = absurd (omega (arith, e))
no_cards (suc n) (t ∷ ts) e = ap (λ (l : List (Option Card)). none ∷ l) (no_cards n ts (omega (arith, e)))

-- ---- before the first text
pub begun_loads : (s : Kept) (cells : List ℕ) (literals : List ℤ) (cards : List Bytes) (total : ℕ) → LentFor (tables s cells literals cards)
    → Loads in_tables (tables (record { rooms = s.rooms; accounts = record { total = total; used = replicate books 0; books = replicate books 0 }; shown = replicate books no_card }) cells literals cards) total (replicate books none)
begun_loads s cells literals cards total w =
    record {
      lent = record { cards = w.cards; accounts = refl; rooms = w.rooms };
      all = refl;
      serves = ap (λ (l : List (Option Card)). record { day = loaded total (replicate books none); shown = l }) (no_cards books cards w.cards);
    }

-- ---- with a text opened or refused at place k
module _ (s : Kept) (cells : List ℕ) (literals : List ℤ) (cards : List Bytes) (k : ℕ) (among : outside k ≡ false) (total : ℕ) (bs : List (Option Formula)) (w : Loads in_tables (tables s cells literals cards) total bs)
    (cells' : List ℕ) (literals' : List ℤ) (c : Beside s.rooms.cells k cells cells') (l : Beside s.rooms.literals k literals literals') (book : Bool) (o : Option Formula) where
  abbrev s' : Kept
  s' = marked s k book

  low : 1 ≤ k
  low = from_one k among

  below : k - 1 < books
  below = omega (arith, to_eight k among, from_one k among)

  first : 1 + (k - 1) ≡ k
  first = omega (arith, from_one k among)

  abbrev at : ℕ → Option Lists
  at j = tables_at s.rooms s.accounts.books cells literals j

  abbrev at' : ℕ → Option Lists
  at' j = tables_at s.rooms (set s.accounts.books (k - 1) (byte_of book)) cells' literals' j

  other : (j : ℕ) → 1 ≤ j → (j ≡ k → ⊥) → at' j ≡ at j
  other j h ne =
      (λ i. cond (not (eqb (same_byte i) 0)) (some (lists (beside_other s.rooms.cells k cells cells' c j h low ne i) (beside_other s.rooms.literals k literals literals' l j h low ne i))) none)
    where
      same_byte : get_or (set s.accounts.books (k - 1) (byte_of book)) (j - 1) 0 ≡ get_or s.accounts.books (j - 1) 0
      same_byte = get_or-set_other s.accounts.books (k - 1) (j - 1) (byte_of book) 0 (λ e. ne (omega (arith, e, h, low)))

  part_cells : (j : ℕ) → length (part_at s.rooms.cells j cells') ≡ length (part_at s.rooms.cells j cells)
  part_cells j =
      omega (arith, c.long, length-take (room s.rooms.cells j) (drop (start s.rooms.cells j) cells'), length-take (room s.rooms.cells j) (drop (start s.rooms.cells j) cells), length-drop (start s.rooms.cells j) cells', length-drop (start s.rooms.cells j) cells)

  part_literals : (j : ℕ) → length (part_at s.rooms.literals j literals') ≡ length (part_at s.rooms.literals j literals)
  part_literals j =
      omega
      (arith, l.long, length-take (room s.rooms.literals j) (drop (start s.rooms.literals j) literals'), length-take (room s.rooms.literals j) (drop (start s.rooms.literals j) literals), length-drop (start s.rooms.literals j) literals', length-drop (start s.rooms.literals j) literals)

  lent_after : LentFor (tables s' cells' literals' cards)
  lent_after =
      record {
        cards = w.lent.cards;
        accounts = length-set s.accounts.books (k - 1) (byte_of book) ∙ w.lent.accounts;
        rooms = λ j e.
            let r = w.lent.rooms j e in
            record { cells_room = omega (arith, r.cells_room, part_cells j); literals_room = omega (arith, r.literals_room, part_literals j) };
      }

  -- where the place has the book o from then on
  pub loads_after : book_in read_lists (at' k) ≡ fresh_in o → Loads in_tables (tables s' cells' literals' cards) total (set bs (k - 1) o)
  loads_after now =
      record {
        lent = lent_after;
        all = length-set bs (k - 1) o ∙ w.all;
        serves = (λ i. record { day = record { total = (w.serves i).day.total; used = (w.serves i).day.used; places = placed i }; shown = (w.serves i).shown });
      }
    where
      placed : map (book_in read_lists) (from_on 1 books at') ≡ filled books (set bs (k - 1) o)
      placed =
          ap (map (book_in read_lists)) (set_from books 1 (k - 1) k at at' (sym first) below other)
          ∙ map_set (book_in read_lists) (from_on 1 books at) (k - 1) (at' k)
          ∙ (λ i. set (w.serves i).day.places (k - 1) (now i))
          ∙ sym (filled_set books bs (k - 1) o w.all)

  byte_here : get_or (set s.accounts.books (k - 1) (byte_of book)) (k - 1) 0 ≡ byte_of book
  byte_here = get_or-set_same s.accounts.books (k - 1) (byte_of book) 0 (omega (arith, below, w.lent.accounts))

  -- no book
  pub none_after : book ≡ false → o ≡ none → Loads in_tables (tables s' cells' literals' cards) total (set bs (k - 1) o)
  none_after e n = loads_after (ap (λ (b : ℕ). book_in read_lists (cond (not (eqb b 0)) (some (lists (part_at s.rooms.cells k cells') (part_at s.rooms.literals k literals'))) none)) (byte_here ∙ ap byte_of e) ∙ sym (ap fresh_in n))

  -- the book that its tables read as
  pub book_after : (f : Formula) → book ≡ true → o ≡ some f → read_at (part_at s.rooms.cells k cells') (part_at s.rooms.literals k literals') ≡ some (fresh f)
      → Loads in_tables (tables s' cells' literals' cards) total (set bs (k - 1) o)
  book_after f e n read =
      loads_after
      (ap (λ (b : ℕ). book_in read_lists (cond (not (eqb b 0)) (some (lists (part_at s.rooms.cells k cells') (part_at s.rooms.literals k literals'))) none)) (byte_here ∙ ap byte_of e)
      ∙ ap (λ (x : Option Read). some (state_in x)) read
      ∙ sym (ap fresh_in n))

-- a text that is too long leaves its place without a book
beside_same : {A : Type 0} (rooms : List ℕ) (k : ℕ) (t : List A) → Beside rooms k t t
beside_same rooms k t = record { long = refl; before = refl; behind = refl }

pub left_loads : (told : Answer PlaceLine) (t : PlaceLine) (s s' : Kept) (cells : List ℕ) (literals : List ℤ) (cards : List Bytes) → told ≡ Some t → s' ≡ marked s t.place false
    → SkipsFrom in_tables told (tables s cells literals cards) (tables s' cells literals cards)
left_loads told t s s' cells literals cards e f =
    subst (λ (o : Answer PlaceLine). SkipsFrom in_tables o (tables s cells literals cards) (tables s' cells literals cards)) (sym e)
    (λ among total bs w.
    subst (λ (k : Kept). Loads in_tables (tables k cells literals cards) total (set bs (t.place - 1) none)) (sym f)
    (none_after s cells literals cards t.place among total bs w cells literals (beside_same s.rooms.cells t.place cells) (beside_same s.rooms.literals t.place literals) false none refl refl))

-- ---- the text that is opened onto the parts of its place
module _ (t : PlaceLine) (b : Bytes) (s : Kept) (cells : List ℕ) (literals : List ℤ) (r : Result (Unit {0}) RefusedAt) (cb lb : Bounds)
    (cells_at : BoundsOf (start s.rooms.cells t.place) (room s.rooms.cells t.place) (length cells) cb) (literals_at : BoundsOf (start s.rooms.literals t.place) (room s.rooms.literals t.place) (length literals) lb)
    (ys : List ℕ) (zs : List ℤ) (ys_long : length ys ≡ length (take (cb.to - cb.from) (drop cb.from cells))) (zs_long : length zs ≡ length (take (lb.to - lb.from) (drop lb.from literals)))
    (v : OpenedAt (limits_of t) (opened_in t b) (take (cb.to - cb.from) (drop cb.from cells)) (take (lb.to - lb.from) (drop lb.from literals)) r ys zs) (book : Bool) where
  abbrev cells' : List ℕ
  cells' = put_mid cb.from (cb.to - cb.from) cells ys

  abbrev literals' : List ℤ
  literals' = put_mid lb.from (lb.to - lb.from) literals zs

  abbrev IsOk : Result (Unit {0}) RefusedAt → Bool → Type 0
  IsOk (Ok u) y = y ≡ true
  IsOk (Err e) y = y ≡ false

  module _ (cards : List Bytes) (total : ℕ) (bs : List (Option Formula)) (among : outside t.place ≡ false) (w : Loads in_tables (tables s cells literals cards) total bs) where
    enough : Whole (limits_of t) (take (cb.to - cb.from) (drop cb.from cells)) (take (lb.to - lb.from) (drop lb.from literals))
    enough =
        let x = w.lent.rooms t.place among in
        record {
          cells_room = omega (arith, x.cells_room, ap length (lent_at s.rooms.cells t.place cells cb cells_at));
          literals_room = omega (arith, x.literals_room, ap length (lent_at s.rooms.literals t.place literals lb literals_at));
        }

    told_by : (o : Opened) (r : Result (Unit {0}) RefusedAt) → AnsweredAt o r ys zs → opening_text o ≡ text_told r
    told_by (refused n line) (Ok u) a = absurd a
    told_by (refused n line) (Err e) a = λ i. refusal_text (sym a.0 i) (sym a.1 i)
    told_by (opened f) (Ok u) a = refl
    told_by (opened f) (Err e) a = absurd a

    pub told_opened : opening_text (opened_in t b) ≡ text_told r
    told_opened = told_by (opened_in t b) r (v.whole enough)

    loads_by : (o : Opened) (r : Result (Unit {0}) RefusedAt) → AnsweredAt o r ys zs → IsOk r book → Loads in_tables (tables (marked s t.place book) cells' literals' cards) total (set bs (t.place - 1) (book_of o))
    loads_by (refused n line) (Ok u) a k = absurd a
    loads_by (refused n line) (Err e) a k =
        none_after s cells literals cards t.place among total bs w cells' literals' (put_beside s.rooms.cells t.place cells cb cells_at ys ys_long) (put_beside s.rooms.literals t.place literals lb literals_at zs zs_long) book none k refl
    loads_by (opened f) (Ok u) a k =
        book_after s cells literals cards t.place among total bs w cells' literals' (put_beside s.rooms.cells t.place cells cb cells_at ys ys_long) (put_beside s.rooms.literals t.place literals lb literals_at zs zs_long) book (some f) f k refl
        ((λ i. read_at (put_at s.rooms.cells t.place cells cb cells_at ys ys_long i) (put_at s.rooms.literals t.place literals lb literals_at zs zs_long i)) ∙ a)
    loads_by (opened f) (Err e) a k = absurd a

    pub loads_opened : IsOk r book → Loads in_tables (tables (marked s t.place book) cells' literals' cards) total (set bs (t.place - 1) (book_of (opened_in t b)))
    loads_opened k = loads_by (opened_in t b) r (v.whole enough) k

  is_ok_told : (r : Result (Unit {0}) RefusedAt) → book ≡ is_ok r → IsOk r book
  is_ok_told (Ok u) e = e
  is_ok_told (Err x) e = e

  pub place_opened : (s' : Kept) → s' ≡ marked s t.place book → book ≡ is_ok r → PlaceOpened t b s cells literals r s' cells' literals'
  place_opened next e f =
      record {
        told = λ cards total bs among w. told_opened cards total bs among w;
        loads = λ cards total bs among w.
            subst (λ (k : Kept). Loads in_tables (tables k cells' literals' cards) total (set bs (t.place - 1) (book_of (opened_in t b)))) (sym e) (loads_opened cards total bs among w (is_ok_told r f));
      }
