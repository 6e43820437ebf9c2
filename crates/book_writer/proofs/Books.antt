-- What follows from the contract of writing, for whatever meets it, whichever way the state is read. Paper 02, wish 2. "Not refused" is the answer 0.
use Prim.Native.Nat.{ℕ, zero, suc, ◌-◌, ◌≤◌}
use mathlib.Core.Path.{◌≡◌, refl, sym, ap, subst, ◌∙◌}
use mathlib.Core.Logic.{◌↔◌}
use mathlib.Core.Bool.{Bool, true, false, cond}
use mathlib.Core.List.{List, ◌++◌}
use mathlib.Core.Option.{Option, none, some}
use native.Mathlib.Omega.{arith}
use lib.IntN.{ℤ}
use lib.ListN.{length, take, replicate, length-append, length-take}
use lib.Seq.{take_at}
use lib.Dec.{leb}
use Rattle.qbf.specs.Formula.{Limits, paper, Formula}
use Rattle.qbf.specs.Card.{zero_table}
use Rattle.qbf.specs.Calls.{formula_is_ok, State as Read, well_formed}
use Rattle.theory.proofs.Basics.{and_left}
use Rattle.theory.proofs.AcceptedRule.{some_none}
use Rattle.theory.proofs.WellFormed.{formula_facts, numbers_capped}
use Rattle.state.specs.Reading.{formula_under, state_under, well_formed_read}
use Rattle.state_parts.specs.Parts.{limits_of, state_at, read_at, valid_at}
use Rattle.state_parts.proofs.Accepted.{valid_read}
use Rattle.layout.specs.Words.{Bytes}
use Rattle.layout.specs.Opening.{text_bytes, opened, open_text}
use Rattle.booktext.specs.Texts.{read_text}
use Rattle.booktext.specs.Books.{written, write_refused, written_to, book_text, text_room}
use Rattle.booktext_laws.proofs.Books.{ShortNumbers, read_back, open_back, equal_texts, SameBook}
use Rattle.booktext_laws.proofs.Room.{text_room_lem, paper_room}
use Rattle.book_writer.specs.Writes.{Answer, answered, told, WritesRead, WritesAt}
use Rattle.book_writer.proofs.Answers.{fits, malformed_is, formed_is}

-- ---- what is not refused
-- what was read is the well-formed state y, and the table begins with its book's text
pub record Text (o : Option Read) (count : ℕ) (table : Bytes) : Type 0 where
  pub y : Read
  pub read : o ≡ some y
  pub formed : well_formed y ≡ true
  pub is : take count table ≡ book_text y.formula

abbrev refused : {A : Type 0} {n count : ℕ} {table zeros : Bytes} → answered 0 count table ≡ told (write_refused n zeros) → A
refused e = absurd (some_none (sym (ap (λ (a : Answer). a.refusal) e)))

in_table : (size : ℕ) (t : Bytes) {count : ℕ} {table : Bytes} → answered 0 count table ≡ told (written_to size t) → take count table ≡ t
in_table size t {count} {table} e = by (leb (length t) size) e
  where
    by : (q : Bool) → answered 0 count table ≡ told (cond q (written (length t) (t ++ replicate (size - length t) 0)) (write_refused 31 (zero_table size))) → take count table ≡ t
    by true e =
        ap (λ (a : Answer). take a.length a.table) e ∙ take_at t (replicate (size - length t) 0) (length t) refl
    by false e = refused e

text_read : (o : Option Read) {size count : ℕ} {table : Bytes} → WritesRead o size 0 count table → Text o count table
text_read none {size} w = refused (w.said ∙ ap told (malformed_is none size refl))
text_read (some y) {size} {count} {table} w = by (well_formed y) refl
  where
    by : (q : Bool) → well_formed y ≡ q → Text (some y) count table
    by true v = record { y = y; read = refl; formed = v; is = in_table size (book_text y.formula) (w.said ∙ ap told (formed_is (some y) size y refl v)) }
    by false v = refused (w.said ∙ ap told (malformed_is (some y) size v))

pub text_written : {o : Option Read} {size count : ℕ} {table : Bytes} → WritesRead o size 0 count table → Text o count table
text_written {o} w = text_read o w

pub formula_ok : (y : Read) → well_formed y ≡ true → formula_is_ok y.formula ≡ true
formula_ok y v = and_left (formula_is_ok y.formula) _ v

-- the text lies within its table
pub count_within : {o : Option Read} {size count : ℕ} {table : Bytes} → WritesRead o size 0 count table → count ≤ length table
count_within {o} {size} {count} {table} w = by (text_written w)
  where
    held : (t : Bytes) (q : Bool) → answered 0 count table ≡ told (cond q (written (length t) (t ++ replicate (size - length t) 0)) (write_refused 31 (zero_table size))) → count ≤ length table
    held t true e =
        omega (arith, ap (λ (a : Answer). a.length) e, ap (λ (a : Answer). length a.table) e, length-append t (replicate (size - length t) 0))
    held t false e = refused e

    by : Text o count table → count ≤ length table
    by t = held (book_text t.y.formula) (leb (length (book_text t.y.formula)) size) (w.said ∙ ap told (formed_is o size t.y t.read t.formed))

-- ---- a table that holds every text under the limits: never 31
module _ (o : Option Read) (y : Read) (read : o ≡ some y) (formed : well_formed y ≡ true) where
  pub room_written : {size refusal count : ℕ} {table : Bytes} → WritesRead o size refusal count table → text_room y.formula.limits ≤ size
      → (count ≤ length table) × (take count table ≡ book_text y.formula)
  room_written {size} {refusal} {count} {table} w room = by refusal w
    where
      t : Bytes
      t = book_text y.formula

      room_for : length t ≤ size
      room_for = omega (arith, room, text_room_lem y.formula (formula_ok y formed))

      same_read : (z : Read) → o ≡ some z → z ≡ y
      same_read z e = let f : some z ≡ some y = sym e ∙ read in cc

      by : (k : ℕ) → WritesRead o size k count table → (count ≤ length table) × (take count table ≡ book_text y.formula)
      by zero v = let q = text_written v in (count_within v, q.is ∙ ap (λ (z : Read). book_text z.formula) (same_read q.y q.read))
      by (suc n) v = absurd (some_none (ap (λ (a : Answer). a.refusal) (v.said ∙ ap told (formed_is o size y read formed ∙ fits size t room_for))))

-- ---- the theorems
-- "Reading the text gives the same variables, places, kinds and rules, with an empty store": a text opens a formula, and the state of an opened
-- formula is `fresh`. Over a reader without 9, for a state's own limits; a text of 65,536 bytes is the longest that is opened.
module _ {o : Option Read} {size count : ℕ} {table : Bytes} (w : WritesRead o size 0 count table) where
  abbrev pub shown : Text o count table
  shown = text_written w

  abbrev pub book : Formula
  book = shown.y.formula

  short : ShortNumbers book.limits
  short = omega (arith, numbers_capped book (formula_facts book (formula_ok shown.y shown.formed)))

  pub reads_back : read_text book.limits (take count table) ≡ opened book
  reads_back = ap (read_text book.limits) shown.is ∙ read_back book (formula_ok shown.y shown.formed) short

  pub opens_back : count ≤ text_bytes → open_text book.limits (take count table) ≡ opened book
  opens_back h =
      ap (open_text book.limits) shown.is
      ∙ open_back book (formula_ok shown.y shown.formed) short (omega (arith, h, ap length shown.is, length-take count table))

  -- Under limits whose books all fit a text every book that is written opens again,
  pub opens_back_within : text_room book.limits ≤ text_bytes → open_text book.limits (take count table) ≡ opened book
  opens_back_within room =
      ap (open_text book.limits) shown.is
      ∙ open_back book (formula_ok shown.y shown.formed) short (omega (arith, room, text_room_lem book (formula_ok shown.y shown.formed)))

  -- and so it does under those of paper 01.
  pub opens_back_paper : book.limits ≡ paper → open_text paper (take count table) ≡ opened book
  opens_back_paper e =
      subst (λ (L : Limits). open_text L (take count table) ≡ opened book) e
      (opens_back_within (subst (λ (L : Limits). text_room L ≤ text_bytes) (sym e) paper_room))

-- "Two books that are not refused give equal texts exactly when they have the same flags in order, the same kinds and places, and the same rules in
-- order." Each may have its own limits.
pub equal_written : {o p : Option Read} {size size' count count' : ℕ} {table table' : Bytes} (w : WritesRead o size 0 count table) (v : WritesRead p size' 0 count' table')
    → (take count table ≡ take count' table') ↔ SameBook (book w) (book v)
equal_written w v = (λ e. same.0 (sym (text_written w).is ∙ e ∙ (text_written v).is), λ s. (text_written w).is ∙ same.1 s ∙ sym (text_written v).is)
  where
    same : (book_text (book w) ≡ book_text (book v)) ↔ SameBook (book w) (book v)
    same = equal_texts (book w) (book v) (formula_ok (shown w).y (shown w).formed) (formula_ok (shown v).y (shown v).formed) (short w) (short v)

-- ---- which book that is
read_one : (o : Option Read) (y z : Read) → o ≡ some y → o ≡ some z → y ≡ z
read_one o y z e f = let g : some y ≡ some z = sym e ∙ f in cc

-- of a state in two tables: it has the limits of their first two cells
pub book_at : (cells : List ℕ) (literals : List ℤ) {size count : ℕ} {table : Bytes} (w : WritesAt cells literals size 0 count table) → book w ≡ formula_under (limits_of cells) (state_at cells literals)
unfolding valid_at
book_at cells literals w =
    ap (λ (y : Read). y.formula)
    (read_one (read_at cells literals) (shown w).y (state_under (limits_of cells) (state_at cells literals)) (shown w).read (valid_read cells literals (ap well_formed_read (shown w).read ∙ (shown w).formed)))
