-- The answer of a call: refused, or the text with zeros behind it.
use Prim.Native.Nat.{ℕ, zero, suc, ◌-◌, ◌≤◌, ◌<◌}
use mathlib.Core.Path.{◌≡◌, refl, sym, ap, subst, ◌∙◌}
use mathlib.Core.Bool.{Bool, true, false, cond}
use mathlib.Core.List.{List, [], ◌++◌, append-nil}
use mathlib.Core.Option.{Option, none, some}
use native.Mathlib.Omega.{arith}
use borrow.Author.Tests.{le-leb, lt-leb}
use lib.ListN.{length, get_or, take, drop, replicate, length-take, length-drop, drop_of_length-le}
use lib.IntN.{ℤ}
use Rattle.std.specs.Prelude.{Result, Ok, Err}
use Rattle.refusal.specs.declared.Refusal.{Refusal}
use Rattle.qbf.specs.Formula.{Limits, paper, Prefix, Clause}
use Rattle.qbf.specs.Card.{zero_table}
use Rattle.qbf.specs.Calls.{State as Read, well_formed}
use Rattle.state.specs.State.{State}
use Rattle.state.specs.Reading.{own, prefix_in, formula_under, state_under, well_formed_read}
use Rattle.state_parts.specs.declared.limits.Layout.{Layout}
use Rattle.state_parts.specs.Layout.{limits_in, CheckedIn}
use Rattle.state_parts.specs.Parts.{limits_of, parts_under, state_at, read_at, valid_at}
use Rattle.state_parts.proofs.Accepted.{valid_read, valid_state}
use Rattle.layout.specs.Words.{Bytes}
use Rattle.booktext.specs.Books.{written, write_refused, written_to, write_guarded, write_call, book_text, written_text}
use Rattle.booktext_laws.proofs.Writing.{written_as}
use Rattle.writer.specs.Wrote.{Wrote}
use Rattle.book_writer.specs.Tables.{formula_of, Standing}
use Rattle.book_writer.specs.Writes.{answered, told, written_of, WritesRead, WritesAt}
use Rattle.book_writer.proofs.Rows.{table_standing}

-- the answer, by the numbers that it was made of
pub answered_by : {p q m n : ℕ} {table : Bytes} → (p ≡ m) × (q ≡ n) → answered p q table ≡ answered m n table
answered_by {p} {q} {m} {n} {table} e = λ i. answered (e.0 i) (e.1 i) table

-- ---- refused
pub refused_told : (n size : ℕ) {table : Bytes} → (n ≡ 0 → ⊥) → table ≡ zero_table size → answered n 0 table ≡ told (write_refused n (zero_table size))
refused_told zero size h e = absurd (h refl)
refused_told (suc n) size h e = ap (answered (suc n) 0) e

pub too_long : (size : ℕ) (t : Bytes) → size < length t → written_to size t ≡ write_refused 31 (zero_table size)
too_long size t h = ap (λ (q : Bool). cond q (written (length t) (t ++ replicate (size - length t) 0)) (write_refused 31 (zero_table size))) (lt-leb (length t) size h)

-- ---- written: the text, and zeros in the part behind it
pub fits : (size : ℕ) (t : Bytes) → length t ≤ size → written_to size t ≡ written (length t) (t ++ replicate (size - length t) 0)
fits size t h = ap (λ (q : Bool). cond q (written (length t) (t ++ replicate (size - length t) 0)) (write_refused 31 (zero_table size))) (le-leb (length t) size h)

pub written_told : {d₀ t d : Bytes} {r : ℕ} → Wrote d₀ 0 t d r → length t ≤ length d₀ → {zeros : Bytes} → zeros ≡ zero_table (length (take (length d - r) (drop r d)))
    → answered 0 r (take r d ++ (zeros ++ drop (length d - r) (drop r d))) ≡ told (written_to (length d₀) t)
written_told {d₀} {t} {d} {r} w h {zeros} e =
    ap (λ (n : ℕ). answered 0 n (take r d ++ (zeros ++ drop (length d - r) (drop r d)))) at_end_lem
    ∙ ap (answered 0 (length t)) (ap (λ (x : Bytes). x ++ (zeros ++ drop (length d - r) (drop r d))) w.is ∙ ap (λ (x : Bytes). t ++ x) behind)
    ∙ ap told (sym (fits (length d₀) t h))
  where
    at_end_lem : r ≡ length t
    at_end_lem = omega (arith, w.next)

    long : length (drop r d) ≡ length d₀ - length t
    long = length-drop r d ∙ omega (arith, w.size, at_end_lem)

    nothing : drop (length d - r) (drop r d) ≡ []
    nothing = drop_of_length-le (drop r d) {i = length d - r} (omega (arith, length-drop r d))

    count : length (take (length d - r) (drop r d)) ≡ length d₀ - length t
    count = omega (arith, length-take (length d - r) (drop r d), length-drop r d, w.size, at_end_lem)

    behind : zeros ++ drop (length d - r) (drop r d) ≡ replicate (length d₀ - length t) 0
    behind = ap (λ (x : Bytes). zeros ++ x) nothing ∙ append-nil zeros ∙ e ∙ ap zero_table count

-- ---- what was read
-- "22 the state is malformed"
pub malformed_is : (o : Option Read) (size : ℕ) → well_formed_read o ≡ false → written_of size o ≡ write_refused 22 (zero_table size)
unfolding write_call
malformed_is none size e = refl
malformed_is (some y) size e = ap (λ (q : Bool). write_guarded q size y.formula) e

module _ (o : Option Read) (size : ℕ) where
  pub formed_is : (y : Read) → o ≡ some y → well_formed y ≡ true → written_of size o ≡ written_to size (book_text y.formula)
  unfolding write_call
  formed_is y i e = ap (written_of size) i ∙ ap (λ (q : Bool). write_guarded q size y.formula) e

  module _ {refusal count : ℕ} {table : Bytes} where
    pub malformed_writes : well_formed_read o ≡ false → answered refusal count table ≡ told (write_refused 22 (zero_table size)) → WritesRead o size refusal count table
    malformed_writes v e = record { said = e ∙ ap told (sym (malformed_is o size v)) }

    pub formed_writes : (y : Read) → o ≡ some y → well_formed y ≡ true → answered refusal count table ≡ told (written_to size (written_text y.formula)) → WritesRead o size refusal count table
    formed_writes y i v e = record { said = e ∙ ap (λ (t : Bytes). told (written_to size t)) (sym (written_as y.formula)) ∙ ap told (sym (formed_is y i v)) }

-- a text says nothing of the limits
pub same_text : (L M : Limits) (D : Prefix) (R : List Clause) → written_text (record { limits = L; prefix = D; clauses = R }) ≡ written_text (record { limits = M; prefix = D; clauses = R })
unfolding written_text
same_text L M D R = refl

-- ---- a state in two tables
-- one that was not checked
pub unchecked : (cells : List ℕ) (literals : List ℤ) (r : Result Layout Refusal) (places kinds : List ℕ) → CheckedIn cells literals r places kinds → ((l : Layout) → r ≡ Ok l → ⊥) → valid_at cells literals ≡ false
unchecked cells literals (Ok l) places kinds k h = absurd (h l refl)
unchecked cells literals (Err e) places kinds k h = sym k.1.said

module _ (cells : List ℕ) (literals : List ℤ) (size : ℕ) {refusal count : ℕ} {table : Bytes} where
  pub invalid_writes_at : valid_at cells literals ≡ false → answered refusal count table ≡ told (write_refused 22 (zero_table size)) → WritesAt cells literals size refusal count table
  unfolding valid_at
  invalid_writes_at v e = malformed_writes (read_at cells literals) size v e

  pub valid_writes_at : valid_at cells literals ≡ true → answered refusal count table ≡ told (written_to size (written_text (formula_under (limits_of cells) (state_at cells literals)))) → WritesAt cells literals size refusal count table
  valid_writes_at v e =
      formed_writes (read_at cells literals) size (state_under (limits_of cells) (state_at cells literals)) (valid_read cells literals v) (valid_state cells literals v).facts.formed e

-- the parts that were laid out by the limits that were read
module _ (cells : List ℕ) (literals : List ℤ) (l : Layout) (e : l.numbers ≡ get_or cells 0 0) (f : l.clauses ≡ get_or cells 1 0) (x : State) (laid : x ≡ parts_under (limits_in l) cells literals) where
  parts_are : x ≡ state_at cells literals
  parts_are = laid ∙ (λ i. parts_under (own (e i) (f i)) cells literals)

  pub parts_standing : valid_at cells literals ≡ true → Standing x.clauses x.clause_sizes
  parts_standing v = subst (λ (z : State). Standing z.clauses z.clause_sizes) (sym parts_are) (table_standing (valid_state cells literals v).clauses)

  pub parts_write : valid_at cells literals ≡ true → {size refusal count : ℕ} {table : Bytes}
      → answered refusal count table ≡ told (written_to size (written_text (formula_of x.numbers x.levels x.kinds x.clauses x.clause_sizes))) → WritesAt cells literals size refusal count table
  parts_write v {size} {refusal} {count} {table} w =
      valid_writes_at cells literals size v
      (w ∙ ap (λ (z : State). told (written_to size (written_text (formula_of z.numbers z.levels z.kinds z.clauses z.clause_sizes)))) parts_are
      ∙ ap (λ (t : Bytes). told (written_to size t)) (same_text paper (limits_of cells) (prefix_in (state_at cells literals)) (formula_under (limits_of cells) (state_at cells literals)).clauses))
