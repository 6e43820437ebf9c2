-- The rows of the clauses: one written from a cell on, and those that later ones leave.
use Prim.Native.Nat.{ℕ, suc, ◌+◌, ◌*◌, ◌-◌, ◌≤◌, ◌<◌}
use native.Mathlib.Omega.{arith}
use native.Mathlib.Nat.{le_refl, eq-or-lt_of_le}
use native.Mathlib.Numerals.{add-one}
use mathlib.Core.Path.{◌≡◌, sym, ap, subst, ◌∙◌}
use mathlib.Core.Logic.{◌⊎◌, inl, inr}
use mathlib.Core.Bool.{false}
use mathlib.Core.List.{List}
use borrow.Rule.Slice.PartMut.{mid_of, put_mid, take_put, same_len_mid, mid_len}
use lib.IntN.{ℤ}
use lib.ListN.{length, get_or, take, drop, set, length-set, length-take}
use lib.Seq.{get_or-set_same, get_or-take, drop-set-lt, length-take-le, take-set-le, take-take}
use Rattle.qbf.specs.Formula.{paper, highest, Prefix}
use Rattle.qbf.specs.Learning.{Constraint, reduce}
use Rattle.tables.specs.Views.{Places, row}
use Rattle.lent_rows.specs.Held.{Held}
use Rattle.tables.specs.Codes.{codes, last_code, Quantified}
use Rattle.tables.specs.Shelves.{code_count}
use Rattle.tables.specs.Matrices.{clause_row}
use Rattle.coding.proofs.Coded.{last_cell}
use Rattle.loading_clauses.specs.Coded.{Added, Coded, Filled, Low}
use Rattle.lent_rows.proofs.Rows.{part_kept, put_part}

-- a length before codes that stand already
module _ (lits : List ℤ) (places quantifiers t : List ℕ) (at left : ℕ) where
  abbrev final : List ℕ
  final = set t at left

  final_left : at + 1 + length lits ≤ length t → get_or final at 0 ≡ left
  final_left within = get_or-set_same t at left 0 (omega arith)

  final_codes : drop (suc at) final ≡ drop (suc at) t
  final_codes = drop-set-lt (suc at) t at left (omega arith)

  length_written : at + 1 + length lits ≤ length t → left ≤ length lits → Low (take (length lits) (drop (suc at) t))
      → ((D : Prefix) → Places D places → length D ≤ highest.numbers → take (length lits) (drop (suc at) t) ≡ codes D lits)
      → ((D : Prefix) (e : Constraint) → Quantified D quantifiers → take (length lits) (drop (suc at) t) ≡ codes D e
      → take left (drop (suc at) t) ≡ codes D (reduce D false e))
      → Coded lits places quantifiers at final
  length_written within less low whole reduced = record {
    less = omega (arith, final_left within);
    low = subst (λ (cs : List ℕ). Low (take (length lits) cs)) (sym final_codes) low;
    whole = λ D p few. ap (take (length lits)) final_codes ∙ whole D p few;
    reduced = λ D p q few.
        ap (λ (n : ℕ). take n (drop (suc at) final)) (final_left within)
        ∙ ap (take left) final_codes
        ∙ reduced D lits q (whole D p few);
  }

-- codes that are each the last of some of the first ones
pub all_low : (ys : List ℕ) (m : ℕ) → m ≤ length ys → ((n : ℕ) → n ≤ m → last_code (take n ys) < code_count) → Low (take m ys)
all_low ys m h last i low =
    let small : i < m = omega (arith, low, length-take-le m ys h) in
    let before : i ≡ suc i - 1 = omega arith in
    subst (λ (x : ℕ). x < code_count)
    (sym
    (get_or-take m ys i 0 small
    ∙ ap (λ (j : ℕ). get_or ys j 0) before
    ∙ last_cell ys (suc i) (λ e. absurd (omega (arith, e))) (omega arith)))
    (last (suc i) (omega arith))

-- A row as the code writes it: the codes ys are put back into the cells xs, then comes the length. Its length under reduction was read from
-- the first m cells of the codes.
module _ (lits : List ℤ) (places quantifiers xs ys : List ℕ) (at left : ℕ) (within : at + 1 + length lits ≤ length xs)
    (kept : length ys ≡ length (mid_of (at + 1) (length xs - (at + 1)) xs)) where
  abbrev t : List ℕ
  t = put_mid (at + 1) (length xs - (at + 1)) xs ys

  t_long : length t ≡ length xs
  t_long = same_len_mid (at + 1) (length xs - (at + 1)) xs ys kept

  row_before : take at (set t at left) ≡ take at xs
  row_before =
      take-set-le at t at left (le_refl at)
      ∙ sym (take-take at (at + 1) t (omega arith))
      ∙ ap (take at) (take_put (at + 1) (length xs - (at + 1)) xs ys (omega arith))
      ∙ take-take at (at + 1) xs (omega arith)

  pub row_written : left ≤ length lits → ((n : ℕ) → n ≤ length lits → last_code (take n ys) < code_count)
      → ((D : Prefix) → Places D places → length D ≤ highest.numbers → take (length lits) ys ≡ codes D lits)
      → (m : ℕ) → length lits ≡ m
      → ((D : Prefix) (e : Constraint) → Quantified D quantifiers → take m (drop (at + 1) t) ≡ codes D e
      → take left (take m (drop (at + 1) t)) ≡ codes D (reduce D false e))
      → (length (set t at left) ≡ length xs)
      × (take at (set t at left) ≡ take at xs)
      × Coded lits places quantifiers at (set t at left)
  row_written less small whole m low reduced = (
    length-set t at left ∙ t_long,
    row_before,
    length_written lits places quantifiers t at left (omega (arith, t_long)) less
        (subst Low (sym part) (all_low ys (length lits) long small))
        (λ D p few. part ∙ whole D p few)
        (λ D e q h.
        ap (λ (b : ℕ). take left (drop b t)) (sym (add-one at))
        ∙ sym (take-take left m (drop (at + 1) t) (omega arith))
        ∙ reduced D e q
        (ap (λ (k : ℕ). take k (drop (at + 1) t)) (sym low)
        ∙ ap (λ (b : ℕ). take (length lits) (drop b t)) (add-one at)
        ∙ h)),
  )
    where
      long : length lits ≤ length ys
      long = omega (arith, kept, mid_len (at + 1) (length xs) xs (le_refl (length xs)))

      part : take (length lits) (drop (suc at) t) ≡ take (length lits) ys
      part =
          ap (λ (b : ℕ). take (length lits) (drop b t)) (sym (add-one at))
          ∙ put_part (at + 1) (length xs - (at + 1)) (length lits) xs ys (omega arith) long

-- a row that ends within the first m cells, which stay
pub coded_kept : {lits : List ℤ} {places quantifiers cells : List ℕ} {at : ℕ} → Coded lits places quantifiers at cells
    → (m : ℕ) (cells' : List ℕ) → at + 1 + length lits ≤ m → take m cells' ≡ take m cells → Coded lits places quantifiers at cells'
coded_kept {lits} {places} {quantifiers} {cells} {at} c m cells' within e = record {
  less = omega (arith, left, c.less);
  low = subst Low (sym (part (length lits) (omega arith))) c.low;
  whole = λ D p few. part (length lits) (omega arith) ∙ c.whole D p few;
  reduced = λ D p q few.
      ap (λ (n : ℕ). take n (drop (suc at) cells')) left
      ∙ part (get_or cells at 0) c.less
      ∙ c.reduced D p q few;
}
  where
    left : get_or cells' at 0 ≡ get_or cells at 0
    left =
        sym (get_or-take m cells' at 0 (omega arith)) ∙ ap (λ (l : List ℕ). get_or l at 0) e ∙ get_or-take m cells at 0 (omega arith)

    part : (n : ℕ) → n ≤ length lits → take n (drop (suc at) cells') ≡ take n (drop (suc at) cells)
    part n h = part_kept (suc at) n m cells cells' (omega arith) e

-- a clause has no more literals than its size says
pub row_short : {w : ℕ} {f : List ℤ} {l : List ℕ} → Held w highest.clauses f l → w ≤ paper.literals → (k : ℕ) → k < get_or l 0 0 → length (row w f l k) ≤ paper.literals
row_short {w} {f} {l} T narrow k low = omega (arith, narrow, T.short k low, length-take (get_or l (suc k) 0) (drop (k * w) f))

-- the first k clauses are in their rows
abbrev pub CodedBelow : ℕ → List ℤ → List ℕ → List ℕ → List ℕ → ℕ → List ℕ → Type 0
CodedBelow w f l places quantifiers k cells = (j : ℕ) → j < k → Coded (row w f l j) places quantifiers (j * clause_row) cells

-- clause k too
pub coded_more : {w : ℕ} {f : List ℤ} {l : List ℕ} (places quantifiers : List ℕ) (k : ℕ) (cells cells' : List ℕ) → Held w highest.clauses f l → w ≤ paper.literals → k < get_or l 0 0
    → CodedBelow w f l places quantifiers k cells
    → take (k * clause_row) cells' ≡ take (k * clause_row) cells
    → Coded (row w f l k) places quantifiers (k * clause_row) cells'
    → CodedBelow w f l places quantifiers (k + 1) cells'
coded_more {w} {f} {l} places quantifiers k cells cells' T narrow low inv e new j h = by (eq-or-lt_of_le (omega arith))
  where
    by : (j ≡ k) ⊎ (j < k) → Coded (row w f l j) places quantifiers (j * clause_row) cells'
    by (inl q) = subst (λ (i : ℕ). Coded (row w f l i) places quantifiers (i * clause_row) cells') (sym q) new
    by (inr m) = coded_kept (inv j m) (k * clause_row) cells' (omega (arith, row_short T narrow j (omega arith))) e

-- ---- clause k as the code reads it back: a part of the cells
module _ {lits : List ℤ} (k : ℕ) {places quantifiers cells : List ℕ} (c : Coded lits places quantifiers (k * clause_row) cells) where
  abbrev at : ℕ
  at = k * clause_row

  abbrev cut : List ℕ
  cut = take ((at + 1 + length lits) - (at + 1)) (drop (at + 1) cells)

  cut_is : cut ≡ take (length lits) (drop (suc at) cells)
  cut_is =
      let n : (at + 1 + length lits) - (at + 1) ≡ length lits = omega arith in
      ap (λ (m : ℕ). take m (drop (at + 1) cells)) n ∙ ap (λ (b : ℕ). take (length lits) (drop b cells)) (add-one at)

  pub filled : {wc : ℕ} {old sets after : List ℕ} → length cells ≡ length old → take at cells ≡ take at old
      → Added wc cut (take (get_or cells at 0) cut) k sets after → Filled lits places quantifiers wc k old sets cells after
  filled {wc} {old} {sets} {after} room kept a = record {
    room = room;
    kept = kept;
    coded = c;
    added =
        subst (λ (xs : List ℕ). Added wc (take (length lits) (drop (suc at) cells)) xs k sets after)
        (take-take (get_or cells at 0) (length lits) (drop (suc at) cells) c.less)
        (subst (λ (xs : List ℕ). Added wc xs (take (get_or cells at 0) xs) k sets after) cut_is a);
  }
