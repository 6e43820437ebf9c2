-- The rows and the sets together are the clauses of a search.
use Prim.Native.Nat.{ℕ, ◌+◌, ◌*◌, ◌≤◌, ◌<◌}
use native.Mathlib.Nat.{mul-le-mul_left, mul-le-mul_right, not-suc-le-zero}
use native.Mathlib.Numerals.{add-one}
use native.Mathlib.Omega.{arith}
use mathlib.Core.Path.{◌≡◌, sym, ap, ◌∙◌, subst}
use mathlib.Core.Bool.{false}
use mathlib.Core.List.{List, []}
use lib.IntN.{ℤ}
use lib.ListN.{length, get_or}
use Rattle.bitset.specs.Rows.{width}
use Rattle.qbf.specs.Formula.{paper, highest, Prefix, Clause}
use Rattle.qbf.specs.Learning.{reduce}
use Rattle.tables.specs.Views.{Places, row, rows, rows_of}
use Rattle.lent_rows.specs.Held.{Held}
use Rattle.tables.specs.Codes.{codes, Quantified}
use Rattle.tables.specs.Sets.{ClauseSets}
use Rattle.tables.specs.Shelves.{code_count}
use Rattle.tables.specs.Matrices.{row_words, words_of, MatrixShown, RowLength}
use Rattle.tables.proofs.Laws.{rows_at, rows_length, rows_suc, rows_zero}
use Rattle.loading_clauses.specs.Coded.{Filled}
use Rattle.loading_clauses.proofs.Coding.{CodedBelow, coded_more, row_short}
use Rattle.loading_clauses.proofs.Filling.{sets_next}

-- the words of a row of n clauses are not more than the longest row has
words_few : (n : ℕ) → n ≤ highest.clauses → words_of n ≤ row_words
words_few n h = omega arith

pub row_length : {n words : ℕ} → words ≡ words_of n → n ≤ highest.clauses → RowLength words
row_length {n} is h = record { few = omega (arith, is, words_few n h) }

-- the rows of the codes below c lie within the sets
pub codes_within : (c n words : ℕ) → words ≡ words_of n → n ≤ highest.clauses → c ≤ code_count → c * 2 * words ≤ code_count * 2 * row_words
codes_within c n words is few low =
    omega (arith, mul-le-mul_right {m = c * 2} {n = code_count * 2} words (omega arith), mul-le-mul_left {m = words} {n = row_words} (code_count * 2) (omega (arith, is, words_few n few)))

-- the first k clauses are in their rows and in the sets, which had none at the start
pub record FilledBelow (w : ℕ) (f : List ℤ) (l places quantifiers : List ℕ) (wc k : ℕ) (start cells sets : List ℕ) : Type 0 where
  pub coded : CodedBelow w f l places quantifiers k cells
  pub shown : (D : Prefix) → Places D places → Quantified D quantifiers → length D ≤ highest.numbers → ClauseSets D [] wc start
      → ClauseSets D (rows w f l k) wc sets

module _ {w : ℕ} {f : List ℤ} {l places quantifiers : List ℕ} {wc : ℕ} {start cells : List ℕ} where
  pub filled_none : FilledBelow w f l places quantifiers wc 0 start cells start
  filled_none = record {
    coded = λ j h. absurd (not-suc-le-zero h);
    shown = λ D p q few g. subst (λ (R : List Clause). ClauseSets D R wc start) (sym (rows_zero w f l)) g;
  }

  -- clause k too
  pub filled_more : {k : ℕ} {sets cells' sets' : List ℕ} → FilledBelow w f l places quantifiers wc k start cells sets → Held w highest.clauses f l → w ≤ paper.literals → k < get_or l 0 0 → k < wc * width
      → Filled (row w f l k) places quantifiers wc k cells sets cells' sets'
      → FilledBelow w f l places quantifiers wc (k + 1) start cells' sets'
  filled_more {k} {sets} {cells'} {sets'} b T narrow low small new = record {
    coded = coded_more places quantifiers k cells cells' T narrow low b.coded new.kept new.coded;
    shown = λ D p q few g.
        subst (λ (R : List Clause). ClauseSets D R wc sets')
        (sym (rows_suc w f l k) ∙ ap (rows w f l) (sym (add-one k)))
        (sets_next (b.shown D p q few g) (rows_length w f l k) small (row w f l k)
        (new.coded.whole D p few) (new.coded.reduced D p q few) new.added);
  }

  -- all clauses
  pub matrix_shown : {k : ℕ} {sets : List ℕ} → FilledBelow w f l places quantifiers wc k start cells sets → Held w highest.clauses f l → w ≤ paper.literals → k ≡ get_or l 0 0
      → (D : Prefix) → Places D places → Quantified D quantifiers → length D ≤ highest.numbers → ClauseSets D [] wc start
      → MatrixShown D (rows_of w f l) wc cells sets
  matrix_shown {k} {sets} b T narrow e D p q few g = record {
    few = omega (arith, long, T.few);
    short = λ j h. let low : j < get_or l 0 0 = omega (arith, long) in omega (arith, (b.coded j (omega (arith, e))).less, row_short T narrow j low);
    dying = λ j h.
        let low : j < get_or l 0 0 = omega (arith, long) in
        (b.coded j (omega (arith, e))).reduced D p q few
        ∙ ap (λ (r : Clause). codes D (reduce D false r)) (sym (rows_at w f l (get_or l 0 0) j low));
    by_code = subst (λ (n : ℕ). ClauseSets D (rows w f l n) wc sets) e (b.shown D p q few g);
  }
    where
      long : length (rows_of w f l) ≡ get_or l 0 0
      long = rows_length w f l (get_or l 0 0)

-- .. by another name of the words
pub matrix_words : {D : Prefix} {R : List Clause} {words wc : ℕ} {cells sets : List ℕ} → words ≡ wc → MatrixShown D R words cells sets → MatrixShown D R wc cells sets
matrix_words {D} {R} {words} {wc} {cells} {sets} is m = subst (λ (n : ℕ). MatrixShown D R n cells sets) is m
