-- Two rows united word by word into a third. Assumes nothing.
use mathlib.Core.Path.{◌≡◌, refl, sym, ap, ap₂, ◌∙◌, subst}
use mathlib.Core.Bool.{Bool, not, ◌&&◌, ◌||◌}
use mathlib.Core.List.{List}
use Prim.Native.Nat.{ℕ, ◌+◌, ◌*◌, ◌/◌, ◌%◌, ◌^◌, ◌≤◌, ◌<◌}
use native.Mathlib.Nat.{zero-add}
use native.Mathlib.Numerals.{add-one}
use lib.Dec.{eqb}
use lib.ListN.{length, get_or, set}
use lib.Bits.{bit_and, bit_or, bit_xor, or_lt, xor_lt}
use Rattle.bitset.specs.Rows.{width, member, Unites, Kept}
use Rattle.bitset.specs.Words.{both, new_in}
use Rattle.bitset.proofs.Digits.{has, has_or, has_new}
use Rattle.bitset.proofs.Below.{all_same, some_same}
use Rattle.bitset.proofs.Gathered.{gathered, gathered_more, full, some_word, all_words}
use Rattle.bitset.proofs.Members.{written, written_none, written_next, written_below, written_row, written_kept, member_has}

module _ (t : List ℕ) (from to : ℕ) (by : List ℕ) where
  -- word k of the union, and what is new in it
  abbrev pub unions : ℕ → ℕ
  unions k = both t (from + k) by k

  abbrev pub news : ℕ → ℕ
  news k = new_in t (from + k) by k

  -- the first j words are written: what they have in common, and what is new in them
  pub record Uniting (j : ℕ) (l : List ℕ) (c n : ℕ) : Type 0 where
    pub words : l ≡ written t to unions j
    pub common : c ≡ gathered bit_and full unions j
    pub fresh : n ≡ gathered bit_or 0 news j

  pub uniting_none : Uniting 0 t full 0
  unfolding gathered
  uniting_none = record { words = sym (written_none t to unions); common = refl; fresh = refl }

  -- one word more: that of the row `from` is as it was
  pub uniting_more : (j : ℕ) (l : List ℕ) (c n old more : ℕ) → from + j < to → Uniting j l c n
      → old ≡ get_or l (from + j) 0 → more ≡ get_or by j 0
      → Uniting (j + 1) (set l (to + j) (bit_or old more)) (bit_and c (bit_or old more)) (bit_or n (bit_xor old (bit_or old more)))
  uniting_more j l c n old more h u eo em =
      let was = eo ∙ ap (λ (m : List ℕ). get_or m (from + j) 0) u.words ∙ written_below t to unions j (from + j) h in
      let word = ap₂ bit_or was em in
      record {
        words = written_next t to unions l j (j + 1) (to + j) _ u.words refl word (add-one j);
        common = gathered_more bit_and full unions j c _ u.common word;
        fresh = gathered_more bit_or 0 news j n _ u.fresh (ap₂ bit_xor was word);
      }

  by_has : (i : ℕ) → member by 0 i ≡ has (i % width) (get_or by (i / width) 0)
  by_has i = member_has by 0 i ∙ ap (λ (k : ℕ). has (i % width) (get_or by k 0)) (zero-add (i / width))

  module _ (ft : (k : ℕ) → get_or t k 0 < 2 ^ 64) (fb : (k : ℕ) → get_or by k 0 < 2 ^ 64) where
    unions_lt : (k : ℕ) → unions k < 2 ^ 64
    unions_lt k = or_lt 64 (get_or t (from + k) 0) (get_or by k 0) (ft (from + k)) (fb k)

    news_lt : (k : ℕ) → news k < 2 ^ 64
    news_lt k = xor_lt 64 (get_or t (from + k) 0) (unions k) (ft (from + k)) (unions_lt k)

    pub united : (n : ℕ) (l : List ℕ) (c w : ℕ) → to + n ≤ length t → Uniting n l c w
        → Unites from to by 0 n t l (eqb c full) (not (eqb w 0))
    united n l c w h u =
        let row : (i : ℕ) → i < n * width → member l to i ≡ has (i % width) (unions (i / width)) =
        λ i p. ap (λ (m : List ℕ). member m to i) u.words ∙ written_row t to unions n i p h in
        record {
          row = λ i p.
              row i p
              ∙ has_or (i % width) (get_or t (from + i / width) 0) (get_or by (i / width) 0)
              ∙ ap₂ ◌||◌ (sym (member_has t from i)) (sym (by_has i));
          kept = subst (λ (m : List ℕ). Kept to n t m) (sym u.words) (written_kept t to unions n);
          all = ap (λ (x : ℕ). eqb x full) u.common ∙ all_words unions unions_lt n ∙ all_same (n * width) (λ i p. sym (row i p));
          fresh =
              ap (λ (x : ℕ). not (eqb x 0)) u.fresh
              ∙ some_word news news_lt n
              ∙ some_same (n * width) (λ i p.
              has_new (i % width) (get_or t (from + i / width) 0) (get_or by (i / width) 0)
              ∙ ap₂ (λ (x y : Bool). x && not y) (sym (row i p)) (sym (member_has t from i)));
        }
