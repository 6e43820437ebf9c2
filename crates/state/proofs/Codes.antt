-- The quantifiers' codes: by place through the level, by number through the place, and how many are free at the front.
use Prim.Native.Nat.{ℕ, zero, suc, ◌+◌, ◌≤◌, ◌<◌}
use native.Mathlib.Numerals.{add-one}
use native.Mathlib.Nat.{not-suc-le-zero}
use native.Mathlib.Omega.{arith}
use mathlib.Core.Path.{◌≡◌, refl, sym, ap, ◌∙◌}
use mathlib.Core.Logic.{◌⊎◌, inl, inr}
use mathlib.Core.List.{List, [], ◌∷◌}
use lib.ListN.{length, get_or, set, drop, length-set, length-map, get_or-eq_default}
use lib.Seq.{drop-cons, get_or-set_same, get_or-set_other}
use lib.IntN.{pos}
use mathlib.Core.Bool.{true}
use borrow.Author.Tests.{le-leb}
use Rattle.qbf.specs.Formula.{Limits, most_free, Quantifier, free, exists, forall, Prefix, quantifiers, quantifier_at, place_of}
use Rattle.qbf.specs.Truth.{free_count, free_variables}
use Rattle.qbf.specs.Calls.{free_is_ok, numbers_are_ok}
use Rattle.theory.proofs.Basics.{le_or_lt}
use Rattle.theory.proofs.WellFormed.{inside}
use Rattle.theory.proofs.Prefixes.{number_at, place_of_number}
use Rattle.theory.proofs.Starting.{free_fit}
use Rattle.tables.specs.Views.{quantifier_code, Numbers, Places}
use Rattle.state.specs.Reading.{entry_at}
use Rattle.state.specs.Derived.{Cleared, KindsFilled, Quantified, code_for}

pub code_at_lem : (ls ks : List ℕ) (p : ℕ) → (p ≡ 0 → ⊥) → get_or ks (get_or ls p 0) 0 ≡ code_for ls ks p
code_at_lem ls ks zero n = absurd (n refl)
code_at_lem ls ks (suc i) n = refl

kinds_long : (D : Prefix) → length (quantifiers D) ≡ length D
kinds_long D = length-map D (λ d. d.quantifier)

-- ---- by number: the numbers of the first i places are filled
pub record Coded (ns ls ks old table : List ℕ) (count i : ℕ) : Type 0 where
  pub whole : count ≡ get_or ns 0 0
  pub room : length table ≡ length old
  pub passed : (L : Limits) (D : Prefix) (places : List ℕ) → Numbers D ns → numbers_are_ok L [] D ≡ true → Places D places → length places ≡ length old
      → (n : ℕ) → place_of D n ≤ i → get_or table n 0 ≡ code_for ls ks (place_of D n)

module _ {ns ls ks old : List ℕ} {count : ℕ} where
  -- none is declared where the place is 0
  pub coded_none : {table : List ℕ} → count ≡ get_or ns 0 0 → Cleared (length old) table → Coded ns ls ks old table count 0
  coded_none {table} e cleared = record {
    whole = e;
    room = cleared.room;
    passed = λ L D places s ok p long n h. cleared.zero n ∙ ap (code_for ls ks) (let z : 0 ≡ place_of D n = omega arith in z);
  }

  module _ {table : List ℕ} {i : ℕ} (w : Coded ns ls ks old table count i) where
    -- a place more: its number has it, and the others have theirs
    pub coded_more : i < count → {n v : ℕ} → n ≡ entry_at ns i → v ≡ code_for ls ks (i + 1) → Coded ns ls ks old (set table n v) count (i + 1)
    coded_more h {n} {v} is reads = record {
      whole = w.whole;
      room = length-set table n v ∙ w.room;
      passed = λ L D places s ok p long m k. by L D places s ok p long m (le_or_lt (suc i) (place_of D m)) k;
    }
      where
        by : (L : Limits) (D : Prefix) (places : List ℕ) → Numbers D ns → numbers_are_ok L [] D ≡ true → Places D places → length places ≡ length old
            → (m : ℕ) → (suc i ≤ place_of D m) ⊎ (place_of D m < suc i) → place_of D m ≤ i + 1 → get_or (set table n v) m 0 ≡ code_for ls ks (place_of D m)
        by L D places s ok p long m (inl b) k =
            let z : place_of D m ≡ suc i = omega arith in
            let at = number_at D m i z in
            let e : n ≡ m = is ∙ s.at i at.0 ∙ at.1 in
            let inside : m < length table = inside_of (le_or_lt (length places) m) in
            ap (λ (x : ℕ). get_or (set table x v) m 0) e
            ∙ get_or-set_same table m v 0 inside
            ∙ reads
            ∙ ap (code_for ls ks) (let q : i + 1 ≡ place_of D m = omega arith in q)
          where
            inside_of : (length places ≤ m) ⊎ (m < length places) → m < length table
            inside_of (inl far) = absurd (omega (arith, b, p.at m, get_or-eq_default places 0 far))
            inside_of (inr near) = omega (arith, near, long, w.room)
        by L D places s ok p long m (inr b) k =
            let low : i < length D = omega (arith, h, w.whole, s.count) in
            get_or-set_other table n m v 0
            (λ e. omega (arith, b, ap (place_of D) (e ∙ is ∙ s.at i low), place_of_number L D ok i low))
            ∙ w.passed L D places s ok p long m (omega (arith, b))

    pub coded_end : count ≤ i → KindsFilled ns ls ks old table
    coded_end h = record {
      room = w.room;
      shown = λ L D places s ok p long kinds.
          let few : length D ≤ i = omega (arith, h, w.whole, s.count) in
          record {
            at = λ m.
                w.passed L D places s ok p long m (omega (arith, few, inside D (pos m), kinds_long D))
                ∙ by D kinds (place_of D m) (omega (arith, inside D (pos m), kinds_long D));
          };
    }
      where
        by : (D : Prefix) → Quantified D ls ks → (p : ℕ) → p ≤ length D → code_for ls ks p ≡ quantifier_code (quantifier_at D p)
        by D kinds zero b = refl
        by D kinds (suc i) b = kinds.at i b

-- ---- the free variables at the front
pub record Freed (ns ls ks : List ℕ) (count i : ℕ) : Type 0 where
  pub whole : count ≡ get_or ns 0 0
  pub judged : (D : Prefix) → Numbers D ns → Quantified D ls ks → free_variables D ≡ i + free_count (drop i (quantifiers D))

module _ {ns ls ks : List ℕ} {count i : ℕ} (w : Freed ns ls ks count i) where
  -- k is the code of the next place
  module _ (more : i < count) {k : ℕ} (is : k ≡ code_for ls ks (i + 1)) where
    next : (D : Prefix) → Numbers D ns → drop i (quantifiers D) ≡ quantifier_at D (suc i) ∷ drop (suc i) (quantifiers D)
    next D shown = drop-cons (quantifiers D) i free (omega (arith, more, w.whole, shown.count, kinds_long D))

    code : (D : Prefix) → Numbers D ns → Quantified D ls ks → k ≡ quantifier_code (quantifier_at D (suc i))
    code D shown kinds = is ∙ ap (code_for ls ks) (add-one i) ∙ kinds.at i (omega (arith, more, w.whole, shown.count))

    free_counts : (κ : Quantifier) (rest : List Quantifier) → quantifier_code κ ≡ 0 → free_count (κ ∷ rest) ≡ suc (free_count rest)
    free_counts free rest e = refl
    free_counts exists rest e = absurd (not-suc-le-zero {n = 0} (omega (arith, e)))
    free_counts forall rest e = absurd (not-suc-le-zero {n = 0} (omega (arith, e)))

    pub freed_more : k ≡ 0 → Freed ns ls ks count (i + 1)
    freed_more z =
        rw add-one
        (record {
          whole = w.whole;
          judged = λ D shown kinds.
              let e : free_count (drop i (quantifiers D)) ≡ suc (free_count (drop (suc i) (quantifiers D))) =
              ap free_count (next D shown) ∙ free_counts (quantifier_at D (suc i)) (drop (suc i) (quantifiers D)) (sym (code D shown kinds) ∙ z) in
              omega (arith, w.judged D shown kinds, e);
        })

-- no more free variables than variables
pub few_free : (D : Prefix) (ns : List ℕ) → Numbers D ns → {c : ℕ} → c ≡ get_or ns 0 0 → c ≤ most_free → true ≡ free_is_ok D
few_free D ns h {c} e k = sym (le-leb (free_variables D) most_free (omega (arith, k, e, h.count, kinds_long D, free_fit (quantifiers D))))
