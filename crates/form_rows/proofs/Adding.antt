-- The clauses of an exactly-one form, one after the other behind those that stand.
use Prim.Native.Nat.{ℕ, ◌+◌, ◌-◌, ◌≤◌, ◌<◌}
use native.Mathlib.Omega.{arith}
use mathlib.Core.Path.{◌≡◌, refl, sym, ap, subst, ◌∙◌}
use mathlib.Core.List.{List, [], ◌∷◌, ◌++◌, map, append_assoc, append-nil, map-append}
use lib.IntN.{ℤ, pos}
use lib.ListN.{length, get_or, take, drop, length-append, drop_of_length-le}
use Rattle.std.proofs.lemmas.List.{take_all, length-drop, get_or-drop, drop_more}
use Rattle.qbf.specs.Formula.{paper, Literal, Clause}
use Rattle.qbf.specs.One.{both_negated, pairs_with, pairs, one_count}
use Rattle.qbf.specs.Calls.{clause_of}
use Rattle.theory.proofs.OneCount.{forms_count}
use Rattle.tables.specs.Views.{Table, rows_of}
use Rattle.rule_rows.specs.Accepted.{Added, Named}

-- ---- clauses one after the other
pub added_none : {most : ℕ} {f : List ℤ} {l places : List ℕ} → Table paper.literals most f l → Added most f l [] places f l
added_none {most} {f} {l} t = record { table = t; kept = refl; count = omega arith; rows = λ D s. sym (append-nil (rows_of paper.literals f l)) }

pub added_more : {most : ℕ} {f f₁ f₂ : List ℤ} {l l₁ l₂ places : List ℕ} {cs ds : List (List Literal)} → Added most f l cs places f₁ l₁ → Added most f₁ l₁ ds places f₂ l₂ → Added most f l (cs ++ ds) places f₂ l₂
added_more {most} {f} {f₁} {f₂} {l} {l₁} {l₂} {places} {cs} {ds} a b =
    record {
      table = b.table;
      kept = b.kept ∙ a.kept;
      count = omega (arith, a.count, b.count, length-append cs ds);
      rows = λ D s.
          b.rows D s
          ∙ ap (λ (r : List Clause). r ++ map (clause_of D) ds) (a.rows D s)
          ∙ append_assoc (rows_of paper.literals f l) (map (clause_of D) cs) (map (clause_of D) ds)
          ∙ ap (λ (r : List Clause). rows_of paper.literals f l ++ r) (sym (map-append (clause_of D) cs ds));
    }

-- where the clauses of some forms are left to be added: there is room for them, and with them those of all forms are added
pub record Adding (most : ℕ) (f₀ : List ℤ) (l₀ places : List ℕ) (all left : List (List Literal)) (f : List ℤ) (l : List ℕ) : Type 0 where
  pub table : Table paper.literals most f l
  pub room : get_or l 0 0 + length left ≤ most
  pub kept : length l ≡ length l₀
  pub ends : {f₁ : List ℤ} {l₁ : List ℕ} → Added most f l left places f₁ l₁ → Added most f₀ l₀ all places f₁ l₁

module _ {most : ℕ} {f₀ f : List ℤ} {l₀ l places : List ℕ} {all left : List (List Literal)} (w : Adding most f₀ l₀ places all left f l) where
  pub adding_end : left ≡ [] → Added most f₀ l₀ all places f l
  adding_end e = w.ends (subst (λ (cs : List (List Literal)). Added most f l cs places f l) (sym e) (added_none w.table))

  module _ (cs ds : List (List Literal)) (e : left ≡ cs ++ ds) where
    pub adding_room : get_or l 0 0 + length cs ≤ most
    adding_room = omega (arith, w.room, ap length e, length-append cs ds)

    pub adding_more : {f₁ : List ℤ} {l₁ : List ℕ} → Added most f l cs places f₁ l₁ → Adding most f₀ l₀ places all ds f₁ l₁
    adding_more {f₁} {l₁} a =
        record {
          table = a.table;
          kept = a.kept ∙ w.kept;
          room = omega (arith, w.room, ap length e, length-append cs ds, a.count);
          ends = ends;
        }
      where
        ends : {f₂ : List ℤ} {l₂ : List ℕ} → Added most f₁ l₁ ds places f₂ l₂ → Added most f₀ l₀ all places f₂ l₂
        ends {f₂} {l₂} b = w.ends (subst (λ (xs : List (List Literal)). Added most f l xs places f₂ l₂) (sym e) (added_more a b))

-- ---- the pairs of a literal and each of the others; the next is the one at j
module _ (first : Literal) (ls : List Literal) (j : ℕ) where
  pub pairs_with_end : length ls ≤ j → {most : ℕ} {f₀ f : List ℤ} {l₀ l places : List ℕ} {all : List (List Literal)} → Adding most f₀ l₀ places all (pairs_with first (drop j ls)) f l → Added most f₀ l₀ all places f l
  pairs_with_end h w = adding_end w (ap (pairs_with first) (drop_of_length-le ls h))

  module _ (h : j < length ls) where
    next : pairs_with first (drop j ls) ≡ (both_negated first (get_or ls j (pos 0)) ∷ []) ++ pairs_with first (drop (j + 1) ls)
    next = ap (pairs_with first) (drop_more ls j (pos 0) h)

    module _ {most : ℕ} {f₀ f : List ℤ} {l₀ l places : List ℕ} {all : List (List Literal)} (w : Adding most f₀ l₀ places all (pairs_with first (drop j ls)) f l) where
      pub pairs_with_more : {pair : List Literal} → pair ≡ both_negated first (get_or ls j (pos 0)) → {f₁ : List ℤ} {l₁ : List ℕ} → Added most f l (pair ∷ []) places f₁ l₁
          → Adding most f₀ l₀ places all (pairs_with first (drop (j + 1) ls)) f₁ l₁
      pairs_with_more e {f₁} {l₁} a =
          adding_more w (both_negated first (get_or ls j (pos 0)) ∷ []) (pairs_with first (drop (j + 1) ls)) next
          (subst (λ (c : List Literal). Added most f l (c ∷ []) places f₁ l₁) e a)

-- ---- the pairs of each literal from the one at i on
module _ (ls : List Literal) (i : ℕ) where
  pub pairs_end : length ls ≤ i → {most : ℕ} {f₀ f : List ℤ} {l₀ l places : List ℕ} {all : List (List Literal)} → Adding most f₀ l₀ places all (pairs (drop i ls)) f l → Added most f₀ l₀ all places f l
  pairs_end h w = adding_end w (ap pairs (drop_of_length-le ls h))

  module _ (h : i < length ls) where
    here : pairs (drop i ls) ≡ pairs_with (get_or ls i (pos 0)) (drop (i + 1) ls) ++ pairs (drop (i + 1) ls)
    here = ap pairs (drop_more ls i (pos 0) h)

    module _ {most : ℕ} {f₀ f : List ℤ} {l₀ l places : List ℕ} {all : List (List Literal)} (w : Adding most f₀ l₀ places all (pairs (drop i ls)) f l) where
      pub pairs_room : get_or l 0 0 + length (pairs_with (get_or ls i (pos 0)) (drop (i + 1) ls)) ≤ most
      pairs_room = adding_room w (pairs_with (get_or ls i (pos 0)) (drop (i + 1) ls)) (pairs (drop (i + 1) ls)) here

      pub pairs_more : {f₁ : List ℤ} {l₁ : List ℕ} → Added most f l (pairs_with (get_or ls i (pos 0)) (drop (i + 1) ls)) places f₁ l₁ → Adding most f₀ l₀ places all (pairs (drop (i + 1) ls)) f₁ l₁
      pairs_more a = adding_more w (pairs_with (get_or ls i (pos 0)) (drop (i + 1) ls)) (pairs (drop (i + 1) ls)) here a

-- ---- the literals behind the one at i, as the code takes them
pub rest_taken : (ls : List Literal) (i : ℕ) → take (length ls - (i + 1)) (drop (i + 1) ls) ≡ drop (i + 1) ls
rest_taken ls i = take_all (length ls - (i + 1)) (drop (i + 1) ls) (omega (arith, length-drop (i + 1) ls))

pub named_rest : (ls : List Literal) (i : ℕ) → Named ls → Named (drop i ls)
named_rest ls i n k h = rw (get_or-drop i ls k (pos 0)) (n (i + k) (omega (arith, h, length-drop i ls)))

pub added_with : {l m : Literal} {xs ys : List Literal} → l ≡ m → xs ≡ ys → {most : ℕ} {f f' : List ℤ} {s s' places : List ℕ} → Added most f s (pairs_with l xs) places f' s' → Added most f s (pairs_with m ys) places f' s'
added_with {l} {m} {xs} {ys} e q {most} {f} {f'} {s} {s'} {places} a =
    subst (λ (k : Literal). Added most f s (pairs_with k ys) places f' s') e (subst (λ (zs : List Literal). Added most f s (pairs_with l zs) places f' s') q a)

-- ---- a form: there is room for the rule of all its literals, and then for the pairs
module _ {most : ℕ} (ls : List Literal) (l : List ℕ) (h : get_or l 0 0 + one_count (length ls) ≤ most) where
  pub rest_room : {f f₁ : List ℤ} {l₁ places : List ℕ} → Added most f l (ls ∷ []) places f₁ l₁ → get_or l₁ 0 0 + length (pairs ls) ≤ most
  rest_room a = omega (arith, h, a.count, forms_count ls)

-- the most that there may be is said of another name
pub with_most : {m n : ℕ} → m ≡ n → {cs : List (List Literal)} {f f' : List ℤ} {s s' places : List ℕ} → Added m f s cs places f' s' → Added n f s cs places f' s'
with_most e {cs} {f} {f'} {s} {s'} {places} a = subst (λ (k : ℕ). Added k f s cs places f' s') e a
