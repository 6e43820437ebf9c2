-- What the loops that write back have done: after i literals of a row, and after k rows.
use Prim.Native.Nat.{ℕ, zero, suc, ◌+◌, ◌*◌, ◌-◌, ◌%◌, ◌≤◌, ◌<◌}
use native.Mathlib.Omega.{arith}
use native.Mathlib.Nat.{le_of_suc-le-suc, not-suc-le-zero}
use native.Mathlib.Numerals.{add-one}
use borrow.Author.Count.{below_more}
use mathlib.Core.Path.{◌≡◌, refl, sym, ap, subst, ◌∙◌}
use mathlib.Core.Logic.{inl, inr}
use mathlib.Core.Bool.{true}
use mathlib.Core.List.{List, [], ◌∷◌, ◌++◌, map}
use lib.IntN.{ℤ, pos}
use lib.ListN.{length, get_or, take, drop, set, length-drop, length-take, length-set, length-map}
use lib.Seq.{take_all, take-suc, take-suc-set, take-set-le, drop-set-add, drop-set-lt, get_or-set_same, get_or-set_other}
use Rattle.qbf.specs.Formula.{Limits, paper, highest, Prefix, Literal, place}
use Rattle.qbf.specs.Learning.{Constraint}
use Rattle.qbf.specs.Card.{Mem}
use Rattle.qbf.specs.Calls.{numbers_are_ok}
use Rattle.tables.specs.Views.{Numbers, rows, rows_of}
use Rattle.tables.specs.Codes.{code_of, codes}
use Rattle.tables.specs.Shelves.{Entries, entries_of, newest_of, base_of, length_at, row_at}
use Rattle.tables.proofs.Laws.{before, rows_suc, rows_zero}
use Rattle.lent_rows.specs.Held.{Held}
use Rattle.unloading.specs.declared.lent.LentTable.{LentTable}
use Rattle.unloading.specs.Table.{Same}
use Rattle.unloading.specs.Written.{Narrow, entry_at, Unloaded}
use Rattle.theory.proofs.Game.{Rising}
use Rattle.theory.proofs.Widths.{constraint_width}
use Rattle.shelf.proofs.Slots.{length_short}
use Rattle.shelf.proofs.Ring.{ring_length, ring_at}
use Rattle.lent_rows.proofs.Rows.{rows_kept}

-- ---- elements of lists
-- the image of the element at i
map_at : {A B : Type 0} (f : A → B) (xs : List A) (i : ℕ) (d : A) (z : B) → i < length xs → f (get_or xs i d) ≡ get_or (map f xs) i z
map_at f [] i d z h = absurd (not-suc-le-zero h)
map_at f (x ∷ xs) zero d z h = refl
map_at f (x ∷ xs) (suc i) d z h = map_at f xs i d z (le_of_suc-le-suc h)

-- the element at i is one of the list
mem_at : {A : Type 0} (xs : List A) (i : ℕ) (d : A) → i < length xs → Mem (get_or xs i d) xs
mem_at [] i d h = absurd (not-suc-le-zero h)
mem_at (x ∷ xs) zero d h = inl refl
mem_at (x ∷ xs) (suc i) d h = inr (mem_at xs i d (le_of_suc-le-suc h))

-- ---- the literals of a row's codes: the first i are written, from `at` on
pub record Decoding (numbers r : List ℕ) (at : ℕ) (f₀ : List ℤ) (i : ℕ) (f : List ℤ) : Type 0 where
  pub size : length f ≡ length f₀
  pub kept : take at f ≡ take at f₀
  pub is : (D : Prefix) (e : Constraint) → Numbers D numbers → numbers_are_ok highest [] D ≡ true → r ≡ codes D e
      → ((l : Literal) → Mem l e → 1 ≤ place D l) → take i (drop at f) ≡ take i e

-- none yet
pub decode_none : (numbers r : List ℕ) (at : ℕ) (f₀ : List ℤ) → Decoding numbers r at f₀ 0 f₀
decode_none numbers r at f₀ = record { size = refl; kept = refl; is = λ D e n o p q. refl }

-- the literal of code i too
pub decode_more : {numbers r : List ℕ} {at : ℕ} {f₀ : List ℤ} {i : ℕ} {f : List ℤ} → Decoding numbers r at f₀ i f
    → i < length r → at + i < length f₀ → {v : ℤ}
    → ((D : Prefix) (l : Literal) → Numbers D numbers → numbers_are_ok highest [] D ≡ true → code_of D l ≡ get_or r i 0 → 1 ≤ place D l → v ≡ l)
    → Decoding numbers r at f₀ (i + 1) (set f (at + i) v)
decode_more {numbers} {r} {at} {f₀} {i} {f} inv low room {v} h = record {
  size = length-set f (at + i) v ∙ inv.size;
  kept = take-set-le at f (at + i) v (omega arith) ∙ inv.kept;
  is = λ D e n o p q.
      let long : length r ≡ length e = ap length p ∙ length-map e (code_of D) in
      let lt : i < length e = omega arith in
      ap (λ (j : ℕ). take j (drop at (set f (at + i) v))) (add-one i)
      ∙ ap (take (suc i)) (drop-set-add at f i v)
      ∙ take-suc-set (drop at f) i v (simp length-drop (omega (arith, inv.size)))
      ∙ ap (λ (xs : List ℤ). xs ++ (v ∷ [])) (inv.is D e n o p q)
      ∙ ap (λ (x : ℤ). take i e ++ (x ∷ []))
      (h D (get_or e i (pos 0)) n o (map_at (code_of D) e i (pos 0) 0 lt ∙ ap (λ (xs : List ℕ). get_or xs i 0) (sym p)) (q (get_or e i (pos 0)) (mem_at e i (pos 0) lt)))
      ∙ sym (take-suc e i (pos 0) lt)
      ∙ ap (λ (j : ℕ). take j e) (sym (add-one i));
}

-- all literals of the row
pub decode_end : {numbers r : List ℕ} {at : ℕ} {f₀ : List ℤ} {i : ℕ} {f : List ℤ} → Decoding numbers r at f₀ i f → i ≡ length r
    → (length f ≡ length f₀) × (take at f ≡ take at f₀)
    × ((D : Prefix) (e : Constraint) → Numbers D numbers → numbers_are_ok highest [] D ≡ true → r ≡ codes D e
    → ((l : Literal) → Mem l e → 1 ≤ place D l) → take (length r) (drop at f) ≡ e)
decode_end {numbers} {r} {at} {f₀} {i} {f} inv z = (
  inv.size,
  inv.kept,
  λ D e n o p q.
      let long : length r ≡ length e = ap length p ∙ length-map e (code_of D) in
      ap (λ (j : ℕ). take j (drop at f)) (sym z) ∙ inv.is D e n o p q ∙ take_all i e (omega arith),
)

-- ---- one row of a shelf, found in its slot
pub unload_row : (w : ℕ) (numbers cells links : List ℕ) (k slot : ℕ) (f f' : List ℤ) (l r : List ℕ)
    → slot ≡ (base_of paper.constraints links + k) % paper.constraints → r ≡ row_at highest.numbers cells slot → length r ≤ w
    → k < paper.constraints → suc paper.constraints ≤ length l → length f' ≡ length f → take (k * w) f' ≡ take (k * w) f
    → ((D : Prefix) (e : Constraint) → Numbers D numbers → numbers_are_ok highest [] D ≡ true → r ≡ codes D e
    → ((x : Literal) → Mem x e → 1 ≤ place D x) → take (length r) (drop (k * w) f') ≡ e)
    → Unloaded w numbers (entry_at cells links k) k f l f' (set l (k + 1) (length r))
unload_row w numbers cells links k slot f f' l r z y small low counted room kept h =
    let same : r ≡ entry_at cells links k = y ∙ ap (row_at highest.numbers cells) z in
    let size : get_or (set l (k + 1) (length r)) (suc k) 0 ≡ length r =
    ap (λ (j : ℕ). get_or (set l (k + 1) (length r)) j 0) (sym (add-one k)) ∙ get_or-set_same l (k + 1) (length r) 0 (omega arith)
    in
    record {
      room = room;
      short = subst (λ (xs : List ℕ). length xs ≤ w) same small;
      sizes = ap (λ (j : ℕ). set l j (length r)) (add-one k) ∙ ap (λ (xs : List ℕ). set l (suc k) (length xs)) same;
      kept = kept;
      is = λ D e n o p q. ap (λ (j : ℕ). take j (drop (k * w) f')) size ∙ h D e n o (same ∙ p) q;
    }

-- ---- the same table
pub same_table : {t : LentTable} → Same t t
same_table = record { cells = refl; sizes = refl; width = refl }

pub same_then : {t u v : LentTable} → Same t u → Same u v → Same t v
same_then p q = record { cells = q.cells ∙ p.cells; sizes = q.sizes ∙ p.sizes; width = q.width ∙ p.width }

-- ---- the rows of a shelf: the first k are written
pub record Unloading (w : ℕ) (numbers cells links l₀ : List ℕ) (k : ℕ) (f : List ℤ) (l : List ℕ) : Type 0 where
  pub room : paper.constraints * w ≤ length f
  pub counted : suc paper.constraints ≤ length l
  pub size : length l ≡ length l₀
  pub behind : drop (suc paper.constraints) l ≡ drop (suc paper.constraints) l₀
  pub short : (j : ℕ) → j < k → get_or l (suc j) 0 ≤ w
  pub is : (D : Prefix) (es : List Constraint) → Numbers D numbers → numbers_are_ok highest [] D ≡ true → entries_of cells links ≡ map (codes D) es
      → ((e : Constraint) → Mem e es → (x : Literal) → Mem x e → 1 ≤ place D x) → rows w f l k ≡ take k es

-- none yet
pub unload_none : (w : ℕ) (numbers cells links : List ℕ) (f : List ℤ) (l : List ℕ) → paper.constraints * w ≤ length f → suc paper.constraints ≤ length l
    → Unloading w numbers cells links l 0 f l
unload_none w numbers cells links f l r c = record {
  room = r;
  counted = c;
  size = refl;
  behind = refl;
  short = λ j h. absurd (not-suc-le-zero h);
  is = λ D es n o p q. rows_zero w f l;
}

module _ (cells links : List ℕ) where
  -- how many rows stand
  abbrev stand : ℕ
  stand = newest_of links - base_of paper.constraints links

  -- as many constraints as rows that stand
  as_many : (D : Prefix) (es : List Constraint) → entries_of cells links ≡ map (codes D) es → length es ≡ stand
  as_many D es p =
      sym (length-map es (codes D)) ∙ sym (ap length p) ∙ ring_length highest.numbers paper.constraints cells (base_of paper.constraints links) stand

  -- the row that stands at index k is that constraint in codes
  entry_is : (D : Prefix) (es : List Constraint) (k : ℕ) → entries_of cells links ≡ map (codes D) es → k < stand → entry_at cells links k ≡ codes D (get_or es k [])
  entry_is D es k p h =
      sym (ring_at highest.numbers paper.constraints cells (base_of paper.constraints links) stand k h)
      ∙ ap (λ (xs : List (List ℕ)). get_or xs k []) p
      ∙ sym (map_at (codes D) es k [] [] (omega (arith, as_many D es p)))

  -- row k too
  pub unload_more : {w : ℕ} {numbers l₀ : List ℕ} {k : ℕ} {f : List ℤ} {l : List ℕ} → Unloading w numbers cells links l₀ k f l → k < stand
      → (f' : List ℤ) (l' : List ℕ) → Unloaded w numbers (entry_at cells links k) k f l f' l'
      → Unloading w numbers cells links l₀ (k + 1) f' l'
  unload_more {w} {numbers} {l₀} {k} {f} {l} inv low f' l' u =
      let few : k < paper.constraints = omega arith in
      let other : (j : ℕ) → j < k → get_or l' (suc j) 0 ≡ get_or l (suc j) 0 =
      λ j m. ap (λ (xs : List ℕ). get_or xs (suc j) 0) u.sizes ∙ get_or-set_other l (suc k) (suc j) (length (entry_at cells links k)) 0 (omega arith)
      in
      let same : get_or l' (suc k) 0 ≡ length (entry_at cells links k) =
      ap (λ (xs : List ℕ). get_or xs (suc k) 0) u.sizes ∙ get_or-set_same l (suc k) (length (entry_at cells links k)) 0 (omega (arith, inv.counted))
      in
      record {
        room = omega (arith, u.room, inv.room);
        counted = omega (arith, ap length u.sizes, length-set l (suc k) (length (entry_at cells links k)), inv.counted);
        size = ap length u.sizes ∙ length-set l (suc k) (length (entry_at cells links k)) ∙ inv.size;
        behind = ap (drop (suc paper.constraints)) u.sizes ∙ drop-set-lt (suc paper.constraints) l (suc k) (length (entry_at cells links k)) (omega (arith, few)) ∙ inv.behind;
        short = below_more (λ (j : ℕ). get_or l' (suc j) 0 ≤ w) k (λ j m. rw (other j m) (inv.short j m)) (rw same u.short);
        is = λ D es n o p q.
            let lt : k < length es = omega (arith, as_many D es p) in
            ap (rows w f' l') (add-one k)
            ∙ rows_suc w f' l' k
            ∙ ap (λ (x : List ℤ). rows w f' l' k ++ (x ∷ []))
            (u.is D (get_or es k []) n o (entry_is D es k p low) (q (get_or es k []) (mem_at es k [] lt)))
            ∙ ap (λ (xs : List Constraint). xs ++ (get_or es k [] ∷ []))
            (rows_kept w k f f' l l' u.kept other inv.short ∙ inv.is D es n o p q)
            ∙ sym (take-suc es k [] lt)
            ∙ ap (λ (j : ℕ). take j es) (sym (add-one k));
      }

  -- every row that stands, and their number in the first cell
  ended : {w : ℕ} {numbers l₀ : List ℕ} {k : ℕ} {f : List ℤ} {l : List ℕ} → Unloading w numbers cells links l₀ k f l → k ≡ stand
      → Held w paper.constraints f (set l 0 k)
      × ((D : Prefix) (es : List Constraint) → Numbers D numbers → numbers_are_ok highest [] D ≡ true → entries_of cells links ≡ map (codes D) es
      → ((e : Constraint) → Mem e es → (x : Literal) → Mem x e → 1 ≤ place D x) → rows_of w f (set l 0 k) ≡ es)
      × (get_or (set l 0 k) 0 0 ≡ stand)
      × (drop (suc paper.constraints) (set l 0 k) ≡ drop (suc paper.constraints) l₀)
  ended {w} {numbers} {l₀} {k} {f} {l} inv z =
      let count : get_or (set l 0 k) 0 0 ≡ k = get_or-set_same l 0 k 0 (omega (arith, inv.counted)) in
      let other : (j : ℕ) → j < k → get_or (set l 0 k) (suc j) 0 ≡ get_or l (suc j) 0 = λ j m. get_or-set_other l 0 (suc j) k 0 (omega arith) in (
        record {
          counted = omega (arith, length-set l 0 k, inv.counted, count);
          few = rw count (omega arith);
          short = rw count (λ j m. rw (other j m) (inv.short j m));
          inside = rw count (λ j m. rw (other j m) (omega (arith, inv.short j m, inv.room, before w j paper.constraints (omega (arith, m, z)))));
        },
        λ D es n o p q.
            ap (rows w f (set l 0 k)) count
            ∙ rows_kept w k f f l (set l 0 k) refl other inv.short
            ∙ inv.is D es n o p q
            ∙ take_all k es (omega (arith, as_many D es p)),
        count ∙ z,
        drop-set-lt (suc paper.constraints) l 0 k (omega arith) ∙ inv.behind,
      )

  -- .. where the code has the number by another name
  pub unload_end : {w : ℕ} {numbers l₀ : List ℕ} {k : ℕ} {f : List ℤ} {l : List ℕ} → Unloading w numbers cells links l₀ k f l → (n : ℕ) → k ≡ n → n ≡ stand
      → Held w paper.constraints f (set l 0 n)
      × ((D : Prefix) (es : List Constraint) → Numbers D numbers → numbers_are_ok highest [] D ≡ true → entries_of cells links ≡ map (codes D) es
      → ((e : Constraint) → Mem e es → (x : Literal) → Mem x e → 1 ≤ place D x) → rows_of w f (set l 0 n) ≡ es)
      × (get_or (set l 0 n) 0 0 ≡ stand)
      × (drop (suc paper.constraints) (set l 0 n) ≡ drop (suc paper.constraints) l₀)
  unload_end {w} {numbers} {l₀} {k} {f} {l} inv n e z = ended (subst (λ (j : ℕ). Unloading w numbers cells links l₀ j f l) e inv) z

-- a shelf's rows are no longer than its stride
pub entries_narrow : {cells links : List ℕ} → Entries cells links → Narrow highest.numbers cells links
entries_narrow {cells} {links} s k h =
    omega (
      arith,
      length-take (length_at highest.numbers cells j) (drop (suc (j * suc highest.numbers)) cells),
      length_short highest.numbers cells j,
    )
  where
    j : ℕ
    j = (base_of paper.constraints links + k) % paper.constraints

-- nor than the limit for numbers, where they are constraints in place order
pub constraints_narrow : (cells links : List ℕ) (L : Limits) (D : Prefix) (es : List Constraint) → entries_of cells links ≡ map (codes D) es → numbers_are_ok L [] D ≡ true
    → ((e : Constraint) → Mem e es → Rising D 0 e) → Narrow L.numbers cells links
constraints_narrow cells links L D es p o r k h =
    let e = get_or es k [] in
    omega (
      arith,
      ap length (entry_is cells links D es k p h),
      length-map e (code_of D),
      constraint_width L D e o (r e (mem_at es k [] (omega (arith, as_many cells links D es p)))),
    )
