-- The book in what was read: its lines counted, and one that has not ended.
use Prim.Native.Nat.{ℕ, suc, ◌+◌, ◌≤◌}
use mathlib.Core.Path.{◌≡◌, refl, sym, ap, ◌∙◌}
use mathlib.Core.Bool.{Bool, true, false, cond}
use mathlib.Core.List.{List, [], ◌∷◌, ◌++◌}
use native.Mathlib.Omega.{arith}
use borrow.Author.Tests.{eqb-true}
use lib.Dec.{eqb}
use lib.ListN.{length}
use Rattle.layout.specs.Words.{Bytes, newline, on_first, split, same}
use Rattle.layout.specs.Session.{end_line, Parted, onto, parted}
use Rattle.feeding.proofs.Lines.{split_some}
use Rattle.reader.specs.Books.{count_of_lines}

-- ---- a book without its line `(end)` is all there is
abbrev unsplit : List Bytes → Bytes
unsplit [] = []
unsplit (l ∷ []) = l
unsplit (l ∷ m ∷ ls) = l ++ (newline ∷ unsplit (m ∷ ls))

unsplit_split : (s : Bytes) → unsplit (split newline s) ≡ s
unfolding split
unsplit_split [] = refl
unsplit_split (b ∷ s) = by (eqb b newline) refl (unsplit_split s)
  where
    line : (vs : List Bytes) → (w : Bytes) × (ws : List Bytes) × (vs ≡ w ∷ ws) → unsplit ([] ∷ vs) ≡ newline ∷ unsplit vs
    line [] r = absurd (let z : ◌≡◌ {A = ℕ} 0 1 = cc in omega (arith, z))
    line (v ∷ vs) r = refl

    byte : (vs : List Bytes) → (w : Bytes) × (ws : List Bytes) × (vs ≡ w ∷ ws) → unsplit (on_first b vs) ≡ b ∷ unsplit vs
    byte [] r = absurd (let z : ◌≡◌ {A = ℕ} 0 1 = cc in omega (arith, z))
    byte (v ∷ []) r = refl
    byte (v ∷ w ∷ vs) r = refl

    by : (t : Bool) → eqb b newline ≡ t → unsplit (split newline s) ≡ s → unsplit (cond t ([] ∷ split newline s) (on_first b (split newline s))) ≡ b ∷ s
    by true e go = line (split newline s) (split_some newline s) ∙ (λ i. sym (eqb-true b newline e) i ∷ go i)
    by false e go = byte (split newline s) (split_some newline s) ∙ ap (λ (u : Bytes). b ∷ u) go

parted_unsplit : (ls : List Bytes) → (parted ls).rest ≡ [] → (parted ls).book ≡ unsplit ls
unfolding parted
parted_unsplit [] e = refl
parted_unsplit (l ∷ []) e = refl
parted_unsplit (l ∷ m ∷ ls) e = by (same l end_line) e (parted_unsplit (m ∷ ls))
  where
    is : Bool → Parted
    is t = cond t (record { book = l ++ (newline ∷ []); count = 1; rest = m ∷ ls }) (onto l (parted (m ∷ ls)))

    by : (t : Bool) → (is t).rest ≡ [] → ((parted (m ∷ ls)).rest ≡ [] → (parted (m ∷ ls)).book ≡ unsplit (m ∷ ls)) → (is t).book ≡ l ++ (newline ∷ unsplit (m ∷ ls))
    by true q go = absurd (let z : ◌≡◌ {A = ℕ} 0 1 = cc in omega (arith, z))
    by false q go = ap (λ (u : Bytes). l ++ (newline ∷ u)) (go q)

pub all_book : (s : Bytes) → (parted (split newline s)).rest ≡ [] → (parted (split newline s)).book ≡ s
all_book s e = parted_unsplit (split newline s) e ∙ unsplit_split s

-- ---- the lines of a book
abbrev NoLine : List Bytes → Type 0
NoLine [] = Unit {0}
NoLine (l ∷ ls) = (count_of_lines l ≡ 0) × NoLine ls

split_free : (s : Bytes) → NoLine (split newline s)
unfolding split count_of_lines
split_free [] = (refl, tt)
split_free (b ∷ s) = by (eqb b newline) refl (split_free s)
  where
    byte : eqb b newline ≡ false → (vs : List Bytes) → NoLine vs → NoLine (on_first b vs)
    byte e [] r = (ap (λ (t : Bool). cond t 1 0 + 0) e, tt)
    byte e (v ∷ vs) r = (ap (λ (t : Bool). cond t 1 0 + count_of_lines v) e ∙ (let z : 0 + count_of_lines v ≡ 0 = omega (arith, r.0) in z), r.1)

    by : (t : Bool) → eqb b newline ≡ t → NoLine (split newline s) → NoLine (cond t ([] ∷ split newline s) (on_first b (split newline s)))
    by true e go = (refl, go)
    by false e go = byte e (split newline s) go

count_append : (s t : Bytes) → count_of_lines (s ++ t) ≡ count_of_lines s + count_of_lines t
unfolding count_of_lines
count_append [] t = omega arith
count_append (b ∷ s) t = let z : (k m n : ℕ) → k + (m + n) ≡ k + m + n = λ k m n. omega arith in ap (λ (k : ℕ). cond (eqb b newline) 1 0 + k) (count_append s t) ∙ z (cond (eqb b newline) 1 0) (count_of_lines s) (count_of_lines t)

count_line : (l u : Bytes) → count_of_lines l ≡ 0 → count_of_lines (l ++ (newline ∷ u)) ≡ suc (count_of_lines u)
unfolding count_of_lines
count_line l u e = count_append l (newline ∷ u) ∙ (let z : count_of_lines l + (1 + count_of_lines u) ≡ suc (count_of_lines u) = omega (arith, e) in z)

count_parted : (ls : List Bytes) → NoLine ls → count_of_lines (parted ls).book ≡ (parted ls).count
unfolding parted count_of_lines
count_parted [] h = refl
count_parted (l ∷ []) h = h.0
count_parted (l ∷ m ∷ ls) h = by (same l end_line) (count_parted (m ∷ ls) h.1)
  where
    is : Bool → Parted
    is t = cond t (record { book = l ++ (newline ∷ []); count = 1; rest = m ∷ ls }) (onto l (parted (m ∷ ls)))

    by : (t : Bool) → count_of_lines (parted (m ∷ ls)).book ≡ (parted (m ∷ ls)).count → count_of_lines (is t).book ≡ (is t).count
    by true go = count_line l [] h.0
    by false go = count_line l (parted (m ∷ ls)).book h.0 ∙ ap suc go

pub count_book : (s : Bytes) → count_of_lines (parted (split newline s)).book ≡ (parted (split newline s)).count
count_book s = count_parted (split newline s) (split_free s)

pub count_few : (s : Bytes) → count_of_lines s ≤ length s
unfolding count_of_lines
count_few [] = omega arith
count_few (b ∷ s) = by (eqb b newline) (count_few s)
  where
    by : (t : Bool) → count_of_lines s ≤ length s → cond t 1 0 + count_of_lines s ≤ suc (length s)
    by true h = omega (arith, h)
    by false h = omega (arith, h)
