-- The links of rows: without the oldest row, and with one row more.
use Prim.Native.Nat.{ℕ, suc, ◌+◌, ◌*◌, ◌%◌, ◌≤◌, ◌<◌}
use native.Mathlib.Omega.{arith}
use mathlib.Core.Path.{◌≡◌, refl, sym, ap, subst, ◌∙◌}
use mathlib.Core.Logic.{◌⊎◌, inl, inr}
use mathlib.Core.Bool.{Bool, true, false, cond}
use mathlib.Core.List.{List, [], ◌∷◌, ◌++◌}
use borrow.Author.Tests.{eqb-true, eqb-false}
use lib.ListN.{length, get_or, take, set, length-append, length-set, get_or-append}
use lib.Seq.{get_or_at, take_at, take-append-le, get_or-set_same, get_or-set_other}
use lib.Dec.{ltb}
use Rattle.std.proofs.lemmas.Bool.{lt-ltb}
use Rattle.theory.proofs.Basics.{le_or_lt}
use Rattle.tables.specs.Codes.{last_code}
use Rattle.tables.specs.Shelves.{code_count, head_of, mark_of, newest_of, link_of, base_of, shelf_rows, ends_in, newest, Points, Shelf}
use Rattle.shelf.proofs.Newest.{points_same, points_drop, newest_snoc}
use Rattle.shelf.proofs.Slots.{slots_differ}

-- the rows with the numbers after `base` are linked
pub record Linked (slots : ℕ) (links : List ℕ) (base : ℕ) (rows : List (List ℕ)) : Type 0 where
  pub head : (c : ℕ) → c < code_count → Points base (newest (ends_in c) rows) (head_of links c)
  pub link : (i : ℕ) → i < length rows
      → Points base (newest (ends_in (last_code (get_or rows i []))) (take i rows)) (link_of links ((base + i) % slots))

-- the same base and rows
pub linked_same : (slots : ℕ) (links : List ℕ) (b b' : ℕ) (r r' : List (List ℕ)) → b ≡ b' → r ≡ r' → Linked slots links b r → Linked slots links b' r'
linked_same slots links b b' r r' e e' l =
    subst (λ (rows : List (List ℕ)). Linked slots links b' rows) e' (subst (λ (base : ℕ). Linked slots links base r) e l)

-- the rows of a shelf are linked
pub shelf_linked : {stride slots : ℕ} {cells links : List ℕ} → Shelf stride slots cells links
    → Linked slots links (base_of slots links) (shelf_rows stride slots cells links)
shelf_linked shelf = record { head = shelf.head; link = shelf.link }

-- tables whose rows are linked are a shelf
pub linked_shelf : (stride slots : ℕ) (cells links : List ℕ) → length cells ≡ slots * suc stride → length links ≡ suc (suc code_count) + slots
    → (base : ℕ) (rows : List (List ℕ)) → base_of slots links ≡ base → shelf_rows stride slots cells links ≡ rows → Linked slots links base rows
    → Shelf stride slots cells links
linked_shelf stride slots cells links room linked base rows e e' l =
    let all = linked_same slots links base (base_of slots links) rows (shelf_rows stride slots cells links) (sym e) (sym e') l in
    record { room = room; linked = linked; head = all.head; link = all.link }

-- the oldest row goes
pub linked_drop : (slots : ℕ) (links : List ℕ) (base : ℕ) (x : List ℕ) (rows : List (List ℕ))
    → Linked slots links base (x ∷ rows) → Linked slots links (suc base) rows
linked_drop slots links base x rows l = record {
  head = λ c low. points_drop (ends_in c) x rows base (head_of links c) (l.head c low);
  link = λ i low.
      let z : base + suc i ≡ suc base + i = omega arith in
      subst (λ (k : ℕ). Points (suc base) (newest (ends_in (last_code (get_or rows i []))) (take i rows)) (link_of links (k % slots))) z
      (points_drop (ends_in (last_code (get_or rows i []))) x (take i rows) base (link_of links ((base + suc i) % slots)) (l.link (suc i) (omega arith)));
}

-- ---- the links after a row with the last code `code` was put into a slot
abbrev pub relinked : List ℕ → ℕ → ℕ → ℕ → List ℕ
relinked links code slot n = set (set (set links (suc (suc code_count) + slot) (get_or links code 0)) code (suc n)) code_count (suc n)

-- below the mark the number of a code is what its cell has
below_mark : (links : List ℕ) (c : ℕ) → c < mark_of links → head_of links c ≡ get_or links c 0
below_mark links c h = ap (λ (b : Bool). cond b (get_or links c 0) 0) (lt-ltb c (mark_of links) h)

module _ (links : List ℕ) (code slot n : ℕ) (low : code < code_count) (above : code < mark_of links) (within : suc (suc code_count) + slot < length links) where
  abbrev first : List ℕ
  first = set links (suc (suc code_count) + slot) (get_or links code 0)

  abbrev second : List ℕ
  second = set first code (suc n)

  first_long : length first ≡ length links
  first_long = length-set links (suc (suc code_count) + slot) (get_or links code 0)

  second_long : length second ≡ length links
  second_long = length-set first code (suc n) ∙ first_long

  -- what each cell has afterwards
  pub relinked_long : length (relinked links code slot n) ≡ length links
  relinked_long = length-set second code_count (suc n) ∙ second_long

  pub relinked_newest : newest_of (relinked links code slot n) ≡ suc n
  relinked_newest = get_or-set_same second code_count (suc n) 0 (omega (arith, second_long))

  relinked_mark : mark_of (relinked links code slot n) ≡ mark_of links
  relinked_mark =
      get_or-set_other second code_count (suc code_count) (suc n) 0 (λ e. omega arith)
      ∙ get_or-set_other first code (suc code_count) (suc n) 0 (λ e. omega arith)
      ∙ get_or-set_other links (suc (suc code_count) + slot) (suc code_count) (get_or links code 0) 0 (λ e. omega arith)

  pub relinked_head : head_of (relinked links code slot n) code ≡ suc n
  relinked_head =
      below_mark (relinked links code slot n) code (rw relinked_mark above)
      ∙ get_or-set_other second code_count code (suc n) 0 (λ e. omega arith)
      ∙ get_or-set_same first code (suc n) 0 (omega (arith, first_long))

  pub relinked_other_head : (c : ℕ) → c < code_count → (code ≡ c → ⊥) → head_of (relinked links code slot n) c ≡ head_of links c
  relinked_other_head c h ne =
      ap (λ (m : ℕ). cond (ltb c m) (get_or (relinked links code slot n) c 0) 0) relinked_mark
      ∙ ap (λ (k : ℕ). cond (ltb c (mark_of links)) k 0)
      (get_or-set_other second code_count c (suc n) 0 (λ e. omega arith)
      ∙ get_or-set_other first code c (suc n) 0 (λ e. ne (sym e))
      ∙ get_or-set_other links (suc (suc code_count) + slot) c (get_or links code 0) 0 (λ e. omega arith))

  pub relinked_link : link_of (relinked links code slot n) slot ≡ head_of links code
  relinked_link =
      get_or-set_other second code_count (suc (suc code_count) + slot) (suc n) 0 (λ e. omega arith)
      ∙ get_or-set_other first code (suc (suc code_count) + slot) (suc n) 0 (λ e. omega arith)
      ∙ get_or-set_same links (suc (suc code_count) + slot) (get_or links code 0) 0 within
      ∙ sym (below_mark links code above)

  pub relinked_other_link : (j : ℕ) → (j ≡ slot → ⊥) → link_of (relinked links code slot n) j ≡ link_of links j
  relinked_other_link j ne =
      get_or-set_other second code_count (suc (suc code_count) + j) (suc n) 0 (λ e. omega arith)
      ∙ get_or-set_other first code (suc (suc code_count) + j) (suc n) 0 (λ e. omega arith)
      ∙ get_or-set_other links (suc (suc code_count) + slot) (suc (suc code_count) + j) (get_or links code 0) 0 (λ e. ne (omega arith))

-- one row more, with the number after the newest
module _ (slots : ℕ) (links : List ℕ) (base : ℕ) (rows : List (List ℕ)) (row : List ℕ) (slot n : ℕ)
    (l : Linked slots links base rows)
    (low : last_code row < code_count)
    (above : last_code row < mark_of links)
    (within : suc (suc code_count) + slot < length links)
    (room : length rows < slots)
    (number : n ≡ base + length rows)
    (slot_is : slot ≡ n % slots) where
  abbrev links' : List ℕ
  links' = relinked links (last_code row) slot n

  abbrev rows' : List (List ℕ)
  rows' = rows ++ (row ∷ [])

  -- the newest row that ends in c is the new one, or the one that was
  new_head : (c : ℕ) → c < code_count → (b : Bool) → ends_in c row ≡ b
      → Points base (cond b (suc (length rows)) (newest (ends_in c) rows)) (head_of links' c)
  new_head c h true e =
      ap (head_of links') (sym (eqb-true (last_code row) c e))
      ∙ relinked_head links (last_code row) slot n low above within
      ∙ omega (arith, number)
  new_head c h false e =
      points_same base base (newest (ends_in c) rows) (head_of links c) (head_of links' c) refl
      (sym (relinked_other_head links (last_code row) slot n low above within c h (eqb-false (last_code row) c e)))
      (l.head c h)

  -- the links of the rows that stood, and of the new one
  old_link : (i : ℕ) → i < length rows
      → Points base (newest (ends_in (last_code (get_or rows i []))) (take i rows)) (link_of links' ((base + i) % slots))
  old_link i h =
      points_same base base (newest (ends_in (last_code (get_or rows i []))) (take i rows))
      (link_of links ((base + i) % slots)) (link_of links' ((base + i) % slots)) refl
      (sym
      (relinked_other_link links (last_code row) slot n low above within ((base + i) % slots)
      (λ e. slots_differ slots base i (length rows) h (omega arith) (e ∙ slot_is ∙ ap (λ (k : ℕ). k % slots) number))))
      (l.link i h)

  new_link : Points base (newest (ends_in (last_code row)) rows) (link_of links' ((base + length rows) % slots))
  new_link =
      points_same base base (newest (ends_in (last_code row)) rows) (head_of links (last_code row)) (link_of links' ((base + length rows) % slots)) refl
      (sym
      (ap (link_of links') (sym (slot_is ∙ ap (λ (k : ℕ). k % slots) number))
      ∙ relinked_link links (last_code row) slot n low above within))
      (l.head (last_code row) low)

  link_at : (i : ℕ) (r : List ℕ) (rs : List (List ℕ)) → get_or rows' i [] ≡ r → take i rows' ≡ rs
      → Points base (newest (ends_in (last_code r)) rs) (link_of links' ((base + i) % slots))
      → Points base (newest (ends_in (last_code (get_or rows' i []))) (take i rows')) (link_of links' ((base + i) % slots))
  link_at i r rs e e' p =
      subst (λ (x : List ℕ). Points base (newest (ends_in (last_code x)) (take i rows')) (link_of links' ((base + i) % slots))) (sym e)
      (subst (λ (xs : List (List ℕ)). Points base (newest (ends_in (last_code r)) xs) (link_of links' ((base + i) % slots))) (sym e') p)

  any_link : (i : ℕ) → i < length rows' → (length rows ≤ i) ⊎ (i < length rows)
      → Points base (newest (ends_in (last_code (get_or rows' i []))) (take i rows')) (link_of links' ((base + i) % slots))
  any_link i h (inl k) =
      let z : length rows ≡ i = omega (arith, length-append rows (row ∷ [])) in
      link_at i row rows (get_or_at rows row [] [] i z) (take_at rows (row ∷ []) i z)
      (subst (λ (j : ℕ). Points base (newest (ends_in (last_code row)) rows) (link_of links' ((base + j) % slots))) z new_link)
  any_link i h (inr k) =
      link_at i (get_or rows i []) (take i rows) (get_or-append rows (row ∷ []) [] i k) (take-append-le i rows (row ∷ []) (omega arith)) (old_link i k)

  pub linked_push : Linked slots links' base rows'
  linked_push = record {
    head = λ c h. rw newest_snoc (new_head c h (ends_in c row) refl);
    link = λ i h. any_link i h (le_or_lt (length rows) i);
  }
