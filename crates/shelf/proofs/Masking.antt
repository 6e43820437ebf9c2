-- The words of rows: a word that has all bits of a row has the row's word within it.
use Prim.Native.Nat.{ℕ, ◌+◌, ◌/◌, ◌<◌}
use native.Mathlib.Omega.{arith}
use native.Mathlib.Numerals.{add-one}
use mathlib.Core.Path.{◌≡◌, refl, sym, ap, ap₂, subst, ◌∙◌}
use mathlib.Core.Logic.{◌⊎◌, inl, inr}
use mathlib.Core.Bool.{true, false}
use mathlib.Core.List.{List, [], ◌∷◌, ◌++◌}
use lib.Arith.{bin_ind}
use lib.Bits.{bit_and, bit_or, and_step, or_step, and_shr, or_shr, and_comm, or_comm}
use lib.ListN.{length, get_or, take, set, length-set, replicate, length-replicate}
use lib.Dec.{eqb}
use lib.Seq.{take-suc, get_or-set_same, get_or-set_other}
use Rattle.std.proofs.lemmas.List.{get_or-replicate}
use Rattle.std.proofs.lemmas.Nat.{and_assoc, and_or_self}
use Rattle.std.specs.Int.Bits.{and_zero_r}
use Rattle.theory.proofs.Basics.{dichotomy, and_left, and_right, and_both, eqb_true, false_eqb}
use Rattle.tables.specs.Codes.{all_are}
use Rattle.tables.specs.Shelves.{row_at}
use Rattle.shelf.specs.Masks.{bit, Masks, Masked}

-- ---- words
pub and_or : (c a b : ℕ) → bit_and (bit_or a b) c ≡ bit_or (bit_and a c) (bit_and b c)
and_or =
    bin_ind (λ (c : ℕ). (a b : ℕ) → bit_and (bit_or a b) c ≡ bit_or (bit_and a c) (bit_and b c))
    (λ a b. and_zero_r (bit_or a b) ∙ sym (ap₂ bit_or (and_zero_r a) (and_zero_r b)))
    (λ c ih a b.
    let p : bit_and (bit_or a b / 2) (c / 2) ≡ bit_or (bit_and a c / 2) (bit_and b c / 2) =
    ap (λ (x : ℕ). bit_and x (c / 2)) (or_shr a b 1) ∙ ih (a / 2) (b / 2) ∙ sym (ap₂ bit_or (and_shr a c 1) (and_shr b c 1)) in
    omega (arith, and_step (bit_or a b) c, or_step (bit_and a c) (bit_and b c), or_step a b, and_step a c, and_step b c))

-- two words within a third are within it together
pub both_within : (w m n : ℕ) → bit_and m w ≡ m → bit_and n w ≡ n → bit_and (bit_or m n) w ≡ bit_or m n
both_within w m n p q = and_or w m n ∙ ap₂ bit_or p q

-- a word within another is within it with more
pub within_more : (w x m : ℕ) → bit_and m w ≡ m → bit_and m (bit_or w x) ≡ m
within_more w x m p =
    ap (λ (k : ℕ). bit_and k (bit_or w x)) (sym p)
    ∙ and_assoc (bit_or w x) m w
    ∙ ap (bit_and m) (and_comm w (bit_or w x) ∙ ap (λ (k : ℕ). bit_and k w) (or_comm w x) ∙ and_or_self w x)
    ∙ p

-- .. as is what it was united with
pub within_new : (w m : ℕ) → bit_and m (bit_or w m) ≡ m
within_new w m = and_comm m (bit_or w m) ∙ and_or_self m w

-- ---- the word of a row, code by code
pub masks_none : (row : List ℕ) → Masks 0 row
masks_none row = record { within = λ t w word n e. refl }

pub masks_more : {mask : ℕ} {row : List ℕ} → Masks mask row → (c : ℕ) → Masks (bit_or mask (bit c)) (row ++ (c ∷ []))
masks_more {mask} {row} m c = record {
  within = λ t w word n e.
      both_within word mask (bit c) (m.within t w word n (all_front t w row (c ∷ []) e))
      (n.has c (and_left (eqb (get_or t c 0) w) true (all_back t w row (c ∷ []) e)));
}
  where
    all_front : (t : List ℕ) (w : ℕ) (xs ys : List ℕ) → all_are t w (xs ++ ys) ≡ true → all_are t w xs ≡ true
    all_front t w [] ys e = refl
    all_front t w (x ∷ xs) ys e =
        and_both (eqb (get_or t x 0) w) (all_are t w xs) (and_left (eqb (get_or t x 0) w) (all_are t w (xs ++ ys)) e)
        (all_front t w xs ys (and_right (eqb (get_or t x 0) w) (all_are t w (xs ++ ys)) e))

    all_back : (t : List ℕ) (w : ℕ) (xs ys : List ℕ) → all_are t w (xs ++ ys) ≡ true → all_are t w ys ≡ true
    all_back t w [] ys e = e
    all_back t w (x ∷ xs) ys e = all_back t w xs ys (and_right (eqb (get_or t x 0) w) (all_are t w (xs ++ ys)) e)

pub masks_next : {mask : ℕ} (row : List ℕ) (k : ℕ) → Masks mask (take k row) → k < length row → {b : ℕ} → b ≡ bit (get_or row k 0) → Masks (bit_or mask b) (take (k + 1) row)
masks_next {mask} row k m h e =
    subst (λ (x : ℕ). Masks (bit_or mask x) (take (k + 1) row)) (sym e)
    (subst (Masks (bit_or mask (bit (get_or row k 0)))) (sym (take-suc row k 0 h) ∙ ap (λ (j : ℕ). take j row) (sym (add-one k)))
    (masks_more m (get_or row k 0)))

-- ---- the words of the slots
pub masked_none : (stride slots : ℕ) (cells : List ℕ) → Masked stride slots cells (replicate slots 0)
masked_none stride slots cells = record { long = length-replicate slots 0; each = λ j h. subst (λ (m : ℕ). Masks m (row_at stride cells j)) (sym (get_or-replicate slots j 0 0 h)) (masks_none (row_at stride cells j)) }

-- a row that was written into slot s, with its word
pub masked_put : {stride slots : ℕ} {cells masks : List ℕ} → Masked stride slots cells masks → (cells' : List ℕ) (s mask : ℕ) → s < slots → Masks mask (row_at stride cells' s)
    → ((j : ℕ) → (j ≡ s → ⊥) → row_at stride cells' j ≡ row_at stride cells j) → Masked stride slots cells' (set masks s mask)
masked_put {stride} {slots} {cells} {masks} old cells' s mask low new others = record {
  long = length-set masks s mask ∙ old.long;
  each = λ j h. by j h (dichotomy (eqb j s));
}
  where
    by : (j : ℕ) → j < slots → (eqb j s ≡ true) ⊎ (eqb j s ≡ false) → Masks (get_or (set masks s mask) j 0) (row_at stride cells' j)
    by j h (inl e) = let z : j ≡ s = eqb_true j s e in
        subst (λ (k : ℕ). Masks (get_or (set masks s mask) k 0) (row_at stride cells' k)) (sym z)
        (subst (λ (m : ℕ). Masks m (row_at stride cells' s)) (sym (get_or-set_same masks s mask 0 (omega (arith, low, old.long)))) new)
    by j h (inr e) =
        subst (λ (m : ℕ). Masks m (row_at stride cells' j)) (sym (get_or-set_other masks s j mask 0 (λ z. false_eqb j s e z)))
        (subst (Masks (get_or masks j 0)) (sym (others j (λ z. false_eqb j s e z))) (old.each j h))
