-- The mark goes behind a code: the numbers between are cleared, and read as 0 before and after.
use Prim.Native.Nat.{ℕ, suc, ◌+◌, ◌-◌, ◌%◌, ◌≤◌, ◌<◌}
use native.Mathlib.Omega.{arith}
use mathlib.Core.Path.{◌≡◌, refl, sym, ap, ◌∙◌}
use mathlib.Core.Logic.{◌⊎◌, inl, inr}
use mathlib.Core.Bool.{Bool, cond}
use mathlib.Core.List.{List, ◌++◌}
use borrow.Rule.Slice.PartMut.{mid_of, post_of, put_mid, same_len_mid}
use lib.ListN.{length, get_or, take, drop, set, replicate, length-replicate, length-set, length-drop}
use lib.Seq.{get_or-drop, get_or-set_same, get_or-set_other, length-take-le}
use Rattle.std.proofs.lemmas.Bool.{lt-ltb, le-ltb}
use Rattle.std.proofs.lemmas.List.{get_or-take, get_or-replicate, get_or_append_left, get_or-append_right}
use Rattle.theory.proofs.Basics.{le_or_lt}
use Rattle.tables.specs.Shelves.{code_count, head_of, mark_of, newest_of, link_of, base_of, shelf_rows, ring_rows, ends_in, newest, Shelf}
use Rattle.shelf.specs.Marked.{PartCleared, Marked}
use Rattle.shelf.proofs.Newest.{points_same}
use Rattle.shelf.proofs.Linking.{relinked, linked_shelf}

-- a part that was filled with 0
module _ (xs ys : List ℕ) (a n : ℕ) (within : a + n ≤ length xs) (filled : ys ≡ replicate (length (mid_of a n xs)) 0) where
  abbrev new : List ℕ
  new = put_mid a n xs ys

  mid_long : length (mid_of a n xs) ≡ n
  mid_long = length-take-le n (drop a xs) (simp length-drop (omega arith))

  zeros : length ys ≡ length (mid_of a n xs)
  zeros = ap length filled ∙ length-replicate (length (mid_of a n xs)) 0

  front : length (take a xs) ≡ a
  front = length-take-le a xs (omega arith)

  -- from the part on
  behind_front : (i : ℕ) → a ≤ i → get_or new i 0 ≡ get_or (ys ++ post_of a n xs) (i - a) 0
  behind_front i h = get_or-append_right (take a xs) (ys ++ post_of a n xs) a i 0 front h

  pub part_cleared : {to : ℕ} → to ≡ a + n → PartCleared a to xs new
  part_cleared {to} e = record {
    long = same_len_mid a n xs ys zeros;
    inside = λ i h k.
        behind_front i h
        ∙ get_or_append_left ys (post_of a n xs) 0 (i - a) (omega (arith, zeros, mid_long))
        ∙ ap (λ (t : List ℕ). get_or t (i - a) 0) filled
        ∙ get_or-replicate (length (mid_of a n xs)) (i - a) 0 0 (omega (arith, mid_long));
    before = λ i h.
        get_or_append_left (take a xs) (ys ++ post_of a n xs) 0 i (omega (arith, front))
        ∙ get_or-take a xs i 0 h;
    behind = λ i h.
        behind_front i (omega arith)
        ∙ get_or-append_right ys (post_of a n xs) n (i - a) 0 (zeros ∙ mid_long) (omega arith)
        ∙ get_or-drop n (drop a xs) (i - a - n) 0
        ∙ get_or-drop a xs (n + (i - a - n)) 0
        ∙ ap (λ (k : ℕ). get_or xs k 0) (omega arith);
  }

-- the numbers up to the code were cleared, and the mark is behind it
module _ (links mid : List ℕ) (code : ℕ) (low : code < code_count) (room : suc (suc code_count) ≤ length links) (under : mark_of links ≤ code)
    (cleared : PartCleared (mark_of links) (code + 1) links mid) where
  abbrev marked : List ℕ
  marked = set mid (suc code_count) (code + 1)

  mark : mark_of marked ≡ code + 1
  mark = get_or-set_same mid (suc code_count) (code + 1) 0 (omega (arith, cleared.long))

  -- every other cell behind the codes is as it was
  behind : (i : ℕ) → code_count ≤ i → (i ≡ suc code_count → ⊥) → get_or marked i 0 ≡ get_or links i 0
  behind i h ne =
      get_or-set_other mid (suc code_count) i (code + 1) 0 (λ e. ne e)
      ∙ cleared.behind i (omega arith)

  cell : (c : ℕ) → c < code_count → get_or marked c 0 ≡ get_or mid c 0
  cell c h = get_or-set_other mid (suc code_count) c (code + 1) 0 (λ e. omega arith)

  below : (ls : List ℕ) (c : ℕ) → c < mark_of ls → head_of ls c ≡ get_or ls c 0
  below ls c h = ap (λ (b : Bool). cond b (get_or ls c 0) 0) (lt-ltb c (mark_of ls) h)

  above : (ls : List ℕ) (c : ℕ) → mark_of ls ≤ c → head_of ls c ≡ 0
  above ls c h = ap (λ (b : Bool). cond b (get_or ls c 0) 0) (le-ltb c (mark_of ls) h)

  -- below the old mark, from it up to the code, and behind it
  same_head : (c : ℕ) → c < code_count → (mark_of links ≤ c) ⊎ (c < mark_of links) → (suc code ≤ c) ⊎ (c < suc code) → head_of marked c ≡ head_of links c
  same_head c h (inr k) r =
      below marked c (omega (arith, mark))
      ∙ cell c h ∙ cleared.before c k ∙ sym (below links c k)
  same_head c h (inl k) (inr r) =
      below marked c (omega (arith, mark))
      ∙ cell c h ∙ cleared.inside c k (omega arith) ∙ sym (above links c k)
  same_head c h (inl k) (inl r) = above marked c (omega (arith, mark)) ∙ sym (above links c k)

  pub marked_up : Marked code links marked
  marked_up = record {
    long = length-set mid (suc code_count) (code + 1) ∙ cleared.long;
    above = rw mark (omega arith);
    newest = behind code_count (omega arith) (λ e. omega arith);
    head = λ c h. same_head c h (le_or_lt (mark_of links) c) (le_or_lt (suc code) c);
    link = λ j. behind (suc (suc code_count) + j) (omega arith) (λ e. omega arith);
  }

-- nothing was written: the mark was above the code
pub marked_before : (links : List ℕ) (code : ℕ) → code < mark_of links → Marked code links links
marked_before links code h = record { long = refl; above = h; newest = refl; head = λ c k. refl; link = λ j. refl }

-- ---- what was read before the mark was written
pub as_before : (s slots : ℕ) (links links' : List ℕ) → s ≡ newest_of links % slots → newest_of links' ≡ newest_of links → s ≡ newest_of links' % slots
as_before s slots links links' e same = e ∙ ap (λ (n : ℕ). n % slots) (sym same)

pub linked_before : (links links' links₁ : List ℕ) (code s : ℕ) → links₁ ≡ relinked links' code s (newest_of links) → newest_of links' ≡ newest_of links
    → links₁ ≡ relinked links' code s (newest_of links')
linked_before links links' links₁ code s e same = e ∙ ap (relinked links' code s) (sym same)

-- ---- the shelf is the same
module _ (stride slots : ℕ) (cells links links' : List ℕ) (code : ℕ) (m : Marked code links links') where
  pub marked_rows : shelf_rows stride slots cells links' ≡ shelf_rows stride slots cells links
  marked_rows = ap (λ (n : ℕ). ring_rows stride slots cells (n - slots) (n - (n - slots))) m.newest

  same_base : base_of slots links' ≡ base_of slots links
  same_base = ap (λ (n : ℕ). n - slots) m.newest

  pub marked_shelf : Shelf stride slots cells links → Shelf stride slots cells links'
  marked_shelf s =
      let b : ℕ = base_of slots links in
      let rows : List (List ℕ) = shelf_rows stride slots cells links in
      linked_shelf stride slots cells links' s.room (m.long ∙ s.linked) b rows same_base marked_rows
      (record {
        head = λ c h. points_same b b (newest (ends_in c) rows) (head_of links c) (head_of links' c) refl (sym (m.head c h)) (s.head c h);
        link = λ i h.
            points_same b b _ (link_of links ((b + i) % slots)) (link_of links' ((b + i) % slots)) refl (sym (m.link ((b + i) % slots))) (s.link i h);
      })
