-- The walk from the newest row with a last code to the oldest: what it has found is the first match among the rows that it has passed.
use Prim.Native.Nat.{ℕ, suc, ◌+◌, ◌-◌, ◌%◌, ◌≤◌, ◌<◌}
use native.Mathlib.Omega.{arith}
use mathlib.Core.Path.{◌≡◌, refl, sym, ap, subst, ◌∙◌}
use mathlib.Core.Bool.{Bool, true, false, cond}
use mathlib.Core.List.{List, []}
use mathlib.Core.Option.{Option, some}
use borrow.Author.Tests.{eqb-true}
use lib.ListN.{length, get_or, take, drop, take-append-drop}
use lib.Seq.{take-length, drop-length, length-take-le, get_or-take, drop-append-le}
use Rattle.tables.specs.Codes.{last_code, all_are}
use Rattle.tables.specs.Shelves.{code_count, row_at, head_of, newest_of, link_of, base_of, shelf_rows, ends_in, newest, Points, Shelf, first_match}
use Rattle.std.specs.Prelude.{Some, None}
use Rattle.std.specs.Prelude as value
use Rattle.shelf.specs.Standing.{SlotIn, FoundIn}
use Rattle.shelf.specs.Masks.{Noted}
use Rattle.shelf.proofs.Newest.{points_same, newest_le, none_match, Latest, latest, points_above, points_none, points_le}
use Rattle.shelf.proofs.Ring.{ring_length, ring_at}

module _ (stride slots : ℕ) (cells links statuses : List ℕ) (code want word : ℕ) where
  abbrev rows : List (List ℕ)
  rows = shelf_rows stride slots cells links

  abbrev test : List ℕ → Bool
  test = ends_in code

  -- the rows from m on have been passed; the next one is that of the number
  pub record Finding (base number : ℕ) (found : value.Option ℕ) : Type 0 where
    pub based : base ≡ base_of slots links
    pub m : ℕ
    pub within : m ≤ length rows
    pub points : Points base (newest test (take m rows)) number
    pub low : SlotIn slots found
    pub same : Noted statuses want word → FoundIn stride cells found (first_match code statuses want (drop m rows))

module _ {stride slots : ℕ} {cells links : List ℕ} (statuses : List ℕ) (code want word : ℕ) (shelf : Shelf stride slots cells links) where
  abbrev all : List (List ℕ)
  all = shelf_rows stride slots cells links

  abbrev is : List ℕ → Bool
  is = ends_in code

  abbrev has : List ℕ → Bool
  has = all_are statuses want

  -- at the start no row has been passed
  pub find_start : (base number : ℕ) → base ≡ base_of slots links → code < code_count → number ≡ head_of links code
      → Finding stride slots cells links statuses code want word base number None
  find_start base number e low h = record {
    based = e;
    m = length all;
    within = omega arith;
    points = rw (take-length, e, h) (shelf.head code low);
    low = tt;
    same = λ noted. ap (first_match code statuses want) (drop-length all);
  }

  module _ {base number : ℕ} {found : value.Option ℕ} (inv : Finding stride slots cells links statuses code want word base number found) where
    -- no row is left that ends in the code
    pub find_end : number ≤ base → Noted statuses want word → FoundIn stride cells found (first_match code statuses want all)
    find_end h noted =
        subst (FoundIn stride cells found)
        (sym (none_match is has (take inv.m all) (drop inv.m all) (points_none base (newest is (take inv.m all)) number inv.points h))
        ∙ ap (first_match code statuses want) (take-append-drop inv.m all))
        (inv.same noted)

    -- one turn, at a row that ends in the code
    module _ (above : base < number) (slot : ℕ) (hit : Bool) (next : ℕ) (found' : value.Option ℕ)
        (slot_is : slot ≡ (number - 1) % slots) (slot_low : slot < slots)
        (hit_is : Noted statuses want word → hit ≡ all_are statuses want (row_at stride cells slot))
        (next_is : next ≡ link_of links slot)
        (found_is : found' ≡ cond hit (Some slot) found) where
      abbrev before : List (List ℕ)
      before = take inv.m all

      -- it is row n, the newest before those passed
      at : (n : ℕ) × (newest is before ≡ suc n) × (number ≡ base + suc n)
      at = points_above base (newest is before) number inv.points above

      abbrev n : ℕ
      n = at.0

      the : Latest is has [] before (drop inv.m all) n
      the = latest is has [] before (drop inv.m all) n at.1

      n_below : n < inv.m
      n_below = omega (arith, the.low, length-take-le inv.m all inv.within)

      n_within : n < length all
      n_within = omega (arith, n_below, inv.within)

      slot_of : slot ≡ (base_of slots links + n) % slots
      slot_of = let z : number - 1 ≡ base_of slots links + n = omega (arith, at.2, inv.based) in slot_is ∙ ap (λ (k : ℕ). k % slots) z

      row_of : get_or all n [] ≡ row_at stride cells slot
      row_of =
          ring_at stride slots cells (base_of slots links) (newest_of links - base_of slots links) n
          (omega (arith, n_within, ring_length stride slots cells (base_of slots links) (newest_of links - base_of slots links)))
          ∙ ap (row_at stride cells) (sym slot_of)

      row_before : get_or before n [] ≡ row_at stride cells slot
      row_before = get_or-take inv.m all n [] n_below ∙ row_of

      ends : last_code (get_or all n []) ≡ code
      ends = eqb-true (last_code (get_or all n [])) code (ap is (row_of ∙ sym row_before) ∙ the.passes)

      -- its link is to the next older one
      link : Points base (newest is (take n all)) next
      link =
          points_same (base_of slots links) base (newest is (take n all)) (link_of links ((base_of slots links + n) % slots)) next
          (sym inv.based)
          (sym (next_is ∙ ap (link_of links) slot_of))
          (subst (λ (k : ℕ). Points (base_of slots links) (newest (ends_in k) (take n all)) (link_of links ((base_of slots links + n) % slots))) ends (shelf.link n n_within))

      -- which has a smaller number
      pub find_less : next < number
      find_less =
          omega (
            arith,
            points_le base (newest is (take n all)) next n link
                (omega (arith, newest_le is (take n all), length-take-le n all (omega (arith, n_within)))),
            at.2,
          )

      -- the first match from row n on is row n, or the one that was found before
      tail : first_match code statuses want (drop n all) ≡ cond (has (row_at stride cells slot)) (some (row_at stride cells slot)) (first_match code statuses want (drop inv.m all))
      tail =
          ap (λ (l : List (List ℕ)). first_match code statuses want (drop n l)) (sym (take-append-drop inv.m all))
          ∙ ap (first_match code statuses want) (drop-append-le n before (drop inv.m all) (omega (arith, the.low)))
          ∙ the.match
          ∙ ap (λ (r : List ℕ). cond (has r) (some r) (first_match code statuses want (drop inv.m all))) row_before

      found_by : (b : Bool) (o : Option (List ℕ)) → FoundIn stride cells found o → FoundIn stride cells (cond b (Some slot) found) (cond b (some (row_at stride cells slot)) o)
      found_by true o h = refl
      found_by false o h = h

      low_by : (b : Bool) → SlotIn slots (cond b (Some slot) found)
      low_by true = slot_low
      low_by false = inv.low

      pub find_more : Finding stride slots cells links statuses code want word base next found'
      find_more = record {
        based = inv.based;
        m = n;
        within = omega (arith, n_within);
        points = link;
        low = subst (SlotIn slots) (sym found_is) (low_by hit);
        same = λ noted.
            subst (λ (f : value.Option ℕ). FoundIn stride cells f (first_match code statuses want (drop n all))) (sym found_is)
            (subst (FoundIn stride cells (cond hit (Some slot) found))
            (ap (λ (b : Bool). cond b (some (row_at stride cells slot)) (first_match code statuses want (drop inv.m all))) (hit_is noted) ∙ sym tail)
            (found_by hit _ (inv.same noted)));
      }
