-- The part of a place in a long slice: as it is lent by its bounds, and what writing it leaves of the other parts.
use Prim.Native.Nat.{ℕ, zero, suc, ◌+◌, ◌-◌, ◌≤◌, ◌<◌}
use native.Mathlib.Omega.{arith}
use native.Mathlib.Nat.{le_of_suc-le-suc, not-suc-le-zero}
use mathlib.Core.Path.{◌≡◌, refl, sym, ap, ◌∙◌}
use mathlib.Core.List.{List, [], ◌∷◌}
use mathlib.Core.Bool.{Bool, true, false}
use lib.Dec.{leb}
use borrow.Author.Tests.{leb-true, leb-false}
use borrow.Rule.Slice.PartMut.{put_mid, same_len_mid, take_put, drop_put, mid_len}
use lib.ListN.{length, get_or, take, drop, length-take}
use lib.Seq.{drop-drop, take-take}
use Rattle.std.specs.Prelude.{sum, min}
use Rattle.std.specs.List.{fold}
use Rattle.state_parts.specs.Parts.{part}
use Rattle.state_parts.proofs.Cutting.{put_here}
use Rattle.std.proofs.lemmas.List.{drop-take}
use Rattle.places.specs.declared.rooms.Bounds.{Bounds}
use Rattle.places.specs.Rooms.{start, room, part_at, BoundsOf, Beside}

module _ {A : Type 0} where
  -- no cell stands beyond the length
  take_min : (n : ℕ) (t : List A) → take (min n (length t)) t ≡ take n t
  take_min zero t = let z : min 0 (length t) ≡ 0 = omega arith in ap (λ (k : ℕ). take k t) z
  take_min (suc n) [] = let z : min (suc n) 0 ≡ 0 = omega arith in ap (λ (k : ℕ). take {A = A} k []) z
  take_min (suc n) (x ∷ t) = let z : min (suc n) (suc (length t)) ≡ suc (min n (length t)) = omega arith in ap (λ (k : ℕ). take k (x ∷ t)) z ∙ ap (λ (l : List A). x ∷ l) (take_min n t)

  drop_min : (n : ℕ) (t : List A) → drop (min n (length t)) t ≡ drop n t
  drop_min zero t = let z : min 0 (length t) ≡ 0 = omega arith in ap (λ (k : ℕ). drop k t) z
  drop_min (suc n) [] = let z : min (suc n) 0 ≡ 0 = omega arith in ap (λ (k : ℕ). drop {A = A} k []) z
  drop_min (suc n) (x ∷ t) = let z : min (suc n) (suc (length t)) ≡ suc (min n (length t)) = omega arith in ap (λ (k : ℕ). drop k (x ∷ t)) z ∙ drop_min n t

  -- ---- a part that begins in the slice and ends there
  module _ (s r : ℕ) (t : List A) (a b : ℕ) (e : a ≡ min s (length t)) (f : b ≡ min (s + r) (length t)) where
    lent_part : take (b - a) (drop a t) ≡ part s r t
    lent_part =
        sym (drop-take a (b - a) t)
        ∙ ap (λ (k : ℕ). drop a (take k t)) (let q : a + (b - a) ≡ min (s + r) (length t) = omega (arith, e, f) in q)
        ∙ ap (drop a) (take_min (s + r) t)
        ∙ ap (λ (k : ℕ). drop k (take (s + r) t)) (let q : a ≡ min s (length (take (s + r) t)) = omega (arith, e, length-take (s + r) t) in q)
        ∙ drop_min s (take (s + r) t)
        ∙ drop-take s r t

    module _ (ys : List A) (n : length ys ≡ length (take (b - a) (drop a t))) where
      abbrev t' : List A
      t' = put_mid a (b - a) t ys

      put_long : length t' ≡ length t
      put_long = same_len_mid a (b - a) t ys n

      ys_long : length ys ≡ b - a
      ys_long = n ∙ mid_len a b t (omega (arith, f))

      put_before : take s t' ≡ take s t
      put_before =
          sym (take_min s t')
          ∙ ap (λ (k : ℕ). take k t') (let q : min s (length t') ≡ a = omega (arith, e, put_long) in q)
          ∙ take_put a (b - a) t ys (omega (arith, e))
          ∙ ap (λ (k : ℕ). take k t) e
          ∙ take_min s t

      put_behind : drop (s + r) t' ≡ drop (s + r) t
      put_behind =
          sym (drop_min (s + r) t')
          ∙ ap (λ (k : ℕ). drop k t') (let q : min (s + r) (length t') ≡ b = omega (arith, f, put_long) in q)
          ∙ drop_put a b t ys (omega (arith, e, f)) (omega (arith, f)) ys_long
          ∙ ap (λ (k : ℕ). drop k t) f
          ∙ drop_min (s + r) t

-- ---- the rooms
sum_from : (k : ℕ) (xs : List ℕ) → fold ◌+◌ k xs ≡ k + sum xs
sum_from k [] = omega arith
sum_from k (x ∷ xs) = omega (arith, sum_from (k + x) xs, sum_from (0 + x) xs)

sum_cons : (x : ℕ) (xs : List ℕ) → sum (x ∷ xs) ≡ x + sum xs
sum_cons x xs = omega (arith, sum_from (0 + x) xs)

-- the rooms before a place, and its own, come to no more than those before a later one
rooms_before : (rooms : List ℕ) (i j : ℕ) → i < j → sum (take i rooms) + get_or rooms i 0 ≤ sum (take j rooms)
rooms_before [] zero zero h = absurd (not-suc-le-zero h)
rooms_before [] zero (suc j) h = omega arith
rooms_before [] (suc i) zero h = absurd (not-suc-le-zero h)
rooms_before [] (suc i) (suc j) h = omega arith
rooms_before (r ∷ rs) i zero h = absurd (not-suc-le-zero h)
rooms_before (r ∷ rs) zero (suc j) h = let e : sum (take (suc j) (r ∷ rs)) ≡ r + sum (take j rs) = sum_cons r (take j rs) in let g : get_or (r ∷ rs) 0 0 ≡ r = refl in let z : sum (take 0 (r ∷ rs)) ≡ 0 = refl in omega (arith, e, g, z)
rooms_before (r ∷ rs) (suc i) (suc j) h =
    let e : sum (take (suc j) (r ∷ rs)) ≡ r + sum (take j rs) = sum_cons r (take j rs) in
    let f : sum (take (suc i) (r ∷ rs)) ≡ r + sum (take i rs) = sum_cons r (take i rs) in
    let g : get_or (r ∷ rs) (suc i) 0 ≡ get_or rs i 0 = refl in
    omega (arith, e, f, g, rooms_before rs i j (le_of_suc-le-suc h))

module _ {A : Type 0} (rooms : List ℕ) (place : ℕ) (t : List A) where
  -- a place's part, as it is lent by its bounds
  module _ (b : Bounds) (at : BoundsOf (start rooms place) (room rooms place) (length t) b) where
    pub lent_at : take (b.to - b.from) (drop b.from t) ≡ part_at rooms place t
    lent_at = lent_part (start rooms place) (room rooms place) t b.from b.to at.from at.to

    module _ (ys : List A) (n : length ys ≡ length (take (b.to - b.from) (drop b.from t))) where
      abbrev written : List A
      written = put_mid b.from (b.to - b.from) t ys

      -- what is written there is the place's part, and no other is touched
      pub put_beside : Beside rooms place t written
      put_beside =
          record {
            long = put_long (start rooms place) (room rooms place) t b.from b.to at.from at.to ys n;
            before = put_before (start rooms place) (room rooms place) t b.from b.to at.from at.to ys n;
            behind = put_behind (start rooms place) (room rooms place) t b.from b.to at.from at.to ys n;
          }

      pub put_at : part_at rooms place written ≡ ys
      put_at =
          let k : ys_length ≡ b.to - b.from = ys_long (start rooms place) (room rooms place) t b.from b.to at.from at.to ys n in
          sym (lent_part (start rooms place) (room rooms place) written b.from b.to
          (at.from ∙ ap (min (start rooms place)) (sym put_beside.long))
          (at.to ∙ ap (min (start rooms place + room rooms place)) (sym put_beside.long)))
          ∙ put_here b.from (b.to - b.from) t ys (omega (arith, at.from, at.to)) k
        where
          ys_length : ℕ
          ys_length = length ys

  -- the part of another place
  module _ (t' : List A) (w : Beside rooms place t t') (j : ℕ) (from_one : 1 ≤ j) (place_one : 1 ≤ place) where
    earlier : j < place → part_at rooms j t' ≡ part_at rooms j t
    earlier h =
        let le : start rooms j + room rooms j ≤ start rooms place = rooms_before rooms (j - 1) (place - 1) (omega (arith, h, from_one)) in
        sym (drop-take (start rooms j) (room rooms j) t')
        ∙ ap (drop (start rooms j))
        (sym (take-take (start rooms j + room rooms j) (start rooms place) t' le)
        ∙ ap (take (start rooms j + room rooms j)) w.before
        ∙ take-take (start rooms j + room rooms j) (start rooms place) t le)
        ∙ drop-take (start rooms j) (room rooms j) t

    later : place < j → part_at rooms j t' ≡ part_at rooms j t
    later h =
        let end = start rooms place + room rooms place in
        let le : end ≤ start rooms j = rooms_before rooms (place - 1) (j - 1) (omega (arith, h, place_one)) in
        let q : end + (start rooms j - end) ≡ start rooms j = omega (arith, le) in
        ap (take (room rooms j))
        (ap (λ (k : ℕ). drop k t') (sym q)
        ∙ sym (drop-drop (start rooms j - end) end t')
        ∙ ap (drop (start rooms j - end)) w.behind
        ∙ drop-drop (start rooms j - end) end t
        ∙ ap (λ (k : ℕ). drop k t) q)

    pub beside_other : (j ≡ place → ⊥) → part_at rooms j t' ≡ part_at rooms j t
    beside_other ne = by (leb (suc j) place) refl
      where
        by : (o : Bool) → leb (suc j) place ≡ o → part_at rooms j t' ≡ part_at rooms j t
        by true e = earlier (leb-true (suc j) place e)
        by false e = later (strict (leb-false (suc j) place e))
          where
            strict : place < suc j → place < j
            strict h = differ (λ z. ne z)
              where
                differ : (j ≡ place → ⊥) → place < j
                differ z = omega (arith, h, z)
