-- Tables whose newest number and mark are 0 are an empty shelf, whatever else they have.
use Prim.Native.Nat.{ℕ, suc, ◌+◌, ◌-◌, ◌*◌, ◌<◌}
use native.Mathlib.Omega.{arith}
use mathlib.Core.Path.{◌≡◌, ap, ◌∙◌}
use mathlib.Core.Bool.{Bool, cond}
use mathlib.Core.List.{List, []}
use lib.Dec.{ltb}
use lib.ListN.{length, get_or}
use Rattle.std.proofs.lemmas.Bool.{le-ltb}
use Rattle.tables.specs.Shelves.{code_count, head_of, mark_of, newest_of, base_of, shelf_rows, ring_rows, ends_in, newest, Points, Shelf}
use Rattle.shelf.proofs.Newest.{newest_nil}
use Rattle.shelf.proofs.Ring.{ring_zero}
use Rattle.shelf.proofs.Linking.{linked_shelf}

module _ (stride slots : ℕ) (cells links : List ℕ) (room : length cells ≡ slots * suc stride) (linked : length links ≡ suc (suc code_count) + slots)
    (none : newest_of links ≡ 0) (unmarked : mark_of links ≡ 0) where
  -- no row stands
  pub empty_rows : shelf_rows stride slots cells links ≡ []
  empty_rows =
      let b : base_of slots links ≡ 0 = omega (arith, none) in
      let c : newest_of links - base_of slots links ≡ 0 = omega (arith, none) in
      ap (ring_rows stride slots cells (base_of slots links)) c ∙ ring_zero stride slots cells (base_of slots links)

  -- no code is below the mark
  head_none : (c : ℕ) → head_of links c ≡ 0
  head_none c =
      ap (λ (m : ℕ). cond (ltb c m) (get_or links c 0) 0) unmarked
      ∙ ap (λ (b : Bool). cond b (get_or links c 0) 0) (le-ltb c 0 (omega arith))

  no_head : (c : ℕ) → c < code_count → Points 0 (newest (ends_in c) []) (head_of links c)
  no_head c h = rw newest_nil (omega (arith, head_none c))

  -- and nothing is linked
  pub empty_shelf : Shelf stride slots cells links
  empty_shelf =
      linked_shelf stride slots cells links room linked
      0
      []
      (omega (arith, none))
      empty_rows
      (record { head = λ c h. no_head c h; link = λ i h. absurd (omega arith) })
