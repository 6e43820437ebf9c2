-- The records that a search leaves, as they are written: those of the ledger at the number of the newest learned clause.
use Prim.Native.Nat.{ℕ, ◌+◌, ◌-◌, ◌≤◌, ◌<◌}
use native.Mathlib.Omega.{arith}
use mathlib.Core.Path.{◌≡◌, refl, sym, ap, ◌∙◌}
use mathlib.Core.Bool.{Bool, true, false, cond}
use mathlib.Core.List.{List, ◌++◌}
use lib.Dec.{ltb}
use lib.ListN.{length, get_or, drop, replicate, length-append, length-drop, length-replicate, get_or-replicate, get_or-append}
use lib.Seq.{get_or-drop, get_or-append-add, ext_get_or}
use borrow.Author.Tests.{ltb-true, ltb-false}
use Rattle.qbf.specs.Formula.{paper}
use Rattle.tables.specs.Records.{records_at}
use Rattle.tables.proofs.Records.{grown_at_once}
use Rattle.unloading.specs.Written.{Recorded}
use Rattle.state.specs.Reading.{record_at, records_of}
use Rattle.state.proofs.Listing.{listing_length, listing_at}

pub records_length : (sizes : List ℕ) → length (records_of sizes) ≡ get_or sizes 0 0
records_length sizes = listing_length (record_at sizes) 0 (get_or sizes 0 0)

record_at_lem : (sizes : List ℕ) (i : ℕ) → i < get_or sizes 0 0 → get_or (records_of sizes) i 0 ≡ record_at sizes i
record_at_lem sizes i h = let e : 0 + i ≡ i = omega arith in listing_at (record_at sizes) 0 (get_or sizes 0 0) i 0 h ∙ ap (record_at sizes) e

module _ (old new : List ℕ) (newest clauses : ℕ) (few : get_or old 0 0 ≤ paper.constraints) (since : get_or old 0 0 ≤ newest) (w : Recorded old newest clauses new) where
  abbrev ks : List ℕ
  ks = records_of old

  -- the records of all rows by their numbers
  abbrev all : List ℕ
  all = ks ++ replicate (newest - length ks) clauses

  abbrev base : ℕ
  base = (length ks + (newest - length ks)) - paper.constraints

  base_is : base ≡ newest - paper.constraints
  base_is = omega (arith, records_length old, since)

  all_long : length all ≡ newest
  all_long = omega (arith, length-append ks (replicate (newest - length ks) clauses), length-replicate (newest - length ks) clauses, records_length old, since)

  at_number : (j : ℕ) → j < newest → get_or all j 0 ≡ cond (ltb j (get_or old 0 0)) (record_at old j) clauses
  at_number j h = by (ltb j (get_or old 0 0)) refl
    where
      by : (b : Bool) → ltb j (get_or old 0 0) ≡ b → get_or all j 0 ≡ cond b (record_at old j) clauses
      by true q =
          let low = ltb-true j (get_or old 0 0) q in
          get_or-append ks (replicate (newest - length ks) clauses) 0 j (omega (arith, low, records_length old)) ∙ record_at_lem old j low
      by false q =
          let high = ltb-false j (get_or old 0 0) q in
          let e : j ≡ length ks + (j - length ks) = omega (arith, high, records_length old) in
          ap (λ (i : ℕ). get_or all i 0) e
          ∙ get_or-append-add ks (replicate (newest - length ks) clauses) (j - length ks) 0
          ∙ get_or-replicate (newest - length ks) (j - length ks) clauses 0 (omega (arith, high, h, records_length old))

  pub records_back : records_of new ≡ records_at (record { clauses = clauses; before = records_of old }) newest
  records_back =
      ext_get_or 0 (records_of new) (drop base all) long each
      ∙ sym (grown_at_once paper.constraints clauses (newest - length ks) ks (omega arith) (omega (arith, few, records_length old)))
    where
      long : length (records_of new) ≡ length (drop base all)
      long = omega (arith, records_length new, w.count, length-drop base all, all_long, base_is)

      each : (i : ℕ) → i < length (records_of new) → get_or (records_of new) i 0 ≡ get_or (drop base all) i 0
      each i h =
          let low : i < get_or new 0 0 = omega (arith, h, records_length new) in
          record_at_lem new i low
          ∙ w.records.at i (omega (arith, low, w.count))
          ∙ sym (at_number ((newest - paper.constraints) + i) (omega (arith, low, w.count)))
          ∙ ap (λ (b : ℕ). get_or all (b + i) 0) (sym base_is)
          ∙ sym (get_or-drop base all i 0)
