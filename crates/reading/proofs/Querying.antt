-- A query read: the numbers on marked, then those off, then whether all are.
use Prim.Native.Nat.{ℕ, ◌<◌}
use native.Mathlib.Omega.{arith}
use mathlib.Core.Path.{◌≡◌, refl, sym, ap, ◌∙◌, subst}
use mathlib.Core.Bool.{Bool, true, false, false≢true}
use mathlib.Core.List.{List, [], ◌++◌, append-nil}
use mathlib.Core.Option.{none, some}
use lib.ListN.{length}
use Rattle.std.specs.Prelude.{Result, Ok, Err}
use Rattle.refusal.specs.declared.Refusal.{Refusal}
use borrow.Author.Tests.{not-true, not-false}
use Rattle.qbf.specs.Formula.{Limits, Prefix, Literal, Formula, quantifiers}
use Rattle.qbf.specs.Truth.{free_variables}
use Rattle.qbf.specs.Open.{reading_of, is_full}
use Rattle.qbf.specs.Calls.{numbers_are_ok, free_first, query_fault}
use Rattle.theory.proofs.Basics.{and_left}
use Rattle.tables.specs.Views.{Places, Recorded}
use Rattle.reading.specs.Reading.{Ready, QueryRead, ReadAs}
use Rattle.reading.specs.Marking.{any_barred, named, Named, FullBy}
use Rattle.reading.proofs.Faults.{seen_none, Passed, fault_told, fault_passed}
use Rattle.reading.proofs.Recording.{named_length, both_recorded, full_told, full_values}

module _ (L : Limits) (D : Prefix) (f : ℕ) (ns places values : List ℕ) (r : Ready L D f ns places values) (on off : List Literal) where
  distinct : numbers_are_ok L [] D ≡ true
  distinct = and_left (numbers_are_ok L [] D) (free_first (quantifiers D)) r.good

  abbrev first : List ℕ
  first = named 2 values on

  -- ---- a formula with that prefix
  module _ (b : Formula) (p : b.prefix ≡ D) where
    good : numbers_are_ok L [] b.prefix ≡ true
    good = ap (numbers_are_ok L []) p ∙ distinct

    shown : Places b.prefix places
    shown = subst (λ (P : Prefix). Places P places) (sym p) r.placed

    counted : f ≡ free_variables b.prefix
    counted = r.counted ∙ ap free_variables (sym p)

    bad_on : any_barred places f 2 values on ≡ true → query_fault b [] (on ++ off) ≡ some 8
    bad_on e = fault_told L b good places shown f counted 2 refl values [] r.wide (seen_none values r.opened) on off e

    module _ (e : any_barred places f 2 values on ≡ false) where
      passed : Passed L b good places shown f counted 2 refl values [] on off
      passed = fault_passed L b good places shown f counted 2 refl values [] r.wide (seen_none values r.opened) on off e

      first_wide : L.numbers < length first
      first_wide = omega (arith, r.wide, named_length 2 values on)

      bad_off : any_barred places f 1 first off ≡ true → query_fault b [] (on ++ off) ≡ some 8
      bad_off q =
          passed.same
          ∙ ap (query_fault b passed.since) (sym (append-nil off))
          ∙ fault_told L b good places shown f counted 1 refl first passed.since first_wide passed.shows off [] q

      none_bad : any_barred places f 1 first off ≡ false → query_fault b [] (on ++ off) ≡ none
      none_bad q =
          passed.same
          ∙ ap (query_fault b passed.since) (sym (append-nil off))
          ∙ (fault_passed L b good places shown f counted 1 refl first passed.since first_wide passed.shows off [] q).same

  -- ---- the answers
  refused : ((b : Formula) → b.prefix ≡ D → query_fault b [] (on ++ off) ≡ some 8) → (after : List ℕ) → QueryRead D on off false false after
  refused h after =
      record { fault = λ b p e. h b p; fine = λ b p e. absurd (false≢true e); recorded = λ e. absurd (false≢true e); told = λ e. absurd (false≢true e); shown = λ e. absurd (false≢true e) }

  module _ {ok : Bool} {after : List ℕ} (m : Named places f 2 values on ok after) where
    -- a number on that may not be named
    pub refused_on : ok ≡ false → QueryRead D on off false false after
    refused_on e = refused (λ b p. bad_on b p (not-false _ (sym m.told ∙ e))) after

    module _ (e : ok ≡ true) where
      fine : any_barred places f 2 values on ≡ false
      fine = not-true _ (sym m.told ∙ e)

      module _ {ok' : Bool} {last : List ℕ} (m' : Named places f 1 after off ok' last) where
        from : Named places f 1 first off ok' last
        from = subst (λ (vs : List ℕ). Named places f 1 vs off ok' last) (m.shown e) m'

        -- a number off that may not be
        pub refused_off : ok' ≡ false → QueryRead D on off false false last
        refused_off e' = refused (λ b p. bad_off b p fine (not-false _ (sym from.told ∙ e'))) last

        pub query_read : ok' ≡ true → {full : Bool} → FullBy last ns f full → QueryRead D on off true full last
        query_read e' {full} h =
            record {
              fault = λ b p z. absurd (false≢true (sym z));
              fine = λ b p z. none_bad b p fine fine_too;
              recorded = λ z. shows;
              told = λ z. is_full_lem;
              shown = λ z w. full_values L D distinct ns r.numbered f r.counted on off last shows (sym is_full_lem ∙ w);
            }
          where
            fine_too : any_barred places f 1 first off ≡ false
            fine_too = not-true _ (sym from.told ∙ e')

            shows : Recorded D (reading_of on off D) last
            shows =
                subst (Recorded D (reading_of on off D)) (sym (from.shown e'))
                (both_recorded L D distinct places r.placed f r.counted values r.wide r.opened on off fine fine_too)

            is_full_lem : full ≡ is_full (reading_of on off D)
            is_full_lem = full_told L D distinct ns r.numbered f r.counted on off last shows full h

-- arguments that were not read are refused
pub read_refused : {D : Prefix} {on off : List Literal} (r : Result Bool Refusal) {values : List ℕ} → ReadAs D on off r values → ((full : Bool) → r ≡ Ok full → ⊥) → QueryRead D on off false false values
read_refused (Ok full) k h = absurd (h full refl)
read_refused (Err e) k h = k.1
