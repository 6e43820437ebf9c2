-- A call at a place, in plain numbers: its refusal is renamed, its visits are charged.
use Prim.Native.Nat.{ℕ, zero, suc}
use mathlib.Core.Path.{◌≡◌, refl, sym, ap, ◌∙◌, subst}
use mathlib.Core.Bool.{Bool, true, false, cond}
use mathlib.Core.List.{List, []}
use mathlib.Core.Option.{Option, none, some}
use lib.Dec.{eqb, ltb}
use Rattle.days.specs.Accounts.{stop_number}
use Rattle.days.specs.Day.{stop_as}
use Rattle.serving.specs.Serves.{Said, said, said_with, fault_of}
use Rattle.serving_days.specs.Serves.{renamed, said_at}
use Rattle.reply_numbers.specs.declared.Reply.{Reply}
use Rattle.reply_numbers.specs.declared.Closest.{Closest}
use Rattle.reply_numbers.specs.Answers.{reply_said, closest_said, unless_refused}
use borrow.Rule.Slice.PartMut.{put_mid, put_same}
use lib.IntN.{ℤ}
use lib.ListN.{length, take, drop}
use Rattle.std.specs.Prelude.{min, ◌-◌, Ok, Err}
use Rattle.refusal.specs.declared.Refusal.{Refusal}
use Rattle.refusal.specs.Refusal.{number_of}
use Rattle.qbf.specs.Card.{zero_table}
use Rattle.qbf.specs.Calls.{Call, forget, card_of, answer, ceiling_of, refusal}
use Rattle.qbf.specs.Truth.{free_variables}
use Rattle.state.specs.Reading.{prefix_in}
use Rattle.state_parts.specs.Parts.{state_at}
use Rattle.serving.specs.Serves.{said_of}
use Rattle.days.specs.Day.{limited}
use Rattle.shares.specs.Shares.{share_of, settled}
use Rattle.rule_calls.specs.ServesAt.{ServesAt}
use Rattle.places.specs.declared.rooms.Rooms.{Rooms}
use Rattle.places.specs.declared.rooms.Bounds.{Bounds}
use Rattle.places.specs.declared.accounts.Accounts.{Accounts}
use Rattle.places.specs.Rooms.{start, room, part_at, BoundsOf}
use Rattle.places.specs.Day.{booked, with_used, ServesAtPlace}
use Rattle.places.proofs.Parts.{lent_at}
use Rattle.places.proofs.Places.{refused_here, served_here, served_still}
use Rattle.day_calls.specs.Entered.{placed, free_at}

module _ (own m : ℕ) where
  -- the number that a stop has is none of another answer's
  kept_fault : (q : Bool) (n : ℕ) → some (cond q (stop_number own m) (suc n)) ≡ fault_of (cond q (stop_number own m) (suc n))
  kept_fault true n = by (ltb m own)
    where
      by : (o : Bool) → some (cond o 37 34) ≡ fault_of (cond o 37 34)
      by true = refl
      by false = refl
  kept_fault false n = refl

  pub renamed_fault : (n : ℕ) → renamed (stop_number own m) (fault_of n) ≡ fault_of (stop_as (stop_number own m) n)
  renamed_fault zero = refl
  renamed_fault (suc n) = kept_fault (eqb (suc n) 34) n

  -- a reply, with its refusal renamed
  pub reply_at : (r : Reply) (n : ℕ) → n ≡ stop_as (stop_number own m) r.refusal → (table : List ℕ)
      → said_at (some own) m (reply_said r table) ≡ reply_said (record { refusal = n; verdict = r.verdict; lines = r.lines; visits = r.visits }) table
  reply_at r n e table = ap (λ (f : Option ℕ). said_with f r.verdict r.lines r.visits table [] 0) (renamed_fault r.refusal ∙ ap fault_of (sym e))

  -- a closest reading's bytes are returned as before
  same_bytes : (n : ℕ) (bytes : List ℕ) → unless_refused (fault_of (stop_as (stop_number own m) n)) bytes ≡ unless_refused (fault_of n) bytes
  same_bytes zero bytes = refl
  same_bytes (suc n) bytes = by (eqb (suc n) 34)
    where
      stops : (o : Bool) → unless_refused (fault_of (cond o 37 34)) bytes ≡ []
      stops true = refl
      stops false = refl

      by : (q : Bool) → unless_refused (fault_of (cond q (stop_number own m) (suc n))) bytes ≡ []
      by true = stops (ltb m own)
      by false = refl

  pub returned_at : (r n : ℕ) → n ≡ stop_as (stop_number own m) r → (bytes : List ℕ) → unless_refused (fault_of r) bytes ≡ unless_refused (fault_of n) bytes
  returned_at r n e bytes = sym (ap (λ (k : ℕ). unless_refused (fault_of k) bytes) e ∙ same_bytes r bytes)

  pub closest_at : (r : Closest) (n : ℕ) → n ≡ stop_as (stop_number own m) r.refusal → (table bytes : List ℕ)
      → said_at (some own) m (closest_said r table bytes) ≡ closest_said (record { refusal = n; differs = r.differs; lines = r.lines; visits = r.visits }) table bytes
  closest_at r n e table bytes =
      ap (λ (f : Option ℕ). said_with f 0 r.lines r.visits table (unless_refused (fault_of r.refusal) bytes) r.differs) (renamed_fault r.refusal ∙ ap fault_of (sym e))
      ∙ ap (λ (s : List ℕ). said_with (fault_of n) 0 r.lines r.visits table s r.differs) (returned_at r.refusal n e bytes)

-- ---- a card of either verdict
pub card_ceiling : (yes : Bool) (k n : ℕ) → ceiling_of (card_of yes k n) ≡ some k
card_ceiling true k n = refl
card_ceiling false k n = refl

pub card_limited : (yes : Bool) (m k n : ℕ) → limited m (card_of yes k n) ≡ card_of yes (min k m) n
card_limited true m k n = refl
card_limited false m k n = refl

pub card_refused : (yes : Bool) (k n r : ℕ) → said (some r) 0 0 0 (zero_table n) ≡ said_of (answer (refusal r (card_of yes k n)) 0)
card_refused true k n r = refl
card_refused false k n r = refl

module _ (R : Rooms) (a : Accounts) (cells : List ℕ) (literals : List ℤ) (place : ℕ) where
  -- a call that the day refuses, told in plain numbers
  pub refused_call : (c : Call) (r : Refusal) → share_of a.total a.used place (booked a.books place) ≡ Err r → (x : Said) → x ≡ said_of (answer (refusal (number_of r) c) 0)
      → ServesAtPlace R a cells literals (placed place c) x a cells literals
  refused_call c r e x q = subst (λ (s : Said). ServesAtPlace R a cells literals (placed place c) s a cells literals) (sym q) (refused_here R a cells literals (placed place c) r e)

  -- a call on the parts of the place, as they were lent
  module _ (m : ℕ) (cb lb : Bounds)
      (entered : (share_of a.total a.used place (booked a.books place) ≡ Ok m) × BoundsOf (start R.cells place) (room R.cells place) (length cells) cb × BoundsOf (start R.literals place) (room R.literals place) (length literals) lb)
      (cs : List ℕ) (ls : List ℤ)
      (cs_long : length cs ≡ length (take (cb.to - cb.from) (drop cb.from cells))) (ls_long : length ls ≡ length (take (lb.to - lb.from) (drop lb.from literals))) where
    abbrev cells' : List ℕ
    cells' = put_mid cb.from (cb.to - cb.from) cells cs

    abbrev literals' : List ℤ
    literals' = put_mid lb.from (lb.to - lb.from) literals ls

    abbrev Called : Call → Said → Type 0
    Called c x = ServesAt (take (cb.to - cb.from) (drop cb.from cells)) (take (lb.to - lb.from) (drop lb.from literals)) c x cs ls

    pub changed : (c : Call) → ceiling_of c ≡ none → (x : Said) → Called c x → ServesAtPlace R a cells literals (placed place c) x a cells' literals'
    changed c z x v = served_still R a cells literals (placed place c) m entered.0 cb lb entered.1 entered.2 cs ls cs_long ls_long x z v

    -- f gives the call with a ceiling
    pub searched : (f : ℕ → Call) (own : ℕ) → ceiling_of (f own) ≡ some own → limited m (f own) ≡ f (min own m) → (k : ℕ) → k ≡ min own m
        → (x : Said) → Called (f k) x → (y : Said) → said_at (some own) m x ≡ y → (a' : Accounts) → a' ≡ with_used a (settled a.total a.used place x.visits)
        → ServesAtPlace R a cells literals (placed place (f own)) y a' cells' literals'
    searched f own z under k w x v y q a' b =
        subst (λ (d : Accounts). ServesAtPlace R a cells literals (placed place (f own)) y d cells' literals') (sym b)
        (subst (λ (s : Said). ServesAtPlace R a cells literals (placed place (f own)) s (with_used a (settled a.total a.used place x.visits)) cells' literals') (ap (λ (o : Option ℕ). said_at o m x) z ∙ q)
        (served_here R a cells literals (placed place (f own)) m entered.0 cb lb entered.1 entered.2 cs ls cs_long ls_long x
        (subst (λ (c : Call). Called c x) (ap f w ∙ sym under) v)))

    -- the book at the place, on the parts as they were lent
    pub free_lent : free_variables (prefix_in (state_at (take (cb.to - cb.from) (drop cb.from cells)) (take (lb.to - lb.from) (drop lb.from literals)))) ≡ free_at R cells literals place
    free_lent =
        ap (λ (t : List ℕ). free_variables (prefix_in (state_at t (take (lb.to - lb.from) (drop lb.from literals))))) (lent_at R.cells place cells cb entered.1)
        ∙ ap (λ (t : List ℤ). free_variables (prefix_in (state_at (part_at R.cells place cells) t))) (lent_at R.literals place literals lb entered.2)

  -- the literals of the place are only read
  pub forgotten : (m : ℕ) (cb lb : Bounds)
      → (share_of a.total a.used place (booked a.books place) ≡ Ok m) × BoundsOf (start R.cells place) (room R.cells place) (length cells) cb × BoundsOf (start R.literals place) (room R.literals place) (length literals) lb
      → (cs : List ℕ) → length cs ≡ length (take (cb.to - cb.from) (drop cb.from cells))
      → (x : Said) → ServesAt (take (cb.to - cb.from) (drop cb.from cells)) (take (lb.to - lb.from) (drop lb.from literals)) forget x cs (take (lb.to - lb.from) (drop lb.from literals))
      → ServesAtPlace R a cells literals (placed place forget) x a (put_mid cb.from (cb.to - cb.from) cells cs) literals
  forgotten m cb lb entered cs n x v =
      subst (λ (ls : List ℤ). ServesAtPlace R a cells literals (placed place forget) x a (put_mid cb.from (cb.to - cb.from) cells cs) ls) (put_same lb.from (lb.to - lb.from) literals)
      (changed m cb lb entered cs (take (lb.to - lb.from) (drop lb.from literals)) n refl forget refl x v)
