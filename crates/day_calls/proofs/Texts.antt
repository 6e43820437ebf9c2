-- A text that was opened on the tables of a place, and the place told of its book: the day has it there.
use Prim.Native.Nat.{ℕ, ◌-◌, ◌≤◌, ◌<◌}
use native.Mathlib.Omega.{arith}
use mathlib.Core.Path.{◌≡◌, refl, sym, ap, ◌∙◌, subst}
use mathlib.Core.Bool.{Bool, true, false, cond, not}
use mathlib.Core.List.{List, map}
use mathlib.Core.Option.{Option, none, some}
use borrow.Rule.Slice.PartMut.{put_mid}
use lib.IntN.{ℤ}
use lib.Dec.{eqb}
use lib.ListN.{length, set, take, drop}
use lib.Seq.{get_or-set_same, get_or-set_other}
use Rattle.std.specs.Prelude.{Result, Ok, Err}
use Rattle.std.specs.Result.{is_ok}
use Rattle.refusal.specs.declared.Refusal.TheVariants.{Malformed}
use Rattle.qbf.specs.Formula.{Limits, Formula}
use Rattle.qbf.specs.Calls.{State as Read}
use Rattle.layout.specs.Opening as text
use Rattle.days.specs.Accounts.{books}
use Rattle.days.specs.Day.{fresh_in, outside}
use Rattle.days_laws.proofs.Days.{from_one}
use Rattle.shares.proofs.Answers.{no_room}
use Rattle.state_parts.specs.Parts.{Whole, valid_at}
use Rattle.opening.specs.declared.text.RefusedAt.{RefusedAt}
use Rattle.opening.specs.Opened.{AnsweredAt, OpenedAt}
use Rattle.rule_calls.specs.Served.{Lists, lists, read_lists}
use Rattle.serving_days.specs.Serves.{book_in, state_in}
use Rattle.serving_days.proofs.Places.{map_set}
use Rattle.book_calls.specs.declared.text.Opened.{Opened}
use Rattle.book_calls.specs.Opened.{OpenedIn, ToldAt, ToldOf}
use Rattle.places.specs.declared.rooms.Rooms.{Rooms}
use Rattle.places.specs.declared.rooms.Bounds.{Bounds}
use Rattle.places.specs.declared.accounts.Accounts.{Accounts}
use Rattle.places.specs.Rooms.{start, room, part_at, BoundsOf, Beside}
use Rattle.places.specs.Day.{booked, byte_of, seated, tables_at, held_in, day_in}
use Rattle.places.proofs.Parts.{lent_at, put_beside, put_at, beside_other}
use Rattle.places.proofs.Places.{set_from, below, first}
use Rattle.qbf.specs.Calls.{forget}
use Rattle.day_calls.specs.Entered.{placed}
use Rattle.refusal.specs.declared.Refusal.{Refusal}
use Rattle.layout.specs.Words.{Bytes}
use Rattle.book_writer.specs.declared.Written.{Written}
use Rattle.book_writer.specs.Writes.{WritesAt}
use Rattle.day_calls.specs.Opens.{book_of, with_text, OpensThere, OpensAtPlace, WritesAtPlace}

-- in plain numbers
told_in : (L : Limits) (o : text.Opened) (cells : List ℕ) (literals : List ℤ) (q : Result (Unit {0}) RefusedAt) (r : Opened) (cells' : List ℕ) (literals' : List ℤ)
    → OpenedAt L o cells literals q cells' literals' → ToldOf q r → OpenedIn L o cells literals r cells' literals'
told_in L o cells literals q r cells' literals' v t = record { whole = λ w. told o q (v.whole w) t; short = shorter }
  where
    told : (o : text.Opened) (q : Result (Unit {0}) RefusedAt) → AnsweredAt o q cells' literals' → ToldOf q r → ToldAt o r cells' literals'
    told (text.refused k n) (Ok u) a t = absurd a
    told (text.refused k n) (Err e) a t = (t.0 ∙ a.0, t.1 ∙ a.1, a.2)
    told (text.opened b) (Ok u) a t = (t.0, t.1, a)
    told (text.opened b) (Err e) a t = absurd a

    shorter : (Whole L cells literals → ⊥) → (r.refusal ≡ 22) × (r.line ≡ 0) × (valid_at cells' literals' ≡ false)
    shorter n =
        let z : ToldOf (Err (record { refusal = Malformed; line = 0 })) r = subst (λ (x : Result (Unit {0}) RefusedAt). ToldOf x r) (v.short n).0 t in
        (z.0, z.1, (v.short n).1)

module _ (R : Rooms) (a : Accounts) (cells : List ℕ) (literals : List ℤ) (place : ℕ) (inside : outside place ≡ false) (eight : length a.books ≡ books) (cb lb : Bounds)
    (cells_at : BoundsOf (start R.cells place) (room R.cells place) (length cells) cb) (literals_at : BoundsOf (start R.literals place) (room R.literals place) (length literals) lb)
    (cs : List ℕ) (ls : List ℤ)
    (cs_long : length cs ≡ length (take (cb.to - cb.from) (drop cb.from cells))) (ls_long : length ls ≡ length (take (lb.to - lb.from) (drop lb.from literals))) where
  abbrev cells' : List ℕ
  cells' = put_mid cb.from (cb.to - cb.from) cells cs

  abbrev literals' : List ℤ
  literals' = put_mid lb.from (lb.to - lb.from) literals ls

  c : Beside R.cells place cells cells'
  c = put_beside R.cells place cells cb cells_at cs cs_long

  l : Beside R.literals place literals literals'
  l = put_beside R.literals place literals lb literals_at ls ls_long

  in_range : place - 1 < books
  in_range = below R a cells literals (placed place forget) inside

  module _ (b : Bool) where
    abbrev bytes : List ℕ
    bytes = set a.books (place - 1) (byte_of b)

    booked_here : booked bytes place ≡ b
    booked_here = ap (λ (k : ℕ). not (eqb k 0)) (get_or-set_same a.books (place - 1) (byte_of b) 0 (omega (arith, in_range, eight))) ∙ by b
      where
        by : (o : Bool) → not (eqb (byte_of o) 0) ≡ o
        by true = refl
        by false = refl

    tables_there : tables_at R bytes cells' literals' place ≡ cond b (some (lists cs ls)) none
    tables_there =
        ap (λ (o : Bool). cond o (some (lists (part_at R.cells place cells') (part_at R.literals place literals'))) none) booked_here
        ∙ ap (λ (k : List ℕ). cond b (some (lists k (part_at R.literals place literals'))) none) (put_at R.cells place cells cb cells_at cs cs_long)
        ∙ ap (λ (k : List ℤ). cond b (some (lists cs k)) none) (put_at R.literals place literals lb literals_at ls ls_long)

    tables_other : (k : ℕ) → 1 ≤ k → (k ≡ place → ⊥) → tables_at R bytes cells' literals' k ≡ tables_at R a.books cells literals k
    tables_other k h ne =
        ap (λ (n : ℕ). cond (not (eqb n 0)) (some (lists (part_at R.cells k cells') (part_at R.literals k literals'))) none)
        (get_or-set_other a.books (place - 1) (k - 1) (byte_of b) 0 (λ e. ne (omega (arith, e, h, from_one place inside))))
        ∙ ap (λ (t : List ℕ). cond (booked a.books k) (some (lists t (part_at R.literals k literals'))) none) (beside_other R.cells place cells cells' c k h (from_one place inside) ne)
        ∙ ap (λ (t : List ℤ). cond (booked a.books k) (some (lists (part_at R.cells k cells) t)) none) (beside_other R.literals place literals literals' l k h (from_one place inside) ne)

    held_seated : (held_in R (seated a place b) cells' literals').places ≡ set (held_in R a cells literals).places (place - 1) (cond b (some (lists cs ls)) none)
    held_seated =
        set_from books 1 (place - 1) place (tables_at R a.books cells literals) (tables_at R bytes cells' literals') (sym (first R a cells literals (placed place forget) inside)) in_range tables_other
        ∙ ap (λ (x : Option Lists). set (held_in R a cells literals).places (place - 1) x) tables_there

    day_seated : (f : Option Formula) → book_in read_lists (cond b (some (lists cs ls)) none) ≡ fresh_in f → day_in R (seated a place b) cells' literals' ≡ with_text (day_in R a cells literals) place f
    day_seated f e =
        ap (λ (ps : List (Option Lists)). record { total = a.total; used = a.used; places = map (book_in read_lists) ps }) held_seated
        ∙ ap (λ (ps : List (Option Read)). record { total = a.total; used = a.used; places = ps })
        (map_set (book_in read_lists) (held_in R a cells literals).places (place - 1) (cond b (some (lists cs ls)) none) ∙ ap (λ (x : Option Read). set (day_in R a cells literals).places (place - 1) x) e)

  -- the text's answer on the parts, as they were lent
  opened_there : (L : Limits) (o : text.Opened) (q : Result (Unit {0}) RefusedAt) (r : Opened) (ok : Bool) → ok ≡ is_ok q
      → OpenedAt L o (take (cb.to - cb.from) (drop cb.from cells)) (take (lb.to - lb.from) (drop lb.from literals)) q cs ls → ToldOf q r
      → OpensThere R L o a cells literals place r (seated a place ok) cells' literals'
  opened_there L o q r ok is v t =
      record {
        answer = subst (λ (k : List ℕ). OpenedIn L o here.cells here.literals r k (part_at R.literals place literals')) (sym (put_at R.cells place cells cb cells_at cs cs_long))
            (subst (λ (k : List ℤ). OpenedIn L o here.cells here.literals r cs k) (sym (put_at R.literals place literals lb literals_at ls ls_long)) (told_in L o here.cells here.literals q r cs ls on_parts t));
        whole = λ w. day_seated ok (book_of o) (ap (λ (b : Bool). book_in read_lists (cond b (some (lists cs ls)) none)) is ∙ opens o q (on_parts.whole w));
        short = λ n. day_seated ok none (ap (λ (b : Bool). book_in read_lists (cond b (some (lists cs ls)) none)) (is ∙ ap is_ok (on_parts.short n).0));
        cells_beside = c;
        literals_beside = l;
      }
    where
      here : Lists
      here = lists (part_at R.cells place cells) (part_at R.literals place literals)

      on_parts : OpenedAt L o here.cells here.literals q cs ls
      on_parts =
          subst (λ (k : List ℕ). OpenedAt L o k here.literals q cs ls) (lent_at R.cells place cells cb cells_at)
          (subst (λ (k : List ℤ). OpenedAt L o (take (cb.to - cb.from) (drop cb.from cells)) k q cs ls) (lent_at R.literals place literals lb literals_at) v)

      opens : (o : text.Opened) (q : Result (Unit {0}) RefusedAt) → AnsweredAt o q cs ls → book_in read_lists (cond (is_ok q) (some (lists cs ls)) none) ≡ fresh_in (book_of o)
      opens (text.refused k n) (Ok u) a = absurd a
      opens (text.refused k n) (Err e) a = refl
      opens (text.opened b) (Ok u) a = ap (λ (x : Option Read). some (state_in x)) a
      opens (text.opened b) (Err e) a = absurd a

  pub opened_at : (L : Limits) (o : text.Opened) (q : Result (Unit {0}) RefusedAt) (r : Opened) (ok : Bool) → ok ≡ is_ok q
      → OpenedAt L o (take (cb.to - cb.from) (drop cb.from cells)) (take (lb.to - lb.from) (drop lb.from literals)) q cs ls → ToldOf q r
      → (a' : Accounts) → a' ≡ seated a place ok → OpensAtPlace R L o a cells literals place r a' cells' literals'
  opened_at L o q r ok is v t a' e =
      record {
        inside = λ _. subst (λ (b : Accounts). OpensThere R L o a cells literals place r b cells' literals') (sym e) (opened_there L o q r ok is v t);
        beyond = λ z. absurd (no_room (sym inside ∙ z));
      }

-- the book at a place that may be called, written
pub written_there : (R : Rooms) (cells : List ℕ) (literals : List ℤ) (place : ℕ) (share : Result ℕ Refusal) (m : ℕ) → share ≡ Ok m → (cb lb : Bounds)
    → BoundsOf (start R.cells place) (room R.cells place) (length cells) cb → BoundsOf (start R.literals place) (room R.literals place) (length literals) lb → (size : ℕ) (w : Written) (table : Bytes)
    → WritesAt (take (cb.to - cb.from) (drop cb.from cells)) (take (lb.to - lb.from) (drop lb.from literals)) size w.refusal w.length table → WritesAtPlace R share cells literals place size w table
written_there R cells literals place share m e cb lb cells_at literals_at size w table v =
    subst (λ (q : Result ℕ Refusal). WritesAtPlace R q cells literals place size w table) (sym e)
    (subst (λ (k : List ℕ). WritesAt k (part_at R.literals place literals) size w.refusal w.length table) (lent_at R.cells place cells cb cells_at)
    (subst (λ (k : List ℤ). WritesAt (take (cb.to - cb.from) (drop cb.from cells)) k size w.refusal w.length table) (lent_at R.literals place literals lb literals_at) v))
