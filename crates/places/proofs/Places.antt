-- A call that is served on the tables of a place, and whose visits are charged, is a call at its place of the day that all the tables hold.
use Prim.Native.Nat.{ℕ, zero, suc, ◌+◌, ◌-◌, ◌≤◌, ◌<◌}
use native.Mathlib.Omega.{arith}
use native.Mathlib.Nat.{le_of_suc-le-suc, not-suc-le-zero}
use mathlib.Core.Path.{◌≡◌, refl, sym, ap, ◌∙◌, subst}
use mathlib.Core.Bool.{Bool, true, false, cond, not, ◌||◌}
use mathlib.Core.List.{List, ◌∷◌}
use mathlib.Core.Option.{Option, none, some}
use lib.IntN.{ℤ}
use lib.ListN.{length, get_or, set, take, drop}
use borrow.Rule.Slice.PartMut.{put_mid, put_same}
use lib.Seq.{get_or-set_same, set-get_or}
use Rattle.std.specs.Prelude.{Result, Ok, Err}
use Rattle.refusal.specs.declared.Refusal.{Refusal}
use Rattle.refusal.specs.declared.Refusal.TheVariants.{NoBook, Malformed}
use Rattle.refusal.specs.Refusal.{number_of}
use Rattle.qbf.specs.Calls.{Call, State as Read, answer, ceiling_of, refusal, step}
use Rattle.qbf.specs.Demands.{AfterSearch, refusal_of}
use Rattle.serving.specs.Serves.{Said, said_of, out_of, next_of}
use Rattle.days.specs.Accounts.{books, overspent, allowance, charged}
use Rattle.days.specs.Day.{Day, DayStepped, Placed, day_step, limited, outside}
use Rattle.days_laws.proofs.Days.{from_one, to_eight}
use Rattle.days_laws.proofs.Limited.{limited_same, no_search}
use Rattle.state_parts.specs.Parts.{read_at}
use Rattle.shares.specs.Shares.{share_of, allows_of, settled}
use Rattle.shares.proofs.Days.{ByShare, by_share, held as stands}
use Rattle.rule_calls.specs.ServesAt.{ServesAt}
use Rattle.rule_calls.specs.Served.{Lists, lists, read_lists}
use Rattle.rule_calls.proofs.Lists.{serves_by}
use Rattle.serving_days.specs.Serves.{Held, ServesDay, book_in, day_of, said_at}
use Rattle.serving.proofs.Numbered.{said_visits}
use Rattle.serving_days.proofs.Places.{place_serves, place_next, map_get_or}
use Rattle.places.specs.declared.rooms.Rooms.{Rooms}
use Rattle.places.specs.declared.rooms.Bounds.{Bounds}
use Rattle.places.specs.declared.accounts.Accounts.{Accounts}
use Rattle.places.specs.Rooms.{start, room, part_at, BoundsOf, Beside}
use Rattle.places.specs.Day.{booked, with_used, from_on, tables_at, held_in, day_in, ServesAtPlace}
use Rattle.places.proofs.Parts.{lent_at, put_beside, put_at, beside_other}

-- ---- what a function gives for each place
module _ {A : Type 0} where
  pub get_from : (n i j : ℕ) (f : ℕ → A) (d : A) → j < n → get_or (from_on i n f) j d ≡ f (i + j)
  get_from zero i j f d h = absurd (not-suc-le-zero h)
  get_from (suc n) i zero f d h = let e : i ≡ i + 0 = omega arith in ap f e
  get_from (suc n) i (suc j) f d h = let e : suc i + j ≡ i + suc j = omega arith in get_from n (suc i) j f d (le_of_suc-le-suc h) ∙ ap f e

  pub same_from : (n i : ℕ) (f g : ℕ → A) → ((k : ℕ) → i ≤ k → g k ≡ f k) → from_on i n g ≡ from_on i n f
  same_from zero i f g s = refl
  same_from (suc n) i f g s = ap (λ (x : A). x ∷ from_on (suc i) n g) (s i (omega arith)) ∙ ap (λ (l : List A). f i ∷ l) (same_from n (suc i) f g (λ k h. s k (omega (arith, h))))

  pub set_from : (n i j p : ℕ) (f g : ℕ → A) → p ≡ i + j → j < n → ((k : ℕ) → i ≤ k → (k ≡ p → ⊥) → g k ≡ f k) → from_on i n g ≡ set (from_on i n f) j (g p)
  set_from zero i j p f g e h s = absurd (not-suc-le-zero h)
  set_from (suc n) i zero p f g e h s =
      let q : i ≡ p = omega (arith, e) in
      ap (λ (x : A). x ∷ from_on (suc i) n g) (ap g q)
      ∙ ap (λ (l : List A). g p ∷ l) (same_from n (suc i) f g (λ k t. s k (omega (arith, t)) (λ z. omega (arith, z, t, q))))
  set_from (suc n) i (suc j) p f g e h s =
      ap (λ (x : A). x ∷ from_on (suc i) n g) (s i (omega arith) (λ z. omega (arith, z, e)))
      ∙ ap (λ (l : List A). f i ∷ l) (set_from n (suc i) j p f g (omega (arith, e)) (le_of_suc-le-suc h) (λ k t ne. s k (omega (arith, t)) ne))

-- ---- the share that was found
-- a place with a share is 1 to 8, and has a book
pub record Shared (T : ℕ) (us : List ℕ) (place : ℕ) (book : Bool) (m : ℕ) : Type 0 where
  pub inside : outside place ≡ false
  pub stands : book ≡ true
  pub share : share_of T us place true ≡ Ok m

pub shared : (T : ℕ) (us : List ℕ) (place : ℕ) (book : Bool) (m : ℕ) → share_of T us place book ≡ Ok m → Shared T us place book m
shared T us place book m e = by book (outside place) refl e
  where
    accounted : Result ℕ Refusal
    accounted = cond (overspent T us) (Err Malformed) (Ok (allowance T us (place - 1)))

    no_share : {r : Refusal} → Err r ≡ Ok m → ⊥
    no_share z = subst (λ (q : Result ℕ Refusal). told q) z tt
      where
        told : Result ℕ Refusal → Type 0
        told (Ok k) = ⊥
        told (Err r) = Unit {0}

    by : (b o : Bool) → outside place ≡ o → cond (not b || o) (Err NoBook) accounted ≡ Ok m → Shared T us place b m
    by true true q z = absurd (no_share z)
    by true false q z = record { inside = q; stands = refl; share = ap (λ (o : Bool). cond (not true || o) (Err NoBook) accounted) q ∙ z }
    by false o q z = absurd (no_share z)

-- no visits are charged
settled_none : (T : ℕ) (us : List ℕ) (place : ℕ) → settled T us place 0 ≡ us
settled_none T us place = by (allows_of (share_of T us place true) 0)
  where
    same : set us (place - 1) (get_or us (place - 1) 0 + 0) ≡ us
    same = let e : get_or us (place - 1) 0 + 0 ≡ get_or us (place - 1) 0 = omega arith in ap (set us (place - 1)) e ∙ set-get_or us (place - 1) 0

    by : (o : Bool) → cond o (charged us (place - 1) 0) us ≡ us
    by true = same
    by false = refl

unsearched : (o : Option Read) (c : Call) → ceiling_of c ≡ none → (said_of (out_of o c)).visits ≡ 0
unsearched none c e = said_visits (refusal 22 c) 0
unsearched (some y) c e = said_visits (step y c).out.reply (step y c).out.visits ∙ no_search y c e

-- ---- a place of the day
module _ (R : Rooms) (a : Accounts) (cells : List ℕ) (literals : List ℤ) (p : Placed) (inside : outside p.place ≡ false) where
  abbrev held : Held Lists
  held = held_in R a cells literals

  pub below : p.place - 1 < books
  below = omega (arith, to_eight p.place inside, from_one p.place inside)

  pub first : 1 + (p.place - 1) ≡ p.place
  first = omega (arith, from_one p.place inside)

  -- its tables
  pub tables_here : get_or held.places (p.place - 1) none ≡ tables_at R a.books cells literals p.place
  tables_here = get_from books 1 (p.place - 1) (tables_at R a.books cells literals) none below ∙ ap (tables_at R a.books cells literals) first

  -- with its parts written, and other visits used
  module _ (us : List ℕ) (cells' : List ℕ) (literals' : List ℤ) (c : Beside R.cells p.place cells cells') (l : Beside R.literals p.place literals literals') where
    pub held_after : held_in R (with_used a us) cells' literals' ≡ record { total = a.total; used = us; places = set held.places (p.place - 1) (tables_at R a.books cells' literals' p.place) }
    held_after =
        ap (λ (ps : List (Option Lists)). record { total = a.total; used = us; places = ps })
        (set_from books 1 (p.place - 1) p.place (tables_at R a.books cells literals) (tables_at R a.books cells' literals') (sym first) below other)
      where
        other : (k : ℕ) → 1 ≤ k → (k ≡ p.place → ⊥) → tables_at R a.books cells' literals' k ≡ tables_at R a.books cells literals k
        other k h ne =
            ap (λ (cs : List ℕ). cond (booked a.books k) (some (lists cs (part_at R.literals k literals'))) none) (beside_other R.cells p.place cells cells' c k h (from_one p.place inside) ne)
            ∙ ap (λ (ls : List ℤ). cond (booked a.books k) (some (lists (part_at R.cells k cells) ls)) none) (beside_other R.literals p.place literals literals' l k h (from_one p.place inside) ne)

-- ---- a call
module _ (R : Rooms) (a : Accounts) (cells : List ℕ) (literals : List ℤ) (p : Placed) where
  abbrev T : ℕ
  T = a.total

  abbrev i : ℕ
  i = p.place

  abbrev day : Day
  day = day_in R a cells literals

  -- whether the place has a book, as the definitions' day has it
  pub told : outside i ≡ false → booked a.books i ≡ stands (get_or day.places (i - 1) none)
  told inside = sym (ap stands (booked_in (tables_here R a cells literals p inside)) ∙ seen (booked a.books i))
    where
      booked_in : get_or (held_in R a cells literals).places (i - 1) none ≡ tables_at R a.books cells literals i → get_or day.places (i - 1) none ≡ book_in read_lists (tables_at R a.books cells literals i)
      booked_in e = map_get_or (book_in read_lists) (held_in R a cells literals).places (i - 1) none ∙ ap (book_in read_lists) e

      seen : (o : Bool) → stands (book_in read_lists (cond o (some (lists (part_at R.cells i cells) (part_at R.literals i literals))) none)) ≡ o
      seen true = refl
      seen false = refl

  -- where the day refuses
  pub refused_here : (r : Refusal) → share_of T a.used i (booked a.books i) ≡ Err r → ServesAtPlace R a cells literals p (said_of (answer (refusal (number_of r) p.call) 0)) a cells literals
  refused_here r e =
      record {
        serves =
            record {
              answered = ap (λ (s : DayStepped). said_of s.out) (sym stepped);
              next = ap (λ (s : DayStepped). s.day) (sym stepped);
              kept = λ n q before other. refl;
            };
        books = refl;
        cells_beside = record { long = refl; before = refl; behind = refl };
        literals_beside = record { long = refl; before = refl; behind = refl };
        kept = λ n q before other. (refl, refl, refl);
      }
    where
      stepped : day_step day p ≡ record { day = day; out = answer (refusal (number_of r) p.call) 0 }
      stepped = subst (ByShare day p) e (by_share day p (booked a.books i) told)

  -- where the place may use m visits: its book's call is served on its parts, under the limit, and the visits are charged
  module _ (m : ℕ) (e : share_of T a.used i (booked a.books i) ≡ Ok m) (cb lb : Bounds)
      (cells_at : BoundsOf (start R.cells i) (room R.cells i) (length cells) cb) (literals_at : BoundsOf (start R.literals i) (room R.literals i) (length literals) lb)
      (cs : List ℕ) (ls : List ℤ)
      (cs_long : length cs ≡ length (take (cb.to - cb.from) (drop cb.from cells))) (ls_long : length ls ≡ length (take (lb.to - lb.from) (drop lb.from literals))) where
    abbrev cells' : List ℕ
    cells' = put_mid cb.from (cb.to - cb.from) cells cs

    abbrev literals' : List ℤ
    literals' = put_mid lb.from (lb.to - lb.from) literals ls

    abbrev mine : Lists
    mine = lists (part_at R.cells i cells) (part_at R.literals i literals)

    s : Shared T a.used i (booked a.books i) m
    s = shared T a.used i (booked a.books i) m e

    beside_cells : Beside R.cells i cells cells'
    beside_cells = put_beside R.cells i cells cb cells_at cs cs_long

    beside_literals : Beside R.literals i literals literals'
    beside_literals = put_beside R.literals i literals lb literals_at ls ls_long

    here : get_or (held_in R a cells literals).places (i - 1) none ≡ some mine
    here = tables_here R a cells literals p s.inside ∙ ap (λ (o : Bool). cond o (some mine) none) s.stands

    after : (us : List ℕ) → held_in R (with_used a us) cells' literals' ≡ record { total = T; used = us; places = set (held_in R a cells literals).places (i - 1) (some (lists cs ls)) }
    after us =
        held_after R a cells literals p s.inside us cells' literals' beside_cells beside_literals
        ∙ ap (λ (x : Option Lists). record { total = T; used = us; places = set (held_in R a cells literals).places (i - 1) x })
        (ap (λ (o : Bool). cond o (some (lists (part_at R.cells i cells') (part_at R.literals i literals'))) none) s.stands
        ∙ ap (λ (k : List ℕ). some (lists k (part_at R.literals i literals'))) (put_at R.cells i cells cb cells_at cs cs_long)
        ∙ ap (λ (k : List ℤ). some (lists cs k)) (put_at R.literals i literals lb literals_at ls ls_long))

    -- parts that are as they were
    same_cells : cs ≡ part_at R.cells i cells → cells' ≡ cells
    same_cells q = ap (put_mid cb.from (cb.to - cb.from) cells) (q ∙ sym (lent_at R.cells i cells cb cells_at)) ∙ put_same cb.from (cb.to - cb.from) cells

    same_literals : ls ≡ part_at R.literals i literals → literals' ≡ literals
    same_literals q = ap (put_mid lb.from (lb.to - lb.from) literals) (q ∙ sym (lent_at R.literals i literals lb literals_at)) ∙ put_same lb.from (lb.to - lb.from) literals

    -- the definitions' day after the call, from what its book reads as
    pub day_here : (v : ℕ) → v ≡ (out_of (read_lists mine) (limited m p.call)).visits → read_lists (lists cs ls) ≡ next_of (read_lists mine) (limited m p.call)
        → day_in R (with_used a (settled T a.used i v)) cells' literals' ≡ (day_step day p).day
    day_here v made next = ap (day_of read_lists) (after (settled T a.used i v)) ∙ place_next read_lists (held_in R a cells literals) p mine here m s.share v (lists cs ls) made next

    pub served_here : (x : Said) → ServesAt (take (cb.to - cb.from) (drop cb.from cells)) (take (lb.to - lb.from) (drop lb.from literals)) (limited m p.call) x cs ls
        → ServesAtPlace R a cells literals p (said_at (ceiling_of p.call) m x) (with_used a (settled T a.used i x.visits)) cells' literals'
    served_here x v =
        record {
          serves = subst (λ (h : Held Lists). ServesDay read_lists (held_in R a cells literals) p (said_at (ceiling_of p.call) m x) h) (sym (after us)) day_serves;
          books = refl;
          cells_beside = beside_cells;
          literals_beside = beside_literals;
          kept = λ n q before other. stays n q before other;
        }
      where
        us : List ℕ
        us = settled T a.used i x.visits

        on_parts : ServesAt mine.cells mine.literals (limited m p.call) x cs ls
        on_parts =
            subst (λ (k : List ℕ). ServesAt k mine.literals (limited m p.call) x cs ls) (lent_at R.cells i cells cb cells_at)
            (subst (λ (k : List ℤ). ServesAt (take (cb.to - cb.from) (drop cb.from cells)) k (limited m p.call) x cs ls) (lent_at R.literals i literals lb literals_at) v)

        day_serves : ServesDay read_lists (held_in R a cells literals) p (said_at (ceiling_of p.call) m x) (record { total = T; used = us; places = set (held_in R a cells literals).places (i - 1) (some (lists cs ls)) })
        day_serves = place_serves read_lists (held_in R a cells literals) p mine here m s.share x (lists cs ls) (serves_by on_parts)

        stays : (n : ℕ) → refusal_of (day_step day p).out.reply ≡ some n → (AfterSearch n → ⊥) → (n ≡ 37 → ⊥) → (with_used a us ≡ a) × (cells' ≡ cells) × (literals' ≡ literals)
        stays n q before other =
            let same : record { total = T; used = us; places = set (held_in R a cells literals).places (i - 1) (some (lists cs ls)) } ≡ held_in R a cells literals = day_serves.kept n q before other in
            let u : us ≡ a.used = ap (λ (h : Held Lists). h.used) same in
            let w : lists cs ls ≡ mine = written_as same in
            (ap (with_used a) u, same_cells (ap (λ (k : Lists). k.cells) w), same_literals (ap (λ (k : Lists). k.literals) w))
          where
            at : List (Option Lists) → Option Lists
            at l = get_or l (i - 1) none

            long : i - 1 < length (held_in R a cells literals).places
            long = below R a cells literals p s.inside

            written_as : record { total = T; used = us; places = set (held_in R a cells literals).places (i - 1) (some (lists cs ls)) } ≡ held_in R a cells literals → lists cs ls ≡ mine
            written_as same =
                let w : some (lists cs ls) ≡ some mine = sym (get_or-set_same (held_in R a cells literals).places (i - 1) (some (lists cs ls)) none long) ∙ ap (λ (h : Held Lists). at h.places) same ∙ here in
                cc

    -- a call without a search makes no visits: the accounts are as they were
    pub served_still : (x : Said) → ceiling_of p.call ≡ none → ServesAt (take (cb.to - cb.from) (drop cb.from cells)) (take (lb.to - lb.from) (drop lb.from literals)) p.call x cs ls
        → ServesAtPlace R a cells literals p x a cells' literals'
    served_still x z v =
        subst (λ (us : List ℕ). ServesAtPlace R a cells literals p x (with_used a us) cells' literals') (ap (settled T a.used i) none_made ∙ settled_none T a.used i)
        (subst (λ (o : Option ℕ). ServesAtPlace R a cells literals p (said_at o m x) (with_used a (settled T a.used i x.visits)) cells' literals') z
        (served_here x (subst (λ (k : Call). ServesAt (take (cb.to - cb.from) (drop cb.from cells)) (take (lb.to - lb.from) (drop lb.from literals)) k x cs ls) (sym (limited_same m p.call own)) v)))
      where
        own : (k : ℕ) → ceiling_of p.call ≡ some k → k ≤ m
        own k e = absurd (no_ceiling (sym z ∙ e))
          where
            no_ceiling : none ≡ some k → ⊥
            no_ceiling q = subst (λ (o : Option ℕ). nothing o) q tt
              where
                nothing : Option ℕ → Type 0
                nothing none = Unit {0}
                nothing (some n) = ⊥

        none_made : x.visits ≡ 0
        none_made = ap (λ (s : Said). s.visits) v.answered ∙ unsearched (read_at (take (cb.to - cb.from) (drop cb.from cells)) (take (lb.to - lb.from) (drop lb.from literals))) p.call z
