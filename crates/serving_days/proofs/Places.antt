-- A book's call that is served under its limit, charged and renamed, is a call at its place that is served.
use Prim.Native.Nat.{ℕ, zero, suc, ◌-◌, ◌≤◌}
use native.Mathlib.Omega.{arith}
use mathlib.Core.Path.{◌≡◌, refl, sym, ap, ◌∙◌, subst}
use mathlib.Core.Logic.{◌⊎◌, inl, inr}
use mathlib.Core.Bool.{Bool, true, cond}
use mathlib.Core.List.{List, [], ◌∷◌, map}
use mathlib.Core.Option.{Option, none, some}
use lib.ListN.{get_or, set}
use lib.Seq.{set-get_or}
use borrow.Author.Tests.{le-leb}
use Rattle.qbf.specs.Calls.{Answer, Call, Reply, State as Read, card_refused, ceiling_of, done, found, keep, lines, refused, step, swap, unsettled}
use Rattle.qbf.specs.Demands.{AfterSearch, refusal_of}
use Rattle.theory.proofs.Refusals.{refused_leaves}
use Rattle.serving.specs.Serves.{Said, said_of, said_reply, out_of, next_of, ServesBy}
use Rattle.days.specs.Accounts.{charged}
use Rattle.days.specs.Day.{DayStepped, Placed, day_step, limited, shared_reply, stopped_as, under_share}
use Rattle.days_laws.proofs.Limited.{reply_alone, visits_limited}
use Rattle.days_laws.proofs.Days.{inside}
use Rattle.days_laws.proofs.Refused.{stopped_number}
use Rattle.refusal.specs.declared.Refusal.{Refusal}
use Rattle.std.specs.Prelude.{Result, Ok}
use Rattle.shares.specs.Shares.{allows_of, share_of, settled}
use Rattle.shares.proofs.Days.{ByShare, by_share, held}
use Rattle.serving.proofs.Numbered.{said_visits}
use Rattle.serving_days.specs.Serves.{Held, ServesDay, book_in, day_of, said_at, state_in}

-- ---- tables that do not read
-- every call on the malformed state is 22, and leaves it
pub out_in : (o : Option Read) (c : Call) → out_of o c ≡ (step (state_in o) c).out
out_in none c = refl
out_in (some y) c = refl

pub next_in : (o : Option Read) (c : Call) → state_in (next_of o c) ≡ (step (state_in o) c).state
next_in none c = refl
next_in (some y) c = refl

-- ---- the answer
pub said_shared : (o : Option ℕ) (m : ℕ) (r : Reply) (v : ℕ) → said_at o m (said_reply r v) ≡ said_reply (shared_reply o m r) v
said_shared none m r v = refl
said_shared (some own) m done v = refl
said_shared (some own) m (refused n) v = refl
said_shared (some own) m swap v = refl
said_shared (some own) m keep v = refl
said_shared (some own) m unsettled v = refl
said_shared (some own) m (lines ls tb) v = refl
said_shared (some own) m (card_refused n tb) v = refl
said_shared (some own) m (found ls tb r) v = refl

-- ---- the places
pub map_set : {A B : Type 0} (f : A → B) (l : List A) (i : ℕ) (y : A) → map f (set l i y) ≡ set (map f l) i (f y)
map_set f [] i y = refl
map_set f (x ∷ l) zero y = refl
map_set f (x ∷ l) (suc i) y = ap (λ (t : List _). f x ∷ t) (map_set f l i y)

pub map_get_or : {A B : Type 0} (f : A → B) (l : List A) (i : ℕ) (z : A) → get_or (map f l) i (f z) ≡ f (get_or l i z)
map_get_or f [] i z = refl
map_get_or f (x ∷ l) zero z = refl
map_get_or f (x ∷ l) (suc i) z = map_get_or f l i z

-- ---- the call
module _ {S : Type 0} (read : S → Option Read) (h : Held S) (p : Placed) (x : S) (here : get_or h.places (p.place - 1) none ≡ some x) (m : ℕ)
    (share : share_of h.total h.used p.place true ≡ Ok m) where
  -- the book's call, with its limit
  abbrev own : Call
  own = limited m p.call

  abbrev state : Read
  state = state_in (read x)

  -- the day that it leaves: the visits are charged, and the book's state is the new one
  abbrev pub left_at : ℕ → S → Held S
  left_at v x' = record { total = h.total; used = settled h.total h.used p.place v; places = set h.places (p.place - 1) (some x') }

  booked : get_or ((day_of read h).places) (p.place - 1) none ≡ some state
  booked = map_get_or (book_in read) h.places (p.place - 1) none ∙ ap (book_in read) here

  stepped : day_step (day_of read h) p ≡ under_share (day_of read h) (p.place - 1) m state p.call
  stepped = by (subst (ByShare (day_of read h) p) share (by_share (day_of read h) p true (λ _. sym (ap held booked))))
    where
      by : ByShare (day_of read h) p (Ok m) → day_step (day_of read h) p ≡ under_share (day_of read h) (p.place - 1) m state p.call
      by (y, e, q) =
          let seen : some y ≡ some state = sym e ∙ ap (λ (o : Bool). cond o none (get_or ((day_of read h).places) (p.place - 1) none)) (inside (day_of read h) p.place y e) ∙ booked in
          let same : y ≡ state = cc in
          q ∙ ap (λ (z : Read). under_share (day_of read h) (p.place - 1) m z p.call) same

  -- visits within the share are charged
  charged_all : (v : ℕ) → v ≤ m → settled h.total h.used p.place v ≡ charged h.used (p.place - 1) v
  charged_all v le =
      ap (λ (s : Result ℕ Refusal). cond (allows_of s v) (charged h.used (p.place - 1) v) h.used) share
      ∙ ap (λ (o : Bool). cond o (charged h.used (p.place - 1) v) h.used) (le-leb v m le)

  -- the day that is left, whatever was answered
  module _ (v : ℕ) (x' : S) (made : v ≡ (out_of (read x) own).visits) (next : read x' ≡ next_of (read x) own) where
    used_next : (left_at v x').used ≡ charged h.used (p.place - 1) (step state own).out.visits
    used_next =
        ap (settled h.total h.used p.place) (made ∙ ap (λ (o : Answer). o.visits) (out_in (read x) own))
        ∙ charged_all (step state own).out.visits (visits_limited state m p.call)

    places_next : map (book_in read) (left_at v x').places ≡ set (day_of read h).places (p.place - 1) (some (step state own).state)
    places_next =
        map_set (book_in read) h.places (p.place - 1) (some x')
        ∙ ap (λ (y : Read). set (day_of read h).places (p.place - 1) (some y)) (ap state_in next ∙ next_in (read x) own)

    pub place_next : day_of read (left_at v x') ≡ (day_step (day_of read h) p).day
    place_next = (λ i. record { total = h.total; used = used_next i; places = places_next i }) ∙ sym (ap (λ (r : DayStepped). r.day) stepped)

  module _ (a : Said) (x' : S) (served : ServesBy read x own a x') where
    told : a ≡ said_of (step state own).out
    told = served.answered ∙ ap said_of (out_in (read x) own)

    visits : a.visits ≡ (out_of (read x) own).visits
    visits = ap (λ (s : Said). s.visits) served.answered ∙ said_visits (out_of (read x) own).reply (out_of (read x) own).visits

    -- a refusal before any search
    stays : (n : ℕ) → refusal_of ((step state own).out.reply) ≡ some n → (AfterSearch n → ⊥) → left_at a.visits x' ≡ h
    stays n e before =
        let same : x' ≡ x = served.kept n (ap (λ (o : Answer). refusal_of o.reply) (out_in (read x) own) ∙ e) before in
        let none_made : (step state own).out.visits ≡ 0 = (refused_leaves state own n e).visits before in
        let us : (left_at a.visits x').used ≡ h.used =
        used_next a.visits x' visits served.next ∙ ap (λ (k : ℕ). set h.used (p.place - 1) k) (omega (arith, none_made)) ∙ set-get_or h.used (p.place - 1) 0 in
        let bs : (left_at a.visits x').places ≡ h.places =
        ap (λ (o : Option S). set h.places (p.place - 1) o) (ap some same ∙ sym here) ∙ set-get_or h.places (p.place - 1) none in
        λ i. record { total = h.total; used = us i; places = bs i }

    pub place_serves : ServesDay read h p (said_at (ceiling_of p.call) m a) (left_at a.visits x')
    place_serves =
        record {
          answered =
              ap (said_at (ceiling_of p.call) m) told
              ∙ said_shared (ceiling_of p.call) m ((step state own).out.reply) ((step state own).out.visits)
              ∙ sym (ap (λ (r : DayStepped). said_of r.out) stepped);
          next = place_next a.visits x' visits served.next;
          kept = λ n e before other. by n before other (sym (ap (λ (r : DayStepped). refusal_of r.out.reply) stepped) ∙ e) (reply_alone (ceiling_of p.call) m (step state own).out).reply;
        }
      where
        reply : Reply
        reply = shared_reply (ceiling_of p.call) m ((step state own).out.reply)

        by : (n : ℕ) → (AfterSearch n → ⊥) → (n ≡ 37 → ⊥) → refusal_of reply ≡ some n
            → (reply ≡ (step state own).out.reply) ⊎ ((refusal_of ((step state own).out.reply) ≡ some 34) × (reply ≡ stopped_as 37 ((step state own).out.reply))) → left_at a.visits x' ≡ h
        by n before other e (inl same) = stays n (sym (ap refusal_of same) ∙ e) before
        by n before other e (inr (z, t)) =
            let q : some n ≡ some 37 = sym e ∙ ap refusal_of t ∙ stopped_number ((step state own).out.reply) z in
            let is : n ≡ 37 = cc in
            absurd (other is)
