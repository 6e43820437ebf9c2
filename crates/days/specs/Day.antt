-- A day: eight places with a book or none, and a call at a place. Paper 02, wish 12.
use Rattle.std.specs.Prelude.{ℕ, zero, suc, ◌-◌, min, Bool, true, false, cond, ◌||◌, List, [], ◌∷◌, get_or, set, eqb, ltb}
use Rattle.std.proofs.Math.Option.{Option, none, some}
use Rattle.qbf.specs.Formula.{Formula}
use Rattle.qbf.specs.Calls.{Call, rule, query, card, forget, withdraw, keep_card, one, closest, ceiling_of, Reply, done, refused, swap, keep, unsettled, lines, card_refused, found, Answer, answer, refusal, State, step}
use Rattle.qbf.specs.Runs.{fresh}
use Rattle.days.specs.Accounts.{books, opened, overspent, allowance, charged, stop_number}

-- "Up to eight books, in places 1 to 8, share one daily total T of visits": the total, the visits used at each place, and its book
pub record Day : Type 0 where
  pub total : ℕ
  pub used : List ℕ
  pub places : List (Option State)

-- ---- loading
-- what a text gives is a book, or none where it is refused: "a refused text leaving its place without a book"; its store is empty
abbrev pub fresh_in : Option Formula → Option State
fresh_in none = none
fresh_in (some b) = some (fresh b)

-- n places, with the books in their order
abbrev pub filled : ℕ → List (Option Formula) → List (Option State)
filled zero bs = []
filled (suc n) [] = none ∷ filled n []
filled (suc n) (b ∷ bs) = fresh_in b ∷ filled n bs

-- "They are loaded together when a day starts .. and all visits used are then 0."
abbrev pub loaded : ℕ → List (Option Formula) → Day
loaded T bs = record { total = T; used = opened; places = filled books bs }

-- ---- places
abbrev pub outside : ℕ → Bool
outside place = eqb place 0 || ltb books place

-- "a place without a book, or outside 1 to 8": none
abbrev pub book_at : Day → ℕ → Option State
book_at d place = cond (outside place) none (get_or d.places (place - 1) none)

-- the visits that a call at a place may use
abbrev pub share_at : Day → ℕ → ℕ
share_at d place = allowance d.total d.used (place - 1)

-- ---- a call under a share
-- its ceiling is its own or the share, whichever is smaller
abbrev pub limited : ℕ → Call → Call
limited m (rule ls) = rule ls
limited m (query ceiling on off) = query (min ceiling m) on off
limited m (card ceiling size) = card (min ceiling m) size
limited m forget = forget
limited m withdraw = withdraw
limited m (keep_card ceiling size) = keep_card (min ceiling m) size
limited m (one ls) = one ls
limited m (closest ceiling size on off) = closest (min ceiling m) size on off

-- a stopped call's number is k
abbrev pub stop_as : ℕ → ℕ → ℕ
stop_as k n = cond (eqb n 34) k n

abbrev pub stopped_as : ℕ → Reply → Reply
stopped_as k done = done
stopped_as k (refused n) = refused (stop_as k n)
stopped_as k swap = swap
stopped_as k keep = keep
stopped_as k unsettled = unsettled
stopped_as k (lines ls tb) = lines ls tb
stopped_as k (card_refused n tb) = card_refused (stop_as k n) tb
stopped_as k (found ls tb r) = found ls tb r

-- "A walk stopped by the shared total returns 37 where its own ceiling is higher, otherwise 34": the own ceiling, the share
abbrev pub shared_reply : Option ℕ → ℕ → Reply → Reply
shared_reply none m r = r
shared_reply (some own) m r = stopped_as (stop_number own m) r

-- ---- one call
-- a call and its place
pub record Placed : Type 0 where
  pub place : ℕ
  pub call : Call

pub record DayStepped : Type 0 where
  pub day : Day
  pub out : Answer

-- "refused calls' visits count": what the call's search made is charged to its place, and the other places stay
abbrev pub ledgered : Day → ℕ → State → Answer → Day
ledgered d i x a = record { total = d.total; used = charged d.used i a.visits; places = set d.places i (some x) }

abbrev pub under_share : Day → ℕ → ℕ → State → Call → DayStepped
under_share d i m x c =
    let r = step x (limited m c) in
    record { day = ledgered d i r.state r.out; out = answer (shared_reply (ceiling_of c) m r.out.reply) r.out.visits }

-- "Next, a state whose visits used and still owed together exceed T is 22", whatever the call; the book's own 22 comes after it
abbrev pub accounted : Bool → Day → ℕ → State → Call → DayStepped
accounted true d place x c = record { day = d; out = answer (refusal 22 c) 0 }
accounted false d place x c = under_share d (place - 1) (share_at d place) x c

-- ".. is 38, before all else"
abbrev pub at_book : Option State → Day → ℕ → Call → DayStepped
at_book none d place c = record { day = d; out = answer (refusal 38 c) 0 }
at_book (some x) d place c = accounted (overspent d.total d.used) d place x c

abbrev pub day_step : Day → Placed → DayStepped
day_step d p = at_book (book_at d p.place) d p.place p.call

-- ---- lists of calls at places
abbrev pub day_run : Day → List Placed → List Answer
day_run d [] = []
day_run d (p ∷ ps) =
    let r = day_step d p in
    r.out ∷ day_run r.day ps

abbrev pub day_after : Day → List Placed → Day
day_after d [] = d
day_after d (p ∷ ps) = day_after (day_step d p).day ps
