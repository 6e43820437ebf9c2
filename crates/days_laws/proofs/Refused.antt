-- A refused call at a place: its number, and what it leaves of the day. On any day, sound or not.
use Prim.Native.Nat.{ℕ, zero, suc, ◌+◌, ◌-◌}
use native.Mathlib.Omega.{arith}
use mathlib.Core.Path.{◌≡◌, refl, sym, ap, ◌∙◌, subst}
use mathlib.Core.Logic.{◌⊎◌, inl, inr}
use mathlib.Core.Bool.{Bool, true, false, cond, not}
use mathlib.Core.List.{List, [], ◌∷◌}
use mathlib.Core.Option.{Option, none, some}
use lib.ListN.{get_or, set}
use lib.Seq.{set-get_or}
use lib.Dec.{eqb}
use borrow.Author.Tests.{eqb-false}
use Rattle.qbf.specs.Formula.{all}
use Rattle.qbf.specs.Card.{Mem}
use Rattle.qbf.specs.Calls.{Call, Reply, State, Stepped, card, card_refused, ceiling_of, closest, done, forget, found, keep, keep_card, lines, one, query, refusal, refused, rule, step, swap, unsettled, withdraw}
use Rattle.qbf.specs.Demands.{Leaves, refusal_of}
use Rattle.theory.proofs.Basics.{and_left, and_right}
use Rattle.theory.proofs.Refusals.{refusals, refused_known, refused_leaves}
use Rattle.days.specs.Accounts.{overspent}
use Rattle.days.specs.Day.{Day, DayStepped, Placed, accounted, at_book, book_at, day_step, limited, outside, share_at, stop_as, stopped_as, under_share}
use Rattle.days.specs.Promises.{DayLeaves, formula_in}
use Rattle.days_laws.proofs.Limited.{reply_alone}
use Rattle.days_laws.proofs.Days.{inside}

-- ---- numbers
-- the refusals of a call at a place
abbrev pub day_refusals : Call → List ℕ
day_refusals c = 38 ∷ 37 ∷ refusals c

refusal_number : (k : ℕ) (c : Call) → refusal_of (refusal k c) ≡ some k
refusal_number k (rule ls) = refl
refusal_number k (query n on off) = refl
refusal_number k (card n size) = refl
refusal_number k forget = refl
refusal_number k withdraw = refl
refusal_number k (keep_card n size) = refl
refusal_number k (one ls) = refl
refusal_number k (closest n size on off) = refl

first_known : (c : Call) → Mem 22 (refusals c)
first_known (rule ls) = inl refl
first_known (query n on off) = inl refl
first_known (card n size) = inl refl
first_known forget = inl refl
first_known withdraw = inl refl
first_known (keep_card n size) = inl refl
first_known (one ls) = inl refl
first_known (closest n size on off) = inl refl

limited_refusals : (m : ℕ) (c : Call) → refusals (limited m c) ≡ refusals c
limited_refusals m (rule ls) = refl
limited_refusals m (query n on off) = refl
limited_refusals m (card n size) = refl
limited_refusals m forget = refl
limited_refusals m withdraw = refl
limited_refusals m (keep_card n size) = refl
limited_refusals m (one ls) = refl
limited_refusals m (closest n size on off) = refl

-- 37 is the day's alone
not_among : (k : ℕ) (ns : List ℕ) → all (λ j. not (eqb j k)) ns ≡ true → (n : ℕ) → Mem n ns → n ≡ k → ⊥
not_among k [] e n m q = m
not_among k (j ∷ ns) e n (inl p) q = eqb-false j k (negated (eqb j k) (and_left (not (eqb j k)) (all (λ i. not (eqb i k)) ns) e)) (sym p ∙ q)
  where
    negated : (x : Bool) → not x ≡ true → x ≡ false
    negated true z = sym z
    negated false z = refl
not_among k (j ∷ ns) e n (inr m) q = not_among k ns (and_right (not (eqb j k)) (all (λ i. not (eqb i k)) ns) e) n m q

not_37 : (c : Call) (n : ℕ) → Mem n (refusals c) → n ≡ 37 → ⊥
not_37 (rule ls) = not_among 37 (22 ∷ 20 ∷ 7 ∷ 3 ∷ 5 ∷ 6 ∷ []) refl
not_37 (query n on off) = not_among 37 (22 ∷ 8 ∷ 34 ∷ []) refl
not_37 (card n size) = not_among 37 (22 ∷ 34 ∷ 21 ∷ []) refl
not_37 forget = not_among 37 (22 ∷ []) refl
not_37 withdraw = not_among 37 (22 ∷ 32 ∷ []) refl
not_37 (keep_card n size) = not_among 37 (22 ∷ 34 ∷ 21 ∷ []) refl
not_37 (one ls) = not_among 37 (22 ∷ 7 ∷ 20 ∷ 3 ∷ 5 ∷ 6 ∷ []) refl
not_37 (closest n size on off) = not_among 37 (22 ∷ 8 ∷ 34 ∷ 21 ∷ 35 ∷ []) refl

pub stopped_number : (r : Reply) → refusal_of r ≡ some 34 → refusal_of (stopped_as 37 r) ≡ some 37
stopped_number done e = absurd (let z : ◌≡◌ {A = ℕ} 0 1 = cc in omega arith)
stopped_number (refused n) e = let q : n ≡ 34 = cc in ap (λ (k : ℕ). some (stop_as 37 k)) q
stopped_number swap e = absurd (let z : ◌≡◌ {A = ℕ} 0 1 = cc in omega arith)
stopped_number keep e = absurd (let z : ◌≡◌ {A = ℕ} 0 1 = cc in omega arith)
stopped_number unsettled e = absurd (let z : ◌≡◌ {A = ℕ} 0 1 = cc in omega arith)
stopped_number (lines ls tb) e = absurd (let z : ◌≡◌ {A = ℕ} 0 1 = cc in omega arith)
stopped_number (card_refused n tb) e = let q : n ≡ 34 = cc in ap (λ (k : ℕ). some (stop_as 37 k)) q
stopped_number (found ls tb r) e = absurd (let z : ◌≡◌ {A = ℕ} 0 1 = cc in omega arith)

-- ---- the books
-- a book with the same formula in one place: all formulas are as they were
set_seen : (l : List (Option State)) (i j : ℕ) (y : Option State) → formula_in y ≡ formula_in (get_or l i none) → formula_in (get_or (set l i y) j none) ≡ formula_in (get_or l j none)
set_seen [] i j y e = refl
set_seen (x ∷ l) zero zero y e = e
set_seen (x ∷ l) zero (suc j) y e = refl
set_seen (x ∷ l) (suc i) zero y e = refl
set_seen (x ∷ l) (suc i) (suc j) y e = set_seen l i j y e

-- ---- the call
pub record DayRefuses (n : ℕ) (d : Day) (p : Placed) (r : DayStepped) : Type 0 where
  pub leaves : DayLeaves n d p r
  pub known : Mem n (day_refusals p.call)

abbrev DayRefusing : Day → Placed → DayStepped → Type 0
DayRefusing d p r = (n : ℕ) → refusal_of r.out.reply ≡ some n → DayRefuses n d p r

module _ (d : Day) (p : Placed) where
  abbrev m : ℕ
  m = share_at d p.place

  -- the day's own refusals
  unasked : (k : ℕ) → Mem k (day_refusals p.call) → (k ≡ 34 → ⊥) → (k ≡ 37 → ⊥) → DayRefusing d p (record { day = d; out = record { reply = refusal k p.call; visits = 0 } })
  unasked k mem a b n e =
      let q : some k ≡ some n = sym (refusal_number k p.call) ∙ e in
      let same : k ≡ n = cc in
      record {
        leaves = record { formulas = λ j. refl; day = λ _ _. refl; visits = λ _ _. refl; stopped = λ z. absurd (neither (subst (λ (i : ℕ). (i ≡ 34) ⊎ (i ≡ 37)) (sym same) z)) };
        known = subst (λ (i : ℕ). Mem i (day_refusals p.call)) same mem;
      }
    where
      neither : (k ≡ 34) ⊎ (k ≡ 37) → ⊥
      neither (inl z) = a z
      neither (inr z) = b z

  module _ (x : State) (e : book_at d p.place ≡ some x) where
    abbrev a : Stepped
    a = step x (limited m p.call)

    abbrev next : DayStepped
    next = under_share d (p.place - 1) m x p.call

    held : get_or d.places (p.place - 1) none ≡ some x
    held = sym (ap (λ (o : Bool). cond o none (get_or d.places (p.place - 1) none)) (inside d p.place x e)) ∙ e

    formulas_stay : a.state.formula ≡ x.formula → (j : ℕ) → formula_in (book_at next.day j) ≡ formula_in (book_at d j)
    formulas_stay f j = by (outside j)
      where
        by : (o : Bool) → formula_in (cond o none (get_or (set d.places (p.place - 1) (some a.state)) (j - 1) none)) ≡ formula_in (cond o none (get_or d.places (j - 1) none))
        by true = refl
        by false = set_seen d.places (p.place - 1) (j - 1) (some a.state) (ap some f ∙ ap formula_in (sym held))

    day_stays : a.state ≡ x → a.out.visits ≡ 0 → next.day ≡ d
    day_stays f v =
        let us : set d.used (p.place - 1) (get_or d.used (p.place - 1) 0 + a.out.visits) ≡ d.used =
        ap (λ (k : ℕ). set d.used (p.place - 1) k) (omega (arith, v)) ∙ set-get_or d.used (p.place - 1) 0 in
        let bs : set d.places (p.place - 1) (some a.state) ≡ d.places =
        ap (λ (y : Option State). set d.places (p.place - 1) y) (ap some f ∙ sym held) ∙ set-get_or d.places (p.place - 1) none in
        λ i. record { total = d.total; used = us i; places = bs i }

    asked : DayRefusing d p next
    asked n q = by (reply_alone (ceiling_of p.call) m a.out).reply
      where
        known : (k : ℕ) → refusal_of a.out.reply ≡ some k → Mem k (refusals p.call)
        known k z = subst (Mem k) (limited_refusals m p.call) (refused_known x (limited m p.call) k z)

        by : (next.out.reply ≡ a.out.reply) ⊎ ((refusal_of a.out.reply ≡ some 34) × (next.out.reply ≡ stopped_as 37 a.out.reply)) → DayRefuses n d p next
        by (inl same) =
            let z : refusal_of a.out.reply ≡ some n = sym (ap refusal_of same) ∙ q in
            let v : Leaves n x (limited m p.call) a = refused_leaves x (limited m p.call) n z in
            record {
              leaves =
                  record {
                    formulas = formulas_stay v.formula;
                    day = λ h _. day_stays (v.state h) (v.visits h);
                    visits = λ h _. v.visits h;
                    stopped = λ w. stops v (known n z) w;
                  };
              known = inr (inr (known n z));
            }
          where
            stops : Leaves n x (limited m p.call) a → Mem n (refusals p.call) → (n ≡ 34) ⊎ (n ≡ 37) → ceiling_of (limited m p.call) ≡ some a.out.visits
            stops v k (inl w) = v.stopped w
            stops v k (inr w) = absurd (not_37 p.call n k w)
        by (inr (z, t)) =
            let v : Leaves 34 x (limited m p.call) a = refused_leaves x (limited m p.call) 34 z in
            let s : some n ≡ some 37 = sym q ∙ ap refusal_of t ∙ stopped_number a.out.reply z in
            let is : n ≡ 37 = cc in
            record {
              leaves = record { formulas = formulas_stay v.formula; day = λ _ h. absurd (h is); visits = λ _ h. absurd (h is); stopped = λ _. v.stopped refl };
              known = inr (inl is);
            }

  pub day_refuses : DayRefusing d p (day_step d p)
  day_refuses = by (book_at d p.place) refl
    where
      accounts : (x : State) → book_at d p.place ≡ some x → (o : Bool) → DayRefusing d p (accounted o d p.place x p.call)
      accounts x e true = unasked 22 (inr (inr (first_known p.call))) (λ z. omega (arith, z)) (λ z. omega (arith, z))
      accounts x e false = asked x e

      by : (o : Option State) → book_at d p.place ≡ o → DayRefusing d p (at_book o d p.place p.call)
      by none e = unasked 38 (inl refl) (λ z. omega (arith, z)) (λ z. omega (arith, z))
      by (some x) e = accounts x e (overspent d.total d.used)
