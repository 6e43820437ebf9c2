-- What a text leaves for the calls. A refused one opens no book: whatever serves the calls, if it meets `ServesAt`, refuses every call on what such a text
-- leaves with 22, with no visit, and leaves that as it is. For the calls on what an opened one leaves all three demands hold.
use Prim.Native.Nat.{ℕ}
use native.Mathlib.Omega.{arith}
use mathlib.Core.Path.{◌≡◌, refl, sym, ap, subst, ◌∙◌}
use mathlib.Core.Bool.{Bool, false}
use mathlib.Core.List.{List, [], ◌∷◌, map}
use mathlib.Core.Logic.{inl, inr}
use mathlib.Core.Option.{Option, none, some}
use lib.IntN.{ℤ}
use Rattle.std.specs.Prelude.{Result, Ok, Err}
use Rattle.qbf.specs.Formula.{Limits, Formula, capped}
use Rattle.qbf.specs.Calls.{Call, rule, query, card, keep_card, one, closest, forget, withdraw, answer, refusal, guarded, State as Read}
use Rattle.qbf.specs.Demands.{AfterSearch, refusal_of}
use Rattle.qbf.specs.Runs.{fresh}
use Rattle.theory.proofs.Widths.{capped_ok}
use Rattle.state.specs.Reading.{well_formed_read}
use Rattle.state_parts.specs.Parts.{read_at, valid_at, Whole}
use Rattle.serving.specs.Serves.{Said, said_of, out_of}
use Rattle.rule_calls.specs.ServesAt.{ServesAt}
use Rattle.rule_calls.specs.Served.{Lists, lists, ServedAt, DemandsAt}
use Rattle.rule_calls.proofs.Calls.{malformed}
use Rattle.rule_calls.proofs.Served.{served_by, demands_served_at}
use Rattle.layout.specs.Words.{Bytes}
use Rattle.layout.specs.Opening.{Opened, refused, opened, open_text}
use Rattle.layout_laws.proofs.Opened.{opened_formula}
use Rattle.opening.specs.declared.text.RefusedAt.{RefusedAt}
use Rattle.opening.specs.Opened.{AnsweredAt, OpenedAt}

-- "22 the state is malformed", in no visit
abbrev pub said_malformed : Call → Said
said_malformed c = said_of (answer (refusal 22 c) 0)

refusal_22 : (c : Call) → refusal_of (refusal 22 c) ≡ some 22
refusal_22 (rule ls) = refl
refusal_22 (query n on off) = refl
refusal_22 (card n size) = refl
refusal_22 (keep_card n size) = refl
refusal_22 forget = refl
refusal_22 withdraw = refl
refusal_22 (one ls) = refl
refusal_22 (closest n size on off) = refl

refused_22 : (c : Call) (o : Option Read) → well_formed_read o ≡ false → refusal_of (out_of o c).reply ≡ some 22
refused_22 c none e = refusal_22 c
refused_22 c (some y) e = ap (λ (g : Bool). refusal_of (guarded g y c).out.reply) e ∙ refusal_22 c

not_after : AfterSearch 22 → ⊥
not_after (inl e) = omega (arith, e)
not_after (inr (inl e)) = omega (arith, e)
not_after (inr (inr e)) = omega (arith, e)

-- one call on tables that hold no valid state
pub closed_refused_at : (x : Lists) → valid_at x.cells x.literals ≡ false → (c : Call) (a : Said) (x' : Lists) → ServesAt x.cells x.literals c a x'.cells x'.literals → (a ≡ said_malformed c) × (x' ≡ x)
unfolding valid_at
closed_refused_at x e c a x' s =
    let k = s.kept 22 (refused_22 c (read_at x.cells x.literals) e) not_after in
    (s.answered ∙ sym (malformed x.cells x.literals c e).answered, λ i. lists (k.0 i) (k.1 i))

-- any list of calls, each on the tables that the last one left
pub closed_served_at : (x : Lists) → valid_at x.cells x.literals ≡ false → (cs : List Call) (qs : List Said) → ServedAt x cs qs → qs ≡ map said_malformed cs
closed_served_at x e [] [] s = refl
closed_served_at x e [] (a ∷ qs) s = absurd s
closed_served_at x e (c ∷ cs) [] s = absurd s
closed_served_at x e (c ∷ cs) (a ∷ qs) (x', h, s) =
    let t = closed_refused_at x e c a x' h in
    λ i. t.0 i ∷ closed_served_at x e cs qs (subst (λ (z : Lists). ServedAt z cs qs) t.1 s) i

-- what a refused text leaves, whatever opened it
pub refused_text_at : (L : Limits) (o : Opened) (n k : ℕ) → o ≡ refused n k → (cells : List ℕ) (literals : List ℤ) → Whole L cells literals → (r : Result (Unit {0}) RefusedAt) (cells' : List ℕ) (literals' : List ℤ)
    → OpenedAt L o cells literals r cells' literals' → (cs : List Call) (qs : List Said) → ServedAt (lists cells' literals') cs qs → qs ≡ map said_malformed cs
refused_text_at L o n k e cells literals w r cells' literals' a =
    closed_served_at (lists cells' literals') (left r (subst (λ (p : Opened). AnsweredAt p r cells' literals') e (a.whole w)))
  where
    left : (r : Result (Unit {0}) RefusedAt) → AnsweredAt (refused n k) r cells' literals' → valid_at cells' literals' ≡ false
    left (Ok u) h = absurd h
    left (Err q) h = h.2

-- and where a table is too short
pub short_text_at : (L : Limits) (o : Opened) (cells : List ℕ) (literals : List ℤ) → (Whole L cells literals → ⊥) → (r : Result (Unit {0}) RefusedAt) (cells' : List ℕ) (literals' : List ℤ)
    → OpenedAt L o cells literals r cells' literals' → (cs : List Call) (qs : List Said) → ServedAt (lists cells' literals') cs qs → qs ≡ map said_malformed cs
short_text_at L o cells literals w r cells' literals' a = closed_served_at (lists cells' literals') (a.short w).1

-- ---- what an opened text leaves
-- it is not refused, and what is left reads as its formula with an empty store
pub read_opened : (b : Formula) (r : Result (Unit {0}) RefusedAt) (cells : List ℕ) (literals : List ℤ) → AnsweredAt (opened b) r cells literals → (r ≡ Ok tt) × (read_at cells literals ≡ some (fresh b))
read_opened b (Ok u) cells literals h = (refl, h)
read_opened b (Err q) cells literals h = absurd h

-- Of two texts that open one formula neither is refused, and what they leave reads alike, whatever opened them.
pub opened_alike : {L : Limits} {o p : Opened} (b : Formula) → o ≡ opened b → p ≡ opened b → {r q : Result (Unit {0}) RefusedAt} {cells cells' tables tables' : List ℕ} {literals literals' cubes cubes' : List ℤ}
    → Whole L cells literals → OpenedAt L o cells literals r cells' literals' → Whole L tables cubes → OpenedAt L p tables cubes q tables' cubes' → (r ≡ Ok tt) × (q ≡ Ok tt) × (read_at cells' literals' ≡ read_at tables' cubes')
opened_alike b e f {r} {q} {cells' = cells'} {tables' = tables'} {literals' = literals'} {cubes' = cubes'} w o v p =
    let x = read_opened b r cells' literals' (subst (λ (x : Opened). AnsweredAt x r cells' literals') e (o.whole w)) in
    let y = read_opened b q tables' cubes' (subst (λ (x : Opened). AnsweredAt x q tables' cubes') f (p.whole v)) in
    (x.0, y.0, x.1 ∙ sym y.1)

-- .. is served with all demands
read_so : (o : Opened) (b : Formula) → o ≡ opened b → (r : Result (Unit {0}) RefusedAt) (cells' : List ℕ) (literals' : List ℤ) → AnsweredAt o r cells' literals' → AnsweredAt (opened b) r cells' literals'
read_so o b e r cells' literals' = subst (λ (p : Opened). AnsweredAt p r cells' literals') e

pub opened_served_at : (n m : ℕ) (s : Bytes) (b : Formula) → open_text (capped n m) s ≡ opened b → (cells : List ℕ) (literals : List ℤ) → Whole (capped n m) cells literals → (cells' : List ℕ) (literals' : List ℤ)
    → OpenedAt (capped n m) (open_text (capped n m) s) cells literals (Ok tt) cells' literals' → (cs : List Call) (qs : List Said) (served : ServedAt (lists cells' literals') cs qs) → DemandsAt b (lists cells' literals') cs qs (served_by (lists cells' literals') cs qs served)
opened_served_at n m s b e cells literals w cells' literals' a =
    demands_served_at b (opened_formula (capped n m) (capped_ok n m) s b e) (lists cells' literals') (read_so (open_text (capped n m) s) b e (Ok tt) cells' literals' (a.whole w))
