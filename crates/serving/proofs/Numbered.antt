-- No refusal has the number 0, so that a number tells whether there is one.
use Prim.Native.Nat.{ℕ, zero, suc}
use mathlib.Core.Path.{◌≡◌, refl, sym, ap, ◌∙◌, subst}
use mathlib.Core.Bool.{true, true≢false}
use lib.Dec.{ltb}
use Rattle.qbf.specs.Formula.{all}
use mathlib.Core.Option.{Option, none, some}
use Rattle.qbf.specs.Card.{Mem}
use Rattle.qbf.specs.Calls.{Call, rule, query, card, forget, withdraw, keep_card, one, closest, Reply, done, refused, swap, keep, unsettled, lines, card_refused, found, Answer, State as Read, step}
use Rattle.qbf.specs.Demands.{refusal_of}
use Rattle.theory.proofs.Basics.{all→}
use Rattle.theory.proofs.Refusals.{refusals}
use Rattle.theory.proofs.Demands.{refusal_known}
use Rattle.serving.specs.Serves.{Said, said_with, said_reply, number, fault_of, told, out_of, ServesBy}

abbrev pub Numbered : Option ℕ → Type 0
Numbered none = Unit {0}
Numbered (some zero) = ⊥
Numbered (some (suc n)) = Unit {0}

pub numbered_is : (o : Option ℕ) → Numbered o → fault_of (number o) ≡ o
numbered_is none h = refl
numbered_is (some zero) h = absurd h
numbered_is (some (suc n)) h = refl

-- ---- the refusals of the calls
above_zero : (c : Call) → all (ltb 0) (refusals c) ≡ true
above_zero (rule ls) = refl
above_zero (query top on off) = refl
above_zero (card top size) = refl
above_zero forget = refl
above_zero withdraw = refl
above_zero (keep_card top size) = refl
above_zero (one ls) = refl
above_zero (closest top size on off) = refl

known_numbered : (c : Call) (o : Option ℕ) → ((n : ℕ) → o ≡ some n → Mem n (refusals c)) → Numbered o
known_numbered c none h = tt
known_numbered c (some zero) h = absurd (true≢false (sym (all→ (ltb 0) (refusals c) (above_zero c) zero (h zero refl))))
known_numbered c (some (suc n)) h = tt

-- what is said of the refusal is the reply's
pub said_refusal : (r : Reply) (k : ℕ) → (said_reply r k).refusal ≡ refusal_of r
said_refusal done k = refl
said_refusal (refused n) k = refl
said_refusal swap k = refl
said_refusal keep k = refl
said_refusal unsettled k = refl
said_refusal (lines ls tb) k = refl
said_refusal (card_refused n tb) k = refl
said_refusal (found ls tb r) k = refl

pub said_visits : (r : Reply) (k : ℕ) → (said_reply r k).visits ≡ k
said_visits done k = refl
said_visits (refused n) k = refl
said_visits swap k = refl
said_visits keep k = refl
said_visits unsettled k = refl
said_visits (lines ls tb) k = refl
said_visits (card_refused n tb) k = refl
said_visits (found ls tb r) k = refl

malformed_numbered : (c : Call) → Numbered (refusal_of (out_of none c).reply)
malformed_numbered (rule ls) = tt
malformed_numbered (query top on off) = tt
malformed_numbered (card top size) = tt
malformed_numbered forget = tt
malformed_numbered withdraw = tt
malformed_numbered (keep_card top size) = tt
malformed_numbered (one ls) = tt
malformed_numbered (closest top size on off) = tt

pub out_numbered : (o : Option Read) (c : Call) → Numbered (refusal_of (out_of o c).reply)
out_numbered none c = malformed_numbered c
out_numbered (some y) c = known_numbered c (refusal_of (step y c).out.reply) (refusal_known y c)

-- an answer of a call is what its number tells, however the state is read
pub served_told : {X : Type 0} {read : X → Option Read} {x : X} {c : Call} {a : Said} {y : X} → ServesBy read x c a y → told a ≡ a
served_told {X} {read} {x} {c} {a} {y} s = λ i. said_with (numbered_is a.refusal numbered i) a.verdict a.lines a.visits a.table a.reading a.differs
  where
    out : Answer
    out = out_of (read x) c

    numbered : Numbered a.refusal
    numbered = subst Numbered (sym (ap (λ (q : Said). q.refusal) s.answered ∙ said_refusal out.reply out.visits)) (out_numbered (read x) c)
