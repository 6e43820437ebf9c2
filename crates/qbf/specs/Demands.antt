-- What the three demands say of the definitions: the statements of the theorems in proofs/Demands.antt.
use Rattle.std.specs.Prelude.{ℕ, ◌*◌, ◌≤◌, ◌<◌, ◌≡◌, ◌↔◌, ◌⊎◌, true, false, List, [], ◌∷◌, length}
use Rattle.std.proofs.Math.Option.{Option, none, some}
use Rattle.qbf.specs.Formula.{Prefix, Clause, Node}
use Rattle.qbf.specs.Truth.{Verdict, decided, mixed, truth, free_variables}
use Rattle.qbf.specs.Open.{Reading, is_full, completes, Settles}
use Rattle.qbf.specs.Card.{Mem, IsLine, lies_on, Rises, table_of, zero_table}
use Rattle.qbf.specs.Closest.{Found, IsClosest, HasTruth}
use Rattle.qbf.specs.Calls.{Call, ceiling_of, Reply, done, refused, swap, keep, unsettled, lines, card_refused, found, Answer, refusal, State, Stepped}

-- ---- demand 1: refusals
-- the number of a refusal
abbrev pub refusal_of : Reply → Option ℕ
refusal_of done = none
refusal_of (refused n) = some n
refusal_of swap = none
refusal_of keep = none
refusal_of unsettled = none
refusal_of (lines ls tb) = none
refusal_of (card_refused n tb) = some n
refusal_of (found ls tb r) = none

-- a refusal that comes after a search, whose visits are returned and whose store is kept: of a full table, of a search that stopped, or of a
-- card with no line, "which leaves what 21 leaves"
abbrev pub AfterSearch : ℕ → Type 0
AfterSearch n = (n ≡ 21) ⊎ ((n ≡ 34) ⊎ (n ≡ 35))

-- "A refused call leaves declarations and rules as they were." "A refusal returns .. 0 visits and the state as given .. Only 21 differs",
-- 34, "with visits equal to the ceiling", and 35.
pub record Leaves (n : ℕ) (x : State) (c : Call) (r : Stepped) : Type 0 where
  pub formula : r.state.formula ≡ x.formula
  pub state : (AfterSearch n → ⊥) → r.state ≡ x
  pub visits : (AfterSearch n → ⊥) → r.out.visits ≡ 0
  pub stopped : n ≡ 34 → ceiling_of c ≡ some r.out.visits

-- ---- demand 2: cards
-- The lines of a card (p true: Yes lines). "A reading lies on a line exactly when the quantified rules are true for it. The lines are
-- the topmost ones, each once, in the fixed order, and no reading lies on two."
pub record CardRight (p : Verdict) (D : Prefix) (R : List Clause) (ls : List Node) : Type 0 where
  pub covers : (t : Node) → length t ≡ free_variables D → (truth D R t ≡ p) ↔ ((s : Node) × Mem s ls × (lies_on s t ≡ true))
  pub topmost : (s : Node) → Mem s ls ↔ IsLine p D R s
  pub rises : Rises ls
  pub single : (t s s' : Node) → Mem s ls → Mem s' ls → lies_on s t ≡ true → lies_on s' t ≡ true → s ≡ s'

-- a card that is not refused: its lines are right, and the table's bytes are those lines and then zeros
pub record CardShown (p : Verdict) (D : Prefix) (R : List Clause) (size : ℕ) (ls : List Node) (tb : List ℕ) : Type 0 where
  pub right : CardRight p D R ls
  pub table : tb ≡ table_of (free_variables D) size ls
  pub whole : length tb ≡ size

-- a card that is refused: with 21, for the right lines are more than the table holds; the table is all zero
pub record CardFull (p : Verdict) (D : Prefix) (R : List Clause) (size n : ℕ) (tb : List ℕ) : Type 0 where
  pub number : n ≡ 21
  pub zeros : tb ≡ zero_table size
  pub them : List Node
  pub right : CardRight p D R them
  pub over : size < length them * free_variables D

-- a card that is stopped: 34, and the table is all zero
pub record CardStopped (size n : ℕ) (tb : List ℕ) : Type 0 where
  pub number : n ≡ 34
  pub zeros : tb ≡ zero_table size

abbrev pub CardOwed : Verdict → Prefix → List Clause → ℕ → Reply → Type 0
CardOwed p D R size done = ⊥
CardOwed p D R size (refused n) = ⊥
CardOwed p D R size swap = ⊥
CardOwed p D R size keep = ⊥
CardOwed p D R size unsettled = ⊥
CardOwed p D R size (lines ls tb) = CardShown p D R size ls tb
CardOwed p D R size (card_refused n tb) = CardFull p D R size n tb ⊎ CardStopped size n tb
CardOwed p D R size (found ls tb r) = ⊥

-- what the reply to a query owes: the truth of all completions of its reading os, or both truths among them, or a refusal of its numbers or
-- of a search that stopped
abbrev pub QueryOwed : Prefix → List Clause → Reading → Reply → Type 0
QueryOwed D R os done = ⊥
QueryOwed D R os (refused n) = (n ≡ 8) ⊎ (n ≡ 34)
QueryOwed D R os swap = Settles D R os (decided true tt)
QueryOwed D R os keep = Settles D R os (decided false tt)
QueryOwed D R os unsettled = Settles D R os (mixed [])
QueryOwed D R os (lines ls tb) = ⊥
QueryOwed D R os (card_refused n tb) = ⊥
QueryOwed D R os (found ls tb r) = ⊥

-- ---- the closest reading, of a full reading: t completes what is recorded
-- found: the card's lines and table are right, and of the readings for which the quantified rules are true this is the closest
pub record ClosestShown (D : Prefix) (R : List Clause) (os : Reading) (t : Node) (size : ℕ) (ls : List Node) (tb : List ℕ) (r : Found) : Type 0 where
  pub whole : is_full os ≡ true
  pub given : completes os t ≡ true
  pub card : CardShown true D R size ls tb
  pub right : IsClosest (HasTruth true D R) t r

-- refused with 8, the table all zero
pub record ClosestUnread (size n : ℕ) (tb : List ℕ) : Type 0 where
  pub number : n ≡ 8
  pub zeros : tb ≡ zero_table size

-- refused with 35: no reading is a swap
pub record ClosestNone (D : Prefix) (R : List Clause) (size n : ℕ) (tb : List ℕ) : Type 0 where
  pub number : n ≡ 35
  pub zeros : tb ≡ zero_table size
  pub never : (u : Node) → length u ≡ free_variables D → truth D R u ≡ true → ⊥

abbrev pub ClosestReplyOwed : Prefix → List Clause → Reading → Node → ℕ → Reply → Type 0
ClosestReplyOwed D R os t size done = ⊥
ClosestReplyOwed D R os t size (refused n) = ⊥
ClosestReplyOwed D R os t size swap = ⊥
ClosestReplyOwed D R os t size keep = ⊥
ClosestReplyOwed D R os t size unsettled = ⊥
ClosestReplyOwed D R os t size (lines ls tb) = ⊥
ClosestReplyOwed D R os t size (card_refused n tb) = ClosestUnread size n tb ⊎ (CardStopped size n tb ⊎ (CardFull true D R size n tb ⊎ ClosestNone D R size n tb))
ClosestReplyOwed D R os t size (found ls tb r) = ClosestShown D R os t size ls tb r

-- ---- demand 3: lists of calls
-- "These are equal: acceptance or refusal number, swap or keep, the returned count of lines, the lines in their order and every byte
-- of the card table. The visits .. never more than the plain walk makes for that call." All but the visits is in the reply, a closest
-- reading and its number too.
pub record Agree (l p : Answer) : Type 0 where
  pub reply : l.reply ≡ p.reply
  pub visits : l.visits ≤ p.visits

-- "only a stopped call's answer is not compared with it, its visits still are": they are the ceiling. "It stops only when the call's full
-- walk would need more", and so would the plain one.
pub record Stopped (c : Call) (l p : Answer) : Type 0 where
  pub reply : l.reply ≡ refusal 34 c
  pub ceiling : ceiling_of c ≡ some l.visits
  pub needed : l.visits < p.visits

abbrev pub Agrees : Call → Answer → Answer → Type 0
Agrees c l p = Agree l p ⊎ Stopped c l p

-- the answers to the calls of a list
abbrev pub AllAgree : List Call → List Answer → List Answer → Type 0
AllAgree [] [] [] = Unit {0}
AllAgree [] [] (p ∷ ps) = ⊥
AllAgree [] (l ∷ ls) ps = ⊥
AllAgree (c ∷ cs) [] ps = ⊥
AllAgree (c ∷ cs) (l ∷ ls) [] = ⊥
AllAgree (c ∷ cs) (l ∷ ls) (p ∷ ps) = Agrees c l p × AllAgree cs ls ps
