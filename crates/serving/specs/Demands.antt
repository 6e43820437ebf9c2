-- What the three demands say of the code, over a list of calls that were served, each on the state that the last one returned.
use Rattle.std.specs.Prelude.{ℕ, zero, suc, ◌*◌, ◌≤◌, ◌<◌, ◌≡◌, ◌⊎◌, true, false, not, List, [], ◌∷◌, map, length}
use Rattle.std.proofs.Math.Option.{Option, none, some}
use Rattle.qbf.specs.Formula.{Formula, Node, Literal, quantifiers}
use Rattle.qbf.specs.Truth.{Verdict, decided, free_variables, mixed, truth}
use Rattle.qbf.specs.Open.{Reading, reading_of, is_full, open_search, completes, Settles}
use Rattle.qbf.specs.Card.{Mem, byte_of, table_of, zero_table}
use Rattle.qbf.specs.Closest.{Found, IsClosest, HasTruth}
use Rattle.qbf.specs.Calls.{Call, rule, query, card, forget, withdraw, keep_card, one, closest, ceiling_of, found, Answer, next_formula, start_node, State as Read, formula_is_ok, step}
use Rattle.qbf.specs.OneAdds.{OneAdds}
use Rattle.qbf.specs.Partition.{Partition, keeps_clauses}
use Rattle.qbf.specs.Runs.{after, fresh, learning_run, plain_run}
use Rattle.qbf.specs.Demands.{AfterSearch, CardRight}
use Rattle.theory.proofs.Refusals.{refusals}
use Rattle.serving.specs.Serves.{Said, said, said_of, ServedBy}

-- ---- demand 1: "Nothing refused changes the book's declarations or rules, and every refusal has its number and leaves what the paper
-- says."
-- the declarations and rules of a state, where it reads
abbrev pub formula_of : Option Read → Option Formula
formula_of none = none
formula_of (some y) = some y.formula

-- "zeroes the card table"; only a card and a closest reading have one
abbrev pub zeroed : Call → List ℕ
zeroed (rule ls) = []
zeroed (query top on off) = []
zeroed (card top size) = zero_table size
zeroed forget = []
zeroed withdraw = []
zeroed (keep_card top size) = zero_table size
zeroed (one ls) = []
zeroed (closest top size on off) = zero_table size

-- the formulas before and after an exactly-one form, where both states read
abbrev pub OneAddsTo : Option Read → Option Read → List Literal → Type 0
OneAddsTo none o' ls = ⊥
OneAddsTo (some y) none ls = ⊥
OneAddsTo (some y) (some y') ls = OneAdds y.formula y'.formula ls

-- however a state stands in tables, and is read
module _ {X : Type 0} (read : X → Option Read) where
  -- the call c on the state x was refused with n: a is its answer, x' the state that it left
  pub record Refused (x : X) (c : Call) (n : ℕ) (a : Said) (x' : X) : Type 0 where
    -- the number is one that the paper has for the call
    pub known : Mem n (refusals c)
    -- "A refusal returns its number, 0 lines, 0 visits and the state as given, and zeroes the card table. .. Only 21 differs: the walk
    -- runs to its end first, its visits are returned and its store is kept." So does 34, "with visits equal to the ceiling and a zeroed card",
    -- and 35, "which leaves what 21 leaves".
    pub answer : a ≡ said (some n) 0 0 a.visits (zeroed c)
    pub visits : (AfterSearch n → ⊥) → a.visits ≡ 0
    pub state : (AfterSearch n → ⊥) → x' ≡ x
    pub stopped : n ≡ 34 → ceiling_of c ≡ some a.visits
    -- "A refused call leaves declarations and rules as they were": after 21, 34 and 35 too
    pub formula : formula_of (read x') ≡ formula_of (read x)

  abbrev pub LeavesIfRefused : X → Call → Said → X → Type 0
  LeavesIfRefused x c a x' = (n : ℕ) → a.refusal ≡ some n → Refused x c n a x'

  -- each call of a list: the state that it was given, the call, its answer, the state that it left
  abbrev pub Each : (X → Call → Said → X → Type 0) → (x : X) (cs : List Call) (qs : List Said) → ServedBy read x cs qs → Type 0
  Each P x [] [] s = Unit {0}
  Each P x [] (a ∷ qs) s = ⊥
  Each P x (c ∷ cs) [] s = ⊥
  Each P x (c ∷ cs) (a ∷ qs) s = P x c a s.0 × Each P s.0 cs qs s.2

  -- ---- wish 10: "For all values given, the rules so added are all true exactly when one of the literals is true and every other is false"
  -- an exactly-one form that is not refused
  abbrev pub AddsIfOne : X → Call → Said → X → Type 0
  AddsIfOne x (rule ls) a x' = Unit {0}
  AddsIfOne x (query top on off) a x' = Unit {0}
  AddsIfOne x (card top size) a x' = Unit {0}
  AddsIfOne x forget a x' = Unit {0}
  AddsIfOne x withdraw a x' = Unit {0}
  AddsIfOne x (keep_card top size) a x' = Unit {0}
  AddsIfOne x (one ls) a x' = a.refusal ≡ none → OneAddsTo (read x) (read x') ls
  AddsIfOne x (closest top size on off) a x' = Unit {0}

-- wish 8: no call makes more visits than its ceiling
abbrev pub UnderCeiling : {X : Type 0} → X → Call → Said → X → Type 0
UnderCeiling x c a x' = (n : ℕ) → ceiling_of c ≡ some n → a.visits ≤ n

-- ---- demand 2: "On every card of an opened book that is not refused, a reading lies on a line exactly when the quantified rules are
-- true for it. The lines are the topmost ones, each once, in the fixed order, and no reading lies on two."
-- a card of the formula b, its lines of the verdict p, that is not refused: the answer has the count of the right lines, and the table their
-- bytes and then zeros
pub record CardListed (p : Verdict) (b : Formula) (size : ℕ) (a : Said) : Type 0 where
  pub them : List Node
  pub right : CardRight p b.prefix b.clauses them
  pub count : a.lines ≡ length them
  pub bytes : a.table ≡ table_of (free_variables b.prefix) size them
  pub whole : length a.table ≡ size

-- one that is refused with 21: the right lines are more than the table holds
pub record CardOver (p : Verdict) (b : Formula) (size n : ℕ) : Type 0 where
  pub number : n ≡ 21
  pub them : List Node
  pub right : CardRight p b.prefix b.clauses them
  pub over : size < length them * free_variables b.prefix

abbrev pub CardBy : Verdict → Formula → ℕ → Said → Option ℕ → Type 0
CardBy p b size a none = CardListed p b size a
CardBy p b size a (some n) = CardOver p b size n ⊎ (n ≡ 34)

-- what is said of a call if it is a card, by the verdict of its lines and the size of its table
abbrev pub IfCard : (Verdict → ℕ → Type 0) → Call → Type 0
IfCard P (rule ls) = Unit {0}
IfCard P (query top on off) = Unit {0}
IfCard P (card top size) = P true size
IfCard P forget = Unit {0}
IfCard P withdraw = Unit {0}
IfCard P (keep_card top size) = P false size
IfCard P (one ls) = Unit {0}
IfCard P (closest top size on off) = Unit {0}

abbrev pub RightIfCard : Formula → Call → Said → Type 0
RightIfCard b c a = IfCard (λ p size. CardBy p b size a a.refusal) c

-- each call of a list, by the rules that stand there: those of the opened book and the accepted ones behind them, without those that were withdrawn
abbrev pub EachStanding : (Formula → Call → Said → Type 0) → Formula → List Call → List Said → Type 0
EachStanding P b [] [] = Unit {0}
EachStanding P b [] (a ∷ qs) = ⊥
EachStanding P b (c ∷ cs) [] = ⊥
EachStanding P b (c ∷ cs) (a ∷ qs) = P b c a × EachStanding P (next_formula b c) cs qs

abbrev pub CardsRight : Formula → List Call → List Said → Type 0
CardsRight b cs qs = EachStanding RightIfCard b cs qs

-- ---- queries. Wish 5: "The result is swap if every completion is a swap, keep if none is, otherwise unsettled."
-- what the number of a verdict says of the reading os: keep 1, swap 2, unsettled 3
abbrev pub VerdictSays : Formula → Reading → ℕ → Type 0
VerdictSays b os zero = ⊥
VerdictSays b os (suc zero) = Settles b.prefix b.clauses os (decided false tt)
VerdictSays b os (suc (suc zero)) = Settles b.prefix b.clauses os (decided true tt)
VerdictSays b os (suc (suc (suc zero))) = Settles b.prefix b.clauses os (mixed [])
VerdictSays b os (suc (suc (suc (suc n)))) = ⊥

-- a query that is not refused
pub record QueryRuled (b : Formula) (os : Reading) (a : Said) : Type 0 where
  pub verdict : VerdictSays b os a.verdict
  -- "A query with an open flag goes as the plain walk from the empty node .. its visits equal that walk's"
  pub walked : is_full os ≡ false → a.visits ≡ (open_search b.prefix b.clauses os (quantifiers b.prefix) []).visits

abbrev pub QueryBy : Formula → Reading → Said → Option ℕ → Type 0
QueryBy b os a none = QueryRuled b os a
QueryBy b os a (some n) = (n ≡ 8) ⊎ (n ≡ 34)

abbrev pub RightIfQuery : Formula → Call → Said → Type 0
RightIfQuery b (rule ls) a = Unit {0}
RightIfQuery b (query top on off) a = QueryBy b (reading_of on off b.prefix) a a.refusal
RightIfQuery b (card top size) a = Unit {0}
RightIfQuery b forget a = Unit {0}
RightIfQuery b withdraw a = Unit {0}
RightIfQuery b (keep_card top size) a = Unit {0}
RightIfQuery b (one ls) a = Unit {0}
RightIfQuery b (closest top size on off) a = Unit {0}

abbrev pub QueriesRight : Formula → List Call → List Said → Type 0
QueriesRight b cs qs = EachStanding RightIfQuery b cs qs

-- ---- the closest reading. Wish 9: "Given a full reading, return a reading on the swap card that differs from it in the fewest flags, and
-- that number. Every other reading on the card differs in at least as many. Among equals, the first by off before on in place order is
-- returned. A reading on the card returns itself with 0."
-- a closest reading that is not refused
pub record ClosestGiven (b : Formula) (size : ℕ) (on off : List Literal) (a : Said) : Type 0 where
  -- the reading given is full, and is this one
  pub whole : is_full (reading_of on off b.prefix) ≡ true
  pub given : completes (reading_of on off b.prefix) (start_node on b.prefix) ≡ true
  -- "It works from a card made under a ceiling, whose count and visits it also returns and whose lines the table then holds"
  pub card : CardListed true b size a
  -- on the card are the readings for which the quantified rules are true
  pub it : Found
  pub right : IsClosest (HasTruth true b.prefix b.clauses) (start_node on b.prefix) it
  pub reading : a.reading ≡ map byte_of it.reading
  pub number : a.differs ≡ it.number
  -- "the store has no influence on the reading and the number": whatever calls led to these clauses, under any ceiling and with any table
  pub store_free : (c : Formula) → formula_is_ok c ≡ true → (ds : List Call) → (after (fresh c) ds).formula ≡ b → (top size' : ℕ) (ls : List Node) (tb : List ℕ) (r : Found)
      → (step (after (fresh c) ds) (closest top size' on off)).out.reply ≡ found ls tb r → r ≡ it

-- one that is refused with 35: no reading is a swap
pub record NoReading (b : Formula) (n : ℕ) : Type 0 where
  pub number : n ≡ 35
  pub never : (u : Node) → length u ≡ free_variables b.prefix → truth b.prefix b.clauses u ≡ true → ⊥

abbrev pub ClosestBy : Formula → ℕ → List Literal → List Literal → Said → Option ℕ → Type 0
ClosestBy b size on off a none = ClosestGiven b size on off a
ClosestBy b size on off a (some n) = (n ≡ 8) ⊎ ((n ≡ 34) ⊎ (CardOver true b size n ⊎ NoReading b n))

abbrev pub RightIfClosest : Formula → Call → Said → Type 0
RightIfClosest b (rule ls) a = Unit {0}
RightIfClosest b (query top on off) a = Unit {0}
RightIfClosest b (card top size) a = Unit {0}
RightIfClosest b forget a = Unit {0}
RightIfClosest b withdraw a = Unit {0}
RightIfClosest b (keep_card top size) a = Unit {0}
RightIfClosest b (one ls) a = Unit {0}
RightIfClosest b (closest top size on off) a = ClosestBy b size on off a a.refusal

abbrev pub ClosestsRight : Formula → List Call → List Said → Type 0
ClosestsRight b cs qs = EachStanding RightIfClosest b cs qs

-- ---- wish 7: "For every reached book, where neither card is refused, each reading lies on exactly one line of one of the two. The readings
-- covered by a line number 2 to the power of its open flags. Added over both cards these give 2 to the power f. Show this for cards made in
-- either order with queries, but no added or withdrawn rule, between them."
-- the answer shows exactly these lines: it has their count, and the table their bytes and then zeros
pub record Shows (b : Formula) (size : ℕ) (a : Said) (them : List Node) : Type 0 where
  pub count : a.lines ≡ length them
  pub bytes : a.table ≡ table_of (free_variables b.prefix) size them

-- the answers a and a' of two cards of the formula b
pub record Together (b : Formula) (size size' : ℕ) (a a' : Said) : Type 0 where
  pub ones : List Node
  pub others : List Node
  pub shown : Shows b size a ones
  pub shown_later : Shows b size' a' others
  pub parted : Partition (free_variables b.prefix) ones others

-- a card of the verdict p and the answer a, with each later one of the other verdict, as long as the calls between them leave the clauses
abbrev pub LaterTogether : Formula → Verdict → ℕ → Said → List Call → List Said → Type 0
LaterTogether b p size a [] qs = Unit {0}
LaterTogether b p size a (c ∷ cs) [] = ⊥
LaterTogether b p size a (c ∷ cs) (a' ∷ qs) =
    IfCard (λ q size'. q ≡ not p → a.refusal ≡ none → a'.refusal ≡ none → Together b size size' a a') c × (keeps_clauses b c ≡ true → LaterTogether b p size a cs qs)

-- each card of a list
abbrev pub CardsTogether : Formula → List Call → List Said → Type 0
CardsTogether b [] [] = Unit {0}
CardsTogether b [] (a ∷ qs) = ⊥
CardsTogether b (c ∷ cs) [] = ⊥
CardsTogether b (c ∷ cs) (a ∷ qs) = IfCard (λ p size. LaterTogether b p size a cs qs) c × CardsTogether (next_formula b c) cs qs

-- ---- demand 3: "every call gives the answer of the plain run"
-- the answer a is the plain run's answer p but for the visits, which are no more
pub record SaidAgrees (a : Said) (p : Answer) : Type 0 where
  pub refusal : a.refusal ≡ (said_of p).refusal
  pub verdict : a.verdict ≡ (said_of p).verdict
  pub lines : a.lines ≡ (said_of p).lines
  pub table : a.table ≡ (said_of p).table
  -- "the last one's reading and number are compared too"
  pub reading : a.reading ≡ (said_of p).reading
  pub differs : a.differs ≡ (said_of p).differs
  pub visits : a.visits ≤ p.visits

-- "only a stopped call's answer is not compared with it, its visits still are": 34 at the ceiling, which is less than the plain search makes
pub record SaidStopped (c : Call) (a : Said) (p : Answer) : Type 0 where
  pub answer : a ≡ said (some 34) 0 0 a.visits (zeroed c)
  pub ceiling : ceiling_of c ≡ some a.visits
  pub needed : a.visits < p.visits

pub record SaidRightly (c : Call) (a : Said) (p : Answer) : Type 0 where
  pub either : SaidAgrees a p ⊎ SaidStopped c a p
  -- "A call whose plain walk fits the ceiling is therefore always finished, in any list."
  pub finished : (n : ℕ) → ceiling_of c ≡ some n → p.visits ≤ n → SaidAgrees a p

abbrev pub AllSaid : List Call → List Said → List Answer → Type 0
AllSaid [] [] [] = Unit {0}
AllSaid [] [] (p ∷ ps) = ⊥
AllSaid [] (a ∷ qs) ps = ⊥
AllSaid (c ∷ cs) [] ps = ⊥
AllSaid (c ∷ cs) (a ∷ qs) [] = ⊥
AllSaid (c ∷ cs) (a ∷ qs) (p ∷ ps) = SaidRightly c a p × AllSaid cs qs ps

-- refusal numbers, swap, keep or unsettled, the count of the lines, every byte of the table and the closest reading with its number are the plain
-- run's, in no more visits, but for the calls that stopped; and all answers, with their visits, are exactly the learning search's
pub record AnswersPlain (b : Formula) (cs : List Call) (qs : List Said) : Type 0 where
  pub plain : AllSaid cs qs (plain_run b cs)
  pub learning : qs ≡ map said_of (learning_run (fresh b) cs)

-- ---- all three, the ceilings, the queries, the exactly-one forms, the closest readings, and what wish 7 promises of both cards, of the calls cs
-- served on a state x of the opened formula b, with the answers qs
pub record DemandsBy {X : Type 0} (read : X → Option Read) (b : Formula) (x : X) (cs : List Call) (qs : List Said) (s : ServedBy read x cs qs) : Type 0 where
  pub demand_1 : Each read (LeavesIfRefused read) x cs qs s
  pub ceilings : Each read UnderCeiling x cs qs s
  pub forms : Each read (AddsIfOne read) x cs qs s
  pub demand_2 : CardsRight b cs qs
  pub queries : QueriesRight b cs qs
  pub closests : ClosestsRight b cs qs
  pub demand_3 : AnswersPlain b cs qs
  pub together : CardsTogether b cs qs
