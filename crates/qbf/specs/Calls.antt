-- The calls rule, query, card, forget, withdraw, keep card, one and closest on a state, with every refusal. Paper 01, "Calls and card" and
-- both lists of refusals; paper 02, wishes 4, 5, 7 to 10.
use Rattle.std.specs.Prelude.{ℕ, ◌+◌, ◌*◌, ◌-◌, Bool, true, false, cond, not, ◌&&◌, ◌||◌, List, [], ◌∷◌, ◌++◌, map, length, take, leb, ltb, eqb}
use Rattle.std.proofs.Math.Option.{Option, none, some}
use Rattle.qbf.specs.Formula.{Limits, highest, most_free, Quantifier, free, exists, forall, is_free, Prefix, quantifiers, Literal, number_of, positive, Clause, Node, Formula, any, all, place_of, place, quantifier_at}
use Rattle.qbf.specs.Truth.{Verdict, Outcome, decided, mixed, outline, decided_nodes, select, bound, free_variables}
use Rattle.qbf.specs.Learning.{Polarity, Constraint, Store, constraints, empty_store, union, last_place, dropped, LearningResult}
use Rattle.qbf.specs.Plain.{PlainResult}
use Rattle.qbf.specs.Open.{Reading, reading_of, is_full, open_search}
use Rattle.qbf.specs.Ceiling.{Attempt, finished, stopped, search_within}
use Rattle.qbf.specs.Card.{table_of, zero_table}
use Rattle.qbf.specs.One.{one_forms, one_count}
use Rattle.qbf.specs.Closest.{Found, closest_in}

-- A call with its arguments as a caller may give them: any signed numbers; of a card's table its length. "query and either card take a
-- ceiling on visits", their first argument; a query then gives the flags that are on, and those that are off. The closest reading is asked
-- with a ceiling, the length of the table, and the flags of a reading.
pub data Call : Type 0 where
  rule : List Literal → Call
  query : ℕ → List Literal → List Literal → Call
  card : ℕ → ℕ → Call
  forget : Call
  withdraw : Call
  keep_card : ℕ → ℕ → Call
  one : List Literal → Call
  closest : ℕ → ℕ → List Literal → List Literal → Call

-- "Make the keep card in the same way, with topmost No nodes": the card of the lines with the verdict p
abbrev pub card_of : Verdict → ℕ → ℕ → Call
card_of true ceiling size = card ceiling size
card_of false ceiling size = keep_card ceiling size

abbrev pub ceiling_of : Call → Option ℕ
ceiling_of (rule ls) = none
ceiling_of (query ceiling on off) = some ceiling
ceiling_of (card ceiling size) = some ceiling
ceiling_of forget = none
ceiling_of withdraw = none
ceiling_of (keep_card ceiling size) = some ceiling
ceiling_of (one ls) = none
ceiling_of (closest ceiling size on off) = some ceiling

-- What a call answers but for its visits; `done` is an accepted rule or form of rules, a rule withdrawn, or a store emptied. A card has its
-- lines and the bytes of its table, and a refused card the bytes too. A closest reading has those of its card, and the reading with its
-- number.
pub data Reply : Type 0 where
  done : Reply
  refused : ℕ → Reply
  swap keep unsettled : Reply
  lines : List Node → List ℕ → Reply
  card_refused : ℕ → List ℕ → Reply
  found : List Node → List ℕ → Found → Reply

pub record Answer : Type 0 where
  pub reply : Reply
  pub visits : ℕ

abbrev pub answer : Reply → ℕ → Answer
answer r n = record { reply = r; visits = n }

-- "A refusal returns its number .. and zeroes the card table."
abbrev pub refusal : ℕ → Call → Reply
refusal n (rule ls) = refused n
refusal n (query ceiling on off) = refused n
refusal n (card ceiling size) = card_refused n (zero_table size)
refusal n (keep_card ceiling size) = card_refused n (zero_table size)
refusal n forget = refused n
refusal n withdraw = refused n
refusal n (one ls) = refused n
refusal n (closest ceiling size on off) = card_refused n (zero_table size)

-- ---- refusals of the arguments. "The first fault decides."
abbrev pub ◌or_else◌ : Option ℕ → Option ℕ → Option ℕ
none or_else b = b
(some a) or_else b = some a

infixr 20 ◌or_else◌
abbrev pub given : Bool → ℕ → Option ℕ
given true n = some n
given false n = none

-- "then each number from the left 3, 4 or 5, 6": the first fault among a rule's literals, after those whose numbers are in `seen`
abbrev pub literal_fault : Limits → Prefix → List ℕ → List Literal → Option ℕ
literal_fault L D seen [] = none
literal_fault L D seen (l ∷ ls) =
    given (eqb (number_of l) 0 || ltb L.numbers (number_of l)) 3
    or_else given (eqb (place_of D (number_of l)) 0) 5
    or_else given (any (eqb (number_of l)) seen) 6
    or_else literal_fault L D (number_of l ∷ seen) ls

-- "20 a rule when 255 stand", "7 no literal, or over 16"
abbrev pub rule_fault : Formula → List Literal → Option ℕ
rule_fault b ls =
    given (leb b.limits.clauses (length b.clauses)) 20
    or_else given (eqb (length ls) 0 || ltb b.limits.literals (length ls)) 7
    or_else literal_fault b.limits b.prefix [] ls

-- "8 a query names a non-flag, or a flag twice", "A number given both as on and as off is 8": of the numbers on and those off in one list
abbrev pub query_fault : Formula → List ℕ → List Literal → Option ℕ
query_fault b seen [] = none
query_fault b seen (l ∷ ls) =
    given (not (positive l) || eqb (place b.prefix l) 0 || ltb (free_variables b.prefix) (place b.prefix l) || any (eqb (number_of l)) seen) 8
    or_else query_fault b (number_of l ∷ seen) ls

-- ---- rule
-- "held in place order"
abbrev pub clause_of : Prefix → List Literal → Clause
clause_of D ls = union D ls []

-- "else the rule is accepted and goes to the end"
abbrev pub with_rule : Option ℕ → Formula → List Literal → Formula
with_rule none b ls = record { limits = b.limits; prefix = b.prefix; clauses = b.clauses ++ (clause_of b.prefix ls ∷ []) }
with_rule (some n) b ls = b

-- ---- exactly one of some literals. Paper 02, wish 10.
-- "Fewer than two literals or more than 16 is 7, in this form before 20"; "20 counts them together"
abbrev pub one_fault : Formula → List Literal → Option ℕ
one_fault b ls =
    given (ltb (length ls) 2 || ltb b.limits.literals (length ls)) 7
    or_else given (ltb b.limits.clauses (length b.clauses + one_count (length ls))) 20
    or_else literal_fault b.limits b.prefix [] ls

-- the rules that it stands for, each held in place order
abbrev pub one_rules : Prefix → List Literal → List Clause
one_rules D ls = map (clause_of D) (one_forms ls)

-- "All of its rules are added, or none"; the store is then as after a rule
abbrev pub with_one : Option ℕ → Formula → List Literal → Formula
with_one none b ls = record { limits = b.limits; prefix = b.prefix; clauses = b.clauses ++ one_rules b.prefix ls }
with_one (some n) b ls = b

-- ---- the store after a rule
-- "if accepted, all passes go and bars remain"
abbrev pub store_after_rule : Option ℕ → Store → Store
store_after_rule none st = record { clauses = st.clauses; records = st.records; cubes = [] }
store_after_rule (some n) st = st

abbrev pub rule_reply : Option ℕ → Reply
rule_reply none = done
rule_reply (some n) = refused n

-- ---- withdraw
-- "Withdrawing from a book without rules is 32"
abbrev pub withdraw_fault : Formula → Option ℕ
withdraw_fault b = given (eqb (length b.clauses) 0) 32

-- "Add a call that withdraws the rule added last."
abbrev pub without_last : Option ℕ → Formula → Formula
without_last none b = record { limits = b.limits; prefix = b.prefix; clauses = take (length b.clauses - 1) b.clauses }
without_last (some n) b = b

-- of a list with a record for each element, those whose record is at most n
abbrev pub standing : {A : Type 0} → ℕ → List ℕ → List A → List A
standing n [] xs = []
standing n (k ∷ ks) [] = []
standing n (k ∷ ks) (x ∷ xs) = cond (leb k n) (x ∷ standing n ks xs) (standing n ks xs)

-- "Passes remain valid and are kept. .. Bars with a larger record than the rules that remain are dropped": n remain
abbrev pub store_after_withdraw : Option ℕ → ℕ → Store → Store
store_after_withdraw none n st = record { clauses = standing n st.records st.clauses; records = standing n st.records st.records; cubes = st.cubes }
store_after_withdraw (some k) n st = st

-- ---- query
-- The node of all flags of a full reading, from the numbers of those that are on.
abbrev pub start_node : List Literal → Prefix → Node
start_node ls [] = []
start_node ls (d ∷ ds) = cond (is_free d.quantifier) (any (λ l. eqb d.number (number_of l)) ls ∷ start_node ls ds) []

-- "Yes is swap and No is keep", "otherwise unsettled"; the start node of a full reading is never Mixed
abbrev pub query_reply : {X : Type 0} → Outcome X → Reply
query_reply (decided true x) = swap
query_reply (decided false x) = keep
query_reply (mixed ds) = unsettled

-- ---- card
-- "The table holds its length divided by f, rounded down; with f = 0 a line is empty and always fits."
-- "21 the card has more lines than the table holds": judged on the lines that the search ends with.
abbrev pub card_reply : ℕ → ℕ → List Node → Reply
card_reply f size ls = cond (leb (length ls * f) size) (lines ls (table_of f size ls)) (card_refused 21 (zero_table size))

-- the lines have the verdict p: Yes for a card, No for a keep card
abbrev pub card_reply_of : Verdict → Prefix → ℕ → Outcome (Unit {0}) → Reply
card_reply_of p D size o = card_reply (free_variables D) size (select p (decided_nodes [] o))

-- ---- closest
-- "Given a full reading", "Here a flag left open is 8 too": of the numbers on and those off
abbrev pub closest_fault : Formula → List Literal → List Literal → Option ℕ
closest_fault b on off = query_fault b [] (on ++ off) or_else given (not (is_full (reading_of on off b.prefix))) 8

-- "a card with no line gives 35"
abbrev pub found_reply : ℕ → List Node → List ℕ → Option Found → Reply
found_reply size ls tb none = card_refused 35 (zero_table size)
found_reply size ls tb (some r) = found ls tb r

-- "It works from a card made under a ceiling, whose count .. it also returns and whose lines the table then holds": the reply, from the
-- card's, for the reading t. "then come 34 and 21 from the card"
abbrev pub from_card : ℕ → Node → Reply → Reply
from_card size t done = done
from_card size t (refused n) = refused n
from_card size t swap = swap
from_card size t keep = keep
from_card size t unsettled = unsettled
from_card size t (lines ls tb) = found_reply size ls tb (closest_in ls t)
from_card size t (card_refused n tb) = card_refused n tb
from_card size t (found ls tb r) = found ls tb r

-- ".. and visits"
abbrev pub closest_answer : ℕ → Node → Answer → Answer
closest_answer size t a = answer (from_card size t a.reply) a.visits

-- ---- what a call does to a well-formed state
pub record Called : Type 0 where
  pub store : Store
  pub out : Answer

abbrev pub learning_answer : (Outcome (Unit {0}) → Reply) → LearningResult → Called
learning_answer tell w = record { store = w.store; out = answer (tell (outline w.outcome)) w.visits }

-- "a stopped walk returns 34, never 21, with visits equal to the ceiling and a zeroed card": the reply to a stopped call is the one given
abbrev pub attempt_answer : Reply → ℕ → (Outcome (Unit {0}) → Reply) → Attempt → Called
attempt_answer over ceiling tell (finished w) = learning_answer tell w
attempt_answer over ceiling tell (stopped st) = record { store = st; out = answer over ceiling }

-- an open reading's search, which fits the ceiling (true) or not. "It neither reads nor adds to the store, and its visits equal that walk's"
abbrev pub open_answer : Bool → Store → ℕ → PlainResult → Called
open_answer true st ceiling w = record { store = st; out = answer (query_reply w.outcome) w.visits }
open_answer false st ceiling w = record { store = st; out = answer (refused 34) ceiling }

-- a query whose reading is full (true) or has an open flag; "Full readings behave as before"
abbrev pub learning_reading : Bool → Formula → Store → ℕ → List Literal → Reading → Called
learning_reading true b st ceiling on os =
    attempt_answer (refused 34) ceiling query_reply
    (search_within b.limits b.prefix b.clauses ceiling (bound (quantifiers b.prefix)) (start_node on b.prefix) st)
learning_reading false b st ceiling on os =
    let w = open_search b.prefix b.clauses os (quantifiers b.prefix) [] in
    open_answer (leb w.visits ceiling) st ceiling w

abbrev pub learning_query : Option ℕ → Formula → Store → ℕ → List Literal → List Literal → Called
learning_query (some n) b st ceiling on off = record { store = st; out = answer (refused n) 0 }
learning_query none b st ceiling on off = learning_reading (is_full (reading_of on off b.prefix)) b st ceiling on (reading_of on off b.prefix)

-- "A card starts at the empty node."
abbrev pub learning_card : Verdict → Formula → Store → ℕ → ℕ → Called
learning_card p b st ceiling size =
    attempt_answer (card_refused 34 (zero_table size)) ceiling (card_reply_of p b.prefix size)
    (search_within b.limits b.prefix b.clauses ceiling (quantifiers b.prefix) [] st)

-- the swap card's search, and its store
abbrev pub learning_closest : Option ℕ → Formula → Store → ℕ → ℕ → List Literal → Called
learning_closest (some n) b st ceiling size on = record { store = st; out = answer (card_refused n (zero_table size)) 0 }
learning_closest none b st ceiling size on =
    let r = learning_card true b st ceiling size in
    record { store = r.store; out = closest_answer size (start_node on b.prefix) r.out }

-- "Forget empties the store."
abbrev pub learning_call : Formula → Store → Call → Called
learning_call b st (rule ls) = record { store = store_after_rule (rule_fault b ls) st; out = answer (rule_reply (rule_fault b ls)) 0 }
learning_call b st (query ceiling on off) = learning_query (query_fault b [] (on ++ off)) b st ceiling on off
learning_call b st (card ceiling size) = learning_card true b st ceiling size
learning_call b st (keep_card ceiling size) = learning_card false b st ceiling size
learning_call b st forget = record { store = empty_store; out = answer done 0 }
learning_call b st withdraw =
    record { store = store_after_withdraw (withdraw_fault b) (length b.clauses - 1) st; out = answer (rule_reply (withdraw_fault b)) 0 }
learning_call b st (closest ceiling size on off) = learning_closest (closest_fault b on off) b st ceiling size on
learning_call b st (one ls) = record { store = store_after_rule (one_fault b ls) st; out = answer (rule_reply (one_fault b ls)) 0 }

abbrev pub next_formula : Formula → Call → Formula
next_formula b (rule ls) = with_rule (rule_fault b ls) b ls
next_formula b (query ceiling on off) = b
next_formula b (card ceiling size) = b
next_formula b (keep_card ceiling size) = b
next_formula b forget = b
next_formula b withdraw = without_last (withdraw_fault b) b
next_formula b (one ls) = with_one (one_fault b ls) b ls
next_formula b (closest ceiling size on off) = b

-- ---- the state, and when it is malformed
pub record State : Type 0 where
  pub formula : Formula
  pub store : Store

-- the places rise from above d: each is declared, and no variable stands twice
abbrev pub in_order : Prefix → ℕ → List Literal → Bool
in_order D d [] = true
in_order D d (l ∷ ls) = ltb d (place D l) && in_order D (place D l) ls

abbrev pub no_free : List Quantifier → Bool
no_free ks = all (λ κ. not (is_free κ)) ks

abbrev pub free_first : List Quantifier → Bool
free_first [] = true
free_first (free ∷ ks) = free_first ks
free_first (exists ∷ ks) = no_free ks
free_first (forall ∷ ks) = no_free ks

-- each number is 1 to the limit, and none is declared twice
abbrev pub numbers_are_ok : Limits → List ℕ → Prefix → Bool
numbers_are_ok L seen [] = true
numbers_are_ok L seen (d ∷ ds) =
    leb 1 d.number && leb d.number L.numbers && not (any (eqb d.number) seen) && numbers_are_ok L (d.number ∷ seen) ds

abbrev pub prefix_is_ok : Limits → Prefix → Bool
prefix_is_ok L D = numbers_are_ok L [] D && free_first (quantifiers D)

abbrev pub clause_ok : Limits → Prefix → Clause → Bool
clause_ok L D r = leb 1 (length r) && leb (length r) L.literals && in_order D 0 r

abbrev pub clauses_are_ok : Limits → Prefix → List Clause → Bool
clauses_are_ok L D R = leb (length R) L.clauses && all (clause_ok L D) R

-- a store has room for one constraint of each polarity; "a state with higher ones is 22"
abbrev pub limits_are_ok : Limits → Bool
limits_are_ok L = leb 1 L.constraints && (leb L.numbers highest.numbers && leb L.clauses highest.clauses)

-- "flags stay at most 40"
abbrev pub free_is_ok : Prefix → Bool
free_is_ok D = leb (free_variables D) most_free

abbrev pub formula_is_ok : Formula → Bool
formula_is_ok b =
    limits_are_ok b.limits && (free_is_ok b.prefix && (prefix_is_ok b.limits b.prefix && clauses_are_ok b.limits b.prefix b.clauses))

-- in place order and reduced
abbrev pub constraint_ok : Prefix → Polarity → Constraint → Bool
constraint_ok D v e = in_order D 0 e && not (dropped v (quantifier_at D (last_place D e)))

abbrev pub store_is_ok : Limits → Prefix → Store → Bool
store_is_ok L D st =
    leb (length (constraints false st)) L.constraints
    && leb (length (constraints true st)) L.constraints
    && all (constraint_ok D false) (constraints false st)
    && all (constraint_ok D true) (constraints true st)

-- "The state check refuses a bar whose record exceeds the rules standing": n stand, and each learned clause has a record
abbrev pub records_are_ok : ℕ → Store → Bool
records_are_ok n st = eqb (length st.records) (length st.clauses) && all (λ k. leb k n) st.records

-- "22 the state is malformed": it is not well formed
abbrev pub well_formed : State → Bool
well_formed x =
    formula_is_ok x.formula
    && (store_is_ok x.formula.limits x.formula.prefix x.store && records_are_ok (length x.formula.clauses) x.store)

-- ---- one call
pub record Stepped : Type 0 where
  pub state : State
  pub out : Answer

-- "Order: 22, ..": a malformed state is refused first, and stays as it is
abbrev pub guarded : Bool → State → Call → Stepped
guarded true x c =
    let r = learning_call x.formula x.store c in
    record { state = record { formula = next_formula x.formula c; store = r.store }; out = r.out }
guarded false x c = record { state = x; out = answer (refusal 22 c) 0 }

abbrev pub step : State → Call → Stepped
step x c = guarded (well_formed x) x c
