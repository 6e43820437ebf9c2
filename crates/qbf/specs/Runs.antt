-- Lists of calls: the plain run, which has no store, and the learning run. Paper 01, "Lists of calls and the plain run".
use Rattle.std.specs.Prelude.{ℕ, Bool, true, false, List, [], ◌∷◌, ◌++◌}
use Rattle.std.proofs.Math.Option.{Option, none, some}
use Rattle.qbf.specs.Formula.{quantifiers, Literal, Formula}
use Rattle.qbf.specs.Truth.{Verdict, Outcome, bound}
use Rattle.qbf.specs.Plain.{PlainResult, plain_search}
use Rattle.qbf.specs.Open.{Reading, reading_of, is_full, open_search}
use Rattle.qbf.specs.Learning.{empty_store}
use Rattle.qbf.specs.Card.{zero_table}
use Rattle.qbf.specs.Calls.{Call, rule, query, card, forget, withdraw, keep_card, one, closest, Reply, done, refused, card_refused, Answer, answer, rule_fault, one_fault, withdraw_fault, closest_fault, query_fault, rule_reply, start_node, query_reply, card_reply_of, closest_answer, next_formula, State, step}

-- ---- the plain run
abbrev pub plain_answer : (Outcome (Unit {0}) → Reply) → PlainResult → Answer
plain_answer tell w = answer (tell w.outcome) w.visits

-- "Query: a refusal likewise; else the plain walk from its start node"; with an open flag the walk "which in demand 3's lists stands for
-- both walks"
abbrev pub plain_reading : Bool → Formula → List Literal → Reading → Answer
plain_reading true b on os = plain_answer query_reply (plain_search b.prefix b.clauses (bound (quantifiers b.prefix)) (start_node on b.prefix))
plain_reading false b on os = plain_answer query_reply (open_search b.prefix b.clauses os (quantifiers b.prefix) [])

abbrev pub plain_query : Option ℕ → Formula → List Literal → List Literal → Answer
plain_query (some n) b on off = answer (refused n) 0
plain_query none b on off = plain_reading (is_full (reading_of on off b.prefix)) b on (reading_of on off b.prefix)

-- "Card: the plain walk from the empty node."
abbrev pub plain_card : Verdict → Formula → ℕ → Answer
plain_card p b size = plain_answer (card_reply_of p b.prefix size) (plain_search b.prefix b.clauses (quantifiers b.prefix) [])

-- the closest reading from the plain run's card
abbrev pub plain_closest : Option ℕ → Formula → ℕ → List Literal → Answer
plain_closest (some n) b size on = answer (card_refused n (zero_table size)) 0
plain_closest none b size on = closest_answer size (start_node on b.prefix) (plain_card true b size)

-- "the plain run has the same limits and no ceiling"
abbrev pub plain_call : Formula → Call → Answer
plain_call b (rule ls) = answer (rule_reply (rule_fault b ls)) 0
plain_call b (query ceiling on off) = plain_query (query_fault b [] (on ++ off)) b on off
plain_call b (card ceiling size) = plain_card true b size
plain_call b (keep_card ceiling size) = plain_card false b size
plain_call b forget = answer done 0
plain_call b withdraw = answer (rule_reply (withdraw_fault b)) 0
plain_call b (closest ceiling size on off) = plain_closest (closest_fault b on off) b size on
plain_call b (one ls) = answer (rule_reply (one_fault b ls)) 0

-- "It carries the declarations and the rules in order, at first the opened book's. It has no store." "the plain run, too, takes away the
-- last of the rules that it carries, one of the opened book's included, and its walk reads those left."
abbrev pub plain_run : Formula → List Call → List Answer
plain_run b [] = []
plain_run b (c ∷ cs) = plain_call b c ∷ plain_run (next_formula b c) cs

-- ---- the learning run
-- "Each call takes the state that the last one returned, also after a refusal."
abbrev pub learning_run : State → List Call → List Answer
learning_run x [] = []
learning_run x (c ∷ cs) =
    let r = step x c in
    r.out ∷ learning_run r.state cs

-- the state after a list of calls
abbrev pub after : State → List Call → State
after x [] = x
after x (c ∷ cs) = after (step x c).state cs

-- "A freshly opened book is declarations and rules that no refusal stops, with an empty store."
abbrev pub fresh : Formula → State
fresh b = record { formula = b; store = empty_store }
