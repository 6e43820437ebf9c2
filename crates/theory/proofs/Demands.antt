-- The demands as theorems about the definitions of crate qbf. A reached state is one that a list of calls leads to from a freshly
-- opened formula; `after (fresh b) cs` is such a state, and `formula_is_ok b ≡ true` says that no refusal stops the opening.
use Prim.Native.Nat.{ℕ, suc, ◌^◌, ◌≤◌, ◌<◌}
use mathlib.Core.Path.{◌≡◌, refl}
use mathlib.Core.Bool.{Bool, true, not}
use mathlib.Core.List.{List}
use mathlib.Core.Option.{none, some}
use lib.ListN.{length}
use Rattle.qbf.specs.Formula.{Clause, Formula, Limits, Literal, Node, Prefix, Quantifier, all}
use Rattle.qbf.specs.Truth.{free_variables, outline, verdict_of}
use Rattle.qbf.specs.Plain.{plain_search}
use Rattle.qbf.specs.Learning.{Constraint, Store, constraints, learning_search}
use Rattle.qbf.specs.Open.{Reading, open_search, reading_of}
use Rattle.qbf.specs.Ceiling.{search_within}
use Rattle.qbf.specs.Card.{Mem, zero_table}
use Rattle.qbf.specs.Closest.{Found}
use Rattle.qbf.specs.Calls.{Answer, Call, State, card, card_of, card_refused, ceiling_of, closest, closest_answer, closest_fault, done, formula_is_ok, found, lines, one, query, start_node, step, well_formed}
use Rattle.qbf.specs.Runs.{after, fresh, learning_run, plain_run}
use Rattle.qbf.specs.Partition.{Partition, keeps_clauses}
use Rattle.qbf.specs.Demands.{Agree, Agrees, AllAgree, CardOwed, ClosestReplyOwed, Leaves, QueryOwed, refusal_of}
use Rattle.qbf.specs.OneAdds.{OneAdds}
use Rattle.theory.proofs.Leaves.{ByFirst, Valid}
use Rattle.theory.proofs.Stores.{RecordedStore}
use Rattle.theory.proofs.Starting.{Starts, learning, plainly, searched}
use Rattle.theory.proofs.Refusals.{refusals, refused_leaves, refused_known, under_ceiling}
use Rattle.theory.proofs.Runs.{Reached, fits_agree, fresh_reached, reached_formed, run_agrees}
use Rattle.theory.proofs.Preserved.{step_formed}
use Rattle.theory.proofs.Cards.{after_reached, card_owed}
use Rattle.theory.proofs.Partition.{both_cards}
use Rattle.theory.proofs.Queries.{query_owed}
use Rattle.theory.proofs.OneCall.{call_adds}
use Rattle.theory.proofs.ClosestCall.{closest_no_store, closest_right, from_its_card, replies_no_store}
use Rattle.theory.proofs.Bound.{open_bound, search_bound, plain_bound}
use Rattle.theory.proofs.Ceiling.{Any, Within, search_within_any}

-- ---- demand 1: "Nothing refused changes the book's declarations or rules, and every refusal has its number and leaves what the
-- paper says." On any state, well formed or not.
pub demand_1 : (x : State) (c : Call) (n : ℕ) → refusal_of (step x c).out.reply ≡ some n → Leaves n x c (step x c)
demand_1 = refused_leaves

-- the number is one of the paper's for that call
pub refusal_known : (x : State) (c : Call) (n : ℕ) → refusal_of (step x c).out.reply ≡ some n → Mem n (refusals c)
refusal_known = refused_known

-- "no .. state makes the box .. run without end": with the places of ks left a search makes fewer than 2 ^ (length ks + 1) visits
pub visits_bounded : (L : Limits) (D : Prefix) (R : List Clause) (ks : List Quantifier) (s : Node) (st : Store) → (learning_search L D R ks s st).visits < 2 ^ suc (length ks)
visits_bounded = search_bound

-- under a ceiling no call makes more visits than that, on any state; "It stops only when the call's full walk would need more", and else is
-- that walk
pub visits_under_ceiling : (x : State) (c : Call) (n : ℕ) → ceiling_of c ≡ some n → (step x c).out.visits ≤ n
visits_under_ceiling = under_ceiling

pub stops_only_over : (L : Limits) (D : Prefix) (R : List Clause) (n : ℕ) (ks : List Quantifier) (s : Node) (st : Store) → Within Any n (learning_search L D R ks s st) (search_within L D R n ks s st)
stops_only_over = search_within_any

pub plain_visits_bounded : (D : Prefix) (R : List Clause) (ks : List Quantifier) (s : Node) → (plain_search D R ks s).visits < 2 ^ suc (length ks)
plain_visits_bounded = plain_bound

pub open_visits_bounded : (D : Prefix) (R : List Clause) (os : Reading) (ks : List Quantifier) (s : Node) → (open_search D R os ks s).visits < 2 ^ suc (length ks)
open_visits_bounded = open_bound

-- a well-formed state stays well formed, reached or not
pub well_formed_stays : (x : State) → well_formed x ≡ true → (c : Call) → well_formed (step x c).state ≡ true
well_formed_stays = step_formed

-- ---- exactly-one forms, on any state: what the call adds where it is accepted. "For all values given, the rules so added are all true
-- exactly when one of the literals is true and every other is false, shown once for any length."
pub one_adds_rules : (x : State) (ls : List Literal) → (step x (one ls)).out.reply ≡ done → OneAdds x.formula (step x (one ls)).state.formula ls
one_adds_rules = call_adds

-- ---- the closest reading, on any well-formed state: "It works from a card made under a ceiling, whose count and visits it also returns and
-- whose lines the table then holds."
pub closest_from_card : (x : State) → well_formed x ≡ true → (n size : ℕ) (on off : List Literal) → closest_fault x.formula on off ≡ none
    → ((step x (closest n size on off)).state ≡ (step x (card n size)).state)
    × ((step x (closest n size on off)).out ≡ closest_answer size (start_node on x.formula.prefix) (step x (card n size)).out)
closest_from_card = from_its_card

-- ---- reached states
module _ (b : Formula) (e : formula_is_ok b ≡ true) (cs : List Call) where
  abbrev state : State
  state = after (fresh b) cs

  reached : Reached state
  reached = after_reached (fresh b) (fresh_reached b e) cs

  pub reached_well_formed : well_formed state ≡ true
  reached_well_formed = reached_formed state reached

  -- every stored constraint is valid: where it ends, a node at which all its literals have their value has its verdict
  pub stored_valid : (v : Bool) (E : Constraint) → Mem E (constraints v state.store) → Valid state.formula.prefix state.formula.clauses v E
  stored_valid v E m = reached.sound.stored.each v E m

  -- each learned clause is valid by the clauses that stood when it was stored
  pub stored_by_first : RecordedStore (ByFirst state.formula.prefix state.formula.clauses) state.store
  stored_by_first = reached.sound.recorded

  -- from a start node both searches give the verdict that truth defines, the learning one in no more visits
  module _ (ks : List Quantifier) (s : Node) (start : Starts state.formula ks s) where
    pub search_gives_truth : outline (learning state.formula state.store ks s).outcome ≡ verdict_of state.formula.prefix state.formula.clauses ks s
    search_gives_truth = (searched state.formula state.store ks s reached.formula_ok reached.sound start).verdict

    pub searches_agree : outline (learning state.formula state.store ks s).outcome ≡ (plainly state.formula state.store ks s).outcome
    searches_agree = (searched state.formula state.store ks s reached.formula_ok reached.sound start).agree

    pub search_visits_fewer : (learning state.formula state.store ks s).visits ≤ (plainly state.formula state.store ks s).visits
    search_visits_fewer = (searched state.formula state.store ks s reached.formula_ok reached.sound start).fewer

  -- the answer to a query is the truth of all completions of its reading, or unsettled; or refusal 8, or 34 where its search stopped
  pub query_true : (n : ℕ) (on off : List Literal) → QueryOwed state.formula.prefix state.formula.clauses (reading_of on off state.formula.prefix) (step state (query n on off)).out.reply
  query_true n on off = query_owed state reached n on off

  -- ---- demand 2: "On every card of an opened book that is not refused, a reading lies on a line exactly when the quantified rules are
  -- true for it. The lines are the topmost ones, each once, in the fixed order, and no reading lies on two." The only refusals are 21 and 34.
  -- The lines are those of the verdict p: Yes for a card, No for a keep card.
  pub demand_2 : (p : Bool) (n size : ℕ) → CardOwed p state.formula.prefix state.formula.clauses size (step state (card_of p n size)).out.reply
  demand_2 p n size = card_owed state reached p n size

  -- the closest reading: "return a reading on the swap card that differs from it in the fewest flags, and that number. Every other reading on
  -- the card differs in at least as many. Among equals, the first by off before on in place order is returned. A reading on the card
  -- returns itself with 0." The readings on the swap card are those for which the quantified rules are true.
  pub closest_true : (n size : ℕ) (on off : List Literal)
      → ClosestReplyOwed state.formula.prefix state.formula.clauses (reading_of on off state.formula.prefix) (start_node on state.formula.prefix) size (step state (closest n size on off)).out.reply
  closest_true n size on off = closest_right state reached n size on off

  -- "where that card is finished, the store has no influence on the reading and the number": a state that other calls reach, of another book
  -- or of this one, with the same formula
  pub closest_store_free : (a : Formula) → formula_is_ok a ≡ true → (ds : List Call) → (after (fresh a) ds).formula ≡ state.formula
      → (n n' size size' : ℕ) (on off : List Literal) (ls ks : List Node) (tb tc : List ℕ) (r q : Found)
      → (step state (closest n size on off)).out.reply ≡ found ls tb r → (step (after (fresh a) ds) (closest n' size' on off)).out.reply ≡ found ks tc q → r ≡ q
  closest_store_free a ok ds same = closest_no_store state (after (fresh a) ds) reached (after_reached (fresh a) (fresh_reached a ok) ds) same

  -- so of the whole reply, 21 and 35 too: the store decides only whether the search stops
  pub closest_reply_store_free : (a : Formula) → formula_is_ok a ≡ true → (ds : List Call) → (after (fresh a) ds).formula ≡ state.formula
      → (n n' size : ℕ) (on off : List Literal) → closest_fault state.formula on off ≡ none
      → ((step state (closest n size on off)).out.reply ≡ card_refused 34 (zero_table size) → ⊥) → ((step (after (fresh a) ds) (closest n' size on off)).out.reply ≡ card_refused 34 (zero_table size) → ⊥)
      → (step state (closest n size on off)).out.reply ≡ (step (after (fresh a) ds) (closest n' size on off)).out.reply
  closest_reply_store_free a ok ds same = replies_no_store state (after (fresh a) ds) reached (after_reached (fresh a) (fresh_reached a ok) ds) same

  -- "For every reached book, where neither card is refused, each reading lies on exactly one line of one of the two. .. Show this for cards
  -- made in either order with queries, but no added or withdrawn rule, between them."
  pub cards_together : (between : List Call) → all (keeps_clauses state.formula) between ≡ true → (p : Bool) (n n' size size' : ℕ) (ls ks : List Node) (tb tc : List ℕ)
      → (step state (card_of p n size)).out.reply ≡ lines ls tb
      → (step (after (step state (card_of p n size)).state between) (card_of (not p) n' size')).out.reply ≡ lines ks tc
      → Partition (free_variables state.formula.prefix) ls ks
  cards_together = both_cards b e cs

-- ---- demand 3: "Take every list of these calls .. on one freshly opened book, its store empty. .. every call gives the answer of the
-- plain run", visits never more than the plain search's; "only a stopped call's answer is not compared with it". "Demand 3's lists may now
-- hold this call" (an exactly-one form), "the keep card and the closest reading as well; the last one's reading and number are compared too."
-- One claim about the whole list.
pub demand_3 : (b : Formula) → formula_is_ok b ≡ true → (cs : List Call) → AllAgree cs (learning_run (fresh b) cs) (plain_run b cs)
demand_3 b e cs = run_agrees cs (fresh b) (fresh_reached b e) b refl

-- "A call whose plain walk fits the ceiling is therefore always finished, in any list."
pub finished_if_fits : (c : Call) (n : ℕ) → ceiling_of c ≡ some n → (l p : Answer) → Agrees c l p → p.visits ≤ n → Agree l p
finished_if_fits = fits_agree
