-- The answers of query and card, from what the search on the state found and the learned constraints that it left.
use Prim.Native.Nat.{ℕ, suc, ◌+◌, ◌-◌, ◌*◌, ◌≤◌, ◌<◌}
use native.Mathlib.Omega.{arith}
use mathlib.Core.Path.{◌≡◌, refl, sym, ap, ◌∙◌, subst}
use mathlib.Core.Logic.{inl, inr}
use mathlib.Core.Bool.{Bool, true, false, cond, not, beq}
use mathlib.Core.List.{List, [], ◌∷◌, ◌++◌}
use mathlib.Core.Option.{Option, none, some}
use lib.ListN.{length, get_or, take, drop, length-replicate}
use lib.Seq.{length-take-le}
use lib.Dec.{leb}
use Rattle.qbf.specs.Formula.{Limits, highest, Formula, Prefix, Literal, Node, quantifiers}
use Rattle.qbf.specs.Plain.{PlainResult}
use Rattle.qbf.specs.Open.{Reading, reading_of, is_full}
use Rattle.qbf.specs.Truth.{Outcome, decided, mixed, decided_nodes, select, outline, bound, free_variables}
use Rattle.qbf.specs.Learning.{Constraint, Store, LearningResult, empty_store}
use Rattle.qbf.specs.Ceiling.{Attempt, finished, stopped, search_within}
use Rattle.qbf.specs.Card.{table_of, zero_table}
use Rattle.qbf.specs.Calls.{Call, query, card_of, State as Read, Reply, refused, lines, card_refused, Answer, answer, query_fault, start_node, query_reply, card_reply_of, attempt_answer, open_answer, learning_reading, learning_query, learning_card}
use Rattle.qbf.specs.Demands.{refusal_of}
use Rattle.theory.proofs.Starting.{free_rest}
use Rattle.theory.proofs.Queries.{reading_length}
use Rattle.tables.specs.Views.{Places, Kinds, Values}
use Rattle.cover.specs.Cover.{Covers}
use Rattle.cover.proofs.Laws.{covers_open, covers_fits}
use Rattle.node.specs.Node.{new_lines}
use Rattle.node.specs.declared.answer.Answer.{Answer as Found}
use Rattle.node.specs.declared.Verdict.{Verdict}
use Rattle.node.specs.declared.Verdict.TheVariants.{Yes, No, Mixed}
use Rattle.state.specs.State.{State}
use Rattle.state.specs.Reading.{own, prefix_in, formula_under, store_under, state_under, accepted}
use Rattle.state.proofs.Valid.{prefix_numbers}
use Rattle.coding.proofs.Placewise.{zeros}
use Rattle.reading.specs.Reading.{QueryRead, Ready}
use Rattle.serving.specs.Serves.{Said, said, said_reply, said_of}
use Rattle.serving.proofs.Calls.{Passes, after_search}
use Rattle.replies.specs.Replies.{ruling_said, card_said, ruling_for, total}
use Rattle.refusal.specs.declared.Refusal.TheVariants as refusal
use Rattle.std.specs.Prelude.{Ok, Err, Some, None}
use Rattle.std.specs.Prelude.{Option as Maybe}
use Rattle.open_run.specs.OpenRun.{Shown}
use Rattle.open_run.proofs.Walking.{open_values}
use Rattle.search_entry.specs.declared.Learned.{Learned}
use Rattle.searching.specs.Run.{Ends, EndsBy, TriedBy, store_left}
use Rattle.asking.specs.OpenRun.{open_walk, open_said}
use Rattle.asking.specs.Answered.{called, Shelved, Answered}
use Rattle.asking.proofs.Accepting.{good, formed}

-- the empty node by a table of open values
pub open_node : (D : Prefix) (size : ℕ) {values : List ℕ} → values ≡ zero_table size → Values D [] values
open_node D size z = subst (Values D []) (sym z) (open_values D size)

-- ---- query
-- swap or keep, by the verdict
ruling_is : (w : Verdict) (o : Outcome Constraint) (k : ℕ) → Ends w o → ruling_said (Ok (ruling_for w)) k ≡ said_reply (query_reply (outline o)) k
ruling_is Yes o k (e, p) = ap (λ (x : Outcome Constraint). said_reply (query_reply (outline x)) k) (sym p)
ruling_is No o k (e, p) = ap (λ (x : Outcome Constraint). said_reply (query_reply (outline x)) k) (sym p)
ruling_is Mixed o k (ds, p) = ap (λ (x : Outcome Constraint). said_reply (query_reply (outline x)) k) (sym p)

query_passes : (o : Outcome (Unit {0})) → Passes (refusal_of (query_reply o))
query_passes (decided true e) = tt
query_passes (decided false e) = tt
query_passes (mixed ds) = tt

-- a cleared table has the size of the lent one
pub cleared_length : (size : ℕ) {zeros : List ℕ} → zeros ≡ zero_table size → length zeros ≡ size
cleared_length size e = ap length e ∙ length-replicate size 0

-- the store of an answer is the one that its search leaves
left_by : (over : Reply) (top : ℕ) (tell : Outcome (Unit {0}) → Reply) (t : Attempt) → (attempt_answer over top tell t).store ≡ store_left t
left_by over top tell (finished o) = refl
left_by over top tell (stopped st) = refl

-- the learned constraints that are left: on shelves, or those that there were
abbrev pub LeftAs : Limits → State → Store → Maybe Learned → Type 0
LeftAs L x z None = z ≡ store_under L x
LeftAs L x z (Some l) = Shelved L x z l

module _ (n m : ℕ) (x : State) where
  abbrev L : Limits
  L = own n m

  -- the definitions' next state has the learned constraints z, which are left so
  moved_on : (c : Call) (o : Maybe Learned) (z : Store) → record { formula = formula_under L x; store = z } ≡ (called L x c).state → LeftAs L x z o
      → Passes (refusal_of (called L x c).out.reply) → Answered L x c (said_of (called L x c).out) o
  moved_on c None z e h pass = record { said = refl; formula = sym (ap (λ (y : Read). y.formula) e); left = sym e ∙ ap (λ (st : Store). record { formula = formula_under L x; store = st }) h }
  moved_on c (Some l) z e h pass =
      record {
        said = refl;
        formula = sym (ap (λ (y : Read). y.formula) e);
        left = record { shelved = subst (λ (st : Store). Shelved L x st l) (ap (λ (y : Read). y.store) e) h; searched = after_search (refusal_of (called L x c).out.reply) pass };
      }

  -- the state is as given
  unchanged : (c : Call) → (called L x c).state ≡ state_under L x → Answered L x c (said_of (called L x c).out) None
  unchanged c e = record { said = refl; formula = ap (λ (y : Read). y.formula) e; left = e }

  -- what the search t comes to: the answer r, the table, and the learned constraints
  pub record Here (p : Bool) (t : Attempt) (free budget : ℕ) (r : Found) (o : Maybe Learned) (table : List ℕ) : Type 0 where
    pub tried : TriedBy p t free budget r table
    pub left : LeftAs L x (store_left t) o

-- a call answered as that
pub answered_as : (L : Limits) (x : State) (c : Call) {a q : Said} {o : Maybe Learned} → a ≡ q → Answered L x c q o → Answered L x c a o
answered_as L x c {a} {q} {o} p s = subst (λ (u : Said). Answered L x c u o) (sym p) s

-- a table with a cell for each number up to n still has them where it is cut behind them
pub cut_room : (n : ℕ) (vs : List ℕ) → n < length vs → n < length (take (n + 1) vs)
cut_room n vs h = omega (arith, length-take-le (n + 1) vs (omega (arith, h)))

module _ (n m : ℕ) (x : State) (acc : accepted (own n m) x ≡ true) (low : n ≤ highest.numbers) (few_clauses : m ≤ highest.clauses) where
  -- the tables of the state, and open values, are ready for a reading
  pub read_ready : {free size : ℕ} {places values : List ℕ} → free ≡ free_variables (prefix_in x) → Places (prefix_in x) places → values ≡ zero_table size → n < size
      → Ready (own n m) (prefix_in x) free x.numbers places values
  read_ready {free} {size} {places} {values} frees ps z wide =
      record {
        good = (good n m x acc low few_clauses).formula_ok.prefix_ok;
        counted = frees;
        numbered = prefix_numbers x.numbers x.levels x.kinds;
        placed = ps;
        wide = omega (arith, wide, ap length z, length-replicate {A = ℕ} size 0);
        opened = λ i. ap (λ (t : List ℕ). get_or t i 0) z ∙ zeros size i;
      }

  abbrev b : Formula
  b = formula_under (own n m) x

  abbrev search_from : ℕ → ℕ → Node → Attempt
  search_from i at s = search_within (own n m) (prefix_in x) b.clauses i (drop at (quantifiers (prefix_in x))) s (store_under (own n m) x)

  -- a query of a full reading, by what its search comes to
  module _ (top : ℕ) (on off : List Literal) (d : Maybe Learned) (fine : query_fault b [] (on ++ off) ≡ none) (whole : is_full (reading_of on off (prefix_in x)) ≡ true) where
    abbrev answered : Attempt → Answer
    answered t = (attempt_answer (refused 34) top query_reply t).out

    query_by : (t : Attempt) → search_within (own n m) (prefix_in x) b.clauses top (bound (quantifiers (prefix_in x))) (start_node on (prefix_in x)) (store_under (own n m) x) ≡ t
        → LeftAs (own n m) x (store_left t) d → Passes (refusal_of (answered t).reply) → Answered (own n m) x (query top on off) (said_of (answered t)) d
    query_by t is left pass =
        subst (λ (a : Answer). Answered (own n m) x (query top on off) (said_of a) d) out_is
        (moved_on n m x (query top on off) d (store_left t) state_is left (subst (λ (a : Answer). Passes (refusal_of a.reply)) (sym out_is) pass))
      where
        out_is : (called (own n m) x (query top on off)).out ≡ answered t
        out_is =
            ap (λ (o : Option ℕ). (learning_query o b (store_under (own n m) x) top on off).out) fine
            ∙ ap (λ (f : Bool). (learning_reading f b (store_under (own n m) x) top on (reading_of on off (prefix_in x))).out) whole
            ∙ ap answered is

        state_is : record { formula = b; store = store_left t } ≡ (called (own n m) x (query top on off)).state
        state_is =
            ap (λ (st : Store). record { formula = b; store = st })
            (sym (left_by (refused 34) top query_reply t) ∙ ap (λ (z : Attempt). (attempt_answer (refused 34) top query_reply z).store) (sym is))
            ∙ sym
            (ap (λ (o : Option ℕ). record { formula = b; store = (learning_query o b (store_under (own n m) x) top on off).store }) fine
            ∙ ap (λ (f : Bool). record { formula = b; store = (learning_reading f b (store_under (own n m) x) top on (reading_of on off (prefix_in x))).store }) whole)

    module _ {p : Bool} (free budget : ℕ) (r : Found) (table : List ℕ) (frees : free ≡ free_variables (prefix_in x)) (allowed : budget ≡ suc top)
        (f : Here n m x p (search_from (budget - 1) free (start_node on (prefix_in x))) free budget r d table) where
      same : search_within (own n m) (prefix_in x) b.clauses top (bound (quantifiers (prefix_in x))) (start_node on (prefix_in x)) (store_under (own n m) x) ≡ search_from (budget - 1) free (start_node on (prefix_in x))
      same =
          ap (λ qs. search_within (own n m) (prefix_in x) b.clauses top qs (start_node on (prefix_in x)) (store_under (own n m) x))
          (sym (ap (λ (i : ℕ). drop i (quantifiers (prefix_in x))) frees ∙ free_rest (quantifiers (prefix_in x))))
          ∙ ap (λ (n : ℕ). search_from n free (start_node on (prefix_in x))) one_less
        where
          one_less : top ≡ budget - 1
          one_less = omega (arith, allowed)

      -- swap or keep, where some budget is left
      asked : (k : ℕ) → k + r.budget ≡ suc top → (r.budget ≡ 0 → ⊥) → Answered (own n m) x (query top on off) (ruling_said (Ok (ruling_for r.verdict)) k) d
      asked k counted some_left = by (search_from (budget - 1) free (start_node on (prefix_in x))) same f.tried f.left
        where
          by : (t : Attempt) → search_within (own n m) (prefix_in x) b.clauses top (bound (quantifiers (prefix_in x))) (start_node on (prefix_in x)) (store_under (own n m) x) ≡ t → TriedBy p t free budget r table
              → LeftAs (own n m) x (store_left t) d → Answered (own n m) x (query top on off) (ruling_said (Ok (ruling_for r.verdict)) k) d
          by (stopped z) is spent_all left = absurd (some_left spent_all)
          by (finished o) is h left =
              subst (λ (a : Said). Answered (own n m) x (query top on off) a d) told (query_by (finished o) is left (query_passes (outline o.outcome)))
            where
              told : said_reply (query_reply (outline o.outcome)) o.visits ≡ ruling_said (Ok (ruling_for r.verdict)) k
              told = sym (ruling_is r.verdict o.outcome o.visits h.verdict) ∙ ap (ruling_said (Ok (ruling_for r.verdict))) k_is
                where
                  k_is : o.visits ≡ k
                  k_is = omega (arith, counted, h.visits, allowed)

      -- 34, where none is left: the visits are the ceiling, and the store is kept
      halted : r.budget ≡ 0 → Answered (own n m) x (query top on off) (said (some 34) 0 0 top []) d
      halted none_left = by (search_from (budget - 1) free (start_node on (prefix_in x))) same f.tried f.left
        where
          by : (t : Attempt) → search_within (own n m) (prefix_in x) b.clauses top (bound (quantifiers (prefix_in x))) (start_node on (prefix_in x)) (store_under (own n m) x) ≡ t → TriedBy p t free budget r table
              → LeftAs (own n m) x (store_left t) d → Answered (own n m) x (query top on off) (said (some 34) 0 0 top []) d
          by (stopped z) is h left = query_by (stopped z) is left (inr (inl refl))
          by (finished o) is h left = absurd (omega (arith, h.left, none_left))

  -- from what the code has at hand: its reading of the arguments, the search from the start node, and the ruling
  module _ {on off : List Literal} {free : ℕ} {ok full : Bool} {values : List ℕ} (frees : free ≡ free_variables (prefix_in x)) (read : QueryRead (prefix_in x) on off ok full values) where
    module _ (top : ℕ) {p : Bool} {at budget : ℕ} (r : Found) (d : Maybe Learned) (table : List ℕ) (fine : ok ≡ true) (all_named : full ≡ true) (here : at ≡ free)
        (found : Here n m x p (search_from (budget - 1) at (start_node on (prefix_in x))) free budget r d table) (allowed : budget ≡ suc top) where
      found_at : Here n m x p (search_from (budget - 1) free (start_node on (prefix_in x))) free budget r d table
      found_at = subst (λ (i : ℕ). Here n m x p (search_from (budget - 1) i (start_node on (prefix_in x))) free budget r d table) here found

      no_fault : query_fault b [] (on ++ off) ≡ none
      no_fault = read.fine b refl fine

      whole : is_full (reading_of on off (prefix_in x)) ≡ true
      whole = sym (read.told fine) ∙ all_named

      pub asked_by : (k : ℕ) → k + r.budget ≡ suc top → (r.budget ≡ 0 → ⊥) → {a : Said} → a ≡ ruling_said (Ok (ruling_for r.verdict)) k → Answered (own n m) x (query top on off) a d
      asked_by k counted some_left {a} is =
          subst (λ (z : Said). Answered (own n m) x (query top on off) z d) (sym is) (asked top on off d no_fault whole free budget r table frees allowed found_at k counted some_left)

      pub halted_by : r.budget ≡ 0 → Answered (own n m) x (query top on off) (said (some 34) 0 0 top []) d
      halted_by none_left = halted top on off d no_fault whole free budget r table frees allowed found_at none_left

    -- refused with 8: the state is as given
    pub refused_query : (top : ℕ) → ok ≡ false → Answered (own n m) x (query top on off) (said (some 8) 0 0 0 []) None
    refused_query top bad =
        subst (λ (a : Said). Answered (own n m) x (query top on off) a None) (ap (λ (o : Option ℕ). said_of (learning_query o b (store_under (own n m) x) top on off).out) e)
        (unchanged n m x (query top on off) (ap (λ (o : Option ℕ). record { formula = b; store = (learning_query o b (store_under (own n m) x) top on off).store }) e))
      where
        e : query_fault b [] (on ++ off) ≡ some 8
        e = read.fault b refl bad

    -- a reading with an open variable: the plain search's answer, and the state is as given
    module _ (fine : ok ≡ true) (not_all : full ≡ false) where
      abbrev os : Reading
      os = reading_of on off (prefix_in x)

      pub open_shown : {places kinds : List ℕ} → Places (prefix_in x) places → Kinds (prefix_in x) kinds
          → Shown (prefix_in x) os x.numbers x.clauses x.clause_sizes places kinds values free
      open_shown ps ks =
          let w = formed n m x acc low few_clauses in
          record {
            numbered = prefix_numbers x.numbers x.levels x.kinds;
            placed = ps;
            kinded = ks;
            formed = record { prefix_ok = w.prefix_ok; free_ok = w.free_ok; clauses_ok = w.clauses_ok; store_ok = refl };
            recorded = read.recorded fine;
            counted = frees;
            long = reading_length on off (prefix_in x) ∙ sym frees;
          }

      abbrev walk : PlainResult
      walk = open_walk (prefix_in x) b.clauses os

      pub open_by : (top : ℕ) {a : Said} → a ≡ open_said top walk → Answered (own n m) x (query top on off) a None
      open_by top {a} told =
          subst (λ (q : Said). Answered (own n m) x (query top on off) q None) (ap said_of out_is ∙ same_said (leb walk.visits top) ∙ sym told) (unchanged n m x (query top on off) state_is)
        where
          no_fault : query_fault b [] (on ++ off) ≡ none
          no_fault = read.fine b refl fine

          partly : is_full os ≡ false
          partly = sym (read.told fine) ∙ not_all

          same_said : (fit : Bool) → said_of (open_answer fit (store_under (own n m) x) top walk).out ≡ said_of (open_answer fit empty_store top walk).out
          same_said true = refl
          same_said false = refl

          same_store : (fit : Bool) → (open_answer fit (store_under (own n m) x) top walk).store ≡ store_under (own n m) x
          same_store true = refl
          same_store false = refl

          out_is : (called (own n m) x (query top on off)).out ≡ (open_answer (leb walk.visits top) (store_under (own n m) x) top walk).out
          out_is =
              ap (λ (o : Option ℕ). (learning_query o b (store_under (own n m) x) top on off).out) no_fault
              ∙ ap (λ (f : Bool). (learning_reading f b (store_under (own n m) x) top on os).out) partly

          state_is : (called (own n m) x (query top on off)).state ≡ state_under (own n m) x
          state_is =
              ap (λ (o : Option ℕ). record { formula = b; store = (learning_query o b (store_under (own n m) x) top on off).store }) no_fault
              ∙ ap (λ (f : Bool). record { formula = b; store = (learning_reading f b (store_under (own n m) x) top on os).store }) partly
              ∙ ap (λ (st : Store). record { formula = b; store = st }) (same_store (leb walk.visits top))

  -- ---- card
  -- all lines of the verdict p: those below the empty node, and its own where it has that verdict
  abbrev all_lines : Bool → Outcome Constraint → List Node
  all_lines p o = select p (decided_nodes [] (outline o))

  all_lines_lem : (p : Bool) (w : Verdict) (o : Outcome Constraint) (f : ℕ) (tb : List ℕ) (n : ℕ) → Ends w o → Covers f tb (new_lines p o) → n ≡ length (new_lines p o)
      → Covers f tb (all_lines p o) × (total p w n ≡ length (all_lines p o))
  all_lines_lem p w o f tb n h c k = by w h
    where
      self : Bool → List Node
      self h = cond h ([] ∷ []) []

      -- a decided node has no line below it
      own : (h : Bool) (m : ℕ) → m ≡ 0 → Covers f tb [] → Covers f tb (self h) × (cond h (m + 1) m ≡ length (self h))
      own true m e cov = (covers_open f tb [] cov, omega (arith, e))
      own false m e cov = (cov, e)

      at : {z : Outcome Constraint} → o ≡ z → (m : ℕ) → Covers f tb (all_lines p z) × (m ≡ length (all_lines p z)) → Covers f tb (all_lines p o) × (m ≡ length (all_lines p o))
      at e m both = subst (λ (z : Outcome Constraint). Covers f tb (all_lines p z) × (m ≡ length (all_lines p z))) (sym e) both

      below : {z : Outcome Constraint} → o ≡ z → Covers f tb (new_lines p z) × (n ≡ length (new_lines p z))
      below e = subst (λ (z : Outcome Constraint). Covers f tb (new_lines p z) × (n ≡ length (new_lines p z))) e (c, k)

      -- the empty node is decided, and a line by itself where that is its verdict
      decided_own : (z : Bool) {m : ℕ} (h : Bool) → h ≡ beq p z → m ≡ 0 → Covers f tb [] → Covers f tb (self (beq p z)) × (cond h (m + 1) m ≡ length (self (beq p z)))
      decided_own z {m} h e q cov = subst (λ (d : Bool). Covers f tb (self d) × (cond h (m + 1) m ≡ length (self d))) e (own h m q cov)

      is_yes_lem : (d : Bool) → d ≡ beq d true
      is_yes_lem true = refl
      is_yes_lem false = refl

      is_no_lem : (d : Bool) → not d ≡ beq d false
      is_no_lem true = refl
      is_no_lem false = refl

      by : (w : Verdict) → Ends w o → Covers f tb (all_lines p o) × (total p w n ≡ length (all_lines p o))
      by Yes (e, q) = at q (cond p (n + 1) n) (decided_own true p (is_yes_lem p) (below q).1 (below q).0)
      by No (e, q) = at q (cond (not p) (n + 1) n) (decided_own false (not p) (is_no_lem p) (below q).1 (below q).0)
      by Mixed (ds, q) = at q n (below q)

  -- a card by what its search comes to
  module _ (p : Bool) (top size : ℕ) (d : Maybe Learned) where
    abbrev card_answered : Attempt → Answer
    card_answered t = (attempt_answer (card_refused 34 (zero_table size)) top (card_reply_of p (prefix_in x) size) t).out

    card_by : (t : Attempt) → search_from top 0 [] ≡ t → LeftAs (own n m) x (store_left t) d → Passes (refusal_of (card_answered t).reply)
        → Answered (own n m) x (card_of p top size) (said_of (card_answered t)) d
    card_by t is left pass =
        subst (λ (a : Answer). Answered (own n m) x (card_of p top size) (said_of a) d) out_is
        (moved_on n m x (card_of p top size) d (store_left t) state_is left (subst (λ (a : Answer). Passes (refusal_of a.reply)) (sym out_is) pass))
      where
        -- the definitions' card is the search's
        made_so : (q : Bool) → (called (own n m) x (card_of q top size)).out ≡ (learning_card q b (store_under (own n m) x) top size).out
        made_so true = refl
        made_so false = refl

        next_is : (q : Bool) → record { formula = b; store = (learning_card q b (store_under (own n m) x) top size).store } ≡ (called (own n m) x (card_of q top size)).state
        next_is true = refl
        next_is false = refl

        out_is : (called (own n m) x (card_of p top size)).out ≡ card_answered t
        out_is = made_so p ∙ ap card_answered is

        state_is : record { formula = b; store = store_left t } ≡ (called (own n m) x (card_of p top size)).state
        state_is =
            ap (λ (st : Store). record { formula = b; store = st })
            (sym (left_by (card_refused 34 (zero_table size)) top (card_reply_of p (prefix_in x) size) t)
            ∙ ap (λ (z : Attempt). (attempt_answer (card_refused 34 (zero_table size)) top (card_reply_of p (prefix_in x) size) z).store) (sym is))
            ∙ next_is p

  module _ (p : Bool) (top size free budget : ℕ) (r : Found) (d : Maybe Learned) (table : List ℕ) (frees : free ≡ free_variables (prefix_in x)) (sized : length table ≡ size) (allowed : budget ≡ suc top)
      (f : Here n m x p (search_from (budget - 1) 0 []) free budget r d table) where
    same_card : search_from top 0 [] ≡ search_from (budget - 1) 0 []
    same_card = ap (λ (n : ℕ). search_from n 0 []) one_less
      where
        one_less : top ≡ budget - 1
        one_less = omega (arith, allowed)

    -- 34: the visits are the ceiling, the table is zero, and the store is kept
    pub halted_card : r.budget ≡ 0 → (zeros : List ℕ) → zeros ≡ zero_table size → Answered (own n m) x (card_of p top size) (said (some 34) 0 0 top zeros) d
    halted_card none_left zeros z = by (search_from (budget - 1) 0 []) same_card f.tried f.left
      where
        by : (t : Attempt) → search_from top 0 [] ≡ t → TriedBy p t free budget r table → LeftAs (own n m) x (store_left t) d → Answered (own n m) x (card_of p top size) (said (some 34) 0 0 top zeros) d
        by (finished o) is h left = absurd (omega (arith, h.left, none_left))
        by (stopped st) is h left =
            subst (λ (tb : List ℕ). Answered (own n m) x (card_of p top size) (said (some 34) 0 0 top tb) d) (sym z) (card_by p top size d (stopped st) is left (inr (inl refl)))

    -- some budget is left
    module _ (some_left : r.budget ≡ 0 → ⊥) (k : ℕ) (spent : k + r.budget ≡ suc top) (many : ℕ) (counted : many ≡ total p r.verdict r.lines) where
      module _ (o : LearningResult) (is : search_from top 0 [] ≡ finished o) (h : EndsBy p o free budget r table) (left : LeftAs (own n m) x o.store d) where
        abbrev ls : List Node
        ls = all_lines p o.outcome

        both : Covers free table ls × (total p r.verdict r.lines ≡ length ls)
        both = all_lines_lem p r.verdict o.outcome free table r.lines h.verdict h.covers h.lines

        k_is : k ≡ o.visits
        k_is = omega (arith, spent, h.visits, allowed)

        test : leb (many * free) size ≡ leb (length ls * free_variables (prefix_in x)) size
        test = (λ i. leb ((counted ∙ both.1) i * frees i) size)

        out_by : (t : Bool) → leb (many * free) size ≡ t
            → card_answered p top size d (finished o) ≡ answer (cond t (lines ls (table_of (free_variables (prefix_in x)) size ls)) (card_refused 21 (zero_table size))) o.visits
        out_by t e = ap (λ (z : Bool). answer (cond z (lines ls (table_of (free_variables (prefix_in x)) size ls)) (card_refused 21 (zero_table size))) o.visits) (sym test ∙ e)

        -- the lines fit
        shown_ended : leb (many * free) size ≡ true → Answered (own n m) x (card_of p top size) (card_said (Ok many) k table) d
        shown_ended e =
            subst (λ (a : Said). Answered (own n m) x (card_of p top size) a d) whole
            (card_by p top size d (finished o) is left (subst (λ (a : Answer). Passes (refusal_of a.reply)) (sym (out_by true e)) tt))
          where
            table_is : table ≡ table_of (free_variables (prefix_in x)) size ls
            table_is =
                covers_fits free table ls both.0 ((λ i. leb (sym both.1 i * free) (sized i)) ∙ ap (λ (m : ℕ). leb (m * free) size) (sym counted) ∙ e)
                ∙ (λ i. table_of (frees i) (sized i) ls)

            whole : said_of (card_answered p top size d (finished o)) ≡ card_said (Ok many) k table
            whole = ap said_of (out_by true e) ∙ sym (λ i. said none 0 ((counted ∙ both.1) i) (k_is i) (table_is i))

        -- they do not: 21, with the visits and the store of the search
        full_ended : (zeros : List ℕ) → zeros ≡ zero_table size → leb (many * free) size ≡ false → Answered (own n m) x (card_of p top size) (card_said (Err refusal.TooManyLines) k zeros) d
        full_ended zeros z e =
            subst (λ (a : Said). Answered (own n m) x (card_of p top size) a d) whole
            (card_by p top size d (finished o) is left (subst (λ (a : Answer). Passes (refusal_of a.reply)) (sym (out_by false e)) (inl refl)))
          where
            whole : said_of (card_answered p top size d (finished o)) ≡ card_said (Err refusal.TooManyLines) k zeros
            whole = ap said_of (out_by false e) ∙ sym (λ i. said (some 21) 0 0 (k_is i) (z i))

      -- the search came to its end
      ended_by : {A : Type 0} → ((o : LearningResult) → search_from top 0 [] ≡ finished o → EndsBy p o free budget r table → LeftAs (own n m) x o.store d → A) → A
      ended_by {A} then = by (search_from (budget - 1) 0 []) same_card f.tried f.left
        where
          by : (t : Attempt) → search_from top 0 [] ≡ t → TriedBy p t free budget r table → LeftAs (own n m) x (store_left t) d → A
          by (stopped z) is spent_all left = absurd (some_left spent_all)
          by (finished o) is h left = then o is h left

      pub shown_card : leb (many * free) size ≡ true → Answered (own n m) x (card_of p top size) (card_said (Ok many) k table) d
      shown_card e = ended_by (λ o is h left. shown_ended o is h left e)

      pub full_card : (zeros : List ℕ) → zeros ≡ zero_table size → leb (many * free) size ≡ false → Answered (own n m) x (card_of p top size) (card_said (Err refusal.TooManyLines) k zeros) d
      full_card zeros z e = ended_by (λ o is h left. full_ended o is h left zeros z e)
