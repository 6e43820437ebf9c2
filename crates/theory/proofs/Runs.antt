-- Lists of calls: the learning run answers as the plain run does, and visits no more.
use Prim.Native.Nat.{ℕ, ◌-◌, ◌≤◌}
use native.Mathlib.Nat.{le_refl}
use native.Mathlib.Omega.{arith}
use mathlib.Core.Path.{◌≡◌, refl, sym, ap, ◌∙◌, subst}
use mathlib.Core.Logic.{inl, inr}
use mathlib.Core.Bool.{Bool, true, false, not}
use mathlib.Core.List.{List, [], ◌∷◌, ◌++◌}
use mathlib.Core.Option.{Option, none, some}
use lib.ListN.{length}
use lib.Dec.{leb, nleb→lt}
use Rattle.qbf.specs.Formula.{Clause, Formula, Limits, Literal, Node, Prefix, Quantifier, quantifiers}
use Rattle.qbf.specs.Truth.{Outcome, bound}
use Rattle.qbf.specs.Learning.{LearningResult, Store, empty_store}
use Rattle.qbf.specs.Plain.{PlainResult}
use Rattle.qbf.specs.Open.{Reading, is_full, open_search, reading_of}
use Rattle.qbf.specs.Ceiling.{Attempt, finished, search_within, stopped}
use Rattle.qbf.specs.Card.{zero_table}
use Rattle.qbf.specs.Calls.{Answer, Call, Reply, State, Stepped, attempt_answer, card, card_of, card_refused, closest, closest_answer, closest_fault, from_card, learning_closest, card_reply_of, ceiling_of, refusal, refused, clause_of, forget, formula_is_ok, guarded, keep_card, learning_answer, learning_card, learning_query, learning_reading, next_formula, one, one_fault, one_rules, open_answer, query, query_fault, query_reply, rule, rule_fault, start_node, step, store_after_rule, store_after_withdraw, well_formed, with_one, with_rule, withdraw, withdraw_fault, without_last}
use Rattle.qbf.specs.Runs.{fresh, learning_run, plain_answer, plain_call, plain_card, plain_closest, plain_query, plain_reading, plain_run}
use Rattle.qbf.specs.Demands.{Agree, Agrees, AllAgree}
use Rattle.theory.proofs.Basics.{≡→T}
use Rattle.theory.proofs.Shape.{Formed}
use Rattle.theory.proofs.Stores.{recorded_weaker, stored_weaker}
use Rattle.theory.proofs.NextFormula.{next_formula_lem}
use Rattle.theory.proofs.WellFormed.{Fits, FormulaFacts, formula_facts, facts_state}
use Rattle.theory.proofs.Leaves.{ByFirst, Valid, SoundStore, sound_empty}
use Rattle.theory.proofs.Validity.{sound_rule, sound_withdraw}
use Rattle.theory.proofs.Starting.{SoundFor, Starts, start_length, starts_full, starts_empty, attempted, learning, plainly, Searched, searched}
use Rattle.theory.proofs.Ceiling.{Within}

-- ---- what holds of each state that calls reach
pub record Reached (x : State) : Type 0 where
  pub formula_ok : FormulaFacts x.formula
  pub sound : SoundStore x.formula.limits x.formula.prefix x.formula.clauses x.store

pub reached_formed : (x : State) → Reached x → well_formed x ≡ true
reached_formed x h =
    facts_state x (record {
      formula_ok = h.formula_ok;
      store_ok = stored_weaker (Valid D R) L (Formed D) (λ v E w. w.formed) x.store h.sound.stored;
      records_ok = recorded_weaker (ByFirst D R) (Fits (length R)) (λ k E w. w.within) x.store.records x.store.clauses h.sound.recorded;
    })
  where
    L : Limits
    L = x.formula.limits

    D : Prefix
    D = x.formula.prefix

    R : List Clause
    R = x.formula.clauses

rule_keeps_sound : (b : Formula) (ls : List Literal) (st : Store) → SoundFor b st → (o : Option ℕ) → SoundFor (with_rule o b ls) (store_after_rule o st)
rule_keeps_sound b ls st h (some n) = h
rule_keeps_sound b ls st h none = sound_rule b.limits b.prefix b.clauses (clause_of b.prefix ls ∷ []) st h

one_keeps_sound : (b : Formula) (ls : List Literal) (st : Store) → SoundFor b st → (o : Option ℕ) → SoundFor (with_one o b ls) (store_after_rule o st)
one_keeps_sound b ls st h (some n) = h
one_keeps_sound b ls st h none = sound_rule b.limits b.prefix b.clauses (one_rules b.prefix ls) st h

withdraw_keeps_sound : (b : Formula) (st : Store) → SoundFor b st → (o : Option ℕ) → SoundFor (without_last o b) (store_after_withdraw o (length b.clauses - 1) st)
withdraw_keeps_sound b st h (some n) = h
withdraw_keeps_sound b st h none = sound_withdraw b.limits b.prefix b.clauses (length b.clauses - 1) (omega arith) st h

-- ---- one call
module _ (b : Formula) (f : FormulaFacts b) (st : Store) (h : SoundFor b st) where
  -- a search from a start node, whatever is answered of its outcome
  pub search_agrees : (c : Call) (n : ℕ) → ceiling_of c ≡ some n → (over : Reply) → over ≡ refusal 34 c → (ks : List Quantifier) (s : Node) → Starts b ks s → (tell : Outcome (Unit {0}) → Reply)
      → SoundFor b (attempt_answer over n tell (search_within b.limits b.prefix b.clauses n ks s st)).store
      × Agrees c (attempt_answer over n tell (search_within b.limits b.prefix b.clauses n ks s st)).out (plain_answer tell (plainly b st ks s))
  search_agrees c n top over is ks s g tell = by (search_within b.limits b.prefix b.clauses n ks s st) (attempted b st ks s f h g n)
    where
      w : Searched b st ks s
      w = searched b st ks s f h g

      by : (t : Attempt) → Within (SoundFor b) n (learning b st ks s) t → SoundFor b (attempt_answer over n tell t).store × Agrees c (attempt_answer over n tell t).out (plain_answer tell (plainly b st ks s))
      by (finished q) v =
          subst (λ (r : LearningResult). SoundFor b (learning_answer tell r).store × Agrees c (learning_answer tell r).out (plain_answer tell (plainly b st ks s))) (sym v.0)
          (w.stays_sound, inl (record { reply = ap tell w.agree; visits = w.fewer }))
      by (stopped z) v = (v.1, inr (record { reply = is; ceiling = top; needed = omega (arith, v.0, w.fewer) }))

  -- an open reading's search stands for both
  open_ok : (n : ℕ) (on off : List Literal) (w : PlainResult) (x : Bool) → leb w.visits n ≡ x → SoundFor b (open_answer x st n w).store × Agrees (query n on off) (open_answer x st n w).out (plain_answer query_reply w)
  open_ok n on off w true e = (h, inl (record { reply = refl; visits = le_refl w.visits }))
  open_ok n on off w false e = (h, inr (record { reply = refl; ceiling = refl; needed = nleb→lt w.visits n (≡→T (not (leb w.visits n)) (ap not e)) }))

  reading_ok : (n : ℕ) (on off : List Literal) (os : Reading) (x : Bool) → SoundFor b (learning_reading x b st n on os).store × Agrees (query n on off) (learning_reading x b st n on os).out (plain_reading x b on os)
  reading_ok n on off os true =
      search_agrees (query n on off) n refl (refused 34) refl (bound (quantifiers b.prefix)) (start_node on b.prefix) (starts_full b f (start_node on b.prefix) (start_length on b.prefix)) query_reply
  reading_ok n on off os false = let w = open_search b.prefix b.clauses os (quantifiers b.prefix) [] in open_ok n on off w (leb w.visits n) refl

  query_ok : (n : ℕ) (o : Option ℕ) (on off : List Literal) → SoundFor b (learning_query o b st n on off).store × Agrees (query n on off) (learning_query o b st n on off).out (plain_query o b on off)
  query_ok n (some k) on off = (h, inl (record { reply = refl; visits = le_refl 0 }))
  query_ok n none on off = reading_ok n on off (reading_of on off b.prefix) (is_full (reading_of on off b.prefix))

  card_ok : (p : Bool) (n size : ℕ) → SoundFor b (learning_card p b st n size).store × Agrees (card_of p n size) (learning_card p b st n size).out (plain_card p b size)
  card_ok true n size = search_agrees (card n size) n refl (card_refused 34 (zero_table size)) refl (quantifiers b.prefix) [] (starts_empty b f) (card_reply_of true b.prefix size)
  card_ok false n size = search_agrees (keep_card n size) n refl (card_refused 34 (zero_table size)) refl (quantifiers b.prefix) [] (starts_empty b f) (card_reply_of false b.prefix size)

  -- the closest reading from the card of either run
  closest_ok : (n size : ℕ) (on off : List Literal) (o : Option ℕ) → SoundFor b (learning_closest o b st n size on).store × Agrees (closest n size on off) (learning_closest o b st n size on).out (plain_closest o b size on)
  closest_ok n size on off (some k) = (h, inl (record { reply = refl; visits = le_refl 0 }))
  closest_ok n size on off none = let w = card_ok true n size in (w.0, from (learning_card true b st n size).out (plain_card true b size) w.1)
    where
      t : Node
      t = start_node on b.prefix

      from : (l p : Answer) → Agrees (card n size) l p → Agrees (closest n size on off) (closest_answer size t l) (closest_answer size t p)
      from l p (inl a) = inl (record { reply = ap (from_card size t) a.reply; visits = a.visits })
      from l p (inr w) = inr (record { reply = ap (from_card size t) w.reply; ceiling = w.ceiling; needed = w.needed })

none_stored : (b : Formula) → SoundFor b empty_store
none_stored b = sound_empty b.limits b.prefix b.clauses

-- one call from a reached state: a reached state, the plain run's next formula, and replies that agree
pub record CallOk (x : State) (c : Call) (r : Stepped) : Type 0 where
  pub next : Reached r.state
  pub same_formula : r.state.formula ≡ next_formula x.formula c
  pub agree : Agrees c r.out (plain_call x.formula c)

pub call_ok : (x : State) → Reached x → (c : Call) → CallOk x c (guarded true x c)
call_ok x h (rule ls) =
    record {
      next = record { formula_ok = next_formula_lem x.formula h.formula_ok (rule ls); sound = rule_keeps_sound x.formula ls x.store h.sound (rule_fault x.formula ls) };
      same_formula = refl;
      agree = inl (record { reply = refl; visits = le_refl 0 });
    }
call_ok x h (query n on off) =
    let w = query_ok x.formula h.formula_ok x.store h.sound n (query_fault x.formula [] (on ++ off)) on off in
    record { next = record { formula_ok = h.formula_ok; sound = w.0 }; same_formula = refl; agree = w.1 }
call_ok x h (card n size) =
    let w = card_ok x.formula h.formula_ok x.store h.sound true n size in
    record { next = record { formula_ok = h.formula_ok; sound = w.0 }; same_formula = refl; agree = w.1 }
call_ok x h (keep_card n size) =
    let w = card_ok x.formula h.formula_ok x.store h.sound false n size in
    record { next = record { formula_ok = h.formula_ok; sound = w.0 }; same_formula = refl; agree = w.1 }
call_ok x h (closest n size on off) =
    let w = closest_ok x.formula h.formula_ok x.store h.sound n size on off (closest_fault x.formula on off) in
    record { next = record { formula_ok = h.formula_ok; sound = w.0 }; same_formula = refl; agree = w.1 }
call_ok x h withdraw =
    record {
      next = record { formula_ok = next_formula_lem x.formula h.formula_ok withdraw; sound = withdraw_keeps_sound x.formula x.store h.sound (withdraw_fault x.formula) };
      same_formula = refl;
      agree = inl (record { reply = refl; visits = le_refl 0 });
    }
call_ok x h (one ls) =
    record {
      next = record { formula_ok = next_formula_lem x.formula h.formula_ok (one ls); sound = one_keeps_sound x.formula ls x.store h.sound (one_fault x.formula ls) };
      same_formula = refl;
      agree = inl (record { reply = refl; visits = le_refl 0 });
    }
call_ok x h forget =
    record { next = record { formula_ok = h.formula_ok; sound = none_stored x.formula }; same_formula = refl; agree = inl (record { reply = refl; visits = le_refl 0 }) }

pub step_ok : (x : State) → Reached x → (c : Call) → CallOk x c (step x c)
step_ok x h c = subst (λ (g : Bool). CallOk x c (guarded g x c)) (sym (reached_formed x h)) (call_ok x h c)

pub run_agrees : (cs : List Call) (x : State) → Reached x → (b : Formula) → x.formula ≡ b → AllAgree cs (learning_run x cs) (plain_run b cs)
run_agrees [] x h b e = tt
run_agrees (c ∷ cs) x h b e =
    let w = step_ok x h c in (
      subst (λ (y : Formula). Agrees c (step x c).out (plain_call y c)) e w.agree,
      run_agrees cs (step x c).state w.next (next_formula b c) (w.same_formula ∙ ap (λ (y : Formula). next_formula y c) e),
    )

pub fresh_reached : (b : Formula) → formula_is_ok b ≡ true → Reached (fresh b)
fresh_reached b e = record { formula_ok = formula_facts b e; sound = none_stored b }

-- "A call whose plain walk fits the ceiling is therefore always finished, in any list."
pub fits_agree : (c : Call) (n : ℕ) → ceiling_of c ≡ some n → (l p : Answer) → Agrees c l p → p.visits ≤ n → Agree l p
fits_agree c n top l p (inl a) le = a
fits_agree c n top l p (inr w) le = let t = w.ceiling in let e : l.visits ≡ n = cc in absurd (omega (arith, e, le, w.needed))
