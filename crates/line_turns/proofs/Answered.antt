-- The text of an answer that is no card, from what a call's contract says of it in numbers.
use Prim.Native.Nat.{ℕ, zero, suc}
use native.Mathlib.Omega.{arith}
use mathlib.Core.Path.{◌≡◌, refl, ap, ◌∙◌}
use mathlib.Core.Bool.{Bool, true, false}
use mathlib.Core.List.{List, [], ◌++◌}
use mathlib.Core.Option.{Option, none, some}
use lib.Dec.{eqb, leb}
use lib.IntN.{ℤ}
use lib.ListN.{length}
use Rattle.std.specs.Prelude.{Result, Ok, Err}
use Rattle.qbf.specs.Formula.{Prefix, Literal, quantifiers}
use Rattle.qbf.specs.Truth.{Outcome, decided, mixed, outline, bound}
use Rattle.qbf.specs.Plain.{PlainResult}
use Rattle.qbf.specs.Open.{Reading, reading_of, is_full, open_search}
use Rattle.qbf.specs.Ceiling.{Attempt, finished, stopped, search_within}
use Rattle.qbf.specs.Calls.{Call, rule, one, query, forget, withdraw, given, Reply, done, refused, swap, keep, unsettled, lines, card_refused, found, Answer, answer, rule_fault, one_fault, rule_reply, query_fault, start_node, query_reply, open_answer, attempt_answer, learning_reading, learning_query, State as Read, guarded, well_formed}
use Rattle.qbf.specs.Demands.{refusal_of}
use Rattle.layout.specs.Words.{Bytes}
use Rattle.layout.specs.Output.{refusal_text}
use Rattle.layout.specs.Session.{done_text, refused_text, answer_text, search_refusal_text}
use Rattle.state_parts.specs.Parts.{read_at}
use Rattle.serving.specs.Serves.{Said, said_reply, said_of, number, out_of}
use Rattle.serving.proofs.Numbered.{Numbered, out_numbered}
use Rattle.refusal.specs.declared.Refusal.{Refusal}
use Rattle.rule_calls.specs.ServesAt.{ServesAt, change_said}
use Rattle.replies.specs.Replies.{ruling_said}
use Rattle.replies.specs.declared.Ruling.{Ruling}
use Rattle.replies.specs.declared.Ruling.TheVariants as ruling
use Rattle.answer_text.specs.Texts.{change_text, ruling_text}
use Rattle.card_answers.specs.Lines.{prefix_read}
use Rattle.line_turns.specs.Line.{CallServedAt}

-- ---- rule, withdraw and forget
-- done, or refused with a number
abbrev pub Changing : Reply → Type 0
Changing done = Unit {0}
Changing (refused zero) = ⊥
Changing (refused (suc n)) = Unit {0}
Changing swap = ⊥
Changing keep = ⊥
Changing unsettled = ⊥
Changing (lines ls tb) = ⊥
Changing (card_refused n tb) = ⊥
Changing (found ls tb r) = ⊥

fault_changing : (o : Option ℕ) → Numbered (refusal_of (rule_reply o)) → Changing (rule_reply o)
fault_changing none h = tt
fault_changing (some zero) h = absurd h
fault_changing (some (suc n)) h = tt

pub rule_changing : (ls : List Literal) (o : Option Read) → Changing (out_of o (rule ls)).reply
rule_changing ls none = tt
rule_changing ls (some y) = by (well_formed y) (out_numbered (some y) (rule ls))
  where
    by : (g : Bool) → Numbered (refusal_of (guarded g y (rule ls)).out.reply) → Changing (guarded g y (rule ls)).out.reply
    by true h = fault_changing (rule_fault y.formula ls) h
    by false h = tt

pub one_changing : (ls : List Literal) (o : Option Read) → Changing (out_of o (one ls)).reply
one_changing ls none = tt
one_changing ls (some y) = by (well_formed y) (out_numbered (some y) (one ls))
  where
    by : (g : Bool) → Numbered (refusal_of (guarded g y (one ls)).out.reply) → Changing (guarded g y (one ls)).out.reply
    by true h = fault_changing (one_fault y.formula ls) h
    by false h = tt

pub withdraw_changing : (o : Option Read) → Changing (out_of o withdraw).reply
withdraw_changing none = tt
withdraw_changing (some y) = by (well_formed y)
  where
    none_stands : (b : Bool) → Changing (rule_reply (given b 32))
    none_stands true = tt
    none_stands false = tt

    by : (g : Bool) → Changing (guarded g y withdraw).out.reply
    by true = none_stands (eqb (length y.formula.clauses) 0)
    by false = tt

pub forget_changing : (o : Option Read) → Changing (out_of o forget).reply
forget_changing none = tt
forget_changing (some y) = by (well_formed y)
  where
    by : (g : Bool) → Changing (guarded g y forget).out.reply
    by true = tt
    by false = tt

-- a call that searches nothing tells no visits
abbrev pub Searchless : Call → Type 0
Searchless c = (m line k : ℕ) → refusal_text m line ≡ refused_text c m line k

change_text_lem : (D : Prefix) (c : Call) (n : ℕ) (a : Answer) → Searchless c → Changing a.reply → change_text (done_text c) (number (said_of a).refusal) n ≡ answer_text D c n a
unfolding answer_text
change_text_lem D c n a plain h = by a.reply a.visits h
  where
    by : (r : Reply) (k : ℕ) → Changing r → change_text (done_text c) (number (said_reply r k).refusal) n ≡ answer_text D c n (answer r k)
    by done k h = refl
    by (refused zero) k h = absurd h
    by (refused (suc m)) k h = plain (suc m) n k
    by swap k h = absurd h
    by keep k h = absurd h
    by unsettled k h = absurd h
    by (lines ls tb) k h = absurd h
    by (card_refused m tb) k h = absurd h
    by (found ls tb r) k h = absurd h

-- a call that is done or refused, from its contract and the text
pub change_served : (cells : List ℕ) (literals : List ℤ) (c : Call) (n : ℕ) (ch : Result Unit Refusal) (cells' : List ℕ) (literals' : List ℤ) (t : Bytes) → Searchless c → ((o : Option Read) → Changing (out_of o c).reply)
    → ServesAt cells literals c (change_said ch) cells' literals' → t ≡ change_text (done_text c) (number (change_said ch).refusal) n → CallServedAt cells literals (some c) n t cells' literals'
change_served cells literals c n ch cells' literals' t plain h s e =
    record {
      text =
          e ∙ ap (λ (q : Said). change_text (done_text c) (number q.refusal) n) s.answered
          ∙ change_text_lem (prefix_read (read_at cells literals)) c n (out_of (read_at cells literals) c) plain (h (read_at cells literals));
      next = s.next;
      kept = s.kept;
    }

-- ---- query
abbrev Asking : Reply → Type 0
Asking done = ⊥
Asking (refused n) = Unit {0}
Asking swap = Unit {0}
Asking keep = Unit {0}
Asking unsettled = Unit {0}
Asking (lines ls tb) = ⊥
Asking (card_refused n tb) = ⊥
Asking (found ls tb r) = ⊥

query_asking : (top : ℕ) (on off : List Literal) (o : Option Read) → Asking (out_of o (query top on off)).reply
query_asking top on off none = tt
query_asking top on off (some y) = by (well_formed y)
  where
    verdict : (o : Outcome (Unit {0})) → Asking (query_reply o)
    verdict (decided true e) = tt
    verdict (decided false e) = tt
    verdict (mixed ds) = tt

    by_end : (t : Attempt) → Asking (attempt_answer (refused 34) top query_reply t).out.reply
    by_end (finished o) = verdict (outline o.outcome)
    by_end (stopped st) = tt

    by_fit : (t : Bool) (w : PlainResult) → Asking (open_answer t y.store top w).out.reply
    by_fit true w = verdict w.outcome
    by_fit false w = tt

    read : (full : Bool) (os : Reading) → Asking (learning_reading full y.formula y.store top on os).out.reply
    read true os = by_end (search_within y.formula.limits y.formula.prefix y.formula.clauses top (bound (quantifiers y.formula.prefix)) (start_node on y.formula.prefix) y.store)
    read false os =
        let w = open_search y.formula.prefix y.formula.clauses os (quantifiers y.formula.prefix) [] in
        by_fit (leb w.visits top) w

    asked : (o : Option ℕ) → Asking (learning_query o y.formula y.store top on off).out.reply
    asked none = read (is_full (reading_of on off y.formula.prefix)) (reading_of on off y.formula.prefix)
    asked (some n) = tt

    by : (g : Bool) → Asking (guarded g y (query top on off)).out.reply
    by true = asked (query_fault y.formula [] (on ++ off))
    by false = tt

query_text_lem : (D : Prefix) (top : ℕ) (on off : List Literal) (n : ℕ) (q : Result Ruling Refusal) (k : ℕ) (a : Answer) → Asking a.reply → ruling_said q k ≡ said_of a → ruling_text q k n ≡ answer_text D (query top on off) n a
unfolding answer_text
query_text_lem D top on off n q k a h e = by q a.reply a.visits h e
  where
    by : (q : Result Ruling Refusal) (r : Reply) (v : ℕ) → Asking r → ruling_said q k ≡ said_reply r v → ruling_text q k n ≡ answer_text D (query top on off) n (answer r v)
    by q done v h e = absurd h
    by q (lines ns tb) v h e = absurd h
    by q (card_refused m tb) v h e = absurd h
    by q (found ns tb r) v h e = absurd h
    by (Ok ruling.Swap) swap v h e = ap (λ (s : Said). ruling_text (Ok ruling.Swap) s.visits n) e
    by (Ok ruling.Keep) keep v h e = ap (λ (s : Said). ruling_text (Ok ruling.Keep) s.visits n) e
    by (Err m) (refused p) v h e = ap (λ (s : Said). search_refusal_text (number s.refusal) n s.visits) e
    by (Ok ruling.Unsettled) unsettled v h e = ap (λ (s : Said). ruling_text (Ok ruling.Unsettled) s.visits n) e
    by (Ok ruling.Swap) unsettled v h e = absurd (omega (arith, ap (λ (s : Said). s.verdict) e))
    by (Ok ruling.Keep) unsettled v h e = absurd (omega (arith, ap (λ (s : Said). s.verdict) e))
    by (Ok ruling.Unsettled) swap v h e = absurd (omega (arith, ap (λ (s : Said). s.verdict) e))
    by (Ok ruling.Unsettled) keep v h e = absurd (omega (arith, ap (λ (s : Said). s.verdict) e))
    by (Ok ruling.Unsettled) (refused p) v h e = absurd (omega (arith, ap (λ (s : Said). s.verdict) e))
    by (Err m) unsettled v h e = absurd (omega (arith, ap (λ (s : Said). s.verdict) e))
    by (Ok ruling.Swap) keep v h e = absurd (omega (arith, ap (λ (s : Said). s.verdict) e))
    by (Ok ruling.Swap) (refused p) v h e = absurd (omega (arith, ap (λ (s : Said). s.verdict) e))
    by (Ok ruling.Keep) swap v h e = absurd (omega (arith, ap (λ (s : Said). s.verdict) e))
    by (Ok ruling.Keep) (refused p) v h e = absurd (omega (arith, ap (λ (s : Said). s.verdict) e))
    by (Err m) swap v h e = absurd (omega (arith, ap (λ (s : Said). s.verdict) e))
    by (Err m) keep v h e = absurd (omega (arith, ap (λ (s : Said). s.verdict) e))

pub query_answered : (top : ℕ) (cells : List ℕ) (literals : List ℤ) (on off : List Literal) (n : ℕ) (q : Result Ruling Refusal) (k : ℕ) (cells' : List ℕ) (literals' : List ℤ) (t : Bytes)
    → ServesAt cells literals (query top on off) (ruling_said q k) cells' literals' → t ≡ ruling_text q k n → CallServedAt cells literals (some (query top on off)) n t cells' literals'
query_answered top cells literals on off n q k cells' literals' t s e =
    record {
      text =
          e
          ∙ query_text_lem (prefix_read (read_at cells literals)) top on off n q k (out_of (read_at cells literals) (query top on off)) (query_asking top on off (read_at cells literals)) s.answered;
      next = s.next;
      kept = s.kept;
    }
