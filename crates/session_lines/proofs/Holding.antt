-- The card answered last is one of the rules that stand, after every list of lines.
use Prim.Native.Nat.{ℕ, suc}
use mathlib.Core.Path.{◌≡◌, refl, sym, subst}
use mathlib.Core.Bool.{Bool, true, false}
use mathlib.Core.List.{List, [], ◌∷◌}
use mathlib.Core.Option.{Option, none, some}
use Rattle.qbf.specs.Formula.{Formula, Literal, Node}
use Rattle.qbf.specs.Calls.{Call, rule, forget, withdraw, Reply, done, refused, swap, keep, unsettled, lines, card_refused, found, query, card, keep_card, one, closest, State, Stepped, step, guarded, formula_is_ok, rule_fault, rule_reply, with_rule, one_fault, with_one, closest_fault, found_reply, from_card, learning_card, learning_closest, start_node, withdraw_fault, without_last}
use Rattle.qbf.specs.Closest.{Found, closest_in}
use Rattle.qbf.specs.Runs.{fresh}
use Rattle.qbf.specs.Demands.{CardOwed}
use Rattle.theory.proofs.Runs.{Reached, fresh_reached, reached_formed, call_ok}
use Rattle.theory.proofs.Cards.{card_owed}
use Rattle.layout.specs.Words.{Bytes}
use Rattle.sessions.specs.Session.{Request, call, write, page, request_of, Card, card_of, card_after_rule, card_after, turn_of}
use Rattle.session_lines.specs.Holds.{Holds, after}

-- ---- a call
-- a rule that is accepted leaves no card, one that is refused changes no rule
rule_holds : (b : Formula) (ls : List Literal) (z : Option Card) → Holds b z → (o : Option ℕ) → Holds (with_rule o b ls) (card_after_rule (rule_reply o) z)
rule_holds b ls z h none = tt
rule_holds b ls z h (some n) = h

-- an exactly-one form likewise
one_holds : (b : Formula) (ls : List Literal) (z : Option Card) → Holds b z → (o : Option ℕ) → Holds (with_one o b ls) (card_after_rule (rule_reply o) z)
one_holds b ls z h none = tt
one_holds b ls z h (some n) = h

-- and so does a withdrawal
withdraw_holds : (b : Formula) (z : Option Card) → Holds b z → (o : Option ℕ) → Holds (without_last o b) (card_after_rule (rule_reply o) z)
withdraw_holds b z h none = tt
withdraw_holds b z h (some n) = h

card_holds : (p : Bool) (b : Formula) (size : ℕ) (r : Reply) → CardOwed p b.prefix b.clauses size r → Holds b (card_of b.prefix r)
card_holds p b size (lines ls tb) h = record { verdict = p; size = size; them = ls; shown = h; lines = refl; free = refl }
card_holds p b size (card_refused n tb) h = tt
card_holds p b size done h = absurd h
card_holds p b size (refused n) h = absurd h
card_holds p b size swap h = absurd h
card_holds p b size keep h = absurd h
card_holds p b size unsettled h = absurd h
card_holds p b size (found ls tb r) h = absurd h

-- a closest reading leaves the card that it was found on
closest_holds : (b : Formula) (size : ℕ) (t : Node) (r : Reply) → CardOwed true b.prefix b.clauses size r → Holds b (card_of b.prefix (from_card size t r))
closest_holds b size t (lines ls tb) h = by (closest_in ls t)
  where
    by : (o : Option Found) → Holds b (card_of b.prefix (found_reply size ls tb o))
    by none = tt
    by (some f) = record { verdict = true; size = size; them = ls; shown = h; lines = refl; free = refl }
closest_holds b size t (card_refused n tb) h = tt
closest_holds b size t done h = absurd h
closest_holds b size t (refused n) h = absurd h
closest_holds b size t swap h = absurd h
closest_holds b size t keep h = absurd h
closest_holds b size t unsettled h = absurd h
closest_holds b size t (found ls tb r) h = absurd h

module _ (x : State) (reached : Reached x) (z : Option Card) (h : Holds x.formula z) where
  abbrev Kept : Call → Stepped → Type 0
  Kept c r = Reached r.state × Holds r.state.formula (card_after x.formula.prefix c r.out.reply z)

  stepped : step x ≡ guarded true x
  stepped = λ i. guarded (reached_formed x reached i) x

  as_step : (c : Call) → Kept c (guarded true x c) → Kept c (step x c)
  as_step c w = subst (λ (f : Call → Stepped). Kept c (f c)) (sym stepped) w

  call_holds : (c : Call) → Kept c (step x c)
  call_holds (rule ls) = as_step (rule ls) ((call_ok x reached (rule ls)).next, rule_holds x.formula ls z h (rule_fault x.formula ls))
  call_holds (query top on off) = as_step (query top on off) ((call_ok x reached (query top on off)).next, h)
  call_holds (card top size) =
      as_step (card top size)
      ((call_ok x reached (card top size)).next, card_holds true x.formula size (guarded true x (card top size)).out.reply (subst (λ (f : Call → Stepped). CardOwed true x.formula.prefix x.formula.clauses size (f (card top size)).out.reply) stepped (card_owed x reached true top size)))
  call_holds (keep_card top size) =
      as_step (keep_card top size)
      ((call_ok x reached (keep_card top size)).next, card_holds false x.formula size (guarded true x (keep_card top size)).out.reply (subst (λ (f : Call → Stepped). CardOwed false x.formula.prefix x.formula.clauses size (f (keep_card top size)).out.reply) stepped (card_owed x reached false top size)))
  call_holds (one ls) = as_step (one ls) ((call_ok x reached (one ls)).next, one_holds x.formula ls z h (one_fault x.formula ls))
  call_holds (closest top size on off) = as_step (closest top size on off) ((call_ok x reached (closest top size on off)).next, by (closest_fault x.formula on off))
    where
      by : (o : Option ℕ) → Holds x.formula (card_of x.formula.prefix (learning_closest o x.formula x.store top size on).out.reply)
      by (some n) = tt
      by none =
          closest_holds x.formula size (start_node on x.formula.prefix) (learning_card true x.formula x.store top size).out.reply
          (subst (λ (f : Call → Stepped). CardOwed true x.formula.prefix x.formula.clauses size (f (card top size)).out.reply) stepped (card_owed x reached true top size))
  call_holds forget = as_step forget ((call_ok x reached forget).next, h)
  call_holds withdraw = as_step withdraw ((call_ok x reached withdraw).next, withdraw_holds x.formula z h (withdraw_fault x.formula))

  -- ---- a line
  turn_holds : (n : ℕ) (q : Option Request) → Reached (turn_of x z n q).state × Holds (turn_of x z n q).state.formula (turn_of x z n q).shown
  turn_holds n none = (reached, h)
  turn_holds n (some (call c)) = call_holds c
  turn_holds n (some (write size)) = (reached, h)
  turn_holds n (some (page k)) = (reached, h)

lines_hold : (ls : List Bytes) (n : ℕ) (x : State) → Reached x → (z : Option Card) → Holds x.formula z → Holds (after n x z ls).state.formula (after n x z ls).shown
lines_hold [] n x reached z h = h
lines_hold (l ∷ ls) n x reached z h =
    let w = turn_holds x reached z h n (request_of l) in
    lines_hold ls (suc n) (turn_of x z n (request_of l)).state w.0 (turn_of x z n (request_of l)).shown w.1

-- From a freshly opened book, where no card has been answered yet: whatever lines are served, a page that is printed after them is one of the card
-- of the rules that stand then.
pub page_holds : (b : Formula) → formula_is_ok b ≡ true → (n : ℕ) (ls : List Bytes) → Holds (after n (fresh b) none ls).state.formula (after n (fresh b) none ls).shown
page_holds b ok n ls = lines_hold ls n (fresh b) (fresh_reached b ok) none tt
