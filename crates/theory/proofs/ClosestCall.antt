-- The call for the closest reading: it works from the swap card, and at a reached state its answer is right whatever the store holds.
use Prim.Native.Nat.{ℕ}
use mathlib.Core.Path.{◌≡◌, refl, sym, ap, ◌∙◌, subst}
use mathlib.Core.Logic.{◌⊎◌, inl, inr}
use mathlib.Core.Bool.{Bool, true, false, cond, not, false≢true}
use mathlib.Core.List.{List, [], ◌∷◌, ◌++◌}
use mathlib.Core.Option.{Option, none, some}
use Rattle.qbf.specs.Formula.{Clause, Formula, Literal, Node, Prefix, Quantifier, exists, forall, free, is_free, quantifiers}
use Rattle.qbf.specs.Truth.{free_variables, select}
use Rattle.qbf.specs.Card.{zero_table}
use Rattle.qbf.specs.Open.{Reading, completes, is_full, names, reading_of, recorded}
use Rattle.qbf.specs.Closest.{ClosestOwed, Found, HasTruth, closest_in}
use Rattle.qbf.specs.Calls.{Answer, Reply, State, card, card_refused, card_reply, closest, closest_answer, closest_fault, done, found, found_reply, from_card, given, guarded, keep, learning_card, learning_closest, lines, query_fault, refused, start_node, step, swap, unsettled, well_formed, ◌or_else◌}
use Rattle.qbf.specs.Demands.{CardOwed, CardShown, ClosestReplyOwed}
use Rattle.theory.proofs.AcceptedRule.{some_none}
use Rattle.theory.proofs.Starting.{start_length}
use Rattle.theory.proofs.Runs.{Reached, reached_formed}
use Rattle.theory.proofs.Refusals.{closest_eight}
use Rattle.theory.proofs.Topmost.{tops}
use Rattle.theory.proofs.Cards.{card_owed, card_reply_lem}
use Rattle.theory.proofs.Closest.{card_closest, closest_one}

-- ---- the reading
-- a full reading is completed by its start node
pub start_completes : (on off : List Literal) (ds : Prefix) → is_full (reading_of on off ds) ≡ true → completes (reading_of on off ds) (start_node on ds) ≡ true
start_completes on off [] e = refl
start_completes on off (d ∷ ds) e = by d.quantifier e (start_completes on off ds)
  where
    rest : Reading
    rest = reading_of on off ds

    head : (x y : Bool) → is_full (recorded x y ∷ rest) ≡ true → (is_full rest ≡ true → completes rest (start_node on ds) ≡ true) → completes (recorded x y ∷ rest) (x ∷ start_node on ds) ≡ true
    head true y f ih = ih f
    head false true f ih = ih f
    head false false f ih = absurd (false≢true f)

    by : (κ : Quantifier) → is_full (cond (is_free κ) (recorded (names on d.number) (names off d.number) ∷ rest) []) ≡ true → (is_full rest ≡ true → completes rest (start_node on ds) ≡ true)
        → completes (cond (is_free κ) (recorded (names on d.number) (names off d.number) ∷ rest) []) (cond (is_free κ) (names on d.number ∷ start_node on ds) []) ≡ true
    by free f ih = head (names on d.number) (names off d.number) f ih
    by exists f ih = refl
    by forall f ih = refl

-- no fault: the reading is full
pub closest_full : (b : Formula) (on off : List Literal) → closest_fault b on off ≡ none → is_full (reading_of on off b.prefix) ≡ true
closest_full b on off = by (query_fault b [] (on ++ off)) (is_full (reading_of on off b.prefix))
  where
    by : (o : Option ℕ) (x : Bool) → (o or_else given (not x) 8) ≡ none → x ≡ true
    by (some n) x e = absurd (some_none e)
    by none true e = refl
    by none false e = absurd (some_none e)

-- ---- "It works from a card made under a ceiling, whose count and visits it also returns and whose lines the table then holds."
-- On any well-formed state: the state after it is the card's, and its answer is made of the card's.
pub from_its_card : (x : State) → well_formed x ≡ true → (n size : ℕ) (on off : List Literal) → closest_fault x.formula on off ≡ none
    → ((step x (closest n size on off)).state ≡ (step x (card n size)).state)
    × ((step x (closest n size on off)).out ≡ closest_answer size (start_node on x.formula.prefix) (step x (card n size)).out)
from_its_card x w n size on off e = subst From (sym w) (made (closest_fault x.formula on off) e)
  where
    From : Bool → Type 0
    From g = ((guarded g x (closest n size on off)).state ≡ (guarded g x (card n size)).state)
        × ((guarded g x (closest n size on off)).out ≡ closest_answer size (start_node on x.formula.prefix) (guarded g x (card n size)).out)

    made : (o : Option ℕ) → o ≡ none
        → (◌≡◌ {A = State} (record { formula = x.formula; store = (learning_closest o x.formula x.store n size on).store }) (guarded true x (card n size)).state)
        × ((learning_closest o x.formula x.store n size on).out ≡ closest_answer size (start_node on x.formula.prefix) (guarded true x (card n size)).out)
    made none q = (refl, refl)
    made (some k) q = absurd (some_none q)

-- ---- at a reached state
module _ (x : State) (h : Reached x) (n size : ℕ) (on off : List Literal) where
  abbrev D : Prefix
  D = x.formula.prefix

  abbrev R : List Clause
  R = x.formula.clauses

  abbrev t : Node
  t = start_node on D

  abbrev os : Reading
  os = reading_of on off D

  card_right : CardOwed true D R size (learning_card true x.formula x.store n size).out.reply
  card_right = subst (λ (g : Bool). CardOwed true D R size (guarded g x (card n size)).out.reply) (reached_formed x h) (card_owed x h true n size)

  module _ (whole : is_full os ≡ true) where
    line_owed : (ls : List Node) (tb : List ℕ) → CardShown true D R size ls tb → (o : Option Found) → ClosestOwed (HasTruth true D R) t o → ClosestReplyOwed D R os t size (found_reply size ls tb o)
    line_owed ls tb c none w = inr (inr (inr (record { number = refl; zeros = refl; never = λ u l z. w u (l ∙ sym (start_length on D)) z })))
    line_owed ls tb c (some r) w = record { whole = whole; given = start_completes on off D whole; card = c; right = w }

    reply_owed : (r : Reply) → CardOwed true D R size r → ClosestReplyOwed D R os t size (from_card size t r)
    reply_owed done w = absurd w
    reply_owed (refused k) w = absurd w
    reply_owed swap w = absurd w
    reply_owed keep w = absurd w
    reply_owed unsettled w = absurd w
    reply_owed (lines ls tb) w = line_owed ls tb w (closest_in ls t) (card_closest true D R ls w.right t (start_length on D))
    reply_owed (card_refused k tb) (inl full) = inr (inr (inl full))
    reply_owed (card_refused k tb) (inr over) = inr (inl over)
    reply_owed (found ls tb r) w = absurd w

  pub closest_right : ClosestReplyOwed D R os t size (step x (closest n size on off)).out.reply
  closest_right = subst (λ (g : Bool). ClosestReplyOwed D R os t size (guarded g x (closest n size on off)).out.reply) (sym (reached_formed x h)) (by (closest_fault x.formula on off) refl)
    where
      by : (o : Option ℕ) → closest_fault x.formula on off ≡ o → ClosestReplyOwed D R os t size (learning_closest o x.formula x.store n size on).out.reply
      by (some k) e = inl (record { number = closest_eight x.formula on off k e; zeros = refl })
      by none e = reply_owed (closest_full x.formula on off e) (learning_card true x.formula x.store n size).out.reply card_right

  -- the reply by truth: made of the right lines, or 34 for a search that stopped
  pub closest_reply : closest_fault x.formula on off ≡ none
      → ((step x (closest n size on off)).out.reply ≡ from_card size t (card_reply (free_variables D) size (select true (tops D R (quantifiers D) []))))
      ⊎ ((step x (closest n size on off)).out.reply ≡ card_refused 34 (zero_table size))
  closest_reply e = by (card_reply_lem x h true n size)
    where
      made : (step x (closest n size on off)).out.reply ≡ from_card size t (step x (card n size)).out.reply
      made = ap (λ (a : Answer). a.reply) (from_its_card x (reached_formed x h) n size on off e).1

      by : ((step x (card n size)).out.reply ≡ card_reply (free_variables D) size (select true (tops D R (quantifiers D) []))) ⊎ ((step x (card n size)).out.reply ≡ card_refused 34 (zero_table size))
          → ((step x (closest n size on off)).out.reply ≡ from_card size t (card_reply (free_variables D) size (select true (tops D R (quantifiers D) [])))) ⊎ ((step x (closest n size on off)).out.reply ≡ card_refused 34 (zero_table size))
      by (inl q) = inl (made ∙ ap (from_card size t) q)
      by (inr q) = inr (made ∙ ap (from_card size t) q)

-- "On a reached state, where that card is finished, the store has no influence on the reading and the number": two reached states with one
-- formula, any stores, ceilings and tables
pub closest_no_store : (x y : State) → Reached x → Reached y → y.formula ≡ x.formula → (n n' size size' : ℕ) (on off : List Literal) (ls ks : List Node) (tb tc : List ℕ) (r q : Found)
    → (step x (closest n size on off)).out.reply ≡ found ls tb r → (step y (closest n' size' on off)).out.reply ≡ found ks tc q → r ≡ q
closest_no_store x y h g same n n' size size' on off ls ks tb tc r q e d = closest_one (HasTruth true x.formula.prefix x.formula.clauses) (start_node on x.formula.prefix) r q one.right two.right
  where
    Owed : Formula → ℕ → Reply → Type 0
    Owed b = ClosestReplyOwed b.prefix b.clauses (reading_of on off b.prefix) (start_node on b.prefix)

    one : Owed x.formula size (found ls tb r)
    one = subst (Owed x.formula size) e (closest_right x h n size on off)

    two : Owed x.formula size' (found ks tc q)
    two = subst (λ (b : Formula). Owed b size' (found ks tc q)) same (subst (Owed y.formula size') d (closest_right y g n' size' on off))

-- the whole reply, 21 and 35 too, with one table: the store decides only whether the search stops
pub replies_no_store : (x y : State) → Reached x → Reached y → y.formula ≡ x.formula → (n n' size : ℕ) (on off : List Literal) → closest_fault x.formula on off ≡ none
    → ((step x (closest n size on off)).out.reply ≡ card_refused 34 (zero_table size) → ⊥) → ((step y (closest n' size on off)).out.reply ≡ card_refused 34 (zero_table size) → ⊥)
    → (step x (closest n size on off)).out.reply ≡ (step y (closest n' size on off)).out.reply
replies_no_store x y h g same n n' size on off e p q = by (closest_reply x h n size on off e) (closest_reply y g n' size on off (ap (λ (b : Formula). closest_fault b on off) same ∙ e))
  where
    right : Formula → Reply
    right b = from_card size (start_node on b.prefix) (card_reply (free_variables b.prefix) size (select true (tops b.prefix b.clauses (quantifiers b.prefix) [])))

    by : ((step x (closest n size on off)).out.reply ≡ right x.formula) ⊎ ((step x (closest n size on off)).out.reply ≡ card_refused 34 (zero_table size))
        → ((step y (closest n' size on off)).out.reply ≡ right y.formula) ⊎ ((step y (closest n' size on off)).out.reply ≡ card_refused 34 (zero_table size))
        → (step x (closest n size on off)).out.reply ≡ (step y (closest n' size on off)).out.reply
    by (inr z) w = absurd (p z)
    by (inl z) (inr w) = absurd (q w)
    by (inl z) (inl w) = z ∙ sym (w ∙ ap right same)
