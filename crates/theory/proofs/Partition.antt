-- Both cards of a formula together: each reading on exactly one line, and the sum of the readings covered.
use Prim.Native.Nat.{ℕ, zero, suc, ◌+◌, ◌*◌, ◌-◌, ◌^◌, ◌≤◌}
use native.Mathlib.Nat.{le_of_suc-le-suc}
use native.Mathlib.Omega.{arith}
use mathlib.Core.Path.{◌≡◌, refl, sym, ap, ◌∙◌, subst}
use mathlib.Core.Logic.{◌⊎◌, inl, inr}
use mathlib.Core.Bool.{Bool, true, false, cond, not, beq, true≢false, false≢true}
use mathlib.Core.List.{List, [], ◌∷◌, ◌++◌, map}
use mathlib.Core.Option.{Option, none, some}
use lib.ListN.{length, length-append, length-map}
use lib.Dec.{leb}
use Rattle.qbf.specs.Formula.{Clause, Formula, Node, Prefix, Quantifier, ◌▹◌, all, free, quantifiers}
use Rattle.qbf.specs.Truth.{DecidedNode, free_count, free_variables, select, truth}
use Rattle.qbf.specs.Card.{Mem, lies_on, table_of, zero_table}
use Rattle.qbf.specs.Calls.{Call, Reply, State, card, card_of, closest, card_refused, card_reply, forget, formula_is_ok, keep_card, lines, next_formula, one, one_fault, query, rule, rule_fault, step, with_one, with_rule, withdraw, withdraw_fault, without_last}
use Rattle.qbf.specs.Runs.{after, fresh}
use Rattle.qbf.specs.Demands.{CardRight}
use Rattle.qbf.specs.Partition.{Partition, count_on, covered, is_refused, keeps_clauses, readings}
use Rattle.theory.proofs.Basics.{and_left, and_right, length-▹, dichotomy}
use Rattle.theory.proofs.Game.{Win}
use Rattle.theory.proofs.Search.{FreeFirst}
use Rattle.theory.proofs.WellFormed.{free_before}
use Rattle.theory.proofs.Runs.{CallOk, Reached, step_ok, fresh_reached}
use Rattle.theory.proofs.Topmost.{mark, tops, tops_ind, card_right, select_mem, rises_d_single, tops_rise}
use Rattle.theory.proofs.Cards.{card_reply_lem, after_reached}

double : (n : ℕ) → 2 ^ suc n ≡ 2 ^ n + 2 ^ n
double n = omega arith

-- ---- the sum
weigh : ℕ → List DecidedNode → ℕ
weigh f [] = 0
weigh f (d ∷ ds) = 2 ^ (f - length d.node) + weigh f ds

weigh_append : (f : ℕ) (xs ys : List DecidedNode) → weigh f (xs ++ ys) ≡ weigh f xs + weigh f ys
unfolding weigh
weigh_append f [] ys = omega arith
weigh_append f (x ∷ xs) ys = omega (arith, weigh_append f xs ys)

weigh_select : (f : ℕ) (ds : List DecidedNode) → covered f (select true ds) + covered f (select false ds) ≡ weigh f ds
unfolding weigh
weigh_select f [] = omega arith
weigh_select f (d ∷ ds) = by d.verdict (weigh_select f ds)
  where
    by : (x : Bool) → covered f (select true ds) + covered f (select false ds) ≡ weigh f ds
        → covered f (cond (beq true x) (d.node ∷ select true ds) (select true ds)) + covered f (cond (beq false x) (d.node ∷ select false ds) (select false ds)) ≡ 2 ^ (f - length d.node) + weigh f ds
    by true h = omega (arith, h)
    by false h = omega (arith, h)

module _ (D : Prefix) (R : List Clause) where
  tops_weigh : (ks : List Quantifier) (s : Node) → FreeFirst ks → (f : ℕ) → f ≡ length s + free_count ks → weigh f (tops D R ks s) ≡ 2 ^ free_count ks
  unfolding weigh
  tops_weigh = tops_ind D R (λ ks s ds. (f : ℕ) → f ≡ length s + free_count ks → weigh f ds ≡ 2 ^ free_count ks) one two
    where
      one : (v : Bool) (ks : List Quantifier) (s : Node) → Win D R v ks s → (f : ℕ) → f ≡ length s + free_count ks → weigh f (mark s v ∷ []) ≡ 2 ^ free_count ks
      one v ks s w f e = let g : f - length s ≡ free_count ks = omega (arith, e) in omega (arith, ap (λ (n : ℕ). 2 ^ n) g)

      two : (ks : List Quantifier) (s : Node) → ((v : Bool) → Win D R v (free ∷ ks) s → ⊥) → ((f : ℕ) → f ≡ length (s ▹ false) + free_count ks → weigh f (tops D R ks (s ▹ false)) ≡ 2 ^ free_count ks)
          → ((f : ℕ) → f ≡ length (s ▹ true) + free_count ks → weigh f (tops D R ks (s ▹ true)) ≡ 2 ^ free_count ks)
          → (f : ℕ) → f ≡ length s + free_count (free ∷ ks) → weigh f (tops D R ks (s ▹ false) ++ tops D R ks (s ▹ true)) ≡ 2 ^ free_count (free ∷ ks)
      two ks s h a b f e =
          omega (arith, double (free_count ks), weigh_append f (tops D R ks (s ▹ false)) (tops D R ks (s ▹ true)), a f (omega (arith, e, length-▹ s false)), b f (omega (arith, e, length-▹ s true)))

-- ---- the readings on a line
count_append : (s : Node) (xs ys : List Node) → count_on s (xs ++ ys) ≡ count_on s xs + count_on s ys
count_append s [] ys = omega arith
count_append s (x ∷ xs) ys = by (lies_on s x) (count_append s xs ys)
  where
    by : (b : Bool) → count_on s (xs ++ ys) ≡ count_on s xs + count_on s ys → cond b (suc (count_on s (xs ++ ys))) (count_on s (xs ++ ys)) ≡ cond b (suc (count_on s xs)) (count_on s xs) + count_on s ys
    by true h = omega (arith, h)
    by false h = h

count_open : (ts : List Node) → count_on [] ts ≡ length ts
count_open [] = refl
count_open (t ∷ ts) = ap suc (count_open ts)

count_same : (b : Bool) (s : Node) (ts : List Node) → count_on (b ∷ s) (map (λ t. b ∷ t) ts) ≡ count_on s ts
count_same b s [] = refl
count_same true s (t ∷ ts) = ap (λ (n : ℕ). cond (lies_on s t) (suc n) n) (count_same true s ts)
count_same false s (t ∷ ts) = ap (λ (n : ℕ). cond (lies_on s t) (suc n) n) (count_same false s ts)

count_other : (b : Bool) (s : Node) (ts : List Node) → count_on (b ∷ s) (map (λ t. not b ∷ t) ts) ≡ 0
count_other b s [] = refl
count_other true s (t ∷ ts) = count_other true s ts
count_other false s (t ∷ ts) = count_other false s ts

readings_length : (f : ℕ) → length (readings f) ≡ 2 ^ f
readings_length zero = refl
readings_length (suc f) =
    simp (length-append, length-map) (omega (arith, readings_length f))

pub line_covers : (f : ℕ) (s : Node) → length s ≤ f → count_on s (readings f) ≡ 2 ^ (f - length s)
line_covers f [] h = count_open (readings f) ∙ readings_length f ∙ ap (λ (n : ℕ). 2 ^ n) (omega arith)
line_covers zero (b ∷ s) h = absurd (omega (arith, h))
line_covers (suc f) (b ∷ s) h = by b (line_covers f s (le_of_suc-le-suc h))
  where
    less : suc f - suc (length s) ≡ f - length s
    less = omega arith

    F : List Node
    F = map (λ t. false ∷ t) (readings f)

    G : List Node
    G = map (λ t. true ∷ t) (readings f)

    by : (c : Bool) → count_on s (readings f) ≡ 2 ^ (f - length s) → count_on (c ∷ s) (F ++ G) ≡ 2 ^ (suc f - suc (length s))
    by true rest = omega (arith, count_append (true ∷ s) F G, count_other true s (readings f), count_same true s (readings f), rest, ap (λ (n : ℕ). 2 ^ n) less)
    by false rest = omega (arith, count_append (false ∷ s) F G, count_other false s (readings f), count_same false s (readings f), rest, ap (λ (n : ℕ). 2 ^ n) less)

-- ---- the two cards
module _ (D : Prefix) (R : List Clause) (order : FreeFirst (quantifiers D)) where
  abbrev ds : List DecidedNode
  ds = tops D R (quantifiers D) []

  -- for the cards in either order
  pub partition : (p : Bool) → Partition (free_variables D) (select p ds) (select (not p) ds)
  partition p =
      record {
        some_line = λ t e. find t e (dichotomy (beq p (truth D R t)));
        one_line = λ t s u m n a b. one t s u m n a b;
        one_card = λ t s u e m n a b. never p (sym (((right p).covers t e).1 (s, m, a)) ∙ ((right (not p)).covers t e).1 (u, n, b));
        line_count = counts;
        sum = total p;
      }
    where
      right : (q : Bool) → CardRight q D R (select q ds)
      right = card_right D R order

      never : (q : Bool) → q ≡ not q → ⊥
      never true e = true≢false e
      never false e = false≢true e

      other : (q x : Bool) → (beq q x ≡ true) ⊎ (beq q x ≡ false) → (x ≡ q) ⊎ (x ≡ not q)
      other true true w = inl refl
      other true false w = inr refl
      other false true w = inr refl
      other false false w = inl refl

      find : (t : Node) → length t ≡ free_variables D → (beq p (truth D R t) ≡ true) ⊎ (beq p (truth D R t) ≡ false)
          → (s : Node) × (Mem s (select p ds) ⊎ Mem s (select (not p) ds)) × (lies_on s t ≡ true)
      find t e w = by (other p (truth D R t) w)
        where
          by : (truth D R t ≡ p) ⊎ (truth D R t ≡ not p) → (s : Node) × (Mem s (select p ds) ⊎ Mem s (select (not p) ds)) × (lies_on s t ≡ true)
          by (inl q) = let k = ((right p).covers t e).0 q in (k.0, inl k.1, k.2)
          by (inr q) = let k = ((right (not p)).covers t e).0 q in (k.0, inr k.1, k.2)

      side : {A B : Type 0} → A ⊎ B → Bool
      side (inl x) = p
      side (inr x) = not p

      one : (t s u : Node) → Mem s (select p ds) ⊎ Mem s (select (not p) ds) → Mem u (select p ds) ⊎ Mem u (select (not p) ds) → lies_on s t ≡ true → lies_on u t ≡ true → s ≡ u
      one t s u m n a b = ap (λ (d : DecidedNode). d.node) (by m n)
        where
          in_all : (q : Bool) (x : Node) → Mem x (select q ds) → Mem (mark x q) ds
          in_all q x k = select_mem q ds x k

          same : (q r : Bool) → Mem s (select q ds) → Mem u (select r ds) → mark s q ≡ mark u r
          same q r k l = rises_d_single D R ds (tops_rise D R (quantifiers D) [] order) t (mark s q) (mark u r) (in_all q s k) (in_all r u l) a b

          by : (m : Mem s (select p ds) ⊎ Mem s (select (not p) ds)) (n : Mem u (select p ds) ⊎ Mem u (select (not p) ds)) → mark s (side m) ≡ mark u (side n)
          by (inl k) (inl l) = same p p k l
          by (inl k) (inr l) = same p (not p) k l
          by (inr k) (inl l) = same (not p) p k l
          by (inr k) (inr l) = same (not p) (not p) k l

      lower : (q : Bool) (s : Node) → Mem s (select q ds) → length s ≤ free_variables D
      lower q s m = (((right q).topmost s).0 m).within

      counts : (s : Node) → Mem s (select p ds) ⊎ Mem s (select (not p) ds) → count_on s (readings (free_variables D)) ≡ 2 ^ (free_variables D - length s)
      counts s (inl m) = line_covers (free_variables D) s (lower p s m)
      counts s (inr m) = line_covers (free_variables D) s (lower (not p) s m)

      total : (q : Bool) → covered (free_variables D) (select q ds) + covered (free_variables D) (select (not q) ds) ≡ 2 ^ free_variables D
      total true = weigh_select (free_variables D) ds ∙ tops_weigh D R (quantifiers D) [] order (free_variables D) (omega arith)
      total false = omega (arith, weigh_select (free_variables D) ds, tops_weigh D R (quantifiers D) [] order (free_variables D) (omega arith))

-- ---- calls that leave the clauses
pub same_clauses : (b : Formula) (c : Call) → keeps_clauses b c ≡ true → next_formula b c ≡ b
same_clauses b (rule ls) e = by (rule_fault b ls) e
  where
    by : (o : Option ℕ) → is_refused o ≡ true → with_rule o b ls ≡ b
    by none q = absurd (false≢true q)
    by (some n) q = refl
same_clauses b (query n on off) e = refl
same_clauses b (card n size) e = refl
same_clauses b forget e = refl
same_clauses b withdraw e = by (withdraw_fault b) e
  where
    by : (o : Option ℕ) → is_refused o ≡ true → without_last o b ≡ b
    by none q = absurd (false≢true q)
    by (some n) q = refl
same_clauses b (keep_card n size) e = refl
same_clauses b (closest n size on off) e = refl
same_clauses b (one ls) e = by (one_fault b ls) e
  where
    by : (o : Option ℕ) → is_refused o ≡ true → with_one o b ls ≡ b
    by none q = absurd (false≢true q)
    by (some n) q = refl

pub same_formula : (x : State) → Reached x → (cs : List Call) → all (keeps_clauses x.formula) cs ≡ true → (after x cs).formula ≡ x.formula
same_formula x h [] e = refl
same_formula x h (c ∷ cs) e = same_formula (step x c).state w.next cs (subst (λ (b : Formula). all (keeps_clauses b) cs ≡ true) (sym stays) (and_right (keeps_clauses x.formula c) (all (keeps_clauses x.formula) cs) e)) ∙ stays
  where
    w : CallOk x c (step x c)
    w = step_ok x h c

    stays : (step x c).state.formula ≡ x.formula
    stays = w.same_formula ∙ same_clauses x.formula c (and_left (keeps_clauses x.formula c) (all (keeps_clauses x.formula) cs) e)

-- a card that is not refused shows its lines
not_refused : (n : ℕ) (tb tc : List ℕ) (ks : List Node) → card_refused n tb ≡ lines ks tc → ⊥
not_refused n tb tc ks q = subst is_refused_lem q tt
  where
    is_refused_lem : Reply → Type 0
    is_refused_lem Reply.done = ⊥
    is_refused_lem (Reply.refused k) = ⊥
    is_refused_lem Reply.swap = ⊥
    is_refused_lem Reply.keep = ⊥
    is_refused_lem Reply.unsettled = ⊥
    is_refused_lem (lines xs t) = ⊥
    is_refused_lem (card_refused k t) = Unit {0}
    is_refused_lem (Reply.found xs t r) = ⊥

shown : (f size : ℕ) (ls ks : List Node) (tb : List ℕ) → card_reply f size ls ≡ lines ks tb → ls ≡ ks
shown f size ls ks tb e = by (leb (length ls * f) size) e
  where
    by : (x : Bool) → cond x (lines ls (table_of f size ls)) (card_refused 21 (zero_table size)) ≡ lines ks tb → ls ≡ ks
    by true q = cc
    by false q = absurd (not_refused 21 (zero_table size) tb ks q)

card_shows : (x : State) → Reached x → (p : Bool) (n size : ℕ) (ls : List Node) (tb : List ℕ) → (step x (card_of p n size)).out.reply ≡ lines ls tb
    → select p (tops x.formula.prefix x.formula.clauses (quantifiers x.formula.prefix) []) ≡ ls
card_shows x h p n size ls tb q = by (card_reply_lem x h p n size)
  where
    right : List Node
    right = select p (tops x.formula.prefix x.formula.clauses (quantifiers x.formula.prefix) [])

    by : ((step x (card_of p n size)).out.reply ≡ card_reply (free_variables x.formula.prefix) size right) ⊎ ((step x (card_of p n size)).out.reply ≡ card_refused 34 (zero_table size)) → right ≡ ls
    by (inl e) = shown (free_variables x.formula.prefix) size right ls tb (sym e ∙ q)
    by (inr e) = absurd (not_refused 34 (zero_table size) tb ls (sym e ∙ q))

-- WISH 7: two reached states with the same formula, a card of each verdict made at one of them and not refused
pub cards_partition : (x y : State) → Reached x → Reached y → y.formula ≡ x.formula → (p : Bool) (n n' size size' : ℕ) (ls ks : List Node) (tb tc : List ℕ)
    → (step x (card_of p n size)).out.reply ≡ lines ls tb → (step y (card_of (not p) n' size')).out.reply ≡ lines ks tc
    → Partition (free_variables x.formula.prefix) ls ks
cards_partition x y h g same p n n' size size' ls ks tb tc q r =
    subst (λ (l : List Node). Partition (free_variables D) l ks) l₀
    (subst (λ (l : List Node). Partition (free_variables D) (select p (tops D R (quantifiers D) [])) l) l₁ (partition D R (free_before x.formula h.formula_ok) p))
  where
    D : Prefix
    D = x.formula.prefix

    R : List Clause
    R = x.formula.clauses

    l₀ : select p (tops D R (quantifiers D) []) ≡ ls
    l₀ = card_shows x h p n size ls tb q

    l₁ : select (not p) (tops D R (quantifiers D) []) ≡ ks
    l₁ =
        ap (λ (c : Formula). select (not p) (tops c.prefix c.clauses (quantifiers c.prefix) [])) (sym same)
        ∙ card_shows y g (not p) n' size' ks tc r

-- in either order, after any calls, with calls between that leave the clauses
pub both_cards : (b : Formula) → formula_is_ok b ≡ true → (cs between : List Call) → all (keeps_clauses (after (fresh b) cs).formula) between ≡ true
    → (p : Bool) (n n' size size' : ℕ) (ls ks : List Node) (tb tc : List ℕ)
    → (step (after (fresh b) cs) (card_of p n size)).out.reply ≡ lines ls tb
    → (step (after (step (after (fresh b) cs) (card_of p n size)).state between) (card_of (not p) n' size')).out.reply ≡ lines ks tc
    → Partition (free_variables (after (fresh b) cs).formula.prefix) ls ks
both_cards b e cs between quiet p n n' size size' ls ks tb tc q r = cards_partition x (after z between) h (after_reached z w.next between) same p n n' size size' ls ks tb tc q r
  where
    x : State
    x = after (fresh b) cs

    h : Reached x
    h = after_reached (fresh b) (fresh_reached b e) cs

    z : State
    z = (step x (card_of p n size)).state

    w : CallOk x (card_of p n size) (step x (card_of p n size))
    w = step_ok x h (card_of p n size)

    quiet_card : (p : Bool) → next_formula x.formula (card_of p n size) ≡ x.formula
    quiet_card true = refl
    quiet_card false = refl

    stays : z.formula ≡ x.formula
    stays = w.same_formula ∙ quiet_card p

    same : (after z between).formula ≡ x.formula
    same = same_formula z w.next between (subst (λ (a : Formula). all (keeps_clauses a) between ≡ true) (sym stays) quiet) ∙ stays
