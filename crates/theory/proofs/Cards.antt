-- Demand 2: the card of a reached state.
use Prim.Native.Nat.{ℕ, ◌*◌, ◌-◌, ◌≤◌}
use native.Mathlib.Omega.{arith}
use mathlib.Core.Path.{◌≡◌, refl, sym, ap, ◌∙◌, subst}
use mathlib.Core.Logic.{◌⊎◌, inl, inr}
use mathlib.Core.Bool.{Bool, true, false, cond, not}
use mathlib.Core.List.{List, [], ◌∷◌, map}
use lib.ListN.{length, replicate, length-append, length-map, length-replicate}
use lib.Dec.{leb, leb→le, nleb→lt}
use Rattle.qbf.specs.Formula.{Clause, Node, Prefix, quantifiers}
use Rattle.qbf.specs.Truth.{free_variables, outline, select, verdict_of}
use Rattle.qbf.specs.Ceiling.{search_within}
use Rattle.qbf.specs.Card.{Mem, byte_of, bytes_of, line_bytes, table_of, zero_table}
use Rattle.qbf.specs.Calls.{Call, Reply, State, card_of, card_refused, card_reply, card_reply_of, guarded, learning_card, lines, step}
use Rattle.qbf.specs.Runs.{after}
use Rattle.qbf.specs.Demands.{CardOwed, CardRight}
use Rattle.theory.proofs.Basics.{≡→T}
use Rattle.theory.proofs.WellFormed.{free_before}
use Rattle.theory.proofs.Starting.{SoundFor, attempted, starts_empty, learning, searched}
use Rattle.theory.proofs.Ceiling.{attempt_reply}
use Rattle.theory.proofs.Runs.{Reached, reached_formed, step_ok}
use Rattle.theory.proofs.Topmost.{tops, card_right}

-- ---- the bytes of lines
pub line_length : (f : ℕ) (s : Node) → length s ≤ f → length (line_bytes f s) ≡ f
line_length f s h = omega (arith, h, length-append (map byte_of s) (replicate (f - length s) 0), length-map s byte_of, length-replicate {A = ℕ} (f - length s) 0)

pub bytes_length : (f : ℕ) (ls : List Node) → ((s : Node) → Mem s ls → length s ≤ f) → length (bytes_of f ls) ≡ length ls * f
bytes_length f [] h = omega arith
bytes_length f (s ∷ ls) h = omega (arith, bytes_length f ls (λ t m. h t (inr m)), line_length f s (h s (inl refl)), length-append (line_bytes f s) (bytes_of f ls))

-- ---- the card

module _ (p : Bool) (D : Prefix) (R : List Clause) where
  table_length : (len : ℕ) (ls : List Node) → CardRight p D R ls → length ls * free_variables D ≤ len → length (table_of (free_variables D) len ls) ≡ len
  table_length len ls h fits =
      omega (arith, fits, bytes_length (free_variables D) ls (λ s m. ((h.topmost s).0 m).within), length-append (bytes_of (free_variables D) ls) (replicate (len - length ls * free_variables D) 0), length-replicate {A = ℕ} (len - length ls * free_variables D) 0)

  pub owed : (len : ℕ) (ls : List Node) → CardRight p D R ls → CardOwed p D R len (card_reply (free_variables D) len ls)
  owed len ls h = by (leb (length ls * free_variables D) len) refl
    where
      by : (x : Bool) → leb (length ls * free_variables D) len ≡ x → CardOwed p D R len (cond x (lines ls (table_of (free_variables D) len ls)) (card_refused 21 (zero_table len)))
      by true e = record { right = h; table = refl; whole = table_length len ls h (leb→le (length ls * free_variables D) len (≡→T (leb (length ls * free_variables D) len) e)) }
      by false e = inl (record { number = refl; zeros = refl; them = ls; right = h; over = nleb→lt (length ls * free_variables D) len (≡→T (not (leb (length ls * free_variables D) len)) (ap not e)) })

-- the outcome of a search from the empty node, at a reached state, is the one by truth
pub search_true : (x : State) → Reached x → outline (learning x.formula x.store (quantifiers x.formula.prefix) []).outcome ≡ verdict_of x.formula.prefix x.formula.clauses (quantifiers x.formula.prefix) []
search_true x h = (searched x.formula x.store (quantifiers x.formula.prefix) [] h.formula_ok h.sound (starts_empty x.formula h.formula_ok)).verdict

pub after_reached : (x : State) → Reached x → (cs : List Call) → Reached (after x cs)
after_reached x h [] = h
after_reached x h (c ∷ cs) = after_reached (step x c).state (step_ok x h c).next cs

-- the reply to a card, by truth: the right lines, judged by the table, or 34 for a search that stopped
pub card_reply_lem : (x : State) → Reached x → (p : Bool) (n size : ℕ)
    → ((step x (card_of p n size)).out.reply ≡ card_reply (free_variables x.formula.prefix) size (select p (tops x.formula.prefix x.formula.clauses (quantifiers x.formula.prefix) [])))
    ⊎ ((step x (card_of p n size)).out.reply ≡ card_refused 34 (zero_table size))
card_reply_lem x h p n size = subst Either (sym (ap (λ (g : Bool). (guarded g x (card_of p n size)).out.reply) (reached_formed x h) ∙ is p)) (by told)
  where
    D : Prefix
    D = x.formula.prefix

    Either : Reply → Type 0
    Either r = (r ≡ card_reply (free_variables D) size (select p (tops D x.formula.clauses (quantifiers D) []))) ⊎ (r ≡ card_refused 34 (zero_table size))

    is : (q : Bool) → (guarded true x (card_of q n size)).out.reply ≡ (learning_card q x.formula x.store n size).out.reply
    is true = refl
    is false = refl

    told : ((learning_card p x.formula x.store n size).out.reply ≡ card_reply_of p D size (outline (learning x.formula x.store (quantifiers D) []).outcome)) ⊎ ((learning_card p x.formula x.store n size).out.reply ≡ card_refused 34 (zero_table size))
    told =
        attempt_reply (SoundFor x.formula) n (learning x.formula x.store (quantifiers D) []) (card_refused 34 (zero_table size)) (card_reply_of p D size)
        (search_within x.formula.limits D x.formula.clauses n (quantifiers D) [] x.store)
        (attempted x.formula x.store (quantifiers D) [] h.formula_ok h.sound (starts_empty x.formula h.formula_ok) n)

    by : ((learning_card p x.formula x.store n size).out.reply ≡ card_reply_of p D size (outline (learning x.formula x.store (quantifiers D) []).outcome)) ⊎ ((learning_card p x.formula x.store n size).out.reply ≡ card_refused 34 (zero_table size))
        → Either (learning_card p x.formula x.store n size).out.reply
    by (inl e) = inl (e ∙ ap (card_reply_of p D size) (search_true x h))
    by (inr e) = inr e

pub card_owed : (x : State) → Reached x → (p : Bool) (n size : ℕ) → CardOwed p x.formula.prefix x.formula.clauses size (step x (card_of p n size)).out.reply
card_owed x h p n size = by (card_reply_lem x h p n size)
  where
    D : Prefix
    D = x.formula.prefix

    R : List Clause
    R = x.formula.clauses

    by : ((step x (card_of p n size)).out.reply ≡ card_reply (free_variables D) size (select p (tops D R (quantifiers D) []))) ⊎ ((step x (card_of p n size)).out.reply ≡ card_refused 34 (zero_table size))
        → CardOwed p D R size (step x (card_of p n size)).out.reply
    by (inl e) = subst (CardOwed p D R size) (sym e) (owed p D R size (select p (tops D R (quantifiers D) [])) (card_right D R (free_before x.formula h.formula_ok) p))
    by (inr e) = subst (CardOwed p D R size) (sym e) (inr (record { number = refl; zeros = refl }))
