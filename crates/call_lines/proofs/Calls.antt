-- What was served, as the call that was read.
use Prim.Native.Nat.{ℕ, suc, min}
use mathlib.Core.Path.{◌≡◌, refl, sym, ap, subst, ◌∙◌}
use mathlib.Core.Bool.{Bool, true, false}
use mathlib.Core.List.{List}
use mathlib.Core.Option.{Option, none, some}
use lib.IntN.{ℤ}
use lib.ListN.{length, take}
use Rattle.qbf.specs.Formula.{most_free, Literal}
use Rattle.qbf.specs.Calls.{Call, rule, query, card, keep_card, forget, withdraw, one, closest, Answer, State as Read, guarded, well_formed}
use Rattle.qbf.specs.Demands.{refusal_of}
use Rattle.layout.specs.Words.{Bytes}
use Rattle.layout.specs.Session.{named, call_of}
use Rattle.state_parts.specs.Parts.{read_at}
use Rattle.reader.specs.Items.{Kept}
use Rattle.reader.specs.Calls.{CallUnder}
use Rattle.reader.specs.declared.call.CallLine.{CallLine}
use Rattle.reader.specs.declared.call.CallLine.TheVariants as line
use Rattle.reader.proofs.Sizes.{Fits, fits_call}
use Rattle.line_turns.specs.declared.Turn.{Turn}
use Rattle.answer_text.specs.declared.shown.Shown.{Shown}
use Rattle.answer_text.specs.Shown.{card_in}
use Rattle.line_turns.specs.Line.{TurnedAt, TurnedBesideAt}
use Rattle.call_lines.specs.declared.Called.{Called}
use Rattle.call_lines.specs.Calling.{stopped_at, CalledAt, CalledBesideAt}
use Rattle.call_lines.specs.Small.{Small}
use Rattle.named.proofs.Standing.{deciding, flags_standing}
use Rattle.serving.specs.Serves.{out_of}
use Rattle.call_lines.proofs.Cut.{rule_served, rule_card, one_served, one_card, query_served, query_out, closest_served, closest_card, closest_out}

-- ---- a card, or a closest reading, asks for no more than the table has
pub small_call : (l : Bytes) (top : ℕ) (q : CallLine) (out : List ℤ) → CallUnder top (call_of l) q out → Small q
small_call l top (line.Rule n) out h = tt
small_call l top (line.Query n) out h = tt
small_call l top (line.Card size) out h = subst Fits h (fits_call l)
small_call l top (line.KeepCard size) out h = subst Fits h (fits_call l)
small_call l top line.Forget out h = tt
small_call l top line.Withdraw out h = tt
small_call l top (line.One n) out h = tt
small_call l top (line.Closest n size) out h = subst Fits h.1 (fits_call l)

-- ---- by the literals that stand in the table
-- the flags that are on, or those that are off, in a table of the same length
pub standing : (n : ℕ) (lits : List ℤ) → length lits ≡ suc most_free → (ls : List Literal) → Kept n lits ls → (k : ℕ) → k ≡ min n (suc most_free)
    → (v : Bool) (m : ℕ) (out : List ℤ) → length out ≡ suc most_free → Kept m out (named v (take k lits)) → (c : ℕ) → c ≡ min m (suc most_free) → take c out ≡ named v (deciding ls)
standing n lits wide ls z k e v m out room w c i =
    ap (λ (j : ℕ). take j out) i
    ∙ flags_standing n lits wide ls z v m out room (subst (λ (j : ℕ). Kept m out (named v (take j lits))) e w)

-- ---- a call that searches nothing
abbrev pub unsearched : Turn → Called
unsearched r = record { turn = r; stopped = false; visits = 0 }

abbrev Plain : Option Read → Call → Type 0
Plain o c = (out_of o c).visits ≡ 0

rule_plain : (ls : List Literal) (o : Option Read) → Plain o (rule ls)
rule_plain ls none = refl
rule_plain ls (some y) = by (well_formed y)
  where
    by : (g : Bool) → (guarded g y (rule ls)).out.visits ≡ 0
    by true = refl
    by false = refl

one_plain : (ls : List Literal) (o : Option Read) → Plain o (one ls)
one_plain ls none = refl
one_plain ls (some y) = by (well_formed y)
  where
    by : (g : Bool) → (guarded g y (one ls)).out.visits ≡ 0
    by true = refl
    by false = refl

forget_plain : (o : Option Read) → Plain o forget
forget_plain none = refl
forget_plain (some y) = by (well_formed y)
  where
    by : (g : Bool) → (guarded g y forget).out.visits ≡ 0
    by true = refl
    by false = refl

withdraw_plain : (o : Option Read) → Plain o withdraw
withdraw_plain none = refl
withdraw_plain (some y) = by (well_formed y)
  where
    by : (g : Bool) → (guarded g y withdraw).out.visits ≡ 0
    by true = refl
    by false = refl

-- ---- the call, by what was read of it
module _ {cells : List ℕ} {literals : List ℤ} {number : ℕ} {s : Shown} {cells' : List ℕ} {literals' : List ℤ} {d : Bytes} where
  pub forget_called : {r : Turn} {u : Called} → u ≡ unsearched r → TurnedBesideAt cells literals (some forget) number s r cells' literals' d → CalledBesideAt cells literals (some forget) number s u cells' literals' d
  forget_called {r} {u} i h = λ t.
      subst (λ (z : Called). CalledAt cells literals (some forget) number s t z cells' literals' t d) (sym i)
      (record { turned = h t; stopped = refl; visits = sym (forget_plain (read_at cells literals)) })

  pub withdraw_called : {r : Turn} {u : Called} → u ≡ unsearched r → TurnedBesideAt cells literals (some withdraw) number s r cells' literals' d → CalledBesideAt cells literals (some withdraw) number s u cells' literals' d
  withdraw_called {r} {u} i h = λ t.
      subst (λ (z : Called). CalledAt cells literals (some withdraw) number s t z cells' literals' t d) (sym i)
      (record { turned = h t; stopped = refl; visits = sym (withdraw_plain (read_at cells literals)) })

  module _ (n : ℕ) (lits : List ℤ) (wide : length lits ≡ suc most_free) where
    pub rule_called : (k : ℕ) → k ≡ min n (suc most_free) → {r : Turn} {u : Called} → u ≡ unsearched r → TurnedBesideAt cells literals (some (rule (take k lits))) number s r cells' literals' d
        → (ls : List Literal) → Kept n lits ls → CalledBesideAt cells literals (some (rule ls)) number s u cells' literals' d
    rule_called k e {r} {u} i h ls q = λ t.
        subst (λ (z : Called). CalledAt cells literals (some (rule ls)) number s t z cells' literals' t d) (sym i)
        (record {
          turned = by t (subst (λ (m : ℕ). TurnedAt cells literals (some (rule (take m lits))) number s t r cells' literals' t d) e (h t));
          stopped = refl;
          visits = sym (rule_plain ls (read_at cells literals));
        })
      where
        by : (t : Bytes) → TurnedAt cells literals (some (rule (take (min n (suc most_free)) lits))) number s t r cells' literals' t d → TurnedAt cells literals (some (rule ls)) number s t r cells' literals' t d
        by t u = record { within = u.within; served = rule_served cells literals n lits wide number (take r.length d) cells' literals' ls q u.served; shown = u.shown ∙ rule_card cells literals n lits wide ls q (card_in s t) }

    pub one_called : (k : ℕ) → k ≡ min n (suc most_free) → {r : Turn} {u : Called} → u ≡ unsearched r → TurnedBesideAt cells literals (some (one (take k lits))) number s r cells' literals' d
        → (ls : List Literal) → Kept n lits ls → CalledBesideAt cells literals (some (one ls)) number s u cells' literals' d
    one_called k e {r} {u} i h ls q = λ t.
        subst (λ (z : Called). CalledAt cells literals (some (one ls)) number s t z cells' literals' t d) (sym i)
        (record {
          turned = by t (subst (λ (m : ℕ). TurnedAt cells literals (some (one (take m lits))) number s t r cells' literals' t d) e (h t));
          stopped = refl;
          visits = sym (one_plain ls (read_at cells literals));
        })
      where
        by : (t : Bytes) → TurnedAt cells literals (some (one (take (min n (suc most_free)) lits))) number s t r cells' literals' t d → TurnedAt cells literals (some (one ls)) number s t r cells' literals' t d
        by t u = record { within = u.within; served = one_served cells literals n lits wide number (take r.length d) cells' literals' ls q u.served; shown = u.shown ∙ one_card cells literals n lits wide ls q (card_in s t) }

-- a call that names flags, by those that decide
module _ {cells : List ℕ} {literals : List ℤ} {number : ℕ} {r : Called} {cells' : List ℕ} {literals' : List ℤ} {d : Bytes} (top : ℕ) (ls : List Literal) (on off : List ℤ) (e : on ≡ named true (deciding ls)) (f : off ≡ named false (deciding ls)) {ceiling : ℕ} (g : ceiling ≡ top) where
  pub query_called : {s : Shown} → CalledBesideAt cells literals (some (query ceiling on off)) number s r cells' literals' d → CalledBesideAt cells literals (some (query top (named true ls) (named false ls))) number s r cells' literals' d
  query_called {s} h = λ t.
      let u = subst (λ (m : ℕ). CalledAt cells literals (some (query m on off)) number s t r cells' literals' t d) g (h t) in
      record {
        turned =
            record {
              within = u.turned.within;
              served = query_served cells literals ls on off e f number (take r.turn.length d) cells' literals' top u.turned.served;
              shown = u.turned.shown;
            };
        stopped = u.stopped ∙ ap (λ (a : Answer). stopped_at (some top) (refusal_of a.reply)) (query_out cells literals ls on off e f top);
        visits = u.visits ∙ ap (λ (a : Answer). a.visits) (query_out cells literals ls on off e f top);
      }

  pub closest_called : (size : ℕ) {t : Bytes} (s₀ : Shown) (t₀ : Bytes) → CalledAt cells literals (some (closest ceiling size on off)) number s₀ t₀ r cells' literals' t d
      → CalledAt cells literals (some (closest top size (named true ls) (named false ls))) number s₀ t₀ r cells' literals' t d
  closest_called size {t} s₀ t₀ h =
      let u = subst (λ (m : ℕ). CalledAt cells literals (some (closest m size on off)) number s₀ t₀ r cells' literals' t d) g h in
      record {
        turned =
            record {
              within = u.turned.within;
              served = closest_served cells literals ls on off e f number (take r.turn.length d) cells' literals' top size u.turned.served;
              shown = u.turned.shown ∙ closest_card cells literals ls on off e f top size (card_in s₀ t₀);
            };
        stopped = u.stopped ∙ ap (λ (a : Answer). stopped_at (some top) (refusal_of a.reply)) (closest_out cells literals ls on off e f top size);
        visits = u.visits ∙ ap (λ (a : Answer). a.visits) (closest_out cells literals ls on off e f top size);
      }

-- a call whose table is a part of a table
pub sized : {cells : List ℕ} {literals : List ℤ} {line : ℕ} {s₀ : Shown} {t₀ : Bytes} {r : Called} {cells' : List ℕ} {literals' : List ℤ} {t d : Bytes} (make : ℕ → Call) (m size : ℕ) → m ≡ size → CalledAt cells literals (some (make m)) line s₀ t₀ r cells' literals' t d
    → CalledAt cells literals (some (make size)) line s₀ t₀ r cells' literals' t d
sized {cells} {literals} {line} {s₀} {t₀} {r} {cells'} {literals'} {t} {d} make m size e h = subst (λ (k : ℕ). CalledAt cells literals (some (make k)) line s₀ t₀ r cells' literals' t d) e h

-- ---- by the kind of the call
module _ {cells : List ℕ} {literals : List ℤ} {number : ℕ} {s₀ : Shown} {t₀ : Bytes} {r : Called} {cells' : List ℕ} {literals' : List ℤ} {t d : Bytes} where
  pub meant : (c c' : Option Call) → c ≡ c' → CalledAt cells literals c' number s₀ t₀ r cells' literals' t d → CalledAt cells literals c number s₀ t₀ r cells' literals' t d
  meant c c' e h = subst (λ (o : Option Call). CalledAt cells literals o number s₀ t₀ r cells' literals' t d) (sym e) h

  module _ (lits : List ℤ) (top : ℕ) (q : CallLine) (c : Option Call) (h : CallUnder top c q lits) where
    pub called_rule : (n : ℕ) → q ≡ line.Rule n → ((ls : List Literal) → Kept n lits ls → CalledAt cells literals (some (rule ls)) number s₀ t₀ r cells' literals' t d) → CalledAt cells literals c number s₀ t₀ r cells' literals' t d
    called_rule n e u = by (subst (λ (z : CallLine). CallUnder top c z lits) e h)
      where
        by : CallUnder top c (line.Rule n) lits → CalledAt cells literals c number s₀ t₀ r cells' literals' t d
        by (ls, i, k) = meant c (some (rule ls)) i (u ls k)

    pub called_one : (n : ℕ) → q ≡ line.One n → ((ls : List Literal) → Kept n lits ls → CalledAt cells literals (some (one ls)) number s₀ t₀ r cells' literals' t d) → CalledAt cells literals c number s₀ t₀ r cells' literals' t d
    called_one n e u = by (subst (λ (z : CallLine). CallUnder top c z lits) e h)
      where
        by : CallUnder top c (line.One n) lits → CalledAt cells literals c number s₀ t₀ r cells' literals' t d
        by (ls, i, k) = meant c (some (one ls)) i (u ls k)

    pub called_query : (n : ℕ) → q ≡ line.Query n → ((ls : List Literal) → Kept n lits ls → CalledAt cells literals (some (query top (named true ls) (named false ls))) number s₀ t₀ r cells' literals' t d) → CalledAt cells literals c number s₀ t₀ r cells' literals' t d
    called_query n e u = by (subst (λ (z : CallLine). CallUnder top c z lits) e h)
      where
        by : CallUnder top c (line.Query n) lits → CalledAt cells literals c number s₀ t₀ r cells' literals' t d
        by (ls, i, k) = meant c (some (query top (named true ls) (named false ls))) i (u ls k)

    pub called_closest : (n size : ℕ) → q ≡ line.Closest n size → ((ls : List Literal) → Kept n lits ls → CalledAt cells literals (some (closest top size (named true ls) (named false ls))) number s₀ t₀ r cells' literals' t d) → CalledAt cells literals c number s₀ t₀ r cells' literals' t d
    called_closest n size e u = by (subst (λ (z : CallLine). CallUnder top c z lits) e h)
      where
        by : CallUnder top c (line.Closest n size) lits → CalledAt cells literals c number s₀ t₀ r cells' literals' t d
        by (ls, i, k) = meant c (some (closest top size (named true ls) (named false ls))) i (u ls k)

    pub called_card : (size : ℕ) → q ≡ line.Card size → CalledAt cells literals (some (card top size)) number s₀ t₀ r cells' literals' t d → CalledAt cells literals c number s₀ t₀ r cells' literals' t d
    called_card size e u = meant c (some (card top size)) (subst (λ (z : CallLine). CallUnder top c z lits) e h) u

    pub called_keep_card : (size : ℕ) → q ≡ line.KeepCard size → CalledAt cells literals (some (keep_card top size)) number s₀ t₀ r cells' literals' t d → CalledAt cells literals c number s₀ t₀ r cells' literals' t d
    called_keep_card size e u = meant c (some (keep_card top size)) (subst (λ (z : CallLine). CallUnder top c z lits) e h) u

    pub called_forget : q ≡ line.Forget → CalledAt cells literals (some forget) number s₀ t₀ r cells' literals' t d → CalledAt cells literals c number s₀ t₀ r cells' literals' t d
    called_forget e u = meant c (some forget) (subst (λ (z : CallLine). CallUnder top c z lits) e h) u

    pub called_withdraw : q ≡ line.Withdraw → CalledAt cells literals (some withdraw) number s₀ t₀ r cells' literals' t d → CalledAt cells literals c number s₀ t₀ r cells' literals' t d
    called_withdraw e u = meant c (some withdraw) (subst (λ (z : CallLine). CallUnder top c z lits) e h) u
