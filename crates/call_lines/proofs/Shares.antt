-- A call that was made under its limit, as the answer under its share. Paper 02, wish 12.
use Prim.Native.Nat.{ℕ, ◌≤◌, ◌<◌, min}
use native.Mathlib.Omega.{arith}
use mathlib.Core.Path.{◌≡◌, refl, sym, ap, subst, ◌∙◌}
use mathlib.Core.Bool.{Bool, true, false, cond, true≢false}
use mathlib.Core.List.{List}
use mathlib.Core.Option.{Option, none, some}
use borrow.Author.Tests.{eqb-true, lt-ltb}
use lib.Dec.{eqb}
use lib.IntN.{ℤ}
use Rattle.qbf.specs.Formula.{Prefix}
use Rattle.qbf.specs.Calls.{Call, rule, query, card, keep_card, forget, withdraw, one, closest, ceiling_of, Reply, done, refused, swap, keep, unsettled, lines, card_refused, found, Answer, answer, refusal, State as Read}
use Rattle.qbf.specs.Demands.{refusal_of}
use Rattle.theory.proofs.AcceptedRule.{some_none}
use Rattle.layout.specs.Words.{Bytes}
use Rattle.layout.specs.Output.{overflow_text, card_text}
use Rattle.layout.specs.Session.{done_text, lists_yes, refused_text, answer_text, named}
use Rattle.sessions.specs.Session.{Card, card_after, card_of}
use Rattle.days.specs.Accounts.{stop_number}
use Rattle.days.specs.Day.{limited, stopped_as, shared_reply}
use Rattle.days_laws.proofs.Limited.{limited_same, reply_own}
use Rattle.state_parts.specs.Parts.{read_at}
use Rattle.serving.specs.Serves.{number, out_of}
use Rattle.writer.specs.Wrote.{Wrote}
use Rattle.reader.specs.Calls.{CallUnder}
use Rattle.reader.specs.declared.call.CallLine.{CallLine}
use Rattle.reader.specs.declared.call.CallLine.TheVariants as line
use Rattle.answer_text.specs.declared.shown.Shown.{Shown}
use Rattle.answer_text.specs.Shown.{card_in}
use Rattle.answer_text.proofs.Room.{within}
use Rattle.card_answers.specs.Lines.{prefix_read}
use Rattle.line_turns.specs.declared.Turn.{Turn}
use Rattle.line_turns.specs.Line.{TurnedAt}
use Rattle.call_lines.specs.declared.Called.{Called}
use Rattle.call_lines.specs.Calling.{stopped_at, line_stopped, CalledAt}
use Rattle.call_lines.specs.Sharing.{under_limit, HasCeiling, SharedAt}

-- ---- the text of an answer says nothing of a ceiling
same_text : (D : Prefix) (c c' : Call) (n k : ℕ) → done_text c ≡ done_text c' → lists_yes c ≡ lists_yes c' → ((j : ℕ) → refused_text c j n k ≡ refused_text c' j n k) → (r : Reply)
    → answer_text D c n (answer r k) ≡ answer_text D c' n (answer r k)
unfolding answer_text
same_text D c c' n k d l f done = d
same_text D c c' n k d l f (refused j) = f j
same_text D c c' n k d l f swap = refl
same_text D c c' n k d l f keep = refl
same_text D c c' n k d l f unsettled = refl
same_text D c c' n k d l f (lines ls tb) = ap (λ (t : Bool). card_text t D ls k) l
same_text D c c' n k d l f (card_refused j tb) = refl
same_text D c c' n k d l f (found ls tb g) = refl

same_words : (m : ℕ) (D : Prefix) (c : Call) (n : ℕ) (r : Reply) (k : ℕ) → answer_text D (limited m c) n (answer r k) ≡ answer_text D c n (answer r k)
same_words m D (rule ls) n r k = refl
same_words m D (query top on off) n r k = same_text D (query (min top m) on off) (query top on off) n k refl refl (λ j. refl) r
same_words m D (card top size) n r k = same_text D (card (min top m) size) (card top size) n k refl refl (λ j. refl) r
same_words m D forget n r k = refl
same_words m D withdraw n r k = refl
same_words m D (keep_card top size) n r k = same_text D (keep_card (min top m) size) (keep_card top size) n k refl refl (λ j. refl) r
same_words m D (one ls) n r k = refl
same_words m D (closest top size on off) n r k = same_text D (closest (min top m) size on off) (closest top size on off) n k refl refl (λ j. refl) r

-- .. nor does the card that it leaves
same_card : (m : ℕ) (D : Prefix) (c : Call) (r : Reply) (z : Option Card) → card_after D (limited m c) r z ≡ card_after D c r z
same_card m D (rule ls) r z = refl
same_card m D (query top on off) r z = refl
same_card m D (card top size) r z = refl
same_card m D forget r z = refl
same_card m D withdraw r z = refl
same_card m D (keep_card top size) r z = refl
same_card m D (one ls) r z = refl
same_card m D (closest top size on off) r z = refl

-- ---- a call that was not stopped, or at its own ceiling
-- the same reply, under another number for a stop
not_stopped : (k : ℕ) (r : Reply) → eqb (number (refusal_of r)) 34 ≡ false → stopped_as k r ≡ r
not_stopped k done e = refl
not_stopped k (refused n) e = ap (λ (t : Bool). refused (cond t k n)) e
not_stopped k swap e = refl
not_stopped k keep e = refl
not_stopped k unsettled e = refl
not_stopped k (lines ls tb) e = refl
not_stopped k (card_refused n tb) e = ap (λ (t : Bool). card_refused (cond t k n) tb) e
not_stopped k (found ls tb f) e = refl

-- whether a call has a ceiling does not depend on what it is
limit_kept : (m : ℕ) (c : Call) (r : Option ℕ) → stopped_at (ceiling_of (limited m c)) r ≡ stopped_at (ceiling_of c) r
limit_kept m (rule ls) r = refl
limit_kept m (query top on off) r = refl
limit_kept m (card top size) r = refl
limit_kept m forget r = refl
limit_kept m withdraw r = refl
limit_kept m (keep_card top size) r = refl
limit_kept m (one ls) r = refl
limit_kept m (closest top size on off) r = refl

-- a stop leaves no card, whatever its number
stop_card : (k : ℕ) (D : Prefix) (r : Reply) → card_of D (stopped_as k r) ≡ card_of D r
stop_card k D done = refl
stop_card k D (refused n) = refl
stop_card k D swap = refl
stop_card k D keep = refl
stop_card k D unsettled = refl
stop_card k D (lines ls tb) = refl
stop_card k D (card_refused n tb) = refl
stop_card k D (found ls tb f) = refl

shared_after : (m : ℕ) (D : Prefix) (c : Call) (r : Reply) (z : Option Card) → card_after D c (shared_reply (ceiling_of c) m r) z ≡ card_after D c r z
shared_after m D (rule ls) r z = refl
shared_after m D (query top on off) r z = refl
shared_after m D (card top size) r z = stop_card (stop_number top m) D r
shared_after m D forget r z = refl
shared_after m D withdraw r z = refl
shared_after m D (keep_card top size) r z = stop_card (stop_number top m) D r
shared_after m D (one ls) r z = refl
shared_after m D (closest top size on off) r z = stop_card (stop_number top m) D r

module _ (m own : ℕ) {cells : List ℕ} {literals : List ℤ} {n : ℕ} {s₀ : Shown} {t₀ : Bytes} {u : Called} {cells' : List ℕ} {literals' : List ℤ} {t d : Bytes} where
  -- the reply is that of the call under its limit
  as_called : (c : Option Call) → ((c' : Call) → c ≡ some c' → shared_reply (ceiling_of c') m (out_of (read_at cells literals) (limited m c')).reply ≡ (out_of (read_at cells literals) (limited m c')).reply) → CalledAt cells literals (under_limit m c) n s₀ t₀ u cells' literals' t d
      → SharedAt m cells literals c n s₀ t₀ (record { turn = u.turn; visits = u.visits }) cells' literals' t d
  as_called none h w =
      record {
        within = w.turned.within;
        served = record { text = w.turned.served.text; next = w.turned.served.next; kept = w.turned.served.kept };
        shown = w.turned.shown;
        visits = w.visits;
      }
  as_called (some c) h w =
      record {
        within = w.turned.within;
        served =
            record {
              text =
                  w.turned.served.text
                  ∙ same_words m (prefix_read (read_at cells literals)) c n (out_of (read_at cells literals) (limited m c)).reply (out_of (read_at cells literals) (limited m c)).visits
                  ∙ ap (λ (r : Reply). answer_text (prefix_read (read_at cells literals)) c n (answer r (out_of (read_at cells literals) (limited m c)).visits)) (sym (h c refl));
              next = w.turned.served.next;
              kept = w.turned.served.kept;
            };
        shown =
            w.turned.shown
            ∙ same_card m (prefix_read (read_at cells literals)) c (out_of (read_at cells literals) (limited m c)).reply (card_in s₀ t₀)
            ∙ sym (shared_after m (prefix_read (read_at cells literals)) c (out_of (read_at cells literals) (limited m c)).reply (card_in s₀ t₀));
        visits = w.visits;
      }

  pub told_running : (c : Option Call) → u.stopped ≡ false → CalledAt cells literals (under_limit m c) n s₀ t₀ u cells' literals' t d → SharedAt m cells literals c n s₀ t₀ (record { turn = u.turn; visits = u.visits }) cells' literals' t d
  told_running c e w = as_called c (λ c' i. by c' i (ceiling_of c') refl) w
    where
      by : (c' : Call) → c ≡ some c' → (p : Option ℕ) → ceiling_of c' ≡ p → shared_reply p m (out_of (read_at cells literals) (limited m c')).reply ≡ (out_of (read_at cells literals) (limited m c')).reply
      by c' i none z = refl
      by c' i (some k) z =
          not_stopped (stop_number k m) (out_of (read_at cells literals) (limited m c')).reply
          (sym (limit_kept m c' (refusal_of (out_of (read_at cells literals) (limited m c')).reply) ∙ ap (λ (q : Option ℕ). stopped_at q (refusal_of (out_of (read_at cells literals) (limited m c')).reply)) z) ∙ ap (λ (q : Option Call). line_stopped (read_at cells literals) (under_limit m q)) (sym i) ∙ sym w.stopped ∙ e)

  pub told_within : (c : Option Call) → HasCeiling own c → own ≤ m → CalledAt cells literals (under_limit m c) n s₀ t₀ u cells' literals' t d → SharedAt m cells literals c n s₀ t₀ (record { turn = u.turn; visits = u.visits }) cells' literals' t d
  told_within c h few w = as_called c (λ c' i. reply_own (ceiling_of c') m (λ k z. under c' i k z) (out_of (read_at cells literals) (limited m c')).reply) w
    where
      under : (c' : Call) → c ≡ some c' → (k : ℕ) → ceiling_of c' ≡ some k → k ≤ m
      under c' i k z = omega (arith, few, subst (HasCeiling own) i h k z)

-- ---- a call that the share stopped
-- its answer tells the visits, as 37
zero_stop : eqb 0 34 ≡ true → ⊥
zero_stop q = let z : ◌≡◌ {A = ℕ} 0 34 = eqb-true 0 34 q in omega (arith, z)

refused_37 : (D : Prefix) (n k : ℕ) (c : Call) (top : ℕ) → ceiling_of c ≡ some top → answer_text D c n (answer (refused 37) k) ≡ overflow_text 37 n k
unfolding answer_text
refused_37 D n k (rule ls) top i = absurd (some_none (sym i))
refused_37 D n k (query m on off) top i = refl
refused_37 D n k (card m size) top i = refl
refused_37 D n k forget top i = absurd (some_none (sym i))
refused_37 D n k withdraw top i = absurd (some_none (sym i))
refused_37 D n k (keep_card m size) top i = refl
refused_37 D n k (one ls) top i = absurd (some_none (sym i))
refused_37 D n k (closest m size on off) top i = refl

card_37 : (D : Prefix) (n k : ℕ) (c : Call) (tb : List ℕ) → answer_text D c n (answer (card_refused 37 tb) k) ≡ overflow_text 37 n k
unfolding answer_text
card_37 D n k c tb = refl

share_text : (D : Prefix) (n k : ℕ) (c : Call) (top : ℕ) → ceiling_of c ≡ some top → (r : Reply) → eqb (number (refusal_of r)) 34 ≡ true → overflow_text 37 n k ≡ answer_text D c n (answer (stopped_as 37 r) k)
share_text D n k c top i done e = absurd (zero_stop e)
share_text D n k c top i (refused j) e = sym (ap (λ (t : Bool). answer_text D c n (answer (refused (cond t 37 j)) k)) e ∙ refused_37 D n k c top i)
share_text D n k c top i swap e = absurd (zero_stop e)
share_text D n k c top i keep e = absurd (zero_stop e)
share_text D n k c top i unsettled e = absurd (zero_stop e)
share_text D n k c top i (lines ls tb) e = absurd (zero_stop e)
share_text D n k c top i (card_refused j tb) e = sym (ap (λ (t : Bool). answer_text D c n (answer (card_refused (cond t 37 j) tb) k)) e ∙ card_37 D n k c tb)
share_text D n k c top i (found ls tb f) e = absurd (zero_stop e)

module _ (m own : ℕ) {cells : List ℕ} {literals : List ℤ} {n : ℕ} {s₀ : Shown} {t₀ : Bytes} {u : Called} {cells' : List ℕ} {literals' : List ℤ} {t d : Bytes} where
  pub told_stopped : {d' : Bytes} {r : ℕ} (c : Option Call) → HasCeiling own c → u.stopped ≡ true → m < own → CalledAt cells literals (under_limit m c) n s₀ t₀ u cells' literals' t d → Wrote d 0 (overflow_text 37 n u.visits) d' r
      → SharedAt m cells literals c n s₀ t₀ (record { turn = record { shown = u.turn.shown; length = r }; visits = u.visits }) cells' literals' t d'
  told_stopped none h e less w v = absurd (true≢false (sym e ∙ w.stopped))
  told_stopped {d'} {r} (some c) h e less w v =
      record {
        within = within v;
        served =
            record {
              text = v.is ∙ ap (λ (k : ℕ). overflow_text 37 n k) w.visits ∙ by (ceiling_of c) refl;
              next = w.turned.served.next;
              kept = w.turned.served.kept;
            };
        shown =
            w.turned.shown
            ∙ same_card m (prefix_read (read_at cells literals)) c a.reply (card_in s₀ t₀)
            ∙ sym (shared_after m (prefix_read (read_at cells literals)) c a.reply (card_in s₀ t₀));
        visits = w.visits;
      }
    where
      a : Answer
      a = out_of (read_at cells literals) (limited m c)

      ended : (p : Option ℕ) → ceiling_of c ≡ p → true ≡ stopped_at p (refusal_of a.reply)
      ended p z = sym e ∙ w.stopped ∙ limit_kept m c (refusal_of a.reply) ∙ ap (λ (q : Option ℕ). stopped_at q (refusal_of a.reply)) z

      by : (p : Option ℕ) → ceiling_of c ≡ p → overflow_text 37 n a.visits ≡ answer_text (prefix_read (read_at cells literals)) c n (answer (shared_reply (ceiling_of c) m a.reply) a.visits)
      by none z = absurd (true≢false (ended none z))
      by (some k) z =
          share_text (prefix_read (read_at cells literals)) n a.visits c k z a.reply (sym (ended (some k) z))
          ∙ sym (ap (λ (q : Option ℕ). answer_text (prefix_read (read_at cells literals)) c n (answer (shared_reply q m a.reply) a.visits)) z ∙ ap (λ (b : Bool). answer_text (prefix_read (read_at cells literals)) c n (answer (stopped_as (cond b 37 34) a.reply) a.visits)) (lt-ltb m k (omega (arith, less, h k z))))

-- ---- the call that was read, under a limit
module _ (m : ℕ) where
  as_limited : {c c' : Option Call} → c ≡ c' → under_limit m c ≡ under_limit m c'
  as_limited e = ap (under_limit m) e

  pub read_under_limit : {k : ℕ} (top : ℕ) → k ≡ min top m → (c : Option Call) (q : CallLine) (lits : List ℤ) → CallUnder top c q lits → CallUnder k (under_limit m c) q lits
  read_under_limit top e c (line.Rule n) lits (ls, i, h) = (ls, as_limited i, h)
  read_under_limit top e c (line.Query n) lits (ls, i, h) = (ls, as_limited i ∙ ap (λ (j : ℕ). some (query j (named true ls) (named false ls))) (sym e), h)
  read_under_limit top e c (line.Card size) lits i = as_limited i ∙ ap (λ (j : ℕ). some (card j size)) (sym e)
  read_under_limit top e c (line.KeepCard size) lits i = as_limited i ∙ ap (λ (j : ℕ). some (keep_card j size)) (sym e)
  read_under_limit top e c line.Forget lits i = as_limited i
  read_under_limit top e c line.Withdraw lits i = as_limited i
  read_under_limit top e c (line.One n) lits (ls, i, h) = (ls, as_limited i, h)
  read_under_limit top e c (line.Closest n size) lits (ls, i, h) = (ls, as_limited i ∙ ap (λ (j : ℕ). some (closest j size (named true ls) (named false ls))) (sym e), h)

has_ceiling : (top : ℕ) (c : Option Call) (c' : Call) → c ≡ some c' → ((k : ℕ) → ceiling_of c' ≡ some k → k ≡ top) → HasCeiling top c
has_ceiling top c c' i h = subst (HasCeiling top) (sym i) h

some_is : (top k : ℕ) → some top ≡ some k → k ≡ top
some_is top k e = cc

pub read_ceiling : (top : ℕ) (c : Option Call) (q : CallLine) (lits : List ℤ) → CallUnder top c q lits → HasCeiling top c
read_ceiling top c (line.Rule n) lits (ls, i, h) = has_ceiling top c (rule ls) i (λ k z. absurd (some_none (sym z)))
read_ceiling top c (line.Query n) lits (ls, i, h) = has_ceiling top c (query top (named true ls) (named false ls)) i (some_is top)
read_ceiling top c (line.Card size) lits i = has_ceiling top c (card top size) i (some_is top)
read_ceiling top c (line.KeepCard size) lits i = has_ceiling top c (keep_card top size) i (some_is top)
read_ceiling top c line.Forget lits i = has_ceiling top c forget i (λ k z. absurd (some_none (sym z)))
read_ceiling top c line.Withdraw lits i = has_ceiling top c withdraw i (λ k z. absurd (some_none (sym z)))
read_ceiling top c (line.One n) lits (ls, i, h) = has_ceiling top c (one ls) i (λ k z. absurd (some_none (sym z)))
read_ceiling top c (line.Closest n size) lits (ls, i, h) = has_ceiling top c (closest top size (named true ls) (named false ls)) i (some_is top)

-- under a share that is no lower than its ceiling the call is its own
pub limit_none : (m own : ℕ) (c : Option Call) → HasCeiling own c → own ≤ m → under_limit m c ≡ c
limit_none m own none h few = refl
limit_none m own (some c) h few = ap some (limited_same m c (λ k z. omega (arith, few, h k z)))

-- ---- the turn of a line that is a call, alone
pub turned_alone : {cells : List ℕ} {literals : List ℤ} {n : ℕ} {s₀ : Shown} {t₀ : Bytes} {u : Called} {r : Turn} {cells' : List ℕ} {literals' : List ℤ} {t d d' : Bytes} (m own : ℕ) (c : Option Call) → HasCeiling own c → own ≤ m
    → CalledAt cells literals (under_limit m c) n s₀ t₀ u cells' literals' t d → r ≡ u.turn → d' ≡ d → TurnedAt cells literals c n s₀ t₀ r cells' literals' t d'
turned_alone {cells} {literals} {n} {s₀} {t₀} {u} {r} {cells'} {literals'} {t} {d} {d'} m own c h few w e i =
    subst (λ (v : Turn). TurnedAt cells literals c n s₀ t₀ v cells' literals' t d') (sym e)
    (subst (λ (b : Bytes). TurnedAt cells literals c n s₀ t₀ u.turn cells' literals' t b) (sym i)
    (subst (λ (o : Option Call). TurnedAt cells literals o n s₀ t₀ u.turn cells' literals' t d) (limit_none m own c h few) w.turned))

-- a line that is no call
pub none_shared : {cells : List ℕ} {literals : List ℤ} {n : ℕ} {s₀ : Shown} {t₀ : Bytes} {r : Turn} {t d : Bytes} (m : ℕ) (c : Option Call) → c ≡ none → TurnedAt cells literals none n s₀ t₀ r cells literals t d
    → SharedAt m cells literals c n s₀ t₀ (record { turn = r; visits = 0 }) cells literals t d
none_shared {cells} {literals} {n} {s₀} {t₀} {r} {t} {d} m c e u =
    subst (λ (o : Option Call). SharedAt m cells literals o n s₀ t₀ (record { turn = r; visits = 0 }) cells literals t d) (sym e)
    (record { within = u.within; served = record { text = u.served.text; next = u.served.next; kept = u.served.kept }; shown = u.shown; visits = refl })
