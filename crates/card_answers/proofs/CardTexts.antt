-- The text of a card, from what its call told of it in numbers and from the table of its lines, however the state was read.
use Prim.Native.Nat.{ℕ, suc, ◌*◌, ◌≤◌, ◌<◌, ◌^◌}
use native.Mathlib.Omega.{arith}
use mathlib.Core.Path.{◌≡◌, refl, sym, ap, subst, ◌∙◌}
use mathlib.Core.Logic.{◌⊎◌, inl, inr}
use mathlib.Core.Bool.{Bool, true, false, cond}
use mathlib.Core.List.{List, []}
use mathlib.Core.Option.{Option, none, some}
use borrow.Author.Tests.{leb-true}
use lib.ListN.{length}
use lib.Dec.{leb}
use Rattle.std.specs.Prelude.{Result, Ok, Err}
use Rattle.qbf.specs.Formula.{Limits, Prefix, Clause, quantifiers}
use Rattle.qbf.specs.Truth.{free_variables}
use Rattle.qbf.specs.Learning.{LearningResult, learning_search}
use Rattle.qbf.specs.Ceiling.{Attempt, finished, stopped, search_within}
use Rattle.qbf.specs.Card.{table_of, zero_table}
use Rattle.qbf.specs.Calls.{Call, card_of, Reply, lines, card_refused, Answer, refusal, card_reply_of, attempt_answer, learning_card, guarded, numbers_are_ok, State as Read, well_formed}
use Rattle.theory.proofs.AcceptedRule.{some_none}
use Rattle.theory.proofs.Ceiling.{Any, Within, search_within_any}
use Rattle.theory.proofs.WellFormed.{state_facts, numbers_ok, numbers_capped}
use Rattle.layout.specs.Output.{card_text}
use Rattle.layout.specs.Program.{table_bytes}
use Rattle.layout.specs.Session.{answer_text, reply_printed, lists_yes, search_refusal_text}
use Rattle.serving.specs.Serves.{Said, said, said_reply, said_of, number, out_of}
use Rattle.replies.specs.Replies.{card_said}
use Rattle.refusal.specs.declared.Refusal.{Refusal}
use Rattle.refusal.specs.Refusal.{number_of}
use Rattle.writer.specs.Rows.{card_rows}
use Rattle.writer.proofs.Shown.{card_shown, card_most_under, four_digits}
use Rattle.answer_text.specs.Room.{answer_bytes}
use Rattle.answer_text.proofs.Room.{longest_card}
use Rattle.card_answers.specs.Names.{NamesOf}
use Rattle.card_answers.specs.Lines.{prefix_read, line_answer}
use Rattle.card_answers.proofs.FreeLines.{card_lines, lines_within, one_line}

-- ---- a card by the verdict of its lines
pub card_called : (top : ℕ) (p : Bool) (size : ℕ) (y : Read) → (guarded true y (card_of p top size)).out ≡ (learning_card p y.formula y.store top size).out
card_called top true size y = refl
card_called top false size y = refl

pub card_refusal : (top : ℕ) (p : Bool) (size n : ℕ) → refusal n (card_of p top size) ≡ card_refused n (zero_table size)
card_refusal top true size n = refl
card_refusal top false size n = refl

pub lists_yes_lem : (top : ℕ) (p : Bool) (size : ℕ) → lists_yes (card_of p top size) ≡ p
lists_yes_lem top true size = refl
lists_yes_lem top false size = refl

abbrev pub Refused : Reply → Type 0
Refused r = (n : ℕ) × (tb : List ℕ) × (r ≡ card_refused (suc n) tb)

-- a card's answer is a refusal with a number, or lines
module _ (top : ℕ) (p : Bool) (size : ℕ) where
  abbrev pub Listed : Read → Reply → Type 0
  Listed y r = (r ≡ lines (card_lines y p) (table_of (free_variables y.formula.prefix) size (card_lines y p))) × (length (card_lines y p) * free_variables y.formula.prefix ≤ size)

  pub formed_cases : (y : Read) → Refused (guarded true y (card_of p top size)).out.reply ⊎ Listed y (guarded true y (card_of p top size)).out.reply
  formed_cases y =
      subst (λ (a : Answer). Refused a.reply ⊎ Listed y a.reply) (sym (card_called top p size y))
      (by_end (search_within L D R top (quantifiers D) [] y.store) (search_within_any L D R top (quantifiers D) [] y.store))
    where
      L : Limits
      L = y.formula.limits

      D : Prefix
      D = y.formula.prefix

      R : List Clause
      R = y.formula.clauses

      shown : Reply
      shown = lines (card_lines y p) (table_of (free_variables y.formula.prefix) size (card_lines y p))

      by : (t : Bool) → leb (length (card_lines y p) * free_variables y.formula.prefix) size ≡ t
          → Refused (cond t shown (card_refused 21 (zero_table size))) ⊎ Listed y (cond t shown (card_refused 21 (zero_table size)))
      by true e = inr (refl, leb-true (length (card_lines y p) * free_variables y.formula.prefix) size e)
      by false e = inl (20, zero_table size, refl)

      tell : Attempt → Reply
      tell t = (attempt_answer (card_refused 34 (zero_table size)) top (card_reply_of p D size) t).out.reply

      -- the search stopped, or is the full one
      by_end : (t : Attempt) → Within Any top (learning_search L D R (quantifiers D) [] y.store) t → Refused (tell t) ⊎ Listed y (tell t)
      by_end (stopped st) w = inl (33, zero_table size, refl)
      by_end (finished o) w =
          subst (λ (z : LearningResult). Refused (tell (finished z)) ⊎ Listed y (tell (finished z))) (sym w.0)
          (by (leb (length (card_lines y p) * free_variables y.formula.prefix) size) refl)

  abbrev pub ListedBy : Option Read → Reply → Type 0
  ListedBy o r = (y : Read) × (o ≡ some y) × (well_formed y ≡ true) × Listed y r

  pub card_cases : (o : Option Read) → Refused (out_of o (card_of p top size)).reply ⊎ ListedBy o (out_of o (card_of p top size)).reply
  card_cases none = inl (21, zero_table size, card_refusal top p size 22)
  card_cases (some y) = by (well_formed y) refl
    where
      by : (g : Bool) → well_formed y ≡ g → Refused (guarded g y (card_of p top size)).out.reply ⊎ ListedBy (some y) (guarded g y (card_of p top size)).out.reply
      by false e = inl (21, zero_table size, card_refusal top p size 22)
      by true e = go (formed_cases y)
        where
          go : Refused (guarded true y (card_of p top size)).out.reply ⊎ Listed y (guarded true y (card_of p top size)).out.reply → Refused (guarded true y (card_of p top size)).out.reply ⊎ ListedBy (some y) (guarded true y (card_of p top size)).out.reply
          go (inl r) = inl r
          go (inr l) = inr (y, refl, e, l)

-- ---- an answer in numbers and its text
pub said_by : (a : Answer) (r : Reply) → a.reply ≡ r → said_of a ≡ said_reply r a.visits
said_by a r e = ap (λ (q : Reply). said_reply q a.visits) e

pub text_by : (D : Prefix) (c : Call) (line : ℕ) (a : Answer) (r : Reply) → a.reply ≡ r → answer_text D c line a ≡ reply_printed D c line r a.visits
unfolding answer_text
text_by D c line a r e = ap (λ (q : Reply). reply_printed D c line q a.visits) e

-- ---- a card that is refused
pub refused_text : (top : ℕ) (v : Bool) (o : Option Read) (line : ℕ) (tb : List ℕ) (m : Refusal) (p : Result ℕ Refusal) (k : ℕ) → card_said p k tb ≡ said_of (out_of o (card_of v top (length tb))) → p ≡ Err m
    → search_refusal_text (number_of m) line k ≡ line_answer o line (some (card_of v top (length tb)))
refused_text top v o line tb m p k s is = by (card_cases top v (length tb) o)
  where
    c : Call
    c = card_of v top (length tb)

    a : Answer
    a = out_of o c

    told : said (some (number_of m)) 0 0 k tb ≡ said_of a
    told = sym (ap (λ (q : Result ℕ Refusal). card_said q k tb) is) ∙ s

    by : Refused a.reply ⊎ ListedBy top v (length tb) o a.reply → search_refusal_text (number_of m) line k ≡ answer_text (prefix_read o) c line a
    by (inl (n, tb', e)) =
        ap (λ (z : Said). search_refusal_text (number z.refusal) line z.visits) (told ∙ said_by a (card_refused (suc n) tb') e) ∙ sym (text_by (prefix_read o) c line a (card_refused (suc n) tb') e)
    by (inr (y, i, g, l)) = absurd (some_none (ap (λ (z : Said). z.refusal) (told ∙ said_by a (lines (card_lines y v) (table_of (free_variables y.formula.prefix) (length tb) (card_lines y v))) l.0)))

-- what the lines' table owes to the writer
pub shown_said : (a : Said) (tb : List ℕ) (n : ℕ) (p : Result ℕ Refusal) (k : ℕ) → card_said p k tb ≡ a → p ≡ Ok n → said none 0 n k tb ≡ a
shown_said a tb n p k s is = sym (ap (λ (q : Result ℕ Refusal). card_said q k tb) is) ∙ s

-- ---- the card that the table shows
pub record CardWritten (top : ℕ) (p : Bool) (o : Option Read) (numbers tb : List ℕ) (n k f : ℕ) : Type 0 where
  pub named : f < length numbers
  pub room : n * f ≤ length tb
  pub short : length (card_rows p f numbers tb n k) ≤ answer_bytes
  pub text : (line : ℕ) → card_rows p f numbers tb n k ≡ line_answer o line (some (card_of p top (length tb)))

module _ (top : ℕ) (p : Bool) (o : Option Read) (tb : List ℕ) (n k : ℕ) (s : said none 0 n k tb ≡ said_of (out_of o (card_of p top (length tb)))) (bound : length tb ≤ table_bytes) (visits : k < 2 ^ 64) (numbers : List ℕ) (f : ℕ) where
  abbrev size : ℕ
  size = length tb

  abbrev c : Call
  c = card_of p top size

  abbrev a : Answer
  a = out_of o c

  module _ (y : Read) (i : o ≡ some y) (formed : well_formed y ≡ true) (names : NamesOf y.formula.prefix numbers f) (listed : Listed top p size y a.reply) where
    abbrev D : Prefix
    D = y.formula.prefix

    abbrev ls : List (List Bool)
    ls = card_lines y p

    abbrev reply : Reply
    reply = lines ls (table_of (free_variables D) size ls)

    told : said none 0 n k tb ≡ said none 0 (length ls) a.visits (table_of (free_variables D) size ls)
    told = s ∙ said_by a reply listed.0

    count : n ≡ length ls
    count = ap (λ (z : Said). z.lines) told

    fine : numbers_are_ok y.formula.limits [] D ≡ true
    fine = numbers_ok y.formula (state_facts y formed).formula_ok

    rows_are : card_rows p f numbers tb n k ≡ card_text p D ls a.visits
    rows_are =
        (λ j. card_rows p (names.frees j) numbers (told j).table (told j).lines (told j).visits)
        ∙ card_shown y.formula.limits D numbers (free_variables D) fine names.shown (omega (arith, names.within, names.frees)) p ls size a.visits (lines_within y formed p)

    visits_small : a.visits < 10 ^ 20
    visits_small = let q : k ≡ a.visits = ap (λ (z : Said). z.visits) told in omega (arith, q, visits)

    written : CardWritten top p o numbers tb n k f
    written =
        record {
          named = names.named;
          room = subst (λ (m : ℕ). m ≤ size) (λ j. sym count j * sym names.frees j) listed.1;
          short =
              omega (
                arith,
                ap length rows_are,
                card_most_under y.formula.limits 4 (four_digits y.formula.limits (numbers_capped y.formula (state_facts y formed).formula_ok)) D fine p (free_variables D) ls a.visits (lines_within y formed p) visits_small,
                longest_card (length ls) (free_variables D) size listed.1 bound (one_line y formed p),
              );
          text = λ line.
              rows_are
              ∙ ap (λ (q : Bool). card_text q D ls a.visits) (sym (lists_yes_lem top p size))
              ∙ sym (text_by D c line a reply listed.0)
              ∙ ap (λ (z : Option Read). answer_text (prefix_read z) c line a) (sym i);
        }

  pub card_written : ((y : Read) → o ≡ some y → well_formed y ≡ true → NamesOf y.formula.prefix numbers f) → CardWritten top p o numbers tb n k f
  card_written names = by (card_cases top p size o)
    where
      by : Refused a.reply ⊎ ListedBy top p size o a.reply → CardWritten top p o numbers tb n k f
      by (inl (m, tb', e)) = absurd (some_none (sym (ap (λ (z : Said). z.refusal) (s ∙ said_by a (card_refused (suc m) tb') e))))
      by (inr (y, i, g, l)) = written y i g (names y i g) l
