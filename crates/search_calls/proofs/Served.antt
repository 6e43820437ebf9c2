-- The call for the closest reading on a state in two lent tables, from what the card on the same state was served with.
use Prim.Native.Nat.{ℕ, ◌*◌, ◌-◌, ◌+◌, ◌≤◌}
use native.Mathlib.Omega.{arith}
use mathlib.Core.Path.{◌≡◌, refl, sym, ap, ◌∙◌, subst}
use mathlib.Core.Logic.{◌⊎◌, inl, inr}
use mathlib.Core.Bool.{Bool, true, false, cond}
use mathlib.Core.List.{List, [], ◌++◌, map}
use mathlib.Core.Option.{Option, none, some}
use lib.ListN.{length, take, drop, length-append, length-drop, length-map}
use lib.Dec.{leb}
use borrow.Author.Tests.{leb-true}
use Rattle.qbf.specs.Formula.{Formula, Literal, Node, most_free, quantifiers}
use Rattle.qbf.specs.Truth.{outline, decided_nodes, select, free_variables}
use Rattle.qbf.specs.Ceiling.{Attempt, finished, stopped, search_within}
use Rattle.qbf.specs.Card.{Mem, byte_of, table_of, zero_table}
use Rattle.qbf.specs.Closest.{Found, closest_in}
use Rattle.qbf.specs.Calls.{Call, card, closest, Reply, lines, card_refused, Answer, start_node, closest_fault, given, from_card, found_reply, closest_answer, card_reply_of, attempt_answer, learning_card, learning_closest, guarded, well_formed, State as Read}
use Rattle.qbf.specs.Demands.{AfterSearch, refusal_of}
use Rattle.theory.proofs.AcceptedRule.{some_none}
use Rattle.theory.proofs.Starting.{start_length}
use Rattle.theory.proofs.ShortLines.{LinesHeld, card_held}
use Rattle.cover.proofs.Bytes.{table_length, zeros_length}
use Rattle.rule_calls.specs.Served.{Lists, read_lists}
use Rattle.serving.specs.Serves.{Said, said, said_with, said_reply, said_of, out_of, next_of, ServesBy}
use Rattle.serving.proofs.Calls.{Passes, moved_on_read, unchanged_read}
use Rattle.closest.specs.Table.{values_in, lines_in, reading_after}
use Rattle.closest.proofs.Bytes.{values_shown, lines_shown}
use Rattle.closest_call.specs.Nearest.{nearest_said, returned, found_said, padded}
use Rattle.std.specs.Prelude.{Result}
use Rattle.refusal.specs.declared.Refusal.{Refusal}
use Rattle.closest_call.proofs.Telling.{said_returned}
use Rattle.closest_call.proofs.Padded.{reading_padded}

-- on two tables
abbrev pub Serves : Lists → Call → Said → Lists → Type 0
Serves x c a y = ServesBy read_lists x c a y

-- what the call owes: what it says of the answer, and every byte of the lent reading
abbrev pub Owed : ℕ → Lists → Call → Result ℕ Refusal → ℕ → ℕ → List ℕ → List ℕ → Lists → Type 0
Owed f x c q n k tb rd y =
    Serves x c (nearest_said q n k tb (take f rd)) y × (rd ≡ padded (returned q (take f rd)))

-- a refusal returns no reading
pub refused_owed : (f : ℕ) (x : Lists) (c : Call) (y : Lists) (q : Result ℕ Refusal) (n k m j : ℕ) (tb rd : List ℕ) → ((ub bytes : List ℕ) → nearest_said q n k ub bytes ≡ said (some m) 0 0 j ub) → rd ≡ zero_table most_free
    → Serves x c (said (some m) 0 0 j tb) y → Owed f x c q n k tb rd y
refused_owed f x c y q n k m j tb rd told z s =
    let e = told tb (take f rd) in
    (subst (λ (a : Said). Serves x c a y) (sym e) s, z ∙ ap padded (sym (ap (λ (a : Said). a.reading) e) ∙ said_returned q n k tb (take f rd)))

module _ (x : Lists) (u : Read) (is_read : read_lists x ≡ some u) (formed : well_formed u ≡ true) (top size : ℕ) (on off : List Literal) where
  abbrev b : Formula
  b = u.formula

  abbrev f : ℕ
  f = free_variables u.formula.prefix

  abbrev t : Node
  t = start_node on u.formula.prefix

  abbrev call : Call
  call = closest top size on off

  -- ---- refused with 8: the state is as given
  pub refused_closest : (zeros : List ℕ) → zeros ≡ zero_table size → closest_fault b on off ≡ some 8 → Serves x call (said (some 8) 0 0 0 zeros) x
  refused_closest zeros z e =
      subst (λ (a : Said). Serves x call a x) (ap (λ (o : Option ℕ). said_of (learning_closest o b u.store top size on).out) e ∙ sym (ap (said (some 8) 0 0 0) z))
      (unchanged_read read_lists x call is_read formed (ap (λ (o : Option ℕ). record { formula = b; store = (learning_closest o b u.store top size on).store }) e))

  -- ---- what the card on the same state answered
  abbrev made : Answer
  made = (learning_card true b u.store top size).out

  made_is : out_of (read_lists x) (card top size) ≡ made
  made_is =
      ap (λ (o : Option Read). out_of o (card top size)) is_read
      ∙ ap (λ (g : Bool). (guarded g u (card top size)).out) formed

  next_is : next_of (read_lists x) (card top size) ≡ some (record { formula = b; store = (learning_card true b u.store top size).store })
  next_is =
      ap (λ (o : Option Read). next_of o (card top size)) is_read
      ∙ ap (λ (g : Bool). some (guarded g u (card top size)).state) formed

  -- it has lines, or is refused after the search
  abbrev Made : Reply → Type 0
  Made r = ((ls : List Node) × (r ≡ lines ls (table_of f size ls))) ⊎ ((n : ℕ) × (r ≡ card_refused n (zero_table size)) × AfterSearch n)

  made_by : (z : Attempt) → Made (attempt_answer (card_refused 34 (zero_table size)) top (card_reply_of true u.formula.prefix size) z).out.reply
  made_by (stopped st) = inr (34, refl, inr (inl refl))
  made_by (finished w) = fit (leb (length ls * f) size)
    where
      ls : List Node
      ls = select true (decided_nodes [] (outline w.outcome))

      fit : (g : Bool) → Made (cond g (lines ls (table_of f size ls)) (card_refused 21 (zero_table size)))
      fit true = inl (ls, refl)
      fit false = inr (21, refl, inl refl)

  made_cases : Made made.reply
  made_cases = made_by (search_within b.limits u.formula.prefix b.clauses top (quantifiers u.formula.prefix) [] u.store)

  held : (ls : List Node) → made.reply ≡ lines ls (table_of f size ls) → LinesHeld f size (lines ls (table_of f size ls))
  held ls e = subst (LinesHeld f size) e (subst (λ (g : Bool). LinesHeld f size (guarded g u (card top size)).out.reply) formed (card_held u formed top size))

  -- so the call answers what it makes of that, and leaves the state that the card left
  passes : Passes (refusal_of (from_card size t made.reply))
  passes = by made_cases
    where
      found : (ls : List Node) (o : Option Found) → Passes (refusal_of (found_reply size ls (table_of f size ls) o))
      found ls none = inr (inr refl)
      found ls (some r) = tt

      by : Made made.reply → Passes (refusal_of (from_card size t made.reply))
      by (inl (ls, e)) = subst (λ (r : Reply). Passes (refusal_of (from_card size t r))) (sym e) (found ls (closest_in ls t))
      by (inr (n, e, h)) = subst (λ (r : Reply). Passes (refusal_of (from_card size t r))) (sym e) h

  from_card_lem : {a : Said} {y : Lists} → Serves x (card top size) a y → closest_fault b on off ≡ none → Serves x call (said_of (closest_answer size t made)) y
  from_card_lem {a} {y} s fine =
      subst (λ (q : Answer). Serves x call (said_of q) y) out_is
      (moved_on_read read_lists x call is_read formed y (s.next ∙ next_is ∙ ap some (sym state_is)) (subst (λ (q : Answer). Passes (refusal_of q.reply)) (sym out_is) passes))
    where
      out_is : (guarded true u call).out ≡ closest_answer size t made
      out_is = ap (λ (o : Option ℕ). (learning_closest o b u.store top size on).out) fine

      state_is : (guarded true u call).state ≡ record { formula = b; store = (learning_card true b u.store top size).store }
      state_is = ap (λ (o : Option ℕ). record { formula = b; store = (learning_closest o b u.store top size on).store }) fine

  -- ---- the card served with so many lines
  module _ {n k : ℕ} {tb : List ℕ} {y : Lists} (s : Serves x (card top size) (said none 0 n k tb) y) where
    told_lines : said none 0 n k tb ≡ said_reply made.reply made.visits
    told_lines = s.answered ∙ ap said_of made_is

    -- they are the card's, and the table holds them
    pub record Lined (ls : List Node) : Type 0 where
      pub is : made.reply ≡ lines ls (table_of f size ls)
      pub counted : n ≡ length ls
      pub shown : tb ≡ table_of f size ls
      pub visited : k ≡ made.visits
      pub short : (s : Node) → Mem s ls → length s ≤ f
      pub fits : length ls * f ≤ size

    lined : (ls : List Node) × Lined ls
    lined = by made_cases
      where
        by : Made made.reply → (ls : List Node) × Lined ls
        by (inl (ls, e)) =
            let told : said none 0 n k tb ≡ said_reply (lines ls (table_of f size ls)) made.visits = told_lines ∙ ap (λ (r : Reply). said_reply r made.visits) e in (
              ls,
              record {
                is = e;
                counted = ap (λ (a : Said). a.lines) told;
                shown = ap (λ (a : Said). a.table) told;
                visited = ap (λ (a : Said). a.visits) told;
                short = (held ls e).0;
                fits = leb-true (length ls * f) size (held ls e).1;
              },
            )
        by (inr (m, e, h)) = absurd (some_none (sym (ap (λ (a : Said). a.refusal) (told_lines ∙ ap (λ (r : Reply). said_reply r made.visits) e))))

    pub table_sized : length tb ≡ size
    table_sized = let w = lined.1 in ap length w.shown ∙ table_length f size lined.0 w.short w.fits

    pub lines_within : {free : ℕ} → free ≡ f → n * free ≤ length tb
    lines_within {free} e = let w = lined.1 in subst (λ (m : ℕ). m ≤ length tb) (λ i. sym w.counted i * sym e i) (omega (arith, w.fits, table_sized))

    -- the answer by the closest reading of the lines that the table holds
    pub nearest_served : closest_fault b on off ≡ none → {bytes : List ℕ} → bytes ≡ map byte_of t → {a : Said} → a ≡ found_said (closest_in (lines_in (length bytes) n tb) (values_in bytes)) n k tb → Serves x call a y
    nearest_served fine {bytes} g {a} told = subst (λ (q : Said). Serves x call q y) (sym (told ∙ said_is)) (from_card_lem s fine)
      where
        ls : List Node
        ls = lined.0

        w : Lined ls
        w = lined.1

        lines_are : lines_in (length bytes) n tb ≡ ls
        lines_are = (λ i. lines_in ((ap length g ∙ length-map t byte_of ∙ start_length on u.formula.prefix) i) (w.counted i) (w.shown i)) ∙ lines_shown f size ls w.short

        values_are : values_in bytes ≡ t
        values_are = ap values_in g ∙ values_shown t

        same : (o : Option Found) → found_said o n k tb ≡ said_reply (found_reply size ls (table_of f size ls) o) made.visits
        same none = (λ i. said (some 35) 0 0 (w.visited i) (zero_table (table_sized i)))
        same (some r) = (λ i. said_with none 0 (w.counted i) (w.visited i) (w.shown i) (map byte_of r.reading) r.number)

        said_is : found_said (closest_in (lines_in (length bytes) n tb) (values_in bytes)) n k tb ≡ said_of (closest_answer size t made)
        said_is =
            (λ i. found_said (closest_in (lines_are i) (values_are i)) n k tb)
            ∙ same (closest_in ls t)
            ∙ ap (λ (r : Reply). said_reply (from_card size t r) made.visits) (sym w.is)

    -- .. written over the first of the zeros
    abbrev nearest_by : List ℕ → Option Found
    nearest_by bytes = closest_in (lines_in (length bytes) n tb) (values_in bytes)

    pub found_owed : closest_fault b on off ≡ none → (bytes : List ℕ) → bytes ≡ map byte_of t → (old rd : List ℕ) → old ≡ zero_table most_free → f ≤ most_free → length rd ≡ most_free
        → (q : Result ℕ Refusal) (n' k' : ℕ) (tb' : List ℕ) → nearest_said q n' k' tb' (take (length bytes) rd) ≡ found_said (nearest_by bytes) n k tb
        → rd ≡ reading_after (nearest_by bytes) (take (length bytes) old) ++ drop (length bytes) old → Owed f x call q n' k' tb' rd y
    found_owed fine bytes g old rd z small full q n' k' tb' told is =
        (nearest_served fine g told', reading_padded f (nearest_by bytes) n k tb part rd small long refl written ∙ ap padded (sym (ap (λ (a : Said). a.reading) told') ∙ said_returned q n' k' tb' (take f rd)))
      where
        len : length bytes ≡ f
        len = ap length g ∙ length-map t byte_of ∙ start_length on u.formula.prefix

        told' : nearest_said q n' k' tb' (take f rd) ≡ found_said (nearest_by bytes) n k tb
        told' = ap (λ (i : ℕ). nearest_said q n' k' tb' (take i rd)) (sym len) ∙ told

        part : List ℕ
        part = reading_after (nearest_by bytes) (take f (zero_table most_free))

        written : rd ≡ part ++ drop f (zero_table most_free)
        written = is ∙ (λ i. reading_after (nearest_by bytes) (take (len i) (z i)) ++ drop (len i) (z i))

        long : length part ≡ f
        long = omega (arith, length-append part (drop f (zero_table most_free)), length-drop f (zero_table most_free), zeros_length most_free, ap length written, full, small)

    -- the given reading and the lent one are as long as the search over the lines asks
    pub lines_ready : {bytes rd : List ℕ} → bytes ≡ map byte_of t → rd ≡ zero_table most_free → f ≤ most_free → (n * length bytes ≤ length tb) × (length bytes ≤ length rd)
    lines_ready {bytes} {rd} g z small = let len = ap length g ∙ length-map t byte_of ∙ start_length on u.formula.prefix in (lines_within len, omega (arith, len, small, ap length z, zeros_length most_free))

  -- ---- the card refused: its refusal is handed on
  pub refusal_served : closest_fault b on off ≡ none → (m k : ℕ) (tb : List ℕ) (y : Lists) → Serves x (card top size) (said (some m) 0 0 k tb) y → Serves x call (said (some m) 0 0 k tb) y
  refusal_served fine m k tb y s = subst (λ (q : Said). Serves x call q y) (sym (by made_cases)) (from_card_lem s fine)
    where
      at : {r : Reply} → made.reply ≡ r → said (some m) 0 0 k tb ≡ said_reply r made.visits
      at e = s.answered ∙ ap said_of made_is ∙ ap (λ (r : Reply). said_reply r made.visits) e

      by : Made made.reply → said (some m) 0 0 k tb ≡ said_of (closest_answer size t made)
      by (inl (ls, e)) = absurd (some_none (ap (λ (q : Said). q.refusal) (at e)))
      by (inr (n, e, h)) = at e ∙ ap (λ (r : Reply). said_reply (from_card size t r) made.visits) (sym e)
