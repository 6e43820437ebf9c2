-- The calls on a state in two lent tables, from what was answered on it as it was checked and what was learned.
use Prim.Native.Nat.{ℕ, ◌≤◌}
use mathlib.Core.Path.{◌≡◌, refl, sym, ap, subst, ◌∙◌}
use mathlib.Core.Bool.{Bool, true, false}
use mathlib.Core.List.{List}
use mathlib.Core.Option.{Option, some}
use lib.IntN.{ℤ}
use lib.ListN.{get_or}
use lib.Dec.{leb}
use borrow.Author.Tests.{leb-true}
use Rattle.std.specs.Prelude.{Some, None}
use Rattle.std.specs.Prelude.{Option as Maybe}
use Rattle.qbf.specs.Formula.{Limits, paper, highest}
use Rattle.qbf.specs.Card.{zero_table}
use Rattle.qbf.specs.Calls.{Call, card, keep_card, card_of, Answer, answer, refusal, guarded, State as Read}
use Rattle.qbf.specs.Demands.{refusal_of}
use Rattle.theory.proofs.Basics.{and_left}
use Rattle.state.specs.State.{State}
use Rattle.state.specs.Reading.{own, at_most, entries, state_under, read_under, roomy}
use Rattle.state.proofs.Rooms.{room_is}
use Rattle.serving.specs.Serves.{Said, said, said_of, out_of, next_of}
use Rattle.state_parts.specs.declared.limits.Layout.{Layout}
use Rattle.state_parts.specs.Parts.{limits_of, parts_under, state_at, read_at, valid_at}
use Rattle.state_parts.specs.Layout.{limits_in}
use Rattle.state_parts.proofs.Accepted.{read_roomy, accepted_whole, valid_accepted, valid_state, valid_read}
use Rattle.state_parts.proofs.Written.{whole_exact, exact_roomy}
use Rattle.rule_calls.specs.ServesAt.{ServesAt}
use Rattle.rule_calls.specs.StaysAt.{search_writes, StaysAt}
use Rattle.rule_calls.proofs.Calls.{capped, malformed, unchanged}
use Rattle.rule_calls.proofs.Stays.{left_stays}
use Rattle.search_entry.specs.declared.Learned.{Learned}
use Rattle.asking.specs.declared.checked.Checked.{Checked}
use Rattle.asking.specs.Answered.{called, Answered, state_of}
use Rattle.asking.proofs.Accepting.{facts}
use Rattle.asking.proofs.Storing.{clauses_narrow, cubes_narrow, stored_back}
use Rattle.search_calls.specs.Checked.{ShownAt, CheckedOf}
use Rattle.search_calls.specs.Back.{Writable, BackAt, BackWithin}
use Rattle.search_calls.proofs.Checks.{valid_shown, accepted_in, answered_in, own_at}

-- a malformed state: 22; a card's table is zero
pub malformed_as : (cells : List ℕ) (literals : List ℤ) (c : Call) → valid_at cells literals ≡ false → {a : Said} → a ≡ said_of (answer (refusal 22 c) 0) → ServesAt cells literals c a cells literals
malformed_as cells literals c e {a} q = subst (λ (u : Said). ServesAt cells literals c u cells literals) (sym q) (malformed cells literals c e)

pub malformed_card : (cells : List ℕ) (literals : List ℤ) (p : Bool) (top size : ℕ) (zeros : List ℕ) → zeros ≡ zero_table size → valid_at cells literals ≡ false → {a : Said} → a ≡ said (some 22) 0 0 0 zeros
    → ServesAt cells literals (card_of p top size) a cells literals
malformed_card cells literals p top size zeros z e {a} q = by p
  where
    by : (d : Bool) → ServesAt cells literals (card_of d top size) a cells literals
    by true = malformed_as cells literals (card top size) e (q ∙ ap (said (some 22) 0 0 0) z)
    by false = malformed_as cells literals (keep_card top size) e (q ∙ ap (said (some 22) 0 0 0) z)

module _ (cells : List ℕ) (literals : List ℤ) (c : Call) (a : Said) (v : valid_at cells literals ≡ true) where
  abbrev L : Limits
  L = limits_of cells

  abbrev x : State
  x = state_at cells literals

  abbrev y : Read
  y = state_under L x

  out_is : out_of (read_at cells literals) c ≡ (called L x c).out
  out_is = ap (λ (o : Option Read). out_of o c) (valid_read cells literals v) ∙ ap (λ (g : Bool). (guarded g y c).out) (valid_state cells literals v).facts.formed

  next_is : next_of (read_at cells literals) c ≡ some (called L x c).state
  next_is = ap (λ (o : Option Read). next_of o c) (valid_read cells literals v) ∙ ap (λ (g : Bool). some (guarded g y c).state) (valid_state cells literals v).facts.formed

  -- nothing was learned
  same : Answered L x c a None → ServesAt cells literals c a cells literals
  same h = subst (λ (q : Said). ServesAt cells literals c q cells literals) (sym h.said) (unchanged cells literals c v h.left)

  -- it was written back
  kept : (l : Learned) → Answered L x c a (Some l) → {cells' : List ℕ} {literals' : List ℤ} → BackAt L cells literals l cells' literals' → ServesAt cells literals c a cells' literals'
  unfolding read_under
  kept l h {cells'} {literals'} b =
      record {
        answered = h.said ∙ sym (ap said_of out_is);
        next = read_after ∙ sym next_is;
        kept = λ n q k. absurd (k (h.left.searched n (sym (ap (λ (r : Answer). refusal_of r.reply) out_is) ∙ q)));
      }
    where
      low : L.numbers ≤ highest.numbers
      low = (capped cells literals c v).0

      few : L.clauses ≤ highest.clauses
      few = (capped cells literals c v).1

      room : roomy L (parts_under L cells' literals') ≡ true
      room = room_is L (parts_under L cells' literals') (exact_roomy L (parts_under L cells' literals') (whole_exact L cells' literals' b.whole))

      read_after : read_at cells' literals' ≡ some (called L x c).state
      read_after =
          read_roomy cells' literals' (ap (λ (M : Limits). roomy M (parts_under M cells' literals')) b.limits ∙ room)
          ∙ ap (λ (M : Limits). read_under M (parts_under M cells' literals')) b.limits
          ∙ ap (read_under L) b.parts
          ∙ stored_back (get_or cells 0 0) (get_or cells 1 0) x (valid_accepted cells literals v) low few (called L x c).state.store l h.left.shelved refl b.clauses b.cubes
          ∙ ap (λ f. some (record { formula = f; store = (called L x c).state.store })) (sym h.formula)

module _ (l : Layout) (cells : List ℕ) (literals : List ℤ) {places kinds : List ℕ} (s : ShownAt l cells literals places kinds) {k : Checked} (of : CheckedOf l cells literals k) (c : Call) (a : Said)
    (o : Maybe Learned) (h : Answered (own k.numbers k.clauses) (state_of k) c a o) where
  pub served_same : o ≡ None → ServesAt cells literals c a cells literals
  served_same e =
      same cells literals c a (valid_shown l cells literals s)
      (own_at l cells literals s (λ (L : Limits). Answered L (parts_under L cells literals) c a None)
      (subst (λ (p : Maybe Learned). Answered (limits_in l) (parts_under (limits_in l) cells literals) c a p) e (answered_in l cells literals s of c h)))

  module _ (d : Learned) (e : o ≡ Some d) where
    by : Answered (limits_in l) (parts_under (limits_in l) cells literals) c a (Some d)
    by = subst (λ (p : Maybe Learned). Answered (limits_in l) (parts_under (limits_in l) cells literals) c a p) e (answered_in l cells literals s of c h)

    -- what `write_back` asks
    pub writable : Writable (limits_in l) cells literals d
    writable =
        let acc = accepted_in l cells literals s in
        record {
          whole = accepted_whole l.numbers l.clauses cells literals acc;
          few =
              leb-true (get_or (parts_under (limits_in l) cells literals).learned_clause_sizes 0 0) paper.constraints
              (and_left (leb (get_or (parts_under (limits_in l) cells literals).learned_clause_sizes 0 0) paper.constraints) (at_most l.numbers (entries (parts_under (limits_in l) cells literals).learned_clause_sizes))
              (facts l.numbers l.clauses (parts_under (limits_in l) cells literals) acc l.few_numbers l.few_clauses).learned_clauses_fit);
          clauses = clauses_narrow l.numbers l.clauses (parts_under (limits_in l) cells literals) acc l.few_numbers l.few_clauses (called (limits_in l) (parts_under (limits_in l) cells literals) c).state.store d by.left.shelved;
          cubes = cubes_narrow l.numbers l.clauses (parts_under (limits_in l) cells literals) acc l.few_numbers l.few_clauses (called (limits_in l) (parts_under (limits_in l) cells literals) c).state.store d by.left.shelved;
        }

    pub served_kept : {cells' : List ℕ} {literals' : List ℤ} → BackAt (limits_in l) cells literals d cells' literals' → ServesAt cells literals c a cells' literals'
    served_kept {cells'} {literals'} b =
        kept cells literals c a (valid_shown l cells literals s) d (own_at l cells literals s (λ (L : Limits). Answered L (parts_under L cells literals) c a (Some d)) by)
        (own_at l cells literals s (λ (L : Limits). BackAt L cells literals d cells' literals') b)

-- ---- what was learned is all that is written
module _ (l : Layout) {cells : List ℕ} {literals : List ℤ} {places kinds : List ℕ} (s : ShownAt l cells literals places kinds) where
  pub back_stays : {d : Learned} {cells' : List ℕ} {literals' : List ℤ} → BackWithin (limits_in l) cells literals d cells' literals' → StaysAt search_writes cells literals cells' literals'
  back_stays {d} {cells'} {literals'} b =
      let a : BackWithin (limits_of cells) cells literals d cells' literals' = own_at l cells literals s (λ (L : Limits). BackWithin L cells literals d cells' literals') b in
      left_stays search_writes a.at.limits a.at.parts
      (record {
        numbers = refl;
        levels = refl;
        kinds = refl;
        clauses = refl;
        clause_sizes = refl;
        learned_clauses = tt;
        learned_clause_sizes = tt;
        learned_cubes = tt;
        learned_cube_sizes = tt;
      })
      a.behind
