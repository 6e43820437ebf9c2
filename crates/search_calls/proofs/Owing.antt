-- The call for the closest reading, from what its parts say of a state as it was checked.
use Prim.Native.Nat.{ℕ, ◌*◌, ◌-◌, ◌+◌, ◌≤◌}
use native.Mathlib.Omega.{arith}
use mathlib.Core.Path.{◌≡◌, refl, sym, ap, ◌∙◌, subst}
use mathlib.Core.Bool.{true, false, not}
use mathlib.Core.List.{List, ◌++◌, map}
use mathlib.Core.Option.{none, some}
use lib.ListN.{length, take, drop}
use Rattle.qbf.specs.Formula.{Literal, most_free}
use Rattle.qbf.specs.Truth.{free_variables}
use Rattle.qbf.specs.Card.{byte_of, zero_table}
use Rattle.qbf.specs.Closest.{closest_in}
use Rattle.qbf.specs.Calls.{card, closest, start_node, closest_fault, given, well_formed, State as Read}
use Rattle.cover.proofs.Bytes.{zeros_length}
use Rattle.rule_calls.specs.Served.{Lists, read_lists}
use Rattle.serving.specs.Serves.{said}
use Rattle.replies.specs.Replies.{card_said}
use Rattle.closest.specs.Table.{values_in, lines_in, reading_after}
use Rattle.closest_call.specs.Nearest.{nearest_said, found_said}
use Rattle.std.specs.Prelude.{Result, Ok, Err}
use Rattle.refusal.specs.declared.Refusal.{Refusal}
use Rattle.refusal.specs.Refusal.{number_of}
use lib.IntN.{ℤ}
use Rattle.std.specs.Prelude.{Some, None}
use Rattle.std.specs.Prelude.{Option as Maybe}
use Rattle.qbf.specs.Formula.{Prefix}
use Rattle.state.specs.Reading.{prefix_in, state_under}
use Rattle.state_parts.specs.declared.limits.Layout.{Layout}
use Rattle.state_parts.specs.Parts.{limits_of, state_at, valid_at}
use Rattle.state_parts.proofs.Accepted.{valid_state, valid_read}
use Rattle.rule_calls.specs.ServesAt.{ServesAt}
use Rattle.rule_calls.specs.Served.{lists}
use Rattle.rule_calls.proofs.Lists.{serves_by}
use Rattle.asking.specs.declared.checked.Checked.{Checked}
use Rattle.asking.specs.Answered.{state_of}
use Rattle.search_calls.specs.Checked.{ShownAt, CheckedOf}
use Rattle.search_calls.specs.Full.{FullAs}
use Rattle.search_calls.proofs.Checks.{state_same}
use Rattle.search_calls.proofs.Calls.{malformed_as}
use Rattle.search_calls.proofs.Served.{Serves, Owed, refused_owed, refused_closest, found_owed, lines_ready, refusal_served}

-- ---- of a valid state in two tables, as it was checked
module _ (cells : List ℕ) (literals : List ℤ) (v : valid_at cells literals ≡ true) {l : Layout} {places kinds : List ℕ} (sh : ShownAt l cells literals places kinds) {k : Checked} (of : CheckedOf l cells literals k) (top size : ℕ) (on off : List Literal) where
  abbrev x : Lists
  x = lists cells literals

  abbrev u : Read
  u = state_under (limits_of cells) (state_at cells literals)

  abbrev D : Prefix
  D = prefix_in (state_at cells literals)

  abbrev f : ℕ
  f = free_variables D

  is_read : read_lists x ≡ some u
  is_read = valid_read cells literals v

  formed : well_formed u ≡ true
  formed = (valid_state cells literals v).facts.formed

  prefix_same : D ≡ prefix_in (state_of k)
  prefix_same = ap prefix_in (sym (of.state ∙ state_same l cells literals sh))

  -- a flag that is not given, or is named twice
  none_fault : (o : Maybe ℕ) (g : List ℕ) → FullAs (prefix_in (state_of k)) on off o g → ((free : ℕ) → o ≡ Some free → ⊥) → closest_fault u.formula on off ≡ some 8
  none_fault None g h n = h u.formula prefix_same
  none_fault (Some free) g h n = absurd (n free refl)

  pub unread_owed : (o : Maybe ℕ) (g : List ℕ) → FullAs (prefix_in (state_of k)) on off o g → ((free : ℕ) → o ≡ Some free → ⊥) → (q : Result ℕ Refusal) (n' k' : ℕ) (zeros rd : List ℕ)
      → ((ub bytes : List ℕ) → nearest_said q n' k' ub bytes ≡ said (some 8) 0 0 0 ub) → zeros ≡ zero_table size → rd ≡ zero_table most_free → Owed f x (closest top size on off) q n' k' zeros rd x
  unread_owed o g h n q n' k' zeros rd told z r =
      refused_owed f x (closest top size on off) x q n' k' 8 0 zeros rd told r (refused_closest x u is_read formed top size on off zeros z (none_fault o g h n))

  module _ (free : ℕ) (g : List ℕ) (h : FullAs (prefix_in (state_of k)) on off (Some free) g) where
    fine : closest_fault u.formula on off ≡ none
    fine = h.0 u.formula prefix_same

    bytes_are : take (free + 1 - 1) (drop 1 g) ≡ map byte_of (start_node on D)
    bytes_are = h.3 ∙ ap (λ (E : Prefix). map byte_of (start_node on E)) (sym prefix_same)

    small : f ≤ most_free
    small = let e : free ≡ f = h.1 ∙ ap free_variables (sym prefix_same) in omega (arith, e, h.2)

    -- the card on the same state
    module _ (r : Result ℕ Refusal) (visits : ℕ) (tb : List ℕ) (cells' : List ℕ) (literals' : List ℤ) (s : ServesAt cells literals (card top size) (card_said r visits tb) cells' literals') where
      card_served : Serves x (card top size) (card_said r visits tb) (lists cells' literals')
      card_served = serves_by s

      module _ (n : ℕ) (e : r ≡ Ok n) where
        lined_card : Serves x (card top size) (said none 0 n visits tb) (lists cells' literals')
        lined_card = subst (λ (p : Result ℕ Refusal). Serves x (card top size) (card_said p visits tb) (lists cells' literals')) e card_served

        pub lines_fit : (rd : List ℕ) → rd ≡ zero_table most_free → n * length (take (free + 1 - 1) (drop 1 g)) ≤ length tb
        lines_fit rd z = (lines_ready x u is_read formed top size on off lined_card bytes_are z small).0

        pub nearest_owed : (old rd : List ℕ) → old ≡ zero_table most_free → length rd ≡ length old → (q : Result ℕ Refusal) (n' k' : ℕ) (tb' : List ℕ)
            → nearest_said q n' k' tb' (take (length (take (free + 1 - 1) (drop 1 g))) rd) ≡ found_said (closest_in (lines_in (length (take (free + 1 - 1) (drop 1 g))) n tb) (values_in (take (free + 1 - 1) (drop 1 g)))) n visits tb
            → rd
            ≡ reading_after (closest_in (lines_in (length (take (free + 1 - 1) (drop 1 g))) n tb) (values_in (take (free + 1 - 1) (drop 1 g)))) (take (length (take (free + 1 - 1) (drop 1 g))) old)
            ++ drop (length (take (free + 1 - 1) (drop 1 g))) old
            → Owed f x (closest top size on off) q n' k' tb' rd (lists cells' literals')
        nearest_owed old rd z same q n' k' tb' told is =
            found_owed x u is_read formed top size on off lined_card fine (take (free + 1 - 1) (drop 1 g)) bytes_are old rd z small (same ∙ ap length z ∙ zeros_length most_free) q n' k' tb' told is

      module _ (m : Refusal) (e : r ≡ Err m) where
        refused_card : Serves x (card top size) (said (some (number_of m)) 0 0 visits tb) (lists cells' literals')
        refused_card = subst (λ (p : Result ℕ Refusal). Serves x (card top size) (card_said p visits tb) (lists cells' literals')) e card_served

        pub card_refused_owed : (q : Result ℕ Refusal) (n' k' : ℕ) (rd : List ℕ) → ((ub bytes : List ℕ) → nearest_said q n' k' ub bytes ≡ said (some (number_of m)) 0 0 visits ub) → rd ≡ zero_table most_free
            → Owed f x (closest top size on off) q n' k' tb rd (lists cells' literals')
        card_refused_owed q n' k' rd told z =
            refused_owed f x (closest top size on off) (lists cells' literals') q n' k' (number_of m) visits tb rd told z
            (refusal_served x u is_read formed top size on off fine (number_of m) visits tb (lists cells' literals') refused_card)

-- a malformed state: 22, and the table is zero
pub malformed_owed : (cells : List ℕ) (literals : List ℤ) (top size : ℕ) (on off : List Literal) → valid_at cells literals ≡ false → (q : Result ℕ Refusal) (n k : ℕ) (zeros rd : List ℕ)
    → ((ub bytes : List ℕ) → nearest_said q n k ub bytes ≡ said (some 22) 0 0 0 ub) → zeros ≡ zero_table size → rd ≡ zero_table most_free
    → Owed (free_variables (prefix_in (state_at cells literals))) (lists cells literals) (closest top size on off) q n k zeros rd (lists cells literals)
malformed_owed cells literals top size on off e q n k zeros rd told z r =
    refused_owed (free_variables (prefix_in (state_at cells literals))) (lists cells literals) (closest top size on off) (lists cells literals) q n k 22 0 zeros rd told r
    (serves_by (malformed_as cells literals (closest top size on off) e (ap (said (some 22) 0 0 0) z)))
