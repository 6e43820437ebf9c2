-- What a search says of its end, from the contract of its call; and the names of the state that it left.
use Prim.Native.Nat.{ℕ}
use mathlib.Core.Path.{◌≡◌, refl, sym, ap, subst, ◌∙◌}
use mathlib.Core.Bool.{Bool, true, false, cond}
use mathlib.Core.List.{List, ◌++◌}
use mathlib.Core.Option.{Option, none, some}
use lib.Dec.{eqb}
use lib.IntN.{ℤ}
use lib.ListN.{length, take}
use Rattle.std.specs.Prelude.{Result, Ok, Err}
use Rattle.refusal.specs.declared.Refusal.{Refusal}
use Rattle.refusal.specs.Refusal.{fault_in}
use Rattle.qbf.specs.Formula.{Formula}
use Rattle.qbf.specs.Truth.{free_variables}
use Rattle.qbf.specs.Calls.{Call, query, card_of, closest, ceiling_of, guarded, step, State as Read, well_formed}
use Rattle.qbf.specs.Demands.{refusal_of}
use Rattle.theory.proofs.Preserved.{step_formed}
use Rattle.theory.proofs.AcceptedRule.{some_none}
use Rattle.state.specs.Reading.{prefix_in, roomy, fits_under, state_under, read_under}
use Rattle.state_parts.specs.Parts.{limits_of, state_at, read_at}
use Rattle.serving.specs.Serves.{Said, said_of, number, out_of, next_of}
use Rattle.serving.proofs.Numbered.{said_refusal, said_visits}
use Rattle.rule_calls.specs.ServesAt.{ServesAt}
use Rattle.replies.specs.Replies.{ruling_said, card_said}
use Rattle.replies.specs.declared.Listed.{Listed}
use Rattle.replies.specs.declared.Ruling.{Ruling}
use Rattle.closest_call.specs.Nearest.{nearest_said}
use Rattle.card_answers.specs.declared.Filled.{Filled}
use Rattle.card_answers.specs.declared.names.Names.{Names}
use Rattle.card_answers.specs.Lines.{NamesRead, card_for}
use Rattle.card_answers.proofs.Kept.{closest_kept}
use Rattle.layout.specs.Words.{Bytes}
use Rattle.answer_text.specs.declared.shown.Shown.{Shown}
use Rattle.line_turns.specs.declared.Turn.{Turn}
use Rattle.line_turns.specs.Line.{TurnedAt}
use Rattle.line_turns.specs.Cards.{CardServed}
use Rattle.reading_answers.specs.declared.turn.Found.{Found}
use Rattle.reading_answers.specs.Served.{NearestServed}
use Rattle.call_lines.specs.Calling.{line_visits, line_stopped, stopped_at, CalledAt}

-- ---- the refusal and the visits of what is said
ruling_refusal : (q : Result Ruling Refusal) (k : ℕ) → ((ruling_said q k).refusal ≡ fault_in q) × ((ruling_said q k).visits ≡ k)
ruling_refusal (Ok r) k = (refl, refl)
ruling_refusal (Err r) k = (refl, refl)

card_refusal : (q : Result ℕ Refusal) (k : ℕ) (tb : List ℕ) → ((card_said q k tb).refusal ≡ fault_in q) × ((card_said q k tb).visits ≡ k)
card_refusal (Ok r) k tb = (refl, refl)
card_refusal (Err r) k tb = (refl, refl)

nearest_refusal : (q : Result ℕ Refusal) (n k : ℕ) (tb bytes : List ℕ) → ((nearest_said q n k tb bytes).refusal ≡ fault_in q) × ((nearest_said q n k tb bytes).visits ≡ k)
nearest_refusal (Ok r) n k tb bytes = (refl, refl)
nearest_refusal (Err r) n k tb bytes = (refl, refl)

-- a call with a ceiling
module _ (o : Option Read) (c : Call) (own : ℕ) (top : ceiling_of c ≡ some own) (a : Said) (e : a ≡ said_of (out_of o c)) (f : Option ℕ) (k : ℕ) (w : (a.refusal ≡ f) × (a.visits ≡ k)) where
  ended_by : {b : Bool} → b ≡ eqb (number f) 34 → b ≡ line_stopped o (some c)
  ended_by {b} i =
      i
      ∙ ap (λ (r : Option ℕ). eqb (number r) 34) (sym w.0 ∙ ap (λ (q : Said). q.refusal) e ∙ said_refusal (out_of o c).reply (out_of o c).visits)
      ∙ sym (ap (λ (t : Option ℕ). stopped_at t (refusal_of (out_of o c).reply)) top)

  visited_by : k ≡ line_visits o (some c)
  visited_by = sym w.1 ∙ ap (λ (q : Said). q.visits) e ∙ said_visits (out_of o c).reply (out_of o c).visits

card_ceiling : (p : Bool) (top size : ℕ) → ceiling_of (card_of p top size) ≡ some top
card_ceiling true top size = refl
card_ceiling false top size = refl

module _ {cells : List ℕ} {literals : List ℤ} {cells' : List ℕ} {literals' : List ℤ} where
  module _ {top : ℕ} {on off : List ℤ} (q : Result Ruling Refusal) (k : ℕ) (s : ServesAt cells literals (query top on off) (ruling_said q k) cells' literals') where
    pub query_stopped : {b : Bool} → b ≡ eqb (number (fault_in q)) 34 → b ≡ line_stopped (read_at cells literals) (some (query top on off))
    query_stopped = ended_by (read_at cells literals) (query top on off) top refl (ruling_said q k) s.answered (fault_in q) k (ruling_refusal q k)

    pub query_visits : k ≡ line_visits (read_at cells literals) (some (query top on off))
    query_visits = visited_by (read_at cells literals) (query top on off) top refl (ruling_said q k) s.answered (fault_in q) k (ruling_refusal q k)

  module _ (p : Bool) (top size : ℕ) (q : Result ℕ Refusal) (k : ℕ) (tb : List ℕ) (s : ServesAt cells literals (card_of p top size) (card_said q k tb) cells' literals') where
    pub card_stopped : {b : Bool} → b ≡ eqb (number (fault_in q)) 34 → b ≡ line_stopped (read_at cells literals) (some (card_of p top size))
    card_stopped = ended_by (read_at cells literals) (card_of p top size) top (card_ceiling p top size) (card_said q k tb) s.answered (fault_in q) k (card_refusal q k tb)

    pub card_visits : k ≡ line_visits (read_at cells literals) (some (card_of p top size))
    card_visits = visited_by (read_at cells literals) (card_of p top size) top (card_ceiling p top size) (card_said q k tb) s.answered (fault_in q) k (card_refusal q k tb)

  module _ {top size : ℕ} {on off : List ℤ} (q : Result ℕ Refusal) (n k : ℕ) (tb bytes : List ℕ) (s : ServesAt cells literals (closest top size on off) (nearest_said q n k tb bytes) cells' literals') where
    pub closest_stopped : {b : Bool} → b ≡ eqb (number (fault_in q)) 34 → b ≡ line_stopped (read_at cells literals) (some (closest top size on off))
    closest_stopped = ended_by (read_at cells literals) (closest top size on off) top refl (nearest_said q n k tb bytes) s.answered (fault_in q) k (nearest_refusal q n k tb bytes)

    pub closest_visits : k ≡ line_visits (read_at cells literals) (some (closest top size on off))
    closest_visits = visited_by (read_at cells literals) (closest top size on off) top refl (nearest_said q n k tb bytes) s.answered (fault_in q) k (nearest_refusal q n k tb bytes)

  -- the turn of a card, whose table has the length that it had
  pub card_called : (p : Bool) (top size : ℕ) (q : Result ℕ Refusal) (k : ℕ) (tb : List ℕ) → ServesAt cells literals (card_of p top size) (card_said q k tb) cells' literals' → {m : ℕ} → m ≡ size → {b : Bool} → b ≡ eqb (number (fault_in q)) 34
      → {line : ℕ} {z : Shown} {t t' d : Bytes} {r : Turn} → TurnedAt cells literals (some (card_of p top m)) line z t r cells' literals' t' d
      → CalledAt cells literals (some (card_of p top size)) line z t (record { turn = r; stopped = b; visits = k }) cells' literals' t' d
  card_called p top size q k tb s e i {line} {z} {t} {t'} {d} {r} u =
      record {
        turned = subst (λ (m : ℕ). TurnedAt cells literals (some (card_of p top m)) line z t r cells' literals' t' d) e u;
        stopped = card_stopped p top size q k tb s i;
        visits = card_visits p top size q k tb s;
      }

  pub nearest_called : {top size : ℕ} {on off : List ℤ} (q : Result ℕ Refusal) (n k : ℕ) (tb bytes : List ℕ) → ServesAt cells literals (closest top size on off) (nearest_said q n k tb bytes) cells' literals' → {m : ℕ} → m ≡ size → {b : Bool} → b ≡ eqb (number (fault_in q)) 34
      → {line : ℕ} {z : Shown} {t t' d : Bytes} {r : Turn} → TurnedAt cells literals (some (closest top m on off)) line z t r cells' literals' t' d
      → CalledAt cells literals (some (closest top size on off)) line z t (record { turn = r; stopped = b; visits = k }) cells' literals' t' d
  nearest_called {top} {size} {on} {off} q n k tb bytes s e i {line} {z} {t} {t'} {d} {r} u =
      record {
        turned = subst (λ (m : ℕ). TurnedAt cells literals (some (closest top m on off)) line z t r cells' literals' t' d) e u;
        stopped = closest_stopped q n k tb bytes s i;
        visits = closest_visits q n k tb bytes s;
      }

  -- ---- what the turn of a card asks for
  abbrev pub card_served : (n : Names) (f : Filled) (l : Listed) {m : ℕ} → length f.table.now ≡ m → ServesAt cells literals (card_of f.sought.yes f.sought.ceiling m) (card_said l.lines l.visits f.table.now) cells' literals'
      → NamesRead (read_at cells' literals') n → CardServed n f l
  card_served n f l e s names =
      record {
        cells = cells;
        literals = literals;
        cells' = cells';
        literals' = literals';
        served = subst (λ (k : ℕ). ServesAt cells literals (card_of f.sought.yes f.sought.ceiling k) (card_said l.lines l.visits f.table.now) cells' literals') (sym e) s;
        names = names;
      }

module _ (n : Names) (f : Filled) (l : Listed) {line : ℕ} {r : Turn} {d : Bytes} (turned : (h : CardServed n f l) (z : Shown) (t after : Bytes) → TurnedAt h.cells h.literals (some (card_for f)) line z t r h.cells' h.literals' (f.table.now ++ after) d) where
  pub card_line : {cells : List ℕ} {literals : List ℤ} {cells' : List ℕ} {literals' : List ℤ} {m : ℕ} → length f.table.now ≡ m
      → ServesAt cells literals (card_of f.sought.yes f.sought.ceiling m) (card_said l.lines l.visits f.table.now) cells' literals' → NamesRead (read_at cells' literals') n
      → {b : Bool} → b ≡ eqb (number (fault_in l.lines)) 34
      → (z : Shown) (t after : Bytes) → CalledAt cells literals (some (card_of f.sought.yes f.sought.ceiling m)) line z t (record { turn = r; stopped = b; visits = l.visits }) cells' literals' (f.table.now ++ after) d
  card_line {m = m} long s names i z t after =
      card_called f.sought.yes f.sought.ceiling m l.lines l.visits f.table.now s long i (turned (card_served n f l long s names) z t after)

-- ---- a closest reading
-- the prefix of what was read
abbrev is_read : Option Read → Option ℕ
is_read none = none
is_read (some y) = some 0

read_prefix : (cells : List ℕ) (literals : List ℤ) (y : Read) → read_at cells literals ≡ some y → prefix_in (state_at cells literals) ≡ y.formula.prefix
unfolding read_at read_under
read_prefix cells literals y = by (roomy (limits_of cells) (state_at cells literals)) (fits_under (limits_of cells) (state_at cells literals))
  where
    by : (s t : Bool) → cond s (cond t (some (state_under (limits_of cells) (state_at cells literals))) none) none ≡ some y → prefix_in (state_at cells literals) ≡ y.formula.prefix
    by true true e = ap (λ (z : Read). z.formula.prefix) (let q : state_under (limits_of cells) (state_at cells literals) ≡ y = cc in q)
    by true false e = absurd (some_none (sym (ap is_read e)))
    by false t e = absurd (some_none (sym (ap is_read e)))

-- a refusal has no reading
refused_bytes : (q : Result ℕ Refusal) (n k : ℕ) (tb bytes others : List ℕ) (a : Said) (m : ℕ) → nearest_said q n k tb bytes ≡ a → a.refusal ≡ some m → nearest_said q n k tb others ≡ a
refused_bytes (Ok d) n k tb bytes others a m e i = absurd (some_none (sym (ap (λ (z : Said). z.refusal) e ∙ i)))
refused_bytes (Err r) n k tb bytes others a m e i = e

-- what its turn asks for: so many bytes are shown as the names say that flags are
module _ {cells : List ℕ} {literals : List ℤ} {cells' : List ℕ} {literals' : List ℤ} {top m : ℕ} {on off : List ℤ} (n : Names) (f : Found) (long : length f.table.now ≡ m)
    (s : ServesAt cells literals (closest top m on off) (nearest_said f.nearest.told f.nearest.lines f.nearest.visits f.table.now (take (free_variables (prefix_in (state_at cells literals))) f.reading.now)) cells' literals') (names : NamesRead (read_at cells' literals') n) where
  abbrev c : Call
  c = closest top m on off

  abbrev As : Type 0
  As = nearest_said f.nearest.told f.nearest.lines f.nearest.visits f.table.now (take n.free f.reading.now) ≡ said_of (out_of (read_at cells literals) c)

  malformed : (r : ℕ) → (said_of (out_of (read_at cells literals) c)).refusal ≡ some r → As
  malformed r e =
      refused_bytes f.nearest.told f.nearest.lines f.nearest.visits f.table.now (take (free_variables (prefix_in (state_at cells literals))) f.reading.now) (take n.free f.reading.now) (said_of (out_of (read_at cells literals) c)) r s.answered e

  pub as_named : As
  as_named = by (read_at cells literals) refl
    where
      by : (o : Option Read) → read_at cells literals ≡ o → As
      by none e = malformed 22 (ap (λ (o : Option Read). (said_of (out_of o c)).refusal) e)
      by (some y) e = go (well_formed y) refl
        where
          go : (g : Bool) → well_formed y ≡ g → As
          go false g = malformed 22 (ap (λ (o : Option Read). (said_of (out_of o c)).refusal) e ∙ ap (λ (t : Bool). (said_of (guarded t y c).out).refusal) g)
          go true g =
              ap (λ (j : ℕ). nearest_said f.nearest.told f.nearest.lines f.nearest.visits f.table.now (take j f.reading.now))
              ((names (step y c).state (s.next ∙ ap (λ (o : Option Read). next_of o c) e) (step_formed y g c)).frees
              ∙ ap (λ (b : Formula). free_variables b.prefix) (closest_kept top m on off y)
              ∙ ap free_variables (sym (read_prefix cells literals y e)))
              ∙ s.answered

  abbrev pub nearest_served : NearestServed n f
  nearest_served =
      record {
        cells = cells;
        literals = literals;
        cells' = cells';
        literals' = literals';
        ceiling = top;
        on = on;
        off = off;
        served =
            subst (λ (k : ℕ). ServesAt cells literals (closest top k on off) (nearest_said f.nearest.told f.nearest.lines f.nearest.visits f.table.now (take n.free f.reading.now)) cells' literals') (sym long)
            (record { answered = as_named; next = s.next; kept = s.kept });
        names = names;
      }

module _ (n : Names) (f : Found) {line : ℕ} {r : Turn} {d : Bytes}
    (turned : (h : NearestServed n f) (z : Shown) (t after : Bytes) → TurnedAt h.cells h.literals (some (closest h.ceiling (length f.table.now) h.on h.off)) line z t r h.cells' h.literals' (f.table.now ++ after) d) where
  pub nearest_line : {cells : List ℕ} {literals : List ℤ} {cells' : List ℕ} {literals' : List ℤ} {top m : ℕ} {on off : List ℤ} → length f.table.now ≡ m
      → ServesAt cells literals (closest top m on off) (nearest_said f.nearest.told f.nearest.lines f.nearest.visits f.table.now (take (free_variables (prefix_in (state_at cells literals))) f.reading.now)) cells' literals'
      → NamesRead (read_at cells' literals') n → {b : Bool} → b ≡ eqb (number (fault_in f.nearest.told)) 34
      → (z : Shown) (t after : Bytes) → CalledAt cells literals (some (closest top m on off)) line z t (record { turn = r; stopped = b; visits = f.nearest.visits }) cells' literals' (f.table.now ++ after) d
  nearest_line {cells} {literals} long s names i z t after =
      nearest_called f.nearest.told f.nearest.lines f.nearest.visits f.table.now (take (free_variables (prefix_in (state_at cells literals))) f.reading.now) s long i (turned (nearest_served n f long s names) z t after)
