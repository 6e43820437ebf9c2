-- A call whose literals were narrowed and cut to the lent table is served as the call of the text, under any limits that a state may have.
use Prim.Native.Nat.{ℕ, suc, min, ◌<◌}
use native.Mathlib.Omega.{arith}
use mathlib.Core.Path.{◌≡◌, refl, sym, ap, ◌∙◌}
use mathlib.Core.Bool.{Bool, true, false, cond, not}
use mathlib.Core.List.{List, [], ◌++◌}
use mathlib.Core.Option.{Option, none, some}
use lib.IntN.{ℤ}
use lib.ListN.{length, take}
use Rattle.qbf.specs.Formula.{paper, most_free, Prefix, Literal, Formula}
use Rattle.qbf.specs.Truth.{free_variables}
use Rattle.qbf.specs.Calls.{Call, rule, one, query, closest, Reply, done, refused, swap, keep, unsettled, lines, card_refused, found, Answer, answer, rule_fault, one_fault, rule_reply, with_rule, with_one, store_after_rule, query_fault, given, ◌or_else◌, learning_query, learning_closest, State as Read, Stepped, step, guarded, well_formed}
use Rattle.qbf.specs.Open.{reading_of, is_full}
use Rattle.qbf.specs.Card.{zero_table}
use Rattle.qbf.specs.Demands.{refusal_of}
use Rattle.theory.proofs.WellFormed.{FormulaFacts, state_facts, numbers_ok, numbers_capped, free_few}
use Rattle.layout.specs.Words.{Bytes}
use Rattle.layout.specs.Output.{card_text}
use Rattle.layout.specs.Session.{named, done_text, refused_text, lists_yes, answer_text}
use Rattle.state.specs.Reading.{roomy, fits_under, state_under, read_under}
use Rattle.state_parts.specs.Parts.{limits_of, state_at, read_at}
use Rattle.serving.specs.Serves.{out_of, next_of}
use Rattle.reader.specs.Items.{narrowed, Kept}
use Rattle.reader.proofs.Judged.{rule_cut_under, rule_cut_same_under}
use Rattle.edition_reader.proofs.OneCut.{one_cut, one_cut_same}
use Rattle.sessions.specs.Session.{Card, card_of as shown_of, card_after_rule}
use Rattle.card_answers.specs.Lines.{prefix_read}
use Rattle.line_turns.specs.Line.{CallServedAt, line_card}
use Rattle.named.proofs.Judged.{flags, flags_judged_under, flags_same_under}
use Rattle.named.proofs.Standing.{deciding}

-- ---- one step
module _ (y : Read) where
  abbrev b : Formula
  b = y.formula

  abbrev rule_step : List Literal → Option ℕ → Stepped
  rule_step a o = record { state = record { formula = with_rule o b a; store = store_after_rule o y.store }; out = answer (rule_reply o) 0 }

  abbrev one_step : List Literal → Option ℕ → Stepped
  one_step a o = record { state = record { formula = with_one o b a; store = store_after_rule o y.store }; out = answer (rule_reply o) 0 }

  -- the fault of one list of literals is that of another, and where there is none they are the same
  abbrev Same : (List Literal → Option ℕ) → List Literal → List Literal → Type 0
  Same fault a c = (fault a ≡ fault c) × (fault c ≡ none → a ≡ c)

  -- a call that adds clauses for its literals: the same step
  adding_step : (make : List Literal → Call) (fault : List Literal → Option ℕ) (stepped : List Literal → Option ℕ → Stepped)
      → ((a : List Literal) → guarded true y (make a) ≡ stepped a (fault a)) → ((a c : List Literal) → guarded false y (make a) ≡ guarded false y (make c)) → ((a c : List Literal) (n : ℕ) → stepped a (some n) ≡ stepped c (some n))
      → (a c : List Literal) → (well_formed y ≡ true → Same fault a c) → step y (make a) ≡ step y (make c)
  adding_step make fault stepped made malformed refusing a c h = go (well_formed y) refl
    where
      go : (g : Bool) → well_formed y ≡ g → guarded g y (make a) ≡ guarded g y (make c)
      go false e = malformed a c
      go true e = by (fault c) refl
        where
          by : (o : Option ℕ) → fault c ≡ o → guarded true y (make a) ≡ guarded true y (make c)
          by none q = ap (λ (ls : List Literal). guarded true y (make ls)) ((h e).1 q)
          by (some n) q = made a ∙ ap (stepped a) ((h e).0 ∙ q) ∙ refusing a c n ∙ sym (ap (stepped c) q) ∙ sym (made c)

  -- the fault among the flags of one list of literals is that of another, and where there is none they name the same flags
  abbrev FlagsSame : List Literal → List Literal → Type 0
  FlagsSame a c = (query_fault b [] (flags a) ≡ query_fault b [] (flags c)) × (query_fault b [] (flags c) ≡ none → (v : Bool) → named v a ≡ named v c)

  -- a call that names flags: the same step
  flags_step : (make : List Literal → List Literal → Call) (refusing : ℕ → Stepped)
      → ((on off : List Literal) (n : ℕ) → query_fault b [] (on ++ off) ≡ some n → guarded true y (make on off) ≡ refusing n)
      → ((on off on' off' : List Literal) → guarded false y (make on off) ≡ guarded false y (make on' off'))
      → (a c : List Literal) → (well_formed y ≡ true → FlagsSame a c) → step y (make (named true a) (named false a)) ≡ step y (make (named true c) (named false c))
  flags_step make refusing faulty malformed a c h = go (well_formed y) refl
    where
      go : (g : Bool) → well_formed y ≡ g → guarded g y (make (named true a) (named false a)) ≡ guarded g y (make (named true c) (named false c))
      go false e = malformed (named true a) (named false a) (named true c) (named false c)
      go true e = by (query_fault b [] (flags c)) refl
        where
          by : (o : Option ℕ) → query_fault b [] (flags c) ≡ o → guarded true y (make (named true a) (named false a)) ≡ guarded true y (make (named true c) (named false c))
          by none q = let same = (h e).1 q in (λ i. guarded true y (make (same true i) (same false i)))
          by (some n) q = faulty (named true a) (named false a) n ((h e).0 ∙ q) ∙ sym (faulty (named true c) (named false c) n q)

  -- a step that leaves the state
  abbrev left : Answer → Stepped
  left a = record { state = record { formula = b; store = y.store }; out = a }

  abbrev query_step : ℕ → List Literal → List Literal → Option ℕ → Stepped
  query_step top on off o =
      let r = learning_query o b y.store top on off in
      record { state = record { formula = b; store = r.store }; out = r.out }

  query_step_lem : (top : ℕ) (a c : List Literal) → (well_formed y ≡ true → FlagsSame a c) → step y (query top (named true a) (named false a)) ≡ step y (query top (named true c) (named false c))
  query_step_lem top = flags_step (query top) (λ n. left (answer (refused n) 0)) (λ on off n e. ap (query_step top on off) e) (λ on off on' off'. refl)

  abbrev closest_step : ℕ → ℕ → List Literal → List Literal → Option ℕ → Stepped
  closest_step top size on off o =
      let r = learning_closest (o or_else given (not (is_full (reading_of on off b.prefix))) 8) b y.store top size on in
      record { state = record { formula = b; store = r.store }; out = r.out }

  closest_step_lem : (top size : ℕ) (a c : List Literal) → (well_formed y ≡ true → FlagsSame a c) → step y (closest top size (named true a) (named false a)) ≡ step y (closest top size (named true c) (named false c))
  closest_step_lem top size = flags_step (closest top size) (λ n. left (answer (card_refused n (zero_table size)) 0)) (λ on off n e. ap (closest_step top size on off) e) (λ on off on' off'. refl)

-- what a state of two tables has: its limit for literals is the one for all
abbrev pub Own : Option Read → Type 0
Own none = Unit {0}
Own (some y) = y.formula.limits.literals ≡ paper.literals

module _ (y : Read) where
  facts : well_formed y ≡ true → FormulaFacts y.formula
  facts w = (state_facts y w).formula_ok

  module _ (few : y.formula.limits.literals ≡ paper.literals) (n : ℕ) (out : List ℤ) (room : length out ≡ suc most_free) where
    wide : y.formula.limits.literals < suc most_free
    wide = omega (arith, few)

    pub rule_same_step : (ls : List Literal) → Kept n out ls → step y (rule (take (min n (suc most_free)) out)) ≡ step y (rule ls)
    rule_same_step ls k =
        adding_step y rule (rule_fault y.formula) (rule_step y) (λ a. refl) (λ a c. refl) (λ a c m. refl) (take (min n (suc most_free)) out) ls
        (λ w. (rule_cut_under y.formula (numbers_capped y.formula (facts w)) n out ls k room wide, rule_cut_same_under y.formula (numbers_capped y.formula (facts w)) n out ls k room wide))

    pub one_same_step : (ls : List Literal) → Kept n out ls → step y (one (take (min n (suc most_free)) out)) ≡ step y (one ls)
    one_same_step ls k =
        adding_step y one (one_fault y.formula) (one_step y) (λ a. refl) (λ a c. refl) (λ a c m. refl) (take (min n (suc most_free)) out) ls
        (λ w. (one_cut y.formula (numbers_capped y.formula (facts w)) n out ls k room wide, one_cut_same y.formula (numbers_capped y.formula (facts w)) n out ls k room wide))

-- the flags by what stands in the tables of those that are on and those that are off
module _ (y : Read) (ls on off : List Literal) (e : on ≡ named true (deciding ls)) (d : off ≡ named false (deciding ls)) where
  same_flags : well_formed y ≡ true → FlagsSame y (deciding ls) ls
  same_flags w =
      let h = facts y w in
      let fine = numbers_ok y.formula h in
      let low = numbers_capped y.formula h in
      let more : free_variables y.formula.prefix < suc most_free = omega (arith, free_few y.formula h) in
      (flags_judged_under y.formula y.formula.limits low fine (suc most_free) more ls, flags_same_under y.formula y.formula.limits low fine (suc most_free) more ls)

  pub query_cut : (top : ℕ) → step y (query top on off) ≡ step y (query top (named true ls) (named false ls))
  query_cut top = (λ i. step y (query top (e i) (d i))) ∙ query_step_lem y top (deciding ls) ls same_flags

  pub closest_cut : (top size : ℕ) → step y (closest top size on off) ≡ step y (closest top size (named true ls) (named false ls))
  closest_cut top size = (λ i. step y (closest top size (e i) (d i))) ∙ closest_step_lem y top size (deciding ls) ls same_flags

-- ---- a call as served
-- the text of an answer names the call only where nothing else is said, and where lines are listed
answer_same : (D : Prefix) (c c' : Call) (n : ℕ) (a : Answer) → done_text c ≡ done_text c' → refused_text c ≡ refused_text c' → lists_yes c ≡ lists_yes c' → answer_text D c n a ≡ answer_text D c' n a
unfolding answer_text
answer_same D c c' n a e refusals lists = by a.reply a.visits
  where
    by : (r : Reply) (v : ℕ) → answer_text D c n (answer r v) ≡ answer_text D c' n (answer r v)
    by done v = e
    by (refused m) v = ap (λ (f : ℕ → ℕ → ℕ → Bytes). f m n v) refusals
    by swap v = refl
    by keep v = refl
    by unsettled v = refl
    by (lines ls tb) v = ap (λ (p : Bool). card_text p D ls v) lists
    by (card_refused m tb) v = refl
    by (found ls tb r) v = refl

pub owned : (cells : List ℕ) (literals : List ℤ) → Own (read_at cells literals)
unfolding read_at read_under
owned cells literals = by_room (roomy (limits_of cells) (state_at cells literals)) (fits_under (limits_of cells) (state_at cells literals))
  where
    by_room : (s t : Bool) → Own (cond s (cond t (some (state_under (limits_of cells) (state_at cells literals))) none) none)
    by_room true true = refl
    by_room true false = tt
    by_room false t = tt

-- two calls whose steps are the same
module _ (c c' : Call) (word : done_text c ≡ done_text c') (refusals : refused_text c ≡ refused_text c') (lists : lists_yes c ≡ lists_yes c') (malformed : out_of none c ≡ out_of none c') (same : (y : Read) → y.formula.limits.literals ≡ paper.literals → step y c ≡ step y c') where
  same_out : (o : Option Read) → Own o → out_of o c ≡ out_of o c'
  same_out none h = malformed
  same_out (some y) h = ap (λ (s : Stepped). s.out) (same y h)

  same_next : (o : Option Read) → Own o → next_of o c ≡ next_of o c'
  same_next none h = refl
  same_next (some y) h = ap (λ (s : Stepped). some s.state) (same y h)

  served_as_lem : (cells : List ℕ) (literals : List ℤ) (n : ℕ) (t : Bytes) (cells' : List ℕ) (literals' : List ℤ) → CallServedAt cells literals (some c) n t cells' literals' → CallServedAt cells literals (some c') n t cells' literals'
  served_as_lem cells literals n t cells' literals' s =
      record {
        text = s.text ∙ answer_same D c c' n (out_of (read_at cells literals) c) word refusals lists ∙ ap (answer_text D c' n) (same_out (read_at cells literals) (owned cells literals));
        next = s.next ∙ same_next (read_at cells literals) (owned cells literals);
        kept = λ k e. s.kept k (ap (λ (a : Answer). refusal_of a.reply) (same_out (read_at cells literals) (owned cells literals)) ∙ e);
      }
    where
      D : Prefix
      D = prefix_read (read_at cells literals)

-- a rule by what stands in the table leaves the card answered last, or does not, as the rule of the text does
pub rule_card : (cells : List ℕ) (literals : List ℤ) (n : ℕ) (out : List ℤ) → length out ≡ suc most_free → (ls : List Literal) → Kept n out ls → (z : Option Card)
    → line_card (read_at cells literals) (some (rule (take (min n (suc most_free)) out))) z ≡ line_card (read_at cells literals) (some (rule ls)) z
rule_card cells literals n out room ls k z =
    ap (λ (a : Answer). card_after_rule a.reply z) (same_out (rule (take (min n (suc most_free)) out)) (rule ls) refl refl refl refl (λ y p. rule_same_step y p n out room ls k) (read_at cells literals) (owned cells literals))

-- an exactly-one form likewise
pub one_card : (cells : List ℕ) (literals : List ℤ) (n : ℕ) (out : List ℤ) → length out ≡ suc most_free → (ls : List Literal) → Kept n out ls → (z : Option Card)
    → line_card (read_at cells literals) (some (one (take (min n (suc most_free)) out))) z ≡ line_card (read_at cells literals) (some (one ls)) z
one_card cells literals n out room ls k z =
    ap (λ (a : Answer). card_after_rule a.reply z) (same_out (one (take (min n (suc most_free)) out)) (one ls) refl refl refl refl (λ y p. one_same_step y p n out room ls k) (read_at cells literals) (owned cells literals))

module _ (cells : List ℕ) (literals : List ℤ) (n : ℕ) (out : List ℤ) (room : length out ≡ suc most_free) (line : ℕ) (t : Bytes) (cells' : List ℕ) (literals' : List ℤ) where
  -- an exactly-one form by what stands in the table
  pub one_served : (ls : List Literal) → Kept n out ls → CallServedAt cells literals (some (one (take (min n (suc most_free)) out))) line t cells' literals' → CallServedAt cells literals (some (one ls)) line t cells' literals'
  one_served ls k s = served_as_lem (one (take (min n (suc most_free)) out)) (one ls) refl refl refl refl (λ y p. one_same_step y p n out room ls k) cells literals line t cells' literals' s

  -- a rule by what stands in the table
  pub rule_served : (ls : List Literal) → Kept n out ls → CallServedAt cells literals (some (rule (take (min n (suc most_free)) out))) line t cells' literals' → CallServedAt cells literals (some (rule ls)) line t cells' literals'
  rule_served ls k s = served_as_lem (rule (take (min n (suc most_free)) out)) (rule ls) refl refl refl refl (λ y p. rule_same_step y p n out room ls k) cells literals line t cells' literals' s

-- a query, or a closest reading, by what stands in the tables of its flags
module _ (cells : List ℕ) (literals : List ℤ) (ls on off : List Literal) (e : on ≡ named true (deciding ls)) (d : off ≡ named false (deciding ls)) where
  pub query_served : (line : ℕ) (t : Bytes) (cells' : List ℕ) (literals' : List ℤ) (top : ℕ) → CallServedAt cells literals (some (query top on off)) line t cells' literals' → CallServedAt cells literals (some (query top (named true ls) (named false ls))) line t cells' literals'
  query_served line t cells' literals' top s = served_as_lem (query top on off) (query top (named true ls) (named false ls)) refl refl refl refl (λ y p. query_cut y ls on off e d top) cells literals line t cells' literals' s

  pub closest_served : (line : ℕ) (t : Bytes) (cells' : List ℕ) (literals' : List ℤ) (top size : ℕ) → CallServedAt cells literals (some (closest top size on off)) line t cells' literals' → CallServedAt cells literals (some (closest top size (named true ls) (named false ls))) line t cells' literals'
  closest_served line t cells' literals' top size s =
      served_as_lem (closest top size on off) (closest top size (named true ls) (named false ls)) refl refl refl refl (λ y p. closest_cut y ls on off e d top size) cells literals line t cells' literals' s

  -- and leaves the card of that reading
  pub closest_card : (top size : ℕ) (z : Option Card) → line_card (read_at cells literals) (some (closest top size on off)) z ≡ line_card (read_at cells literals) (some (closest top size (named true ls) (named false ls))) z
  closest_card top size z =
      ap (λ (a : Answer). shown_of (prefix_read (read_at cells literals)) a.reply)
      (same_out (closest top size on off) (closest top size (named true ls) (named false ls)) refl refl refl refl (λ y p. closest_cut y ls on off e d top size) (read_at cells literals) (owned cells literals))

-- ---- and says as much of its search
module _ (cells : List ℕ) (literals : List ℤ) (ls on off : List Literal) (e : on ≡ named true (deciding ls)) (d : off ≡ named false (deciding ls)) where
  pub query_out : (top : ℕ) → out_of (read_at cells literals) (query top on off) ≡ out_of (read_at cells literals) (query top (named true ls) (named false ls))
  query_out top = same_out (query top on off) (query top (named true ls) (named false ls)) refl refl refl refl (λ y p. query_cut y ls on off e d top) (read_at cells literals) (owned cells literals)

  pub closest_out : (top size : ℕ) → out_of (read_at cells literals) (closest top size on off) ≡ out_of (read_at cells literals) (closest top size (named true ls) (named false ls))
  closest_out top size =
      same_out (closest top size on off) (closest top size (named true ls) (named false ls)) refl refl refl refl (λ y p. closest_cut y ls on off e d top size) (read_at cells literals) (owned cells literals)
