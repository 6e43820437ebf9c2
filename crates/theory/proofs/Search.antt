-- The learning search gives the verdict by quantification, and keeps the store valid.
use Prim.Native.Nat.{ℕ, zero, suc, ◌≤◌, ◌<◌}
use native.Mathlib.Nat.{not-suc-le-zero, le_refl}
use native.Mathlib.Omega.{arith}
use mathlib.Core.Path.{◌≡◌, refl, sym, ap, ◌∙◌, subst}
use mathlib.Core.Bool.{Bool, true, false, ◌&&◌, ◌||◌, beq, true≢false}
use mathlib.Core.List.{List, [], ◌∷◌, ◌++◌}
use lib.ListN.{length, get_or, drop}
use lib.Dec.{eqb, leb}
use Rattle.qbf.specs.Formula.{Clause, Limits, Literal, Node, Prefix, Quantifier, ◌▹◌, all, any, dead, equals, exists, forall, free, has, is_open, place, positive, quantifier_at, quantifiers, satisfied, value_at}
use Rattle.qbf.specs.Truth.{DecidedNode, Outcome, decided, decided_nodes, mixed, outline, verdict_of}
use Rattle.qbf.specs.Learning.{Constraint, LearningResult, Store, below, dropped, going_up, learning_search, raise, visit}
use Rattle.qbf.specs.Card.{Mem}
use Rattle.theory.proofs.Basics.{→all, any_false→, value_some}
use Rattle.theory.proofs.Rest.{drop_all, rest_up, rest_small}
use Rattle.theory.proofs.Game.{Rising, rising_above, Win}
use Rattle.theory.proofs.Shape.{last_held, goes_up_same}
use Rattle.theory.proofs.Induction.{Gives, Mixes, BranchCases, SearchCases, visit_by, raise_by, below_by}
use Rattle.theory.proofs.Claim.{Good}
use Rattle.theory.proofs.Leaves.{SoundStore, Fair, fair_inner, good_leaves, sound_learn}
use Rattle.theory.proofs.Verdict.{every, some_one, NoFree, Says, says_win, says_mixed, mixed_free}
use Rattle.theory.proofs.Branch.{good_valid, lift, resolvent_good}

-- below an exists or forall place there is no free variable
abbrev pub Below : Quantifier → List Quantifier → Type 0
Below free ks = Unit {0}
Below exists ks = NoFree ks
Below forall ks = NoFree ks

-- free variables come first
abbrev pub FreeFirst : List Quantifier → Type 0
FreeFirst [] = Unit {0}
FreeFirst (κ ∷ ks) = Below κ ks × FreeFirst ks

unequal_kinds : (κ : Quantifier) (b c : Bool) → dropped b κ ≡ false → dropped c κ ≡ false → beq b c ≡ false → κ ≡ free
unequal_kinds free b c o q e = refl
unequal_kinds exists true c o q e = absurd (true≢false o)
unequal_kinds exists false true o q e = absurd (true≢false q)
unequal_kinds exists false false o q e = absurd (true≢false e)
unequal_kinds forall true true o q e = absurd (true≢false e)
unequal_kinds forall true false o q e = absurd (true≢false q)
unequal_kinds forall false c o q e = absurd (true≢false o)

unequal_and : (b c : Bool) → beq b c ≡ false → (b && c) ≡ false
unequal_and true true e = e
unequal_and true false e = refl
unequal_and false c e = refl

unequal_or : (b c : Bool) → beq b c ≡ false → (b || c) ≡ true
unequal_or true c e = refl
unequal_or false true e = refl
unequal_or false false e = absurd (true≢false e)

and_no : (b : Bool) → (b && false) ≡ false
and_no true = refl
and_no false = refl

or_yes : (b : Bool) → (b || true) ≡ true
or_yes true = refl
or_yes false = refl

module _ (D : Prefix) (R : List Clause) (ok : (r : Clause) → Mem r R → Rising D 0 r) (inside : (r : Clause) → Mem r R → (l : Literal) → Mem l r → place D l ≤ length (quantifiers D)) where
  -- at a full node a clause that is not satisfied is dead
  pub full : (s : Node) → length s ≡ length (quantifiers D) → any (dead D s) R ≡ false → all (satisfied D s) R ≡ false → ⊥
  full s e nd ns = true≢false (sym (→all (satisfied D s) R one) ∙ ns)
    where
      values : (p : ℕ) → 0 < p → p ≤ length s → (c : Bool) → equals (value_at s p) (beq true c) ≡ false → equals (value_at s p) (beq false c) ≡ true
      values zero lo hi c q = absurd (not-suc-le-zero lo)
      values (suc i) lo hi c q = ap (λ o. equals o (beq false c)) (value_some s i hi) ∙ flip (get_or s i false) c (sym (ap (λ o. equals o (beq true c)) (value_some s i hi)) ∙ q)
        where
          flip : (x c : Bool) → beq x (beq true c) ≡ false → beq x (beq false c) ≡ true
          flip true true z = absurd (true≢false z)
          flip true false z = refl
          flip false true z = refl
          flip false false z = absurd (true≢false z)

      one : (r : Clause) → Mem r R → satisfied D s r ≡ true
      one r m = by (satisfied D s r) refl
        where
          by : (b : Bool) → satisfied D s r ≡ b → b ≡ true
          by true q = refl
          by false q = absurd (true≢false (sym (→all (λ l. has D false s l || (is_open (value_at s (place D l)) && dropped false (quantifier_at D (place D l)))) r lit) ∙ any_false→ (dead D s) R nd r m))
            where
              lit : (l : Literal) → Mem l r → (has D false s l || (is_open (value_at s (place D l)) && dropped false (quantifier_at D (place D l)))) ≡ true
              lit l n = ap (λ (x : Bool). x || (is_open (value_at s (place D l)) && dropped false (quantifier_at D (place D l)))) (values (place D l) (rising_above D 0 r (ok r m) l n) (omega (arith, e, inside r m l n)) (positive l) (any_false→ (has D true s) r q l n))

module _ (L : Limits) (one : 1 ≤ L.constraints) (D : Prefix) (R : List Clause) (ok : (r : Clause) → Mem r R → Rising D 0 r) where
  abbrev pub Answers : List Quantifier → Node → Outcome Constraint → Type 0
  Answers ks s (decided v E) = Good D R v E s
  Answers ks s (mixed ls) = Says D R {X = Constraint} ks s (mixed ls)

  abbrev pub Ok : List Quantifier → Node → LearningResult → Type 0
  Ok ks s r = Gives (SoundStore L D R) (Answers ks s) r

  -- a good constraint says the verdict
  good_wins : (v : Bool) (E : Constraint) (ks : List Quantifier) (s : Node) → drop (length s) (quantifiers D) ≡ ks → Good D R v E s → Win D R v ks s
  good_wins v E ks s rest g =
      subst (λ (x : List Quantifier). Win D R v x s) rest (g.claim s (last_held D v E s g.shaped.held) (le_refl (length s)) g.shaped.held (λ p a b o. refl))

  pub says : (ks : List Quantifier) (s : Node) → drop (length s) (quantifiers D) ≡ ks → (o : Outcome Constraint) → Answers ks s o → Says D R ks s o
  says ks s rest (decided v E) g = says_win D R v E ks s (good_wins v E ks s rest g)
  says ks s rest (mixed ls) h = h

  -- ---- a branch over sound sides is sound
  module _ (κ : Quantifier) (ks : List Quantifier) (frees : Below κ ks) (s : Node) (rest : drop (length s) (quantifiers D) ≡ κ ∷ ks) where
    mixed_kind : (t : Node) (ls : List DecidedNode) → Says D R {X = Constraint} ks t (mixed ls) → κ ≡ free
    mixed_kind t ls h = by κ frees
      where
        by : (x : Quantifier) → Below x ks → x ≡ free
        by free n = refl
        by exists n = absurd (mixed_free D R ks t ls n h)
        by forall n = absurd (mixed_free D R ks t ls n h)

    -- sides that make a branch mixed stand at a free variable, and are neither both Yes nor both No
    apart : (o q : Outcome Constraint) → Mixes κ o q → Answers ks (s ▹ false) o → Answers ks (s ▹ true) q → (κ ≡ free) × ((every o && every q) ≡ false) × ((some_one o || some_one q) ≡ true)
    apart (decided b E) (decided c F) w a h = (unequal_kinds κ b c w.0 w.1 w.2, unequal_and b c w.2, unequal_or b c w.2)
    apart (decided b E) (mixed ls) w a h = (mixed_kind (s ▹ true) ls h, and_no b, or_yes b)
    apart (mixed ls) q w a h = (mixed_kind (s ▹ false) ls a, refl, refl)

    mixing : (o q : Outcome Constraint) → Mixes κ o q → Answers ks (s ▹ false) o → Answers ks (s ▹ true) q
        → Says D R {X = Constraint} (κ ∷ ks) s (mixed (decided_nodes (s ▹ false) o ++ decided_nodes (s ▹ true) q))
    mixing o q w a h =
        let z = apart o q w a h in
        subst (λ (x : Quantifier). Says D R {X = Constraint} (x ∷ ks) s (mixed (decided_nodes (s ▹ false) o ++ decided_nodes (s ▹ true) q))) (sym z.0)
        (says_mixed D R ks s o q (says ks (s ▹ false) (rest_up D s false κ ks rest) o a) (says ks (s ▹ true) (rest_up D s true κ ks rest) q h) z.1 z.2)

    good_branches : BranchCases L D R κ s (SoundStore L D R) (λ c o. Answers ks (s ▹ c) o) (Answers (κ ∷ ks) s)
    good_branches =
        record {
          up = λ c b E o g. lift D R ok κ ks s rest b E c o g;
          joined = λ b E F. resolvent_good D R ok κ ks s rest b E F;
          learned = λ b E st g h. sound_learn L one D R b E st (good_valid D R ok b E s g) h;
          mixing = mixing;
        }

  -- ---- the search
  module _ (inside : (r : Clause) → Mem r R → (l : Literal) → Mem l r → place D l ≤ length (quantifiers D)) where
    pub record Known (ks : List Quantifier) (s : Node) : Type 0 where
      pub order : FreeFirst ks
      pub rest : drop (length s) (quantifiers D) ≡ ks
      pub small : length s ≤ length (quantifiers D)

    pub known_side : (κ : Quantifier) (ks : List Quantifier) (s : Node) (b : Bool) → Known (κ ∷ ks) s → Known ks (s ▹ b)
    known_side κ ks s b n = record { order = n.order.1; rest = rest_up D s b κ ks n.rest; small = rest_small D s b κ ks n.rest }

    -- what a sound side sends up is reduced already: "goes up reduced" changes nothing
    raised : (ks : List Quantifier) (s : Node) (o : Outcome Constraint) → Answers ks s o → going_up D o ≡ o
    raised ks s (decided v E) g = goes_up_same D v E g.shaped.formed
    raised ks s (mixed ls) h = refl

    good_search : SearchCases L D R Known (SoundStore L D R) Answers
    good_search =
        record {
          side = known_side;
          leaves = λ ks s st n h. good_leaves D R ok s n.small L st h eqb (fair_inner D R s);
          branches = λ κ ks s n. good_branches κ ks n.order.0 s n.rest;
          ends = λ s n nd ns. absurd (full D R ok inside s (drop_all (quantifiers D) (length s) n.small n.rest) nd ns);
          raised = raised;
        }

    -- a visit is sound, with what it goes on to
    pub visit_ok : (eligible : ℕ → ℕ → Bool) (ks : List Quantifier) (s : Node) (st : Store) → Known ks s → Fair D R eligible s → SoundStore L D R st → Ok ks s (visit D R eligible (below L D R ks) s st)
    visit_ok eligible ks s st n fair h =
        visit_by D R s (SoundStore L D R) (Answers ks s) eligible (below L D R ks) st (good_leaves D R ok s n.small L st h eligible fair) h
        (λ p q. below_by L D R Known (SoundStore L D R) Answers good_search ks s st n h p q)

    -- a side's visit, and what it sends up
    pub side_ok : (ks : List Quantifier) (s : Node) (st : Store) → Known ks s → SoundStore L D R st → Ok ks s (raise D (visit D R eqb (below L D R ks) s st))
    side_ok ks s st n h = raise_by L D R Known (SoundStore L D R) Answers good_search ks s (visit D R eqb (below L D R ks) s st) (visit_ok eqb ks s st n (fair_inner D R s) h)

    -- the search from a start node
    pub search_ok : (ks : List Quantifier) → FreeFirst ks → (s : Node) (st : Store) → drop (length s) (quantifiers D) ≡ ks → length s ≤ length (quantifiers D) → Fair D R leb s → SoundStore L D R st
        → Ok ks s (learning_search L D R ks s st)
    search_ok ks fl s st rest small fair h = visit_ok leb ks s st (record { order = fl; rest = rest; small = small }) fair h

    pub search_verdict : (ks : List Quantifier) → FreeFirst ks → (s : Node) (st : Store) → drop (length s) (quantifiers D) ≡ ks → length s ≤ length (quantifiers D) → Fair D R leb s → SoundStore L D R st
        → outline (learning_search L D R ks s st).outcome ≡ verdict_of D R ks s
    search_verdict ks fl s st rest small fair h =
        sym (says ks s rest (learning_search L D R ks s st).outcome (search_ok ks fl s st rest small fair h).answer_ok).verdict
