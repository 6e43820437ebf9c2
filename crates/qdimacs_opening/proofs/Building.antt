-- The variables of a well-formed prefix are declared one after another, each without a fault.
use Prim.Native.Nat.{ℕ, zero, suc, ◌+◌, ◌-◌, ◌≤◌, ◌<◌}
use native.Mathlib.Omega.{arith}
use native.Mathlib.Numerals.{add-one}
use native.Mathlib.Nat.{zero-add, suc-add}
use mathlib.Core.Path.{◌≡◌, refl, sym, ap, subst, ◌∙◌}
use mathlib.Core.Bool.{Bool, true, false, cond, not, ◌||◌}
use mathlib.Core.List.{List, [], ◌∷◌, ◌++◌, map, map-append, append-nil, append_assoc}
use mathlib.Core.Option.{Option, none}
use borrow.Author.Tests.{eq-eqb, ne_eqb}
use lib.Dec.{eqb, ltb}
use lib.ListN.{length, get_or, set, take, drop, length-set, length-append}
use lib.Seq.{get_or-set_other, drop-set-lt, split_at, take-suc, take_all}
use Rattle.qbf.specs.Formula.{Limits, Quantifier, free, forall, Variable, Prefix, quantifiers, quantifier_at, place_of}
use Rattle.qbf.specs.Calls.{given, free_first, free_is_ok, numbers_are_ok, ◌or_else◌}
use Rattle.tables.specs.Views.{quantifier_code}
use Rattle.state.specs.Reading.{listing, quantifier_of, entry_at, code_at, variable_at, own}
use Rattle.state.specs.Derived.{code_for}
use Rattle.state.specs.Declare as state
use Rattle.state.proofs.SoundPrefix.{none_sound}
use Rattle.state_parts.specs.Parts.{part, by_number, numbers_at, clause_sizes_at}
use Rattle.state_parts.proofs.Cutting.{part_set}
use Rattle.declaring.specs.Declaring.{numbers_in, levels_in, kinds_in, prefix_at, DeclarableAt, DeclaredAt}
use Rattle.layout.specs.Opening.{variable, crowded}
use Rattle.booktext_laws.proofs.Declared.{declare_none, formed_roomy}
use Rattle.opening.proofs.Growing.{beside_more}
use Rattle.opening.proofs.Judging.{code_back, code_most}
use Rattle.qdimacs_form.specs.Opening.{flags_up_to}
use Rattle.qdimacs_opening.specs.Built.{Formed, Built, flags_in, flags_as, FlagsReady, GroupsReady, crowd_for, kind_for, Regroupable, Regrouped}
use Rattle.qdimacs_opening.proofs.Forming.{flags_told, formed_whole, formed_part}

-- ---- no variable
set_first : (t : List ℕ) → get_or (set t 0 0) 0 0 ≡ 0
set_first [] = refl
set_first (n ∷ t) = refl

module _ (L : Limits) (cells : List ℕ) (room : clause_sizes_at L ≤ length cells) where
  abbrev now : List ℕ
  now = set cells numbers_at 0

  no_count : get_or (numbers_in L now) 0 0 ≡ 0
  no_count = ap (λ (t : List ℕ). get_or t 0 0) (part_set numbers_at (by_number L) cells 0 0 (omega arith)) ∙ set_first (part numbers_at (by_number L) cells)

  empty : prefix_at L now ≡ []
  empty = ap (listing (variable_at (numbers_in L now) (levels_in L now) (kinds_in L now)) 0) no_count

  pub none_built : Built L cells [] now
  none_built =
      record {
        room = omega (arith, room, length-set cells numbers_at 0);
        sound = none_sound L (numbers_in L now) (levels_in L now) (kinds_in L now) no_count;
        few = ap free_is_ok empty;
        prefix = empty;
        beside = record {
          long = length-set cells numbers_at 0;
          limits =
              ap (λ (i : ℕ). own i (get_or now 1 0)) (get_or-set_other cells numbers_at 0 0 0 (λ e. omega (arith, e)))
              ∙ ap (own (get_or cells 0 0)) (get_or-set_other cells numbers_at 1 0 0 (λ e. omega (arith, e)));
          behind = drop-set-lt (clause_sizes_at L) cells numbers_at 0 (omega arith);
        };
      }

-- ---- one variable
tests : (a b c : Bool) → (given a 3 or_else given b 4 or_else given c 33 or_else none) ≡ none → ((given a 3 or_else given b 4) or_else given c 33) ≡ none
tests true b c e = e
tests false true c e = e
tests false false c e = by c e
  where
    by : (c : Bool) → (given c 33 or_else none) ≡ none → given c 33 ≡ none
    by true e = e
    by false e = refl

module _ {L : Limits} {start : List ℕ} {P : Prefix} {cells : List ℕ} (b : Built L start P cells) {W : Prefix} (f : Formed L W) (κ : Quantifier) (n : ℕ) (R : Prefix) (whole : P ++ (variable κ n ∷ R) ≡ W) {kind : ℕ} (code : kind ≤ quantifier_code forall) (of : quantifier_of kind ≡ κ) where
  unrefused : state.declare_fault L (prefix_at L cells) (quantifier_of kind) n ≡ none
  unrefused =
      ap (λ (D : Prefix). state.declare_fault L D (quantifier_of kind) n) b.prefix
      ∙ ap (λ (q : Quantifier). state.declare_fault L P q n) of
      ∙ tests (eqb n 0 || ltb L.numbers n) (not (eqb (place_of P n) 0)) (crowded κ P)
      (declare_none L κ P (n ∷ []) R (subst (λ (D : Prefix). numbers_are_ok L [] D ≡ true) (sym whole) f.numbers_ok)
      (subst (λ (D : Prefix). (E : Prefix) (m : ℕ) (G : Prefix) → E ++ (variable κ m ∷ G) ≡ D → crowded κ E ≡ false) (sym whole) (formed_roomy κ W f.first f.few)))

  pub one_declarable : DeclarableAt L cells kind
  one_declarable = record { room = b.room; may = record { sound = b.sound; code = code; next = next }; few = b.few }
    where
      next : free_first (quantifiers (prefix_at L cells) ++ (quantifier_of kind ∷ [])) ≡ true
      next =
          ap (λ (D : Prefix). free_first (quantifiers D ++ (quantifier_of kind ∷ []))) b.prefix
          ∙ ap (λ (q : Quantifier). free_first (quantifiers P ++ (q ∷ []))) of
          ∙ ap free_first (sym (map-append (λ d. d.quantifier) P (variable κ n ∷ [])))
          ∙ (formed_part L (P ++ (variable κ n ∷ [])) R (subst (Formed L) (sym (append_assoc P (variable κ n ∷ []) R ∙ whole)) f)).first

  pub one_built : {o : Option ℕ} {cells' : List ℕ} → DeclaredAt L cells n kind o cells' → Built L start (P ++ (variable κ n ∷ [])) cells'
  one_built {o} {cells'} d =
      record {
        room = omega (arith, b.room, d.beside.long);
        sound = d.sound;
        few = d.few;
        prefix =
            d.prefix ∙ ap (λ (p : Option ℕ). state.with_variable p (prefix_at L cells) (quantifier_of kind) n) (sym d.refusal ∙ unrefused)
            ∙ (λ i. b.prefix i ++ (variable (of i) n ∷ []));
        beside = beside_more b.beside d.beside;
      }

-- ---- flags
flags_rest : (places : List ℕ) (i k : ℕ) → (R : List ℕ) × (flags_in places i ++ R ≡ flags_in places (k + i))
flags_rest places i zero = ([], append-nil (flags_in places i) ∙ ap (flags_in places) (sym (zero-add i)))
flags_rest places i (suc k) =
    let r = flags_rest places i k in (
      r.0 ++ cond (eqb (get_or places (suc (k + i)) 0) 0) (suc (k + i) ∷ []) [],
      sym (append_assoc (flags_in places i) r.0 (cond (eqb (get_or places (suc (k + i)) 0) 0) (suc (k + i) ∷ []) [])) ∙ ap (λ (ns : List ℕ). ns ++ cond (eqb (get_or places (suc (k + i)) 0) 0) (suc (k + i) ∷ []) []) r.1 ∙ ap (flags_in places) (sym (suc-add k i)),
    )

module _ {L : Limits} {start places : List ℕ} {v kind : ℕ} (ready : FlagsReady L start places v kind) {i : ℕ} (inside : i < v) where
  -- what is declared when the next number is judged stands at the head of what is to be
  formed_next : Formed L (flags_as kind places (suc i))
  formed_next = formed_part L (flags_as kind places (suc i)) (map (variable (quantifier_of kind)) r.0) (subst (Formed L) whole ready.formed)
    where
      r : (R : List ℕ) × (flags_in places (suc i) ++ R ≡ flags_in places ((v - suc i) + suc i))
      r = flags_rest places (suc i) (v - suc i)

      whole : flags_as kind places v ≡ flags_as kind places (suc i) ++ map (variable (quantifier_of kind)) r.0
      whole =
          let e : v ≡ (v - suc i) + suc i = omega (arith, inside) in
          ap (flags_as kind places) e ∙ ap (map (variable (quantifier_of kind))) (sym r.1) ∙ map-append (variable (quantifier_of kind)) (flags_in places (suc i)) r.0

  module _ {n : ℕ} (is : n ≡ suc i) where
    flags_more : get_or places n 0 ≡ 0 → flags_as kind places i ++ (variable (quantifier_of kind) n ∷ []) ≡ flags_as kind places (suc i)
    flags_more z =
        ap (λ (m : ℕ). flags_as kind places i ++ (variable (quantifier_of kind) m ∷ [])) is
        ∙ sym (ap (λ (t : Bool). map (variable (quantifier_of kind)) (flags_in places i ++ cond t (suc i ∷ []) [])) (eq-eqb (get_or places (suc i) 0) 0 (sym (ap (λ (m : ℕ). get_or places m 0) is) ∙ z))
        ∙ map-append (variable (quantifier_of kind)) (flags_in places i) (suc i ∷ []))

    flags_same : (get_or places n 0 ≡ 0 → ⊥) → flags_in places i ≡ flags_in places (suc i)
    flags_same z =
        sym (append-nil (flags_in places i))
        ∙ sym (ap (λ (t : Bool). flags_in places i ++ cond t (suc i ∷ []) []) (ne_eqb (get_or places (suc i) 0) 0 (λ e. z (ap (λ (m : ℕ). get_or places m 0) is ∙ e))))

    module _ {cells : List ℕ} (b : Built L start (flags_as kind places i) cells) where
      pub flag_declarable : get_or places n 0 ≡ 0 → DeclarableAt L cells kind
      flag_declarable z = one_declarable b formed_next (quantifier_of kind) n [] (flags_more z) ready.code refl

      pub flag_built : get_or places n 0 ≡ 0 → {o : Option ℕ} {cells' : List ℕ} → DeclaredAt L cells n kind o cells' → Built L start (flags_as kind places (i + 1)) cells'
      flag_built z {o} {cells'} d =
          subst (λ (j : ℕ). Built L start (flags_as kind places j) cells') (sym (add-one i))
          (subst (λ (P : Prefix). Built L start P cells') (flags_more z) (one_built b formed_next (quantifier_of kind) n [] (flags_more z) ready.code refl d))

      pub flag_passed : (get_or places n 0 ≡ 0 → ⊥) → Built L start (flags_as kind places (i + 1)) cells
      flag_passed z =
          subst (λ (j : ℕ). Built L start (flags_as kind places j) cells) (sym (add-one i))
          (subst (λ (ns : List ℕ). Built L start (map (variable (quantifier_of kind)) ns) cells) (flags_same z) b)

-- how many there are
module _ (places : List ℕ) {i n : ℕ} (is : n ≡ suc i) where
  pub count_more : get_or places n 0 ≡ 0 → length (flags_in places i) + 1 ≡ length (flags_in places (i + 1))
  count_more z =
      sym (ap (λ (j : ℕ). length (flags_in places j)) (add-one i)
      ∙ ap (λ (t : Bool). length (flags_in places i ++ cond t (suc i ∷ []) [])) (eq-eqb (get_or places (suc i) 0) 0 (sym (ap (λ (m : ℕ). get_or places m 0) is) ∙ z))
      ∙ length-append (flags_in places i) (suc i ∷ []))

  pub count_same : (get_or places n 0 ≡ 0 → ⊥) → length (flags_in places i) ≡ length (flags_in places (i + 1))
  count_same z =
      sym (ap (λ (j : ℕ). length (flags_in places j)) (add-one i)
      ∙ ap (λ (t : Bool). length (flags_in places i ++ cond t (suc i ∷ []) [])) (ne_eqb (get_or places (suc i) 0) 0 (λ e. z (ap (λ (m : ℕ). get_or places m 0) is ∙ e)))
      ∙ ap length (append-nil (flags_in places i)))

-- ---- groups
module _ {L : Limits} {start : List ℕ} {F D : Prefix} {cells₀ ms mls mks : List ℕ} (ready : GroupsReady L start F D cells₀ ms mls mks) {i : ℕ} (inside : i < get_or ms 0 0) where
  here : i < length D
  here = omega (arith, inside, ready.numbers.count)

  abbrev x : Variable
  x = get_or D i (variable free 0)

  variable_is : x ≡ variable (quantifier_of (code_at mls mks i)) (entry_at ms i)
  variable_is = sym (λ j. variable (kind j) (number j))
    where
      number : entry_at ms i ≡ (get_or D i (variable free 0)).number
      number = ready.numbers.at i here ∙ got D i
        where
          got : (E : Prefix) (k : ℕ) → get_or (map (λ d. d.number) E) k 0 ≡ (get_or E k (variable free 0)).number
          got [] k = refl
          got (d ∷ E) zero = refl
          got (d ∷ E) (suc k) = got E k

      kind : quantifier_of (code_at mls mks i) ≡ (get_or D i (variable free 0)).quantifier
      kind = ap quantifier_of (ready.quantified.at i here) ∙ code_back (quantifier_at D (suc i)) ∙ got D i
        where
          got : (E : Prefix) (k : ℕ) → get_or (quantifiers E) k free ≡ (get_or E k (variable free 0)).quantifier
          got [] k = refl
          got (d ∷ E) zero = refl
          got (d ∷ E) (suc k) = got E k

  whole : (F ++ take i D) ++ (variable (quantifier_of (code_at mls mks i)) (entry_at ms i) ∷ drop (suc i) D) ≡ F ++ D
  whole =
      append_assoc F (take i D) (variable (quantifier_of (code_at mls mks i)) (entry_at ms i) ∷ drop (suc i) D)
      ∙ ap (λ (l : Prefix). F ++ l) (ap (λ (d : Variable). take i D ++ (d ∷ drop (suc i) D)) (sym variable_is) ∙ sym (split_at D i (variable free 0) here))

  one_more : (F ++ take i D) ++ (variable (quantifier_of (code_at mls mks i)) (entry_at ms i) ∷ []) ≡ F ++ take (i + 1) D
  one_more =
      append_assoc F (take i D) (variable (quantifier_of (code_at mls mks i)) (entry_at ms i) ∷ [])
      ∙ ap (λ (l : Prefix). F ++ l) (ap (λ (d : Variable). take i D ++ (d ∷ [])) (sym variable_is) ∙ sym (take-suc D i (variable free 0) here) ∙ ap (λ (k : ℕ). take k D) (sym (add-one i)))

  code : code_at mls mks i ≤ quantifier_code forall
  code = subst (λ (k : ℕ). k ≤ quantifier_code forall) (sym (ready.quantified.at i here)) (code_most (quantifier_at D (suc i)))

  module _ {cells : List ℕ} (b : Built L start (F ++ take i D) cells) {kind : ℕ} (coded : kind ≡ code_for mls mks (i + 1)) {n : ℕ} (is : n ≡ entry_at ms i) where
    of : kind ≡ code_at mls mks i
    of = coded ∙ ap (code_for mls mks) (add-one i)

    at : (F ++ take i D) ++ (variable (quantifier_of (code_at mls mks i)) n ∷ drop (suc i) D) ≡ F ++ D
    at = ap (λ (m : ℕ). (F ++ take i D) ++ (variable (quantifier_of (code_at mls mks i)) m ∷ drop (suc i) D)) is ∙ whole

    low : kind ≤ quantifier_code forall
    low = subst (λ (k : ℕ). k ≤ quantifier_code forall) (sym of) code

    pub group_declarable : DeclarableAt L cells kind
    group_declarable = one_declarable b ready.formed (quantifier_of (code_at mls mks i)) n (drop (suc i) D) at low (ap quantifier_of of)

    pub group_built : {o : Option ℕ} {cells' : List ℕ} → DeclaredAt L cells n kind o cells' → Built L start (F ++ take (i + 1) D) cells'
    group_built {o} {cells'} d =
        subst (λ (P : Prefix). Built L start P cells') (ap (λ (m : ℕ). (F ++ take i D) ++ (variable (quantifier_of (code_at mls mks i)) m ∷ [])) is ∙ one_more)
        (one_built b ready.formed (quantifier_of (code_at mls mks i)) n (drop (suc i) D) at low (ap quantifier_of of) d)

pub groups_built : {L : Limits} {start : List ℕ} {F D : Prefix} {cells₀ ms mls mks : List ℕ} → GroupsReady L start F D cells₀ ms mls mks → {i : ℕ} → get_or ms 0 0 ≤ i → {cells : List ℕ} → Built L start (F ++ take i D) cells → Built L start (F ++ D) cells
groups_built {L} {start} {F} {D} ready {i} over {cells} b = subst (λ (E : Prefix). Built L start (F ++ E) cells) (take_all i D (omega (arith, over, ready.numbers.count))) b

-- ---- both
module _ {L : Limits} {D : Prefix} {cells ms mls mks places : List ℕ} {v : ℕ} (r : Regroupable L D cells ms mls mks places v) {count k : ℕ} (counted : count ≡ length (flags_in places v)) (crowd : k ≡ crowd_for count) {kind : ℕ} (stands : kind ≡ kind_for k) where
  crowd_is : k ≡ crowd_for (length (flags_up_to D v))
  crowd_is = crowd ∙ ap crowd_for (counted ∙ ap length (flags_told D places r.shown v))

  kind_is : kind ≡ kind_for (crowd_for (length (flags_up_to D v)))
  kind_is = stands ∙ ap kind_for crowd_is

  formed : Formed L (flags_as kind places v ++ D)
  formed =
      subst (λ (ns : List ℕ). Formed L (map (variable (quantifier_of kind)) ns ++ D)) (sym (flags_told D places r.shown v))
      (subst (λ (j : ℕ). Formed L (map (variable (quantifier_of j)) (flags_up_to D v) ++ D)) (sym kind_is) (formed_whole L D v r.few r.numbers_ok r.none_free))

  kind_low : (j : ℕ) → kind_for j ≤ quantifier_code forall
  kind_low zero = omega arith
  kind_low (suc j) = omega arith

  module _ {now : List ℕ} (b : Built L cells [] now) where
    pub flags_ready : FlagsReady L now places v kind
    flags_ready =
        record {
          built = record { room = b.room; sound = b.sound; few = b.few; prefix = b.prefix; beside = record { long = refl; limits = refl; behind = refl } };
          formed = formed_part L (flags_as kind places v) D formed;
          code = subst (λ (j : ℕ). j ≤ quantifier_code forall) (sym stands) (kind_low k);
        }

    module _ {next : List ℕ} (c : Built L now (flags_as kind places v) next) where
      pub groups_ready : GroupsReady L cells (flags_as kind places v) D next ms mls mks
      groups_ready =
          record {
            built = record { room = c.room; sound = c.sound; few = c.few; prefix = c.prefix; beside = beside_more b.beside c.beside };
            formed = formed;
            numbers = r.numbers;
            quantified = r.quantified;
          }

      pub regrouped : {last : List ℕ} → Built L cells (flags_as kind places v ++ D) last → Regrouped L D cells v k last
      regrouped {last} d =
          record {
            count = crowd_is;
            built =
                subst (λ (j : ℕ). Built L cells (map (variable (quantifier_of j)) (flags_up_to D v) ++ D) last) stands
                (subst (λ (ns : List ℕ). Built L cells (map (variable (quantifier_of kind)) ns ++ D) last) (flags_told D places r.shown v) d);
          }
