-- A prefix that grows by one variable: the place that follows, and the tables after the stores.
use Prim.Native.Nat.{ℕ, zero, suc, ◌+◌, ◌≤◌, ◌<◌}
use native.Mathlib.Nat.{not-suc-le-zero, le_refl}
use native.Mathlib.Omega.{arith}
use mathlib.Core.Path.{◌≡◌, refl, sym, ap, ◌∙◌, subst}
use mathlib.Core.Logic.{◌⊎◌, inl, inr}
use mathlib.Core.Bool.{Bool, true, false, cond, not, ◌&&◌, ◌||◌}
use mathlib.Core.List.{List, [], ◌∷◌, ◌++◌}
use lib.ListN.{length, get_or, set, length-set, length-append, length-map}
use lib.Seq.{get_or-set_same, get_or-set_other}
use lib.Dec.{leb, eqb}
use borrow.Author.Tests.{eqb-true, eqb-false, eq-eqb, le-leb}
use Rattle.qbf.specs.Formula.{Limits, most_free, Quantifier, free, is_free, Variable, Prefix, quantifiers, any, place_from, place_of}
use Rattle.qbf.specs.Truth.{free_variables}
use Rattle.qbf.specs.Calls.{numbers_are_ok, free_first, free_is_ok}
use Rattle.theory.proofs.FreeCount.{free_more}
use Rattle.theory.proofs.Widths.{prefix_width}
use Rattle.theory.proofs.Basics.{dichotomy, and_left, and_right, and_both}
use Rattle.state.specs.Reading.{listing, quantifier_of, entry_at, code_at, variable_at, prefix_of}
use Rattle.state.specs.Derived.{ordered, step_is_ok, code_for}
use Rattle.state.specs.Declare.{variable, level_for, next_level, Growing, SoundUnder, DeclarableUnder}
use Rattle.state.proofs.Listing.{listing_length, listing_snoc, listing_same}
use Rattle.state.proofs.Steps.{order_from, order_step, steps_from, steps_ok}
use Rattle.state.proofs.Behind.{Behind, Ahead, ahead, behind, step_at, steps_snoc, Agree, steps_agree, level_agree, code_agree}

-- ---- the free variables come first
abbrev last_of : Quantifier → List Quantifier → Quantifier
last_of c [] = c
last_of c (κ ∷ ks) = last_of κ ks

order_last : (c : Quantifier) (ks : List Quantifier) (κ : Quantifier) → order_from c (ks ++ (κ ∷ [])) ≡ true → ordered (last_of c ks) κ ≡ true
order_last c [] κ e = and_left (ordered c κ) (order_from κ []) (sym (order_step c κ []) ∙ e)
order_last c (k ∷ ks) κ e = order_last k ks κ (and_right (ordered c k) (order_from k (ks ++ (κ ∷ []))) (sym (order_step c k (ks ++ (κ ∷ []))) ∙ e))

module _ (ns ls ks : List ℕ) where
  last_code_lem : (i k : ℕ) → last_of (quantifier_of (code_for ls ks i)) (quantifiers (listing (variable_at ns ls ks) i k)) ≡ quantifier_of (code_for ls ks (i + k))
  last_code_lem i zero = let q : i ≡ i + 0 = omega arith in ap (λ (n : ℕ). quantifier_of (code_for ls ks n)) q
  last_code_lem i (suc k) = let q : suc i + k ≡ i + suc k = omega arith in last_code_lem (suc i) k ∙ ap (λ (n : ℕ). quantifier_of (code_for ls ks n)) q

  order_next : (κ : Quantifier) → free_first (quantifiers (prefix_of ns ls ks) ++ (κ ∷ [])) ≡ true → ordered (quantifier_of (code_for ls ks (get_or ns 0 0))) κ ≡ true
  order_next κ e =
      let q : 0 + get_or ns 0 0 ≡ get_or ns 0 0 = omega arith in
      ap (λ (o : Quantifier). ordered o κ) (sym (last_code_lem 0 (get_or ns 0 0) ∙ ap (λ (n : ℕ). quantifier_of (code_for ls ks n)) q))
      ∙ order_last free (quantifiers (prefix_of ns ls ks)) κ e

-- ---- one number more
cond_suc : (b : Bool) (p q : ℕ) → cond b (suc p) q ≡ 0 → (b ≡ false) × (q ≡ 0)
cond_suc true p q e = absurd (not-suc-le-zero {n = p} (omega (arith, e)))
cond_suc false p q e = (refl, e)

numbers_snoc : (L : Limits) (seen : List ℕ) (D : Prefix) (p : ℕ) (κ : Quantifier) (n : ℕ) → numbers_are_ok L seen D ≡ true → leb 1 n ≡ true → leb n L.numbers ≡ true → any (eqb n) seen ≡ false
    → place_from (suc p) n D ≡ 0 → numbers_are_ok L seen (D ++ (variable κ n ∷ [])) ≡ true
numbers_snoc L seen [] p κ n e a b f z =
    and_both (leb 1 n && leb n L.numbers && not (any (eqb n) seen)) true (and_both (leb 1 n && leb n L.numbers) (not (any (eqb n) seen)) (and_both (leb 1 n) (leb n L.numbers) a b) (ap not f)) refl
numbers_snoc L seen (d ∷ ds) p κ n e a b f z =
    let here : Bool = leb 1 d.number && leb d.number L.numbers && not (any (eqb d.number) seen) in
    let q = cond_suc (eqb n d.number) p (place_from (suc (suc p)) n ds) z in
    and_both
    here
    (numbers_are_ok L (d.number ∷ seen) (ds ++ (variable κ n ∷ [])))
    (and_left here (numbers_are_ok L (d.number ∷ seen) ds) e)
    (numbers_snoc L (d.number ∷ seen) ds (suc p) κ n (and_right here (numbers_are_ok L (d.number ∷ seen) ds) e) a b (ap (λ (x : Bool). x || any (eqb n) seen) q.0 ∙ f) q.1)

-- ---- the tables after the stores
pub record New (L : Limits) (ns ls ks : List ℕ) (n kind : ℕ) : Type 0 where
  pub numbers_room : suc L.numbers ≤ length ns
  pub levels_room : suc L.numbers ≤ length ls
  pub kinds_room : suc L.numbers ≤ length ks
  pub may : DeclarableUnder L ns ls ks kind
  pub low : 1 ≤ n
  pub high : n ≤ L.numbers
  pub fresh : place_of (prefix_of ns ls ks) n ≡ 0

-- the prefix of the tables has the variable at its end
pub record Grown (L : Limits) (ns ls ks : List ℕ) (n kind : ℕ) (ns' ls' ks' : List ℕ) : Type 0 where
  pub prefix : prefix_of ns' ls' ks' ≡ prefix_of ns ls ks ++ (variable (quantifier_of kind) n ∷ [])
  pub sound : SoundUnder L ns' ls' ks'
  pub free_ok : free_is_ok (prefix_of ns' ls' ks') ≡ true

module _ {L : Limits} {ns ls ks : List ℕ} {n kind : ℕ} (w : New L ns ls ks n kind) where
  abbrev count : ℕ
  count = get_or ns 0 0

  abbrev level : ℕ
  level = next_level ls ks count kind

  grown_numbers : numbers_are_ok L [] (prefix_of ns ls ks ++ (variable (quantifier_of kind) n ∷ [])) ≡ true
  unfolding place_of
  grown_numbers = numbers_snoc L [] (prefix_of ns ls ks) 0 (quantifier_of kind) n w.may.sound.numbers_ok (le-leb 1 n w.low) (le-leb n L.numbers w.high) refl w.fresh

  few : count < L.numbers
  few =
      omega (
        arith,
        prefix_width L (prefix_of ns ls ks ++ (variable (quantifier_of kind) n ∷ [])) grown_numbers,
        length-map (prefix_of ns ls ks ++ (variable (quantifier_of kind) n ∷ [])) (λ d. d.quantifier),
        length-append (prefix_of ns ls ks) (variable (quantifier_of kind) n ∷ []),
        listing_length (variable_at ns ls ks) 0 count,
      )

  order : ordered (quantifier_of (code_for ls ks count)) (quantifier_of kind) ≡ true
  order = order_next ns ls ks (quantifier_of kind) w.may.next

  so_far : steps_from L.numbers ls ks 0 0 0 count ≡ true
  so_far = sym (steps_ok L ns ls ks (omega (arith, few))) ∙ w.may.sound.levels_ok

  past : Behind ls ks (level_for ls count) (code_for ls ks count) count
  past = behind ls ks L.numbers count so_far

  before_all : Ahead ls ks level kind count
  before_all = ahead ls ks past w.may.code order refl

  abbrev ns' : List ℕ
  ns' = set (set ns 0 (suc count)) (suc count) n

  abbrev ls' : List ℕ
  ls' = set ls (suc count) level

  abbrev ks' : List ℕ
  ks' = set ks level kind

  counted : get_or ns' 0 0 ≡ suc count
  counted =
      get_or-set_other (set ns 0 (suc count)) (suc count) 0 n 0 (λ e. omega (arith, e))
      ∙ get_or-set_same ns 0 (suc count) 0 (omega (arith, w.numbers_room))

  number_last : entry_at ns' count ≡ n
  number_last = get_or-set_same (set ns 0 (suc count)) (suc count) n 0 (omega (arith, length-set ns 0 (suc count), w.numbers_room, few))

  number_kept : (j : ℕ) → j < count → entry_at ns' j ≡ entry_at ns j
  number_kept j h =
      get_or-set_other (set ns 0 (suc count)) (suc count) (suc j) n 0 (λ e. omega (arith, e, h))
      ∙ get_or-set_other ns 0 (suc j) (suc count) 0 (λ e. omega (arith, e))

  level_last : entry_at ls' count ≡ level
  level_last = get_or-set_same ls (suc count) level 0 (omega (arith, w.levels_room, few))

  level_kept : (j : ℕ) → j < count → entry_at ls' j ≡ entry_at ls j
  level_kept j h = get_or-set_other ls (suc count) (suc j) level 0 (λ e. omega (arith, e, h))

  pub level_fits : level ≤ L.numbers
  level_fits = omega (arith, before_all.low, few)

  kind_stored : get_or ks' level 0 ≡ kind
  kind_stored = get_or-set_same ks level kind 0 (omega (arith, level_fits, w.kinds_room))

  code_last : code_at ls' ks' count ≡ kind
  code_last = ap (λ (l : ℕ). get_or ks' l 0) level_last ∙ kind_stored

  code_kept : (j : ℕ) → j < count → code_at ls' ks' j ≡ code_at ls ks j
  code_kept j h = ap (λ (l : ℕ). get_or ks' l 0) (level_kept j h) ∙ by (dichotomy (eqb (entry_at ls j) level))
    where
      by : (eqb (entry_at ls j) level ≡ true) ⊎ (eqb (entry_at ls j) level ≡ false) → get_or ks' (entry_at ls j) 0 ≡ get_or ks (entry_at ls j) 0
      by (inl e) =
          let q = eqb-true (entry_at ls j) level e in
          ap (λ (l : ℕ). get_or ks' l 0) q ∙ kind_stored ∙ sym ((before_all.each j h).1 q)
      by (inr e) = get_or-set_other ks level (entry_at ls j) kind 0 (eqb-false (entry_at ls j) level e)

  agreed : Agree ls ks ls' ks' count
  agreed = record { level = level_kept; code = code_kept }

  grown_prefix : prefix_of ns' ls' ks' ≡ prefix_of ns ls ks ++ (variable (quantifier_of kind) n ∷ [])
  grown_prefix =
      ap (listing (variable_at ns' ls' ks') 0) counted
      ∙ listing_snoc (variable_at ns' ls' ks') 0 count
      ∙ ap (λ (D : Prefix). D ++ (variable_at ns' ls' ks' (0 + count) ∷ [])) (listing_same (variable_at ns' ls' ks') (variable_at ns ls ks) 0 count kept)
      ∙ ap (λ (v : Variable). prefix_of ns ls ks ++ (v ∷ [])) last
    where
      one : (a b : ℕ) (c d : ℕ) → a ≡ b → c ≡ d → ◌≡◌ {A = Variable} (variable (quantifier_of c) a) (variable (quantifier_of d) b)
      one a b c d e f = ap (λ (x : ℕ). variable (quantifier_of c) x) e ∙ ap (λ (x : ℕ). variable (quantifier_of x) b) f

      kept : (j : ℕ) → j < count → variable_at ns' ls' ks' (0 + j) ≡ variable_at ns ls ks (0 + j)
      kept j h =
          let q : 0 + j ≡ j = omega arith in
          ap (variable_at ns' ls' ks') q ∙ one (entry_at ns' j) (entry_at ns j) (code_at ls' ks' j) (code_at ls ks j) (number_kept j h) (code_kept j h) ∙ ap (variable_at ns ls ks) (sym q)

      last : variable_at ns' ls' ks' (0 + count) ≡ variable (quantifier_of kind) n
      last =
          let q : 0 + count ≡ count = omega arith in
          ap (variable_at ns' ls' ks') q ∙ one (entry_at ns' count) n (code_at ls' ks' count) kind number_last code_last

  grown_steps : steps_from L.numbers ls' ks' 0 0 0 (suc count) ≡ true
  grown_steps = steps_snoc ls' ks' L.numbers 0 count (steps_agree agreed L.numbers 0 0 0 count (omega arith) ∙ so_far) small test
    where
      q : 0 + count ≡ count
      q = omega arith

      small : leb (entry_at ls' (0 + count)) L.numbers ≡ true
      small = ap (λ (i : ℕ). leb (entry_at ls' i) L.numbers) q ∙ ap (λ (l : ℕ). leb l L.numbers) level_last ∙ le-leb level L.numbers level_fits

      at : (m m' c c' l l' k k' : ℕ) → m ≡ m' → c ≡ c' → l ≡ l' → k ≡ k' → step_is_ok m c l k ≡ step_is_ok m' c' l' k'
      at m m' c c' l l' k k' a b d e =
          ap (λ (x : ℕ). step_is_ok x c l k) a ∙ ap (λ (x : ℕ). step_is_ok m' x l k) b ∙ ap (λ (x : ℕ). step_is_ok m' c' x k) d ∙ ap (λ (x : ℕ). step_is_ok m' c' l' x) e

      given_level : eqb level level ≡ true
      given_level = eq-eqb level level refl

      test : step_at ls' ks' (0 + count) ≡ true
      test =
          ap (step_at ls' ks') q
          ∙ at (level_for ls' count) (level_for ls count) (code_for ls' ks' count) (code_for ls ks count) (entry_at ls' count) level (code_at ls' ks' count) kind (level_agree agreed count (le_refl count)) (code_agree agreed count (le_refl count)) level_last code_last
          ∙ and_both (leb kind 2) (eqb level level && ordered (quantifier_of (code_for ls ks count)) (quantifier_of kind)) (le-leb kind 2 w.may.code) (and_both (eqb level level) (ordered (quantifier_of (code_for ls ks count)) (quantifier_of kind)) given_level order)

  grown_sound : SoundUnder L ns' ls' ks'
  grown_sound =
      record {
        numbers_ok = ap (numbers_are_ok L []) grown_prefix ∙ grown_numbers;
        levels_ok = steps_ok L ns' ls' ks' (omega (arith, counted, few)) ∙ ap (steps_from L.numbers ls' ks' 0 0 0) counted ∙ grown_steps;
      }

  pub growing : Growing ls ks count kind
  growing = record { beside = past.code; code = w.may.code }

  pub count_fits : count < L.numbers
  count_fits = few

  -- a free variable more only where there are fewer than there may be; q is the place, and l the level, as they were computed
  pub declared_under : (is_free (quantifier_of kind) && leb most_free (free_variables (prefix_of ns ls ks))) ≡ false → free_is_ok (prefix_of ns ls ks) ≡ true
      → {q l : ℕ} → q ≡ suc count → l ≡ level → Grown L ns ls ks n kind (set (set ns 0 q) q n) (set ls q l) (set ks l kind)
  declared_under may few_free {q} {l} a b =
      subst (λ (m : ℕ). Grown L ns ls ks n kind (set (set ns 0 q) q n) (set ls q m) (set ks m kind)) (sym b)
      (subst (λ (p : ℕ). Grown L ns ls ks n kind (set (set ns 0 p) p n) (set ls p level) (set ks level kind)) (sym a) (record {
        prefix = grown_prefix;
        sound = grown_sound;
        free_ok = ap free_is_ok grown_prefix ∙ free_more (prefix_of ns ls ks) (variable (quantifier_of kind) n) may few_free;
      }))

pub level_at : (ls : List ℕ) (p : ℕ) → (p ≡ 0 → ⊥) → get_or ls p 0 ≡ level_for ls p
level_at ls zero n = absurd (n refl)
level_at ls (suc i) n = refl
