-- Four cells are written: the tables by place have one variable more, and what stands beside them stays.
use Prim.Native.Nat.{ℕ, suc, ◌+◌, ◌≤◌, ◌<◌}
use native.Mathlib.Omega.{arith}
use mathlib.Core.Path.{◌≡◌, refl, sym, ap, subst, ◌∙◌}
use mathlib.Core.Bool.{Bool, true, false, not, ◌&&◌, ◌||◌}
use mathlib.Core.List.{List}
use mathlib.Core.Option.{Option, none, some}
use lib.Dec.{eqb, leb, ltb}
use lib.ListN.{length, get_or, set, length-set}
use lib.Seq.{get_or-set_other, drop-set-lt}
use borrow.Author.Tests.{eqb-false, eqb-true, ltb-false}
use Rattle.qbf.specs.Formula.{Limits, most_free, Quantifier, is_free, Prefix, place_of}
use Rattle.qbf.specs.Truth.{free_variables}
use Rattle.qbf.specs.Calls.{given, ◌or_else◌, free_is_ok}
use Rattle.theory.proofs.Basics.{or_false_left, or_false_right, not_false}
use Rattle.state.specs.Reading.{quantifier_of, prefix_of, own}
use Rattle.state.specs.Declare.{declare_fault, next_level, SoundUnder, Growing}
use Rattle.state.proofs.Growth.{New, Grown, growing, count_fits, level_fits, declared_under}
use Rattle.state_parts.specs.Parts.{by_number, numbers_at, levels_at, kinds_at, clause_sizes_at}
use Rattle.state_parts.proofs.Cutting.{part_length, part_set, part_set_before, part_set_after}
use Rattle.declaring.specs.Declaring.{numbers_in, levels_in, kinds_in, prefix_at, DeclarableAt, Beside, DeclaredAt}

module _ (L : Limits) (cells : List ℕ) (n kind : ℕ) (w : DeclarableAt L cells kind) where
  abbrev ns : List ℕ
  ns = numbers_in L cells

  abbrev ls : List ℕ
  ls = levels_in L cells

  abbrev ks : List ℕ
  ks = kinds_in L cells

  abbrev κ : Quantifier
  κ = quantifier_of kind

  abbrev count : ℕ
  count = get_or ns 0 0

  numbers_long : length ns ≡ by_number L
  numbers_long = part_length numbers_at (by_number L) cells (omega (arith, w.room))

  levels_long : length ls ≡ by_number L
  levels_long = part_length (levels_at L) (by_number L) cells (omega (arith, w.room))

  kinds_long : length ks ≡ by_number L
  kinds_long = part_length (kinds_at L) (by_number L) cells (omega (arith, w.room))

  -- ---- refused
  pub declared_not : {k : ℕ} → declare_fault L (prefix_at L cells) κ n ≡ some k → DeclaredAt L cells n kind (some k) cells
  declared_not e = record { refusal = e; prefix = refl; sound = w.may.sound; few = w.few; beside = record { long = refl; limits = refl; behind = refl } }

  -- ---- not refused
  module _ (fine : declare_fault L (prefix_at L cells) κ n ≡ none) where
    abbrev out : Bool
    out = eqb n 0 || ltb L.numbers n

    abbrev stands : Bool
    stands = not (eqb (place_of (prefix_at L cells) n) 0)

    abbrev crowd : Bool
    crowd = is_free κ && leb most_free (free_variables (prefix_at L cells))

    tests : (a b c : Bool) → ((given a 3 or_else given b 4) or_else given c 33) ≡ none → (a ≡ false) × (b ≡ false) × (c ≡ false)
    tests true b c e = absurd (let z : ◌≡◌ {A = ℕ} 0 1 = cc in omega (arith, z))
    tests false true c e = absurd (let z : ◌≡◌ {A = ℕ} 0 1 = cc in omega (arith, z))
    tests false false true e = absurd (let z : ◌≡◌ {A = ℕ} 0 1 = cc in omega (arith, z))
    tests false false false e = (refl, refl, refl)

    clean : (out ≡ false) × (stands ≡ false) × (crowd ≡ false)
    clean = tests out stands crowd fine

    pub new : New L ns ls ks n kind
    new =
        record {
          numbers_room = omega (arith, numbers_long);
          levels_room = omega (arith, levels_long);
          kinds_room = omega (arith, kinds_long);
          may = w.may;
          low = let z : n ≡ 0 → ⊥ = eqb-false n 0 (or_false_left (eqb n 0) (ltb L.numbers n) clean.0) in omega (arith, z);
          high = ltb-false L.numbers n (or_false_right (eqb n 0) (ltb L.numbers n) clean.0);
          fresh = eqb-true (place_of (prefix_at L cells) n) 0 (not_false (eqb (place_of (prefix_at L cells) n) 0) clean.1);
        }

    pub may_grow : Growing ls ks count kind
    may_grow = growing new

    pub place_fits : count < L.numbers
    place_fits = count_fits new

    pub new_level_fits : next_level ls ks count kind ≤ L.numbers
    new_level_fits = level_fits new

    module _ {p l : ℕ} (p_is : p ≡ suc count) (l_is : l ≡ next_level ls ks count kind) where
      abbrev t₁ : List ℕ
      t₁ = set cells numbers_at p

      abbrev t₂ : List ℕ
      t₂ = set t₁ (numbers_at + p) n

      abbrev t₃ : List ℕ
      t₃ = set t₂ (levels_at L + p) l

      abbrev t₄ : List ℕ
      t₄ = set t₃ (kinds_at L + l) kind

      p_most : p ≤ L.numbers
      p_most = omega (arith, p_is, place_fits)

      l_most : l ≤ L.numbers
      l_most = omega (arith, l_is, new_level_fits)

      numbers_now : numbers_in L t₄ ≡ set (set ns 0 p) p n
      numbers_now =
          part_set_after numbers_at (by_number L) t₃ (kinds_at L + l) kind (omega arith)
          ∙ part_set_after numbers_at (by_number L) t₂ (levels_at L + p) l (omega arith)
          ∙ part_set numbers_at (by_number L) t₁ p n (omega (arith, p_most))
          ∙ ap (λ (t : List ℕ). set t p n) (part_set numbers_at (by_number L) cells 0 p (omega arith))

      levels_now : levels_in L t₄ ≡ set ls p l
      levels_now =
          part_set_after (levels_at L) (by_number L) t₃ (kinds_at L + l) kind (omega arith)
          ∙ part_set (levels_at L) (by_number L) t₂ p l (omega (arith, p_most))
          ∙ ap (λ (t : List ℕ). set t p l)
          (part_set_before (levels_at L) (by_number L) t₁ (numbers_at + p) n (omega (arith, p_most)) ∙ part_set_before (levels_at L) (by_number L) cells numbers_at p (omega arith))

      kinds_now : kinds_in L t₄ ≡ set ks l kind
      kinds_now =
          part_set (kinds_at L) (by_number L) t₃ l kind (omega (arith, l_most))
          ∙ ap (λ (t : List ℕ). set t l kind)
          (part_set_before (kinds_at L) (by_number L) t₂ (levels_at L + p) l (omega (arith, p_most))
          ∙ part_set_before (kinds_at L) (by_number L) t₁ (numbers_at + p) n (omega (arith, p_most))
          ∙ part_set_before (kinds_at L) (by_number L) cells numbers_at p (omega arith))

      cell_kept : (i : ℕ) → i < numbers_at → get_or t₄ i 0 ≡ get_or cells i 0
      cell_kept i h =
          get_or-set_other t₃ (kinds_at L + l) i kind 0 (λ e. omega (arith, e, h))
          ∙ get_or-set_other t₂ (levels_at L + p) i l 0 (λ e. omega (arith, e, h))
          ∙ get_or-set_other t₁ (numbers_at + p) i n 0 (λ e. omega (arith, e, h))
          ∙ get_or-set_other cells numbers_at i p 0 (λ e. omega (arith, e, h))

      beside : Beside L cells t₄
      beside =
          record {
            long =
                length-set t₃ (kinds_at L + l) kind
                ∙ length-set t₂ (levels_at L + p) l
                ∙ length-set t₁ (numbers_at + p) n
                ∙ length-set cells numbers_at p;
            limits = ap (λ (i : ℕ). own i (get_or t₄ 1 0)) (cell_kept 0 (omega arith)) ∙ ap (own (get_or cells 0 0)) (cell_kept 1 (omega arith));
            behind =
                drop-set-lt (clause_sizes_at L) t₃ (kinds_at L + l) kind (omega (arith, l_most))
                ∙ drop-set-lt (clause_sizes_at L) t₂ (levels_at L + p) l (omega (arith, p_most))
                ∙ drop-set-lt (clause_sizes_at L) t₁ (numbers_at + p) n (omega (arith, p_most))
                ∙ drop-set-lt (clause_sizes_at L) cells numbers_at p (omega arith);
          }

      under : Grown L ns ls ks n kind (set (set ns 0 p) p n) (set ls p l) (set ks l kind)
      under = declared_under new clean.2 w.few p_is l_is

      same_prefix : prefix_at L t₄ ≡ prefix_of (set (set ns 0 p) p n) (set ls p l) (set ks l kind)
      same_prefix = λ i. prefix_of (numbers_now i) (levels_now i) (kinds_now i)

      pub declared_so : DeclaredAt L cells n kind none t₄
      declared_so =
          record {
            refusal = fine;
            prefix = same_prefix ∙ under.prefix;
            sound =
                subst (λ (a : List ℕ). SoundUnder L a (levels_in L t₄) (kinds_in L t₄)) (sym numbers_now)
                (subst (λ (b : List ℕ). SoundUnder L (set (set ns 0 p) p n) b (kinds_in L t₄)) (sym levels_now)
                (subst (λ (c : List ℕ). SoundUnder L (set (set ns 0 p) p n) (set ls p l) c) (sym kinds_now) under.sound));
            few = ap free_is_ok same_prefix ∙ under.free_ok;
            beside = beside;
          }

      -- where the tables begin, as it was computed
      pub declared_cells : {a b : ℕ} → a ≡ levels_at L → b ≡ kinds_at L → DeclaredAt L cells n kind none (set (set (set (set cells numbers_at p) (numbers_at + p) n) (a + p) l) (b + l) kind)
      declared_cells {a} {b} e f =
          subst (λ (k : ℕ). DeclaredAt L cells n kind none (set (set (set (set cells numbers_at p) (numbers_at + p) n) (k + p) l) (b + l) kind)) (sym e)
          (subst (λ (k : ℕ). DeclaredAt L cells n kind none (set t₃ (k + l) kind)) (sym f) declared_so)

-- ---- by the parts as they are lent
module _ (L : Limits) (cells : List ℕ) (n kind : ℕ) (w : DeclarableAt L cells kind) {as' bs cs : List ℕ} (a : as' ≡ numbers_in L cells) (b : bs ≡ levels_in L cells) (c : cs ≡ kinds_in L cells) {o : Option ℕ}
    (h : (M : Limits) → M.numbers ≡ L.numbers → SoundUnder M as' bs cs → declare_fault M (prefix_of as' bs cs) (quantifier_of kind) n ≡ o) where
  same_prefix_by : prefix_of as' bs cs ≡ prefix_at L cells
  same_prefix_by = λ i. prefix_of (a i) (b i) (c i)

  sound_by : SoundUnder L as' bs cs
  sound_by =
      subst (λ (t : List ℕ). SoundUnder L t bs cs) (sym a)
      (subst (λ (t : List ℕ). SoundUnder L (numbers_in L cells) t cs) (sym b)
      (subst (λ (t : List ℕ). SoundUnder L (numbers_in L cells) (levels_in L cells) t) (sym c) w.may.sound))

  pub fault_by : declare_fault L (prefix_at L cells) (quantifier_of kind) n ≡ o
  fault_by = ap (λ (D : Prefix). declare_fault L D (quantifier_of kind) n) (sym same_prefix_by) ∙ h L refl sound_by

  pub may_grow_by : o ≡ none → {p : ℕ} → p ≡ get_or as' 0 0 → Growing bs cs p kind
  may_grow_by e {p} q =
      subst (λ (t : List ℕ). Growing t cs p kind) (sym b)
      (subst (λ (t : List ℕ). Growing (levels_in L cells) t p kind) (sym c)
      (subst (λ (k : ℕ). Growing (levels_in L cells) (kinds_in L cells) k kind) (sym (q ∙ ap (λ (t : List ℕ). get_or t 0 0) a))
      (may_grow L cells n kind w (fault_by ∙ e))))

  pub next_by : o ≡ none → {p l : ℕ} → p ≡ get_or as' 0 0 → l ≡ next_level bs cs p kind
      → (declare_fault L (prefix_at L cells) (quantifier_of kind) n ≡ none) × (p + 1 ≡ suc (get_or (numbers_in L cells) 0 0)) × (l ≡ next_level (levels_in L cells) (kinds_in L cells) (get_or (numbers_in L cells) 0 0) kind)
  next_by e {p} {l} q r = (
    fault_by ∙ e,
    (let z : p ≡ get_or (numbers_in L cells) 0 0 = q ∙ ap (λ (t : List ℕ). get_or t 0 0) a in omega (arith, z)),
    (r ∙ ap (λ (t : List ℕ). next_level t cs p kind) b ∙ ap (λ (t : List ℕ). next_level (levels_in L cells) t p kind) c
        ∙ ap (λ (k : ℕ). next_level (levels_in L cells) (kinds_in L cells) k kind) (q ∙ ap (λ (t : List ℕ). get_or t 0 0) a)),
  )
