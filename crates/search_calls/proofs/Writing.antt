-- The two tables of a state after what was learned was written back into its parts.
use Prim.Native.Nat.{ℕ, ◌+◌, ◌-◌}
use native.Mathlib.Omega.{arith}
use mathlib.Core.Path.{◌≡◌, sym, ap, subst, ◌∙◌}
use mathlib.Core.List.{List}
use borrow.Rule.Slice.PartMut.{put_mid, same_len_mid}
use lib.IntN.{ℤ}
use lib.ListN.{length, get_or}
use Rattle.qbf.specs.Formula.{Limits}
use Rattle.state.specs.State.{State}
use Rattle.state.specs.Reading.{own}
use Rattle.search_entry.specs.declared.Learned.{Learned}
use Rattle.state_parts.specs.Parts.{part, by_number, clause_count, cube_sizes, recorded, levels_at, clause_sizes_at, learned_clause_sizes_at, learned_cube_sizes_at, clause_cells, learned_cells, learned_cubes_at, cell_count, literal_count, parts_under, Whole, Exact}
use Rattle.state_parts.proofs.Cutting.{part_at, put_after, put_behind}
use Rattle.state_parts.proofs.Written.{whole_exact, learned_clauses_put, learned_clause_sizes_put, learned_cubes_put, learned_cube_sizes_put, limits_put}
use Rattle.asking.specs.Stored.{with_learned, ClausesStored, CubesStored}
use Rattle.rule_calls.specs.StaysAt.{BehindAt}
use Rattle.search_calls.specs.Back.{BackAt, BackWithin}

module _ (L : Limits) (cells : List ℕ) (literals : List ℤ) (w : Whole L cells literals) (l : Learned) where
  abbrev x : State
  x = parts_under L cells literals

  e : Exact L x
  e = whole_exact L cells literals w

  module _ (cs : List ℤ) (css : List ℕ) (qs : List ℤ) (qss : List ℕ)
      (clauses : ClausesStored L.numbers l.clauses x.numbers (get_or x.clause_sizes 0 0) x.learned_clauses x.learned_clause_sizes cs css)
      (cubes : CubesStored L.numbers l.cubes x.numbers x.learned_cubes x.learned_cube_sizes qs qss) where
    abbrev literals₁ : List ℤ
    literals₁ = put_mid (clause_cells L) (learned_cells L) literals cs

    abbrev literals₂ : List ℤ
    literals₂ = put_mid (learned_cubes_at L) (learned_cells L) literals₁ qs

    abbrev cells₁ : List ℕ
    cells₁ = put_mid (learned_clause_sizes_at L) (recorded L) cells css

    abbrev cells₂ : List ℕ
    cells₂ = put_mid (learned_cube_sizes_at L) (cube_sizes L) cells₁ qss

    cs_long : length cs ≡ learned_cells L
    cs_long = clauses.stored.cells_room ∙ e.learned_clauses_room

    css_long : length css ≡ recorded L
    css_long = clauses.stored.sizes_room ∙ e.learned_clause_sizes_room

    qs_long : length qs ≡ learned_cells L
    qs_long = cubes.cells_room ∙ e.learned_cubes_room

    qss_long : length qss ≡ cube_sizes L
    qss_long = cubes.sizes_room ∙ e.learned_cube_sizes_room

    literals₁_long : length literals₁ ≡ length literals
    literals₁_long = same_len_mid (clause_cells L) (learned_cells L) literals cs (cs_long ∙ sym e.learned_clauses_room)

    cells₁_long : length cells₁ ≡ length cells
    cells₁_long = same_len_mid (learned_clause_sizes_at L) (recorded L) cells css (css_long ∙ sym e.learned_clause_sizes_room)

    w₁ : Whole L cells literals₁
    w₁ = record { cells_room = w.cells_room; literals_room = omega (arith, w.literals_room, literals₁_long) }

    w₂ : Whole L cells₁ literals₁
    w₂ = record { cells_room = omega (arith, w.cells_room, cells₁_long); literals_room = w₁.literals_room }

    e₂ : Exact L (parts_under L cells₁ literals₁)
    e₂ = whole_exact L cells₁ literals₁ w₂

    literals₂_long : length literals₂ ≡ length literals₁
    literals₂_long = same_len_mid (learned_cubes_at L) (learned_cells L) literals₁ qs (qs_long ∙ sym e₂.learned_cubes_room)

    cells₂_long : length cells₂ ≡ length cells₁
    cells₂_long = same_len_mid (learned_cube_sizes_at L) (cube_sizes L) cells₁ qss (qss_long ∙ sym e₂.learned_cube_sizes_room)

    w₃ : Whole L cells₁ literals₂
    w₃ = record { cells_room = w₂.cells_room; literals_room = omega (arith, w₁.literals_room, literals₂_long) }

    -- one part after the other
    first : parts_under L cells literals₁ ≡ with_learned x cs x.learned_clause_sizes x.learned_cubes x.learned_cube_sizes
    first = learned_clauses_put L cells literals w cs cs_long

    second : parts_under L cells₁ literals₁ ≡ with_learned x cs css x.learned_cubes x.learned_cube_sizes
    second = learned_clause_sizes_put L cells literals₁ w₁ css css_long ∙ ap (λ (z : State). with_learned z z.learned_clauses css z.learned_cubes z.learned_cube_sizes) first

    third : parts_under L cells₁ literals₂ ≡ with_learned x cs css qs x.learned_cube_sizes
    third = learned_cubes_put L cells₁ literals₁ w₂ qs qs_long ∙ ap (λ (z : State). with_learned z z.learned_clauses z.learned_clause_sizes qs z.learned_cube_sizes) second

    all : parts_under L cells₂ literals₂ ≡ with_learned x cs css qs qss
    all = learned_cube_sizes_put L cells₁ literals₂ w₃ qss qss_long ∙ ap (λ (z : State). with_learned z z.learned_clauses z.learned_clause_sizes z.learned_cubes qss) third

    -- what lies behind the parts lies behind all four
    behind_kept : BehindAt L cells literals cells₂ literals₂
    behind_kept =
        record {
          cells_behind =
              put_behind (cell_count L) (learned_cube_sizes_at L) (cube_sizes L) cells₁ qss (omega arith) (omega (arith, w₂.cells_room)) qss_long
              ∙ put_behind (cell_count L) (learned_clause_sizes_at L) (recorded L) cells css (omega arith) (omega (arith, w.cells_room)) css_long;
          literals_behind =
              put_behind (literal_count L) (learned_cubes_at L) (learned_cells L) literals₁ qs (omega arith) (omega (arith, w₁.literals_room)) qs_long
              ∙ put_behind (literal_count L) (clause_cells L) (learned_cells L) literals cs (omega arith) (omega (arith, w.literals_room)) cs_long;
        }

    pub back_at : BackAt L cells literals l cells₂ literals₂
    back_at =
        record {
          cs = cs;
          css = css;
          qs = qs;
          qss = qss;
          clauses = clauses;
          cubes = cubes;
          parts = all;
          limits =
              limits_put cells₁ (learned_cube_sizes_at L) (cube_sizes L) qss (omega arith) (omega (arith, w₂.cells_room))
              ∙ limits_put cells (learned_clause_sizes_at L) (recorded L) css (omega arith) (omega (arith, w.cells_room));
          whole = record { cells_room = omega (arith, w₂.cells_room, cells₂_long); literals_room = w₃.literals_room };
        }

    pub back_within : BackWithin L cells literals l cells₂ literals₂
    back_within = record { at = back_at; behind = behind_kept }

-- ---- where the parts stand, as they were computed
module _ (n m : ℕ) (cells : List ℕ) (literals : List ℤ) (w : Whole (own n m) cells literals) (l : Learned) where
  abbrev O : Limits
  O = own n m

  abbrev z : State
  z = parts_under O cells literals

  abbrev Written : (nums : List ℕ) (count a₁ k₁ a₂ k₂ s₁ j₁ s₂ j₂ : ℕ) → Type 0
  Written nums count a₁ k₁ a₂ k₂ s₁ j₁ s₂ j₂ =
      (cs : List ℤ) (css : List ℕ) (qs : List ℤ) (qss : List ℕ) → ClausesStored n l.clauses nums count (part a₁ k₁ literals) (part s₁ j₁ cells) cs css
      → CubesStored n l.cubes nums (part a₂ k₂ (put_mid a₁ k₁ literals cs)) (part s₂ j₂ (put_mid s₁ j₁ cells css)) qs qss
      → BackWithin O cells literals l (put_mid s₂ j₂ (put_mid s₁ j₁ cells css) qss) (put_mid a₂ k₂ (put_mid a₁ k₁ literals cs) qs)

  at_parts : Written z.numbers (get_or z.clause_sizes 0 0) (clause_cells O) (learned_cells O) (learned_cubes_at O) (learned_cells O) (learned_clause_sizes_at O) (recorded O) (learned_cube_sizes_at O) (cube_sizes O)
  at_parts cs css qs qss clauses cubes =
      back_within O cells literals w l cs css qs qss clauses
      (subst (λ (f : List ℤ). CubesStored n l.cubes z.numbers f z.learned_cube_sizes qs qss)
      (put_after (learned_cubes_at O) (learned_cells O) (clause_cells O) (learned_cells O) literals cs (omega arith) (omega (arith, w.literals_room)) (clauses.stored.cells_room ∙ (whole_exact O cells literals w).learned_clauses_room))
      (subst (λ (g : List ℕ). CubesStored n l.cubes z.numbers (part (learned_cubes_at O) (learned_cells O) (put_mid (clause_cells O) (learned_cells O) literals cs)) g qs qss)
      (put_after (learned_cube_sizes_at O) (cube_sizes O) (learned_clause_sizes_at O) (recorded O) cells css (omega arith) (omega (arith, w.cells_room)) (clauses.stored.sizes_room ∙ (whole_exact O cells literals w).learned_clause_sizes_room))
      cubes))

  pub back_as : {ca qa lc sa qsa la csa : ℕ} → ca ≡ clause_cells O → qa ≡ learned_cubes_at O → lc ≡ learned_cells O → sa ≡ learned_clause_sizes_at O → qsa ≡ learned_cube_sizes_at O → la ≡ levels_at O
      → csa ≡ clause_sizes_at O → {nums : List ℕ} → nums ≡ part 2 (la - 2) cells → Written nums (get_or cells csa 0) ca (qa - ca) qa (qa + lc - qa) sa (qsa - sa) qsa (qsa + 65 - qsa)
  back_as {ca} {qa} {lc} {sa} {qsa} {la} {csa} p₁ p₂ p₃ p₄ p₅ p₆ p₇ {nums} copied =
      subst (λ (i : ℕ). Written nums (get_or cells csa 0) ca (qa - ca) qa (qa + lc - qa) sa (qsa - sa) qsa i) e₈
      (subst (λ (i : ℕ). Written nums (get_or cells csa 0) ca (qa - ca) qa (qa + lc - qa) sa (qsa - sa) i (cube_sizes O)) (sym p₅)
      (subst (λ (i : ℕ). Written nums (get_or cells csa 0) ca (qa - ca) qa (qa + lc - qa) sa i (learned_cube_sizes_at O) (cube_sizes O)) e₆
      (subst (λ (i : ℕ). Written nums (get_or cells csa 0) ca (qa - ca) qa (qa + lc - qa) i (recorded O) (learned_cube_sizes_at O) (cube_sizes O)) (sym p₄)
      (subst (λ (i : ℕ). Written nums (get_or cells csa 0) ca (qa - ca) qa i (learned_clause_sizes_at O) (recorded O) (learned_cube_sizes_at O) (cube_sizes O)) e₄
      (subst (λ (i : ℕ). Written nums (get_or cells csa 0) ca (qa - ca) i (learned_cells O) (learned_clause_sizes_at O) (recorded O) (learned_cube_sizes_at O) (cube_sizes O)) (sym p₂)
      (subst (λ (i : ℕ). Written nums (get_or cells csa 0) ca i (learned_cubes_at O) (learned_cells O) (learned_clause_sizes_at O) (recorded O) (learned_cube_sizes_at O) (cube_sizes O)) e₂
      (subst (λ (i : ℕ). Written nums (get_or cells csa 0) i (learned_cells O) (learned_cubes_at O) (learned_cells O) (learned_clause_sizes_at O) (recorded O) (learned_cube_sizes_at O) (cube_sizes O)) (sym p₁)
      (subst (λ (i : ℕ). Written nums i (clause_cells O) (learned_cells O) (learned_cubes_at O) (learned_cells O) (learned_clause_sizes_at O) (recorded O) (learned_cube_sizes_at O) (cube_sizes O)) counted
      (subst (λ (t : List ℕ). Written t (get_or z.clause_sizes 0 0) (clause_cells O) (learned_cells O) (learned_cubes_at O) (learned_cells O) (learned_clause_sizes_at O) (recorded O) (learned_cube_sizes_at O) (cube_sizes O)) numbered at_parts)))))))))
    where
      e₂ : learned_cells O ≡ qa - ca
      e₂ = omega (arith, p₁, p₂)

      e₄ : learned_cells O ≡ qa + lc - qa
      e₄ = omega (arith, p₃)

      e₆ : recorded O ≡ qsa - sa
      e₆ = omega (arith, p₄, p₅)

      e₈ : cube_sizes O ≡ qsa + 65 - qsa
      e₈ = omega arith

      numbered : z.numbers ≡ nums
      numbered = let e : by_number O ≡ la - 2 = omega (arith, p₆) in ap (λ (i : ℕ). part 2 i cells) e ∙ sym copied

      counted : get_or z.clause_sizes 0 0 ≡ get_or cells csa 0
      counted =
          let e : clause_sizes_at O + 0 ≡ csa = omega (arith, p₇) in
          part_at (clause_sizes_at O) (clause_count O) cells 0 0 (omega arith) ∙ ap (λ (i : ℕ). get_or cells i 0) e
