-- The visitors meet their contracts: `visit`, `branch` and `side`, by the laws of Visiting, Counts, Keeping, Setting, Returns and SidesReturns.
use native.Mathlib.Omega.{arith}
use mathlib.Core.Path.{◌≡◌, ◌∙◌, sym, ap, subst, refl}
use mathlib.Core.Bool.{false, true≢false}
use Prim.Native.Nat.{◌*◌}
use mathlib.Core.List.{List}
use Prim.Native.Nat.{ℕ}
use Rattle.qbf.specs.Formula.{highest}
use Rattle.node.specs.declared.Verdict.TheVariants.{No}
use Rattle.node.specs.declared.position.Position.{Position}
use Rattle.inner.specs.declared.Leaf.{Leaf}
use Rattle.search_entry.specs.declared.Search.{Search}
use Rattle.search.specs.Search.{AsideKept, is_open, concluded_of}
use Rattle.search.specs.Visitors.{Leaves}
use Rattle.search.proofs.Counts.{counts_up, counts_sides, counts_settled, counts_concluded, counts_as, result_as}
use Rattle.search.proofs.Keeping.{statuses_back, rows_same, kept_up, kept_both}
use Rattle.search.proofs.Words.{given_asked, given_counts, given_kept, given_aside}
use Rattle.search.proofs.Setting.{aside_less, aside_then, aside_up, aside_row}
use Rattle.search.proofs.Returns.{up_result}
use Rattle.search.proofs.SidesReturns.{sides_result}
use Rattle.search.proofs.Visiting.{node_shown, concluded_result, open_result, open_is, next_result, end_result, side_result}
use Rattle.search.proofs.Opening.{Arrives, open_left, open_followed}
use Rattle.node.proofs.NextPlace.{more_places}
use Rattle.search.proofs.+branch_exists_forall_free_side_sides_visit.Goals.{visit-then-at_start, visit-else-at_start}
use Rattle.search.proofs.+branch_exists_forall_free_side_sides_visit.Goals as goal

-- nothing was put aside
same_aside : (n : ℕ) (a : List ℕ) → AsideKept n a a
same_aside n a = record { size = refl; first = refl }

pub branch-returns-then-kind-gt-FORALL : goal.branch-returns-then-kind-gt-FORALL
branch-returns-then-kind-gt-FORALL t c = record {
  left = (
    record {
      counts = counts_settled c.args.p c.settled.result No _ c.settled.ensures;
      kept = record { statuses_restored = refl; size = refl; rows = rows_same _ _ _ _ };
    },
    same_aside _ _,
  );
  followed = record {
    result = λ D s ls R g st task opened.
        end_result c.args.p task c.settled.result c.next_kind-kind.result c.next_kind-kind.ensures c.requires.made _ refl _
        (λ e. omega (arith, e, c.if-kind-gt-FORALL.true)) (λ e. omega (arith, e, c.if-kind-gt-FORALL.true)) (λ e. omega (arith, e, c.if-kind-gt-FORALL.true)) c.settled.ensures;
  };
}

pub sides-returns-then-up_or_aside : goal.sides-returns-then-up_or_aside
sides-returns-then-up_or_aside t c = let more = more_places _ c.args.p.at c.args.kind c.requires.next c.requires.code in record {
  left = (
    record {
      counts = counts_as (sym c.with_lines.ensures) (counts_up c.args.p more c.to_off.result c.to_off.ensures c.side-off.result c.side-off.ensures.left.0.counts);
      kept = kept_up c.args.p c.to_off.result _ _ c.to_off.ensures c.side-off.ensures.left.0.kept;
    },
    aside_then (aside_less (omega arith) (aside_up c.args.p c.to_off.result _ _ c.to_off.ensures c.side-off.ensures.left.1)) (record { size = omega (arith, c.up_or_aside.ensures.size); first = c.up_or_aside.ensures.put.0 }),
  );
  followed = record {
    result = λ D s ls R g st task opened.
        next_result c.args.p task c.with_lines.result c.args.kind c.requires.next c.requires.code opened
        (record {
          result = λ D s ls R g st κ task opened inside is code.
              result_as (sym c.with_lines.ensures)
              (up_result κ c.args.kind code c.args.p c.to_off.result c.to_off.ensures c.side-off.result c.side-off.ensures.side_visited c.up_or_aside.result (rw c.entry_of-row.ensures.0 at c.up_or_aside.ensures.up) D s ls R g st task opened inside is c.if-up_or_aside.true);
        });
  };
}

pub sides-returns : goal.sides-returns
sides-returns t c = let more = more_places _ c.args.p.at c.args.kind c.requires.next c.requires.code in
    let line = c.line_if-lines.ensures.table_len_unchanged in
    let put : AsideKept (c.args.p.at * highest.numbers) c.side-off.new.search.aside.now c.up_or_aside.new.aside = record { size = omega (arith, c.up_or_aside.ensures.size); first = c.up_or_aside.ensures.put.0 } in
    let on_aside = aside_up c.args.p c.to_on.result _ _ c.to_on.ensures c.side-on.ensures.left.1 in
    record {
      left = (
        record {
          counts =
              counts_sides c.args.p more c.to_off.result c.to_off.ensures c.side-off.result c.side-off.ensures.left.0.counts c.line_if-lines.result c.to_on.result c.to_on.ensures c.side-on.result c.side-on.ensures.left.0.counts c.lined-one.result c.lined-two.result line.1
              c.finish-both.result c.requires.branch.made c.finish-both.ensures.finished.0 c.finish-both.ensures.finished.1 c.settle_lines-after.result c.settle_lines-after.ensures.table_len_unchanged.1 c.with_lines-2.result c.with_lines-2.ensures;
          kept =
              kept_both c.args.p c.to_off.result c.to_on.result _ _ _ _ c.to_off.ensures c.to_on.ensures c.side-off.ensures.left.0.kept line.0 c.side-on.ensures.left.0.kept c.settle_lines-after.ensures.table_len_unchanged.0;
        },
        aside_then (aside_then (aside_less (omega arith) (aside_up c.args.p c.to_off.result _ _ c.to_off.ensures c.side-off.ensures.left.1)) put) (aside_less (omega arith) on_aside),
      );
      followed = record {
        result = λ D s ls R g st task opened.
            next_result c.args.p task c.with_lines-2.result c.args.kind c.requires.next c.requires.code opened
            (record {
              result = λ D s ls R g st κ task opened inside is code.
                  result_as (sym c.with_lines-2.ensures)
                  (sides_result c.args.kind c.args.p c.to_off.result c.to_off.ensures c.side-off.result c.side-off.ensures.side_visited c.up_or_aside.result (rw c.entry_of-row.ensures.0 at c.up_or_aside.ensures.up) c.side-off.ensures.left.0.kept
                  c.lined-one.result c.lined-one.ensures c.line_if-lines.result line.1 line.2 c.line_if-lines.ensures.covers
                  c.to_on.result c.to_on.ensures c.side-on.result c.side-on.ensures.side_visited _
                  (aside_row (c.args.p.at * highest.numbers) c.side-off.result.len (omega (arith, c.side-off.result.inside.short)) on_aside ∙ (rw c.entry_of-row.ensures.1 at c.up_or_aside.ensures.put.1) c.if-up_or_aside.false ∙ c.entry_of-row.ensures.0)
                  c.finish-both.result (rw (c.put_by-put.ensures.0, c.put_by-put.ensures.1, c.put_by-put.ensures.2, c.put_by-put.ensures.3) at c.finish-both.ensures.joined) c.if-up_or_aside.false c.finish-both.ensures.finished.0.budget
                  c.side-on.ensures.left.0.kept.statuses_restored c.lined-two.result c.lined-two.ensures c.settle_lines-after.result c.settle_lines-after.ensures.table_len_unchanged.1 c.settle_lines-after.ensures.table_len_unchanged.2
                  c.settle_lines-after.ensures.settled_to
                  D s ls R g st κ task opened inside is code);
            });
      };
    }

pub side-visit-below-requires : goal.side-visit-below-requires
side-visit-below-requires t c =
    (omega (arith, ap (λ (x : Position). x.at) c.given.ensures), given_asked c.args.value c.args.p c.given.result c.given.ensures c.requires)

pub side-returns : goal.side-returns
side-returns t c = let kept = given_kept c.args.value c.args.p c.given.result c.given.ensures c.visit-below.ensures.left.0.kept in record {
  left = (
    record {
      counts = counts_as (sym c.with_lines.ensures) (given_counts c.args.value c.args.p c.given.result c.given.ensures c.visit-below.ensures.left.0.counts);
      kept = record {
        statuses_restored =
            c.restore.ensures
            ∙ statuses_back c.args.p.at c.args.value _ _ c.args.search.now.statuses.now _ (omega (arith, c.requires.room.within, c.give_value-above.ensures.long)) (kept.statuses_restored ∙ c.give_value-above.ensures.given.0) c.give_value-above.ensures.given.1 c.give_value-above.ensures.given.2;
        size = kept.size;
        rows = kept.rows;
      };
    },
    given_aside c.args.value c.args.p c.given.result c.given.ensures c.visit-below.ensures.left.1,
  );
  side_visited = record {
    result = λ D s b ls R g st k task opened inside e v.
        result_as (sym c.with_lines.ensures)
        (side_result D s b ls R g st k c.args.p task opened inside e c.requires.room.within c.give_value-above.ensures.long c.args.value v c.give_value-above.ensures.given.0 c.given.ensures (c.visit-below.ensures.reached.visited refl));
  };
}

pub visit-returns-then-is_open : goal.visit-returns-then-is_open
visit-returns-then-is_open t c = let opened = sym c.is_open.ensures ∙ c.if-is_open.true in
    let p = c.args.p in
    let x = c.args.search.now in
    let z = c.branch-below.new.search in
    elim c.if-at_start.branch [
      | visit-then-at_start w ↦ record {
        left = open_left x x.trail.now w.search-is z _ _ (sym c.with_lines.ensures) (rows_same _ _ _ _) c.branch-below.ensures.left;
        reached = record {
          followed = λ e. open_followed {p = p} x x.trail.now w.search-is z _ _ (sym c.with_lines.ensures) c.args.matrix.now c.branch-below.ensures.followed;
          visited = λ e. absurd (true≢false (sym w.if-at_start.true ∙ e));
        };
      }
      | visit-else-at_start w ↦
          let y = w.conclude-leaf.new.trail in record {
            left = open_left x y w.search-is z _ _ (sym c.with_lines.ensures) w.conclude-leaf.ensures.rows_kept c.branch-below.ensures.left;
            reached = record {
              followed = λ e. absurd (true≢false (sym e ∙ w.if-at_start.false));
              visited = λ e. record {
                result = λ D s ls R g st k task entered.
                    open_result p task (omega (arith, c.if-spent.false)) c.with_lines.result (w.conclude-leaf.ensures.concluded D R s st k (node_shown p task) entered)
                    (open_is w.conclude-leaf.result (ap is_open (sym w.leaf-is) ∙ opened)) refl
                    (open_followed {p = p} x y w.search-is z _ _ (sym c.with_lines.ensures) c.args.matrix.now c.branch-below.ensures.followed);
              };
            };
          }
    ]

pub visit-returns : goal.visit-returns
visit-returns t c = let decided = sym c.is_open.ensures ∙ c.if-is_open.false in
    let p = c.args.p in
    let x = c.args.search.now in
    elim c.if-at_start.branch [
      | visit-then-at_start w ↦ absurd (true≢false (sym (ap is_open w.leaf-is) ∙ decided))
      | visit-else-at_start w ↦
          let closed : is_open w.conclude-leaf.result ≡ false = ap is_open (sym w.leaf-is) ∙ decided in
          let answer : c.concluded.result ≡ concluded_of w.conclude-leaf.result p = c.concluded.ensures ∙ ap (λ (l : Leaf). concluded_of l p) w.leaf-is in
          let back = sym w.search-is in record {
            left =
                subst (λ (y : Search). Leaves p.at p c.concluded.result x c.args.table.now y c.args.table.now) back (
                  record {
                    counts = counts_concluded p w.conclude-leaf.result closed c.concluded.result answer;
                    kept = record { statuses_restored = refl; size = refl; rows = w.conclude-leaf.ensures.rows_kept };
                  },
                  same_aside _ _,
                );
            reached = record {
              followed = λ e. absurd (true≢false (sym e ∙ w.if-at_start.false));
              visited = λ e. subst (λ (y : Search). Arrives p c.concluded.result c.args.matrix.now x c.args.table.now y c.args.table.now) back (record {
                result = λ D s ls R g st k task entered.
                    concluded_result p task (omega (arith, c.if-spent.false)) (w.conclude-leaf.ensures.concluded D R s st k (node_shown p task) entered) closed c.concluded.result answer;
              });
            };
          }
    ]
