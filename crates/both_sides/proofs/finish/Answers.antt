-- `finish` meets its contract, by the step that the two verdicts ask for.
use native.Mathlib.Omega.{arith}
use mathlib.Core.Path.{refl, sym, ◌∙◌}
use mathlib.Core.Bool.{true, false}
use Rattle.both_sides.proofs.Steps.{joined_on, cubes_step, clauses_step, onward_joined, grown_none}
use Rattle.both_sides.proofs.finish.Goals as goal

pub returns-in-On : goal.returns-in-On
returns-in-On c = record {
  finished = (
    record { budget = refl; lines = refl },
    grown_none c.args.learned.now.clauses.links.now c.args.learned.now.cubes.links.now,
  );
  joined = λ D R s κ a o g st k qu l e p q ea eo sh gr ss.
      joined_on D R κ s st k _ _ a o c.args.off.verdict c.args.on refl p q ss (sym (c.step_of.ensures κ e) ∙ c.in-On.is) c.args.matrix.now.rows c.args.area.now refl;
}

pub returns-in-Clauses : goal.returns-in-Clauses
returns-in-Clauses c = record {
  finished = (c.join.ensures.0.counts, record { clauses = c.join.ensures.1; cubes = omega arith });
  joined = λ D R s κ a o g st k qu l e p q ea eo sh gr ss.
      onward_joined D R κ s st k _ _ a o false c.args.on c.join.result c.args.off.at l c.args.matrix.now.rows c.args.area.now gr ss
      (clauses_step D R κ s st k _ _ a o c.args.off.verdict c.args.on.verdict refl (sym (c.step_of.ensures κ e) ∙ c.in-Clauses.is) p q)
      refl ea eo sh c.join.new.learned.cells.now c.join.new.learned.links.now
      (λ x y off on ox oy lx ly fits. c.join.ensures.2 D x y st.clauses qu off on ox oy lx ly fits ss.shown.clauses)
      c.join.ensures.0.verdict;
}

pub returns-in-Cubes : goal.returns-in-Cubes
returns-in-Cubes c = record {
  finished = (c.join-in-Cubes.ensures.0.counts, record { clauses = omega arith; cubes = c.join-in-Cubes.ensures.1 });
  joined = λ D R s κ a o g st k qu l e p q ea eo sh gr ss.
      onward_joined D R κ s st k _ _ a o true c.args.on c.join-in-Cubes.result c.args.off.at l c.args.matrix.now.rows c.args.area.now gr ss
      (cubes_step D R κ s st k _ _ a o c.args.off.verdict c.args.on.verdict refl (sym (c.step_of.ensures κ e) ∙ c.in-Cubes.is) p q)
      refl ea eo sh c.join-in-Cubes.new.learned.cells.now c.join-in-Cubes.new.learned.links.now
      (λ x y off on ox oy lx ly fits. c.join-in-Cubes.ensures.2 D x y st.cubes qu off on ox oy lx ly fits ss.shown.cubes)
      c.join-in-Cubes.ensures.0.verdict;
}
