-- `closest::line_distance` meets its contract. What is counted so far and what the places left come to is the distance.
use Rattle.std.proofs.Common.{◌≡◌, ◌+◌, length, get_or, sym, ◌∙◌, subst, arith, ℕ}
use Rattle.std.proofs.lemmas.Slice.Zip.{zip_turn, zip_end}
use Rattle.std.proofs.lemmas.List.{length_push}
use Rattle.qbf.specs.Closest.{differs}
use Rattle.closest.specs.Table.{value_in}
use Rattle.closest.proofs.Bytes.{Passed, distance_more, distance_stop, distance_end}
use Rattle.closest.proofs.line_distance.Goals as goal

pub returns-then-b-eq0 : goal.returns-then-b-eq0
returns-then-b-eq0 c =
    let t = zip_turn c.args.row.now c.args.given.now c.loop-b.yielded c.into_iter-b-iterator.result c.loop-b.b-iterator c.next.new.self _ (cc) (cc) c.loop-b.yielded_by _ c.in-Some.is c.next.ensures.steps in
    (distance_stop c.args.row.now c.args.given.now (length c.loop-b.yielded) c.loop-b.n t.0 (sym (t.2 0) ∙ c.if-b-eq0.true) c.loop-b.invariant.2, omega arith)

pub loop-b-preserved : goal.loop-b-preserved
loop-b-preserved c =
    let t = zip_turn c.args.row.now c.args.given.now c.loop-b.yielded c.into_iter-b-iterator.result c.loop-b.b-iterator c.next.new.self _ (cc) (cc) c.loop-b.yielded_by _ c.in-Some.is c.next.ensures.steps in
    let n = length_push c.loop-b.yielded (c.in-Some.b, c.in-Some.g) in
    let d : c.differ-n.result ≡ differs (value_in (get_or c.args.row.now (length c.loop-b.yielded) 0)) (value_in (get_or c.args.given.now (length c.loop-b.yielded) 0)) = cc (c.differ-n.ensures.0, t.2 0, t.3 0) in (
      omega arith,
      omega arith,
      subst (λ (i : ℕ). Passed c.args.row.now c.args.given.now i (c.loop-b.n + c.differ-n.result)) (sym n)
          (distance_more c.args.row.now c.args.given.now (length c.loop-b.yielded) c.loop-b.n _ t.0 c.requires (λ e. c.if-b-eq0.false (t.2 0 ∙ e)) d c.loop-b.invariant.2),
    )

pub returns : goal.returns
returns c =
    let e = zip_end c.args.row.now c.args.given.now c.loop-b.yielded c.into_iter-b-iterator.result c.loop-b.b-iterator c.next.new.self _ (cc) (cc) c.loop-b.yielded_by c.in-None.is c.next.ensures.steps in
    (distance_end c.args.row.now c.args.given.now (length c.loop-b.yielded) c.loop-b.n (omega (arith, e, c.requires)) c.loop-b.invariant.2, omega arith)
