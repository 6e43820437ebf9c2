-- `asking::query::query` meets its contract.
use mathlib.Core.List.{[], ◌∷◌}
use mathlib.Core.Path.{refl, sym, subst, ◌∙◌}
use Rattle.qbf.specs.Calls.{query, start_node}
use Rattle.cover.proofs.Laws.{covers_none}
use Rattle.theory.proofs.Starting.{start_length}
use Rattle.reading.proofs.Querying.{read_refused}
use Rattle.replies.specs.Replies.{ruling_said}
use Rattle.asking.specs.declared.query.Told.{Told}
use Rattle.asking.specs.Answered.{limits_of, state_of, Answered}
use Rattle.asking.proofs.Asking.{answered_as, cut_room, read_ready, asked_by, halted_by, refused_query, open_shown, open_by}
use Rattle.asking.proofs.Finding.{search_of}
use Rattle.asking.proofs.query.query.Goals as goal

pub returns-in_default : goal.returns-in_default
returns-in_default c = let k = c.args.checked in
    let frees = c.free-free.ensures.0 in
    let read = read_refused c.read.result (c.read.ensures _ _ (read_ready _ _ _ k.accepted k.few_numbers k.few_clauses frees k.placed c.clear.ensures (cut_room _ _ c.requires))) c.in_default.not-Ok in
    subst (λ (t : Told). Answered (limits_of k) (state_of k) (query c.args.asked.ceiling c.args.asked.on.now c.args.asked.off.now) (ruling_said t.ruled.ruling t.ruled.visits) t.learned) (sym c.unlearned.ensures)
    (answered_as _ _ (query c.args.asked.ceiling _ _) c.refused.ensures (refused_query _ _ _ k.accepted k.few_numbers k.few_clauses frees read c.args.asked.ceiling refl))

pub returns-then-not-full : goal.returns-then-not-full
returns-then-not-full c = let k = c.args.checked in
    let frees = c.free-free.ensures.0 in
    let read = c.in-Ok.ensures _ _ (read_ready _ _ _ k.accepted k.few_numbers k.few_clauses frees k.placed c.clear.ensures (cut_room _ _ c.requires)) in
    let partly = c.if-not-full.true in
    subst (λ (t : Told). Answered (limits_of k) (state_of k) (query c.args.asked.ceiling c.args.asked.on.now c.args.asked.off.now) (ruling_said t.ruled.ruling t.ruled.visits) t.learned) (sym c.unlearned-then-not-full.ensures)
    (open_by _ _ _ k.accepted k.few_numbers k.few_clauses frees read refl partly c.args.asked.ceiling
    (c.query.ensures.ruled _ _ (open_shown _ _ _ k.accepted k.few_numbers k.few_clauses frees read refl partly k.placed k.kinded)))

pub returns-then-left-eq0 : goal.returns-then-left-eq0
returns-then-left-eq0 c = let k = c.args.checked in
    let frees = c.free-free.ensures.0 in
    let read = c.in-Ok.ensures _ _ (read_ready _ _ _ k.accepted k.few_numbers k.few_clauses frees k.placed c.clear.ensures (cut_room _ _ c.requires)) in
    let whole = c.if-not-full.false in
    let found = search_of k c.given.ensures c.run-found.ensures.ran (start_node c.args.asked.on.now _) k.placed k.kinded (read.shown refl whole) (start_length c.args.asked.on.now _ ∙ sym frees) frees
    (covers_none c.free-free.result 1 (0 ∷ []) refl) in
    answered_as _ _ (query c.args.asked.ceiling _ _) c.stopped-ruled.ensures
    (halted_by _ _ _ k.accepted k.few_numbers k.few_clauses frees read c.args.asked.ceiling c.run-found.result.answer c.run-found.result.learned _ refl whole refl found c.budget_of.ensures.0 c.if-left-eq0.true)

pub returns : goal.returns
returns c = let k = c.args.checked in
    let frees = c.free-free.ensures.0 in
    let read = c.in-Ok.ensures _ _ (read_ready _ _ _ k.accepted k.few_numbers k.few_clauses frees k.placed c.clear.ensures (cut_room _ _ c.requires)) in
    let whole = c.if-not-full.false in
    let found = search_of k c.given.ensures c.run-found.ensures.ran (start_node c.args.asked.on.now _) k.placed k.kinded (read.shown refl whole) (start_length c.args.asked.on.now _ ∙ sym frees) frees
    (covers_none c.free-free.result 1 (0 ∷ []) refl) in
    asked_by _ _ _ k.accepted k.few_numbers k.few_clauses frees read c.args.asked.ceiling c.run-found.result.answer c.run-found.result.learned _ refl whole refl found c.budget_of.ensures.0 c.visits_of.result c.visits_of.ensures
    c.if-left-eq0.false c.of-ruled.ensures
