use mathlib.Core.Path.{◌≡◌, refl, sym, ◌∙◌}
use mathlib.Core.Bool.{true}
use Rattle.qbf.specs.Formula.{Limits}
use Rattle.qbf.specs.Calls.{limits_are_ok}
use Rattle.state.specs.Reading.{own, roomy}
use Rattle.state.specs.Lent.{parts_state}
use Rattle.state.proofs.Valid.{checked_high, checked_bad, checked_crowded, checked_rows}
use Rattle.state.proofs.parts.Parts.check.Goals as goal

pub returns-then-not-limits_ok : goal.returns-then-not-limits_ok
returns-then-not-limits_ok c = checked_high c.args.limits.numbers c.args.limits.clauses (parts_state c.args.self) (sym c.limits_ok.ensures ∙ c.if-not-limits_ok.true) _ _

pub returns-then-not-read_prefix : goal.returns-then-not-read_prefix
returns-then-not-read_prefix c =
    let limits : Limits = own c.args.limits.numbers c.args.limits.clauses in
    let held : roomy limits (parts_state c.args.self) ≡ true = sym c.has_room.ensures ∙ c.if-not-has_room.false in
    checked_bad c.args.limits.numbers c.args.limits.clauses (parts_state c.args.self) held (c.read_prefix.ensures limits refl) c.if-not-read_prefix.true

pub returns-then-not-few_free : goal.returns-then-not-few_free
returns-then-not-few_free c =
    let limits : Limits = own c.args.limits.numbers c.args.limits.clauses in
    let held : roomy limits (parts_state c.args.self) ≡ true = sym c.has_room.ensures ∙ c.if-not-has_room.false in
    checked_crowded c.args.limits.numbers c.args.limits.clauses (parts_state c.args.self) held (c.read_prefix.ensures limits refl) c.if-not-read_prefix.false
    (λ D h q. sym c.if-not-few_free.true ∙ c.few_free.ensures D h q)

pub returns : goal.returns
returns c =
    let limits : Limits = own c.args.limits.numbers c.args.limits.clauses in
    let held : roomy limits (parts_state c.args.self) ≡ true = sym c.has_room.ensures ∙ c.if-not-has_room.false in
    let low : limits_are_ok limits ≡ true = sym c.limits_ok.ensures ∙ c.if-not-limits_ok.false in
    checked_rows c.args.limits.numbers c.args.limits.clauses (parts_state c.args.self) held (c.read_prefix.ensures limits refl) low c.if-not-read_prefix.false
    (λ D h q. sym c.if-not-few_free.false ∙ c.few_free.ensures D h q)
    c.all_ok.ensures
