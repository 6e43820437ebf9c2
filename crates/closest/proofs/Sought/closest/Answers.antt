-- `closest::Sought::closest` meets its contract. The given values are written, and over them the line's.
use Prim.Native.Nat.{ℕ}
use mathlib.Core.Path.{sym, ap, ap₂, ◌∙◌}
use mathlib.Core.List.{List, map, ◌++◌}
use Rattle.qbf.specs.Card.{byte_of}
use mathlib.Core.Option.{Option}
use lib.ListN.{length, drop}
use Rattle.qbf.specs.Closest.{Found, nearest}
use Rattle.closest.specs.Table.{values_in, line_in, answer_of, reading_after}
use Rattle.closest.proofs.Bytes.{nearest_written}
use Rattle.closest.proofs.Search.{no_line, all_lines_lem}
use Rattle.closest.proofs.Sought.closest.Goals as goal

pub returns-then-self-eq0-clause-value : goal.returns-then-self-eq0-clause-value
returns-then-self-eq0-clause-value c = let s = c.args.self in
    sym (ap answer_of (no_line (length s.given.now) s.lines s.table.now (values_in s.given.now) c.if-self-eq0.true))

pub returns-then-self-eq0-clause-reading_after : goal.returns-then-self-eq0-clause-reading_after
returns-then-self-eq0-clause-reading_after c = let s = c.args.self in
    sym (ap (λ (o : Option Found). reading_after o c.args.reading.now) (no_line (length s.given.now) s.lines s.table.now (values_in s.given.now) c.if-self-eq0.true))

pub returns-clause-reading_after : goal.returns-clause-reading_after
returns-clause-reading_after c =
    let s = c.args.self in
    let f = length s.given.now in
    let row = c.row-row.result.now in
    let e = all_lines_lem f s.lines s.table.now (values_in s.given.now) c.best-best.result.line c.best-best.result.number c.best-best.ensures in
    c.show.ensures
    ∙ ap (λ (l : List ℕ). map byte_of (values_in l)) (ap₂ (λ (x y : List ℕ). x ++ drop c.set_flags-set.result y) c.copy_from_slice-2.ensures.after c.copy_from_slice.ensures.after)
    ∙ ap (map byte_of) (nearest_written row s.given.now c.set_flags-set.result c.set_flags-set.ensures.0)
    ∙ ap (λ (r : List ℕ). map byte_of (nearest (line_in r) (values_in s.given.now))) c.row-row.ensures.0
    ∙ sym (ap (λ (o : Option Found). reading_after o c.args.reading.now) e)
