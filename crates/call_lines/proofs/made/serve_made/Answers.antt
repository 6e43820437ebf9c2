-- `serve_made` meets its contract.
use native.Mathlib.Omega.{arith}
use Rattle.layout.specs.Session.{call_of}
use Rattle.call_lines.proofs.Calls.{small_call}
use Rattle.call_lines.proofs.Shares.{read_under_limit, read_ceiling, turned_alone}
use Rattle.call_lines.proofs.made.serve_made.Goals as goal

pub serve_call-called-requires : goal.serve_call-called-requires
serve_call-called-requires c = small_call c.args.made.bytes.now c.args.made.read.ceiling c.args.made.read.line c.args.made.lits.now c.requires

pub returns-clause-shared : goal.returns-clause-shared
returns-clause-shared c =
    let o = call_of c.args.made.bytes.now in
    c.told_under.ensures.shared c.args.cells.now c.args.literals.now o c.args.under.at.shown c.args.cards.now _ _ _
    (read_ceiling c.args.made.read.ceiling o c.args.made.read.line c.args.made.lits.now c.requires)
    (c.serve_call-called.ensures.called _ (read_under_limit c.args.under.share c.args.made.read.ceiling c.limit.ensures o c.args.made.read.line c.args.made.lits.now c.requires))

pub returns-clause-alone : goal.returns-clause-alone
returns-clause-alone c = λ h.
    let o = call_of c.args.made.bytes.now in
    turned_alone c.args.under.share c.args.made.read.ceiling o
    (read_ceiling c.args.made.read.ceiling o c.args.made.read.line c.args.made.lits.now c.requires)
    (omega (arith, h, c.ranges.made))
    (c.serve_call-called.ensures.called _ (read_under_limit c.args.under.share c.args.made.read.ceiling c.limit.ensures o c.args.made.read.line c.args.made.lits.now c.requires))
    (c.told_under.ensures.alone (omega (arith, h))).0
    (c.told_under.ensures.alone (omega (arith, h))).1
