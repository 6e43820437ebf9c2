-- `reading::read`: the numbers on marked, then those off, then whether all free variables are.
use mathlib.Core.Path.{refl}
use Rattle.std.proofs.lemmas.Result.{err_from_is_err_and}
use Rattle.reading.proofs.Querying.{refused_on, refused_off, query_read}
use Rattle.reading.proofs.read.Goals as goal

pub returns-in_err-mark_all : goal.returns-in_err-mark_all
returns-in_err-mark_all c = λ L D r. let p = err_from_is_err_and c.from_residual.result c.from_residual.ensures.1 in rw (p.1, p.2) (c.in_err-mark_all.ensures.0, refused_on L D c.args.flags.free c.args.flags.numbers.now c.args.flags.places.now c.args.values.now r c.args.on.now c.args.off.now c.in_err-mark_all.ensures.1 refl)

pub returns-in_err-mark_all-2 : goal.returns-in_err-mark_all-2
returns-in_err-mark_all-2 c = λ L D r. let p = err_from_is_err_and c.from_residual-in_err-mark_all-2.result c.from_residual-in_err-mark_all-2.ensures.1 in rw (p.1, p.2) (c.in_err-mark_all-2.ensures.0, refused_off L D c.args.flags.free c.args.flags.numbers.now c.args.flags.places.now c.args.values.now r c.args.on.now c.args.off.now c.in_ok-mark_all.ensures refl c.in_err-mark_all-2.ensures.1 refl)

pub returns : goal.returns
returns c = λ L D r. query_read L D c.args.flags.free c.args.flags.numbers.now c.args.flags.places.now c.args.values.now r c.args.on.now c.args.off.now c.in_ok-mark_all.ensures refl c.in_ok-mark_all-2.ensures refl c.is_full-full.ensures
