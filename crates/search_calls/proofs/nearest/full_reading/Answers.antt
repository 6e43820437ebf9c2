-- `search_calls::nearest::full_reading` meets its contract.
use native.Mathlib.Omega.{arith}
use mathlib.Core.Path.{refl}
use Rattle.reading.proofs.Querying.{read_refused}
use Rattle.asking.proofs.Asking.{read_ready}
use Rattle.search_calls.proofs.Full.{fault_named, fault_open, full_as}
use Rattle.search_calls.proofs.nearest.full_reading.Goals as goal

pub returns-in_default : goal.returns-in_default
returns-in_default c = let k = c.args.checked in
    fault_named _ (read_refused c.read.result (c.read.ensures _ _ (read_ready _ _ _ k.accepted k.few_numbers k.few_clauses c.free-free.ensures.0 k.placed c.clear.ensures c.requires)) c.in_default.not-Ok) refl c.args.given.now

pub returns-then-not-full : goal.returns-then-not-full
returns-then-not-full c = let k = c.args.checked in
    fault_open _ (c.in-Ok.ensures _ _ (read_ready _ _ _ k.accepted k.few_numbers k.few_clauses c.free-free.ensures.0 k.placed c.clear.ensures c.requires)) refl c.if-not-full.true c.args.given.now

pub returns : goal.returns
returns c = let k = c.args.checked in
    full_as k (c.in-Ok.ensures _ _ (read_ready _ _ _ k.accepted k.few_numbers k.few_clauses c.free-free.ensures.0 k.placed c.clear.ensures c.requires)) refl c.if-not-full.false c.free-free.ensures.0 c.free-free.ensures.1
    (omega (arith, c.free-free.ensures.1)) c.by_place.ensures
