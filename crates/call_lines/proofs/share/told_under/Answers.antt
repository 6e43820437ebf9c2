-- `told_under` meets its contract.
use Prim.Native.Nat.{ℕ}
use native.Mathlib.Omega.{arith}
use mathlib.Core.Path.{subst}
use Rattle.layout.specs.Session.{search_refusal_text}
use Rattle.writer.specs.Wrote.{Wrote}
use Rattle.call_lines.proofs.Shares.{told_stopped, told_running, told_within}
use Rattle.call_lines.proofs.share.told_under.Goals as goal

pub returns-then-share-own-clause-shared : goal.returns-then-share-own-clause-shared
returns-then-share-own-clause-shared c = λ cells literals o s₀ t₀ cells' literals' t h w.
    told_stopped c.args.share c.args.own o h c.if-stopped.true (omega (arith, c.if-share-own.true)) w
    (subst (λ (k : ℕ). Wrote c.args.out.now.bytes.now 0 (search_refusal_text k c.args.line c.args.called.visits) c.put_search_refusal-length.new.out.bytes.now c.put_search_refusal-length.result) c.number.ensures c.put_search_refusal-length.ensures.wrote)

pub returns-else-share-own-clause-shared : goal.returns-else-share-own-clause-shared
returns-else-share-own-clause-shared c = λ cells literals o s₀ t₀ cells' literals' t h w. told_within c.args.share c.args.own o h (omega (arith, c.if-share-own.false)) w

pub returns-else-stopped-clause-shared : goal.returns-else-stopped-clause-shared
returns-else-stopped-clause-shared c = λ cells literals o s₀ t₀ cells' literals' t h w. told_running c.args.share c.args.own o c.if-stopped.false w
