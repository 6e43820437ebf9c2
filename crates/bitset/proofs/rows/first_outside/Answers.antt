-- No number of the words before is outside.
use Rattle.std.proofs.Common.{rules, ◌≡◌, ◌∙◌, ◌≤◌, sym, ap₂, arith, length}
use borrow.Author.Tests.{tests}
use mathlib.Core.Logic.{⊎_elim, inl, inr}
use Rattle.bitset.specs.Words.{rest}
use Rattle.bitset.proofs.Outside.{passed_more, passed_all, first_is}
use Rattle.bitset.proofs.Passing.{there, word_is, rest_is, all_passed}
use Rattle.bitset.proofs.rows.first_outside.Goals as goal

pub loop-k-init : goal.loop-k-init
loop-k-init c =
    let z : c.into_iter-k-iterator.result.count ≡ 0 = cc in
    rw z (cc, cc, λ i h. absurd (omega (arith, h)))

pub returns-then-found : goal.returns-then-found
returns-then-found c =
    let s = c.in-Some.ensures.steps in
    let a = sym s.0.0 ∙ c.loop-k.invariant.0 in
    let b = sym s.0.1 ∙ c.loop-k.invariant.1 in
    let word = c.rest-w.ensures ∙ ap₂ rest (word_is c.args.a.now c.loop-k.k-iterator.count _ _ a) (word_is c.args.b.now c.loop-k.k-iterator.count _ _ b) in
    rw s.1
    (first_is c.args.a.now c.args.b.now (λ k. (c.type_inv.a k).fits) (λ k. (c.type_inv.b k).fits) c.loop-k.k-iterator.count c.rest-w.result c.loop-k.invariant.2 word (search (rules, tests))
    (length c.args.a.now) (there c.args.a.now c.loop-k.k-iterator.count _ _ a))

pub loop-k-preserved : goal.loop-k-preserved
loop-k-preserved c =
    let s = c.in-Some.ensures.steps in
    let a = sym s.0.0 ∙ c.loop-k.invariant.0 in
    let b = sym s.0.1 ∙ c.loop-k.invariant.1 in
    let word = c.rest-w.ensures ∙ ap₂ rest (word_is c.args.a.now c.loop-k.k-iterator.count _ _ a) (word_is c.args.b.now c.loop-k.k-iterator.count _ _ b) in
    rw s.2 (
      rest_is c.args.a.now c.loop-k.k-iterator.count _ _ a,
      rest_is c.args.b.now c.loop-k.k-iterator.count _ _ b,
      passed_more c.args.a.now c.args.b.now (λ k. (c.type_inv.a k).fits) (λ k. (c.type_inv.b k).fits) c.loop-k.k-iterator.count c.rest-w.result c.loop-k.invariant.2 word (search (rules, tests)),
    )

pub returns : goal.returns
returns c =
    let end : length c.args.a.now ≤ c.loop-k.k-iterator.count =
    all_passed c.args.a.now c.args.b.now c.loop-k.k-iterator.count c.requires.0 c.loop-k.invariant.0 c.loop-k.invariant.1
    (⊎_elim (λ x. inl x.1.0) (λ x. inr x.1.0) c.in-None.ensures.steps.0) in
    passed_all c.args.a.now c.args.b.now (λ k. (c.type_inv.a k).fits) (λ k. (c.type_inv.b k).fits) (length c.args.a.now)
    (λ i h. c.loop-k.invariant.2 i (omega (arith, h, end)))
