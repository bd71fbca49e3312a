use Rattle.std.proofs.Common.{◌≡◌, ◌<◌, ℕ, is_some, refl, sym, ap, ◌∙◌, arith}
use Rattle.std.specs.Prelude.{not}
use Rattle.session_desk.specs.Anchors.{follower_of}
use Rattle.session_desk.proofs.Anchors.{kept-other, kept-own, kept-root}
use Rattle.session_desk.proofs.walk.is_kept.Goals as goal

pub loop-at-init : goal.loop-at-init
loop-at-init c = record { exists = c.requires; same = refl }

pub loop-at-preserved : goal.loop-at-preserved
loop-at-preserved c =
    let s = c.args.session.now in
    let at = c.loop-at.at in
    let i = c.loop-at.invariant in
    let pos : 0 < at = omega (arith, c.loop-at-test.true) in
    let own = sym c.is_own-own.ensures ∙ c.if-not-own.false in
    record {
      exists = omega (arith, c.parent_of-before.ensures.earlier pos, i.exists);
      same = ap (λ (q : ℕ). not (is_some (follower_of s q))) c.parent_of-before.ensures.value ∙ kept-own s at c.parent_of-before.ensures.session pos i.exists own ∙ i.same;
    }

pub loop-at-smaller : goal.loop-at-smaller
loop-at-smaller c =
    let pos : 0 < c.loop-at.at = omega (arith, c.loop-at-test.true) in
    omega (arith, c.parent_of-before.ensures.earlier pos)

pub returns-then-not-own : goal.returns-then-not-own
returns-then-not-own c =
    let s = c.args.session.now in
    let at = c.loop-at.at in
    let i = c.loop-at.invariant in
    let pos : 0 < at = omega (arith, c.loop-at-test.true) in
    let foreign = sym c.is_own-own.ensures ∙ c.if-not-own.true in
    sym (sym i.same ∙ kept-other s at c.parent_of-before.ensures.session pos i.exists foreign)

pub returns : goal.returns
returns c =
    let s = c.args.session.now in
    c.is_own.ensures ∙ kept-root s ∙ ap (λ (q : ℕ). not (is_some (follower_of s q))) (sym c.loop-at-test.false) ∙ c.loop-at.invariant.same
