use Rattle.std.proofs.Common.{◌∙◌, refl, sym}
use Rattle.session_desk.proofs.acts.act_of_kind.Goals as goal

pub returns-then-is_kind : goal.returns-then-is_kind
returns-then-is_kind c = rw (sym c.is_kind.ensures ∙ c.if-is_kind.true) c.fork_in.ensures

pub returns-then-is_kind-2 : goal.returns-then-is_kind-2
returns-then-is_kind-2 c = rw (sym c.is_kind.ensures ∙ c.if-is_kind.false, sym c.is_kind-else-is_kind.ensures ∙ c.if-is_kind-2.true) refl

pub returns-then-is_kind-3 : goal.returns-then-is_kind-3
returns-then-is_kind-3 c =
    rw (
      sym c.is_kind.ensures ∙ c.if-is_kind.false,
      sym c.is_kind-else-is_kind.ensures ∙ c.if-is_kind-2.false,
      sym c.is_kind-else-is_kind-2.ensures ∙ c.if-is_kind-3.true,
    ) c.edit_in.ensures

pub returns-then-is_kind-4 : goal.returns-then-is_kind-4
returns-then-is_kind-4 c =
    rw (
      sym c.is_kind.ensures ∙ c.if-is_kind.false,
      sym c.is_kind-else-is_kind.ensures ∙ c.if-is_kind-2.false,
      sym c.is_kind-else-is_kind-2.ensures ∙ c.if-is_kind-3.false,
      sym c.is_kind-else-is_kind-3.ensures ∙ c.if-is_kind-4.true,
    ) c.rewind_in.ensures

pub returns-then-is_kind-5 : goal.returns-then-is_kind-5
returns-then-is_kind-5 c =
    rw (
      sym c.is_kind.ensures ∙ c.if-is_kind.false,
      sym c.is_kind-else-is_kind.ensures ∙ c.if-is_kind-2.false,
      sym c.is_kind-else-is_kind-2.ensures ∙ c.if-is_kind-3.false,
      sym c.is_kind-else-is_kind-3.ensures ∙ c.if-is_kind-4.false,
      sym c.is_kind-else-is_kind-4.ensures ∙ c.if-is_kind-5.true,
    ) c.close_in.ensures

pub returns-then-is_kind-6 : goal.returns-then-is_kind-6
returns-then-is_kind-6 c =
    rw (
      sym c.is_kind.ensures ∙ c.if-is_kind.false,
      sym c.is_kind-else-is_kind.ensures ∙ c.if-is_kind-2.false,
      sym c.is_kind-else-is_kind-2.ensures ∙ c.if-is_kind-3.false,
      sym c.is_kind-else-is_kind-3.ensures ∙ c.if-is_kind-4.false,
      sym c.is_kind-else-is_kind-4.ensures ∙ c.if-is_kind-5.false,
      sym c.is_kind-else-is_kind-5.ensures ∙ c.if-is_kind-6.true,
    ) c.values_in.ensures

pub returns-else-is_kind-6 : goal.returns-else-is_kind-6
returns-else-is_kind-6 c =
    rw (
      sym c.is_kind.ensures ∙ c.if-is_kind.false,
      sym c.is_kind-else-is_kind.ensures ∙ c.if-is_kind-2.false,
      sym c.is_kind-else-is_kind-2.ensures ∙ c.if-is_kind-3.false,
      sym c.is_kind-else-is_kind-3.ensures ∙ c.if-is_kind-4.false,
      sym c.is_kind-else-is_kind-4.ensures ∙ c.if-is_kind-5.false,
      sym c.is_kind-else-is_kind-5.ensures ∙ c.if-is_kind-6.false,
    ) refl
