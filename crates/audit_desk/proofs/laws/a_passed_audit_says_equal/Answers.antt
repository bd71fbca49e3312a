use Rattle.audit_desk.specs.Audited.{audit_of}
use Rattle.audit_desk.proofs.Agreeing.{all-agree, none-fails}
use Rattle.audit_desk.proofs.laws.a_passed_audit_says_equal.Goals as goal

pub returns : goal.returns
unfolding audit_of
returns c = record { passed = λ b h. all-agree b.stocks 0 b.branches h; agrees = λ b a. none-fails b.stocks 0 b.branches a }
