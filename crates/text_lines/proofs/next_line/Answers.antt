use native.Mathlib.Omega.{arith}
use Rattle.text_lines.proofs.LineLaws.{line-done, line-last, line_lf, line_crlf}
use Rattle.text_lines.proofs.next_line.Goals as goal
use Rattle.text_lines.proofs.next_line.Goals.{then-at-e+else-s-e-eq-CR, else-at-e}

pub returns-then-s-at : goal.returns-then-s-at
returns-then-s-at c = line-done _ _ c.if-s-at.true

pub returns-then-e-s : goal.returns-then-e-s
returns-then-e-s c = line-last _ _ _ c.line_end-e.ensures.0 c.line_end-e.ensures.2 c.if-s-at.false c.if-e-s.true

pub returns-then-s-e-eq-CR : goal.returns-then-s-e-eq-CR
returns-then-s-e-eq-CR c = line_crlf _ _ _ c.line_end-e.ensures.0 c.line_end-e.ensures.2 c.if-at-e.true (omega (arith, c.line_end-e.ensures.1)) c.if-s-e-eq-CR.true

pub returns : goal.returns
returns c = line_lf _ _ _ c.line_end-e.ensures.0 c.line_end-e.ensures.2 (omega (arith, c.line_end-e.ensures.1)) (elim c.if-at-e.branch [ then-at-e+else-s-e-eq-CR w ↦ λ h q. w.if-s-e-eq-CR.false q | else-at-e w ↦ λ h q. absurd (omega arith) ])
