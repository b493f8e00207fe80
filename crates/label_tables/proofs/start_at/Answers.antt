use Rattle.label_tables.proofs.RowLaws.{start_none}
use Rattle.label_tables.proofs.start_at.Goals as goal

pub returns-then-ws-p : goal.returns-then-ws-p
returns-then-ws-p c = start_none _ _ c.if-ws-p.true
