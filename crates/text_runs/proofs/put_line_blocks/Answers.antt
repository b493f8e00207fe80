use Rattle.text_runs.proofs.put_line_blocks.Goals as goal

pub returns : goal.returns
returns c = c.put_runs.ensures
