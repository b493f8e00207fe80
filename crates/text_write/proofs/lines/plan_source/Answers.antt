-- Each part by its call. Assumes nothing.
use Rattle.text_write.proofs.PastLaws.{first-links}
use Rattle.text_write.proofs.lines.plan_source.Goals as goal

pub past_labels-first-requires : goal.past_labels-first-requires
past_labels-first-requires c = c.requires.0

pub find-links-requires : goal.find-links-requires
find-links-requires c = c.past_labels-first.ensures

pub source_in-source-requires : goal.source_in-source-requires
source_in-source-requires c = (c.requires.0, c.past_labels-first.ensures)

pub returns : goal.returns
returns c = record {
  only = c.requires.1;
  linked = first-links c.args.ws.now c.find-links.result c.find-links.ensures;
  wide = c.column_widths-widths.ensures;
  source = c.source_in-source.ensures;
}
