use Rattle.text_words.proofs.WordLaws.{entries_none, entries_uncounted, entries-all, entries-bad}
use Rattle.text_words.proofs.entries_at.Goals as goal

pub returns-in_default : goal.returns-in_default
returns-in_default c = entries_none _ _ c.in_default.ensures

pub returns-in_default-next_row : goal.returns-in_default-next_row
returns-in_default-next_row c = entries_uncounted _ _ _ _ _ c.in-Some.ensures c.in_default-next_row.ensures

pub returns-in-Some-pass_entries : goal.returns-in-Some-pass_entries
returns-in-Some-pass_entries c =
    entries-all _ _ _ _ _ c.in-Some.ensures _ _ _ c.in-Some-next_row.ensures c.count_of-n.result c.count_of-n.ensures c.in-Some-pass_entries.ensures.read

pub returns-in-None : goal.returns-in-None
returns-in-None c =
    entries-bad _ _ _ _ _ c.in-Some.ensures _ _ _ c.in-Some-next_row.ensures c.count_of-n.result c.count_of-n.ensures c.in-None.ensures
