use Rattle.binary_words.proofs.ApartLaws.{ends_by}
use Rattle.binary_words.proofs.ends_before.Goals as goal

pub returns : goal.returns
returns c =
    let a = c.args in
    ends_by a.s.now a.q a.p c.body_length.result c.u64_at-a.result c.u64_at-b.result c.body_length.ensures c.u64_at-a.ensures c.u64_at-b.ensures c.if-b-a.false
