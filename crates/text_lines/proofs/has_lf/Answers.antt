-- Where none is, the bytes are of the line; where one is, the line ends before. Assumes nothing.
use native.Mathlib.Omega.{arith}
use Rattle.text_lines.proofs.LineLaws.{line-past, line-within, block_lacks, block_holds}
use Rattle.text_lines.proofs.has_lf.Goals as goal

pub returns : goal.returns
returns c =
    let a = c.args in
    let s = a.s.now in (
      λ e. line-past s a.at a.n c.requires (block_lacks 0x0A s a.at a.n c.requires (c.has_byte.ensures.0 e)),
      λ e.
          let h = block_holds 0x0A s a.at a.n c.requires (c.has_byte.ensures.1 e) in
          omega (arith, h.1, line-within s a.at h.0 (omega (arith, h.1, c.requires)) h.2),
    )
