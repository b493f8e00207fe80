use Rattle.binary_write.proofs.HeaderLaws.{writes_binary}
use Rattle.binary_write.proofs.write_binary.Goals as goal

pub returns : goal.returns
returns c =
    writes_binary _ _ _ _ c.file_header-front.ensures c.write_file.ensures
