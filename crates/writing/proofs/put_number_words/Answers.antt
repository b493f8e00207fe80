-- The words are those of the quotients. Assumes nothing.
use Rattle.format.specs.Digits.{digits_of}
use Rattle.format.specs.Words.{number_words}
use Rattle.writing.proofs.put_number_words.Goals as goal

pub returns : goal.returns
unfolding digits_of number_words
returns c = c.put_all.ensures
