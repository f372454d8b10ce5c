-- What comes of a case where something that it gives cannot be read.
use Rattle.hexadecimal.specs.declared.DecodeError.{DecodeError}
use Rattle.hexadecimal.specs.declared.DecodeError.TheVariants.{NotHexadecimal, OutOfMemory as NoMemoryToDecode}
use Rattle.makes.specs.declared.words.WordsError.{WordsError}
use Rattle.makes.specs.declared.words.WordsError.TheVariants.{Unreadable as UnreadableWords, OutOfMemory as NoMemoryForWords}
use Rattle.cases.specs.declared.case_error.CaseError.{CaseError}
use Rattle.cases.specs.declared.case_error.CaseError.TheVariants.{Unreadable, OutOfMemory}

abbrev pub without_image : DecodeError → CaseError
without_image NotHexadecimal = Unreadable
without_image (NoMemoryToDecode full) = OutOfMemory full

abbrev pub without_words : WordsError → CaseError
without_words UnreadableWords = Unreadable
without_words (NoMemoryForWords full) = OutOfMemory full
