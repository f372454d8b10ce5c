-- Why there is no make or there are no words, as text.
use Rattle.std.specs.Prelude.{ℕ, List, codes}
use Rattle.makes.specs.declared.named.Unnamed.{Unnamed}
use Rattle.makes.specs.declared.named.Unnamed.TheVariants.{Unreadable as UnreadableName, TooManyLayers}
use Rattle.makes.specs.declared.words.WordsError.{WordsError}
use Rattle.makes.specs.declared.words.WordsError.TheVariants.{Unreadable, OutOfMemory}

abbrev pub words_error_text : WordsError → List ℕ
words_error_text Unreadable = codes "words that cannot be read"
words_error_text (OutOfMemory full) = codes "out of memory"

abbrev pub unnamed_text : Unnamed → List ℕ
unnamed_text UnreadableName = codes "a memory that cannot be read"
unnamed_text TooManyLayers = codes "a pile of more than four layers"
