-- Refusals and their reasons as text.
use Rattle.std.specs.Prelude.{ℕ, List, ◌++◌, codes, decimal}
use Rattle.program.specs.declared.refusal.Reason.{Reason}
use Rattle.program.specs.declared.refusal.Reason.TheVariants.{NoHeader, BadHeader, BadLength, BadField, BadBracket, TooDeep, NoRoomForCode, NotASource, SecretRepeat, SecretIndex, PublicStore, TooManySteps, NoRoomForResult, NoRoomForImage, AlreadySeated, MemoryTooSmall, NoneSeated, NoSuchTable, IndexTooLarge, NoFreeMarks, NoSuchRegister, SecretTable, NoRoomForVisits, NoOutcome, OutsideTable, NoRoomForMarks}
use Rattle.program.specs.declared.refusal.Refusal.{Refusal}
use Rattle.program.specs.Refusals.{number_of}

-- a reason in words
abbrev pub reason_text : Reason → List ℕ
reason_text NoHeader = codes "the image is shorter than a header"
reason_text BadHeader = codes "a header value is out of range, or a byte that must be zero is not"
reason_text BadLength = codes "the image is not as long as its header says"
reason_text BadField = codes "an op is unknown, or a field is out of range or must be zero"
reason_text BadBracket = codes "a bracket has no partner"
reason_text TooDeep = codes "more than eight openings are open together"
reason_text NoRoomForCode = codes "the instruction list is shorter than the program"
reason_text NotASource = codes "the program is not a source"
reason_text SecretRepeat = codes "a repeat is by a secret register"
reason_text SecretIndex = codes "an index is secret, and the memory does not hide it"
reason_text PublicStore = codes "a store into a public table is masked, or its value or index is secret"
reason_text TooManySteps = codes "the most steps are above 1,000,000"
reason_text NoRoomForResult = codes "the list is shorter than the result"
reason_text NoRoomForImage = codes "the byte list is shorter than the image"
reason_text AlreadySeated = codes "a program is seated already"
reason_text MemoryTooSmall = codes "the memory is smaller than the tables"
reason_text NoneSeated = codes "no program is seated"
reason_text NoSuchTable = codes "the program has no such table"
reason_text IndexTooLarge = codes "the index is not below the length of the table"
reason_text NoFreeMarks = codes "more marks may be left than are free"
reason_text NoSuchRegister = codes "no entry register has that number"
reason_text SecretTable = codes "the table is secret"
reason_text NoRoomForVisits = codes "the visit list is shorter than the most steps"
reason_text NoOutcome = codes "no go has been accepted yet"
reason_text OutsideTable = codes "the access lies outside its table or the memory"
reason_text NoRoomForMarks = codes "the access shows more marks than the seen list has room for"

-- a refusal by its number and place
abbrev pub refusal_text : Refusal → List ℕ
refusal_text e = codes "refused " ++ (decimal (number_of e.reason) ++ (codes " at " ++ decimal e.place))
