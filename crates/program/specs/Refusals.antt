-- The number of each reason, and refusals.
use Rattle.std.specs.Prelude.{ℕ, Bool, cond, Some, None, Ok, Err, Option, Result}
use Rattle.program.specs.declared.refusal.Reason.{Reason}
use Rattle.program.specs.declared.refusal.Reason.TheVariants.{NoHeader, BadHeader, BadLength, BadField, BadBracket, TooDeep, NoRoomForCode, NotASource, SecretRepeat, SecretIndex, PublicStore, TooManySteps, NoRoomForResult, NoRoomForImage, AlreadySeated, MemoryTooSmall, NoneSeated, NoSuchTable, IndexTooLarge, NoFreeMarks, NoSuchRegister, SecretTable, NoRoomForVisits, NoOutcome, OutsideTable, NoRoomForMarks}
use Rattle.program.specs.declared.refusal.Refusal.{Refusal}

abbrev pub number_of : Reason → ℕ
number_of NoHeader = 1
number_of BadHeader = 3
number_of BadLength = 4
number_of BadField = 5
number_of BadBracket = 6
number_of TooDeep = 7
number_of NoRoomForCode = 8
number_of NotASource = 10
number_of SecretRepeat = 11
number_of SecretIndex = 12
number_of PublicStore = 13
number_of TooManySteps = 14
number_of NoRoomForResult = 15
number_of NoRoomForImage = 16
number_of AlreadySeated = 20
number_of MemoryTooSmall = 21
number_of NoneSeated = 22
number_of NoSuchTable = 23
number_of IndexTooLarge = 24
number_of NoFreeMarks = 25
number_of NoSuchRegister = 26
number_of SecretTable = 27
number_of NoRoomForVisits = 28
number_of NoOutcome = 29
number_of OutsideTable = 30
number_of NoRoomForMarks = 31

abbrev pub refusal : Reason → ℕ → Refusal
refusal why p = record { reason = why; place = p }

-- refused at place p where a test fails
abbrev pub unless : Bool → Reason → ℕ → Option Refusal
unless good why p = cond good None (Some (refusal why p))

-- the first of two that refuses
abbrev pub or_else : Option Refusal → Option Refusal → Option Refusal
or_else None later = later
or_else (Some e) later = Some e

-- what a call refused, if it did
abbrev pub refused_by : {X : Type 0} → Result X Refusal → Option Refusal
refused_by (Ok x) = None
refused_by (Err e) = Some e
