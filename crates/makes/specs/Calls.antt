-- What each call to a memory answers, and what it leaves.
use Rattle.std.specs.Prelude.{ℕ, length, Ok, Err, Result}
use Rattle.std.specs.List.{slice_get}
use Rattle.program.specs.declared.refusal.Refusal.{Refusal}
use Rattle.memory.specs.Description.{Description, free, cleared}
use Rattle.memory.specs.Accesses.{read_answer, read_after, write_answer, write_after}
use Rattle.makes.specs.declared.call.Answer.{Answer}
use Rattle.makes.specs.declared.call.Answer.TheVariants.{Word, Number, Flag, Seen, Done, Refused}
use Rattle.makes.specs.declared.call.Call.{Call}
use Rattle.makes.specs.declared.call.Call.TheVariants.{Read, Write, Cost, Free, Size, Hides, Marks, Mark, Clear}

abbrev pub word_or : Result ℕ Refusal → Answer
word_or (Ok word) = Word word
word_or (Err refusal) = Refused refusal

abbrev pub done_or : Result (Unit {0}) Refusal → Answer
done_or (Ok done) = Done
done_or (Err refusal) = Refused refusal

abbrev pub answers : Call → Description → Answer
answers (Read table off) d = word_or (read_answer d table.first table.length off)
answers (Write table off word) d = done_or (write_answer d table.first table.length off)
answers (Cost access len) d = Number (d.rules.cost access len)
answers Free d = Number (free d)
answers Size d = Number (length d.cells)
answers Hides d = Flag d.rules.hides
answers Marks d = Number (length d.seen)
answers (Mark j) d = Seen (slice_get d.seen j)
answers Clear d = Done

-- only reads, writes and clearing change anything
abbrev pub leaves : Call → Description → Description
leaves (Read table off) d = read_after d table.first table.length off
leaves (Write table off word) d = write_after d table.first table.length off word
leaves (Cost access len) d = d
leaves Free d = d
leaves Size d = d
leaves Hides d = d
leaves Marks d = d
leaves (Mark j) d = d
leaves Clear d = cleared d
