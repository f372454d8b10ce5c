-- What each operation that may change a memory leaves.
use Rattle.memory.specs.Description.{Description, cleared}
use Rattle.memory.specs.Accesses.{read_after, write_after}
use Rattle.piles.specs.declared.operations.Operation.{Operation}
use Rattle.piles.specs.declared.operations.Operation.TheVariants.{Read, Write, Clear}

abbrev pub leaves : Operation → Description → Description
leaves (Read table off) d = read_after d table.first table.length off
leaves (Write table off word) d = write_after d table.first table.length off word
leaves Clear d = cleared d
