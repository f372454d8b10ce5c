-- What a stack holds, the top first.
use Rattle.std.specs.Prelude.{List}
use Rattle.stack.specs.declared.Stack.{Stack}
use Rattle.stack.specs.Items.{items}

abbrev pub held : {X : Type 0} → Stack X → List X
held s = items s.cells s.depth
