use Rattle.flat.proofs.Flat.into_cells.Goals as goal

pub returns : goal.returns
returns c = c.truncate.ensures.items
