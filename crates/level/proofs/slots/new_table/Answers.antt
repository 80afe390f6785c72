use Rattle.level.proofs.Tabled.{table_fresh}
use Rattle.level.proofs.slots.new_table.Goals as goal

pub returns-clause-fresh : goal.returns-clause-fresh
returns-clause-fresh c = table_fresh
