use Rattle.connections.proofs.TableLaws.{no_places}
use Rattle.connections.proofs.table.Connections.new.Goals as goal

pub returns : goal.returns
returns c = no_places 64
